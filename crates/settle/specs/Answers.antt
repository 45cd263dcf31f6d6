-- How an answer is shown in the key, and whether it is counted as granted.
use Rattle.std.specs.Prelude.{ℕ, Bool, true, false, List, ◌++◌, codes, ℤ}
use Rattle.std.specs.Fmt.{signed_decimal}
use Rattle.std.specs.List.{flat_map}
use Rattle.faults.specs.Texts.{refusal_text}
use Rattle.settle.specs.declared.answer.Answer.{Answer}
use Rattle.settle.specs.declared.answer.Answer.TheVariants.{Shares, Refused, NoMonth}

-- a blank, and a share as the digits that write it
abbrev pub share_text : ℤ → List ℕ
share_text share = codes " " ++ signed_decimal share

abbrev pub answer_text : Answer → List ℕ
answer_text (Shares shares) = codes "shares" ++ flat_map share_text shares.now
answer_text (Refused refusal) = codes "refused " ++ refusal_text refusal
answer_text NoMonth = codes "no month is open"

-- whether an answer counts as granted
abbrev pub is_granted : Answer → Bool
is_granted (Shares shares) = true
is_granted (Refused refusal) = false
is_granted NoMonth = false
