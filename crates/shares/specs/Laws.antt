-- What every share rule keeps, and what an exact one keeps besides.
use Rattle.std.specs.Prelude.{◌≡◌, ℕ, ◌<◌, ◌≤◌, ◌⊎◌, List, length, take, ℤ, pos, ◌-ℤ◌, ◌*ℤ◌, ◌≤ℤ◌, ◌<ℤ◌, None, Decides, unsigned_abs}
use Rattle.shares.specs.Weights.{
  Split,
  weight_limit,
  amount_limit,
  at,
  total,
  NoneBelowZero,
  SomeBelowZero,
  weights_outside,
}
use Rattle.shares.specs.Faults.{refusal, shared}

-- a rule answers here, given places enough
pub record Answers (a : ℤ) (w : List ℤ) : Type 0 where
  pub none_below_zero : NoneBelowZero w
  pub within_weight_limit : total w ≤ℤ pos weight_limit
  pub within_amount_limit : unsigned_abs a ≤ amount_limit
  pub some_weight_or_nothing_to_share : (pos 0 <ℤ total w) ⊎ (a ≡ pos 0)

-- how far a share s is from the exact part a × x ÷ W, in W-ths of a cent
abbrev pub off : ℤ → ℤ → ℤ → ℤ → ℕ
off W a x s = unsigned_abs (W *ℤ s -ℤ a *ℤ x)

-- a share is less than a cent from the exact part
abbrev pub Near : ℤ → ℤ → ℤ → ℤ → Type 0
Near W a x s = pos (off W a x s) <ℤ W

-- the shares s of the amount a by the weights w are lawful
pub record Lawful (a : ℤ) (w s : List ℤ) : Type 0 where
  pub one_each : length s ≡ length w
  pub near : pos 0 <ℤ total w → (i : ℕ) → i < length w → Near (total w) a (at w i) (at s i)
  pub no_weight_no_share : pos 0 <ℤ total w → (i : ℕ) → i < length w → at w i ≡ pos 0 → at s i ≡ pos 0
  pub all_zero : total w ≡ pos 0 → a ≡ pos 0 → (i : ℕ) → i < length w → at s i ≡ pos 0

-- a rule's shares are lawful wherever it answers
abbrev pub Fair : Split → Type 0
Fair split = (a : ℤ) (w : List ℤ) → Answers a w → Lawful a w (split a w)

-- an exact rule's shares add up to the amount wherever it answers and there is some weight
abbrev pub Exact : Split → Type 0
Exact split = (a : ℤ) (w : List ℤ) → Answers a w → pos 0 <ℤ total w → total (split a w) ≡ a

-- what a call that is granted leaves in the places, by any rule
pub record SharedOut (a : ℤ) (w places : List ℤ) : Type 0 where
  pub answers : Answers a w
  pub lawful : Lawful a w (take (length w) places)
  pub no_larger : (i : ℕ) → i < length w → unsigned_abs (at places i) ≤ unsigned_abs a

-- What the laws say of the places: any fair rule leaves lawful shares there, none larger than the amount,
-- and with some weight those of an exact one add up to the amount.
pub record FillsLawfully : Type 0 where
  pub fair : (split : Split) (a : ℤ) (w places : List ℤ) → Fair split → refusal a w (length places) ≡ None
      → SharedOut a w (shared split a w places)
  pub exact : (split : Split) (a : ℤ) (w places : List ℤ) → Fair split → Exact split
      → refusal a w (length places) ≡ None → pos 0 <ℤ total w
      → total (take (length w) (shared split a w places)) ≡ a

-- What the refusals say: weights are refused just where one is below 0 or the total is above the limit,
-- and a rule grants just where it answers and has places enough.
pub record RefusesRightly : Type 0 where
  pub weights : (w : List ℤ) → Decides (weights_outside w) (SomeBelowZero w ⊎ (pos weight_limit <ℤ total w))
  pub granted : (a : ℤ) (w : List ℤ) (n : ℕ) → refusal a w n ≡ None → Answers a w × (length w ≤ n)
  pub grants : (a : ℤ) (w : List ℤ) (n : ℕ) → Answers a w → length w ≤ n → refusal a w n ≡ None
