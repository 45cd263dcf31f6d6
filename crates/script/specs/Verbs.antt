-- The names that a script can use: of commands, of share rules and of paths.
use Rattle.std.specs.Prelude.{ℕ, cond, List, Some, None, codes, Option}
use Rattle.std.specs.Str.{bytes_eq}
use Rattle.ledger.specs.declared.path.Path.{Path}
use Rattle.ledger.specs.declared.path.Path.TheVariants.{System, Adjustment}
use Rattle.shares.specs.declared.named_rule.NamedRule.{NamedRule}
use Rattle.shares.specs.declared.named_rule.NamedRule.TheVariants.{Nearest, LargestRemainder, RunningCarry}
use Rattle.script.specs.declared.verb.Verb.{Verb}
use Rattle.script.specs.declared.verb.Verb.TheVariants.{Open, Post, Meter, Adjust, Allocate, Strike, Allot, Withdraw, Share}
use Rattle.script.specs.declared.verb.Verb.TheVariants.{Subtotal, Interval, Code, Group, Parent, Settlement, Month, Balance}

-- the calls on a month
abbrev pub month_verb : List ℕ → Option Verb
month_verb w =
    cond (bytes_eq w (codes "post")) (Some Post)
    (cond (bytes_eq w (codes "meter")) (Some Meter)
    (cond (bytes_eq w (codes "adjust")) (Some Adjust)
    (cond (bytes_eq w (codes "allocate")) (Some Allocate)
    (cond (bytes_eq w (codes "strike")) (Some Strike)
    (cond (bytes_eq w (codes "allot")) (Some Allot)
    (cond (bytes_eq w (codes "withdraw")) (Some Withdraw) None))))))

-- the questions to a month
abbrev pub question_verb : List ℕ → Option Verb
question_verb w =
    cond (bytes_eq w (codes "subtotal")) (Some Subtotal)
    (cond (bytes_eq w (codes "interval")) (Some Interval)
    (cond (bytes_eq w (codes "code")) (Some Code)
    (cond (bytes_eq w (codes "group")) (Some Group)
    (cond (bytes_eq w (codes "parent")) (Some Parent)
    (cond (bytes_eq w (codes "settlement")) (Some Settlement)
    (cond (bytes_eq w (codes "month")) (Some Month)
    (cond (bytes_eq w (codes "balance")) (Some Balance) None)))))))

abbrev pub or_else : {X : Type 0} → Option X → Option X → Option X
or_else None y = y
or_else (Some x) y = Some x

-- all commands
abbrev pub verb : List ℕ → Option Verb
verb w =
    cond (bytes_eq w (codes "open")) (Some Open)
    (cond (bytes_eq w (codes "share")) (Some Share) (or_else (month_verb w) (question_verb w)))

abbrev pub rule_named : List ℕ → Option NamedRule
rule_named w =
    cond (bytes_eq w (codes "nearest")) (Some Nearest)
    (cond (bytes_eq w (codes "largest-remainder")) (Some LargestRemainder)
    (cond (bytes_eq w (codes "running-carry")) (Some RunningCarry) None))

abbrev pub path_named : List ℕ → Option Path
path_named w =
    cond (bytes_eq w (codes "system")) (Some System) (cond (bytes_eq w (codes "adjustment")) (Some Adjustment) None)
