-- Lines: what entered amounts mean at a key.
use Rattle.std.specs.Prelude.{Bool, cond, List}
use Rattle.ledger.specs.Amounts.{Kind}
use Rattle.faults.specs.Keys.{key_of, same}
use Rattle.ledger.specs.Totals.{sum}
use Rattle.faults.specs.declared.key.Key.{Key}
use Rattle.ledger.specs.declared.line.Line.{Line}

-- a line that says nothing
abbrev pub blank : {X : Type 0} → Kind X → Line X
blank kind = record { key = key_of 0 0 0 0; amount = kind.nought }

-- what a line counts for: nought where no line may hold its amount
abbrev pub counted : {X : Type 0} → Kind X → X → X
counted kind x = cond (kind.allowed x) x kind.nought

-- what a line puts where its key passes a test
abbrev pub put : {X : Type 0} → Kind X → (Key → Bool) → Line X → X
put kind test l = cond (test l.key) (counted kind l.amount) kind.nought

-- what entries with such keys add up to
abbrev pub sum_where : {X E : Type 0} → Kind X → (E → Line X) → (Key → Bool) → List E → X
sum_where kind line test es = sum kind (λ e. put kind test (line e)) es

-- what entries mean at a key
abbrev pub amount_of : {X E : Type 0} → Kind X → (E → Line X) → List E → Key → X
amount_of kind line es q = sum_where kind line (λ k. same k q) es
