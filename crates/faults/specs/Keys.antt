-- Keys: where amounts stand.
use Rattle.std.specs.Prelude.{◌≡◌, ℕ, Bool, false, ◌&&◌, List, [], ◌∷◌, ◌==◌, nat_le}
use Rattle.std.specs.List.{AllByRecursion}
use Rattle.faults.specs.declared.key.Key.{Key}

abbrev pub key_of : ℕ → ℕ → ℕ → ℕ → Key
key_of c p d i = record { code = c; participant = p; page = d; interval = i }

-- the place of what names no part of a key
abbrev pub nowhere : Key
nowhere = key_of 0 0 0 0

-- whether two keys are the same
abbrev pub same : Key → Key → Bool
same p q =
    (p.code == q.code) && (p.participant == q.participant && (p.page == q.page && p.interval == q.interval))

-- participants are numbered 1 to 32
abbrev pub known : ℕ → Bool
known participant = nat_le 1 participant && nat_le participant 32

-- keys of which no two are the same
abbrev pub distinct : List Key → Type 0
distinct [] = Unit {0}
distinct (q ∷ qs) = AllByRecursion (λ p. same q p ≡ false) qs × distinct qs
