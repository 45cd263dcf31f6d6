-- Sums: what a kind's laws give of amounts that are joined over a list.
use Rattle.std.proofs.Common.{◌≡◌, ℕ, ◌+◌, ◌<◌, List, [], ◌∷◌, ◌++◌, length, get_or, take, sym, refl, ap, ◌∙◌}
use Rattle.std.proofs.lemmas.List.{take_more}
use Rattle.ledger.specs.Amounts.{Kind, Laws}
use Rattle.ledger.specs.Totals.{sum}

module _ {X : Type 0} {kind : Kind X} (laws : Laws kind) where
  pub nought_right : (x : X) → kind.joined x kind.nought ≡ x
  nought_right x = laws.swap x kind.nought ∙ laws.left x

  pub joined_across : (a b c d : X) → kind.joined (kind.joined a b) (kind.joined c d) ≡ kind.joined (kind.joined a c) (kind.joined b d)
  joined_across a b c d =
      laws.assoc a b (kind.joined c d)
      ∙ ap (kind.joined a) (sym (laws.assoc b c d) ∙ ap (λ y. kind.joined y d) (laws.swap b c) ∙ laws.assoc c b d)
      ∙ sym (laws.assoc a c (kind.joined b d))

  pub sum_same : {Y : Type 0} (f g : Y → X) → ((y : Y) → f y ≡ g y) → (ys : List Y) → sum kind f ys ≡ sum kind g ys
  unfolding sum
  sum_same f g h [] = refl
  sum_same f g h (y ∷ ys) = ap (λ x. kind.joined x (sum kind f ys)) (h y) ∙ ap (kind.joined (g y)) (sum_same f g h ys)

  pub sum_nought : {Y : Type 0} (ys : List Y) → sum kind (λ (_ : Y). kind.nought) ys ≡ kind.nought
  unfolding sum
  sum_nought [] = refl
  sum_nought (y ∷ ys) = laws.left _ ∙ sum_nought ys

  pub sum_joined : {Y : Type 0} (f g : Y → X) (ys : List Y) → sum kind (λ y. kind.joined (f y) (g y)) ys ≡ kind.joined (sum kind f ys) (sum kind g ys)
  unfolding sum
  sum_joined f g [] = sym (laws.left kind.nought)
  sum_joined f g (y ∷ ys) = ap (kind.joined (kind.joined (f y) (g y))) (sum_joined f g ys) ∙ joined_across (f y) (g y) (sum kind f ys) (sum kind g ys)

  pub sum_append : {Y : Type 0} (f : Y → X) (ys zs : List Y) → sum kind f (ys ++ zs) ≡ kind.joined (sum kind f ys) (sum kind f zs)
  unfolding sum
  sum_append f [] zs = sym (laws.left (sum kind f zs))
  sum_append f (y ∷ ys) zs = ap (kind.joined (f y)) (sum_append f ys zs) ∙ sym (laws.assoc (f y) (sum kind f ys) (sum kind f zs))

  pub sum_one : {Y : Type 0} (f : Y → X) (y : Y) → sum kind f (y ∷ []) ≡ f y
  unfolding sum
  sum_one f y = nought_right (f y)

  pub sum_push : {Y : Type 0} (f : Y → X) (ys : List Y) (y : Y) → sum kind f (ys ++ (y ∷ [])) ≡ kind.joined (sum kind f ys) (f y)
  sum_push f ys y = sum_append f ys (y ∷ []) ∙ ap (kind.joined (sum kind f ys)) (sum_one f y)

  -- a loop's step
  pub sum_more : {Y : Type 0} (f : Y → X) (ys : List Y) (i : ℕ) (y : Y) → i < length ys → y ≡ get_or ys i y → sum kind f (take (i + 1) ys) ≡ kind.joined (sum kind f (take i ys)) (f y)
  sum_more f ys i y h e =
      ap (sum kind f) (take_more ys i y h) ∙ sum_push f (take i ys) (get_or ys i y) ∙ ap (λ z. kind.joined (sum kind f (take i ys)) (f z)) (sym e)

  -- rows first or columns first
  pub sum_exchange : {Y Z : Type 0} (f : Y → Z → X) (ys : List Y) (zs : List Z) → sum kind (λ y. sum kind (f y) zs) ys ≡ sum kind (λ z. sum kind (λ y. f y z) ys) zs
  unfolding sum
  sum_exchange f [] zs = sym (sum_nought zs)
  sum_exchange f (y ∷ ys) zs = ap (kind.joined (sum kind (f y) zs)) (sum_exchange f ys zs) ∙ sym (sum_joined (f y) (λ z. sum kind (λ y. f y z) ys) zs)
