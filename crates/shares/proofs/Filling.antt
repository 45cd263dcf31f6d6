-- What every rule's code goes by: what it knows once it is admitted, and places that are filled one after another.
use Rattle.std.proofs.Common.{◌≡◌, int_lt, ℕ, ◌+◌, ◌-◌, ◌<◌, ◌≤◌, List, [], ◌∷◌, ◌++◌, length, take, drop, set, ℤ, pos, nat_abs, ◌<ℤ◌, None, Ok, sym, ap, ◌∙◌, ⊎_elim, arith, w64, SFits, to_z, of_z}
use Rattle.std.proofs.lemmas.List.{append_assoc, append-nil, drop_all, drop_more, get_or-append_right, get_or-drop, length-take-le, set_at, take_all, take_more}
use Rattle.std.proofs.lemmas.Int.{ints, to_z-of_z}
use Rattle.shares.specs.declared.division.Division.{Division}
use Rattle.shares.specs.Faults.{refusal, share_answer, shared}
use Rattle.shares.specs.Sizes.{Sizing, part, signed, shares_by}
use Rattle.shares.specs.Weights.{at, total}
use Rattle.shares.specs.Workings.{Admission, Divides}
use Rattle.shares.specs.Sharing.{length_shares_by, at_shares_by}
use Rattle.shares.proofs.Verdicts.{granted}

-- what is known once a rule is admitted to share a by w into n places by the division d
pub record Admitted (a : ℤ) (w : List ℤ) (n : ℕ) (d : Division) : Type 0 where
  pub none_refused : refusal a w n ≡ None
  pub amount_is : d.amount ≡ a
  pub divides : Divides d w
  pub room : length w ≤ n

pub admitted : (a : ℤ) (w : List ℤ) (n : ℕ) (d : Division) → SFits w64 a → Admission (to_z w64 (of_z w64 a)) w n (Ok d) → Admitted a w n d
admitted a w n d f e =
    let k : Admission a w n (Ok d) = simp to_z-of_z at e in
    let g = granted a w n k.0 in
    record {
      none_refused = k.0;
      amount_is = k.1;
      divides = record {
        none_below_zero = g.0.none_below_zero;
        by_total = k.2;
        some_weight = λ z. ap nat_abs k.1 ∙ ⊎_elim (λ (h : pos 0 <ℤ total w). absurd (omega (arith, ints))) (ap nat_abs) g.0.some_weight_or_nothing_to_share;
      };
      room = g.1;
    }

-- the size of the weight at hand
pub part_at : (w : List ℤ) (i x : ℕ) → SFits w64 (at w i) → x ≡ nat_abs (to_z w64 (of_z w64 (at w i))) → x ≡ part w i
part_at w i x f e = e ∙ ap nat_abs (to_z-of_z w64 (at w i) f)

-- the places once the first i hold their shares of a
abbrev pub filled_to : Sizing → ℤ → List ℤ → List ℤ → ℕ → List ℤ
filled_to size a w places i = take i (shares_by size a w) ++ drop i places

-- a list whose first i elements are those of another, one element on
pub fill_more : (new old : List ℤ) (i : ℕ) (x : ℤ) → i < length new → i < length old → x ≡ at new i → set (take i new ++ drop i old) i x ≡ take (i + 1) new ++ drop (i + 1) old
fill_more new old i x l m e =
    ap (λ ys. set (take i new ++ ys) i x) (drop_more old i (pos 0) m)
    ∙ set_at (take i new) (at old i) (drop (i + 1) old) x i (length-take-le i new (omega arith))
    ∙ ap (λ y. take i new ++ y ∷ drop (i + 1) old) e
    ∙ sym (append_assoc (take i new) (at new i ∷ []) (drop (i + 1) old))
    ∙ ap (λ ys. ys ++ drop (i + 1) old) (sym (take_more new i (pos 0) l))

pub filled_up : (new old : List ℤ) (i : ℕ) → length new ≤ i → length old ≤ i → take i new ++ drop i old ≡ new
filled_up new old i l m = ap (λ s. s ++ drop i old) (take_all i new l) ∙ ap (λ s. new ++ s) (drop_all i old m) ∙ append-nil new

-- the next place still holds what it did
pub unfilled_at : (size : Sizing) (a : ℤ) (w old now : List ℤ) (i : ℕ) → i < length w → now ≡ filled_to size a w old i → at now i ≡ at old i
unfilled_at size a w old now i l was =
    let long = length_shares_by size a w in
    let front : length (take i (shares_by size a w)) ≡ i = length-take-le i (shares_by size a w) (omega arith) in
    ap (λ s. at s i) was
    ∙ get_or-append_right (take i (shares_by size a w)) (drop i old) i i (pos 0) front (omega arith)
    ∙ get_or-drop i old (i - i) (pos 0)
    ∙ ap (at old) (omega arith)

-- one place more: x is the share of the size n
pub filled_more : (size : Sizing) (a : ℤ) (w old now : List ℤ) (i n : ℕ) (x : ℤ) → i < length w → length w ≤ length old → now ≡ filled_to size a w old i → SFits w64 x → x ≡ signed (int_lt a (pos 0)) n → n ≡ size (nat_abs a) w i → set now i (to_z w64 (of_z w64 x)) ≡ filled_to size a w old (i + 1)
filled_more size a w old now i n x l m was f e s =
    let share : to_z w64 (of_z w64 x) ≡ at (shares_by size a w) i =
    to_z-of_z w64 x f ∙ e ∙ ap (signed (int_lt a (pos 0))) s ∙ sym (at_shares_by size a w i l) in
    let long = length_shares_by size a w in
    ap (λ s. set s i (to_z w64 (of_z w64 x))) was ∙ fill_more (shares_by size a w) old i _ (omega arith) (omega arith) share

-- the shares, and the later places as they were: the rule has answered
pub shared_from : (size : Sizing) (a : ℤ) (w old new : List ℤ) (d : Division) (n : ℕ) → Admitted a w (length old) d → n ≡ length w → new ≡ shares_by size d.amount w → new ++ drop n old ≡ shared (shares_by size) a w old
shared_from size a w old new d n m e s =
    ap (λ xs. xs ++ drop n old) (s ∙ ap (λ b. shares_by size b w) m.amount_is)
    ∙ ap (λ k. shares_by size a w ++ drop k old) (e ∙ sym (length_shares_by size a w))
    ∙ simp m.none_refused

pub filled_all : (size : Sizing) (a : ℤ) (w old now : List ℤ) (d : Division) (i : ℕ) → Admitted a w (length old) d → i ≡ length w → now ≡ filled_to size d.amount w old i → now ≡ shared (shares_by size) a w old
filled_all size a w old now d i m e was =
    was ∙ shared_from size a w old (take i (shares_by size d.amount w)) d i m e (take_all i (shares_by size d.amount w) (omega (arith, length_shares_by size d.amount w)))

pub answered_all : (a : ℤ) (w old : List ℤ) (d : Division) → Admitted a w (length old) d → Ok tt ≡ share_answer a w old
answered_all a w old d m = simp m.none_refused
