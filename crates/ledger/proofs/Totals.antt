-- Totals: of amounts that are alike, joined or posted to, and of lines.
use Rattle.std.proofs.Common.{◌≡◌, ℕ, ◌≤◌, Bool, true, false, cond, ◌&&◌, eqb, List, [], ◌∷◌, sym, refl, ap, ◌∙◌}
use Rattle.std.proofs.lemmas.Bool.{cond-false, and_right}
use Rattle.ledger.specs.Amounts.{Kind, Laws}
use Rattle.ledger.specs.Books.{posted}
use Rattle.faults.specs.Keys.{key_of, same}
use Rattle.ledger.specs.Lines.{put, counted, sum_where, amount_of}
use Rattle.ledger.specs.Totals.{span, sum, members, has, extent, total, covers}
use Rattle.faults.specs.declared.key.Key.{Key}
use Rattle.ledger.specs.declared.extent.Extent.{Extent}
use Rattle.ledger.specs.declared.line.Line.{Line}
use Rattle.ledger.specs.declared.span.Span.{Span}
use Rattle.ledger.proofs.Spans.{upto, past, sum_at, sum_picked, sum_split}
use Rattle.ledger.proofs.Sums.{nought_right, sum_same, sum_nought, sum_joined, sum_exchange}

module _ {X : Type 0} {kind : Kind X} (laws : Laws kind) where
  -- nothing stands where one condition fails
  none : (a : X) (b : Bool) → b ≡ false → cond b a kind.nought ≡ kind.nought
  none a b e = cond-false b a kind.nought e

  as_join : (b : Bool) (f x : X) → cond b (kind.joined f x) f ≡ kind.joined f (cond b x kind.nought)
  as_join true f x = refl
  as_join false f x = sym (nought_right laws f)

  module _ (w : Extent) where
    pub total_alike : (f g : Key → X) → ((q : Key) → f q ≡ g q) → total kind f w ≡ total kind g w
    unfolding total
    total_alike f g h =
        sum_same laws _ _ (λ p. sum_same laws _ _ (λ d. sum_same laws _ _ (λ i. h (key_of w.code p d i)) (members w.intervals)) (members w.pages)) (members w.participants)

    pub total_nought : total kind (λ (_ : Key). kind.nought) w ≡ kind.nought
    unfolding total
    total_nought =
        sum_same laws _ _ (λ p. sum_same laws _ _ (λ d. sum_nought laws (members w.intervals)) (members w.pages) ∙ sum_nought laws (members w.pages)) (members w.participants)
        ∙ sum_nought laws (members w.participants)

    pub total_joined : (f g : Key → X) → total kind (λ q. kind.joined (f q) (g q)) w ≡ kind.joined (total kind f w) (total kind g w)
    unfolding total
    total_joined f g =
        sum_same laws _ _ (λ p.
        sum_same laws _ _ (λ d. sum_joined laws _ _ (members w.intervals)) (members w.pages)
        ∙ sum_joined laws _ _ (members w.pages)) (members w.participants)
        ∙ sum_joined laws _ _ (members w.participants)

    -- an amount at one key
    pub total_at_key : (k : Key) (a : X) → total kind (λ q. cond (same k q) a kind.nought) w ≡ cond (covers w k) a kind.nought
    unfolding total
    total_at_key k a =
        let c = eqb k.code w.code in
        let wanted : Bool → X = λ t. cond t a kind.nought in
        sum_same laws _ _ (λ p.
        let u = eqb k.participant p in
        sum_same laws _ _ (λ d.
        let g = eqb k.page d in
        sum_picked laws w.intervals k.interval (λ t. wanted (c && (u && (g && t)))) (none a _ (and_right c _ (and_right u _ (and_right g false refl))))) (members w.pages)
        ∙ sum_picked laws w.pages k.page (λ t. wanted (c && (u && (t && has w.intervals k.interval)))) (none a _ (and_right c _ (and_right u false refl)))) (members w.participants)
        ∙ sum_picked laws w.participants k.participant (λ t. wanted (c && (t && (has w.pages k.page && has w.intervals k.interval)))) (none a _ (and_right c false refl))

    -- a post changes a total by its amount, where its key is covered
    pub total_posted : (f : Key → X) (k : Key) (x : X) → total kind (posted kind f k x) w ≡ kind.joined (total kind f w) (cond (covers w k) x kind.nought)
    total_posted f k x =
        total_alike (posted kind f k x) (λ q. kind.joined (f q) (cond (same k q) x kind.nought)) (λ q. as_join (same k q) (f q) x)
        ∙ total_joined f (λ q. cond (same k q) x kind.nought)
        ∙ ap (kind.joined (total kind f w)) (total_at_key k x)

    -- what a question finds line by line is the total of what the lines mean
    pub total_of_lines : {E : Type 0} (line : E → Line X) (es : List E) → sum_where kind line (covers w) es ≡ total kind (amount_of kind line es) w
    unfolding sum
    total_of_lines line [] = sym total_nought
    total_of_lines line (e ∷ es) =
        ap (λ y. kind.joined y (sum_where kind line (covers w) es)) (sym (total_at_key (line e).key (counted kind (line e).amount)))
        ∙ ap (kind.joined (total kind (λ q. put kind (λ k. same k q) (line e)) w)) (total_of_lines line es)
        ∙ sym (total_joined (λ q. put kind (λ k. same k q) (line e)) (amount_of kind line es))

  module _ (f : Key → X) (code : ℕ) where
    -- a span cut in two
    pub total_split_participants : (participants pages intervals : Span) (m : ℕ) → participants.first ≤ m → m ≤ participants.last → total kind f (extent code participants pages intervals) ≡ kind.joined (total kind f (extent code (upto participants m) pages intervals)) (total kind f (extent code (past participants m) pages intervals))
    unfolding total
    total_split_participants participants pages intervals m low high = sum_split laws _ participants m low high

    pub total_split_pages : (participants pages intervals : Span) (m : ℕ) → pages.first ≤ m → m ≤ pages.last → total kind f (extent code participants pages intervals) ≡ kind.joined (total kind f (extent code participants (upto pages m) intervals)) (total kind f (extent code participants (past pages m) intervals))
    unfolding total
    total_split_pages participants pages intervals m low high =
        sum_same laws _ _ (λ p. sum_split laws _ pages m low high) (members participants)
        ∙ sum_joined laws _ _ (members participants)

    pub total_split_intervals : (participants pages intervals : Span) (m : ℕ) → intervals.first ≤ m → m ≤ intervals.last → total kind f (extent code participants pages intervals) ≡ kind.joined (total kind f (extent code participants pages (upto intervals m))) (total kind f (extent code participants pages (past intervals m)))
    unfolding total
    total_split_intervals participants pages intervals m low high =
        sum_same laws _ _ (λ p. sum_same laws _ _ (λ d. sum_split laws _ intervals m low high) (members pages) ∙ sum_joined laws _ _ (members pages)) (members participants)
        ∙ sum_joined laws _ _ (members participants)

  module _ (f : Key → X) (code : ℕ) (participants pages intervals : Span) where
    -- a total is the sum of the totals of each participant, of each page, of each interval
    pub total_by_participant : total kind f (extent code participants pages intervals) ≡ sum kind (λ p. total kind f (extent code (span p p) pages intervals)) (members participants)
    unfolding total
    total_by_participant = sum_same laws _ _ (λ p. sym (sum_at laws _ p)) (members participants)

    pub total_by_page : total kind f (extent code participants pages intervals) ≡ sum kind (λ d. total kind f (extent code participants (span d d) intervals)) (members pages)
    unfolding total
    total_by_page =
        sum_exchange laws _ (members participants) (members pages)
        ∙ sum_same laws _ _ (λ d. sum_same laws _ _ (λ p. sym (sum_at laws _ d)) (members participants)) (members pages)

    pub total_by_interval : total kind f (extent code participants pages intervals) ≡ sum kind (λ i. total kind f (extent code participants pages (span i i))) (members intervals)
    unfolding total
    total_by_interval =
        sum_same laws _ _ (λ p. sum_exchange laws _ (members pages) (members intervals)) (members participants)
        ∙ sum_exchange laws _ (members participants) (members intervals)
        ∙ sum_same laws _ _ (λ i. sum_same laws _ _ (λ p. sum_same laws _ _ (λ d. sym (sum_at laws _ i)) (members pages)) (members participants)) (members intervals)
