-- However the granted questions of a level are listed, their totals add up to the whole: of them, one for each path covers a key.
use Rattle.std.proofs.Common.{◌≡◌, Bool, true, cond, ◌&&◌, List, Some, None, Option, sym, ap, ◌∙◌}
use Rattle.std.proofs.ByRecursion.{All-weaker}
use Rattle.ledger.specs.Kinds.{cents}
use Rattle.ledger.specs.Lawful.{cents_laws}
use Rattle.ledger.specs.Layers.{Layer, layered, own, path_amount}
use Rattle.ledger.specs.Totals.{sum}
use Rattle.ledger.specs.declared.cents.Cents.{Cents}
use Rattle.faults.specs.declared.key.Key.{Key}
use Rattle.ledger.specs.declared.path.Path.{Path}
use Rattle.ledger.specs.declared.path.Path.TheVariants.{System, Adjustment}
use Rattle.ledger.proofs.Sums.{nought_right, sum_exchange, sum_joined, sum_same}
use Rattle.levels.specs.Levels.{Every, Level, level_of, whole}
use Rattle.levels.specs.Questions.{path_asked, question_refusal, scope_asked, total}
use Rattle.levels.specs.Scopes.{amounts_by, covers, total_over}
use Rattle.levels.specs.Terms.{Terms, holds, keys}
use Rattle.levels.specs.declared.question.Question.{Question}
use Rattle.levels.proofs.Asked.{asked, asked_covers, asked_granted, asked_level, asked_only, on_path}
use Rattle.levels.proofs.Held.{Held, held}
use Rattle.levels.proofs.OverScopes.{join_when, whole_alike}
use Rattle.levels.proofs.Sums.{sum_hit}

-- what a question has of a key, path by path
by_paths : (v : Layer) (k : Key) (path : Option Path) (b : Bool) → cond b (amounts_by path v k) cents.nought ≡ cents.joined (cond (on_path System path && b) (path_amount System v k) cents.nought) (cond (on_path Adjustment path && b) (path_amount Adjustment v k) cents.nought)
by_paths v k None b = join_when b (v.below.amount k) (own v k)
by_paths v k (Some System) b = sym (nought_right cents_laws _)
by_paths v k (Some Adjustment) b = sym (cents_laws.left _)

joins_same : {a b c d : Cents} → a ≡ b → c ≡ d → cents.joined a c ≡ cents.joined b d
joins_same p q = cc

module _ (t : Terms) (level : Level) (v : Layer) (qs : List Question) (every : Every t level qs) where
  -- of the level's questions, one covers a key by a path
  path_once : {k : Key} → Held t k → (path : Path) → sum cents (λ q. cond (on_path path (path_asked q) && covers t (scope_asked q) k) (path_amount path v k) cents.nought) qs ≡ path_amount path v k
  path_once {k} h path =
      let test : Question → Bool = λ q. on_path path (path_asked q) && covers t (scope_asked q) k in
      sum_hit cents_laws test (path_amount path v k) (asked h path level) qs every.once
      (every.each (asked h path level) (asked_level h path level) (asked_granted h path level))
      (asked_covers h path level)
      (All-weaker (λ q. (level_of q ≡ level) × (question_refusal t q ≡ None)) (λ q. test q ≡ true → asked h path level ≡ q) (λ q g e. ap (asked h path) (sym g.0) ∙ asked_only h path q e) qs every.granted)

  key_once : (k : Key) → holds t k ≡ true → sum cents (λ q. cond (covers t (scope_asked q) k) (amounts_by (path_asked q) v k) cents.nought) qs ≡ (layered v).amount k
  key_once k holding =
      let h = held t k holding in
      sum_same cents_laws _ _ (λ q. by_paths v k (path_asked q) (covers t (scope_asked q) k)) qs
      ∙ sum_joined cents_laws _ _ qs
      ∙ joins_same (path_once h System) (path_once h Adjustment)

  pub totals_add_up : sum cents (total t v) qs ≡ whole t (layered v).amount
  unfolding total_over
  totals_add_up =
      sum_exchange cents_laws (λ q k. cond (covers t (scope_asked q) k) (amounts_by (path_asked q) v k) cents.nought) qs (keys t)
      ∙ whole_alike t _ _ key_once
