-- Pass-through adjustments: a layer over a book of money.
use Rattle.std.specs.Prelude.{◌≡◌, ℕ, ◌+◌, ◌-◌, min, Bool, cond, ◌||◌, List, [], ◌∷◌, ◌++◌, length, take, Option, nat_le}
use Rattle.std.specs.List.{list_any}
use Rattle.std.proofs.Common.{arith}
use Rattle.std.proofs.lemmas.List.{length-take}
use Rattle.ledger.specs.Amounts.{most_lines}
use Rattle.ledger.specs.Books.{Meaning, Limited, Posted, Unchanged, line_refusals}
use Rattle.faults.specs.Faults.{first_met}
use Rattle.faults.specs.declared.layer.Layer.{Layer as Tier}
use Rattle.faults.specs.declared.layer.Layer.TheVariants as tier
use Rattle.faults.specs.Keys.{same}
use Rattle.ledger.specs.Kinds.{cents}
use Rattle.ledger.specs.Lines.{amount_of}
use Rattle.ledger.specs.declared.adjustment.Adjustment.{Adjustment}
use Rattle.ledger.specs.declared.adjustments.Adjustments.{Adjustments}
use Rattle.ledger.specs.declared.book.Book.{Ghosts}
use Rattle.ledger.specs.declared.cents.Cents.{Cents}
use Rattle.faults.specs.declared.key.Key.{Key}
use Rattle.ledger.specs.declared.line.Line.{Line}
use Rattle.ledger.specs.declared.path.Path.{Path}
use Rattle.ledger.specs.declared.path.Path.TheVariants.{System, Adjustment as Own}
use Rattle.faults.specs.declared.refusal.Refusal.{Refusal}

-- no layer holds more adjustments than this
abbrev pub most_adjustments : ℕ
most_adjustments = 256

-- an adjustment is entered as a line
abbrev pub adjusted_line : Adjustment → Line Cents
adjusted_line a = record { key = a.key; amount = a.amount }

-- what a layer is: the meaning of the book below, and the adjustments held, in the order of their grant
pub record Layer : Type 0 where
  pub below : Meaning Cents
  pub held : List Adjustment

-- what an adjustments layer over a book stands for: of those held, no more count than the limit on lines leaves
abbrev pub layer : {B F : Type 0} → Ghosts B Cents F → Adjustments B → Layer
layer book s = record {
  below = book.means s.below;
  held = take (most_lines - (book.means s.below).lines) s.held.items;
}

-- a layer that holds nothing yet
abbrev pub bare : Meaning Cents → Layer
bare m = record { below = m; held = [] }

-- the layer's own amounts
abbrev pub own : Layer → Key → Cents
own v = amount_of cents adjusted_line v.held

-- its lines: those below and its adjustments
abbrev pub layer_lines : Layer → ℕ
layer_lines v = v.below.lines + length v.held

-- what the layer means as a book; at the limit on lines it turns posts down itself
abbrev pub layered : Layer → Meaning Cents
layered v = record {
  amount = λ q. cents.joined (v.below.amount q) (own v q);
  lines = layer_lines v;
  free = min v.below.free (most_lines - layer_lines v);
  layer = cond {A = Tier} (nat_le most_lines (layer_lines v)) tier.Adjustments v.below.layer;
}

-- the amounts that came by a path
abbrev pub path_amount : Path → Layer → Key → Cents
path_amount System v = v.below.amount
path_amount Own v = own v

-- and the lines that they came by
abbrev pub path_lines : Path → Layer → ℕ
path_lines System v = v.below.lines
path_lines Own v = length v.held

-- whether a key has an adjustment, even of 0
abbrev pub adjusted_at : List Adjustment → Key → Bool
adjusted_at held k = list_any (λ a. same a.key k) held

-- no adjustment fits where all places are held, or at the limit on lines
abbrev pub full : Layer → Bool
full v = nat_le most_adjustments (length v.held) || nat_le most_lines (layer_lines v)

-- why an adjustment is refused, always by this layer
abbrev pub adjust_refusal : Layer → Key → Cents → Option Refusal
adjust_refusal v k x = first_met tier.Adjustments k (line_refusals cents k x (full v))

-- a layer with one adjustment more, held last
abbrev pub holding : Layer → Adjustment → Layer
holding v a = record { below = v.below; held = v.held ++ (a ∷ []) }

-- a granted adjustment is held last, under the next ID, and nothing changes below
pub record Adjusted (before : Layer) (k : Key) (x : Cents) (number : ℕ) (after : Layer) : Type 0 where
  pub numbered : number ≡ length before.held + 1
  pub holds : after ≡ holding before (record { key = k; amount = x; id = number })

-- a granted post is taken by the book below, and the adjustments stay
pub record PostedBelow (before : Layer) (k : Key) (x : Cents) (after : Layer) : Type 0 where
  pub takes : Posted cents before.below k x after.below
  pub as_held : after.held ≡ before.held

-- a refusal changes nothing, here or below
pub record Untouched (before after : Layer) : Type 0 where
  pub stays : Unchanged before.below after.below
  pub as_held : after.held ≡ before.held

-- lines and free lines are together no more than any book may have
pub layer_limited : {B F : Type 0} (book : Ghosts B Cents F) (s : Adjustments B) → Limited (layered (layer book s))
layer_limited book s =
    omega (arith, book.limited s.below, length-take (most_lines - (book.means s.below).lines) s.held.items)
