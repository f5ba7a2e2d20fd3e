-- Clauses that are counted for some lines, and for others behind them.
use Rattle.std.specs.Prelude.{ℕ, ◌≡◌, ◌+◌, ◌<◌, List, [], ◌∷◌, ◌++◌, length, get_or, drop, Option}
use Rattle.std.proofs.Common.{refl, sym, ap, ◌∙◌}
use Rattle.ktree.specs.View.{with_item, items_of}
use Rattle.ktree.specs.declared.place.Place.{Place}
use Rattle.ktree.specs.declared.statement.Item.{Item}
use Rattle.ktree.proofs.Trees.{next_item}
use Rattle.semantics.specs.Tree.{Items}
use Rattle.pragma_named.specs.Known.{Lines}
use Rattle.pragma_region.specs.Listed.{line_of}
use Rattle.pragma_region.specs.Counted.{Enclosed, lines_within, enclosed_among, with_enclosing, counted}

pub counted_append : (es fs : Enclosed) (lines : Lines) → counted (es ++ fs) lines ≡ counted fs (counted es lines)
counted_append [] fs lines = refl
counted_append (e ∷ es) fs lines = counted_append es fs (with_enclosing e.0 e.1 lines)

-- one after the other
pub counted_both : (es fs : Enclosed) (before middle after : Lines) → middle ≡ counted es before → after ≡ counted fs middle → after ≡ counted (es ++ fs) before
counted_both es fs before middle after first second = second ∙ ap (counted fs) first ∙ sym (counted_append es fs before)

-- and what is still to be counted
pub counted_front : (es fs : Enclosed) (before after : Lines) → after ≡ counted es before → counted fs after ≡ counted (es ++ fs) before
counted_front es fs before after first = ap (counted fs) first ∙ sym (counted_append es fs before)

-- one item more of a `parallel` block
pub within_more : (items : List Item) (i : ℕ) (item : Item) (region : ℕ) (before after : Lines) (all : Lines) → i < length items → item ≡ get_or items i item
    → ((rest : Items) → counted (lines_within region rest) after ≡ counted (lines_within region (with_item item rest)) before)
    → counted (lines_within region (items_of (drop i items))) before ≡ all → counted (lines_within region (items_of (drop (i + 1) items))) after ≡ all
within_more items i item region before after all lt is counts was =
    counts (items_of (drop (i + 1) items)) ∙ ap (λ r. counted (lines_within region r) before) (sym (next_item items i item lt is)) ∙ was

-- and of any other block
pub counted_more : (text : List ℕ) (items : List Item) (i : ℕ) (item : Item) (line next : Option Place) (before after : Lines) (all : Lines) → i < length items → item ≡ get_or items i item
    → ((rest : Items) → counted (enclosed_among text (line_of next) rest) after ≡ counted (enclosed_among text (line_of line) (with_item item rest)) before)
    → counted (enclosed_among text (line_of line) (items_of (drop i items))) before ≡ all → counted (enclosed_among text (line_of next) (items_of (drop (i + 1) items))) after ≡ all
counted_more text items i item line next before after all lt is counts was =
    counts (items_of (drop (i + 1) items)) ∙ ap (λ r. counted (enclosed_among text (line_of line) r) before) (sym (next_item items i item lt is)) ∙ was
