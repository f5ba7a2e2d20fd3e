-- The items of a block, as a list.
use Rattle.std.proofs.Common.{◌≡◌, ℕ, List, Vec, Global, refl, sym, ap, ◌∙◌, subst}
use mathlib.Core.Former.{Count}
use Rattle.semantics.specs.Meaning.Runs.{then_from}
use Rattle.semantics.specs.Loops.Nest.{Loop}
use Rattle.flow.specs.Roles.{LineData}
use Rattle.lower_code.specs.declared.laid.Laid.{Laid}
use Rattle.outline.specs.declared.shape.Outline.{Outline, Block, Block', Row_of-OutlineItem, end_of-OutlineItem, more_of-OutlineItem, items-the_row-OutlineItem, items_hidden-the_row-OutlineItem-0}
use Rattle.outline.specs.declared.shape.OutlineItem.{OutlineItem}
use Rattle.outline.specs.Fit.{Fits, RowFits, AllFit}
use Rattle.outline.specs.View.{performed, item_performed, row_performed, items_performed}

abbrev row_at : Outline → (n : Count) × Row_of-OutlineItem n
row_at (Block' shape row) = (_, row)
row_at _ = (_, end_of-OutlineItem)

module _ (R : LineData) (serial : List Loop) where
  row_items : (n : _) (row : Row_of-OutlineItem n) → row_performed R serial row ≡ items_performed R serial (items-the_row-OutlineItem n row)
  row_items n end_of-OutlineItem = refl
  row_items n (more_of-OutlineItem i rest) =
      let e = row_items _ rest in
      λ j s. then_from s (item_performed R serial i s) (e j)

  -- a block does what its items do
  pub block_performed : (items : Vec OutlineItem Global) → performed R serial (Block items) ≡ items_performed R serial items.items
  block_performed items =
      let row = row_at (Block items) in
      row_items row.0 row.1 ∙ ap (items_performed R serial) (items_hidden-the_row-OutlineItem-0 items)

module _ (layout : List Laid) (mark : ℕ) (R : LineData) (serial : List Loop) where
  row_fits : (n : _) (row : Row_of-OutlineItem n) → AllFit layout mark R serial (items-the_row-OutlineItem n row) → RowFits layout mark R serial row
  row_fits n end_of-OutlineItem h = tt
  row_fits n (more_of-OutlineItem i rest) h = (h.0, row_fits _ rest h.1)

  all_fit : (n : _) (row : Row_of-OutlineItem n) → RowFits layout mark R serial row → AllFit layout mark R serial (items-the_row-OutlineItem n row)
  all_fit n end_of-OutlineItem h = tt
  all_fit n (more_of-OutlineItem i rest) h = (h.0, all_fit _ rest h.1)

  -- a block fits as its items do
  pub block_fits : (items : Vec OutlineItem Global) → AllFit layout mark R serial items.items → Fits layout mark R serial (Block items)
  block_fits items h =
      let row = row_at (Block items) in
      row_fits row.0 row.1 (subst (AllFit layout mark R serial) (sym (items_hidden-the_row-OutlineItem-0 items)) h)

  pub items_fit : (items : Vec OutlineItem Global) → Fits layout mark R serial (Block items) → AllFit layout mark R serial items.items
  items_fit items h =
      let row = row_at (Block items) in
      subst (AllFit layout mark R serial) (items_hidden-the_row-OutlineItem-0 items) (all_fit row.0 row.1 h)
