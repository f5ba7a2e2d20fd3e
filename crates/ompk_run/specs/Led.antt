-- What a run of a body's items comes to, as one fact.
use Rattle.std.specs.Prelude.{ℕ, List}
use Rattle.semantics.specs.Loops.Nest.{Loop}
use Rattle.flow.specs.Roles.{LineData}
use Rattle.lower_code.specs.declared.laid.Laid.{Laid}
use Rattle.lower_run.specs.Walk.{Stage, Walks, Begins}
use Rattle.outline.specs.declared.shape.OutlineItem.{OutlineItem}
use Rattle.outline.specs.Fit.{AllFit}
use Rattle.outline.specs.View.{items_performed}

-- wherever all code does what its statements do, what they do is run from one stage to another
pub record AreWalked (items : List OutlineItem) (before after : Stage) : Type 0 where
  pub walked : (layout : List Laid) (mark : ℕ) (R : LineData) (serial : List Loop) → AllFit layout mark R serial items → Walks layout mark (items_performed R serial items) before after

-- and a beginning of their text was put
pub record AreBegun (items : List OutlineItem) (before : Stage) (text : List ℕ) : Type 0 where
  pub begun : (layout : List Laid) (mark : ℕ) (R : LineData) (serial : List Loop) → AllFit layout mark R serial items → Begins layout mark (items_performed R serial items) before text
