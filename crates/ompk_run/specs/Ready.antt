-- A body made ready to run from the variables of a store: its code, and registers for its locals.
use Rattle.std.specs.Prelude.{ℕ, ◌≡◌, List, []}
use Rattle.ktree.specs.View.{items_of}
use Rattle.flow.specs.Roles.{LineData}
use Rattle.law_apart.specs.Apart.{apart_items}
use Rattle.store.specs.Kept.{Kept, state_of}
use Rattle.lower_code.specs.declared.laid.Laid.{Laid}
use Rattle.lower_run.specs.Walk.{StandFor}
use Rattle.outline.specs.declared.shape.OutlineItem.{OutlineItem}
use Rattle.outline.specs.Fit.{AllFit}
use Rattle.outline.specs.View.{items_performed}
use Rattle.deptest.specs.Accepted.{Program, data_passed, IsAccepted}

-- all code does what its statements do by the roles of lines, and registers and store stand for the state where no local stands yet
pub record AreReady (R : LineData) (items : List OutlineItem) (registers : List ℕ) (ks : List Kept) : Type 0 where
  pub layout : List Laid
  pub mark : ℕ
  pub fit : AllFit layout mark R [] items
  pub stand : StandFor layout mark (state_of ks) registers ks

-- an accepted text's body is made ready: what is done is what the body does where each parallel loop is run by a team, by the roles of its line
pub record IsPrepared (p : Program) (items : List OutlineItem) (registers : List ℕ) (ks : List Kept) : Type 0 where
  pub accepted : IsAccepted p
  pub is : items_performed (data_passed accepted.passed) [] items ≡ apart_items (data_passed accepted.passed) [] (items_of p.kernel.body.items)
  pub ready : AreReady (data_passed accepted.passed) items registers ks
