use Rattle.std.specs.Prelude.{◌≡◌, None, drop}
use Rattle.ktree.specs.View.{items_of}
use Rattle.pragma_attach.specs.Standing.{all_stand}
use Rattle.pragma_attach.specs.Opened.{opened_by}
use Rattle.pragma_attach.proofs.placed.+statement.Given as goal

-- the items that are left decide
abbrev pub invariant-items_fault-loop-i : goal.invariant-items_fault-loop-i
invariant-items_fault-loop-i l =
    all_stand l.directives l.around.may l.around.in_team (opened_by l.before) (items_of (drop l.i l.items)) ≡ all_stand l.directives l.around.may l.around.in_team None (items_of l.items)
