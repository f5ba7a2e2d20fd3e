use Rattle.std.proofs.Common.{◌≡◌, drop}
use Rattle.seqrun.specs.Ran.{lengths_of}
use Rattle.lower_run.specs.Walk.{stage}
use Rattle.ompk_run.proofs.Steps.{AreComing}
use Rattle.ompk_run.proofs.Turns.{OfOutline, OfItems, outline_step, items_step, turns_left}
use Rattle.ompk_run.proofs.teaming.+teaming.Given as goal

-- the turns so far, and those that are left
abbrev pub invariant-team_statement-loop-turn : goal.invariant-team_statement-loop-turn
invariant-team_statement-loop-turn g l =
    AreComing (OfOutline l.fn.outline) (outline_step l.fn.outline) (turns_left l.fn.outline l._turn)
    (stage l.fn.registers.items l.fn.store (g.S.Sink.told l.fn.sink))
    (stage l.registers.items l.store (g.S.Sink.told l.sink))
    × (g.S.Sink.failed l.sink ≡ g.S.Sink.failed l.fn.sink)
    × (lengths_of l.store ≡ lengths_of l.fn.store)

-- the items so far, and those that are left
abbrev pub invariant-team_block-loop-item : goal.invariant-team_block-loop-item
invariant-team_block-loop-item g l =
    AreComing (OfItems l.items) (items_step l.items) (items_step (drop l.item-index l.items))
    (stage l.fn.registers.items l.fn.store (g.S.Sink.told l.fn.sink))
    (stage l.registers.items l.store (g.S.Sink.told l.sink))
    × (g.S.Sink.failed l.sink ≡ g.S.Sink.failed l.fn.sink)
    × (lengths_of l.store ≡ lengths_of l.fn.store)
