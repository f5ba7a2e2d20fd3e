-- The laws.
use Rattle.std.specs.Prelude.{length}
use Rattle.std.proofs.Common.{sym, ◌∙◌, arith}
use Rattle.pairtest_counter.specs.Levels.{values_at}
use Rattle.nest_loop.proofs.FormValues.{form_number}
use Rattle.law_turns.specs.Laws
use Rattle.law_turns.proofs.FormsAt.{in_counters_value, in_counters_below, reach_value}
use Rattle.law_turns.proofs.Standing.{nothing_inside, values_same, whole_same, turn_inside, turn_few}
use Rattle.law_turns.proofs.Joining.{all_pairs}
use Rattle.law_turns.proofs.Iterating.{outer_stands, iteration_turn, iterations_there, iterations_distinct}
use Rattle.law_turns.proofs.Entered as entering
use Rattle.law_turns.proofs.Turned as turned
use Rattle.law_turns.proofs.Told.{one_turn}
use Rattle.law_turns.proofs.Differing.{same_iteration, differ_in_steps}

pub forms_in_counters_are_same : Laws.FormsInCountersAreSame
forms_in_counters_are_same box levels f g steps are h = (in_counters_value box levels f g steps are h, in_counters_below box levels f g are h)

pub reaches_are_distances : Laws.ReachesAreDistances
reaches_are_distances box levels l f steps are forms = reach_value box levels l f steps are forms

pub turns_are_inside : Laws.TurnsAreInside
turns_are_inside box levels steps are turn = (turn_inside box levels steps are turn, turn_few box levels steps are turn)

pub outside_is_a_turn : Laws.OutsideIsATurn
outside_is_a_turn steps s = record { inside = nothing_inside; counters = λ x c. absurd cc }

pub steps_tell_turns : Laws.StepsTellTurns
steps_tell_turns levels a b same = (values_same levels a b same, λ turn. whole_same levels a b same turn)

pub chains_enter : Laws.ChainsEnter
chains_enter before after head body enters are heads = entering.chain_enters before after head body enters are heads

pub entered_join : Laws.EnteredJoin
entered_join first second third hs gs p q = entering.entered_join hs gs first second third p q

pub entered_are_levels : Laws.EnteredAreLevels
entered_are_levels before after hs entered are = entering.entered_levels hs before after entered are

pub turns_join : Laws.TurnsJoin
turns_join before after hs steps entered = entering.turns_join before after hs steps entered

pub iterations_are_there : Laws.IterationsAreThere
iterations_are_there before after hs outer s entered at = iterations_there (length before.levels) hs before after outer s entered (outer_stands before outer s at)

pub iterations_are_turns : Laws.IterationsAreTurns
iterations_are_turns before after hs outer s us u entered at e among =
    let found = iteration_turn (length before.levels) hs before after outer s us u entered (outer_stands before outer s at) e among in
    (found.0, turned.is_iteration before after hs outer s u found.0 entered found.1)

pub turns_are_iterations : Laws.TurnsAreIterations
turns_are_iterations before after hs outer s us steps entered at e same turn =
    let found = turned.turn_iteration (length before.levels) hs before after outer steps s us (omega arith) entered (outer_stands before outer s at) e same turn in
    (found.0, found.1, turned.is_iteration before after hs outer s found.0 steps entered found.2)

pub iterations_differ : Laws.IterationsDiffer
iterations_differ before after hs outer s us entered at e =
    all_pairs us (iterations_distinct (length before.levels) hs before after outer s us entered (outer_stands before outer s at) e)

pub steps_tell_iterations : Laws.StepsTellIterations
steps_tell_iterations before after hs outer s u v steps others p q same = same_iteration before after hs outer s u v steps others p q same

pub iterations_tell_steps : Laws.IterationsTellSteps
iterations_tell_steps before after hs outer s u steps others entered p q = one_turn before after hs outer s u steps others entered p q

pub iterations_differ_in_steps : Laws.IterationsDifferInSteps
iterations_differ_in_steps before after hs outer s u v steps others p q apart = differ_in_steps before after hs outer s u v steps others p q apart

pub expressions_have_forms : Laws.ExpressionsHaveForms
expressions_have_forms nesting steps s e f g are at reads converts low high =
    let n = form_number nesting.box (values_at nesting.levels steps) s at.counters e f reads low high in
    (n.0, n.1, sym n.2 ∙ sym (in_counters_value nesting.box nesting.levels f g steps are converts))
