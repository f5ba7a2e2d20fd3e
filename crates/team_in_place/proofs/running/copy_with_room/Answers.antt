use Rattle.std.proofs.Common.{ℕ, List, length, ap, ◌∙◌, arith}
use Rattle.std.specs.Prelude.{slice_index}
use Rattle.lower_run.proofs.Beside.{index_pushed, length_pushed}
use Rattle.team_in_place.proofs.running.copy_with_room.Goals as goal

pub loop-own-preserved : goal.loop-own-preserved
loop-own-preserved c =
    let more = c.in_ok-push.ensures.items in
    let count = ap (λ (l : List ℕ). length l) more ∙ length_pushed c.loop-own.own.items in
    let before = c.loop-own.invariant.1 in
    (λ x. ap (λ l. slice_index l x) more ∙ index_pushed c.loop-own.own.items x ∙ c.loop-own.invariant.0 x, omega arith)
