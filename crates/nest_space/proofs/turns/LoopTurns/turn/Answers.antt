use Rattle.std.specs.Prelude.{ℕ, ◌≡◌, slice_get, MatchOption}
use Rattle.std.proofs.Common.{subst, Some}
use Rattle.nest_space.specs.Space.{Turns, values_of}
use Rattle.nest_space.proofs.Counted.{nowhere, turn_found}
use Rattle.nest_space.proofs.turns.LoopTurns.turn.Goals as goal

pub returns-in-None : goal.returns-in-None
returns-in-None c =
    let t : Turns = record { first = c.self.inside.first; stride = c.self.inside.stride; count = c.self.inside.count } in
    subst (λ (t : Turns). (k : ℕ) → slice_get (values_of t) k ≡ Some c.args.value → ⊥) c.self.view_is
    (nowhere t c.args.value c.self.invariant c.in-None.ensures)

pub returns-in-Some : goal.returns-in-Some
returns-in-Some c =
    let t : Turns = record { first = c.self.inside.first; stride = c.self.inside.stride; count = c.self.inside.count } in
    subst (λ (t : Turns). MatchOption c.steps.result ((k : ℕ) → slice_get (values_of t) k ≡ Some c.args.value → ⊥) (λ k. slice_get (values_of t) k ≡ Some c.args.value)) c.self.view_is
    (turn_found t c.args.value c.in-Some.distance c.from.result c.steps.result c.self.invariant c.from.ensures c.in-Some.ensures c.steps.ensures)
