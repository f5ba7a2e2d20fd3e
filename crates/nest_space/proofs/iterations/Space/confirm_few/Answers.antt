use Rattle.std.proofs.Common.{ℕ, List, ◌≤◌, ◌^◌, length, sym, subst}
use Rattle.nest_space.specs.Space.{Turns, vectors}
use Rattle.nest_space.proofs.Places.{length-vectors}
use Rattle.nest_space.proofs.iterations.Space.confirm_few.Goals as goal

pub returns : goal.returns
returns c =
    subst (λ (ts : List Turns). length (vectors ts) ≤ 2 ^ 24) c.self.view_is (subst (λ (n : ℕ). n ≤ 2 ^ 24) (sym (length-vectors c.self.inside.loops.items)) c.self.invariant.0.few)
