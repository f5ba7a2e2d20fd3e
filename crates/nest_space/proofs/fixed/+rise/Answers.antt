use Rattle.std.proofs.Common.{rules, ◌≡◌, ◌∷◌, IsTrue}
use Rattle.nest_loop.specs.declared.head.Canonical.{Canonical}
use Rattle.nest_loop.specs.declared.stride.Direction.TheVariants.{Rising}
use Rattle.nest_space.proofs.Rising.{each_more}
use Rattle.nest_space.proofs.fixed.+rise.Goals as goal

pub returns-then-eq : goal.returns-then-eq
returns-then-eq t c =
    let is : c.args.loops.now ≡ c.in-Some.first.now ∷ c.in-Some.rest.now = search rules in
    let first : c.in-Some.first.now.stride.direction ≡ Rising = search rules in
    each_more (λ (l : Canonical). l.stride.direction ≡ Rising) (IsTrue c.rise.result) c.args.loops.now c.in-Some.first.now c.in-Some.rest.now is first c.rise.ensures
