use Rattle.std.proofs.Common.{rules, ◌≡◌, ◌∷◌, IsTrue}
use Rattle.nest_loop.specs.Sides.{HasNumbers}
use Rattle.nest_space.proofs.Rising.{each_more}
use Rattle.nest_space.proofs.fixed.+have_numbers.Goals as goal

pub returns-then-has_numbers : goal.returns-then-has_numbers
returns-then-has_numbers t c =
    let is : c.args.loops.now ≡ c.in-Some.first.now ∷ c.in-Some.rest.now = search rules in
    let first : HasNumbers c.in-Some.first.now = search rules in
    each_more HasNumbers (IsTrue c.have_numbers.result) c.args.loops.now c.in-Some.first.now c.in-Some.rest.now is first c.have_numbers.ensures
