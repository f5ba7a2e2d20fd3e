use Rattle.std.proofs.Common.{rules, ◌≡◌, ◌<◌, ◌∙◌, sym, length, arith}
use Rattle.nest_space.specs.Nests.{given}
use Rattle.nest_space.proofs.Reached.{never_turns, one_reached, none_reached}
use Rattle.nest_space.proofs.reaching.+fill_reached.Goals as goal

pub returns-then-count-eq0-clause-found : goal.returns-then-count-eq0-clause-found
returns-then-count-eq0-clause-found t c filled =
    let long : length c.in-Some-split_first_mut.others.now ≡ length c.in-Some.rest.now = search rules in
    let none : c.in-Some-run_of.run'.count ≡ 0 = sym c.count.ensures ∙ c.if-count-eq0.true in
    never_turns c.args.loops.now c.in-Some.first.now c.in-Some.rest.now (given c.args.values.now) c.in-Some-run_of.run' c.in-Some-split_first_mut.others.now c.in-Some.ensures.cases.0 c.in-Some-run_of.ensures none long

pub returns-clause-found : goal.returns-clause-found
returns-clause-found t c filled =
    one_reached c.args.loops.now c.in-Some.first.now c.in-Some.rest.now (given c.args.values.now) c.in-Some-run_of.run' c.fill_reached.new.turns c.in-Some.ensures.cases.0 c.in-Some-run_of.ensures (c.fill_reached.ensures.found filled)

pub returns-clause-none : goal.returns-clause-none
returns-clause-none t c not_filled ts runs =
    let some : 0 < c.in-Some-run_of.run'.count = (let counted = c.count.ensures in let some = c.if-count-eq0.false in omega (arith, counted, some)) in
    none_reached c.args.loops.now c.in-Some.first.now c.in-Some.rest.now (given c.args.values.now) c.in-Some-run_of.run' c.in-Some.ensures.cases.0 c.in-Some-run_of.ensures some (c.fill_reached.ensures.none not_filled) ts runs
