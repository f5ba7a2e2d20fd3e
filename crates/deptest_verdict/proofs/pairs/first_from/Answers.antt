use Rattle.std.proofs.Common.{◌≡◌, length, drop, subst, sym, arith}
use Rattle.std.specs.Prelude.{List, ◌-◌, take, All, IfOk, IfSome, MatchOption}
use Rattle.pairtest.specs.declared.access.Access.{Access}
use Rattle.deptest_verdict.specs.Sinks.{distances_of}
use Rattle.deptest_verdict.specs.Pairs.{IsShown, IsFirstBehind, StandsAt}
use Rattle.deptest_verdict.proofs.Showing.{rest_is}
use Rattle.deptest_verdict.proofs.pairs.first_from.Goals as goal

pub returns-then-eq-clause-ok : goal.returns-then-eq-clause-ok
returns-then-eq-clause-ok c =
    let xs = c.args.accesses.now.all.items in
    let within = c.requires.within in
    subst (λ (ys : List Access). IfOk c.first_behind.result (λ found. MatchOption found (All (IsShown c.args.nest.now (distances_of c.args.sinks.now) c.args.x.now) ys) (λ y. IsFirstBehind c.args.nest.now (distances_of c.args.sinks.now) c.args.x.now ys y.number)))
    (subst (λ (zs : List Access). take (length zs - c.args.from) (drop c.args.from zs) ≡ drop c.args.from xs) (sym c.as_slice.ensures.value) (rest_is xs c.args.from (omega (arith, within)))) c.first_behind.ensures.ok

pub returns-then-eq-clause-there : goal.returns-then-eq-clause-there
returns-then-eq-clause-there c =
    let xs = c.args.accesses.now.all.items in
    let within = c.requires.within in
    subst (λ (ys : List Access). IfOk c.first_behind.result (λ found. IfSome found (λ y. StandsAt ys y.number y.place)))
    (subst (λ (zs : List Access). take (length zs - c.args.from) (drop c.args.from zs) ≡ drop c.args.from xs) (sym c.as_slice.ensures.value) (rest_is xs c.args.from (omega (arith, within)))) c.first_behind.ensures.there
