use Rattle.std.specs.Prelude.{◌≡◌, ◌<◌, ◌+◌, ◌%◌}
use Rattle.std.proofs.Common.{sym, ap, ◌∙◌, subst, arith}
use Rattle.std.proofs.lemmas.Nat.{mod_below}
use Rattle.nest_space.proofs.Along.{turns_some, inside_is, row_is}
use Rattle.nest_space.proofs.iterations.row_at.Goals as goal

pub nonzero_rem-number : goal.nonzero_rem-number
nonzero_rem-number c =
    subst (λ n. 0 < n) (sym c.count.ensures) (turns_some c.args.loops.now c.in-Some._outer.now c.in-Some.inner.now c.args.number c.in-Some.ensures.cases.0 c.requires)

pub row-requires : goal.row-requires
row-requires c =
    subst (λ n. c.args.number % n < c.in-Some.inner.now.count) (sym c.count.ensures)
    (mod_below c.args.number c.in-Some.inner.now.count (turns_some c.args.loops.now c.in-Some._outer.now c.in-Some.inner.now c.args.number c.in-Some.ensures.cases.0 c.requires))

pub returns-in-Some-clause-row : goal.returns-in-Some-clause-row
returns-in-Some-clause-row c =
    row_is c.args.loops.now c.in-Some._outer.now c.in-Some.inner.now c.args.number (c.args.number % c.count.result) c.row.result.first c.row.result.by c.row.result.count c.in-Some.ensures.cases.0
    (ap (λ n. c.args.number % n) c.count.ensures) c.row.ensures.values

pub returns-in-Some-clause-count : goal.returns-in-Some-clause-count
returns-in-Some-clause-count c =
    let inside = inside_is c.args.loops.now c.in-Some._outer.now c.in-Some.inner.now c.in-Some.ensures.cases.0 in
    ap (λ n. c.args.number % n + c.row.result.count) (inside ∙ sym c.count.ensures) ∙ c.row.ensures.count ∙ sym inside

pub returns-in-Some-clause-some : goal.returns-in-Some-clause-some
returns-in-Some-clause-some c =
    let count = c.row.ensures.count in
    let same : c.args.number % c.count.result ≡ c.args.number % c.in-Some.inner.now.count = ap (λ n. c.args.number % n) c.count.ensures in
    let below = mod_below c.args.number c.in-Some.inner.now.count (turns_some c.args.loops.now c.in-Some._outer.now c.in-Some.inner.now c.args.number c.in-Some.ensures.cases.0 c.requires) in
    omega (arith, count, same, below)
