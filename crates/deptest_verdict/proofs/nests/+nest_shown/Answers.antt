use Rattle.std.specs.Prelude.{◌≡◌, map, ◌<◌, drop}
use Rattle.std.proofs.Common.{rules, subst}
use Rattle.std.proofs.lemmas.Result.{err_from_is_err_and}
use Rattle.ktree.specs.View.{stmt_of, declaration_of}
use Rattle.pairtest_counter.specs.Levels.{Nesting}
use Rattle.pairtest_access.proofs.Walks.{some_loop, left}
use Rattle.nest.specs.Heads.{head_of}
use Rattle.deptest_verdict.specs.Sinks.{distances_of}
use Rattle.deptest_verdict.proofs.Bodies.{nest_inner}
use Rattle.deptest_verdict.proofs.Walks.{loop_first, into_loop, shown_inner}
use Rattle.deptest_verdict.proofs.nests.+nest_shown.Goals as goal

pub enter-requires : goal.enter-requires
enter-requires t c =
    let body = stmt_of c.in-Some.level.body.now in
    let first = loop_first c.args.chain.now.box (stmt_of c.args.statement.now) c.in-Some.level.head.now body c.args.loops.now c.in-Some.ensures c.requires in
    (body, first.0, first.1)

pub nest_shown-requires : goal.nest_shown-requires
nest_shown-requires t c =
    let into = into_loop c.args.chain.now c.enter.new.chain (stmt_of c.args.statement.now) c.in-Some.level.head.now (stmt_of c.in-Some.level.body.now) c.args.loops.now c.in_ok-inner.inner.now c.in-Some.ensures c.requires c.in_ok-inner.ensures.ok in
    (search rules, into.first)

pub leave-requires : goal.leave-requires
leave-requires t c =
    let into = into_loop c.args.chain.now c.enter.new.chain (stmt_of c.args.statement.now) c.in-Some.level.head.now (stmt_of c.in-Some.level.body.now) c.args.loops.now c.in_ok-inner.inner.now c.in-Some.ensures c.requires c.in_ok-inner.ensures.ok in
    some_loop c.args.chain.now c.enter.new.chain c.nest_shown.new.chain _ _ _ _ _ into.inside c.in_ok-nest_shown.ensures.back

pub returns-in_err-nest_shown-clause-err : goal.returns-in_err-nest_shown-clause-err
returns-in_err-nest_shown-clause-err t c =
    let some : 0 < c.args.depth = search rules in
    let into = into_loop c.args.chain.now c.enter.new.chain (stmt_of c.args.statement.now) c.in-Some.level.head.now (stmt_of c.in-Some.level.body.now) c.args.loops.now c.in_ok-inner.inner.now c.in-Some.ensures c.requires c.in_ok-inner.ensures.ok in
    let p = err_from_is_err_and c.from_residual-in_err-nest_shown.result c.from_residual-in_err-nest_shown.ensures.1 in
    rw (p.1, p.2) (nest_inner (map declaration_of c.args.given.variables.now) c.args.chain.now c.enter.new.chain c.args.outer c.args.serial.items (distances_of c.args.sinks.now) c.args.depth (stmt_of c.args.statement.now)
    (head_of c.in-Some.level.head.now) (stmt_of c.in-Some.level.body.now) c.in_err-nest_shown.field-0.0 some c.in-Some.ensures into.inside c.in_err-nest_shown.ensures.err)

pub returns-clause-ok : goal.returns-clause-ok
returns-clause-ok t c =
    let some : 0 < c.args.depth = search rules in
    let into = into_loop c.args.chain.now c.enter.new.chain (stmt_of c.args.statement.now) c.in-Some.level.head.now (stmt_of c.in-Some.level.body.now) c.args.loops.now c.in_ok-inner.inner.now c.in-Some.ensures c.requires c.in_ok-inner.ensures.ok in
    shown_inner c.args.chain.now c.enter.new.chain c.args.outer c.args.serial.items (distances_of c.args.sinks.now) c.args.depth (stmt_of c.args.statement.now) (head_of c.in-Some.level.head.now) (stmt_of c.in-Some.level.body.now)
    some c.in-Some.ensures into.inside c.in_ok-nest_shown.ensures.ok

pub returns-clause-back : goal.returns-clause-back
returns-clause-back t c =
    let into = into_loop c.args.chain.now c.enter.new.chain (stmt_of c.args.statement.now) c.in-Some.level.head.now (stmt_of c.in-Some.level.body.now) c.args.loops.now c.in_ok-inner.inner.now c.in-Some.ensures c.requires c.in_ok-inner.ensures.ok in
    let same = c.in_ok-nest_shown.ensures.back in
    left c.args.chain.now c.enter.new.chain c.leave.new.self _ _ _ _ _ into.inside (subst (λ (m : Nesting). c.leave.new.self.box ≡ drop 1 m.box) same c.leave.ensures.numbers)
    (subst (λ (m : Nesting). c.leave.new.self.levels ≡ drop 1 m.levels) same c.leave.ensures.levels)
