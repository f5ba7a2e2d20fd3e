use Rattle.std.specs.Prelude.{◌≡◌, ◌≢◌, map, length}
use Rattle.std.proofs.Common.{◌∙◌, rules}
use Rattle.ktree.specs.View.{stmt_of, declaration_of}
use Rattle.pairtest_access.specs.Found.{inner_loops}
use Rattle.deptest_verdict.specs.Sinks.{distances_of}
use Rattle.deptest_verdict.proofs.Verdicts.{as_before, never_told, first_told, named_alone, none_meant, none_held}
use Rattle.deptest_verdict.proofs.telling.verdict_on.Goals as goal

pub returns-in-None-clause-ok : goal.returns-in-None-clause-ok
returns-in-None-clause-ok c =
    let now = c.args.chain.now in
    let body = stmt_of c.args.body.now in
    let x = c.in_ok-x.x in
    let y = c.in_ok-y.y in
    let loops : c.as_slice.result.now ≡ map (λ v. v.canonical) (inner_loops 0 now.levels) = c.as_slice.ensures.value ∙ c.in_ok-round.ensures.ok in
    let other = as_before now _ body c.args.pair.second y c.in_ok-x.ensures.back c.in_ok-y.ensures.ok in
    never_told (map declaration_of c.args.variables.now) now c.args.outer (distances_of c.args.sinks.now) body c.args.pair c.in_ok-accesses.accesses x y c.as_slice.result.now _ c.in_ok-accesses.ensures.ok
    c.in_ok-x.ensures.ok other loops c.in_ok-find_meeting.ensures.none c.in-None.is

pub returns-then-not-is_empty-clause-ok : goal.returns-then-not-is_empty-clause-ok
returns-then-not-is_empty-clause-ok c =
    let now = c.args.chain.now in
    let body = stmt_of c.args.body.now in
    let x = c.in_ok-x.x in
    let y = c.in_ok-y.y in
    let other = as_before now _ body c.args.pair.second y c.in_ok-x.ensures.back c.in_ok-y.ensures.ok in
    let some : length c.args.sinks.now ≢ 0 = search rules in
    named_alone (map declaration_of c.args.variables.now) now c.args.outer (distances_of c.args.sinks.now) body c.args.pair c.in_ok-accesses.accesses x y c.in_ok-accesses.ensures.ok
    c.in_ok-x.ensures.ok other (λ none_named. some (none_meant c.args.sinks.now none_named))

pub returns-clause-ok : goal.returns-clause-ok
returns-clause-ok c =
    let now = c.args.chain.now in
    let body = stmt_of c.args.body.now in
    let x = c.in_ok-x.x in
    let y = c.in_ok-y.y in
    let loops : c.as_slice.result.now ≡ map (λ v. v.canonical) (inner_loops 0 now.levels) = c.as_slice.ensures.value ∙ c.in_ok-round.ensures.ok in
    let other = as_before now _ body c.args.pair.second y c.in_ok-x.ensures.back c.in_ok-y.ensures.ok in
    let held : length c.args.sinks.now ≡ 0 = search rules in
    let no_sink = none_held c.args.sinks.now held in
    first_told (map declaration_of c.args.variables.now) now c.args.outer (distances_of c.args.sinks.now) body c.args.pair c.in_ok-accesses.accesses x y c.as_slice.result.now _ c.in-Some.meeting c.in_ok-accesses.ensures.ok
    c.in_ok-x.ensures.ok other loops no_sink c.in_ok-find_meeting.ensures.some c.in-Some.is
