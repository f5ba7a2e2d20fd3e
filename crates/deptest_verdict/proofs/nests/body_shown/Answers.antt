use Rattle.std.specs.Prelude.{map}
use Rattle.std.proofs.Common.{refl, ap, Vec, Global}
use Rattle.pairtest.specs.declared.access.Access.{Access}
use Rattle.ktree.specs.View.{stmt_of, declaration_of}
use Rattle.deptest_verdict.specs.Sinks.{distances_of}
use Rattle.deptest_verdict.proofs.Walks.{body_is}
use Rattle.deptest_verdict.proofs.Bodies.{tested, has_site, the_first, the_named, pair_refused, pair_too_large}
use Rattle.deptest_verdict.proofs.nests.body_shown.Goals as goal

pub returns-in-None-clause-ok : goal.returns-in-None-clause-ok
returns-in-None-clause-ok c =
    let found = c.in_ok-found.ensures.ok in
    body_is c.args.chain.now c.args.outer c.args.serial.items (distances_of c.args.sinks.now) (stmt_of c.args.body.now) found.0 c.in_ok-found.found.items c.in_ok-found-2.found.all.items
    (record { serial = c.args.serial; loops = c.in_ok-counts.counts }) c.in-Ok.first found.1 found.2 (ap (λ (v : Vec Access Global). v.items) c.in_ok-found-2.ensures.ok.0) refl c.in_ok-counts.ensures.ok c.in-Ok.ensures.ok c.in-None.is

pub pair_refused-requires-clause-one : goal.pair_refused-requires-clause-one
pair_refused-requires-clause-one c =
    let found = c.in_ok-found.ensures.ok in
    let now = c.args.chain.now in
    let body = stmt_of c.args.body.now in
    let t = tested now c.args.outer c.args.serial.items body found.0 c.in_ok-found.found.items c.in_ok-found-2.found.all.items (record { serial = c.args.serial; loops = c.in_ok-counts.counts }) found.1 found.2 (ap (λ (v : Vec Access Global). v.items) c.in_ok-found-2.ensures.ok.0) refl c.in_ok-counts.ensures.ok in
    let named = the_named c.in_ok-found-2.found.all.items c.in-Ok.first c.in-Some.pair c.in-Ok.ensures.named c.in-Some.is in
    has_site now _ c.args.outer c.args.serial.items body c.in_ok-found-2.found.all.items _ c.in-Some.pair.first named.one c.in_ok-found.ensures.back t named.one_is

pub pair_refused-requires-clause-other : goal.pair_refused-requires-clause-other
pair_refused-requires-clause-other c =
    let found = c.in_ok-found.ensures.ok in
    let now = c.args.chain.now in
    let body = stmt_of c.args.body.now in
    let t = tested now c.args.outer c.args.serial.items body found.0 c.in_ok-found.found.items c.in_ok-found-2.found.all.items (record { serial = c.args.serial; loops = c.in_ok-counts.counts }) found.1 found.2 (ap (λ (v : Vec Access Global). v.items) c.in_ok-found-2.ensures.ok.0) refl c.in_ok-counts.ensures.ok in
    let named = the_named c.in_ok-found-2.found.all.items c.in-Ok.first c.in-Some.pair c.in-Ok.ensures.named c.in-Some.is in
    has_site now _ c.args.outer c.args.serial.items body c.in_ok-found-2.found.all.items _ c.in-Some.pair.second named.other c.in_ok-found.ensures.back t named.other_is

pub returns-in-Ok-clause-err : goal.returns-in-Ok-clause-err
returns-in-Ok-clause-err c =
    let found = c.in_ok-found.ensures.ok in
    let now = c.args.chain.now in
    let body = stmt_of c.args.body.now in
    let t = tested now c.args.outer c.args.serial.items body found.0 c.in_ok-found.found.items c.in_ok-found-2.found.all.items (record { serial = c.args.serial; loops = c.in_ok-counts.counts }) found.1 found.2 (ap (λ (v : Vec Access Global). v.items) c.in_ok-found-2.ensures.ok.0) refl c.in_ok-counts.ensures.ok in
    let named = the_named c.in_ok-found-2.found.all.items c.in-Ok.first c.in-Some.pair c.in-Ok.ensures.named c.in-Some.is in
    let first = the_first _ (distances_of c.args.sinks.now) c.in_ok-found-2.found.all.items c.in-Ok.first c.in-Some.pair c.in-Ok.ensures.ok c.in-Some.is in
    pair_refused (map declaration_of c.args.variables.now) now _ c.args.outer c.args.serial.items (distances_of c.args.sinks.now) body c.in_ok-found-2.found.all.items _ c.in-Some.pair c.pair_refused.result c.in_ok-found.ensures.back t first named c.pair_refused.ensures

pub returns-clause-err : goal.returns-clause-err
returns-clause-err c =
    let found = c.in_ok-found.ensures.ok in
    let now = c.args.chain.now in
    let body = stmt_of c.args.body.now in
    let t = tested now c.args.outer c.args.serial.items body found.0 c.in_ok-found.found.items c.in_ok-found-2.found.all.items (record { serial = c.args.serial; loops = c.in_ok-counts.counts }) found.1 found.2 (ap (λ (v : Vec Access Global). v.items) c.in_ok-found-2.ensures.ok.0) refl c.in_ok-counts.ensures.ok in
    pair_too_large (map declaration_of c.args.variables.now) now c.args.outer c.args.serial.items (distances_of c.args.sinks.now) body c.in_ok-found-2.found.all.items _ c.in-Err.large.place _ t c.in-Err.ensures.err refl
