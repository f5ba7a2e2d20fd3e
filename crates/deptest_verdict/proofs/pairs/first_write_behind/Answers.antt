use Rattle.std.proofs.Common.{◌≡◌, ◌≤◌, IsTrue, length, Some, slice_get, slice_index_or, refl, subst, ap, ◌∙◌, arith, rules}
use Rattle.std.specs.Prelude.{List, ℕ}
use Rattle.std.proofs.lemmas.Option.{slice_get_read}
use Rattle.std.proofs.lemmas.Result.{err_from_is_err_and}
use Rattle.deptest_verdict.specs.Sinks.{distances_of}
use Rattle.deptest_verdict.specs.Pairs.{IsShown}
use Rattle.deptest_verdict.proofs.Writes.{none_behind, write_found, write_large, its_place, passed_over, one_shown}
use Rattle.deptest_verdict.proofs.pairs.first_write_behind.Goals as goal

pub loop-number-init : goal.loop-number-init
loop-number-init c l n y lt e le f = absurd (omega (arith, lt))

pub loop-number-preserved-then-number-from : goal.loop-number-preserved-then-number-from
loop-number-preserved-then-number-from c =
    let xs = c.args.accesses.now.all.items in
    let ns = c.args.accesses.now.writes.items in
    let all = c.deref-number-items.result.now in
    let k = c.loop-number.number-index in
    let n = slice_index_or all k 0 in
    let read : slice_get all k ≡ Some n = search (rules, slice_get_read) in
    let there = subst (λ (ms : List ℕ). slice_get ms k ≡ Some n) c.deref-number-items.ensures.value read in
    passed_over c.args.nest.now (distances_of c.args.sinks.now) c.args.x.now c.requires.reads c.args.from xs ns c.requires.writes k n there c.if-number-from.true c.loop-number.invariant

pub returns-in_err-shown-clause-err : goal.returns-in_err-shown-clause-err
returns-in_err-shown-clause-err c =
    let xs = c.args.accesses.now.all.items in
    let ns = c.args.accesses.now.writes.items in
    let all = c.deref-number-items.result.now in
    let k = c.loop-number.number-index in
    let n = slice_index_or all k 0 in
    let read : slice_get all k ≡ Some n = search (rules, slice_get_read) in
    let there = subst (λ (ms : List ℕ). slice_get ms k ≡ Some n) c.deref-number-items.ensures.value read in
    let y = c.index-y.result.now in
    let within = c.requires.writes.within k n there in
    let access : slice_get xs n ≡ Some y = search (rules, slice_get_read) in
    let le : c.args.from ≤ n = search rules in
    let p = err_from_is_err_and c.from_residual.result c.from_residual.ensures.1 in
    rw p.1 (write_large c.args.nest.now (distances_of c.args.sinks.now) c.args.x.now c.requires.reads c.args.from xs ns c.requires.writes k n y there le access c.loop-number.invariant c.in_err-shown.ensures.pair c.in_err-shown.ensures.large)

pub returns-then-not-shown-clause-ok : goal.returns-then-not-shown-clause-ok
returns-then-not-shown-clause-ok c =
    let xs = c.args.accesses.now.all.items in
    let ns = c.args.accesses.now.writes.items in
    let all = c.deref-number-items.result.now in
    let k = c.loop-number.number-index in
    let n = slice_index_or all k 0 in
    let read : slice_get all k ≡ Some n = search (rules, slice_get_read) in
    let there = subst (λ (ms : List ℕ). slice_get ms k ≡ Some n) c.deref-number-items.ensures.value read in
    let y = c.index-y.result.now in
    let within = c.requires.writes.within k n there in
    let access : slice_get xs n ≡ Some y = search (rules, slice_get_read) in
    let le : c.args.from ≤ n = search rules in
    write_found c.args.nest.now (distances_of c.args.sinks.now) c.args.x.now c.requires.reads c.args.from xs ns c.requires.writes k n y there le access c.loop-number.invariant (λ (s : IsShown c.args.nest.now (distances_of c.args.sinks.now) c.args.x.now y). let t = c.in_ok-shown.ensures.ok.1 s in let f = c.if-not-shown.true in absurd cc)

pub returns-then-not-shown-clause-there : goal.returns-then-not-shown-clause-there
returns-then-not-shown-clause-there c =
    let xs = c.args.accesses.now.all.items in
    let ns = c.args.accesses.now.writes.items in
    let all = c.deref-number-items.result.now in
    let k = c.loop-number.number-index in
    let n = slice_index_or all k 0 in
    let read : slice_get all k ≡ Some n = search (rules, slice_get_read) in
    let there = subst (λ (ms : List ℕ). slice_get ms k ≡ Some n) c.deref-number-items.ensures.value read in
    let y = c.index-y.result.now in
    let within = c.requires.writes.within k n there in
    let access : slice_get xs n ≡ Some y = search (rules, slice_get_read) in
    let le : c.args.from ≤ n = search rules in
    (y, its_place c.args.nest.now (distances_of c.args.sinks.now) c.args.x.now c.requires.reads c.args.from xs ns c.requires.writes n y le access, refl)

pub loop-number-preserved : goal.loop-number-preserved
loop-number-preserved c =
    let xs = c.args.accesses.now.all.items in
    let ns = c.args.accesses.now.writes.items in
    let all = c.deref-number-items.result.now in
    let k = c.loop-number.number-index in
    let n = slice_index_or all k 0 in
    let read : slice_get all k ≡ Some n = search (rules, slice_get_read) in
    let there = subst (λ (ms : List ℕ). slice_get ms k ≡ Some n) c.deref-number-items.ensures.value read in
    let y = c.index-y.result.now in
    let within = c.requires.writes.within k n there in
    let access : slice_get xs n ≡ Some y = search (rules, slice_get_read) in
    let shown : IsTrue c.in_ok-shown.shown = search rules in
    one_shown c.args.nest.now (distances_of c.args.sinks.now) c.args.x.now c.requires.reads c.args.from xs ns c.requires.writes k n y there access (c.in_ok-shown.ensures.ok.0 shown) c.loop-number.invariant

pub returns-clause-ok : goal.returns-clause-ok
returns-clause-ok c =
    let xs = c.args.accesses.now.all.items in
    let ns = c.args.accesses.now.writes.items in
    let end : c.loop-number.number-index ≡ length c.deref-number-items.result.now = search (rules, arith) in
    none_behind c.args.nest.now (distances_of c.args.sinks.now) c.args.x.now c.requires.reads c.args.from xs ns c.requires.writes c.loop-number.number-index (end ∙ ap (λ (ms : List ℕ). length ms) c.deref-number-items.ensures.value) c.loop-number.invariant
