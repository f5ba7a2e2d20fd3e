use Rattle.std.proofs.Common.{◌≡◌, Some, All, drop, slice_get, refl, sym, ◌∙◌, subst, arith, rules}
use Rattle.std.specs.Prelude.{List, IsTrue, false, ◌+◌, ◌<◌, length}
use Rattle.pairtest.specs.declared.access.Access.{Access}
use Rattle.deptest_verdict.specs.Sinks.{distances_of}
use Rattle.deptest_verdict.specs.Pairs.{IsShown, IsFirstBehind, StandsAt}
use Rattle.std.proofs.lemmas.Option.{slice_get_read, slice_get_within}
use Rattle.deptest_verdict.proofs.Showing.{shown_more, pair_found, some_found, none_found, some_stands, from_on, are_named, too_large, not_counted}
use Rattle.deptest_verdict.proofs.pairs.first_pair.Goals as goal

pub first_from-requires-clause-within : goal.first_from-requires-clause-within
first_from-requires-clause-within c =
    let x = c.index-all-i.result in
    let xs = c.args.accesses.now.all.items in
    let read : slice_get c.as_slice-all.result.now c.loop-i.i ≡ Some x = search (rules, slice_get_read) in
    let there = subst (λ (ys : List Access). slice_get ys c.loop-i.i ≡ Some x) c.as_slice-all.ensures.value read in
    slice_get_within xs c.loop-i.i x there

pub returns-in-Err-clause-err : goal.returns-in-Err-clause-err
returns-in-Err-clause-err c =
    let x = c.index-all-i.result in
    let xs = c.args.accesses.now.all.items in
    let read : slice_get c.as_slice-all.result.now c.loop-i.i ≡ Some x = search (rules, slice_get_read) in
    let there = subst (λ (ys : List Access). slice_get ys c.loop-i.i ≡ Some x) c.as_slice-all.ensures.value read in
    too_large c.args.nest.now (distances_of c.args.sinks.now) x xs c.loop-i.i x.place there c.loop-i.invariant c.in-Err.ensures.err refl

pub returns-then-not-x-clause-err : goal.returns-then-not-x-clause-err
returns-then-not-x-clause-err c =
    let x = c.index-all-i.result in
    let xs = c.args.accesses.now.all.items in
    let read : slice_get c.as_slice-all.result.now c.loop-i.i ≡ Some x = search (rules, slice_get_read) in
    let there = subst (λ (ys : List Access). slice_get ys c.loop-i.i ≡ Some x) c.as_slice-all.ensures.value read in
    let uncounted : x.is_counted ≡ false = search rules in
    not_counted c.args.nest.now (distances_of c.args.sinks.now) x xs c.loop-i.i x.place there c.loop-i.invariant uncounted refl

pub overflow_add-result : goal.overflow_add-result
overflow_add-result c =
    let xs = c.args.accesses.now.all.items in
    let j = c.in-Some.y.number in
    let other = some_stands (λ y. StandsAt (drop c.loop-i.i xs) y.number y.place) c.in-Ok.found c.in-Some.y c.in-Ok.ensures.there c.in-Some.is in
    let within : c.loop-i.i + j < length xs = slice_get_within xs (c.loop-i.i + j) other.0 (sym (from_on xs c.loop-i.i j (c.loop-i.i + j) refl) ∙ other.1) in
    search (rules, arith)

pub returns-in-Some-clause-ok : goal.returns-in-Some-clause-ok
returns-in-Some-clause-ok c =
    let x = c.index-all-i.result in
    let xs = c.args.accesses.now.all.items in
    let read : slice_get c.as_slice-all.result.now c.loop-i.i ≡ Some x = search (rules, slice_get_read) in
    let there = subst (λ (ys : List Access). slice_get ys c.loop-i.i ≡ Some x) c.as_slice-all.ensures.value read in
    pair_found c.args.nest.now (distances_of c.args.sinks.now) x xs c.loop-i.i c.in-Some.y.number there c.loop-i.invariant
    (some_found (All (IsShown c.args.nest.now (distances_of c.args.sinks.now) x) (drop c.loop-i.i xs)) (λ y. IsFirstBehind c.args.nest.now (distances_of c.args.sinks.now) x (drop c.loop-i.i xs) y.number) c.in-Ok.found c.in-Some.y c.in-Ok.ensures.ok c.in-Some.is)

pub returns-in-Some-clause-named : goal.returns-in-Some-clause-named
returns-in-Some-clause-named c =
    let x = c.index-all-i.result in
    let xs = c.args.accesses.now.all.items in
    let read : slice_get c.as_slice-all.result.now c.loop-i.i ≡ Some x = search (rules, slice_get_read) in
    let there = subst (λ (ys : List Access). slice_get ys c.loop-i.i ≡ Some x) c.as_slice-all.ensures.value read in
    let other = some_stands (λ y. StandsAt (drop c.loop-i.i xs) y.number y.place) c.in-Ok.found c.in-Some.y c.in-Ok.ensures.there c.in-Some.is in
    are_named xs x c.loop-i.i c.in-Some.y.number _ there other refl refl refl refl

pub loop-i-preserved : goal.loop-i-preserved
loop-i-preserved c =
    let x = c.index-all-i.result in
    let xs = c.args.accesses.now.all.items in
    let read : slice_get c.as_slice-all.result.now c.loop-i.i ≡ Some x = search (rules, slice_get_read) in
    let there = subst (λ (ys : List Access). slice_get ys c.loop-i.i ≡ Some x) c.as_slice-all.ensures.value read in
    let counted : IsTrue x.is_counted = search rules in
    shown_more c.args.nest.now (distances_of c.args.sinks.now) x xs c.loop-i.i there c.loop-i.invariant counted
    (none_found (All (IsShown c.args.nest.now (distances_of c.args.sinks.now) x) (drop c.loop-i.i xs)) (λ y. IsFirstBehind c.args.nest.now (distances_of c.args.sinks.now) x (drop c.loop-i.i xs) y.number) c.in-Ok.found c.in-Ok.ensures.ok c.in_default.not-Some)
