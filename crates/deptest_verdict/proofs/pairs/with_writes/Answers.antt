use Rattle.std.proofs.Common.{◌≡◌, ◌≢◌, length, Some, slice_get, refl, sym, subst, rules, arith}
use Rattle.std.specs.Prelude.{List, ℕ, ◌+◌}
use Rattle.std.proofs.lemmas.Option.{slice_get_read}
use Rattle.pairtest.specs.declared.access.Access.{Access}
use Rattle.pairtest.specs.declared.access.Mode.TheVariants.{Writes}
use Rattle.deptest_verdict.specs.Pairs.{AreWritesBefore}
use Rattle.deptest_verdict.proofs.Writes.{none_before, one_reads, one_writes}
use Rattle.deptest_verdict.proofs.pairs.with_writes.Goals as goal

pub loop-number-init : goal.loop-number-init
loop-number-init c =
    let xs = c.deref-access-items.result.now in
    subst (λ (ns : List ℕ). AreWritesBefore xs ns 0) (sym c.new-writes.ensures.items) (none_before xs)

pub loop-number-preserved-then-ne : goal.loop-number-preserved-then-ne
loop-number-preserved-then-ne c =
    let xs = c.deref-access-items.result.now in
    let x = c.access-item.result in
    let there : slice_get xs c.loop-number.number ≡ Some x = search (rules, slice_get_read) in
    let reads : x.mode ≢ Writes = search rules in
    one_reads xs c.loop-number.writes.items c.loop-number.number x there reads c.loop-number.invariant

pub loop-number-preserved : goal.loop-number-preserved
loop-number-preserved c =
    let xs = c.deref-access-items.result.now in
    subst (λ (ns : List ℕ). AreWritesBefore xs ns (c.loop-number.number + 1)) (sym c.in_ok-push.ensures.items) (one_writes xs c.loop-number.writes.items c.loop-number.number c.loop-number.invariant)

pub returns : goal.returns
returns c =
    let xs = c.deref-access-items.result.now in
    let end : c.loop-number.number ≡ length xs = search (rules, arith) in
    let all = subst (λ (n : ℕ). AreWritesBefore xs c.loop-number.writes.items n) end c.loop-number.invariant in
    record { ok = (refl, subst (λ (ys : List Access). AreWritesBefore ys c.loop-number.writes.items (length ys)) c.deref-access-items.ensures.value all) }
