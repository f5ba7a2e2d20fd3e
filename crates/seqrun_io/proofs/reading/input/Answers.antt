use Rattle.std.specs.Prelude.{◌<◌, ◌+◌, ◌^◌, length, map, slice_get}
use Rattle.std.proofs.Common.{rules, refl, arith, ap, sym, subst, inr, ◌∙◌}
use Rattle.std.proofs.lemmas.Bool.Decides.{nat_tests}
use Rattle.ktree.specs.View.{declaration_of}
use Rattle.store.specs.Kept.{HasRoom, rewritten_at}
use Rattle.seqrun_io.specs.Reading.{RefusesInput}
use Rattle.seqrun_io.proofs.LineSteps.{there_in}
use Rattle.seqrun_io.proofs.InputRun.{begins, ends, cut_off, one_line, one_room, one_place, one_variable, refused_right}
use Rattle.seqrun_io.proofs.reading.input.Goals as goal

pub loop-rest-init : goal.loop-rest-init
loop-rest-init c = begins _ _ _ _ _ c.in_ok-store.ensures (c.in_ok-seen.ensures.items_if_clones_equal (λ y e. e)) (there_in declaration_of c.args.declarations.now)

pub returns-in_default-clause-refusal : goal.returns-in_default-clause-refusal
returns-in_default-clause-refusal c =
    inr (
      _,
      refl,
      cut_off _ _ _ _ c.loop-rest.rest.now c.loop-rest.line c.requires.named c.loop-rest.invariant c.length_before.result c.length_before.ensures
          (let e = c.loop-rest-test.ensures in grind (arith, nat_tests)) (sym (ap length c.split_at.ensures.back) ∙ c.in_default.ensures.cases),
    )

pub returns-in-Err-clause-refusal : goal.returns-in-Err-clause-refusal
returns-in-Err-clause-refusal c =
    subst (RefusesInput (map declaration_of c.args.declarations.now) c.args.bytes.now) (sym c.refusal_at.ensures)
    (refused_right _ _ _ _ c.loop-rest.rest.now c.loop-rest.line c.requires.named c.loop-rest.invariant c.length_before.result c.length_before.ensures
    c.split_at.result.0.now c.in-Some.further.now _ c.split_at.ensures.front (sym c.split_at.ensures.back ∙ c.in-Some.ensures.cases.0) c.in-Err.fault _ c.as_slice.ensures.value c.in-Err.ensures.fault)

pub index_mut-requires : goal.index_mut-requires
index_mut-requires c =
    let lt : c.in-Ok.read.0 < length c.loop-rest.seen.items = one_place _ _ _ _ c.loop-rest.rest.now _ c.loop-rest.invariant c.split_at.result.0.now _ c.in-Ok.read.1.items (rw c.as_slice.ensures.value at c.in-Ok.ensures.right) in
    search rules

pub overflow_cast-variable : goal.overflow_cast-variable
overflow_cast-variable c =
    let lt : c.in-Ok.read.0 < 2 ^ 32 = one_variable _ _ _ _ c.loop-rest.rest.now _ c.loop-rest.invariant c.split_at.result.0.now _ c.in-Ok.read.1.items (rw c.as_slice.ensures.value at c.in-Ok.ensures.right) c.requires.named c.requires.few in
    search rules

pub write-requires : goal.write-requires
write-requires c =
    subst (λ vs. HasRoom (slice_get c.loop-rest.store c.in-Ok.read.0) (0 + length vs)) (sym c.as_slice-in-loop-rest.ensures.value)
    (one_room _ _ _ _ c.loop-rest.rest.now _ c.loop-rest.invariant c.split_at.result.0.now _ c.in-Ok.read.1.items (rw c.as_slice.ensures.value at c.in-Ok.ensures.right))

pub loop-rest-preserved : goal.loop-rest-preserved
loop-rest-preserved c =
    one_line _ _ _ _ c.loop-rest.rest.now c.loop-rest.line c.requires.named c.loop-rest.invariant c.length_before.result c.length_before.ensures
    c.split_at.result.0.now c.in-Some.further.now _ c.split_at.ensures.front (sym c.split_at.ensures.back ∙ c.in-Some.ensures.cases.0) c.in-Ok.read.0 c.in-Ok.read.1.items _ _ (rw c.as_slice.ensures.value at c.in-Ok.ensures.right)
    (c.write.ensures ∙ ap (rewritten_at c.loop-rest.store c.in-Ok.read.0 0) c.as_slice-in-loop-rest.ensures.value) refl
    (one_place _ _ _ _ c.loop-rest.rest.now _ c.loop-rest.invariant c.split_at.result.0.now _ c.in-Ok.read.1.items (rw c.as_slice.ensures.value at c.in-Ok.ensures.right))

pub returns-clause-start : goal.returns-clause-start
returns-clause-start c = ends _ _ _ _ c.loop-rest.rest.now c.loop-rest.line c.loop-rest.invariant (let e = c.loop-rest-test.ensures in grind (arith, nat_tests))
