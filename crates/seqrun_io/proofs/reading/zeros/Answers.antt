use Rattle.std.specs.Prelude.{length, map, option_map}
use Rattle.std.proofs.Common.{refl, arith, ap, sym, subst, ◌∙◌}
use Rattle.std.proofs.lemmas.Option.{slice_get_read, slice_get-map}
use Rattle.ktree.specs.View.{declaration_of}
use Rattle.semantics.specs.Meaning.Places.{size}
use Rattle.seqrun_io.specs.Reading.{ArePositive}
use Rattle.seqrun_io.proofs.InputStore.{sizes_at}
use Rattle.seqrun_io.proofs.InputRun.{one_zero}
use Rattle.seqrun_io.proofs.reading.zeros.Goals as goal

pub size_of-count-requires-clause-positive : goal.size_of-count-requires-clause-positive
size_of-count-requires-clause-positive c =
    let at = slice_get-map declaration_of c.args.declarations.now c.loop-declaration.declaration-index
    ∙ ap (option_map declaration_of) (slice_get_read c.args.declarations.now (length c.args.declarations.now) c.loop-declaration.declaration-index c.declaration-item.result refl (omega arith) c.declaration-item.is) in
    subst ArePositive (sym c.as_slice-in-loop-declaration.ensures.value) (sizes_at (map declaration_of c.args.declarations.now) c.loop-declaration.declaration-index (declaration_of c.declaration-item.result) c.requires.named at).0

pub size_of-count-requires-clause-few : goal.size_of-count-requires-clause-few
size_of-count-requires-clause-few c =
    let at = slice_get-map declaration_of c.args.declarations.now c.loop-declaration.declaration-index
    ∙ ap (option_map declaration_of) (slice_get_read c.args.declarations.now (length c.args.declarations.now) c.loop-declaration.declaration-index c.declaration-item.result refl (omega arith) c.declaration-item.is) in
    let le = (sizes_at (map declaration_of c.args.declarations.now) c.loop-declaration.declaration-index (declaration_of c.declaration-item.result) c.requires.named at).1 in
    let same = ap size c.as_slice-in-loop-declaration.ensures.value in
    let few = c.requires.few in
    omega arith

pub loop-declaration-preserved : goal.loop-declaration-preserved
loop-declaration-preserved c =
    rw c.in_ok-push.ensures.items
    (one_zero c.args.declarations.now c.loop-declaration.declaration-index c.declaration-item.result c.loop-declaration.shapes.items (record { lengths = c.in_ok-lengths.lengths; count = c.size_of-count.result; counted = _ }) (omega arith) c.declaration-item.is c.loop-declaration.invariant
    (c.in_ok-lengths.ensures.items ∙ c.as_slice.ensures.value))
