use Rattle.seqrun_io.proofs.Places.{none_placed, one_placed, all_placed}
use Rattle.seqrun_io.proofs.reading.places_of.Goals as goal

pub loop-declaration-init : goal.loop-declaration-init
loop-declaration-init c = none_placed c.args.declarations.now c.new-places.result c.new-places.ensures.empty

pub loop-declaration-preserved : goal.loop-declaration-preserved
loop-declaration-preserved c =
    one_placed _ _ _ c.in-Some.declaration.now c.as_bytes.result _ _ c.in-Some.ensures.cases.0 c.as_bytes.ensures.value c.in_ok-insert.ensures.updates c.loop-declaration.invariant

pub returns : goal.returns
returns c = all_placed _ _ _ c.in_default.ensures.cases c.loop-declaration.invariant
