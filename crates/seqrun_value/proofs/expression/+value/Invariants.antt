use Rattle.std.proofs.Common.{◌≡◌, drop}
use Rattle.semantics.specs.Meaning.Value.{values}
use Rattle.ktree.specs.View.{exprs_of}
use Rattle.seqrun_value.specs.Standing.{standing, place_in, way_from}
use Rattle.seqrun_value.proofs.expression.+value.Given as goal

-- what is left of the way leads where the whole of it leads
abbrev pub invariant-place_by_walk-loop-d : goal.invariant-place_by_walk-loop-d
invariant-place_by_walk-loop-d l =
    way_from l.at (drop l.d l.array.lengths) (values (standing l.frame l.store) (exprs_of (drop l.d l.subscripts)))
    ≡ place_in l.array (values (standing l.frame l.store) (exprs_of l.subscripts))
