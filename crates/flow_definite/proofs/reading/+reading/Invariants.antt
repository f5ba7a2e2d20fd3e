use Rattle.std.proofs.Common.{◌≡◌, drop}
use Rattle.semantics.specs.Meaning.Definite.{may_read_all}
use Rattle.ktree.specs.View.{exprs_of}
use Rattle.flow_definite.specs.Judged.{known_of}
use Rattle.flow_definite.proofs.reading.+reading.Given as goal

-- all depends on what is left
abbrev pub invariant-read_all-loop-subscript : goal.invariant-read_all-loop-subscript
invariant-read_all-loop-subscript l =
    may_read_all (known_of l.known) (exprs_of l.subscripts)
    ≡ may_read_all (known_of l.known) (exprs_of (drop l.subscript-index l.subscripts))
