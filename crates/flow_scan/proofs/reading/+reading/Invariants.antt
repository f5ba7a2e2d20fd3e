use Rattle.std.proofs.Common.{◌≡◌, drop}
use Rattle.semantics.specs.Meaning.Agrees.{names_exprs}
use Rattle.ktree.specs.View.{exprs_of}
use Rattle.flow_scan.specs.Views.{is_spared}
use Rattle.flow_scan.proofs.reading.+reading.Given as goal

-- those that are left decide
abbrev pub invariant-in_subscripts-loop-subscript : goal.invariant-in_subscripts-loop-subscript
invariant-in_subscripts-loop-subscript l =
    names_exprs (is_spared l.set l.but.0) (exprs_of (drop l.subscript-index l.subscripts)) ≡ names_exprs (is_spared l.set l.but.0) (exprs_of l.subscripts)
