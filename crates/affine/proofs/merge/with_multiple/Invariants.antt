use Rattle.std.proofs.Common.{◌≡◌, ◌+◌, ◌++◌, length}
use Rattle.affine.specs.Affine.{IsCanonical}
use Rattle.affine.specs.Arithmetic.{with_multiple as multiple_added}
use Rattle.affine.specs.Limits.{TermsFit}
use Rattle.affine.proofs.merge.with_multiple.Given as goal

abbrev pub invariant-loop-split : goal.invariant-loop-split
invariant-loop-split l =
    record {
      total : l.terms.items ++ multiple_added l.factor l.multiple l.base ≡ multiple_added l.fn.factor l.initial.multiple l.initial.base;
      fits : TermsFit l.terms.items;
      multiple_left : IsCanonical l.multiple;
      base_left : IsCanonical l.base;
    }

abbrev pub decreases-loop-split : goal.decreases-loop-split
decreases-loop-split l = length l.multiple + length l.base
