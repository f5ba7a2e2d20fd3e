use Rattle.std.proofs.Common.{to_z, of_z, w64, subst, sym, rules}
use Rattle.std.proofs.lemmas.Int.{ints}
use Rattle.affine.specs.Affine.{IsCanonical}
use Rattle.affine.proofs.Terms.{IsCanonical-with_multiple}
use Rattle.affine.proofs.form.plus_multiple.Goals as goal

pub invariant_of-result : goal.invariant_of-result
invariant_of-result c =
    record {
      fits = record { constant = search (rules, ints); terms = c.in_ok-with_multiple.ensures.fits };
      canonical = subst IsCanonical (sym c.in_ok-with_multiple.ensures.ok) (IsCanonical-with_multiple (to_z w64 (of_z w64 c.args.factor)) c.as_slice.result.now c.args.terms.now c.requires);
    }
