-- They hold by computation, decimals by the standard library's own digits.
use Rattle.std.proofs.Common.{refl}
use Rattle.std.specs.Fmt.{digits}
use Rattle.semantics.specs.Meaning.Runs.{greatest_trip_count}
use Rattle.semantics.specs.Rows.Outputs.{OutputRows}

pub rows : OutputRows
unfolding greatest_trip_count digits
rows =
    record {
      filled = refl;
      counted = refl;
      printed = refl;
      erased = refl;
      dynamic = refl;
      doacross = refl;
      reductions = refl;
      two_loops = refl;
    }
