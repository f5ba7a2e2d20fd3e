-- They hold by computation.
use Rattle.std.proofs.Common.{refl}
use Rattle.semantics.specs.Meaning.Runs.{greatest_trip_count}
use Rattle.semantics.specs.Rows.Numbers.{NumberRows}

pub rows : NumberRows
unfolding greatest_trip_count
rows =
    record {
      plain = refl;
      plain_few = refl;
      static = refl;
      owners = refl;
      dynamic = refl;
      guided_one = refl;
      guided_two = refl;
      guided_three = refl;
      none = refl;
      values = refl;
      triangle = refl;
      waves = refl;
      waves_square = refl;
      waves_two = refl;
      offsets = refl;
      two_starts = refl;
      four_starts = refl;
      untouched = refl;
      touched = refl;
      filling = refl;
    }
