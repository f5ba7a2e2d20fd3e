-- They hold by computation.
use Rattle.std.proofs.Common.{refl}
use Rattle.semantics.specs.Rows.Reader.{ReaderRows}

pub rows : ReaderRows
rows =
    record {
      directive = refl;
      run_together = refl;
      bare = refl;
      erase = refl;
      line = refl;
      words = refl;
      sum = refl;
      too_big = refl;
      below = refl;
      bare_shift = refl;
      shift = refl;
      zero = refl;
      untyped = refl;
      range = refl;
      one_branch = refl;
      both_branches = refl;
      private_after = refl;
      private_inside = refl;
      private_round = refl;
      private_behind = refl;
      right = refl;
      two_spaces = refl;
      no_end = refl;
      name = refl;
      count = refl;
      number = refl;
      count_first = refl;
      too_great = refl;
      twice = refl;
    }
