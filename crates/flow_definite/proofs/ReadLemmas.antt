-- An object with its subscripts, and what is left to read behind a name.
use Rattle.std.proofs.Common.{◌≡◌, Bool, true, false}
use Rattle.std.specs.Prelude.{◌&&◌}

-- what is left after one that may be read
pub and_on : (whole one rest : Bool) → whole ≡ (one && rest) → one ≡ true → whole ≡ rest
and_on whole true rest e f = e
and_on whole false rest e f = cc
