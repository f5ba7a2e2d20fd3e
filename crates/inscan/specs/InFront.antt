-- What a scan's variable holds in front of each chunk. (OpenMP 5.2, 5.6)
use Rattle.std.specs.Prelude.{ℕ, ◌≡◌, ◌+◌, ◌≤◌, List, length, Option, Some, slice_index}
use Rattle.semantics.specs.Loops.Operator.{ReduceOp}
use Rattle.semantics.specs.Loops.Scan.{start_of}

-- the starts of chunks with these partials, and that of one chunk more, where the variable held this before the loop
pub record AreStarts (op : ReduceOp) (held : ℕ) (partials : List (Option ℕ)) (starts : List ℕ) : Type 0 where
  pub count : length starts ≡ length partials + 1
  pub each : (c : ℕ) → c ≤ length partials → start_of op (Some held) partials c ≡ Some (slice_index starts c)
