use Rattle.std.proofs.Common.{◌≡◌, length, take}
use Rattle.cparse_cursor.proofs.scope.close.Given as goal

-- the first names are there still
abbrev pub invariant-loop-scope : goal.invariant-loop-scope
invariant-loop-scope l = take l.length l.scope ≡ take l.length l.fn.scope

abbrev pub decreases-loop-scope : goal.decreases-loop-scope
decreases-loop-scope l = length l.scope
