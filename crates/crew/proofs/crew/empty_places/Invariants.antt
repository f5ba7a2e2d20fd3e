use Rattle.std.proofs.Common.{◌≡◌, vec_len}
use Rattle.crew.proofs.crew.empty_places.Given as goal

-- a place for each turn so far
abbrev pub invariant-loop-place : goal.invariant-loop-place
invariant-loop-place g l = vec_len l.places ≡ l._place
