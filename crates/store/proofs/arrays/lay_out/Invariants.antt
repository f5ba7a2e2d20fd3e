use Rattle.std.proofs.Common.{◌≡◌, map}
use Rattle.store.specs.Placing.{Lie}
use Rattle.store.proofs.arrays.lay_out.Given as goal

-- the variables so far
abbrev pub invariant-loop-shape : goal.invariant-loop-shape
invariant-loop-shape l = Lie 0 l.places.items l.first × (map (λ p. p.shape) l.places.items ≡ l.yielded)
