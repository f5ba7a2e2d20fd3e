use Rattle.std.specs.Prelude.{◌≡◌, ◌++◌, take, flat_map, List, ℕ}
use Rattle.std.proofs.Common.{Bor}
use Rattle.listing.proofs.lines.add_parts.Given as goal

abbrev pub invariant-loop-part : goal.invariant-loop-part
invariant-loop-part l = l.text.items ≡ l.initial.text.items ++ flat_map (λ (part : Bor (List ℕ)). part.now) (take l.part-index l.parts)
