use Rattle.std.proofs.Common.{◌≡◌, ◌↔◌, ◌<◌, ℕ, true}
use Rattle.pairtest.specs.DirectionVectors.{IsDirectionRefuted, IsDirectionWithin}
use Rattle.pairtest.proofs.direction.independent.Given as goal

-- all cases so far are refuted or not all are, and their numbers are within the limit
abbrev pub invariant-loop-at : goal.invariant-loop-at
invariant-loop-at l =
    record {
      refuted : (l.all ≡ true) ↔ ((m : ℕ) → m < l.at → IsDirectionRefuted l.nest m l.x l.y × IsDirectionRefuted l.nest m l.y l.x);
      within : (m : ℕ) → m < l.at → IsDirectionWithin l.nest m l.x l.y × IsDirectionWithin l.nest m l.y l.x;
    }
