use Rattle.std.proofs.Common.{◌≡◌, ◌↔◌, ◌⊎◌, true, take, length, All}
use Rattle.std.specs.List.{Any}
use Rattle.pairtest.specs.Equations.{IsRefuted, NumbersWithin}
use Rattle.pairtest.specs.DirectionVectors.{IsBoxEmpty, direction_equation, dimensions}
use Rattle.pairtest.proofs.direction.is_refuted.Given as goal

-- the box is empty or a dimension so far is refuted, and the numbers of all dimensions so far are within the limit
abbrev pub invariant-loop-s : goal.invariant-loop-s
invariant-loop-s l =
    record {
      refuted :
          (l.refuted ≡ true)
          ↔ (IsBoxEmpty l.nest l.at l.earlier l.later ⊎ Any (λ d. IsRefuted (direction_equation l.nest l.at l.earlier l.later d.0 d.1)) (take (length l.yielded) (dimensions l.earlier l.later)));
      within : All (λ d. NumbersWithin (direction_equation l.nest l.at l.earlier l.later d.0 d.1)) (take (length l.yielded) (dimensions l.earlier l.later));
    }
