use Rattle.std.proofs.Common.{◌≡◌, ◌+◌, ℕ, List, [], ◌∷◌, drop, length}
use Rattle.lower_op.specs.Stretches.{written}
use Rattle.team_parts.specs.Lent.{lent_cells}
use Rattle.team_parts.proofs.cells.PartedCells.write_beside.Given as goal

abbrev pub invariant-loop-k : goal.invariant-loop-k
invariant-loop-k l = record {
  rest : written (l.first + l.k) (drop l.k l.numbers) (lent_cells l.self.surroundings l.self.own.now l.self.reserve.now) ≡ written l.first l.numbers (lent_cells l.initial.self.surroundings l.initial.self.own.now l.initial.self.reserve.now);
  kept : ◌≡◌ {A = List (List ℕ)} ((l.self.own.ghost_name ∷ l.self.reserve.ghost_name ∷ length l.self.own.now ∷ l.self.reserve.now.room ∷ (length l.self.surroundings.before.now + l.self.surroundings.left) ∷ l.self.surroundings.count ∷ l.self.surroundings.all ∷ []) ∷ []) ((l.initial.self.own.ghost_name ∷ l.initial.self.reserve.ghost_name ∷ length l.initial.self.own.now ∷ l.initial.self.reserve.now.room ∷ (length l.initial.self.surroundings.before.now + l.initial.self.surroundings.left) ∷ l.initial.self.surroundings.count ∷ l.initial.self.surroundings.all ∷ []) ∷ []);
}
