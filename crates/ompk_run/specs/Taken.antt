-- Registers that take what variables with a role hold behind a loop that was run over a copy of them. (OpenMP 5.2, 5.4.5 and 5.5.8)
use Rattle.std.specs.Prelude.{ℕ, List, [], ◌∷◌, map, slice_index, slice_set}
use Rattle.lower.specs.declared.roles.Spot.{Spot}
use Rattle.lower.specs.declared.roles.Spot.TheVariants.{Register, Cell}
use Rattle.lower.specs.declared.roles.LoweredReduction.{LoweredReduction}
use Rattle.lower.specs.declared.roles.LoweredRoles.{LoweredRoles}

-- the register where a local stands takes what it holds in the copy
abbrev pub taken_at : List ℕ → Spot → List ℕ → List ℕ
taken_at own (Register x) registers = slice_set registers x.0 (slice_index own x.0)
taken_at own (Cell place) registers = registers

-- so do several
abbrev pub taken_each : List ℕ → List Spot → List ℕ → List ℕ
taken_each own [] registers = registers
taken_each own (at ∷ spots) registers = taken_each own spots (taken_at own at registers)

-- where reduction variables stand
abbrev pub reduced_at : List LoweredReduction → List Spot
reduced_at ls = map (λ l. l.spot) ls

-- so do lastprivate and reduction variables
abbrev pub taken : List ℕ → LoweredRoles → List ℕ → List ℕ
taken own roles registers = taken_each own (reduced_at roles.reductions.items) (taken_each own roles.lasts.items registers)
