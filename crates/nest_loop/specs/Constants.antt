-- The enum constants in scope.
use Rattle.std.specs.Prelude.{◌<◌, ◌^◌, [], ◌∷◌}
use Rattle.semantics.specs.Source.Scope.{Scope, Entity, AVariable, AConstant}

-- so much is true of each entry
abbrev pub Each : (Entity → Type 0) → Scope → Type 0
Each P [] = Unit {0}
Each P (e ∷ es) = P e.1 × Each P es

-- an enum constant is below 2^31
abbrev pub IsSmall : Entity → Type 0
IsSmall (AVariable x n) = Unit {0}
IsSmall (AConstant n) = n < 2 ^ 31
