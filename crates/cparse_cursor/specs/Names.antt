-- What the code's visible names stand for.
use Rattle.std.specs.Prelude.{ℕ, ◌≡◌, List, [], ◌∷◌, Option, option_map}
use Rattle.std.specs.HashMap.{HashMap, get_by}
use Rattle.std.specs.Str.{bytes_eq}
use denote.Ref.{Bor}
use Rattle.semantics.specs.Tree.{Name}
use Rattle.semantics.specs.Source.Scope as meant
use Rattle.cparse_cursor.specs.declared.scope.Entity.{Entity}
use Rattle.cparse_cursor.specs.declared.scope.Entity.TheVariants.{Variable, Constant}
use Rattle.cparse_cursor.specs.declared.scope.Binding.{Binding}

-- what a name stands for
abbrev pub entity_of : Entity → meant.Entity
entity_of (Variable x n) = meant.AVariable x.0 n
entity_of (Constant n) = meant.AConstant n

-- a name with it
abbrev pub bound : Binding → Name × meant.Entity
bound b = (b.name.now, entity_of b.entity)

-- these names, the last one innermost, inside of others
abbrev pub seen : meant.Scope → List Binding → meant.Scope
seen scope [] = scope
seen scope (b ∷ bs) = seen (bound b ∷ scope) bs

-- all of them
abbrev pub names_of : List Binding → meant.Scope
names_of bs = seen [] bs

-- what a name stands for by a map
abbrev pub stands : {S : Type 0} → HashMap (Bor (List ℕ)) Entity S → Name → Option meant.Entity
stands latest name = option_map entity_of (get_by (λ k. bytes_eq name k.now) latest)

-- with each name is kept what it stood for before
abbrev pub IsKept : meant.Scope → List Binding → Type 0
IsKept scope [] = Unit {0}
IsKept scope (b ∷ bs) = (option_map entity_of b.before ≡ meant.find scope b.name.now) × IsKept (bound b ∷ scope) bs

-- a map has what each name stands for
abbrev pub IsTied : {S : Type 0} → HashMap (Bor (List ℕ)) Entity S → List Binding → Type 0
IsTied latest bs = ((name : Name) → stands latest name ≡ meant.find (names_of bs) name) × IsKept [] bs
