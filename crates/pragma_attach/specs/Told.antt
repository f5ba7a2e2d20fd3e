-- What is kept of a text's directive lines: the clauses of each, their names resolved where the line stands first.
use Rattle.std.specs.Prelude.{ℕ, Bool, true, false, nat_eq, if◌then◌else◌, ◌≡◌, List, [], ◌∷◌, flat_map, Option, Some, None}
use Rattle.semantics.specs.Tree.{Variable}
use Rattle.semantics.specs.Source.Scope.{Scope}
use Rattle.semantics.specs.Directives.Directive.{Clause}
use Rattle.semantics.specs.Directives.Annotated.{clauses_there, resolve_clauses}
use Rattle.semantics.specs.Directives.Naming.{variables_in, are_distinct}
use Rattle.pragma_attach.specs.declared.stop.Stop.{Stop}
use Rattle.pragma_attach.specs.declared.stop.Stop.TheVariants.{Memory, UnknownName, NamedTwice}
use Rattle.pragma_attach.specs.Standing.{directive_on}
use Rattle.pragma_named.specs.Known.{Known}

-- the first of two that is there
abbrev pub or : {A : Type 0} → Option A → Option A → Option A
or None b = b
or (Some a) b = Some a

-- clauses that name no variable twice
abbrev pub unless_twice : Option (List (Clause Variable)) → Option (List (Clause Variable))
unless_twice None = None
unless_twice (Some cs) = if are_distinct (flat_map variables_in cs) then Some cs else None

-- the clauses of a line by what is visible there
abbrev pub clauses_by : List ℕ → Scope → ℕ → Option (List (Clause Variable))
clauses_by text scope n = unless_twice (resolve_clauses scope (clauses_there (directive_on text n)))

-- a line is known by the first of these that has its number
abbrev pub told : List ℕ → List (ℕ × Scope) → Known
told text [] n = None
told text (l ∷ ls) n = if nat_eq l.0 n then Some (clauses_by text l.1 n) else told text ls n

-- what was known, and is told by these lines, is now known, and told by those that are left
abbrev pub Carries : List ℕ → Known → Known → List (ℕ × Scope) → List (ℕ × Scope) → Type 0
Carries text old new lines left = (n : ℕ) → or (new n) (told text left n) ≡ or (old n) (told text lines n)

-- a line whose names are not resolved, or stand twice
abbrev pub Misses : List ℕ → Known → List (ℕ × Scope) → Type 0
Misses text old lines = (n : ℕ) × (or (old n) (told text lines n) ≡ Some None)

-- what a reason to stop says
abbrev pub Blames : Stop → Type 0 → Type 0
Blames Memory P = Unit {0}
Blames (UnknownName place) P = P
Blames (NamedTwice place) P = P

-- a reason that tells of a name
abbrev pub tells_of : Stop → Bool
tells_of Memory = false
tells_of (UnknownName place) = true
tells_of (NamedTwice place) = true
