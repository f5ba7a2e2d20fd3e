-- What is known of directive lines: of each, whether it is there, and its clauses.
use Rattle.std.specs.Prelude.{ℕ, nat_eq, List, [], Option, Some, None, option_map}
use Rattle.std.specs.HashMap.{HashMap, get}
use Rattle.semantics.specs.Tree.{Variable}
use Rattle.semantics.specs.Directives.Directive.{Clause}
use Rattle.pragma_named.specs.declared.table.Clauses.{Clauses}
use Rattle.pragma_named.specs.Views.{resolved_clauses}

-- of each line: whether it is there, and its clauses, if their names are resolved and none of them stands twice
abbrev pub Known : Type 0
Known = ℕ → Option (Option (List (Clause Variable)))

-- what a table knows
abbrev pub kept : {S : Type 0} → HashMap ℕ Clauses S → Known
kept table n = option_map (λ c. Some (resolved_clauses c.clauses)) (get nat_eq table n)

-- the clauses of each line
abbrev pub Lines : Type 0
Lines = ℕ → List (Clause Variable)

-- those of a line that is not known are none
abbrev pub known_clauses : Option (Option (List (Clause Variable))) → List (Clause Variable)
known_clauses None = []
known_clauses (Some None) = []
known_clauses (Some (Some cs)) = cs

abbrev pub lines_known : Known → Lines
lines_known known n = known_clauses (known n)
