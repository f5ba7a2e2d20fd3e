-- Names in clauses that stand where they may, by the clauses that are known of each line (OpenMP 5.2, 5.1.1 and 5.4.1).
use Rattle.std.specs.Prelude.{Bool, true, not, ◌&&◌, List, ◌++◌, flat_map, None}
use Rattle.std.specs.List.{list_any, list_all}
use Rattle.semantics.specs.Tree.{Variable, Stmt, Kernel}
use Rattle.semantics.specs.Meaning.Agrees.{is_among}
use Rattle.semantics.specs.Directives.Directive.{Clause}
use Rattle.semantics.specs.Directives.Naming.{outside_of, variables_in, covers, kept_private, constructs_in}
use Rattle.pragma_named.specs.Known.{Lines}
use Rattle.pragma_named.specs.Lines.{Question, each_among}

-- a variable is one of some, or is none of them, as it is wanted
abbrev pub is_wanted : Bool → Bool → Bool
is_wanted true has = has
is_wanted _ has = not has

-- each name of a line is wanted
abbrev pub are_wanted : Bool → (Variable → Bool) → List Variable → Bool
are_wanted wanted among xs = list_all (λ x. is_wanted wanted (among x)) xs

abbrev pub line_wanted : Bool → (Variable → Bool) → Lines → Question
line_wanted wanted among lines n s = are_wanted wanted among (flat_map variables_in (lines n))

-- the names in the clauses of the constructs inside a statement
abbrev pub names_inside : Lines → Stmt → List Variable
names_inside lines s = flat_map (λ c. flat_map variables_in (lines c.0)) (constructs_in s)

-- those are shared round the statement
abbrev pub are_shared : Lines → List (Clause Variable) → Stmt → Bool
are_shared lines cs s = not (list_any (is_among (flat_map kept_private cs)) (names_inside lines s))

-- default(none) is met
abbrev pub is_covered : Lines → List (Clause Variable) → Stmt → Bool
is_covered lines cs s = covers cs (outside_of s ++ names_inside lines s)

-- both, of a construct
abbrev pub names_rightly : Lines → Question
names_rightly lines n s = are_shared lines (lines n) s && is_covered lines (lines n) s

-- of each construct of a kernel
abbrev pub name_rightly : Lines → Kernel → Bool
name_rightly lines k = each_among (names_rightly lines) None k.body
