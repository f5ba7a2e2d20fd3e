-- Perfect nests in a tree with all of its directive lines: one between two loops is an item too many. (OpenMP 5.2, 4.4.1, 4.4.3 and 4.4.4)
use Rattle.std.specs.Prelude.{ℕ, Bool, true, List, Option, Some, None, is_some, option_and_then}
use Rattle.semantics.specs.Tree.{Stmt, Kernel}
use Rattle.semantics.specs.Loops.Nest.{nest_of}
use Rattle.pragma.specs.Clauses.{Said, loop_of}
use Rattle.pragma.specs.Parallel.{associated}
use Rattle.pragma_named.specs.Lines.{Question, each_among}
use Rattle.pragma_attach.specs.Standing.{directive_on}

-- what the directive on the line of this number says, where it is a loop's
abbrev pub said_on : List ℕ → ℕ → Option Said
said_on text n = option_and_then loop_of (directive_on text n)

-- as many loops as it associates, one directly in the other
abbrev pub nests_as : Option Said → Stmt → Bool
nests_as None s = true
nests_as (Some said) s = is_some (nest_of (associated said.1) s)

-- asked of a line and the statement behind it
abbrev pub is_perfect : List ℕ → Question
is_perfect text n s = nests_as (said_on text n) s

-- and of each line of a kernel
abbrev pub has_perfect_nests : List ℕ → Kernel → Bool
has_perfect_nests text k = each_among (is_perfect text) None k.body
