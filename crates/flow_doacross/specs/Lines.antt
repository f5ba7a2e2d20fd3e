-- What directive lines say of a doacross nest, and where its lines stand. (OpenMP 5.2, 4.4.4, 15.9.6 and 15.10)
use Rattle.std.specs.Prelude.{ℕ, Bool, true, false, ◌==◌, List, Option, Some, None, option_map, option_and_then, ℤ}
use Rattle.semantics.specs.Tree.{Name, Variable}
use Rattle.semantics.specs.Directives.Directive.{Clause, Lastprivate, LastConditional, Reduction, Inscan, Collapse, Directive, DoacrossSource, DoacrossSink}
use Rattle.pragma.specs.Clauses.{Said, loop_of}
use Rattle.pragma.specs.Parallel.{associated}
use Rattle.pragma_attach.specs.Standing.{directive_on}

-- the elements of a sink: the names of a nest's variables, each with its offset
abbrev pub Elements : Type 0
Elements = List (Name × ℤ)

abbrev pub sink_said : Option (Directive Name) → Option Elements
sink_said (Some (DoacrossSink es)) = Some es
sink_said _ = None

-- those of the sink on the line of this number
abbrev pub sink_on : List ℕ → ℕ → Option Elements
sink_on text n = sink_said (directive_on text n)

abbrev pub is_source : Option (Directive Name) → Bool
is_source (Some DoacrossSource) = true
is_source _ = false

-- the source stands on it
abbrev pub is_source_line : List ℕ → ℕ → Bool
is_source_line text n = is_source (directive_on text n)

-- how many loops the directive on a line associates, where it is a loop's (OpenMP 5.2, 4.4.3 and 4.4.4)
abbrev pub associated_on : List ℕ → ℕ → Option ℕ
associated_on text n = option_map (λ (said : Said). associated said.1) (option_and_then loop_of (directive_on text n))

-- there is a number, and it is d
abbrev pub is_number : Option ℕ → ℕ → Bool
is_number None d = false
is_number (Some m) d = m == d

-- it associates d loops
abbrev pub associates : List ℕ → ℕ → ℕ → Bool
associates text n d = is_number (associated_on text n) d

-- a clause that may stand beside `ordered(d)`: it joins no loops, reduces nothing and gives no last value
abbrev pub suits_doacross : Clause Variable → Bool
suits_doacross (Collapse c) = false
suits_doacross (Reduction op xs) = false
suits_doacross (Inscan op x) = false
suits_doacross (Lastprivate xs) = false
suits_doacross (LastConditional xs) = false
suits_doacross _ = true
