-- The reading of clauses from the front of a list of tokens (OpenMP 5.2, 3.2.1, 4.4.3, 4.4.4, 5.4, 5.5.8, 11.5.3, 15.6).
use Rattle.std.specs.Prelude.{ℕ, zero, suc, Bool, true, false, ◌&&◌, ◌^◌, nat_le, if◌then◌else◌, List, [], ◌∷◌, ◌++◌, Option, Some, None, codes}
use Rattle.std.specs.List.{list_all}
use Rattle.semantics.specs.Tree.{Name}
use Rattle.semantics.specs.Source.Token.{Token, Word}
use Rattle.semantics.specs.Source.Cuts.{is_decimal, decimal_from}
use Rattle.semantics.specs.Source.Scope.{same_name}
use Rattle.semantics.specs.Loops.Operator.{ReduceOp, Sum, Product, And, Or, Xor, AndAlso, OrElse, Max, Min}
use Rattle.semantics.specs.Directives.Directive.{Schedule, StaticPlain, StaticSize, DynamicSize, GuidedSize, Auto, Runtime, Clause, DefaultShared, DefaultNone, Nowait, Ordered, Shared, Private, Firstprivate, Lastprivate, LastConditional, Reduction, Inscan, ScheduledBy, Collapse, OrderedLoops}
use Rattle.semantics.specs.Directives.DirectiveGrammar.{is_list_name, each_once}
use Rattle.cparse_grammar.specs.Reading.{◌>>=◌, chosen}
use Rattle.cparse_grammar.specs.NextTokens.{open_paren, close_paren, comma, colon, word}

-- what is read at the front with the tokens behind it, or nothing
abbrev pub Reads : Type 0 → Type 0
Reads A = List Token → Option (A × List Token)

-- a run comes next
abbrev pub run : Reads (List ℕ)
run (Word w ∷ ts) = Some (w, ts)
run _ = None

-- no token is left
abbrev pub is_end : List Token → Bool
is_end [] = true
is_end _ = false

-- a word that is a name
abbrev pub name_in : List ℕ → Option Name
name_in w = if is_list_name w then Some w else None

-- a name comes next
abbrev pub name : Reads Name
name ts = run ts >>= λ w. name_in w.0 >>= λ x. Some (x, w.1)

-- behind these items further ones with commas between them, so many at most
abbrev pub listed : {A : Type 0} → Reads A → ℕ → List A → Reads (List A)
listed read zero xs ts = None
listed read (suc n) xs ts = read ts >>= λ x. chosen (comma x.1) (Some (xs ++ x.0 ∷ [], x.1)) (λ behind. listed read n (xs ++ x.0 ∷ []) behind)

-- names with commas between them, so many at most
abbrev pub names : ℕ → Reads (List Name)
names n ts = listed name n [] ts

-- a number within its limit where it is read exactly, and else 1 for any number
abbrev pub within : Bool → ℕ → ℕ → Option ℕ
within exact most n = if exact then (if nat_le n most then Some n else None) else Some 1

-- a bare literal from 1 on
abbrev pub number_in : Bool → ℕ → List ℕ → Option ℕ
number_in exact most w = if is_decimal w && nat_le 1 (decimal_from 0 w) then within exact most (decimal_from 0 w) else None

-- a number comes next
abbrev pub number : Bool → ℕ → Reads ℕ
number exact most ts = run ts >>= λ w. number_in exact most w.0 >>= λ n. Some (n, w.1)

-- a comma and a size, or neither
abbrev pub size : Bool → Reads (Option ℕ)
size exact ts = chosen (comma ts) (Some (None, ts)) (λ behind. number exact (2 ^ 24) behind >>= λ k. Some (Some k.0, k.1))

-- a kind of schedule without a size
abbrev pub plain_kind : List ℕ → Option Schedule
plain_kind w =
    if same_name w (codes "static") then Some StaticPlain
    else (if same_name w (codes "dynamic") then Some (DynamicSize 1)
    else (if same_name w (codes "guided") then Some (GuidedSize 1)
    else (if same_name w (codes "auto") then Some Auto
    else (if same_name w (codes "runtime") then Some Runtime else None))))

-- a kind of schedule with a size
abbrev pub sized_kind : List ℕ → ℕ → Option Schedule
sized_kind w k =
    if same_name w (codes "static") then Some (StaticSize k)
    else (if same_name w (codes "dynamic") then Some (DynamicSize k)
    else (if same_name w (codes "guided") then Some (GuidedSize k) else None))

-- a kind of schedule
abbrev pub kind : List ℕ → Option ℕ → Option Schedule
kind w k = chosen k (plain_kind w) (λ k. sized_kind w k)

-- what stands between the parentheses of a schedule clause
abbrev pub schedule : Bool → Reads Schedule
schedule exact ts = run ts >>= λ w. size exact w.1 >>= λ k. kind w.0 k.0 >>= λ s. Some (s, k.1)

-- a reduction operator
abbrev pub operator : List ℕ → Option ReduceOp
operator w =
    if same_name w (codes "+") then Some Sum
    else (if same_name w (codes "*") then Some Product
    else (if same_name w (codes "&") then Some And
    else (if same_name w (codes "|") then Some Or
    else (if same_name w (codes "^") then Some Xor
    else (if same_name w (codes "&&") then Some AndAlso
    else (if same_name w (codes "||") then Some OrElse
    else (if same_name w (codes "max") then Some Max
    else (if same_name w (codes "min") then Some Min else None))))))))

-- a reduction operator and its colon
abbrev pub identifier : Reads ReduceOp
identifier ts = run ts >>= λ w. operator w.0 >>= λ op. colon w.1 >>= λ behind. Some (op, behind)

-- the operator and the one name behind `inscan`
abbrev pub inscan : Reads (Clause Name)
inscan ts = comma ts >>= λ behind. identifier behind >>= λ op. name op.1 >>= λ x. Some (Inscan op.0 x.0, x.1)

-- what stands between the parentheses of a reduction clause
abbrev pub reduction : ℕ → Reads (Clause Name)
reduction n ts =
    chosen (word (codes "inscan") ts) (identifier ts >>= λ op. names n op.1 >>= λ xs. Some (Reduction op.0 xs.0, xs.1)) (λ behind. inscan behind)

-- `conditional` and its colon come next
abbrev pub conditional : List Token → Option (List Token)
conditional ts = word (codes "conditional") ts >>= λ behind. colon behind

-- what stands between the parentheses of a lastprivate clause
abbrev pub last : ℕ → Reads (Clause Name)
last n ts =
    chosen (conditional ts) (names n ts >>= λ xs. Some (Lastprivate xs.0, xs.1)) (λ behind. names n behind >>= λ xs. Some (LastConditional xs.0, xs.1))

-- a clause of which names alone stand in the parentheses
abbrev pub naming : List ℕ → List Name → Option (Clause Name)
naming w xs =
    if same_name w (codes "shared") then Some (Shared xs)
    else (if same_name w (codes "private") then Some (Private xs)
    else (if same_name w (codes "firstprivate") then Some (Firstprivate xs) else None))

-- names, and the clause that they stand in
abbrev pub named : ℕ → List ℕ → Reads (Clause Name)
named n w ts = names n ts >>= λ xs. naming w xs.0 >>= λ c. Some (c, xs.1)

-- what stands between the parentheses of a default clause
abbrev pub default' : List ℕ → Option (Clause Name)
default' w = if same_name w (codes "shared") then Some DefaultShared else (if same_name w (codes "none") then Some DefaultNone else None)

-- what stands between the parentheses of a clause without names
abbrev pub plain : Bool → List ℕ → Reads (Clause Name)
plain exact w ts =
    if same_name w (codes "default") then (run ts >>= λ v. default' v.0 >>= λ c. Some (c, v.1))
    else (if same_name w (codes "schedule") then (schedule exact ts >>= λ s. Some (ScheduledBy s.0, s.1))
    else (if same_name w (codes "collapse") then (number exact 4 ts >>= λ c. Some (Collapse c.0, c.1)) else None))

-- a clause without names goes by this word
abbrev pub is_plain : List ℕ → Bool
is_plain w = if same_name w (codes "default") then true else (if same_name w (codes "schedule") then true else same_name w (codes "collapse"))

-- what stands between the parentheses behind a word
abbrev pub inside : Bool → ℕ → List ℕ → Reads (Clause Name)
inside exact n w ts =
    if is_plain w then plain exact w ts
    else (if same_name w (codes "reduction") then reduction n ts
    else (if same_name w (codes "lastprivate") then last n ts else named n w ts))

-- the parentheses behind a word, and what stands between them
abbrev pub enclosed : Bool → ℕ → List ℕ → Reads (Clause Name)
enclosed exact n w ts = open_paren ts >>= λ inner. inside exact n w inner >>= λ c. close_paren c.1 >>= λ rest. Some (c.0, rest)

-- the number of loops in parentheses
abbrev pub loops : Bool → Reads (Clause Name)
loops exact ts = number exact 4 ts >>= λ n. close_paren n.1 >>= λ rest. Some (OrderedLoops n.0, rest)

-- what stands behind `ordered`
abbrev pub ordered_clause : Bool → Reads (Clause Name)
ordered_clause exact ts = chosen (open_paren ts) (Some (Ordered, ts)) (λ inner. loops exact inner)

-- a clause behind its word, of so many names at most
abbrev pub behind_word : Bool → ℕ → List ℕ → Reads (Clause Name)
behind_word exact n w ts =
    if same_name w (codes "nowait") then Some (Nowait, ts)
    else (if same_name w (codes "ordered") then ordered_clause exact ts else enclosed exact n w ts)

-- a clause
abbrev pub clause : Bool → ℕ → Reads (Clause Name)
clause exact n ts = run ts >>= λ w. behind_word exact n w.0 w.1

-- behind a comma, if one comes next
abbrev pub behind_comma : List Token → List Token
behind_comma ts = chosen (comma ts) ts (λ behind. behind)

-- behind these clauses further ones up to the end, so many at most
abbrev pub further : Bool → ℕ → ℕ → List (Clause Name) → List Token → Option (List (Clause Name))
further exact most zero cs ts = None
further exact most (suc n) cs ts =
    if is_end ts then Some cs
    else (clause exact most (behind_comma ts) >>= λ c. further exact most n (cs ++ c.0 ∷ []) c.1)

-- clauses up to the end, of which the first has no comma in front
abbrev pub clauses : Bool → ℕ → List Token → Option (List (Clause Name))
clauses exact n ts = chosen (comma ts) (further exact n n [] ts) (λ behind. None)

-- clauses that may all stand on a directive
abbrev pub directive_clauses : Bool → ℕ → (Clause Name → Bool) → List Token → Option (List (Clause Name))
directive_clauses exact n may ts = clauses exact n ts >>= λ cs. if list_all may cs && each_once cs then Some cs else None
