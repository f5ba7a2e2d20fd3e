-- The reading of directives from the front of a list of tokens (OpenMP 5.2, 5.6, 10.1, 11.5.1, 15.9, 15.10, 17).
use Rattle.std.specs.Prelude.{ℕ, suc, Bool, true, false, ◌||◌, ◌==◌, if◌then◌else◌, List, [], ◌∷◌, length, take, drop, Option, Some, None, ℤ, pos, neg_ℤ, codes}
use Rattle.semantics.specs.Tree.{Name, Suffix, Bare, Ull}
use Rattle.semantics.specs.Source.Text.{is_directive_line, behind_omp}
use Rattle.semantics.specs.Source.Token.{Token}
use Rattle.semantics.specs.Source.Cuts.{is_digit, is_decimal, decimal_from}
use Rattle.semantics.specs.Source.Typing.{in_range}
use Rattle.semantics.specs.Source.Scope.{same_name}
use Rattle.semantics.specs.Directives.Directive.{Directive, ParallelFor, Parallel, Worksharing, ScanInclusive, ScanExclusive, OrderedRegion, DoacrossSource, DoacrossSink}
use Rattle.semantics.specs.Directives.DirectiveGrammar.{words, on_parallel_for, on_parallel, on_for}
use Rattle.cparse_grammar.specs.Reading.{◌>>=◌, chosen}
use Rattle.cparse_grammar.specs.NextTokens.{open_paren, close_paren, colon, word}
use Rattle.pragma_clause.specs.ClauseReader.{Reads, run, is_end, name_in, name, listed, directive_clauses}

-- `)`, and no token behind it
abbrev pub closes : List Token → Option (List Token)
closes ts = close_paren ts >>= λ rest. if is_end rest then Some rest else None

-- the one name of a scan directive
abbrev pub enclosed_name : List Token → Option Name
enclosed_name ts = open_paren ts >>= λ inner. name inner >>= λ x. closes x.1 >>= λ rest. Some x.0

-- a scan directive of this kind
abbrev pub scan_kind : List ℕ → Name → Option (Directive Name)
scan_kind w x =
    if same_name w (codes "inclusive") then Some (ScanInclusive x) else (if same_name w (codes "exclusive") then Some (ScanExclusive x) else None)

-- what stands behind `scan`
abbrev pub scan : List Token → Option (Directive Name)
scan ts = run ts >>= λ w. enclosed_name w.1 >>= λ x. scan_kind w.0 x

-- how many digits stand at the front
abbrev pub digits_length : List ℕ → ℕ
digits_length [] = 0
digits_length (b ∷ bs) = if is_digit b then suc (digits_length bs) else 0

-- the suffix that all of a text is
abbrev pub suffix_in : List ℕ → Option Suffix
suffix_in bs = if same_name bs [] then Some Bare else (if same_name bs (codes "ull") then Some Ull else None)

-- the value of digits, where their suffix has one so great
abbrev pub value_in : List ℕ → Suffix → Option ℕ
value_in ds suffix = if is_decimal ds then (if in_range suffix (decimal_from 0 ds) then Some (decimal_from 0 ds) else None) else None

-- the value of a literal
abbrev pub literal_in : List ℕ → Option ℕ
literal_in bs = suffix_in (drop (digits_length bs) bs) >>= λ suffix. value_in (take (digits_length bs) bs) suffix

-- how many bytes stand before the first sign
abbrev pub sign_at : List ℕ → ℕ
sign_at [] = 0
sign_at (b ∷ bs) = if (b == 43) || (b == 45) then 0 else suc (sign_at bs)

-- a sign and a literal, or nothing
abbrev pub offset_in : List ℕ → Option ℤ
offset_in [] = Some (pos 0)
offset_in (b ∷ bs) = literal_in bs >>= λ n. if b == 43 then Some (pos n) else Some (neg_ℤ (pos n))

-- an element of a sink
abbrev pub element_in : List ℕ → Option (Name × ℤ)
element_in w = name_in (take (sign_at w) w) >>= λ x. offset_in (drop (sign_at w) w) >>= λ n. Some (x, n)

-- an element comes next
abbrev pub element : Reads (Name × ℤ)
element ts = run ts >>= λ w. element_in w.0 >>= λ e. Some (e, w.1)

-- a sink's elements with commas between them, so many at most
abbrev pub vector : ℕ → Reads (List (Name × ℤ))
vector n ts = listed element n [] ts

-- what stands behind `sink` and its colon
abbrev pub sink : ℕ → List Token → Option (Directive Name)
sink n ts = vector n ts >>= λ es. closes es.1 >>= λ rest. Some (DoacrossSink es.0)

-- what stands behind `source` and its colon
abbrev pub source : List Token → Option (Directive Name)
source ts = closes ts >>= λ rest. Some DoacrossSource

-- what a doacross clause asks for, behind the colon
abbrev pub dependence : ℕ → List ℕ → List Token → Option (Directive Name)
dependence n w ts = if same_name w (codes "source") then source ts else (if same_name w (codes "sink") then sink n ts else None)

-- what stands behind `doacross`
abbrev pub doacross : ℕ → List Token → Option (Directive Name)
doacross n ts = open_paren ts >>= λ inner. run inner >>= λ w. colon w.1 >>= λ behind. dependence n w.0 behind

-- what stands behind `ordered`, as a directive
abbrev pub ordered : ℕ → List Token → Option (Directive Name)
ordered n ts = if is_end ts then Some OrderedRegion else (word (codes "doacross") ts >>= λ behind. doacross n behind)

-- what stands behind `for`
abbrev pub worksharing : Bool → ℕ → List Token → Option (Directive Name)
worksharing exact n ts = directive_clauses exact n on_for ts >>= λ cs. Some (Worksharing cs)

-- what stands behind `parallel for`
abbrev pub parallel_for : Bool → ℕ → List Token → Option (Directive Name)
parallel_for exact n ts = directive_clauses exact n on_parallel_for ts >>= λ cs. Some (ParallelFor cs)

-- what stands behind `parallel`
abbrev pub parallel : Bool → ℕ → List Token → Option (Directive Name)
parallel exact n ts =
    chosen (word (codes "for") ts) (directive_clauses exact n on_parallel ts >>= λ cs. Some (Parallel cs)) (λ behind. parallel_for exact n behind)

-- what stands behind the first word of a directive
abbrev pub behind_first : Bool → ℕ → List ℕ → List Token → Option (Directive Name)
behind_first exact n w ts =
    if same_name w (codes "parallel") then parallel exact n ts
    else (if same_name w (codes "for") then worksharing exact n ts
    else (if same_name w (codes "scan") then scan ts
    else (if same_name w (codes "ordered") then ordered n ts else None)))

-- a directive, of so many names and clauses at most
abbrev pub directive : Bool → ℕ → List Token → Option (Directive Name)
directive exact n ts = run ts >>= λ w. behind_first exact n w.0 w.1

-- the directive of a line
abbrev pub line_directive : Bool → List ℕ → Option (Directive Name)
line_directive exact bs = if is_directive_line bs then directive exact (length bs) (words (behind_omp bs)) else None

-- the directive of a line whatever the size of its numbers: with 1 for each of them where one is above its limit
abbrev pub line_form : List ℕ → Option (Directive Name)
line_form bs = chosen (line_directive true bs) (line_directive false bs) Some
