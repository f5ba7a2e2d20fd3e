-- The grammar of directives and clauses: a constructor for each production (OpenMP 5.2, 3).
use Rattle.std.specs.Prelude.{ℕ, Bool, true, false, not, ◌==◌, ◌&&◌, ◌||◌, ◌≡◌, ◌^◌, nat_le, if◌then◌else◌, List, [], ◌∷◌, ◌++◌, length, filter, ℤ, pos, neg_ℤ, codes}
use Rattle.std.specs.List.{list_all}
use Rattle.semantics.specs.Tree.{Name, Suffix}
use Rattle.semantics.specs.Source.Text.{is_blank, is_directive_line, behind_omp}
use Rattle.semantics.specs.Source.Token.{Token, Word, Punctuator, Symbol, OpenParen, CloseParen, Comma, Colon}
use Rattle.semantics.specs.Source.Cuts.{is_name, is_decimal, decimal_from, suffix_text}
use Rattle.semantics.specs.Source.Typing.{in_range}
use Rattle.semantics.specs.Source.Scope.{is_reserved}
use Rattle.semantics.specs.Loops.Operator.{ReduceOp}
use Rattle.semantics.specs.Directives.Directive.{Schedule, StaticPlain, StaticSize, DynamicSize, GuidedSize, Auto, Runtime, Clause, DefaultShared, DefaultNone, Nowait, Ordered, Shared, Private, Firstprivate, Lastprivate, LastConditional, Reduction, Inscan, ScheduledBy, Collapse, OrderedLoops, Directive, ParallelFor, Parallel, Worksharing, ScanInclusive, ScanExclusive, OrderedRegion, DoacrossSource, DoacrossSink, op_text}

-- a blank, or one of ( ) , :
abbrev pub ends_run : ℕ → Bool
ends_run b = is_blank b || ((b == 40) || ((b == 41) || ((b == 44) || (b == 58))))

-- which of the four it is
abbrev pub mark_of : ℕ → Symbol
mark_of b = if b == 40 then OpenParen else (if b == 41 then CloseParen else (if b == 44 then Comma else Colon))

-- a blank is no token
abbrev pub with_mark : ℕ → List Token → List Token
with_mark b ts = if is_blank b then ts else Punctuator (mark_of b) ∷ ts

-- a run of no bytes is no token
abbrev pub with_run : List ℕ → List Token → List Token
with_run [] ts = ts
with_run (b ∷ bs) ts = Word (b ∷ bs) ∷ ts

-- ( ) , : and the longest runs of other bytes between them and blanks; run: what was passed of one
abbrev pub words_from : List ℕ → List ℕ → List Token
words_from run [] = with_run run []
words_from run (b ∷ bs) = if ends_run b then with_run run (with_mark b (words_from [] bs)) else words_from (run ++ b ∷ []) bs

-- the tokens of the rest of a directive line
abbrev pub words : List ℕ → List Token
words bs = words_from [] bs

-- a name that is no reserved word
abbrev pub is_list_name : List ℕ → Bool
is_list_name w = is_name w && not (is_reserved w)

-- names with commas between them (OpenMP 5.2, 3.2.1)
pub data ReadsNames : List Token → List Name → Type 0 where
  only : {w : Name} → is_list_name w ≡ true → ReadsNames (Word w ∷ []) (w ∷ [])
  further : {w : Name} {ts : List Token} {ws : List Name} → is_list_name w ≡ true → ReadsNames ts ws → ReadsNames (Word w ∷ Punctuator Comma ∷ ts) (w ∷ ws)

-- a bare literal from 1 to a greatest
pub data ReadsNumber (most : ℕ) : List ℕ → ℕ → Type 0 where
  number : {ds : List ℕ} → is_decimal ds ≡ true → (nat_le 1 (decimal_from 0 ds) && nat_le (decimal_from 0 ds) most) ≡ true → ReadsNumber most ds (decimal_from 0 ds)

-- what stands between the parentheses of a schedule clause; a size is 1..2^24
pub data ReadsSchedule : List Token → Schedule → Type 0 where
  static_plain : ReadsSchedule (Word (codes "static") ∷ []) StaticPlain
  static_size : {w : List ℕ} {k : ℕ} → ReadsNumber (2 ^ 24) w k → ReadsSchedule (Word (codes "static") ∷ Punctuator Comma ∷ Word w ∷ []) (StaticSize k)
  dynamic : ReadsSchedule (Word (codes "dynamic") ∷ []) (DynamicSize 1)
  dynamic_size : {w : List ℕ} {k : ℕ} → ReadsNumber (2 ^ 24) w k → ReadsSchedule (Word (codes "dynamic") ∷ Punctuator Comma ∷ Word w ∷ []) (DynamicSize k)
  guided : ReadsSchedule (Word (codes "guided") ∷ []) (GuidedSize 1)
  guided_size : {w : List ℕ} {k : ℕ} → ReadsNumber (2 ^ 24) w k → ReadsSchedule (Word (codes "guided") ∷ Punctuator Comma ∷ Word w ∷ []) (GuidedSize k)
  auto : ReadsSchedule (Word (codes "auto") ∷ []) Auto
  runtime : ReadsSchedule (Word (codes "runtime") ∷ []) Runtime

-- a word and what stands in its parentheses
abbrev pub called : Name → List Token → List Token
called w ts = Word w ∷ Punctuator OpenParen ∷ (ts ++ Punctuator CloseParen ∷ [])

-- a clause (OpenMP 5.2, 4.4.3, 4.4.4, 5.4, 5.5.8, 11.5.3, 15.6)
pub data ReadsClause : List Token → Clause Name → Type 0 where
  default_shared : ReadsClause (called (codes "default") (Word (codes "shared") ∷ [])) DefaultShared
  default_none : ReadsClause (called (codes "default") (Word (codes "none") ∷ [])) DefaultNone
  shared : {ts : List Token} {ws : List Name} → ReadsNames ts ws → ReadsClause (called (codes "shared") ts) (Shared ws)
  private : {ts : List Token} {ws : List Name} → ReadsNames ts ws → ReadsClause (called (codes "private") ts) (Private ws)
  firstprivate : {ts : List Token} {ws : List Name} → ReadsNames ts ws → ReadsClause (called (codes "firstprivate") ts) (Firstprivate ws)
  lastprivate : {ts : List Token} {ws : List Name} → ReadsNames ts ws → ReadsClause (called (codes "lastprivate") ts) (Lastprivate ws)
  last_conditional : {ts : List Token} {ws : List Name} → ReadsNames ts ws →
      ReadsClause (called (codes "lastprivate") (Word (codes "conditional") ∷ Punctuator Colon ∷ ts)) (LastConditional ws)
  reduction : {ts : List Token} {ws : List Name} (op : ReduceOp) → ReadsNames ts ws →
      ReadsClause (called (codes "reduction") (Word (op_text op) ∷ Punctuator Colon ∷ ts)) (Reduction op ws)
  inscan : {w : Name} (op : ReduceOp) → is_list_name w ≡ true →
      ReadsClause (called (codes "reduction") (Word (codes "inscan") ∷ Punctuator Comma ∷ Word (op_text op) ∷ Punctuator Colon ∷ Word w ∷ [])) (Inscan op w)
  schedule : {ts : List Token} {kind : Schedule} → ReadsSchedule ts kind → ReadsClause (called (codes "schedule") ts) (ScheduledBy kind)
  collapse : {w : List ℕ} {c : ℕ} → ReadsNumber 4 w c → ReadsClause (called (codes "collapse") (Word w ∷ [])) (Collapse c)
  ordered : ReadsClause (Word (codes "ordered") ∷ []) Ordered
  ordered_loops : {w : List ℕ} {n : ℕ} → ReadsNumber 4 w n → ReadsClause (called (codes "ordered") (Word w ∷ [])) (OrderedLoops n)
  nowait : ReadsClause (Word (codes "nowait") ∷ []) Nowait

-- one comma may stand between two clauses (OpenMP 5.2, 3.1)
pub data ReadsFurther : List Token → List (Clause Name) → Type 0 where
  no_further : ReadsFurther [] []
  next : {ts us : List Token} {c : Clause Name} {cs : List (Clause Name)} → ReadsClause ts c → ReadsFurther us cs → ReadsFurther (ts ++ us) (c ∷ cs)
  next_behind_comma : {ts us : List Token} {c : Clause Name} {cs : List (Clause Name)} →
      ReadsClause ts c → ReadsFurther us cs → ReadsFurther (Punctuator Comma ∷ (ts ++ us)) (c ∷ cs)

-- a list of clauses begins with no comma
pub data ReadsClauses : List Token → List (Clause Name) → Type 0 where
  no_clauses : ReadsClauses [] []
  first : {ts us : List Token} {c : Clause Name} {cs : List (Clause Name)} → ReadsClause ts c → ReadsFurther us cs → ReadsClauses (ts ++ us) (c ∷ cs)

-- OpenMP 5.2, 5.4.1
abbrev pub is_default : Clause Name → Bool
is_default DefaultShared = true
is_default DefaultNone = true
is_default _ = false

-- OpenMP 5.2, 11.5.3
abbrev pub is_schedule : Clause Name → Bool
is_schedule (ScheduledBy kind) = true
is_schedule _ = false

-- OpenMP 5.2, 4.4.3
abbrev pub is_collapse : Clause Name → Bool
is_collapse (Collapse c) = true
is_collapse _ = false

-- OpenMP 5.2, 4.4.4
abbrev pub is_ordered : Clause Name → Bool
is_ordered Ordered = true
is_ordered (OrderedLoops n) = true
is_ordered _ = false

-- OpenMP 5.2, 15.6
abbrev pub is_nowait : Clause Name → Bool
is_nowait Nowait = true
is_nowait _ = false

-- OpenMP 5.2, 5.4.2
abbrev pub is_shared : Clause Name → Bool
is_shared (Shared xs) = true
is_shared _ = false

-- OpenMP 5.2, 5.4.3 and 5.4.4
abbrev pub is_private : Clause Name → Bool
is_private (Private xs) = true
is_private (Firstprivate xs) = true
is_private _ = false

-- which clauses stand on which directive
abbrev pub on_parallel_for : Clause Name → Bool
on_parallel_for c = not (is_nowait c)

-- on `parallel`: default, shared, private and firstprivate
abbrev pub on_parallel : Clause Name → Bool
on_parallel c = is_default c || (is_shared c || is_private c)

-- on `for`: all but default and shared
abbrev pub on_for : Clause Name → Bool
on_for c = not (is_default c || is_shared c)

-- no two clauses of a kind
abbrev pub at_most_one : (Clause Name → Bool) → List (Clause Name) → Bool
at_most_one is cs = nat_le (length (filter is cs)) 1

-- these clauses stand at most once in a directive
abbrev pub each_once : List (Clause Name) → Bool
each_once cs = at_most_one is_default cs && at_most_one is_schedule cs && at_most_one is_collapse cs && at_most_one is_ordered cs && at_most_one is_nowait cs

-- an element of a sink is one word: a name, or a name, a sign and a literal (OpenMP 5.2, 15.9)
pub data ReadsElement : List ℕ → Name × ℤ → Type 0 where
  here : {w : Name} → is_list_name w ≡ true → ReadsElement w (w, pos 0)
  above : {w : Name} (ds : List ℕ) (suffix : Suffix) → is_list_name w ≡ true → is_decimal ds ≡ true → in_range suffix (decimal_from 0 ds) ≡ true →
      ReadsElement (w ++ 43 ∷ (ds ++ suffix_text suffix)) (w, pos (decimal_from 0 ds))
  below : {w : Name} (ds : List ℕ) (suffix : Suffix) → is_list_name w ≡ true → is_decimal ds ≡ true → in_range suffix (decimal_from 0 ds) ≡ true →
      ReadsElement (w ++ 45 ∷ (ds ++ suffix_text suffix)) (w, neg_ℤ (pos (decimal_from 0 ds)))

-- a sink's vector, one element a loop
pub data ReadsElements : List Token → List (Name × ℤ) → Type 0 where
  only_element : {w : List ℕ} {e : Name × ℤ} → ReadsElement w e → ReadsElements (Word w ∷ []) (e ∷ [])
  element : {w : List ℕ} {ts : List Token} {e : Name × ℤ} {es : List (Name × ℤ)} →
      ReadsElement w e → ReadsElements ts es → ReadsElements (Word w ∷ Punctuator Comma ∷ ts) (e ∷ es)

-- a directive: its words, its clauses, and those that it may have
pub data ReadsDirective : List Token → Directive Name → Type 0 where
  parallel_for : {ts : List Token} {cs : List (Clause Name)} →
      ReadsClauses ts cs → list_all on_parallel_for cs ≡ true → each_once cs ≡ true → ReadsDirective (Word (codes "parallel") ∷ Word (codes "for") ∷ ts) (ParallelFor cs)
  parallel : {ts : List Token} {cs : List (Clause Name)} →
      ReadsClauses ts cs → list_all on_parallel cs ≡ true → each_once cs ≡ true → ReadsDirective (Word (codes "parallel") ∷ ts) (Parallel cs)
  worksharing : {ts : List Token} {cs : List (Clause Name)} →
      ReadsClauses ts cs → list_all on_for cs ≡ true → each_once cs ≡ true → ReadsDirective (Word (codes "for") ∷ ts) (Worksharing cs)
  scan_inclusive : {w : Name} → is_list_name w ≡ true → ReadsDirective (Word (codes "scan") ∷ called (codes "inclusive") (Word w ∷ [])) (ScanInclusive w)
  scan_exclusive : {w : Name} → is_list_name w ≡ true → ReadsDirective (Word (codes "scan") ∷ called (codes "exclusive") (Word w ∷ [])) (ScanExclusive w)
  ordered_region : ReadsDirective (Word (codes "ordered") ∷ []) OrderedRegion
  source : ReadsDirective (Word (codes "ordered") ∷ called (codes "doacross") (Word (codes "source") ∷ Punctuator Colon ∷ [])) DoacrossSource
  sink : {ts : List Token} {es : List (Name × ℤ)} → ReadsElements ts es →
      ReadsDirective (Word (codes "ordered") ∷ called (codes "doacross") (Word (codes "sink") ∷ Punctuator Colon ∷ ts)) (DoacrossSink es)

-- a directive line, without its line end, is read as this directive
pub record ReadsLine (line : List ℕ) (directive : Directive Name) : Type 0 where
  pub is_line : is_directive_line line ≡ true
  pub reads : ReadsDirective (words (behind_omp line)) directive
