-- A loop's directive associates one to four loops. (OpenMP 5.2, 4.4.3 and 4.4.4)
use Rattle.std.specs.Prelude.{ℕ, zero, suc, true, ◌&&◌, ◌≡◌, ◌≤◌, nat_le, List, [], ◌∷◌, Option, Some, None}
use Rattle.std.specs.List.{AllByRecursion as Each}
use Rattle.std.proofs.Common.{refl, subst, arith}
use Rattle.std.proofs.Math.Nat.{le-max_left, max-le}
use Rattle.std.proofs.lemmas.Bool.Decides.{nat_tests}
use Rattle.std.proofs.lemmas.Option.{same_Some, none-some}
use Rattle.semantics.specs.Tree.{Name}
use Rattle.semantics.specs.Source.Token.{Token}
use Rattle.semantics.specs.Source.Cuts.{decimal_from}
use Rattle.semantics.specs.Directives.Directive.{Schedule, Clause, DefaultShared, DefaultNone, Nowait, Ordered, Shared, Private, Firstprivate, Lastprivate, Reduction, Inscan, ScheduledBy, Collapse, OrderedLoops, Directive, ParallelFor, Parallel, Worksharing, ScanInclusive, ScanExclusive, OrderedRegion, DoacrossSource, DoacrossSink}
use Rattle.semantics.specs.Directives.DirectiveGrammar as grammar
use Rattle.semantics.specs.Directives.DirectiveGrammar.{ReadsNumber, ReadsClause, ReadsFurther, ReadsClauses, ReadsDirective}
use Rattle.cparse_grammar.specs.Reading.{◌>>=◌}
use Rattle.pragma.specs.Clauses.{Said, greater, with_clause, said_by, loop_of, ReadsLoop}
use Rattle.pragma.specs.Parallel.{associated}
use Rattle.law_commute.proofs.Values.{first_of, second_of}

-- `collapse(c)` is of one to four loops, and so is `ordered(n)`
abbrev IsFew : ℕ → Type 0
IsFew n = (1 ≤ n) × (n ≤ 4)

abbrev Counts : Clause Name → Type 0
Counts (Collapse c) = IsFew c
Counts (OrderedLoops n) = IsFew n
Counts _ = Unit {0}

few_within : (c : ℕ) → (nat_le 1 c && nat_le c 4) ≡ true → IsFew c
few_within c e =
    let low = first_of (nat_le 1 c) (nat_le c 4) e in
    let high = second_of (nat_le 1 c) (nat_le c 4) e in
    (grind (arith, nat_tests), grind (arith, nat_tests))

number_counts : {ds : List ℕ} {c : ℕ} → ReadsNumber 4 ds c → IsFew c
number_counts (grammar.number {ds = ds} h le) = few_within (decimal_from 0 ds) le

clause_counts : {ts : List Token} {c : Clause Name} → ReadsClause ts c → Counts c
clause_counts grammar.default_shared = tt
clause_counts grammar.default_none = tt
clause_counts (grammar.shared r) = tt
clause_counts (grammar.private r) = tt
clause_counts (grammar.firstprivate r) = tt
clause_counts (grammar.lastprivate r) = tt
clause_counts (grammar.last_conditional r) = tt
clause_counts (grammar.reduction op r) = tt
clause_counts (grammar.inscan op h) = tt
clause_counts (grammar.schedule r) = tt
clause_counts (grammar.collapse r) = number_counts r
clause_counts grammar.ordered = tt
clause_counts (grammar.ordered_loops r) = number_counts r
clause_counts grammar.nowait = tt

further_count : {ts : List Token} {cs : List (Clause Name)} → ReadsFurther ts cs → Each Counts cs
further_count grammar.no_further = tt
further_count (grammar.next r q) = (clause_counts r, further_count q)
further_count (grammar.next_behind_comma r q) = (clause_counts r, further_count q)

clauses_count : {ts : List Token} {cs : List (Clause Name)} → ReadsClauses ts cs → Each Counts cs
clauses_count grammar.no_clauses = tt
clauses_count (grammar.first r q) = (clause_counts r, further_count q)

abbrev LoopCounts : Directive Name → Type 0
LoopCounts (ParallelFor cs) = Each Counts cs
LoopCounts (Worksharing cs) = Each Counts cs
LoopCounts _ = Unit {0}

directive_counts : {ts : List Token} {d : Directive Name} → ReadsDirective ts d → LoopCounts d
directive_counts (grammar.parallel_for r on once) = clauses_count r
directive_counts (grammar.parallel r on once) = tt
directive_counts (grammar.worksharing r on once) = clauses_count r
directive_counts (grammar.scan_inclusive h) = tt
directive_counts (grammar.scan_exclusive h) = tt
directive_counts grammar.ordered_region = tt
directive_counts grammar.source = tt
directive_counts (grammar.sink r) = tt

abbrev AreFew : Option ℕ → Type 0
AreFew None = Unit {0}
AreFew (Some c) = IsFew c

-- the greater of two numbers of loops is one
greater_counts : (n : ℕ) (o : Option ℕ) → IsFew n → AreFew o → IsFew (greater n o)
greater_counts n None h g = h
greater_counts n (Some m) h g =
    let more = le-max_left n m in
    (omega arith, max-le h.1 g.1)

with_counts : (c : Clause Name) (s s' : Said) → Counts c → AreFew s.1 → with_clause c s ≡ Some s' → AreFew s'.1
with_counts (ScheduledBy k) (None, c) s' h g e = subst (λ (t : Said). AreFew t.1) (same_Some (Some k, c) s' e) g
with_counts (Collapse c) (k, d) s' h g e = subst (λ (t : Said). AreFew t.1) (same_Some (k, Some (greater c d)) s' e) (greater_counts c d h g)
with_counts (OrderedLoops n) (k, d) s' h g e = subst (λ (t : Said). AreFew t.1) (same_Some (k, Some (greater n d)) s' e) (greater_counts n d h g)
with_counts DefaultShared s s' h g e = subst (λ (t : Said). AreFew t.1) (same_Some s s' e) g
with_counts DefaultNone s s' h g e = subst (λ (t : Said). AreFew t.1) (same_Some s s' e) g
with_counts (Shared xs) s s' h g e = subst (λ (t : Said). AreFew t.1) (same_Some s s' e) g
with_counts (Private xs) s s' h g e = subst (λ (t : Said). AreFew t.1) (same_Some s s' e) g
with_counts (Firstprivate xs) s s' h g e = subst (λ (t : Said). AreFew t.1) (same_Some s s' e) g
with_counts (Lastprivate xs) s s' h g e = subst (λ (t : Said). AreFew t.1) (same_Some s s' e) g
with_counts (Reduction op xs) s s' h g e = subst (λ (t : Said). AreFew t.1) (same_Some s s' e) g
with_counts (Inscan op x) s s' h g e = subst (λ (t : Said). AreFew t.1) (same_Some s s' e) g
with_counts Ordered s s' h g e = subst (λ (t : Said). AreFew t.1) (same_Some s s' e) g
with_counts Nowait s s' h g e = subst (λ (t : Said). AreFew t.1) (same_Some s s' e) g
with_counts c s s' h g e = absurd (cc e)

said_counts : (cs : List (Clause Name)) (s : Said) → Each Counts cs → said_by cs ≡ Some s → AreFew s.1
said_counts [] s h e = subst (λ (t : Said). AreFew t.1) (same_Some (None, None) s e) tt
said_counts (c ∷ cs) s h e = at (said_by cs) (λ before is. said_counts cs before h.1 is) e
  where
    at : (o : Option Said) → ((before : Said) → o ≡ Some before → AreFew before.1) → (o >>= λ said. with_clause c said) ≡ Some s → AreFew s.1
    at None rest q = absurd (none-some s q)
    at (Some before) rest q = with_counts c before s h.0 (rest before refl) q

loop_counts : (d : Directive Name) (s : Said) → LoopCounts d → loop_of d ≡ Some s → AreFew s.1
loop_counts (ParallelFor cs) s h e = said_counts cs s h e
loop_counts (Worksharing cs) s h e = said_counts cs s h e
loop_counts (Parallel cs) s h e = absurd (none-some s e)
loop_counts (ScanInclusive x) s h e = absurd (none-some s e)
loop_counts (ScanExclusive x) s h e = absurd (none-some s e)
loop_counts OrderedRegion s h e = absurd (none-some s e)
loop_counts DoacrossSource s h e = absurd (none-some s e)
loop_counts (DoacrossSink es) s h e = absurd (none-some s e)

-- no loop at all is associated by none
pub at_least_one : (line : List ℕ) (k : Option Schedule) (c : Option ℕ) → ReadsLoop line k c → (m : ℕ) × (associated c ≡ suc m)
at_least_one line k c r = at c (loop_counts r.directive (k, c) (directive_counts r.reads.reads) r.says)
  where
    above : (d : ℕ) → 1 ≤ d → (m : ℕ) × (d ≡ suc m)
    above zero h = absurd (omega arith)
    above (suc d) h = (d, refl)

    at : (o : Option ℕ) → AreFew o → (m : ℕ) × (associated o ≡ suc m)
    at None h = (0, refl)
    at (Some d) h = above d h.0

pub at_most_four : (line : List ℕ) (k : Option Schedule) (c : Option ℕ) → ReadsLoop line k c → associated c ≤ 4
at_most_four line k c r = at c (loop_counts r.directive (k, c) (directive_counts r.reads.reads) r.says)
  where
    at : (o : Option ℕ) → AreFew o → associated o ≤ 4
    at None h = omega arith
    at (Some d) h = h.1
