-- Where constructs are well placed and name rightly, no line names a variable twice.
use Rattle.std.specs.Prelude.{ℕ, Bool, true, false, not, ◌&&◌, ◌≡◌, List, [], ◌∷◌, ◌++◌, flat_map, Option, Some, None}
use Rattle.std.proofs.Common.{refl, sym, ap, ◌∙◌}
use Rattle.std.specs.List.{AllByRecursion}
use Rattle.semantics.proofs.EraseTokenLaw.{first_of, second_of}
use Rattle.semantics.specs.Tree.{Name, Variable, Stmt, Assign, Update, If, IfElse, For, Block, Print, Items, no_items, mark, local, stmt, Kernel}
use Rattle.semantics.specs.Source.Scope.{Scope, AVariable}
use Rattle.semantics.specs.Directives.Directive.{Clause, Directive, ParallelFor, Parallel, Worksharing, ScanInclusive, ScanExclusive, OrderedRegion, DoacrossSource, DoacrossSink}
use Rattle.semantics.specs.Directives.Annotated.{Directives, directive_at, clauses_there, resolve_clauses, scope_at, lines_of, lines_in, lines_among, clauses_at}
use Rattle.semantics.specs.Directives.Placed.{opens, fits_behind, is_placed, are_placed, may_inside, is_team}
use Rattle.semantics.specs.Directives.Naming.{variables_in, are_distinct, NamesRightly, behind_line, constructs_in, constructs_among}
use Rattle.pragma_attach.proofs.LinesLaw.{AllLines, all_both}

none_there : (o : Option (Directive Name)) → not (opens o) ≡ true → clauses_there o ≡ []
none_there None e = refl
none_there (Some (ParallelFor cs)) e = absurd (cc e)
none_there (Some (Parallel cs)) e = absurd (cc e)
none_there (Some (Worksharing cs)) e = absurd (cc e)
none_there (Some (ScanInclusive x)) e = refl
none_there (Some (ScanExclusive x)) e = refl
none_there (Some OrderedRegion) e = refl
none_there (Some DoacrossSource) e = refl
none_there (Some (DoacrossSink es)) e = refl

same_clauses : {a b : List (Clause Variable)} → Some a ≡ Some b → a ≡ b
same_clauses e = cc e

module _ (tree : Kernel) (ds : Directives) where
  -- a line names no variable twice
  abbrev pub Once : ℕ → Type 0
  Once n = (cs : List (Clause Variable)) → clauses_at tree ds n ≡ Some cs → are_distinct (flat_map variables_in cs) ≡ true

  plain : (n : ℕ) → not (opens (directive_at ds n)) ≡ true → Once n
  plain n e cs is =
      let none : [] ≡ cs = same_clauses (sym (ap (resolve_clauses (scope_at (lines_of tree) n)) (none_there (directive_at ds n) e)) ∙ is) in
      sym (ap (λ (c : List (Clause Variable)). are_distinct (flat_map variables_in c)) none)

  named : (n : ℕ) (s : Stmt) → NamesRightly tree ds (n, s) → Once n
  named n s h cs is = ap (λ (c : List (Clause Variable)). are_distinct (flat_map variables_in c)) (same_clauses (sym is ∙ h.are)) ∙ h.once

  abbrev Rightly : List (ℕ × Stmt) → Type 0
  Rightly cs = AllByRecursion (NamesRightly tree ds) cs

  front : (cs es : List (ℕ × Stmt)) → Rightly (cs ++ es) → Rightly cs
  front [] es h = tt
  front (c ∷ cs) es h = (h.0, front cs es h.1)

  back : (cs es : List (ℕ × Stmt)) → Rightly (cs ++ es) → Rightly es
  back [] es h = h
  back (c ∷ cs) es h = back cs es h.1

  once_line : (n : ℕ) (may in_team : Bool) (rest : Items) → are_placed ds may in_team (directive_at ds n) rest ≡ true → Rightly (constructs_among (Some n) rest) → Once n
  once_line n may in_team no_items h c = plain n h
  once_line n may in_team (mark m rest) h c = plain n (first_of (not (opens (directive_at ds n))) (are_placed ds may in_team (directive_at ds m) rest) h)
  once_line n may in_team (local x name start rest) h c = plain n (first_of (not (opens (directive_at ds n))) (are_placed ds may in_team None rest) h)
  once_line n may in_team (stmt s rest) h c = named n s c.0

  mutual
    pub once_in : (scope : Scope) (may in_team : Bool) (s : Stmt) → is_placed ds may in_team s ≡ true → Rightly (constructs_in s) → AllLines Once (lines_in scope s)
    once_in scope may in_team (Assign x is e) h c = tt
    once_in scope may in_team (Update x is op e) h c = tt
    once_in scope may in_team (If k a) h c = once_in scope may false a h c
    once_in scope may in_team (IfElse k a b) h c =
        all_both Once (lines_in scope a) (lines_in scope b) (once_in scope may false a (first_of (is_placed ds may false a) (is_placed ds may false b) h) (front (constructs_in a) (constructs_in b) c))
        (once_in scope may false b (second_of (is_placed ds may false a) (is_placed ds may false b) h) (back (constructs_in a) (constructs_in b) c))
    once_in scope may in_team (For x name start test step body) h c = once_in ((name, AVariable x 0) ∷ scope) may false body h c
    once_in scope may in_team (Block items) h c = once_among scope may in_team None None items h c
    once_in scope may in_team (Print parts) h c = tt

    pub once_among : (scope : Scope) (may in_team : Bool) (before : Option (Directive Name)) (line : Option ℕ) (items : Items) → are_placed ds may in_team before items ≡ true → Rightly (constructs_among line items)
        → AllLines Once (lines_among scope items)
    once_among scope may in_team before line no_items h c = tt
    once_among scope may in_team before line (mark n rest) h c =
        let inner = second_of (not (opens before)) (are_placed ds may in_team (directive_at ds n) rest) h in
        (once_line n may in_team rest inner c, once_among scope may in_team (directive_at ds n) (Some n) rest inner c)
    once_among scope may in_team before line (local x name start rest) h c =
        once_among ((name, AVariable x 0) ∷ scope) may in_team None None rest (second_of (not (opens before)) (are_placed ds may in_team None rest) h) c
    once_among scope may in_team before line (stmt s rest) h c =
        let m = may_inside may before in
        let inner = second_of (fits_behind ds may in_team before s) (is_placed ds m (is_team before) s && are_placed ds may in_team None rest) h in
        let all = front (behind_line line s ++ constructs_in s) (constructs_among None rest) c in
        all_both Once (lines_in scope s) (lines_among scope rest)
        (once_in scope m (is_team before) s (first_of (is_placed ds m (is_team before) s) (are_placed ds may in_team None rest) inner) (back (behind_line line s) (constructs_in s) all))
        (once_among scope may in_team None None rest (second_of (is_placed ds m (is_team before) s) (are_placed ds may in_team None rest) inner)
        (back (behind_line line s ++ constructs_in s) (constructs_among None rest) c))
