-- What stands in a tree by its text is well placed by its directives.
use Rattle.std.specs.Prelude.{ℕ, Bool, true, false, not, ◌&&◌, ◌≡◌, List, ◌∷◌, Option, Some, None, is_some, is_none}
use Rattle.std.proofs.Common.{refl, sym, ap, ◌∙◌}
use Rattle.semantics.proofs.EraseTokenLaw.{first_of, second_of}
use Rattle.semantics.specs.Tree.{Name, Stmt, Assign, Update, If, IfElse, For, Block, Print, Items, no_items, mark, local, stmt}
use Rattle.semantics.specs.Source.Scope.{Scope, AVariable}
use Rattle.semantics.specs.Directives.Directive.{Directive, ParallelFor, Parallel, Worksharing, ScanInclusive, ScanExclusive, OrderedRegion, DoacrossSource, DoacrossSink}
use Rattle.semantics.specs.Directives.Annotated.{Directives, lines_in, lines_among}
use Rattle.semantics.specs.Directives.Placed as placed
use Rattle.semantics.specs.Source.Text.{line_at}
use Rattle.cparse_grammar.specs.Reading.{chosen}
use Rattle.pragma_clause.specs.DirectiveReader.{line_directive}
use Rattle.pragma_attach.specs.Standing.{directive_on, form_on, construct_of, may_be_loop, are_loops, holds_loops, fits, is_team, stands, all_stand}
use Rattle.pragma_attach.proofs.LinesLaw.{AllRead, both_read, AllFound, found_first, found_second}

and_same : {a b c d : Bool} → a ≡ b → c ≡ d → (a && c) ≡ (b && d)
and_same {a} {b} {c} {d} p q = ap (λ x. x && c) p ∙ ap (λ x. b && x) q

never : (a : Bool) → (a && false) ≡ false
never true = refl
never false = refl

-- ---- what a directive opens

opened : (o : Option (Directive Name)) → is_none (construct_of o) ≡ not (placed.opens o)
opened None = refl
opened (Some (ParallelFor cs)) = refl
opened (Some (Parallel cs)) = refl
opened (Some (Worksharing cs)) = refl
opened (Some (ScanInclusive x)) = refl
opened (Some (ScanExclusive x)) = refl
opened (Some OrderedRegion) = refl
opened (Some DoacrossSource) = refl
opened (Some (DoacrossSink es)) = refl

team : (o : Option (Directive Name)) → is_team (construct_of o) ≡ placed.is_team o
team None = refl
team (Some (ParallelFor cs)) = refl
team (Some (Parallel cs)) = refl
team (Some (Worksharing cs)) = refl
team (Some (ScanInclusive x)) = refl
team (Some (ScanExclusive x)) = refl
team (Some OrderedRegion) = refl
team (Some DoacrossSource) = refl
team (Some (DoacrossSink es)) = refl

worksharing : (d : Directive Name) → may_be_loop (Some d) ≡ placed.is_worksharing (Some d)
worksharing (ParallelFor cs) = refl
worksharing (Parallel cs) = refl
worksharing (Worksharing cs) = refl
worksharing (ScanInclusive x) = refl
worksharing (ScanExclusive x) = refl
worksharing OrderedRegion = refl
worksharing DoacrossSource = refl
worksharing (DoacrossSink es) = refl

module _ (text : List ℕ) (ds : Directives) where
  -- ---- the block of a `parallel`

  -- a line that is read is the directive that it is whatever its numbers
  form_read : (n : ℕ) (d : Directive Name) → directive_on text n ≡ Some d → form_on text n ≡ Some d
  form_read n d e = ap (λ o. chosen o (line_directive false (line_at text n)) Some) e

  loops : (scope : Scope) (items : Items) → AllFound text ds (lines_among scope items) → are_loops text false items ≡ placed.are_pairs ds items
  loops scope no_items h = refl
  loops scope (mark n no_items) h = never (may_be_loop (form_on text n))
  loops scope (mark n (mark m rest)) h = never (may_be_loop (form_on text n))
  loops scope (mark n (local x name start rest)) h = never (may_be_loop (form_on text n))
  loops scope (mark n (stmt s rest)) h =
      and_same (ap may_be_loop (form_read n h.0.0 h.0.1) ∙ worksharing h.0.0 ∙ sym (ap placed.is_worksharing h.0.2))
      (ap (λ b. placed.is_for s && b) (loops scope rest (found_second text ds (lines_in scope s) (lines_among scope rest) h.1)))
  loops scope (local x name start rest) h = refl
  loops scope (stmt s rest) h = refl

  team_block : (scope : Scope) (s : Stmt) → AllFound text ds (lines_in scope s) → holds_loops text s ≡ placed.is_team_block ds s
  team_block scope (Assign x is e) h = refl
  team_block scope (Update x is op e) h = refl
  team_block scope (If c a) h = refl
  team_block scope (IfElse c a b) h = refl
  team_block scope (For x name start test step body) h = refl
  team_block scope (Block items) h = ap (λ b. placed.holds_items items && b) (loops scope items h)
  team_block scope (Print parts) h = refl

  fitting : (scope : Scope) (may in_team : Bool) (o : Option (Directive Name)) (s : Stmt) → AllFound text ds (lines_in scope s)
      → fits text may in_team (construct_of o) s ≡ placed.fits_behind ds may in_team o s
  fitting scope may in_team None s h = refl
  fitting scope may in_team (Some (ParallelFor cs)) s h = refl
  fitting scope may in_team (Some (Parallel cs)) s h = ap (λ b. may && b) (team_block scope s h)
  fitting scope may in_team (Some (Worksharing cs)) s h = refl
  fitting scope may in_team (Some (ScanInclusive x)) s h = refl
  fitting scope may in_team (Some (ScanExclusive x)) s h = refl
  fitting scope may in_team (Some OrderedRegion) s h = refl
  fitting scope may in_team (Some DoacrossSource) s h = refl
  fitting scope may in_team (Some (DoacrossSink es)) s h = refl

  -- ---- where lines are found, both say the same

  mutual
    pub same_placed : (scope : Scope) (may in_team : Bool) (s : Stmt) → AllFound text ds (lines_in scope s) → stands text may in_team s ≡ placed.is_placed ds may in_team s
    same_placed scope may in_team (Assign x is e) h = refl
    same_placed scope may in_team (Update x is op e) h = refl
    same_placed scope may in_team (If c a) h = same_placed scope may false a h
    same_placed scope may in_team (IfElse c a b) h =
        and_same (same_placed scope may false a (found_first text ds (lines_in scope a) (lines_in scope b) h)) (same_placed scope may false b (found_second text ds (lines_in scope a) (lines_in scope b) h))
    same_placed scope may in_team (For x name start test step body) h = same_placed ((name, AVariable x 0) ∷ scope) may false body h
    same_placed scope may in_team (Block items) h = all_placed scope may in_team None items h
    same_placed scope may in_team (Print parts) h = refl

    pub all_placed : (scope : Scope) (may in_team : Bool) (o : Option (Directive Name)) (items : Items) → AllFound text ds (lines_among scope items)
        → all_stand text may in_team (construct_of o) items ≡ placed.are_placed ds may in_team o items
    all_placed scope may in_team o no_items h = opened o
    all_placed scope may in_team o (mark n rest) h =
        and_same (opened o)
        (ap (λ p. is_some p && all_stand text may in_team (construct_of p) rest) h.0.1 ∙ all_placed scope may in_team (Some h.0.0) rest h.1
        ∙ sym (ap (λ p. placed.are_placed ds may in_team p rest) h.0.2))
    all_placed scope may in_team o (local x name start rest) h = and_same (opened o) (all_placed ((name, AVariable x 0) ∷ scope) may in_team None rest h)
    all_placed scope may in_team o (stmt s rest) h =
        let here = found_first text ds (lines_in scope s) (lines_among scope rest) h in
        and_same (fitting scope may in_team o s here)
        (and_same
        (ap (λ b. stands text b (is_team (construct_of o)) s) (ap (λ b. may && b) (opened o)) ∙ ap (λ b. stands text (placed.may_inside may o) b s) (team o)
        ∙ same_placed scope (placed.may_inside may o) (placed.is_team o) s here)
        (all_placed scope may in_team None rest (found_second text ds (lines_in scope s) (lines_among scope rest) h)))

-- ---- what stands is read

module _ (text : List ℕ) where
  one_read : (o : Option (Directive Name)) → is_some o ≡ true → (d : Directive Name) × (o ≡ Some d)
  one_read None h = absurd (cc h)
  one_read (Some d) h = (d, refl)

  mutual
    pub read_in : (scope : Scope) (may in_team : Bool) (s : Stmt) → stands text may in_team s ≡ true → AllRead text (lines_in scope s)
    read_in scope may in_team (Assign x is e) h = tt
    read_in scope may in_team (Update x is op e) h = tt
    read_in scope may in_team (If c a) h = read_in scope may false a h
    read_in scope may in_team (IfElse c a b) h =
        both_read text (lines_in scope a) (lines_in scope b) (read_in scope may false a (first_of (stands text may false a) (stands text may false b) h))
        (read_in scope may false b (second_of (stands text may false a) (stands text may false b) h))
    read_in scope may in_team (For x name start test step body) h = read_in ((name, AVariable x 0) ∷ scope) may false body h
    read_in scope may in_team (Block items) h = read_among scope may in_team None items h
    read_in scope may in_team (Print parts) h = tt

    pub read_among : (scope : Scope) (may in_team : Bool) (before : _) (items : Items) → all_stand text may in_team before items ≡ true → AllRead text (lines_among scope items)
    read_among scope may in_team before no_items h = tt
    read_among scope may in_team before (mark n rest) h =
        let inner = second_of (is_none before) (is_some (directive_on text n) && all_stand text may in_team (construct_of (directive_on text n)) rest) h in (
          one_read (directive_on text n) (first_of (is_some (directive_on text n)) (all_stand text may in_team (construct_of (directive_on text n)) rest) inner),
          read_among scope may in_team (construct_of (directive_on text n)) rest (second_of (is_some (directive_on text n)) (all_stand text may in_team (construct_of (directive_on text n)) rest) inner),
        )
    read_among scope may in_team before (local x name start rest) h =
        read_among ((name, AVariable x 0) ∷ scope) may in_team None rest (second_of (is_none before) (all_stand text may in_team None rest) h)
    read_among scope may in_team before (stmt s rest) h =
        let m = may && is_none before in
        let inner = second_of (fits text may in_team before s) (stands text m (is_team before) s && all_stand text may in_team None rest) h in
        both_read text (lines_in scope s) (lines_among scope rest) (read_in scope m (is_team before) s (first_of (stands text m (is_team before) s) (all_stand text may in_team None rest) inner))
        (read_among scope may in_team None rest (second_of (stands text m (is_team before) s) (all_stand text may in_team None rest) inner))
