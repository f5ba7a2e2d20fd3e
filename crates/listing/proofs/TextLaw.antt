-- The regions of an accepted text, as they are listed.
use Rattle.std.specs.Prelude.{ℕ, zero, suc, Bool, true, false, ◌||◌, if◌then◌else◌, ◌≡◌, List, [], ◌∷◌, ◌++◌, map, flat_map, Option, Some, None, option_map, option_and_then, Result, Ok, Err, OnOk}
use Rattle.std.specs.Option.{unwrap_or}
use Rattle.std.specs.Result.{is_err}
use Rattle.std.proofs.Common.{refl, sym, ap, ◌∙◌, subst}
use Rattle.std.proofs.lemmas.List.{map-append}
use Rattle.semantics.specs.Tree.{Name, Stmt, Assign, Update, If, IfElse, For, Block, Print, Items, no_items, mark, local, stmt, Kernel}
use Rattle.semantics.specs.Source.Text.{line_at}
use Rattle.semantics.specs.Source.Scope.{Scope, AVariable}
use Rattle.semantics.specs.Meaning.Value.{map_option}
use Rattle.semantics.specs.Loops.Nest.{Loop, as_loop, only_loop, holds_none, nest_of}
use Rattle.semantics.specs.Source.Grammar.{ReadsText}
use Rattle.semantics.specs.Directives.Directive.{Schedule, StaticPlain, Clause, DefaultShared, DefaultNone, Nowait, Ordered, Shared, Private, Firstprivate, Lastprivate, Reduction, Inscan, ScheduledBy, Collapse, OrderedLoops, Directive, ParallelFor, Parallel, Worksharing, ScanInclusive, ScanExclusive, OrderedRegion, DoacrossSource, DoacrossSink}
use Rattle.semantics.specs.Directives.Annotated.{Directives, directive_at, file_scope, lines_in, lines_among, lines_of, ReadsDirectives}
use Rattle.semantics.specs.Directives.Clauses.{depth_of, schedule_of, doacross_of, reduction_of, is_scan}
use Rattle.semantics.specs.Directives.Regions as meant
use Rattle.semantics.specs.Directives.Regions.{offsets_of, sinks_in}
use Rattle.semantics.specs.Directives.Listing.{ListedLoop, listing}
use Rattle.semantics.specs.Directives.Placed.{is_team}
use Rattle.cparse_grammar.specs.Reading.{◌>>=◌}
use Rattle.pragma_clause.proofs.DirectiveComplete.{line_read}
use Rattle.law_lines.specs.Without.{without_in, without_among}
use Rattle.pragma.specs.Clauses.{Said, with_clause, said_by, loop_of}
use Rattle.pragma.specs.Parallel.{LineHas, LoopsHave, ItemsHave}
use Rattle.pragma.specs.Plain.{IsPlainLoop, IsDirected}
use Rattle.pragma_attach.specs.Standing.{directive_on}
use Rattle.pragma_attach.specs.Attached.{directives_of}
use Rattle.pragma_attach.proofs.LinesLaw.{Read, AllRead, both_read, Found, AllFound, found_first, found_second, all_found, are_read}
use Rattle.pragma_region.specs.Regions.{is_ordered, is_scan as is_scan_said, is_doacross, is_left_out, alone}
use Rattle.pragma_region.specs.Listed.{body_of, sinks_among, sinks_of, one_loop, line_loop, shared_line, shared_behind, shared_among, shared_in, region_line, region_behind, regions_in, regions_among, regions_of, part_said}
use Rattle.pragma_region.specs.declared.listing.RegionPart.{RegionPart}
use Rattle.deptest.specs.Accepted.{AreRegions}
use Rattle.listing.specs.Regions.{listed_loop, printed}
use Rattle.listing.proofs.Printed.{printed_regions}

-- ---- what known clauses say

first_said : {s t : Said} → Some s ≡ Some t → s.0 ≡ t.0
first_said e = ap (λ (s : Said). s.0) (same e)
  where
    same : {s t : Said} → Some s ≡ Some t → s ≡ t
    same f = cc f

-- of the schedule
abbrev IsScheduled : List (Clause Name) → Option Schedule → Type 0
IsScheduled cs k = schedule_of cs ≡ unwrap_or k StaticPlain

-- where a clause leaves it
left_so : {j k : Option Schedule} (cs : List (Clause Name)) → IsScheduled cs j → j ≡ k → IsScheduled cs k
left_so cs p f = p ∙ ap (λ o. unwrap_or o StaticPlain) f

one_more : (c : Clause Name) (cs : List (Clause Name)) (j : Option Schedule) (d : Option ℕ) (k : Option Schedule) (e : Option ℕ) → IsScheduled cs j → with_clause c (j, d) ≡ Some (k, e) → IsScheduled (c ∷ cs) k
one_more (ScheduledBy s) cs None d k e p f = ap (λ o. unwrap_or o StaticPlain) (first_said f)
one_more (ScheduledBy s) cs (Some t) d k e p f = absurd (cc f)
one_more (Collapse n) cs j d k e p f = left_so cs p (first_said f)
one_more (OrderedLoops n) cs j d k e p f = left_so cs p (first_said f)
one_more DefaultShared cs j d k e p f = left_so cs p (first_said f)
one_more DefaultNone cs j d k e p f = left_so cs p (first_said f)
one_more (Shared xs) cs j d k e p f = left_so cs p (first_said f)
one_more (Private xs) cs j d k e p f = left_so cs p (first_said f)
one_more (Firstprivate xs) cs j d k e p f = left_so cs p (first_said f)
one_more (Lastprivate xs) cs j d k e p f = left_so cs p (first_said f)
one_more (Reduction op xs) cs j d k e p f = left_so cs p (first_said f)
one_more (Inscan op x) cs j d k e p f = left_so cs p (first_said f)
one_more Ordered cs j d k e p f = left_so cs p (first_said f)
one_more Nowait cs j d k e p f = left_so cs p (first_said f)
one_more c cs j d k e p f = absurd (cc f)

are_scheduled : (cs : List (Clause Name)) (k : Option Schedule) (c : Option ℕ) → said_by cs ≡ Some (k, c) → IsScheduled cs k
are_scheduled [] k c e = ap (λ o. unwrap_or o StaticPlain) (first_said e)
are_scheduled (x ∷ cs) k c e = go (said_by cs) refl (are_scheduled cs) e
  where
    go : (o : Option Said) → said_by cs ≡ o → ((j : Option Schedule) (d : Option ℕ) → said_by cs ≡ Some (j, d) → IsScheduled cs j)
        → (o >>= λ said. with_clause x said) ≡ Some (k, c) → IsScheduled (x ∷ cs) k
    go None f before g = absurd (cc g)
    go (Some (j, d)) f before g = one_more x cs j d k c (before j d f) g

-- ---- a statement whose directive lines are those of the text

module _ (text : List ℕ) (ds : Directives) where
  abbrev mutual
    -- each line has the directive that is read there
    Same : Stmt → Type 0
    Same (Assign x is v) = Unit {0}
    Same (Update x is op v) = Unit {0}
    Same (If c a) = Same a
    Same (IfElse c a b) = Same a × Same b
    Same (For x name start test step body) = Same body
    Same (Block items) = AllSame items
    Same (Print parts) = Unit {0}

    AllSame : Items → Type 0
    AllSame no_items = Unit {0}
    AllSame (mark n rest) = (directive_on text n ≡ directive_at ds n) × AllSame rest
    AllSame (local x name start rest) = AllSame rest
    AllSame (stmt s rest) = Same s × AllSame rest

  mutual
    same_in : (scope : Scope) (s : Stmt) → AllFound text ds (lines_in scope s) → Same s
    same_in scope (Assign x is v) f = tt
    same_in scope (Update x is op v) f = tt
    same_in scope (If c a) f = same_in scope a f
    same_in scope (IfElse c a b) f = (
      same_in scope a (found_first text ds (lines_in scope a) (lines_in scope b) f),
      same_in scope b (found_second text ds (lines_in scope a) (lines_in scope b) f),
    )
    same_in scope (For x name start test step body) f = same_in ((name, AVariable x 0) ∷ scope) body f
    same_in scope (Block items) f = same_among scope items f
    same_in scope (Print parts) f = tt

    same_among : (scope : Scope) (items : Items) → AllFound text ds (lines_among scope items) → AllSame items
    same_among scope no_items f = tt
    same_among scope (mark n rest) (found, f) = (found.1 ∙ sym found.2, same_among scope rest f)
    same_among scope (local x name start rest) f = same_among ((name, AVariable x 0) ∷ scope) rest f
    same_among scope (stmt s rest) f = (
      same_in scope s (found_first text ds (lines_in scope s) (lines_among scope rest) f),
      same_among scope rest (found_second text ds (lines_in scope s) (lines_among scope rest) f),
    )

  -- then its sinks are those of the text
  sinks_same : (items : Items) → AllSame items → sinks_among text items ≡ meant.sinks_among ds items
  sinks_same no_items q = refl
  sinks_same (mark n rest) q = ap (λ o. offsets_of o ++ sinks_among text rest) q.0 ∙ ap (λ xs. offsets_of (directive_at ds n) ++ xs) (sinks_same rest q.1)
  sinks_same (local x name start rest) q = sinks_same rest q
  sinks_same (stmt s rest) q = sinks_same rest q.1

  body_same : (ls : List Loop) (s : Stmt) → Same s → sinks_of text (Some s) ≡ sinks_in ds (Some (ls, s))
  body_same ls (Block items) q = sinks_same items q
  body_same ls (Assign x is v) q = refl
  body_same ls (Update x is op v) q = refl
  body_same ls (If c a) q = refl
  body_same ls (IfElse c a b) q = refl
  body_same ls (For x name start test step body) q = refl
  body_same ls (Print parts) q = refl

  abbrev SameBehind : Option (Loop × Stmt) → Type 0
  SameBehind None = Unit {0}
  SameBehind (Some found) = Same found.1

  mutual
    of_loop : (s : Stmt) (l : Loop) (b : Stmt) → Same s → as_loop s ≡ Some (l, b) → Same b
    of_loop (Assign x is v) l b q f = absurd (cc f)
    of_loop (Update x is op v) l b q f = absurd (cc f)
    of_loop (If c a) l b q f = absurd (cc f)
    of_loop (IfElse c a d) l b q f = absurd (cc f)
    of_loop (For x name start test step body) l b q f = subst SameBehind f q
    of_loop (Block items) l b q f = of_only items l b q f
    of_loop (Print parts) l b q f = absurd (cc f)

    of_only : (items : Items) (l : Loop) (b : Stmt) → AllSame items → only_loop items ≡ Some (l, b) → Same b
    of_only no_items l b q f = absurd (cc f)
    of_only (mark n rest) l b q f = absurd (cc f)
    of_only (local x name start rest) l b q f = absurd (cc f)
    of_only (stmt s rest) l b q f = go (holds_none rest) (of_loop s l b q.0) f
      where
        go : (t : Bool) → (as_loop s ≡ Some (l, b) → Same b) → (if t then as_loop s else None) ≡ Some (l, b) → Same b
        go true inner g = inner g
        go false inner g = absurd (cc g)

  -- the body of a nest by itself, and behind more loops
  abbrev nest_sinks : (List Loop → List Loop) → Option (List Loop × Stmt) → Type 0
  nest_sinks outside o = sinks_of text (option_map (λ nest. nest.1) o) ≡ sinks_in ds (map_option (λ (inner : List Loop × Stmt). (outside inner.0, inner.1)) o)

  nest_same : (n : ℕ) (outside : List Loop → List Loop) (s : Stmt) → Same s → nest_sinks outside (nest_of n s)
  nest_same zero outside s q = body_same (outside []) s q
  nest_same (suc n) outside s q = go (as_loop s) refl (λ l b h. nest_same n (λ ls. outside (l ∷ ls)) b h)
    where
      joined : (l : Loop) (o : Option (List Loop × Stmt)) → nest_sinks (λ ls. outside (l ∷ ls)) o → nest_sinks outside (map_option (λ (inner : List Loop × Stmt). (l ∷ inner.0, inner.1)) o)
      joined l None h = h
      joined l (Some nest) h = h

      go : (o : Option (Loop × Stmt)) → as_loop s ≡ o → ((l : Loop) (b : Stmt) → Same b → nest_sinks (λ ls. outside (l ∷ ls)) (nest_of n b))
          → nest_sinks outside (option_and_then (λ (found : Loop × Stmt). map_option (λ (inner : List Loop × Stmt). (found.0 ∷ inner.0, inner.1)) (nest_of n found.1)) o)
      go None f inner = refl
      go (Some (l, b)) f inner = joined l (nest_of n b) (inner l b (of_loop s l b q f))

  nest_is_same : (n : ℕ) (s : Stmt) → Same s → sinks_of text (body_of n s) ≡ sinks_in ds (nest_of n s)
  nest_is_same n s q = nest_same n (λ ls. ls) s q ∙ alone (nest_of n s)
    where
      alone : (o : Option (List Loop × Stmt)) → sinks_in ds (map_option (λ (inner : List Loop × Stmt). (inner.0, inner.1)) o) ≡ sinks_in ds o
      alone None = refl
      alone (Some nest) = refl

-- ---- the regions

same_directive : {d e : Directive Name} → Some d ≡ Some e → d ≡ e
same_directive p = cc p

module _ (text : List ℕ) (ds : Directives) where
  abbrev out : ℕ → Bool
  out n = is_left_out text n

  -- whether the line of such a directive is left out
  abbrev is_out : Option (Directive Name) → Bool
  is_out o = is_team o || is_ordered o || is_scan_said o || is_doacross o

  -- the line before, and its directive
  abbrev Before : Option ℕ → Option (Directive Name) → Type 0
  Before None o = o ≡ None
  Before (Some n) o = o ≡ directive_on text n

  -- this is known of the items behind it, where it is left in the tree
  abbrev Behind : Option ℕ → Items → Type 0
  Behind None items = Unit {0}
  Behind (Some n) items = out n ≡ false → (serial : List Loop) × LineHas text IsPlainLoop serial n (without_among out items)

  -- the loop behind a line of these clauses
  one_listed : (n : ℕ) (d : Directive Name) (cs : List (Clause Name)) (scope : Scope) (s : Stmt) (rest : Items) → directive_on text n ≡ Some d → loop_of d ≡ said_by cs → AllFound text ds (lines_in scope s)
      → (serial : List Loop) × LineHas text IsPlainLoop serial n (stmt (without_in out s) (without_among out rest)) → map listed_loop (line_loop text cs s) ≡ meant.listed ds cs s ∷ []
  one_listed n d cs scope s rest on is found (serial, (k, c, r, first)) =
      let same = same_directive (sym (line_read (line_at text n) r.directive r.reads) ∙ on) in
      let says : said_by cs ≡ Some (k, c) = sym is ∙ ap loop_of (sym same) ∙ r.says in
      let scheduled = are_scheduled cs k c says in
      let sinks = nest_is_same text ds (depth_of cs) s (same_in text ds scope s found) in
      ap (λ o. map listed_loop (one_loop text o cs s)) says
      ∙ (λ i. record { schedule = sym scheduled i; doacross = doacross_of cs; sinks = sinks i; reductions = flat_map reduction_of cs; scan = is_scan cs } ∷ [])

  -- a line that is none of a region is left
  left_in : (n : ℕ) (o : Option (Directive Name)) → directive_on text n ≡ o → is_out o ≡ false → out n ≡ false
  left_in n o e t = ap is_out e ∙ t

  -- a loop of a `parallel` block
  one_shared : (before : Option ℕ) (o : Option (Directive Name)) (scope : Scope) (s : Stmt) (rest : Items) → Before before o → Behind before (stmt s rest) → AllFound text ds (lines_in scope s)
      → map listed_loop (shared_behind text before s) ≡ meant.shared_by ds o s
  one_shared None o scope s rest b h found = ap (λ p. meant.shared_by ds p s) (sym b)
  one_shared (Some n) o scope s rest b h found = go (directive_on text n) refl ∙ ap (λ p. meant.shared_by ds p s) (sym b)
    where
      go : (p : Option (Directive Name)) → directive_on text n ≡ p → map listed_loop (shared_line text (directive_on text n) s) ≡ meant.shared_by ds (directive_on text n) s
      go (Some (Worksharing cs)) e =
          ap (λ p. map listed_loop (shared_line text p s)) e ∙ one_listed n (Worksharing cs) cs scope s rest e refl found (h (left_in n (Some (Worksharing cs)) e refl)) ∙ ap (λ p. meant.shared_by ds p s) (sym e)
      go None e = ap (λ p. map listed_loop (shared_line text p s)) e ∙ ap (λ p. meant.shared_by ds p s) (sym e)
      go (Some (ParallelFor cs)) e = ap (λ p. map listed_loop (shared_line text p s)) e ∙ ap (λ p. meant.shared_by ds p s) (sym e)
      go (Some (Parallel cs)) e = ap (λ p. map listed_loop (shared_line text p s)) e ∙ ap (λ p. meant.shared_by ds p s) (sym e)
      go (Some (ScanInclusive x)) e = ap (λ p. map listed_loop (shared_line text p s)) e ∙ ap (λ p. meant.shared_by ds p s) (sym e)
      go (Some (ScanExclusive x)) e = ap (λ p. map listed_loop (shared_line text p s)) e ∙ ap (λ p. meant.shared_by ds p s) (sym e)
      go (Some OrderedRegion) e = ap (λ p. map listed_loop (shared_line text p s)) e ∙ ap (λ p. meant.shared_by ds p s) (sym e)
      go (Some DoacrossSource) e = ap (λ p. map listed_loop (shared_line text p s)) e ∙ ap (λ p. meant.shared_by ds p s) (sym e)
      go (Some (DoacrossSink es)) e = ap (λ p. map listed_loop (shared_line text p s)) e ∙ ap (λ p. meant.shared_by ds p s) (sym e)

  -- what is known of a block's items behind a line that is passed
  behind_mark : (serial : List Loop) (n : ℕ) (rest : Items) → ItemsHave text IsPlainLoop serial (without_among out (mark n rest)) → Behind (Some n) rest × ItemsHave text IsPlainLoop serial (without_among out rest)
  behind_mark serial n rest h = go (out n) refl h
    where
      wrong : true ≡ false → ⊥
      wrong e = cc e

      go : (b : Bool) → out n ≡ b → ItemsHave text IsPlainLoop serial (if b then without_among out rest else mark n (without_among out rest)) → Behind (Some n) rest × ItemsHave text IsPlainLoop serial (without_among out rest)
      go true t g = (λ f. absurd (wrong (sym t ∙ f)), g)
      go false t g = (λ f. (serial, g.0), g.1)

  found_before : (n : ℕ) → Found text ds n → directive_at ds n ≡ directive_on text n
  found_before n f = f.2 ∙ sym f.1

  shared_listed : (scope : Scope) (serial : List Loop) (before : Option ℕ) (o : Option (Directive Name)) (items : Items) → Before before o → Behind before items → ItemsHave text IsPlainLoop serial (without_among out items)
      → AllFound text ds (lines_among scope items) → map listed_loop (shared_among text before items) ≡ meant.loops_among ds o items
  shared_listed scope serial before o no_items b h have f = refl
  shared_listed scope serial before o (mark n rest) b h have (found, f) =
      let p = behind_mark serial n rest have in
      shared_listed scope serial (Some n) (directive_at ds n) rest (found_before n found) p.0 p.1 f
  shared_listed scope serial before o (local x name start rest) b h have f = shared_listed ((name, AVariable x 0) ∷ scope) serial None None rest refl tt have f
  shared_listed scope serial before o (stmt s rest) b h have f =
      map-append listed_loop (shared_behind text before s) (shared_among text None rest)
      ∙ ap (λ xs. xs ++ map listed_loop (shared_among text None rest)) (one_shared before o scope s rest b h (found_first text ds (lines_in scope s) (lines_among scope rest) f))
      ∙ ap (λ xs. meant.shared_by ds o s ++ xs) (shared_listed scope serial None None rest refl tt have.1 (found_second text ds (lines_in scope s) (lines_among scope rest) f))

  block_listed : (scope : Scope) (serial : List Loop) (s : Stmt) → LoopsHave text IsPlainLoop serial (without_in out s) → AllFound text ds (lines_in scope s) → map listed_loop (shared_in text s) ≡ meant.loops_in ds s
  block_listed scope serial (Block items) have f = shared_listed scope serial None None items refl tt have f
  block_listed scope serial (Assign x is v) have f = refl
  block_listed scope serial (Update x is op v) have f = refl
  block_listed scope serial (If c a) have f = refl
  block_listed scope serial (IfElse c a b) have f = refl
  block_listed scope serial (For x name start test step body) have f = refl
  block_listed scope serial (Print parts) have f = refl

  -- a region behind a line, or those inside the statement
  one_region : (before : Option ℕ) (o : Option (Directive Name)) (scope : Scope) (serial : List Loop) (s : Stmt) (rest : Items) → Before before o → Behind before (stmt s rest)
      → LoopsHave text IsPlainLoop serial (without_in out s) → AllFound text ds (lines_in scope s) → map (map listed_loop) (regions_in text s) ≡ meant.regions_in ds s
      → map (map listed_loop) (region_behind text before s (regions_in text s)) ≡ meant.region_by ds o s (meant.regions_in ds s)
  one_region None o scope serial s rest b h have found inside = inside ∙ ap (λ p. meant.region_by ds p s (meant.regions_in ds s)) (sym b)
  one_region (Some n) o scope serial s rest b h have found inside = go (directive_on text n) refl ∙ ap (λ p. meant.region_by ds p s (meant.regions_in ds s)) (sym b)
    where
      mine : Option (Directive Name) → List (List ListedLoop)
      mine p = map (map listed_loop) (region_line text p s (shared_in text s) (regions_in text s))

      theirs : Option (Directive Name) → List (List ListedLoop)
      theirs p = meant.region_by ds p s (meant.regions_in ds s)

      go : (p : Option (Directive Name)) → directive_on text n ≡ p → mine (directive_on text n) ≡ theirs (directive_on text n)
      go (Some (ParallelFor cs)) e = ap mine e ∙ ap (λ (l : List ListedLoop). l ∷ []) (one_listed n (ParallelFor cs) cs scope s rest e refl found (h (left_in n (Some (ParallelFor cs)) e refl))) ∙ ap theirs (sym e)
      go (Some (Parallel cs)) e = ap mine e ∙ ap (λ (l : List ListedLoop). l ∷ []) (block_listed scope serial s have found) ∙ ap theirs (sym e)
      go None e = ap mine e ∙ inside ∙ ap theirs (sym e)
      go (Some (Worksharing cs)) e = ap mine e ∙ inside ∙ ap theirs (sym e)
      go (Some (ScanInclusive x)) e = ap mine e ∙ inside ∙ ap theirs (sym e)
      go (Some (ScanExclusive x)) e = ap mine e ∙ inside ∙ ap theirs (sym e)
      go (Some OrderedRegion) e = ap mine e ∙ inside ∙ ap theirs (sym e)
      go (Some DoacrossSource) e = ap mine e ∙ inside ∙ ap theirs (sym e)
      go (Some (DoacrossSink es)) e = ap mine e ∙ inside ∙ ap theirs (sym e)

  mutual
    of_stmt : (scope : Scope) (serial : List Loop) (s : Stmt) → LoopsHave text IsPlainLoop serial (without_in out s) → AllFound text ds (lines_in scope s) → map (map listed_loop) (regions_in text s) ≡ meant.regions_in ds s
    of_stmt scope serial (Assign x is v) have f = refl
    of_stmt scope serial (Update x is op v) have f = refl
    of_stmt scope serial (If c a) have f = of_stmt scope serial a have f
    of_stmt scope serial (IfElse c a b) have f =
        map-append (map listed_loop) (regions_in text a) (regions_in text b)
        ∙ ap (λ xs. xs ++ map (map listed_loop) (regions_in text b)) (of_stmt scope serial a have.0 (found_first text ds (lines_in scope a) (lines_in scope b) f))
        ∙ ap (λ xs. meant.regions_in ds a ++ xs) (of_stmt scope serial b have.1 (found_second text ds (lines_in scope a) (lines_in scope b) f))
    of_stmt scope serial (For x name start test step body) have f =
        of_stmt ((name, AVariable x 0) ∷ scope) (serial ++ record { variable = x; start = start; test = test; step = step } ∷ []) body have f
    of_stmt scope serial (Block items) have f = of_items scope serial None None items refl tt have f
    of_stmt scope serial (Print parts) have f = refl

    of_items : (scope : Scope) (serial : List Loop) (before : Option ℕ) (o : Option (Directive Name)) (items : Items) → Before before o → Behind before items → ItemsHave text IsPlainLoop serial (without_among out items)
        → AllFound text ds (lines_among scope items) → map (map listed_loop) (regions_among text before items) ≡ meant.regions_among ds o items
    of_items scope serial before o no_items b h have f = refl
    of_items scope serial before o (mark n rest) b h have (found, f) =
        let p = behind_mark serial n rest have in
        of_items scope serial (Some n) (directive_at ds n) rest (found_before n found) p.0 p.1 f
    of_items scope serial before o (local x name start rest) b h have f = of_items ((name, AVariable x 0) ∷ scope) serial None None rest refl tt have f
    of_items scope serial before o (stmt s rest) b h have f =
        let first = found_first text ds (lines_in scope s) (lines_among scope rest) f in
        map-append (map listed_loop) (region_behind text before s (regions_in text s)) (regions_among text None rest)
        ∙ ap (λ xs. xs ++ map (map listed_loop) (regions_among text None rest)) (one_region before o scope serial s rest b h have.0 first (of_stmt scope serial s have.0 first))
        ∙ ap (λ xs. meant.region_by ds o s (meant.regions_in ds s) ++ xs) (of_items scope serial None None rest refl tt have.1 (found_second text ds (lines_in scope s) (lines_among scope rest) f))

-- ---- each line is read

module _ (text : List ℕ) where
  -- that of a region
  region_is_read : (n : ℕ) (o : Option (Directive Name)) → directive_on text n ≡ o → is_left_out text n ≡ true → Read text n
  region_is_read n None e t = absurd (cc (sym (ap (λ o. is_team o || is_ordered o || is_scan_said o || is_doacross o) e) ∙ t))
  region_is_read n (Some d) e t = (d, e)

  mutual
    read_in : (scope : Scope) (serial : List Loop) (s : Stmt) → LoopsHave text IsPlainLoop serial (without_in (is_left_out text) s) → AllRead text (lines_in scope s)
    read_in scope serial (Assign x is v) h = tt
    read_in scope serial (Update x is op v) h = tt
    read_in scope serial (If c a) h = read_in scope serial a h
    read_in scope serial (IfElse c a b) h = both_read text (lines_in scope a) (lines_in scope b) (read_in scope serial a h.0) (read_in scope serial b h.1)
    read_in scope serial (For x name start test step body) h =
        read_in ((name, AVariable x 0) ∷ scope) (serial ++ record { variable = x; start = start; test = test; step = step } ∷ []) body h
    read_in scope serial (Block items) h = read_among scope serial items h
    read_in scope serial (Print parts) h = tt

    read_among : (scope : Scope) (serial : List Loop) (items : Items) → ItemsHave text IsPlainLoop serial (without_among (is_left_out text) items) → AllRead text (lines_among scope items)
    read_among scope serial no_items h = tt
    read_among scope serial (mark n rest) h = go (is_left_out text n) refl h (λ g. read_among scope serial rest g)
      where
        go : (b : Bool) → is_left_out text n ≡ b → ItemsHave text IsPlainLoop serial (if b then without_among (is_left_out text) rest else mark n (without_among (is_left_out text) rest))
            → (ItemsHave text IsPlainLoop serial (without_among (is_left_out text) rest) → AllRead text (lines_among scope rest)) → AllRead text (lines_among scope (mark n rest))
        go true t g later = (region_is_read n (directive_on text n) refl t, later g)
        go false t ((k, c, r, first), g) later = ((r.directive, line_read (line_at text n) r.directive r.reads), later g)
    read_among scope serial (local x name start rest) h = read_among ((name, AVariable x 0) ∷ scope) serial rest h
    read_among scope serial (stmt s rest) h = both_read text (lines_in scope s) (lines_among scope rest) (read_in scope serial s h.0) (read_among scope serial rest h.1)

-- ---- the listing of the text

pub listed : (text : List ℕ) (k : Kernel) (parts : List RegionPart) (a b : List ℕ) → IsDirected text k → AreRegions text k parts → b ≡ a ++ printed 0 0 (map part_said parts)
    → (whole : Kernel) × (ds : Directives) × ReadsText text whole × ReadsDirectives text whole ds × (b ≡ a ++ meant.listing_of whole ds)
listed text k parts a b directed are is =
    let whole = are.whole in
    let have : ItemsHave text IsPlainLoop [] (alone text whole).body = subst (λ (j : Kernel). IsDirected text j) are.dissolved directed in
    let read = read_among text (file_scope whole) [] whole.body have in
    let ds = directives_of text whole in
    let regions = of_items text ds (file_scope whole) [] None None whole.body refl tt have (all_found text (lines_of whole) read) in
    (whole, ds, are.reads, are_read text whole read, is ∙ ap (λ l. a ++ printed 0 0 l) are.are ∙ ap (λ l. a ++ l) (printed_regions 0 0 (regions_of text whole)) ∙ ap (λ l. a ++ listing l) regions)

pub listed_ok : {T E : Type 0} (q : Result T E) (t : Bool) (text : List ℕ) (k : Kernel) (parts : List RegionPart) (a b : List ℕ) → t ≡ is_err q → t ≡ false → IsDirected text k → AreRegions text k parts
    → OnOk q (b ≡ a ++ printed 0 0 (map part_said parts)) → (whole : Kernel) × (ds : Directives) × ReadsText text whole × ReadsDirectives text whole ds × (b ≡ a ++ meant.listing_of whole ds)
listed_ok (Ok x) t text k parts a b e f h p o = listed text k parts a b h p o
listed_ok (Err x) t text k parts a b e f h p o = absurd (wrong (sym e ∙ f))
  where
    wrong : true ≡ false → ⊥
    wrong g = cc g
