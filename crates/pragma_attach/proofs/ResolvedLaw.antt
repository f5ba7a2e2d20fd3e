-- Lines whose names are resolved, by the first place where each line stands.
use Rattle.std.specs.Prelude.{ℕ, Bool, true, false, nat_eq, if◌then◌else◌, ◌≡◌, List, [], ◌∷◌, flat_map, unwrap_or, All, Option, Some, None, option_map}
use Rattle.std.specs.HashMap.{HashMap, get}
use Rattle.std.proofs.Common.{refl, sym, ap, ◌∙◌, subst, arith}
use Rattle.std.proofs.lemmas.Bool.Decides.{nat_tests}
use Rattle.std.proofs.lemmas.Bool.{eqb-true}
use Rattle.std.proofs.lemmas.List.Elements.{recursion_from_All, All-nil, All-cons, All-head, All-tail}
use Rattle.semantics.specs.Tree.{Name, Variable, Kernel}
use Rattle.semantics.specs.Source.Scope.{Scope}
use Rattle.semantics.specs.Directives.Directive.{Clause, Directive}
use Rattle.semantics.specs.Directives.Annotated.{Directives, directive_at, clauses_there, resolve_clauses, scope_at, lines_of, clauses_at, IsResolved}
use Rattle.semantics.specs.Directives.Naming.{variables_in, are_distinct, constructs_among, NamesRightly, NameRightly, IsAttached}
use Rattle.semantics.specs.Directives.Placed.{is_well_placed}
use Rattle.pragma_named.specs.declared.table.Clauses.{Clauses}
use Rattle.pragma_attach.specs.Standing.{directive_on, is_standing}
use Rattle.pragma_attach.specs.Attached.{with_directive, directives_on, directives_of}
use Rattle.pragma_named.specs.Views.{resolved_clauses}
use Rattle.pragma_named.specs.Known.{kept}
use Rattle.pragma_attach.specs.Told.{unless_twice, clauses_by, told}
use Rattle.pragma_named.specs.Known.{Lines, known_clauses, lines_known}
use Rattle.pragma_attach.specs.Rightly.{name_rightly}
use Rattle.pragma_attach.proofs.LinesLaw.{AllLines, AllRead, Found, AllFound, all_found, the_same}
use Rattle.pragma_attach.proofs.NamedOnceLaw.{Once, once_among}
use Rattle.pragma_attach.proofs.PlacingLaw.{all_placed, read_among}
use Rattle.pragma_attach.proofs.RightlyLaw.{Knows, rightly_named, named_back}

-- ---- where a line is told, it is by what is visible there

-- the clauses of a line, by these lines
abbrev pub at : List ℕ → List (ℕ × Scope) → ℕ → Option (List (Clause Variable))
at text ls n = clauses_by text (scope_at ls n) n

abbrev IsTold : List ℕ → List (ℕ × Scope) → ℕ → Type 0
IsTold text ls n = told text ls n ≡ Some (at text ls n)

told_still : (text : List ℕ) (l : ℕ × Scope) (ls : List (ℕ × Scope)) (n : ℕ) → IsTold text ls n → IsTold text (l ∷ ls) n
told_still text l ls n h = go (nat_eq l.0 n)
  where
    go : (b : Bool) → (if b then Some (clauses_by text l.1 n) else told text ls n) ≡ Some (clauses_by text (if b then l.1 else scope_at ls n) n)
    go true = refl
    go false = h

told_here : (text : List ℕ) (l : ℕ × Scope) (ls : List (ℕ × Scope)) → IsTold text (l ∷ ls) l.0
told_here text l ls = go (nat_eq l.0 l.0) refl
  where
    go : (b : Bool) → nat_eq l.0 l.0 ≡ b → (if b then Some (clauses_by text l.1 l.0) else told text ls l.0) ≡ Some (clauses_by text (if b then l.1 else scope_at ls l.0) l.0)
    go true e = refl
    go false e = absurd (grind (arith, nat_tests))

all_still : (text : List ℕ) (l : ℕ × Scope) (ls ms : List (ℕ × Scope)) → AllLines (IsTold text ls) ms → AllLines (IsTold text (l ∷ ls)) ms
all_still text l ls [] h = tt
all_still text l ls (m ∷ ms) h = (told_still text l ls m.0 h.0, all_still text l ls ms h.1)

all_told : (text : List ℕ) (ls : List (ℕ × Scope)) → AllLines (IsTold text ls) ls
all_told text [] = tt
all_told text (l ∷ ls) = (told_here text l ls, all_still text l ls ls (all_told text ls))

-- a line that is told is one of them
at_line : (text : List ℕ) (P : ℕ → Type 0) (ls : List (ℕ × Scope)) → AllLines P ls → (n : ℕ) (r : Option (List (Clause Variable))) → told text ls n ≡ Some r → P n
at_line text P [] h n r e = absurd (cc e)
at_line text P (l ∷ ls) h n r e = go (nat_eq l.0 n) refl e (λ f. at_line text P ls h.1 n r f)
  where
    go : (b : Bool) → nat_eq l.0 n ≡ b → (if b then Some (clauses_by text l.1 n) else told text ls n) ≡ Some r → (told text ls n ≡ Some r → P n) → P n
    go true t e later = subst P (eqb-true l.0 n t) h.0
    go false t e later = later e

-- a line that is not told has no directive
no_directive : (text : List ℕ) (ls : List (ℕ × Scope)) (n : ℕ) → told text ls n ≡ None → directive_at (directives_on text ls) n ≡ None
no_directive text [] n e = refl
no_directive text (l ∷ ls) n e = go (nat_eq l.0 n) refl e (λ h. no_directive text ls n h)
  where
    other : (o : Option (Directive Name)) (ds : Directives) → nat_eq l.0 n ≡ false → directive_at ds n ≡ None → directive_at (with_directive l.0 o ds) n ≡ None
    other None ds t h = h
    other (Some d) ds t h = ap (λ (b : Bool). if b then Some d else directive_at ds n) t ∙ h

    go : (b : Bool) → nat_eq l.0 n ≡ b → (if b then Some (clauses_by text l.1 n) else told text ls n) ≡ None → (told text ls n ≡ None → directive_at (directives_on text ls) n ≡ None)
        → directive_at (directives_on text (l ∷ ls)) n ≡ None
    go true t e later = absurd (cc e)
    go false t e later = other (directive_on text l.0) (directives_on text ls) t (later e)

-- ---- of directives, and of lines

of_directives : (text : List ℕ) (P : ℕ → Type 0) (ls : List (ℕ × Scope)) → AllRead text ls → All (λ (d : ℕ × Directive Name). P d.0) (directives_on text ls) → AllLines P ls
of_directives text P [] r h = tt
of_directives text P (l ∷ ls) r h =
    let d = r.0.0 in
    let Q : ℕ × Directive Name → Type 0 = λ e. P e.0 in
    let k : All Q ((l.0, d) ∷ directives_on text ls) = subst (λ o. All Q (with_directive l.0 o (directives_on text ls))) r.0.1 h in
    (All-head Q (l.0, d) (directives_on text ls) k, of_directives text P ls r.1 (All-tail Q (l.0, d) (directives_on text ls) k))

of_lines : (text : List ℕ) (P : ℕ → Type 0) (ls : List (ℕ × Scope)) → AllRead text ls → AllLines P ls → All (λ (d : ℕ × Directive Name). P d.0) (directives_on text ls)
of_lines text P [] r h = All-nil (λ (e : ℕ × Directive Name). P e.0)
of_lines text P (l ∷ ls) r h =
    let Q : ℕ × Directive Name → Type 0 = λ e. P e.0 in
    subst (λ o. All Q (with_directive l.0 o (directives_on text ls))) (sym r.0.1) (All-cons Q (l.0, r.0.0) (directives_on text ls) h.0 (of_lines text P ls r.1 h.1))

-- ---- of a tree

-- clauses that are resolved
abbrev HasClauses : Kernel → Directives → ℕ → Type 0
HasClauses tree ds n = (cs : List (Clause Variable)) × (clauses_at tree ds n ≡ Some cs)

module _ (text : List ℕ) (tree : Kernel) where
  lines : List (ℕ × Scope)
  lines = lines_of tree

  -- a line that is found has the clauses of its directive
  pub same_clauses : (ds : Directives) (n : ℕ) → Found text ds n → clauses_at tree ds n ≡ resolve_clauses (scope_at (lines_of tree) n) (clauses_there (directive_on text n))
  same_clauses ds n f = ap (λ o. resolve_clauses (scope_at (lines_of tree) n) (clauses_there o)) (f.2 ∙ sym f.1)

  -- what a table knows is what it tells
  known : {S : Type 0} (table : HashMap ℕ Clauses S) (n : ℕ) (r : Option (List (Clause Variable))) → kept table n ≡ Some r → r ≡ Some (lines_known (kept table) n)
  known table n r e = go (get nat_eq table n) e
    where
      inner : {a b : Option (List (Clause Variable))} → Some a ≡ Some b → b ≡ a
      inner p = cc p

      go : (o : Option Clauses) → option_map (λ (c : Clauses). Some (resolved_clauses c.clauses)) o ≡ Some r
          → r ≡ Some (known_clauses (option_map (λ (c : Clauses). Some (resolved_clauses c.clauses)) o))
      go None e = absurd (cc e)
      go (Some c) e = inner e

  once_there : (o : Option (List (Clause Variable))) (cs : List (Clause Variable)) → unless_twice o ≡ Some cs → (o ≡ Some cs) × (are_distinct (flat_map variables_in cs) ≡ true)
  once_there None cs e = absurd (cc e)
  once_there (Some ds) cs e = go (are_distinct (flat_map variables_in ds)) refl e
    where
      go : (b : Bool) → are_distinct (flat_map variables_in ds) ≡ b → (if b then Some ds else None) ≡ Some cs → (Some ds ≡ Some cs) × (are_distinct (flat_map variables_in cs) ≡ true)
      go true t e = (e, subst (λ o. are_distinct (flat_map variables_in (unwrap_or o [])) ≡ true) e t)
      go false t e = absurd (cc e)

  module _ {S : Type 0} (table : HashMap ℕ Clauses S) (k : (n : ℕ) → kept table n ≡ told text (lines_of tree) n) where
    abbrev pub table_lines : Lines
    table_lines = lines_known (kept table)

    both_told : (ds : Directives) (ls : List (ℕ × Scope)) → AllFound text ds ls → AllLines (IsTold text (lines_of tree)) ls → AllLines (Knows tree ds table_lines) ls
    both_told ds [] f t = tt
    both_told ds (l ∷ ls) f t =
        let there = known table l.0 (at text (lines_of tree) l.0) (k l.0 ∙ t.0) in
        let once = once_there (resolve_clauses (scope_at (lines_of tree) l.0) (clauses_there (directive_on text l.0))) (table_lines l.0) there in
        ((same_clauses ds l.0 f.0 ∙ once.0, once.1), both_told ds ls f.1 t.1)

    -- of the lines of directives that are found it knows the clauses
    pub all_known : (ds : Directives) → AllFound text ds (lines_of tree) → AllLines (Knows tree ds table_lines) (lines_of tree)
    all_known ds f = both_told ds (lines_of tree) f (all_told text (lines_of tree))

    -- and of every other line there are none
    pub clauses_are : AllRead text (lines_of tree) → (n : ℕ) → clauses_at tree (directives_of text tree) n ≡ Some (table_lines n)
    clauses_are r n = go (told text (lines_of tree) n) refl
      where
        go : (o : Option (Option (List (Clause Variable)))) → told text (lines_of tree) n ≡ o → clauses_at tree (directives_of text tree) n ≡ Some (table_lines n)
        go None e =
            ap (λ d. resolve_clauses (scope_at (lines_of tree) n) (clauses_there d)) (no_directive text (lines_of tree) n e) ∙ ap (λ o. Some (known_clauses o)) (sym (k n ∙ e))
        go (Some o) e =
            (at_line text (Knows tree (directives_of text tree) table_lines) (lines_of tree) (all_known (directives_of text tree) (all_found text (lines_of tree) r)) n o e).0

    has_clauses : (ds : Directives) (ls : List (ℕ × Scope)) → AllLines (Knows tree ds table_lines) ls → AllLines (HasClauses tree ds) ls
    has_clauses ds [] h = tt
    has_clauses ds (l ∷ ls) h = ((table_lines l.0, h.0.0), has_clauses ds ls h.1)

    pub are_resolved : AllRead text (lines_of tree) → IsResolved tree (directives_of text tree)
    are_resolved r =
        let ds = directives_of text tree in
        record { each = of_lines text (HasClauses tree ds) (lines_of tree) r (has_clauses ds (lines_of tree) (all_known ds (all_found text (lines_of tree) r))) }

    pub are_named : AllRead text (lines_of tree) → name_rightly table_lines tree ≡ true → NameRightly tree (directives_of text tree)
    are_named r h = rightly_named tree (directives_of text tree) table_lines (all_known (directives_of text tree) (all_found text (lines_of tree) r)) h

  -- ---- what stands

  pub standing_read : is_standing text tree ≡ true → AllRead text (lines_of tree)
  standing_read h = read_among text _ true false None tree.body h

  pub standing_placed : is_standing text tree ≡ true → is_well_placed tree (directives_of text tree) ≡ true
  standing_placed h = sym (all_placed text (directives_of text tree) _ true false None tree.body (all_found text (lines_of tree) (standing_read h))) ∙ h

  -- ---- and what is attached

  module _ (ds : Directives) (a : IsAttached text tree ds) where
    pub are_these : (ds ≡ directives_of text tree) × AllRead text (lines_of tree)
    are_these = the_same text (lines_of tree) ds a.read.lines a.read.each

    pub found_there : AllFound text ds (lines_of tree)
    found_there = subst (λ es. AllFound text es (lines_of tree)) (sym are_these.0) (all_found text (lines_of tree) are_these.1)

    pub attached_stands : is_standing text tree ≡ true
    attached_stands = all_placed text ds _ true false None tree.body found_there ∙ a.placed

    attached_resolved : AllLines (λ n. (cs : List (Clause Variable)) × (clauses_at tree ds n ≡ Some cs)) (lines_of tree)
    attached_resolved =
        of_directives text (λ n. (cs : List (Clause Variable)) × (clauses_at tree ds n ≡ Some cs)) (lines_of tree) are_these.1
        (subst (λ es. All (λ (d : ℕ × Directive Name). (cs : List (Clause Variable)) × (clauses_at tree ds d.0 ≡ Some cs)) es) are_these.0 a.resolved.each)

    attached_once : AllLines (Once tree ds) (lines_of tree)
    attached_once = once_among tree ds _ true false None None tree.body a.placed (recursion_from_All (NamesRightly tree ds) (constructs_among None tree.body) a.named)

    pub not_missed : (n : ℕ) → told text (lines_of tree) n ≡ Some None → ⊥
    not_missed n e =
        let c = at_line text (λ m. (cs : List (Clause Variable)) × (clauses_at tree ds m ≡ Some cs)) (lines_of tree) attached_resolved n None e in
        let f = at_line text (Found text ds) (lines_of tree) found_there n None e in
        let t : told text (lines_of tree) n ≡ Some (at text (lines_of tree) n) = at_line text (IsTold text (lines_of tree)) (lines_of tree) (all_told text (lines_of tree)) n None e in
        let once = at_line text (Once tree ds) (lines_of tree) attached_once n None e in
        let is : at text (lines_of tree) n ≡ Some c.0 = ap unless_twice (sym (same_clauses ds n f) ∙ c.1) ∙ ap (λ (b : Bool). if b then Some c.0 else None) (once c.0 c.1) in
        let clash : Some None ≡ Some (Some c.0) = sym e ∙ t ∙ ap Some is in
        absurd (cc clash)

    -- the names of its constructs stand rightly
    pub attached_named : {S : Type 0} (table : HashMap ℕ Clauses S) → ((n : ℕ) → kept table n ≡ told text (lines_of tree) n) → name_rightly (lines_known (kept table)) tree ≡ true
    attached_named table k = named_back tree ds (lines_known (kept table)) (all_known table k ds found_there) a.named
