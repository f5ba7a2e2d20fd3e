-- The phases of a kernel that has passed, line by line.
use Rattle.std.specs.Prelude.{ℕ, suc, Bool, true, false, not, ◌≡◌, ◌⊎◌, ◌==◌, ◌++◌, if◌then◌else◌, List, [], ◌∷◌, map, flat_map, Some}
use Rattle.std.specs.List.{list_all}
use Rattle.std.proofs.Common.{refl, sym, ap, ◌∙◌, subst, inl, inr}
use Rattle.std.proofs.lemmas.Bool.{true≢false, eqb-true, eq-eqb}
use Rattle.std.proofs.lemmas.Option.{same_Some, none-some}
use Rattle.semantics.specs.Tree.{Variable, Stmt, Assign, Update, If, IfElse, For, Block, Print, Items, no_items, mark, local, stmt, Kernel}
use Rattle.semantics.specs.Source.Text.{line_at}
use Rattle.semantics.specs.Loops.Nest.{Loop, nest_of}
use Rattle.semantics.specs.Loops.Operator.{ReduceOp}
use Rattle.semantics.specs.Directives.Directive.{Clause, DefaultShared, DefaultNone, Shared, Private, Firstprivate, Lastprivate, LastConditional, Reduction, Inscan, ScheduledBy, Collapse, Ordered, OrderedLoops, Nowait}
use Rattle.semantics.specs.Directives.Clauses.{reduction_of, inscan_of, is_scan}
use Rattle.semantics.specs.Meaning.Agrees.{is_among}
use Rattle.semantics.proofs.EraseTokenLaw.{first_of, second_of}
use Rattle.law_commute.proofs.Lists.{Among}
use Rattle.law_roles.specs.Sharing.{assigned_first, are_different}
use Rattle.pragma.specs.Parallel.{associated, LineHas, FirstHas}
use Rattle.pragma.proofs.LoopLaw.{read_once}
use Rattle.pragma_named.specs.Known.{Lines}
use Rattle.flow.specs.Private.{all_but}
use Rattle.flow.specs.Phases as said
use Rattle.flow.specs.Phases.{item_count, PhasesBy}
use Rattle.flow.specs.Roles.{LineData, line_data, AskedByLine, KeepsRolesThere, LoopsHaveBy, ItemsHaveBy, ItemsKeepRoles}
use Rattle.flow_scan.specs.Lines.{suits_scan, sole_of, scanned}
use Rattle.flow_scan.specs.Parts.{count}
use Rattle.flow_scan.specs.Scans.{ScanPart, scans_of}
use Rattle.flow_scan.specs.Views.{phases_at}
use Rattle.flow_scan.specs.Laws.{HasPhases, ScanThere}
use Rattle.flow_scan.proofs.TellLaw.{among_at, lines_of, never_twice}

-- ---- what is asked twice of each line

module _ (text : List ℕ) (A B C : AskedByLine) (both : (line : ℕ) (serial : List Loop) (n : ℕ) (s : Stmt) → A line serial n s → B line serial n s → C line serial n s) where
  first_both : (line : ℕ) (serial : List Loop) (n : ℕ) (items : Items) → FirstHas (A line) serial n items → FirstHas (B line) serial n items → FirstHas (C line) serial n items
  first_both line serial n no_items a b = a
  first_both line serial n (mark other rest) a b = a
  first_both line serial n (local x name start rest) a b = a
  first_both line serial n (stmt s rest) a b = both line serial n s a b

  line_both : (line : ℕ) (serial : List Loop) (items : Items) → LineHas text (A line) serial line items → LineHas text (B line) serial line items → LineHas text (C line) serial line items
  line_both line serial items (k, c, reads, a) (k', c', reads', b) =
      let same = (read_once (line_at text line) k' c' k c reads' reads).1 in
      (k, c, reads, first_both line serial (associated c) items a (subst (λ d. FirstHas (B line) serial (associated d) items) same b))

  mutual
    loops_both : (serial : List Loop) (s : Stmt) → LoopsHaveBy text A serial s → LoopsHaveBy text B serial s → LoopsHaveBy text C serial s
    loops_both serial (Assign x is e) a b = tt
    loops_both serial (Update x is op e) a b = tt
    loops_both serial (If c s) a b = loops_both serial s a b
    loops_both serial (IfElse c s t) a b = (loops_both serial s a.0 b.0, loops_both serial t a.1 b.1)
    loops_both serial (For x name start test step body) a b = loops_both (serial ++ record { variable = x; start = start; test = test; step = step } ∷ []) body a b
    loops_both serial (Block items) a b = items_both serial items a b
    loops_both serial (Print parts) a b = tt

    pub items_both : (serial : List Loop) (items : Items) → ItemsHaveBy text A serial items → ItemsHaveBy text B serial items → ItemsHaveBy text C serial items
    items_both serial no_items a b = tt
    items_both serial (mark line rest) a b = (line_both line serial rest a.0 b.0, items_both serial rest a.1 b.1)
    items_both serial (local x name start rest) a b = items_both serial rest a b
    items_both serial (stmt s rest) a b = (loops_both serial s a.0 b.0, items_both serial rest a.1 b.1)

-- ---- the clauses of a line

none_scanned : (cs : List (Clause Variable)) → is_scan cs ≡ false → flat_map inscan_of cs ≡ []
none_scanned [] h = refl
none_scanned (DefaultShared ∷ cs) h = none_scanned cs h
none_scanned (DefaultNone ∷ cs) h = none_scanned cs h
none_scanned (Shared xs ∷ cs) h = none_scanned cs h
none_scanned (Private xs ∷ cs) h = none_scanned cs h
none_scanned (Firstprivate xs ∷ cs) h = none_scanned cs h
none_scanned (Lastprivate xs ∷ cs) h = none_scanned cs h
none_scanned (LastConditional xs ∷ cs) h = none_scanned cs h
none_scanned (Reduction op xs ∷ cs) h = none_scanned cs h
none_scanned (Inscan op x ∷ cs) h = absurd (true≢false h)
none_scanned (ScheduledBy k ∷ cs) h = none_scanned cs h
none_scanned (Collapse c ∷ cs) h = none_scanned cs h
none_scanned (Ordered ∷ cs) h = none_scanned cs h
none_scanned (OrderedLoops n ∷ cs) h = none_scanned cs h
none_scanned (Nowait ∷ cs) h = none_scanned cs h

none_reduced : (cs : List (Clause Variable)) → list_all suits_scan cs ≡ true → flat_map reduction_of cs ≡ []
none_reduced [] h = refl
none_reduced (DefaultShared ∷ cs) h = none_reduced cs h
none_reduced (DefaultNone ∷ cs) h = none_reduced cs h
none_reduced (Shared xs ∷ cs) h = none_reduced cs h
none_reduced (Private xs ∷ cs) h = none_reduced cs h
none_reduced (Firstprivate xs ∷ cs) h = none_reduced cs h
none_reduced (Lastprivate xs ∷ cs) h = none_reduced cs h
none_reduced (LastConditional xs ∷ cs) h = none_reduced cs h
none_reduced (Reduction op xs ∷ cs) h = absurd (true≢false (sym h))
none_reduced (Inscan op x ∷ cs) h = none_reduced cs h
none_reduced (ScheduledBy k ∷ cs) h = absurd (true≢false (sym h))
none_reduced (Collapse c ∷ cs) h = none_reduced cs h
none_reduced (Ordered ∷ cs) h = absurd (true≢false (sym h))
none_reduced (OrderedLoops n ∷ cs) h = absurd (true≢false (sym h))
none_reduced (Nowait ∷ cs) h = none_reduced cs h

sole_is : (rs : List (Variable × ReduceOp)) (r : Variable × ReduceOp) → sole_of rs ≡ Some r → rs ≡ r ∷ []
sole_is [] r h = absurd (none-some r h)
sole_is (q ∷ []) r h = ap (λ p. p ∷ []) (same_Some q r h)
sole_is (q ∷ p ∷ rs) r h = absurd (none-some r h)

-- ---- phases

same_count : (items : Items) → count items ≡ item_count items
same_count no_items = refl
same_count (mark line rest) = same_count rest
same_count (local x name start rest) = ap (λ n. suc n) (same_count rest)
same_count (stmt s rest) = ap (λ n. suc n) (same_count rest)

-- what is told of a line that is told of once
lookup : (parts : List ScanPart) (p : ScanPart) → are_different (lines_of parts) ≡ true → Among parts p → phases_at parts p.line ≡ Some (p.inclusive, p.front)
lookup [] p d h = absurd h
lookup (q ∷ qs) p d (inl e) = ap (λ b. if b then Some (q.inclusive, q.front) else phases_at qs p.line) (eq-eqb q.line p.line (ap (λ (r : ScanPart). r.line) e)) ∙ ap (λ (r : ScanPart). Some (r.inclusive, r.front)) e
lookup (q ∷ qs) p d (inr h) = at (q.line == p.line) refl (lookup qs p (second_of (not (is_among (lines_of qs) q.line)) (are_different (lines_of qs)) d) h)
  where
    at : (b : Bool) → (q.line == p.line) ≡ b → phases_at qs p.line ≡ Some (p.inclusive, p.front) → (if b then Some (q.inclusive, q.front) else phases_at qs p.line) ≡ Some (p.inclusive, p.front)
    at true e rest = absurd (never_twice q qs p (first_of (not (is_among (lines_of qs) q.line)) (are_different (lines_of qs)) d) h (eqb-true q.line p.line e))
    at false e rest = rest

-- none of some variables stands in a list
left_out : (xs : List Variable) (x : Variable) (op : ReduceOp) → list_all (all_but xs) (map (λ (r : Variable × ReduceOp). r.0) ((x, op) ∷ [])) ≡ true → is_among xs x ≡ false
left_out xs x op h = go (is_among xs x) (first_of (not (is_among xs x)) true h)
  where
    go : (b : Bool) → not b ≡ true → b ≡ false
    go true q = absurd (true≢false (sym q))
    go false q = refl

module _ (text : List ℕ) (lines : Lines) (files : ℕ) (tree : Kernel) (different : are_different (lines_of (scans_of text lines tree)) ≡ true) where
  abbrev R : LineData
  R line = line_data files (lines line)

  -- the phases of a loop, and the roles that it keeps
  phased : (line : ℕ) (serial : List Loop) (n : ℕ) (s : Stmt) → ScanThere text lines tree line serial n s → KeepsRolesThere (R line) serial n s → PhasesBy R (phases_at (scans_of text lines tree)) line serial n s
  phased line serial n s there kept = at (is_scan (lines line)) refl
    where
      found : (n ≡ 1) × HasPhases text lines tree line s → said.HasPhases (R line) (phases_at (scans_of text lines tree) line) n s
      found (one, its) =
          let sole = sole_is (scanned (lines line)) (its.variable, its.operator) its.reduced in
          record {
            variable = its.variable;
            operator = its.operator;
            sole = sole;
            alone = none_reduced (lines line) its.suits;
            plain = left_out (assigned_first (R line).roles) its.variable its.operator (subst (λ (cs : List (Variable × ReduceOp)). list_all (all_but (assigned_first (R line).roles)) (map (λ r. r.0) cs) ≡ true) sole kept.once);
            inclusive = its.inclusive;
            front = its.front;
            back = its.back;
            told = lookup (scans_of text lines tree) (record { line = line; inclusive = its.inclusive; front = count its.front }) different
                (among_at (scans_of text lines tree) (record { line = line; inclusive = its.inclusive; front = count its.front }) its.told.0 its.told.1 its.told.2)
                ∙ ap (λ m. Some (its.inclusive, m)) (same_count its.front);
            loops = record { variable = its.counter; start = its.start; test = its.test; step = its.step } ∷ [];
            nest = ap (λ m. nest_of m s) one ∙ ap (nest_of 1) its.is;
            keeps = its.keeps;
          }

      at : (b : Bool) → is_scan (lines line) ≡ b → ((R line).carried ≡ []) ⊎ said.HasPhases (R line) (phases_at (scans_of text lines tree) line) n s
      at false e = inl (none_scanned (lines line) e)
      at true e = inr (found (there e))

  pub all_phased : (items : Items) → ItemsHaveBy text (ScanThere text lines tree) [] items → ItemsKeepRoles text R [] items → ItemsHaveBy text (PhasesBy R (phases_at (scans_of text lines tree))) [] items
  all_phased items there kept = items_both text (ScanThere text lines tree) (λ line. KeepsRolesThere (R line)) (PhasesBy R (phases_at (scans_of text lines tree))) phased [] items there kept
