-- Phases without some of their directive lines.
use Rattle.std.specs.Prelude.{ℕ, suc, Bool, true, false, not, ◌==◌, ◌&&◌, ◌||◌, if◌then◌else◌, ◌≡◌, List, [], ◌∷◌, ◌++◌, Option, Some, None, option_map}
use Rattle.std.specs.List.{list_all}
use Rattle.std.proofs.Common.{refl, sym, ap, ◌∙◌}
use Rattle.std.proofs.lemmas.Option.{same_Some, none-some}
use Rattle.semantics.specs.Tree.{Name, Variable, Expr, Object, no_exprs, Cond, Compare, Stmt, Assign, Update, If, IfElse, For, Block, Print, Items, no_items, mark, local, stmt}
use Rattle.semantics.specs.Meaning.Agrees.{is_among, names_expr, names_cond, names_source, names_start, names_step}
use Rattle.semantics.specs.Loops.Operator.{ReduceOp}
use Rattle.semantics.specs.Directives.Naming.{named_cond, named_source, named_start, named_step}
use Rattle.semantics.specs.Directives.Directive.{Directive, ParallelFor, Parallel, Worksharing, ScanInclusive, ScanExclusive, OrderedRegion, DoacrossSource, DoacrossSink}
use Rattle.law_commute.proofs.Values.{first_of, second_of}
use Rattle.law_lines.specs.Without.{without_in, without_among}
use Rattle.law_roles.specs.Updates.{operator_of, is_plain, is_selected, is_choice, assigns, sole, reduces, all_reduce}
use Rattle.law_scans.specs.Phases.{joined_items, written_in, written_among, read_in, read_among, spares, keeps_phases}
use Rattle.pragma_attach.specs.Standing.{directive_on}
use Rattle.pragma_region.specs.Regions.{is_region_line, is_ordered_line, is_scan, is_scan_line, is_doacross_line, is_left_out}
use Rattle.flow_scan.specs.Lines.{ScanSaid, scan_said, scan_on}
use Rattle.flow_scan.specs.Parts.{Parts, behind_item, cut_here, cut, count}

pub both_true : {a b : Bool} → a ≡ true → b ≡ true → (a && b) ≡ true
both_true {a} {b} p q = ap (λ x. x && b) p ∙ q

or_left : (a b : Bool) → a ≡ true → (a || b) ≡ true
or_left a b p = ap (λ x. x || b) p

or_right : (a b : Bool) → b ≡ true → (a || b) ≡ true
or_right true b q = refl
or_right false b q = q

-- what does not see directive lines does not see whether one is there
at_line : {A : Type 0} (f : Items → A) (n : ℕ) (rest : Items) (b : Bool) → f (mark n rest) ≡ f rest → f (if b then rest else mark n rest) ≡ f rest
at_line f n rest true e = refl
at_line f n rest false e = e

module _ (out : ℕ → Bool) where
  mutual
    written_same : (s : Stmt) → written_in (without_in out s) ≡ written_in s
    written_same (Assign x is e) = refl
    written_same (Update x is op e) = refl
    written_same (If c a) = written_same a
    written_same (IfElse c a b) = ap (λ xs. xs ++ written_in (without_in out b)) (written_same a) ∙ ap (λ xs. written_in a ++ xs) (written_same b)
    written_same (For x name start test step body) = ap (λ xs. x ∷ xs) (written_same body)
    written_same (Block items) = written_all items
    written_same (Print parts) = refl

    written_all : (items : Items) → written_among (without_among out items) ≡ written_among items
    written_all no_items = refl
    written_all (mark n rest) = at_line written_among n (without_among out rest) (out n) refl ∙ written_all rest
    written_all (local x name None rest) = written_all rest
    written_all (local x name (Some e) rest) = ap (λ xs. x ∷ xs) (written_all rest)
    written_all (stmt s rest) = ap (λ xs. xs ++ written_among (without_among out rest)) (written_same s) ∙ ap (λ xs. written_in s ++ xs) (written_all rest)

  mutual
    read_same : (s : Stmt) → read_in (without_in out s) ≡ read_in s
    read_same (Assign x is e) = refl
    read_same (Update x is op e) = refl
    read_same (If c a) = ap (λ xs. named_cond c ++ xs) (read_same a)
    read_same (IfElse c a b) = ap (λ xs. named_cond c ++ xs ++ read_in (without_in out b)) (read_same a) ∙ ap (λ xs. named_cond c ++ read_in a ++ xs) (read_same b)
    read_same (For x name start test step body) = ap (λ xs. named_source start ++ named_cond test ++ named_step step ++ xs) (read_same body)
    read_same (Block items) = read_all items
    read_same (Print parts) = refl

    read_all : (items : Items) → read_among (without_among out items) ≡ read_among items
    read_all no_items = refl
    read_all (mark n rest) = at_line read_among n (without_among out rest) (out n) refl ∙ read_all rest
    read_all (local x name start rest) = ap (λ xs. named_start start ++ xs) (read_all rest)
    read_all (stmt s rest) = ap (λ xs. xs ++ read_among (without_among out rest)) (read_same s) ∙ ap (λ xs. read_in s ++ xs) (read_all rest)

  pub count_all : (items : Items) → count (without_among out items) ≡ count items
  count_all no_items = refl
  count_all (mark n rest) = at_line count n (without_among out rest) (out n) refl ∙ count_all rest
  count_all (local x name start rest) = ap suc (count_all rest)
  count_all (stmt s rest) = ap suc (count_all rest)

  -- a statement that assigns stands as it did, in its braces
  sole_same : (x : Variable) (e : Expr) (a : Stmt) → assigns x e (sole a) ≡ true → sole (without_in out a) ≡ sole a
  sole_same x e (Assign y is d) h = refl
  sole_same x e (Update y is op d) h = refl
  sole_same x e (If c a) h = absurd (cc h)
  sole_same x e (IfElse c a b) h = absurd (cc h)
  sole_same x e (For y name start test step body) h = absurd (cc h)
  sole_same x e (Block (stmt a no_items)) h = sole_same x e a h
  sole_same x e (Block no_items) h = refl
  sole_same x e (Block (mark n rest)) h = absurd (cc h)
  sole_same x e (Block (local y name start rest)) h = absurd (cc h)
  sole_same x e (Block (stmt a (mark n rest))) h = absurd (cc h)
  sole_same x e (Block (stmt a (local y name start rest))) h = absurd (cc h)
  sole_same x e (Block (stmt a (stmt b rest))) h = absurd (cc h)
  sole_same x e (Print parts) h = refl

  module _ (rs : List (Variable × ReduceOp)) where
    choice_kept : (c : Cond) (a : Stmt) → is_choice rs c a ≡ true → is_choice rs c (without_in out a) ≡ true
    choice_kept (Compare by e (Object x no_exprs)) a h =
        let plain = names_expr (is_plain rs) e in
        let chosen = is_selected (operator_of rs x) by in
        ap (λ s. chosen && assigns x e s && plain) (sole_same x e a (second_of chosen (assigns x e (sole a)) (first_of (chosen && assigns x e (sole a)) plain h))) ∙ h
    choice_kept c a h = absurd (cc h)

    mutual
      reduces_kept : (s : Stmt) → reduces rs s ≡ true → reduces rs (without_in out s) ≡ true
      reduces_kept (Assign x is e) h = h
      reduces_kept (Update x is op e) h = h
      reduces_kept (If c a) h = by (is_choice rs c a) refl (reduces_kept a) h
        where
          by : (b : Bool) → is_choice rs c a ≡ b → (reduces rs a ≡ true → reduces rs (without_in out a) ≡ true) → (b || (names_cond (is_plain rs) c && reduces rs a)) ≡ true
              → (is_choice rs c (without_in out a) || (names_cond (is_plain rs) c && reduces rs (without_in out a))) ≡ true
          by true e inside g = or_left (is_choice rs c (without_in out a)) (names_cond (is_plain rs) c && reduces rs (without_in out a)) (choice_kept c a e)
          by false e inside g =
              or_right (is_choice rs c (without_in out a)) (names_cond (is_plain rs) c && reduces rs (without_in out a))
              (both_true (first_of (names_cond (is_plain rs) c) (reduces rs a) g) (inside (second_of (names_cond (is_plain rs) c) (reduces rs a) g)))
      reduces_kept (IfElse c a b) h =
          let plain = names_cond (is_plain rs) c in
          let before = first_of (plain && reduces rs a) (reduces rs b) h in
          both_true (both_true (first_of plain (reduces rs a) before) (reduces_kept a (second_of plain (reduces rs a) before))) (reduces_kept b (second_of (plain && reduces rs a) (reduces rs b) h))
      reduces_kept (For x name start test step body) h =
          let head = is_plain rs x && names_source (is_plain rs) start && names_cond (is_plain rs) test && names_step (is_plain rs) step in
          both_true (first_of head (reduces rs body) h) (reduces_kept body (second_of head (reduces rs body) h))
      reduces_kept (Block items) h = all_kept items h
      reduces_kept (Print parts) h = h

      all_kept : (items : Items) → all_reduce rs items ≡ true → all_reduce rs (without_among out items) ≡ true
      all_kept no_items h = refl
      all_kept (mark n rest) h = at_line (all_reduce rs) n (without_among out rest) (out n) refl ∙ all_kept rest h
      all_kept (local x name start rest) h =
          let head = is_plain rs x && names_start (is_plain rs) start in
          both_true (first_of head (all_reduce rs rest) h) (all_kept rest (second_of head (all_reduce rs rest) h))
      all_kept (stmt s rest) h = both_true (reduces_kept s (first_of (reduces rs s) (all_reduce rs rest) h)) (all_kept rest (second_of (reduces rs s) (all_reduce rs rest) h))

  spares_same : (x : Variable) (a b : Items) → spares x (without_among out a) (without_among out b) ≡ spares x a b
  spares_same x a b =
      ap (λ ws. list_all (λ y. y == x || not (is_among (read_among (without_among out b)) y)) ws) (written_all a)
      ∙ ap (λ rs. list_all (λ y. y == x || not (is_among rs y)) (written_among a)) (read_all b)

  -- an input phase, a scan phase, and what these are by their places
  four_kept : (x : Variable) (op : ReduceOp) (i s f b : Items)
      → (all_reduce ((x, op) ∷ []) i && not (is_among (written_among s) x) && spares x f b && spares x b f) ≡ true
      → (all_reduce ((x, op) ∷ []) (without_among out i) && not (is_among (written_among (without_among out s)) x) && spares x (without_among out f) (without_among out b) && spares x (without_among out b) (without_among out f)) ≡ true
  four_kept x op i s f b h =
      let reduced = all_reduce ((x, op) ∷ []) i in
      let unwritten = not (is_among (written_among s) x) in
      let three = first_of (reduced && unwritten && spares x f b) (spares x b f) h in
      let two = first_of (reduced && unwritten) (spares x f b) three in
      both_true (both_true (both_true (all_kept ((x, op) ∷ []) i (first_of reduced unwritten two)) (ap (λ ws. not (is_among ws x)) (written_all s) ∙ second_of reduced unwritten two))
      (spares_same x f b ∙ second_of (reduced && unwritten) (spares x f b) three)) (spares_same x b f ∙ second_of (reduced && unwritten && spares x f b) (spares x b f) h)

  -- phases keep apart
  pub phases_kept : (x : Variable) (op : ReduceOp) (inclusive : Bool) (front back : Items) → keeps_phases x op inclusive front back ≡ true
      → keeps_phases x op inclusive (without_among out front) (without_among out back) ≡ true
  phases_kept x op true front back h = four_kept x op front back front back h
  phases_kept x op false front back h = four_kept x op back front front back h

-- ---- a body that is cut

pub is_scan_said : (text : List ℕ) (n : ℕ) (said : ScanSaid) → scan_on text n ≡ Some said → is_scan_line text n ≡ true
is_scan_said text n said e = go (directive_on text n) refl
  where
    go : (o : Option (Directive Name)) → directive_on text n ≡ o → is_scan_line text n ≡ true
    go (Some (ScanInclusive w)) f = ap is_scan f
    go (Some (ScanExclusive w)) f = ap is_scan f
    go (Some (ParallelFor cs)) f = absurd (none-some said (sym (ap scan_said f) ∙ e))
    go (Some (Parallel cs)) f = absurd (none-some said (sym (ap scan_said f) ∙ e))
    go (Some (Worksharing cs)) f = absurd (none-some said (sym (ap scan_said f) ∙ e))
    go (Some OrderedRegion) f = absurd (none-some said (sym (ap scan_said f) ∙ e))
    go (Some DoacrossSource) f = absurd (none-some said (sym (ap scan_said f) ∙ e))
    go (Some (DoacrossSink es)) f = absurd (none-some said (sym (ap scan_said f) ∙ e))
    go None f = absurd (none-some said (sym (ap scan_said f) ∙ e))

-- it is left out
scan_is_out : (text : List ℕ) (n : ℕ) → is_scan_line text n ≡ true → is_left_out text n ≡ true
scan_is_out text n e = or_left (is_region_line text n || is_ordered_line text n || is_scan_line text n) (is_doacross_line text n) (or_right (is_region_line text n || is_ordered_line text n) (is_scan_line text n) e)

record Further (item : Items → Items) (o : Option Parts) (p : Parts) : Type 0 where
  parts : Parts
  there : o ≡ Some parts
  is : behind_item item parts ≡ p

further : (item : Items → Items) (o : Option Parts) (p : Parts) → option_map (behind_item item) o ≡ Some p → Further item o p
further item None p e = absurd (none-some p e)
further item (Some q) p e = record { parts = q; there = refl; is = same_Some (behind_item item q) p e }

module _ (text : List ℕ) where
  abbrev left : Items → Items
  left items = without_among (is_left_out text) items

  abbrev sides : Parts → Items
  sides p = joined_items (left p.front) (left p.back)

  line_joined : (n : ℕ) (b : Bool) (f k : Items) → (if b then joined_items f k else mark n (joined_items f k)) ≡ joined_items (if b then f else mark n f) k
  line_joined n true f k = refl
  line_joined n false f k = refl

  -- without the line its sides stand one behind the other
  pub cut_joined : (items : Items) (p : Parts) → cut text items ≡ Some p → left items ≡ joined_items (left p.front) (left p.back)
  cut_joined no_items p e = absurd (none-some p e)
  cut_joined (mark n rest) p e = go (scan_on text n) refl (cut_joined rest) e
    where
      go : (o : Option ScanSaid) → scan_on text n ≡ o → ((q : Parts) → cut text rest ≡ Some q → left rest ≡ sides q)
          → cut_here o rest (option_map (behind_item (mark n)) (cut text rest)) ≡ Some p → left (mark n rest) ≡ sides p
      go (Some said) f inner g =
          ap (λ b. if b then left rest else mark n (left rest)) (scan_is_out text n (is_scan_said text n said f)) ∙ ap sides (same_Some (record { said = said; front = no_items; back = rest }) p g)
      go None f inner g =
          let more = further (mark n) (cut text rest) p g in
          let q = more.parts in
          ap (λ r. if is_left_out text n then r else mark n r) (inner q more.there) ∙ line_joined n (is_left_out text n) (left q.front) (left q.back) ∙ ap sides more.is
  cut_joined (local x name start rest) p e =
      let more = further (local x name start) (cut text rest) p e in
      ap (local x name start) (cut_joined rest more.parts more.there) ∙ ap sides more.is
  cut_joined (stmt s rest) p e =
      let more = further (stmt s) (cut text rest) p e in
      ap (stmt (without_in (is_left_out text) s)) (cut_joined rest more.parts more.there) ∙ ap sides more.is
