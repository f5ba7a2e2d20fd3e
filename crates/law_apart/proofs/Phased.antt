-- A scan's variable that is assigned is read before, so that it is known before the loop. (OpenMP 5.2, 5.6)
use Rattle.std.specs.Prelude.{ℕ, zero, suc, Bool, true, false, not, ◌≡◌, ◌==◌, ◌&&◌, ◌||◌, List, [], ◌∷◌, ◌++◌, Option, Some, None, if◌then◌else◌}
use Rattle.std.proofs.Common.{refl, sym, ap, ◌∙◌, subst}
use Rattle.std.proofs.lemmas.Bool.{true≢false, or_parts, eq-eqb, false_from_ne_true}
use Rattle.std.proofs.lemmas.Option.{same_Some, none-some}
use Rattle.semantics.specs.Tree.{Name, Variable, Cond, Increment, no_exprs, more_exprs, Source, Stmt, Assign, Update, If, IfElse, For, Block, Print, Items, no_items, mark, local, stmt}
use Rattle.semantics.specs.Meaning.Agrees.{is_among, declared_in, declared_among, names_start}
use Rattle.semantics.specs.Meaning.Definite.{Privates, DefinitelyAssigned, known_with, without, may_read, may_read_all, may_test, may_take, may_print, privates_in, after_both, declared_known, definite, definite_items}
use Rattle.semantics.specs.Loops.Nest.{Loop, as_loop, nest_of}
use Rattle.semantics.specs.Loops.Operator.{ReduceOp}
use Rattle.flow.proofs.PrivateLemmas.{among_both}
use Rattle.flow.specs.Phases.{PhasesSaid, HasPhases}
use Rattle.flow.specs.Roles.{LoopData}
use Rattle.law_commute.specs.Targets.{targets, targets_among}
use Rattle.law_commute.proofs.Values.{first_of, second_of}
use Rattle.law_nests.proofs.Joined.{first_loop}
use Rattle.law_private.proofs.Alike.{without_within}
use Rattle.law_roles.specs.Updates.{operator_of, is_plain, reduces, all_reduce}
use Rattle.law_runs.proofs.Assigning.{swapped}
use Rattle.law_runs.proofs.Points.{allowed, tested_known, branches, and_then}
use Rattle.law_scans.specs.Phases.{joined_items, written_in, written_among, input_of, scan_of, spares, keeps_phases}
use Rattle.law_independence.proofs.Targeted.{in_neither}
use Rattle.law_scopes.proofs.Staying.{loop_is_known}
use Rattle.law_apart.proofs.Unread.{unread, other}

module _ (P : Privates) (x : Variable) where
  -- it is neither known behind nor assigned
  abbrev Unset : DefinitelyAssigned → List Variable → Type 0
  Unset k ts = (k x ≡ false) × (is_among ts x ≡ false)

  -- so it is behind a statement before which it is not known
  abbrev Quiet : Stmt → Type 0
  Quiet a = (k k' : DefinitelyAssigned) → definite P a k ≡ Some k' → k x ≡ false → Unset k' (targets a)

  -- each statement among items is so, and no local is that variable
  abbrev AllQuiet : Items → Type 0
  AllQuiet no_items = Unit {0}
  AllQuiet (mark line rest) = AllQuiet rest
  AllQuiet (local y name start rest) = ((y == x) ≡ false) × AllQuiet rest
  AllQuiet (stmt a rest) = Quiet a × AllQuiet rest

  unknown_with : (k : DefinitelyAssigned) (y : Variable) (b : Bool) → (y == x) ≡ false → k x ≡ false → known_with k y b x ≡ false
  unknown_with k y b apart u = ap (λ c. if c then b else k x) (swapped y x apart) ∙ u

  unknown_without : (xs : List Variable) (k : DefinitelyAssigned) → k x ≡ false → without k xs x ≡ false
  unknown_without xs k u = false_from_ne_true (without k xs x) (λ h. absurd (true≢false (sym (without_within xs k x h) ∙ u)))

  same_unknown : (k k' : DefinitelyAssigned) → k ≡ k' → k x ≡ false → k' x ≡ false
  same_unknown k k' e u = sym (ap (λ (j : DefinitelyAssigned). j x) e) ∙ u

  either : (ts us : List Variable) → is_among ts x ≡ false → is_among us x ≡ false → is_among (ts ++ us) x ≡ false
  either ts us p q = among_both ts us x ∙ ap (λ b. b || is_among us x) p ∙ q

  left_unknown : (a b k' : DefinitelyAssigned) → (λ y. a y && b y) ≡ k' → a x ≡ false → k' x ≡ false
  left_unknown a b k' e u = sym (ap (λ (j : DefinitelyAssigned). j x) e) ∙ ap (λ c. c && b x) u

  -- a loop of another variable
  looped : (y : Variable) (name : Name) (start : Source) (test : Cond) (step : Increment) (body : Stmt) (k k' : DefinitelyAssigned) → definite P (For y name start test step body) k ≡ Some k' → k x ≡ false → (y == x) ≡ false → Quiet body
      → Unset k' (targets body)
  looped y name start test step body k k' q u apart quiet =
      let told = loop_is_known P y name start test step body k k' q in
      let privates = privates_in P body in
      let inside = quiet (without (known_with k y true) privates) told.after told.inside (unknown_without privates (known_with k y true) (unknown_with k y true apart u)) in
      (same_unknown (without k privates) k' told.behind (unknown_without privates k u), inside.1)

  -- ---- items

  quiet_among : (pending : List Variable) (items : Items) → AllQuiet items → (k k' : DefinitelyAssigned) → definite_items P pending items k ≡ Some k' → k x ≡ false → Unset k' (targets_among items)
  quiet_among pending no_items h k k' q u = (same_unknown k k' (same_Some k k' q) u, refl)
  quiet_among pending (mark line rest) h k k' q u = quiet_among (P line) rest h k k' q u
  quiet_among pending (local y name start rest) h k k' q u =
      let first = and_then (definite_items P [] rest) (declared_known k y start) k' q in
      quiet_among [] rest h.1 first.0 k' first.2 (declared start first.0 first.1)
    where
      declared : (start : Option Source) (j : DefinitelyAssigned) → declared_known k y start ≡ Some j → j x ≡ false
      declared None j d = same_unknown (known_with k y false) j (same_Some (known_with k y false) j d) (unknown_with k y false h.0 u)
      declared (Some e) j d = same_unknown (known_with k y true) j (allowed (may_take k e) (known_with k y true) j d).1 (unknown_with k y true h.0 u)
  quiet_among pending (stmt a rest) h k k' q u =
      let first = and_then (λ after. definite_items P [] rest (without after pending)) (definite P a k) k' q in
      let one = h.0 k first.0 first.1 u in
      let two = quiet_among [] rest h.1 (without first.0 pending) k' first.2 (unknown_without pending first.0 one.0) in
      (two.0, either (targets a) (targets_among rest) one.1 two.1)

  joined_quiet : (front back : Items) → AllQuiet front → AllQuiet back → AllQuiet (joined_items front back)
  joined_quiet no_items back h g = g
  joined_quiet (mark line rest) back h g = joined_quiet rest back h g
  joined_quiet (local y name start rest) back h g = (h.0, joined_quiet rest back h.1 g)
  joined_quiet (stmt a rest) back h g = (h.0, joined_quiet rest back h.1 g)

  -- ---- what does not write it

  mutual
    unwritten : (a : Stmt) → is_among (declared_in a) x ≡ false → is_among (written_in a) x ≡ false → Quiet a
    unwritten (Assign y no_exprs e) own none k k' q u =
        let apart = (or_parts (y == x) false none).0 in
        (same_unknown (known_with k y true) k' (allowed (may_read_all k no_exprs && may_take k e) (known_with k y true) k' q).1 (unknown_with k y true apart u), none)
    unwritten (Assign y (more_exprs i js) e) own none k k' q u =
        let apart = (or_parts (y == x) false none).0 in
        (same_unknown (known_with k y true) k' (allowed (may_read_all k (more_exprs i js) && may_take k e) (known_with k y true) k' q).1 (unknown_with k y true apart u), refl)
    unwritten (Update y no_exprs by e) own none k k' q u = (same_unknown k k' (allowed (k y && may_read_all k no_exprs && may_read k e) k k' q).1 u, none)
    unwritten (Update y (more_exprs i js) by e) own none k k' q u = (same_unknown k k' (allowed (k y && may_read_all k (more_exprs i js) && may_read k e) k k' q).1 u, refl)
    unwritten (If c a) own none k k' q u =
        let tested = tested_known (may_test k c) (after_both (definite P a k) (Some k)) k' q in
        let parts = branches (definite P a k) (Some k) k' tested.1 in
        let inside = unwritten a own none k parts.left parts.first u in
        (left_unknown parts.left parts.right k' parts.is inside.0, inside.1)
    unwritten (IfElse c a b) own none k k' q u =
        let tested = tested_known (may_test k c) (after_both (definite P a k) (definite P b k)) k' q in
        let parts = branches (definite P a k) (definite P b k) k' tested.1 in
        let owns = in_neither x (declared_in a) (declared_in b) own in
        let nones = in_neither x (written_in a) (written_in b) none in
        let one = unwritten a owns.0 nones.0 k parts.left parts.first u in
        let two = unwritten b owns.1 nones.1 k parts.right parts.second u in
        (left_unknown parts.left parts.right k' parts.is one.0, either (targets a) (targets b) one.1 two.1)
    unwritten (For y name start test step body) own none k k' q u =
        let apart = or_parts (y == x) (is_among (declared_in body) x) own in
        let nones = or_parts (y == x) (is_among (written_in body) x) none in
        looped y name start test step body k k' q u apart.0 (unwritten body apart.1 nones.1)
    unwritten (Block items) own none k k' q u = quiet_among [] items (unwritten_among items own none) k k' q u
    unwritten (Print parts) own none k k' q u = (same_unknown k k' (allowed (may_print k parts) k k' q).1 u, refl)

    unwritten_among : (items : Items) → is_among (declared_among items) x ≡ false → is_among (written_among items) x ≡ false → AllQuiet items
    unwritten_among no_items own none = tt
    unwritten_among (mark line rest) own none = unwritten_among rest own none
    unwritten_among (local y name None rest) own none =
        let owns = or_parts (y == x) (is_among (declared_among rest) x) own in (owns.0, unwritten_among rest owns.1 none)
    unwritten_among (local y name (Some e) rest) own none =
        let owns = or_parts (y == x) (is_among (declared_among rest) x) own in (owns.0, unwritten_among rest owns.1 (or_parts (y == x) (is_among (written_among rest) x) none).1)
    unwritten_among (stmt a rest) own none =
        let owns = in_neither x (declared_in a) (declared_among rest) own in
        let nones = in_neither x (written_in a) (written_among rest) none in
        (unwritten a owns.0 nones.0, unwritten_among rest owns.1 nones.1)

  -- ---- nests

  loop_quiet : (s : Stmt) (l : Loop) (b : Stmt) → as_loop s ≡ Some (l, b) → is_among (declared_in s) x ≡ false → (is_among (declared_in b) x ≡ false → Quiet b) → Quiet s
  loop_quiet (Assign y is e) l b h own rest k k' q u = absurd (none-some (l, b) h)
  loop_quiet (Update y is op e) l b h own rest k k' q u = absurd (none-some (l, b) h)
  loop_quiet (If c a) l b h own rest k k' q u = absurd (none-some (l, b) h)
  loop_quiet (IfElse c a e) l b h own rest k k' q u = absurd (none-some (l, b) h)
  loop_quiet (Print parts) l b h own rest k k' q u = absurd (none-some (l, b) h)
  loop_quiet (For y name start test step body) l b h own rest k k' q u =
      let apart = or_parts (y == x) (is_among (declared_in body) x) own in
      let same : b ≡ body = ap (λ (p : Loop × Stmt). p.1) (sym (same_Some (record { variable = y; start = start; test = test; step = step }, body) (l, b) h)) in
      looped y name start test step body k k' q u apart.0 (subst Quiet same (rest (subst (λ c. is_among (declared_in c) x ≡ false) (sym same) apart.1)))
  loop_quiet (Block no_items) l b h own rest k k' q u = absurd (none-some (l, b) h)
  loop_quiet (Block (mark line items)) l b h own rest k k' q u = absurd (none-some (l, b) h)
  loop_quiet (Block (local y name start items)) l b h own rest k k' q u = absurd (none-some (l, b) h)
  loop_quiet (Block (stmt a (mark line items))) l b h own rest k k' q u = absurd (none-some (l, b) h)
  loop_quiet (Block (stmt a (local y name start items))) l b h own rest k k' q u = absurd (none-some (l, b) h)
  loop_quiet (Block (stmt a (stmt c items))) l b h own rest k k' q u = absurd (none-some (l, b) h)
  loop_quiet (Block (stmt a no_items)) l b h own rest k k' q u =
      let first = and_then (λ after. definite_items P [] no_items (without after [])) (definite P a k) k' q in
      let one = loop_quiet a l b h (in_neither x (declared_in a) [] own).0 rest k first.0 first.1 u in
      (same_unknown first.0 k' (same_Some first.0 k' first.2) one.0, either (targets a) [] one.1 refl)

  nest_quiet : (n : ℕ) (s : Stmt) (loops : List Loop) (b : Stmt) → nest_of n s ≡ Some (loops, b) → is_among (declared_in s) x ≡ false → (is_among (declared_in b) x ≡ false → Quiet b) → Quiet s
  nest_quiet zero s loops b h own rest =
      let same : b ≡ s = ap (λ (p : List Loop × Stmt). p.1) (sym (same_Some ([], s) (loops, b) h)) in
      subst Quiet same (rest (subst (λ c. is_among (declared_in c) x ≡ false) (sym same) own))
  nest_quiet (suc n) s loops b h own rest =
      let first = first_loop n s loops b h in
      loop_quiet s first.loop first.inside first.is own (λ inside. nest_quiet n first.inside first.loops b first.rest inside rest)

  declared_apart : (front back : Items) → is_among (declared_among (joined_items front back)) x ≡ false → (is_among (declared_among front) x ≡ false) × (is_among (declared_among back) x ≡ false)
  declared_apart no_items back h = (refl, h)
  declared_apart (mark line rest) back h = declared_apart rest back h
  declared_apart (local y name start rest) back h =
      let parts = or_parts (y == x) (is_among (declared_among (joined_items rest back)) x) h in
      let further = declared_apart rest back parts.1 in
      (ap (λ b. b || is_among (declared_among rest) x) parts.0 ∙ further.0, further.1)
  declared_apart (stmt a rest) back h =
      let parts = in_neither x (declared_in a) (declared_among (joined_items rest back)) h in
      let further = declared_apart rest back parts.1 in
      (either (declared_in a) (declared_among rest) parts.0 further.0, further.1)

module _ (P : Privates) (x : Variable) (op : ReduceOp) where
  abbrev rs : List (Variable × ReduceOp)
  rs = (x, op) ∷ []

  is : operator_of rs x ≡ Some op
  is = ap (λ b. if b then Some op else None) (eq-eqb x x refl)

  reduced_quiet : (items : Items) → all_reduce rs items ≡ true → AllQuiet P x items
  reduced_quiet no_items h = tt
  reduced_quiet (mark line rest) h = reduced_quiet rest h
  reduced_quiet (local y name start rest) h =
      let parts = first_of (is_plain rs y && names_start (is_plain rs) start) (all_reduce rs rest) h in
      (other P rs x op is y (first_of (is_plain rs y) (names_start (is_plain rs) start) parts), reduced_quiet rest (second_of (is_plain rs y && names_start (is_plain rs) start) (all_reduce rs rest) h))
  reduced_quiet (stmt a rest) h = (λ k k' q u. unread P rs x op is a k k' (first_of (reduces rs a) (all_reduce rs rest) h) q u, reduced_quiet rest (second_of (reduces rs a) (all_reduce rs rest) h))

  phases_quiet : (inclusive : Bool) (front back : Items) → keeps_phases x op inclusive front back ≡ true → is_among (declared_among (joined_items front back)) x ≡ false → AllQuiet P x (joined_items front back)
  phases_quiet inclusive front back keeps own = at inclusive (parts.0) (parts.1)
    where
      uses : Bool
      uses = reduces rs (Block (input_of inclusive front back))

      reads : Bool
      reads = not (is_among (written_among (scan_of inclusive front back)) x)

      parts : (uses ≡ true) × (reads ≡ true)
      parts =
          let both = first_of (uses && reads) (spares x front back) (first_of (uses && reads && spares x front back) (spares x back front) keeps) in
          (first_of uses reads both, second_of uses reads both)

      apart : (is_among (declared_among front) x ≡ false) × (is_among (declared_among back) x ≡ false)
      apart = declared_apart P x front back own

      not_so : (b : Bool) → not b ≡ true → b ≡ false
      not_so true h = absurd (true≢false (sym h))
      not_so false h = refl

      at : (b : Bool) → reduces rs (Block (input_of b front back)) ≡ true → not (is_among (written_among (scan_of b front back)) x) ≡ true → AllQuiet P x (joined_items front back)
      at true updates read = joined_quiet P x front back (reduced_quiet front updates) (unwritten_among P x back apart.1 (not_so (is_among (written_among back) x) read))
      at false updates read = joined_quiet P x front back (unwritten_among P x front apart.0 (not_so (is_among (written_among front) x) read)) (reduced_quiet back updates)

-- a scan's variable that is assigned, and that the loop does not declare
pub known_before_scan : (P : Privates) (d : LoopData) (said : Option PhasesSaid) (n : ℕ) (s : Stmt) (its : HasPhases d said n s) (k k' : DefinitelyAssigned) → is_among (declared_in s) its.variable ≡ false → definite P s k ≡ Some k'
    → is_among (targets s) its.variable ≡ true → k its.variable ≡ true
known_before_scan P d said n s its k k' own q t = at (k its.variable) refl
  where
    quiet : Quiet P its.variable s
    quiet =
        nest_quiet P its.variable n s its.loops (Block (joined_items its.front its.back)) its.nest own
        (λ inside j j' e u. quiet_among P its.variable [] (joined_items its.front its.back) (phases_quiet P its.variable its.operator its.inclusive its.front its.back its.keeps inside) j j' e u)

    at : (b : Bool) → k its.variable ≡ b → b ≡ true
    at true u = refl
    at false u = absurd (true≢false (sym t ∙ (quiet k k' q u).1))
