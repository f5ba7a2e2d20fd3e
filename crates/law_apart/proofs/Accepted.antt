-- The parallel loops of accepted kernels leave what is visible round them as it was but for private scalars, and nothing assigns the variables of serial loops inside these.
use Rattle.std.specs.Prelude.{ℕ, suc, Bool, true, false, not, ◌⊎◌, ◌≡◌, ◌<◌, ◌≤◌, ◌==◌, ◌&&◌, ◌||◌, nat_lt, List, [], ◌∷◌, ◌++◌, length, map, is_some, Option, Some, IsSome}
use Rattle.std.specs.List.{AllByRecursion}
use Rattle.std.proofs.Common.{refl, sym, ap, ◌∙◌, subst, arith, inl, inr}
use Rattle.std.proofs.lemmas.Bool.{true≢false, eqb-true, eq-eqb, ltb-true, lt-ltb, or_cases, or_right, or_parts, not_from_false}
use Rattle.std.proofs.lemmas.List.{map-append}
use Rattle.std.proofs.lemmas.Option.{same_Some}
use Rattle.semantics.specs.Tree.{Name, Variable, Stmt, Items, Declaration}
use Rattle.semantics.specs.Source.Token.{Token}
use Rattle.semantics.specs.Source.Scope.{Scope, Entity, AVariable, AConstant}
use Rattle.semantics.specs.Source.Statements.{ReadsStmt, assign, update, if_only, if_else, for_loop, block, print, ReadsItems, no_more, line, empty_local, first_local, statement}
use Rattle.semantics.specs.Source.Text.{line_at}
use Rattle.semantics.specs.Meaning.State.{State}
use Rattle.semantics.specs.Meaning.Runs.{Effect}
use Rattle.semantics.specs.Meaning.Definite.{Privates, DefinitelyAssigned, known_with, without, may_take, may_test, no_privates, privates_in, after_both, declared_known, definite, definite_items, known_at_start}
use Rattle.semantics.specs.Meaning.Agrees.{also, is_among, declared_in, visible_behind}
use Rattle.semantics.specs.Loops.Nest.{Loop, nest_of}
use Rattle.semantics.specs.Loops.Operator.{ReduceOp}
use Rattle.law_lines.proofs.Kept.{kept_lines_are_read}
use Rattle.affine.specs.declared.interval.Side.{Side}
use Rattle.nest_loop.specs.Canonical.{stepped, assigns, assigns_among}
use Rattle.nest_loop.specs.Constants.{Each, IsSmall}
use Rattle.nest_loop.specs.Loops.{inside}
use Rattle.nest_loop.proofs.Visible.{each_weaker}
use Rattle.nest_loop.proofs.Heads.{head_of}
use Rattle.pragma.specs.Parallel.{associated, LineHas}
use Rattle.nest.specs.Nests.{Has, Have, StaysInside}
use Rattle.flow.proofs.PrivateLemmas.{among_both}
use Rattle.flow.specs.Phases.{HasPhases}
use Rattle.flow.specs.Roles.{left_roles, LineData, privates_by, KeepsItsRoles, KeepsRolesThere, LoopsHaveBy, ItemsHaveBy, LoopsKeepRoles, ItemsKeepRoles}
use Rattle.law_runs.proofs.Going.{known_with_less}
use Rattle.law_runs.proofs.Growing.{grows, known_below, visible_behind as also_visible, visible_later}
use Rattle.law_runs.proofs.Points.{rises, IsBelow, allowed, tested_known, branches, and_then}
use Rattle.law_runs.proofs.Nested.{decls_below, some_there}
use Rattle.law_commute.specs.Steady.{IsFixedSource, IsFixedCond}
use Rattle.law_commute.specs.Targets.{targets, targets_outside}
use Rattle.law_commute.proofs.Framed.{true_not_false}
use Rattle.law_commute.proofs.Values.{first_of, second_of}
use Rattle.law_nests.proofs.Joined.{IsFirst, first_loop}
use Rattle.law_private.specs.Known.{IsWithin}
use Rattle.law_private.proofs.Alike.{without_within, without_more}
use Rattle.law_private.proofs.More.{without_gone, more_known}
use Rattle.law_roles.proofs.Starts.{reduced_of}
use Rattle.law_independence.specs.Said.{LinesInside}
use Rattle.law_independence.specs.OrderLaws.{used_roles, StandsThere, IsSeen, IsMet, SharesBy}
use Rattle.law_independence.proofs.Grammar.{decls_small}
use Rattle.law_commute.proofs.Framed.{also_itself}
use Rattle.law_commute.proofs.Same.{also_more}
use Rattle.law_scopes.proofs.Turning.{at_turns}
use Rattle.law_independence.proofs.RoleNests.{among_some, among_reduced, scalar_assigned}
use Rattle.law_independence.proofs.Targeted.{no_target, outside_visible, outside_target, no_outside_target}
use Rattle.law_independence.proofs.Fixed.{form_fixed, own_fixed, step_fixed}
use Rattle.law_independence.proofs.Numbering.{undeclared}
use Rattle.law_independence.proofs.Naming.{IsNamed, NamesCounters, counters_inside, stmt_named}
use Rattle.law_independence.proofs.Starts.{AreBelow, below_later, below_with, next_unknown, all_start}
use Rattle.law_apart.specs.Apart.{apart_items}
use Rattle.law_apart.specs.Laws.{LeavesTheSame, AcceptedKernelsRunApart}
use Rattle.law_independence.proofs.Associated.{at_least_one}
use Rattle.law_scopes.proofs.Spots.{some_of, no_spot, Spot, spot_turn}
use Rattle.law_scopes.proofs.Staying.{loop_is_known, loop_knows, stays}
use Rattle.law_apart.proofs.Phased.{known_before_scan}
use Rattle.law_apart.proofs.Unread.{known_before}
use Rattle.law_apart.proofs.Kept.{Like, IsHanded, LoopsLeave, ItemsLeave, BehindLeave, items_like}

-- what is visible has a number below the next one
below_also : (V : Variable → Bool) (next : ℕ) → AreBelow V next → AreBelow (also V next) (suc next)
below_also V next below x h = at (x == next) refl h
  where
    at : (b : Bool) → (x == next) ≡ b → (b || V x) ≡ true → x < suc next
    at true e k = let same = eqb-true x next e in omega arith
    at false e k = let lt = below x k in omega arith

-- a variable that is assigned is none of those that are not
assigned_free : (F : Variable → Bool) (x : Variable) → ((y : Variable) → F y ≡ true → (x == y) ≡ false) → F x ≡ false
assigned_free F x kept = at (F x) refl
  where
    at : (b : Bool) → F x ≡ b → F x ≡ false
    at true e = absurd (true_not_false (x == x) (eq-eqb x x refl) (kept x e))
    at false e = e

-- a statement does not assign the variables of the loops round it
abbrev Spares : (Variable → Bool) → Stmt → Type 0
Spares F a = (y : Variable) → F y ≡ true → assigns y a ≡ false

abbrev AllSpare : (Variable → Bool) → Items → Type 0
AllSpare F items = (y : Variable) → F y ≡ true → assigns_among y items ≡ false

spares_inside : (F : Variable → Bool) (x : Variable) (body : Stmt) → Spares F body → assigns x body ≡ false → Spares (also F x) body
spares_inside F x body spared own y h = at (y == x) refl h
  where
    at : (b : Bool) → (y == x) ≡ b → (b || F y) ≡ true → assigns y body ≡ false
    at true e q = ap (λ z. assigns z body) (eqb-true y x e) ∙ own
    at false e q = spared y q

-- what is known behind both branches is known behind each
left_within : (a b k : DefinitelyAssigned) → (λ y. a y && b y) ≡ k → IsWithin k a
left_within a b k e y h = first_of (a y) (b y) (ap (λ (j : DefinitelyAssigned). j y) e ∙ h)

right_within : (a b k : DefinitelyAssigned) → (λ y. a y && b y) ≡ k → IsWithin k b
right_within a b k e y h = second_of (a y) (b y) (ap (λ (j : DefinitelyAssigned). j y) e ∙ h)

module _ (text : List ℕ) (ds : List Declaration) (R : LineData) (S : LinesInside) where
  abbrev P : Privates
  P = privates_by R

  -- what is known behind a statement has a number that was given
  below_behind : {scope : Scope} {o next next' : ℕ} {ts : List Token} {a : Stmt} → ReadsStmt scope o next ts a next' → Each (IsBelow next) scope → (k k' : DefinitelyAssigned) → AreBelow k next → definite P a k ≡ Some k' → AreBelow k' next'
  below_behind {next = next} {next' = next'} {a = a} r v k k' below d y h =
      let more = more_known.statements P no_privates a k k' k (λ at x q. absurd (cc q)) (λ x q. q) d in
      known_below next next' k more.known (rises r) below (grows r k more.known v more.is) y (more.more y h)

  -- a parallel loop with the roles of its line
  handed_here : {scope : Scope} {o next next' : ℕ} {ts : List Token} {a : Stmt} → ReadsStmt scope o next ts a next' → length ds ≤ next → Each (IsBelow next) scope → Each IsSmall scope → (F V k k' : Variable → Bool) → Each (IsNamed V) scope → AreBelow F next → AreBelow V next → AreBelow k next → definite P a k ≡ Some k'
      → (box : List Side) → Has (StaysInside ds) box a → Spares F a → (serial : List Loop) (depth m : ℕ) → depth ≡ suc m → (at : ℕ) (number : ℕ) → SharesBy ds R S at serial depth a
      → KeepsItsRoles (R at) number a → IsHanded ds P R F V k (without k' (P at)) (used_roles a (left_roles (R at))) serial a
  handed_here {scope} {o} {next = next} {next' = next'} {ts = ts} {a = a} r room v small F V k k' sees fixed below known d box has spared serial depth m one at number nest kept =
      record {
        round = nest.round;
        assigned = nest.assigned;
        leaves = nest.leaves;
        takes = λ t spot stand. nest.takes scope o next next' ts k t r (at_turns serial t (spot_turn F serial t nest.round spot)) (met t spot stand) reads;
        known = k';
        is = d;
        seen = λ x v. shown x (below x v);
        still = λ x q. let before = without_within (P at) k' x q in let known_there = loop_knows P a loop.loop loop.inside k k' loop.is d x before in (before, known_there, shown x (known x known_there), private x (without_gone (P at) k' x q));
        scalars = λ x t. scalar_assigned ds x box a has (outside_target a x t);
        reduced = λ x h. reduced x (sym (among_reduced (is_among (targets_outside a)) (left_roles (R at)).reductions x) ∙ h);
        free = λ x f. no_outside_target a x (no_target x a (spared x f));
      }
    where
      reads : IsSome (definite no_privates a k)
      reads = ap is_some (more_known.statements P no_privates a k k' k (λ line x q. absurd (cc q)) (λ x q. q) d).is

      -- what may be named stands there
      seen : (t : State) → StandsThere ds V k t → (scope : Scope) → Each (IsBelow next) scope → Each (IsNamed V) scope → Each (IsSeen ds next t) scope
      seen t stand [] b h = tt
      seen t stand (e ∷ es) b h = (is_seen e.1 b.0 h.0, seen t stand es b.1 h.1)
        where
          is_seen : (it : Entity) → IsBelow next it → IsNamed V it → IsSeen ds next t it
          is_seen (AVariable x n) less named = (less, λ le. stand.inside x named le)
          is_seen (AConstant n) less named = tt

      loops_below : (ls : List Loop) → AllByRecursion (λ (l : Loop). F l.variable ≡ true) ls → AllByRecursion (λ (l : Loop). l.variable < next) ls
      loops_below [] h = tt
      loops_below (l ∷ ls) h = (fixed l.variable h.0, loops_below ls h.1)

      met : (t : State) → Spot F serial t → StandsThere ds V k t → IsMet ds scope next k serial t
      met t spot stand =
          record {
            small = small;
            seen = seen t stand scope v sees;
            room = room;
            below = known;
            loops = loops_below serial spot.own;
            stands = record { there = stand.there; outside = stand.outside; inside = λ x q le. absurd cc; held = stand.held };
          }

      found : (p : List Loop × Stmt) × (nest_of (suc m) a ≡ Some p)
      found = let it = some_of (nest_of depth a) nest.nest in (it.0, ap (λ i. nest_of i a) (sym one) ∙ it.1)

      loop : IsFirst m a found.0.0 found.0.1
      loop = first_loop m a found.0.0 found.0.1 found.1

      shown : (x : Variable) → x < next → visible_behind a x ≡ true
      shown x lt = not_from_false (is_among (declared_in a) x) (undeclared r x lt)

      private : (x : Variable) → is_among (P at) x ≡ false → is_among (used_roles a (left_roles (R at))).privates x ≡ false
      private x none = among_some (is_among (targets_outside a)) (P at) x ∙ ap (λ b. is_among (targets_outside a) x && b) none ∙ nothing (is_among (targets_outside a) x)
        where
          nothing : (b : Bool) → (b && false) ≡ false
          nothing true = refl
          nothing false = refl

      reduced : (x : Variable) → (is_among (targets_outside a) x && is_among (map (λ r. r.0) (left_roles (R at)).reductions) x) ≡ true → k x ≡ true
      reduced x h =
          let t = first_of (is_among (targets_outside a) x) (is_among (map (λ r. r.0) (left_roles (R at)).reductions) x) h in
          let among = second_of (is_among (targets_outside a) x) (is_among (map (λ r. r.0) (left_roles (R at)).reductions) x) h in
          at_either x t nest.phases (or_cases (is_among (map (λ r. r.0) (R at).roles.reductions) x) (is_among (map (λ r. r.0) (R at).carried) x)
          (sym (ap (λ ys. is_among ys x) (map-append (λ r. r.0) (R at).roles.reductions (R at).carried) ∙ among_both (map (λ r. r.0) (R at).roles.reductions) (map (λ r. r.0) (R at).carried) x) ∙ among))
        where
          sole_kept : (r : Variable × ReduceOp) (x : Variable) → ((r.0 == x) || false) ≡ true → r.0 ≡ x
          sole_kept r x q = eqb-true r.0 x (either_false (r.0 == x) q)
            where
              either_false : (c : Bool) → (c || false) ≡ true → c ≡ true
              either_false true g = refl
              either_false false g = absurd (true≢false (sym g))

          not_from : (b : Bool) → not b ≡ true → b ≡ false
          not_from true h = absurd (true≢false (sym h))
          not_from false h = refl

          at_either : (x : Variable) → is_among (targets_outside a) x ≡ true → ((R at).carried ≡ []) ⊎ HasPhases (R at) (S at).phases depth a
              → (is_among (map (λ r. r.0) (R at).roles.reductions) x ≡ true) ⊎ (is_among (map (λ r. r.0) (R at).carried) x ≡ true) → k x ≡ true
          at_either x t phases (inl q) =
              let op = reduced_of (R at).roles.reductions x q in
              known_before P (R at).roles.reductions x op.0 op.1 a k k' kept.updates d (outside_target a x t)
          at_either x t (inl none) (inr q) = absurd (true≢false (sym q ∙ ap (λ (cs : List (Variable × ReduceOp)). is_among (map (λ r. r.0) cs) x) none))
          at_either x t (inr its) (inr q) =
              let same : its.variable ≡ x = sole_kept (its.variable, its.operator) x (sym (ap (λ (cs : List (Variable × ReduceOp)). is_among (map (λ r. r.0) cs) x) its.sole) ∙ q) in
              subst (λ y. k y ≡ true) same
              (known_before_scan P (R at) (S at).phases depth a its k k' (not_from (is_among (declared_in a) its.variable) (subst (λ y. visible_behind a y ≡ true) (sym same) (outside_visible a x t))) d
              (subst (λ y. is_among (targets a) y ≡ true) (sym same) (outside_target a x t)))

  -- what is visible behind a declaration
  also_named : (V : Variable → Bool) (scope : Scope) (name : Name) (next : ℕ) → Each (IsNamed V) scope → Each (IsNamed (also V next)) ((name, AVariable next 0) ∷ scope)
  also_named V scope name next sees = (also_itself V next, each_weaker (IsNamed V) (IsNamed (also V next)) more scope sees)
    where
      more : (e : Entity) → IsNamed V e → IsNamed (also V next) e
      more (AVariable x n) h = also_more V next x h
      more (AConstant n) h = tt

  module _ where
    mutual
      loops_leave : {scope : Scope} {o next next' : ℕ} {ts : List Token} {a : Stmt} → ReadsStmt scope o next ts a next' → length ds ≤ next → Each (IsBelow next) scope → Each IsSmall scope → (F V k k' : Variable → Bool) → Each (IsNamed V) scope → AreBelow F next → AreBelow V next → AreBelow k next
          → (box : List Side) → NamesCounters F box → Has (StaysInside ds) box a → Spares F a → definite P a k ≡ Some k' → (serial : List Loop) → LoopsKeepRoles text R serial a → LoopsHaveBy text (SharesBy ds R S) serial a → LoopsLeave ds P R F V k k' serial a
      loops_leave (assign {x = x} t e) room v small F V k k' sees fixed below known box counters has spared d serial q h = (assigned_free F x spared, d)
      loops_leave (update {x = x} t u e) room v small F V k k' sees fixed below known box counters has spared d serial q h = (assigned_free F x spared, d)
      loops_leave (if_only {c = c} {a = a} less rc ra) room v small F V k k' sees fixed below known box counters has spared d serial q h =
          let tested = tested_known (may_test k c) (after_both (definite P a k) (Some k)) k' d in
          let parts = branches (definite P a k) (Some k) k' tested.1 in (
            tested.0,
            parts.left,
            loops_leave ra room v small F V k parts.left sees fixed below known box counters has.1 spared parts.first serial q h,
            left_within parts.left parts.right k' parts.is,
            λ y w. ap (λ (j : DefinitelyAssigned). j y) (same_Some k parts.right parts.second) ∙ right_within parts.left parts.right k' parts.is y w,
          )
      loops_leave {scope} (if_else {next = next} {next' = middle} {c = c} {a = a} {b = b} less rc closed ra rb) room v small F V k k' sees fixed below known box counters has spared d serial q h =
          let up = rises ra in
          let tested = tested_known (may_test k c) (after_both (definite P a k) (definite P b k)) k' d in
          let parts = branches (definite P a k) (definite P b k) k' tested.1 in (
            tested.0,
            parts.left,
            parts.right,
            loops_leave ra room v small F V k parts.left sees fixed below known box counters has.1 (λ y w. (or_parts (assigns y a) (assigns y b) (spared y w)).0) parts.first serial q.0 h.0,
            loops_leave rb (omega arith) (visible_later scope next middle up v) small F V k parts.right sees (below_later F next middle up fixed) (below_later V next middle up below) (below_later k next middle up known) box counters has.2
                (λ y w. (or_parts (assigns y a) (assigns y b) (spared y w)).1) parts.second serial q.1 h.1,
            left_within parts.left parts.right k' parts.is,
            right_within parts.left parts.right k' parts.is,
          )
      loops_leave {scope} (for_loop {next = next} {name = name} {start = start} {test = test} {step = step} {body = body} less free rs rt ru r) room v small F V k k' sees fixed below known box counters has spared d serial q h =
          let head = head_of box next start test step has.0 has.2.form in
          let wider : NamesCounters (also F next) box = λ y c. or_right (y == next) (F y) (counters y c) in
          let told = loop_is_known P next name start test step body k k' d in
          let privates = privates_in P body in
          let entered : DefinitelyAssigned = without (known_with k next true) privates in
          let entered_below : AreBelow entered (suc next) = λ y w. below_with k next true known y (without_within privates (known_with k next true) y w) in (
            entered,
            told.after,
            record {
              free = next_unknown F next fixed;
              room = room;
              start_fixed = subst (IsFixedSource F) (sym head.start_is) (form_fixed box F counters head.from has.0.start head.first);
              test_fixed = subst (IsFixedCond (also F next)) (sym head.test_is) (own_fixed F next, form_fixed box (also F next) wider head.to has.0.limit head.last);
              step_fixed = step_fixed F next step has.0.stride head.stride;
              starts = told.starts;
              tests = told.tests;
              steps = told.steps;
              entered = without_within privates (known_with k next true);
              again = λ y w. stays P y body entered told.after told.inside (undeclared r y (entered_below y w)) (without_gone privates (known_with k next true) y w) w;
              behind = λ y w. without_more privates k (known_with k next true) (λ z p. known_with_less k next z p) y (ap (λ (j : DefinitelyAssigned). j y) told.behind ∙ w);
            },
            loops_leave r (omega arith) (also_visible scope name next v) (tt, small) (also F next) (also V next) entered told.after (also_named V scope name next sees) (below_also F next fixed) (below_also V next below) entered_below (inside box next has.1) (counters_inside F box next has.1 counters) has.3
                (spares_inside F next body (λ y w. (or_parts (stepped step == y) (assigns y body) (spared y w)).1) has.2.kept) told.inside
                (serial ++ record { variable = next; start = start; test = test; step = step } ∷ []) q h,
          )
      loops_leave (block less items) room v small F V k k' sees fixed below known box counters has spared d serial q h = items_leave items room v small F V k k' sees fixed below known box counters has spared d serial q h
      loops_leave (print less f r fill) room v small F V k k' sees fixed below known box counters has spared d serial q h = d

      items_leave : {scope : Scope} {o next next' : ℕ} {ts : List Token} {items : Items} → ReadsItems scope o next ts items next' → length ds ≤ next → Each (IsBelow next) scope → Each IsSmall scope → (F V k k' : Variable → Bool) → Each (IsNamed V) scope → AreBelow F next → AreBelow V next → AreBelow k next
          → (box : List Side) → NamesCounters F box → Have (StaysInside ds) box items → AllSpare F items → definite_items P [] items k ≡ Some k' → (serial : List Loop) → ItemsKeepRoles text R serial items → ItemsHaveBy text (SharesBy ds R S) serial items → ItemsLeave ds P R F V k k' serial items
      items_leave no_more room v small F V k k' sees fixed below known box counters has spared d serial q h = λ y w. ap (λ (j : DefinitelyAssigned). j y) (same_Some k k' d) ∙ w
      items_leave (line {n = at} r) room v small F V k k' sees fixed below known box counters has spared d serial q h = behind_leave r room v small F V k k' sees fixed below known box counters has spared serial at d q.0 q.1 h.0 h.1
      items_leave {scope} (empty_local {next = next} {name = name} free r) room v small F V k k' sees fixed below known box counters has spared d serial q h = (
        next_unknown F next fixed,
        room,
        known_with k next false,
        refl,
        items_leave r (omega arith) (also_visible scope name next v) (tt, small) F (also V next) (known_with k next false) k' (also_named V scope name next sees) (λ x w. let lt = fixed x w in omega arith) (below_also V next below) (below_with k next false known) box counters has.1 spared d serial q h,
      )
      items_leave {scope} (first_local {next = next} {name = name} {e = e} {items = items} free re r) room v small F V k k' sees fixed below known box counters has spared d serial q h =
          let first = and_then (definite_items P [] items) (declared_known k next (Some e)) k' d in
          let ok = allowed (may_take k e) (known_with k next true) first.0 first.1 in (
            next_unknown F next fixed,
            room,
            first.0,
            first.1,
            items_leave r (omega arith) (also_visible scope name next v) (tt, small) F (also V next) first.0 k' (also_named V scope name next sees) (λ x w. let lt = fixed x w in omega arith) (below_also V next below)
                (λ y w. below_with k next true known y (ap (λ (j : DefinitelyAssigned). j y) ok.1 ∙ w)) box counters has.1 spared first.2 serial q h,
          )
      items_leave {scope} (statement {next = next} {next' = middle} {s = a} {items = items} ra r) room v small F V k k' sees fixed below known box counters has spared d serial q h =
          let up = rises ra in
          let first = and_then (λ after. definite_items P [] items (without after [])) (definite P a k) k' d in (
            first.0,
            loops_leave ra room v small F V k first.0 sees fixed below known box counters has.0 (λ y w. (or_parts (assigns y a) (assigns_among y items) (spared y w)).0) first.1 serial q.0 h.0,
            items_leave r (omega arith) (visible_later scope next middle up v) small F V first.0 k' sees (below_later F next middle up fixed) (below_later V next middle up below) (below_behind ra v k first.0 known first.1) box counters has.1
                (λ y w. (or_parts (assigns y a) (assigns_among y items) (spared y w)).1) first.2 serial q.1 h.1,
          )

      behind_leave : {scope : Scope} {o next next' : ℕ} {ts : List Token} {items : Items} → ReadsItems scope o next ts items next' → length ds ≤ next → Each (IsBelow next) scope → Each IsSmall scope → (F V k k' : Variable → Bool) → Each (IsNamed V) scope → AreBelow F next → AreBelow V next → AreBelow k next
          → (box : List Side) → NamesCounters F box → Have (StaysInside ds) box items → AllSpare F items → (serial : List Loop) (at : ℕ) → definite_items P (P at) items k ≡ Some k' → LineHas text (KeepsRolesThere (R at)) serial at items → ItemsKeepRoles text R serial items
          → LineHas text (SharesBy ds R S at) serial at items → ItemsHaveBy text (SharesBy ds R S) serial items → BehindLeave ds P R F V k k' at serial items
      behind_leave no_more room v small F V k k' sees fixed below known box counters has spared serial at d q others h all = absurd h.3
      behind_leave (line r) room v small F V k k' sees fixed below known box counters has spared serial at d q others h all = absurd h.3
      behind_leave (empty_local free r) room v small F V k k' sees fixed below known box counters has spared serial at d q others h all = absurd h.3
      behind_leave (first_local free e r) room v small F V k k' sees fixed below known box counters has spared serial at d q others h all = absurd h.3
      behind_leave {scope} (statement {next = next} {next' = middle} {s = a} {items = items} ra r) room v small F V k k' sees fixed below known box counters has spared serial at d q others h all =
          let up = rises ra in
          let first = and_then (λ after. definite_items P [] items (without after (P at))) (definite P a k) k' d in
          let one = at_least_one (line_at text at) h.0 h.1 h.2 in (
            without first.0 (P at),
            handed_here ra room v small F V k first.0 sees fixed below known first.1 box has.0 (λ y w. (or_parts (assigns y a) (assigns_among y items) (spared y w)).0) serial (associated h.1) one.0 one.1 at (associated q.1) h.3 q.3,
            items_leave r (omega arith) (visible_later scope next middle up v) small F V (without first.0 (P at)) k' sees (below_later F next middle up fixed) (below_later V next middle up below)
                (λ y w. below_behind ra v k first.0 known first.1 y (without_within (P at) first.0 y w)) box counters has.1
                (λ y w. (or_parts (assigns y a) (assigns_among y items) (spared y w)).1) first.2 serial others.1 all.1,
          )

-- an effect like this one leaves the same objects
leaves_same : (ds : List Declaration) (F V k : Variable → Bool) (s : State) (e : Effect) (o : Option Effect) → Like ds F V k s s e o → LeavesTheSame s e o
leaves_same ds F V k s e o like = record { effect = like.effect; is = like.is; text = like.text; cells = λ x is. sym (like.same.agrees.cells x is) }

pub accepted_apart : AcceptedKernelsRunApart
accepted_apart text k R S s e reads in_range determined kept commute starts ran =
    let ds = k.variables in
    let n = length ds in
    let read = (kept_lines_are_read text k reads).reads in
    let known = known_at_start ds in
    let left = some_there (definite_items (privates_by R) [] k.body known) determined in
    let plain = more_known.items (privates_by R) no_privates [] [] k.body known left.0 known (λ at x h. absurd (cc h)) (λ x h. h) (λ x h. h) left.1 in
    let visible = decls_below n read.declared (omega arith) tt in
    let names = stmt_named (StaysInside ds) (block (let small : 0 < 64 = omega arith in small) read.items) known [] (each_weaker (IsBelow n) (IsNamed known) (named n) read.scope visible) (λ y c. absurd cc) in_range
    (all_start read.items known plain.known visible (λ y q. ltb-true y n q) plain.is) in
    let leave = items_leave text ds R S read.items (omega arith) visible (decls_small read.declared tt) (λ x. false) known known left.0 (each_weaker (IsBelow n) (IsNamed known) (named n) read.scope visible) (λ x q. absurd cc) (λ x q. ltb-true x n q) (λ x q. ltb-true x n q) [] (λ y c. absurd cc) in_range (λ y q. absurd cc)
    left.1 [] kept commute in
    leaves_same ds (λ x. false) known left.0 s e (apart_items R [] k.body s)
    (items_like ds (privates_by R) R k.body (λ x. false) known known left.0 [] s s e names leave (no_spot s)
    (record { agrees = record { cells = λ x is. refl; kinds = λ x v. refl; values = λ x v. refl }; kept = λ x q. absurd q })
    (record { there = starts.there; outside = λ x less. starts.outside x; inside = λ x v le. let lt = ltb-true x n v in absurd (omega arith); held = λ x v le. let lt = ltb-true x n v in absurd (omega arith) }) ran)
  where
    named : (n : ℕ) (it : Entity) → IsBelow n it → IsNamed (λ x. nat_lt x n) it
    named n (AVariable x m) h = lt-ltb x n h
    named n (AConstant m) h = tt
