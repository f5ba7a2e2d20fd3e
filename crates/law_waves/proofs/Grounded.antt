-- A doacross nest where its private variables are locals, with a body that declares them itself.
use Rattle.std.specs.Prelude.{ℕ, zero, suc, Bool, true, false, not, ◌≡◌, ◌≢◌, ◌==◌, ◌&&◌, ◌||◌, ◌<◌, List, [], ◌∷◌, ◌++◌, map, length, Some, None, Contains, IsSome, slice_index_or}
use Rattle.std.specs.List.{AllByRecursion as Each}
use Rattle.std.proofs.Common.{refl, sym, ap, ◌∙◌, subst, cond, inl, inr}
use Rattle.std.proofs.lemmas.Bool.{true≢false, and_from}
use Rattle.std.proofs.lemmas.List.{append-nil}
use Rattle.std.proofs.lemmas.Option.{same_Some, none-some}
use Rattle.semantics.specs.Tree.{Variable, Stmt, For, Block, no_items, stmt}
use Rattle.semantics.specs.Meaning.State.{State}
use Rattle.semantics.specs.Meaning.Runs.{Effect}
use Rattle.semantics.specs.Meaning.Agrees.{also, is_among, declared_in, names_only, visible_behind}
use Rattle.semantics.specs.Loops.Nest.{Loop, Vector, as_loop, nest_of, at_vector}
use Rattle.semantics.specs.Loops.Access.{Access, Mode, Writes, Touches, Conflict}
use Rattle.semantics.specs.Loops.Order.{Distance, level, wave_count}
use Rattle.semantics.specs.Loops.Piece.{Roles}
use Rattle.law_commute.specs.Steady.{IsFixedSource, IsFixedCond, IsFixedStep, IsSteady}
use Rattle.law_commute.specs.Targets.{AssignsFirst}
use Rattle.law_commute.specs.Commuting.{KeepsToItself}
use Rattle.law_commute.proofs.Values.{first_of, second_of}
use Rattle.law_nests.proofs.Joined.{first_loop, nest_declares, visible_more}
use Rattle.law_nests.proofs.Steadied.{AreFixedLoops}
use Rattle.law_nests.proofs.Walked.{loop_own}
use Rattle.law_private.proofs.Own.{own_body, others, DeclaresNone, innermost, HasReplaced, replaced, fixed_is, own_accesses, replaced_keeps, KnownInside, known_inside}
use Rattle.law_private.proofs.Chunks.{not_true, own_conflict}
use Rattle.law_roles.specs.Following.{variables_of, IsWalked}
use Rattle.law_roles.specs.Sharing.{assigned_first, role_variables, IsScalar}
use Rattle.law_roles.proofs.Chunked.{all_values, each_at, each_contains}
use Rattle.law_roles.proofs.Followed.{walked}
use Rattle.law_roles.proofs.Joining.{localized, localized_inside, localized_moved}
use Rattle.law_roles.proofs.Moved.{Moved, moved_at, moved_iterations, moved_conflict}
use Rattle.law_scans.proofs.Steps.{near_self}
use Rattle.law_waves.specs.Doacross.{IsDoacross}
use Rattle.law_waves.proofs.Steps.{TouchesAt, Good, Steady}
use Rattle.law_waves.proofs.Turned.{Both}
use Rattle.law_waves.proofs.Tied.{Tied, Forth, forth}
use Rattle.law_waves.proofs.Leveled.{all_settled, no_conflict, levels_below}
use Rattle.law_waves.proofs.Waved.{AreSettled}

-- ---- what a nest declares

-- a nest declares its loops' variables, and besides what its body declares
nest_own : (n : ℕ) (s : Stmt) (loops : List Loop) (body : Stmt) → nest_of n s ≡ Some (loops, body) → (y : Variable) → is_among (declared_in s) y ≡ (is_among (variables_of loops) y || is_among (declared_in body) y)
nest_own zero s loops body h y =
    let same : ([], s) ≡ (loops, body) = same_Some ([], s) (loops, body) h in
    ap (λ (p : List Loop × Stmt). is_among (variables_of p.0) y || is_among (declared_in p.1) y) same
nest_own (suc n) s loops body h y =
    let first = first_loop n s loops body h in
    loop_own s first.loop first.inside first.is y
    ∙ ap (λ b. (first.loop.variable == y) || b) (nest_own n first.inside first.loops body first.rest y)
    ∙ regroup (first.loop.variable == y) (is_among (variables_of first.loops) y) (is_among (declared_in body) y)
    ∙ ap (λ (ls : List Loop). is_among (variables_of ls) y || is_among (declared_in body) y) first.all_are
  where
    regroup : (a b c : Bool) → (a || (b || c)) ≡ ((a || b) || c)
    regroup true b c = refl
    regroup false b c = refl

-- what its body does not declare, and is no loop's variable, the nest does not declare
pub seen_behind : (n : ℕ) (s : Stmt) (loops : List Loop) (body : Stmt) → nest_of n s ≡ Some (loops, body) → (y : Variable) → visible_behind body y ≡ true → is_among (variables_of loops) y ≡ false → visible_behind s y ≡ true
seen_behind n s loops body h y seen free = ap not (nest_own n s loops body h y ∙ ap (λ b. b || is_among (declared_in body) y) free) ∙ seen

-- ---- bounds and steps

-- those of a loop are fixed, where its statement is steady
loop_fixed : (s : Stmt) (l : Loop) (b : Stmt) (F : Variable → Bool) → as_loop s ≡ Some (l, b) → IsSteady F s
    → IsFixedSource F l.start × IsFixedCond (also F l.variable) l.test × IsFixedStep (also F l.variable) l.variable l.step × IsSteady (also F l.variable) b
loop_fixed (For x name start test step inner) l b F h k =
    subst (λ (p : Loop × Stmt). IsFixedSource F p.0.start × IsFixedCond (also F p.0.variable) p.0.test × IsFixedStep (also F p.0.variable) p.0.variable p.0.step × IsSteady (also F p.0.variable) p.1)
    (same_Some (record { variable = x; start = start; test = test; step = step }, inner) (l, b) h) (k.1, k.2, k.3, k.4)
loop_fixed (Block (stmt a no_items)) l b F h k = loop_fixed a l b F h k.0
loop_fixed _ l b F h k = absurd (none-some (l, b) h)

pub nest_fixed : (n : ℕ) (s : Stmt) (loops : List Loop) (body : Stmt) (F : Variable → Bool) → nest_of n s ≡ Some (loops, body) → IsSteady F s → AreFixedLoops F loops
nest_fixed zero s loops body F h k = subst (AreFixedLoops F) (ap (λ (p : List Loop × Stmt). p.0) (same_Some ([], s) (loops, body) h)) tt
nest_fixed (suc n) s loops body F h k =
    let first = first_loop n s loops body h in
    let one = loop_fixed s first.loop first.inside F first.is k in
    subst (AreFixedLoops F) first.all_are (one.0, one.1, one.2, nest_fixed n first.inside first.loops body (also F first.loop.variable) first.rest one.3)

-- ---- the ground

module _ (roles : Roles) (ds : List Distance) (n : ℕ) (s : Stmt) (loops : List Loop) (body : Stmt) (outer : State) (us : List Vector) (e : Effect) (is : IsDoacross roles ds n s loops body outer us e) where
  abbrev pub vars : List Variable
  vars = role_variables roles

  abbrev pub own : Stmt
  own = own_body vars body

  abbrev pub named : names_only (visible_behind body) body ≡ true
  named = is.keeps.inside.names

  none_whole : DeclaresNone vars s
  none_whole = is.keeps.declares_none

  none_body : DeclaresNone vars body
  none_body x h = visible_more s body (nest_declares n s loops body is.nest) x (none_whole x h)

  all_first : AssignsFirst vars s
  all_first = subst (λ (xs : List Variable). AssignsFirst xs s) (sym (ap (λ rs. assigned_first roles ++ map (λ r. r.0) rs) is.keeps.no_reductions ∙ append-nil (assigned_first roles))) is.keeps.first

  pub known : KnownInside vars body
  known =
      let has : HasReplaced body own n s loops = replaced body own n s loops is.nest in
      known_inside vars body n s has.nest loops has.is none_whole (others vars) (λ x h. h) all_first

  pub keeps_own : KeepsToItself own
  keeps_own = replaced_keeps vars body zero body own [] innermost none_body is.keeps.inside

  -- the state before it, with private variables as locals
  abbrev pub o : State
  o = localized vars outer

  pub moved_o : Moved vars outer o
  moved_o = localized_moved vars outer is.keeps.scalars

  pub tied_of : (t : State) → ((x : Variable) → is_among vars x ≡ true → IsScalar t x) → Tied vars t (localized vars t)
  tied_of t scalars = record { middle = localized vars t; moved = localized_moved vars t scalars; near = near_self vars (localized vars t) (localized_inside vars t) }

  -- ---- what is visible

  pub own_seen : (y : Variable) → visible_behind own y ≡ (visible_behind body y && not (is_among vars y))
  own_seen y = ap (λ (V : Variable → Bool). V y) (sym (fixed_is vars body zero body own [] innermost))

  pub own_free : (y : Variable) → visible_behind own y ≡ true → is_among vars y ≡ false
  own_free y h = not_true (is_among vars y) (second_of (visible_behind body y) (not (is_among vars y)) (sym (own_seen y) ∙ h))

  pub own_outside : (y : Variable) → visible_behind own y ≡ true → is_among (variables_of loops) y ≡ false → visible_behind s y ≡ true
  own_outside y h free = seen_behind n s loops body is.nest y (first_of (visible_behind body y) (not (is_among vars y)) (sym (own_seen y) ∙ h)) free

  pub own_visible : (y : Variable) → visible_behind s y ≡ true → is_among vars y ≡ false → visible_behind own y ≡ true
  own_visible y h free = own_seen y ∙ and_from (visible_behind body y) (not (is_among vars y)) (visible_more s body (nest_declares n s loops body is.nest) y h) (ap not free)

  no_cell : (y : Variable) → visible_behind own y ≡ false → o.cells y [] ≡ None
  no_cell y h = at (is_among vars y) refl
    where
      declared : (b : Bool) → is_among (declared_in body) y ≡ b → not b ≡ false → outer.cells y [] ≡ None
      declared true k j = is.declares y (ap not (nest_declares n s loops body is.nest y k))
      declared false k j = absurd (true≢false j)

      body_hides : (a : Bool) → visible_behind body y ≡ a → is_among vars y ≡ false → outer.cells y [] ≡ None
      body_hides true k free = absurd (true≢false (sym (own_seen y ∙ and_from (visible_behind body y) (not (is_among vars y)) k (ap not free)) ∙ h))
      body_hides false k free = declared (is_among (declared_in body) y) refl k

      at : (b : Bool) → is_among vars y ≡ b → o.cells y [] ≡ None
      at true k = ap (λ b. cond b None (outer.cells y [])) k
      at false k = ap (λ b. cond b None (outer.cells y [])) k ∙ body_hides (visible_behind body y) refl k

  pub steady_o : Steady loops own o keeps_own o
  steady_o = record { locals = λ y h free. refl; scalars = λ y h. refl; none = no_cell }

  -- ---- iterations

  good_one : (u : Vector) → Contains us u → Good loops own o keeps_own u
  good_one u h = (
    each_at (λ (u : Vector). length u ≡ length loops) us (all_values loops outer us is.are) u h,
    λ access there.
        subst (λ q. IsSome q) (moved_iterations vars access.inner (at_vector loops u outer) (at_vector loops u o) (moved_at vars loops u outer o moved_o))
        (is.turning u h access (subst (λ (found : List Access). Contains found access) (own_accesses vars body) there)),
  )

  pub good : Each (Good loops own o keeps_own) us
  good = each_contains (Good loops own o keeps_own) us good_one

  touch_of : (u : Vector) (mode : Mode) (y : Variable) (j : ℕ) (js : List ℕ) → TouchesAt loops own o keeps_own u mode y j js → Touches loops own o u (record { array = y; indexes = j ∷ js }) mode
  touch_of u mode y j js t = record { access = t.access; there = t.there; reaches = t.reaches; mode_is = t.mode_is }

  both_clear : (u v : Vector) → u ≢ v → (Conflict loops body outer u v → ⊥) → Both loops own o keeps_own u v
  both_clear u v differ none = (
    λ y j js mode t r.
        never
        (record { differ = differ; element = record { array = y; indexes = j ∷ js }; first = Writes; second = mode; one_writes = inl refl; by_first = touch_of u Writes y j js t; by_second = touch_of v mode y j js r }),
    λ y j js mode t r.
        never
        (record { differ = differ; element = record { array = y; indexes = j ∷ js }; first = mode; second = Writes; one_writes = inr refl; by_first = touch_of u mode y j js r; by_second = touch_of v Writes y j js t }),
  )
    where
      never : Conflict loops own o u v → ⊥
      never c = none (moved_conflict vars loops body outer o moved_o u v (own_conflict vars loops body o u v c))

  abbrev pub leveled : Vector → ℕ
  leveled = level us ds

  pub settled : AreSettled loops own o keeps_own leveled us
  settled =
      all_settled leveled (Both loops own o keeps_own) us
      (λ i j d lt below le.
      let k = no_conflict us ds loops body outer is.ahead is.different is.in_order is.covered i j d lt below in
      both_clear (slice_index_or us i d) (slice_index_or us j d) k.0 (k.1 le))

  pub lower : Each (λ u. leveled u < wave_count us ds) us
  lower = levels_below us ds

  -- ---- the nest as a walk

  pub sequence : IsWalked loops body us outer e
  sequence = walked n s loops body vars outer us e is.nest is.keeps.whole is.are is.ran

  pub in_turn : Forth vars body named known loops us outer o sequence.effect
  in_turn = forth vars body named known loops us outer o sequence.effect (tied_of outer is.keeps.scalars) sequence.ran
