-- Iterations that depend on each other, in any order that respects the sinks.
use Rattle.std.specs.Prelude.{ℕ, zero, Bool, true, false, ◌≡◌, ◌≢◌, ◌⊎◌, List, [], ◌∷◌, length, Option, Some, IsSome, Contains}
use Rattle.std.specs.List.{AllPairs, AllByRecursion as Each}
use Rattle.std.proofs.Common.{refl, sym, ap, ◌∙◌, subst, inl, inr, arith}
use Rattle.semantics.specs.Tree.{Variable, Stmt}
use Rattle.semantics.specs.Meaning.State.{State, overwritten}
use Rattle.semantics.specs.Meaning.Runs.{Effect}
use Rattle.semantics.specs.Meaning.Definite.{DefinitelyAssigned, definite, no_privates}
use Rattle.semantics.specs.Meaning.Agrees.{is_among, visible_behind}
use Rattle.semantics.specs.Loops.Nest.{Loop, Vector, at_vector}
use Rattle.semantics.specs.Loops.Access.{Conflict, accesses}
use Rattle.semantics.specs.Loops.Arrangement.{EachOnceBelow, picked}
use Rattle.semantics.specs.Loops.Order.{Distance, Before, Respects}
use Rattle.semantics.specs.Loops.Piece.{Roles, run_iteration, run_iterations}
use Rattle.semantics.specs.Theorems.{SameElements}
use Rattle.law_commute.specs.Targets.{AssignsFirst}
use Rattle.law_commute.specs.Commuting.{KeepsToItself, InnerLoopsTurn}
use Rattle.law_commute.proofs.Lists.{each_contained}
use Rattle.law_nests.proofs.Joined.{nest_declares, visible_more}
use Rattle.law_private.specs.Known.{KnowsMore}
use Rattle.law_private.proofs.Alike.{Both as Alike, both_like}
use Rattle.law_private.proofs.More.{more_known}
use Rattle.law_private.proofs.Own.{own_body, own_accesses, others, innermost, replaced_keeps, KnownInside, known_inside}
use Rattle.law_private.proofs.Near.{Near, Beside, Found, beside_first, beside_second, near_iterations}
use Rattle.law_roles.specs.Sharing.{role_variables}
use Rattle.law_roles.proofs.Chunked.{nest_variables}
use Rattle.law_roles.proofs.Joining.{localized, localized_inside, localized_moved}
use Rattle.law_roles.proofs.Moved.{Moved, moved_at, moved_iterations, moved_conflict}
use Rattle.law_scans.proofs.Steps.{near_self}
use Rattle.law_waves.proofs.Grounded as ground
use Rattle.law_orders.specs.Orders.{IsOrdered, OrderedIterationsCommute, DoacrossNestsCommute}
use Rattle.law_orders.proofs.Going.{goes_of, reached, both_all, runs_are}
use Rattle.law_orders.proofs.Mixed.{each_weaker, Pairs, pairs_of, pairs_with, mixed, mixed_pairs, none_before}
use Rattle.law_orders.proofs.Turned.{Both, Good, good_of, clear_of, turned, Steady}
use Rattle.law_orders.proofs.Variables.{scalar_stays, moved_iteration}

pub nothing_there : {A : Type 0} (x : A) → Contains [] x → ⊥
nothing_there x h = let lt = h.1 in omega arith

-- ---- a body that keeps to itself

module _ (loops : List Loop) (body own : Stmt) (o : State) (keeps : KeepsToItself own) (same_accesses : accesses [] own ≡ accesses [] body) (us : List Vector) (ds : List Distance) (different : AllPairs (λ u v. u ≢ v) us)
    (turning : (u : Vector) → Contains us u → InnerLoopsTurn loops body o u) (in_order : Respects us ds us)
    (covered : (u v : Vector) → Contains us u → Contains us v → Conflict loops body o u v → Before us ds u v ⊎ Before us ds v u) where
  abbrev itself : Vector → Vector
  itself u = u

  abbrev same_body : Vector → Stmt
  same_body u = own

  abbrev K : Variable → Bool
  K = visible_behind own

  abbrev IsClear : Vector → Vector → Type 0
  IsClear = Both itself same_body loops o K (λ u. keeps) (λ u y. refl)

  abbrev IsGood : Vector → Type 0
  IsGood = Good itself same_body loops o K (λ u. keeps) (λ u y. refl)

  -- the second is not before the first
  abbrev MayStand : Vector → Vector → Type 0
  MayStand u v = Before us ds v u → ⊥

  all_different : Pairs (λ u v. u ≡ v → ⊥) us
  all_different = pairs_of (λ u v. u ≡ v → ⊥) us different

  allowed : Pairs (λ u v. MayStand u v → MayStand v u → IsClear u v) us
  allowed =
      pairs_with (Contains us) (λ u v. u ≡ v → ⊥) (λ u v. MayStand u v → MayStand v u → IsClear u v)
      (λ u v h k differ one two. clear_of itself same_body loops o K (λ u. keeps) (λ u y. refl) body (λ u. same_accesses) u v differ (λ c. at u v one two (covered u v h k c))) us (each_contained us) all_different
    where
      at : (u v : Vector) → MayStand u v → MayStand v u → Before us ds u v ⊎ Before us ds v u → ⊥
      at u v one two (inl b) = two b
      at u v one two (inr b) = one b

  good : Each IsGood us
  good = each_weaker (Contains us) IsGood (λ u h. good_of itself same_body loops o K (λ u. keeps) (λ u y. refl) body (λ u. same_accesses) u (turning u h)) us (each_contained us)

  pub own_order : (order : List ℕ) → EachOnceBelow (length us) order → Respects us ds (picked us order) → (e : Effect) → run_iterations loops own us o ≡ Some e
      → (f : Effect) × (run_iterations loops own (picked us order) o ≡ Some f) × SameElements (overwritten o e.writes) (overwritten o f.writes)
  own_order order once respects e ran =
      let ws = picked us order in
      let m = mixed us order once in
      let one = none_before (Before us ds) us all_different in_order in
      let two = none_before (Before us ds) ws (mixed_pairs (λ u v. u ≡ v → ⊥) (λ u v h q. h (sym q)) us ws m all_different) respects in
      let steady : Steady itself same_body loops o K (λ u. keeps) (λ u y. refl) o = record { locals = λ y h. refl; scalars = λ y h. refl } in
      let r =
      turned itself same_body loops o K (λ u. keeps) (λ u y. refl) MayStand us ws good m one two allowed o (overwritten o e.writes) steady
      (goes_of (run_iteration loops own) us o e (sym (runs_are loops own us o) ∙ ran)) in
      let f = reached (run_iteration loops own) r.goes in
      (f.effect, runs_are loops own ws o ∙ f.ran, λ y j js. r.after.elements y j js ∙ ap (λ (t : State). t.cells y (j ∷ js)) f.left)

-- ---- with private scalars

module _ (privates : List Variable) (loops : List Loop) (body : Stmt) (roles : Roles) (ds : List Distance) (outer : State) (us : List Vector)
    (is : IsOrdered privates (record { loops = loops; body = body; roles = roles }) ds outer us) where
  abbrev own : Stmt
  own = own_body privates body

  -- the state before the loop, with private variables as locals
  abbrev o : State
  o = localized privates outer

  moved_o : Moved privates outer o
  moved_o = localized_moved privates outer is.scalars

  near_o : Near privates o o
  near_o = near_self privates o (localized_inside privates outer)

  known : KnownInside privates body
  known = known_inside privates body zero body own [] innermost is.declares_none (others privates) (λ x h. h) is.first

  keeps_own : KeepsToItself own
  keeps_own = replaced_keeps privates body zero body own [] innermost is.declares_none is.keeps

  turning_o : (u : Vector) → Contains us u → InnerLoopsTurn loops body o u
  turning_o u h access there = subst (λ q. IsSome q) (moved_iterations privates access.inner (at_vector loops u outer) (at_vector loops u o) (moved_at privates loops u outer o moved_o)) (is.turning u h access there)

  covered_o : (u v : Vector) → Contains us u → Contains us v → Conflict loops body o u v → Before us ds u v ⊎ Before us ds v u
  covered_o u v h k c = is.covered u v h k (moved_conflict privates loops body outer o moved_o u v c)

  beside : (vs : List Vector) → Beside (Near privates) o o (run_iterations loops body vs o) (run_iterations loops own vs o)
  beside vs = near_iterations privates body (visible_behind body) is.keeps.names known loops vs o o near_o

  runs : (vs : List Vector) → Alike (Moved privates) outer o (run_iterations loops body vs outer) (run_iterations loops body vs o)
  runs vs =
      both_like (Moved privates) outer o (runs_are loops body vs outer) (runs_are loops body vs o)
      (both_all (run_iteration loops body) (Moved privates) (moved_iteration privates loops is.not_of_loops body) vs outer o moved_o)

  pub in_any : (order : List ℕ) → EachOnceBelow (length us) order → Respects us ds (picked us order) → (e : Effect) → run_iterations loops body us outer ≡ Some e
      → (f : Effect) × (run_iterations loops body (picked us order) outer ≡ Some f) × SameElements (overwritten outer e.writes) (overwritten outer f.writes)
  in_any order once respects e ran =
      let ws = picked us order in
      let first = runs us in
      let second = runs ws in
      let near : Found (Near privates) o o e (run_iterations loops own us o) =
      beside_first (Near privates) o o (run_iterations loops body us o) (run_iterations loops own us o) e (beside us) (sym first.same ∙ ran) in
      let law = own_order loops body own o keeps_own (own_accesses privates body) us ds is.different turning_o is.in_order covered_o order once respects near.effect near.is in
      let back : Found (λ s t. Near privates t s) o o law.0 (run_iterations loops body ws o) =
      beside_second (Near privates) o o (run_iterations loops body ws o) (run_iterations loops own ws o) law.0 (beside ws) law.1 in
      let ran_back : run_iterations loops body ws outer ≡ Some back.effect = second.same ∙ back.is in
      let there = first.left e ran in
      let here = second.left back.effect ran_back in (
        back.effect,
        ran_back,
        λ x j js. at x (is_among privates x) refl
            (λ k. scalar_stays x e.writes outer (is.scalars x k) j js ∙ sym (scalar_stays x back.effect.writes outer (is.scalars x k) j js))
            (λ free. there.cells x (j ∷ js) free ∙ near.after.agrees.cells x (j ∷ js) ∙ law.2 x j js ∙ sym (back.after.agrees.cells x (j ∷ js)) ∙ sym (here.cells x (j ∷ js) free)),
      )
    where
      at : (x : Variable) {p q : Option ℕ} (b : Bool) → is_among privates x ≡ b → (is_among privates x ≡ true → p ≡ q) → (is_among privates x ≡ false → p ≡ q) → p ≡ q
      at x true k one two = one k
      at x false k one two = two k

pub ordered_commute : OrderedIterationsCommute
ordered_commute privates loop ds outer us is order once respects e ran =
    let r = in_any privates loop.loops loop.body loop.roles ds outer us is order once respects e ran in
    (r.0, r.1, r.2, λ q h. absurd (nothing_there q (subst (λ rs. Contains rs q) is.no_reductions h)))

-- ---- the nests of the waves

-- what a nest assigns before it reads it, its body does
pub body_first : (xs : List Variable) (body : Stmt) → KnownInside xs body → AssignsFirst xs body
body_first xs body k =
    let more : KnowsMore k.behind (definite no_privates body (others xs)) = more_known.statements no_privates no_privates body k.known k.behind (others xs) (λ line y j. j) k.less k.is in
    subst (λ (p : Option DefinitelyAssigned). IsSome p) (sym more.is) refl

pub doacross_commute : DoacrossNestsCommute
doacross_commute roles ds n s loops body outer us e is =
    let vars = role_variables roles in
    ordered_commute vars (record { loops = loops; body = body; roles = roles }) ds outer us
    (record {
      no_reductions = is.keeps.no_reductions;
      keeps = is.keeps.inside;
      first = body_first vars body (ground.known roles ds n s loops body outer us e is);
      declares_none = λ x h. visible_more s body (nest_declares n s loops body is.nest) x (is.keeps.declares_none x h);
      not_of_loops = λ x h. nest_variables n s loops body is.nest x (is.keeps.declares_none x h);
      scalars = is.keeps.scalars;
      different = is.different;
      turning = is.turning;
      in_order = is.in_order;
      covered = is.covered;
    })
