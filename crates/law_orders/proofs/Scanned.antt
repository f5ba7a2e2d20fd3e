-- Iterations of a scan in any order.
use Rattle.std.specs.Prelude.{ℕ, Bool, true, false, not, ◌≡◌, ◌==◌, ◌&&◌, ◌⊎◌, List, [], ◌∷◌, ◌++◌, map, length, Option, Some, IsSome, Contains}
use Rattle.std.specs.List.{AllByRecursion as Each}
use Rattle.std.proofs.Common.{refl, sym, ap, ◌∙◌, subst, cond, inl, inr}
use Rattle.std.proofs.Math.Path.{fun_ext}
use Rattle.std.proofs.lemmas.Bool.{true≢false, eq-eqb, eqb-true, or_parts, or_left, or_right}
use Rattle.std.proofs.lemmas.Option.{same_Some, none-some}
use Rattle.std.proofs.lemmas.List.{length-map}
use Rattle.semantics.specs.Tree.{Variable, Stmt}
use Rattle.semantics.specs.Meaning.State.{State, Slot, Outside, Empty, Holds, slot_of, with_local, overwritten, look, look_in, is_there}
use Rattle.semantics.specs.Meaning.Runs.{Effect}
use Rattle.semantics.specs.Meaning.Agrees.{is_among, visible_behind}
use Rattle.semantics.specs.Loops.Arrangement.{EachOnceBelow, picked}
use Rattle.semantics.specs.Loops.Nest.{Loop, Vector, at_vector}
use Rattle.semantics.specs.Loops.Access.{Conflict}
use Rattle.semantics.specs.Loops.Piece.{Roles, SharedLoop, is_outside, run_iteration, run_iterations}
use Rattle.semantics.specs.Theorems.{SameElements, scan_turns, run_turns}
use Rattle.semantics.proofs.NestLaw.{local_same}
use Rattle.law_commute.specs.Steady.{IsSteady}
use Rattle.law_commute.specs.Commuting.{InnerLoopsTurn}
use Rattle.law_commute.specs.Targets.{KeepsApart}
use Rattle.law_commute.proofs.Lists.{each_contained}
use Rattle.law_nests.proofs.Joined.{nest_declares, visible_more}
use Rattle.law_private.proofs.Own.{own_body, others, DeclaresNone, KnownInside, known_inside, HasReplaced, replaced}
use Rattle.law_private.proofs.Alike.{Both, both_like}
use Rattle.law_roles.specs.Sharing.{assigned_first, role_variables, IsScalar}
use Rattle.law_roles.proofs.Chunked.{nest_variables}
use Rattle.law_roles.proofs.Joining.{localized, localized_inside, localized_moved}
use Rattle.law_roles.proofs.Moved.{Kept, Shifted, Moved, moved_look, moved_at, moved_iterations, moved_conflict}
use Rattle.law_roles.proofs.Seen.{apart_back}
use Rattle.law_scans.specs.Scanning.{whole_of}
use Rattle.law_scans.proofs.Grounded.{same_variables}
use Rattle.law_orders.specs.Scans.{IsCarried, CarriedIterationsCommute, ScanNestsCommute}
use Rattle.law_orders.proofs.Going.{Goes, goes_of, Reached, reached, all_by, both_all, runs_are, scan_turn, turns_are}
use Rattle.law_orders.proofs.Mixed.{Pairs, pairs_of, each_with, mixed}
use Rattle.law_orders.proofs.Variables.{scalar_stays, moved_iteration, moved_scan, BothSet, moved_turn}
use Rattle.law_orders.proofs.Ordered.{body_first}
use Rattle.law_orders.proofs.Carried.{InSequence, in_sequence, any_order}

each_mapped : {A B : Type 0} (P : B → Type 0) (f : A → B) (xs : List A) → Each P (map f xs) → Each (λ x. P (f x)) xs
each_mapped P f [] h = tt
each_mapped P f (x ∷ xs) h = (h.0, each_mapped P f xs h.1)

pairs_mapped : {A B : Type 0} (R : B → B → Type 0) (f : A → B) (xs : List A) → Pairs R (map f xs) → Pairs (λ x y. R (f x) (f y)) xs
pairs_mapped R f [] h = tt
pairs_mapped R f (x ∷ xs) h = (each_mapped (R (f x)) f xs h.0, pairs_mapped R f xs h.1)

module _ (x : Variable) (ps : List Variable) (loops : List Loop) (body : Stmt) (roles : Roles) (outer : State) (us : List Vector)
    (is : IsCarried x ps (record { loops = loops; body = body; roles = roles }) outer us) where
  abbrev loop : SharedLoop
  loop = record { loops = loops; body = body; roles = roles }

  mine : is_among (x ∷ ps) x ≡ true
  mine = or_left (x == x) (is_among ps x) (eq-eqb x x refl)

  -- ---- with these as locals

  abbrev v : ℕ
  v = is.number.0

  abbrev o : State
  o = localized (x ∷ ps) outer

  moved_o : Moved (x ∷ ps) outer o
  moved_o = localized_moved (x ∷ ps) outer is.scalars

  inside_o : (y : Variable) → is_among (x ∷ ps) y ≡ true → is_outside (o.locals y) ≡ false
  inside_o y h = localized_inside (x ∷ ps) outer y h

  o_holds : o.locals x ≡ Holds v
  o_holds = at (o.locals x) refl (inside_o x mine) (sym (moved_look (x ∷ ps) outer o moved_o x []) ∙ is.number.1)
    where
      at : (k : Slot) → o.locals x ≡ k → is_outside (o.locals x) ≡ false → look o x [] ≡ Some v → o.locals x ≡ Holds v
      at Outside e up seen = absurd (true≢false (sym (ap is_outside e) ∙ up))
      at Empty e up seen = absurd (none-some v (sym (ap (λ l. look_in l o x []) e) ∙ seen))
      at (Holds n) e up seen = e ∙ ap Holds (same_Some n v (sym (ap (λ l. look_in l o x []) e) ∙ seen))

  -- and the state from which the turns begin
  abbrev set : State
  set = with_local outer x (slot_of (look outer x []))

  kept : Kept x set o
  kept = record { same = local_same outer x (slot_of (look outer x [])) ∙ ap slot_of is.number.1 ∙ sym o_holds; inside = ap is_outside o_holds }

  set_other : (y : Variable) → (y == x) ≡ false → set.locals y ≡ outer.locals y
  set_other y e = ap (λ c. cond c (slot_of (look outer x [])) (outer.locals y)) e

  moved_set : Moved (x ∷ ps) set o
  moved_set = record {
    locals = λ y h. set_other y (apart_back x y (or_parts (x == y) (is_among ps y) h).0) ∙ moved_o.locals y h;
    cells = moved_o.cells;
    theirs = λ y h. at y (y == x) refl (moved_o.theirs y h);
  }
    where
      at : (y : Variable) (b : Bool) → (y == x) ≡ b → Kept y outer o ⊎ Shifted y outer o → Kept y set o ⊎ Shifted y set o
      at y true e h = inl (subst (λ z. Kept z set o) (sym (eqb-true y x e)) kept)
      at y false e (inl k) = inl (record { same = set_other y e ∙ k.same; inside = k.inside })
      at y false e (inr k) = inr (record { outside = set_other y e ∙ k.outside; number = k.number; holds = k.holds; cell = k.cell; scalar = k.scalar })

  set_scalar : (y : Variable) → is_among (x ∷ ps) y ≡ true → IsScalar set y
  set_scalar y h = at (moved_set.theirs y h)
    where
      at : Kept y set o ⊎ Shifted y set o → IsScalar set y
      at (inl k) = inl (ap is_outside k.same ∙ k.inside)
      at (inr k) = inr (record { outside = k.outside; there = ap is_there k.cell; alone = k.scalar })

  -- ---- the turns

  turning_o : (u : Vector) → Contains us u → InnerLoopsTurn loops body o u
  turning_o u h access there = subst (λ q. IsSome q) (moved_iterations (x ∷ ps) access.inner (at_vector loops u outer) (at_vector loops u o) (moved_at (x ∷ ps) loops u outer o moved_o)) (is.turning u h access there)

  independent_o : (u w : Vector) → Contains us u → Contains us w → Conflict loops body o u w → ⊥
  independent_o u w h k c = is.independent u w h k (moved_conflict (x ∷ ps) loops body outer o moved_o u w c)

  runs : Both (Moved (x ∷ ps)) outer o (run_iterations loops body us outer) (run_iterations loops body us o)
  runs =
      both_like (Moved (x ∷ ps)) outer o (runs_are loops body us outer) (runs_are loops body us o)
      (both_all (run_iteration loops body) (Moved (x ∷ ps)) (moved_iteration (x ∷ ps) loops is.not_of_loops body) us outer o moved_o)

  module _ (order : List ℕ) (once : EachOnceBelow (length us) order) (e : Effect) (turns : List (Vector × Option ℕ)) (ran : run_iterations loops body us outer ≡ Some e) (scanned : scan_turns loop x us outer ≡ Some turns) where
    abbrev others_are : List (Vector × Option ℕ)
    others_are = picked turns order

    sequence : InSequence x loops body roles (is.declares_none x mine) (is.not_of_loops x mine) us o turns
    sequence =
        in_sequence x loops body roles (is.declares_none x mine) (is.not_of_loops x mine) us o v turns o_holds
        (sym (moved_scan (x ∷ ps) loops is.not_of_loops body roles x us outer o moved_o) ∙ scanned)

    ended : (d : State) × Goes (scan_turn loops body x) others_are o d × ((y : Variable) (j : ℕ) (js : List ℕ) → (overwritten o e.writes).cells y (j ∷ js) ≡ d.cells y (j ∷ js))
    ended =
        let theirs = each_mapped (Contains us) (λ (t : Vector × Option ℕ). t.0) turns (subst (Each (Contains us)) (sym sequence.vectors) (each_contained us)) in
        let differ =
        pairs_mapped (λ u w. u ≡ w → ⊥) (λ (t : Vector × Option ℕ). t.0) turns
        (subst (Pairs (λ u w. u ≡ w → ⊥)) (sym sequence.vectors) (pairs_of (λ u w. u ≡ w → ⊥) us is.different)) in
        let long : length us ≡ length turns = sym (ap (λ (vs : List Vector). length vs) sequence.vectors) ∙ length-map turns (λ (t : Vector × Option ℕ). t.0) in
        any_order x ps body is.keeps is.declares_none is.first is.apart loops o (is.not_of_loops x mine) (Contains us) turning_o independent_o turns others_are
        (each_with (λ (t : Vector × Option ℕ). Contains us t.0) (λ (t : Vector × Option ℕ). IsSome t.1) turns theirs sequence.numbered) differ
        (mixed turns order (subst (λ n. EachOnceBelow n order) long once)) (record { locals = λ y h. refl; scalars = λ y h. refl }) inside_o (overwritten o e.writes)
        (goes_of (scan_turn loops body x) turns o e (sym (turns_are loops body roles x turns o) ∙ sequence.runs ∙ sym runs.same ∙ ran))

    found : Reached (scan_turn loops body x) others_are o ended.0
    found = reached (scan_turn loops body x) ended.1

    back : Both (BothSet (x ∷ ps) loops is.not_of_loops x) set o (all_by (scan_turn loops body x) others_are set) (all_by (scan_turn loops body x) others_are o)
    back = both_all (scan_turn loops body x) (BothSet (x ∷ ps) loops is.not_of_loops x) (moved_turn (x ∷ ps) loops is.not_of_loops x body) others_are set o (moved_set, kept)

    elements : SameElements (overwritten outer e.writes) (overwritten set found.effect.writes)
    elements y j js = at (is_among (x ∷ ps) y) refl
      where
        at : (b : Bool) → is_among (x ∷ ps) y ≡ b → (overwritten outer e.writes).cells y (j ∷ js) ≡ (overwritten set found.effect.writes).cells y (j ∷ js)
        at true h = scalar_stays y e.writes outer (is.scalars y h) j js ∙ sym (scalar_stays y found.effect.writes set (set_scalar y h) j js)
        at false h =
            (runs.left e ran).cells y (j ∷ js) h ∙ ended.2 y j js ∙ ap (λ (t : State). t.cells y (j ∷ js)) found.left ∙ sym ((back.left found.effect (back.same ∙ found.ran)).0.cells y (j ∷ js) h)

    pub in_any : (f : Effect) × (run_turns loop x (picked turns order) set ≡ Some f) × SameElements (overwritten outer e.writes) (overwritten set f.writes)
    in_any = (found.effect, turns_are loops body roles x others_are set ∙ back.same ∙ found.ran, elements)

pub carried_commute : CarriedIterationsCommute
carried_commute x privates loop outer us is order e turns once ran scanned = in_any x privates loop.loops loop.body loop.roles outer us is order once e turns ran scanned

-- ---- the nests of the passes

same_keeps : (xs ys : List Variable) (a : Stmt) → ((y : Variable) → is_among xs y ≡ is_among ys y) → KeepsApart xs a → KeepsApart ys a
same_keeps xs ys a same k = record {
  names = k.names;
  steady = subst (λ (F : Variable → Bool). IsSteady (λ y. visible_behind a y && not (F y)) a) (fun_ext same) k.steady;
}

pub scan_nests_commute : ScanNestsCommute
scan_nests_commute roles x op inclusive n s loops front back outer chunks e is =
    let body = whole_of front back in
    let ps = assigned_first roles in
    let same : (y : Variable) → is_among (role_variables roles) y ≡ is_among (x ∷ ps) y =
    λ y. ap (λ rs. is_among (ps ++ map (λ r. r.0) rs) y) is.keeps.only ∙ same_variables roles.privates roles.lasts x op y in
    let declares : DeclaresNone (x ∷ ps) s = λ y h. is.keeps.declares_none y (same y ∙ h) in
    let declares_ps : DeclaresNone ps s = λ y h. declares y (or_right (x == y) (is_among ps y) h) in
    let has : HasReplaced body (own_body ps body) n s loops = replaced body (own_body ps body) n s loops is.nest in
    let known : KnownInside ps body = known_inside ps body n s has.nest loops has.is declares_ps (others ps) (λ y h. h) is.keeps.first in
    carried_commute x ps (record { loops = loops; body = body; roles = roles }) outer is.vectors
    (record {
      keeps = same_keeps (role_variables roles) (x ∷ ps) body same is.keeps.inside;
      first = body_first ps body known;
      apart = is.keeps.apart;
      declares_none = λ y h. visible_more s body (nest_declares n s loops body is.nest) y (declares y h);
      not_of_loops = λ y h. nest_variables n s loops body is.nest y (declares y h);
      scalars = λ y h. is.keeps.scalars y (same y ∙ h);
      number = (is.keeps.number.0, is.keeps.number.1);
      different = is.different;
      turning = is.turning;
      independent = is.independent;
    })
