-- The scalars that a statement assigns, and those of a nest. (OpenMP 5.2, 5.4.3)
use Rattle.std.specs.Prelude.{ℕ, zero, suc, Bool, true, false, ◌≡◌, ◌==◌, ◌&&◌, ◌||◌, not, List, [], ◌∷◌, ◌++◌, Some}
use Rattle.std.proofs.Common.{refl, sym, ap, ◌∙◌, ⊎_elim}
use Rattle.std.proofs.lemmas.Bool.{eqb-true, or_cases, or_parts}
use Rattle.std.proofs.lemmas.List.{append-nil}
use Rattle.std.proofs.lemmas.Map.Views.{any-filter_same}
use Rattle.std.proofs.lemmas.Option.{same_Some, none-some}
use Rattle.semantics.specs.Tree.{Variable, Exprs, no_exprs, more_exprs, Stmt, Assign, Update, If, IfElse, For, Block, Print, Items, no_items, mark, local, stmt}
use Rattle.semantics.specs.Meaning.Agrees.{is_among, declared_in, visible_behind}
use Rattle.semantics.specs.Loops.Nest.{Loop, as_loop, nest_of}
use Rattle.affine.specs.declared.interval.Side.{Side}
use Rattle.affine_expr.specs.Forms.{is_counter}
use Rattle.nest_loop.specs.Canonical.{stepped, assigns, assigns_among}
use Rattle.flow.specs.Private.{is_own, keeps, keeps_all}
use Rattle.flow.proofs.PrivateLemmas.{among_both}
use Rattle.flow.proofs.ParallelLemmas.{nest_declares}
use Rattle.law_commute.specs.Targets.{scalar, targets, targets_among, targets_outside}
use Rattle.law_commute.proofs.Values.{first_of, second_of}
use Rattle.law_nests.proofs.Joined.{first_loop}
use Rattle.law_independence.proofs.IndependentNests.{longer}

-- ---- a statement

scalar_none : (x y : Variable) (is : Exprs) → (y == x) ≡ false → is_among (scalar y is) x ≡ false
scalar_none x y no_exprs h = ap (λ b. b || false) h
scalar_none x y (more_exprs i is) h = refl

-- in one of two lists, or in neither
pub in_either : {A : Type 0} (x : Variable) (ys zs : List Variable) → is_among (ys ++ zs) x ≡ true → (is_among ys x ≡ true → A) → (is_among zs x ≡ true → A) → A
in_either x ys zs t one two = ⊎_elim one two (or_cases (is_among ys x) (is_among zs x) (sym (among_both ys zs x) ∙ t))

pub in_neither : (x : Variable) (ys zs : List Variable) → is_among (ys ++ zs) x ≡ false → (is_among ys x ≡ false) × (is_among zs x ≡ false)
in_neither x ys zs h = or_parts (is_among ys x) (is_among zs x) (sym (among_both ys zs x) ∙ h)

neither : (x : Variable) (ys zs : List Variable) → is_among ys x ≡ false → is_among zs x ≡ false → is_among (ys ++ zs) x ≡ false
neither x ys zs p q = among_both ys zs x ∙ ap (λ b. b || is_among zs x) p ∙ q

-- a variable that it does not assign is no target
mutual
  pub no_target : (x : Variable) (a : Stmt) → assigns x a ≡ false → is_among (targets a) x ≡ false
  no_target x (Assign y is e) h = scalar_none x y is h
  no_target x (Update y is op e) h = scalar_none x y is h
  no_target x (If c a) h = no_target x a h
  no_target x (IfElse c a b) h = let parts = or_parts (assigns x a) (assigns x b) h in neither x (targets a) (targets b) (no_target x a parts.0) (no_target x b parts.1)
  no_target x (For y name start test step body) h = no_target x body (or_parts (stepped step == x) (assigns x body) h).1
  no_target x (Block items) h = no_target_among x items h
  no_target x (Print parts) h = refl

  no_target_among : (x : Variable) (items : Items) → assigns_among x items ≡ false → is_among (targets_among items) x ≡ false
  no_target_among x no_items h = refl
  no_target_among x (mark line rest) h = no_target_among x rest h
  no_target_among x (local y name start rest) h = no_target_among x rest h
  no_target_among x (stmt a rest) h =
      let parts = or_parts (assigns x a) (assigns_among x rest) h in neither x (targets a) (targets_among rest) (no_target x a parts.0) (no_target_among x rest parts.1)

-- a target of one that keeps to its own is one's own
module _ (own : Variable → Bool) (x : Variable) where
  scalar_own : (y : Variable) (is : Exprs) → is_own own y is ≡ true → is_among (scalar y is) x ≡ true → own x ≡ true
  scalar_own y no_exprs h t = at (y == x) refl t
    where
      at : (b : Bool) → (y == x) ≡ b → (b || false) ≡ true → own x ≡ true
      at true e q = ap own (sym (eqb-true y x e)) ∙ h
      at false e q = absurd (cc q)
  scalar_own y (more_exprs i is) h t = absurd (cc t)

  mutual
    pub own_target : (a : Stmt) → keeps own a ≡ true → is_among (targets a) x ≡ true → own x ≡ true
    own_target (Assign y is e) h t = scalar_own y is h t
    own_target (Update y is op e) h t = scalar_own y is h t
    own_target (If c a) h t = own_target a h t
    own_target (IfElse c a b) h t =
        in_either x (targets a) (targets b) t (own_target a (first_of (keeps own a) (keeps own b) h)) (own_target b (second_of (keeps own a) (keeps own b) h))
    own_target (For y name start test step body) h t = own_target body h t
    own_target (Block items) h t = own_target_among items h t
    own_target (Print parts) h t = absurd (cc t)

    own_target_among : (items : Items) → keeps_all own items ≡ true → is_among (targets_among items) x ≡ true → own x ≡ true
    own_target_among no_items h t = absurd (cc t)
    own_target_among (mark line rest) h t = own_target_among rest h t
    own_target_among (local y name start rest) h t = own_target_among rest h t
    own_target_among (stmt a rest) h t =
        in_either x (targets a) (targets_among rest) t (own_target a (first_of (keeps own a) (keeps_all own rest) h)) (own_target_among rest (second_of (keeps own a) (keeps_all own rest) h))

-- those that it does not declare
among_outside : (a : Stmt) (x : Variable) → is_among (targets_outside a) x ≡ (visible_behind a x && is_among (targets a) x)
among_outside a x = any-filter_same (λ y. y == x) (visible_behind a) (visible_behind a x) (λ y e. ap (visible_behind a) (eqb-true y x e)) (targets a)

pub is_outside_target : (a : Stmt) (x : Variable) → visible_behind a x ≡ true → is_among (targets a) x ≡ true → is_among (targets_outside a) x ≡ true
is_outside_target a x v t = among_outside a x ∙ ap (λ b. b && is_among (targets a) x) v ∙ t

pub outside_visible : (a : Stmt) (x : Variable) → is_among (targets_outside a) x ≡ true → visible_behind a x ≡ true
outside_visible a x h = first_of (visible_behind a x) (is_among (targets a) x) (sym (among_outside a x) ∙ h)

pub outside_target : (a : Stmt) (x : Variable) → is_among (targets_outside a) x ≡ true → is_among (targets a) x ≡ true
outside_target a x h = second_of (visible_behind a x) (is_among (targets a) x) (sym (among_outside a x) ∙ h)

pub no_outside_target : (a : Stmt) (x : Variable) → is_among (targets a) x ≡ false → is_among (targets_outside a) x ≡ false
no_outside_target a x h = among_outside a x ∙ at (visible_behind a x) ∙ h
  where
    at : (b : Bool) → (b && is_among (targets a) x) ≡ is_among (targets a) x
    at true = refl
    at false = sym h

-- ---- a nest

-- a loop assigns what its body does
loop_targets : (s : Stmt) (l : Loop) (b : Stmt) → as_loop s ≡ Some (l, b) → targets s ≡ targets b
loop_targets (For x name start test step inner) l b h =
    ap targets (ap (λ (p : Loop × Stmt). p.1) (same_Some (record { variable = x; start = start; test = test; step = step }, inner) (l, b) h))
loop_targets (Block (stmt a no_items)) l b h = append-nil (targets a) ∙ loop_targets a l b h
loop_targets _ l b h = absurd (none-some (l, b) h)

pub nest_targets : (n : ℕ) (s : Stmt) (loops : List Loop) (body : Stmt) → nest_of n s ≡ Some (loops, body) → targets s ≡ targets body
nest_targets zero s loops body h = ap targets (ap (λ (p : List Loop × Stmt). p.1) (same_Some ([], s) (loops, body) h))
nest_targets (suc n) s loops body h =
    let first = first_loop n s loops body h in
    loop_targets s first.loop first.inside first.is ∙ nest_targets n first.inside first.loops body first.rest

-- and declares its variable besides
pub loop_visible : (s : Stmt) (l : Loop) (b : Stmt) → as_loop s ≡ Some (l, b) → (x : Variable) → visible_behind s x ≡ not ((l.variable == x) || is_among (declared_in b) x)
loop_visible s l b h x = ap (λ xs. not (is_among xs x)) (nest_declares 1 s (l ∷ []) b (longer 0 s l b [] b h refl))

-- ---- the loops round a statement

-- their variables are none of these
abbrev pub Spares : List Side → List Variable → Type 0
Spares box xs = (y : Variable) → is_counter box y ≡ true → is_among xs y ≡ false
