-- Loops inside each other, as they are entered and left.
use Rattle.std.specs.Prelude.{ℕ, ◌≡◌, ◌<◌, ◌≤◌, List, [], ◌∷◌, length, drop, remove, insert, Bool, true, false, Option, Some, None, if◌then◌else◌, OnOk, OnErr, is_ok, is_err}
use Rattle.std.specs.declared.result.Result.{Result}
use Rattle.std.specs.declared.result.Result.TheVariants.{Ok, Err}
use Rattle.std.proofs.Common.{refl, sym, ap, ◌∙◌, subst, arith}
use Rattle.affine.specs.declared.interval.Side.{Side}
use Rattle.affine.specs.Box.{side}
use Rattle.semantics.specs.Tree.{Variable, Source, Cond, NotZero, Compare, Not, LogicalAnd, LogicalOr, Increment, Stmt}
use Rattle.nest_loop.specs.declared.head.Canonical.{Canonical}
use Rattle.nest_loop.specs.Most.{IsMost}
use Rattle.affine.specs.Affine.{Affine}
use Rattle.affine_expr.specs.Forms.{form_of}
use Rattle.nest_loop.specs.declared.stride.Stride.{Stride}
use Rattle.nest_loop.specs.declared.stride.Bound.{Bound}
use Rattle.nest_loop.specs.Canonical.{is_variable, stride_of, bound_after, canonical_by, start_form, canonical}
use Rattle.nest_loop.specs.Loops.{IsLoop, inside}
use Rattle.nest_loop.specs.declared.entered.LoopFacts.{LoopFacts}
use Rattle.nest_loop.proofs.Laws.{canonical_well}
use Rattle.pairtest_counter.specs.Counters.{Given, AreForms}
use Rattle.pairtest_counter.specs.declared.level.EnclosingLoop.{EnclosingLoop}
use Rattle.ktree.specs.View.{source_of, cond_of, increment_of}
use Rattle.ktree.specs.declared.statement.Head.{Head}
use Rattle.pairtest_counter.specs.declared.level.Inner.{Inner}
use Rattle.pairtest_counter.specs.Levels.{Nesting, IsLevel, AreLevels, IsInner, IsInnerWith, with_inner, Enters, EntersWith}

-- as many loops as sides
pub as_many : (box : List Side) (vs : List EnclosingLoop) → AreLevels box vs → length box ≡ length vs
as_many [] [] h = refl
as_many [] (v ∷ vs) h = absurd h
as_many (s ∷ ss) [] h = absurd h
as_many (s ∷ ss) (v ∷ vs) h = let e = as_many ss vs h.1 in omega arith

pub left_behind : (box : List Side) (vs : List EnclosingLoop) → AreLevels box vs → AreLevels (drop 1 box) (drop 1 vs)
left_behind [] [] h = tt
left_behind [] (v ∷ vs) h = absurd h
left_behind (s ∷ ss) [] h = absurd h
left_behind (s ∷ ss) (v ∷ vs) h = h.1

-- what is left where the innermost loop is left
pub left_over : (box box' : List Side) (vs vs' : List EnclosingLoop) → AreLevels box vs → box' ≡ drop 1 box → vs' ≡ remove vs 0 → AreLevels box' vs'
left_over box box' vs vs' h p q =
    subst (λ (ss : List Side). AreLevels ss vs') (sym p) (subst (AreLevels (drop 1 box)) (sym (q ∙ first_gone vs)) (left_behind box vs h))
  where
    first_gone : (us : List EnclosingLoop) → remove us 0 ≡ drop 1 us
    first_gone [] = refl
    first_gone (u ∷ us) = refl

-- a loop is entered inside few others
pub few_outer : (box : List Side) (vs : List EnclosingLoop) (n : ℕ) → AreLevels box vs → length box < 8 → n ≡ length vs → n ≤ 8
few_outer box vs n h few e = let m = as_many box vs h in omega arith

-- ---- the loop of a head is one of its variable

if_there : {A : Type 0} (b : Bool) (o : Option A) (a : A) → (if b then o else None) ≡ Some a → o ≡ Some a
if_there true o a e = e
if_there false o a e = absurd (cc e)

by_name : (x : Variable) (s : Option Stride) (b : Option Bound) (start limit : Option Affine) (l : Canonical) → canonical_by x s b start limit ≡ Some l → x ≡ l.variable.0
by_name x None b start limit l e = absurd (cc e)
by_name x (Some s) None start limit l e = absurd (cc e)
by_name x (Some s) (Some b) None limit l e = absurd (cc e)
by_name x (Some s) (Some b) (Some f) None l e = absurd (cc e)
by_name x (Some s) (Some b) (Some f) (Some g) l e =
    let same : record { variable = record { 0 = x }; stride = s; bound = b; start = f; limit = g } ≡ l = cc in
    ap (λ (m : Canonical). m.variable.0) same

pub canonical_named : (box : List Side) (x : Variable) (start : Source) (test : Cond) (step : Increment) (l : Canonical) → canonical box x start test step ≡ Some l → x ≡ l.variable.0
canonical_named box x start (Compare op a ub) step l e =
    by_name x (stride_of x step) (bound_after op (stride_of x step)) (start_form box start) (form_of box ub) l
    (if_there (is_variable x a) (canonical_by x (stride_of x step) (bound_after op (stride_of x step)) (start_form box start) (form_of box ub)) l e)
canonical_named box x start (NotZero c) step l e = absurd (cc e)
canonical_named box x start (Not c) step l e = absurd (cc e)
canonical_named box x start (LogicalAnd c d) step l e = absurd (cc e)
canonical_named box x start (LogicalOr c d) step l e = absurd (cc e)

-- the loop of a head is as the loops of a chain are
pub inner_level : (n : Nesting) (head : Head) (body : Stmt) (v : Inner) → IsInner n head body v → IsLevel n.box n.levels (side v.level.canonical.variable.0 v.numbers.least v.numbers.greatest) v.level
inner_level n head body v h =
    record {
      numbers = v.numbers;
      are = h.is.numbers;
      is = refl;
      by_one = (canonical_well n.box head.variable.0 (source_of head.start) (cond_of head.test) (increment_of head.step) v.level.canonical h.is.form).by_one;
      stays = h.is.stays;
      most = h.most;
      forms = h.forms;
    }

-- a loop inside others that has these facts
pub inner_with : (n now : Nesting) (head : Head) (facts : LoopFacts) (v : EnclosingLoop) → now ≡ n → v.canonical ≡ facts.canonical → v.most ≡ facts.trip_count
    → Given (AreForms now.levels facts.canonical) v.forms → IsInnerWith n head facts (record { level = v; numbers = facts.numbers })
inner_with n now head facts v same e most forms body are =
    record {
      is = subst (λ (m : Canonical). IsLoop n.box head.variable.0 (source_of head.start) (cond_of head.test) (increment_of head.step) body m facts.numbers) (sym e) are.loop;
      most = subst (λ (k : ℕ). IsMost n.box v.canonical k) (sym most) (subst (λ (m : Canonical). IsMost n.box m facts.trip_count) (sym e) are.most);
      forms = subst (λ (m : Nesting). Given (AreForms m.levels v.canonical) v.forms) same (subst (λ (m : Canonical). Given (AreForms now.levels m) v.forms) (sym e) forms);
    }

-- to put it there is to enter it
pub entering : {E : Type 0} (r : Result (Unit {0}) E) (before after : Nesting) (head : Head) (body : Stmt) (v : Inner) → IsInner before head body v → OnOk r (after ≡ with_inner before v)
    → OnOk r (Enters before after head body)
entering (Err x) before after head body v h e = tt
entering (Ok u) before after head body v h e =
    let name = canonical_named before.box head.variable.0 (source_of head.start) (cond_of head.test) (increment_of head.step) v.level.canonical h.is.form in (
      v.level,
      v.numbers,
      h.is,
      e ∙ ap (λ (x : ℕ). record { box = inside before.box x v.numbers; levels = v.level ∷ before.levels }) (sym name),
    )

pub entering_with : {E : Type 0} (r : Result (Unit {0}) E) (before after : Nesting) (head : Head) (facts : LoopFacts) (v : Inner) → IsInnerWith before head facts v → OnOk r (after ≡ with_inner before v)
    → OnOk r (EntersWith before after head facts)
entering_with (Err x) before after head facts v h e = tt
entering_with {E} (Ok u) before after head facts v h e = λ body are. entering {E = E} (Ok u) before after head body v (h body are) e

-- what holds on Ok, where there is no error
pub on_ok : {A E : Type 0} {P : Type 0} (r : Result A E) → OnOk r P → is_err r ≡ false → P
on_ok (Ok a) h e = h
on_ok (Err x) h e = absurd (cc e)

-- an insertion that succeeded
pub inserted : {E : Type 0} (vs us : List EnclosingLoop) (v : EnclosingLoop) (r : Result (Unit {0}) E) → us ≡ (if is_ok r then insert vs 0 v else vs) → is_err r ≡ false → us ≡ v ∷ vs
inserted vs us v (Ok a) e f = e ∙ first vs
  where
    first : (ws : List EnclosingLoop) → insert ws 0 v ≡ v ∷ ws
    first [] = refl
    first (w ∷ ws) = refl
inserted vs us v (Err x) e f = absurd (cc f)

-- the loops with one more are sound, and those that stayed
pub put_inside : {E : Type 0} (r : Result (Unit {0}) E) (n : Nesting) (v : Inner) (box : List Side) (vs : List EnclosingLoop) → AreLevels n.box n.levels
    → IsLevel n.box n.levels (side v.level.canonical.variable.0 v.numbers.least v.numbers.greatest) v.level → OnOk r (box ≡ inside n.box v.level.canonical.variable.0 v.numbers)
    → OnOk r (vs ≡ v.level ∷ n.levels) → OnErr r (box ≡ n.box) → OnErr r (vs ≡ n.levels) → AreLevels box vs
put_inside (Ok u) n v box vs all is b e same_box same =
    subst (λ (ss : List Side). AreLevels ss vs) (sym b) (subst (AreLevels (inside n.box v.level.canonical.variable.0 v.numbers)) (sym e) (is, all))
put_inside (Err x) n v box vs all is b e same_box same =
    subst (λ (ss : List Side). AreLevels ss vs) (sym same_box) (subst (AreLevels n.box) (sym same) all)

-- they are those with one more
pub put_whole : {E : Type 0} (r : Result (Unit {0}) E) (n before : Nesting) (v : Inner) (box : List Side) (vs : List EnclosingLoop) → n ≡ before → OnOk r (box ≡ inside n.box v.level.canonical.variable.0 v.numbers)
    → OnOk r (vs ≡ v.level ∷ n.levels) → OnOk r (record { box = box; levels = vs } ≡ with_inner before v)
put_whole (Err x) n before v box vs same b e = tt
put_whole (Ok u) n before v box vs same b e =
    ap (λ (ss : List Side). record { box = ss; levels = vs }) b ∙ ap (λ (us : List EnclosingLoop). record { box = inside n.box v.level.canonical.variable.0 v.numbers; levels = us }) e
    ∙ ap (λ (m : Nesting). with_inner m v) same

-- they are those from before
pub put_none : {E : Type 0} (r : Result (Unit {0}) E) (n before : Nesting) (box : List Side) (vs : List EnclosingLoop) → n ≡ before → OnErr r (box ≡ n.box) → OnErr r (vs ≡ n.levels)
    → OnErr r (record { box = box; levels = vs } ≡ before)
put_none (Ok u) n before box vs same b e = tt
put_none (Err x) n before box vs same b e =
    ap (λ (ss : List Side). record { box = ss; levels = vs }) b ∙ ap (λ (us : List EnclosingLoop). record { box = n.box; levels = us }) e ∙ same
