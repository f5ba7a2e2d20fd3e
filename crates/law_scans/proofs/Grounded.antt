-- A scan in two passes, where all variables with a role are locals.
use Rattle.std.specs.Prelude.{ℕ, zero, suc, Bool, true, false, ◌≡◌, ◌≢◌, ◌==◌, ◌+◌, ◌||◌, ◌⊎◌, List, [], ◌∷◌, ◌++◌, length, map, flat_map, take, Option, Some, None, Contains, IsSome, slice_get}
use Rattle.std.specs.List.{AllPairs, AllByRecursion as Each}
use Rattle.std.proofs.Common.{refl, sym, ap, ◌∙◌, subst, arith, inl, inr}
use Rattle.std.proofs.lemmas.Bool.{true≢false, eq-eqb, or_left, or_right}
use Rattle.std.proofs.lemmas.List.{append-nil}
use Rattle.std.proofs.lemmas.List.Folds.{list_any-append}
use Rattle.std.proofs.lemmas.Option.{same_Some, none-some}
use Rattle.semantics.specs.Tree.{Variable, Stmt}
use Rattle.semantics.specs.Meaning.State.{State, Slot, Outside, Empty, Holds, with_local, assign_at, overwritten, look}
use Rattle.semantics.specs.Meaning.Value.{map_option}
use Rattle.semantics.specs.Meaning.Runs.{Effect, nothing, run}
use Rattle.semantics.specs.Meaning.Agrees.{is_among, visible_behind}
use Rattle.semantics.specs.Loops.Nest.{Loop, Vector, nest_of, iterations}
use Rattle.semantics.specs.Loops.Access.{Conflict}
use Rattle.semantics.specs.Loops.Operator.{ReduceOp, combined_all}
use Rattle.semantics.specs.Loops.Piece.{Roles, is_outside}
use Rattle.semantics.specs.Loops.Joined.{given}
use Rattle.semantics.specs.Loops.Scan.{start_of}
use Rattle.law_commute.specs.Targets.{KeepsApart}
use Rattle.law_commute.specs.Commuting.{InnerLoopsTurn}
use Rattle.law_commute.specs.Joining.{DeclaresLocals}
use Rattle.law_commute.proofs.Changes.{acted}
use Rattle.law_nests.specs.Walks.{walk}
use Rattle.law_nests.specs.Merging.{Cells, left_by}
use Rattle.law_nests.proofs.Joined.{nest_declares, visible_more}
use Rattle.law_private.proofs.Near.{all_inside}
use Rattle.law_roles.specs.Updates.{operands}
use Rattle.law_roles.specs.Reducing.{takes_all}
use Rattle.law_roles.specs.Following.{IsWalked}
use Rattle.law_roles.specs.Sharing.{role_variables, HoldsNumber, AssignsAll, begins_with, MergesAt, last_filled}
use Rattle.law_roles.proofs.Seen.{look_of}
use Rattle.law_roles.proofs.Starts.{roles_with}
use Rattle.law_roles.proofs.Followed.{walked}
use Rattle.law_roles.proofs.Chunked.{nest_variables, all_values, each_at, each_contains}
use Rattle.law_roles.proofs.Lasts.{none_filled}
use Rattle.law_roles.proofs.Shared.{none_stays, look_inside}
use Rattle.law_starts.specs.Begun.{begun}
use Rattle.law_scans.specs.Iterations.{StandsAt}
use Rattle.law_scans.specs.Passes.{walks_from}
use Rattle.law_scans.specs.Scanning.{scan_partials, ScansFrom}
use Rattle.law_scans.proofs.Beginning.{starts_of, starts_are}
use Rattle.law_scans.proofs.Walking.{AllApart, all_apart, Walked, walked_all, set_start}
use Rattle.law_scans.proofs.Firsts.{all_told, walk_tells, ready1}
use Rattle.law_scans.proofs.Merging.{changing}
use Rattle.law_scans.proofs.Once.{each_slice, slice_each}
use Rattle.law_scans.proofs.Passed.{Scans, numbered, Telling, passed, Passed, put_together}
use Rattle.law_scans.proofs.Settled.{last_settles}

-- what is known before the nest
pub record Ground (privates lasts : List Variable) (x : Variable) (op : ReduceOp) (n : ℕ) (s : Stmt) (loops : List Loop) (body input : Stmt) (o : State) (us : List Vector) (chunks : List (List Vector)) (e : Effect) : Type 0 where
  pub nest : nest_of n s ≡ Some (loops, body)
  pub apart : KeepsApart (x ∷ (privates ++ lasts)) s
  pub scans : Scans x op (privates ++ lasts) loops body input
  pub declares : (y : Variable) → is_among (x ∷ (privates ++ lasts)) y ≡ true → visible_behind s y ≡ true
  pub last : AssignsAll (privates ++ lasts) lasts body
  pub stands : (y : Variable) → is_among (x ∷ (privates ++ lasts)) y ≡ true → is_outside (o.locals y) ≡ false
  pub locals_alone : DeclaresLocals s o
  pub number : HoldsNumber o x
  pub are : iterations loops o ≡ Some us
  pub taken : (takes_all ((x, op) ∷ []) ≡ true) ⊎ IsSome (walk loops (operands ((x, op) ∷ []) input) us o)
  pub different : AllPairs (λ u v. u ≢ v) us
  pub turning : (u : Vector) → Contains us u → InnerLoopsTurn loops body o u
  pub independent : (u v : Vector) → Contains us u → Contains us v → Conflict loops body o u v → ⊥
  pub whole : flat_map (λ vs. vs) chunks ≡ us
  pub ran : run s o ≡ Some e

-- the scan variable may stand first
pub same_variables : (privates lasts : List Variable) (x : Variable) (op : ReduceOp) (y : Variable) → is_among (role_variables (roles_with privates lasts ((x, op) ∷ []))) y ≡ is_among (x ∷ (privates ++ lasts)) y
same_variables privates lasts x op y = list_any-append (λ z. z == y) (privates ++ lasts) (x ∷ []) ∙ turned (is_among (privates ++ lasts) y) (x == y)
  where
    turned : (a b : Bool) → (a || (b || false)) ≡ (b || a)
    turned true true = refl
    turned true false = refl
    turned false true = refl
    turned false false = refl

-- an assignment to a local
pub given_local : (x : Variable) (o : State) (w : ℕ) → is_outside (o.locals x) ≡ false → given o x (Some w) ≡ with_local o x (Holds w)
given_local x o w h = at (o.locals x) h
  where
    at : (k : Slot) → is_outside k ≡ false → assign_at k o x [] w ≡ with_local o x (Holds w)
    at Outside h = absurd (true≢false h)
    at Empty h = refl
    at (Holds m) h = refl

-- where the chunks begin
pub starts_long : (x : Variable) (op : ReduceOp) (o : State) (partials : List (Option ℕ)) (c : ℕ) (chunks : List (List Vector)) → length (starts_of x op o partials c chunks) ≡ length chunks
starts_long x op o partials c [] = refl
starts_long x op o partials c (us ∷ chunks) = ap suc (starts_long x op o partials (suc c) chunks)

starts_at : (x : Variable) (op : ReduceOp) (o : State) (partials : List (Option ℕ)) (d : ℕ) (chunks : List (List Vector)) (c : ℕ) (t : State) → slice_get (starts_of x op o partials d chunks) c ≡ Some t
    → given o x (start_of op (look o x []) partials (d + c)) ≡ t
starts_at x op o partials d [] c t is = absurd (none-some t is)
starts_at x op o partials d (us ∷ chunks) zero t is =
    let same : d + zero ≡ d = omega arith in
    ap (λ k. given o x (start_of op (look o x []) partials k)) same ∙ same_Some (given o x (start_of op (look o x []) partials d)) t is
starts_at x op o partials d (us ∷ chunks) (suc c) t is =
    let same : d + suc c ≡ suc d + c = omega arith in
    ap (λ k. given o x (start_of op (look o x []) partials k)) same ∙ starts_at x op o partials (suc d) chunks c t is

module _ (privates lasts : List Variable) (x : Variable) (op : ReduceOp) (n : ℕ) (s : Stmt) (loops : List Loop) (body input : Stmt) (o : State) (us : List Vector) (chunks : List (List Vector)) (e : Effect)
    (g : Ground privates lasts x op n s loops body input o us chunks e) where
  abbrev ps : List Variable
  ps = privates ++ lasts

  abbrev roles : Roles
  roles = roles_with privates lasts ((x, op) ∷ [])

  abbrev k : Scans x op ps loops body input
  k = g.scans

  abbrev v : ℕ
  v = g.number.0

  -- ---- the variables

  among_same : (y : Variable) → is_among (role_variables roles) y ≡ is_among (x ∷ ps) y
  among_same y = same_variables privates lasts x op y

  mine : is_among (x ∷ ps) x ≡ true
  mine = or_left (x == x) (is_among ps x) (eq-eqb x x refl)

  -- ---- where the passes begin

  stands_o : StandsAt x ps o v o
  stands_o = record { locals = λ y h. refl; scalars = λ y h. refl; elements = λ y i is. refl; inside = g.stands; value = g.number.1 }

  stands_given : (w : ℕ) → StandsAt x ps o w (given o x (Some w))
  stands_given w = subst (StandsAt x ps o w) (sym (given_local x o w (g.stands x mine))) (numbered x ps o v stands_o w)

  abbrev zero_state : State
  zero_state = begun roles o

  zero_stands : StandsAt x ps o (begins_with op v) (begun roles o)
  zero_stands = subst (StandsAt x ps o (begins_with op v)) (sym (ap (λ q. given o x (map_option (begins_with op) q)) g.number.1)) (stands_given (begins_with op v))

  -- ---- the sequence

  sequence : IsWalked loops body us o e
  sequence = walked n s loops body (x ∷ ps) o us e g.nest g.apart g.are g.ran

  abbrev flat : List Vector
  flat = flat_map (λ (vs : List Vector). vs) chunks

  abbrev Fit : Vector → Type 0
  Fit u = (length u ≡ length loops) × InnerLoopsTurn loops body o u

  fit_us : Each Fit us
  fit_us = each_contains Fit us (λ u h. (each_at (λ (u : Vector). length u ≡ length loops) us (all_values loops o us g.are) u h, g.turning u h))

  fit : Each Fit flat
  fit = subst (λ (vs : List Vector). Each Fit vs) (sym g.whole) fit_us

  clear_us : AllApart loops body o us
  clear_us = all_apart loops body o us g.different g.independent

  clear : AllApart loops body o flat
  clear = subst (AllApart loops body o) (sym g.whole) clear_us

  walked_flat : walk loops body flat o ≡ Some sequence.effect
  walked_flat = ap (λ vs. walk loops body vs o) g.whole ∙ sequence.ran

  abbrev Tell : Vector → Type 0
  Tell u = Telling x op ps loops body input o (begun roles o) v k stands_o g.number.2 zero_stands u

  told : Each Tell flat
  told = of g.taken
    where
      there : (q : Option Effect) → IsSome q → (f : Effect) × (q ≡ Some f)
      there None h = absurd (true≢false (sym h))
      there (Some f) h = (f, refl)

      of : (takes_all ((x, op) ∷ []) ≡ true) ⊎ IsSome (walk loops (operands ((x, op) ∷ []) input) us o) → Each Tell flat
      of (inl h) =
          all_told x op ps body input k.keeps k.declares_none k.first k.apart k.part loops o k.not_of_loops h flat o v sequence.effect fit clear
          (set_start x ps body k.keeps k.declares_none k.first k.apart loops o k.not_of_loops flat o v stands_o) walked_flat
      of (inr h) =
          let f = there (walk loops (operands ((x, op) ∷ []) input) us o) h in
          walk_tells x op ps body input k.keeps k.declares_none k.first k.apart k.part loops o k.not_of_loops flat o f.0 fit clear
          (ready1 x op ps body input k.keeps k.declares_none k.first k.apart k.part loops o k.not_of_loops flat o v (set_start x ps body k.keeps k.declares_none k.first k.apart loops o k.not_of_loops flat o v stands_o))
          (ap (λ vs. walk loops (operands ((x, op) ∷ []) input) vs o) g.whole ∙ f.1)

  p : Passed x op ps loops body input o (begun roles o) v k stands_o g.number.2 zero_stands chunks o v sequence.effect
  p =
      passed x op ps loops body input o (begun roles o) v k stands_o g.number.2 zero_stands chunks o v sequence.effect fit clear told (inl refl)
      (set_start x ps body k.keeps k.declares_none k.first k.apart loops o k.not_of_loops flat o v stands_o) walked_flat

  -- ---- the starts

  abbrev partials : List (Option ℕ)
  partials = scan_partials roles x o p.firsts

  abbrev starts : List State
  starts = starts_of x op o partials 0 chunks

  start_stands : (c : ℕ) (t : State) → slice_get starts c ≡ Some t → (n : ℕ) × (start_of op (Some v) partials c ≡ Some n) × StandsAt x ps o n t
  start_stands c t at =
      let w : ℕ = combined_all op v (take c partials) in
      let same : c ≡ 0 + c = omega arith in
      let is : given o x (Some w) ≡ t =
      ap (λ q. given o x (start_of op q partials c)) (sym g.number.1) ∙ ap (λ d. given o x (start_of op (look o x []) partials d)) same ∙ starts_at x op o partials 0 chunks c t at in
      (w, refl, subst (StandsAt x ps o w) is (stands_given w))

  second_pass : walks_from loops body starts chunks ≡ map Some p.seconds
  second_pass = p.second_pass starts (starts_long x op o partials 0 chunks) start_stands

  -- ---- what is left

  w_all : Walked x ps body k.keeps k.declares_none k.first k.apart loops o k.not_of_loops flat [] o v sequence.effect
  w_all = walked_all x ps body k.keeps k.declares_none k.first k.apart loops o k.not_of_loops flat o v sequence.effect fit clear (set_start x ps body k.keeps k.declares_none k.first k.apart loops o k.not_of_loops flat o v stands_o) walked_flat

  inner : (y : Variable) → visible_behind s y ≡ true → visible_behind body y ≡ true
  inner y seen = visible_more s body (nest_declares n s loops body g.nest) y seen

  not_among : (y : Variable) → is_among (role_variables roles) y ≡ false → is_among (x ∷ ps) y ≡ false
  not_among y h = sym (among_same y) ∙ h

  elements : (y : Variable) (i : ℕ) (is : List ℕ) → left_by o sequence.effect y (i ∷ is) ≡ acted y (i ∷ is) (flat_map (λ (f : Effect). f.writes) p.seconds) (o.cells y (i ∷ is))
  elements y i is =
      (changing x ps body k.keeps k.declares_none k.first k.apart loops o k.not_of_loops flat [] o v sequence.effect fit
      (subst (AllApart loops body o) (sym (append-nil flat)) clear)
      (set_start x ps body k.keeps k.declares_none k.first k.apart loops o k.not_of_loops (flat ++ []) o v stands_o) walked_flat).elements o
      (set_start x ps body k.keeps k.declares_none k.first k.apart loops o k.not_of_loops flat o v stands_o) y i is
      ∙ ap (λ ws. acted y (i ∷ is) ws (o.cells y (i ∷ is))) p.writes

  merged : (after : Cells) (y : Variable) (is : List ℕ) → is_among (role_variables roles) y ≡ false → MergesAt o p.seconds after y is → after y is ≡ left_by o sequence.effect y is
  merged after y (i ∷ is) h m =
      put_together y (i ∷ is) p.seconds after (o.cells y (i ∷ is)) (left_by o sequence.effect y (i ∷ is)) o (elements y i is) refl (p.once y i is)
      (λ n f at. each_slice (λ (f : Effect). (y : Variable) (j : ℕ) (js : List ℕ) → left_by o f y (j ∷ js) ≡ acted y (j ∷ js) f.writes (o.cells y (j ∷ js))) p.seconds p.acts n f at y i is) m
  merged after y [] h m = at (visible_behind s y) refl
    where
      none : (still : (c : ℕ) (f : Effect) → slice_get p.seconds c ≡ Some f → left_by o f y [] ≡ o.cells y []) → MergesAt o p.seconds after y [] → after y [] ≡ o.cells y []
      none still (inl q) = q.1
      none still (inr c) = absurd (c.changes (still c.number c.effect c.among))

      at : (b : Bool) → visible_behind s y ≡ b → after y [] ≡ left_by o sequence.effect y []
      at true seen =
          none (λ c f at. each_slice (λ (f : Effect). (y : Variable) → visible_behind body y ≡ true → is_among (x ∷ ps) y ≡ false → left_by o f y [] ≡ o.cells y []) p.seconds p.still c f at y (inner y seen) (not_among y h)) m
          ∙ sym (w_all.after.scalars y (inner y seen) (not_among y h))
      at false hidden =
          let gone = g.locals_alone y hidden in
          none (λ c f at. none_stays y [] f.writes o gone ∙ sym gone) m ∙ gone ∙ sym (none_stays y [] sequence.effect.writes o gone)

  -- a variable that is visible round the nest is seen as behind the walk
  seen_same : (y : Variable) → visible_behind s y ≡ true → look (overwritten o e.writes) y [] ≡ look (overwritten o sequence.effect.writes) y []
  seen_same y seen = look_of y (overwritten o e.writes) (overwritten o sequence.effect.writes) (sequence.locals y (nest_variables n s loops body g.nest y seen)) (λ js. sequence.cells y js) []

  walks_long : (starts : List State) (cs : List (List Vector)) (fs : List Effect) → length starts ≡ length cs → walks_from loops body starts cs ≡ map Some fs → length fs ≡ length cs
  walks_long [] [] [] h each = refl
  walks_long [] [] (f ∷ fs) h each = absurd cc
  walks_long [] (us ∷ cs) fs h each = absurd (omega (arith, h))
  walks_long (t ∷ starts) [] fs h each = absurd (omega (arith, h))
  walks_long (t ∷ starts) (us ∷ cs) [] h each = absurd cc
  walks_long (t ∷ starts) (us ∷ cs) (f ∷ fs) h each = ap suc (walks_long starts cs fs (omega (arith, h)) (rest each))
    where
      rest : walks_from loops body (t ∷ starts) (us ∷ cs) ≡ map Some (f ∷ fs) → walks_from loops body starts cs ≡ map Some fs
      rest k = cc

  both_lasts : (y : Variable) → is_among lasts y ≡ true → is_among ps y ≡ true
  both_lasts y h = list_any-append (λ z. z == y) privates lasts ∙ or_right (is_among privates y) (is_among lasts y) h

  lasts_are : (y : Variable) (f : Effect) → is_among lasts y ≡ true → last_filled chunks p.seconds ≡ Some f → look (overwritten o e.writes) y [] ≡ look (overwritten o f.writes) y []
  lasts_are y f h filled =
      let early = both_lasts y h in
      let role : is_among (x ∷ ps) y ≡ true = or_right (x == y) (is_among ps y) early in
      let up : is_outside (o.locals y) ≡ false = g.stands y role in
      let slots : (overwritten o sequence.effect.writes).locals y ≡ (overwritten o f.writes).locals y =
      ap (λ ws. (overwritten o ws).locals y) p.writes
      ∙ last_settles ps lasts body k.keeps.names g.last loops y early h chunks starts p.seconds o o f
      (slice_each (λ (t : State). is_outside (t.locals y) ≡ false) starts (λ c t at. (start_stands c t at).2.inside y role)) (starts_long x op o partials 0 chunks) second_pass filled up up in
      seen_same y (g.declares y role) ∙ look_inside y (overwritten o sequence.effect.writes) (overwritten o f.writes) slots (all_inside sequence.effect.writes o y up)

  no_last_is : (y : Variable) → is_among lasts y ≡ true → flat_map (λ (us : List Vector). us) chunks ≡ [] → look (overwritten o e.writes) y [] ≡ look o y []
  no_last_is y h none =
      let still : nothing ≡ sequence.effect = same_Some nothing sequence.effect (sym (ap (λ vs. walk loops body vs o) (sym g.whole ∙ none)) ∙ sequence.ran) in
      seen_same y (g.declares y (or_right (x == y) (is_among ps y) (both_lasts y h))) ∙ sym (ap (λ (f : Effect). look (overwritten o f.writes) y []) still)

  pub scans_from : ScansFrom roles x op s loops input body chunks o e
  scans_from = record {
    firsts = p.firsts;
    first_pass = p.first_pass;
    seconds = p.seconds;
    second_pass = ap (λ ts. walks_from loops body ts chunks) (sym (starts_are x op o partials chunks)) ∙ second_pass;
    merge = λ after merges y is h. merged after y is h (merges y is h) ∙ sym (sequence.cells y is);
    value = seen_same x (g.declares x mine) ∙ p.value ∙ ap (λ before. start_of op before partials (length chunks)) (sym g.number.1);
    lasts = lasts_are;
    filled = λ some. at (last_filled chunks p.seconds) refl some;
    no_last = no_last_is;
    locals = λ y seen other. sequence.locals y (nest_variables n s loops body g.nest y seen) ∙ w_all.after.locals y (inner y seen) (not_among y other) (nest_variables n s loops body g.nest y seen);
    text = sequence.text ∙ p.text;
  }
    where
      at : (q : Option Effect) → last_filled chunks p.seconds ≡ q → (flat_map (λ (us : List Vector). us) chunks ≡ [] → ⊥) → IsSome q
      at None h some = absurd (some (none_filled chunks p.seconds (walks_long starts chunks p.seconds (starts_long x op o partials 0 chunks) second_pass) h))
      at (Some f) h some = refl
