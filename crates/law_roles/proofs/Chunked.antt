-- Chunks of iterations beside those of the operands.
use Rattle.std.specs.Prelude.{ℕ, zero, suc, Bool, true, false, not, ◌≡◌, ◌≢◌, ◌==◌, ◌&&◌, ◌||◌, ◌<◌, ◌^◌, List, [], ◌∷◌, ◌++◌, length, map, flat_map, Option, Some, None, Contains, slice_index_or, option_and_then}
use Rattle.std.specs.List.{AllPairs, AllByRecursion as Each}
use Rattle.std.proofs.Common.{refl, sym, ap, ◌∙◌, subst, cond, arith, inl}
use Rattle.std.proofs.lemmas.Bool.{true≢false}
use Rattle.std.proofs.lemmas.List.{append_assoc}
use Rattle.std.proofs.lemmas.List.Elements.{All-from_recursion}
use Rattle.std.proofs.lemmas.Option.{same_Some, none-some}
use Rattle.semantics.specs.Tree.{Variable, Stmt, For, Block, no_items, stmt}
use Rattle.semantics.specs.Meaning.State.{State, Declared, Holds, Write, with_local, overwritten, look}
use Rattle.semantics.specs.Meaning.Value.{map_option}
use Rattle.semantics.specs.Meaning.Runs.{then_from, run}
use Rattle.semantics.specs.Meaning.Agrees.{is_among, declared_in, names_source, names_cond, names_step, names_only, visible_behind}
use Rattle.semantics.specs.Loops.Nest.{Loop, Vector, as_loop, nest_of, at_value, loop_values, concat_options, iterations}
use Rattle.semantics.specs.Loops.Access.{Access, Mode, Writes, Touches, Conflict, accesses}
use Rattle.semantics.specs.Loops.Operator.{ReduceOp, apply, identity, combined, combined_all}
use Rattle.law_commute.specs.Commuting.{KeepsToItself, InnerLoopsTurn}
use Rattle.law_commute.proofs.Lists.{each_join}
use Rattle.law_commute.proofs.Paths.{both_there}
use Rattle.law_commute.proofs.Values.{first_of, second_of}
use Rattle.law_nests.specs.Walks.{entered, enters, walk}
use Rattle.law_nests.proofs.Joined.{first_loop}
use Rattle.law_nests.proofs.Walked.{loop_own}
use Rattle.law_private.proofs.Own.{own_body, own_accesses, KnownInside}
use Rattle.law_private.proofs.Chunks.{less_turning, more_conflict}
use Rattle.law_roles.specs.Updates.{operator_of, is_plain, reduces, operands}
use Rattle.law_roles.specs.Reducing.{partial_of}
use Rattle.law_roles.specs.Following.{variables_of}
use Rattle.law_roles.proofs.Operands.{accesses_operands}
use Rattle.law_roles.proofs.Shadow.{TakesAll, Beside, At, Shadows, at_nothing, at_then, shadows_nothing, shadows_steps, declared_plain, stmt_shadow, folded, folded-append, hit, Marks}
use Rattle.law_roles.proofs.Shifting.{folded_partial}
use Rattle.law_roles.proofs.Recorded.{TouchesAt, Clear, AllClear, Good, all_recorded, recorded}
use Rattle.law_roles.proofs.Partials.{partial_none, partial_there, Counts, updated_counts, kept_counts}

-- ---- nests

-- each loop's variable is none of those reduced, and the body uses these as the nest does
pub record IsReduced (rs : List (Variable × ReduceOp)) (loops : List Loop) (body : Stmt) : Type 0 where
  pub plain : Each (λ (l : Loop). is_plain rs l.variable ≡ true) loops
  pub body_is : reduces rs body ≡ true

loop_reduces : (rs : List (Variable × ReduceOp)) (s : Stmt) (l : Loop) (b : Stmt) → as_loop s ≡ Some (l, b) → reduces rs s ≡ true → (is_plain rs l.variable ≡ true) × (reduces rs b ≡ true)
loop_reduces rs (For x name start test step inner) l b h k =
    let V = is_plain rs in
    let front = first_of (V x && names_source V start && names_cond V test && names_step V step) (reduces rs inner) k in
    let same : (record { variable = x; start = start; test = test; step = step }, inner) ≡ (l, b) = same_Some (record { variable = x; start = start; test = test; step = step }, inner) (l, b) h in
    let plain = first_of (V x) (names_source V start) (first_of (V x && names_source V start) (names_cond V test) (first_of (V x && names_source V start && names_cond V test) (names_step V step) front)) in
    subst (λ (p : Loop × Stmt). (is_plain rs p.0.variable ≡ true) × (reduces rs p.1 ≡ true)) same
    (plain, second_of (V x && names_source V start && names_cond V test && names_step V step) (reduces rs inner) k)
loop_reduces rs (Block (stmt a no_items)) l b h k = loop_reduces rs a l b h (first_of (reduces rs a) true k)
loop_reduces rs _ l b h k = absurd (none-some (l, b) h)

pub nest_reduces : (rs : List (Variable × ReduceOp)) (n : ℕ) (s : Stmt) (loops : List Loop) (body : Stmt) → nest_of n s ≡ Some (loops, body) → reduces rs s ≡ true → IsReduced rs loops body
nest_reduces rs zero s loops body h k =
    let same : ([], s) ≡ (loops, body) = same_Some ([], s) (loops, body) h in
    subst (λ (p : List Loop × Stmt). IsReduced rs p.0 p.1) same (record { plain = tt; body_is = k })
nest_reduces rs (suc n) s loops body h k =
    let first = first_loop n s loops body h in
    let one = loop_reduces rs s first.loop first.inside first.is k in
    let rest = nest_reduces rs n first.inside first.loops body first.rest one.1 in
    subst (λ (ls : List Loop). IsReduced rs ls body) first.all_are (record { plain = (one.0, rest.plain); body_is = rest.body_is })

pub nest_variables : (n : ℕ) (s : Stmt) (loops : List Loop) (body : Stmt) → nest_of n s ≡ Some (loops, body) → (y : Variable) → visible_behind s y ≡ true → is_among (variables_of loops) y ≡ false
nest_variables zero s loops body h y seen = ap (λ (p : List Loop × Stmt). is_among (variables_of p.0) y) (sym (same_Some ([], s) (loops, body) h))
nest_variables (suc n) s loops body h y seen =
    let first = first_loop n s loops body h in
    let own = loop_own s first.loop first.inside first.is y in
    let parts = neither (first.loop.variable == y) (is_among (declared_in first.inside) y) (ap not (sym own) ∙ seen) in
    sym (ap (λ (ls : List Loop). is_among (variables_of ls) y) first.all_are) ∙ ap (λ b. b || is_among (variables_of first.loops) y) parts.0 ∙ nest_variables n first.inside first.loops body first.rest y parts.1
  where
    neither : (a b : Bool) → not (a || b) ≡ true → (a ≡ false) × (not b ≡ true)
    neither true b k = absurd (true≢false (sym k))
    neither false b k = (refl, k)

-- an iteration has a value for each loop
abbrev HasValues : List Loop → Vector → Type 0
HasValues ls u = length u ≡ length ls

values_longer : (l : Loop) (ls : List Loop) (v : ℕ) (ws : List Vector) → Each (HasValues ls) ws → Each (HasValues (l ∷ ls)) (map (λ us. v ∷ us) ws)
values_longer l ls v [] h = tt
values_longer l ls v (w ∷ ws) h = (let e = h.0 in omega (arith, e), values_longer l ls v ws h.1)

pub all_values : (ls : List Loop) (s : State) (us : List Vector) → iterations ls s ≡ Some us → Each (HasValues ls) us
all_values [] s us e = subst (Each (HasValues [])) (same_Some ([] ∷ []) us e) (refl, tt)
all_values (l ∷ ls) s us e = at (loop_values l s) e (λ t zs k. all_values ls t zs k)
  where
    one : (v : ℕ) (o : Option (List Vector)) (zs : List Vector) → ((xs : List Vector) → o ≡ Some xs → Each (HasValues ls) xs) → map_option (map (λ us. v ∷ us)) o ≡ Some zs → Each (HasValues (l ∷ ls)) zs
    one v None zs m k = absurd (none-some zs k)
    one v (Some xs) zs m k = subst (Each (HasValues (l ∷ ls))) (same_Some (map (λ us. v ∷ us) xs) zs k) (values_longer l ls v xs (m xs refl))

    many : (vs : List ℕ) (ws : List Vector) → concat_options (map (λ v. map_option (map (λ us. v ∷ us)) (iterations ls (at_value s l.variable v))) vs) ≡ Some ws
        → ((t : State) (zs : List Vector) → iterations ls t ≡ Some zs → Each (HasValues ls) zs) → Each (HasValues (l ∷ ls)) ws
    many [] ws k h = subst (Each (HasValues (l ∷ ls))) (same_Some [] ws k) tt
    many (v ∷ vs) ws k h =
        let parts = both_there (λ a b. a ++ b) (map_option (map (λ us. v ∷ us)) (iterations ls (at_value s l.variable v))) (concat_options (map (λ v. map_option (map (λ us. v ∷ us)) (iterations ls (at_value s l.variable v))) vs)) ws k in
        subst (Each (HasValues (l ∷ ls))) parts.is
        (each_join (HasValues (l ∷ ls)) parts.left parts.right (one v (iterations ls (at_value s l.variable v)) parts.left (λ zs m. h (at_value s l.variable v) zs m) parts.first) (many vs parts.right parts.second h))

    at : (o : Option (List ℕ)) → option_and_then (λ vs. concat_options (map (λ v. map_option (map (λ us. v ∷ us)) (iterations ls (at_value s l.variable v))) vs)) o ≡ Some us
        → ((t : State) (zs : List Vector) → iterations ls t ≡ Some zs → Each (HasValues ls) zs) → Each (HasValues (l ∷ ls)) us
    at None k h = absurd (none-some us k)
    at (Some vs) k h = many vs us k h

-- ---- walks side by side

module _ (rs : List (Variable × ReduceOp)) (all : Bool) (full : all ≡ true → (x : Variable) (op : ReduceOp) → operator_of rs x ≡ Some op → TakesAll op) (loops : List Loop) (body : Stmt) (is : IsReduced rs loops body) where
  entered_beside : (ls : List Loop) (u : Vector) (s t : State) → Each (λ (l : Loop). is_plain rs l.variable ≡ true) ls → Beside rs s t → At rs s t (overwritten s (entered ls u)) (overwritten t (entered ls u)) (entered ls u) (entered ls u)
  entered_beside [] u s t plain b = at_nothing rs s t b
  entered_beside (l ∷ ls) [] s t plain b = at_nothing rs s t b
  entered_beside (l ∷ ls) (v ∷ vs) s t plain b =
      let one : At rs s t (with_local s l.variable (Holds v)) (with_local t l.variable (Holds v)) (Declared l.variable (Some v) ∷ []) (Declared l.variable (Some v) ∷ []) = (declared_plain rs all s t b l.variable (Some v) plain.0).at in
      let s1 : State = with_local s l.variable (Holds v) in
      let t1 : State = with_local t l.variable (Holds v) in
      at_then rs s t s1 t1 (overwritten s1 (entered ls vs)) (overwritten t1 (entered ls vs)) (Declared l.variable (Some v) ∷ []) (Declared l.variable (Some v) ∷ []) (entered ls vs) (entered ls vs)
      one (entered_beside ls vs s1 t1 plain.1 one.after)

  pub walk_shadow : (us : List Vector) (s t : State) → Beside rs s t → Shadows rs all s t (walk loops (operands rs body) us t) (walk loops body us s)
  walk_shadow [] s t b = shadows_nothing rs all s t b
  walk_shadow (u ∷ us) s t b =
      shadows_steps rs all s t (Some (enters loops u)) (Some (enters loops u)) (λ q. then_from q (run (operands rs body) q) (walk loops (operands rs body) us)) (λ q. then_from q (run body q) (walk loops body us))
      (record { text = refl; at = entered_beside loops u s t is.plain b })
      (λ p q c. shadows_steps rs all p q (run (operands rs body) q) (run body p) (walk loops (operands rs body) us) (walk loops body us) (stmt_shadow rs all full body is.body_is p q c) (λ p' q' d. walk_shadow us p' q' d))

-- ---- iterations of which no two conflict

pub each_at : {A : Type 0} (P : A → Type 0) (xs : List A) → Each P xs → (x : A) → Contains xs x → P x
each_at P xs h x k = subst P k.2 (All-from_recursion P xs h k.0 x k.1)

each_index : {A : Type 0} (P : A → Type 0) (xs : List A) → ((i : ℕ) (d : A) → i < length xs → P (slice_index_or xs i d)) → Each P xs
each_index P [] h = tt
each_index P (x ∷ xs) h = (h 0 x (omega arith), each_index P xs (λ i d lt. h (suc i) d (omega (arith, lt))))

contains_first : {A : Type 0} (x : A) (xs : List A) → Contains (x ∷ xs) x
contains_first x xs = (0, omega arith, refl)

contains_later : {A : Type 0} (x y : A) (xs : List A) → Contains xs y → Contains (x ∷ xs) y
contains_later x y xs h = (suc h.0, (let lt = h.1 in omega (arith, lt)), h.2)

pub each_contains : {A : Type 0} (P : A → Type 0) (xs : List A) → ((x : A) → Contains xs x → P x) → Each P xs
each_contains P [] h = tt
each_contains P (x ∷ xs) h = (h x (contains_first x xs), each_contains P xs (λ y k. h y (contains_later x y xs k)))

module _ (rs : List (Variable × ReduceOp)) (vars : List Variable) (body : Stmt) (named : names_only (visible_behind (operands rs body)) (operands rs body) ≡ true) (known : KnownInside vars (operands rs body)) (loops : List Loop) (o : State)
    (keeps : KeepsToItself (own_body vars (operands rs body))) where
  abbrev shadow : Stmt
  shadow = operands rs body

  access_there : (a : Access) → Contains (accesses [] (own_body vars shadow)) a → Contains (accesses [] body) a
  access_there a h = each_at (Contains (accesses [] body)) (accesses [] shadow) (accesses_operands rs [] body) a (subst (λ (found : List Access). Contains found a) (own_accesses vars shadow) h)

  touch_back : (u : Vector) (mode : Mode) (y : Variable) (j : ℕ) (js : List ℕ) → TouchesAt vars shadow named known loops o keeps u mode y j js → Touches loops body o u (record { array = y; indexes = j ∷ js }) mode
  touch_back u mode y j js t = record { access = t.access; there = access_there t.access t.there; reaches = t.reaches; mode_is = t.mode_is }

  pub turning_back : (u : Vector) → InnerLoopsTurn loops body o u → InnerLoopsTurn loops (own_body vars shadow) o u
  turning_back = less_turning loops (own_body vars shadow) body o access_there

  pub conflict_back : (u v : Vector) → Conflict loops (own_body vars shadow) o u v → Conflict loops body o u v
  conflict_back = more_conflict loops (own_body vars shadow) body o access_there

  pub good_of : (u : Vector) → length u ≡ length loops → InnerLoopsTurn loops body o u → Good vars shadow named known loops o keeps u
  good_of u long turn = (long, λ access there. turn access (access_there access there))

  clear_of : (u v : Vector) → u ≢ v → (Conflict loops body o u v → ⊥) → Clear vars shadow named known loops o keeps u v
  clear_of u v apart independent y j js mode s t =
      independent
      (record {
        differ = apart;
        element = record { array = y; indexes = j ∷ js };
        first = Writes;
        second = mode;
        one_writes = inl refl;
        by_first = touch_back u Writes y j js s;
        by_second = touch_back v mode y j js t;
      })

  pub all_clear : (us : List Vector) → AllPairs (λ u v. u ≢ v) us → ((u v : Vector) → Contains us u → Contains us v → Conflict loops body o u v → ⊥) → AllClear vars shadow named known loops o keeps us
  all_clear [] different independent = tt
  all_clear (u ∷ us) different independent = (
    clears us (each_index (λ v. u ≢ v) us (λ i d lt. different 0 (suc i) d (omega arith) (omega (arith, lt)))) (λ v h. independent u v (contains_first u us) (contains_later u v us h)),
    all_clear us (λ i j d lt below. different (suc i) (suc j) d (omega (arith, lt)) (omega (arith, below))) (λ v w h k. independent v w (contains_later u v us h) (contains_later u w us k)),
  )
    where
      clears : (vs : List Vector) → Each (λ v. u ≢ v) vs → ((v : Vector) → Contains vs v → Conflict loops body o u v → ⊥) → Each (Clear vars shadow named known loops o keeps u) vs
      clears [] apart none = tt
      clears (v ∷ vs) apart none = (clear_of u v apart.0 (none v (contains_first v vs)), clears vs apart.1 (λ w h. none w (contains_later v w vs h)))

  -- ---- what all of them assign, chunk by chunk

  recorded-append : (us vs : List Vector) → all_recorded vars shadow named known loops o keeps (us ++ vs) ≡ all_recorded vars shadow named known loops o keeps us ++ all_recorded vars shadow named known loops o keeps vs
  recorded-append [] vs = refl
  recorded-append (u ∷ us) vs =
      ap (λ ws. recorded vars shadow named known loops o keeps u ++ ws) (recorded-append us vs)
      ∙ sym (append_assoc (recorded vars shadow named known loops o keeps u) (all_recorded vars shadow named known loops o keeps us) (all_recorded vars shadow named known loops o keeps vs))

  abbrev pub partial_in : ReduceOp → Variable → List Vector → Option ℕ
  partial_in op x us = partial_of op x None (all_recorded vars shadow named known loops o keeps us)

  pub folded_chunks : (op : ReduceOp) (x : Variable) (chunks : List (List Vector)) (v : ℕ)
      → folded op x (all_recorded vars shadow named known loops o keeps (flat_map (λ us. us) chunks)) v ≡ combined_all op v (map (partial_in op x) chunks)
  folded_chunks op x [] v = refl
  folded_chunks op x (us ∷ chunks) v =
      let rest = flat_map (λ (us : List Vector). us) chunks in
      let mine = all_recorded vars shadow named known loops o keeps us in
      let others = all_recorded vars shadow named known loops o keeps rest in
      ap (λ ws. folded op x ws v) (recorded-append us rest) ∙ folded-append op x mine others v ∙ ap (folded op x others) (folded_partial op x mine v) ∙ folded_chunks op x chunks (combined op v (partial_in op x us))

-- ---- a chunk's partial

pub counts_of : (rs : List (Variable × ReduceOp)) (op : ReduceOp) (v : ℕ) (fits : v < 2 ^ 64) (x : Variable) (s t s' t' : State) (ws vs : List Write) → At rs s t s' t' ws vs → operator_of rs x ≡ Some op
    → look s x [] ≡ Some (identity op) → Counts op v fits (cond (hit x ws) (look s' x []) None) (partial_of op x None vs)
counts_of rs op v fits x s t s' t' ws vs at is began = by_hit (hit x ws) refl (hit x vs) refl
  where
    left : look s' x [] ≡ Some (combined op (identity op) (partial_of op x None vs))
    left = at.values x op (identity op) is began ∙ ap Some (folded_partial op x vs (identity op))

    marks : Marks op (hit x ws) (hit x vs)
    marks = at.marks x op is

    by_hit : (a : Bool) → hit x ws ≡ a → (b : Bool) → hit x vs ≡ b → Counts op v fits (cond (hit x ws) (look s' x []) None) (partial_of op x None vs)
    by_hit true e true f =
        let there = partial_there op x vs f in
        subst (λ p. Counts op v fits (cond (hit x ws) (look s' x []) None) p) (sym there.1)
        (subst (λ q. Counts op v fits q (Some there.0)) (sym (ap (λ b. cond b (look s' x []) None) e ∙ left ∙ ap (λ p. Some (combined op (identity op) p)) there.1)) (updated_counts op v fits there.0))
    by_hit true e false f = absurd (true≢false (sym (marks.more e) ∙ f))
    by_hit false e false f =
        subst (λ p. Counts op v fits (cond (hit x ws) (look s' x []) None) p) (sym (partial_none op x vs None f))
        (subst (λ q. Counts op v fits q None) (sym (ap (λ b. cond b (look s' x []) None) e)) (λ w g. refl))
    by_hit false e true f =
        let there = partial_there op x vs f in
        let same : apply op (identity op) there.0 ≡ identity op = same_Some (apply op (identity op) there.0) (identity op) (sym (left ∙ ap (λ p. Some (combined op (identity op) p)) there.1) ∙ at.still x op is e ∙ began) in
        subst (λ p. Counts op v fits (cond (hit x ws) (look s' x []) None) p) (sym there.1)
        (subst (λ q. Counts op v fits q (Some there.0)) (sym (ap (λ b. cond b (look s' x []) None) e)) (kept_counts op v fits there.0 (marks.less f e) same))
