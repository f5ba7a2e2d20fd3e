-- Chunks with roles, where all variables with a role are locals.
use Rattle.std.specs.Prelude.{ℕ, zero, suc, Bool, true, false, not, ◌≡◌, ◌≢◌, ◌==◌, ◌&&◌, ◌||◌, ◌⊎◌, ◌<◌, ◌^◌, List, [], ◌∷◌, ◌++◌, length, map, flat_map, Option, Some, None, Contains, IsSome, slice_get, is_none}
use Rattle.std.specs.List.{AllPairs, list_all, AllByRecursion as Each}
use Rattle.std.proofs.Common.{refl, sym, ap, ◌∙◌, subst, cond, inl, inr}
use Rattle.std.proofs.lemmas.Bool.{true≢false, eqb-true, and_from, and_cases, or_cases, or_left, or_right}
use Rattle.std.proofs.lemmas.List.{length-map}
use Rattle.std.proofs.lemmas.List.Folds.{list_any-append}
use Rattle.std.proofs.lemmas.Option.{same_Some, none-some}
use Rattle.semantics.specs.Tree.{Variable, Stmt}
use Rattle.semantics.specs.Meaning.State.{State, Slot, Outside, Empty, Holds, Write, Declared, Assigned, renewed, same_indexes, assign_at, written, overwritten, look, look_in}
use Rattle.semantics.specs.Meaning.Runs.{Effect, nothing, run}
use Rattle.semantics.specs.Meaning.Definite.{DefinitelyAssigned, definite, no_privates}
use Rattle.semantics.specs.Meaning.Agrees.{is_among, names_only, visible_behind}
use Rattle.semantics.specs.Loops.Arrangement.{EachOnceBelow, picked}
use Rattle.semantics.specs.Loops.Nest.{Loop, Vector, nest_of, iterations}
use Rattle.semantics.specs.Loops.Access.{Conflict}
use Rattle.semantics.specs.Loops.Operator.{ReduceOp, combined_all}
use Rattle.semantics.specs.Loops.Piece.{is_outside}
use Rattle.law_commute.specs.Steady.{IsSteady}
use Rattle.law_commute.specs.Targets.{KeepsApart}
use Rattle.law_commute.specs.Commuting.{KeepsToItself, InnerLoopsTurn}
use Rattle.law_commute.specs.Joining.{DeclaresLocals}
use Rattle.law_commute.proofs.Lists.{each_left, each_right, first_there, others_there}
use Rattle.law_commute.proofs.Values.{first_of, second_of}
use Rattle.law_nests.specs.Walks.{walk}
use Rattle.law_nests.specs.Merging.{Cells, left_by, NoneChanges, OneChanges, Merges, WalkApart}
use Rattle.law_nests.proofs.Joined.{nest_declares, visible_more}
use Rattle.law_nests.proofs.Merged.{chunks_merge}
use Rattle.law_nests.proofs.Steadied.{no_targets}
use Rattle.law_private.proofs.Own.{own_body, fixed_but, others, DeclaresNone, innermost, HasReplaced, replaced, replaced_nest, fixed_is, replaced_keeps, KnownInside, known_inside}
use Rattle.law_private.proofs.Chunks.{not_true}
use Rattle.law_private.proofs.Near.{beside_first, beside_second, Found, Near, near_walk, near_nest, all_inside}
use Rattle.law_roles.specs.Updates.{operator_of, is_plain, operands}
use Rattle.law_roles.specs.Reducing.{partial_of}
use Rattle.law_roles.specs.Following.{IsWalked}
use Rattle.law_roles.specs.Sharing.{TakesOperands, role_variables, HoldsNumber, KeepsRoles, MergesAt, last_filled, SharesFrom}
use Rattle.law_roles.proofs.Seen.{look_of}
use Rattle.law_roles.proofs.Shadow.{TakesAll, Beside, At, Follows, Shadows, stmt_shadow, folded}
use Rattle.law_roles.proofs.Shifting.{go}
use Rattle.law_roles.proofs.Followed.{walked}
use Rattle.law_roles.proofs.Recorded.{assignments, own_visible, AllClear, Good, Untouched, Ready, all_recorded, walk_recorded}
use Rattle.law_roles.proofs.Partials.{partial_assigned, folded_assigned, in_any_order, Counts, AllCount, all_count}
use Rattle.law_roles.proofs.Operands.{nest_operands, declared_operands, names_operands, steady_operands, Less, More, definite_operands}
use Rattle.law_roles.proofs.Starts.{roles_with, plain_of, reduced_of, among_of, StartsIn, starts_near}
use Rattle.law_roles.proofs.Lasts.{none_filled, KnownBehind, AllEnd, last_counts, clear_first, clear_second}
use Rattle.law_roles.proofs.Chunked.{IsReduced, nest_reduces, nest_variables, all_values, walk_shadow, each_at, each_contains, turning_back, conflict_back, good_of, all_clear, partial_in, folded_chunks}

-- ---- small facts

-- an object that is not there does not come to be
pub none_stays : (x : Variable) (is : List ℕ) (ws : List Write) (s : State) → s.cells x is ≡ None → (overwritten s ws).cells x is ≡ None
none_stays x is [] s h = h
none_stays x is (Declared y v ∷ ws) s h = none_stays x is ws (written s (Declared y v)) h
none_stays x is (Assigned y js n ∷ ws) s h = none_stays x is ws (written s (Assigned y js n)) (at (s.locals y))
  where
    at : (l : Slot) → (assign_at l s y js n).cells x is ≡ None
    at Outside = ap (λ c. cond ((x == y) && same_indexes is js) (renewed c n) c) h ∙ either ((x == y) && same_indexes is js)
      where
        either : (b : Bool) → cond b (renewed None n) None ≡ None
        either true = refl
        either false = refl
    at Empty = h
    at (Holds m) = h

-- a local is seen by what it holds alone
pub look_inside : (x : Variable) (s t : State) → s.locals x ≡ t.locals x → is_outside (s.locals x) ≡ false → look s x [] ≡ look t x []
look_inside x s t same up = at (s.locals x) up ∙ ap (λ l. look_in l t x []) same
  where
    at : (l : Slot) → is_outside l ≡ false → look_in l s x [] ≡ look_in l t x []
    at Outside h = absurd (true≢false h)
    at Empty h = refl
    at (Holds n) h = refl

all_at : (p : Variable → Bool) (xs : List Variable) (x : Variable) → list_all p xs ≡ true → is_among xs x ≡ true → p x ≡ true
all_at p [] x h k = absurd (true≢false (sym k))
all_at p (y ∷ xs) x h k = at (or_cases (y == x) (is_among xs x) k) (λ j. all_at p xs x (second_of (p y) (list_all p xs) h) j)
  where
    at : ((y == x) ≡ true) ⊎ (is_among xs x ≡ true) → (is_among xs x ≡ true → p x ≡ true) → p x ≡ true
    at (inl e) rest = ap p (sym (eqb-true y x e)) ∙ first_of (p y) (list_all p xs) h
    at (inr j) rest = rest j

-- the effect of a statement whose operands have one
shadow_from : (rs : List (Variable × ReduceOp)) (s t : State) (p o : Option Effect) (f : Effect) → Shadows rs false s t p o → p ≡ Some f → (e : Effect) × (o ≡ Some e) × Follows rs s t f e
shadow_from rs s t p o f h is = at o (subst (λ q. Shadows rs false s t q o) is h)
  where
    at : (o : Option Effect) → Shadows rs false s t (Some f) o → (e : Effect) × (o ≡ Some e) × Follows rs s t f e
    at None k = absurd k
    at (Some e) k = (e, refl, k)

shadow_meets : (rs : List (Variable × ReduceOp)) (s t : State) (p o : Option Effect) (f e : Effect) → Shadows rs false s t p o → p ≡ Some f → o ≡ Some e → Follows rs s t f e
shadow_meets rs s t p o f e h is ran = subst (λ q. Shadows rs false s t (Some f) q) ran (subst (λ q. Shadows rs false s t q o) is h)

some_there : {A : Type 0} (o : Option A) → IsSome o → (a : A) × (o ≡ Some a)
some_there None h = absurd (true≢false (sym h))
some_there (Some a) h = (a, refl)

-- ---- the ground

-- what is known before the nest
pub record Ground (ps ls : List Variable) (rs : List (Variable × ReduceOp)) (n : ℕ) (s : Stmt) (loops : List Loop) (body : Stmt) (outer o : State) (us : List Vector) (chunks : List (List Vector)) (e : Effect) : Type 0 where
  pub nest : nest_of n s ≡ Some (loops, body)
  pub keeps : KeepsRoles (roles_with ps ls rs) s body outer
  pub stands : (x : Variable) → is_among (role_variables (roles_with ps ls rs)) x ≡ true → is_outside (o.locals x) ≡ false
  pub gone : (x : Variable) (is : List ℕ) → is_among (role_variables (roles_with ps ls rs)) x ≡ true → o.cells x is ≡ None
  pub numbers : (x : Variable) (op : ReduceOp) → operator_of rs x ≡ Some op → HoldsNumber o x
  pub locals_alone : DeclaresLocals s o
  pub are : iterations loops o ≡ Some us
  pub different : AllPairs (λ u v. u ≢ v) us
  pub turning : (u : Vector) → Contains us u → InnerLoopsTurn loops body o u
  pub independent : (u v : Vector) → Contains us u → Contains us v → Conflict loops body o u v → ⊥
  pub whole : flat_map (λ vs. vs) chunks ≡ us
  pub ran : run s o ≡ Some e
  pub taken : TakesOperands rs s o

-- a partial that counts like that of the operands
abbrev pub CountsAs : List (Variable × ReduceOp) → State → State → (Effect → Variable → Option ℕ) → Type 0
CountsAs rs o start partial =
    (x : Variable) (op : ReduceOp) (v : ℕ) (fits : v < 2 ^ 64) (f shadow : Effect) → operator_of rs x ≡ Some op → look o x [] ≡ Some v
    → At rs start start (overwritten start f.writes) (overwritten start shadow.writes) f.writes shadow.writes → Counts op v fits (partial f x) (partial_of op x None shadow.writes)

module _ (ps ls : List Variable) (rs : List (Variable × ReduceOp)) (n : ℕ) (s : Stmt) (loops : List Loop) (body : Stmt) (outer o : State) (us : List Vector) (chunks : List (List Vector)) (e : Effect) (g : Ground ps ls rs n s loops body outer o us chunks e)
    (start : State) (from : StartsIn ps ls rs o start) (partial : Effect → Variable → Option ℕ) (counts : CountsAs rs o start partial) where
  abbrev vars : List Variable
  vars = role_variables (roles_with ps ls rs)

  abbrev s' : Stmt
  s' = operands rs s

  abbrev body' : Stmt
  body' = operands rs body

  abbrev own : Stmt
  own = own_body vars body'

  nest' : nest_of n s' ≡ Some (loops, body')
  nest' = nest_operands rs n s loops body g.nest

  reduced_is : IsReduced rs loops body
  reduced_is = nest_reduces rs n s loops body g.nest g.keeps.updates

  behind_of : (a : Stmt) → visible_behind a ≡ visible_behind (operands rs a)
  behind_of a = let up : visible_behind (operands rs a) ≡ visible_behind a = λ i x. not (is_among (declared_operands rs a i) x) in sym up

  keeps_of : (a : Stmt) → KeepsApart vars a → KeepsApart vars (operands rs a)
  keeps_of a k = record {
    names = subst (λ (V : Variable → Bool). names_only V (operands rs a) ≡ true) (behind_of a) (names_operands rs a (visible_behind a) k.names);
    steady = subst (λ (V : Variable → Bool). IsSteady (λ x. V x && not (is_among vars x)) (operands rs a)) (behind_of a) (steady_operands rs a (λ x. visible_behind a x && not (is_among vars x)) k.steady);
  }

  whole' : KeepsApart vars s'
  whole' = keeps_of s g.keeps.whole

  inside' : KeepsApart vars body'
  inside' = keeps_of body g.keeps.inside

  none' : DeclaresNone vars s'
  none' x h = sym (ap (λ (V : Variable → Bool). V x) (behind_of s)) ∙ g.keeps.declares_none x h

  body_none : DeclaresNone vars body'
  body_none x h = visible_more s' body' (nest_declares n s' loops body' nest') x (none' x h)

  has : HasReplaced body' own n s' loops
  has = replaced body' own n s' loops nest'

  -- ---- what is known

  among_split : (x : Variable) → is_among vars x ≡ (is_among (ps ++ ls) x || is_among (map (λ r. r.0) rs) x)
  among_split x = list_any-append (λ y. y == x) (ps ++ ls) (map (λ r. r.0) rs)

  less_first : Less rs (λ x. not (is_among (ps ++ ls) x)) (others vars)
  less_first y h plain = ap not (among_split y ∙ (λ i. not_true (is_among (ps ++ ls) y) h i || at (is_among (map (λ r. r.0) rs) y) refl i))
    where
      at : (b : Bool) → is_among (map (λ r. r.0) rs) y ≡ b → is_among (map (λ r. r.0) rs) y ≡ false
      at true k = let r = reduced_of rs y k in absurd (true≢false (sym plain ∙ ap is_none r.1))
      at false k = k

  known' : KnownInside vars body'
  known' = known_inside vars body' n s' has.nest loops has.is none' (others vars) (λ x h. h) (there (definite no_privates s (λ x. not (is_among (ps ++ ls) x))) (definite no_privates s' (others vars)) (definite_operands rs no_privates s g.keeps.updates (λ x. not (is_among (ps ++ ls) x)) (others vars) less_first) g.keeps.first)
    where
      there : (a b : Option DefinitelyAssigned) → More rs a b → IsSome a → IsSome b
      there None b m h = absurd (true≢false (sym h))
      there (Some k) None m h = absurd m
      there (Some k) (Some j) m h = refl

  keeps_own : KeepsToItself own
  keeps_own = replaced_keeps vars body' zero body' own [] innermost body_none inside'

  keeps_whole : KeepsToItself has.nest
  keeps_whole = replaced_keeps vars body' n s' has.nest loops has.is none' whole'

  never : false ≡ true → (x : Variable) (op : ReduceOp) → operator_of rs x ≡ Some op → TakesAll op
  never h = absurd (true≢false (sym h))

  mine : (x : Variable) (op : ReduceOp) → operator_of rs x ≡ Some op → is_among vars x ≡ true
  mine x op is = among_split x ∙ or_right (is_among (ps ++ ls) x) (is_among (map (λ r. r.0) rs) x) (among_of rs x op is)

  plain_other : (x : Variable) → is_among vars x ≡ false → is_plain rs x ≡ true
  plain_other x h = plain_of rs x (at (is_among (map (λ r. r.0) rs) x) refl)
    where
      at : (b : Bool) → is_among (map (λ r. r.0) rs) x ≡ b → is_among (map (λ r. r.0) rs) x ≡ false
      at true k = absurd (true≢false (sym (among_split x ∙ or_right (is_among (ps ++ ls) x) (is_among (map (λ r. r.0) rs) x) k) ∙ h))
      at false k = k

  plain_last : (x : Variable) → is_among ls x ≡ true → (is_plain rs x ≡ true) × (is_among vars x ≡ true)
  plain_last x h =
      let first : is_among (ps ++ ls) x ≡ true = list_any-append (λ y. y == x) ps ls ∙ or_right (is_among ps x) (is_among ls x) h in (
        all_at (is_plain rs) (ps ++ ls) x g.keeps.apart first,
        among_split x ∙ or_left (is_among (ps ++ ls) x) (is_among (map (λ r. r.0) rs) x) first,
      )

  -- ---- the nest

  beside_o : Beside rs o o
  beside_o = record {
    agrees = record { locals = λ x h. refl; cells = λ x is h. refl };
    held = λ x op is. let v = g.numbers x op is in subst (λ q. IsSome q) (sym v.1) refl;
    own = λ x op is. g.stands x (mine x op is);
  }

  near_o : Near vars o o
  near_o = record { agrees = record { cells = λ x is. refl; kinds = λ x k. refl; values = λ x k. refl }; inside = g.stands }

  operands_there : TakesOperands rs s o → (f : Effect) × (run s' o ≡ Some f)
  operands_there (inl taken) = some_there (run s' o) (go rs s o o e g.keeps.updates taken beside_o.agrees beside_o.held beside_o.own g.ran)
  operands_there (inr there) = some_there (run s' o) there

  told : (f : Effect) × (run s' o ≡ Some f) × Follows rs o o f e
  told =
      let f = operands_there g.taken in
      (f.0, f.1, shadow_meets rs o o (run s' o) (run s o) f.0 e (stmt_shadow rs false never s g.keeps.updates o o beside_o) f.1 g.ran)

  found : Found (Near vars) o o told.0 (run has.nest o)
  found =
      beside_first (Near vars) o o (run s' o) (run has.nest o) told.0
      (near_nest vars body' (visible_behind body') inside'.names known' n s' has.nest loops has.is (fixed_but vars s') whole'.steady (λ x h. second_of (visible_behind s' x) (not (is_among vars x)) h) none' o o near_o) told.1

  no_cell : (x : Variable) → visible_behind has.nest x ≡ false → o.cells x [] ≡ None
  no_cell x h = at (and_cases (visible_behind s' x) (not (is_among vars x)) (ap (λ (V : Variable → Bool). V x) (fixed_is vars body' n s' has.nest loops has.is) ∙ h))
    where
      private : (b : Bool) → is_among vars x ≡ b → not b ≡ false → o.cells x [] ≡ None
      private true k j = g.gone x [] k
      private false k j = absurd (true≢false j)

      at : (visible_behind s' x ≡ false) ⊎ (not (is_among vars x) ≡ false) → o.cells x [] ≡ None
      at (inl k) = g.locals_alone x (ap (λ (V : Variable → Bool). V x) (behind_of s) ∙ k)
      at (inr k) = private (is_among vars x) refl k

  merge : WalkApart has.nest loops own chunks o found.effect
  merge =
      chunks_merge n has.nest loops own o us chunks found.effect (replaced_nest body' own n s' has.nest loops has.is) keeps_whole keeps_own no_cell g.are g.different
      (λ u h. turning_back rs vars body inside'.names known' loops o keeps_own u (g.turning u h)) (λ u v h k c. g.independent u v h k (conflict_back rs vars body inside'.names known' loops o keeps_own u v c)) g.whole found.is

  -- ---- chunks

  near_start : Near vars start o
  near_start = starts_near ps ls rs o start from g.stands

  beside_start : Beside rs start start
  beside_start = record {
    agrees = record { locals = λ x h. refl; cells = λ x is h. refl };
    held = from.held;
    own = λ x op is. from.inside x (mine x op is);
  }

  -- a chunk's walk, that of its operands, and that of its own iterations
  record Chunk (vs : List Vector) (f w : Effect) : Type 0 where
    shadow : Effect
    shadow_is : walk loops body' vs start ≡ Some shadow
    follows : Follows rs start start shadow f
    near : Near vars (overwritten start shadow.writes) (overwritten o w.writes)

  abbrev AllChunks : List (List Vector) → List Effect → List Effect → Type 0
  AllChunks [] [] [] = Unit {0}
  AllChunks (vs ∷ cs) (f ∷ fs) (w ∷ ws) = Chunk vs f w × AllChunks cs fs ws
  AllChunks _ _ _ = ⊥

  record Walks (cs : List (List Vector)) (ws : List Effect) : Type 0 where
    effects : List Effect
    each : map (λ vs. walk loops body vs start) cs ≡ map Some effects
    facts : AllChunks cs effects ws
    text : flat_map (λ (f : Effect). f.text) effects ≡ flat_map (λ (w : Effect). w.text) ws

  walks_of : (cs : List (List Vector)) (ws : List Effect) → map (λ vs. walk loops own vs o) cs ≡ map Some ws → Walks cs ws
  walks_of [] [] k = record { effects = []; each = refl; facts = tt; text = refl }
  walks_of [] (w ∷ ws) k = absurd cc
  walks_of (vs ∷ cs) [] k = absurd cc
  walks_of (vs ∷ cs) (w ∷ ws) k =
      let one = beside_second (Near vars) start o (walk loops body' vs start) (walk loops own vs o) w (near_walk vars body' (visible_behind body') inside'.names known' loops vs start o near_start) (first_there (λ (us : List Vector). walk loops own us o) vs cs w ws k) in
      let two = shadow_from rs start start (walk loops body' vs start) (walk loops body vs start) one.effect (walk_shadow rs false never loops body reduced_is vs start start beside_start) one.is in
      let rest = walks_of cs ws (others_there (λ (us : List Vector). walk loops own us o) vs cs w ws k) in
      record {
        effects = two.0 ∷ rest.effects;
        each = λ i. two.1 i ∷ rest.each i;
        facts = (record { shadow = one.effect; shadow_is = one.is; follows = two.2; near = one.after }, rest.facts);
        text = λ i. (two.2.text ∙ sym one.text) i ++ rest.text i;
      }

  all : Walks chunks merge.effects
  all = walks_of chunks merge.effects merge.each

  -- ---- cells

  chunk_cells : (vs : List Vector) (f w : Effect) → Chunk vs f w → (x : Variable) (is : List ℕ) → is_among vars x ≡ false → left_by start f x is ≡ left_by o w x is
  chunk_cells vs f w c x is h = c.follows.at.after.agrees.cells x is (plain_other x h) ∙ c.near.agrees.cells x is

  record Partner (cs : List (List Vector)) (ws : List Effect) (k : ℕ) (f : Effect) : Type 0 where
    effect : Effect
    is : slice_get ws k ≡ Some effect
    same : (x : Variable) (js : List ℕ) → is_among vars x ≡ false → left_by start f x js ≡ left_by o effect x js

  partner : (cs : List (List Vector)) (fs ws : List Effect) → AllChunks cs fs ws → (k : ℕ) (f : Effect) → slice_get fs k ≡ Some f → Partner cs ws k f
  partner [] [] [] h k f is = absurd (none-some f is)
  partner (vs ∷ cs) (d ∷ fs) (w ∷ ws) h zero f is = record { effect = w; is = refl; same = subst (λ (c : Effect). (x : Variable) (js : List ℕ) → is_among vars x ≡ false → left_by start c x js ≡ left_by o w x js) (same_Some d f is) (chunk_cells vs d w h.0) }
  partner (vs ∷ cs) (d ∷ fs) (w ∷ ws) h (suc k) f is = let r = partner cs fs ws h.1 k f is in record { effect = r.effect; is = r.is; same = r.same }
  partner _ _ _ h k f is = absurd h

  record Back (cs : List (List Vector)) (fs : List Effect) (k : ℕ) (w : Effect) : Type 0 where
    effect : Effect
    is : slice_get fs k ≡ Some effect
    same : (x : Variable) (js : List ℕ) → is_among vars x ≡ false → left_by start effect x js ≡ left_by o w x js

  back : (cs : List (List Vector)) (fs ws : List Effect) → AllChunks cs fs ws → (k : ℕ) (w : Effect) → slice_get ws k ≡ Some w → Back cs fs k w
  back [] [] [] h k w is = absurd (none-some w is)
  back (vs ∷ cs) (f ∷ fs) (d ∷ ws) h zero w is = record { effect = f; is = refl; same = subst (λ (c : Effect). (x : Variable) (js : List ℕ) → is_among vars x ≡ false → left_by start f x js ≡ left_by o c x js) (same_Some d w is) (chunk_cells vs f d h.0) }
  back (vs ∷ cs) (f ∷ fs) (d ∷ ws) h (suc k) w is = let r = back cs fs ws h.1 k w is in record { effect = r.effect; is = r.is; same = r.same }
  back _ _ _ h k w is = absurd h

  merges_back : (after : Cells) → ((x : Variable) (is : List ℕ) → is_among vars x ≡ false → MergesAt start all.effects after x is) → Merges o merge.effects (λ x is. cond (is_among vars x) (o.cells x is) (after x is))
  merges_back after merges x is = at (is_among vars x) refl
    where
      of : is_among vars x ≡ false → MergesAt start all.effects after x is → (NoneChanges o merge.effects x is × (cond (is_among vars x) (o.cells x is) (after x is) ≡ o.cells x is)) ⊎ OneChanges o merge.effects (λ x is. cond (is_among vars x) (o.cells x is) (after x is)) x is
      of h (inl none) = inl (
        λ k w j. let p = back chunks all.effects merge.effects all.facts k w j in sym (p.same x is h) ∙ none.0 k p.effect p.is ∙ from.cells x is,
        ap (λ b. cond b (o.cells x is) (after x is)) h ∙ none.1 ∙ from.cells x is,
      )
      of h (inr c) =
          let p = partner chunks all.effects merge.effects all.facts c.number c.effect c.among in
          inr (record {
            number = c.number;
            effect = p.effect;
            among = p.is;
            changes = λ k. c.changes (p.same x is h ∙ k ∙ sym (from.cells x is));
            leaves = ap (λ b. cond b (o.cells x is) (after x is)) h ∙ c.leaves ∙ p.same x is h;
          })

      at : (b : Bool) → is_among vars x ≡ b → (NoneChanges o merge.effects x is × (cond (is_among vars x) (o.cells x is) (after x is) ≡ o.cells x is)) ⊎ OneChanges o merge.effects (λ x is. cond (is_among vars x) (o.cells x is) (after x is)) x is
      at true h = inl (
        λ k w j. none_stays x is w.writes o (g.gone x is h) ∙ sym (g.gone x is h),
        ap (λ b. cond b (o.cells x is) (after x is)) h,
      )
      at false h = of h (merges x is h)

  -- ---- the sequence

  sequence : IsWalked loops body us o e
  sequence = walked n s loops body vars o us e g.nest g.keeps.whole g.are g.ran

  sequence' : IsWalked loops body' us o told.0
  sequence' = walked n s' loops body' vars o us told.0 nest' whole' g.are told.1

  shadowed : (f : Effect) × (walk loops body' us o ≡ Some f) × Follows rs o o f sequence.effect
  shadowed = (
    sequence'.effect,
    sequence'.ran,
    shadow_meets rs o o (walk loops body' us o) (walk loops body us o) sequence'.effect sequence.effect (walk_shadow rs false never loops body reduced_is us o o beside_o) sequence'.ran sequence.ran,
  )

  good : Each (Good vars body' inside'.names known' loops o keeps_own) us
  good =
      each_contains (Good vars body' inside'.names known' loops o keeps_own) us
      (λ u h. good_of rs vars body inside'.names known' loops o keeps_own u (each_at (λ (u : Vector). length u ≡ length loops) us (all_values loops o us g.are) u h) (g.turning u h))

  clear : AllClear vars body' inside'.names known' loops o keeps_own us
  clear = all_clear rs vars body inside'.names known' loops o keeps_own us g.different g.independent

  untouched : (vs : List Vector) (a : State) → ((x : Variable) (is : List ℕ) → a.cells x is ≡ o.cells x is) → Each (Untouched vars body' inside'.names known' loops o keeps_own a) vs
  untouched [] a h = tt
  untouched (v ∷ vs) a h = (λ y j js mode t. h y (j ∷ js), untouched vs a h)

  ready_o : (vs : List Vector) → Ready vars body' inside'.names known' loops o keeps_own vs o
  ready_o vs = record { locals = λ y h k. refl; scalars = λ y h. refl; elements = untouched vs o (λ x is. refl); inside = g.stands }

  ready_start : (vs : List Vector) → Ready vars body' inside'.names known' loops o keeps_own vs start
  ready_start vs = record {
    locals = λ y h k. from.other y (own_visible vars body' inside'.names known' y h);
    scalars = λ y h. from.cells y [];
    elements = untouched vs start from.cells;
    inside = from.inside;
  }

  -- a variable with a role holds what it holds behind the walk
  look_sequence : (x : Variable) → is_among vars x ≡ true → look (overwritten o e.writes) x [] ≡ look (overwritten o sequence.effect.writes) x []
  look_sequence x h =
      look_of x (overwritten o e.writes) (overwritten o sequence.effect.writes) (sequence.locals x (nest_variables n s loops body g.nest x (g.keeps.declares_none x h))) (λ js. sequence.cells x js) []

  -- ---- reductions

  flat_good : Each (Good vars body' inside'.names known' loops o keeps_own) (flat_map (λ vs. vs) chunks)
  flat_good = subst (λ (vs : List Vector). Each (Good vars body' inside'.names known' loops o keeps_own) vs) (sym g.whole) good

  flat_clear : AllClear vars body' inside'.names known' loops o keeps_own (flat_map (λ vs. vs) chunks)
  flat_clear = subst (λ (vs : List Vector). AllClear vars body' inside'.names known' loops o keeps_own vs) (sym g.whole) clear

  module _ (x : Variable) (op : ReduceOp) (v : ℕ) (is : operator_of rs x ≡ Some op) (holds : look o x [] ≡ Some v) (fits : v < 2 ^ 64) where
    all_counted : (cs : List (List Vector)) (fs ws : List Effect) → AllChunks cs fs ws → Each (Good vars body' inside'.names known' loops o keeps_own) (flat_map (λ vs. vs) cs)
        → AllClear vars body' inside'.names known' loops o keeps_own (flat_map (λ vs. vs) cs) → AllCount op v fits (map (λ f. partial f x) fs) (map (partial_in rs vars body inside'.names known' loops o keeps_own op x) cs)
    all_counted [] [] [] h good clear = tt
    all_counted (vs ∷ cs) (f ∷ fs) (w ∷ ws) h good clear =
        let c = h.0 in
        let rest = flat_map (λ (vs : List Vector). vs) cs in
        let same : partial_of op x None c.shadow.writes ≡ partial_in rs vars body inside'.names known' loops o keeps_own op x vs =
        partial_assigned op x c.shadow.writes None
        ∙ ap (partial_of op x None)
        (walk_recorded vars body' inside'.names known' loops o keeps_own vs start c.shadow (each_left (Good vars body' inside'.names known' loops o keeps_own) vs rest good)
        (clear_first vars body' inside'.names known' loops o keeps_own vs rest clear) (ready_start vs) c.shadow_is) in (
          subst (λ p. Counts op v fits (partial f x) p) same (counts x op v fits f c.shadow is holds c.follows.at),
          all_counted cs fs ws h.1 (each_right (Good vars body' inside'.names known' loops o keeps_own) vs rest good) (clear_second vars body' inside'.names known' loops o keeps_own vs rest clear),
        )
    all_counted _ _ _ h good clear = absurd h

  same_long : (cs : List (List Vector)) (fs ws : List Effect) → AllChunks cs fs ws → length fs ≡ length cs
  same_long [] [] [] h = refl
  same_long (vs ∷ cs) (f ∷ fs) (w ∷ ws) h = ap suc (same_long cs fs ws h.1)
  same_long _ _ _ h = absurd h

  reductions_are : (x : Variable) (op : ReduceOp) (v : ℕ) (order : List ℕ) → operator_of rs x ≡ Some op → look o x [] ≡ Some v → EachOnceBelow (length chunks) order
      → look (overwritten o e.writes) x [] ≡ Some (combined_all op v (picked (map (λ f. partial f x) all.effects) order))
  reductions_are x op v order is holds once =
      let number = g.numbers x op is in
      let same : number.0 ≡ v = same_Some number.0 v (sym number.1 ∙ holds) in
      let fits : v < 2 ^ 64 = subst (λ z. z < 2 ^ 64) same number.2 in
      let recorded : assignments shadowed.0.writes ≡ all_recorded vars body' inside'.names known' loops o keeps_own (flat_map (λ vs. vs) chunks) =
      walk_recorded vars body' inside'.names known' loops o keeps_own us o shadowed.0 good clear (ready_o us) shadowed.1
      ∙ ap (all_recorded vars body' inside'.names known' loops o keeps_own) (sym g.whole) in
      let count : length (map (λ f. partial f x) all.effects) ≡ length chunks = length-map all.effects (λ f. partial f x) ∙ same_long chunks all.effects merge.effects all.facts in
      look_sequence x (mine x op is) ∙ shadowed.2.at.values x op v is holds
      ∙ ap Some
      (folded_assigned op x shadowed.0.writes v ∙ ap (λ ws. folded op x ws v) recorded ∙ folded_chunks rs vars body inside'.names known' loops o keeps_own op x chunks v
      ∙ sym (all_count op v fits (map (λ f. partial f x) all.effects) (map (partial_in rs vars body inside'.names known' loops o keeps_own op x) chunks) (all_counted x op v is holds fits chunks all.effects merge.effects all.facts flat_good flat_clear))
      ∙ sym (in_any_order op (map (λ f. partial f x) all.effects) order v (subst (λ m. EachOnceBelow m order) (sym count) once)))

  -- ---- last values

  module _ (x : Variable) (last : is_among ls x ≡ true) where
    sure : KnownBehind vars body' x
    sure = at (definite no_privates body' (others vars)) refl (subst (λ q. More rs q (definite no_privates body' (others vars))) g.keeps.last.is (definite_operands rs no_privates body reduced_is.body_is (λ x. not (is_among (ps ++ ls) x)) (others vars) less_first))
      where
        at : (p : Option DefinitelyAssigned) → definite no_privates body' (others vars) ≡ p → More rs (Some g.keeps.last.known) p → KnownBehind vars body' x
        at None k m = absurd m
        at (Some j) k m = record { before = others vars; after = j; is = k; less = λ y h. h; there = m x (g.keeps.last.each x last) (plain_last x last).0 }

    all_end : (cs : List (List Vector)) (fs ws : List Effect) → AllChunks cs fs ws → AllEnd vars body' inside'.names known' loops o keeps_own x (plain_last x last).1 sure start ready_start cs fs
    all_end [] [] [] h = tt
    all_end (vs ∷ cs) (f ∷ fs) (w ∷ ws) h = let c = h.0 in ((c.shadow, c.shadow_is, c.follows.at.after.agrees.locals x (plain_last x last).0), all_end cs fs ws h.1)
    all_end _ _ _ h = absurd h

    lasts_are : (f : Effect) → last_filled chunks all.effects ≡ Some f → look (overwritten o e.writes) x [] ≡ look (overwritten start f.writes) x []
    lasts_are f filled =
        let parts = plain_last x last in
        let slots : (overwritten o sequence.effect.writes).locals x ≡ (overwritten start f.writes).locals x =
        shadowed.2.at.after.agrees.locals x parts.0
        ∙ last_counts vars body' inside'.names known' loops o keeps_own x parts.1 sure start ready_start chunks all.effects o shadowed.0 f (all_end chunks all.effects merge.effects all.facts) flat_good flat_clear
        (ready_o (flat_map (λ vs. vs) chunks)) (ap (λ vs. walk loops body' vs o) g.whole ∙ shadowed.1) filled in
        look_sequence x parts.1 ∙ look_inside x (overwritten o sequence.effect.writes) (overwritten start f.writes) slots (all_inside sequence.effect.writes o x (g.stands x parts.1))

    no_last_is : flat_map (λ vs. vs) chunks ≡ [] → look (overwritten o e.writes) x [] ≡ look o x []
    no_last_is none =
        let still : nothing ≡ sequence.effect = same_Some nothing sequence.effect (sym (ap (λ vs. walk loops body vs o) (sym g.whole ∙ none)) ∙ sequence.ran) in
        look_sequence x (plain_last x last).1 ∙ sym (ap (λ (f : Effect). look (overwritten o f.writes) x []) still)

  -- ---- all of it

  pub shares : SharesFrom start partial (roles_with ps ls rs) s loops body chunks o e
  shares = record {
    effects = all.effects;
    each = all.each;
    merge = λ after merges x is h.
        sym (ap (λ b. cond b (o.cells x is) (after x is)) h) ∙ merge.merge (λ x is. cond (is_among vars x) (o.cells x is) (after x is)) (merges_back after merges) x is
        ∙ sym (found.after.agrees.cells x is) ∙ sym (told.2.at.after.agrees.cells x is (plain_other x h));
    reductions = reductions_are;
    lasts = λ x f h filled. lasts_are x h f filled;
    filled = λ some. at (last_filled chunks all.effects) refl some;
    no_last = λ x h none. no_last_is x h none;
    locals = λ x seen other.
        told.2.at.after.agrees.locals x (plain_other x other) ∙ found.after.agrees.values x (ap not other)
        ∙ merge.locals x
        (sym (ap (λ (V : Variable → Bool). V x) (fixed_is vars body' n s' has.nest loops has.is))
        ∙ and_from (visible_behind s' x) (not (is_among vars x)) (sym (ap (λ (V : Variable → Bool). V x) (behind_of s)) ∙ seen) (ap not other))
        (no_targets has.nest x keeps_whole);
    text = told.2.text ∙ found.text ∙ merge.text ∙ sym all.text;
  }
    where
      at : (p : Option Effect) → last_filled chunks all.effects ≡ p → (flat_map (λ vs. vs) chunks ≡ [] → ⊥) → IsSome p
      at None e some = absurd (some (none_filled chunks all.effects (same_long chunks all.effects merge.effects all.facts) e))
      at (Some f) e some = refl
