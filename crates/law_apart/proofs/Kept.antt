-- Runs apart, beside runs in sequence.
use Rattle.std.specs.Prelude.{ℕ, zero, suc, Bool, true, false, not, ◌≡◌, ◌≤◌, ◌<◌, ◌==◌, ◌&&◌, ◌||◌, ◌++◌, nat_lt, List, [], ◌∷◌, length, map, slice_get, Option, Some, None, IfSome, is_some}
use Rattle.std.specs.List.{list_all}
use Rattle.std.proofs.Common.{refl, sym, ap, ◌∙◌, subst, cond, arith, inl, inr, ⊎_elim}
use Rattle.std.proofs.lemmas.Bool.{and_from, or_left, or_right, eq-eqb, ltb-true, ltb-false}
use Rattle.std.proofs.lemmas.Option.{same_Some, none-some, slice_get_cases}
use Rattle.semantics.specs.Tree.{Variable, Plus, Minus, Literal, Bare, Source, Cond, Increment, Up, Down, Set, Change, Stmt, Assign, Update, If, IfElse, For, Block, Print, Object, no_exprs, Items, no_items, mark, local, stmt, Declaration}
use Rattle.semantics.specs.Meaning.State.{State, Slot, Outside, Empty, Holds, Declared, Assigned, with_local, look, look_in, is_there, is_object, written, overwritten}
use Rattle.semantics.specs.Meaning.Value.{map_option, by_test, both_then, operate, value, values, source_value, holds}
use Rattle.semantics.specs.Meaning.Places.{within}
use Rattle.semantics.specs.Meaning.Runs.{Effect, nothing, one_write, joined, then_from, declares, declared, assigned, incremented, print_text, turns, greatest_trip_count, run, run_items}
use Rattle.semantics.specs.Meaning.Definite.{Privates, known_with, may_read, may_read_all, may_print, may_test, may_take, may_step, declared_known, definite}
use Rattle.semantics.specs.Meaning.Agrees.{also, is_among, visible_behind, declared_in, names_expr, names_exprs, names_source, names_cond, names_step, names_start, names_only, names_items}
use Rattle.semantics.specs.Loops.Nest.{Loop}
use Rattle.semantics.specs.Loops.Operator.{ReduceOp}
use Rattle.semantics.specs.Loops.Piece.{Roles, is_outside}
use Rattle.semantics.specs.Theorems.{is_declared}
use Rattle.semantics.proofs.NestLaw.{local_same}
use Rattle.nest.specs.Nests.{lengths_of}
use Rattle.flow.specs.Roles.{LineData, left_roles}
use Rattle.flow.proofs.PrivateLemmas.{among_both}
use Rattle.law_runs.proofs.Points.{allowed}
use Rattle.law_runs.proofs.Going.{stands, is_held, HoldsKnown, IsUsable, Later, known_with_less, local_later, local_known, assigned_later, assigned_known}
use Rattle.law_commute.specs.Steady.{IsFixedSource, IsFixedCond, IsFixedStep}
use Rattle.law_commute.specs.Targets.{targets_outside}
use Rattle.law_commute.proofs.Framed.{also_itself, true_not_false}
use Rattle.law_commute.proofs.Same.{also_more, also_other}
use Rattle.law_commute.proofs.Matched.{overwritten-append}
use Rattle.law_commute.proofs.Values.{first_of, second_of}
use Rattle.law_nests.proofs.Nested.{parts_of}
use Rattle.law_private.specs.Known.{IsWithin}
use Rattle.law_private.proofs.Chunks.{not_true}
use Rattle.law_private.proofs.Alike.{Both, both_some, Meet, meet_less, may_names_test, may_names_source, holds_alike, source_alike, with_locals, empty_both, valued_both, incremented_both, stmt_alike}
use Rattle.law_roles.specs.Updates.{operands}
use Rattle.law_roles.specs.Reducing.{takes_all}
use Rattle.law_roles.specs.Sharing.{assigned_first, role_variables, TakesOperands}
use Rattle.law_independence.specs.OrderLaws.{HaveTurns, LeavesOthers, StandsThere, used_roles}
use Rattle.law_independence.proofs.Targeted.{in_either, outside_visible, outside_target}
use Rattle.law_starts.specs.Begun.{told_apart}
use Rattle.law_scopes.specs.Apart.{is_at_turn}
use Rattle.law_apart.specs.Apart.{left_slot, left_effect, LeavesApart, stands_there, is_at_hand, handed, apart, apart_items, apart_behind}
use Rattle.law_independence.proofs.Hiding.{still_inside}
use Rattle.law_scopes.proofs.Shared.{there_same}
use Rattle.law_apart.proofs.Shared.{same_kind, left_apart}
use Rattle.law_scopes.proofs.Named.{target_named, all_among}
use Rattle.law_apart.proofs.Undeclared.{runs_outside, runs_held}
use Rattle.law_scopes.proofs.Spots.{Kept, assigned_keeps, declares_keeps, declared_keeps, Spot, spot_kept, spot_turn, At, spot_inside, at_start, at_body, at_next}

-- the same objects at file scope, and the same in each local that is known; visible ones stand in both or in neither
abbrev pub Same : (Variable → Bool) → (Variable → Bool) → State → State → Type 0
Same V k s t = Meet V k (λ x. ⊥) s t

pub same_less : (V W k j : Variable → Bool) (s t : State) → IsWithin W V → IsWithin j k → Same V k s t → Same W j s t
same_less V W k j s t fewer less h = meet_less V W k j (λ x. ⊥) (λ x. ⊥) s t fewer (λ x q. inl (less x q)) (λ x q. absurd q) h

-- a statement does the same from both
known_both : (P : Privates) (a : Stmt) (V k k' : Variable → Bool) (s t : State) → names_only V a ≡ true → definite P a k ≡ Some k' → Same V k s t → Both (Same V k') s t (run a s) (run a t)
known_both P a V k k' s t named d h = subst (λ o. IfSome o (λ j. Both (Same V j) s t (run a s) (run a t))) d (stmt_alike P a V k (λ x. ⊥) s t named h)

-- and a local's declaration
declared_same : (V k k' : Variable → Bool) (s t : State) (x : Variable) (start : Option Source) → declared_known k x start ≡ Some k' → Same V k s t → Both (Same (also V x) k') s t (declared s x start) (declared t x start)
declared_same V k k' s t x None d h = subst (λ j. Both (Same (also V x) j) s t (declared s x None) (declared t x None)) (same_Some (known_with k x false) k' d) (empty_both V k (λ y. ⊥) s t h x)
declared_same V k k' s t x (Some e) d h =
    let ok = allowed (may_take k e) (known_with k x true) k' d in
    subst (λ j. Both (Same (also V x) j) s t (declared s x (Some e)) (declared t x (Some e))) ok.1 (valued_both V k (λ y. ⊥) s t h x e (sym (may_names_source k e) ∙ ok.0))

-- ---- what stands

up_is : (k : Slot) → is_outside k ≡ false → stands k ≡ true
up_is Outside h = absurd cc
up_is Empty h = refl
up_is (Holds v) h = refl

is_up : (k : Slot) → stands k ≡ true → is_outside k ≡ false
is_up Outside h = absurd cc
is_up Empty h = refl
is_up (Holds v) h = refl

number_of : (k : Slot) → is_held k ≡ true → (v : ℕ) × (k ≡ Holds v)
number_of Outside h = absurd cc
number_of Empty h = absurd cc
number_of (Holds v) h = (v, refl)

module _ (ds : List Declaration) where
  -- a variable of the file, or a local that stands
  usable : (V k : Variable → Bool) (t : State) (x : Variable) → StandsThere ds V k t → V x ≡ true → IsUsable ds t x
  usable V k t x h v = at (nat_lt x (length ds)) refl
    where
      at : (b : Bool) → nat_lt x (length ds) ≡ b → IsUsable ds t x
      at true e = inl (ltb-true x (length ds) e)
      at false e = inr (up_is (t.locals x) (h.inside x v (ltb-false x (length ds) e)))

  known_held : (V k : Variable → Bool) (t : State) → StandsThere ds V k t → HoldsKnown ds k t
  known_held V k t h x le known = ap is_held (h.held x known le).1

  -- further on, where this is known
  stands_later : (V k j : Variable → Bool) (t u : State) → StandsThere ds V k t → Later ds t u → HoldsKnown ds j u → StandsThere ds V j u
  stands_later V k j t u h later known =
      record {
        there = λ x is. later.cells x is ∙ h.there x is;
        outside = λ x less. later.outside x less (h.outside x less);
        inside = λ x v le. is_up (u.locals x) (later.standing x (up_is (t.locals x) (h.inside x v le)));
        held = λ x k le. number_of (u.locals x) (known x le k);
      }

  stands_less : (V W k j : Variable → Bool) (t : State) → IsWithin W V → IsWithin j k → StandsThere ds V k t → StandsThere ds W j t
  stands_less V W k j t fewer less h = record { there = h.there; outside = h.outside; inside = λ x w le. h.inside x (fewer x w) le; held = λ x q le. h.held x (less x q) le }

  -- behind an assignment its variable is known, and what was known
  module _ (V k : Variable → Bool) (t : State) (x : Variable) (h : StandsThere ds V k t) (v : V x ≡ true) where
    stands_assigned : (ks : Option (List ℕ)) (o : Option ℕ) (f : Effect) → assigned t x ks o ≡ Some f → StandsThere ds V (known_with k x true) (overwritten t f.writes)
    stands_assigned None o f d = absurd (none-some f d)
    stands_assigned (Some ks) None f d = absurd (none-some f d)
    stands_assigned (Some ks) (Some n) f d = at (is_object t x ks) d
      where
        at : (b : Bool) → cond b (Some (one_write (Assigned x ks n))) None ≡ Some f → StandsThere ds V (known_with k x true) (overwritten t f.writes)
        at false q = absurd (none-some f q)
        at true q =
            subst (λ (g : Effect). StandsThere ds V (known_with k x true) (overwritten t g.writes)) (same_Some (one_write (Assigned x ks n)) f q)
            (stands_later V k (known_with k x true) t (written t (Assigned x ks n)) h (assigned_later ds t x ks n) (assigned_known ds t x ks n k (usable V k t x h v) (known_held V k t h)))

    still_stands : (ks : Option (List ℕ)) (o : Option ℕ) (f : Effect) → assigned t x ks o ≡ Some f → StandsThere ds V k (overwritten t f.writes)
    still_stands ks o f d = stands_less V V (known_with k x true) k (overwritten t f.writes) (λ y q. q) (λ y q. known_with_less k x y q) (stands_assigned ks o f d)

  stands_stepped : (F V k : Variable → Bool) (t : State) (x : Variable) (step : Increment) → IsFixedStep F x step → V x ≡ true → StandsThere ds V k t → (f : Effect) → incremented t step ≡ Some f → StandsThere ds V k (overwritten t f.writes)
  stands_stepped F V k t x (Up y) fixed v h f d = still_stands V k t y h (ap V fixed ∙ v) (values t no_exprs) (both_then (operate Plus) (value t (Object y no_exprs)) (value t (Literal 1 Bare))) f d
  stands_stepped F V k t x (Down y) fixed v h f d = still_stands V k t y h (ap V fixed ∙ v) (values t no_exprs) (both_then (operate Minus) (value t (Object y no_exprs)) (value t (Literal 1 Bare))) f d
  stands_stepped F V k t x (Set y e) fixed v h f d = still_stands V k t y h (ap V fixed.0 ∙ v) (Some []) (source_value t e) f d
  stands_stepped F V k t x (Change y op e) fixed v h f d = still_stands V k t y h (ap V fixed.0 ∙ v) (values t no_exprs) (both_then (operate op) (value t (Object y no_exprs)) (value t e)) f d

  -- behind a local's declaration
  module _ (V k : Variable → Bool) (t : State) (x : Variable) (room : length ds ≤ x) (h : StandsThere ds V k t) where
    stands_with : (slot : Slot) → stands slot ≡ true → StandsThere ds (also V x) (known_with k x (is_held slot)) (with_local t x slot)
    stands_with slot up =
        let later = local_later ds t x slot up (λ less e. let more = room in omega arith) in
        let rest = stands_later V k (known_with k x (is_held slot)) t (with_local t x slot) h later (local_known ds t x slot up k (known_held V k t h)) in
        record { there = rest.there; outside = rest.outside; inside = λ y v le. at y v le (y == x) refl; held = rest.held }
      where
        at : (y : Variable) → also V x y ≡ true → length ds ≤ y → (b : Bool) → (y == x) ≡ b → is_outside (cond b slot (t.locals y)) ≡ false
        at y v le true e = is_up slot up
        at y v le false e = h.inside y (also_other V x y v e) le

    stands_declares : (o : Option ℕ) (f : Effect) → declares x o ≡ Some f → StandsThere ds (also V x) (known_with k x true) (overwritten t f.writes)
    stands_declares None f d = absurd (none-some f d)
    stands_declares (Some v) f d =
        subst (λ (g : Effect). StandsThere ds (also V x) (known_with k x true) (overwritten t g.writes)) (same_Some (one_write (Declared x (Some v))) f d) (stands_with (Holds v) refl)

    stands_declared : (start : Option Source) (k' : Variable → Bool) (f : Effect) → declared_known k x start ≡ Some k' → declared t x start ≡ Some f → StandsThere ds (also V x) k' (overwritten t f.writes)
    stands_declared None k' f known d =
        subst (λ j. StandsThere ds (also V x) j (overwritten t f.writes)) (same_Some (known_with k x false) k' known)
        (subst (λ (g : Effect). StandsThere ds (also V x) (known_with k x false) (overwritten t g.writes)) (same_Some (one_write (Declared x None)) f d) (stands_with Empty refl))
    stands_declared (Some e) k' f known d =
        subst (λ j. StandsThere ds (also V x) j (overwritten t f.writes)) (allowed (may_take k e) (known_with k x true) k' known).1 (stands_declares (source_value t e) f d)

  -- ---- an effect beside another

  -- an effect with this text, behind which a state agrees with the one behind the other effect, and which leaves the fixed locals as they were
  pub record Like (F V k : Variable → Bool) (s t : State) (e : Effect) (o : Option Effect) : Type 0 where
    pub effect : Effect
    pub is : o ≡ Some effect
    pub text : effect.text ≡ e.text
    pub same : Same V k (overwritten s e.writes) (overwritten t effect.writes)
    pub kept : Kept F t (overwritten t effect.writes)
    pub stands : StandsThere ds V k (overwritten t effect.writes)

  like_less : (F V W k j : Variable → Bool) (s t : State) (e : Effect) (o : Option Effect) → IsWithin W V → IsWithin j k → Like F V k s t e o → Like F W j s t e o
  like_less F V W k j s t e o fewer less l =
      record {
        effect = l.effect;
        is = l.is;
        text = l.text;
        same = same_less V W k j (overwritten s e.writes) (overwritten t l.effect.writes) fewer less l.same;
        kept = l.kept;
        stands = stands_less V W k j (overwritten t l.effect.writes) fewer less l.stands;
      }

  -- no effect
  like_nothing : (F V k : Variable → Bool) (s t : State) (e : Effect) → Same V k s t → StandsThere ds V k t → Some nothing ≡ Some e → Like F V k s t e (Some nothing)
  like_nothing F V k s t e h stands is =
      subst (λ (f : Effect). Like F V k s t f (Some nothing)) (same_Some nothing e is) (record { effect = nothing; is = refl; text = refl; same = h; kept = λ y f. refl; stands = stands })

  -- the same effect
  like_both : (F V k : Variable → Bool) (s t : State) (o p : Option Effect) (e : Effect) → Both (Same V k) s t o p → ((f : Effect) → p ≡ Some f → Kept F t (overwritten t f.writes))
      → ((f : Effect) → p ≡ Some f → StandsThere ds V k (overwritten t f.writes)) → o ≡ Some e → Like F V k s t e p
  like_both F V k s t o p e b kept stands is =
      let there = sym b.same ∙ is in record { effect = e; is = there; text = refl; same = b.left e is; kept = kept e there; stands = stands e there }

  -- one and then another
  like_then : (F G W V j k : Variable → Bool) (s t : State) (one two e : Effect) (o : Option Effect) (next : State → Option Effect) → IsWithin G F → joined one two ≡ e → Like F W j s t one o
      → ((u : State) → Same W j (overwritten s one.writes) u → Kept F t u → StandsThere ds W j u → (f : Effect) → o ≡ Some f → u ≡ overwritten t f.writes → Like G V k (overwritten s one.writes) u two (next u))
      → Like G V k s t e (then_from t o next)
  like_then F G W V j k s t one two e o next fewer is first rest =
      let u = overwritten t first.effect.writes in
      let second = rest u first.same first.kept first.stands first.effect first.is refl in
      subst (λ (f : Effect). Like G V k s t f (then_from t o next)) is
      (record {
        effect = joined first.effect second.effect;
        is = ap (λ q. then_from t q next) first.is ∙ ap (map_option (joined first.effect)) second.is;
        text = λ i. first.text i ++ second.text i;
        same =
            subst (λ z. Same V k (overwritten s (one.writes ++ two.writes)) z) (sym (overwritten-append t first.effect.writes second.effect.writes))
            (subst (λ z. Same V k z (overwritten u second.effect.writes)) (sym (overwritten-append s one.writes two.writes)) second.same);
        kept =
            subst (λ z. Kept G t z) (sym (overwritten-append t first.effect.writes second.effect.writes))
            (λ y f. second.kept y f ∙ first.kept y (fewer y f));
        stands = subst (λ z. StandsThere ds V k z) (sym (overwritten-append t first.effect.writes second.effect.writes)) second.stands;
      })

  -- ---- parallel loops

  module _ (P : Privates) (R : LineData) where
    -- a parallel loop with roles of what it assigns, none of which is fixed; what is known behind it was so before, and is private in none
    pub record IsHanded (F V k j : Variable → Bool) (roles : Roles) (serial : List Loop) (a : Stmt) : Type 0 where
      pub round : HaveTurns serial
      pub assigned : (x : Variable) → is_among (targets_outside a) x ≡ is_among (role_variables roles) x
      pub leaves : LeavesOthers a
      pub takes : (t : State) → Spot F serial t → StandsThere ds V k t → TakesOperands roles.reductions a t
      pub known : Variable → Bool
      pub is : definite P a k ≡ Some known
      pub seen : IsWithin V (visible_behind a)
      pub still : (x : Variable) → j x ≡ true → (known x ≡ true) × (k x ≡ true) × (visible_behind a x ≡ true) × (is_among roles.privates x ≡ false)
      pub scalars : (x : Variable) → is_among (targets_outside a) x ≡ true → lengths_of (slice_get ds x) ≡ []
      pub reduced : (x : Variable) → is_among (map (λ r. r.0) roles.reductions) x ≡ true → k x ≡ true
      pub free : (x : Variable) → F x ≡ true → is_among (targets_outside a) x ≡ false

    -- a serial loop's head is of the variables of those round it, which it does not assign, and reads what is known; what is known at the start of its body is so behind it
    pub record IsHead (F k k' inside after : Variable → Bool) (x : Variable) (start : Source) (test : Cond) (step : Increment) : Type 0 where
      pub free : F x ≡ false
      pub room : length ds ≤ x
      pub start_fixed : IsFixedSource F start
      pub test_fixed : IsFixedCond (also F x) test
      pub step_fixed : IsFixedStep (also F x) x step
      pub starts : may_take k start ≡ true
      pub tests : may_test inside test ≡ true
      pub steps : may_step after step ≡ true
      pub entered : IsWithin inside (known_with k x true)
      pub again : IsWithin inside after
      pub behind : IsWithin k' inside

    abbrev mutual
      -- so each loop of a statement: from what is known before it to what is known behind it
      pub LoopsLeave : (Variable → Bool) → (Variable → Bool) → (Variable → Bool) → (Variable → Bool) → List Loop → Stmt → Type 0
      LoopsLeave F V k k' serial (Assign x is e) = (F x ≡ false) × (definite P (Assign x is e) k ≡ Some k')
      LoopsLeave F V k k' serial (Update x is op e) = (F x ≡ false) × (definite P (Update x is op e) k ≡ Some k')
      LoopsLeave F V k k' serial (If c a) = (may_test k c ≡ true) × (j : Variable → Bool) × LoopsLeave F V k j serial a × IsWithin k' j × IsWithin k' k
      LoopsLeave F V k k' serial (IfElse c a b) =
          (may_test k c ≡ true) × (j : Variable → Bool) × (l : Variable → Bool) × LoopsLeave F V k j serial a × LoopsLeave F V k l serial b × IsWithin k' j × IsWithin k' l
      LoopsLeave F V k k' serial (For x name start test step body) =
          (inside : Variable → Bool) × (after : Variable → Bool) × IsHead F k k' inside after x start test step
          × LoopsLeave (also F x) (also V x) inside after (serial ++ record { variable = x; start = start; test = test; step = step } ∷ []) body
      LoopsLeave F V k k' serial (Block items) = ItemsLeave F V k k' serial items
      LoopsLeave F V k k' serial (Print parts) = definite P (Print parts) k ≡ Some k'

      pub ItemsLeave : (Variable → Bool) → (Variable → Bool) → (Variable → Bool) → (Variable → Bool) → List Loop → Items → Type 0
      ItemsLeave F V k k' serial no_items = IsWithin k' k
      ItemsLeave F V k k' serial (mark line rest) = BehindLeave F V k k' line serial rest
      ItemsLeave F V k k' serial (local x name start rest) =
          (F x ≡ false) × (length ds ≤ x) × (j : Variable → Bool) × (declared_known k x start ≡ Some j) × ItemsLeave F (also V x) j k' serial rest
      ItemsLeave F V k k' serial (stmt a rest) = (j : Variable → Bool) × LoopsLeave F V k j serial a × ItemsLeave F V j k' serial rest

      -- behind a directive line
      pub BehindLeave : (Variable → Bool) → (Variable → Bool) → (Variable → Bool) → (Variable → Bool) → ℕ → List Loop → Items → Type 0
      BehindLeave F V k k' line serial (stmt a rest) = (j : Variable → Bool) × IsHanded F V k j (used_roles a (left_roles (R line))) serial a × ItemsLeave F V j k' serial rest
      BehindLeave F V k k' line serial no_items = ⊥
      BehindLeave F V k k' line serial (mark other rest) = ⊥
      BehindLeave F V k k' line serial (local x name start rest) = ⊥

    -- a parallel loop
    module _ (a : Stmt) (F V k j : Variable → Bool) (roles : Roles) (serial : List Loop) (its : IsHanded F V k j roles serial a) (named : names_only V a ≡ true) where
      undeclared_there : (x : Variable) → visible_behind a x ≡ true → is_among (declared_in a) x ≡ false
      undeclared_there x h = not_true (is_among (declared_in a) x) h

      target_seen : (x : Variable) → is_among (targets_outside a) x ≡ true → V x ≡ true
      target_seen x p = target_named x a V named (undeclared_there x (outside_visible a x p)) (outside_target a x p)

      -- what is told apart has a role, and what has one is private or told apart
      told_role : (x : Variable) → is_among (told_apart roles) x ≡ true → is_among (role_variables roles) x ≡ true
      told_role x h =
          among_both (assigned_first roles) (map (λ r. r.0) roles.reductions) x
          ∙ in_either x roles.lasts (map (λ r. r.0) roles.reductions) h
          (λ q. or_left (is_among (assigned_first roles) x) (is_among (map (λ r. r.0) roles.reductions) x) (among_both roles.privates roles.lasts x ∙ or_right (is_among roles.privates x) (is_among roles.lasts x) q))
          (λ q. or_right (is_among (assigned_first roles) x) (is_among (map (λ r. r.0) roles.reductions) x) q)

      role_told : (x : Variable) → is_among roles.privates x ≡ false → is_among (role_variables roles) x ≡ true → is_among (told_apart roles) x ≡ true
      role_told x private h =
          among_both roles.lasts (map (λ r. r.0) roles.reductions) x
          ∙ in_either x (assigned_first roles) (map (λ r. r.0) roles.reductions) h
          (λ q. in_either x roles.privates roles.lasts q (λ p. absurd (true_not_false (is_among roles.privates x) p private)) (λ l. or_left (is_among roles.lasts x) (is_among (map (λ r. r.0) roles.reductions) x) l))
          (λ q. or_right (is_among roles.lasts x) (is_among (map (λ r. r.0) roles.reductions) x) q)

      none_told : (x : Variable) → is_among (targets_outside a) x ≡ false → is_among (told_apart roles) x ≡ false
      none_told x h = at (is_among (told_apart roles) x) refl
        where
          at : (b : Bool) → is_among (told_apart roles) x ≡ b → b ≡ false
          at true e = sym (told_role x e) ∙ sym (its.assigned x) ∙ h
          at false e = refl

      module _ (t : State) (spot : Spot F serial t) (stand : StandsThere ds V k t) where
        -- its variables are at hand
        cell_there : (x : Variable) → is_among (targets_outside a) x ≡ true → x < length ds → is_there (t.cells x []) ≡ true
        cell_there x p less =
            stand.there x []
            ∙ ⊎_elim (λ c. ap (λ o. is_declared o []) c.2 ∙ ap (λ ns. within ns []) (sym (ap lengths_of c.2) ∙ its.scalars x p)) (λ c. let past = c.0 in absurd (omega arith)) (slice_get_cases ds x).1

        scalar_there : (x : Variable) → is_among (role_variables roles) x ≡ true → stands_there t x ≡ true
        scalar_there x h = at (nat_lt x (length ds)) refl
          where
            p : is_among (targets_outside a) x ≡ true
            p = its.assigned x ∙ h

            at : (b : Bool) → nat_lt x (length ds) ≡ b → stands_there t x ≡ true
            at true e = or_right (not (is_outside (t.locals x))) (is_there (t.cells x [])) (cell_there x p (ltb-true x (length ds) e))
            at false e = or_left (not (is_outside (t.locals x))) (is_there (t.cells x [])) (ap not (stand.inside x (target_seen x p) (ltb-false x (length ds) e)))

        number_there : (x : Variable) → is_among (map (λ r. r.0) roles.reductions) x ≡ true → is_some (look t x []) ≡ true
        number_there x h = at (nat_lt x (length ds)) refl
          where
            role : is_among (role_variables roles) x ≡ true
            role = among_both (assigned_first roles) (map (λ r. r.0) roles.reductions) x ∙ or_right (is_among (assigned_first roles) x) (is_among (map (λ r. r.0) roles.reductions) x) h

            there_some : (o : Option ℕ) → is_there o ≡ true → is_some o ≡ true
            there_some None e = absurd cc
            there_some (Some v) e = refl

            at : (b : Bool) → nat_lt x (length ds) ≡ b → is_some (look t x []) ≡ true
            at true e =
                ap (λ l. is_some (look_in l t x [])) (stand.outside x (ltb-true x (length ds) e)) ∙ there_some (t.cells x []) (cell_there x (its.assigned x ∙ role) (ltb-true x (length ds) e))
            at false e = ap (λ l. is_some (look_in l t x [])) (stand.held x (its.reduced x h) (ltb-false x (length ds) e)).1

        all_numbers : (rs : List (Variable × ReduceOp)) → ((x : Variable) → is_among (map (λ r. r.0) rs) x ≡ true → is_some (look t x []) ≡ true) → list_all (λ (r : Variable × ReduceOp). is_some (look t r.0 [])) rs ≡ true
        all_numbers [] h = refl
        all_numbers (r ∷ rs) h =
            and_from (is_some (look t r.0 [])) (list_all (λ (q : Variable × ReduceOp). is_some (look t q.0 [])) rs) (h r.0 (or_left (r.0 == r.0) (is_among (map (λ q. q.0) rs) r.0) (eq-eqb r.0 r.0 refl)))
            (all_numbers rs (λ y p. h y (or_right (r.0 == y) (is_among (map (λ q. q.0) rs) y) p)))

        taken_there : TakesOperands roles.reductions a t → (takes_all roles.reductions || is_some (run (operands roles.reductions a) t)) ≡ true
        taken_there (inl h) = or_left (takes_all roles.reductions) (is_some (run (operands roles.reductions a) t)) h
        taken_there (inr h) = or_right (takes_all roles.reductions) (is_some (run (operands roles.reductions a) t)) h

        turn : is_at_turn serial t ≡ true
        turn = spot_turn F serial t its.round spot

        at_hand : is_at_hand roles a t ≡ true
        at_hand =
            and_from (list_all (stands_there t) (role_variables roles) && list_all (λ (r : Variable × ReduceOp). is_some (look t r.0 [])) roles.reductions) (takes_all roles.reductions || is_some (run (operands roles.reductions a) t))
            (and_from (list_all (stands_there t) (role_variables roles)) (list_all (λ (r : Variable × ReduceOp). is_some (look t r.0 [])) roles.reductions)
            (all_among (stands_there t) (role_variables roles) scalar_there) (all_numbers roles.reductions number_there))
            (taken_there (its.takes t spot stand))

        -- what it leaves of a local
        module _ (e : Effect) (ran : run a t ≡ Some e) where
          abbrev left : State
          left = overwritten t (left_effect (told_apart roles) t e).writes

          abbrev after : State
          after = overwritten t e.writes

          law : LeavesApart (told_apart roles) t e
          law = left_apart (told_apart roles) t e

          same_kind_left : (x : Variable) → is_outside (left.locals x) ≡ is_outside (t.locals x)
          same_kind_left x = at (is_among (told_apart roles) x) refl
            where
              at : (b : Bool) → is_among (told_apart roles) x ≡ b → is_outside (left.locals x) ≡ is_outside (t.locals x)
              at true q = ap is_outside (law.locals x q) ∙ same_kind (t.locals x) (look after x [])
              at false q = ap is_outside (law.others x q)

          same_kind_after : (x : Variable) → visible_behind a x ≡ true → is_outside (after.locals x) ≡ is_outside (t.locals x)
          same_kind_after x v = at (t.locals x) refl
            where
              at : (l : Slot) → t.locals x ≡ l → is_outside (after.locals x) ≡ is_outside (t.locals x)
              at Outside q = ap is_outside (runs_outside x a (undeclared_there x v) t e ran q) ∙ sym (ap is_outside q)
              at Empty q = still_inside e.writes t x (ap is_outside q) ∙ sym (ap is_outside q)
              at (Holds n) q = still_inside e.writes t x (ap is_outside q) ∙ sym (ap is_outside q)

          -- of what is known behind it, what it holds in the end
          known_left : (x : Variable) → j x ≡ true → after.locals x ≡ left.locals x
          known_left x q = at (is_among (told_apart roles) x) refl (t.locals x) refl
            where
              told : (its.known x ≡ true) × (k x ≡ true) × (visible_behind a x ≡ true) × (is_among roles.privates x ≡ false)
              told = its.still x q

              held_after : (n : ℕ) → t.locals x ≡ Holds n → (v : ℕ) × (after.locals x ≡ Holds v)
              held_after n h = number_of (after.locals x) (runs_held x a (undeclared_there x told.2) t e ran (ap is_held h))

              no_target : is_among (told_apart roles) x ≡ false → is_among (targets_outside a) x ≡ false
              no_target none = its.assigned x ∙ other (is_among (role_variables roles) x) refl
                where
                  other : (b : Bool) → is_among (role_variables roles) x ≡ b → b ≡ false
                  other true r = sym (role_told x told.3 r) ∙ none
                  other false r = refl

              at : (b : Bool) → is_among (told_apart roles) x ≡ b → (l : Slot) → t.locals x ≡ l → after.locals x ≡ left.locals x
              at false none l h = its.leaves t e ran x told.2 (no_target none) ∙ sym (law.others x none)
              at true there Outside h =
                  runs_outside x a (undeclared_there x told.2) t e ran h ∙ sym (law.locals x there ∙ ap (λ s. left_slot s (look after x [])) h)
              at true there Empty h =
                  absurd (not_empty (nat_lt x (length ds)) refl)
                where
                  not_empty : (b : Bool) → nat_lt x (length ds) ≡ b → ⊥
                  not_empty true less = true_not_false true refl (let p : is_outside Empty ≡ is_outside Outside = ap is_outside (sym h ∙ stand.outside x (ltb-true x (length ds) less)) in sym p)
                  not_empty false more =
                      let number = stand.held x told.1 (ltb-false x (length ds) more) in
                      true_not_false true refl (let p : is_held Empty ≡ is_held (Holds number.0) = ap is_held (sym h ∙ number.1) in sym p)
              at true there (Holds n) h =
                  let v = held_after n h in
                  v.1
                  ∙ sym (law.locals x there ∙ ap (λ s. left_slot s (look after x [])) h ∙ ap (λ s. left_slot (Holds n) (look_in s after x [])) v.1)

          stands_left : StandsThere ds V j left
          stands_left =
              record {
                there = λ x is. there_same (left_effect (told_apart roles) t e).writes t x is ∙ stand.there x is;
                outside = λ x less. out (left.locals x) (same_kind_left x ∙ ap is_outside (stand.outside x less));
                inside = λ x v le. same_kind_left x ∙ stand.inside x v le;
                held = λ x q le. held x q (stand.held x (its.still x q).1 le) (is_among (told_apart roles) x) refl;
              }
            where
              out : (l : Slot) → is_outside l ≡ true → l ≡ Outside
              out Outside h = refl
              out Empty h = absurd cc
              out (Holds n) h = absurd cc

              put : (n : ℕ) (o : Option ℕ) → (v : ℕ) × (left_slot (Holds n) o ≡ Holds v)
              put n None = (n, refl)
              put n (Some v) = (v, refl)

              held : (x : Variable) → j x ≡ true → (n : ℕ) × (t.locals x ≡ Holds n) → (b : Bool) → is_among (told_apart roles) x ≡ b → (v : ℕ) × (left.locals x ≡ Holds v)
              held x q (n, h) true there = let v = put n (look after x []) in (v.0, law.locals x there ∙ ap (λ s. left_slot s (look after x [])) h ∙ v.1)
              held x q (n, h) false none = (n, law.others x none ∙ h)

      handed_like : (s t : State) (e : Effect) → Spot F serial t → Same V k s t → StandsThere ds V k t → run a s ≡ Some e → Like F V j s t e (handed roles serial a t)
      handed_like s t e spot h stand is =
          let both = known_both P a V k its.known s t named its.is h in
          let ran : run a t ≡ Some e = sym both.same ∙ is in
          let behind = both.left e is in
          let left = left_apart (told_apart roles) t e in
          record {
            effect = left_effect (told_apart roles) t e;
            is = ap (λ b. cond b (map_option (left_effect (told_apart roles) t) (run a t)) None) (and_from (is_at_turn serial t) (is_at_hand roles a t) (turn t spot stand) (at_hand t spot stand)) ∙ ap (map_option (left_effect (told_apart roles) t)) ran;
            text = refl;
            same = record {
              agrees = record {
                cells = λ x js. behind.agrees.cells x js ∙ sym (left.cells x js);
                kinds = λ x v. behind.agrees.kinds x v ∙ same_kind_after t spot stand e ran x (its.seen x v) ∙ sym (same_kind_left t spot stand e ran x);
                values = λ x q. behind.agrees.values x (its.still x q).0 ∙ known_left t spot stand e ran x q;
              };
              kept = λ x q. absurd q;
            };
            kept = λ y f. left.others y (none_told y (its.free y f));
            stands = stands_left t spot stand e ran;
          }

    -- what prints
    print_keeps : (F : Variable → Bool) (t : State) (o : Option (List ℕ)) (f : Effect) → map_option (λ b. record { writes = []; text = b }) o ≡ Some f → Kept F t (overwritten t f.writes)
    print_keeps F t None f h = absurd (none-some f h)
    print_keeps F t (Some b) f h = subst (λ (g : Effect). Kept F t (overwritten t g.writes)) (same_Some (record { writes = []; text = b }) f h) (λ y q. refl)

    print_stands : (V k k' : Variable → Bool) (t : State) (o : Option (List ℕ)) → k ≡ k' → StandsThere ds V k t → (f : Effect) → map_option (λ b. record { writes = []; text = b }) o ≡ Some f → StandsThere ds V k' (overwritten t f.writes)
    print_stands V k k' t None same stand f h = absurd (none-some f h)
    print_stands V k k' t (Some b) same stand f h =
        subst (λ (g : Effect). StandsThere ds V k' (overwritten t g.writes)) (same_Some (record { writes = []; text = b }) f h) (subst (λ j. StandsThere ds V j t) same stand)

    -- a serial loop
    module _ (F V k k' inside after : Variable → Bool) (serial : List Loop) (x : Variable) (start : Source) (test : Cond) (step : Increment) (body : Stmt)
        (head : IsHead F k k' inside after x start test step) (named : names_step (also V x) step ≡ true)
        (body_like : (s t : State) (e : Effect) → Spot (also F x) (serial ++ record { variable = x; start = start; test = test; step = step } ∷ []) t → Same (also V x) inside s t → StandsThere ds (also V x) inside t → run body s ≡ Some e
        → Like (also F x) (also V x) after s t e (apart R (serial ++ record { variable = x; start = start; test = test; step = step } ∷ []) body t)) where
      abbrev W : Variable → Bool
      W = also V x

      abbrev inner : List Loop
      inner = serial ++ record { variable = x; start = start; test = test; step = step } ∷ []

      abbrev whole : ℕ → State → Option Effect
      whole m s = turns m (λ u. holds u test) (run body) (λ u. incremented u step) s

      abbrev parted : ℕ → State → Option Effect
      parted m s = turns m (λ u. holds u test) (apart R inner body) (λ u. incremented u step) s

      tested_same : (s t : State) → Same W inside s t → holds s test ≡ holds t test
      tested_same s t h = holds_alike W inside (λ y. ⊥) s t h test (sym (may_names_test inside test) ∙ head.tests)

      module _ (t0 : State) (spot : Spot F serial t0) (first : ℕ) (start_is : source_value t0 start ≡ Some first) where
        abbrev There : ℕ → State → Type 0
        There v t = At F serial x start test step head.free head.start_fixed head.test_fixed head.step_fixed t0 spot first start_is v t

        turns_like : (m v : ℕ) (s t : State) (e : Effect) → There v t → Same W inside s t → StandsThere ds W inside t → whole m s ≡ Some e → Like F W inside s t e (parted m t)
        turns_like zero v s t e there h stands ran = at (holds t test) (sym (ap (λ b. by_test b None (Some nothing)) (tested_same s t h)) ∙ ran)
          where
            at : (b : Option Bool) → by_test b None (Some nothing) ≡ Some e → Like F W inside s t e (by_test b None (Some nothing))
            at None q = absurd (none-some e q)
            at (Some true) q = absurd (none-some e q)
            at (Some false) q = like_nothing F W inside s t e h stands q
        turns_like (suc m) v s t e there h stands ran =
            at (holds t test) refl (sym (ap (λ b. by_test b (then_from s (run body s) (λ u. then_from u (incremented u step) (whole m))) (Some nothing)) (tested_same s t h)) ∙ ran)
            (λ w u u' f. turns_like m w u u' f)
          where
            at : (b : Option Bool) → holds t test ≡ b → by_test b (then_from s (run body s) (λ u. then_from u (incremented u step) (whole m))) (Some nothing) ≡ Some e
                → ((w : ℕ) (u u' : State) (f : Effect) → There w u' → Same W inside u u' → StandsThere ds W inside u' → whole m u ≡ Some f → Like F W inside u u' f (parted m u'))
                → Like F W inside s t e (by_test b (then_from t (apart R inner body t) (λ u. then_from u (incremented u step) (parted m))) (Some nothing))
            at None tested q more = absurd (none-some e q)
            at (Some false) tested q more = like_nothing F W inside s t e h stands q
            at (Some true) tested q more =
                let parts = parts_of s (run body s) (λ u. then_from u (incremented u step) (whole m)) e q in
                like_then (also F x) F W W after inside s t parts.one parts.two e (apart R inner body t) (λ u. then_from u (incremented u step) (parted m)) (λ y f. also_more F x y f) parts.is
                (body_like s t parts.one (spot_inside F serial x start test step head.free head.start_fixed head.test_fixed head.step_fixed t0 spot first start_is v t there tested) h stands parts.one_is)
                (λ u g kept up d d_is u_is. behind (overwritten s parts.one.writes) u parts.two
                (at_body F serial x start test step head.free head.start_fixed head.test_fixed head.step_fixed t0 spot first start_is v t u there kept) g up parts.two_is)
              where
                behind : (r u : State) (f : Effect) → There v u → Same W after r u → StandsThere ds W after u → then_from r (incremented r step) (whole m) ≡ Some f → Like F W inside r u f (then_from u (incremented u step) (parted m))
                behind r u f here g up is =
                    let parts = parts_of r (incremented r step) (whole m) f is in
                    like_then F F W W after inside r u parts.one parts.two f (incremented u step) (parted m) (λ y f. f) parts.is
                    (like_both F W after r u (incremented r step) (incremented u step) parts.one (incremented_both W after (λ y. ⊥) r u g step named head.steps)
                    (λ d d_is y f. let next = at_next F serial x start test step head.free head.start_fixed head.test_fixed head.step_fixed t0 spot first start_is v t u d there here tested d_is in next.at.kept y f ∙ sym (here.kept y f))
                    (λ d d_is. stands_stepped (also F x) W after u x step head.step_fixed (also_itself V x) up d d_is) parts.one_is)
                    (λ u' g' kept up' d d_is u_is.
                    let next = at_next F serial x start test step head.free head.start_fixed head.test_fixed head.step_fixed t0 spot first start_is v t u d there here tested d_is in
                    more next.value (overwritten r parts.one.writes) u' parts.two (subst (There next.value) (sym u_is) next.at) (same_less W W after inside (overwritten r parts.one.writes) u' (λ y q. q) head.again g') (stands_less W W after inside u' (λ y q. q) head.again up') parts.two_is)

      -- from its start
      for_like : (s t : State) (e : Effect) → Spot F serial t → Same V k s t → StandsThere ds V k t → then_from s (declared s x (Some start)) (whole greatest_trip_count) ≡ Some e
          → Like F V k' s t e (then_from t (declared t x (Some start)) (parted greatest_trip_count))
      for_like s t e spot h stands ran =
          like_less F W V inside k' s t e _ (λ y q. also_more V x y q) head.behind
          (at (source_value t start) refl (sym (ap (λ o. then_from s (declares x o) (whole greatest_trip_count)) (source_alike V k (λ y. ⊥) s t h start (sym (may_names_source k start) ∙ head.starts))) ∙ ran))
        where
          at : (o : Option ℕ) → source_value t start ≡ o → then_from s (declares x o) (whole greatest_trip_count) ≡ Some e → Like F W inside s t e (then_from t (declares x o) (parted greatest_trip_count))
          at None is q = absurd (none-some e q)
          at (Some first) is q =
              let begins = one_write (Declared x (Some first)) in
              let parts = parts_of s (Some begins) (whole greatest_trip_count) e q in
              like_then F F W W inside inside s t parts.one parts.two e (Some begins) (parted greatest_trip_count) (λ y f. f) parts.is
              (like_both F W inside s t (Some begins) (Some begins) parts.one
              (both_some (Same W inside) s t begins (same_less W W (known_with k x true) inside (with_local s x (Holds first)) (with_local t x (Holds first)) (λ y q. q) head.entered (with_locals V k (λ y. ⊥) s t h x true (Holds first))))
              (declares_keeps F t x head.free (Some first)) (λ d d_is. stands_less W W (known_with k x true) inside (overwritten t d.writes) (λ y q. q) head.entered (stands_declares V k t x head.room stands (Some first) d d_is)) parts.one_is)
              (λ u g kept up d d_is u_is.
              let holds_first : u.locals x ≡ Holds first = ap (λ (z : State). z.locals x) u_is ∙ ap (λ (f : Effect). (overwritten t f.writes).locals x) (sym (same_Some begins d d_is)) ∙ local_same t x (Holds first) in
              turns_like t spot first is greatest_trip_count first (overwritten s parts.one.writes) u parts.two
              (at_start F serial x start test step head.free head.start_fixed head.test_fixed head.step_fixed t spot first is u kept holds_first) g up parts.two_is)

    mutual
      pub stmt_like : (a : Stmt) (F V k k' : Variable → Bool) (serial : List Loop) (s t : State) (e : Effect) → names_only V a ≡ true → LoopsLeave F V k k' serial a → Spot F serial t → Same V k s t → StandsThere ds V k t
          → run a s ≡ Some e → Like F V k' s t e (apart R serial a t)
      stmt_like (Assign x is v) F V k k' serial s t e named l spot h stands ran =
          like_both F V k' s t (run (Assign x is v) s) (run (Assign x is v) t) e (known_both P (Assign x is v) V k k' s t named l.1 h)
          (assigned_keeps F t x l.0 (values t is) (source_value t v))
          (λ d d_is. subst (λ j. StandsThere ds V j (overwritten t d.writes)) (allowed (may_read_all k is && may_take k v) (known_with k x true) k' l.1).1
          (stands_assigned V k t x stands (first_of (V x) (names_exprs V is) (first_of (V x && names_exprs V is) (names_source V v) named)) (values t is) (source_value t v) d d_is)) ran
      stmt_like (Update x is op v) F V k k' serial s t e named l spot h stands ran =
          like_both F V k' s t (run (Update x is op v) s) (run (Update x is op v) t) e (known_both P (Update x is op v) V k k' s t named l.1 h)
          (assigned_keeps F t x l.0 (values t is) (both_then (operate op) (value t (Object x is)) (value t v)))
          (λ d d_is. subst (λ j. StandsThere ds V j (overwritten t d.writes)) (allowed (k x && may_read_all k is && may_read k v) k k' l.1).1
          (still_stands V k t x stands (first_of (V x) (names_exprs V is) (first_of (V x && names_exprs V is) (names_expr V v) named)) (values t is) (both_then (operate op) (value t (Object x is)) (value t v)) d d_is)) ran
      stmt_like (If c a) F V k k' serial s t e named (tested, j, l, left, right) spot h stands ran =
          at (holds t c) (sym (ap (λ b. by_test b (run a s) (Some nothing)) (holds_alike V k (λ y. ⊥) s t h c (sym (may_names_test k c) ∙ tested))) ∙ ran)
          (λ q. like_less F V V j k' s t e (apart R serial a t) (λ y f. f) left (stmt_like a F V k j serial s t e (second_of (names_cond V c) (names_only V a) named) l spot h stands q))
        where
          at : (b : Option Bool) → by_test b (run a s) (Some nothing) ≡ Some e → (run a s ≡ Some e → Like F V k' s t e (apart R serial a t)) → Like F V k' s t e (by_test b (apart R serial a t) (Some nothing))
          at None q goes = absurd (none-some e q)
          at (Some true) q goes = goes q
          at (Some false) q goes = like_nothing F V k' s t e (same_less V V k k' s t (λ y f. f) right h) (stands_less V V k k' t (λ y f. f) right stands) q
      stmt_like (IfElse c a b) F V k k' serial s t e named (tested, i, j, l, m, left, right) spot h stands ran =
          at (holds t c) (sym (ap (λ d. by_test d (run a s) (run b s)) (holds_alike V k (λ y. ⊥) s t h c (sym (may_names_test k c) ∙ tested))) ∙ ran)
          (λ q. like_less F V V i k' s t e (apart R serial a t) (λ y f. f) left
          (stmt_like a F V k i serial s t e (second_of (names_cond V c) (names_only V a) (first_of (names_cond V c && names_only V a) (names_only V b) named)) l spot h stands q))
          (λ q. like_less F V V j k' s t e (apart R serial b t) (λ y f. f) right (stmt_like b F V k j serial s t e (second_of (names_cond V c && names_only V a) (names_only V b) named) m spot h stands q))
        where
          at : (d : Option Bool) → by_test d (run a s) (run b s) ≡ Some e → (run a s ≡ Some e → Like F V k' s t e (apart R serial a t)) → (run b s ≡ Some e → Like F V k' s t e (apart R serial b t))
              → Like F V k' s t e (by_test d (apart R serial a t) (apart R serial b t))
          at None q one two = absurd (none-some e q)
          at (Some true) q one two = one q
          at (Some false) q one two = two q
      stmt_like (For x name start test step body) F V k k' serial s t e named (inside, after, head, l) spot h stands ran =
          let heads = first_of (names_source V start && names_cond (also V x) test && names_step (also V x) step) (names_only (also V x) body) named in
          for_like F V k k' inside after serial x start test step body head (second_of (names_source V start && names_cond (also V x) test) (names_step (also V x) step) heads)
          (λ s' t' e' spot' h' stands' ran'. stmt_like body (also F x) (also V x) inside after (serial ++ record { variable = x; start = start; test = test; step = step } ∷ []) s' t' e'
          (second_of (names_source V start && names_cond (also V x) test && names_step (also V x) step) (names_only (also V x) body) named) l spot' h' stands' ran')
          s t e spot h stands ran
      stmt_like (Block items) F V k k' serial s t e named l spot h stands ran = items_like items F V k k' serial s t e named l spot h stands ran
      stmt_like (Print parts) F V k k' serial s t e named l spot h stands ran =
          like_both F V k' s t (run (Print parts) s) (run (Print parts) t) e (known_both P (Print parts) V k k' s t named l h) (print_keeps F t (print_text t parts)) (λ d d_is. print_stands V k k' t (print_text t parts) (allowed (may_print k parts) k k' l).1 stands d d_is) ran

      pub items_like : (items : Items) (F V k k' : Variable → Bool) (serial : List Loop) (s t : State) (e : Effect) → names_items V items ≡ true → ItemsLeave F V k k' serial items → Spot F serial t → Same V k s t → StandsThere ds V k t
          → run_items items s ≡ Some e → Like F V k' s t e (apart_items R serial items t)
      items_like no_items F V k k' serial s t e named l spot h stands ran = like_nothing F V k' s t e (same_less V V k k' s t (λ y f. f) l h) (stands_less V V k k' t (λ y f. f) l stands) ran
      items_like (mark line rest) F V k k' serial s t e named l spot h stands ran = behind_like rest F V k k' line serial s t e named l spot h stands ran
      items_like (local x name start rest) F V k k' serial s t e named (free, room, j, known, l) spot h stands ran =
          let parts = parts_of s (declared s x start) (run_items rest) e ran in
          like_less F (also V x) V k' k' s t e _ (λ y q. also_more V x y q) (λ y q. q)
          (like_then F F (also V x) (also V x) j k' s t parts.one parts.two e (declared t x start) (apart_items R serial rest) (λ y f. f) parts.is
          (like_both F (also V x) j s t (declared s x start) (declared t x start) parts.one (declared_same V k j s t x start known h) (declared_keeps F t x free start) (λ d d_is. stands_declared V k t x room stands start j d known d_is) parts.one_is)
          (λ u g kept up d d_is is. items_like rest F (also V x) j k' serial (overwritten s parts.one.writes) u parts.two (second_of (names_start V start) (names_items (also V x) rest) named) l (spot_kept F serial t u spot kept) g up parts.two_is))
      items_like (stmt a rest) F V k k' serial s t e named (j, first, l) spot h stands ran =
          let parts = parts_of s (run a s) (run_items rest) e ran in
          like_then F F V V j k' s t parts.one parts.two e (apart R serial a t) (apart_items R serial rest) (λ y f. f) parts.is
          (stmt_like a F V k j serial s t parts.one (first_of (names_only V a) (names_items V rest) named) first spot h stands parts.one_is)
          (λ u g kept up d d_is is. items_like rest F V j k' serial (overwritten s parts.one.writes) u parts.two (second_of (names_only V a) (names_items V rest) named) l (spot_kept F serial t u spot kept) g up parts.two_is)

      behind_like : (items : Items) (F V k k' : Variable → Bool) (line : ℕ) (serial : List Loop) (s t : State) (e : Effect) → names_items V items ≡ true → BehindLeave F V k k' line serial items → Spot F serial t → Same V k s t → StandsThere ds V k t
          → run_items items s ≡ Some e → Like F V k' s t e (apart_behind R line serial items t)
      behind_like no_items F V k k' line serial s t e named l spot h stands ran = absurd l
      behind_like (mark other rest) F V k k' line serial s t e named l spot h stands ran = absurd l
      behind_like (local x name start rest) F V k k' line serial s t e named l spot h stands ran = absurd l
      behind_like (stmt a rest) F V k k' line serial s t e named (j, its, l) spot h stands ran =
          let parts = parts_of s (run a s) (run_items rest) e ran in
          like_then F F V V j k' s t parts.one parts.two e (handed (used_roles a (left_roles (R line))) serial a t) (apart_items R serial rest) (λ y f. f) parts.is
          (handed_like a F V k j (used_roles a (left_roles (R line))) serial its (first_of (names_only V a) (names_items V rest) named) s t parts.one spot h stands parts.one_is)
          (λ u g kept up d d_is is. items_like rest F V j k' serial (overwritten s parts.one.writes) u parts.two (second_of (names_only V a) (names_items V rest) named) l (spot_kept F serial t u spot kept) g up parts.two_is)
