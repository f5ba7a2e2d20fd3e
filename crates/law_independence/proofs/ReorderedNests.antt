-- The iterations of a nest that is shown to be independent commute, and its chunks share out what it does.
use Rattle.std.specs.Prelude.{ℕ, Bool, true, false, not, ◌≡◌, ◌≢◌, ◌&&◌, ◌||◌, ℤ, pos, List, [], ◌∷◌, ◌++◌, map, Contains, Some, IsSome}
use Rattle.std.specs.List.{AllPairs, list_all}
use Rattle.std.proofs.Common.{refl, sym, ap, ◌∙◌, subst}
use Rattle.std.proofs.lemmas.Bool.{true≢false, and_from}
use Rattle.std.proofs.lemmas.Option.{same_Some}
use Rattle.semantics.specs.Tree.{Variable, Stmt, Declaration}
use Rattle.semantics.specs.Meaning.State.{State}
use Rattle.semantics.specs.Meaning.Agrees.{is_among, visible_behind}
use Rattle.semantics.specs.Meaning.Definite.{no_privates, definite}
use Rattle.semantics.specs.Loops.Nest.{Loop, Vector, nest_of, iterations, at_vector}
use Rattle.semantics.specs.Loops.Access.{accesses}
use Rattle.semantics.specs.Loops.Operator.{ReduceOp}
use Rattle.semantics.specs.Loops.Piece.{Roles}
use Rattle.semantics.specs.Theorems.{IsTurn}
use Rattle.nest_loop.specs.Turn.{AtTurn}
use Rattle.pairtest_counter.specs.Levels.{Nesting, values_at}
use Rattle.nest.specs.Nests.{Has, StaysInside}
use Rattle.flow.specs.Private.{is_private_body}
use Rattle.flow.proofs.PrivateLemmas.{among_both}
use Rattle.deptest_verdict.specs.Shown.{no_loops}
use Rattle.law_turns.specs.Turns.{AreEntered}
use Rattle.law_turns.proofs.Laws.{outside_is_a_turn, iterations_are_there, iterations_are_turns, iterations_differ}
use Rattle.law_commute.specs.Commuting.{InnerLoopsTurn}
use Rattle.law_commute.specs.Targets.{targets, targets_outside, KeepsApart, AssignsFirst}
use Rattle.law_commute.specs.Joining.{plain_loop}
use Rattle.law_commute.proofs.Values.{first_of, second_of}
use Rattle.law_private.proofs.Orders.{private_commute}
use Rattle.law_private.proofs.More.{more_known}
use Rattle.law_runs.proofs.Nested.{some_there}
use Rattle.law_roles.specs.Updates.{is_plain, reduces}
use Rattle.law_roles.specs.Sharing.{assigned_first, role_variables, are_different, AssignsAll, KeepsRoles}
use Rattle.law_roles.proofs.Joining.{join_in_place}
use Rattle.law_roles.proofs.Keeping.{steady_keeps}
use Rattle.law_independence.specs.Inside.{HaveShort}
use Rattle.law_independence.specs.IndependenceLaws.{IsIndependentNest}
use Rattle.law_independence.specs.OrderLaws.{used_roles, AreStepsRead, AreAtHand, HaveTurns, HasStepsRead, IterateAtTurns, LeavesOthers, TakesAtTurns, SharesInChunks}
use Rattle.law_independence.proofs.IndependentNests.{IsNestThere}
use Rattle.law_independence.proofs.Links.{linked_site, linked}
use Rattle.law_independence.proofs.PrivateNests.{private_nest, private_target, nest_first, body_first}
use Rattle.law_independence.proofs.ReorderedBodies.{IsStmtRead, AreItsOwn, body_keeps, IsNestRead}
use Rattle.law_independence.proofs.RoleNests.{used_variables, used_first, used_last, used_different, used_apart, scalar_assigned}
use Rattle.law_independence.proofs.Steadiness.{IsArray}
use Rattle.law_independence.proofs.Taking.{operands_taken}
use Rattle.law_independence.proofs.Targeted.{no_target, is_outside_target, outside_visible, outside_target, no_outside_target, nest_targets}

-- ---- at a turn of the loops round a nest

pub record IsReady (loops : List Loop) (body : Stmt) (outer : State) (us : List Vector) : Type 0 where
  pub differ : AllPairs (λ u v. u ≢ v) us
  pub turn : (u : Vector) → Contains us u → InnerLoopsTurn loops body outer u

nest_ready : (ds : List Declaration) (round : Nesting) (outer : ℕ) (serial : List ℕ) (n : ℕ) (s : Stmt) (nest : IsNestThere ds round outer serial [] n s) (steps : ℕ → ℤ) (state : State) (us : List Vector)
    → AtTurn round.box (values_at round.levels steps) state → iterations nest.loops state ≡ Some us → IsReady nest.loops nest.body state us
nest_ready ds round outer serial n s nest steps state us at are =
    record {
      differ = iterations_differ round nest.inner nest.loops steps state us nest.entered at are;
      turn = λ u among access there.
          let it = iterations_are_turns round nest.inner nest.loops steps state us u nest.entered at are among in
          let l = linked_site ds nest.inner nest.shown.sites (accesses [] nest.body) access (linked ds nest.inner nest.inner [] nest.body nest.shown.sites refl nest.shown.are nest.there.read nest.there.stays) there in
          iterations_are_there nest.inner l.0.round access.inner it.0 (at_vector nest.loops u state) l.2.entered it.1.at;
    }

-- the steps of loops that were entered
steps_read : (before : Nesting) (hs : List Loop) (after : Nesting) → AreEntered before hs after → AreStepsRead hs
steps_read before [] after e = tt
steps_read before (h ∷ hs) after (s, v, head, level, rest) =
    (record { scope = head.scope; order = head.order; tokens = head.tokens; small = head.small; reads = head.reads }, steps_read (record { box = s ∷ before.box; levels = v ∷ before.levels }) hs after rest)

-- a nest and its body assign of scalars from outside those alone that have a role, each as its role allows
module _ (ds : List Declaration) (short : HaveShort ds) (round : Nesting) (outer : ℕ) (serial : List ℕ) (n : ℕ) (s : Stmt) (found : IsNestRead ds round outer serial n s) (stmt : IsStmtRead ds round.box s) (stays : Has (StaysInside ds) round.box s)
    (roles : Roles) (private : is_private_body (role_variables roles) found.nest.body ≡ true) where
  abbrev body : Stmt
  body = found.nest.body

  abbrev ps : List Variable
  ps = role_variables roles

  abbrev used : Roles
  used = used_roles s roles

  abbrev xs : List Variable
  xs = role_variables used

  abbrev whole : is_private_body ps s ≡ true
  whole = private_nest ps n s found.nest.loops body found.nest.is private

  same : (y : Variable) → is_among (targets s) y ≡ is_among (targets body) y
  same y = ap (λ zs. is_among zs y) (nest_targets n s found.nest.loops body found.nest.is)

  -- what the nest assigns from outside has a role, and a role that is used is of such a scalar
  assigned_used : (x : Variable) → is_among (targets_outside s) x ≡ true → is_among xs x ≡ true
  assigned_used x t = used_variables s roles x ∙ and_from (is_among (targets_outside s) x) (is_among ps x) t (private_target ps s whole x t)

  pub used_assigned : (x : Variable) → is_among xs x ≡ true → is_among (targets_outside s) x ≡ true
  used_assigned x h = first_of (is_among (targets_outside s) x) (is_among ps x) (sym (used_variables s roles x) ∙ h)

  pub assigned : (x : Variable) → is_among (targets_outside s) x ≡ is_among xs x
  assigned x = at (is_among (targets_outside s) x) refl (is_among xs x) refl
    where
      at : (a : Bool) → is_among (targets_outside s) x ≡ a → (b : Bool) → is_among xs x ≡ b → a ≡ b
      at true e true f = refl
      at true e false f = absurd (true≢false (sym (assigned_used x e) ∙ f))
      at false e true f = absurd (true≢false (sym (used_assigned x f) ∙ e))
      at false e false f = refl

  inside_used : (y : Variable) → is_among (targets body) y ≡ true → visible_behind body y ≡ true → is_among xs y ≡ true
  inside_used y t v = assigned_used y (is_outside_target s y (found.outside y t v) (same y ∙ t))

  -- none of them is an array, nor a variable of a loop
  none_of_arrays : (zs : List Variable) → ((y : Variable) → is_among zs y ≡ true → is_among (targets s) y ≡ true) → (y : Variable) → IsArray ds y → is_among zs y ≡ false
  none_of_arrays zs among y array = at (is_among zs y) refl
    where
      at : (b : Bool) → is_among zs y ≡ b → b ≡ false
      at true e = absurd (array (scalar_assigned ds y round.box s stays (among y e)))
      at false e = refl

  no_array : (y : Variable) → IsArray ds y → is_among xs y ≡ false
  no_array = none_of_arrays xs (λ y e. outside_target s y (used_assigned y e))

  none_spared : (y : Variable) → is_among (targets s) y ≡ false → is_among xs y ≡ false
  none_spared y none = sym (assigned y) ∙ no_outside_target s y none

  pub nest_keeps_apart : KeepsApart xs s
  nest_keeps_apart =
      body_keeps ds round.box s xs stmt stays
      (record { all = λ y t v. assigned_used y (is_outside_target s y v t); arrays = no_array; counters = λ y c. none_spared y (no_target y s (stmt.kept y c)) })

  pub same_nest : (Q : List Loop → Stmt → Type 0) (loops : List Loop) (inside : Stmt) → nest_of n s ≡ Some (loops, inside) → Q found.nest.loops body → Q loops inside
  same_nest Q loops inside is q = subst (λ (p : List Loop × Stmt). Q p.0 p.1) (same_Some (found.nest.loops, body) (loops, inside) (sym found.nest.is ∙ is)) q

  body_keeps_apart : (zs : List Variable) → AreItsOwn ds found.nest.inner.box body zs → KeepsApart zs body
  body_keeps_apart zs its = body_keeps ds found.nest.inner.box body zs found.inner found.nest.there.stays its

  pub inside_keeps_apart : KeepsApart xs body
  inside_keeps_apart = body_keeps_apart xs (record { all = inside_used; arrays = no_array; counters = λ y c. none_spared y (same y ∙ no_target y body (found.inner.kept y c)) })

  pub leaves_others : LeavesOthers s
  leaves_others outside e ran x seen other =
      sym (steady_keeps (λ y. visible_behind s y && not (is_among xs y)) s nest_keeps_apart.steady outside e ran x
      (and_from (visible_behind s x) (not (is_among xs x)) seen (ap not (sym (assigned x) ∙ other)))).locals

  -- at the turns of the loops round it
  module _ (around : List Loop) (entered : AreEntered no_loops around round) where
    pub at_turn : (outside : State) → IsTurn around outside → (steps : ℕ → ℤ) × AtTurn round.box (values_at round.levels steps) outside
    at_turn outside turn =
        let it = iterations_are_turns no_loops round around (λ j. pos 0) outside turn.turns turn.turn entered (outside_is_a_turn (λ j. pos 0) outside) turn.are turn.among in
        (it.0, subst (AtTurn round.box (values_at round.levels it.0)) (sym turn.is) it.1.at)

    pub ready : (loops : List Loop) (inside : Stmt) (outside : State) (us : List Vector) → nest_of n s ≡ Some (loops, inside) → IsTurn around outside → iterations loops outside ≡ Some us → IsReady loops inside outside us
    ready loops inside outside us is turn are =
        let at = at_turn outside turn in
        same_nest (λ ls b. iterations ls outside ≡ Some us → IsReady ls b outside us) loops inside is (λ are'. nest_ready ds round outer serial n s found.nest at.0 outside us at.1 are') are

    pub have_turns : HaveTurns around
    have_turns t = iterations_are_there no_loops round around (λ j. pos 0) t entered (outside_is_a_turn (λ j. pos 0) t)

    pub steps_are_read : HasStepsRead n s
    steps_are_read loops inside is = same_nest (λ ls b. AreStepsRead ls) loops inside is (steps_read round found.nest.loops found.nest.inner found.nest.entered)

    pub iterates : IterateAtTurns around n s
    iterates loops inside outside is turn =
        let at = at_turn outside turn in
        same_nest (λ ls b. IsSome (iterations ls outside)) loops inside is (iterations_are_there round found.nest.inner found.nest.loops at.0 outside found.nest.entered at.1)

    pub takes_updated : reduces used.reductions s ≡ true → TakesAtTurns ds used around s
    takes_updated updates scope order next next' tokens known outside reads turn met determined =
        let at = at_turn outside turn in
        operands_taken ds round around used.reductions s (at.0) short entered stays stmt.kept updates scope order next next' tokens known outside reads at.1 met determined

  module _
      (different : are_different (map (λ r. r.0) roles.reductions) ≡ true) (apart : list_all (is_plain roles.reductions) (assigned_first roles) ≡ true) (first : IsSome (definite no_privates s (λ x. not (is_among (assigned_first roles) x))))
      (last : (roles.lasts ≡ [] → ⊥) → AssignsAll (assigned_first roles) roles.lasts found.nest.body) where
    -- private and lastprivate variables are assigned before they are read
    pub first_used : (x : Variable) → is_among (assigned_first used) x ≡ true → is_among (assigned_first roles) x ≡ true
    first_used x h = second_of (is_among (targets_outside s) x) (is_among (assigned_first roles) x) (sym (used_first s roles x) ∙ h)

    -- more is known from the start, and so in the end
    more_assigned : AssignsAll (assigned_first roles) roles.lasts body → AssignsAll (assigned_first used) used.lasts body
    more_assigned all =
        let more = more_known.statements no_privates no_privates body (λ x. not (is_among (assigned_first roles) x)) all.known (λ x. not (is_among (assigned_first used) x)) (λ line x h. h) wider all.is in
        record { known = more.known; is = more.is; each = λ x h. more.more x (all.each x (used_last s roles x h)) }
      where
        wider : (x : Variable) → not (is_among (assigned_first roles) x) ≡ true → not (is_among (assigned_first used) x) ≡ true
        wider x h = at (is_among (assigned_first used) x) refl
          where
            at : (b : Bool) → is_among (assigned_first used) x ≡ b → not b ≡ true
            at true e = absurd (true≢false (sym h ∙ ap not (first_used x e)))
            at false e = refl

    -- where there are no lastprivate variables it reads nothing that is not known
    none_assigned : roles.lasts ≡ [] → AssignsAll (assigned_first used) used.lasts body
    none_assigned none =
        let found_first = body_first (assigned_first roles) (assigned_first used) n s found.nest.loops body found.nest.is (λ x h. (first_used x h, outside_visible s x (first_of (is_among (targets_outside s) x) (is_among (assigned_first roles) x) (sym (used_first s roles x) ∙ h)))) first in
        let left = some_there (definite no_privates body (λ x. not (is_among (assigned_first used) x))) found_first in
        record { known = left.0; is = left.1; each = λ x h. absurd (true≢false (sym (used_last s roles x h) ∙ ap (λ xs. is_among xs x) none)) }

    pub last_assigned : AssignsAll (assigned_first used) used.lasts body
    last_assigned = at roles.lasts refl
      where
        at : (xs : List Variable) → roles.lasts ≡ xs → AssignsAll (assigned_first used) used.lasts body
        at [] e = none_assigned e
        at (x ∷ xs) e = more_assigned (last (λ none. absurd (cc (e, none))))

    keeps_roles : reduces used.reductions s ≡ true → (outside : State) → AreAtHand used s outside → KeepsRoles used s body outside
    keeps_roles updates outside at =
        record {
          no_firsts = refl;
          no_conditionals = refl;
          whole = nest_keeps_apart;
          inside = inside_keeps_apart;
          declares_none = λ x h. outside_visible s x (used_assigned x h);
          scalars = at.scalars;
          apart = used_apart s roles apart;
          first = nest_first (assigned_first roles) (assigned_first used) s first_used first;
          last = last_assigned;
          updates = updates;
          different = used_different s roles different;
          taken = at.taken;
          numbers = at.numbers;
        }

    -- without reductions the body keeps to scalars that it assigns first
    plain_keeps : KeepsApart (targets_outside body) body
    plain_keeps =
        body_keeps_apart (targets_outside body)
        (record {
          all = λ y t v. is_outside_target body y v t;
          arrays = none_of_arrays (targets_outside body) (λ y e. same y ∙ outside_target body y e);
          counters = λ y c. no_outside_target body y (no_target y body (found.inner.kept y c));
        })

    plain_first : used.reductions ≡ [] → AssignsFirst (targets_outside body) body
    plain_first none = body_first (assigned_first roles) (targets_outside body) n s found.nest.loops body found.nest.is among first
      where
        there : (x : Variable) → is_among xs x ≡ true → is_among (assigned_first used) x ≡ true
        there x h = sym (or_false (is_among (assigned_first used) x)) ∙ sym (among_both (assigned_first used) [] x) ∙ sym (ap (λ (rs : List (Variable × ReduceOp)). is_among (assigned_first used ++ map (λ r. r.0) rs) x) none) ∙ h
          where
            or_false : (b : Bool) → (b || false) ≡ b
            or_false true = refl
            or_false false = refl

        among : (x : Variable) → is_among (targets_outside body) x ≡ true → (is_among (assigned_first roles) x ≡ true) × (visible_behind s x ≡ true)
        among x t =
            let used_there = inside_used x (outside_target body x t) (outside_visible body x t) in
            (first_used x (there x used_there), outside_visible s x (used_assigned x used_there))

    -- so it may be run in chunks, where its iterations are independent
    pub in_chunks : reduces used.reductions s ≡ true → (around : List Loop) → AreEntered no_loops around round → IsIndependentNest around n s → SharesInChunks used around n s
    in_chunks updates around entered independent =
        record {
          order = λ plain loop outside us is none turn locals are.
              let r = ready around entered loop.loops loop.body outside us is turn are in
              private_commute loop outside us none (same_nest (λ ls b. KeepsApart (targets_outside b) b) loop.loops loop.body is plain_keeps)
              (same_nest (λ ls b. AssignsFirst (targets_outside b) b) loop.loops loop.body is (plain_first plain)) locals r.differ r.turn (λ u v in_u in_v. independent.1 loop is outside us u v turn are in_u in_v);
          different = used_different s roles different;
          apart = used_apart s roles apart;
          chunks = λ loops inside outside start us chunks e is turn alone at may are all ran.
              let r = ready around entered loops inside outside us is turn are in
              join_in_place used n s loops inside outside start chunks e
              (record {
                nest = is;
                keeps = same_nest (λ ls b. KeepsRoles used s b outside) loops inside is (keeps_roles updates outside at);
                declares = alone;
                vectors = us;
                are = are;
                different = r.differ;
                turning = r.turn;
                independent = λ u v in_u in_v. independent.1 (plain_loop loops inside) is outside us u v turn are in_u in_v;
                whole = all;
                ran = ran;
              })
              may;
        }
