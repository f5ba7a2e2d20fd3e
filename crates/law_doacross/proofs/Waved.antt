-- A doacross nest that is shown, wave by wave at each turn of the loops round it.
use Rattle.std.specs.Prelude.{ℕ, zero, suc, true, ◌≡◌, ◌<◌, ◌≤◌, ◌+◌, ◌-◌, ℤ, List, [], ◌∷◌, ◌++◌, length, map, take, reverse, filter, Contains, Some, IsSome}
use Rattle.std.specs.List.{AllPairs, AllByRecursion as Each, list_all}
use Rattle.std.proofs.Common.{refl, sym, ap, ◌∙◌, subst, arith, inl}
use Rattle.std.proofs.lemmas.Option.{same_Some}
use Rattle.semantics.specs.Tree.{Variable, Stmt, Declaration}
use Rattle.semantics.specs.Meaning.State.{State}
use Rattle.semantics.specs.Meaning.Runs.{Effect, run}
use Rattle.semantics.specs.Meaning.Agrees.{is_among}
use Rattle.semantics.specs.Loops.Nest.{Loop, Vector, nest_of, loop_values, at_value, iterations}
use Rattle.semantics.specs.Loops.Operator.{ReduceOp}
use Rattle.semantics.specs.Loops.Order.{Distance}
use Rattle.semantics.specs.Loops.Piece.{Roles, SharedLoop}
use Rattle.semantics.specs.Theorems.{IsTurn, IsCovered}
use Rattle.nest_loop.specs.declared.stride.Stride.{Stride}
use Rattle.nest_loop.specs.declared.stride.Direction.TheVariants.{Rising}
use Rattle.pairtest_counter.specs.declared.level.EnclosingLoop.{EnclosingLoop}
use Rattle.pairtest_counter.specs.Levels.{Nesting, values_at}
use Rattle.nest.specs.Nests.{Has, StaysInside}
use Rattle.nest_space.specs.Space.{Turns, counted, values_of}
use Rattle.nest_space.specs.Nests.{IsRunOf}
use Rattle.pairtest_access.specs.Found.{inner_loops}
use Rattle.flow.specs.Private.{is_private_body}
use Rattle.flow.specs.Roles.{LoopData, left_roles, KeepsItsRoles}
use Rattle.flow_doacross.specs.Nests.{counts_up}
use Rattle.deptest_verdict.specs.Shown.{IsShownBody, IsShownNest, IsShownLoop, no_loops}
use Rattle.law_commute.specs.Targets.{targets_outside, KeepsApart}
use Rattle.law_commute.proofs.Values.{first_of, second_of}
use Rattle.law_commute.specs.Joining.{DeclaresLocals, plain_loop}
use Rattle.law_roles.specs.Reducing.{takes_all}
use Rattle.law_roles.specs.Sharing.{assigned_first, role_variables, IsScalar}
use Rattle.law_turns.specs.Turns.{AreEntered}
use Rattle.law_turns.proofs.Iterating.{nested, StandsAt, outer_stands, run_is, loop_values_are, steps_with, turn_at}
use Rattle.law_waves.specs.Silent.{is_silent}
use Rattle.law_waves.specs.Rising.{TheyRise}
use Rattle.law_waves.specs.Doacross.{KeepsPrivates, IsDoacross}
use Rattle.law_waves.proofs.Doacross.{join}
use Rattle.law_waves.proofs.Iterating.{Pairs, all_pairs, rise}
use Rattle.law_waves.proofs.Rising.{respect}
use Rattle.law_independence.specs.Inside.{LoopsAreRead, HaveShort}
use Rattle.law_independence.specs.Said.{SaidInside}
use Rattle.law_independence.specs.OrderLaws.{used_roles, AreAtHand, WavesAtTurns, WavesInChunks, SharesAsNest}
use Rattle.law_independence.proofs.PrivateNests.{nest_first}
use Rattle.law_independence.proofs.ReorderedBodies.{IsStmtRead, IsNestRead, nest_read}
use Rattle.law_independence.proofs.ReorderedNests.{assigned, leaves_others, have_turns, steps_are_read, iterates, nest_keeps_apart, inside_keeps_apart, same_nest, used_assigned, at_turn, ready}
use Rattle.law_independence.proofs.RoleNests.{used_first}
use Rattle.law_independence.proofs.Targeted.{outside_visible}
use Rattle.law_doacross.specs.Waving.{SuitsWaves}
use Rattle.law_doacross.proofs.Counting.{IsUp, is_up}
use Rattle.law_doacross.proofs.Covered.{shown_nests_are_covered}
use Rattle.law_independence.proofs.LyingApart.{place_of}

-- ---- the values of each loop rise

abbrev up_by_one : Stride
up_by_one = record { direction = Rising; by = 1 }

each_above : (n v w : ℕ) → v < w → Each (λ z. v < z) (counted up_by_one w n)
each_above zero v w lt = tt
each_above (suc n) v w lt = (lt, each_above n v (w + 1) (omega (arith, lt)))

pairs_rise : (n v : ℕ) → Pairs (λ v w. v < w) (counted up_by_one v n)
pairs_rise zero v = tt
pairs_rise (suc n) v = (each_above n v (v + 1) (omega arith), pairs_rise n (v + 1))

they_rise : (n : ℕ) (hs : List Loop) (before after : Nesting) (outer : ℕ → ℤ) (st : State) → list_all counts_up hs ≡ true → AreEntered before hs after → StandsAt n before outer st → TheyRise hs st
they_rise n [] before after outer st up entered stands = tt
they_rise n (h ∷ hs) before after outer st up (s, v, is, level, rest) stands =
    λ vs e. (
      subst (AllPairs (λ v w. v < w)) (same vs e) (all_pairs (λ v w. v < w) (values_of run.0) (subst (λ t. Pairs (λ v w. v < w) (counted t run.0.first run.0.count)) (sym stride) (pairs_rise run.0.count run.0.first))),
      λ x among.
          let place = place_of (values_of run.0) x (subst (λ ws. Contains ws x) (sym (same vs e)) among) in
          they_rise n hs (nested before s v) after (steps_with n before outer st stands h s v is level place.0) (at_value st h.variable x) (second_of (counts_up h) (list_all counts_up hs) up) rest
          (turn_at n before outer st stands h s v is level place.0 x place.1),
    )
  where
    own : IsUp h v.canonical
    own = is_up before.box h v.canonical (first_of (counts_up h) (list_all counts_up hs) up) is.is

    run : (t : Turns) × IsRunOf v.canonical (values_at before.levels outer) t
    run = run_is n before outer st stands h s v is level

    same : (vs : List ℕ) → loop_values h st ≡ Some vs → values_of run.0 ≡ vs
    same vs e = same_Some (values_of run.0) vs (sym (loop_values_are n before outer st stands h s v is level) ∙ e)

    stride : run.0.stride ≡ up_by_one
    stride = run.1.stride ∙ (λ i. record { direction = own.rises i; by = own.by_one i })

-- ---- what is known of a nest that is not asked for its pairs

-- without a loop in the nest no two accesses meet
no_inner : (far : ℕ) (levels : List EnclosingLoop) → length levels ≤ far → [] ≡ map (λ v. v.most) (inner_loops far levels)
no_inner far levels le = none levels ∙ ap (λ k. map (λ v. v.most) (reverse (take k levels))) (let zero_left : 0 ≡ length levels - far = omega (arith, le) in zero_left)
  where
    none : (levels : List EnclosingLoop) → [] ≡ map (λ v. v.most) (reverse (take 0 levels))
    none [] = refl
    none (v ∷ vs) = refl

body_apart : (now : Nesting) (outer far : ℕ) (serial : List ℕ) (sinks : List Distance) (body : Stmt) → length now.levels ≤ far → IsShownBody now outer serial sinks body → IsShownBody now far serial [] body
body_apart now outer far serial sinks body le shown =
    record {
      sites = shown.sites;
      are = shown.are;
      found = shown.found;
      finds = shown.finds;
      nest = record shown.nest { loops = record shown.nest.loops { len = 0; items = []; ok = (refl, omega arith) } };
      counts = shown.counts;
      loops = no_inner far now.levels le;
      shown = λ k x lt e. ((shown.shown k x lt e).0, λ i d within pair. inl (λ m less. absurd (omega (arith, less))));
    }

nest_apart : (n : ℕ) (now : Nesting) (outer far : ℕ) (serial : List ℕ) (sinks : List Distance) (s : Stmt) → length now.levels + n ≤ far → IsShownNest now outer serial sinks n s → IsShownNest now far serial [] n s
nest_apart zero now outer far serial sinks s le shown = body_apart now outer far serial sinks s (omega (arith, le)) shown
nest_apart (suc n) now outer far serial sinks s le (h, body, is, inner, into, shown) =
    let more : length inner.levels ≡ suc (length now.levels) = ap (λ (m : Nesting). length m.levels) into.now in
    (h, body, is, inner, into, nest_apart n inner outer far serial sinks body (omega (arith, le, more)) shown)

-- ---- a nest

module _ (ds : List Declaration) (around : List Loop) (round : Nesting) (n : ℕ) (s : Stmt) (short : HaveShort ds) (entered : AreEntered no_loops around round) (there : LoopsAreRead round.box s) (stays : Has (StaysInside ds) round.box s)
    (stmt : IsStmtRead ds round.box s) (d : LoopData) (kept : KeepsItsRoles d n s) (sinks : List Distance) (shown : IsShownLoop round sinks n s) (suits : SuitsWaves sinks d n s) where
  abbrev far : ℕ
  far = length round.levels + n

  abbrev serial : List ℕ
  serial = map (λ v. v.most) (inner_loops 0 round.levels)

  found : IsNestRead ds round far serial n s
  found = nest_read n ds round far serial s (nest_apart n round (length round.levels) far serial sinks s (omega arith) shown) (record { read = there; stays = stays }) stmt

  abbrev roles : Roles
  roles = left_roles d

  abbrev used : Roles
  used = used_roles s roles

  private : is_private_body (role_variables roles) found.nest.body ≡ true
  private = subst (λ b. is_private_body (role_variables roles) b ≡ true) (ap (λ (p : List Loop × Stmt). p.1) (same_Some (kept.loops, kept.body) (found.nest.loops, found.nest.body) (sym kept.nest ∙ found.nest.is))) kept.keeps

  no_lasts : used.lasts ≡ []
  no_lasts = ap (filter (is_among (targets_outside s))) suits.no_lasts

  no_reductions : used.reductions ≡ []
  no_reductions =
      ap (λ (rs : List (Variable × ReduceOp)). filter (λ r. is_among (targets_outside s) r.0) (rs ++ d.carried)) suits.no_reductions
      ∙ ap (λ (rs : List (Variable × ReduceOp)). filter (λ r. is_among (targets_outside s) r.0) rs) suits.none_carried

  first_also : (x : Variable) → is_among (assigned_first used) x ≡ true → is_among (assigned_first roles) x ≡ true
  first_also x h = second_of (is_among (targets_outside s) x) (is_among (assigned_first roles) x) (sym (used_first s roles x) ∙ h)

  keeps_privates : (loops : List Loop) (body : Stmt) (outside : State) → nest_of n s ≡ Some (loops, body) → ((x : Variable) → is_among (role_variables used) x ≡ true → IsScalar outside x) → KeepsPrivates used s body outside
  keeps_privates loops body outside is scalars =
      record {
        no_firsts = refl;
        no_lasts = no_lasts;
        no_conditionals = refl;
        no_reductions = no_reductions;
        whole = nest_keeps_apart ds short round far serial n s found stmt stays roles private;
        inside = same_nest ds short round far serial n s found stmt stays roles private (λ ls b. KeepsApart (role_variables used) b) loops body is (inside_keeps_apart ds short round far serial n s found stmt stays roles private);
        declares_none = λ x h. outside_visible s x (used_assigned ds short round far serial n s found stmt stays roles private x h);
        scalars = scalars;
        first = nest_first (assigned_first roles) (assigned_first used) s first_also kept.first;
      }

  same_as_suits : (Q : List Loop → Stmt → Type 0) (loops : List Loop) (body : Stmt) → nest_of n s ≡ Some (loops, body) → Q suits.loops suits.body → Q loops body
  same_as_suits Q loops body is q = subst (λ (p : List Loop × Stmt). Q p.0 p.1) (same_Some (suits.loops, suits.body) (loops, body) (sym suits.nest ∙ is)) q

  rising : (loops : List Loop) (body : Stmt) (outside : State) → nest_of n s ≡ Some (loops, body) → IsTurn around outside → TheyRise loops outside
  rising loops body outside is turn =
      let at = at_turn ds short round far serial n s found stmt stays roles private around entered outside turn in
      they_rise (length round.levels) loops round found.nest.inner at.0 outside (same_as_suits (λ ls b. list_all counts_up ls ≡ true) loops body is suits.up)
      (same_nest ds short round far serial n s found stmt stays roles private (λ ls b. AreEntered round ls found.nest.inner) loops body is found.nest.entered) (outer_stands round at.0 outside at.1)

  covered : (loop : SharedLoop) → nest_of n s ≡ Some (loop.loops, loop.body) → IsCovered around loop sinks
  covered = shown_nests_are_covered ds around round sinks n s short entered there stays shown (λ loops body is. same_as_suits (λ ls b. list_all counts_up ls ≡ true) loops body is suits.up)

  -- what is known of it wherever it has a run at a turn, and its private variables are at hand
  pub nest_is_doacross : (loops : List Loop) (body : Stmt) (outside : State) (us : List Vector) (e : Effect)
      → nest_of n s ≡ Some (loops, body) → IsTurn around outside → DeclaresLocals s outside → AreAtHand used s outside
      → iterations loops outside ≡ Some us → run s outside ≡ Some e → IsDoacross used sinks n s loops body outside us e
  nest_is_doacross loops body outside us e is turn alone at are ran =
      let r = ready ds short round far serial n s found stmt stays roles private around entered loops body outside us is turn are in
      record {
        nest = is;
        keeps = keeps_privates loops body outside is at.scalars;
        silent = same_as_suits (λ ls b. is_silent b ≡ true) loops body is suits.silent;
        declares = alone;
        are = are;
        different = r.differ;
        turning = r.turn;
        ahead = suits.ahead;
        in_order = respect us sinks suits.ahead (rise loops outside us (rising loops body outside is turn) are);
        covered = λ u v in_u in_v conflict. covered (plain_loop loops body) is outside us u v turn are in_u in_v conflict;
        ran = ran;
      }

  waves : WavesAtTurns used sinks around n s
  waves loops body outside us e is turn alone at are ran = join used sinks n s loops body outside us e (nest_is_doacross loops body outside us e is turn alone at are ran)

  pub nest_shares_in_waves : (said : SaidInside) → said.sinks ≡ Some sinks → SharesAsNest ds d said around n s
  nest_shares_in_waves said doacross =
      record {
        nest = subst IsSome (sym suits.nest) refl;
        round = have_turns ds short round far serial n s found stmt stays roles private around entered;
        steps = steps_are_read ds short round far serial n s found stmt stays roles private around entered;
        assigned = assigned ds short round far serial n s found stmt stays roles private;
        there = iterates ds short round far serial n s found stmt stays roles private around entered;
        leaves = leaves_others ds short round far serial n s found stmt stays roles private;
        takes = λ scope order next next' tokens known outside reads turn met determined. inl (ap takes_all no_reductions);
        phases = inl suits.none_carried;
        shares = λ none no_sinks. absurd (cc (no_sinks, doacross));
        scans = λ x op sole target. absurd (cc (suits.none_carried, sole));
        waves = λ listed is. subst (λ distances. WavesInChunks used distances around n s) (same_Some sinks listed (sym doacross ∙ is)) (record { no_lasts = no_lasts; no_reductions = no_reductions; passes = waves });
      }
