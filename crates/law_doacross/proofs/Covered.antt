-- Of two iterations of a shown nest that conflict, its sinks put one before the other.
use Rattle.std.specs.Prelude.{ℕ, true, ◌≡◌, ◌-◌, ◌≤◌, ◌⊎◌, ℤ, pos, List, length, map, Contains, Some, IsSome}
use Rattle.std.specs.List.{list_all}
use Rattle.std.proofs.Common.{refl, sym, ap, ◌∙◌, subst, arith, inl, inr}
use Rattle.std.proofs.lemmas.Option.{same_Some}
use Rattle.semantics.specs.Tree.{Stmt, Declaration}
use Rattle.semantics.specs.Meaning.State.{State}
use Rattle.semantics.specs.Loops.Nest.{Loop, Vector, nest_of, iterations}
use Rattle.semantics.specs.Loops.Access.{Conflict}
use Rattle.semantics.specs.Loops.Order.{Distance, Before}
use Rattle.nest_loop.specs.Turn.{AtTurn}
use Rattle.pairtest_counter.specs.Levels.{Nesting, IsTurn, values_at}
use Rattle.nest_space.specs.Space.{vectors}
use Rattle.pairtest_access.specs.Found.{inner_loops}
use Rattle.pairtest_cover.specs.Behind.{LiesBehind, LieApart, at_counters}
use Rattle.pairtest_cover.proofs.Leading.{lead_there}
use Rattle.flow_doacross.specs.Nests.{counts_up}
use Rattle.nest.specs.Nests.{Has, StaysInside}
use Rattle.deptest_verdict.specs.Shown.{IsShownBody, IsShownLoop, no_loops}
use Rattle.law_turns.specs.Turns.{IsIteration}
use Rattle.law_turns.proofs.Laws.{entered_are_levels, outside_is_a_turn, iterations_are_turns}
use Rattle.law_independence.specs.Inside.{LoopsAreRead}
use Rattle.law_independence.specs.IndependenceLaws.{IsNestOf}
use Rattle.law_independence.proofs.Counted.{counts_of}
use Rattle.law_independence.proofs.IndependentNests.{nest_there}
use Rattle.law_independence.proofs.LyingApart.{nest_counters, lie_apart, natural}
use Rattle.law_independence.proofs.Sums.{stretch}
use Rattle.law_doacross.specs.Covering.{ShownNestsAreCovered}
use Rattle.law_doacross.proofs.Counting.{HasSpace, space_there, iterations_there, same_numbers, moved_behind, stretch-length, entered_length}

-- ---- at a turn of the serial loops

module _ (ds : List Declaration) (sinks : List Distance) (round now : Nesting) (loops : List Loop) (body : Stmt) (steps : ℕ → ℤ) (outer : State) (us : List Vector)
    (nested : IsNestOf ds round loops now body) (shown : IsShownBody now (length round.levels) (map (λ l. l.most) (inner_loops 0 round.levels)) sinks body)
    (turn : IsTurn round.levels steps) (at : AtTurn round.box (values_at round.levels steps) outer) (are : iterations loops outer ≡ Some us) (up : list_all counts_up loops ≡ true) where
  -- an iteration's counters
  abbrev counters : (ℕ → ℤ) → List ℕ
  counters s = nest_counters round now s

  counters_are : (s : ℕ → ℤ) → counters s ≡ stretch (length round.levels) (length loops) (counts_of s)
  counters_are s = let many = entered_length loops round now nested.entered in ap (λ n. stretch (length round.levels) n (counts_of s)) (let same : length now.levels - length round.levels ≡ length loops = omega (arith, many) in same)

  module _ (space : HasSpace round now loops) where
    vectors_are : vectors space.turns ≡ us
    vectors_are = same_Some (vectors space.turns) us (sym (iterations_there round now loops space outer) ∙ are)

    vector_is : (u : Vector) (s : ℕ → ℤ) → IsIteration round now loops steps outer u s → u ≡ at_counters space.turns (counters s)
    vector_is u s it =
        same_numbers u (at_counters space.turns (counters s))
        (it.values ∙ space.values s (counts_of s) (natural ds sinks round now loops body steps outer nested shown turn s u it) ∙ ap (λ ks. map pos (at_counters space.turns ks)) (sym (counters_are s)))

    as_many : (s : ℕ → ℤ) → length (counters s) ≡ length space.turns
    as_many s = ap length (counters_are s) ∙ stretch-length (length loops) (length round.levels) (counts_of s) ∙ sym space.as_many

    -- some steps of a sink lead from one to the other
    lead : (sink : Distance) (m : ℕ) (u v : Vector) (s t : ℕ → ℤ) → Contains sinks sink → 1 ≤ m → Contains us u → Contains us v → IsIteration round now loops steps outer u s → IsIteration round now loops steps outer v t
        → LiesBehind m sink (counters s) (counters t) → Before us sinks u v
    lead sink m u v s t named once in_u in_v p q behind =
        let there = moved_behind m space.turns sink (counters s) (counters t) (as_many s) behind in
        let lies : LiesBehind m sink u v = subst (λ w. LiesBehind m sink w v) (sym (vector_is u s p)) (subst (LiesBehind m sink (at_counters space.turns (counters s))) (sym (vector_is v t q)) there) in
        subst (λ ws. Before ws sinks u v) vectors_are
        (lead_there space.turns sinks sink m u v space.rises named once (subst (λ ws. Contains ws u) (sym vectors_are) in_u) (subst (λ ws. Contains ws v) (sym vectors_are) in_v) lies)

    -- iterations that lie apart are ordered
    apart_ordered : (u v : Vector) (s t : ℕ → ℤ) → Contains us u → Contains us v → IsIteration round now loops steps outer u s → IsIteration round now loops steps outer v t
        → LieApart sinks (counters s) (counters t) → Before us sinks u v ⊎ Before us sinks v u
    apart_ordered u v s t in_u in_v p q l = go l.behind
      where
        go : LiesBehind l.times l.sink (counters s) (counters t) ⊎ LiesBehind l.times l.sink (counters t) (counters s) → Before us sinks u v ⊎ Before us sinks v u
        go (inl h) = inl (lead l.sink l.times u v s t l.named l.once in_u in_v p q h)
        go (inr h) = inr (lead l.sink l.times v u t s l.named l.once in_v in_u q p h)

  pub conflicts_ordered : (u v : Vector) → Contains us u → Contains us v → Conflict loops body outer u v → Before us sinks u v ⊎ Before us sinks v u
  conflicts_ordered u v in_u in_v conflict =
      let p = iterations_are_turns round now loops steps outer us u nested.entered at are in_u in
      let q = iterations_are_turns round now loops steps outer us v nested.entered at are in_v in
      let space = space_there loops round now p.0 up nested.entered nested.levels (p.1.whole turn) in
      by p.0 q.0 p.1 q.1 space (lie_apart ds sinks round now loops body steps outer nested shown turn u v p.0 q.0 p.1 q.1 conflict)
    where
      by : (s t : ℕ → ℤ) → IsIteration round now loops steps outer u s → IsIteration round now loops steps outer v t → HasSpace round now loops
          → LieApart sinks (counters s) (counters t) ⊎ LieApart sinks (counters t) (counters s) → Before us sinks u v ⊎ Before us sinks v u
      by s t p q space (inl l) = apart_ordered space u v s t in_u in_v p q l
      by s t p q space (inr l) = turned (apart_ordered space v u t s in_v in_u q p l)
        where
          turned : Before us sinks v u ⊎ Before us sinks u v → Before us sinks u v ⊎ Before us sinks v u
          turned (inl b) = inr b
          turned (inr b) = inl b

-- ---- a nest of the text

pub shown_nests_are_covered : ShownNestsAreCovered
shown_nests_are_covered ds serial round sinks n s short entered read stays shown up loop is outer us u v turn are in_u in_v =
    let nest = nest_there n ds round (length round.levels) (map (λ v. v.most) (inner_loops 0 round.levels)) sinks s shown (record { read = read; stays = stays }) in
    let same : (nest.loops, nest.body) ≡ (loop.loops, loop.body) = same_Some (nest.loops, nest.body) (loop.loops, loop.body) (sym nest.is ∙ is) in
    let it = iterations_are_turns no_loops round serial (λ j. pos 0) outer turn.turns turn.turn entered (outside_is_a_turn (λ j. pos 0) outer) turn.are turn.among in
    subst (λ (p : List Loop × Stmt). iterations p.0 outer ≡ Some us → Conflict p.0 p.1 outer u v → Before us sinks u v ⊎ Before us sinks v u) same
    (λ are'. conflicts_ordered ds sinks round nest.inner nest.loops nest.body it.0 outer us
    (record { short = short; levels = entered_are_levels no_loops round serial entered tt; entered = nest.entered; read = nest.there.read; stays = nest.there.stays }) nest.shown
    (it.1.whole tt) (subst (AtTurn round.box (values_at round.levels it.0)) (sym turn.is) it.1.at) are' (up nest.loops nest.body nest.is) u v in_u in_v) are

-- and it is one
pub shown_nest_is_there : (ds : List Declaration) (round : Nesting) (sinks : List Distance) (n : ℕ) (s : Stmt) → LoopsAreRead round.box s → Has (StaysInside ds) round.box s → IsShownLoop round sinks n s → IsSome (nest_of n s)
shown_nest_is_there ds round sinks n s read stays shown =
    subst IsSome (sym (nest_there n ds round (length round.levels) (map (λ v. v.most) (inner_loops 0 round.levels)) sinks s shown (record { read = read; stays = stays })).is) refl
