-- Where each pair of accesses is shown to be independent or ordered by a sink, iterations that conflict lie some steps of a sink apart.
use Rattle.std.specs.Prelude.{ℕ, zero, suc, ◌≡◌, ◌≢◌, ◌<◌, ◌≤◌, ◌+◌, ◌-◌, ℤ, pos, ◌⊎◌, List, [], ◌∷◌, ◌++◌, length, map, drop, All, Contains, Some, slice_get, unsigned_abs}
use Rattle.std.proofs.Common.{refl, sym, inl, inr, ap, ◌∙◌, subst, arith, ⊎_elim}
use Rattle.std.proofs.lemmas.Bool.{cases_lt}
use Rattle.std.proofs.lemmas.Option.{none-some, slice_get_within, slice_get_read, get_or_from_slice_get}
use Rattle.semantics.specs.Tree.{Stmt, Declaration}
use Rattle.semantics.specs.Meaning.State.{State}
use Rattle.semantics.specs.Meaning.Value.{values}
use Rattle.semantics.specs.Loops.Nest.{Loop, Vector, at_vector}
use Rattle.semantics.specs.Loops.Order.{Distance}
use Rattle.semantics.specs.Loops.Access as meant
use Rattle.semantics.specs.Loops.Access.{Conflict, Element, Touches, Reaches, accesses}
use Rattle.pairtest_counter.specs.Levels.{Nesting, AreLevels, IsTurn}
use Rattle.nest.specs.Nests.{lengths_of}
use Rattle.pairtest.specs.declared.access.Access.{Access}
use Rattle.pairtest.specs.declared.access.Nest.{Nest}
use Rattle.pairtest.specs.declared.access.Mode.TheVariants as found
use Rattle.pairtest.specs.DirectionVectors.{dimensions}
use Rattle.pairtest.specs.Meetings.{Turn, value_at, AreBelow, Meet}
use Rattle.pairtest.specs.Meetings as meetings
use Rattle.pairtest.proofs.Solutions.{refuted_pairs_do_not_meet_lem}
use Rattle.pairtest_cover.specs.Covered.{IsOrdered}
use Rattle.pairtest_cover.specs.Behind.{LieApart}
use Rattle.pairtest_cover.proofs.Apart.{covered_apart}
use Rattle.pairtest_access.specs.Sites.{Site}
use Rattle.pairtest_access.specs.Found.{AreFound, IsFound, inner_loops}
use Rattle.deptest_verdict.specs.Pairs.{IsShown, AreShown}
use Rattle.deptest_verdict.specs.Shown.{IsShownBody}
use Rattle.law_turns.specs.Turns.{AreEntered, IsIteration}
use Rattle.law_turns.proofs.Laws.{iterations_are_turns, entered_are_levels, turns_are_inside, turns_join, steps_tell_iterations}
use Rattle.law_turns.proofs.Joining.{contains_none, contains_first, contains_later, contains_cases}
use Rattle.law_independence.specs.Inside.{AreShort, HaveShort}
use Rattle.law_independence.specs.IndependenceLaws.{IsNestOf}
use Rattle.law_independence.proofs.Links.{Link, linked_site, linked}
use Rattle.law_independence.proofs.Sums.{stretch, stretch-join, stretch-same, stretch-tells}
use Rattle.law_independence.proofs.Counted.{AreNatural, counts_of, counters_natural, counters_below, AreWorth, HasCounters, each_worth, same_worth}

-- ---- lists

-- what holds of the elements from one on holds of a later one
from_there : {A : Type 0} (P : A → Type 0) (xs : List A) (i j : ℕ) (y : A) → i ≤ j → slice_get xs j ≡ Some y → All P (drop i xs) → P y
from_there P [] i j y le e all = absurd (none-some y e)
from_there P (x ∷ xs) zero j y le e all = subst P (get_or_from_slice_get (x ∷ xs) j y y e) (all j y (slice_get_within (x ∷ xs) j y e))
from_there P (x ∷ xs) (suc i) zero y le e all = absurd (omega arith)
from_there P (x ∷ xs) (suc i) (suc j) y le e all = from_there P xs i j y (omega arith) e all

-- the access that was found of a site
found_of : (outer : ℕ) (ss : List Site) (fs : List Access) (s : Site) → AreFound outer ss fs → Contains ss s → (f : Access) × Contains fs f × IsFound outer s f
found_of outer [] fs s are among = absurd (contains_none s among)
found_of outer (x ∷ ss) [] s are among = absurd are
found_of outer (x ∷ ss) (f ∷ fs) s are among =
    contains_cases x s ss
    (λ e. (f, contains_first f fs, subst (λ y. IsFound outer y f) e are.0))
    (λ h. let l = found_of outer ss fs s are.1 h in (l.0, contains_later f l.0 fs l.1, l.2)) among

pub place_of : {A : Type 0} (xs : List A) (x : A) → Contains xs x → (k : ℕ) × (slice_get xs k ≡ Some x)
place_of xs x h = (h.0, slice_get_read xs (length xs) h.0 x refl h.1 (sym h.2))

-- two accesses with the same array, of which one writes, are independent or ordered by a sink, one way or the other
ordered : (nest : Nest) (sinks : List Distance) (fs : List Access) (x y : Access) → AreShown nest sinks fs → Contains fs x → Contains fs y → x.array ≡ y.array → (x.mode ≡ found.Writes) ⊎ (y.mode ≡ found.Writes)
    → IsOrdered nest sinks x y ⊎ IsOrdered nest sinks y x
ordered nest sinks fs x y shown in_x in_y same writes =
    let i = place_of fs x in_x in
    let j = place_of fs y in_y in
    let one = shown i.0 x (slice_get_within fs i.0 x i.1) i.1 in
    let other = shown j.0 y (slice_get_within fs j.0 y j.1) j.1 in
    ⊎_elim
    (λ (less : i.0 < j.0). inl (from_there (IsShown nest sinks x) fs i.0 j.0 y (omega arith) j.1 one.1 (same, writes, one.0, other.0)))
    (λ (more : j.0 ≤ i.0). inr (from_there (IsShown nest sinks y) fs j.0 i.0 x more i.1 other.1 (sym same, turned, other.0, one.0)))
    (cases_lt i.0 j.0)
  where
    turned : (y.mode ≡ found.Writes) ⊎ (x.mode ≡ found.Writes)
    turned = ⊎_elim (λ (e : x.mode ≡ found.Writes). inr e) (λ (e : y.mode ≡ found.Writes). inl e) writes

-- ---- lengths

pub lengths_short : (ds : List Declaration) (x : ℕ) → HaveShort ds → AreShort (lengths_of (slice_get ds x))
lengths_short [] x h = tt
lengths_short (d ∷ ds) zero h = h.0
lengths_short (d ∷ ds) (suc x) h = lengths_short ds x h.1

-- ---- an access at an iteration

pub longer : (hs : List Loop) (before after : Nesting) → AreEntered before hs after → length before.levels ≤ length after.levels
longer [] before after entered = let same : length before.levels ≡ length after.levels = ap (λ (m : Nesting). length m.levels) entered in omega arith
longer (h ∷ hs) before after (s, v, is, level, rest) =
    let le : length (v ∷ before.levels) ≤ length after.levels = longer hs (record { box = s ∷ before.box; levels = v ∷ before.levels }) after rest in omega arith

-- the counters of the nest's loops at an iteration
abbrev pub nest_counters : Nesting → Nesting → (ℕ → ℤ) → List ℕ
nest_counters round now s = stretch (length round.levels) (length now.levels - length round.levels) (counts_of s)

module _ (ds : List Declaration) (sinks : List Distance) (round now : Nesting) (loops : List Loop) (body : Stmt) (steps : ℕ → ℤ) (outer : State)
    (nested : IsNestOf ds round loops now body) (shown : IsShownBody now (length round.levels) (map (λ l. l.most) (inner_loops 0 round.levels)) sinks body)
    (turn : IsTurn round.levels steps) where
  abbrev a : ℕ
  a = length round.levels

  abbrev b : ℕ
  b = length now.levels - length round.levels

  ab : a + b ≡ length now.levels
  ab = let le = longer loops round now nested.entered in omega arith

  -- an access that touches the element at the iteration of these steps, as the test of pairs has it
  record IsMade (s1 : ℕ → ℤ) (element : Element) (mode : meant.Mode) : Type 0 where
    access : Access
    among : Contains shown.found access
    array : access.array.0 ≡ element.array
    writes : mode ≡ meant.Writes → access.mode ≡ found.Writes
    place : Turn
    is : meetings.IsTurn shown.nest access place
    serial : place.serial ≡ stretch 0 a (counts_of s1)
    own : place.nest ≡ stretch a b (counts_of s1)
    worth : AreWorth place access.subscripts.items element.indexes

  now_levels : AreLevels now.box now.levels
  now_levels = entered_are_levels round now loops nested.entered nested.levels

  module _ (s1 : ℕ → ℤ) (u : Vector) (it : IsIteration round now loops steps outer u s1) where
    now_turn : IsTurn now.levels s1
    now_turn = it.whole turn

    module _ (element : Element) (mode : meant.Mode) (access : meant.Access) (reaches : Reaches access (at_vector loops u outer) element) (mode_is : mode ≡ access.mode)
        (site : Site) (there : Contains shown.sites site) (link : Link ds now site access) where
      abbrev c : ℕ
      c = length site.round.levels - length now.levels

      abc : (a + b) + c ≡ length site.round.levels
      abc = let le = longer access.inner now site.round link.entered in let both = ab in omega arith

      levels : AreLevels site.round.box site.round.levels
      levels = entered_are_levels now site.round access.inner link.entered now_levels

      inner_turn : (s2 : ℕ → ℤ) × IsIteration now site.round access.inner s1 (at_vector loops u outer) reaches.turn s2
      inner_turn = iterations_are_turns now site.round access.inner s1 (at_vector loops u outer) reaches.turns reaches.turn link.entered it.at reaches.are reaches.among

      abbrev s2 : ℕ → ℤ
      s2 = inner_turn.0

      whole : IsTurn site.round.levels s2
      whole = inner_turn.1.whole now_turn

      at_now : IsTurn now.levels s2
      at_now = ((turns_join now site.round access.inner s2 link.entered).0 whole).0

      at_round : IsTurn round.levels s2
      at_round = ((turns_join round now loops s2 nested.entered).0 at_now).0

      abbrev place : Turn
      place = record { serial = stretch 0 a (counts_of s2); nest = stretch a b (counts_of s2); inner = stretch (length now.levels) c (counts_of s2) }

      has_counters : HasCounters place (length site.round.levels) s2
      has_counters =
          let k = counts_of s2 in
          let begin : 0 + a ≡ a = omega arith in
          ap (λ n. stretch 0 a k ++ (stretch a b k ++ stretch n c k)) (sym ab)
          ∙ ap (λ ks. stretch 0 a k ++ ks) (stretch-join b c a k)
          ∙ ap (λ n. stretch 0 a k ++ stretch n (b + c) k) (sym begin)
          ∙ stretch-join a (b + c) 0 k
          ∙ ap (λ n. stretch 0 n k) (let whole_length = abc in omega arith)

      made : IsMade s1 element mode
      made =
          let f = found_of (length now.levels) shown.sites shown.found site shown.finds there in
          let le = longer loops round now nested.entered in
          let le' = longer access.inner now site.round link.entered in
          let few = (turns_are_inside site.round.box site.round.levels s2 levels whole).1 in
          let few_now = (turns_are_inside now.box now.levels s2 now_levels at_now).1 in
          let few_round = (turns_are_inside round.box round.levels s2 nested.levels at_round).1 in
          let agree : (j : ℕ) → j < length now.levels → counts_of s2 j ≡ counts_of s1 j = λ j lt. ap (λ z. unsigned_abs z) (inner_turn.1.outer_same j lt) in
          record {
            access = f.0;
            among = f.1;
            array = f.2.array ∙ link.array ∙ sym reaches.array;
            writes = λ e. f.2.mode ∙ link.found_writing (sym mode_is ∙ e);
            place = place;
            is = record {
              serial = subst (AreBelow place.serial) (sym shown.counts) (counters_below 0 a round.levels s2 (omega arith) few_round);
              nest_loops = subst (AreBelow place.nest) (sym shown.loops) (counters_below a b now.levels s2 (let both = ab in omega arith) few_now);
              inner = subst (AreBelow place.inner) (sym f.2.inner) (counters_below (length now.levels) c site.round.levels s2 (omega arith) few);
            };
            serial = stretch-same a 0 (counts_of s2) (counts_of s1) (λ j low lt. agree j (omega arith));
            own = stretch-same b a (counts_of s2) (counts_of s1) (λ j low lt. agree j (let both = ab in omega arith));
            worth =
                each_worth site.round s2 (at_vector access.inner reaches.turn (at_vector loops u outer)) place levels few inner_turn.1.at has_counters
                site.subscripts f.0.subscripts.items (lengths_of (slice_get ds site.array)) element.indexes f.2.subscripts link.stays (lengths_short ds site.array nested.short)
                (subst (λ es. values (at_vector access.inner reaches.turn (at_vector loops u outer)) es ≡ Some element.indexes) (sym link.subscripts) reaches.indexes);
          }

    made_by : (element : Element) (mode : meant.Mode) → Touches loops body outer u element mode → IsMade s1 element mode
    made_by element mode touches =
        let l = linked_site ds now shown.sites (accesses [] body) touches.access (linked ds now now [] body shown.sites refl shown.are nested.read nested.stays) touches.there in
        made element mode touches.access touches.reaches touches.mode_is l.0 l.1 l.2

    -- these counters are natural numbers, one for each loop that was entered
    pub natural : AreNatural (length now.levels) s1 (counts_of s1)
    natural = counters_natural now.levels s1 (turns_are_inside now.box now.levels s1 now_levels now_turn).1

  -- two iterations with the same counters of the nest are one
  same_nest : (s1 t1 : ℕ → ℤ) (u v : Vector) → IsIteration round now loops steps outer u s1 → IsIteration round now loops steps outer v t1 → stretch a b (counts_of s1) ≡ stretch a b (counts_of t1) → u ≡ v
  same_nest s1 t1 u v p q e =
      let both = ab in
      steps_tell_iterations round now loops steps outer u v s1 t1 p q
      (λ j le lt. natural s1 u p j lt ∙ ap pos (stretch-tells b a (counts_of s1) (counts_of t1) e j le (omega arith)) ∙ sym (natural t1 v q j lt))

  -- iterations that conflict lie some steps of a sink apart, one way or the other
  pub lie_apart : (u v : Vector) (s1 t1 : ℕ → ℤ) → IsIteration round now loops steps outer u s1 → IsIteration round now loops steps outer v t1 → Conflict loops body outer u v
      → LieApart sinks (nest_counters round now s1) (nest_counters round now t1) ⊎ LieApart sinks (nest_counters round now t1) (nest_counters round now s1)
  lie_apart u v s1 t1 p q conflict =
      let x = made_by s1 u p conflict.element conflict.first conflict.by_first in
      let y = made_by t1 v q conflict.element conflict.second conflict.by_second in
      let same_array : x.access.array ≡ y.access.array = λ i. record { 0 = (x.array ∙ sym y.array) i } in
      let writes : (x.access.mode ≡ found.Writes) ⊎ (y.access.mode ≡ found.Writes) =
      ⊎_elim (λ (e : conflict.first ≡ meant.Writes). inl (x.writes e)) (λ (e : conflict.second ≡ meant.Writes). inr (y.writes e)) conflict.one_writes in
      let agree : (j : ℕ) → j < a → counts_of s1 j ≡ counts_of t1 j = λ j lt. ap (λ z. unsigned_abs z) (p.outer_same j lt ∙ sym (q.outer_same j lt)) in
      let together : x.place.serial ≡ y.place.serial = x.serial ∙ stretch-same a 0 (counts_of s1) (counts_of t1) (λ j low lt. agree j (omega arith)) ∙ sym y.serial in
      let apart : x.place.nest ≢ y.place.nest = λ e. conflict.differ (same_nest s1 t1 u v p q (sym x.own ∙ e ∙ y.own)) in
      let there : All (λ d. value_at d.0 x.place ≡ value_at d.1 y.place) (dimensions x.access y.access) = same_worth x.place y.place x.access.subscripts.items y.access.subscripts.items conflict.element.indexes x.worth y.worth in
      let back : All (λ d. value_at d.0 y.place ≡ value_at d.1 x.place) (dimensions y.access x.access) = same_worth y.place x.place y.access.subscripts.items x.access.subscripts.items conflict.element.indexes y.worth x.worth in
      let one : Meet shown.nest x.access y.access x.place y.place = record { first = x.is; second = y.is; together = together; apart = apart; same_element = there } in
      let other : Meet shown.nest y.access x.access y.place x.place = record { first = y.is; second = x.is; together = sym together; apart = λ e. apart (sym e); same_element = back } in
      ⊎_elim
      (λ (o : IsOrdered shown.nest sinks x.access y.access).
      inl (subst (λ ks. LieApart sinks ks (nest_counters round now t1)) x.own (subst (λ ks. LieApart sinks x.place.nest ks) y.own (they_lie x.access y.access x.place y.place o one))))
      (λ (o : IsOrdered shown.nest sinks y.access x.access).
      inr (subst (λ ks. LieApart sinks ks (nest_counters round now s1)) y.own (subst (λ ks. LieApart sinks y.place.nest ks) x.own (they_lie y.access x.access y.place x.place o other))))
      (ordered shown.nest sinks shown.found x.access y.access shown.shown x.among y.among same_array writes)
    where
      they_lie : (x y : Access) (s t : Turn) → IsOrdered shown.nest sinks x y → Meet shown.nest x y s t → LieApart sinks s.nest t.nest
      they_lie x y s t (inl r) meet = absurd (refuted_pairs_do_not_meet_lem shown.nest x y s t r meet)
      they_lie x y s t (inr c) meet = covered_apart shown.nest sinks x y s t c meet
