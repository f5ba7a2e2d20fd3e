-- The values of a canonical loop's variable are those of its turns.
use Rattle.std.specs.Prelude.{ℕ, zero, suc, Bool, true, false, not, ◌≡◌, ◌==◌, ◌^◌, ◌<◌, ◌≤◌, ◌+ℤ◌, ◌≤ℤ◌, ℤ, pos, negsuc, unsigned_abs, List, [], ◌∷◌, Some, None, option_and_then}
use Rattle.std.proofs.Common.{refl, sym, ap, ◌∙◌, subst, cond, arith}
use Rattle.std.proofs.Math.Nat.{mod-eq_of_lt, mul-suc, mul-le-mul_right}
use Rattle.std.proofs.lemmas.Bool.{ltb-false, leb-false, eqb-true, ne_eqb}
use Rattle.std.proofs.lemmas.Int.{ints}
use Rattle.std.proofs.lemmas.Option.{none-some, same_Some, cond_some}
use Rattle.semantics.specs.Tree.{Variable, Expr, CompareOp, Less, LessEqual, Greater, GreaterEqual, Equal, NotEqual}
use Rattle.semantics.specs.Meaning.State.{State, Slot, Holds, Assigned, with_local, look, look_in, is_object_in, assign_at, overwritten}
use Rattle.semantics.specs.Meaning.Value.{value, source_value, holds, both, by_test, compare}
use Rattle.semantics.specs.Meaning.Runs.{incremented, assigned, one_write, greatest_trip_count}
use Rattle.semantics.specs.Loops.Nest.{Loop, values_from, at_value, loop_values}
use Rattle.semantics.proofs.NestLaw.{local_same, local_twice}
use Rattle.affine.specs.declared.interval.Side.{Side}
use Rattle.affine.specs.Affine.{Affine, term_sum, value as form_value}
use Rattle.affine_expr.specs.Forms.{is_counter, form_of}
use Rattle.nest_loop.specs.declared.stride.Direction.{Direction}
use Rattle.nest_loop.specs.declared.stride.Direction.TheVariants.{Rising, Falling}
use Rattle.nest_loop.specs.declared.stride.Bound.{Bound}
use Rattle.nest_loop.specs.declared.stride.Bound.TheVariants.{Strict, Inclusive, Unequal}
use Rattle.nest_loop.specs.declared.head.Canonical.{Canonical}
use Rattle.nest_loop.specs.Canonical.{bound_of}
use Rattle.nest_loop.specs.Sides.{after_steps, end_shift, end_of, IsBefore, IsCount, Room, IsModest}
use Rattle.nest_loop.specs.Turn.{HoldsValue, HoldCounters}
use Rattle.nest_loop.proofs.FormValues.{form_number}
use Rattle.nest_loop.proofs.Ways.{stepped, IsOn, IsFit, starts, goes_on}
use Rattle.nest_loop.proofs.Heads.{IsHead, head_of}
use Rattle.nest_loop.proofs.Increments.{steps_to}
use Rattle.nest_space.specs.Space.{Turns, moved, counted, values_of}
use Rattle.nest_space.specs.Nests.{IsRunOf}
use Rattle.nest_space.specs.Heads.{IsHeadOf}

-- another local is as it was
other_local : (s : State) (x : Variable) (slot : Slot) (y : Variable) → (y == x) ≡ false → (with_local s x slot).locals y ≡ s.locals y
other_local s x slot y e = ap (λ b. cond b slot (s.locals y)) e

same_number : (a b : ℕ) → not (a == b) ≡ false → a ≡ b
same_number a b h = go (a == b) refl h
  where
    go : (t : Bool) → (a == b) ≡ t → not t ≡ false → a ≡ b
    go true e h = eqb-true a b e
    go false e h = absurd cc

-- where the test fails the value has passed the end
past : (op : CompareOp) (d : Direction) (bound : Bound) (by limit v : ℕ) → bound_of op (record { direction = d; by = by }) ≡ Some bound → compare op v limit ≡ false
    → IsBefore d (pos v) (pos limit +ℤ end_shift d bound) → ⊥
past Less Rising bound s limit v e h before =
    let before' = subst (λ b. IsBefore Rising (pos v) (pos limit +ℤ end_shift Rising b)) (sym (same_Some Strict bound e)) before in
    let out = ltb-false v limit h in absurd (omega (arith, ints))
past LessEqual Rising bound s limit v e h before =
    let before' = subst (λ b. IsBefore Rising (pos v) (pos limit +ℤ end_shift Rising b)) (sym (same_Some Inclusive bound e)) before in
    let out = leb-false v limit h in absurd (omega (arith, ints))
past Greater Falling bound s limit v e h before =
    let before' = subst (λ b. IsBefore Falling (pos v) (pos limit +ℤ end_shift Falling b)) (sym (same_Some Strict bound e)) before in
    let out = ltb-false limit v h in absurd (omega (arith, ints))
past GreaterEqual Falling bound s limit v e h before =
    let before' = subst (λ b. IsBefore Falling (pos v) (pos limit +ℤ end_shift Falling b)) (sym (same_Some Inclusive bound e)) before in
    let out = leb-false limit v h in absurd (omega (arith, ints))
past NotEqual Rising bound s limit v e h before =
    let before' = subst (λ b. IsBefore Rising (pos v) (pos limit +ℤ end_shift Rising b)) (sym (cond_some (s == 1) Unequal bound e).1) before in
    let same = same_number v limit h in absurd (omega (arith, ints))
past NotEqual Falling bound s limit v e h before =
    let before' = subst (λ b. IsBefore Falling (pos v) (pos limit +ℤ end_shift Falling b)) (sym (cond_some (s == 1) Unequal bound e).1) before in
    let same = same_number v limit h in absurd (omega (arith, ints))
past Less Falling bound s limit v e h before = none-some bound e
past LessEqual Falling bound s limit v e h before = none-some bound e
past Greater Rising bound s limit v e h before = none-some bound e
past GreaterEqual Rising bound s limit v e h before = none-some bound e
past Equal Rising bound s limit v e h before = none-some bound e
past Equal Falling bound s limit v e h before = none-some bound e

-- a step that stays small does not wrap
unwrapped : (d : Direction) (by v : ℕ) → v ≤ 2 ^ 33 → by < 2 ^ 31 → stepped d by v ≤ 2 ^ 33 → stepped d by v ≡ moved d v by
unwrapped Rising s v small short next = mod-eq_of_lt (omega arith)
unwrapped Falling s v small short next = omega arith

-- a step that falls and stays small begins above it
abbrev Above : Direction → ℕ → ℕ → Type 0
Above Rising s v = Unit {0}
Above Falling s v = s ≤ v

above : (d : Direction) (s v : ℕ) → v ≤ 2 ^ 33 → s < 2 ^ 31 → stepped d s v ≤ 2 ^ 33 → Above d s v
above Rising s v small short next = tt
above Falling s v small short next = omega arith

-- one step more, from the value behind a step
further : (d : Direction) (s v k : ℕ) → Above d s v → after_steps (record { direction = d; by = s }) (pos (moved d v s)) k ≡ after_steps (record { direction = d; by = s }) (pos v) (suc k)
further Rising s v k le = let more = mul-suc s k in omega (arith, ints)
further Falling s v k le = let more = mul-suc s k in omega (arith, ints)

-- the turns that are left behind one of them
fewer : (d : Direction) (s : ℕ) (end : ℤ) (v m : ℕ) → Above d s v → IsCount (record { direction = d; by = s }) (pos v) end (suc m) → IsCount (record { direction = d; by = s }) (pos (moved d v s)) end m
fewer d s end v m le c =
    record {
      counts = λ k. (
        λ lt. subst (λ (z : ℤ). IsBefore d z end) (sym (further d s v k le)) ((c.counts (suc k)).0 (omega arith)),
        λ before. let lt : suc k < suc m = (c.counts (suc k)).1 (subst (λ (z : ℤ). IsBefore d z end) (further d s v k le) before) in omega arith,
      );
    }

at_start : (d : Direction) (s v : ℕ) → after_steps (record { direction = d; by = s }) (pos v) 0 ≡ pos v
at_start Rising s v = omega (arith, ints)
at_start Falling s v = omega (arith, ints)

-- the end lies at most one number behind the limit
shift_small : (d : Direction) (bound : Bound) → (negsuc 0 ≤ℤ end_shift d bound) × (end_shift d bound ≤ℤ pos 1)
shift_small Rising Strict = (omega (arith, ints), omega (arith, ints))
shift_small Rising Inclusive = (omega (arith, ints), omega (arith, ints))
shift_small Rising Unequal = (omega (arith, ints), omega (arith, ints))
shift_small Falling Strict = (omega (arith, ints), omega (arith, ints))
shift_small Falling Inclusive = (omega (arith, ints), omega (arith, ints))
shift_small Falling Unequal = (omega (arith, ints), omega (arith, ints))

-- a loop turns at most 2^33 times
few_turns : (d : Direction) (s first limit n : ℕ) (shift : ℤ) → 1 ≤ s → first ≤ 2 ^ 32 → limit ≤ 2 ^ 32 → (negsuc 0 ≤ℤ shift) × (shift ≤ℤ pos 1) → IsCount (record { direction = d; by = s }) (pos first) (pos limit +ℤ shift) n → n ≤ 2 ^ 33
few_turns d s first limit zero shift least f l near c = omega arith
few_turns Rising s first limit (suc n) shift least f l near c =
    let before = (c.counts n).0 (omega arith) in
    let far = mul-le-mul_right n least in
    let high = near.1 in
    omega (arith, ints)
few_turns Falling s first limit (suc n) shift least f l near c =
    let before = (c.counts n).0 (omega arith) in
    let far = mul-le-mul_right n least in
    let low = near.0 in
    omega (arith, ints)

-- a loop of the text at given values of the variables round it, its bounds as numbers
module _ (box : List Side) (values : Variable → ℤ) (s : State) (counters : HoldCounters box values s) (h : Loop) (l : Canonical) (is : IsHeadOf box h l) (t : Turns) (run : IsRunOf l values t) where
  head : IsHead box h.variable h.start h.test h.step l
  head = head_of box h.variable h.start h.test h.step l is.is

  abbrev first : ℕ
  first = t.first

  abbrev limit : ℕ
  limit = unsigned_abs (form_value l.limit values)

  natural : (z : ℤ) → pos 0 ≤ℤ z → z ≡ pos (unsigned_abs z)
  natural z low = omega (arith, ints)

  limit_is : form_value l.limit values ≡ pos limit
  limit_is = natural (form_value l.limit values) run.stays.limit.above

  -- the variables round it hold their values still
  pub counters_at : (v : ℕ) → HoldCounters box values (at_value s h.variable v)
  counters_at v y c = subst (λ slot. HoldsValue slot (values y)) (sym (other_local s h.variable (Holds v) y (apart y c))) (counters y c)
    where
      apart : (y : Variable) → is_counter box y ≡ true → (y == h.variable) ≡ false
      apart y c = ne_eqb y h.variable (λ e. let same = ap (is_counter box) e in let other = is.other in cc)

  -- an expression whose form is modest
  bound_value : (u : State) (e : Expr) (f : Affine) → HoldCounters box values u → form_of box e ≡ Some f → IsModest (form_value f values) → value u e ≡ Some (unsigned_abs (form_value f values))
  bound_value u e f held reads modest =
      let low = modest.above in
      let high = modest.below in
      let n = form_number box values u held e f reads low (omega (arith, ints)) in
      n.1 ∙ ap (λ (z : ℤ). Some (unsigned_abs z)) (sym n.2)

  abbrev here : ℕ → State
  here v = at_value s h.variable v

  seen : (v : ℕ) → (here v).locals h.variable ≡ Holds v
  seen v = local_same s h.variable (Holds v)

  tested : (v : ℕ) → holds (here v) h.test ≡ Some (compare head.op v limit)
  tested v =
      ap (holds (here v)) head.test_is
      ∙ ap (λ slot. both (compare head.op) (look_in slot (here v) h.variable []) (value (here v) head.to)) (seen v)
      ∙ ap (λ o. both (compare head.op) (Some v) o) (bound_value (here v) head.to l.limit (counters_at v) head.last run.stays.limit)

  abbrev next : ℕ → ℕ
  next v = stepped l.stride.direction l.stride.by v

  -- the step assigns the next value
  stepping : (v : ℕ) → incremented (here v) h.step ≡ Some (one_write (Assigned h.variable [] (next v)))
  stepping v =
      let to = steps_to is.scope is.small (here v) h.variable v (seen v) l.stride is.reads head.stride in
      to.assigns
      ∙ ap (λ o. assigned (here v) h.variable (Some []) o) to.next.is
      ∙ ap (λ slot. cond (is_object_in slot (here v) h.variable []) (Some (one_write (Assigned h.variable [] (next v)))) None) (seen v)

  after : (v w : ℕ) → overwritten (here v) (Assigned h.variable [] w ∷ []) ≡ here w
  after v w = ap (λ slot. assign_at slot (here v) h.variable [] w) (seen v) ∙ local_twice s h.variable (Holds v) (Holds w)

  small_bound : (z : ℤ) → IsModest z → unsigned_abs z ≤ 2 ^ 32
  small_bound z m = let low = m.above in let high = m.below in omega (arith, ints)

  fit : IsFit l.stride.by first limit
  fit =
      let to = steps_to is.scope is.small (here 0) h.variable 0 (seen 0) l.stride is.reads head.stride in
      record {
        least = to.next.least;
        short = to.next.short;
        first_within = subst (λ (z : ℤ). unsigned_abs z ≤ 2 ^ 32) run.first (small_bound (form_value l.start values) run.stays.start);
        limit_within = small_bound (form_value l.limit values) run.stays.limit;
      }

  room : Room l.stride.direction l.bound l.stride.by (pos first) (pos limit)
  room = subst (λ z. Room l.stride.direction l.bound l.stride.by z (pos limit)) run.first (subst (λ z. Room l.stride.direction l.bound l.stride.by (form_value l.start values) z) limit_is run.stays.room)

  abbrev end : ℤ
  end = pos limit +ℤ end_shift l.stride.direction l.bound

  -- the test fails
  stops : (n v : ℕ) → compare head.op v limit ≡ false → values_from n h (here v) ≡ Some []
  stops zero v no_more = ap (λ o. by_test o None (Some [])) (tested v ∙ ap Some no_more)
  stops (suc n) v no_more = ap (λ o. by_test o (both (λ w ws. w ∷ ws) (look (here v) h.variable []) (option_and_then (λ e. values_from n h (overwritten (here v) e.writes)) (incremented (here v) h.step))) (Some [])) (tested v ∙ ap Some no_more)

  -- it holds
  turns : (n v : ℕ) → compare head.op v limit ≡ true → values_from (suc n) h (here v) ≡ both (λ w ws. w ∷ ws) (Some v) (values_from n h (here (next v)))
  turns n v more =
      ap (λ o. by_test o (both (λ w ws. w ∷ ws) (look (here v) h.variable []) (option_and_then (λ e. values_from n h (overwritten (here v) e.writes)) (incremented (here v) h.step))) (Some [])) (tested v ∙ ap Some more)
      ∙ ap (λ slot. both (λ w ws. w ∷ ws) (look_in slot (here v) h.variable []) (option_and_then (λ e. values_from n h (overwritten (here v) e.writes)) (incremented (here v) h.step))) (seen v)
      ∙ ap (λ o. both (λ w ws. w ∷ ws) (Some v) (option_and_then (λ e. values_from n h (overwritten (here v) e.writes)) o)) (stepping v)
      ∙ ap (λ u. both (λ w ws. w ∷ ws) (Some v) (values_from n h u)) (after v (next v))

  abbrev On : ℕ → Type 0
  On v = IsOn l.stride.direction l.bound l.stride.by first limit v

  -- so many turns are left
  abbrev Left : ℕ → ℕ → Type 0
  Left v m = IsCount l.stride (pos v) end m

  -- a value on the way: the test holds where a turn is left
  begun : (v m : ℕ) → On v → Left v m → compare head.op v limit ≡ true → 0 < m
  begun v m on left more =
      let goes = goes_on head.op l.stride.direction l.bound l.stride.by first limit v head.bound fit room on more in
      (left.counts 0).1 (subst (λ (z : ℤ). IsBefore l.stride.direction z end) (sym (at_start l.stride.direction l.stride.by v)) goes.before)

  ended : (v m : ℕ) → Left v m → compare head.op v limit ≡ false → 0 < m → ⊥
  ended v m left no_more lt =
      past head.op l.stride.direction l.bound l.stride.by limit v head.bound no_more
      (subst (λ (z : ℤ). IsBefore l.stride.direction z end) (at_start l.stride.direction l.stride.by v) ((left.counts 0).0 lt))

  walk : (m n v : ℕ) → m ≤ n → On v → Left v m → values_from n h (here v) ≡ Some (counted l.stride v m)
  walk zero n v le on left = go (compare head.op v limit) refl
    where
      go : (b : Bool) → compare head.op v limit ≡ b → values_from n h (here v) ≡ Some []
      go false e = stops n v e
      go true e = let lt = begun v zero on left e in absurd (omega arith)
  walk (suc m) zero v le on left = absurd (omega arith)
  walk (suc m) (suc n) v le on left = go (compare head.op v limit) refl (λ w on' left'. walk m n w (omega arith) on' left')
    where
      go : (b : Bool) → compare head.op v limit ≡ b → ((w : ℕ) → On w → Left w m → values_from n h (here w) ≡ Some (counted l.stride w m))
          → values_from (suc n) h (here v) ≡ Some (counted l.stride v (suc m))
      go false e rest = absurd (ended v (suc m) left e (omega arith))
      go true e rest =
          let goes = goes_on head.op l.stride.direction l.bound l.stride.by first limit v head.bound fit room on e in
          let same = unwrapped l.stride.direction l.stride.by v on.small fit.short goes.next.small in
          let high = above l.stride.direction l.stride.by v on.small fit.short goes.next.small in
          turns n v e
          ∙ ap (λ w. both (λ w ws. w ∷ ws) (Some v) (values_from n h (here w))) same
          ∙ ap (λ o. both (λ w ws. w ∷ ws) (Some v) o) (rest (moved l.stride.direction v l.stride.by) (subst On same goes.next) (fewer l.stride.direction l.stride.by end v m high left))

  left_first : Left first t.count
  left_first = subst (λ (z : ℤ). IsCount l.stride z end t.count) run.first (subst (λ (z : ℤ). IsCount l.stride (form_value l.start values) z t.count) end_is run.count)
    where
      turned : (a b c : ℤ) → (a +ℤ b) +ℤ c ≡ (a +ℤ c) +ℤ b
      turned a b c = omega (arith, ints)

      end_is : form_value (end_of l) values ≡ end
      end_is = turned l.limit.constant (end_shift l.stride.direction l.bound) (term_sum l.limit.terms values) ∙ ap (λ (z : ℤ). z +ℤ end_shift l.stride.direction l.bound) limit_is

  -- the values of its variable are those of its turns
  pub values_are : loop_values h s ≡ Some (values_of t)
  unfolding greatest_trip_count
  values_are =
      let begins : source_value s h.start ≡ Some first =
      ap (source_value s) head.start_is ∙ bound_value s head.from l.start counters head.first run.stays.start ∙ ap (λ (z : ℤ). Some (unsigned_abs z)) run.first in
      let few = few_turns l.stride.direction l.stride.by first limit t.count (end_shift l.stride.direction l.bound) fit.least fit.first_within fit.limit_within (shift_small l.stride.direction l.bound) left_first in
      ap (option_and_then (λ v. values_from greatest_trip_count h (at_value s h.variable v))) begins
      ∙ walk t.count greatest_trip_count first (omega arith) (starts l.stride.direction l.bound l.stride.by first limit fit room) left_first
      ∙ ap (λ st. Some (counted st first t.count)) (sym run.stride)
