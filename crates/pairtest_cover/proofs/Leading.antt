-- In a rectangular nest whose loops rise by 1 a sink's steps lead from an iteration to each that lies so far behind it.
use Rattle.std.proofs.Common.{◌≡◌, ◌⊎◌, inl, inr, ℕ, ℤ, pos, negsuc, zero, suc, ◌+◌, ◌-◌, ◌*◌, ◌<◌, ◌≤◌, ◌+ℤ◌, ◌-ℤ◌, ◌*ℤ◌, Bool, true, false, ◌&&◌, ◌||◌, nat_eq, List, [], ◌∷◌, map, length, get_or, Contains, Option, Some, None, if◌then◌else◌, refl, sym, ap, ◌∙◌, subst, arith, suc-mul, one-mul}
use Rattle.std.specs.Prelude.{slice_get}
use Rattle.std.specs.List.{cons_option}
use Rattle.std.proofs.lemmas.Int.{ints}
use Rattle.std.proofs.lemmas.Bool.Decides.{Decides-eqb}
use Rattle.std.proofs.lemmas.Option.{slice_get_read, same_Some, none-some}
use lib.Pointwise.{pointwise}
use Rattle.semantics.specs.Meaning.Value.{both}
use Rattle.semantics.specs.Loops.Nest.{Vector}
use Rattle.semantics.specs.Loops.Order.{Distance, as_number, before_by, among, inside, sinks_of, Before, sink, through}
use Rattle.nest_loop.specs.declared.stride.Direction.{Direction}
use Rattle.nest_loop.specs.declared.stride.Direction.TheVariants.{Rising}
use Rattle.nest_space.specs.Space.{Turns, moved, vectors, values_of}
use Rattle.nest_space.proofs.Counted.{found_at, reached}
use Rattle.nest_space.proofs.Places.{pair_found, never_empty, number_law}
use Rattle.pairtest.specs.Meetings.{AreBelow}
use Rattle.pairtest.proofs.Solutions.{zero-times}
use Rattle.pairtest_cover.specs.Behind.{LiesBehind, EachRisesByOne, SinksLeadThere, at_counters, CountersAreOrdered}

-- ---- the box of the values

abbrev InBox : List Turns → Vector → Type 0
InBox [] [] = Unit {0}
InBox [] (v ∷ vs) = ⊥
InBox (t ∷ ts) [] = ⊥
InBox (t ∷ ts) (v ∷ vs) = (t.first ≤ v) × (v < t.first + t.count) × InBox ts vs

moved_by_one : (d : Direction) (by first k : ℕ) → d ≡ Rising → by ≡ 1 → moved d first (by * k) ≡ first + k
moved_by_one d by first k e f =
    ap (λ (d : Direction). moved d first (by * k)) e ∙ ap (λ (n : ℕ). first + n * k) f ∙ ap (λ (n : ℕ). first + n) (one-mul k)

in_box : (ts : List Turns) (k : ℕ) (u : Vector) → EachRisesByOne ts → slice_get (vectors ts) k ≡ Some u → InBox ts u
in_box [] zero u rise e = subst (InBox []) (same_Some [] u e) tt
in_box [] (suc k) u rise e = absurd (none-some u e)
in_box (t ∷ ts) k [] rise e = never_empty (values_of t) (vectors ts) k e
in_box (t ∷ ts) k (x ∷ u) rise e =
    let p = pair_found (values_of t) (vectors ts) k x u e in
    let at = found_at t p.outer x p.value in
    let is : x ≡ t.first + p.outer = at.is ∙ moved_by_one t.stride.direction t.stride.by t.first p.outer rise.0 rise.1 in
    (omega (arith, is), omega (arith, is, at.turn), in_box ts p.inner u rise.2 p.vector)

record IsThere (ts : List Turns) (u : Vector) : Type 0 where
  number : ℕ
  is : slice_get (vectors ts) number ≡ Some u

there : (ts : List Turns) (u : Vector) → EachRisesByOne ts → InBox ts u → IsThere ts u
there [] [] rise box = record { number = 0; is = refl }
there [] (x ∷ u) rise box = absurd box
there (t ∷ ts) [] rise box = absurd box
there (t ∷ ts) (x ∷ u) rise (least, most, box) =
    let rest = there ts u rise.2 box in
    let k : ℕ = x - t.first in
    let is : x ≡ t.first + k = omega (arith, least) in
    let steps : t.stride.by * k ≡ t.stride.by * k = refl in
    let value = reached t x (t.stride.by * k) k (is ∙ sym (moved_by_one t.stride.direction t.stride.by t.first k rise.0 rise.1)) (omega (arith, least, most)) steps in
    record { number = _; is = number_law t ts k rest.number x u value rest.is }

-- ---- iterations of the space

itself : (u : Vector) → pointwise nat_eq u u ≡ true
itself [] = refl
itself (x ∷ u) = both_true (nat_eq x x) (pointwise nat_eq u u) ((Decides-eqb x x).1 refl) (itself u)
  where
    both_true : (a b : Bool) → a ≡ true → b ≡ true → (a && b) ≡ true
    both_true true b e f = f
    both_true false b e f = e

or_left : (a b : Bool) → a ≡ true → (a || b) ≡ true
or_left true b e = refl
or_left false b e = absurd cc

or_right : (a b : Bool) → b ≡ true → (a || b) ≡ true
or_right true b e = refl
or_right false b e = e

among_at : (space : List Vector) (k : ℕ) (u : Vector) → slice_get space k ≡ Some u → among space u ≡ true
among_at [] k u e = absurd (none-some u e)
among_at (v ∷ space) zero u e = or_left (pointwise nat_eq u v) (among space u) (subst (λ (w : Vector). pointwise nat_eq u w ≡ true) (sym (same_Some v u e)) (itself u))
among_at (v ∷ space) (suc k) u e = or_right (pointwise nat_eq u v) (among space u) (among_at space k u e)

among_some : (u : Vector) (o : Option Vector) (us : List Vector) → o ≡ Some u → among (cons_option o us) u ≡ true
among_some u None us e = absurd (none-some u e)
among_some u (Some v) us e = or_left (pointwise nat_eq u v) (among us u) (subst (λ (w : Vector). pointwise nat_eq u w ≡ true) (sym (same_Some v u e)) (itself u))

among_more : (u : Vector) (o : Option Vector) (us : List Vector) → among us u ≡ true → among (cons_option o us) u ≡ true
among_more u None us e = e
among_more u (Some v) us e = or_right (pointwise nat_eq u v) (among us u) e

among_sinks : (space : List Vector) (ds : List Distance) (d : Distance) (u v : Vector) (k : ℕ) → k < length ds → get_or ds k d ≡ d → inside space (before_by v d) ≡ Some u
    → among (sinks_of space ds v) u ≡ true
among_sinks space [] d u v k l e f = absurd (omega (arith, l))
among_sinks space (c ∷ ds) d u v zero l e f = among_some u (inside space (before_by v c)) (sinks_of space ds v) (ap (λ (b : Distance). inside space (before_by v b)) e ∙ f)
among_sinks space (c ∷ ds) d u v (suc k) l e f = among_more u (inside space (before_by v c)) (sinks_of space ds v) (among_sinks space ds d u v k (omega (arith, l)) e f)

is_inside : (space : List Vector) (u : Vector) → among space u ≡ true → inside space (Some u) ≡ Some u
is_inside space u e = ap (λ (b : Bool). if b then Some u else None) e

-- a vector of the space that lies the distance of a sink before another is one of its sinks
sink_there : (space : List Vector) (ds : List Distance) (d : Distance) (u v : Vector) → Contains ds d → among space u ≡ true → among space v ≡ true → before_by v d ≡ Some u → Before space ds u v
sink_there space ds d u v (k, l, e) a b f = sink (b, among_sinks space ds d u v k l e (ap (inside space) f ∙ is_inside space u a))

-- ---- one step back

record IsBack (m u v first end : ℕ) (d : ℤ) : Type 0 where
  to : ℕ
  is : as_number (pos v -ℤ d) ≡ Some to
  rest : pos to ≡ pos u +ℤ pos m *ℤ d
  least : first ≤ to
  most : to < end

back : (m u v first end : ℕ) (d : ℤ) → first ≤ u → u < end → first ≤ v → v < end → pos v ≡ pos u +ℤ pos (suc m) *ℤ d → IsBack m u v first end d
back m u v first end (pos n) ul um vl vm e =
    let more : suc m * n ≡ m * n + n = suc-mul m n in
    let sum : v ≡ u + (m * n + n) = omega (arith, ints, e, more) in
    record {
      to = u + m * n;
      is = ap as_number (let z : pos v -ℤ pos n ≡ pos (u + m * n) = omega (arith, ints, sum) in z);
      rest = refl;
      least = omega (arith, ul);
      most = omega (arith, sum, vm);
    }
back m u v first end (negsuc n) ul um vl vm e =
    let more : suc m * suc n ≡ m * suc n + suc n = suc-mul m (suc n) in
    let sum : v + (m * suc n + suc n) ≡ u = omega (arith, ints, e, more) in
    record {
      to = v + suc n;
      is = ap as_number (let z : pos v -ℤ negsuc n ≡ pos (v + suc n) = omega (arith, ints) in z);
      rest = omega (arith, ints, sum);
      least = omega (arith, vl);
      most = omega (arith, sum, um);
    }

record StepsBack (ts : List Turns) (m : ℕ) (d : Distance) (u v : Vector) : Type 0 where
  to : Vector
  is : before_by v d ≡ Some to
  box : InBox ts to
  behind : LiesBehind m d u to

step_back : (ts : List Turns) (m : ℕ) (d : Distance) (u v : Vector) → InBox ts u → InBox ts v → LiesBehind (suc m) d u v → StepsBack ts m d u v
step_back [] m [] [] [] a b h = record { to = []; is = refl; box = tt; behind = tt }
step_back [] m [] [] (y ∷ v) a b h = absurd h
step_back [] m [] (x ∷ u) v a b h = absurd h
step_back [] m (d ∷ ds) [] v a b h = absurd h
step_back [] m (d ∷ ds) (x ∷ u) v a b h = absurd a
step_back (t ∷ ts) m ds [] v a b h = absurd a
step_back (t ∷ ts) m ds (x ∷ u) [] a b h = absurd b
step_back (t ∷ ts) m [] (x ∷ u) (y ∷ v) a b h = absurd h
step_back (t ∷ ts) m (d ∷ ds) (x ∷ u) (y ∷ v) a b h =
    let first = back m x y t.first (t.first + t.count) d a.0 a.1 b.0 b.1 h.0 in
    let rest = step_back ts m ds u v a.2 b.2 h.1 in
    record {
      to = first.to ∷ rest.to;
      is = ap (λ (o : Option ℕ). both (λ x xs. x ∷ xs) o (before_by v ds)) first.is ∙ ap (λ (o : Option Vector). both (λ x xs. x ∷ xs) (Some first.to) o) rest.is;
      box = (first.least, first.most, rest.box);
      behind = (first.rest, rest.behind);
    }

not_behind : (d : Distance) (u v : Vector) → LiesBehind 0 d u v → v ≡ u
not_behind [] [] [] h = refl
not_behind [] [] (y ∷ v) h = absurd h
not_behind [] (x ∷ u) v h = absurd h
not_behind (d ∷ ds) [] v h = absurd h
not_behind (d ∷ ds) (x ∷ u) [] h = absurd h
not_behind (d ∷ ds) (x ∷ u) (y ∷ v) h =
    let first : y ≡ x = omega (arith, ints, h.0, zero-times d) in
    let rest : v ≡ u = not_behind ds u v h.1 in
    ap (λ (z : ℕ). z ∷ v) first ∙ ap (λ (w : Vector). x ∷ w) rest

-- ---- all steps

among_box : (ts : List Turns) (u : Vector) → EachRisesByOne ts → InBox ts u → among (vectors ts) u ≡ true
among_box ts u rise box = let is = there ts u rise box in among_at (vectors ts) is.number u is.is

box_leads : (ts : List Turns) (ds : List Distance) (d : Distance) (m : ℕ) (u v : Vector) → EachRisesByOne ts → Contains ds d → InBox ts u → InBox ts v → LiesBehind (suc m) d u v
    → Before (vectors ts) ds u v
box_leads ts ds d zero u v rise named a b h =
    let s = step_back ts zero d u v a b h in
    sink_there (vectors ts) ds d u v named (among_box ts u rise a) (among_box ts v rise b) (s.is ∙ ap Some (not_behind d u s.to s.behind))
box_leads ts ds d (suc m) u v rise named a b h =
    let s = step_back ts (suc m) d u v a b h in
    through (box_leads ts ds d m u s.to rise named a s.box s.behind) (sink_there (vectors ts) ds d s.to v named (among_box ts s.to rise s.box) (among_box ts v rise b) s.is)

contained : (ts : List Turns) (u : Vector) → EachRisesByOne ts → Contains (vectors ts) u → InBox ts u
contained ts u rise (k, l, e) = in_box ts k u rise (slice_get_read (vectors ts) (length (vectors ts)) k u refl l (sym e))

pub lead_there : SinksLeadThere
lead_there ts ds d zero u v rise named once a b h = absurd (omega (arith, once))
lead_there ts ds d (suc m) u v rise named once a b h = box_leads ts ds d m u v rise named (contained ts u rise a) (contained ts v rise b) h

-- ---- counters

box_at : (ts : List Turns) (ks : List ℕ) → AreBelow ks (map (λ l. l.count) ts) → InBox ts (at_counters ts ks)
box_at [] [] h = tt
box_at [] (k ∷ ks) h = absurd h
box_at (t ∷ ts) [] h = absurd h
box_at (t ∷ ts) (k ∷ ks) h = (omega arith, omega (arith, h.0), box_at ts ks h.1)

behind_at : (m : ℕ) (ts : List Turns) (d : Distance) (ks ls : List ℕ) → AreBelow ks (map (λ l. l.count) ts) → AreBelow ls (map (λ l. l.count) ts) → LiesBehind m d ks ls
    → LiesBehind m d (at_counters ts ks) (at_counters ts ls)
behind_at m [] [] [] [] a b h = tt
behind_at m [] [] [] (l ∷ ls) a b h = absurd h
behind_at m [] [] (k ∷ ks) ls a b h = absurd h
behind_at m [] (d ∷ ds) [] ls a b h = absurd h
behind_at m [] (d ∷ ds) (k ∷ ks) ls a b h = absurd a
behind_at m (t ∷ ts) ds [] ls a b h = absurd a
behind_at m (t ∷ ts) ds (k ∷ ks) [] a b h = absurd b
behind_at m (t ∷ ts) [] (k ∷ ks) (l ∷ ls) a b h = absurd h
behind_at m (t ∷ ts) (d ∷ ds) (k ∷ ks) (l ∷ ls) a b h = (shifted t.first k l (pos m *ℤ d) h.0, behind_at m ts ds ks ls a.1 b.1 h.1)
  where
    shifted : (f k l : ℕ) (z : ℤ) → pos l ≡ pos k +ℤ z → pos (f + l) ≡ pos (f + k) +ℤ z
    shifted f k l z e = omega (arith, ints, e)

pub counters_ordered : CountersAreOrdered
counters_ordered ts ds s t rise a b apart = go apart.times apart.once apart.behind
  where
    lead : (u v : List ℕ) (m : ℕ) → AreBelow u (map (λ l. l.count) ts) → AreBelow v (map (λ l. l.count) ts) → 1 ≤ m → LiesBehind m apart.sink u v → Before (vectors ts) ds (at_counters ts u) (at_counters ts v)
    lead u v zero p q once h = absurd (omega (arith, once))
    lead u v (suc m) p q once h =
        box_leads ts ds apart.sink m (at_counters ts u) (at_counters ts v) rise apart.named (box_at ts u p) (box_at ts v q) (behind_at (suc m) ts apart.sink u v p q h)

    go : (m : ℕ) → 1 ≤ m → LiesBehind m apart.sink s t ⊎ LiesBehind m apart.sink t s
        → Before (vectors ts) ds (at_counters ts s) (at_counters ts t) ⊎ Before (vectors ts) ds (at_counters ts t) (at_counters ts s)
    go m once (inl h) = inl (lead s t m a b once h)
    go m once (inr h) = inr (lead t s m b a once h)
