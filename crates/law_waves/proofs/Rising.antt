-- Where each loop rises, sinks that lie ahead come earlier.
use Rattle.std.specs.Prelude.{ℕ, zero, suc, Bool, true, false, ◌≡◌, ◌<◌, ◌==◌, ◌&&◌, ◌||◌, ◌⊎◌, nat_lt, nat_eq, List, [], ◌∷◌, ◌++◌, length, Option, Some, None, ℤ, pos, negsuc, ◌-ℤ◌, slice_index_or}
use Rattle.std.specs.List.{AllPairs, AllByRecursion as Each, list_all, cons_option}
use Rattle.std.proofs.Common.{refl, ap, sym, ◌∙◌, subst, cond, inl, inr, arith}
use Rattle.std.proofs.lemmas.Int.{ints}
use Rattle.std.proofs.lemmas.Bool.Decides.{nat_tests}
use Rattle.std.proofs.lemmas.Bool.{true≢false, lt-ltb, eqb-true, or_cases}
use Rattle.std.proofs.lemmas.Option.{same_Some}
use lib.Pointwise.{pointwise}
use Rattle.semantics.specs.Meaning.Value.{both}
use Rattle.semantics.specs.Loops.Nest.{Vector}
use Rattle.semantics.specs.Loops.Order.{Distance, is_ahead, as_number, before_by, among, inside, sinks_of, Before, sink, through, Earlier}
use Rattle.law_commute.proofs.Values.{first_of, second_of}
use Rattle.law_waves.specs.Rising.{is_earlier, RisingOrdersRespect}

pub not_itself : (u : Vector) → is_earlier u u ≡ false
not_itself [] = refl
not_itself (x ∷ xs) = let r = not_itself xs in grind (arith, nat_tests)

pub in_turn : (u v w : Vector) → is_earlier u v ≡ true → is_earlier v w ≡ true → is_earlier u w ≡ true
in_turn [] v w h k = absurd cc
in_turn (x ∷ xs) [] w h k = absurd cc
in_turn (x ∷ xs) (y ∷ ys) [] h k = absurd cc
in_turn (x ∷ xs) (y ∷ ys) (z ∷ zs) h k = let r = in_turn xs ys zs in grind (arith, nat_tests)

as_pos : (z : ℤ) (w : ℕ) → as_number z ≡ Some w → z ≡ pos w
as_pos (pos n) w e = ap pos (same_Some _ _ e)
as_pos (negsuc n) w e = absurd cc

number_below : (u n w : ℕ) → as_number (pos u -ℤ pos (suc n)) ≡ Some w → w < u
number_below u n w e = let h = as_pos (pos u -ℤ pos (suc n)) w e in omega (arith, ints)

same_number : (u w : ℕ) → as_number (pos u -ℤ pos zero) ≡ Some w → w ≡ u
same_number u w e = let h = as_pos (pos u -ℤ pos zero) w e in omega (arith, ints)

-- both are there
record Parts (a : Option ℕ) (b : Option Vector) (w : Vector) : Type 0 where
  head : ℕ
  tail : Vector
  is_head : a ≡ Some head
  is_tail : b ≡ Some tail
  whole : head ∷ tail ≡ w

parts : (a : Option ℕ) (b : Option Vector) (w : Vector) → both (λ v vs. v ∷ vs) a b ≡ Some w → Parts a b w
parts (Some x) (Some y) w e = record { head = x; tail = y; is_head = refl; is_tail = refl; whole = same_Some _ _ e }
parts (Some x) None w e = absurd cc
parts None b w e = absurd cc

-- a sink that is ahead lies earlier than the iteration that names it
sink_earlier : (u : Vector) (d : Distance) (w : Vector) → is_ahead d ≡ true → before_by u d ≡ Some w → is_earlier w u ≡ true
sink_earlier u [] w h e = absurd cc
sink_earlier [] (d ∷ ds) w h e = absurd cc
sink_earlier (x ∷ xs) (negsuc n ∷ ds) w h e = absurd cc
sink_earlier (x ∷ xs) (pos zero ∷ ds) w h e =
    let p = parts (as_number (pos x -ℤ pos zero)) (before_by xs ds) w e in
    let rest = sink_earlier xs ds p.tail h p.is_tail in
    let same = same_number x p.head p.is_head in
    subst (λ (v : Vector). is_earlier v (x ∷ xs) ≡ true) p.whole (level_with p.head p.tail same rest)
  where
    level_with : (y : ℕ) (ys : Vector) → y ≡ x → is_earlier ys xs ≡ true → (nat_lt y x || ((y == x) && is_earlier ys xs)) ≡ true
    level_with y ys same rest = grind (arith, nat_tests)
sink_earlier (x ∷ xs) (pos (suc n) ∷ ds) w h e =
    let p = parts (as_number (pos x -ℤ pos (suc n))) (before_by xs ds) w e in
    let less = number_below x n p.head p.is_head in
    subst (λ (v : Vector). is_earlier v (x ∷ xs) ≡ true) p.whole (ap (λ t. t || ((p.head == x) && is_earlier p.tail xs)) (lt-ltb p.head x less))

-- the vector that a test finds is one of the list
pub same_vector : (u v : Vector) → pointwise nat_eq u v ≡ true → v ≡ u
same_vector [] [] e = refl
same_vector [] (y ∷ ys) e = absurd cc
same_vector (x ∷ xs) [] e = absurd cc
same_vector (x ∷ xs) (y ∷ ys) e = two (x == y) refl (same_vector xs ys) e
  where
    two : (b : Bool) → (x == y) ≡ b → (pointwise nat_eq xs ys ≡ true → ys ≡ xs) → (b && pointwise nat_eq xs ys) ≡ true → y ∷ ys ≡ x ∷ xs
    two true s rest h = let a = eqb-true x y s in let r = rest h in cc
    two false s rest h = absurd cc

-- ---- sinks

-- a sink in the space is an iteration, and lies earlier
record IsSunk (space : List Vector) (u v : Vector) : Type 0 where
  in_space : among space v ≡ true
  before : is_earlier v u ≡ true

inside_sunk : (space : List Vector) (u : Vector) (d : Distance) (o : Option Vector) → before_by u d ≡ o → is_ahead d ≡ true → (v : Vector) → inside space o ≡ Some v → IsSunk space u v
inside_sunk space u d None e h v q = absurd cc
inside_sunk space u d (Some w) e h v q = go (among space w) refl q
  where
    go : (b : Bool) → among space w ≡ b → (let o : Option Vector = cond b (Some w) None in o) ≡ Some v → IsSunk space u v
    go true s k = subst (IsSunk space u) (same_Some _ _ k) (record { in_space = s; before = sink_earlier u d w h e })
    go false s k = absurd cc

-- an iteration among the sinks is one of them
sunk : (space : List Vector) (ds : List Distance) (u v : Vector) → list_all is_ahead ds ≡ true → among (sinks_of space ds u) v ≡ true → IsSunk space u v
sunk space [] u v ahead e = absurd cc
sunk space (d ∷ ds) u v ahead e =
    go (inside space (before_by u d)) (inside_sunk space u d (before_by u d) refl (first_of (is_ahead d) (list_all is_ahead ds) ahead)) e
    (sunk space ds u v (second_of (is_ahead d) (list_all is_ahead ds) ahead))
  where
    go : (o : Option Vector) → ((w : Vector) → o ≡ Some w → IsSunk space u w) → among (cons_option o (sinks_of space ds u)) v ≡ true → (among (sinks_of space ds u) v ≡ true → IsSunk space u v) → IsSunk space u v
    go None h e rest = rest e
    go (Some w) h e rest = split (or_cases (pointwise nat_eq v w) (among (sinks_of space ds u) v) e) (h w refl) rest
      where
        split : (pointwise nat_eq v w ≡ true) ⊎ (among (sinks_of space ds u) v ≡ true) → IsSunk space u w → (among (sinks_of space ds u) v ≡ true → IsSunk space u v) → IsSunk space u v
        split (inl s) k rest = subst (IsSunk space u) (same_vector v w s) k
        split (inr s) k rest = rest s

-- what comes before another is an iteration too, and lies earlier
record IsOrdered (space : List Vector) (u v : Vector) : Type 0 where
  first : among space u ≡ true
  second : among space v ≡ true
  before : is_earlier u v ≡ true

ordered : (space : List Vector) (ds : List Distance) → list_all is_ahead ds ≡ true → {u v : Vector} → Before space ds u v → IsOrdered space u v
ordered space ds ahead (sink {u = u} {v = v} s) = let k = sunk space ds v u ahead s.1 in record { first = k.in_space; second = s.0; before = k.before }
ordered space ds ahead (through {u = u} {v = v} {w = w} h k) =
    let a = ordered space ds ahead h in
    let b = ordered space ds ahead k in
    record { first = a.first; second = b.second; before = in_turn u v w a.before b.before }

-- ---- the order

abbrev Rises : List Vector → Type 0
Rises [] = Unit {0}
Rises (u ∷ us) = Each (λ v. is_earlier u v ≡ true) us × Rises us

each_index : {A : Type 0} (P : A → Type 0) (xs : List A) → ((i : ℕ) (d : A) → i < length xs → P (slice_index_or xs i d)) → Each P xs
each_index P [] h = tt
each_index P (x ∷ xs) h = (h 0 x (omega arith), each_index P xs (λ i d lt. h (suc i) d (omega (arith, lt))))

rises : (us : List Vector) → AllPairs (λ u v. is_earlier u v ≡ true) us → Rises us
rises [] h = tt
rises (u ∷ us) h = (
  each_index (λ v. is_earlier u v ≡ true) us (λ i d lt. h 0 (suc i) d (omega arith) (omega (arith, lt))),
  rises us (λ i j d lt below. h (suc i) (suc j) d (omega (arith, lt)) (omega (arith, below))),
)

at_each : (P : Vector → Type 0) (us : List Vector) (u : Vector) → Each P us → among us u ≡ true → P u
at_each P [] u h k = absurd (true≢false (sym k))
at_each P (w ∷ us) u h k = at (or_cases (pointwise nat_eq u w) (among us u) k) (λ e. at_each P us u h.1 e)
  where
    at : (pointwise nat_eq u w ≡ true) ⊎ (among us u ≡ true) → (among us u ≡ true → P u) → P u
    at (inl e) rest = subst P (same_vector u w e) h.0
    at (inr e) rest = rest e

-- where an iteration stands
record Stands (us : List Vector) (v : Vector) : Type 0 where
  front : List Vector
  back : List Vector
  is : us ≡ front ++ v ∷ back

stands : (us : List Vector) (v : Vector) → among us v ≡ true → Stands us v
stands [] v h = absurd (true≢false (sym h))
stands (w ∷ us) v h = at (or_cases (pointwise nat_eq v w) (among us v) h) (λ e. stands us v e)
  where
    at : (pointwise nat_eq v w ≡ true) ⊎ (among us v ≡ true) → (among us v ≡ true → Stands us v) → Stands (w ∷ us) v
    at (inl e) rest = record { front = []; back = us; is = ap (λ (z : Vector). z ∷ us) (same_vector v w e) }
    at (inr e) rest = let r = rest e in record { front = w ∷ r.front; back = r.back; is = ap (λ zs. w ∷ zs) r.is }

found : (us : List Vector) (u v : Vector) → Rises us → among us u ≡ true → among us v ≡ true → is_earlier u v ≡ true → Earlier us u v
found [] u v r h k e = absurd (true≢false (sym h))
found (w ∷ us) u v r h k e = at (or_cases (pointwise nat_eq u w) (among us u) h) (or_cases (pointwise nat_eq v w) (among us v) k) (λ a b. found us u v r.1 a b e)
  where
    never : is_earlier v v ≡ true → ⊥
    never q = true≢false (sym q ∙ not_itself v)

    at : (pointwise nat_eq u w ≡ true) ⊎ (among us u ≡ true) → (pointwise nat_eq v w ≡ true) ⊎ (among us v ≡ true) → (among us u ≡ true → among us v ≡ true → Earlier us u v) → Earlier (w ∷ us) u v
    at (inl a) (inl b) rest = absurd (never (subst (λ (z : Vector). is_earlier z v ≡ true) (sym (same_vector u w a) ∙ same_vector v w b) e))
    at (inl a) (inr b) rest = let s = stands us v b in ([], s.front, s.back, λ i. same_vector u w a i ∷ s.is i)
    at (inr a) (inl b) rest =
        let back : is_earlier v u ≡ true = subst (λ (z : Vector). is_earlier z u ≡ true) (same_vector v w b) (at_each (λ z. is_earlier w z ≡ true) us u r.0 a) in
        absurd (never (in_turn v u v back e))
    at (inr a) (inr b) rest = let f = rest a b in (w ∷ f.0, f.1, f.2, ap (λ zs. w ∷ zs) f.3)

pub respect : RisingOrdersRespect
respect us ds ahead pairs u v h = let o = ordered us ds ahead h in found us u v (rises us pairs) o.first o.second o.before
