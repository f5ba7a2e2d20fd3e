-- Where all sinks lie earlier: the order of a doacross nest, its levels and its waves.
use Rattle.std.specs.Prelude.{ℕ, zero, suc, Bool, true, false, ◌≡◌, ◌+◌, ◌<◌, ◌≤◌, ◌==◌, ◌&&◌, ◌||◌, ◌⊎◌, nat_lt, nat_eq, max, List, [], ◌∷◌, length, map, filter, Option, Some, None, ℤ, pos, negsuc, ◌-ℤ◌}
use Rattle.std.specs.List.{list_all, cons_option}
use Rattle.std.proofs.Common.{refl, sym, inl, inr, ap, ◌∙◌, subst, cond, arith}
use Rattle.std.proofs.lemmas.Int.{ints}
use Rattle.std.proofs.lemmas.Bool.Decides.{nat_tests}
use Rattle.std.proofs.lemmas.Bool.{lt-ltb, eqb-true, eq-eqb}
use Rattle.std.proofs.lemmas.Option.{same_Some}
use lib.Pointwise.{pointwise}
use Rattle.semantics.specs.Meaning.Value.{both}
use Rattle.semantics.specs.Loops.Nest.{Vector}
use Rattle.semantics.specs.Laws.{LevelsLieAboveSinks, NothingBeforeItself, OneWaveEach}
use Rattle.semantics.specs.Loops.Order.{Distance, is_ahead, as_number, before_by, among, inside, sinks_of, Before, sink, through, one_above, level_by, level}

-- earlier in the order of the loops, the outermost first
abbrev earlier : Vector → Vector → Bool
earlier [] v = false
earlier (x ∷ xs) [] = false
earlier (x ∷ xs) (y ∷ ys) = nat_lt x y || ((x == y) && earlier xs ys)

not_itself : (u : Vector) → earlier u u ≡ false
not_itself [] = refl
not_itself (x ∷ xs) = let r = not_itself xs in grind (arith, nat_tests)

in_turn : (u v w : Vector) → earlier u v ≡ true → earlier v w ≡ true → earlier u w ≡ true
in_turn [] v w h k = absurd cc
in_turn (x ∷ xs) [] w h k = absurd cc
in_turn (x ∷ xs) (y ∷ ys) [] h k = absurd cc
in_turn (x ∷ xs) (y ∷ ys) (z ∷ zs) h k = let r = in_turn xs ys zs in grind (arith, nat_tests)

as_pos : (z : ℤ) (w : ℕ) → as_number z ≡ Some w → z ≡ pos w
as_pos (pos n) w e = ap pos (same_Some _ _ e)
as_pos (negsuc n) w e = absurd cc

number_below : (u n w : ℕ) → as_number (pos u -ℤ pos (suc n)) ≡ Some w → w < u
number_below u n w e = let h = as_pos (pos u -ℤ pos (suc n)) w e in omega (arith, ints)

same_number : (u w : ℕ) → as_number (pos u -ℤ pos zero) ≡ Some w → w ≡ u
same_number u w e = let h = as_pos (pos u -ℤ pos zero) w e in omega (arith, ints)

-- both are there
record Parts (a : Option ℕ) (b : Option Vector) (w : Vector) : Type 0 where
  head : ℕ
  tail : Vector
  is_head : a ≡ Some head
  is_tail : b ≡ Some tail
  whole : head ∷ tail ≡ w

parts : (a : Option ℕ) (b : Option Vector) (w : Vector) → both (λ v vs. v ∷ vs) a b ≡ Some w → Parts a b w
parts (Some x) (Some y) w e = record { head = x; tail = y; is_head = refl; is_tail = refl; whole = same_Some _ _ e }
parts (Some x) None w e = absurd cc
parts None b w e = absurd cc

-- a sink that is ahead lies earlier than the iteration that names it
pub sink_earlier : (u : Vector) (d : Distance) (w : Vector) → is_ahead d ≡ true → before_by u d ≡ Some w → earlier w u ≡ true
sink_earlier u [] w h e = absurd cc
sink_earlier [] (d ∷ ds) w h e = absurd cc
sink_earlier (x ∷ xs) (negsuc n ∷ ds) w h e = absurd cc
sink_earlier (x ∷ xs) (pos zero ∷ ds) w h e =
    let p = parts (as_number (pos x -ℤ pos zero)) (before_by xs ds) w e in
    let rest = sink_earlier xs ds p.tail h p.is_tail in
    let same = same_number x p.head p.is_head in
    subst (λ (v : Vector). earlier v (x ∷ xs) ≡ true) p.whole (level_with p.head p.tail same rest)
  where
    level_with : (y : ℕ) (ys : Vector) → y ≡ x → earlier ys xs ≡ true → (nat_lt y x || ((y == x) && earlier ys xs)) ≡ true
    level_with y ys same rest = grind (arith, nat_tests)
sink_earlier (x ∷ xs) (pos (suc n) ∷ ds) w h e =
    let p = parts (as_number (pos x -ℤ pos (suc n))) (before_by xs ds) w e in
    let less = number_below x n p.head p.is_head in
    subst (λ (v : Vector). earlier v (x ∷ xs) ≡ true) p.whole (ap (λ t. t || ((p.head == x) && earlier p.tail xs)) (lt-ltb p.head x less))

-- the vector that a test finds is one of the list
same_vector : (u v : Vector) → pointwise nat_eq u v ≡ true → v ≡ u
same_vector [] [] e = refl
same_vector [] (y ∷ ys) e = absurd cc
same_vector (x ∷ xs) [] e = absurd cc
same_vector (x ∷ xs) (y ∷ ys) e = two (x == y) refl (same_vector xs ys) e
  where
    two : (b : Bool) → (x == y) ≡ b → (pointwise nat_eq xs ys ≡ true → ys ≡ xs) → (b && pointwise nat_eq xs ys) ≡ true → y ∷ ys ≡ x ∷ xs
    two true s rest h = let a = eqb-true x y s in let r = rest h in cc
    two false s rest h = absurd cc

-- one of two holds
either : (a b : Bool) → (a || b) ≡ true → (a ≡ true) ⊎ (b ≡ true)
either true b e = inl refl
either false b e = inr e

first_of : (a b : Bool) → (a && b) ≡ true → a ≡ true
first_of true b e = refl
first_of false b e = absurd cc

second_of : (a b : Bool) → (a && b) ≡ true → b ≡ true
second_of true b e = e
second_of false b e = absurd cc

-- a sink in the space is an iteration, and lies earlier
record IsSunk (space : List Vector) (u v : Vector) : Type 0 where
  in_space : among space v ≡ true
  before : earlier v u ≡ true

inside_sunk : (space : List Vector) (u : Vector) (d : Distance) (o : Option Vector) → before_by u d ≡ o → is_ahead d ≡ true → (v : Vector) → inside space o ≡ Some v → IsSunk space u v
inside_sunk space u d None e h v q = absurd cc
inside_sunk space u d (Some w) e h v q = go (among space w) refl q
  where
    go : (b : Bool) → among space w ≡ b → (let o : Option Vector = cond b (Some w) None in o) ≡ Some v → IsSunk space u v
    go true s k = subst (IsSunk space u) (same_Some _ _ k) (record { in_space = s; before = sink_earlier u d w h e })
    go false s k = absurd cc

-- what two functions do alike on an iteration's sinks
module _ (space : List Vector) (u : Vector) (f g : Vector → ℕ) (same : (v : Vector) → IsSunk space u v → f v ≡ g v) where
  alike_one : (o : Option Vector) (vs : List Vector) → ((v : Vector) → o ≡ Some v → IsSunk space u v) → map f vs ≡ map g vs → map f (cons_option o vs) ≡ map g (cons_option o vs)
  alike_one None vs sunk rest = rest
  alike_one (Some v) vs sunk rest = let h = same v (sunk v refl) in cc

  alike : (ds : List Distance) → list_all is_ahead ds ≡ true → map f (sinks_of space ds u) ≡ map g (sinks_of space ds u)
  alike [] ahead = refl
  alike (d ∷ ds) ahead =
      alike_one (inside space (before_by u d)) (sinks_of space ds u)
      (inside_sunk space u d (before_by u d) refl (first_of (is_ahead d) (list_all is_ahead ds) ahead))
      (alike ds (second_of (is_ahead d) (list_all is_ahead ds) ahead))

-- an iteration among the sinks is one of them
sunk : (space : List Vector) (ds : List Distance) (u v : Vector) → list_all is_ahead ds ≡ true → among (sinks_of space ds u) v ≡ true → IsSunk space u v
sunk space [] u v ahead e = absurd cc
sunk space (d ∷ ds) u v ahead e =
    go (inside space (before_by u d)) (inside_sunk space u d (before_by u d) refl (first_of (is_ahead d) (list_all is_ahead ds) ahead)) e
    (sunk space ds u v (second_of (is_ahead d) (list_all is_ahead ds) ahead))
  where
    here : (w : Vector) → pointwise nat_eq v w ≡ true → IsSunk space u w → IsSunk space u v
    here w s h = subst (IsSunk space u) (same_vector v w s) h

    go : (o : Option Vector) → ((w : Vector) → o ≡ Some w → IsSunk space u w) → among (cons_option o (sinks_of space ds u)) v ≡ true → (among (sinks_of space ds u) v ≡ true → IsSunk space u v) → IsSunk space u v
    go None h e rest = rest e
    go (Some w) h e rest = split (either (pointwise nat_eq v w) (among (sinks_of space ds u) v) e) (h w refl) rest
      where
        split : (pointwise nat_eq v w ≡ true) ⊎ (among (sinks_of space ds u) v ≡ true) → IsSunk space u w → (among (sinks_of space ds u) v ≡ true → IsSunk space u v) → IsSunk space u v
        split (inl s) k rest = here w s k
        split (inr s) k rest = rest s

-- how many iterations lie earlier
abbrev rank : List Vector → Vector → ℕ
rank [] u = 0
rank (v ∷ vs) u = cond (earlier v u) (suc (rank vs u)) (rank vs u)

rank_most : (space : List Vector) (u : Vector) → rank space u ≤ length space
rank_most [] u = omega arith
rank_most (v ∷ vs) u = go (earlier v u) (rank_most vs u)
  where
    go : (b : Bool) → rank vs u ≤ length vs → cond b (suc (rank vs u)) (rank vs u) ≤ suc (length vs)
    go true le = omega arith
    go false le = omega arith

rank_inside : (space : List Vector) (u : Vector) → among space u ≡ true → rank space u < length space
rank_inside [] u e = absurd cc
rank_inside (v ∷ vs) u e = go (either (pointwise nat_eq u v) (among vs u) e) (rank_inside vs u) (rank_most vs u)
  where
    more : (b : Bool) → rank vs u < length vs → cond b (suc (rank vs u)) (rank vs u) < suc (length vs)
    more true lt = omega arith
    more false lt = omega arith

    itself : pointwise nat_eq u v ≡ true → earlier v u ≡ false
    itself s = ap (λ (w : Vector). earlier w u) (same_vector u v s) ∙ not_itself u

    go : (pointwise nat_eq u v ≡ true) ⊎ (among vs u ≡ true) → (among vs u ≡ true → rank vs u < length vs) → rank vs u ≤ length vs → cond (earlier v u) (suc (rank vs u)) (rank vs u) < suc (length vs)
    go (inl s) rest most = subst (λ b. cond b (suc (rank vs u)) (rank vs u) < suc (length vs)) (sym (itself s)) (omega arith)
    go (inr s) rest most = more (earlier v u) (rest s)

-- it rises along the order
rank_rises : (space : List Vector) (v u : Vector) → earlier v u ≡ true → rank space v ≤ rank space u
rank_rises [] v u e = omega arith
rank_rises (w ∷ ws) v u e = go (earlier w v) refl (earlier w u) refl (rank_rises ws v u e)
  where
    go : (a : Bool) → earlier w v ≡ a → (b : Bool) → earlier w u ≡ b → rank ws v ≤ rank ws u → cond a (suc (rank ws v)) (rank ws v) ≤ cond b (suc (rank ws u)) (rank ws u)
    go true h true k rest = omega arith
    go true h false k rest = let t = in_turn w v u h e in absurd cc
    go false h true k rest = omega arith
    go false h false k rest = rest

rank_less : (space : List Vector) (v u : Vector) → earlier v u ≡ true → among space v ≡ true → rank space v < rank space u
rank_less [] v u e s = absurd cc
rank_less (w ∷ ws) v u e s = go (either (pointwise nat_eq v w) (among ws v) s) (rank_less ws v u e) (rank_rises ws v u e)
  where
    both_ways : (a : Bool) → earlier w v ≡ a → (b : Bool) → earlier w u ≡ b → rank ws v < rank ws u → cond a (suc (rank ws v)) (rank ws v) < cond b (suc (rank ws u)) (rank ws u)
    both_ways true h true k rest = omega arith
    both_ways true h false k rest = let t = in_turn w v u h e in absurd cc
    both_ways false h true k rest = omega arith
    both_ways false h false k rest = rest

    here : (a : Bool) → earlier w v ≡ a → a ≡ false → (b : Bool) → earlier w u ≡ b → b ≡ true → rank ws v ≤ rank ws u → cond a (suc (rank ws v)) (rank ws v) < cond b (suc (rank ws u)) (rank ws u)
    here true h p b k q rest = absurd cc
    here false h p true k q rest = omega arith
    here false h p false k q rest = absurd cc

    go : (pointwise nat_eq v w ≡ true) ⊎ (among ws v ≡ true) → (among ws v ≡ true → rank ws v < rank ws u) → rank ws v ≤ rank ws u → rank (w ∷ ws) v < rank (w ∷ ws) u
    go (inl q) rest rises =
        let same = same_vector v w q in
        here (earlier w v) refl (ap (λ (x : Vector). earlier x v) same ∙ not_itself v) (earlier w u) refl (ap (λ (x : Vector). earlier x u) same ∙ e) rises
    go (inr q) rest rises = both_ways (earlier w v) refl (earlier w u) refl (rest q)

-- levels with more steps down than earlier iterations are all the same
enough : (space : List Vector) (ds : List Distance) → list_all is_ahead ds ≡ true → (n m : ℕ) (u : Vector) → rank space u < n → rank space u < m → level_by n space ds u ≡ level_by m space ds u
enough space ds ahead zero m u p q = absurd (omega arith)
enough space ds ahead (suc n) zero u p q = absurd (omega arith)
enough space ds ahead (suc n) (suc m) u p q =
    ap one_above
    (alike space u (level_by n space ds) (level_by m space ds)
    (λ v h. let less = rank_less space v u h.before h.in_space in enough space ds ahead n m v (omega arith) (omega arith)) ds ahead)

-- one above the greatest is above each
above_each : (f : Vector → ℕ) (vs : List Vector) (u : Vector) → among vs u ≡ true → f u < one_above (map f vs)
above_each f [] u e = absurd cc
above_each f (v ∷ vs) u e = go (either (pointwise nat_eq u v) (among vs u) e) (above_each f vs u)
  where
    go : (pointwise nat_eq u v ≡ true) ⊎ (among vs u ≡ true) → (among vs u ≡ true → f u < one_above (map f vs)) → f u < max (f v + 1) (one_above (map f vs))
    go (inl s) rest = let h = ap f (same_vector u v s) in grind arith
    go (inr s) rest = let h = rest s in grind arith

-- a level is above its sinks'
pub levels_above : LevelsLieAboveSinks
levels_above space ds u v ahead s =
    go (length space) refl (rank_inside space v s.0) (sunk space ds v u ahead s.1)
  where
    go : (n : ℕ) → length space ≡ n → rank space v < length space → IsSunk space v u → level_by (length space) space ds u < level_by (length space) space ds v
    go zero e lt h = absurd (omega arith)
    go (suc n) e lt h =
        let less = rank_less space u v h.before h.in_space in
        let same : level_by (length space) space ds u ≡ level_by n space ds u = enough space ds ahead (length space) n u (omega arith) (omega arith) in
        let more = above_each (level_by n space ds) (sinks_of space ds v) u s.1 in
        subst (λ (k : ℕ). level_by (length space) space ds u < level_by k space ds v) (sym e) (subst (λ (l : ℕ). l < level_by (suc n) space ds v) (sym same) more)

-- nothing comes before itself
before_earlier : (space : List Vector) (ds : List Distance) → list_all is_ahead ds ≡ true → {u v : Vector} → Before space ds u v → earlier u v ≡ true
before_earlier space ds ahead (sink {u = u} {v = v} s) = (sunk space ds v u ahead s.1).before
before_earlier space ds ahead (through {u = u} {v = v} {w = w} h k) = in_turn u v w (before_earlier space ds ahead h) (before_earlier space ds ahead k)

pub nothing_before_itself : NothingBeforeItself
nothing_before_itself space ds u ahead h = let a = before_earlier space ds ahead h in let b = not_itself u in absurd cc

-- a test of each element picks what passes it
picks : (f : Vector → ℕ) (i : ℕ) (vs : List Vector) (u : Vector) → among (filter (λ v. f v == i) vs) u ≡ (among vs u && (f u == i))
picks f i [] u = refl
picks f i (v ∷ vs) u = go (f v == i) refl (pointwise nat_eq u v) refl (picks f i vs u)
  where
    go : (a : Bool) → (f v == i) ≡ a → (b : Bool) → pointwise nat_eq u v ≡ b → among (filter (λ v. f v == i) vs) u ≡ (among vs u && (f u == i)) → among (cond a (v ∷ filter (λ v. f v == i) vs) (filter (λ v. f v == i) vs)) u ≡ ((b || among vs u) && (f u == i))
    go true h true k rest = let same = ap f (same_vector u v k) in let e = ap (λ x. x || among (filter (λ v. f v == i) vs) u) k in let q : (f u == i) ≡ true = ap (λ x. x == i) (sym same) ∙ h in e ∙ sym q
    go true h false k rest = ap (λ x. x || among (filter (λ v. f v == i) vs) u) k ∙ rest
    go false h true k rest = let same = ap f (same_vector u v k) in let q : (f u == i) ≡ false = ap (λ x. x == i) (sym same) ∙ h in none (among vs u) (f u == i) q rest
      where
        none : (x y : Bool) → y ≡ false → among (filter (λ v. f v == i) vs) u ≡ (x && y) → among (filter (λ v. f v == i) vs) u ≡ y
        none true y q r = r
        none false y q r = r ∙ sym q
    go false h false k rest = rest

-- each iteration stands in the wave of its level, and in no other
pub one_wave_each : OneWaveEach
one_wave_each space ds u s = (
  above_each (level space ds) space u s,
  λ i. (
    λ h. sym (eqb-true (level space ds u) i (second_of (among space u) (level space ds u == i) (sym (picks (level space ds) i space u) ∙ h))),
    λ e. picks (level space ds) i space u ∙ ap (λ b. b && (level space ds u == i)) s ∙ eq-eqb (level space ds u) i (sym e),
  ),
)
