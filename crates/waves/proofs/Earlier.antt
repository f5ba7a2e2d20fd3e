-- The order of vectors, and that a sink lies earlier than the iteration that names it.
use Rattle.std.specs.Prelude.{ℕ, zero, suc, Bool, true, false, ◌≡◌, ◌<◌, ◌==◌, ◌&&◌, ◌||◌, nat_lt, nat_eq, [], ◌∷◌, Some, ℤ, pos, negsuc, ◌-ℤ◌}
use Rattle.std.proofs.Common.{refl, ap, subst, arith}
use Rattle.std.proofs.lemmas.Int.{ints}
use Rattle.std.proofs.lemmas.Bool.Decides.{nat_tests}
use Rattle.std.proofs.lemmas.Bool.{lt-ltb, eqb-true}
use Rattle.std.proofs.lemmas.Option.{same_Some}
use lib.Pointwise.{pointwise}
use Rattle.semantics.specs.Loops.Nest.{Vector}
use Rattle.semantics.specs.Loops.Order.{Distance, is_ahead, as_number, before_by}
use Rattle.nest_space.proofs.Before.{parts}

-- earlier in the order of the loops, the outermost first
abbrev pub earlier : Vector → Vector → Bool
earlier [] v = false
earlier (x ∷ xs) [] = false
earlier (x ∷ xs) (y ∷ ys) = nat_lt x y || ((x == y) && earlier xs ys)

pub not_itself : (u : Vector) → earlier u u ≡ false
not_itself [] = refl
not_itself (x ∷ xs) = let r = not_itself xs in grind (arith, nat_tests)

pub in_turn : (u v w : Vector) → earlier u v ≡ true → earlier v w ≡ true → earlier u w ≡ true
in_turn [] v w h k = absurd cc
in_turn (x ∷ xs) [] w h k = absurd cc
in_turn (x ∷ xs) (y ∷ ys) [] h k = absurd cc
in_turn (x ∷ xs) (y ∷ ys) (z ∷ zs) h k = let r = in_turn xs ys zs in grind (arith, nat_tests)

as_pos : (z : ℤ) (w : ℕ) → as_number z ≡ Some w → z ≡ pos w
as_pos (pos n) w e = ap pos (same_Some _ _ e)
as_pos (negsuc n) w e = absurd cc

number_below : (u n w : ℕ) → as_number (pos u -ℤ pos (suc n)) ≡ Some w → w < u
number_below u n w e = let h = as_pos (pos u -ℤ pos (suc n)) w e in omega (arith, ints)

same_number : (u w : ℕ) → as_number (pos u -ℤ pos zero) ≡ Some w → w ≡ u
same_number u w e = let h = as_pos (pos u -ℤ pos zero) w e in omega (arith, ints)

-- a sink that is ahead lies earlier than the iteration that names it
pub sink_earlier : (u : Vector) (d : Distance) (w : Vector) → is_ahead d ≡ true → before_by u d ≡ Some w → earlier w u ≡ true
sink_earlier u [] w h e = absurd cc
sink_earlier [] (d ∷ ds) w h e = absurd cc
sink_earlier (x ∷ xs) (negsuc n ∷ ds) w h e = absurd cc
sink_earlier (x ∷ xs) (pos zero ∷ ds) w h e =
    let p = parts (as_number (pos x -ℤ pos zero)) (before_by xs ds) w e in
    let rest = sink_earlier xs ds p.tail h p.is_tail in
    let same = same_number x p.head p.is_head in
    subst (λ (v : Vector). earlier v (x ∷ xs) ≡ true) p.whole (level_with p.head p.tail same rest)
  where
    level_with : (y : ℕ) (ys : Vector) → y ≡ x → earlier ys xs ≡ true → (nat_lt y x || ((y == x) && earlier ys xs)) ≡ true
    level_with y ys same rest = grind (arith, nat_tests)
sink_earlier (x ∷ xs) (pos (suc n) ∷ ds) w h e =
    let p = parts (as_number (pos x -ℤ pos (suc n))) (before_by xs ds) w e in
    let less = number_below x n p.head p.is_head in
    subst (λ (v : Vector). earlier v (x ∷ xs) ≡ true) p.whole (ap (λ t. t || ((p.head == x) && earlier p.tail xs)) (lt-ltb p.head x less))

-- the vector that a test finds is one of the list
pub same_vector : (u v : Vector) → pointwise nat_eq u v ≡ true → v ≡ u
same_vector [] [] e = refl
same_vector [] (y ∷ ys) e = absurd cc
same_vector (x ∷ xs) [] e = absurd cc
same_vector (x ∷ xs) (y ∷ ys) e = two (x == y) refl (same_vector xs ys) e
  where
    two : (b : Bool) → (x == y) ≡ b → (pointwise nat_eq xs ys ≡ true → ys ≡ xs) → (b && pointwise nat_eq xs ys) ≡ true → y ∷ ys ≡ x ∷ xs
    two true s rest h = let a = eqb-true x y s in let r = rest h in cc
    two false s rest h = absurd cc
