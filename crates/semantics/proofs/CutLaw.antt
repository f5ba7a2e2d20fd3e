-- The chunks of a cut, joined in order, are all iterations.
use Rattle.std.specs.Prelude.{ℕ, zero, suc, ◌≡◌, ◌+◌, ◌-◌, ◌*◌, ◌/◌, ◌%◌, ◌<◌, ◌≤◌, min, max, List, [], ◌∷◌, ◌++◌, length, map, flat_map}
use Rattle.std.proofs.Common.{refl, sym, ap, ◌∙◌, arith}
use Rattle.std.proofs.lemmas.Bool.Decides.{nat_tests}
use Rattle.std.proofs.lemmas.List.{map-append, append_assoc, append-nil, length-append, length-map}
use Rattle.std.proofs.Math.Nat.{suc-mul, div-add-mod, mod-lt}
use Rattle.semantics.specs.Meaning.Places.{below}
use Rattle.semantics.specs.Loops.Chunk.{Kind, PlainStatic, Static, Dynamic, Guided, sized, sizes_by, sizes, share, ceiling, chunk_iterations, IsSized, CutsAll, OneChunkEach}

abbrev total : List ℕ → ℕ
total [] = 0
total (n ∷ ns) = n + total ns

abbrev from : ℕ → ℕ → List ℕ
from first n = map (λ k. first + k) (below n)

same_from : (f m n : ℕ) → m ≡ n → from f m ≡ from f n
same_from f m n e = ap (from f) e

same_end : (l r : List ℕ) (m n : ℕ) → m ≡ n → l ++ (r ++ m ∷ []) ≡ l ++ (r ++ n ∷ [])
same_end l r m n e = ap (λ k. l ++ (r ++ k ∷ [])) e

from_split : (f a b : ℕ) → from f (a + b) ≡ from f a ++ from (f + a) b
from_split f a zero = same_from f (a + 0) a (omega arith) ∙ sym (append-nil (from f a))
from_split f a (suc b) =
    same_from f (a + suc b) (suc (a + b)) (omega arith) ∙ map-append (λ k. f + k) (below (a + b)) ((a + b) ∷ [])
    ∙ ap (λ l. l ++ ((f + (a + b)) ∷ [])) (from_split f a b) ∙ append_assoc (from f a) (from (f + a) b) ((f + (a + b)) ∷ [])
    ∙ same_end (from f a) (from (f + a) b) (f + (a + b)) ((f + a) + b) (omega arith)
    ∙ ap (λ l. from f a ++ l) (sym (map-append (λ k. (f + a) + k) (below b) (b ∷ [])))

sized_from : (first : ℕ) (ns : List ℕ) → flat_map chunk_iterations (sized first ns) ≡ from first (total ns)
sized_from first [] = refl
sized_from first (zero ∷ ns) = sized_from first ns ∙ same_from first (total ns) (0 + total ns) (omega arith)
sized_from first (suc n ∷ ns) = ap (λ l. from first (suc n) ++ l) (sized_from (first + suc n) ns) ∙ sym (from_split first (suc n) (total ns))

total-append : (xs ys : List ℕ) → total (xs ++ ys) ≡ total xs + total ys
total-append [] ys = omega arith
total-append (x ∷ xs) ys = let r = total-append xs ys in omega arith

by_rule : (rule : ℕ → ℕ) → ((n : ℕ) → 0 < n → 0 < rule n) → (fuel left : ℕ) → left ≤ fuel → total (sizes_by rule fuel left) ≡ left
by_rule rule some zero left le = omega arith
by_rule rule some (suc fuel) zero le = refl
by_rule rule some (suc fuel) (suc left) le =
    let h = some (suc left) (omega arith) in
    let r = by_rule rule some fuel (suc left - min (suc left) (rule (suc left))) (grind arith) in
    grind arith

one_share : (n p m : ℕ) → share n p m + min m (n % p) ≡ n / p + min (suc m) (n % p)
one_share n p m = grind (arith, nat_tests)

shares : (n p m : ℕ) → total (map (share n p) (below m)) ≡ m * (n / p) + min m (n % p)
shares n p zero = omega arith
shares n p (suc m) =
    let r = shares n p m in
    let o = ap total (map-append (share n p) (below m) (m ∷ [])) in
    let q = total-append (map (share n p) (below m)) (share n p m ∷ []) in
    let here = one_share n p m in
    omega (arith, suc-mul m (n / p))

pub whole_shares : (n p : ℕ) → 0 < p → p * (n / p) + min p (n % p) ≡ n
whole_shares n p lt = let r = div-add-mod n p in let q = mod-lt n lt in grind arith

cuts : (kind : Kind) (n workers : ℕ) → IsSized kind → 0 < workers → total (sizes kind n workers) ≡ n
cuts PlainStatic n workers s lt = shares n workers workers ∙ whole_shares n workers lt
cuts (Static k) n workers s lt = by_rule (λ left. k) (λ m q. s) n n (omega arith)
cuts (Dynamic k) n workers s lt = by_rule (λ left. k) (λ m q. s) n n (omega arith)
cuts (Guided k) n workers s lt = by_rule (λ left. max k (ceiling left workers)) (λ m q. grind arith) n n (omega arith)

pub cuts_all : CutsAll
cuts_all kind n workers s lt = sized_from 0 (sizes kind n workers) ∙ ap (from 0) (cuts kind n workers s lt) ∙ plain n
  where
    plain : (m : ℕ) → from 0 m ≡ below m
    plain zero = refl
    plain (suc m) = map-append (λ k. 0 + k) (below m) (m ∷ []) ∙ ap (λ l. l ++ ((0 + m) ∷ [])) (plain m) ∙ same_end [] (below m) (0 + m) m (omega arith)

length_sized : (first : ℕ) (ns : List ℕ) → length (sized first ns) ≤ length ns
length_sized first [] = omega arith
length_sized first (zero ∷ ns) = let r = length_sized first ns in omega arith
length_sized first (suc n ∷ ns) = let r = length_sized (first + suc n) ns in omega arith

length_below : (n : ℕ) → length (below n) ≡ n
length_below zero = refl
length_below (suc n) = let r = length_below n in let q = length-append (below n) (n ∷ []) in omega arith

pub one_chunk_each : OneChunkEach
one_chunk_each n workers =
    let r = length_sized 0 (sizes PlainStatic n workers) in
    let q = length-map (below workers) (share n workers) in
    omega (arith, length_below workers)
