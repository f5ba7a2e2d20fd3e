-- Chunks of a list of iterations, joined in order, are all of it.
use Rattle.std.specs.Prelude.{ℕ, zero, suc, ◌≡◌, ◌+◌, ◌<◌, List, [], ◌∷◌, ◌++◌, length, map, flat_map, take, drop, Option, Some, None, slice_get}
use Rattle.std.proofs.Common.{refl, sym, ap, ◌∙◌, append_assoc, append-nil, arith}
use Rattle.std.proofs.lemmas.List.{map-append, take_all}
use Rattle.semantics.specs.Meaning.Places.{below}
use Rattle.semantics.specs.Loops.Chunk.{Chunk, Kind, IsSized, cut, chunk_iterations}
use Rattle.semantics.specs.Loops.Joined.{chunked}
use Rattle.semantics.specs.Loops.Nest.{Vector}
use Rattle.semantics.proofs.CutLaw.{cuts_all}

abbrev one : Option Vector → List Vector
one None = []
one (Some u) = u ∷ []

-- those at these places
abbrev picked : List Vector → List ℕ → List Vector
picked us [] = []
picked us (k ∷ ks) = one (slice_get us k) ++ picked us ks

picked_both : (us : List Vector) (xs ys : List ℕ) → picked us (xs ++ ys) ≡ picked us xs ++ picked us ys
picked_both us [] ys = refl
picked_both us (x ∷ xs) ys = ap (λ l. one (slice_get us x) ++ l) (picked_both us xs ys) ∙ sym (append_assoc (one (slice_get us x)) (picked us xs) (picked us ys))

take_one : (n : ℕ) (us : List Vector) → take (suc n) us ≡ take n us ++ one (slice_get us n)
take_one zero [] = refl
take_one zero (u ∷ us) = refl
take_one (suc n) [] = refl
take_one (suc n) (u ∷ us) = ap (λ l. u ∷ l) (take_one n us)

get_drop : (f n : ℕ) (us : List Vector) → slice_get (drop f us) n ≡ slice_get us (f + n)
get_drop zero n us = ap (slice_get us) (let e : n ≡ 0 + n = omega arith in e)
get_drop (suc f) n [] = refl
get_drop (suc f) n (u ∷ us) = get_drop f n us ∙ ap (slice_get (u ∷ us)) (let e : suc (f + n) ≡ suc f + n = omega arith in e)

chunk_is : (us : List Vector) (f n : ℕ) → take n (drop f us) ≡ picked us (map (λ k. f + k) (below n))
chunk_is us f zero = refl
chunk_is us f (suc n) =
    take_one n (drop f us)
    ∙ (λ i. chunk_is us f n i ++ one (get_drop f n us i))
    ∙ ap (λ l. picked us (map (λ k. f + k) (below n)) ++ l) (sym (append-nil (one (slice_get us (f + n)))))
    ∙ sym (ap (picked us) (map-append (λ k. f + k) (below n) (n ∷ [])) ∙ picked_both us (map (λ k. f + k) (below n)) ((f + n) ∷ []))

joined : (us : List Vector) (cs : List Chunk) → flat_map (λ vs. vs) (chunked us cs) ≡ picked us (flat_map chunk_iterations cs)
joined us [] = refl
joined us (c ∷ cs) = (λ i. chunk_is us c.first c.count i ++ joined us cs i) ∙ sym (picked_both us (chunk_iterations c) (flat_map chunk_iterations cs))

whole : (us : List Vector) → picked us (below (length us)) ≡ us
whole us = ap (picked us) (sym (plain (length us))) ∙ sym (chunk_is us 0 (length us)) ∙ take_all (length us) us (omega arith)
  where
    plain : (n : ℕ) → map (λ k. 0 + k) (below n) ≡ below n
    plain zero = refl
    plain (suc n) = map-append (λ k. 0 + k) (below n) (n ∷ []) ∙ (λ i. plain n i ++ zeroed n i ∷ [])
      where
        zeroed : (m : ℕ) → 0 + m ≡ m
        zeroed m = omega arith

pub cover : (us : List Vector) (kind : Kind) (workers : ℕ) → IsSized kind → 0 < workers → flat_map (λ vs. vs) (chunked us (cut kind (length us) workers)) ≡ us
cover us kind workers sized some = joined us (cut kind (length us) workers) ∙ ap (picked us) (cuts_all kind (length us) workers sized some) ∙ whole us
