-- Where the chunks of a cut lie, and how many there are.
use Rattle.std.specs.Prelude.{ℕ, zero, suc, Bool, true, false, ◌≡◌, ◌+◌, ◌<◌, ◌≤◌, ◌==◌, nat_lt, List, [], ◌∷◌, ◌++◌, length, map, flat_map, slice_get, All, Some, option_map}
use Rattle.std.proofs.Common.{refl, sym, ap, ◌∙◌, subst, arith}
use Rattle.std.proofs.lemmas.Bool.Decides.{nat_tests}
use Rattle.std.proofs.lemmas.Bool.{eqb-true, eqb-false}
use Rattle.std.proofs.lemmas.List.{map-append, length-append, length-map}
use Rattle.std.proofs.lemmas.Option.{same_Some, slice_get-map, slice_get_within}
use Rattle.schedule.proofs.Sized.{get-append_left, get-append_seam}
use Rattle.std.proofs.lemmas.List.Elements.{All-head, All-tail}
use Rattle.semantics.specs.Meaning.Places.{below}
use Rattle.semantics.specs.Loops.Arrangement.{times, once, once_below}
use Rattle.semantics.specs.Loops.Chunk.{Chunk, Kind, cut, chunk_iterations}
use Rattle.semantics.proofs.LawAnswers.{chunks_hold_iterations}
use Rattle.semantics.proofs.TicketLaw.{times-append, once_below-more}
use Rattle.team_worker.specs.Ends.{IsCut}

times_below : (x n : ℕ) → times x (below n) ≡ once_below x n
times_below x zero = grind (arith, nat_tests)
times_below x (suc n) =
    let r = times_below x n in
    let q = times-append x (below n) (n ∷ []) in
    let m : once_below x (suc n) ≡ once_below x n + once x n = ap (once_below x) (let e : suc n ≡ n + 1 = omega arith in e) ∙ once_below-more x n in
    omega arith

abbrev from : ℕ → ℕ → List ℕ
from f m = map (λ k. f + k) (below m)

from_more : (x f m : ℕ) → times x (from f (suc m)) ≡ times x (from f m) + once x (f + m)
from_more x f m =
    ap (times x) (map-append (λ k. f + k) (below m) (m ∷ []))
    ∙ times-append x (from f m) ((f + m) ∷ [])
    ∙ (let e : times x (from f m) + (once x (f + m) + 0) ≡ times x (from f m) + once x (f + m) = omega arith in e)

inside : (x f m : ℕ) → f ≤ x → x < f + m → 0 < times x (from f m)
inside x f zero le lt = absurd (omega arith)
inside x f (suc m) le lt = go ((f + m) == x) refl (λ less. inside x f m le less)
  where
    go : (b : Bool) → ((f + m) == x) ≡ b → (x < f + m → 0 < times x (from f m)) → 0 < times x (from f (suc m))
    go true e rest = let one : once x (f + m) ≡ 1 = grind (arith, nat_tests) in omega (arith, from_more x f m)
    go false e rest = let apart = eqb-false (f + m) x e in let r = rest (omega arith) in omega (arith, from_more x f m)

-- one chunk's iterations are among all
among : (x t : ℕ) (cs : List Chunk) (c : Chunk) → slice_get cs t ≡ Some c → times x (chunk_iterations c) ≤ times x (flat_map chunk_iterations cs)
among x t [] c e = absurd cc
among x zero (d ∷ cs) c e =
    let same : times x (chunk_iterations d) ≡ times x (chunk_iterations c) = ap (λ (k : Chunk). times x (chunk_iterations k)) (same_Some _ _ e) in
    omega (arith, times-append x (chunk_iterations d) (flat_map chunk_iterations cs))
among x (suc t) (d ∷ cs) c e =
    let r = among x t cs c e in
    omega (arith, times-append x (chunk_iterations d) (flat_map chunk_iterations cs))

pub each_filled : (t : ℕ) (cs : List Chunk) (c : Chunk) → All (λ (k : Chunk). 0 < k.count) cs → slice_get cs t ≡ Some c → 0 < c.count
each_filled t [] c h e = absurd cc
each_filled zero (d ∷ cs) c h e = subst (λ (k : Chunk). 0 < k.count) (same_Some _ _ e) (All-head (λ (k : Chunk). 0 < k.count) d cs h)
each_filled (suc t) (d ∷ cs) c h e = each_filled t cs c (All-tail (λ (k : Chunk). 0 < k.count) d cs h) e

-- a chunk ends with the loop at the latest
pub chunk_within : (n t : ℕ) (cs : List Chunk) (c : Chunk) → IsCut n cs → slice_get cs t ≡ Some c → c.first + c.count ≤ n
chunk_within n t cs c cut e = go c.count refl (each_filled t cs c cut.filled e)
  where
    go : (m : ℕ) → c.count ≡ m → 0 < m → c.first + m ≤ n
    go zero k some = absurd (omega arith)
    go (suc m) k some =
        let last : ℕ = c.first + m in
        let here = inside last c.first c.count (omega arith) (omega arith) in
        let all = among last t cs c e in
        let whole = ap (times last) cut.joined ∙ times_below last n in
        let less : 0 < once_below last n = omega arith in
        let lt : last < n = grind (arith, nat_tests) in
        omega arith

pub length_below : (n : ℕ) → length (below n) ≡ n
length_below zero = refl
length_below (suc n) = let r = length_below n in omega (arith, length-append (below n) (n ∷ []))

few : (cs : List Chunk) → All (λ (c : Chunk). 0 < c.count) cs → length cs ≤ length (flat_map chunk_iterations cs)
few [] h = omega arith
few (c ∷ cs) h =
    let some = All-head (λ (k : Chunk). 0 < k.count) c cs h in
    let r = few cs (All-tail (λ (k : Chunk). 0 < k.count) c cs h) in
    let own : length (chunk_iterations c) ≡ c.count = length-map (below c.count) (λ k. c.first + k) ∙ length_below c.count in
    omega (arith, length-append (chunk_iterations c) (flat_map chunk_iterations cs))

-- there are no more chunks than iterations
pub few_chunks : (n : ℕ) (cs : List Chunk) → IsCut n cs → length cs ≤ n
few_chunks n cs cut =
    let r = few cs cut.filled in
    let whole : length (flat_map chunk_iterations cs) ≡ n = ap (λ (l : List ℕ). length l) cut.joined ∙ length_below n in
    omega arith

pub one_below : (c m : ℕ) → c < m → once_below c m ≡ 1
one_below c m h = grind (arith, nat_tests)

-- the chunks of every kind are a cut
pub is_cut : (kind : Kind) (n workers : ℕ) (cs : List Chunk) → cs ≡ cut kind n workers → flat_map chunk_iterations cs ≡ below n → IsCut n cs
is_cut kind n workers cs e joined =
    record { joined = joined; filled = subst (λ (k : List Chunk). All (λ c. 0 < c.count) k) (sym e) (chunks_hold_iterations kind n workers) }

-- a number stands at its place
pub at_below : (p n : ℕ) → p < n → slice_get (below n) p ≡ Some p
at_below p zero lt = absurd (omega arith)
at_below p (suc n) lt = go (p == n) refl (λ less. at_below p n less)
  where
    go : (b : Bool) → (p == n) ≡ b → (p < n → slice_get (below n) p ≡ Some p) → slice_get (below n ++ n ∷ []) p ≡ Some p
    go true e rest = let same = eqb-true p n e in get-append_seam (below n) n [] p (same ∙ sym (length_below n)) ∙ ap Some (sym same)
    go false e rest =
        let apart = eqb-false p n e in
        let less : p < n = omega arith in
        get-append_left (below n) (n ∷ []) p (let long = length_below n in omega arith) ∙ rest less

-- how many iterations the chunks before one have
abbrev ahead : ℕ → List Chunk → ℕ
ahead zero cs = 0
ahead (suc t) [] = 0
ahead (suc t) (c ∷ cs) = c.count + ahead t cs

long_chunk : (c : Chunk) → length (chunk_iterations c) ≡ c.count
long_chunk c = length-map (below c.count) (λ k. c.first + k) ∙ length_below c.count

behind : (xs ys : List ℕ) (k n : ℕ) → n ≡ length xs + k → slice_get (xs ++ ys) n ≡ slice_get ys k
behind [] ys k n is = ap (slice_get ys) (let e : n ≡ k = omega arith in e)
behind (x ∷ xs) ys k zero is = absurd (omega arith)
behind (x ∷ xs) ys k (suc n) is = behind xs ys k n (omega arith)

first_at : (t : ℕ) (cs : List Chunk) (c : Chunk) → slice_get cs t ≡ Some c → 0 < c.count → slice_get (flat_map chunk_iterations cs) (ahead t cs) ≡ Some c.first
first_at t [] c e some = absurd cc
first_at zero (d ∷ cs) c e some =
    let same : d ≡ c = same_Some d c e in
    let long = long_chunk d in
    let more : 0 < d.count = subst (λ (k : Chunk). 0 < k.count) (sym same) some in
    get-append_left (chunk_iterations d) (flat_map chunk_iterations cs) 0 (omega arith)
    ∙ slice_get-map (λ k. d.first + k) (below d.count) 0
    ∙ ap (option_map (λ k. d.first + k)) (at_below 0 d.count more)
    ∙ ap Some (let z : d.first + 0 ≡ d.first = omega arith in z)
    ∙ ap (λ (k : Chunk). Some k.first) same
first_at (suc t) (d ∷ cs) c e some =
    behind (chunk_iterations d) (flat_map chunk_iterations cs) (ahead t cs) (d.count + ahead t cs) (let long = long_chunk d in omega arith) ∙ first_at t cs c e some

-- how many those behind it have
record Behind (t : ℕ) (cs : List Chunk) (c : Chunk) : Type 0 where
  rest : ℕ
  all : ahead t cs + c.count + rest ≡ length (flat_map chunk_iterations cs)
  none : t + 1 ≡ length cs → rest ≡ 0
  some : t + 1 < length cs → 0 < rest

behind_it : (t : ℕ) (cs : List Chunk) (c : Chunk) → All (λ (k : Chunk). 0 < k.count) cs → slice_get cs t ≡ Some c → Behind t cs c
behind_it t [] c h e = absurd cc
behind_it zero (d ∷ []) c h e =
    let same : d.count ≡ c.count = ap (λ (k : Chunk). k.count) (same_Some d c e) in
    let long = long_chunk d in
    record { rest = 0; all = omega (arith, length-append (chunk_iterations d) []); none = λ is. refl; some = λ lt. absurd (omega arith) }
behind_it zero (d ∷ f ∷ cs) c h e =
    let same : d.count ≡ c.count = ap (λ (k : Chunk). k.count) (same_Some d c e) in
    let long = long_chunk d in
    let more = few (f ∷ cs) (All-tail (λ (k : Chunk). 0 < k.count) d (f ∷ cs) h) in
    record {
      rest = length (flat_map chunk_iterations (f ∷ cs));
      all = omega (arith, length-append (chunk_iterations d) (flat_map chunk_iterations (f ∷ cs)));
      none = λ is. absurd (omega arith);
      some = λ lt. omega arith;
    }
behind_it (suc t) (d ∷ cs) c h e =
    let r = behind_it t cs c (All-tail (λ (k : Chunk). 0 < k.count) d cs h) e in
    let long = long_chunk d in
    let all = r.all in
    record {
      rest = r.rest;
      all = omega (arith, length-append (chunk_iterations d) (flat_map chunk_iterations cs));
      none = λ is. r.none (omega arith);
      some = λ lt. r.some (omega arith);
    }

module _ (n t : ℕ) (cs : List Chunk) (c : Chunk) (cut : IsCut n cs) (there : slice_get cs t ≡ Some c) where
  first_is : c.first ≡ ahead t cs
  first_is =
      let filled = each_filled t cs c cut.filled there in
      let found = first_at t cs c there filled in
      let after = behind_it t cs c cut.filled there in
      let all = after.all in
      let whole : length (flat_map chunk_iterations cs) ≡ n = ap (λ (l : List ℕ). length l) cut.joined ∙ length_below n in
      let within : ahead t cs < n = omega arith in
      same_Some c.first (ahead t cs) (sym found ∙ ap (λ (l : List ℕ). slice_get l (ahead t cs)) cut.joined ∙ at_below (ahead t cs) n within)

  -- the last chunk ends with the last iteration
  pub last_ends : t + 1 ≡ length cs → c.first + c.count ≡ n
  last_ends is =
      let after = behind_it t cs c cut.filled there in
      let all = after.all in
      let none = after.none is in
      let first = first_is in
      let whole : length (flat_map chunk_iterations cs) ≡ n = ap (λ (l : List ℕ). length l) cut.joined ∙ length_below n in
      omega arith

  -- and no other one does
  pub ends_last : c.first + c.count ≡ n → t + 1 ≡ length cs
  ends_last is = go (nat_lt (t + 1) (length cs)) refl
    where
      go : (b : Bool) → nat_lt (t + 1) (length cs) ≡ b → t + 1 ≡ length cs
      go true e =
          let lt : t + 1 < length cs = grind (arith, nat_tests) in
          let after = behind_it t cs c cut.filled there in
          let all = after.all in
          let some = after.some lt in
          let first = first_is in
          let whole : length (flat_map chunk_iterations cs) ≡ n = ap (λ (l : List ℕ). length l) cut.joined ∙ length_below n in
          absurd (omega arith)
      go false e =
          let le : length cs ≤ t + 1 = grind (arith, nat_tests) in
          let within : t < length cs = slice_get_within cs t c there in
          omega arith
