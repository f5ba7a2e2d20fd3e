-- The tickets of a seat rise, so a loop that draws until the end does end.
use Rattle.std.proofs.Common.{◌≡◌, ℕ, ◌+◌, ◌-◌, ◌<◌, ◌≤◌, max, List, [], ◌∷◌, ◌++◌, All, arith}
use Rattle.std.proofs.lemmas.List.Elements.{All-head, All-tail}

-- the least number above each of the list
abbrev pub above : List ℕ → ℕ
above [] = 0
above (t ∷ ts) = max (t + 1) (above ts)

above-le : (n : ℕ) (ts : List ℕ) → All (λ t. t < n) ts → above ts ≤ n
above-le n [] h = omega arith
above-le n (t ∷ ts) h =
    let here : t < n = All-head (λ (k : ℕ). k < n) t ts h in
    let rest = above-le n ts (All-tail (λ (k : ℕ). k < n) t ts h) in
    omega arith

above-snoc : (ts : List ℕ) (n : ℕ) → above ts ≤ n → above (ts ++ n ∷ []) ≡ n + 1
above-snoc [] n h = omega arith
above-snoc (t ∷ ts) n h = let rest = above-snoc ts n (omega arith) in omega arith

-- what is left of the tickets above all that a seat has is a measure of such a loop
pub fewer_left : (count t : ℕ) (tickets : List ℕ) → t < count → All (λ k. k < t) tickets → count - above (tickets ++ t ∷ []) < count - above tickets
fewer_left count t tickets less all =
    let low = above-le t tickets all in
    let next = above-snoc tickets t low in
    omega arith
