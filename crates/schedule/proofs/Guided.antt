-- Guided chunks, each cut off what the ones before it leave.
use Rattle.std.specs.Prelude.{ℕ, zero, suc, ◌≡◌, ◌+◌, ◌-◌, ◌/◌, ◌%◌, ◌<◌, ◌≤◌, min, max, List, [], ◌∷◌, ◌++◌}
use Rattle.std.proofs.Common.{refl, sym, ap, ◌∙◌, arith}
use Rattle.std.proofs.lemmas.List.{append_assoc, append-nil}
use Rattle.semantics.specs.Loops.Chunk.{Chunk, Guided, cut, sized, sizes_by, ceiling}
use Rattle.schedule.proofs.Sized.{chunk_with, sized-some}
use Rattle.schedule.proofs.Blocks.{ceiling-div_ceil}

-- how much of what is left
abbrev rule : ℕ → ℕ → ℕ → ℕ
rule k p left = max k (ceiling left p)

-- more fuel than is left changes nothing
same_sizes : (k p f g left : ℕ) → 0 < k → left ≤ f → left ≤ g → sizes_by (rule k p) f left ≡ sizes_by (rule k p) g left
same_sizes k p zero zero left some lf lg = refl
same_sizes k p zero (suc g) zero some lf lg = refl
same_sizes k p (suc f) zero zero some lf lg = refl
same_sizes k p (suc f) (suc g) zero some lf lg = refl
same_sizes k p zero g (suc left) some lf lg = absurd (omega arith)
same_sizes k p (suc f) zero (suc left) some lf lg = absurd (omega arith)
same_sizes k p (suc f) (suc g) (suc left) some lf lg =
    ap (λ l. min (suc left) (rule k p (suc left)) ∷ l)
    (same_sizes k p f g (suc left - min (suc left) (rule k p (suc left))) some (omega arith) (omega arith))

-- the chunks of what is left from here on
abbrev pub from_here : ℕ → ℕ → ℕ → ℕ → List Chunk
from_here k p n first = sized first (sizes_by (rule k p) (n - first) (n - first))

next_of : (k p n first left m : ℕ) → 0 < k → n - first ≡ suc left → m ≡ min (suc left) (rule k p (suc left)) → from_here k p n first ≡ chunk_with first m ∷ from_here k p n (first + m)
next_of k p n first left m some e is =
    ap (λ a. sized first (sizes_by (rule k p) a a)) e
    ∙ sized-some first (min (suc left) (rule k p (suc left))) (sizes_by (rule k p) left (suc left - min (suc left) (rule k p (suc left)))) (omega arith)
    ∙ ap (λ a. chunk_with first a ∷ sized (first + a) (sizes_by (rule k p) left (suc left - a))) (sym is)
    ∙ ap (λ l. chunk_with first m ∷ sized (first + m) l) (same_sizes k p left (suc left - m) (suc left - m) some (omega arith) (omega arith))
    ∙ ap (λ a. chunk_with first m ∷ sized (first + m) (sizes_by (rule k p) a a)) (let r : suc left - m ≡ n - (first + m) = omega arith in r)

next_by : (k p n first left m : ℕ) → 0 < k → n - first ≡ left → 0 < left → m ≡ min left (rule k p left) → from_here k p n first ≡ chunk_with first m ∷ from_here k p n (first + m)
next_by k p n first zero m some e more is = absurd (omega arith)
next_by k p n first (suc left) m some e more is = next_of k p n first left m some e is

-- one chunk more
pub guided_more : (k p n first : ℕ) (done : List Chunk) → 0 < k → 0 < p → first < n
    → done ++ from_here k p n first ≡ cut (Guided k) n p
    → (m : ℕ) → m ≡ min (n - first) (max k ((n - first) / p + min 1 ((n - first) % p)))
    → (done ++ chunk_with first m ∷ []) ++ from_here k p n (first + m) ≡ cut (Guided k) n p
guided_more k p n first done some workers lt h m is =
    append_assoc done (chunk_with first m ∷ []) (from_here k p n (first + m))
    ∙ ap (λ l. done ++ l) (sym (next_by k p n first (n - first) m some refl (omega arith) (is ∙ ap (λ c. min (n - first) (max k c)) (ceiling-div_ceil (n - first) p workers))))
    ∙ h

-- nothing is left
pub guided_end : (k p n first : ℕ) (done : List Chunk) → n ≤ first → done ++ from_here k p n first ≡ cut (Guided k) n p → done ≡ cut (Guided k) n p
guided_end k p n first done le h =
    sym (append-nil done) ∙ ap (λ a. done ++ sized first (sizes_by (rule k p) a a)) (let z : 0 ≡ n - first = omega arith in z) ∙ h
