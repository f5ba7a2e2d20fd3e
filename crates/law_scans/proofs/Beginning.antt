-- Where the chunks of a second pass begin, one after another.
use Rattle.std.specs.Prelude.{ℕ, zero, suc, ◌≡◌, ◌+◌, List, [], ◌∷◌, ◌++◌, length, map, Option}
use Rattle.std.proofs.Common.{refl, sym, ap, ◌∙◌, arith}
use Rattle.semantics.specs.Tree.{Variable}
use Rattle.semantics.specs.Meaning.State.{State, look}
use Rattle.semantics.specs.Meaning.Places.{below}
use Rattle.semantics.specs.Loops.Nest.{Vector}
use Rattle.semantics.specs.Loops.Operator.{ReduceOp}
use Rattle.semantics.specs.Loops.Joined.{given}
use Rattle.semantics.specs.Loops.Scan.{start_of}
use Rattle.law_scans.specs.Scanning.{scan_starts}

-- from number c on
abbrev pub starts_of : Variable → ReduceOp → State → List (Option ℕ) → ℕ → List (List Vector) → List State
starts_of x op outer partials c [] = []
starts_of x op outer partials c (us ∷ chunks) = given outer x (start_of op (look outer x []) partials c) ∷ starts_of x op outer partials (suc c) chunks

-- so many numbers from this one on
abbrev from : ℕ → ℕ → List ℕ
from c zero = []
from c (suc n) = c ∷ from (suc c) n

from_last : (c n : ℕ) → from c (suc n) ≡ from c n ++ (c + n) ∷ []
from_last c zero = let same : c ≡ c + zero = omega arith in ap (λ k. k ∷ []) same
from_last c (suc n) = let same : suc c + n ≡ c + suc n = omega arith in ap (λ ns. c ∷ ns) (from_last (suc c) n ∙ ap (λ k. from (suc c) n ++ k ∷ []) same)

below_from : (n : ℕ) → below n ≡ from 0 n
below_from zero = refl
below_from (suc n) = let same : n ≡ 0 + n = omega arith in ap (λ ns. ns ++ n ∷ []) (below_from n) ∙ ap (λ k. from 0 n ++ k ∷ []) same ∙ sym (from_last 0 n)

starts_from : (x : Variable) (op : ReduceOp) (outer : State) (partials : List (Option ℕ)) (c : ℕ) (chunks : List (List Vector)) → starts_of x op outer partials c chunks ≡ map (λ c. given outer x (start_of op (look outer x []) partials c)) (from c (length chunks))
starts_from x op outer partials c [] = refl
starts_from x op outer partials c (us ∷ chunks) = ap (λ ts. given outer x (start_of op (look outer x []) partials c) ∷ ts) (starts_from x op outer partials (suc c) chunks)

-- from the first on
pub starts_are : (x : Variable) (op : ReduceOp) (outer : State) (partials : List (Option ℕ)) (chunks : List (List Vector)) → starts_of x op outer partials 0 chunks ≡ scan_starts x op outer partials (length chunks)
starts_are x op outer partials chunks = starts_from x op outer partials 0 chunks ∙ ap (map (λ c. given outer x (start_of op (look outer x []) partials c))) (sym (below_from (length chunks)))
