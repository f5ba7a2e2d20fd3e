-- The loops of a nest, one after another.
use Rattle.std.specs.Prelude.{ℕ, suc, Bool, true, false, ◌≡◌, ◌&&◌, List, ◌∷◌, Option, Some, None, option_and_then}
use Rattle.std.proofs.Common.{refl, ap, ◌∙◌}
use Rattle.semantics.specs.Tree.{Stmt}
use Rattle.semantics.specs.Meaning.Value.{map_option}
use Rattle.semantics.specs.Loops.Nest.{Loop, as_loop, nest_of}
use Rattle.flow_doacross.specs.Nests.{counts_up, all_count_up}

abbrev with_loop : Loop → List Loop × Stmt → List Loop × Stmt
with_loop h inner = (h ∷ inner.0, inner.1)

abbrev levels : ℕ → Option (Loop × Stmt) → Option (List Loop × Stmt)
levels m o = option_and_then (λ found. map_option (with_loop found.0) (nest_of m found.1)) o

no_false : (b : Bool) → false ≡ (b && false)
no_false true = refl
no_false false = refl

one_more : (h : Loop) (o : Option (List Loop × Stmt)) → all_count_up (map_option (with_loop h) o) ≡ (counts_up h && all_count_up o)
one_more h None = no_false (counts_up h)
one_more h (Some nest) = refl

-- an outermost loop, and those in it
pub count_more : (n m : ℕ) (s b : Stmt) (h : Loop) → n ≡ suc m → as_loop s ≡ Some (h, b) → all_count_up (nest_of n s) ≡ (counts_up h && all_count_up (nest_of m b))
count_more n m s b h k e = ap (λ j. all_count_up (nest_of j s)) k ∙ ap (λ o. all_count_up (levels m o)) e ∙ one_more h (nest_of m b)

pub count_none : (n m : ℕ) (s : Stmt) → n ≡ suc m → as_loop s ≡ None → all_count_up (nest_of n s) ≡ false
count_none n m s k e = ap (λ j. all_count_up (nest_of j s)) k ∙ ap (λ o. all_count_up (levels m o)) e
