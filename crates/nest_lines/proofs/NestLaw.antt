-- Nests, loop by loop.
use Rattle.std.specs.Prelude.{ℕ, suc, ◌-◌, ◌≡◌, Bool, true, false, List, ◌∷◌, Option, Some, None, is_some, option_and_then}
use Rattle.std.proofs.Common.{refl, sym, ap, ◌∙◌, arith}
use Rattle.semantics.specs.Tree.{Stmt}
use Rattle.semantics.specs.Meaning.Value.{map_option}
use Rattle.semantics.specs.Loops.Nest.{Loop, as_loop, nest_of}

-- a loop round the others
abbrev with_loop : Loop → List Loop × Stmt → List Loop × Stmt
with_loop h inner = (h ∷ inner.0, inner.1)

-- the loops of a statement, by its first one and how many are inside
abbrev levels : ℕ → Option (Loop × Stmt) → Option (List Loop × Stmt)
levels m o = option_and_then (λ found. map_option (with_loop found.0) (nest_of m found.1)) o

some_inner : (h : Loop) (o : Option (List Loop × Stmt)) → is_some o ≡ is_some (map_option (with_loop h) o)
some_inner h None = refl
some_inner h (Some inner) = refl

before : (n : ℕ) → (n ≡ 0 → ⊥) → n ≡ suc (n - 1)
before n f = omega (arith, f)

pub no_loop_left : (n : ℕ) (s : Stmt) → n ≡ 0 → true ≡ is_some (nest_of n s)
no_loop_left n s e = ap (λ (m : ℕ). is_some (nest_of m s)) (sym e)

pub no_loop : (n : ℕ) (s : Stmt) → (n ≡ 0 → ⊥) → as_loop s ≡ None → false ≡ is_some (nest_of n s)
no_loop n s f e = sym (ap (λ (m : ℕ). is_some (nest_of m s)) (before n f) ∙ ap (λ o. is_some (levels (n - 1) o)) e)

pub one_loop : (n : ℕ) (s : Stmt) (h : Loop) (t : Stmt) (b : Bool) → (n ≡ 0 → ⊥) → as_loop s ≡ Some (h, t) → b ≡ is_some (nest_of (n - 1) t) → b ≡ is_some (nest_of n s)
one_loop n s h t b f e is =
    is ∙ some_inner h (nest_of (n - 1) t) ∙ sym (ap (λ (m : ℕ). is_some (nest_of m s)) (before n f) ∙ ap (λ o. is_some (levels (n - 1) o)) e)
