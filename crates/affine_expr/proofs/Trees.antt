-- What the code's tree stands for, where it holds subscripts.
use Rattle.std.specs.Prelude.{ℕ, Bool, true, false, ◌≡◌, ◌==◌, List, [], ◌∷◌}
use Rattle.std.specs.List.{list_any}
use Rattle.std.proofs.Common.{refl}
use Rattle.affine.specs.declared.interval.Side.{Side}
use Rattle.affine_expr.specs.Forms.{is_counter}

-- a variable of a box, by its sides
pub is_counter-any : (box : List Side) (x : ℕ) → list_any (λ s. s.variable.0 == x) box ≡ is_counter box x
is_counter-any [] x = refl
is_counter-any (s ∷ ss) x = by (is_counter-any ss x) (s.variable.0 == x) refl
  where
    by : list_any (λ s. s.variable.0 == x) ss ≡ is_counter ss x → (b : Bool) → (s.variable.0 == x) ≡ b → list_any (λ s. s.variable.0 == x) (s ∷ ss) ≡ is_counter (s ∷ ss) x
    by rest true e = rw e refl
    by rest false e = rw e rest
