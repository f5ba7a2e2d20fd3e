-- A word at the front of a line.
use Rattle.std.specs.Prelude.{ℕ, Bool, true, false, ◌==◌, ◌&&◌, ◌≡◌, List, [], ◌∷◌, length, take, drop, nat_eq}
use lib.Pointwise.{pointwise}
use Rattle.std.proofs.Common.{refl, sym, ap, ◌∙◌}
use Rattle.std.proofs.lemmas.Bool.{eqb-true, eq-eqb}
use Rattle.semantics.specs.Source.Text.{starts_with, behind}

same_test : (b c : ℕ) → (b == c) ≡ (c == b)
same_test b c = go (b == c) refl (c == b) refl
  where
    go : (x : Bool) → (b == c) ≡ x → (y : Bool) → (c == b) ≡ y → x ≡ y
    go true e true d = refl
    go true e false d = sym (eq-eqb c b (sym (eqb-true b c e))) ∙ d
    go false e true d = sym e ∙ eq-eqb b c (sym (eqb-true c b d))
    go false e false d = refl

pub front-is_word : (w bs : List ℕ) → pointwise nat_eq (take (length w) bs) w ≡ starts_with w bs
front-is_word [] bs = refl
front-is_word (c ∷ w) [] = refl
front-is_word (c ∷ w) (b ∷ bs) = ap (λ x. x && pointwise nat_eq (take (length w) bs) w) (same_test b c) ∙ ap (λ x. (c == b) && x) (front-is_word w bs)

pub behind-drop : (w bs : List ℕ) → behind w bs ≡ drop (length w) bs
behind-drop [] bs = refl
behind-drop (c ∷ w) [] = refl
behind-drop (c ∷ w) (b ∷ bs) = behind-drop w bs
