-- Steps of a reader, and what follows from their success.
use Rattle.std.specs.Prelude.{Bool, true, false, ◌&&◌, ◌≡◌, Option, Some, None}
use Rattle.std.proofs.Common.{refl, ap, ◌∙◌}
use Rattle.cparse_grammar.specs.Reading.{◌>>=◌}

-- a step that succeeded
pub bind_some : {A B : Type 0} (o : Option A) (f : A → Option B) (y : B) → (o >>= f) ≡ Some y → (x : A) × (o ≡ Some x) × (f x ≡ Some y)
bind_some None f y e = absurd (cc)
bind_some (Some x) f y e = (x, refl, e)

-- a step whose outcome is known
pub bind_to : {A B : Type 0} {o : Option A} {x : A} (f : A → Option B) → o ≡ Some x → (o >>= f) ≡ f x
bind_to f e = ap (λ p. p >>= f) e

-- steps in a row
pub grouped : {A B C : Type 0} (o : Option A) (f : A → Option B) (g : B → Option C) → ((o >>= f) >>= g) ≡ (o >>= (λ x. f x >>= g))
grouped None f g = refl
grouped (Some x) f g = refl

-- both of two tests
pub first_true : (a b : Bool) → (a && b) ≡ true → a ≡ true
first_true true b e = refl
first_true false b e = e

pub second_true : (a b : Bool) → (a && b) ≡ true → b ≡ true
second_true true b e = e
second_true false b e = absurd (cc)

pub both_true : {a b : Bool} → a ≡ true → b ≡ true → (a && b) ≡ true
both_true {a} {b} e f = ap (λ x. x && b) e ∙ f
