-- Steps that all have a value.
use Rattle.std.specs.Prelude.{ℕ, ◌≡◌, List, length, map, slice_get, All, Option, Some, None, option_map}
use Rattle.semantics.specs.Tree.{Stmt}
use Rattle.semantics.specs.Meaning.State.{State}
use Rattle.semantics.specs.Meaning.Runs.{Effect}
use Rattle.semantics.specs.Loops.Nest.{Loop, Vector}
use Rattle.law_nests.specs.Walks.{walk}
use Rattle.team_worker.specs.Starts.{HaveRuns}
use Rattle.std.proofs.Common.{refl, sym, ap, ◌∙◌, subst}
use Rattle.std.proofs.lemmas.List.{length-map}
use Rattle.std.proofs.lemmas.Option.{same_Some, slice_get-map, slice_get_within, get_or_from_slice_get}

-- what holds of each element holds of the one at a place
pub all_at : {X : Type 0} (P : X → Type 0) (xs : List X) (k : ℕ) (x : X) → All P xs → slice_get xs k ≡ Some x → P x
all_at P xs k x all e = subst P (get_or_from_slice_get xs k x x e) (all k x (slice_get_within xs k x e))

-- steps that all have a value: the value of the one at a place, and the one that a value is of
module _ {A B : Type 0} (f : A → Option B) (xs : List A) (ys : List B) (all : map f xs ≡ map Some ys) where
  both : (k : ℕ) → option_map f (slice_get xs k) ≡ option_map Some (slice_get ys k)
  both k = sym (slice_get-map f xs k) ∙ ap (λ l. slice_get l k) all ∙ slice_get-map Some ys k

  pub value_at : (k : ℕ) (x : A) → slice_get xs k ≡ Some x → (y : B) × (slice_get ys k ≡ Some y) × (f x ≡ Some y)
  value_at k x there = go (slice_get ys k) refl
    where
      go : (o : Option B) → slice_get ys k ≡ o → (y : B) × (slice_get ys k ≡ Some y) × (f x ≡ Some y)
      go None e = let z : Some (f x) ≡ None = sym (ap (option_map f) there) ∙ both k ∙ ap (option_map Some) e in absurd cc
      go (Some y) e = (y, e, same_Some (f x) (Some y) (sym (ap (option_map f) there) ∙ both k ∙ ap (option_map Some) e))

  pub same_length : length ys ≡ length xs
  same_length = sym (length-map ys Some) ∙ sym (ap (λ l. length l) all) ∙ length-map xs f

-- chunks that all begin in one state
pub have_same : (loops : List Loop) (body : Stmt) (start : State) (chunks : List (List Vector)) (effects : List Effect) → map (λ us. walk loops body us start) chunks ≡ map Some effects → HaveRuns loops body (λ number. start) chunks effects
have_same loops body start chunks effects ran = record {
  count = same_length (λ us. walk loops body us start) chunks effects ran;
  each = λ number us there. value_at (λ vs. walk loops body vs start) chunks effects ran number us there;
}
