-- Lists of effects of which at most one writes an element.
use Rattle.std.specs.Prelude.{ℕ, zero, suc, Bool, true, false, ◌≡◌, List, [], ◌∷◌, flat_map, Option, Some, slice_get}
use Rattle.std.specs.List.{AllByRecursion as Each}
use Rattle.std.proofs.Common.{refl, ap, ◌∙◌, subst}
use Rattle.std.proofs.lemmas.Option.{same_Some, none-some}
use Rattle.semantics.specs.Tree.{Variable}
use Rattle.semantics.specs.Meaning.State.{Write}
use Rattle.semantics.specs.Meaning.Runs.{Effect}
use Rattle.law_commute.proofs.Changes.{acted, hit, not_hit}
use Rattle.law_scans.proofs.Merging.{acted-append}

pub each_slice : {A : Type 0} (P : A → Type 0) (xs : List A) → Each P xs → (k : ℕ) (x : A) → slice_get xs k ≡ Some x → P x
each_slice P [] h k x is = absurd (none-some x is)
each_slice P (y ∷ xs) h zero x is = subst P (same_Some y x is) h.0
each_slice P (y ∷ xs) h (suc k) x is = each_slice P xs h.1 k x is

pub slice_each : {A : Type 0} (P : A → Type 0) (xs : List A) → ((k : ℕ) (x : A) → slice_get xs k ≡ Some x → P x) → Each P xs
slice_each P [] h = tt
slice_each P (y ∷ xs) h = (h zero y refl, slice_each P xs (λ k x is. h (suc k) x is))

module _ (y : Variable) (js : List ℕ) where
  abbrev pub Misses : Effect → Type 0
  Misses f = hit y js f.writes ≡ false

  abbrev pub AllOnce : List Effect → Type 0
  AllOnce [] = Unit {0}
  AllOnce (f ∷ fs) = (hit y js f.writes ≡ true → Each Misses fs) × AllOnce fs

  abbrev pub all_writes : List Effect → List Write
  all_writes fs = flat_map (λ (f : Effect). f.writes) fs

  none_acts : (fs : List Effect) (c : Option ℕ) → Each Misses fs → acted y js (all_writes fs) c ≡ c
  none_acts [] c h = refl
  none_acts (f ∷ fs) c h = acted-append y js f.writes (all_writes fs) c ∙ ap (acted y js (all_writes fs)) (not_hit y js f.writes c h.0) ∙ none_acts fs c h.1

  pub none_changes : (fs : List Effect) (c : Option ℕ) → Each (λ (f : Effect). acted y js f.writes c ≡ c) fs → acted y js (all_writes fs) c ≡ c
  none_changes [] c h = refl
  none_changes (f ∷ fs) c h = acted-append y js f.writes (all_writes fs) c ∙ ap (acted y js (all_writes fs)) h.0 ∙ none_changes fs c h.1

  pub one_changes : (fs : List Effect) (c : Option ℕ) (k : ℕ) (f : Effect) → AllOnce fs → slice_get fs k ≡ Some f → (acted y js f.writes c ≡ c → ⊥) → acted y js (all_writes fs) c ≡ acted y js f.writes c
  one_changes [] c k f once is changes = absurd (none-some f is)
  one_changes (g ∷ fs) c zero f once is changes =
      let same : g ≡ f = same_Some g f is in
      acted-append y js g.writes (all_writes fs) c ∙ none_acts fs (acted y js g.writes c) (once.0 (ap (λ (e : Effect). hit y js e.writes) same ∙ struck (hit y js f.writes) refl)) ∙ ap (λ (e : Effect). acted y js e.writes c) same
    where
      struck : (b : Bool) → hit y js f.writes ≡ b → hit y js f.writes ≡ true
      struck true e = e
      struck false e = absurd (changes (not_hit y js f.writes c e))
  one_changes (g ∷ fs) c (suc k) f once is changes =
      acted-append y js g.writes (all_writes fs) c ∙ ap (acted y js (all_writes fs)) (still (hit y js g.writes) refl) ∙ one_changes fs c k f once.1 is changes
    where
      still : (b : Bool) → hit y js g.writes ≡ b → acted y js g.writes c ≡ c
      still false e = not_hit y js g.writes c e
      still true e = absurd (changes (not_hit y js f.writes c (each_slice Misses fs (once.0 e) k f is)))
