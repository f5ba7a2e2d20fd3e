-- What is found of the element that an access touches at an iteration.
use Rattle.std.specs.Prelude.{ℕ, zero, suc, ◌≡◌, ◌<◌, ◌≤◌, ◌↔◌, ◌++◌, List, [], ◌∷◌, length, slice_get, Option, Result, Ok, Err, IfOk, Some, None, MatchOption}
use Rattle.std.specs.Global.{Vec}
use Rattle.std.specs.declared.alloc.AllocError.{AllocError}
use Rattle.std.proofs.Common.{refl, sym, ap, ◌∙◌, subst, arith, ⊎_elim}
use Rattle.std.proofs.lemmas.Bool.{cases_lt}
use Rattle.std.proofs.lemmas.List.{length_push}
use Rattle.std.proofs.lemmas.Option.{same_Some}
use Rattle.affine.specs.Affine.{Affine}
use Rattle.nest_space.specs.declared.bounds.Value.{Value}
use Rattle.nest_space.specs.Nests.{given}
use Rattle.deptest_witness.specs.Touching.{AreIndexes, Access, NestAt, FirstTurns, Touches, TouchesAt, held}
use Rattle.deptest_witness.specs.Elements.{IsAtNumber, Names, NamesAt, AreElements}
use Rattle.deptest_witness.proofs.Indexes.{same_indexes}
use Rattle.deptest_witness.proofs.Entering.{same_first}

-- what is found of the subscripts' indexes
abbrev pub FoundIndexes : List Affine → List Value → Option (Vec ℕ) → Type 0
FoundIndexes fs values o = MatchOption o ((is : List ℕ) → AreIndexes fs (given values) is → ⊥) (λ is. AreIndexes fs (given values) is.items)

-- the first turns at the iteration are those that were found
touched_there : (region : NestAt) (access : Access) (number : ℕ) (values there : List Value) (is : List ℕ) → IsAtNumber region number values → FirstTurns access.inner values there
    → TouchesAt region access number is → AreIndexes access.subscripts (given there) is
touched_there region access number values there is at first h =
    let one : h.vector ≡ at.vector = same_Some h.vector at.vector (sym h.is ∙ at.is) in
    let same : (region.outer ++ held region.loops h.vector) ≡ values = ap (λ vs. region.outer ++ held region.loops vs) one ∙ sym at.values_are in
    let turns : FirstTurns access.inner values h.touches.there = subst (λ vs. FirstTurns access.inner vs h.touches.there) same h.touches.turns in
    subst (λ vs. AreIndexes access.subscripts (given vs) is) (same_first access.inner values h.touches.there there turns first) h.touches.are

touches_there : (region : NestAt) (access : Access) (number : ℕ) (values there : List Value) (is : List ℕ) → IsAtNumber region number values → FirstTurns access.inner values there
    → AreIndexes access.subscripts (given there) is → TouchesAt region access number is
touches_there region access number values there is at first h =
    record { vector = at.vector; is = at.is; touches = subst (λ vs. Touches access vs is) at.values_are (record { there = there; turns = first; are = h }) }

-- what was found is what is touched
found_law : (region : NestAt) (access : Access) (number : ℕ) (values there : List Value) (o : Option (Vec ℕ)) → IsAtNumber region number values → FirstTurns access.inner values there
    → FoundIndexes access.subscripts there o
    → (is : List ℕ) → TouchesAt region access number is ↔ Names o is
found_law region access number values there None at first h is = (λ t. h is (touched_there region access number values there is at first t), λ n. absurd n)
found_law region access number values there (Some found) at first h is = (
  λ t. same_indexes access.subscripts (given there) found.items is h (touched_there region access number values there is at first t),
  λ n. touches_there region access number values there is at first (subst (λ js. AreIndexes access.subscripts (given there) js) n h),
)

pub element_law : (region : NestAt) (access : Access) (number : ℕ) (values there : List Value) (r : Result (Option (Vec ℕ)) AllocError) → IsAtNumber region number values → FirstTurns access.inner values there
    → IfOk r (FoundIndexes access.subscripts there)
    → IfOk r (λ o. (is : List ℕ) → TouchesAt region access number is ↔ Names o is)
element_law region access number values there (Ok o) at first h = found_law region access number values there o at first h
element_law region access number values there (Err e) at first h = tt

-- where a loop has no first turn nothing is touched
pub untouched_law : (region : NestAt) (access : Access) (number : ℕ) (values : List Value) → IsAtNumber region number values
    → ((others : List Value) → FirstTurns access.inner values others → ⊥) → (is : List ℕ) → TouchesAt region access number is → ⊥
untouched_law region access number values at none is h =
    let one : h.vector ≡ at.vector = same_Some h.vector at.vector (sym h.is ∙ at.is) in
    let same : (region.outer ++ held region.loops h.vector) ≡ values = ap (λ vs. region.outer ++ held region.loops vs) one ∙ sym at.values_are in
    none h.touches.there (subst (λ vs. FirstTurns access.inner vs h.touches.there) same h.touches.turns)

-- a list with one more
at_front : {A : Type 0} (xs ys : List A) (k : ℕ) → k < length xs → slice_get (xs ++ ys) k ≡ slice_get xs k
at_front [] ys k lt = absurd (omega arith)
at_front (x ∷ xs) ys zero lt = refl
at_front (x ∷ xs) ys (suc k) lt = at_front xs ys k (omega arith)

at_end : {A : Type 0} (xs : List A) (y : A) → slice_get (xs ++ (y ∷ [])) (length xs) ≡ Some y
at_end [] y = refl
at_end (x ∷ xs) y = at_end xs y

names_front : (es : List (Option (Vec ℕ))) (e : Option (Vec ℕ)) (k : ℕ) (is : List ℕ) → k < length es → NamesAt es k is ↔ NamesAt (es ++ (e ∷ [])) k is
names_front es e k is lt =
    let same = at_front es (e ∷ []) k lt in
    (λ n. (n.0, same ∙ n.1, n.2), λ n. (n.0, sym same ∙ n.1, n.2))

names_end : (es : List (Option (Vec ℕ))) (e : Option (Vec ℕ)) (k : ℕ) (is : List ℕ) → k ≡ length es → Names e is ↔ NamesAt (es ++ (e ∷ [])) k is
names_end es e k is at =
    let there : slice_get (es ++ (e ∷ [])) k ≡ Some e = ap (slice_get (es ++ (e ∷ []))) at ∙ at_end es e in
    (λ n. (e, there, n), λ n. subst (λ (f : Option (Vec ℕ)). Names f is) (same_Some n.0 e (sym n.1 ∙ there)) n.2)

pub elements_more : (region : NestAt) (access : Access) (es : List (Option (Vec ℕ))) (n : ℕ) (e : Option (Vec ℕ)) → length es ≡ n → AreElements region access es
    → ((is : List ℕ) → TouchesAt region access n is ↔ Names e is) → AreElements region access (es ++ (e ∷ []))
elements_more region access es n e count h new k lt is = ⊎_elim before behind (cases_lt k n)
  where
    before : k < n → TouchesAt region access k is ↔ NamesAt (es ++ (e ∷ [])) k is
    before less =
        let inside : k < length es = omega arith in
        let names = names_front es e k is inside in
        (λ t. names.0 ((h k inside is).0 t), λ m. (h k inside is).1 (names.1 m))

    behind : n ≤ k → TouchesAt region access k is ↔ NamesAt (es ++ (e ∷ [])) k is
    behind more =
        let all = length_push es e in
        let here : k ≡ n = omega arith in
        let names = names_end es e k is (here ∙ sym count) in
        (λ t. names.0 ((new is).0 (subst (λ m. TouchesAt region access m is) here t)), λ m. subst (λ j. TouchesAt region access j is) (sym here) ((new is).1 (names.1 m)))
