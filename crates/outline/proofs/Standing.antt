-- Where the variables with a role stand, one after another.
use Rattle.std.specs.Prelude.{ℕ, Bool, true, false, ◌≡◌, ◌+◌, ◌<◌, if◌then◌else◌, List, [], ◌∷◌, ◌++◌, length, get_or, take, map, filter}
use Rattle.std.proofs.Common.{refl, sym, ap, ◌∙◌, subst}
use Rattle.std.proofs.lemmas.List.{take_more}
use Rattle.std.proofs.lemmas.List.Elements.{filter-append}
use Rattle.semantics.specs.Tree.{Variable}
use Rattle.semantics.specs.Loops.Operator.{ReduceOp}
use Rattle.ktree.specs.DirectiveView.{operator_of}
use Rattle.ktree.specs.declared.place.VarId.{VarId}
use Rattle.flow_reduction.specs.Reduced.{reduction_of, reduced}
use Rattle.flow.specs.Parallel.{numbers}
use Rattle.flow_reduction.specs.declared.reduction.Reduction.{Reduction}
use Rattle.lower_code.specs.declared.laid.Laid.{Laid}
use Rattle.lower.specs.declared.roles.Spot.{Spot}
use Rattle.lower.specs.declared.roles.LoweredReduction.{LoweredReduction}
use Rattle.lower.specs.Roles.{StandsAt, StandEach, AreReduced}

abbrev number : VarId → Variable
number v = v.0

-- ---- those that a test leaves

module _ {A B : Type 0} (f : A → B) (p : B → Bool) (xs : List A) (i : ℕ) (d : A) (lt : i < length xs) where
  one_more : filter p (map f (take (i + 1) xs)) ≡ filter p (map f (take i xs)) ++ (if p (f (get_or xs i d)) then f (get_or xs i d) ∷ [] else [])
  one_more = ap (λ ys. filter p (map f ys)) (take_more xs i d lt) ∙ ap (filter p) (pushed (take i xs)) ∙ filter-append p (map f (take i xs)) (f (get_or xs i d) ∷ [])
    where
      pushed : (ys : List A) → map f (ys ++ get_or xs i d ∷ []) ≡ map f ys ++ f (get_or xs i d) ∷ []
      pushed [] = refl
      pushed (y ∷ ys) = ap (λ zs. f y ∷ zs) (pushed ys)

  pub kept : p (f (get_or xs i d)) ≡ true → filter p (map f (take (i + 1) xs)) ≡ filter p (map f (take i xs)) ++ f (get_or xs i d) ∷ []
  kept e = one_more ∙ ap (λ (b : Bool). filter p (map f (take i xs)) ++ (if b then f (get_or xs i d) ∷ [] else [])) e

  pub left_out : p (f (get_or xs i d)) ≡ false → filter p (map f (take (i + 1) xs)) ≡ filter p (map f (take i xs))
  left_out e = one_more ∙ ap (λ (b : Bool). filter p (map f (take i xs)) ++ (if b then f (get_or xs i d) ∷ [] else [])) e ∙ alone (filter p (map f (take i xs)))
    where
      alone : (ys : List B) → ys ++ [] ≡ ys
      alone [] = refl
      alone (y ∷ ys) = ap (λ zs. y ∷ zs) (alone ys)

module _ (layout : List Laid) (mark : ℕ) where
  pub reduced_more : (rs : List (Variable × ReduceOp)) (ls : List LoweredReduction) (r : Variable × ReduceOp) (l : LoweredReduction) → AreReduced layout mark rs ls → operator_of l.operator ≡ r.1 → StandsAt layout mark r.0 l.spot
      → AreReduced layout mark (rs ++ r ∷ []) (ls ++ l ∷ [])
  reduced_more [] [] r l h op at = (op, at, tt)
  reduced_more [] (k ∷ ls) r l h op at = absurd h
  reduced_more (q ∷ rs) [] r l h op at = absurd h
  reduced_more (q ∷ rs) (k ∷ ls) r l h op at = (h.0, h.1, reduced_more rs ls r l h.2 op at)

  pub stand_more : (xs : List Variable) (spots : List Spot) (x : Variable) (at : Spot) → StandEach layout mark xs spots → StandsAt layout mark x at → StandEach layout mark (xs ++ x ∷ []) (spots ++ at ∷ [])
  stand_more [] [] x at h k = (k, tt)
  stand_more [] (s ∷ spots) x at h k = absurd h
  stand_more (y ∷ xs) [] x at h k = absurd h
  stand_more (y ∷ xs) (s ∷ spots) x at h k = (h.0, stand_more xs spots x at h.1 k)

  -- one more of a line's reduction variables, which the loop assigns or not
  module _ (p : Variable × ReduceOp → Bool) (rs : List Reduction) (i : ℕ) (d : Reduction) (lt : i < length rs) (ls : List LoweredReduction) (so_far : AreReduced layout mark (filter p (reduced (take i rs))) ls) where
    pub reduced_next : (at : Spot) → p (reduction_of (get_or rs i d)) ≡ true → StandsAt layout mark (get_or rs i d).variable.0 at
        → AreReduced layout mark (filter p (reduced (take (i + 1) rs))) (ls ++ record { operator = (get_or rs i d).operator; spot = at } ∷ [])
    reduced_next at e stands =
        let r = get_or rs i d in
        subst (λ qs. AreReduced layout mark qs (ls ++ record { operator = r.operator; spot = at } ∷ [])) (sym (kept reduction_of p rs i d lt e)) (reduced_more (filter p (reduced (take i rs))) ls (reduction_of r) (record { operator = r.operator; spot = at }) so_far refl stands)

    pub reduced_same : p (reduction_of (get_or rs i d)) ≡ false → AreReduced layout mark (filter p (reduced (take (i + 1) rs))) ls
    reduced_same e = subst (λ qs. AreReduced layout mark qs ls) (sym (left_out reduction_of p rs i d lt e)) so_far

  -- one more of its lastprivate variables
  module _ (p : Variable → Bool) (xs : List VarId) (i : ℕ) (d : VarId) (lt : i < length xs) (spots : List Spot) (so_far : StandEach layout mark (filter p (numbers (take i xs))) spots) where
    pub stand_next : (at : Spot) → p (get_or xs i d).0 ≡ true → StandsAt layout mark (get_or xs i d).0 at → StandEach layout mark (filter p (numbers (take (i + 1) xs))) (spots ++ at ∷ [])
    stand_next at e stands =
        subst (λ ys. StandEach layout mark ys (spots ++ at ∷ [])) (sym (kept number p xs i d lt e)) (stand_more (filter p (numbers (take i xs))) spots (get_or xs i d).0 at so_far stands)

    pub stand_same : p (get_or xs i d).0 ≡ false → StandEach layout mark (filter p (numbers (take (i + 1) xs))) spots
    stand_same e = subst (λ ys. StandEach layout mark ys spots) (sym (left_out number p xs i d lt e)) so_far
