-- Registers that take what is held where variables with a role stand, and all others.
use Rattle.std.specs.Prelude.{ℕ, Bool, true, false, ◌≡◌, ◌==◌, ◌||◌, ◌<◌, ◌≤◌, List, [], ◌∷◌, map, length, slice_index, slice_set}
use Rattle.std.proofs.Common.{refl, sym, ap, ◌∙◌, subst, arith}
use Rattle.std.proofs.lemmas.Bool.{true≢false, or_parts, eqb-true, eqb-false}
use Rattle.std.proofs.lemmas.List.Folds.{list_any-append}
use Rattle.semantics.specs.Tree.{Variable}
use Rattle.semantics.specs.Meaning.Agrees.{is_among}
use Rattle.semantics.specs.Loops.Operator.{ReduceOp}
use Rattle.semantics.specs.Loops.Piece.{Roles}
use Rattle.law_starts.specs.Begun.{told_apart}
use Rattle.lower_code.specs.declared.laid.Laid.{Laid}
use Rattle.lower_op.proofs.Stepping.{length_set, index_same, index_other}
use Rattle.lower.specs.declared.roles.Spot.{Spot}
use Rattle.lower.specs.declared.roles.Spot.TheVariants.{Register, Cell}
use Rattle.lower.specs.declared.roles.LoweredReduction.{LoweredReduction}
use Rattle.lower.specs.declared.roles.LoweredRoles.{LoweredRoles}
use Rattle.lower.specs.Roles.{StandsAt, StandEach, AreReduced, AreRolesAt}
use Rattle.ompk_run.specs.Taken.{taken_at, taken_each, reduced_at, taken}

-- the register of this number stands there, or at one of several
abbrev names : Spot → ℕ → Bool
names (Register r) x = r.0 == x
names (Cell place) x = false

abbrev named : List Spot → ℕ → Bool
named [] x = false
named (at ∷ spots) x = names at x || named spots x

module _ (own : List ℕ) where
  at_length : (at : Spot) (rs : List ℕ) → length (taken_at own at rs) ≡ length rs
  at_length (Register r) rs = length_set rs r.0 (slice_index own r.0)
  at_length (Cell place) rs = refl

  each_length : (spots : List Spot) (rs : List ℕ) → length (taken_each own spots rs) ≡ length rs
  each_length [] rs = refl
  each_length (at ∷ spots) rs = each_length spots (taken_at own at rs) ∙ at_length at rs

  at_other : (at : Spot) (rs : List ℕ) (x : ℕ) → names at x ≡ false → slice_index (taken_at own at rs) x ≡ slice_index rs x
  at_other (Register r) rs x h = index_other rs r.0 x (slice_index own r.0) (λ e. eqb-false r.0 x h (sym e))
  at_other (Cell place) rs x h = refl

  at_same : (at : Spot) (rs : List ℕ) (x : ℕ) → names at x ≡ true → x < length rs → slice_index (taken_at own at rs) x ≡ slice_index own x
  at_same (Register r) rs x h lt =
      let e = eqb-true r.0 x h in
      subst (λ y. slice_index (slice_set rs r.0 (slice_index own r.0)) y ≡ slice_index own y) e (index_same rs r.0 (slice_index own r.0) (subst (λ y. y < length rs) (sym e) lt))
  at_same (Cell place) rs x h lt = absurd (true≢false (sym h))

  each_other : (spots : List Spot) (rs : List ℕ) (x : ℕ) → named spots x ≡ false → slice_index (taken_each own spots rs) x ≡ slice_index rs x
  each_other [] rs x h = refl
  each_other (at ∷ spots) rs x h = let parts = or_parts (names at x) (named spots x) h in each_other spots (taken_at own at rs) x parts.1 ∙ at_other at rs x parts.0

  each_same : (spots : List Spot) (rs : List ℕ) (x : ℕ) → named spots x ≡ true → x < length rs → slice_index (taken_each own spots rs) x ≡ slice_index own x
  each_same [] rs x h lt = absurd (true≢false (sym h))
  each_same (at ∷ spots) rs x h lt = go (named spots x) refl (names at x) refl h (λ k. each_same spots (taken_at own at rs) x k (subst (λ n. x < n) (sym (at_length at rs)) lt))
    where
      go : (b : Bool) → named spots x ≡ b → (a : Bool) → names at x ≡ a → (a || b) ≡ true → (named spots x ≡ true → slice_index (taken_each own spots (taken_at own at rs)) x ≡ slice_index own x)
          → slice_index (taken_each own spots (taken_at own at rs)) x ≡ slice_index own x
      go true e a f k rest = rest e
      go false e true f k rest = each_other spots (taken_at own at rs) x e ∙ at_same at rs x f lt
      go false e false f k rest = absurd (true≢false (sym k))

module _ (layout : List Laid) (mark : ℕ) (x : ℕ) (local : length layout ≤ x) where
  -- a local stands where a register is named by its number
  one_named : (y : Variable) (at : Spot) → StandsAt layout mark y at → names at x ≡ (y == x)
  one_named y (Register r) stands = ap (λ z. z == x) stands.0
  one_named y (Cell place) stands = go (y == x) refl
    where
      go : (b : Bool) → (y == x) ≡ b → false ≡ b
      go true e = let same = eqb-true y x e in let lt = stands.0 in absurd (omega (arith, same, lt))
      go false e = refl

  each_named : (xs : List Variable) (spots : List Spot) → StandEach layout mark xs spots → named spots x ≡ is_among xs x
  each_named [] [] stand = refl
  each_named [] (at ∷ spots) stand = absurd stand
  each_named (y ∷ ys) [] stand = absurd stand
  each_named (y ∷ ys) (at ∷ spots) (first, rest) = let one = one_named y at first in let others = each_named ys spots rest in λ i. one i || others i

  reduced_named : (rs : List (Variable × ReduceOp)) (ls : List LoweredReduction) → AreReduced layout mark rs ls → named (reduced_at ls) x ≡ is_among (map (λ r. r.0) rs) x
  reduced_named [] [] are = refl
  reduced_named [] (l ∷ ls) are = absurd are
  reduced_named (r ∷ rs) [] are = absurd are
  reduced_named (r ∷ rs) (l ∷ ls) (op, first, rest) = let one = one_named r.0 l.spot first in let others = reduced_named rs ls rest in λ i. one i || others i

  module _ (roles : Roles) (l : LoweredRoles) (at : AreRolesAt layout mark roles l) (own rs : List ℕ) where
    abbrev lasts : List Spot
    lasts = l.lasts.items

    abbrev reduced : List Spot
    reduced = reduced_at l.reductions.items

    told_named : is_among (told_apart roles) x ≡ (named lasts x || named reduced x)
    told_named =
        let one = each_named roles.lasts lasts at.lasts in
        let two = reduced_named roles.reductions l.reductions.items at.reductions in
        list_any-append (λ y. y == x) roles.lasts (map (λ r. r.0) roles.reductions) ∙ sym (λ i. one i || two i)

    -- what is not told apart has what it had
    pub taken_other : is_among (told_apart roles) x ≡ false → slice_index (taken own l rs) x ≡ slice_index rs x
    taken_other h =
        let parts = or_parts (named lasts x) (named reduced x) (sym told_named ∙ h) in
        each_other own reduced (taken_each own lasts rs) x parts.1 ∙ each_other own lasts rs x parts.0

    -- what is, has what the copy holds
    pub taken_same : is_among (told_apart roles) x ≡ true → x < length rs → slice_index (taken own l rs) x ≡ slice_index own x
    taken_same h lt = go (named reduced x) refl (named lasts x) refl (sym told_named ∙ h)
      where
        go : (b : Bool) → named reduced x ≡ b → (a : Bool) → named lasts x ≡ a → (a || b) ≡ true → slice_index (taken own l rs) x ≡ slice_index own x
        go true e a f k = each_same own reduced (taken_each own lasts rs) x e (subst (λ n. x < n) (sym (each_length own lasts rs)) lt)
        go false e true f k = each_other own reduced (taken_each own lasts rs) x e ∙ each_same own lasts rs x f lt
        go false e false f k = absurd (true≢false (sym k))

pub taken_length : (own : List ℕ) (l : LoweredRoles) (rs : List ℕ) → length (taken own l rs) ≡ length rs
taken_length own l rs = each_length own (reduced_at l.reductions.items) (taken_each own l.lasts.items rs) ∙ each_length own l.lasts.items rs
