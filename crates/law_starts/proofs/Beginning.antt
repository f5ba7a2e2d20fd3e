-- Reduction variables that took what a chunk may begin with.
use Rattle.std.specs.Prelude.{ℕ, Bool, true, false, not, ◌≡◌, ◌==◌, ◌&&◌, List, [], ◌∷◌, map, Option, Some, None}
use Rattle.std.proofs.Common.{refl, sym, ap, ◌∙◌, cond, inl, inr}
use Rattle.std.proofs.lemmas.Bool.{eqb-true, or_parts}
use Rattle.std.proofs.lemmas.List.Folds.{list_any-append}
use Rattle.std.proofs.lemmas.Option.{none-some, same_Some}
use Rattle.semantics.specs.Tree.{Variable}
use Rattle.semantics.specs.Meaning.State.{State, Slot, Outside, Empty, Holds, renewed, same_indexes, with_local, with_cell, assign_at, is_there, look}
use Rattle.semantics.specs.Meaning.Value.{map_option}
use Rattle.semantics.specs.Meaning.Agrees.{is_among}
use Rattle.semantics.specs.Loops.Operator.{ReduceOp}
use Rattle.semantics.specs.Loops.Piece.{is_outside}
use Rattle.semantics.specs.Loops.Joined.{given}
use Rattle.law_commute.proofs.Values.{first_of, second_of}
use Rattle.law_private.proofs.Chunks.{not_true}
use Rattle.law_roles.specs.Updates.{operator_of}
use Rattle.law_roles.specs.Sharing.{assigned_first, role_variables, are_different, IsScalar, begins_with}
use Rattle.law_roles.proofs.Seen.{Only, apart_back, only_assigned, only_look, look_of, takes}
use Rattle.law_starts.specs.Begun.{begun_with, ChunksMayBegin}

abbrev pub reduced : List (Variable × ReduceOp) → List Variable
reduced rs = map (λ r. r.0) rs

-- what a variable takes
abbrev pub first_value : Variable × ReduceOp → State → Option ℕ
first_value r s = map_option (begins_with r.1) (look s r.0 [])

pub first_apart : (r : Variable × ReduceOp) (rs : List (Variable × ReduceOp)) → are_different (reduced (r ∷ rs)) ≡ true → is_among (reduced rs) r.0 ≡ false
first_apart r rs d = not_true (is_among (reduced rs) r.0) (first_of (not (is_among (reduced rs) r.0)) (are_different (reduced rs)) d)

pub others_apart : (r : Variable × ReduceOp) (rs : List (Variable × ReduceOp)) → are_different (reduced (r ∷ rs)) ≡ true → are_different (reduced rs) ≡ true
others_apart r rs d = second_of (not (is_among (reduced rs) r.0)) (are_different (reduced rs)) d

-- ---- a scalar stays one

local_scalar : (s : State) (x v : ℕ) (y : Variable) → IsScalar s y → IsScalar (with_local s x (Holds v)) y
local_scalar s x v y h = at (y == x) refl h
  where
    at : (b : Bool) → (y == x) ≡ b → IsScalar s y → IsScalar (with_local s x (Holds v)) y
    at true e h = inl (ap (λ b. is_outside (cond b (Holds v) (s.locals y))) e)
    at false e (inl k) = inl (ap (λ b. is_outside (cond b (Holds v) (s.locals y))) e ∙ k)
    at false e (inr f) = inr (record { outside = ap (λ b. cond b (Holds v) (s.locals y)) e ∙ f.outside; there = f.there; alone = f.alone })

there_kept : (b : Bool) (v : ℕ) (o : Option ℕ) → is_there (cond b (renewed o v) o) ≡ is_there o
there_kept true v None = refl
there_kept true v (Some n) = refl
there_kept false v o = refl

none_kept : (b : Bool) (v : ℕ) (o : Option ℕ) → o ≡ None → cond b (renewed o v) o ≡ None
none_kept true v o e = ap (λ p. renewed p v) e
none_kept false v o e = e

cell_scalar : (s : State) (x v : ℕ) (y : Variable) → IsScalar s y → IsScalar (with_cell s x [] v) y
cell_scalar s x v y (inl k) = inl k
cell_scalar s x v y (inr f) = inr (record {
  outside = f.outside;
  there = there_kept ((y == x) && same_indexes [] []) v (s.cells y []) ∙ f.there;
  alone = λ i is. none_kept ((y == x) && same_indexes (i ∷ is) []) v (s.cells y (i ∷ is)) (f.alone i is);
})

given_scalar : (s : State) (x : Variable) (o : Option ℕ) (y : Variable) → IsScalar s y → IsScalar (given s x o) y
given_scalar s x None y h = h
given_scalar s x (Some v) y h = at (s.locals x)
  where
    at : (slot : Slot) → IsScalar (assign_at slot s x [] v) y
    at Outside = cell_scalar s x v y h
    at Empty = local_scalar s x v y h
    at (Holds n) = local_scalar s x v y h

begun_scalar : (rs : List (Variable × ReduceOp)) (s : State) (y : Variable) → IsScalar s y → IsScalar (begun_with rs s) y
begun_scalar [] s y h = h
begun_scalar (r ∷ rs) s y h = begun_scalar rs (given s r.0 (first_value r s)) y (given_scalar s r.0 (first_value r s) y h)

-- ---- all else stays as it was

pub given_only : (s : State) (x : Variable) (o : Option ℕ) → Only x s (given s x o)
given_only s x None = record { locals = λ y h. refl; cells = λ y is h. refl }
given_only s x (Some v) = only_assigned x [] v s

pub begun_locals : (rs : List (Variable × ReduceOp)) (s : State) (x : Variable) → is_among (reduced rs) x ≡ false → (begun_with rs s).locals x ≡ s.locals x
begun_locals [] s x h = refl
begun_locals (r ∷ rs) s x h =
    let parts = or_parts (r.0 == x) (is_among (reduced rs) x) h in
    begun_locals rs (given s r.0 (first_value r s)) x parts.1 ∙ (given_only s r.0 (first_value r s)).locals x (apart_back r.0 x parts.0)

pub begun_cells : (rs : List (Variable × ReduceOp)) (s : State) (x : Variable) (is : List ℕ) → is_among (reduced rs) x ≡ false → (begun_with rs s).cells x is ≡ s.cells x is
begun_cells [] s x is h = refl
begun_cells (r ∷ rs) s x is h =
    let parts = or_parts (r.0 == x) (is_among (reduced rs) x) h in
    begun_cells rs (given s r.0 (first_value r s)) x is parts.1 ∙ (given_only s r.0 (first_value r s)).cells x is (apart_back r.0 x parts.0)

-- ---- and each has taken its value

taken_value : (s : State) (r : Variable × ReduceOp) (v : ℕ) → look s r.0 [] ≡ Some v → look (given s r.0 (first_value r s)) r.0 [] ≡ Some (begins_with r.1 v)
taken_value s r v h = ap (λ o. look (given s r.0 (map_option (begins_with r.1) o)) r.0 []) h ∙ (takes s r.0 v (begins_with r.1 v) h).holds

pub begun_holds : (rs : List (Variable × ReduceOp)) (s : State) (x : Variable) (op : ReduceOp) (v : ℕ) → are_different (reduced rs) ≡ true → operator_of rs x ≡ Some op → look s x [] ≡ Some v
    → look (begun_with rs s) x [] ≡ Some (begins_with op v)
begun_holds [] s x op v d is h = absurd (none-some op is)
begun_holds (r ∷ rs) s x op v d is h = at (r.0 == x) refl is (λ k g. begun_holds rs next x op v (others_apart r rs d) k g)
  where
    next : State
    next = given s r.0 (first_value r s)

    at : (b : Bool) → (r.0 == x) ≡ b → cond b (Some r.1) (operator_of rs x) ≡ Some op
        → (operator_of rs x ≡ Some op → look next x [] ≡ Some v → look (begun_with rs next) x [] ≡ Some (begins_with op v))
        → look (begun_with rs next) x [] ≡ Some (begins_with op v)
    at true e k rest =
        let same : r.0 ≡ x = eqb-true r.0 x e in
        let gone : is_among (reduced rs) x ≡ false = ap (is_among (reduced rs)) (sym same) ∙ first_apart r rs d in
        look_of x (begun_with rs next) next (begun_locals rs next x gone) (λ is. begun_cells rs next x is gone) []
        ∙ ap (λ y. look next y []) (sym same) ∙ taken_value s r v (ap (λ y. look s y []) same ∙ h) ∙ ap (λ o. Some (begins_with o v)) (same_Some r.1 op k)
    at false e k rest = rest k (only_look r.0 s next (given_only s r.0 (first_value r s)) x (apart_back r.0 x e) [] ∙ h)

pub may_begin : ChunksMayBegin
may_begin roles outer scalars different = record {
  locals = λ x h. begun_locals roles.reductions outer x (not_reduced x h);
  cells = λ x is h. begun_cells roles.reductions outer x is (not_reduced x h);
  scalars = λ x h. begun_scalar roles.reductions outer x (scalars x h);
  begins = λ x op v is h. begun_holds roles.reductions outer x op v different is h;
}
  where
    not_reduced : (x : Variable) → is_among (role_variables roles) x ≡ false → is_among (reduced roles.reductions) x ≡ false
    not_reduced x h =
        (or_parts (is_among (assigned_first roles) x) (is_among (reduced roles.reductions) x) (sym (list_any-append (λ y. y == x) (assigned_first roles) (reduced roles.reductions)) ∙ h)).1
