-- Locals have numbers behind those of the file-scope variables, and no objects there.
use Rattle.std.specs.Prelude.{ℕ, Bool, true, false, not, ◌≡◌, ◌==◌, ◌<◌, ◌≤◌, ◌||◌, List, [], ◌∷◌, length, None, slice_get, option_and_then}
use Rattle.std.specs.List.{AllByRecursion}
use Rattle.std.proofs.Common.{refl, sym, ap, ◌∙◌, subst}
use Rattle.std.proofs.lemmas.Bool.{eqb-true}
use Rattle.std.proofs.lemmas.List.{length-map}
use Rattle.std.proofs.lemmas.Option.{slice_get_past}
use Rattle.semantics.specs.Tree.{Variable, Stmt}
use Rattle.semantics.specs.Meaning.Agrees.{is_among, declared_in}
use Rattle.semantics.specs.Meaning.State.{State}
use Rattle.law_commute.specs.Joining.{DeclaresLocals}
use Rattle.store.specs.Kept.{Kept}
use Rattle.store.specs.Flat.{values_of}
use Rattle.lower_code.specs.declared.laid.Laid.{Laid}
use Rattle.lower_code.specs.Layout.{shapes_of, spot_in, first_of, cell_at}
use Rattle.lower_code.specs.Meaning.{AreLocals}
use Rattle.lower_run.specs.Walk.{StandFor}

-- what holds of each of a list holds of one among them
pub of_among : (P : Variable → Type 0) (xs : List Variable) (x : Variable) → AllByRecursion P xs → is_among xs x ≡ true → P x
of_among P [] x h e = absurd cc
of_among P (y ∷ ys) x h e = go (y == x) refl e (λ k. of_among P ys x h.1 k)
  where
    go : (b : Bool) → (y == x) ≡ b → (b || is_among ys x) ≡ true → (is_among ys x ≡ true → P x) → P x
    go true q k rest = subst P (eqb-true y x q) h.0
    go false q k rest = rest k

number_of : (layout : List Laid) (mark : ℕ) (xs : List Variable) (x : Variable) → AreLocals layout mark xs → is_among xs x ≡ true → length layout ≤ x
number_of layout mark xs x h e = (of_among (λ y. (length layout ≤ y) × (y < mark)) xs x h e).0

pub no_cell : (layout : List Laid) (cells : List ℕ) (x : Variable) (is : List ℕ) → length layout ≤ x → cell_at (shapes_of layout) cells x is ≡ None
no_cell layout cells x is le =
    let past : length (shapes_of layout) ≤ x = subst (λ n. n ≤ x) (sym (length-map layout (λ (l : Laid). l.lengths.items))) le in
    ap (λ o. option_and_then (λ k. slice_get cells k) (spot_in o (first_of (shapes_of layout) x) is)) (slice_get_past (shapes_of layout) x past)

pub declares : (layout : List Laid) (mark : ℕ) (s : State) (rs : List ℕ) (ks : List Kept) → StandFor layout mark s rs ks → (a : Stmt) → AreLocals layout mark (declared_in a) → DeclaresLocals a s
declares layout mark s rs ks stand a locals x hidden = go (is_among (declared_in a) x) refl hidden
  where
    go : (b : Bool) → is_among (declared_in a) x ≡ b → not b ≡ false → s.cells x [] ≡ None
    go true e h = stand.machine.cell x [] ∙ no_cell layout (values_of ks) x [] (number_of layout mark (declared_in a) x locals e)
    go false e h = absurd cc
