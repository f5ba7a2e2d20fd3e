-- Writes to different elements commute.
use Rattle.std.specs.Prelude.{ℕ, Bool, true, false, ◌==◌, ◌&&◌, ◌≡◌, List, Option}
use Rattle.std.proofs.Common.{refl, sym, ◌∙◌, cond}
use Rattle.std.proofs.Math.Path.{fun_ext}
use Rattle.std.specs.Cmp.Lexicographic.{same_text}
use Rattle.std.proofs.lemmas.Bool.{eqb-true}
use Rattle.semantics.specs.Tree.{Variable}
use Rattle.semantics.specs.Meaning.State.{State, cells_after, with_cell, renewed, same_indexes}

renewed_twice : (o : Option ℕ) (v w : ℕ) (a b : Bool) → (a ≡ true → b ≡ true → ⊥) → cond b (renewed (cond a (renewed o v) o) w) (cond a (renewed o v) o) ≡ cond a (renewed (cond b (renewed o w) o) v) (cond b (renewed o w) o)
renewed_twice o v w true true ne = absurd (ne refl refl)
renewed_twice o v w true false ne = refl
renewed_twice o v w false true ne = refl
renewed_twice o v w false false ne = refl

and_true : (a b : Bool) → (a && b) ≡ true → (a ≡ true) × (b ≡ true)
and_true true b e = (refl, e)
and_true false b e = cc

-- two writes to different elements leave the same state in both orders
pub writes_commute : (s : State) (x y : Variable) (is js : List ℕ) (v w : ℕ) → ((x ≡ y) × (is ≡ js) → ⊥) → with_cell (with_cell s x is v) y js w ≡ with_cell (with_cell s y js w) x is v
writes_commute s x y is js v w ne = λ i. record { cells = cells i; locals = s.locals }
  where
    apart : (z : Variable) (ks : List ℕ) → ((z == x) && same_indexes ks is) ≡ true → ((z == y) && same_indexes ks js) ≡ true → ⊥
    apart z ks a b =
        let p = and_true (z == x) (same_indexes ks is) a in
        let q = and_true (z == y) (same_indexes ks js) b in
        ne (sym (eqb-true z x p.0) ∙ eqb-true z y q.0, sym (same_text ks is (sym p.1)) ∙ same_text ks js (sym q.1))

    cells : cells_after (cells_after s.cells x is v) y js w ≡ cells_after (cells_after s.cells y js w) x is v
    cells = fun_ext (λ z. fun_ext (λ ks. renewed_twice (s.cells z ks) v w ((z == x) && same_indexes ks is) ((z == y) && same_indexes ks js) (apart z ks)))
