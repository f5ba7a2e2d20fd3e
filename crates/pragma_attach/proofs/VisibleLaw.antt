-- Names at file scope, one after another.
use Rattle.std.specs.Prelude.{ℕ, suc, ◌+◌, ◌≡◌, ◌<◌, List, ◌∷◌, length, map, get_or, drop, string_bytes}
use Rattle.std.proofs.Common.{add-one, drop-cons, refl, sym, ap, ◌∙◌}
use Rattle.semantics.specs.Source.Scope.{Scope, AVariable, AConstant, with_constants}
use Rattle.semantics.specs.Directives.Annotated.{variables_from}
use Rattle.ktree.specs.View.{declaration_of}
use Rattle.ktree.specs.declared.statement.Declaration.{Declaration}
use Rattle.ktree.specs.declared.statement.Enumerator.{Enumerator}

here : {A : Type 0} (xs : List A) (i : ℕ) (x : A) → i < length xs → x ≡ get_or xs i x → drop i xs ≡ x ∷ drop (i + 1) xs
here xs i x lt e = rw add-one (drop-cons xs i x lt ∙ ap (λ y. y ∷ drop (suc i) xs) (sym e))

-- a variable before those behind it
pub variable_here : (ds : List Declaration) (i : ℕ) (d : Declaration) → i < length ds → d ≡ get_or ds i d
    → variables_from i (map declaration_of (drop i ds)) ≡ (string_bytes d.name, AVariable i (length d.lengths.items)) ∷ variables_from (i + 1) (map declaration_of (drop (i + 1) ds))
variable_here ds i d lt e =
    ap (λ es. variables_from i (map declaration_of es)) (here ds i d lt e)
    ∙ ap (λ j. (string_bytes d.name, AVariable i (length d.lengths.items)) ∷ variables_from j (map declaration_of (drop (i + 1) ds))) (rw add-one refl)

-- a constant, and those behind it
pub constant_here : (cs : List Enumerator) (i : ℕ) (c : Enumerator) → i < length cs → c ≡ get_or cs i c → (scope : Scope)
    → with_constants (map (λ (c : Enumerator). (string_bytes c.name, c.value)) (drop i cs)) scope
    ≡ with_constants (map (λ (c : Enumerator). (string_bytes c.name, c.value)) (drop (i + 1) cs)) ((string_bytes c.name, AConstant c.value) ∷ scope)
constant_here cs i c lt e scope = ap (λ es. with_constants (map (λ (c : Enumerator). (string_bytes c.name, c.value)) es) scope) (here cs i c lt e)
