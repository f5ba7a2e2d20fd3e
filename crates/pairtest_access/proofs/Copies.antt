-- The last of some loops first.
use Rattle.std.specs.Prelude.{◌≡◌, List, [], ◌∷◌, ◌++◌, map, reverse}
use Rattle.std.proofs.Common.{sym, ap, ◌∙◌}
use Rattle.std.proofs.lemmas.List.{map-append, reverse-append}
use Rattle.nest_loop.specs.declared.head.Canonical.{Canonical}
use Rattle.pairtest_counter.specs.declared.level.EnclosingLoop.{EnclosingLoop}

-- the first loop behind the others
pub first_last : (levels : List EnclosingLoop) (v : EnclosingLoop) (vs : List EnclosingLoop) (found items : List Canonical) (l : Canonical) → levels ≡ v ∷ vs → found ≡ map (λ u. u.canonical) (reverse vs)
    → items ≡ found ++ (l ∷ []) → l ≡ v.canonical → items ≡ map (λ u. u.canonical) (reverse levels)
first_last levels v vs found items l e is more same =
    more ∙ ap (λ ls. ls ++ (l ∷ [])) is ∙ ap (λ a. map (λ u. u.canonical) (reverse vs) ++ (a ∷ [])) same ∙ sym (map-append (λ u. u.canonical) (reverse vs) (v ∷ []))
    ∙ ap (λ us. map (λ u. u.canonical) us) (sym (reverse-append (v ∷ []) vs) ∙ ap (λ us. reverse us) (sym e))
