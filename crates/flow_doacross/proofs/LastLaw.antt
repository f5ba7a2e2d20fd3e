-- Items of which one is the last.
use Rattle.std.specs.Prelude.{ℕ, Bool, true, false, not, ◌&&◌, ◌||◌, if◌then◌else◌, ◌≡◌, List, [], ◌∷◌, ◌++◌}
use Rattle.std.proofs.Common.{refl, sym, ap, ◌∙◌}
use Rattle.semantics.specs.Loops.Nest.{holds_none}
use Rattle.ktree.specs.View.{stmt_of, items_of}
use Rattle.ktree.specs.declared.statement.Item.{Item, Directive, Local, Statement'}
use Rattle.pragma_region.specs.Regions.{is_doacross_line}
use Rattle.nest_lines.specs.Inner.{has_line, have_line}
use Rattle.nest_lines.specs.declared.inner.InnerLine.TheVariants.{Doacross}
use Rattle.flow_doacross.specs.Lines.{is_source_line}
use Rattle.flow_doacross.specs.Bodies.{ends_in_source}
use Rattle.flow_doacross.specs.Views.{item_source}

with_true : (b : Bool) → b ≡ (b && true)
with_true true = refl
with_true false = refl

with_false : (b : Bool) → (b && false) ≡ false
with_false true = refl
with_false false = refl

-- a line, and what stands behind it
one_front : (a b c : Bool) → (not a && (b && not c)) ≡ (b && not (a || c))
one_front true b c = sym (with_false b)
one_front false b c = refl

some_left : (xs : List Item) (i : Item) → holds_none (items_of (xs ++ i ∷ [])) ≡ false
some_left [] (Directive place) = refl
some_left [] (Local l) = refl
some_left [] (Statement' p s) = refl
some_left (Directive place ∷ xs) i = refl
some_left (Local l ∷ xs) i = refl
some_left (Statement' p s ∷ xs) i = refl

module _ (text : List ℕ) where
  pub ends_at : (xs : List Item) (i : Item) → ends_in_source text (items_of (xs ++ i ∷ [])) ≡ (item_source text i && not (have_line text Doacross (items_of xs)))
  ends_at [] (Directive place) = with_true (is_source_line text place.line)
  ends_at [] (Local l) = refl
  ends_at [] (Statement' p s) = with_false (not (has_line text Doacross (stmt_of s)))
  ends_at (Directive place ∷ xs) i =
      let rest = items_of (xs ++ i ∷ []) in
      ap (λ b. if b then is_source_line text place.line else (not (is_doacross_line text place.line) && ends_in_source text rest)) (some_left xs i)
      ∙ ap (λ b. not (is_doacross_line text place.line) && b) (ends_at xs i) ∙ one_front (is_doacross_line text place.line) (item_source text i) (have_line text Doacross (items_of xs))
  ends_at (Local l ∷ xs) i = ends_at xs i
  ends_at (Statement' p s ∷ xs) i =
      ap (λ b. not (has_line text Doacross (stmt_of s)) && b) (ends_at xs i) ∙ one_front (has_line text Doacross (stmt_of s)) (item_source text i) (have_line text Doacross (items_of xs))

  -- of items that are these
  pub source_last : (items xs : List Item) (i : Item) → items ≡ xs ++ i ∷ [] → item_source text i ≡ true → ends_in_source text (items_of items) ≡ not (have_line text Doacross (items_of xs))
  source_last items xs i is source = ap (λ ys. ends_in_source text (items_of ys)) is ∙ ends_at xs i ∙ ap (λ b. b && not (have_line text Doacross (items_of xs))) source

  pub no_source_last : (items xs : List Item) (i : Item) → items ≡ xs ++ i ∷ [] → item_source text i ≡ false → ends_in_source text (items_of items) ≡ false
  no_source_last items xs i is source = ap (λ ys. ends_in_source text (items_of ys)) is ∙ ends_at xs i ∙ ap (λ b. b && not (have_line text Doacross (items_of xs))) source
