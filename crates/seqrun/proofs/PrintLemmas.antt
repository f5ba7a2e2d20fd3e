-- How a printf goes on, part by part.
use Rattle.std.proofs.Common.{◌≡◌, ℕ, suc, ◌+◌, ◌<◌, ◌≤◌, List, [], ◌∷◌, ◌++◌, length, get_or, drop, map, add-one, drop-cons, append_assoc, append-nil, Option, Some, None, IsSome, refl, sym, ap, ◌∙◌, subst}
use Rattle.std.proofs.lemmas.List.{drop_all}
use Rattle.semantics.specs.Meaning.State.{State}
use Rattle.semantics.specs.Meaning.Value.{map_option, both}
use Rattle.semantics.specs.Meaning.Runs.{print_text, part_text}
use Rattle.ktree.specs.View.{part_of}
use Rattle.ktree.specs.declared.statement.PrintPart.{PrintPart}
use Rattle.seqrun_io.specs.Told.{AddsBeginning}
use Rattle.seqrun_io.proofs.Beginnings.{of_front, of_rest}
use Rattle.seqrun.specs.Ran.{text_or_none}

-- the text so far, and what is left to print
pub record Printing (whole rest : Option (List ℕ)) (text text' : List ℕ) : Type 0 where
  pub front : List ℕ
  pub is : whole ≡ map_option (λ b. front ++ b) rest
  pub printed : text' ≡ text ++ front

pub printing_from : (whole : Option (List ℕ)) (t : List ℕ) → Printing whole whole t t
printing_from None t = record { front = []; is = refl; printed = sym (append-nil t) }
printing_from (Some b) t = record { front = []; is = refl; printed = sym (append-nil t) }

rest_front : (a b : List ℕ) (o : Option (List ℕ)) → map_option (λ x. a ++ x) (map_option (λ x. b ++ x) o) ≡ map_option (λ x. (a ++ b) ++ x) o
rest_front a b None = refl
rest_front a b (Some x) = ap Some (sym (append_assoc a b x))

both_front : (b : List ℕ) (o : Option (List ℕ)) → both (λ x y. x ++ y) (Some b) o ≡ map_option (λ x. b ++ x) o
both_front b None = refl
both_front b (Some x) = refl

no_text : (whole : Option (List ℕ)) → whole ≡ None → IsSome whole → ⊥
no_text None e h = cc
no_text (Some b) e h = cc

-- a part's beginning behind the text so far is a beginning of the whole
begun_at : (whole a b : Option (List ℕ)) (front t t' t'' : List ℕ) → whole ≡ map_option (λ x. front ++ x) (both (λ x y. x ++ y) a b) → IsSome whole → t' ≡ t ++ front → AddsBeginning t' t'' (text_or_none a) → AddsBeginning t t'' (text_or_none whole)
begun_at whole None b front t t' t'' e h p begun = absurd (no_text whole e h)
begun_at whole (Some x) None front t t' t'' e h p begun = absurd (no_text whole e h)
begun_at whole (Some x) (Some y) front t t' t'' e h p begun =
    subst (λ (o : Option (List ℕ)). AddsBeginning t t'' (text_or_none o)) (sym e) (of_rest t t' t'' front (x ++ y) p (of_front t' t'' x y begun))

text_there : (o : Option (List ℕ)) → IsSome o → o ≡ Some (text_or_none o)
text_there None h = cc
text_there (Some b) h = refl

module _ (s : State) (ps : List PrintPart) (i : ℕ) (p : PrintPart) (lt : i < length ps) (is : p ≡ get_or ps i p) where
  here : print_text s (map part_of (drop i ps)) ≡ both (λ x y. x ++ y) (part_text s (part_of p)) (print_text s (map part_of (drop (i + 1) ps)))
  here =
      let front : drop i ps ≡ p ∷ drop (i + 1) ps = rw add-one (drop-cons ps i p lt ∙ ap (λ x. x ∷ drop (suc i) ps) (sym is)) in
      ap (λ xs. print_text s (map part_of xs)) front

  pub part_some : (whole : Option (List ℕ)) (t t' : List ℕ) → Printing whole (print_text s (map part_of (drop i ps))) t t' → IsSome whole → IsSome (part_text s (part_of p))
  part_some whole t t' g h = first (part_text s (part_of p)) _ (rest _ (subst IsSome (g.is ∙ ap (map_option (λ b. g.front ++ b)) here) h))
    where
      first : (a b : Option (List ℕ)) → IsSome (both (λ x y. x ++ y) a b) → IsSome a
      first None b h = cc
      first (Some x) b h = refl

      rest : (o : Option (List ℕ)) → IsSome (map_option (λ b. g.front ++ b) o) → IsSome o
      rest None h = cc
      rest (Some x) h = refl

  pub printing_on : (whole : Option (List ℕ)) (t t' t'' : List ℕ) → Printing whole (print_text s (map part_of (drop i ps))) t t' → IsSome whole → t'' ≡ t' ++ text_or_none (part_text s (part_of p)) → Printing whole (print_text s (map part_of (drop (i + 1) ps))) t t''
  printing_on whole t t' t'' g h f =
      let b = text_or_none (part_text s (part_of p)) in
      let e = text_there (part_text s (part_of p)) (part_some whole t t' g h) in
      record {
        front = g.front ++ b;
        is = g.is ∙ ap (map_option (λ x. g.front ++ x)) (here ∙ ap (λ o. both (λ x y. x ++ y) o (print_text s (map part_of (drop (i + 1) ps)))) e ∙ both_front b (print_text s (map part_of (drop (i + 1) ps)))) ∙ rest_front g.front b (print_text s (map part_of (drop (i + 1) ps)));
        printed = f ∙ ap (λ x. x ++ b) g.printed ∙ append_assoc t g.front b;
      }

  pub printing_begun : (whole : Option (List ℕ)) (t t' t'' : List ℕ) → Printing whole (print_text s (map part_of (drop i ps))) t t' → IsSome whole → AddsBeginning t' t'' (text_or_none (part_text s (part_of p))) → AddsBeginning t t'' (text_or_none whole)
  printing_begun whole t t' t'' g h begun =
      begun_at whole (part_text s (part_of p)) (print_text s (map part_of (drop (i + 1) ps))) g.front t t' t'' (g.is ∙ ap (map_option (λ b. g.front ++ b)) here) h g.printed begun

pub printing_over : (s : State) (ps : List PrintPart) (i : ℕ) (whole : Option (List ℕ)) (t t' : List ℕ) → length ps ≤ i → Printing whole (print_text s (map part_of (drop i ps))) t t' → t' ≡ t ++ text_or_none whole
printing_over s ps i whole t t' le g =
    let all : whole ≡ Some (g.front ++ []) = g.is ∙ ap (λ xs. map_option (λ x. g.front ++ x) (print_text s (map part_of xs))) (drop_all i ps le) in
    g.printed ∙ ap (λ l. t ++ l) (sym (append-nil g.front) ∙ ap text_or_none (sym all))
