use Rattle.std.proofs.Common.{rules, to_z, of_z, ◌≡◌, ◌∙◌, ◌+◌, ◌++◌, ◌∷◌, [], suc, ap, arith, map, sym, take}
use mir.Syntax.{w128}
use Rattle.std.proofs.lemmas.Int.{ints}
use Rattle.std.proofs.Math.Seq.{take-suc}
use Rattle.std.proofs.lemmas.List.{map-append}
use Rattle.ktree.specs.DirectiveView.{name_of, element_of}
use Rattle.pragma_region.proofs.sinks.offsets.Goals as goal

pub loop-element-preserved : goal.loop-element-preserved
loop-element-preserved c =
    let f = element_of name_of in
    let i = c.loop-element.element-index in
    let xs = c.args.elements.now in
    let x = c.element-item.result in
    let next : i + 1 ≡ suc i = omega arith in
    let longer : take (i + 1) xs ≡ take i xs ++ x ∷ [] = ap (λ n. take n xs) next ∙ take-suc xs i x c.loop-element-test.true ∙ ap (λ y. take i xs ++ y ∷ []) (sym c.element-item.is) in
    let read : to_z w128 (of_z w128 c.number_of.result) ≡ c.number_of.result = search (rules, ints) in
    c.in_ok-push.ensures.items
    ∙ ap (λ n. c.loop-element.offsets.items ++ n ∷ []) read
    ∙ ap (λ l. l ++ c.number_of.result ∷ []) c.loop-element.invariant
    ∙ ap (λ n. map (λ e. e.1) (map f (take i xs)) ++ n ∷ []) c.number_of.ensures
    ∙ sym (map-append (λ e. e.1) (map f (take i xs)) (f x ∷ []))
    ∙ ap (map (λ e. e.1)) (sym (map-append f (take i xs) (x ∷ [])))
    ∙ ap (λ l. map (λ e. e.1) (map f l)) (sym longer)
