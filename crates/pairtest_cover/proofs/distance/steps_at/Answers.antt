use Rattle.std.proofs.Common.{◌≡◌, ◌+◌, ℤ, ◌*ℤ◌, List, ◌∷◌, [], ◌++◌, take, length, min, All, length-append, subst, sym, ap, ◌∙◌, of_z, arith, rules}
use mir.Syntax.{w64, w128}
use mir.Val.{SFits}
use Rattle.std.proofs.lemmas.Int.{to_z-of_z}
use Rattle.std.specs.List.{zip}
use Rattle.std.proofs.lemmas.List.{take_all}
use Rattle.std.proofs.lemmas.Slice.Zip.{zip_turn, zip_end, length-zip}
use Rattle.std.specs.Iterator.Adapters.{zip_first, zip_second}
use Rattle.std.specs.Slice.Iter.{iter_rest}
use Rattle.pairtest.specs.declared.access.Subscript.{Subscript}
use Rattle.pairtest.proofs.Summaries.{pairs_within_more, pair_within}
use Rattle.pairtest_cover.specs.Covered.{coefficient_at, StandsIn, IsEqualAt}
use Rattle.pairtest_cover.proofs.Sides.{divided_read, product_read, zero_read, none_apart}
use Rattle.pairtest_cover.proofs.distance.steps_at.Goals as goal

pub returns-then-coefficient-ne0 : goal.returns-then-coefficient-ne0
returns-then-coefficient-ne0 c =
    let ks = c.args.x.now.subscripts.items in
    let vs = c.args.y.now.subscripts.items in
    let first : iter_rest (zip_first c.into_iter-s-iterator.result) ≡ ks = search rules in
    let second : iter_rest (zip_second c.into_iter-s-iterator.result) ≡ vs = search rules in
    let turn = zip_turn ks vs c.loop-s.yielded c.into_iter-s-iterator.result c.loop-s.s-iterator c.next.new.self c.next.result first second c.loop-s.yielded_by
    (c.in-Some.s, c.in-Some.t) c.in-Some.is c.next.ensures.steps in
    let P : ℤ → Subscript × Subscript → Type 0 = λ far d. StandsIn c.args.nest.now c.args.at d.0 → IsEqualAt c.args.nest.now c.args.at far d.0 d.1 in
    λ m moves apart.
    let there : P (m *ℤ c.args.step) (c.in-Some.s.now, c.in-Some.t.now) =
    pair_within (P (m *ℤ c.args.step)) ks vs (length c.loop-s.yielded) c.in-Some.s.now c.in-Some.t.now turn.0 turn.1 turn.2 turn.3 apart.equal in
    let fits : SFits w64 c.coefficient_at-coefficient.result = search rules in
    let small : SFits w128 c.product.result = search rules in
    let less : SFits w128 c.difference.result = search rules in
    let stands : StandsIn c.args.nest.now c.args.at c.in-Some.s.now = λ q. c.if-coefficient-ne0.true (ap (of_z w64) (c.coefficient_at-coefficient.ensures ∙ q)) in
    divided_read (coefficient_at c.args.nest.now c.args.at c.in-Some.s.now) c.args.step m c.in-Some.s.now.constant c.in-Some.t.now.constant c.product.result c.difference.result _ _ c.checked_div.result
    (to_z-of_z w128 c.product.result small) (to_z-of_z w128 c.difference.result less)
    (product_read _ c.coefficient_at-coefficient.result c.args.step c.product.result fits c.ranges.step c.product.ensures.value c.coefficient_at-coefficient.ensures)
    c.difference.ensures.value c.product.ensures.within c.difference.ensures.within stands moves c.checked_div.ensures (there stands)

pub loop-s-preserved : goal.loop-s-preserved
loop-s-preserved c =
    let ks = c.args.x.now.subscripts.items in
    let vs = c.args.y.now.subscripts.items in
    let first : iter_rest (zip_first c.into_iter-s-iterator.result) ≡ ks = search rules in
    let second : iter_rest (zip_second c.into_iter-s-iterator.result) ≡ vs = search rules in
    let turn = zip_turn ks vs c.loop-s.yielded c.into_iter-s-iterator.result c.loop-s.s-iterator c.next.new.self c.next.result first second c.loop-s.yielded_by
    (c.in-Some.s, c.in-Some.t) c.in-Some.is c.next.ensures.steps in
    let next : length (c.loop-s.yielded ++ (c.in-Some.s, c.in-Some.t) ∷ []) ≡ length c.loop-s.yielded + 1 = length-append c.loop-s.yielded ((c.in-Some.s, c.in-Some.t) ∷ []) in
    let P : Subscript × Subscript → Type 0 = λ d. ¬ (StandsIn c.args.nest.now c.args.at d.0) in
    pairs_within_more P ks vs (length c.loop-s.yielded) _ c.in-Some.s.now c.in-Some.t.now next turn.0 turn.1 turn.2 turn.3 c.loop-s.invariant
    (λ stands. let fits : SFits w64 c.coefficient_at-coefficient.result = search rules in
    stands (sym c.coefficient_at-coefficient.ensures ∙ zero_read c.coefficient_at-coefficient.result fits c.if-coefficient-ne0.false))

pub returns : goal.returns
returns c =
    let ks = c.args.x.now.subscripts.items in
    let vs = c.args.y.now.subscripts.items in
    let first : iter_rest (zip_first c.into_iter-s-iterator.result) ≡ ks = search rules in
    let second : iter_rest (zip_second c.into_iter-s-iterator.result) ≡ vs = search rules in
    let end : length c.loop-s.yielded ≡ min (length ks) (length vs) =
    zip_end ks vs c.loop-s.yielded c.into_iter-s-iterator.result c.loop-s.s-iterator c.next.new.self c.next.result first second c.loop-s.yielded_by c.in-None.is c.next.ensures.steps in
    let long : length (zip ks vs) ≡ min (length ks) (length vs) = length-zip ks vs in
    let whole : take (length c.loop-s.yielded) (zip ks vs) ≡ zip ks vs = take_all (length c.loop-s.yielded) (zip ks vs) (omega arith) in
    let none : All (λ d. ¬ (StandsIn c.args.nest.now c.args.at d.0)) (zip ks vs) =
    subst (λ (ds : List (Subscript × Subscript)). All (λ d. ¬ (StandsIn c.args.nest.now c.args.at d.0)) ds) whole c.loop-s.invariant in
    λ m moves apart. absurd (none_apart (λ (d : Subscript × Subscript). StandsIn c.args.nest.now c.args.at d.0) (zip ks vs) none apart.stands)
