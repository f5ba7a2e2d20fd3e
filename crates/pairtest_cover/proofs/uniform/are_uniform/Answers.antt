use Rattle.std.proofs.Common.{◌≡◌, ◌+◌, ◌↔◌, List, ◌∷◌, [], ◌++◌, true, take, length, min, All, length-append, subst, arith, rules}
use Rattle.std.specs.List.{zip}
use Rattle.std.proofs.lemmas.List.{take_all}
use Rattle.std.proofs.lemmas.Slice.Zip.{zip_turn, zip_end, length-zip}
use Rattle.std.specs.Iterator.Adapters.{zip_first, zip_second}
use Rattle.std.specs.Slice.Iter.{iter_rest}
use Rattle.pairtest.specs.declared.access.Subscript.{Subscript}
use Rattle.pairtest_cover.specs.Covered.{IsUniform}
use Rattle.pairtest_cover.proofs.Zipped.{all_zipped}
use Rattle.pairtest_cover.proofs.uniform.are_uniform.Goals as goal

pub loop-s-preserved : goal.loop-s-preserved
loop-s-preserved c =
    let ks = c.args.x.now.subscripts.items in
    let vs = c.args.y.now.subscripts.items in
    let first : iter_rest (zip_first c.into_iter-s-iterator.result) ≡ ks = search rules in
    let second : iter_rest (zip_second c.into_iter-s-iterator.result) ≡ vs = search rules in
    let turn = zip_turn ks vs c.loop-s.yielded c.into_iter-s-iterator.result c.loop-s.s-iterator c.next.new.self c.next.result first second c.loop-s.yielded_by
    (c.in-Some.s, c.in-Some.t) c.in-Some.is c.next.ensures.steps in
    let next : length (c.loop-s.yielded ++ (c.in-Some.s, c.in-Some.t) ∷ []) ≡ length c.loop-s.yielded + 1 = length-append c.loop-s.yielded ((c.in-Some.s, c.in-Some.t) ∷ []) in
    all_zipped (λ (d : Subscript × Subscript). IsUniform c.args.nest.now d.0 d.1) ks vs (length c.loop-s.yielded) _ c.in-Some.s.now c.in-Some.t.now c.loop-s.all c.is_uniform-all.result
    next turn.0 turn.1 turn.2 turn.3 c.loop-s.invariant c.is_uniform-all.ensures

pub returns : goal.returns
returns c =
    let ks = c.args.x.now.subscripts.items in
    let vs = c.args.y.now.subscripts.items in
    let first : iter_rest (zip_first c.into_iter-s-iterator.result) ≡ ks = search rules in
    let second : iter_rest (zip_second c.into_iter-s-iterator.result) ≡ vs = search rules in
    let end : length c.loop-s.yielded ≡ min (length ks) (length vs) =
    zip_end ks vs c.loop-s.yielded c.into_iter-s-iterator.result c.loop-s.s-iterator c.next.new.self c.next.result first second c.loop-s.yielded_by c.in-None.is c.next.ensures.steps in
    let long : length (zip ks vs) ≡ min (length ks) (length vs) = length-zip ks vs in
    let whole : take (length c.loop-s.yielded) (zip ks vs) ≡ zip ks vs = take_all (length c.loop-s.yielded) (zip ks vs) (omega arith) in
    subst (λ (ds : List (Subscript × Subscript)). (c.loop-s.all ≡ true) ↔ All (λ d. IsUniform c.args.nest.now d.0 d.1) ds) whole c.loop-s.invariant
