use Rattle.std.proofs.Common.{◌≡◌, ◌+◌, ◌↔◌, ◌⊎◌, List, ◌∷◌, [], ◌++◌, true, take, length, min, All, length-append, subst, arith, rules}
use Rattle.std.specs.List.{Any, zip}
use Rattle.std.proofs.lemmas.List.{take_all}
use Rattle.std.proofs.lemmas.Slice.Zip.{zip_turn, zip_end, length-zip}
use Rattle.std.specs.Iterator.Adapters.{zip_first, zip_second}
use Rattle.std.specs.Slice.Iter.{iter_rest}
use Rattle.pairtest.specs.declared.access.Subscript.{Subscript}
use Rattle.pairtest.specs.Equations.{IsRefuted, NumbersWithin}
use Rattle.pairtest.specs.DirectionVectors.{IsBoxEmpty, direction_equation}
use Rattle.pairtest.proofs.Summaries.{if_err_any, pairs_refuted_more, pairs_within_more, pair_within}
use Rattle.pairtest.proofs.direction.is_refuted.Goals as goal

pub loop-s-preserved : goal.loop-s-preserved
loop-s-preserved c =
    let ks = c.args.earlier.now.subscripts.items in
    let vs = c.args.later.now.subscripts.items in
    let first : iter_rest (zip_first c.into_iter-s-iterator.result) ≡ ks = search rules in
    let second : iter_rest (zip_second c.into_iter-s-iterator.result) ≡ vs = search rules in
    let turn = zip_turn ks vs c.loop-s.yielded c.into_iter-s-iterator.result c.loop-s.s-iterator c.next.new.self c.next.result first second c.loop-s.yielded_by
    (c.in-Some.s, c.in-Some.t) c.in-Some.is c.next.ensures.steps in
    let i = length c.loop-s.yielded in
    let next : length (c.loop-s.yielded ++ (c.in-Some.s, c.in-Some.t) ∷ []) ≡ i + 1 = length-append c.loop-s.yielded ((c.in-Some.s, c.in-Some.t) ∷ []) in
    let P : Subscript × Subscript → Type 0 = λ d. IsRefuted (direction_equation c.args.nest.now c.args.at c.args.earlier.now c.args.later.now d.0 d.1) in
    let Q : Subscript × Subscript → Type 0 = λ d. NumbersWithin (direction_equation c.args.nest.now c.args.at c.args.earlier.now c.args.later.now d.0 d.1) in
    record {
      refuted =
          pairs_refuted_more {E = IsBoxEmpty c.args.nest.now c.args.at c.args.earlier.now c.args.later.now} P ks vs i _ c.in-Some.s.now c.in-Some.t.now c.loop-s.refuted
          c.in_ok-refuted.field-0 next turn.0 turn.1 turn.2 turn.3 c.loop-s.invariant.refuted c.in_ok-refuted.ensures.ok;
      within = pairs_within_more Q ks vs i _ c.in-Some.s.now c.in-Some.t.now next turn.0 turn.1 turn.2 turn.3 c.loop-s.invariant.within c.in_ok-refuted.ensures.within;
    }

pub returns-in_err-refuted-clause-err : goal.returns-in_err-refuted-clause-err
returns-in_err-refuted-clause-err c =
    let ks = c.args.earlier.now.subscripts.items in
    let vs = c.args.later.now.subscripts.items in
    let first : iter_rest (zip_first c.into_iter-s-iterator.result) ≡ ks = search rules in
    let second : iter_rest (zip_second c.into_iter-s-iterator.result) ≡ vs = search rules in
    let turn = zip_turn ks vs c.loop-s.yielded c.into_iter-s-iterator.result c.loop-s.s-iterator c.next.new.self c.next.result first second c.loop-s.yielded_by
    (c.in-Some.s, c.in-Some.t) c.in-Some.is c.next.ensures.steps in
    let Q : Subscript × Subscript → Type 0 = λ d. NumbersWithin (direction_equation c.args.nest.now c.args.at c.args.earlier.now c.args.later.now d.0 d.1) in
    if_err_any c.from_residual.result
    (λ all. c.in_err-refuted.ensures.err (pair_within Q ks vs (length c.loop-s.yielded) c.in-Some.s.now c.in-Some.t.now turn.0 turn.1 turn.2 turn.3 all))

pub returns-clause-ok : goal.returns-clause-ok
returns-clause-ok c =
    let ks = c.args.earlier.now.subscripts.items in
    let vs = c.args.later.now.subscripts.items in
    let first : iter_rest (zip_first c.into_iter-s-iterator.result) ≡ ks = search rules in
    let second : iter_rest (zip_second c.into_iter-s-iterator.result) ≡ vs = search rules in
    let end : length c.loop-s.yielded ≡ min (length ks) (length vs) =
    zip_end ks vs c.loop-s.yielded c.into_iter-s-iterator.result c.loop-s.s-iterator c.next.new.self c.next.result first second c.loop-s.yielded_by c.in-None.is c.next.ensures.steps in
    let long : length (zip ks vs) ≡ min (length ks) (length vs) = length-zip ks vs in
    let whole : take (length c.loop-s.yielded) (zip ks vs) ≡ zip ks vs = take_all (length c.loop-s.yielded) (zip ks vs) (omega arith) in
    subst
    (λ (ds : List (Subscript × Subscript)).
    (c.loop-s.refuted ≡ true)
    ↔ (IsBoxEmpty c.args.nest.now c.args.at c.args.earlier.now c.args.later.now ⊎ Any (λ d. IsRefuted (direction_equation c.args.nest.now c.args.at c.args.earlier.now c.args.later.now d.0 d.1)) ds))
    whole c.loop-s.invariant.refuted

pub returns-clause-within : goal.returns-clause-within
returns-clause-within c =
    let ks = c.args.earlier.now.subscripts.items in
    let vs = c.args.later.now.subscripts.items in
    let first : iter_rest (zip_first c.into_iter-s-iterator.result) ≡ ks = search rules in
    let second : iter_rest (zip_second c.into_iter-s-iterator.result) ≡ vs = search rules in
    let end : length c.loop-s.yielded ≡ min (length ks) (length vs) =
    zip_end ks vs c.loop-s.yielded c.into_iter-s-iterator.result c.loop-s.s-iterator c.next.new.self c.next.result first second c.loop-s.yielded_by c.in-None.is c.next.ensures.steps in
    let long : length (zip ks vs) ≡ min (length ks) (length vs) = length-zip ks vs in
    let whole : take (length c.loop-s.yielded) (zip ks vs) ≡ zip ks vs = take_all (length c.loop-s.yielded) (zip ks vs) (omega arith) in
    subst (λ (ds : List (Subscript × Subscript)). All (λ d. NumbersWithin (direction_equation c.args.nest.now c.args.at c.args.earlier.now c.args.later.now d.0 d.1)) ds)
    whole c.loop-s.invariant.within
