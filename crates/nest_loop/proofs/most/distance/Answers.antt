use Rattle.std.specs.Prelude.{ℤ, ◌≡◌, ◌+ℤ◌, pos}
use Rattle.std.proofs.Common.{◌∙◌, to_z, of_z, arith, rules}
use mir.Syntax.{w64, w128}
use Rattle.std.proofs.lemmas.Int.{ints}
use Rattle.std.proofs.lemmas.Result.{IfOk-weaker}
use Rattle.semantics.specs.Tree.{Variable}
use Rattle.affine.specs.Affine.{value}
use Rattle.nest_loop.proofs.Turning.{distance_is}
use Rattle.nest_loop.proofs.most.distance.Goals as goal

pub returns-clause-ok : goal.returns-clause-ok
returns-clause-ok c =
    let l = c.args.canonical.now in
    let own : to_z w64 (of_z w64 c.end_offset.result) ≡ c.end_offset.result = search (rules, ints) in
    let read : to_z w128 (of_z w128 c.from-offset.result) ≡ c.from-offset.result = search (rules, ints) in
    let zero : c.end_offset.result ≡ c.end_offset.result +ℤ pos 0 = omega (arith, ints) in
    IfOk-weaker c.with_number.result _ _ (λ sum is (v : Variable → ℤ).
    is v ∙ distance_is l v (value c.in_ok-apart.apart v) (to_z w128 (of_z w128 c.from-offset.result)) c.end_offset.result (c.in_ok-apart.ensures.ok v) (read ∙ c.from-offset.ensures ∙ own ∙ zero) (c.end_offset.ensures.way l.stride.direction)) c.with_number.ensures.ok
