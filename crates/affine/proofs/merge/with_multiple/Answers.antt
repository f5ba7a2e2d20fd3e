use Rattle.std.proofs.Common.{◌≡◌, ℤ, w64, subst, sym, ap, ◌∙◌, rules, inl, inr, ⊎_elim, to_z, of_z}
use mir.Syntax.{w128}
use Rattle.std.proofs.lemmas.Int.{ints, to_z-of_z}
use Rattle.std.proofs.lemmas.Result.{err_from_is_err_and}
use Rattle.affine.specs.Arithmetic.{term_before, with_multiple}
use Rattle.affine.specs.Limits.{TermsFit}
use Rattle.affine.proofs.Terms.{passes_limits}
use Rattle.affine.proofs.merge.with_multiple.Goals as goal

pub returns-in_err-push_term-clause-refusal : goal.returns-in_err-push_term-clause-refusal
returns-in_err-push_term-clause-refusal c =
    let p = err_from_is_err_and c.from_residual.result c.from_residual.ensures.1 in
    let s = c.in-Some.split in
    let f = to_z w64 (of_z w64 c.args.factor) in
    let rest = with_multiple f c.loop-split.multiple.now c.loop-split.base.now in
    let more = with_multiple f s.multiple.now s.base.now in
    let read : to_z w128 (of_z w128 s.coefficient) ≡ s.coefficient = search (rules, ints) in
    let next = c.in-Some.ensures.some ∙ ap (λ (n : ℤ). term_before s.variable.0 n more) (sym read) in
    let total = λ (n : ℤ). with_multiple n c.args.multiple.now c.args.base.now in
    rw (p.1, p.2)
    (⊎_elim (λ e. inl e)
    (λ e. inr (
      e.0,
      subst (λ (n : ℤ). ¬ (TermsFit (total n))) (to_z-of_z w64 c.args.factor c.ranges.factor)
          (passes_limits c.loop-split.terms.items s.variable.0 (to_z w128 (of_z w128 s.coefficient)) rest more (total f) c.loop-split.invariant.total next e.1),
    ))
    c.in_err-push_term.ensures.refusal)
