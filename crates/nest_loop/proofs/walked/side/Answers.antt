use Rattle.std.proofs.Common.{◌≡◌, ◌≤◌, ◌^◌, ℤ, List, [], ◌+ℤ◌, unsigned_abs, to_z, of_z, w64, length, sym, ap, ◌∙◌, subst, rules}
use Rattle.std.proofs.lemmas.Int.{ints}
use Rattle.std.proofs.lemmas.Bool.{eqb-true}
use Rattle.affine.specs.declared.term.Term.{Term}
use Rattle.nest_loop.specs.Sides.{end_of}
use Rattle.nest_loop.specs.Whole.{IsWalked}
use Rattle.affine_expr.proofs.Keeping.{kept-same}
use Rattle.nest_loop.proofs.Boxes.{sum_read, nothing_in, side_exact}
use Rattle.nest_loop.proofs.walked.side.Goals as goal

pub returns-then-is_empty-2-clause-side : goal.returns-then-is_empty-2-clause-side
returns-then-is_empty-2-clause-side c =
    let l = c.args.canonical.now in
    let starts = c.terms.result.now in
    let limits = c.terms-then-is_empty.result.now in
    let none = subst (λ (ts : List Term). ts ≡ []) c.terms.ensures.value (nothing_in starts (eqb-true (length starts) 0 (sym c.if-is_empty.ensures))) in
    let none2 = subst (λ (ts : List Term). ts ≡ []) c.terms-then-is_empty.ensures.value (nothing_in limits (eqb-true (length limits) 0 (sym c.if-is_empty-2.ensures))) in
    let first : to_z w64 (of_z w64 c.constant_term.result) ≡ c.constant_term.result = search (rules, ints) in
    let limit = c.constant_term-then-is_empty-2.result in
    let shift = c.end_shift-shift.result in
    let within = subst (λ (n : ℤ). unsigned_abs n ≤ 2 ^ 32) (sym c.constant_term-then-is_empty-2.ensures) (kept-same l.limit l.limit c.requires.well.limit).1.numbers.constant in
    let end = sum_read limit shift within c.end_shift-shift.ensures.within ∙ ap (λ (n : ℤ). n +ℤ shift) c.constant_term-then-is_empty-2.ensures
    ∙ ap (λ (n : ℤ). l.limit.constant +ℤ n) c.end_shift-shift.ensures.value in
    let walked = subst (λ (n : ℤ). IsWalked l.stride n (end_of l).constant c.exact.result) (first ∙ c.constant_term.ensures)
    (subst (λ (n : ℤ). IsWalked l.stride (to_z w64 (of_z w64 c.constant_term.result)) n c.exact.result) end c.exact.ensures.walked) in
    side_exact c.args.bounds.now l c.exact.result none none2 walked
