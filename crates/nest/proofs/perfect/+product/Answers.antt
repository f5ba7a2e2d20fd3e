use Rattle.std.specs.Prelude.{ℕ, ◌-◌, ◌*◌, ◌^◌, ◌≤◌, ◌≡◌, ◌∷◌}
use Rattle.std.specs.Option.{SomeIff}
use Rattle.std.proofs.Common.{ap, sym, subst, ◌∙◌}
use Rattle.nest.specs.Facts.{product_of}
use Rattle.nest.proofs.PerfectLaw.{pred_is}
use Rattle.nest.proofs.perfect.+product.Goals as goal

pub returns : goal.returns
returns t c =
    let n = c.args.depth in
    let first = c.in-Some.first.now in
    let inner = c.in-Some.inner.now in
    let same : product_of n c.args.loops.now ≡ first.trip_count * product_of (n - 1) inner =
    ap (λ xs. product_of n xs) c.in-Some.ensures.cases.0 ∙ ap (λ (k : ℕ). product_of k (first ∷ inner)) (pred_is n c.if-depth-eq0.false) in
    subst (λ (k : ℕ). SomeIff c.product_within.result (k ≤ 2 ^ 24) k) (sym same) (c.product_within.ensures (product_of (n - 1) inner) c.product.ensures)
