use Rattle.std.proofs.Common.{◌≢◌, ◌/◌, ◌%◌, ◌+◌, ◌*◌, ◌<◌, ℕ, subst, sym, arith}
use Rattle.lower_unroll.proofs.Counts.{below_exact, below_rest}
use Rattle.lower_unroll.proofs.counting.turns_below.Goals.{then-apart-by-eq0, else-apart-by-eq0}
use Rattle.lower_unroll.proofs.counting.turns_below.Goals as goal

pub returns-clause-below : goal.returns-clause-below
returns-clause-below c =
    let first = c.args.first in
    let limit = c.args.limit in
    let by = c.args.by in
    let rest = c.if-apart-by-eq0.rest in
    let apart = c.saturating_sub-apart.ensures in
    subst (λ (a : ℕ). (k : ℕ) → k < a / by + rest → first + k * by < limit) (sym apart)
    (elim c.if-apart-by-eq0.branch [
      | then-apart-by-eq0 w ↦ λ k lt. below_exact first limit by k rest (let z = c.if-by-eq0.false in omega (arith, z)) w.rest-is lt
      | else-apart-by-eq0 w ↦ λ k lt. below_rest first limit by k rest w.rest-is (subst (λ (a : ℕ). a % by ≢ 0) apart w.if-apart-by-eq0.false) lt
    ])
