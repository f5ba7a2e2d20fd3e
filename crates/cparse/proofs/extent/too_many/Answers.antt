use Rattle.std.proofs.Common.{◌≡◌, ◌+◌, ◌≤◌, sym, ap, ◌∙◌, arith}
use Rattle.std.specs.Prelude.{min, nat_le, is_none, ◌&&◌}
use Rattle.semantics.specs.Meaning.Places.{size}
use Rattle.ktree.specs.View.{declaration_of}
use Rattle.cparse.proofs.ExtentLemmas.{sum_to, sum_next, still_within}
use Rattle.cparse.proofs.extent.too_many.Goals as goal

pub loop-variable-preserved : goal.loop-variable-preserved
loop-variable-preserved c =
    let vs = c.args.variables.now in
    let i = c.loop-variable.variable-index in
    let more : sum_to vs (i + 1) ≡ sum_to vs i + size c.variable-item.result.lengths.items =
    sum_next vs i _ c.loop-variable-test.true ∙ ap (λ d. sum_to vs i + size (declaration_of d).lengths) (sym c.variable-item.is) in
    let counted : c.size.result ≡ min (size c.variable-item.result.lengths.items) 18446744073709551615 = c.size.ensures ∙ ap (λ xs. min (size xs) 18446744073709551615) c.deref.ensures.value in
    let grown : sum_to vs i ≤ sum_to vs (i + 1) = omega arith in
    let before : c.loop-variable.total ≡ min (sum_to vs i) 18446744073709551615 = c.loop-variable.invariant.total in
    let added : c.saturating_add-total.result ≡ min (c.loop-variable.total + c.size.result) 18446744073709551615 = c.saturating_add-total.ensures in
    let total : c.saturating_add-total.result ≡ min (sum_to vs (i + 1)) 18446744073709551615 = omega arith in
    record {
      total = total;
      fault =
          c.earlier-fault.ensures ∙ ap (λ b. b && is_none c.unless-own.result) c.loop-variable.invariant.fault
          ∙ ap (λ b. nat_le (sum_to vs i) 16777216 && b) (c.unless-own.ensures ∙ ap (λ t. nat_le t 16777216) total)
          ∙ still_within (sum_to vs i) (sum_to vs (i + 1)) 18446744073709551615 grown (omega arith);
    }
