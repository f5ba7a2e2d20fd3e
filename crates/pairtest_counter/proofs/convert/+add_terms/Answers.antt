use Rattle.std.proofs.lemmas.Result.{err_from_is_err_and}
use Rattle.pairtest_counter.proofs.Converted.{nothing_added, product_stops, sum_stops, of_terms, sum_made}
use Rattle.pairtest_counter.proofs.convert.+add_terms.Goals as goal

pub returns-in_default : goal.returns-in_default
returns-in_default t c = nothing_added c.args.levels.now c.args.sum c.args.terms.now c.in_default.ensures.cases

pub returns-in_err-product : goal.returns-in_err-product
returns-in_err-product t c =
    let p = err_from_is_err_and c.from_residual.result c.from_residual.ensures.1 in
    rw (p.1, p.2) (of_terms c.args.levels.now c.args.sum c.args.place c.in_err-product.field-0.0 c.in-Some.ensures.cases.0
    (product_stops c.args.levels.now c.args.place c.args.sum c.in-Some.term.now c.in-Some.terms.now c.in_err-product.field-0.0 c.in_err-product.ensures))

pub returns-in_err-sum : goal.returns-in_err-sum
returns-in_err-sum t c =
    let p = err_from_is_err_and c.from_residual-in_err-sum.result c.from_residual-in_err-sum.ensures.1 in
    rw (p.1, p.2) (of_terms c.args.levels.now c.args.sum c.args.place c.in_err-sum.field-0.0 c.in-Some.ensures.cases.0
    (sum_stops c.args.levels.now c.args.place c.args.sum c.in_ok-product.product c.in-Some.term.now c.in-Some.terms.now c.in_err-sum.field-0.0 c.in_ok-product.ensures c.in_err-sum.ensures.refusal))

pub returns : goal.returns
returns t c =
    sum_made c.args.levels.now c.args.sum c.in_ok-product.product c.in_ok-sum.sum c.in-Some.term.now c.in-Some.terms.now c.args.terms.now c.args.place c.add_terms.result c.in-Some.ensures.cases.0
    c.in_ok-product.ensures c.in_ok-sum.ensures.ok c.in_ok-sum.ensures.fits c.add_terms.ensures
