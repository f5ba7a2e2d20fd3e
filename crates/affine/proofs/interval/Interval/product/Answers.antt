use Rattle.std.proofs.Common.{◌^◌, arith}
use Rattle.affine.proofs.Products.{product_fits, product_is, product_within}
use Rattle.affine.proofs.interval.Interval.product.Goals as goal

pub overflow_mul-result : goal.overflow_mul-result
overflow_mul-result c = product_fits c.args.factor c.args.end c.from.result c.from-2.result (2 ^ 62) (2 ^ 33) c.ranges.factor c.ranges.end c.requires.factor_within c.requires.end_within (omega arith) c.from.ensures c.from-2.ensures

pub returns-clause-value : goal.returns-clause-value
returns-clause-value c = product_is c.args.factor c.args.end c.from.result c.from-2.result (2 ^ 62) (2 ^ 33) c.ranges.factor c.ranges.end c.requires.factor_within c.requires.end_within (omega arith) c.from.ensures c.from-2.ensures

pub returns-clause-within : goal.returns-clause-within
returns-clause-within c = product_within c.args.factor c.args.end c.from.result c.from-2.result (2 ^ 62) (2 ^ 33) c.ranges.factor c.ranges.end c.requires.factor_within c.requires.end_within (omega arith) c.from.ensures c.from-2.ensures
