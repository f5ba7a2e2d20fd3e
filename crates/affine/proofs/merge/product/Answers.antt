use Rattle.std.proofs.Common.{◌^◌, arith}
use Rattle.affine.proofs.Products.{abs_within, product_fits, product_is, product_within}
use Rattle.affine.proofs.merge.product.Goals as goal

pub overflow_mul-result : goal.overflow_mul-result
overflow_mul-result c = product_fits c.args.a c.args.b c.from.result c.from-2.result (2 ^ 63) (2 ^ 63) c.ranges.a c.ranges.b (abs_within c.args.a c.ranges.a) (abs_within c.args.b c.ranges.b) (omega arith) c.from.ensures c.from-2.ensures

pub returns-clause-value : goal.returns-clause-value
returns-clause-value c = product_is c.args.a c.args.b c.from.result c.from-2.result (2 ^ 63) (2 ^ 63) c.ranges.a c.ranges.b (abs_within c.args.a c.ranges.a) (abs_within c.args.b c.ranges.b) (omega arith) c.from.ensures c.from-2.ensures

pub returns-clause-within : goal.returns-clause-within
returns-clause-within c = product_within c.args.a c.args.b c.from.result c.from-2.result (2 ^ 63) (2 ^ 63) c.ranges.a c.ranges.b (abs_within c.args.a c.ranges.a) (abs_within c.args.b c.ranges.b) (omega arith) c.from.ensures c.from-2.ensures
