use Rattle.affine.proofs.Products.{sum_fits, sum_is}
use Rattle.affine.proofs.merge.plus_product.Goals as goal

pub overflow_add-result : goal.overflow_add-result
overflow_add-result c = sum_fits c.args.a c.args.factor c.args.b c.from.result c.product.result c.ranges.a c.ranges.factor c.ranges.b c.from.ensures c.product.ensures.value c.product.ensures.within

pub returns : goal.returns
returns c = sum_is c.args.a c.args.factor c.args.b c.from.result c.product.result c.ranges.a c.ranges.factor c.ranges.b c.from.ensures c.product.ensures.value c.product.ensures.within
