use Rattle.std.specs.Prelude.{◌*◌, ◌<◌, ◌^◌, suc, drop}
use Rattle.std.proofs.Common.{rules, arith, ap, sym, ◌∙◌, drop-cons, get_or}
use Rattle.semantics.specs.Meaning.Places.{size}
use Rattle.seqrun_io.proofs.InputStore.{product_step, positive_drop}
use Rattle.seqrun_io.proofs.reading.size_of.Goals as goal

pub overflow_mul-product : goal.overflow_mul-product
overflow_mul-product c =
    let cut = drop-cons c.args.lengths.now c.loop-length.length-index 0 (omega arith) in
    let le = product_step c.loop-length.product (get_or c.args.lengths.now c.loop-length.length-index 0) (size c.args.lengths.now) (drop (suc c.loop-length.length-index) c.args.lengths.now)
    (positive_drop c.args.lengths.now (suc c.loop-length.length-index) c.requires.positive) (ap (λ l. c.loop-length.product * size l) (sym cut) ∙ c.loop-length.invariant) in
    let few = c.requires.few in
    let small : c.loop-length.product * get_or c.args.lengths.now c.loop-length.length-index 0 < 2 ^ 64 = omega arith in
    search rules
