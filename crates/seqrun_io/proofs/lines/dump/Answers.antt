use Rattle.std.proofs.Common.{subst, sym, ◌∙◌, arith}
use Rattle.std.proofs.lemmas.Option.{get_or_from_slice_get}
use Rattle.seqrun_io.specs.Told.{Holds}
use Rattle.seqrun_io.proofs.Beginnings.{on_held, more_held}
use Rattle.seqrun_io.proofs.Puts.{lengths_at, lengths_count, one_more, front}
use Rattle.seqrun_io.proofs.lines.dump.Goals as goal

pub returns-in_err-add_line-clause-beginning : goal.returns-in_err-add_line-clause-beginning
returns-in_err-add_line-clause-beginning g c =
    front c.args.declarations.now c.args.store.now c.loop-variable.variable c.index-declarations-variable.result c.array-array.result (omega arith)
    c.index-declarations-variable.is (sym (get_or_from_slice_get c.args.store.now c.loop-variable.variable c.array-array.result c.array-array.result c.array-array.ensures)) (lengths_count c.args.declarations.now c.args.store.now c.requires.lengths) _ _
    (on_held _ _ _ _ _ _ c.loop-variable.invariant.0 c.in_err-add_line.ensures.beginning)

pub loop-variable-preserved : goal.loop-variable-preserved
loop-variable-preserved g c = (
  subst (Holds _ _ _) (sym (one_more c.args.declarations.now c.args.store.now c.loop-variable.variable c.index-declarations-variable.result c.array-array.result (omega arith)
      c.index-declarations-variable.is (sym (get_or_from_slice_get c.args.store.now c.loop-variable.variable c.array-array.result c.array-array.result c.array-array.ensures)) (lengths_count c.args.declarations.now c.args.store.now c.requires.lengths)))
      (more_held _ _ _ _ _ _ _ c.loop-variable.invariant.0 c.in_ok-add_line.ensures.added),
  c.in_ok-add_line.ensures.sound ∙ c.loop-variable.invariant.1,
)

pub add_line-requires-clause-lengths : goal.add_line-requires-clause-lengths
add_line-requires-clause-lengths g c =
    lengths_at c.args.declarations.now c.args.store.now c.loop-variable.variable c.index-declarations-variable.result c.array-array.result c.requires.lengths (omega arith)
    c.index-declarations-variable.is (sym (get_or_from_slice_get c.args.store.now c.loop-variable.variable c.array-array.result c.array-array.result c.array-array.ensures))
