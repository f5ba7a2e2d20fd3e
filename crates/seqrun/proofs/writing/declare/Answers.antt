use Rattle.std.proofs.lemmas.Result.{on_ok_weaker}
use Rattle.ktree.specs.View.{source_of}
use Rattle.seqrun_value.specs.Standing.{standing}
use Rattle.seqrun.proofs.WriteLemmas.{empty_declared, value_declared}
use Rattle.seqrun.proofs.writing.declare.Goals as goal

pub returns-in-None : goal.returns-in-None
returns-in-None c =
    on_ok_weaker c.set.result
    (λ e. rw c.in-None.is (empty_declared (standing c.args.frame.now c.args.store.now) (standing c.set.new.self c.args.store.now) c.args.variable.0 (e c.args.store.now)))
    c.set.ensures.ok

pub returns-in-Some : goal.returns-in-Some
returns-in-Some c =
    on_ok_weaker c.set-in-Some.result
    (λ e. rw c.in-Some.is (value_declared (standing c.args.frame.now c.args.store.now) (standing c.set-in-Some.new.self c.args.store.now) c.args.variable.0 (source_of c.in-Some.source) c.source_value-first.result c.source_value-first.ensures (e c.args.store.now)))
    c.set-in-Some.ensures.ok
