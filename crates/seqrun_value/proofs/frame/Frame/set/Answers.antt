use Rattle.std.proofs.Common.{ap, ◌∙◌, arith}
use Rattle.std.proofs.lemmas.Result.{on_ok_weaker, on_err_weaker}
use Rattle.semantics.specs.Meaning.State.{with_local}
use Rattle.store.specs.Kept.{state_of}
use Rattle.seqrun_value.specs.Standing.{locals_of, slot_of, standing}
use Rattle.seqrun_value.proofs.FrameLemmas.{state_set, state_with}
use Rattle.seqrun_value.proofs.frame.Frame.set.Goals as goal
use Rattle.std.specs.Prelude.{Some}

pub returns-then-index-len-clause-ok : goal.returns-then-index-len-clause-ok
returns-then-index-len-clause-ok c = λ ks.
    ap (λ xs. state_with (state_of ks).cells (locals_of xs)) c.set_slot.ensures
    ∙ state_set (state_of ks).cells c.self.inside.slots.items c.args.self.now c.args.variable.0 c.args.slot (omega arith) (ap locals_of c.self.view_is)

pub returns-else-index-len-clause-ok : goal.returns-else-index-len-clause-ok
returns-else-index-len-clause-ok c =
    on_ok_weaker c.set_behind.result
    (λ e ks. e ks ∙ ap (λ xs. with_local (standing xs ks) c.args.variable.0 (slot_of (Some c.args.slot))) c.self.view_is)
    c.set_behind.ensures.ok

pub returns-else-index-len-clause-err : goal.returns-else-index-len-clause-err
returns-else-index-len-clause-err c =
    on_err_weaker c.set_behind.result
    (λ e ks. e ks ∙ ap (λ xs. standing xs ks) c.self.view_is)
    c.set_behind.ensures.err
