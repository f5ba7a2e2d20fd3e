use Rattle.std.proofs.Common.{ap, ◌∙◌, Some}
use Rattle.std.proofs.lemmas.Result.{on_ok_weaker}
use Rattle.semantics.specs.Meaning.Value.{operate, values}
use Rattle.ktree.specs.View.{exprs_of, binary_of}
use Rattle.seqrun_value.specs.Standing.{standing, slot_of}
use Rattle.seqrun.proofs.WriteLemmas.{local_operates, local_updated}
use Rattle.seqrun.proofs.writing.update.Goals as goal

pub binary_value-new-requires : goal.binary_value-new-requires
binary_value-new-requires c =
    let s = standing c.args.frame.now c.args.store.now in
    local_operates s c.args.variable.0 (values s (exprs_of c.args.subscripts.now)) (operate (binary_of c.args.op)) c.in-Holds.old c.args.n (c.slot.ensures ∙ ap (λ t. slot_of (Some t)) c.in-Holds.is) c.requires

pub returns-in-Holds-clause-done : goal.returns-in-Holds-clause-done
returns-in-Holds-clause-done c =
    let s = standing c.args.frame.now c.args.store.now in
    on_ok_weaker c.set.result
    (λ e. local_updated s c.args.variable.0 (values s (exprs_of c.args.subscripts.now)) (operate (binary_of c.args.op)) c.in-Holds.old c.args.n (c.slot.ensures ∙ ap (λ t. slot_of (Some t)) c.in-Holds.is) c.requires (standing c.set.new.self c.args.store.now) c.binary_value-new.result c.binary_value-new.ensures (e c.args.store.now))
    c.set.ensures.ok
