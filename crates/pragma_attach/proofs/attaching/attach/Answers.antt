use Rattle.std.specs.Prelude.{◌≡◌, ◌&&◌, true, is_none}
use Rattle.std.proofs.Common.{sym, ap, ◌∙◌, inr}
use Rattle.semantics.proofs.EraseTokenLaw.{first_of, second_of}
use Rattle.ktree.specs.View.{kernel_of}
use Rattle.pragma_attach.proofs.AttachLaw.{stopped_rightly, not_right}
use Rattle.pragma_attach.proofs.ResolvedLaw.{standing_read, standing_placed, are_resolved, are_named, clauses_are}
use Rattle.pragma_attach.proofs.LinesLaw.{are_read}
use Rattle.pragma_attach.proofs.attaching.attach.Goals as goal

pub returns-in-Err-clause-err : goal.returns-in-Err-clause-err
returns-in-Err-clause-err c =
    stopped_rightly c.args.directives.now (kernel_of c.args.kernel.now) c.in-Err.stop c.refuse_names.result c.refuse_names.ensures.memory c.refuse_names.ensures.told c.in-Err.ensures.err

pub returns-in-None-clause-attached : goal.returns-in-None-clause-attached
returns-in-None-clause-attached c =
    let text = c.args.directives.now in
    let tree = kernel_of c.args.kernel.now in
    let placing = is_none c.placing_fault-placing.result in
    let naming = is_none c.in_ok-naming.naming in
    let right : (placing && naming) ≡ true = sym c.first_fault-fault.ensures ∙ ap is_none c.in-None.is in
    let stands = sym c.placing_fault-placing.ensures ∙ first_of placing naming right in
    let read = standing_read text tree stands in
    let table = c.kernel_names-names.new.table in
    record {
      read = are_read text tree read;
      placed = standing_placed text tree stands;
      resolved = are_resolved text tree table c.in-Ok.ensures.ok read;
      named = are_named text tree table c.in-Ok.ensures.ok read (sym c.in_ok-naming.ensures ∙ second_of placing naming right);
    }

pub returns-in-None-clause-clauses : goal.returns-in-None-clause-clauses
returns-in-None-clause-clauses c =
    let text = c.args.directives.now in
    let tree = kernel_of c.args.kernel.now in
    let placing = is_none c.placing_fault-placing.result in
    let naming = is_none c.in_ok-naming.naming in
    let right : (placing && naming) ≡ true = sym c.first_fault-fault.ensures ∙ ap is_none c.in-None.is in
    clauses_are text tree c.kernel_names-names.new.table c.in-Ok.ensures.ok (standing_read text tree (sym c.placing_fault-placing.ensures ∙ first_of placing naming right))

pub returns-in-Some-clause-err : goal.returns-in-Some-clause-err
returns-in-Some-clause-err c =
    inr (
      (c.in-Some.fault, c.from.ensures),
      not_right c.args.directives.now (kernel_of c.args.kernel.now) c.kernel_names-names.new.table c.in-Ok.ensures.ok (is_none c.placing_fault-placing.result) (is_none c.in_ok-naming.naming)
          (sym (ap is_none c.in-Some.is) ∙ c.first_fault-fault.ensures) c.placing_fault-placing.ensures c.in_ok-naming.ensures,
    )
