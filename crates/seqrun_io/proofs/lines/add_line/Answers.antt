use Rattle.std.proofs.lemmas.Result.{on_ok_weaker}
use Rattle.ktree.specs.View.{declaration_of}
use Rattle.seqrun_io.proofs.Beginnings.{more_held}
use Rattle.seqrun_io.proofs.Puts.{at_name, at_sign, at_values, at_end, at_all}
use Rattle.seqrun_io.proofs.lines.add_line.Goals as goal

pub returns-in_err-add-clause-beginning : goal.returns-in_err-add-clause-beginning
returns-in_err-add-clause-beginning g c =
    at_name _ c.args.held.now.items c.as_bytes.result.now c.values-values.result.now (declaration_of c.args.declaration.now) c.args.array.now c.as_bytes.ensures.value c.values-values.ensures.value c.values-values.ensures.count c.requires.lengths _ c.in_err-add.ensures.beginning

pub returns-in_err-add-2-clause-beginning : goal.returns-in_err-add-2-clause-beginning
returns-in_err-add-2-clause-beginning g c =
    at_sign _ c.args.held.now.items c.as_bytes.result.now c.values-values.result.now (declaration_of c.args.declaration.now) c.args.array.now c.as_bytes.ensures.value c.values-values.ensures.value c.values-values.ensures.count c.requires.lengths _ _ _ c.in_ok-add.ensures.added c.in_err-add-2.ensures.beginning

pub returns-in_err-add_values-clause-beginning : goal.returns-in_err-add_values-clause-beginning
returns-in_err-add_values-clause-beginning g c =
    at_values _ c.args.held.now.items c.as_bytes.result.now c.values-values.result.now (declaration_of c.args.declaration.now) c.args.array.now c.as_bytes.ensures.value c.values-values.ensures.value c.values-values.ensures.count c.requires.lengths _ _ _ (more_held _ _ _ _ _ _ _ c.in_ok-add.ensures.added c.in_ok-add-2.ensures.added) c.in_err-add_values.ensures.beginning

pub returns-clause-added : goal.returns-clause-added
returns-clause-added g c =
    on_ok_weaker c.add-3.result (at_all _ c.args.held.now.items c.as_bytes.result.now c.values-values.result.now (declaration_of c.args.declaration.now) c.args.array.now c.as_bytes.ensures.value c.values-values.ensures.value c.values-values.ensures.count c.requires.lengths _ _ _ _ (more_held _ _ _ _ _ _ _ (more_held _ _ _ _ _ _ _ c.in_ok-add.ensures.added c.in_ok-add-2.ensures.added) c.in_ok-add_values.ensures.added)) c.add-3.ensures.added

pub returns-clause-beginning : goal.returns-clause-beginning
returns-clause-beginning g c =
    at_end _ c.args.held.now.items c.as_bytes.result.now c.values-values.result.now (declaration_of c.args.declaration.now) c.args.array.now c.as_bytes.ensures.value c.values-values.ensures.value c.values-values.ensures.count c.requires.lengths _ _ _ (more_held _ _ _ _ _ _ _ (more_held _ _ _ _ _ _ _ c.in_ok-add.ensures.added c.in_ok-add-2.ensures.added) c.in_ok-add_values.ensures.added) c.add-3.ensures.beginning
