use Rattle.std.proofs.Common.{◌∙◌}
use Rattle.ktree.specs.View.{items_of}
use Rattle.flow_scan.proofs.SharingLaw.{spares_are}
use Rattle.flow_scan.proofs.phases.shared_fault.Goals as goal

pub returns : goal.returns
returns c =
    c.scan_fault.ensures ∙ c.first_read.ensures
    ∙ spares_are c.args.variable.0 c.in_ok-set.set (items_of c.args.writer.now) (items_of c.args.reader.now) c.in_ok-set.ensures
