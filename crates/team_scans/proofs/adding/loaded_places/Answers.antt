-- The places of what is loaded are those of the operands.
use Rattle.team_scans.proofs.Loaded.{operand_loaded}
use Rattle.team_scans.proofs.adding.loaded_places.Goals as goal

pub returns : goal.returns
returns c =
    let o = c.operand_in-operand.result in
    operand_loaded c.args.prefixes c.hold_numbers.ensures o.made.now o.moved.now o.register c.operand_in-operand.ensures c.in_ok-load.load c.in_ok-load.ensures c.places-all.result c.places-all.ensures c.args.from c.number_at.result c.number_at.ensures
