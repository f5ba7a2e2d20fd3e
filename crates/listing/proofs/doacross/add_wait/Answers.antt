use Rattle.listing.proofs.Texts.{wait_ok}
use Rattle.listing.proofs.doacross.add_wait.Goals as goal

pub returns-clause-added : goal.returns-clause-added
returns-clause-added c =
    wait_ok c.add_parts.result c.args.region c.args.number c.args.text.now.items c.add_front.new.text.items c.add_offsets.new.text.items c.add_parts.new.text.items c.args.offsets.now c.in_ok-add_front.ensures.added
    c.in_ok-add_offsets.ensures.added c.add_parts.ensures.added
