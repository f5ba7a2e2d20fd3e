use Rattle.pairtest_counter.proofs.Converted.{forms_made}
use Rattle.pairtest_counter.proofs.convert.forms_of.Goals as goal

pub returns : goal.returns
returns c =
    forms_made c.args.outer.now c.args.canonical.now c.in_ok-start.start c.in_ok-limit.limit c.args.counter.0 c.args.place c.forms_between.result c.requires c.in_ok-start.ensures c.in_ok-limit.ensures
    c.forms_between.ensures
