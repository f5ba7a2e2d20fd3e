use Rattle.std.proofs.Common.{sym, ap, ◌∙◌}
use Rattle.flow_doacross.specs.Bodies.{in_order}
use Rattle.flow_doacross.specs.Views.{elements_of}
use Rattle.flow_doacross.proofs.NamesLaw.{two_items}
use Rattle.flow_doacross.proofs.sinks.+naming.Goals as goal

pub misnamed_among-returns-in-len2-up : goal.misnamed_among-returns-in-len2-up
misnamed_among-returns-in-len2-up t c =
    c.first_unnamed-in-len2-up.ensures ∙ ap (λ names. in_order names (elements_of c.args.elements.now)) (sym (two_items c.args.items.now c.in-len2-up.len_at_least))
