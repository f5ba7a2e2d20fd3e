use Rattle.std.specs.Prelude.{false, ◌&&◌}
use Rattle.std.proofs.Common.{sym, ap, ◌∙◌}
use Rattle.ktree.specs.View.{items_of}
use Rattle.pragma_attach.specs.Standing.{are_loops}
use Rattle.pragma_attach.proofs.ItemsLaw.{some_held}
use Rattle.pragma_attach.proofs.placed.holds_loops_among.Goals as goal

pub returns-in-len1-up : goal.returns-in-len1-up
returns-in-len1-up c =
    c.are_loops.ensures ∙ sym (ap (λ b. b && are_loops c.args.directives.now false (items_of c.args.items.now)) (some_held c.args.items.now c.in-len1-up.len_at_least))
