use Rattle.std.specs.Prelude.{length, map}
use Rattle.std.proofs.Common.{sym, ◌∙◌}
use Rattle.std.proofs.lemmas.Bool.{eqb-false}
use Rattle.std.proofs.lemmas.List.{length-map}
use Rattle.pragma_region.specs.Listed.{reduction_named}
use Rattle.listing.proofs.Texts.{reduced_ok}
use Rattle.listing.proofs.calls.add_reductions.Goals as goal

pub returns-clause-added : goal.returns-clause-added
returns-clause-added c =
    let reductions = c.args.reductions.now in
    reduced_ok c.add_line.result c.args.region c.args.number _ _ _ _ _ (map reduction_named reductions)
    (λ none. eqb-false (length reductions) 0 (sym c.is_empty.ensures ∙ c.if-is_empty.false) (sym (length-map reductions reduction_named) ∙ none)) c.in_ok-add_front.ensures.added c.in_ok-add_reduced.ensures.added
    c.in_ok-add_parts.ensures.added c.add_line.ensures.added
