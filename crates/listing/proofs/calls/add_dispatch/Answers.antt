use Rattle.std.specs.Prelude.{[], ◌∷◌, ◌++◌, codes}
use Rattle.listing.proofs.Texts.{both_added_ok}
use Rattle.listing.proofs.calls.add_dispatch.Goals as goal

pub returns-clause-added : goal.returns-clause-added
returns-clause-added c =
    both_added_ok c.add_line-2.result c.args.region c.args.number _ _ _ ((c.args.words.now ++ c.args.size.now) ∷ []) (codes "__kmpc_dispatch_next_8u" ∷ []) c.in_ok-add_line.ensures.added c.add_line-2.ensures.added
