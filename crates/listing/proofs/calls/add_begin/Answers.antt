use Rattle.std.specs.Prelude.{[], ◌∷◌, ◌++◌, codes}
use Rattle.std.specs.Fmt.{decimal}
use Rattle.std.proofs.Common.{refl, ap, ◌∙◌}
use Rattle.listing.proofs.Texts.{begun_ok, plain_ok}
use Rattle.listing.proofs.calls.add_begin.Goals as goal

pub returns-in-Static-clause-added : goal.returns-in-Static-clause-added
returns-in-Static-clause-added c = plain_ok c.add_line-in-Static.result c.args.region c.args.number _ _ c.args.schedule.now c.in-Static.is c.add_line-in-Static.ensures.added

pub returns-in-StaticChunks-clause-added : goal.returns-in-StaticChunks-clause-added
returns-in-StaticChunks-clause-added c =
    begun_ok c.add_line.result c.args.region c.args.number _ _ _ _ _ c.in-StaticChunks.is
    (ap (λ d. (codes "__kmpc_for_static_init_8u static," ++ d) ∷ []) (c.as_bytes-size.ensures.value ∙ c.format.ensures.text ∙ ap decimal c.get.ensures.value)) c.add_line.ensures.added

pub returns-in-Dynamic-clause-added : goal.returns-in-Dynamic-clause-added
returns-in-Dynamic-clause-added c =
    begun_ok c.add_dispatch.result c.args.region c.args.number _ _ _ _ _ c.in-Dynamic.is
    (ap (λ d. (codes "__kmpc_dispatch_init_8u dynamic," ++ d) ∷ codes "__kmpc_dispatch_next_8u" ∷ []) (c.as_bytes-size-in-Dynamic.ensures.value ∙ c.format-in-Dynamic.ensures.text ∙ ap decimal c.get-in-Dynamic.ensures.value)) c.add_dispatch.ensures.added

pub returns-in-Guided-clause-added : goal.returns-in-Guided-clause-added
returns-in-Guided-clause-added c =
    begun_ok c.add_dispatch-in-Guided.result c.args.region c.args.number _ _ _ _ _ c.in-Guided.is
    (ap (λ d. (codes "__kmpc_dispatch_init_8u guided," ++ d) ∷ codes "__kmpc_dispatch_next_8u" ∷ []) (c.as_bytes-size-in-Guided.ensures.value ∙ c.format-in-Guided.ensures.text ∙ ap decimal c.get-in-Guided.ensures.value)) c.add_dispatch-in-Guided.ensures.added

pub returns-in-Runtime-clause-added : goal.returns-in-Runtime-clause-added
returns-in-Runtime-clause-added c = begun_ok c.add_dispatch-in-Runtime.result c.args.region c.args.number _ _ _ _ _ c.in-Runtime.is refl c.add_dispatch-in-Runtime.ensures.added
