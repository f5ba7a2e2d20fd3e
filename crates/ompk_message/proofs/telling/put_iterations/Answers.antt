use Rattle.std.specs.Prelude.{ℕ, List, [], ◌∷◌, codes}
use Rattle.std.proofs.Common.{subst, ◌∙◌}
use Rattle.ompk_message.specs.Message.{joined}
use Rattle.ompk_message.specs.Outcome.{PutsOrFails}
use Rattle.ompk_message.proofs.telling.put_iterations.Goals as goal

pub returns : goal.returns
returns g c =
    subst
    (λ (z : List ℕ × List ℕ × List ℕ). PutsOrFails g.S.Sink.told g.S.Sink.failed c.args.sink.now c.put_parts.new.sink (joined (codes ", iterations " ∷ z.0 ∷ codes " and " ∷ z.1 ∷ codes ", element " ∷ z.2 ∷ [])) c.put_parts.result)
    (λ i. ((c.as_bytes.ensures.value ∙ c.format.ensures.text) i, (c.as_bytes-2.ensures.value ∙ c.format-2.ensures.text) i, c.as_bytes-3.ensures.value i))
    c.put_parts.ensures
