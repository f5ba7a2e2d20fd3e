use Rattle.std.proofs.Common.{ℕ, List, Option, None, length, replicate, sym, ap, ◌∙◌}
use Rattle.store.specs.Kept.{Kept}
use Rattle.store.specs.Flat.{values_of}
use Rattle.overlay.proofs.worker.finish.Goals as goal

-- nothing is written over these
abbrev nothing_over : List Kept → List (Option ℕ)
nothing_over ks = replicate (length (values_of ks)) None

pub returns-in-Ok-clause-unwritten : goal.returns-in-Ok-clause-unwritten
returns-in-Ok-clause-unwritten c = c.finish.ensures.none ∙ ap nothing_over (sym c.finish.ensures.store)

pub returns-in-Err-clause-unwritten : goal.returns-in-Err-clause-unwritten
returns-in-Err-clause-unwritten c = c.finish.ensures.none ∙ ap nothing_over (sym c.finish.ensures.store)
