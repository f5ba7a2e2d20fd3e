-- What is left to show of an inner instruction.
use Rattle.std.proofs.Common.{inl, inr, refl, sym, ◌∙◌}
use Rattle.std.proofs.lemmas.Bool.{true≢false}
use Rattle.team_parts.proofs.Nests.{fits_inside}
use Rattle.team_parts.proofs.around.inner_fits.Goals as goal
use Rattle.team_parts.proofs.around.inner_fits.Goals.{else-work_saves-via-then-work_saves+else-not-all_keep, else-work_saves-via-else-work_saves}

-- src/around.rt
pub returns-then-not-loads : goal.returns-then-not-loads
returns-then-not-loads c h =
    fits_inside c.args.window c.args.turns c.args.inner c.requires.inner c.args.op.now c.part_of-part.result c.places-begun.result c.places-further.result c.part_of-part.ensures c.places-begun.ensures c.places-further.ensures _ refl
    (elim c.else-work_saves.branch [
      | else-work_saves-via-then-work_saves+else-not-all_keep w ↦ λ k lt saves. w.all_keep.ensures w.if-not-all_keep.false k lt
      | else-work_saves-via-else-work_saves w ↦ λ k lt saves. absurd (true≢false (sym saves ∙ sym c.work_saves.ensures ∙ w.if-work_saves.false))
    ])
    (λ k lt loads. absurd (true≢false (sym loads ∙ sym c.loads.ensures ∙ c.if-not-loads.true)))

pub returns-then-all_keep : goal.returns-then-all_keep
returns-then-all_keep c h =
    fits_inside c.args.window c.args.turns c.args.inner c.requires.inner c.args.op.now c.part_of-part.result c.places-begun.result c.places-further.result c.part_of-part.ensures c.places-begun.ensures c.places-further.ensures c.sources-read.result c.sources-read.ensures
    (elim c.else-work_saves.branch [
      | else-work_saves-via-then-work_saves+else-not-all_keep w ↦ λ k lt saves. w.all_keep.ensures w.if-not-all_keep.false k lt
      | else-work_saves-via-else-work_saves w ↦ λ k lt saves. absurd (true≢false (sym saves ∙ sym c.work_saves.ensures ∙ w.if-work_saves.false))
    ])
    (λ k lt loads. inl (c.all_keep-2.ensures c.if-all_keep.true k lt))

pub returns-else-all_keep : goal.returns-else-all_keep
returns-else-all_keep c h =
    fits_inside c.args.window c.args.turns c.args.inner c.requires.inner c.args.op.now c.part_of-part.result c.places-begun.result c.places-further.result c.part_of-part.ensures c.places-begun.ensures c.places-further.ensures c.sources-read.result c.sources-read.ensures
    (elim c.else-work_saves.branch [
      | else-work_saves-via-then-work_saves+else-not-all_keep w ↦ λ k lt saves. w.all_keep.ensures w.if-not-all_keep.false k lt
      | else-work_saves-via-else-work_saves w ↦ λ k lt saves. absurd (true≢false (sym saves ∙ sym c.work_saves.ensures ∙ w.if-work_saves.false))
    ])
    (λ k lt loads. inr (c.all_lie_beside.ensures h k lt))
