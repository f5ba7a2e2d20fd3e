use Rattle.std.proofs.Common.{◌∙◌, ap, subst, map, List}
use Rattle.store.specs.Kept.{Kept}
use Rattle.store.specs.Flat.{values_of}
use Rattle.overlay_pages.specs.Over.{writes_of, written_over}
use Rattle.reduce.specs.Partial.{partial_of}
use Rattle.team_log.specs.Applied.{AreApplied}
use Rattle.team_log.specs.Logged.{Account}
use Rattle.team_log.proofs.Applying.{applied_log, filled_over, same_shape}
use Rattle.team_log.proofs.log.ChunkLog.apply.Goals as goal

pub returns-clause-applied : goal.returns-clause-applied
returns-clause-applied c =
    let ks = c.args.store.now in
    let later = c.apply.new.store in
    let ws = c.self.inside.changes in
    subst (λ (a : Account). AreApplied (values_of ks) (values_of later) a.chunks) c.self.view_is
    (applied_log c.self.inside.ended.items ws (map partial_of c.self.inside.partials.items) c.self.inside.text.items (values_of ks) (values_of later) c.self.invariant.0 (filled_over ks later ws c.apply.ensures))

pub returns-clause-shape : goal.returns-clause-shape
returns-clause-shape c =
    let ks = c.args.store.now in
    ap (λ (js : List Kept). map (λ (k : Kept). k.lengths) js) c.apply.ensures ∙ same_shape (written_over (writes_of c.self.inside.changes) (values_of ks)) ks
