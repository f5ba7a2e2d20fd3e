use Rattle.std.proofs.Common.{Some, ap, sym, ◌∙◌}
use Rattle.std.specs.Prelude.{slice_set}
use Rattle.std.proofs.lemmas.List.{set-set, set_comm}
use Rattle.overlay_pages.specs.Table.{table_of, slots}
use Rattle.overlay_pages.proofs.own.Own.write.Goals as goal

pub returns-then-place-self : goal.returns-then-place-self
returns-then-place-self c =
    let inside = c.self.inside in
    let all = slots (table_of inside.pages) in
    sym (set-set all inside.near (Some inside.value) (Some c.args.n))
    ∙ ap (λ p. slice_set (slice_set all inside.near (Some inside.value)) p (Some c.args.n)) (sym c.if-place-self.true)
    ∙ ap (λ l. slice_set l c.args.place (Some c.args.n)) c.self.view_is

pub returns-else-place-self : goal.returns-else-place-self
returns-else-place-self c =
    let inside = c.self.inside in
    let all = slots (table_of inside.pages) in
    ap (λ l. slice_set l inside.near (Some inside.value)) c.write_at.ensures.written
    ∙ set_comm all c.args.place inside.near (Some c.args.n) (Some inside.value) c.if-place-self.false
    ∙ ap (λ l. slice_set l c.args.place (Some c.args.n)) c.self.view_is
