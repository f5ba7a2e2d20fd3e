use Rattle.std.specs.Prelude.{not, ◌&&◌, ◌≡◌, true, false}
use Rattle.std.proofs.Common.{ap, sym, ◌∙◌}
use Rattle.semantics.specs.Meaning.Agrees.{is_among, visible_behind}
use Rattle.law_commute.specs.Targets.{targets}
use Rattle.ktree.specs.View.{stmt_of}
use Rattle.outline.proofs.Assigned.{among_left}
use Rattle.outline.proofs.targets.assigns_outside.Goals as goal

pub returns-then-not-declared : goal.returns-then-not-declared
returns-then-not-declared c =
    let s = stmt_of c.args.stmt.now in
    let x = c.args.variable.0 in
    let seen : visible_behind s x ≡ true = ap not (sym c.declares-declared.ensures ∙ c.if-not-declared.true) in
    c.assigns-assigned.ensures ∙ sym (among_left (visible_behind s) (targets s) x ∙ ap (λ b. b && is_among (targets s) x) seen)

pub returns-else-not-declared : goal.returns-else-not-declared
returns-else-not-declared c =
    let s = stmt_of c.args.stmt.now in
    let x = c.args.variable.0 in
    let seen : visible_behind s x ≡ false = ap not (sym c.declares-declared.ensures ∙ c.if-not-declared.false) in
    ap not c.if-not-declared.false ∙ sym (among_left (visible_behind s) (targets s) x ∙ ap (λ b. b && is_among (targets s) x) seen)
