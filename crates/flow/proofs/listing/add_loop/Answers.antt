use Rattle.std.specs.Prelude.{[], ◌∷◌}
use Rattle.std.proofs.Common.{refl}
use Rattle.ktree.specs.View.{stmt_of, items_of}
use Rattle.pragma_named.specs.Known.{kept}
use Rattle.flow.specs.Roles.{data_known}
use Rattle.flow.specs.declared.environment.ParallelLoop.{ParallelLoop}
use Rattle.flow.proofs.ParallelLemmas.{loop_listed}
use Rattle.flow.proofs.listing.add_loop.Goals as goal

pub returns-in_default : goal.returns-in_default
returns-in_default c = λ h. absurd (c.in_default.ensures.err.1 h.0 h.1 h.2)

pub returns : goal.returns
returns c = λ h.
    let said = c.in-Ok.directive in
    let private = c.in_ok-private.private in
    let roles = c.in_ok-roles.roles in
    let loop : ParallelLoop = record { line = c.args.place; directive = said; private = private; roles = roles } in (
      loop ∷ [],
      c.in_ok-push.ensures.items,
      (
        loop,
        refl,
        loop_listed c.args.directives.now c.args.place (items_of c.args.rest.now) said c.in-Ok.ensures.ok (stmt_of c.in-Some.statement.now) c.in-Some.ensures private
            c.in_ok-private.ensures (data_known (kept c.args.lines.now) c.args.files) roles (c.in_ok-roles.ensures c.args.files) h,
      ),
    )
