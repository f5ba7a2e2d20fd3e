use Rattle.std.proofs.Common.{refl, ◌≡◌}
use Rattle.std.proofs.lemmas.Result.{IfOk-weaker}
use Rattle.clap.specs.Words.{app_of, with_subcommand}
use Rattle.ompk_command.proofs.Commands.{with_one}
use Rattle.ompk_command.proofs.order.with.Goals as goal

pub returns : goal.returns
returns c shape plain is =
    let alone_is = rw c.in_ok-added.was at is in
    IfOk-weaker c.subcommand.result _ (λ both. app_of both ≡ with_subcommand (app_of c.args.command) shape)
    (λ both added. with_one c.args.command c.in_ok-added.field-0 both shape (app_of c.args.command) plain alone_is added refl)
    c.subcommand.ensures
