use Rattle.std.proofs.Common.{refl, ap, ◌≡◌, ◌∙◌}
use Rattle.std.proofs.lemmas.Result.{IfOk-weaker}
use Rattle.clap.specs.Words.{App, Shape, app_of, with_subcommand}
use Rattle.ompk_command.specs.Orders as orders
use Rattle.ompk_command.specs.Orders.{command_line}
use Rattle.ompk_command.proofs.order.command.Goals as goal

-- one more subcommand, where it is known what was before it
behind : (before after known : App) (shape : Shape) → after ≡ with_subcommand before shape → before ≡ known → after ≡ with_subcommand known shape
behind before after known shape is was = is ∙ ap (λ (a : App). with_subcommand a shape) was

pub returns : goal.returns
returns c =
    let one = behind _ _ _ orders.check (c.in_ok-one.ensures orders.check refl c.check_command.ensures) c.in_ok-program.ensures in
    let two = behind _ _ _ orders.lower (c.in_ok-two.ensures orders.lower refl c.lower_command.ensures) one in
    let three = behind _ _ _ orders.run (c.in_ok-three.ensures orders.run refl c.run_command.ensures) two in
    IfOk-weaker c.with-4.result _ (λ command. app_of command ≡ command_line)
    (λ command added. behind _ _ _ orders.seq added three)
    (c.with-4.ensures orders.seq refl c.seq_command.ensures)
