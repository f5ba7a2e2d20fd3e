use Rattle.std.proofs.Common.{rules, List, ℕ, sym, ap, map, string_bytes, ◌≡◌, ◌∙◌}
use Rattle.clap.specs.Words.{App, fault_of, is_simple_and_free}
use Rattle.ompk_command.specs.declared.usage.Usage.TheVariants.{OutOfMemory}
use Rattle.ompk_command.specs.declared.order.Order.{Order}
use Rattle.ompk_command.specs.Orders.{AskFor}
use Rattle.ompk_command.proofs.Commands.{on_err, for_memory}
use Rattle.ompk_command.proofs.order.order_of.Goals as goal

pub returns-in-Ok-clause-asked : goal.returns-in-Ok-clause-asked
returns-in-Ok-clause-asked c =
    let words : List (List ℕ) = map (λ word. string_bytes word) c.args.words.now in
    let right = c.in_ok-matches.ensures.kinds (ap is_simple_and_free c.in_ok-command.ensures) in
    (sym (ap (λ (a : App). fault_of a words) c.in_ok-command.ensures) ∙ right, search rules)

pub returns-in_err-matches-clause-refused : goal.returns-in_err-matches-clause-refused
returns-in_err-matches-clause-refused c =
    let words : List (List ℕ) = map (λ word. string_bytes word) c.args.words.now in
    on_err (λ usage. (order : Order) → AskFor words order → usage ≡ OutOfMemory)
    c.from_residual-in_err-matches.result c.from_residual-in_err-matches.ensures.1
    (λ usage is order asked. is.0 (for_memory _ c.in_err-matches.field-0.0 (ap (λ (a : App). fault_of a words) c.in_ok-command.ensures ∙ asked.0)
    (c.in_err-matches.ensures.kinds (ap is_simple_and_free c.in_ok-command.ensures))))
