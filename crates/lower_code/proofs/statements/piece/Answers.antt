use Rattle.std.proofs.Common.{sym, subst}
use Rattle.ktree.specs.View.{expr_of, part_of}
use Rattle.lower_machine.specs.declared.term.Piece.TheVariants.{Decimal}
use Rattle.lower_code.specs.Meaning.{MeansPart}
use Rattle.lower_code.proofs.Printing.{decimal_means}
use Rattle.lower_code.proofs.statements.piece.Goals as goal

pub returns-in_ok-term-in-Decimal : goal.returns-in_ok-term-in-Decimal
returns-in_ok-term-in-Decimal c =
    subst (λ p. MeansPart c.args.layout.now (part_of p) (Decimal c.in_ok-term-in-Decimal.term)) (sym c.in-Decimal.is)
    (decimal_means c.args.layout.now (expr_of c.in-Decimal.expr) c.in_ok-term-in-Decimal.term c.in_ok-term-in-Decimal.ensures)
