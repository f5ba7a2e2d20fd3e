use Rattle.std.proofs.Common.{◌≡◌, ◌+◌, ◌-◌, ◌*◌, suc, length}
use Rattle.cparse_cursor.specs.Names.{names_of}
use Rattle.cparse_cursor.specs.Lexemes.{tokens_of}
use Rattle.cparse_grammar.specs.ExpressionReader.{binary, further, subscripts, inside}
use Rattle.cparse_cursor.specs.Outcome.{got_of, subscripts_of}
use Rattle.cparse_operand.specs.OperandViews.{operand_of}
use Rattle.cparse_expr.proofs.LoopLemmas.{in_front}
use Rattle.cparse_expr.proofs.expression.+expression.Given as goal

-- each call has less room, or is of a function further down

abbrev pub decreases-arms : goal.decreases-arms
decreases-arms l = 160 * l.room + 149

abbrev pub decreases-binary : goal.decreases-binary
decreases-binary l = 160 * l.room + (13 * l.precedence + 11)

abbrev pub decreases-further : goal.decreases-further
decreases-further l = 160 * l.room + (13 * l.tighter + 12)

abbrev pub decreases-name : goal.decreases-name
decreases-name l = 160 * l.room + 3

abbrev pub decreases-operand_inside : goal.decreases-operand_inside
decreases-operand_inside l = 160 * l.room

abbrev pub decreases-primary : goal.decreases-primary
decreases-primary l = 160 * l.room + 4

abbrev pub decreases-operators_up_to : goal.decreases-operators_up_to
decreases-operators_up_to l = 160 * l.room + (13 * l.precedence + (l.precedence - l.reached))

abbrev pub decreases-second_arm : goal.decreases-second_arm
decreases-second_arm l = 160 * l.room + 1

abbrev pub decreases-subscripts : goal.decreases-subscripts
decreases-subscripts l = 160 * l.room + 2

abbrev pub decreases-unary : goal.decreases-unary
decreases-unary l = 160 * l.room + 5

abbrev pub decreases-whole : goal.decreases-whole
decreases-whole l = 160 * l.room + 150

abbrev pub decreases-whole_inside : goal.decreases-whole_inside
decreases-whole_inside l = 160 * l.room

-- reading on from here gives what reading from the beginning gives
abbrev pub invariant-further-loop-turn : goal.invariant-further-loop-turn
invariant-further-loop-turn l =
    let scope = names_of l.context.scope.now in
    let operand = binary l.tighter scope (inside l.room scope) in
    let count = length (tokens_of l.fn.left.rest.now) in
    further (count - l._turn) (suc l.tighter) operand (got_of operand_of l.left) ≡ further count (suc l.tighter) operand (got_of operand_of l.fn.left)

-- so it does behind the subscripts that were read
abbrev pub invariant-subscripts-loop-turn : goal.invariant-subscripts-loop-turn
invariant-subscripts-loop-turn l =
    let inner = inside l.room (names_of l.context.scope.now) in
    let count = length (tokens_of l.tokens) in
    in_front (got_of subscripts_of l.row) (subscripts (count - l._turn) inner (tokens_of l.row.rest.now)) ≡ subscripts count inner (tokens_of l.tokens)
