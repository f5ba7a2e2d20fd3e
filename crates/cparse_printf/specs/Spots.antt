-- What the code's formats stand for.
use Rattle.std.specs.Prelude.{ℕ, Bool, true, false, List, map, reverse, Option, Some, None}
use Rattle.std.specs.Global.{Vec}
use Rattle.ktree.specs.View.{expr_of, part_of}
use Rattle.ktree.specs.declared.expression.Expr.{Expr}
use Rattle.ktree.specs.declared.statement.PrintPart.{PrintPart}
use Rattle.semantics.specs.Tree
use Rattle.cparse_printf.specs.declared.format.Spot.{Spot}
use Rattle.cparse_printf.specs.declared.format.Spot.TheVariants.{Characters, Number}
use Rattle.cparse_printf.specs.declared.format.Turn as code
use Rattle.cparse_grammar.specs.PrintfSteps.{Turn}
use Rattle.cparse_cursor.specs.Lexemes.{tokens_of}

-- a part of a format
abbrev pub spot_of : Spot → Option (List ℕ)
spot_of (Characters bs) = Some bs.items
spot_of Number = None

abbrev pub spots_of : Vec Spot → List (Option (List ℕ))
spots_of v = map spot_of v.items

-- a string with what stands behind it
abbrev pub turn_of : code.Turn → Turn
turn_of t = record { characters = t.characters.items; placed = t.placed; more = t.more; rest = tokens_of t.rest.now }

-- arguments
abbrev pub arguments_of : Vec Expr → List Tree.Expr
arguments_of v = map expr_of v.items

-- what is printed
abbrev pub parts_of : Vec PrintPart → List Tree.PrintPart
parts_of v = map part_of v.items

-- whether it is a place for a number
abbrev pub is_place : Spot → Bool
is_place (Characters bs) = false
is_place Number = true

-- arguments, of which the last one comes next
abbrev pub arguments_left : Vec Expr → List Tree.Expr
arguments_left v = map expr_of (reverse v.items)
