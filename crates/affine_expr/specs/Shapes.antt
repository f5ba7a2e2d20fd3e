-- Which expressions are linear in the variables of loops, whatever their numbers.
use Rattle.std.specs.Prelude.{Bool, true, false, ◌&&◌, ◌||◌, List, Option, Some, None, if◌then◌else◌}
use Rattle.semantics.specs.Tree.{Variable, Negate, Complement, BinaryOp, Plus, Minus, Times, Expr, Literal, Constant, Object, Unary, Binary, Conditional, Exprs, no_exprs, more_exprs}
use Rattle.semantics.specs.Meaning.Value.{both_then}
use Rattle.affine.specs.declared.interval.Side.{Side}
use Rattle.affine_expr.specs.Forms.{is_counter}

-- the shape of what two expressions make: a product has a factor without variables
abbrev pub shape_by : BinaryOp → Bool → Bool → Option Bool
shape_by Plus a b = Some (a && b)
shape_by Minus a b = Some (a && b)
shape_by Times a b = if a || b then Some (a && b) else None
shape_by _ a b = None

-- a loop variable without subscripts
abbrev pub variable_shape : List Side → Variable → Exprs → Option Bool
variable_shape box x no_exprs = if is_counter box x then Some false else None
variable_shape box x (more_exprs i is) = None

-- whether no variable stands in an expression, where it is linear
abbrev pub shape_of : List Side → Expr → Option Bool
shape_of box (Literal n suffix) = Some true
shape_of box (Constant name n) = Some true
shape_of box (Object x is) = variable_shape box x is
shape_of box (Unary Negate a) = shape_of box a
shape_of box (Unary Complement a) = None
shape_of box (Binary op a b) = both_then (shape_by op) (shape_of box a) (shape_of box b)
shape_of box (Conditional c a b) = None
