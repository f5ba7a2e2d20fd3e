-- What the code's tree stands for, where it holds lists: an object's subscripts, and a block's items.
use Rattle.std.specs.Prelude.{ℕ, suc, ◌+◌, ◌≡◌, ◌<◌, List, [], ◌∷◌, length, get_or, drop}
use Rattle.std.proofs.Common.{Vec, Global, add-one, drop-cons, refl, sym, ap, ◌∙◌, arith}
use mathlib.Core.Former.{Count}
use Rattle.semantics.specs.Tree
use Rattle.ktree.specs.View.{expr_of, row_of, exprs_of, stmt_of, items_row_of, items_of, with_item}
use Rattle.ktree.specs.declared.place.VarId.{VarId}
use Rattle.ktree.specs.declared.expression.NamePlaces.{NamePlaces}
use Rattle.ktree.specs.declared.expression.Expr.{Expr, Object, Object', Row_of-Expr, end_of-Expr, more_of-Expr, items-the_row-Expr, items_hidden-the_row-Expr-0}
use Rattle.ktree.specs.declared.statement.Stmt.{Stmt, Block, Block', Row_of-Item, end_of-Item, more_of-Item, items-the_row-Item, items_hidden-the_row-Item-0}
use Rattle.ktree.specs.declared.statement.Item.{Item}

-- the subscripts of an object, as a list
subscript_row : (n : _) (row : Row_of-Expr n) → row_of row ≡ exprs_of (items-the_row-Expr n row)
subscript_row n end_of-Expr = refl
subscript_row n (more_of-Expr e rest) = ap (Tree.more_exprs (expr_of e)) (subscript_row _ rest)

abbrev subscripts_at : Expr → (n : Count) × Row_of-Expr n
subscripts_at (Object' x shape row place) = (_, row)
subscripts_at _ = (_, end_of-Expr)

pub object_of : (x : VarId) (subs : Vec Expr Global) (mention : NamePlaces) → expr_of (Object x subs mention) ≡ Tree.Object x.0 (exprs_of subs.items)
object_of x subs mention =
    let row = subscripts_at (Object x subs mention) in
    ap (Tree.Object x.0) (subscript_row row.0 row.1 ∙ ap exprs_of (items_hidden-the_row-Expr-0 subs))

-- the same of an expression that is that object
pub object_is : (e : Expr) (x : VarId) (subs : Vec Expr Global) (mention : NamePlaces) (xs : List Expr) → e ≡ Object x subs mention → xs ≡ subs.items
    → expr_of e ≡ Tree.Object x.0 (exprs_of xs)
object_is e x subs mention xs p q = ap expr_of p ∙ object_of x subs mention ∙ ap (λ es. Tree.Object x.0 (exprs_of es)) (sym q)

-- no subscripts
pub none_are : (es : List Expr) → length es ≡ 0 → exprs_of es ≡ Tree.no_exprs
none_are [] e = refl
none_are (x ∷ es) e = absurd (omega arith)

-- the items of a block, as a list
item_row : (n : _) (row : Row_of-Item n) → items_row_of row ≡ items_of (items-the_row-Item n row)
item_row n end_of-Item = refl
item_row n (more_of-Item i rest) = ap (with_item i) (item_row _ rest)

abbrev items_at : Stmt → (n : Count) × Row_of-Item n
items_at (Block' shape row) = (_, row)
items_at _ = (_, end_of-Item)

pub block_items : (items : Vec Item Global) → stmt_of (Block items) ≡ Tree.Block (items_of items.items)
block_items items =
    let row = items_at (Block items) in
    ap Tree.Block (item_row row.0 row.1 ∙ ap items_of (items_hidden-the_row-Item-0 items))

-- the same of a statement that is that block
pub block_is : (s : Stmt) (items : Vec Item Global) (xs : List Item) → s ≡ Block items → xs ≡ items.items → stmt_of s ≡ Tree.Block (items_of xs)
block_is s items xs p q = ap stmt_of p ∙ block_items items ∙ ap (λ ys. Tree.Block (items_of ys)) (sym q)

-- the next item, and what is behind it
pub next_item : (is : List Item) (i : ℕ) (e : Item) → i < length is → e ≡ get_or is i e → items_of (drop i is) ≡ with_item e (items_of (drop (i + 1) is))
next_item is i e lt p =
    let here : drop i is ≡ e ∷ drop (i + 1) is = rw add-one (drop-cons is i e lt ∙ ap (λ x. x ∷ drop (suc i) is) (sym p)) in
    ap items_of here
