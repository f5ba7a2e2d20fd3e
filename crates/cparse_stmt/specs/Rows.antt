-- What the code's items stand for.
use Rattle.std.specs.Prelude.{is_none}
use Rattle.std.specs.Global.{Vec, Box}
use Rattle.semantics.specs.Tree.{Stmt, Items, no_items}
use Rattle.semantics.specs.Source.Scope.{Scope}
use Rattle.ktree.specs.declared.statement.Item.{Item}
use Rattle.ktree.specs.declared.statement.Stmt as code
use Rattle.ktree.specs.View as view
use Rattle.cparse_phrase.specs.declared.told.Told.{Told}
use Rattle.cparse_cursor.specs.Lexemes.{tokens_of}
use Rattle.cparse_phrase.specs.Tallies.{tally_of}
use Rattle.cparse_grammar.specs.StatementParts.{Row}

-- a list of items
abbrev pub items_in : Vec Item → Items
items_in v = view.items_of v.items

-- with what is visible behind them
abbrev pub row_of : Scope → Told (Vec Item) → Row
row_of scope t = record { tree = items_in t.tree; sound = is_none t.fault; scope = scope; tally = tally_of t.tally; rest = tokens_of t.rest.now }

-- one item alone
abbrev pub item_in : Item → Items
item_in i = view.with_item i no_items

-- one item
abbrev pub item_of : Scope → Told Item → Row
item_of scope t = record { tree = item_in t.tree; sound = is_none t.fault; scope = scope; tally = tally_of t.tally; rest = tokens_of t.rest.now }

-- a statement that stands in another one
abbrev pub boxed_of : Box code.Stmt → Stmt
boxed_of b = view.stmt_of b.value
