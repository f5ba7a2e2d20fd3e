-- What a reader of the code gives: what the reader of the definitions gives, unless memory runs out.
use Rattle.std.specs.Prelude.{◌≡◌, Option, Some, None, Result, Ok, Err, is_none}
use Rattle.cparse_cursor.specs.declared.stop.Stop.{Stop}
use Rattle.cparse_cursor.specs.declared.stop.Stop.TheVariants.{Memory, Syntax, Limit}
use Rattle.cparse_cursor.specs.declared.parsed.Parsed.{Parsed}
use Rattle.cparse_cursor.specs.declared.parsed.Subscripts.{Subscripts}
use Rattle.semantics.specs.Tree
use Rattle.ktree.specs.View.{exprs_of}
use Rattle.cparse_grammar.specs.Reading.{Got}
use Rattle.cparse_cursor.specs.Lexemes.{tokens_of}

-- why nothing was read
abbrev pub Fails : {Y : Type 0} → Stop → Option Y → Type 0
Fails Memory read = Unit {0}
Fails (Syntax place) read = read ≡ None
Fails (Limit place) read = read ≡ None

-- what was read, as it is viewed
abbrev pub Gives : {X Y : Type 0} → (X → Y) → Result X Stop → Option Y → Type 0
Gives view (Ok x) read = read ≡ Some (view x)
Gives view (Err e) read = Fails e read

-- a part of the tree with the tokens behind it
abbrev pub got_of : {X A : Type 0} → (X → A) → Parsed X → Got A
got_of view p = record { tree = view p.tree; sound = is_none p.fault; rest = tokens_of p.rest.now }

-- subscripts, from the left
abbrev pub subscripts_of : Subscripts → Tree.Exprs
subscripts_of s = exprs_of s.exprs.items
