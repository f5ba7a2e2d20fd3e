-- What the code's tallies stand for.
use Rattle.std.specs.Prelude.{◌+◌, ◌<◌, ◌≤◌, List, length, is_none}
use Rattle.cparse_phrase.specs.declared.tally.Tally as code
use Rattle.cparse_phrase.specs.declared.told.Told as whole
use Rattle.cparse_cursor.specs.declared.lexeme.Lexeme.{Lexeme}
use Rattle.cparse_cursor.specs.Lexemes.{tokens_of}
use Rattle.cparse_grammar.specs.StatementReader.{Tally, Told}

abbrev pub tally_of : code.Tally → Tally
tally_of t = record { next = t.next; left = t.left }

-- each of these tokens may still declare a variable
abbrev pub HasNumbers : code.Tally → List Lexeme → Type 0
HasNumbers t ts = t.next + length ts ≤ 4294967295

-- and so may the one that stands in front of them
abbrev pub HasNumbersBehind : code.Tally → List Lexeme → Type 0
HasNumbersBehind t ts = t.next + length ts < 4294967295

-- a part of the tree with the tally and the tokens behind it
abbrev pub told_of : {X A : Type 0} → (X → A) → whole.Told X → Told A
told_of view t = record { tree = view t.tree; sound = is_none t.fault; tally = tally_of t.tally; rest = tokens_of t.rest.now }
