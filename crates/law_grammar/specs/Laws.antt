-- The readers read what the grammar has, and nothing else.
use Rattle.std.specs.Prelude.{true, ◌≡◌, List, Some}
use Rattle.semantics.specs.Tree.{Kernel}
use Rattle.semantics.specs.Source.Token.{Token}
use Rattle.semantics.specs.Source.Grammar.{Reads}
use Rattle.cparse_grammar.specs.TextReader.{Whole, kernel}

-- tokens that the grammar has as a kernel are read as that kernel
abbrev pub KernelsAreRead : Type 0
KernelsAreRead = (ts : List Token) (tree : Kernel) → Reads ts tree → kernel ts ≡ Some (record { tree = tree; sound = true })

-- and what is read, with nothing wrong in it, the grammar has
abbrev pub ReadKernelsStand : Type 0
ReadKernelsStand = (ts : List Token) (w : Whole) → kernel ts ≡ Some w → w.sound ≡ true → Reads ts w.tree
