-- What holds of trees from which directive lines are left out. (C11 6.8.2 and 6.10.6)
use Rattle.std.specs.Prelude.{ℕ, Bool, ◌≡◌, List}
use Rattle.semantics.specs.Tree.{Kernel, strip}
use Rattle.law_lines.specs.Without.{without_lines, IsTreeOf, HasTokens}

-- such a tree is read from tokens, by the whole grammar
abbrev pub KeptLinesAreRead : Type 0
KeptLinesAreRead = (text : List ℕ) (tree : Kernel) → IsTreeOf text tree → HasTokens tree

-- without its directive lines it is what it was without them before
abbrev pub StrippedTreesAreOne : Type 0
StrippedTreesAreOne = (out : ℕ → Bool) (tree : Kernel) → strip (without_lines out tree) ≡ strip tree
