-- The directives of a tree's lines, each as its line is read.
use Rattle.std.specs.Prelude.{ℕ, List, [], ◌∷◌, Option, Some, None}
use Rattle.semantics.specs.Tree.{Name, Kernel}
use Rattle.semantics.specs.Source.Scope.{Scope}
use Rattle.semantics.specs.Directives.Directive.{Directive}
use Rattle.semantics.specs.Directives.Annotated.{Directives, lines_of}
use Rattle.pragma_attach.specs.Standing.{directive_on}

-- a line's directive before those of others
abbrev pub with_directive : ℕ → Option (Directive Name) → Directives → Directives
with_directive n None ds = ds
with_directive n (Some d) ds = (n, d) ∷ ds

-- those of some lines
abbrev pub directives_on : List ℕ → List (ℕ × Scope) → Directives
directives_on text [] = []
directives_on text (l ∷ ls) = with_directive l.0 (directive_on text l.0) (directives_on text ls)

-- those of a tree
abbrev pub directives_of : List ℕ → Kernel → Directives
directives_of text tree = directives_on text (lines_of tree)
