-- Lines by the reader of the grammar.
use Rattle.std.specs.Prelude.{ℕ, ◌≡◌, List, Option, Some, None}
use Rattle.std.proofs.Common.{refl}
use Rattle.semantics.specs.Tree.{Name}
use Rattle.semantics.specs.Source.Text.{line_at}
use Rattle.semantics.specs.Directives.Directive.{Directive}
use Rattle.semantics.specs.Directives.DirectiveGrammar.{ReadsLine}
use Rattle.pragma_clause.proofs.DirectiveSound.{line_sound}
use Rattle.pragma_clause.proofs.DirectiveComplete.{line_read}
use Rattle.pragma_attach.specs.Standing.{directive_on}

pub is_on : (text : List ℕ) (n : ℕ) (d : Directive Name) → ReadsLine (line_at text n) d → directive_on text n ≡ Some d
is_on text n d r = line_read (line_at text n) d r

pub none_on : (text : List ℕ) (n : ℕ) → ((d : Directive Name) → ReadsLine (line_at text n) d → ⊥) → directive_on text n ≡ None
none_on text n none = go (directive_on text n) refl
  where
    go : (o : Option (Directive Name)) → directive_on text n ≡ o → o ≡ None
    go None e = refl
    go (Some d) e = absurd (none d (line_sound (line_at text n) d e))
