-- What is told of lines, and of the items that are left.
use Rattle.std.specs.Prelude.{ℕ, ◌≡◌, ◌+◌, ◌<◌, List, length, get_or, drop, Option, None}
use Rattle.std.proofs.Common.{sym, ap, ◌∙◌}
use Rattle.semantics.specs.Tree
use Rattle.semantics.specs.Tree.{Name}
use Rattle.semantics.specs.Source.Text.{line_at}
use Rattle.semantics.specs.Directives.Directive.{Directive}
use Rattle.semantics.specs.Directives.DirectiveGrammar.{ReadsLine}
use Rattle.ktree.specs.View.{with_item, items_of}
use Rattle.ktree.specs.declared.statement.Item.{Item}
use Rattle.ktree.proofs.Trees.{next_item}
use Rattle.pragma.specs.Reading.{ReadsNone}
use Rattle.pragma_attach.specs.Standing.{directive_on}
use Rattle.pragma_region.specs.NotKnown.{first_told, directive_number, number_there, unknown_among}
use Rattle.pragma_region.proofs.Lines.{line_on, none_on}

-- a line that is read, and one that is none
pub number_read : (text : List ℕ) (n : ℕ) (d : Directive Name) (o : Option ℕ) → ReadsLine (line_at text n) d → o ≡ directive_number d → o ≡ number_there (directive_on text n)
number_read text n d o read is = is ∙ ap number_there (sym (line_on text n d read))

pub number_none : (text : List ℕ) (n : ℕ) → ReadsNone (line_at text n) → None ≡ number_there (directive_on text n)
number_none text n none = ap number_there (sym (none_on text n none))

-- one item more
pub unknown_more : (text : List ℕ) (items : List Item) (i : ℕ) (item : Item) (all : Option ℕ) → i < length items → item ≡ get_or items i item
    → ((rest : Tree.Items) → unknown_among text (with_item item rest) ≡ first_told None (unknown_among text rest))
    → unknown_among text (items_of (drop i items)) ≡ all → unknown_among text (items_of (drop (i + 1) items)) ≡ all
unknown_more text items i item all lt is quiet was =
    sym (quiet (items_of (drop (i + 1) items))) ∙ ap (unknown_among text) (sym (next_item items i item lt is)) ∙ was
