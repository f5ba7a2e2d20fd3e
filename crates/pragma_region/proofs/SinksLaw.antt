-- What a line adds to the sinks of a loop.
use Rattle.std.specs.Prelude.{ℕ, ℤ, ◌≡◌, List, ◌++◌, Some, Result, OnOk}
use Rattle.std.proofs.Common.{sym, ap, ◌∙◌, subst, append-nil}
use Rattle.semantics.specs.Tree.{Name}
use Rattle.semantics.specs.Source.Text.{line_at}
use Rattle.semantics.specs.Directives.Directive.{Directive}
use Rattle.semantics.specs.Directives.DirectiveGrammar.{ReadsLine}
use Rattle.semantics.specs.Directives.Regions.{offsets_of}
use Rattle.pragma.specs.Reading.{ReadsNone}
use Rattle.pragma_attach.specs.Standing.{directive_on}
use Rattle.pragma_region.proofs.Lines.{line_on, none_on}

pub sink_none : (text : List ℕ) (n : ℕ) (before : List (List ℤ)) → ReadsNone (line_at text n) → before ≡ before ++ offsets_of (directive_on text n)
sink_none text n before none = sym (append-nil before) ∙ ap (λ o. before ++ offsets_of o) (sym (none_on text n none))

pub sink_read : {T E : Type 0} (q : Result T E) (text : List ℕ) (n : ℕ) (d : Directive Name) (before after : List (List ℤ)) → ReadsLine (line_at text n) d → OnOk q (after ≡ before ++ offsets_of (Some d))
    → OnOk q (after ≡ before ++ offsets_of (directive_on text n))
sink_read q text n d before after read put = subst (λ o. OnOk q (after ≡ before ++ offsets_of o)) (sym (line_on text n d read)) put
