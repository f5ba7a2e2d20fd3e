-- What a line says by the reader of the grammar.
use Rattle.std.specs.Prelude.{ℕ, Bool, false, ◌≡◌, List, Option, Some, None}
use Rattle.std.proofs.Common.{sym, ap, ◌∙◌}
use Rattle.semantics.specs.Tree.{Name}
use Rattle.semantics.specs.Source.Text.{line_at}
use Rattle.semantics.specs.Directives.Directive.{Directive}
use Rattle.semantics.specs.Directives.DirectiveGrammar.{ReadsLine}
use Rattle.pragma.specs.Reading.{ReadsNone}
use Rattle.pragma_attach.proofs.LookLaw.{is_on, none_on}
use Rattle.flow_scan.specs.Lines.{ScanSaid, scan_said, scan_on, is_loop, is_loop_line, associates_one, associates_one_on}

pub said_none : (text : List ℕ) (n : ℕ) → ReadsNone (line_at text n) → None ≡ scan_on text n
said_none text n none = ap scan_said (sym (none_on text n none))

pub said_read : (text : List ℕ) (n : ℕ) (d : Directive Name) (o : Option ScanSaid) → ReadsLine (line_at text n) d → o ≡ scan_said (Some d) → o ≡ scan_on text n
said_read text n d o read is = is ∙ ap scan_said (sym (is_on text n d read))

pub loop_none : (text : List ℕ) (n : ℕ) → ReadsNone (line_at text n) → false ≡ is_loop_line text n
loop_none text n none = ap is_loop (sym (none_on text n none))

pub loop_read : (text : List ℕ) (n : ℕ) (d : Directive Name) (b : Bool) → ReadsLine (line_at text n) d → b ≡ is_loop (Some d) → b ≡ is_loop_line text n
loop_read text n d b read is = is ∙ ap is_loop (sym (is_on text n d read))

pub one_none : (text : List ℕ) (n : ℕ) → ReadsNone (line_at text n) → false ≡ associates_one_on text n
one_none text n none = ap associates_one (sym (none_on text n none))

pub one_read : (text : List ℕ) (n : ℕ) (d : Directive Name) (b : Bool) → ReadsLine (line_at text n) d → b ≡ associates_one (Some d) → b ≡ associates_one_on text n
one_read text n d b read is = is ∙ ap associates_one (sym (is_on text n d read))
