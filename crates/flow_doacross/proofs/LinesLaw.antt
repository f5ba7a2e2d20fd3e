-- What a line says by the reader of the grammar.
use Rattle.std.specs.Prelude.{ℕ, Bool, false, ◌==◌, ◌≡◌, List, Option, Some, None, option_map, option_and_then}
use Rattle.std.proofs.Common.{refl, sym, ap, ◌∙◌}
use Rattle.semantics.specs.Tree.{Name}
use Rattle.semantics.specs.Source.Text.{line_at}
use Rattle.semantics.specs.Directives.Directive.{Schedule, Directive}
use Rattle.semantics.specs.Directives.DirectiveGrammar.{ReadsLine}
use Rattle.pragma_clause.proofs.DirectiveSound.{line_sound}
use Rattle.pragma.specs.Clauses.{Said, ReadsLoop, loop_of}
use Rattle.pragma.specs.Parallel.{associated}
use Rattle.pragma.specs.Reading.{ReadsNone}
use Rattle.pragma_attach.specs.Standing.{directive_on}
use Rattle.pragma_attach.proofs.LookLaw.{is_on, none_on}
use Rattle.flow_doacross.specs.Lines.{Elements, sink_said, sink_on, is_source, is_source_line, is_number, associated_on, associates}

pub sink_none : (text : List ℕ) (n : ℕ) → ReadsNone (line_at text n) → None ≡ sink_on text n
sink_none text n none = ap sink_said (sym (none_on text n none))

pub sink_read : (text : List ℕ) (n : ℕ) (d : Directive Name) (o : Option Elements) → ReadsLine (line_at text n) d → o ≡ sink_said (Some d) → o ≡ sink_on text n
sink_read text n d o read is = is ∙ ap sink_said (sym (is_on text n d read))

pub source_none : (text : List ℕ) (n : ℕ) → ReadsNone (line_at text n) → false ≡ is_source_line text n
source_none text n none = ap is_source (sym (none_on text n none))

pub source_read : (text : List ℕ) (n : ℕ) (d : Directive Name) (b : Bool) → ReadsLine (line_at text n) d → b ≡ is_source (Some d) → b ≡ is_source_line text n
source_read text n d b read is = is ∙ ap is_source (sym (is_on text n d read))

-- how many loops a line associates
abbrev number_of : Option (Directive Name) → Option ℕ
number_of o = option_map (λ (said : Said). associated said.1) (option_and_then loop_of o)

pub number_there : (text : List ℕ) (n : ℕ) (k : Option Schedule) (c : Option ℕ) → ReadsLoop (line_at text n) k c → associated_on text n ≡ Some (associated c)
number_there text n k c r = ap number_of (is_on text n r.directive r.reads) ∙ ap (option_map (λ (said : Said). associated said.1)) r.says

pub number_read : (text : List ℕ) (n m d : ℕ) (k : Option Schedule) (c : Option ℕ) → ReadsLoop (line_at text n) k c → m ≡ associated c → (m == d) ≡ associates text n d
number_read text n m d k c r e = ap (λ i. i == d) e ∙ sym (ap (λ o. is_number o d) (number_there text n k c r))

pub number_none : (text : List ℕ) (n d : ℕ) → ((k : Option Schedule) (c : Option ℕ) → ReadsLoop (line_at text n) k c → ⊥) → false ≡ associates text n d
number_none text n d none = sym (go (directive_on text n) refl)
  where
    says : (e : Directive Name) (o : Option Said) → directive_on text n ≡ Some e → loop_of e ≡ o → is_number (option_map (λ (said : Said). associated said.1) o) d ≡ false
    says e None f g = refl
    says e (Some (k, c)) f g = absurd (none k c (record { directive = e; reads = line_sound (line_at text n) e f; says = g }))

    go : (o : Option (Directive Name)) → directive_on text n ≡ o → is_number (number_of o) d ≡ false
    go None f = refl
    go (Some e) f = says e (loop_of e) f refl
