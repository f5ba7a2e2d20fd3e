use Rattle.std.specs.Prelude.{option_map}
use Rattle.std.proofs.Common.{inr, sym, ap, ◌∙◌}
use Rattle.semantics.specs.Source.Text.{line_at}
use Rattle.ktree.specs.View.{items_of}
use Rattle.ktree.specs.DirectiveView.{name_of, directive_of}
use Rattle.pragma.specs.Clauses.{ReadsLoop}
use Rattle.pragma.specs.Views.{said_of, scheduled}
use Rattle.pragma.proofs.LoopLaw.{no_loop}
use Rattle.nest.proofs.NestedLaw.{line_judged}
use Rattle.nest.proofs.directed.line_nests.Goals as goal

pub returns-in_default : goal.returns-in_default
returns-in_default c rest k = inr (λ h. c.in_default.ensures.err.1 h.0.2.directive h.0.2.reads)

pub returns-in_default-loop_of : goal.returns-in_default-loop_of
returns-in_default-loop_of c rest k =
    inr (λ h. no_loop (line_at c.args.directives.now c.args.place.line) (directive_of name_of c.in-Ok.directive.now) c.in-Ok.ensures.ok (sym c.loop_of.ensures ∙ ap (option_map said_of) c.in_default-loop_of.is) h.0.0 h.0.1 h.0.2)

pub returns : goal.returns
returns c rest k =
    let text = c.args.directives.now in
    let line = c.args.place.line in
    let said = c.in-Some.said in
    let reads : ReadsLoop (line_at text line) (scheduled said) said.collapse =
    record { directive = directive_of name_of c.in-Ok.directive.now; reads = c.in-Ok.ensures.ok; says = sym c.loop_of.ensures ∙ ap (option_map said_of) c.in-Some.is } in
    line_judged c.nest_first.result text c.args.bounds.now line (items_of c.args.rest.now) (scheduled said) said.collapse c.associated_loops-depth.result c.most_iterations-most.result reads
    c.associated_loops-depth.ensures c.most_iterations-most.ensures.is (c.nest_first.ensures rest k)
