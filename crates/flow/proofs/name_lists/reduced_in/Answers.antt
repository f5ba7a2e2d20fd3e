use Rattle.std.specs.Prelude.{map}
use Rattle.std.proofs.Common.{sym, ap, ◌∙◌}
use Rattle.semantics.specs.Directives.Clauses.{reduction_of}
use Rattle.ktree.specs.DirectiveView.{operator_of}
use Rattle.pragma_named.specs.Views.{variable_named, resolved_clause}
use Rattle.flow.proofs.ListLemmas.{reduced_names}
use Rattle.flow.proofs.name_lists.reduced_in.Goals as goal

pub returns-in-Reduction : goal.returns-in-Reduction
returns-in-Reduction c =
    ap (map variable_named) c.as_slice.ensures.value ∙ reduced_names (operator_of c.in-Reduction.field-0) (map variable_named c.in-Reduction.list.items)
    ∙ sym (ap (λ d. map (λ r. r.0) (reduction_of (resolved_clause d))) c.in-Reduction.is)
