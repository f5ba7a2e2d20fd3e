use Rattle.std.specs.Prelude.{None, map}
use Rattle.std.proofs.Common.{ap, ◌∙◌}
use Rattle.std.proofs.Math.Path.{fun_ext}
use Rattle.semantics.specs.Meaning.Agrees.{is_among}
use Rattle.ktree.specs.View.{declaration_of, items_of}
use Rattle.pragma_named.specs.Known.{kept, lines_known}
use Rattle.pragma_named.specs.Lines.{each_among}
use Rattle.flow_clauses.specs.Fitting.{loop_variables_among, line_fits}
use Rattle.flow_clauses.proofs.walking.first_misuse.Goals as goal

pub returns : goal.returns
returns c =
    let lines = lines_known (kept c.args.lines.now) in
    let files = map declaration_of c.as_slice.result.now in
    let body = items_of c.as_slice-items.result.now in
    c.items_fault.ensures ∙ ap (λ loops. each_among (line_fits files loops lines) None body) (fun_ext c.in_ok-loops.ensures)
    ∙ ap (λ ds. each_among (line_fits (map declaration_of ds) (is_among (loop_variables_among body)) lines) None body) c.as_slice.ensures.value
    ∙ ap (λ items. each_among (line_fits (map declaration_of c.args.kernel.now.variables.items) (is_among (loop_variables_among (items_of items))) lines) None (items_of items)) c.as_slice-items.ensures.value
