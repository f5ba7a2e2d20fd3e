use Rattle.std.proofs.Common.{List, length, sym, ap, ◌∙◌}
use Rattle.ktree.specs.DirectiveView.{operator_of}
use Rattle.semantics.specs.Loops.Operator.{combined_all}
use Rattle.reduce.specs.declared.partial.Partial.{Partial}
use Rattle.team_log.specs.Logged.{Account, partials_in}
use Rattle.team_log.specs.Spots.{told_of}
use Rattle.team_log.proofs.Combining.{left_of, left_all}
use Rattle.team_log.proofs.log.ChunkLog.combine.Goals as goal

pub chunks-init : goal.chunks-init
chunks-init c =
    let own = c.self.inside in
    let index = c.args.index in
    record {
      count = ap partials_in c.as_slice-chunks.ensures ∙ c.self.invariant.1 ∙ ap (λ (l : List Partial). length l) (sym c.as_slice-partials.ensures.value);
      left =
          ap (combined_all (operator_of c.args.operator) c.args.value)
          ((λ i. left_of index (c.as_slice-chunks.ensures i) (c.as_slice-partials.ensures.value i)) ∙ sym (left_all index own.ended.items own.changes own.partials.items own.text.items) ∙ ap (λ (a : Account). told_of index a.chunks) c.self.view_is);
    }
