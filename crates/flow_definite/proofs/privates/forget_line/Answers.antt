use Rattle.std.specs.Prelude.{◌+◌, drop, filter, flat_map, map}
use Rattle.std.proofs.Common.{sym, ap, ◌∙◌}
use Rattle.semantics.specs.Directives.Clauses.{private_of}
use Rattle.semantics.specs.Meaning.Definite.{without}
use Rattle.pragma_named.specs.Views.{resolved_clause}
use Rattle.flow_definite.specs.Judged.{is_local, known_of}
use Rattle.flow_definite.proofs.PrivatesLemmas.{clause_left}
use Rattle.flow_definite.proofs.privates.forget_line.Goals as goal

pub loop-clause-init : goal.loop-clause-init
loop-clause-init c = ap (λ cs. without (known_of c.args.known.now) (filter (is_local c.args.files) (flat_map private_of cs))) (sym c.clauses_known-clause-items.ensures)

pub loop-clause-preserved : goal.loop-clause-preserved
loop-clause-preserved c =
    let clauses = c.clauses_known-clause-items.result.now in
    let i = c.loop-clause.clause-index in
    c.loop-clause.invariant
    ∙ clause_left (is_local c.args.files) (known_of c.loop-clause.known) clauses i c.clause-item.result c.loop-clause-test.true c.clause-item.is
    ∙ ap (λ k. without k (filter (is_local c.args.files) (flat_map private_of (map resolved_clause (drop (i + 1) clauses))))) (sym c.in_ok-forget_clause.ensures)
