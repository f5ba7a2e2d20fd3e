use Rattle.std.specs.Prelude.{◌++◌, ◌≢◌, ◌<◌, length, vec_len}
use Rattle.std.proofs.Common.{sym, ◌∙◌, arith}
use Rattle.std.proofs.lemmas.Bool.{eqb-false}
use Rattle.semantics.specs.Meaning.Agrees.{is_among, declared_in}
use Rattle.ktree.specs.View.{stmt_of}
use Rattle.pragma_named.specs.Known.{kept}
use Rattle.law_roles.specs.Sharing.{role_variables}
use Rattle.flow.specs.Roles.{left_roles, data_known}
use Rattle.flow.proofs.PrivateLemmas.{element}
use Rattle.flow.proofs.sharing.target_fault.Goals as goal

pub returns-then-not-is_empty-clause-judged : goal.returns-then-not-is_empty-clause-judged
returns-then-not-is_empty-clause-judged c =
    let subscripts = c.args.target.now.subscripts in
    let some : vec_len subscripts ≢ 0 = eqb-false (vec_len subscripts) 0 (sym c.is_empty.ensures ∙ c.if-not-is_empty.true) in
    let above : 0 < length subscripts.items = omega arith in
    element (is_among (declared_in (stmt_of c.args.body.now) ++ role_variables (left_roles (data_known (kept c.args.lines.now) c.args.files c.args.line)))) c.args.target.now.variable.0 subscripts.items above
