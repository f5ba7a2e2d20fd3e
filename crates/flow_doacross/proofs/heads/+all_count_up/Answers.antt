use Rattle.std.specs.Prelude.{◌-◌, ◌≡◌, ◌&&◌, true}
use Rattle.std.proofs.Common.{sym, ap, ◌∙◌, rules}
use Rattle.std.proofs.lemmas.Result.{IfOk-weaker}
use Rattle.semantics.specs.Loops.Nest.{nest_of}
use Rattle.ktree.specs.View.{stmt_of}
use Rattle.nest.specs.Heads.{head_of}
use Rattle.nest.proofs.PerfectLaw.{pred_is}
use Rattle.flow_doacross.specs.Nests.{counts_up, all_count_up}
use Rattle.flow_doacross.proofs.NestLaw.{count_more}
use Rattle.flow_doacross.proofs.heads.+all_count_up.Goals as goal

pub returns : goal.returns
returns t c =
    let n = c.args.depth in
    let s = stmt_of c.args.statement.now in
    let b = stmt_of c.in-Some.level.body.now in
    let h = head_of c.in-Some.level.head.now in
    let up : counts_up h ≡ true = search rules in
    IfOk-weaker c.all_count_up.result (λ count. count ≡ all_count_up (nest_of (n - 1) b)) (λ count. count ≡ all_count_up (nest_of n s))
    (λ count e. e ∙ sym (count_more n (n - 1) s b h (pred_is n c.if-depth-eq0.false) c.in-Some.ensures ∙ ap (λ x. x && all_count_up (nest_of (n - 1) b)) up)) c.all_count_up.ensures
