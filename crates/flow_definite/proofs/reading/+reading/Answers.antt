use Rattle.std.proofs.Common.{◌≡◌, true, sym, ap, ◌∙◌, subst}
use Rattle.std.specs.Prelude.{◌&&◌, OnOk, IfErr}
use Rattle.semantics.specs.Meaning.Definite.{may_read, may_read_all}
use Rattle.ktree.specs.View.{expr_of, exprs_of}
use Rattle.flow_definite.specs.Judged.{known_of, Unread}
use Rattle.ktree.proofs.Trees.{object_of}
use Rattle.flow_definite.proofs.ReadLemmas.{and_on}
use Rattle.flow_definite.proofs.reading.+reading.Goals as goal

pub read-returns-in_ok-read-in-Object-clause-known : goal.read-returns-in_ok-read-in-Object-clause-known
read-returns-in_ok-read-in-Object-clause-known t c =
    let k = known_of c.args.known.now in
    let whole = ap (λ e. may_read k (expr_of e)) c.in-Object.is ∙ ap (may_read k) (object_of c.in-Object.x c.in-Object.subscripts c.in-Object.mention) ∙ ap (λ es. k c.in-Object.x.0 && may_read_all k (exprs_of es)) (sym c.deref.ensures.value) in
    let rest = and_on (may_read k (expr_of c.args.expr.now)) (k c.in-Object.x.0) (may_read_all k (exprs_of c.deref.result.now)) whole c.in_ok-read-in-Object.ensures.known in
    subst (λ b. OnOk c.read_all.result (b ≡ true)) (sym rest) c.read_all.ensures.known

pub read-returns-in_ok-read-in-Object-clause-refused : goal.read-returns-in_ok-read-in-Object-clause-refused
read-returns-in_ok-read-in-Object-clause-refused t c =
    let k = known_of c.args.known.now in
    let whole = ap (λ e. may_read k (expr_of e)) c.in-Object.is ∙ ap (may_read k) (object_of c.in-Object.x c.in-Object.subscripts c.in-Object.mention) ∙ ap (λ es. k c.in-Object.x.0 && may_read_all k (exprs_of es)) (sym c.deref.ensures.value) in
    let rest = and_on (may_read k (expr_of c.args.expr.now)) (k c.in-Object.x.0) (may_read_all k (exprs_of c.deref.result.now)) whole c.in_ok-read-in-Object.ensures.known in
    subst (λ b. IfErr c.read_all.result (Unread b)) (sym rest) c.read_all.ensures.refused
