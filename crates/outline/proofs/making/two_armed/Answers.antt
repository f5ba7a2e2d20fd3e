use Rattle.std.proofs.Common.{sym, subst}
use Rattle.std.specs.Prelude.{None}
use Rattle.semantics.specs.Tree
use Rattle.ktree.specs.View.{cond_of}
use Rattle.outline.specs.Made.{IsMade}
use Rattle.outline.proofs.Shaped.{two_made}
use Rattle.outline.proofs.making.two_armed.Goals as goal

pub returns-clause-made : goal.returns-clause-made
returns-clause-made c loops box a b one two =
    let layout = c.args.target.layout.now in
    let mark = c.args.target.registers in
    subst (IsMade layout mark loops box None (Tree.IfElse (cond_of c.args.cond.now) a b)) (sym c.in_ok-new.ensures.ok) (two_made layout mark loops box c.in_ok-test.test c.args.cond c.args.then c.args.other a b c.in_ok-test.ensures.ok one two)
