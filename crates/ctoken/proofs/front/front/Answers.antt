use Rattle.std.proofs.Common.{◌∙◌, sym, ap, subst, ◌&&◌}
use Rattle.std.proofs.lemmas.Bool.{cond-false, and_right}
use Rattle.semantics.specs.Source.Text.{skip_blanks}
use Rattle.ctoken.specs.Front.{begins_hash}
use Rattle.ctoken.specs.Pieces.{Gives}
use Rattle.ctoken.proofs.front.front.Goals as goal
use Rattle.ctoken.proofs.front.front.Goals.{else-fresh-via-then-fresh+else-begins_hash, else-fresh-via-else-fresh}

pub returns-else-fresh : goal.returns-else-fresh
returns-else-fresh c =
    λ n. subst (Gives c.args.text.now c.inside.result)
    (sym (cond-false _ _ _ (elim c.else-fresh.branch [
      | else-fresh-via-then-fresh+else-begins_hash w ↦ ap (λ x. x && c.args.fresh) (sym w.begins_hash.ensures ∙ w.if-begins_hash.false)
      | else-fresh-via-else-fresh w ↦ and_right (begins_hash (skip_blanks c.args.text.now)) c.args.fresh w.if-fresh.false
    ]))) c.inside.ensures
