use Rattle.std.proofs.Common.{◌∙◌, sym}
use Rattle.ctoken.proofs.CommentLaw.{comment-step}
use Rattle.ctoken.proofs.comment.comment_end.Goals as goal

pub loop-i-preserved : goal.loop-i-preserved
loop-i-preserved c =
    comment-step c.args.bytes.now c.loop-i.i _ c.loop-i-test.true c.loop-i.invariant (sym c.closes.ensures ∙ c.if-closes.false) (sym c.has.ensures ∙ c.if-not-has.false)
