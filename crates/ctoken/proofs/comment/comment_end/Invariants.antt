use Rattle.std.proofs.Common.{◌≡◌, drop}
use Rattle.ctoken.specs.Front.{comment_end}
use Rattle.ctoken.proofs.CommentLaw.{ahead}
use Rattle.ctoken.proofs.comment.comment_end.Given as goal

abbrev pub invariant-loop-i : goal.invariant-loop-i
invariant-loop-i l = comment_end l.bytes ≡ ahead l.i (comment_end (drop l.i l.bytes))
