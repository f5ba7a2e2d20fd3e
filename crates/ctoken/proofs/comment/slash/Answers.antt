use Rattle.std.proofs.Common.{refl}
use Rattle.std.proofs.lemmas.List.{nil_from_length}
use Rattle.semantics.specs.Source.Token as meant
use Rattle.ctoken.proofs.CommentLaw.{slash-end, slash-other}
use Rattle.ctoken.proofs.comment.slash.Goals as goal

pub returns-in_default : goal.returns-in_default
returns-in_default c = (meant.Punctuator meant.Slash, slash-end c.args.rest.now (nil_from_length c.args.rest.now c.in_default.ensures.cases), refl)

pub returns-else-second-eq42 : goal.returns-else-second-eq42
returns-else-second-eq42 c = (meant.Punctuator meant.Slash, slash-other c.args.rest.now c.in-Some.second.now c.in-Some.comment.now c.in-Some.ensures.cases.0 c.if-second-eq47.false c.if-second-eq42.false, refl)
