use Rattle.std.proofs.Common.{false, ap, take, refl}
use Rattle.semantics.specs.Source.Token as meant
use Rattle.ctoken.specs.Front.{string_of, spelled}
use Rattle.ctoken.proofs.string.string.Goals as goal

pub returns-in-Ok : goal.returns-in-Ok
returns-in-Ok c = (meant.StringLiteral (spelled false (take c.in-Ok.length c.args.bytes.now)) c.in-Ok.single, ap (string_of c.args.bytes.now) c.in-Ok.ensures.1, refl)
