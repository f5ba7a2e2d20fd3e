-- Where texts are at fault.
use Rattle.std.specs.Prelude.{Option, Some, None}
use Rattle.ktree.specs.declared.place.Place.{Place}
use Rattle.ktree.specs.declared.refusal.Refusal.{Refusal}
use Rattle.ktree.specs.declared.refusal.Refusal.TheVariants.{Syntax, NumberOutOfRange, UnknownName, NameTwice, Operands, LoopNotCanonical, LoopMayWrap, NotAffine, SubscriptOutOfRange, MayBeUnassigned, Directive, NestNotPerfect, ClauseForVariable, SharedScalarWritten, PrivateVariable, Reduction, Scan, Ordered, Conflict, NotShown, Limit, Input, OutOfMemory, OutputFailed}

-- where a text is at fault; of two accesses, where the first stands
abbrev pub place_of : Refusal → Option Place
place_of (Syntax p) = Some p
place_of (NumberOutOfRange p) = Some p
place_of (UnknownName p) = Some p
place_of (NameTwice p) = Some p
place_of (Operands p) = Some p
place_of (LoopNotCanonical p) = Some p
place_of (LoopMayWrap p) = Some p
place_of (NotAffine p) = Some p
place_of (SubscriptOutOfRange p) = Some p
place_of (MayBeUnassigned p) = Some p
place_of (Directive p) = Some p
place_of (NestNotPerfect p) = Some p
place_of (ClauseForVariable p) = Some p
place_of (SharedScalarWritten p) = Some p
place_of (PrivateVariable p) = Some p
place_of (Reduction p) = Some p
place_of (Scan p) = Some p
place_of (Ordered p) = Some p
place_of (Conflict c) = Some c.accesses.first
place_of (NotShown a) = Some a.first
place_of (Limit p) = Some p
place_of (Input f) = None
place_of OutOfMemory = None
place_of OutputFailed = None
