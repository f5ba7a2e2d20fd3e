-- The numbers of the refusals.
use Rattle.std.specs.Prelude.{ℕ}
use Rattle.ktree.specs.declared.refusal.Refusal.{Refusal}
use Rattle.ktree.specs.declared.refusal.Refusal.TheVariants.{Syntax, NumberOutOfRange, UnknownName, NameTwice, Operands, LoopNotCanonical, LoopMayWrap, NotAffine, SubscriptOutOfRange, MayBeUnassigned, Directive, NestNotPerfect, ClauseForVariable, SharedScalarWritten, PrivateVariable, Reduction, Scan, Ordered, Conflict, NotShown, Limit, Input, OutOfMemory, OutputFailed}

-- a refusal's number, as its message has it behind `K`
abbrev pub number_of : Refusal → ℕ
number_of (Syntax place) = 1
number_of (NumberOutOfRange place) = 2
number_of (UnknownName place) = 3
number_of (NameTwice place) = 4
number_of (Operands place) = 5
number_of (LoopNotCanonical place) = 6
number_of (LoopMayWrap place) = 7
number_of (NotAffine place) = 8
number_of (SubscriptOutOfRange place) = 9
number_of (MayBeUnassigned place) = 10
number_of (Directive place) = 11
number_of (NestNotPerfect place) = 12
number_of (ClauseForVariable place) = 13
number_of (SharedScalarWritten place) = 14
number_of (PrivateVariable place) = 15
number_of (Reduction place) = 16
number_of (Scan place) = 17
number_of (Ordered place) = 18
number_of (Conflict conflict) = 19
number_of (NotShown accesses) = 20
number_of (Limit place) = 21
number_of (Input fault) = 22
number_of OutOfMemory = 23
number_of OutputFailed = 24
