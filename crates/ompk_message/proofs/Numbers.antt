-- A refusal's number has two digits.
use Rattle.std.specs.Prelude.{◌<◌}
use Rattle.std.proofs.Common.{arith}
use Rattle.ktree.specs.Numbers.{number_of}
use Rattle.ktree.specs.declared.refusal.Refusal.{Refusal}
use Rattle.ktree.specs.declared.refusal.Refusal.TheVariants.{Syntax, NumberOutOfRange, UnknownName, NameTwice, Operands, LoopNotCanonical, LoopMayWrap, NotAffine, SubscriptOutOfRange, MayBeUnassigned, Directive, NestNotPerfect, ClauseForVariable, SharedScalarWritten, PrivateVariable, Reduction, Scan, Ordered, Conflict, NotShown, Limit, Input, OutOfMemory, OutputFailed}

pub two_digits : (r : Refusal) → number_of r < 100
two_digits (Syntax x) = omega arith
two_digits (NumberOutOfRange x) = omega arith
two_digits (UnknownName x) = omega arith
two_digits (NameTwice x) = omega arith
two_digits (Operands x) = omega arith
two_digits (LoopNotCanonical x) = omega arith
two_digits (LoopMayWrap x) = omega arith
two_digits (NotAffine x) = omega arith
two_digits (SubscriptOutOfRange x) = omega arith
two_digits (MayBeUnassigned x) = omega arith
two_digits (Directive x) = omega arith
two_digits (NestNotPerfect x) = omega arith
two_digits (ClauseForVariable x) = omega arith
two_digits (SharedScalarWritten x) = omega arith
two_digits (PrivateVariable x) = omega arith
two_digits (Reduction x) = omega arith
two_digits (Scan x) = omega arith
two_digits (Ordered x) = omega arith
two_digits (Conflict x) = omega arith
two_digits (NotShown x) = omega arith
two_digits (Limit x) = omega arith
two_digits (Input x) = omega arith
two_digits OutOfMemory = omega arith
two_digits OutputFailed = omega arith
