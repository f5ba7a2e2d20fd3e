-- What is said of a refusal.
use Rattle.std.specs.Prelude.{ℕ, List, codes}
use Rattle.ktree.specs.declared.refusal.Cause.{Cause}
use Rattle.ktree.specs.declared.refusal.Cause.TheVariants.{Form, Name, Twice, Count, Number}
use Rattle.ktree.specs.declared.refusal.Refusal.{Refusal}
use Rattle.ktree.specs.declared.refusal.Refusal.TheVariants.{Syntax, NumberOutOfRange, UnknownName, NameTwice, Operands, LoopNotCanonical, LoopMayWrap, NotAffine, SubscriptOutOfRange, MayBeUnassigned, Directive, NestNotPerfect, ClauseForVariable, SharedScalarWritten, PrivateVariable, Reduction, Scan, Ordered, Conflict, NotShown, Limit, Input, OutOfMemory, OutputFailed}

-- what is wrong
abbrev pub words_of : Refusal → List ℕ
words_of (Syntax p) = codes "syntax"
words_of (NumberOutOfRange p) = codes "number out of range"
words_of (UnknownName p) = codes "unknown name"
words_of (NameTwice p) = codes "name twice"
words_of (Operands p) = codes "operands"
words_of (LoopNotCanonical p) = codes "loop not canonical"
words_of (LoopMayWrap p) = codes "loop may wrap"
words_of (NotAffine p) = codes "not affine"
words_of (SubscriptOutOfRange p) = codes "subscript out of range"
words_of (MayBeUnassigned p) = codes "may be unassigned"
words_of (Directive p) = codes "directive"
words_of (NestNotPerfect p) = codes "nest not perfect"
words_of (ClauseForVariable p) = codes "clause for variable"
words_of (SharedScalarWritten p) = codes "shared scalar written"
words_of (PrivateVariable p) = codes "private variable"
words_of (Reduction p) = codes "reduction"
words_of (Scan p) = codes "scan"
words_of (Ordered p) = codes "ordered"
words_of (Conflict c) = codes "conflict"
words_of (NotShown a) = codes "not shown"
words_of (Limit p) = codes "limit"
words_of (Input f) = codes "line "
words_of OutOfMemory = codes "out of memory"
words_of OutputFailed = codes "output failed"

-- what is wrong with an input's line
abbrev pub cause_words : Cause → List ℕ
cause_words Form = codes "form"
cause_words Name = codes "name"
cause_words Twice = codes "twice"
cause_words Count = codes "count"
cause_words Number = codes "number"
