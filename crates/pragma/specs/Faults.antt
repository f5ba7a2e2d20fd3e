-- What is wrong with directive lines, and the refusals that tell it.
use Rattle.ktree.specs.declared.refusal.Refusal.{Refusal}
use Rattle.ktree.specs.declared.refusal.Refusal.TheVariants as refusals
use Rattle.pragma.specs.declared.faults.Fault.{Fault}
use Rattle.pragma.specs.declared.faults.Fault.TheVariants.{Directive, Size}

-- the refusal that tells a fault
abbrev pub refusal_of : Fault → Refusal
refusal_of (Directive place) = refusals.Directive place
refusal_of (Size place) = refusals.Limit place
