-- What is wrong with directives, and the refusals that tell it.
use Rattle.std.specs.Prelude.{◌≡◌}
use Rattle.ktree.specs.declared.place.Place.{Place}
use Rattle.ktree.specs.declared.refusal.Refusal.{Refusal}
use Rattle.ktree.specs.declared.refusal.Refusal.TheVariants as refusals
use Rattle.pragma_attach.specs.declared.fault.Fault.{Fault}
use Rattle.pragma_attach.specs.declared.fault.Flaw.{Flaw}
use Rattle.pragma_attach.specs.declared.fault.Flaw.TheVariants.{UnknownName, Directive, ClauseForVariable, Limit}

-- a refusal by what is wrong at a place
abbrev pub refusal_at : Place → Flaw → Refusal
refusal_at place UnknownName = refusals.UnknownName place
refusal_at place Directive = refusals.Directive place
refusal_at place ClauseForVariable = refusals.ClauseForVariable place
refusal_at place Limit = refusals.Limit place

-- the refusal that tells a fault
abbrev pub refusal_of : Fault → Refusal
refusal_of f = refusal_at f.place f.flaw

-- a refusal for directives: an unknown name, a line or a construct, a name in clauses, or a number above its limit
abbrev pub IsOfDirectives : Refusal → Type 0
IsOfDirectives r = (f : Fault) × (r ≡ refusal_of f)
