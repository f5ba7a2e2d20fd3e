-- What is told where a loop or a subscript is not as the rules have it.
use Rattle.std.specs.Prelude.{ℕ, slice_get, unwrap_or, ◌≡◌, ◌⊎◌, Bool, Option, Some, None}
use Rattle.ktree.specs.declared.place.Place.{Place}
use Rattle.ktree.specs.declared.expression.NamePlaces.{NamePlaces}
use Rattle.ktree.specs.declared.refusal.Refusal.{Refusal}
use Rattle.ktree.specs.declared.refusal.Refusal.TheVariants as refusals
use Rattle.affine.specs.Affine.{Affine}
use Rattle.affine_expr.specs.declared.faults.Fault.{Fault}
use Rattle.affine_expr.specs.declared.faults.Fault.TheVariants.{NotCanonical, MayWrap, NotAffine, NotPerfect, Limit, OutOfMemory}

-- the refusal that tells a fault
abbrev pub refusal_of : Fault → Refusal
refusal_of (NotCanonical place) = refusals.LoopNotCanonical place
refusal_of (MayWrap place) = refusals.LoopMayWrap place
refusal_of (NotAffine place) = refusals.NotAffine place
refusal_of (NotPerfect place) = refusals.NestNotPerfect place
refusal_of (Limit place) = refusals.Limit place
refusal_of OutOfMemory = refusals.OutOfMemory

-- what is told of an expression that has no form: that it is not linear, or else that it passes a limit
abbrev pub told : Place → Option Bool → Fault
told place None = NotAffine place
told place (Some number) = Limit place

-- memory ran out, or a form passes the limits
abbrev pub Refused : Place → Option Affine → Fault → Type 0
Refused place form fault = (fault ≡ OutOfMemory) ⊎ ((fault ≡ Limit place) × (form ≡ None))

-- memory ran out, or there is no form, for the limit of forms or for the shape
abbrev pub Stops : Place → Option Bool → Option Affine → Fault → Type 0
Stops place shape form fault = (fault ≡ OutOfMemory) ⊎ ((form ≡ None) × ((fault ≡ Limit place) ⊎ (shape ≡ None)))

-- where a subscript stands; its name, where it has no place
abbrev pub place_of : NamePlaces → ℕ → Place
place_of mention i = unwrap_or (slice_get mention.subscripts.items i) mention.name
