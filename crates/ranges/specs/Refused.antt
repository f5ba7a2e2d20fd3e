-- Why the ranges of a kernel are refused.
use Rattle.std.specs.Prelude.{◌≡◌, Option, Some}
use Rattle.semantics.specs.Tree.{Kernel}
use Rattle.ktree.specs.declared.place.Place.{Place}
use Rattle.ktree.specs.declared.refusal.Refusal.{Refusal}
use Rattle.ktree.specs.declared.refusal.Refusal.TheVariants.{SubscriptOutOfRange}
use Rattle.nest.specs.Leaves.{LeavesSomewhere}

-- a subscript leaves its array, and the place that is told is the one that was found
abbrev pub RefusesRanges : Kernel → Option Place → Refusal → Type 0
RefusesRanges k leaves r = (place : Place) × (r ≡ SubscriptOutOfRange place) × (leaves ≡ Some place) × LeavesSomewhere k
