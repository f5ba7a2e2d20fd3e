-- What a function answers that resolves names.
use Rattle.std.specs.Prelude.{◌≡◌, Option, Some, None, Result, Ok, Err}
use Rattle.pragma_attach.specs.declared.stop.Stop.{Stop}
use Rattle.pragma_attach.specs.declared.stop.Stop.TheVariants.{Memory, UnknownName, NamedTwice}

-- why nothing is resolved
abbrev pub Fails : {Y : Type 0} → Stop → Option Y → Type 0
Fails Memory found = Unit {0}
Fails (UnknownName place) found = found ≡ None
Fails (NamedTwice place) found = found ≡ None

-- what is resolved, as it is viewed
abbrev pub Gives : {X Y : Type 0} → (X → Y) → Result X Stop → Option Y → Type 0
Gives view (Ok x) found = found ≡ Some (view x)
Gives view (Err e) found = Fails e found
