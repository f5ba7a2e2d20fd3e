-- What the variables with a role hold behind a loop, put where they stand. (OpenMP 5.2, 5.4.5 and 5.5.5)
use Rattle.std.specs.Prelude.{ℕ, suc, ◌≡◌, List, [], ◌∷◌, map, Option}
use Rattle.semantics.specs.Loops.Operator.{combined_all}
use Rattle.semantics.specs.Loops.Joined.{value_at}
use Rattle.ktree.specs.DirectiveView.{operator_of}
use Rattle.store.specs.Kept.{Kept}
use Rattle.store.specs.Flat.{values_of}
use Rattle.lower_machine.specs.Machine.{Machine, machine}
use Rattle.lower.specs.declared.roles.Spot.{Spot}
use Rattle.lower.specs.declared.roles.LoweredReduction.{LoweredReduction}
use Rattle.lower.specs.declared.roles.LoweredRoles.{LoweredRoles}
use Rattle.overlay.specs.Spots.{held_at, with_at}
use Rattle.team_log.specs.declared.putting.Total.{Total}
use Rattle.team_log.specs.declared.putting.Total.TheVariants.{Combined, Scanned}
use Rattle.team_log.specs.Applied.{AreApplied}
use Rattle.team_log.specs.Logged.{Leaving, Account}

-- what chunks tell of the reduction variable of an index
abbrev pub told_of : ℕ → List Leaving → List (Option ℕ)
told_of index cs = map (λ c. value_at index c.partials) cs

-- each reduction variable, the first of this index, holds what it held combined with what chunks tell of it
abbrev pub reduced : ℕ → List LoweredReduction → List Leaving → Machine → Machine
reduced index [] cs m = m
reduced index (r ∷ rs) cs m = reduced (suc index) rs cs (with_at r.spot (combined_all (operator_of r.operator) (held_at r.spot m) (told_of index cs)) m)

-- scalars hold these values, those that have one
abbrev pub put_values : List Spot → List ℕ → Machine → Machine
put_values [] vs m = m
put_values (at ∷ spots) [] m = m
put_values (at ∷ spots) (v ∷ vs) m = put_values spots vs (with_at at v m)

-- a scan's variable holds this value
abbrev pub scanned : List LoweredReduction → ℕ → Machine → Machine
scanned [] value m = m
scanned (r ∷ rs) value m = with_at r.spot value m

-- each reduction variable holds its total
abbrev pub totalled : Total → List LoweredReduction → List Leaving → Machine → Machine
totalled Combined rs cs m = reduced 0 rs cs m
totalled (Scanned value) rs cs m = scanned rs value m

-- what all chunks leave is put together: their changes over the store, then reduction variables in a way, then lastprivate ones
pub record IsPutBy (reducing : Machine → Machine) (roles : LoweredRoles) (a : Account) (registers registers' : List ℕ) (ks ks' : List Kept) : Type 0 where
  pub cells : List ℕ
  pub applied : AreApplied (values_of ks) cells a.chunks
  pub put : machine registers' (values_of ks') ≡ put_values roles.lasts.items a.lasts (reducing (machine registers cells))

-- each reduction variable combined with what the chunks tell of it
abbrev pub IsPut : LoweredRoles → Account → List ℕ → List ℕ → List Kept → List Kept → Type 0
IsPut roles a registers registers' ks ks' = IsPutBy (reduced 0 roles.reductions.items a.chunks) roles a registers registers' ks ks'

-- or a scan's variable with this value
abbrev pub IsScanPut : ℕ → LoweredRoles → Account → List ℕ → List ℕ → List Kept → List Kept → Type 0
IsScanPut value roles a registers registers' ks ks' = IsPutBy (scanned roles.reductions.items value) roles a registers registers' ks ks'
