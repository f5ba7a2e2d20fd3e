-- A lowered loop has its space where an accepted kernel reaches it.
use Rattle.std.specs.Prelude.{ℕ, suc, true, ◌≡◌, ◌≤◌, ◌^◌, List, [], ◌∷◌, map, Contains, slice_index}
use Rattle.std.proofs.Common.{refl, sym, subst, arith}
use Rattle.semantics.specs.Tree.{Variable, Stmt}
use Rattle.semantics.specs.Meaning.State.{State, Holds}
use Rattle.semantics.specs.Loops.Nest.{Loop}
use Rattle.semantics.specs.Loops.Piece.{Roles}
use Rattle.ktree.specs.declared.place.VarId.{VarId}
use Rattle.affine.specs.declared.interval.Side.{Side}
use Rattle.affine_expr.specs.Forms.{is_counter}
use Rattle.nest_space.specs.Nests.{given, AreModest}
use Rattle.nest_space.proofs.Reached.{length-reached}
use Rattle.law_ranges.specs.Spaces.{RunsFew}
use Rattle.store.specs.Kept.{Kept}
use Rattle.lower_code.specs.declared.laid.Laid.{Laid}
use Rattle.lower_run.specs.Walk.{StandFor}
use Rattle.lower.specs.declared.lowered.LoweredLoop.{LoweredLoop}
use Rattle.lower.specs.Lowered.{IsLoweredFrom, MayBeReached, values_in}
use Rattle.lower.proofs.Spaces.{counters_held}

-- values of listed variables, whose registers hold small numbers
modest : (vs : List VarId) (registers : List ℕ) → ((x : Variable) → Contains (map (λ v. v.0) vs) x → slice_index registers x ≤ 2 ^ 33) → AreModest (values_in vs registers)
modest [] registers small = tt
modest (v ∷ vs) registers small = (small v.0 (0, omega arith, refl), modest vs registers (λ x among. small x (let less = among.1 in (suc among.0, omega arith, among.2))))

module _ (layout : List Laid) (mark : ℕ) (box : List Side) (roles : Roles) (serial loops : List Loop) (body : Stmt) (s : State) (l : LoweredLoop) (rs : List ℕ) (ks : List Kept) (lowered : IsLoweredFrom layout mark box roles loops body l) (stand : StandFor layout mark s rs ks)
    (known : (x : Variable) → is_counter box x ≡ true → Contains (map (λ h. h.variable) serial) x) (counters : (x : Variable) → is_counter box x ≡ true → (n : ℕ) × (s.locals x ≡ Holds n)) (few : RunsFew serial loops s) where
  small : (x : Variable) → Contains (map (λ v. v.0) l.around.items) x → slice_index rs x ≤ 2 ^ 33
  small x among =
      let counts = (lowered.around x).1 among in
      let held = counters x counts in
      subst (λ n. n ≤ 2 ^ 33) (sym (stand.machine.local x held.0 held.1)) (few.small x held.0 (known x counts) held.1)

  pub may_be_reached : MayBeReached l rs
  may_be_reached none =
      let ran = few.runs box (given (values_in l.around.items rs)) l.loops.items known (counters_held layout mark box roles loops body s l rs ks lowered stand counters) lowered.heads in
      none ran.turns (modest l.around.items rs small) ran.runs
      (record { loops = subst (λ n. n ≤ 4) (sym (length-reached l.loops.items (given (values_in l.around.items rs)) ran.turns ran.runs)) lowered.few; few = ran.few })
