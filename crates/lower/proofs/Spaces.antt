-- The variables round a loop have the values in their registers, and its space is that of these values, where it is reached.
use Rattle.std.proofs.Common.{◌≡◌, ℕ, Bool, true, false, cond, pos, List, [], ◌∷◌, map, Some, None, Option, length, zero, suc, refl, sym, ap, ◌∙◌, subst, Contains, arith}
use Rattle.std.specs.Prelude.{◌==◌, ◌<◌, ◌^◌, slice_index, slice_index_or}
use Rattle.std.proofs.lemmas.Bool.{eqb-true, eqb-false}
use Rattle.semantics.specs.Tree.{Variable, Stmt}
use Rattle.semantics.specs.Meaning.State.{State, Holds}
use Rattle.semantics.specs.Loops.Nest.{Loop}
use Rattle.semantics.specs.Loops.Piece.{Roles}
use Rattle.ktree.specs.declared.place.VarId.{VarId}
use Rattle.affine.specs.declared.interval.Side.{Side}
use Rattle.affine_expr.specs.Forms.{is_counter}
use Rattle.nest_loop.specs.Turn.{HoldCounters}
use Rattle.nest_space.specs.Nests.{given}
use Rattle.nest_space.specs.Space.{Turns}
use Rattle.nest_space.specs.Heads.{HasIterations}
use Rattle.store.specs.Kept.{Kept}
use Rattle.lower_code.specs.declared.laid.Laid.{Laid}
use Rattle.lower_run.specs.Walk.{StandFor}
use Rattle.lower.specs.declared.lowered.LoweredLoop.{LoweredLoop}
use Rattle.lower.specs.Lowered.{IsLoweredFrom, IsSpaceOf, values_in}

-- a variable that is listed has what its register holds
given_is : (vs : List VarId) (registers : List ℕ) (x : Variable) → Contains (map (λ v. v.0) vs) x → given (values_in vs registers) x ≡ pos (slice_index registers x)
given_is [] registers x (k, lt, e) = absurd (omega arith)
given_is (v ∷ vs) registers x (k, lt, e) = go (given_is vs registers x) (v.0 == x) refl k lt e
  where
    go : (Contains (map (λ w. w.0) vs) x → given (values_in vs registers) x ≡ pos (slice_index registers x)) → (b : Bool) → (v.0 == x) ≡ b → (k : ℕ) → k < length (map (λ w. w.0) (v ∷ vs)) → slice_index_or (map (λ w. w.0) (v ∷ vs)) k x ≡ x → cond (v.0 == x) (pos (slice_index registers v.0)) (given (values_in vs registers) x) ≡ pos (slice_index registers x)
    go rest true f k lt e = ap (λ b. cond b (pos (slice_index registers v.0)) (given (values_in vs registers) x)) f ∙ ap (λ y. pos (slice_index registers y)) (eqb-true v.0 x f)
    go rest false f zero lt e = absurd (eqb-false v.0 x f e)
    go rest false f (suc k) lt e = ap (λ b. cond b (pos (slice_index registers v.0)) (given (values_in vs registers) x)) f ∙ rest (k, omega arith, e)

or_nothing : Option (List (List ℕ)) → List (List ℕ)
or_nothing None = []
or_nothing (Some vs) = vs

-- registers hold what the variables round a loop do
pub counters_held : (layout : List Laid) (mark : ℕ) (box : List Side) (roles : Roles) (loops : List Loop) (body : Stmt) (outer : State) (l : LoweredLoop) (registers : List ℕ) (ks : List Kept)
    → IsLoweredFrom layout mark box roles loops body l → StandFor layout mark outer registers ks → ((x : Variable) → is_counter box x ≡ true → (n : ℕ) × (outer.locals x ≡ Holds n))
    → HoldCounters box (given (values_in l.around.items registers)) outer
counters_held layout mark box roles loops body outer l registers ks lowered stand counters x is =
    let held = counters x is in
    let there : slice_index registers x ≡ held.0 = stand.machine.local x held.0 held.1 in
    record {
      number = held.0;
      held = held.1;
      is = given_is l.around.items registers x ((lowered.around x).0 is) ∙ ap pos there;
      below = subst (λ n. n < 2 ^ 64) there (stand.machine.fits.registers x);
    }

pub space_of : (l : LoweredLoop) (registers : List ℕ) (ts : List Turns) → HasIterations l.loops.items (given (values_in l.around.items registers)) ts → IsSpaceOf l registers ts
unfolding or_nothing
space_of l registers ts has layout mark roles loops body outer us ks r =
    ap or_nothing (sym r.are ∙ has r.box loops outer (counters_held layout mark r.box roles loops body outer l registers ks r.lowered r.stand r.counters) r.lowered.heads)
