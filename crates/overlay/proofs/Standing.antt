-- Machines that stand for a state hold what scalars hold, and go along where reduction variables take what a chunk begins with.
use Rattle.std.proofs.Common.{ℕ, ◌≡◌, ◌<◌, ◌^◌, Bool, true, false, cond, List, [], ◌∷◌, length, Option, Some, None, refl, sym, ap, ◌∙◌, subst, arith}
use Rattle.std.specs.Prelude.{◌==◌, ◌&&◌, slice_get, slice_set, IsSome}
use Rattle.std.proofs.lemmas.Bool.{true≢false, eq-eqb}
use Rattle.std.proofs.lemmas.Option.{none-some, same_Some, get_or_from_slice_get, slice_get_within}
use Rattle.semantics.specs.Tree.{Variable}
use Rattle.semantics.specs.Meaning.State.{State, Slot, Outside, Empty, Holds, renewed, same_indexes, with_cell, assign_at, look, look_in}
use Rattle.semantics.specs.Meaning.Value.{map_option}
use Rattle.semantics.specs.Loops.Operator.{ReduceOp, Sum, Product, And, Or, Xor, AndAlso, OrElse, Max, Min, identity}
use Rattle.semantics.specs.Loops.Joined.{given}
use Rattle.law_roles.specs.Updates.{operator_of}
use Rattle.law_roles.specs.Reducing.{AreHeld}
use Rattle.law_roles.specs.Sharing.{begins_with}
use Rattle.law_starts.specs.Begun.{begun_with}
use Rattle.overlay.specs.declared.beginning.Start.{Start}
use Rattle.overlay.specs.declared.beginning.Start.TheVariants.{Reduction, Scan}
use Rattle.law_starts.proofs.Holding.{given_lasts}
use Rattle.ktree.specs.DirectiveView
use Rattle.lower_code.specs.declared.laid.Laid.{Laid}
use Rattle.lower_machine.specs.Machine.{Machine, machine}
use Rattle.lower_code.specs.Layout.{spot, shapes_of}
use Rattle.lower_code.specs.Meaning.{Represents}
use Rattle.lower_code.proofs.Values.{bind_there, no_object}
use Rattle.lower_machine.proofs.Sizes.{set_fits}
use Rattle.lower_code.proofs.Spots.{cell_written}
use Rattle.lower_code.proofs.Doing.{local_stands}
use Rattle.overlay.proofs.Back.{set_length}
use Rattle.lower.specs.declared.roles.Spot.{Spot}
use Rattle.lower.specs.declared.roles.Spot.TheVariants.{Register, Cell}
use Rattle.lower.specs.declared.roles.LoweredReduction.{LoweredReduction}
use Rattle.lower.specs.Roles.{StandsAt, AreReduced}
use Rattle.overlay.specs.Spots.{IsWord, held_at, with_at, beginning, begun_by}
use Rattle.overlay.specs.Chunks.{started}

pub some_value : (o : Option ℕ) → IsSome o → (v : ℕ) × (o ≡ Some v)
some_value None h = absurd (true≢false (sym h))
some_value (Some v) h = (v, refl)

-- a cell takes a number
cell_stands : (layout : List Laid) (mark : ℕ) (s : State) (m : Machine) (x place v : ℕ) → spot (shapes_of layout) x [] ≡ Some place → place < length m.cells → v < 2 ^ 64 → Represents layout mark s m → Represents layout mark (with_cell s x [] v) (machine m.registers (slice_set m.cells place v))
cell_stands layout mark s m x place v here inside small stands = record {
  laid = stands.laid;
  fits = record { registers = stands.fits.registers; cells = set_fits m.cells place v stands.fits.cells small };
  width = stands.width;
  room = rw (set_length m.cells place v) stands.room;
  local = stands.local;
  file_scope = stands.file_scope;
  unmarked = stands.unmarked;
  cell = λ y js. ap (λ o. cond ((y == x) && same_indexes js []) (renewed o v) o) (stands.cell y js) ∙ cell_written (shapes_of layout) m.cells x [] place v here inside y js;
}

-- where a register or a cell is that of a scalar that holds a number
pub record HeldIn (layout : List Laid) (mark : ℕ) (s : State) (m : Machine) (x v : ℕ) (at : Spot) : Type 0 where
  pub is : held_at at m ≡ v
  pub write : (w : ℕ) → w < 2 ^ 64 → Represents layout mark (given s x (Some w)) (with_at at w m)

pub held_in : (layout : List Laid) (mark : ℕ) (s : State) (m : Machine) (x v : ℕ) (at : Spot) → StandsAt layout mark x at → Represents layout mark s m → look s x [] ≡ Some v → HeldIn layout mark s m x v at
held_in layout mark s m x v (Register r) (same, locals) stands h = subst (λ y. HeldIn layout mark s m x v (Register (record { 0 = y }))) (sym same) (slot (s.locals x) refl h)
  where
    slot : (k : Slot) → s.locals x ≡ k → look_in k s x [] ≡ Some v → HeldIn layout mark s m x v (Register (record { 0 = x }))
    slot Outside e f = absurd (no_object layout mark s m x v [] locals.0.0 stands f)
    slot Empty e f = absurd (none-some v f)
    slot (Holds n) e f = record {
      is = stands.local x n e ∙ same_Some n v f;
      write = λ w small.
          subst (λ (k : Slot). Represents layout mark (assign_at k s x [] w) (with_at (Register (record { 0 = x })) w m)) (sym e)
          (local_stands layout mark s m x w locals.0.0 locals.0.1 small stands);
    }
held_in layout mark s m x v (Cell place) (lt, here) stands h =
    let out = stands.file_scope x lt in
    let there : s.cells x [] ≡ Some v = ap (λ k. look_in k s x []) (sym out) ∙ h in
    let l = bind_there (λ k. slice_get m.cells k) (spot (shapes_of layout) x []) v (sym (stands.cell x []) ∙ there) in
    let same : l.0 ≡ place = same_Some l.0 place (sym l.1 ∙ here) in
    let found : slice_get m.cells place ≡ Some v = ap (slice_get m.cells) (sym same) ∙ l.2 in
    record {
      is = get_or_from_slice_get m.cells place v 0 found;
      write = λ w small.
          subst (λ (k : Slot). Represents layout mark (assign_at k s x [] w) (with_at (Cell place) w m)) (sym out)
          (cell_stands layout mark s m x place w here (slice_get_within m.cells place v found) small stands);
    }

-- ---- what a chunk begins with

identity_small : (op : ReduceOp) → identity op < 2 ^ 64
identity_small Sum = omega arith
identity_small Product = omega arith
identity_small And = omega arith
identity_small Or = omega arith
identity_small Xor = omega arith
identity_small AndAlso = omega arith
identity_small OrElse = omega arith
identity_small Max = omega arith
identity_small Min = omega arith

begins_small : (op : ReduceOp) (v : ℕ) → v < 2 ^ 64 → begins_with op v < 2 ^ 64
begins_small Sum v lt = identity_small Sum
begins_small Product v lt = identity_small Product
begins_small And v lt = identity_small And
begins_small Or v lt = identity_small Or
begins_small Xor v lt = identity_small Xor
begins_small AndAlso v lt = lt
begins_small OrElse v lt = lt
begins_small Max v lt = identity_small Max
begins_small Min v lt = identity_small Min

held_small : (layout : List Laid) (mark : ℕ) (s : State) (m : Machine) (at : Spot) → Represents layout mark s m → held_at at m < 2 ^ 64
held_small layout mark s m (Register r) stands = stands.fits.registers r.0
held_small layout mark s m (Cell place) stands = stands.fits.cells place

-- the first of some reduction variables is one, and so are the others
pub first_held : (r : Variable × ReduceOp) (rs : List (Variable × ReduceOp)) (s : State) → AreHeld (r ∷ rs) s → IsSome (look s r.0 [])
first_held r rs s held = held r.0 r.1 (ap (λ b. cond b (Some r.1) (operator_of rs r.0)) (eq-eqb r.0 r.0 refl))

others_held : (r : Variable × ReduceOp) (rs : List (Variable × ReduceOp)) (s : State) → AreHeld (r ∷ rs) s → AreHeld rs s
others_held r rs s held x op is = at (r.0 == x) refl
  where
    at : (b : Bool) → (r.0 == x) ≡ b → IsSome (look s x [])
    at true e = held x r.1 (ap (λ b. cond b (Some r.1) (operator_of rs x)) e)
    at false e = held x op (ap (λ b. cond b (Some r.1) (operator_of rs x)) e ∙ is)

begun_stands : (layout : List Laid) (mark : ℕ) (rs : List (Variable × ReduceOp)) (ls : List LoweredReduction) (s : State) (m : Machine) → AreReduced layout mark rs ls → AreHeld rs s → Represents layout mark s m → Represents layout mark (begun_with rs s) (begun_by Reduction ls m)
begun_stands layout mark [] [] s m are held stands = stands
begun_stands layout mark [] (l ∷ ls) s m are held stands = absurd are
begun_stands layout mark (r ∷ rs) [] s m are held stands = absurd are
begun_stands layout mark (r ∷ rs) (l ∷ ls) s m (op, at, rest) held stands =
    let some = some_value (look s r.0 []) (first_held r rs s held) in
    let here = held_in layout mark s m r.0 some.0 l.spot at stands some.1 in
    let value = begins_with r.1 some.0 in
    let small : value < 2 ^ 64 = begins_small r.1 some.0 (subst (λ n. n < 2 ^ 64) here.is (held_small layout mark s m l.spot stands)) in
    let next = given s r.0 (map_option (begins_with r.1) (look s r.0 [])) in
    let state_is : given s r.0 (Some value) ≡ next = ap (λ o. given s r.0 (map_option (begins_with r.1) o)) (sym some.1) in
    let machine_is : with_at l.spot value m ≡ beginning Reduction l m = ap (λ o. with_at l.spot (begins_with o some.0) m) (sym op) ∙ ap (λ n. with_at l.spot (begins_with (DirectiveView.operator_of l.operator) n) m) (sym here.is) in
    begun_stands layout mark rs ls next (beginning Reduction l m) rest
    (λ x o is. given_lasts x s r.0 (map_option (begins_with r.1) (look s r.0 [])) (others_held r rs s held x o is))
    (subst (λ t. Represents layout mark t (beginning Reduction l m)) state_is (subst (λ k. Represents layout mark (given s r.0 (Some value)) k) machine_is (here.write value small)))

-- a number that is given
given_stands : (layout : List Laid) (mark : ℕ) (v : ℕ) → v < 2 ^ 64 → (rs : List (Variable × ReduceOp)) (ls : List LoweredReduction) (s : State) (m : Machine) → AreReduced layout mark rs ls → AreHeld rs s → Represents layout mark s m → Represents layout mark (started (Scan v) rs s) (begun_by (Scan v) ls m)
given_stands layout mark v small [] [] s m are held stands = stands
given_stands layout mark v small [] (l ∷ ls) s m are held stands = absurd are
given_stands layout mark v small (r ∷ rs) [] s m are held stands = absurd are
given_stands layout mark v small (r ∷ rs) (l ∷ ls) s m (op, at, rest) held stands =
    let some = some_value (look s r.0 []) (first_held r rs s held) in
    let here = held_in layout mark s m r.0 some.0 l.spot at stands some.1 in
    given_stands layout mark v small rs ls (given s r.0 (Some v)) (with_at l.spot v m) rest (λ x o is. given_lasts x s r.0 (Some v) (others_held r rs s held x o is)) (here.write v small)

pub started_stands : (layout : List Laid) (mark : ℕ) (start : Start) → IsWord start → (rs : List (Variable × ReduceOp)) (ls : List LoweredReduction) (s : State) (m : Machine) → AreReduced layout mark rs ls → AreHeld rs s → Represents layout mark s m
    → Represents layout mark (started start rs s) (begun_by start ls m)
started_stands layout mark Reduction word rs ls s m are held stands = begun_stands layout mark rs ls s m are held stands
started_stands layout mark (Scan v) word rs ls s m are held stands = given_stands layout mark v word rs ls s m are held stands
