-- What scalars hold where numbers are put where they stand.
use Rattle.std.specs.Prelude.{ℕ, zero, suc, Bool, true, false, ◌≡◌, ◌+◌, ◌<◌, ◌≤◌, ◌==◌, ◌||◌, List, [], ◌∷◌, length, map, slice_get, slice_index, slice_set, Option, Some, None, option_and_then}
use Rattle.std.proofs.Common.{refl, sym, ap, ◌∙◌, cond, subst, arith}
use Rattle.std.proofs.lemmas.Bool.{true≢false, eqb-true, eqb-false, or_parts}
use Rattle.std.proofs.lemmas.Option.{same_Some, none-some, get_or_from_slice_get}
use Rattle.semantics.specs.Tree.{Variable}
use Rattle.semantics.specs.Meaning.Agrees.{is_among}
use Rattle.semantics.specs.Loops.Operator.{ReduceOp, combined_all}
use Rattle.ktree.specs.DirectiveView
use Rattle.law_roles.specs.Updates.{operator_of}
use Rattle.law_roles.specs.Sharing.{are_different}
use Rattle.law_starts.proofs.Beginning.{first_apart, others_apart}
use Rattle.lower_code.specs.declared.laid.Laid.{Laid}
use Rattle.lower_machine.specs.Machine.{Machine}
use Rattle.lower_code.specs.Layout.{shapes_of, spot, cell_at}
use Rattle.lower_code.proofs.Spots.{apart}
use Rattle.lower_op.proofs.Stepping.{length_set, index_same, index_other}
use Rattle.lower.specs.declared.roles.Spot.{Spot}
use Rattle.lower.specs.declared.roles.Spot.TheVariants.{Register, Cell}
use Rattle.lower.specs.declared.roles.LoweredReduction.{LoweredReduction}
use Rattle.lower.specs.Roles.{StandsAt, StandEach, AreReduced}
use Rattle.overlay.specs.Spots.{held_at, with_at}
use Rattle.team_log.specs.Logged.{Leaving}
use Rattle.team_log.specs.Spots.{told_of, reduced, scanned, put_values}

get_same : (xs : List ℕ) (i v : ℕ) → i < length xs → slice_get (slice_set xs i v) i ≡ Some v
get_same [] i v lt = absurd (omega arith)
get_same (x ∷ xs) zero v lt = refl
get_same (x ∷ xs) (suc i) v lt = get_same xs i v (omega arith)

get_other : (xs : List ℕ) (i j v : ℕ) → (j ≡ i → ⊥) → slice_get (slice_set xs i v) j ≡ slice_get xs j
get_other [] i j v ne = refl
get_other (x ∷ xs) zero zero v ne = absurd (ne refl)
get_other (x ∷ xs) zero (suc j) v ne = refl
get_other (x ∷ xs) (suc i) zero v ne = refl
get_other (x ∷ xs) (suc i) (suc j) v ne = get_other xs i j v (λ e. ne (ap suc e))

-- one of a list stands somewhere in it
pub find_among : (xs : List Variable) (x : Variable) → is_among xs x ≡ true → (k : ℕ) × (slice_get xs k ≡ Some x)
find_among [] x h = absurd (true≢false (sym h))
find_among (y ∷ ys) x h = go (y == x) refl h (λ k. find_among ys x k)
  where
    go : (b : Bool) → (y == x) ≡ b → (b || is_among ys x) ≡ true → (is_among ys x ≡ true → (k : ℕ) × (slice_get ys k ≡ Some x)) → (k : ℕ) × (slice_get (y ∷ ys) k ≡ Some x)
    go true e f rest = (0, ap Some (eqb-true y x e))
    go false e f rest = let r = rest f in (suc r.0, r.1)

-- as many registers and cells
pub record AsLong (m m' : Machine) : Type 0 where
  pub registers : length m'.registers ≡ length m.registers
  pub cells : length m'.cells ≡ length m.cells

pub long_then : (a b c : Machine) → AsLong a b → AsLong b c → AsLong a c
long_then a b c f g = record { registers = g.registers ∙ f.registers; cells = g.cells ∙ f.cells }

with_long : (at : Spot) (v : ℕ) (m : Machine) → AsLong m (with_at at v m)
with_long (Register r) v m = record { registers = length_set m.registers r.0 v; cells = refl }
with_long (Cell place) v m = record { registers = refl; cells = length_set m.cells place v }

pub reduced_long : (index : ℕ) (ls : List LoweredReduction) (cs : List Leaving) (m : Machine) → AsLong m (reduced index ls cs m)
reduced_long index [] cs m = record { registers = refl; cells = refl }
reduced_long index (l ∷ ls) cs m =
    let value = combined_all (DirectiveView.operator_of l.operator) (held_at l.spot m) (told_of index cs) in
    long_then m (with_at l.spot value m) (reduced index (l ∷ ls) cs m) (with_long l.spot value m) (reduced_long (suc index) ls cs (with_at l.spot value m))

pub scanned_long : (ls : List LoweredReduction) (value : ℕ) (m : Machine) → AsLong m (scanned ls value m)
scanned_long [] value m = record { registers = refl; cells = refl }
scanned_long (l ∷ ls) value m = with_long l.spot value m

pub put_long : (spots : List Spot) (vs : List ℕ) (m : Machine) → AsLong m (put_values spots vs m)
put_long [] vs m = record { registers = refl; cells = refl }
put_long (at ∷ spots) [] m = record { registers = refl; cells = refl }
put_long (at ∷ spots) (v ∷ vs) m = long_then m (with_at at v m) (put_values (at ∷ spots) (v ∷ vs) m) (with_long at v m) (put_long spots vs (with_at at v m))

pub put_none : (spots : List Spot) (m : Machine) → put_values spots [] m ≡ m
put_none [] m = refl
put_none (at ∷ spots) m = refl

-- a scalar holds this number in a machine
pub record HoldsIn (layout : List Laid) (m : Machine) (x v : ℕ) : Type 0 where
  pub cell : x < length layout → cell_at (shapes_of layout) m.cells x [] ≡ Some v
  pub register : length layout ≤ x → slice_index m.registers x ≡ v

-- two machines hold the same of a variable
pub record SameIn (layout : List Laid) (m m' : Machine) (x : Variable) : Type 0 where
  pub cells : (is : List ℕ) → cell_at (shapes_of layout) m'.cells x is ≡ cell_at (shapes_of layout) m.cells x is
  pub register : slice_index m'.registers x ≡ slice_index m.registers x

-- a machine has room for it
pub record HasRoomFor (layout : List Laid) (mark : ℕ) (m : Machine) (x : Variable) : Type 0 where
  pub width : mark ≤ length m.registers
  pub place : (p : ℕ) → spot (shapes_of layout) x [] ≡ Some p → p < length m.cells

module _ (layout : List Laid) (mark : ℕ) where
  pub same_then : (a b c : Machine) (x : Variable) → SameIn layout a b x → SameIn layout b c x → SameIn layout a c x
  same_then a b c x f g = record { cells = λ is. g.cells is ∙ f.cells is; register = g.register ∙ f.register }

  pub holds_still : (m m' : Machine) (x v : ℕ) → SameIn layout m m' x → HoldsIn layout m x v → HoldsIn layout m' x v
  holds_still m m' x v same holds = record { cell = λ lt. same.cells [] ∙ holds.cell lt; register = λ le. same.register ∙ holds.register le }

  pub room_still : (m m' : Machine) (x : Variable) → AsLong m m' → HasRoomFor layout mark m x → HasRoomFor layout mark m' x
  room_still m m' x long room =
      let registers = long.registers in
      let cells = long.cells in
      let width = room.width in
      record { width = omega arith; place = λ p here. let lt = room.place p here in omega arith }

  -- another variable's spot
  others : (x y : Variable) (at : Spot) (v : ℕ) (m : Machine) → StandsAt layout mark y at → (y == x) ≡ false → SameIn layout m (with_at at v m) x
  others x y (Register r) v m (same, locals) ne = record { cells = λ is. refl; register = index_other m.registers r.0 x v (λ e. eqb-false y x ne (sym same ∙ sym e)) }
  others x y (Cell place) v m (lt, here) ne = record { cells = λ is. go is (spot (shapes_of layout) x is) refl; register = refl }
    where
      go : (is : List ℕ) (o : Option ℕ) → spot (shapes_of layout) x is ≡ o → option_and_then (λ k. slice_get (slice_set m.cells place v) k) o ≡ option_and_then (λ k. slice_get m.cells k) o
      go is None e = refl
      go is (Some j) e = get_other m.cells place j v (λ same. eqb-false y x ne (apart (shapes_of layout) y x [] is place here (e ∙ ap Some same)).0)

  -- its own
  own : (x : Variable) (at : Spot) (v : ℕ) (m : Machine) → HasRoomFor layout mark m x → StandsAt layout mark x at → HoldsIn layout (with_at at v m) x v
  own x (Register r) v m room (same, locals) =
      let least : length layout ≤ x = locals.0.0 in
      let most : x < mark = locals.0.1 in
      let width = room.width in
      let lt : r.0 < length m.registers = omega arith in
      record { cell = λ less. absurd (omega arith); register = λ le. sym (ap (slice_index (slice_set m.registers r.0 v)) same) ∙ index_same m.registers r.0 v lt }
  own x (Cell place) v m room (lt, here) =
      record {
        cell = λ less. ap (option_and_then (λ k. slice_get (slice_set m.cells place v) k)) here ∙ get_same m.cells place v (room.place place here);
        register = λ le. absurd (omega arith);
      }

  held : (x : Variable) (at : Spot) (v : ℕ) (m : Machine) → StandsAt layout mark x at → HoldsIn layout m x v → held_at at m ≡ v
  held x (Register r) v m (same, locals) holds = ap (slice_index m.registers) same ∙ holds.register locals.0.0
  held x (Cell place) v m (lt, here) holds = get_or_from_slice_get m.cells place v 0 (sym (ap (option_and_then (λ k. slice_get m.cells k)) here) ∙ holds.cell lt)

  -- lastprivate variables take values
  pub put_others : (xs : List Variable) (spots : List Spot) (vs : List ℕ) (m : Machine) (x : Variable) → StandEach layout mark xs spots → is_among xs x ≡ false → SameIn layout m (put_values spots vs m) x
  put_others [] [] vs m x stand h = record { cells = λ is. refl; register = refl }
  put_others [] (at ∷ spots) vs m x stand h = absurd stand
  put_others (y ∷ ys) [] vs m x stand h = absurd stand
  put_others (y ∷ ys) (at ∷ spots) [] m x stand h = record { cells = λ is. refl; register = refl }
  put_others (y ∷ ys) (at ∷ spots) (v ∷ vs) m x (here, rest) h =
      let parts = or_parts (y == x) (is_among ys x) h in
      same_then m (with_at at v m) (put_values spots vs (with_at at v m)) x (others x y at v m here parts.0) (put_others ys spots vs (with_at at v m) x rest parts.1)

  pub put_own : (xs : List Variable) (spots : List Spot) (vs : List ℕ) (m : Machine) (x v : ℕ) → StandEach layout mark xs spots → is_among xs x ≡ true
      → ((k : ℕ) → slice_get xs k ≡ Some x → slice_get vs k ≡ Some v) → HasRoomFor layout mark m x → HoldsIn layout (put_values spots vs m) x v
  put_own [] spots vs m x v stand h tells room = absurd (true≢false (sym h))
  put_own (y ∷ ys) [] vs m x v stand h tells room = absurd stand
  put_own (y ∷ ys) (at ∷ spots) [] m x v stand h tells room = let found = find_among (y ∷ ys) x h in absurd (none-some v (tells found.0 found.1))
  put_own (y ∷ ys) (at ∷ spots) (w ∷ vs) m x v (here, rest) h tells room =
      go (is_among ys x) refl (y == x) refl h (λ e. put_own ys spots vs (with_at at w m) x v rest e (λ k there. tells (suc k) there) (room_still m (with_at at w m) x (with_long at w m) room))
    where
      go : (b : Bool) → is_among ys x ≡ b → (a : Bool) → (y == x) ≡ a → (a || b) ≡ true → (is_among ys x ≡ true → HoldsIn layout (put_values spots vs (with_at at w m)) x v) → HoldsIn layout (put_values spots vs (with_at at w m)) x v
      go true e a f k later = later e
      go false e true f k later =
          let is : w ≡ v = same_Some w v (tells 0 (ap Some (eqb-true y x f))) in
          let first = own x at w m room (subst (λ z. StandsAt layout mark z at) (eqb-true y x f) here) in
          subst (HoldsIn layout (put_values spots vs (with_at at w m)) x) is (holds_still (with_at at w m) (put_values spots vs (with_at at w m)) x w (put_others ys spots vs (with_at at w m) x rest e) first)
      go false e false f k later = absurd (true≢false (sym k))

  -- a scan's variable takes a value
  pub scanned_own : (x : Variable) (op : ReduceOp) (value : ℕ) (ls : List LoweredReduction) (m : Machine) → HasRoomFor layout mark m x → AreReduced layout mark ((x, op) ∷ []) ls → HoldsIn layout (scanned ls value m) x value
  scanned_own x op value [] m room are = absurd are
  scanned_own x op value (l ∷ ls) m room (is, at, rest) = own x l.spot value m room at

  pub scanned_others : (rs : List (Variable × ReduceOp)) (ls : List LoweredReduction) (value : ℕ) (m : Machine) (x : Variable) → AreReduced layout mark rs ls → is_among (map (λ r. r.0) rs) x ≡ false → SameIn layout m (scanned ls value m) x
  scanned_others [] [] value m x are h = record { cells = λ is. refl; register = refl }
  scanned_others [] (l ∷ ls) value m x are h = absurd are
  scanned_others (r ∷ rs) [] value m x are h = absurd are
  scanned_others (r ∷ rs) (l ∷ ls) value m x (op, at, rest) h = others x r.0 l.spot value m at (or_parts (r.0 == x) (is_among (map (λ q. q.0) rs) x) h).0

  -- reduction variables take what they held combined with what chunks tell
  module _ (cs : List Leaving) where
    pub reduced_others : (index : ℕ) (rs : List (Variable × ReduceOp)) (ls : List LoweredReduction) (m : Machine) (x : Variable) → AreReduced layout mark rs ls → is_among (map (λ r. r.0) rs) x ≡ false → SameIn layout m (reduced index ls cs m) x
    reduced_others index [] [] m x are h = record { cells = λ is. refl; register = refl }
    reduced_others index [] (l ∷ ls) m x are h = absurd are
    reduced_others index (r ∷ rs) [] m x are h = absurd are
    reduced_others index (r ∷ rs) (l ∷ ls) m x (op, at, rest) h =
        let parts = or_parts (r.0 == x) (is_among (map (λ q. q.0) rs) x) h in
        let value = combined_all (DirectiveView.operator_of l.operator) (held_at l.spot m) (told_of index cs) in
        same_then m (with_at l.spot value m) (reduced index (l ∷ ls) cs m) x (others x r.0 l.spot value m at parts.0) (reduced_others (suc index) rs ls (with_at l.spot value m) x rest parts.1)

    -- the variable of an index does
    pub record IsReducedTo (index : ℕ) (rs : List (Variable × ReduceOp)) (m : Machine) (x : Variable) (op : ReduceOp) (v : ℕ) : Type 0 where
      pub number : ℕ
      pub there : slice_get rs number ≡ Some (x, op)
      pub holds : HoldsIn layout m x (combined_all op v (told_of (index + number) cs))

    pub reduced_own : (index : ℕ) (rs : List (Variable × ReduceOp)) (ls : List LoweredReduction) (m : Machine) (x : Variable) (op : ReduceOp) (v : ℕ) → AreReduced layout mark rs ls
        → are_different (map (λ r. r.0) rs) ≡ true → operator_of rs x ≡ Some op → HasRoomFor layout mark m x → HoldsIn layout m x v → IsReducedTo index rs (reduced index ls cs m) x op v
    reduced_own index [] ls m x op v are different known room holds = absurd (none-some op known)
    reduced_own index (r ∷ rs) [] m x op v are different known room holds = absurd are
    reduced_own index (r ∷ rs) (l ∷ ls) m x op v (is, at, rest) different known room holds =
        go (r.0 == x) refl known (λ same k.
        reduced_own (suc index) rs ls (with_at l.spot value m) x op v rest (others_apart r rs different) k (room_still m (with_at l.spot value m) x (with_long l.spot value m) room) (holds_still m (with_at l.spot value m) x v same holds))
      where
        value : ℕ
        value = combined_all (DirectiveView.operator_of l.operator) (held_at l.spot m) (told_of index cs)

        m1 : Machine
        m1 = with_at l.spot value m

        go : (b : Bool) → (r.0 == x) ≡ b → cond b (Some r.1) (operator_of rs x) ≡ Some op
            → (SameIn layout m m1 x → operator_of rs x ≡ Some op → IsReducedTo (suc index) rs (reduced (suc index) ls cs m1) x op v)
            → IsReducedTo index (r ∷ rs) (reduced (suc index) ls cs m1) x op v
        go true e k later =
            let x_is : r.0 ≡ x = eqb-true r.0 x e in
            let op_is : r.1 ≡ op = same_Some r.1 op k in
            let here : StandsAt layout mark x l.spot = subst (λ z. StandsAt layout mark z l.spot) x_is at in
            let value_is : value ≡ combined_all op v (told_of (index + 0) cs) =
            (λ i. combined_all ((is ∙ op_is) i) (held x l.spot v m here holds i) (told_of index cs)) ∙ ap (λ n. combined_all op v (told_of n cs)) (let z : index ≡ index + 0 = omega arith in z) in
            let untouched : is_among (map (λ q. q.0) rs) x ≡ false = subst (λ z. is_among (map (λ q. q.0) rs) z ≡ false) x_is (first_apart r rs different) in
            record {
              number = 0;
              there = λ i. Some (x_is i, op_is i);
              holds = subst (HoldsIn layout (reduced (suc index) ls cs m1) x) value_is (holds_still m1 (reduced (suc index) ls cs m1) x value (reduced_others (suc index) rs ls m1 x rest untouched) (own x l.spot value m room here));
            }
        go false e k later =
            let far = later (others x r.0 l.spot value m at e) k in
            record {
              number = suc far.number;
              there = far.there;
              holds = subst (λ n. HoldsIn layout (reduced (suc index) ls cs m1) x (combined_all op v (told_of n cs))) (let z : suc index + far.number ≡ index + suc far.number = omega arith in z) far.holds;
            }
