-- What all chunks leave, put together.
use Rattle.std.specs.Prelude.{ℕ, zero, suc, Bool, true, false, ◌≡◌, ◌+◌, ◌*◌, ◌<◌, ◌≤◌, ◌==◌, ◌||◌, ◌&&◌, ◌⊎◌, nat_lt, is_none, List, [], ◌∷◌, ◌++◌, length, map, flat_map, take, drop, slice_get, slice_index, All, Option, Some, None, option_map, option_and_then}
use Rattle.std.specs.List.{list_all}
use Rattle.std.proofs.Common.{refl, sym, ap, ◌∙◌, cond, subst, inl, inr, arith}
use Rattle.std.proofs.lemmas.Bool.Decides.{nat_tests}
use Rattle.std.proofs.lemmas.Bool.{true≢false, eqb-true, eq-eqb, or_parts}
use Rattle.std.proofs.lemmas.List.{length-map, length-append, length-take, length-drop}
use Rattle.std.proofs.lemmas.List.Folds.{list_any-append}
use Rattle.std.proofs.lemmas.List.Elements.{All-head, All-tail}
use Rattle.std.proofs.lemmas.Option.{none-some, same_Some, slice_get-map, slice_get_within, slice_get_past, get_or_from_slice_get}
use Rattle.std.proofs.lemmas.List.Concat.{flat_map-cons}
use Rattle.semantics.specs.Tree.{Variable, Stmt}
use Rattle.semantics.specs.Meaning.Agrees.{is_among}
use Rattle.semantics.specs.Meaning.Places.{size, place}
use Rattle.semantics.specs.Meaning.State.{State, Slot, Outside, Empty, Holds, look, look_in, overwritten}
use Rattle.semantics.specs.Meaning.Runs.{Effect}
use Rattle.semantics.specs.Loops.Arrangement.{EachOnceBelow, times, once, once_below, picked, with_found}
use Rattle.semantics.specs.Loops.Chunk.{Chunk, Kind, cut}
use Rattle.semantics.specs.Loops.Joined.{chunked, value_at}
use Rattle.semantics.specs.Loops.Nest.{Loop, Vector}
use Rattle.semantics.specs.Loops.Operator.{ReduceOp, combined_all}
use Rattle.semantics.specs.Loops.Piece.{Roles}
use Rattle.nest_space.specs.Space.{vectors}
use Rattle.law_nests.specs.Merging.{NoneChanges, left_by}
use Rattle.law_roles.specs.Updates.{operator_of, is_plain}
use Rattle.law_roles.specs.Reducing.{AreHeld}
use Rattle.law_roles.specs.Sharing.{MergesAt, last_filled, or_filled, changed_from}
use Rattle.law_starts.specs.Begun.{begun, told_apart}
use Rattle.law_starts.proofs.Beginning.{begun_cells}
use Rattle.reduce.specs.Partial.{partial_of}
use Rattle.store.specs.Kept.{Kept}
use Rattle.store.specs.Flat.{AreFilled, values_of}
use Rattle.lower_code.specs.declared.laid.Laid.{Laid}
use Rattle.lower_code.specs.Layout.{first_of, shapes_of, spot, cell_at}
use Rattle.lower_machine.specs.Machine.{Machine, machine}
use Rattle.lower_code.proofs.Spots.{lies, place_below}
use Rattle.lower_code.proofs.Values.{no_object}
use Rattle.overlay_pages.specs.Over.{writes_of, written_over}
use Rattle.overlay_pages.proofs.Overlays.{length_over}
use Rattle.overlay.specs.declared.worker.Piece.{Piece}
use Rattle.overlay.specs.Chunks.{LeavesPiece}
use Rattle.lower.specs.declared.lowered.LoweredLoop.{LoweredLoop}
use Rattle.lower.specs.Lowered.{IsReached}
use Rattle.team_log.specs.Applied.{NoneWrites, OneWrites, AreApplied}
use Rattle.team_log.proofs.Applying.{get_none, get_some}
use Rattle.team_worker.specs.Ends.{IsCut, IsLeaving, AreAll, AreOfLoop}
use Rattle.team_log.specs.Logged.{Leaving, Account}
use Rattle.team_log.specs.Printed.{text_in_order}
use Rattle.team_log.specs.Spots.{told_of, reduced, scanned, put_values, IsPutBy, IsPut}
use Rattle.team_worker.specs.declared.pass.Pass.{Pass}
use Rattle.team_worker.specs.declared.pass.Pass.TheVariants.{Plain}
use Rattle.team_worker.specs.Starts.{taken_in, TellsOf, started_in, HaveRuns}
use Rattle.lower.specs.Roles.{AreReduced}
use Rattle.team.specs.Together.{HoldsAt, PutTogether, PutScan, LeavesTogether}
use Rattle.team_worker.proofs.Cutting.{chunk_within, each_filled, one_below}
use Rattle.team.proofs.Effects.{all_at, have_same}
use Rattle.team_worker.proofs.Taking.{leaves_taken}
use Rattle.team.proofs.Texts.{printed}
use Rattle.team_log.proofs.Standing.{HoldsIn, SameIn, HasRoomFor, AsLong, scanned_own, reduced_long, put_long, put_none, same_then, holds_still, room_still, put_others, put_own, reduced_others, reduced_own}

-- changes of a number that stands in the list
pub record Found (cs : List Leaving) (n : ℕ) : Type 0 where
  pub index : ℕ
  pub chunk : Leaving
  pub there : slice_get cs index ≡ Some chunk
  pub number : chunk.number ≡ n

further : (c : Leaving) (cs : List Leaving) (n : ℕ) → Found cs n → Found (c ∷ cs) n
further c cs n f = record { index = suc f.index; chunk = f.chunk; there = f.there; number = f.number }

pub find : (cs : List Leaving) (n : ℕ) → 0 < times n (map (λ (c : Leaving). c.number) cs) → Found cs n
find [] n some = absurd (omega arith)
find (c ∷ cs) n some = go (c.number == n) refl (λ more. find cs n more)
  where
    go : (b : Bool) → (c.number == n) ≡ b → (0 < times n (map (λ (k : Leaving). k.number) cs) → Found cs n) → Found (c ∷ cs) n
    go true e rest = record { index = 0; chunk = c; there = refl; number = eqb-true c.number n e }
    go false e rest = let none : once n c.number ≡ 0 = grind (arith, nat_tests) in further c cs n (rest (omega arith))

-- ---- the last chunk

-- each chunk has an iteration
abbrev Full : List (List Vector) → Type 0
Full chunks = (k : ℕ) (us : List Vector) → slice_get chunks k ≡ Some us → us ≡ [] → ⊥

full_rest : (us : List Vector) (chunks : List (List Vector)) → Full (us ∷ chunks) → Full chunks
full_rest us chunks full k vs there none = full (suc k) vs there none

record HasLast (chunks : List (List Vector)) (es : List Effect) : Type 0 where
  number : ℕ
  effect : Effect
  last : number + 1 ≡ length es
  there : slice_get es number ≡ Some effect
  is : last_filled chunks es ≡ Some effect

filled_first : (us : List Vector) (e : Effect) → (us ≡ [] → ⊥) → or_filled us e None ≡ Some e
filled_first [] e full = absurd (full refl)
filled_first (u ∷ us) e full = refl

filled_later : (us : List Vector) (e f : Effect) → or_filled us e (Some f) ≡ Some f
filled_later [] e f = refl
filled_later (u ∷ us) e f = refl

has_last : (us : List Vector) (chunks : List (List Vector)) (es : List Effect) → Full (us ∷ chunks) → length es ≡ length (us ∷ chunks) → HasLast (us ∷ chunks) es
has_last us chunks [] full long = absurd (omega arith)
has_last us [] (e ∷ []) full long = record { number = 0; effect = e; last = refl; there = refl; is = filled_first us e (full 0 us refl) }
has_last us [] (e ∷ f ∷ es) full long = absurd (omega arith)
has_last us (vs ∷ chunks) (e ∷ es) full long =
    let r = has_last vs chunks es (full_rest us (vs ∷ chunks) full) (omega arith) in
    let last = r.last in
    record { number = suc r.number; effect = r.effect; last = omega arith; there = r.there; is = ap (or_filled us e) r.is ∙ filled_later us e r.effect }

-- the effect of the last chunk with an iteration is the last one
last_is : (chunks : List (List Vector)) (es : List Effect) (f : Effect) → Full chunks → length es ≡ length chunks → last_filled chunks es ≡ Some f
    → (number : ℕ) × (number + 1 ≡ length es) × (slice_get es number ≡ Some f)
last_is [] es f full long is = absurd (none-some f is)
last_is (us ∷ chunks) es f full long is =
    let r = has_last us chunks es full long in
    (r.number, r.last, r.there ∙ sym r.is ∙ is)

no_chunks : (chunks : List (List Vector)) → Full chunks → flat_map (λ us. us) chunks ≡ [] → length chunks ≡ 0
no_chunks [] full none = refl
no_chunks ([] ∷ chunks) full none = absurd (full 0 [] refl refl)
no_chunks ((u ∷ us) ∷ chunks) full none = absurd cc

filled_chunk : (n f : ℕ) (us : List Vector) → 0 < n → f + n ≤ length us → take n (drop f us) ≡ [] → ⊥
filled_chunk n f us some within none =
    let long : length (take n (drop f us)) ≡ 0 = ap (λ (l : List Vector). length l) none in
    omega (arith, length-take n (drop f us), length-drop f us)

all_full : (us : List Vector) (chunks : List Chunk) → IsCut (length us) chunks → Full (chunked us chunks)
all_full us chunks cut_is k vs there none = go (slice_get chunks k) refl
  where
    iterations_of : Chunk → List Vector
    iterations_of c = take c.count (drop c.first us)

    go : (o : Option Chunk) → slice_get chunks k ≡ o → ⊥
    go None e = none-some vs (sym (slice_get-map iterations_of chunks k ∙ ap (option_map iterations_of) e) ∙ there)
    go (Some c) e =
        let same : iterations_of c ≡ vs = same_Some (iterations_of c) vs (sym (slice_get-map iterations_of chunks k ∙ ap (option_map iterations_of) e) ∙ there) in
        filled_chunk c.count c.first us (each_filled k chunks c cut_is.filled e) (chunk_within (length us) k chunks c cut_is e) (same ∙ none)

-- ---- variables with a role

-- one that is reduced is among none that are plain
plain_apart : (rs : List (Variable × ReduceOp)) (xs : List Variable) (x : Variable) (op : ReduceOp) → list_all (is_plain rs) xs ≡ true → operator_of rs x ≡ Some op → is_among xs x ≡ false
plain_apart rs [] x op plain known = refl
plain_apart rs (y ∷ ys) x op plain known = go (is_plain rs y) refl plain (y == x) refl (λ k. plain_apart rs ys x op k known)
  where
    go : (p : Bool) → is_plain rs y ≡ p → (p && list_all (is_plain rs) ys) ≡ true → (b : Bool) → (y == x) ≡ b → (list_all (is_plain rs) ys ≡ true → is_among ys x ≡ false) → (b || is_among ys x) ≡ false
    go false f k b e rest = absurd (true≢false (sym k))
    go true f k true e rest = absurd (true≢false (sym f ∙ ap (is_plain rs) (eqb-true y x e) ∙ ap (λ o. is_none o) known))
    go true f k false e rest = rest k

among_plain : (rs : List (Variable × ReduceOp)) (xs : List Variable) (x : Variable) → list_all (is_plain rs) xs ≡ true → is_among xs x ≡ true → is_plain rs x ≡ true
among_plain rs [] x plain h = absurd (true≢false (sym h))
among_plain rs (y ∷ ys) x plain h = go (is_plain rs y) refl plain (y == x) refl h (λ k f. among_plain rs ys x k f)
  where
    go : (p : Bool) → is_plain rs y ≡ p → (p && list_all (is_plain rs) ys) ≡ true → (b : Bool) → (y == x) ≡ b → (b || is_among ys x) ≡ true → (list_all (is_plain rs) ys ≡ true → is_among ys x ≡ true → is_plain rs x ≡ true) → is_plain rs x ≡ true
    go false f k b e h rest = absurd (true≢false (sym k))
    go true f k true e h rest = ap (is_plain rs) (sym (eqb-true y x e)) ∙ f
    go true f k false e h rest = rest k h

plain_other : (rs : List (Variable × ReduceOp)) (x : Variable) → is_plain rs x ≡ true → is_among (map (λ r. r.0) rs) x ≡ false
plain_other [] x h = refl
plain_other (r ∷ rs) x h = go (r.0 == x) refl h (λ k. plain_other rs x k)
  where
    go : (b : Bool) → (r.0 == x) ≡ b → is_none (cond b (Some r.1) (operator_of rs x)) ≡ true → (is_plain rs x ≡ true → is_among (map (λ q. q.0) rs) x ≡ false) → (b || is_among (map (λ q. q.0) rs) x) ≡ false
    go true e k rest = absurd (true≢false (sym k))
    go false e k rest = rest k

known_among : (rs : List (Variable × ReduceOp)) (x : Variable) (op : ReduceOp) → operator_of rs x ≡ Some op → is_among (map (λ r. r.0) rs) x ≡ true
known_among [] x op known = absurd (none-some op known)
known_among (r ∷ rs) x op known = go (r.0 == x) refl known (λ k. known_among rs x op k)
  where
    go : (b : Bool) → (r.0 == x) ≡ b → cond b (Some r.1) (operator_of rs x) ≡ Some op → (operator_of rs x ≡ Some op → is_among (map (λ q. q.0) rs) x ≡ true) → (b || is_among (map (λ q. q.0) rs) x) ≡ true
    go true e k rest = refl
    go false e k rest = rest k

or_right : (a b : Bool) → b ≡ true → (a || b) ≡ true
or_right true b e = refl
or_right false b e = e

or_left : (a b : Bool) → a ≡ true → (a || b) ≡ true
or_left true b e = refl
or_left false b e = absurd (true≢false (sym e))

-- ---- room

-- a variable's cells are among those of all
cells_within : (ks : List Kept) → AreFilled ks → (x : ℕ) (ns : List ℕ) → slice_get (map (λ (k : Kept). k.lengths) ks) x ≡ Some ns → first_of (map (λ (k : Kept). k.lengths) ks) x + size ns ≤ length (values_of ks)
cells_within [] all x ns e = absurd (none-some ns e)
cells_within (k ∷ ks) (here, all) zero ns e =
    let same : k.lengths ≡ ns = same_Some k.lengths ns e in
    let sizes = ap size same in
    let long : length (values_of (k ∷ ks)) ≡ length k.values + length (values_of ks) = ap (λ (l : List ℕ). length l) (flat_map-cons (λ (j : Kept). j.values) k ks) ∙ length-append k.values (values_of ks) in
    omega arith
cells_within (k ∷ ks) (here, all) (suc x) ns e =
    let rest = cells_within ks all x ns e in
    let long : length (values_of (k ∷ ks)) ≡ length k.values + length (values_of ks) = ap (λ (l : List ℕ). length l) (flat_map-cons (λ (j : Kept). j.values) k ks) ∙ length-append k.values (values_of ks) in
    omega arith

spot_within : (ks : List Kept) (shapes : List (List ℕ)) (x p : ℕ) → AreFilled ks → map (λ (k : Kept). k.lengths) ks ≡ shapes → spot shapes x [] ≡ Some p → p < length (values_of ks)
spot_within ks shapes x p all shape here =
    let l = lies shapes x [] p here in
    let all_within = subst (λ (ss : List (List ℕ)). slice_get ss x ≡ Some l.lengths → first_of ss x + size l.lengths ≤ length (values_of ks)) shape (cells_within ks all x l.lengths) l.there in
    let inside : place l.lengths [] < 1 * size l.lengths = place_below 0 l.lengths [] l.inside in
    let at : p ≡ first_of shapes x + place l.lengths [] = l.at in
    omega arith

-- the lengths of the registers
pub long_by : (reducing : Machine → Machine) (l : LoweredLoop) (account : Account) (registers registers' : List ℕ) (ks ks' : List Kept) → ((m : Machine) → AsLong m (reducing m)) → IsPutBy reducing l.roles account registers registers' ks ks'
    → length registers' ≡ length registers
long_by reducing l account registers registers' ks ks' long put =
    let m0 = machine registers put.cells in
    let m1 = reducing m0 in
    ap (λ (m : Machine). length m.registers) put.put ∙ (put_long l.roles.lasts.items account.lasts m1).registers ∙ (long m0).registers

pub long_after : (l : LoweredLoop) (account : Account) (registers registers' : List ℕ) (ks ks' : List Kept) → IsPut l.roles account registers registers' ks ks' → length registers' ≡ length registers
long_after l account registers registers' ks ks' put = long_by (reduced 0 l.roles.reductions.items account.chunks) l account registers registers' ks ks' (reduced_long 0 l.roles.reductions.items account.chunks) put

-- how a chunk's effect from its start looks from a common state
pub record IsAlike (base start : State) (e : Effect) (x : Variable) : Type 0 where
  pub cells : (is : List ℕ) → left_by start e x is ≡ left_by base e x is
  pub looks : look (overwritten start e.writes) x [] ≡ look (overwritten base e.writes) x []

-- the effect of a chunk, by what it leaves
pub record Leaves (layout : List Laid) (roles : Roles) (outer : State) (ks : List Kept) (start : ℕ → State) (effects : List Effect) (c : Leaving) : Type 0 where
  pub effect : Effect
  pub among : slice_get effects c.number ≡ Some effect
  pub piece : Piece
  pub changes_are : c.changes ≡ piece.changes
  pub partials_are : c.partials ≡ map partial_of piece.partials.items
  pub leave : LeavesPiece layout roles outer (start c.number) ks effect piece

module _ (layout : List Laid) (mark : ℕ) (roles : Roles) (loops : List Loop) (body : Stmt) (outer : State) (us : List Vector) (effects : List Effect) (pass : Pass) where
  abbrev start : ℕ → State
  start = started_in pass roles outer

  module _ (l : LoweredLoop) (registers : List ℕ) (ks : List Kept) (chunks : List Chunk) (account : Account) where
    module _ (reached : IsReached layout mark roles loops body outer us l registers ks) (ran : HaveRuns loops body start (chunked (taken_in pass us) chunks) effects) where
      pub leaves_of : (c : Leaving) → IsLeaving l registers ks pass chunks c → Leaves layout roles outer ks start effects c
      leaves_of c is =
          let iterations_of : Chunk → List Vector = λ d. take d.count (drop d.first (taken_in pass us)) in
          let there : slice_get (chunked (taken_in pass us) chunks) c.number ≡ Some (iterations_of is.chunk) = slice_get-map iterations_of chunks c.number ∙ ap (option_map iterations_of) is.there in
          let own = ran.each c.number (iterations_of is.chunk) there in
          record {
            effect = own.0;
            among = own.1;
            piece = is.piece;
            changes_are = is.changes_are;
            partials_are = is.partials_are;
            leave = leaves_taken l registers ks pass chunks c is layout mark roles loops body outer us own.0 reached own.2;
          }

      -- what it tells of the reduction variable of an index
      pub tells_of : (x : Variable) (op : ReduceOp) (index : ℕ) → slice_get roles.reductions index ≡ Some (x, op) → (c : Leaving) (own : Leaves layout roles outer ks start effects c) → AreHeld roles.reductions (overwritten (start c.number) own.effect.writes)
          → value_at index c.partials ≡ changed_from (start c.number) own.effect x
      tells_of x op index there c own holds =
          let changed : Variable × ReduceOp → Option ℕ = λ r. changed_from (start c.number) own.effect r.0 in
          ap (value_at index) (own.partials_are ∙ own.leave.partials holds) ∙ ap (option_and_then (λ o. o)) (slice_get-map changed roles.reductions index ∙ ap (option_map changed) there)

    module _ (registers' : List ℕ) (ks' : List Kept) (reached : IsReached layout mark roles loops body outer us l registers ks) (ran : HaveRuns loops body start (chunked (taken_in pass us) chunks) effects) (filled : AreFilled ks) (cut_is : IsCut (length (taken_in pass us)) chunks)
        (all : AreAll l registers ks pass chunks account) (of : TellsOf pass roles) (base : State) (alike : (number : ℕ) (e : Effect) (x : Variable) → is_among (map (λ r. r.0) roles.reductions) x ≡ false → IsAlike base (start number) e x)
        (base_is : (x : Variable) (is : List ℕ) → is_among (map (λ r. r.0) roles.reductions) x ≡ false → base.cells x is ≡ outer.cells x is) (reducing : Machine → Machine) (put : IsPutBy reducing l.roles account registers registers' ks ks')
        (as_long : (m : Machine) → AsLong m (reducing m)) (leaves_others : (m : Machine) (x : Variable) → is_among (map (λ r. r.0) roles.reductions) x ≡ false → SameIn layout m (reducing m) x) where
      abbrev cs : List Leaving
      cs = account.chunks

      abbrev applied : AreApplied (values_of ks) put.cells cs
      applied = put.applied

      abbrev Known : Leaving → Type 0
      Known c = Leaves layout roles outer ks start effects c

      leaves : (c : Leaving) → IsLeaving l registers ks pass chunks c → Known c
      leaves c is = leaves_of reached ran c is

      not_reduced : (x : Variable) → is_among (told_apart roles) x ≡ false → is_among (map (λ r. r.0) roles.reductions) x ≡ false
      not_reduced x plain = (or_parts (is_among roles.lasts x) (is_among (map (λ r. r.0) roles.reductions) x) (sym (list_any-append (λ y. y == x) roles.lasts (map (λ r. r.0) roles.reductions)) ∙ plain)).1

      abbrev iterations_of : Chunk → List Vector
      iterations_of c = take c.count (drop c.first (taken_in pass us))

      abbrev held : List ℕ → Variable → List ℕ → Option ℕ
      held cells x is = cell_at (shapes_of layout) cells x is

      before_is : (x : Variable) (is : List ℕ) → outer.cells x is ≡ held (values_of ks) x is
      before_is x is = reached.stand.machine.cell x is

      many : length effects ≡ length chunks
      many = ran.count ∙ length-map chunks iterations_of

      many_chunks : length (chunked (taken_in pass us) chunks) ≡ length chunks
      many_chunks = length-map chunks iterations_of

      -- its changes
      over : (c : Leaving) (own : Known c) (x : Variable) (is : List ℕ) → held (written_over (writes_of c.changes) (values_of ks)) x is ≡ held (written_over (writes_of own.piece.changes) (values_of ks)) x is
      over c own x is = ap (λ ws. held (written_over (writes_of ws) (values_of ks)) x is) own.changes_are

      -- ---- variables that are told apart are as before in the cells with all changes

      abbrev IsKept : Variable → List ℕ → Type 0
      IsKept x is = held put.cells x is ≡ held (values_of ks) x is

      keeps : (x : Variable) (is : List ℕ) → is_among (told_apart roles) x ≡ true → IsKept x is
      keeps x is apart = go (spot (shapes_of layout) x is) refl
        where
          none : spot (shapes_of layout) x is ≡ None → IsKept x is
          none e = let no_cell : (cells : List ℕ) → held cells x is ≡ None = λ cells. ap (option_and_then (λ k. slice_get cells k)) e in no_cell put.cells ∙ sym (no_cell (values_of ks))

          at : (p : ℕ) → spot (shapes_of layout) x is ≡ Some p → (NoneWrites cs p × (slice_get put.cells p ≡ slice_get (values_of ks) p)) ⊎ OneWrites cs put.cells p → IsKept x is
          at p e (inl (no_writes, same)) =
              let cell : (cells : List ℕ) → held cells x is ≡ slice_get cells p = λ cells. ap (option_and_then (λ k. slice_get cells k)) e in
              cell put.cells ∙ same ∙ sym (cell (values_of ks))
          at p e (inr one) =
              let cell : (cells : List ℕ) → held cells x is ≡ slice_get cells p = λ cells. ap (option_and_then (λ k. slice_get cells k)) e in
              let c = one.chunk in
              let is_leaving : IsLeaving l registers ks pass chunks c = all_at (IsLeaving l registers ks pass chunks) cs one.number c all.account.each one.among in
              let own = leaves c is_leaving in
              let only = is_leaving.only p one.value one.writes in
              let now : slice_get (values_of ks) p ≡ Some one.value =
              sym (cell (values_of ks)) ∙ sym (before_is x is) ∙ sym (own.leave.unchanged x is apart) ∙ sym (over c own x is) ∙ cell (written_over (writes_of c.changes) (values_of ks)) ∙ get_some (writes_of c.changes) (values_of ks) p one.value only.0 one.writes in
              absurd (only.1 (get_or_from_slice_get (values_of ks) p one.value 0 now))

          present : (p : ℕ) → spot (shapes_of layout) x is ≡ Some p → (b : Bool) → nat_lt p (length (values_of ks)) ≡ b → IsKept x is
          present p e true f = let lt : p < length (values_of ks) = grind (arith, nat_tests) in at p e (applied.each p lt)
          present p e false f =
              let le : length (values_of ks) ≤ p = grind (arith, nat_tests) in
              let long = applied.long in
              let cell : (cells : List ℕ) → held cells x is ≡ slice_get cells p = λ cells. ap (option_and_then (λ k. slice_get cells k)) e in
              cell put.cells ∙ slice_get_past put.cells p (omega arith) ∙ sym (cell (values_of ks) ∙ slice_get_past (values_of ks) p le)

          go : (o : Option ℕ) → spot (shapes_of layout) x is ≡ o → IsKept x is
          go None e = none e
          go (Some p) e = present p e (nat_lt p (length (values_of ks))) refl

      -- ---- all other objects

      module _ (x : Variable) (plain : is_among (told_apart roles) x ≡ false) where
        begins : (is : List ℕ) → base.cells x is ≡ held (values_of ks) x is
        begins is = base_is x is (not_reduced x plain) ∙ before_is x is

        -- what a chunk's changes leave
        leaves_at : (c : Leaving) (own : Known c) (is : List ℕ) → held (written_over (writes_of c.changes) (values_of ks)) x is ≡ left_by base own.effect x is
        leaves_at c own is = over c own x is ∙ own.leave.changes x is plain ∙ (alike c.number own.effect x (not_reduced x plain)).cells is

        -- what changes leave the chunk of an effect
        record Left (e : Effect) (is : List ℕ) : Type 0 where
          index : ℕ
          chunk : Leaving
          there : slice_get cs index ≡ Some chunk
          leave : held (written_over (writes_of chunk.changes) (values_of ks)) x is ≡ left_by base e x is

        same_effect : (c : Leaving) (own : Known c) (k : ℕ) (e : Effect) → c.number ≡ k → slice_get effects k ≡ Some e → own.effect ≡ e
        same_effect c own k e is there = same_Some own.effect e (sym own.among ∙ ap (slice_get effects) is ∙ there)

        left_by_own : (e : Effect) (is : List ℕ) (index : ℕ) (c : Leaving) → slice_get cs index ≡ Some c → (own : Known c) → own.effect ≡ e → Left e is
        left_by_own e is index c there own same = record { index = index; chunk = c; there = there; leave = leaves_at c own is ∙ ap (λ (z : Effect). left_by base z x is) same }

        left : (k : ℕ) (e : Effect) (is : List ℕ) → slice_get effects k ≡ Some e → Left e is
        left k e is there =
            let within : k < length effects = slice_get_within effects k e there in
            let long = many in
            let times_is : times k (map (λ (c : Leaving). c.number) cs) ≡ once_below k (length chunks) = ap (times k) all.account.numbers_are ∙ all.once k in
            let one : once_below k (length chunks) ≡ 1 = one_below k (length chunks) (omega arith) in
            let f = find cs k (omega arith) in
            let own = leaves f.chunk (all_at (IsLeaving l registers ks pass chunks) cs f.index f.chunk all.account.each f.there) in
            left_by_own e is f.index f.chunk f.there own (same_effect f.chunk own k e f.number there)

        -- where no changes alter a cell, no effect changes its object
        none_changes : (is : List ℕ) → ((k : ℕ) (c : Leaving) → slice_get cs k ≡ Some c → held (written_over (writes_of c.changes) (values_of ks)) x is ≡ held (values_of ks) x is)
            → NoneChanges base effects x is
        none_changes is same k e there =
            let own = left k e is there in
            sym own.leave ∙ same own.index own.chunk own.there ∙ sym (begins is)

        abbrev after : Variable → List ℕ → Option ℕ
        after y is = held put.cells y is

        abbrev Merged : List ℕ → Type 0
        Merged is = MergesAt base effects after x is

        absent : (is : List ℕ) → spot (shapes_of layout) x is ≡ None → Merged is
        absent is e =
            let no_cell : (cells : List ℕ) → held cells x is ≡ None = λ cells. ap (option_and_then (λ k. slice_get cells k)) e in
            inl (none_changes is (λ k c there. no_cell (written_over (writes_of c.changes) (values_of ks)) ∙ sym (no_cell (values_of ks))), no_cell put.cells ∙ sym (no_cell (values_of ks)) ∙ sym (begins is))

        module _ (is : List ℕ) (p : ℕ) (here : spot (shapes_of layout) x is ≡ Some p) where
          cell : (cells : List ℕ) → held cells x is ≡ slice_get cells p
          cell cells = ap (option_and_then (λ k. slice_get cells k)) here

          beyond : length (values_of ks) ≤ p → Merged is
          beyond le =
              let past : (cells : List ℕ) → length cells ≡ length (values_of ks) → held cells x is ≡ None = λ cells long. cell cells ∙ slice_get_past cells p (omega arith) in
              inl
              (none_changes is (λ k c there. past (written_over (writes_of c.changes) (values_of ks)) (length_over (writes_of c.changes) (values_of ks)) ∙ sym (past (values_of ks) refl)), past put.cells applied.long ∙ sym (past (values_of ks) refl) ∙ sym (begins is))

          as_before : NoneWrites cs p → slice_get put.cells p ≡ slice_get (values_of ks) p → Merged is
          as_before none same =
              inl (
                none_changes is
                    (λ k c there.
                    cell (written_over (writes_of c.changes) (values_of ks))
                    ∙ get_none (writes_of c.changes) (values_of ks) p (all_at (λ (d : Leaving). writes_of d.changes p ≡ None) cs k c none there)
                    ∙ sym (cell (values_of ks))),
                cell put.cells ∙ same ∙ sym (cell (values_of ks)) ∙ sym (begins is),
              )

          changed : OneWrites cs put.cells p → Merged is
          changed one =
              let c = one.chunk in
              let is_leaving : IsLeaving l registers ks pass chunks c = all_at (IsLeaving l registers ks pass chunks) cs one.number c all.account.each one.among in
              let own = leaves c is_leaving in
              let only = is_leaving.only p one.value one.writes in
              let now : left_by base own.effect x is ≡ Some one.value =
              sym (leaves_at c own is) ∙ cell (written_over (writes_of c.changes) (values_of ks)) ∙ get_some (writes_of c.changes) (values_of ks) p one.value only.0 one.writes in
              inr
              (record {
                number = c.number;
                effect = own.effect;
                among = own.among;
                changes = λ same. only.1 (get_or_from_slice_get (values_of ks) p one.value 0 (sym (cell (values_of ks)) ∙ sym (begins is) ∙ sym same ∙ now));
                leaves = cell put.cells ∙ one.holds ∙ sym now;
              })

          inside : (NoneWrites cs p × (slice_get put.cells p ≡ slice_get (values_of ks) p)) ⊎ OneWrites cs put.cells p → Merged is
          inside (inl (none, same)) = as_before none same
          inside (inr one) = changed one

          present : (b : Bool) → nat_lt p (length (values_of ks)) ≡ b → Merged is
          present true e = let lt : p < length (values_of ks) = grind (arith, nat_tests) in inside (applied.each p lt)
          present false e = let le : length (values_of ks) ≤ p = grind (arith, nat_tests) in beyond le

        merged : (is : List ℕ) → Merged is
        merged is = go (spot (shapes_of layout) x is) refl
          where
            go : (o : Option ℕ) → spot (shapes_of layout) x is ≡ o → Merged is
            go None e = absent is e
            go (Some p) e = present is p e (nat_lt p (length (values_of ks))) refl

      -- ---- the machines behind the changes, the reduction variables and the lastprivate ones

      abbrev m0 : Machine
      m0 = machine registers put.cells

      abbrev m1 : Machine
      m1 = reducing m0

      abbrev m2 : Machine
      m2 = put_values l.roles.lasts.items account.lasts m1

      abbrev end : Machine
      end = machine registers' (values_of ks')

      m2_is : m2 ≡ end
      m2_is = sym put.put

      room : (x : Variable) → HasRoomFor layout mark m0 x
      room x =
          let long = applied.long in
          record {
            width = reached.stand.machine.width;
            place = λ p here. let lt = spot_within ks (shapes_of layout) x p filled reached.stand.shape here in omega arith;
          }

      same_first : (x : Variable) → is_among (map (λ r. r.0) roles.reductions) x ≡ false → SameIn layout m0 m1 x
      same_first x h = leaves_others m0 x h

      same_second : (x : Variable) → is_among roles.lasts x ≡ false → SameIn layout m1 m2 x
      same_second x h = put_others layout mark roles.lasts l.roles.lasts.items account.lasts m1 x reached.lowered.roles_at.lasts h

      same_end : (x : Variable) → is_among (told_apart roles) x ≡ false → SameIn layout m0 end x
      same_end x h =
          let parts = or_parts (is_among roles.lasts x) (is_among (map (λ r. r.0) roles.reductions) x) (sym (list_any-append (λ y. y == x) roles.lasts (map (λ r. r.0) roles.reductions)) ∙ h) in
          subst (λ m. SameIn layout m0 m x) m2_is (same_then layout mark m0 m1 m2 x (same_first x parts.1) (same_second x parts.0))

      holds_at : (x v : ℕ) → HoldsIn layout m2 x v → HoldsAt layout registers' ks' x v
      holds_at x v holds = let at_end = subst (λ m. HoldsIn layout m x v) m2_is holds in record { cell = at_end.cell; register = at_end.register }

      merges_same : (x : Variable) (is : List ℕ) → held (values_of ks') x is ≡ held put.cells x is → MergesAt base effects (λ y js. held put.cells y js) x is → MergesAt base effects (λ y js. held (values_of ks') y js) x is
      merges_same x is same (inl (none, e)) = inl (none, same ∙ e)
      merges_same x is same (inr one) = inr (record { number = one.number; effect = one.effect; among = one.among; changes = one.changes; leaves = same ∙ one.leaves })

      -- each object that is not told apart
      pub merges_all : (x : Variable) (is : List ℕ) → is_among (told_apart roles) x ≡ false → MergesAt base effects (λ y js. held (values_of ks') y js) x is
      merges_all x is plain = merges_same x is ((same_end x plain).cells is) (merged x plain is)

      -- ---- reduction variables

      holds_before : (x v : ℕ) → is_among (told_apart roles) x ≡ true → look outer x [] ≡ Some v → HoldsIn layout m0 x v
      holds_before x v apart h =
          record {
            cell = λ lt. keeps x [] apart ∙ sym (before_is x []) ∙ ap (λ k. look_in k outer x []) (sym (reached.stand.machine.file_scope x lt)) ∙ h;
            register = λ le. slot le (outer.locals x) refl h;
          }
        where
          slot : length layout ≤ x → (k : Slot) → outer.locals x ≡ k → look_in k outer x [] ≡ Some v → slice_index registers x ≡ v
          slot le Outside e f = absurd (no_object layout mark outer (machine registers (values_of ks)) x v [] le reached.stand.machine f)
          slot le Empty e f = absurd (none-some v f)
          slot le (Holds n) e f = reached.stand.machine.local x n e ∙ same_Some n v f

      -- ---- lastprivate variables

      full : Full (chunked (taken_in pass us) chunks)
      full = all_full (taken_in pass us) chunks cut_is

      last : (x : Variable) (f : Effect) (v : ℕ) → is_among roles.lasts x ≡ true → last_filled (chunked (taken_in pass us) chunks) effects ≡ Some f → look (overwritten base f.writes) x [] ≡ Some v → HoldsAt layout registers' ks' x v
      last x f v among is h =
          let found = last_is (chunked (taken_in pass us) chunks) effects f full (many ∙ sym many_chunks) is in
          let long = many in
          let last_number = found.1 in
          let once_is = all.once found.0 in
          let one : once_below found.0 (length chunks) ≡ 1 = one_below found.0 (length chunks) (omega arith) in
          let values = all.account.lasts layout mark roles loops body outer us effects reached of ran in
          let told = values.told found.0 f found.1 found.2 (omega arith) in
          let seen = alike found.0 f x (plain_other roles.reductions x (among_plain roles.reductions roles.lasts x reached.apart among)) in
          holds_at x v (put_own layout mark roles.lasts l.roles.lasts.items account.lasts m1 x v reached.lowered.roles_at.lasts among (λ k there. told k x v there (seen.looks ∙ h)) (room_still layout mark m0 m1 x (as_long m0) (room x)))

      none_last : (x : Variable) → is_among roles.lasts x ≡ true → flat_map (λ vs. vs) (chunked (taken_in pass us) chunks) ≡ [] → SameIn layout m0 end x
      none_last x among none =
          let no_chunk = no_chunks (chunked (taken_in pass us) chunks) full none in
          let counted = many_chunks in
          let long = many in
          let values = all.account.lasts layout mark roles loops body outer us effects reached of ran in
          let no_values : account.lasts ≡ [] = values.other (λ number is. absurd (omega arith)) in
          let m2_m1 : m2 ≡ m1 = ap (λ vs. put_values l.roles.lasts.items vs m1) no_values ∙ put_none l.roles.lasts.items m1 in
          let plain = plain_other roles.reductions x (among_plain roles.reductions roles.lasts x reached.apart among) in
          subst (λ m. SameIn layout m0 m x) (sym m2_m1 ∙ m2_is) (same_first x plain)

      last_apart : (x : Variable) → is_among roles.lasts x ≡ true → is_among (told_apart roles) x ≡ true
      last_apart x among = list_any-append (λ y. y == x) roles.lasts (map (λ r. r.0) roles.reductions) ∙ or_left (is_among roles.lasts x) (is_among (map (λ r. r.0) roles.reductions) x) among

      long_end : length registers' ≡ length registers
      long_end = long_by reducing l account registers registers' ks ks' as_long put

      module _ (same_start : (number : ℕ) → start number ≡ base) (reduces : (m : Machine) → reducing m ≡ reduced 0 l.roles.reductions.items account.chunks m) (helds : All (λ (e : Effect). AreHeld roles.reductions (overwritten base e.writes)) effects) where
        module _ (x : Variable) (op : ReduceOp) (index : ℕ) (there : slice_get roles.reductions index ≡ Some (x, op)) where
          tells : (c : Leaving) (own : Known c) → value_at index c.partials ≡ changed_from base own.effect x
          tells c own =
              let holds = all_at (λ (e : Effect). AreHeld roles.reductions (overwritten base e.writes)) effects c.number own.effect helds own.among in
              tells_of reached ran x op index there c own (subst (λ s. AreHeld roles.reductions (overwritten s own.effect.writes)) (sym (same_start c.number)) holds) ∙ ap (λ s. changed_from s own.effect x) (same_start c.number)

          told_picked : (ds : List Leaving) → All (IsLeaving l registers ks pass chunks) ds → told_of index ds ≡ picked (map (λ f. changed_from base f x) effects) (map (λ (c : Leaving). c.number) ds)
          told_picked [] each = refl
          told_picked (d ∷ ds) each =
              let own = leaves d (All-head (IsLeaving l registers ks pass chunks) d ds each) in
              let rest = told_picked ds (All-tail (IsLeaving l registers ks pass chunks) d ds each) in
              let changed : Effect → Option ℕ = λ f. changed_from base f x in
              let found : slice_get (map changed effects) d.number ≡ Some (changed own.effect) = slice_get-map changed effects d.number ∙ ap (option_map changed) own.among in
              (λ i. tells d own i ∷ rest i) ∙ ap (λ o. with_found o (picked (map changed effects) (map (λ (c : Leaving). c.number) ds))) (sym found)

        abbrev order : List ℕ
        order = map (λ (c : Leaving). c.number) cs

        order_is : EachOnceBelow (length (chunked (taken_in pass us) chunks)) order
        order_is n = ap (times n) all.account.numbers_are ∙ all.once n ∙ ap (once_below n) (sym many_chunks)

        reduction : (x : Variable) (op : ReduceOp) (v : ℕ) → operator_of roles.reductions x ≡ Some op → look outer x [] ≡ Some v → HoldsAt layout registers' ks' x (combined_all op v (picked (map (λ f. changed_from base f x) effects) order))
        reduction x op v known h =
            let known_is = known_among roles.reductions x op known in
            let apart : is_among (told_apart roles) x ≡ true = list_any-append (λ y. y == x) roles.lasts (map (λ r. r.0) roles.reductions) ∙ or_right (is_among roles.lasts x) (is_among (map (λ r. r.0) roles.reductions) x) known_is in
            let one = reduced_own layout mark cs 0 roles.reductions l.roles.reductions.items m0 x op v reached.lowered.roles_at.reductions reached.different known (room x) (holds_before x v apart h) in
            let no_last = plain_apart roles.reductions roles.lasts x op reached.apart known in
            let value = combined_all op v (told_of (0 + one.number) cs) in
            let told : told_of (0 + one.number) cs ≡ picked (map (λ f. changed_from base f x) effects) order =
            ap (λ n. told_of n cs) (let z : 0 + one.number ≡ one.number = omega arith in z) ∙ told_picked x op one.number one.there cs all.account.each in
            let here : HoldsIn layout m1 x value = subst (λ (m : Machine). HoldsIn layout m x value) (sym (reduces m0)) one.holds in
            subst (HoldsAt layout registers' ks' x) (ap (combined_all op v) told) (holds_at x value (holds_still layout mark m1 m2 x value (same_second x no_last) here))

        pub put_together : (text text' : List ℕ) → text' ≡ text ++ text_in_order (length chunks) account.chunks → PutTogether layout roles outer base (chunked (taken_in pass us) chunks) effects registers registers' ks ks' text text'
        put_together text text' told =
            record {
              cells = λ x is plain. merges_same x is ((same_end x plain).cells is) (merged x plain is);
              reductions = λ x op v known h. (order, order_is, reduction x op v known h);
              lasts = last;
              no_last = λ x among none. let same = none_last x among none in (same.cells [] ∙ keeps x [] (last_apart x among), same.register);
              others = λ r plain. (same_end r plain).register;
              long = long_end;
              printed = told ∙ ap (λ (t : List ℕ). text ++ t) (printed layout mark roles loops body outer us effects l registers ks pass chunks account reached ran all);
            }

      -- a scan's variable
      module _ (x : Variable) (op : ReduceOp) (only : roles.reductions ≡ (x, op) ∷ []) (value : ℕ) (scans : (m : Machine) → reducing m ≡ scanned l.roles.reductions.items value m) where
        scan_value : HoldsAt layout registers' ks' x value
        scan_value =
            let known : operator_of roles.reductions x ≡ Some op = ap (λ rs. operator_of rs x) only ∙ ap (λ b. cond b (Some op) None) (eq-eqb x x refl) in
            let no_last = plain_apart roles.reductions roles.lasts x op reached.apart known in
            let at = subst (λ rs. AreReduced layout mark rs l.roles.reductions.items) only reached.lowered.roles_at.reductions in
            let here : HoldsIn layout m1 x value = subst (λ (m : Machine). HoldsIn layout m x value) (sym (scans m0)) (scanned_own layout mark x op value l.roles.reductions.items m0 (room x) at) in
            holds_at x value (holds_still layout mark m1 m2 x value (same_second x no_last) here)

        pub put_scan : (partials : List (Option ℕ)) → ((v : ℕ) → look base x [] ≡ Some v → value ≡ combined_all op v partials) → (text text' : List ℕ) → text' ≡ text ++ text_in_order (length chunks) account.chunks
            → PutScan layout roles x op base (chunked (taken_in pass us) chunks) partials effects registers registers' ks ks' text text'
        put_scan partials value_is text text' told =
            record {
              cells = λ y is plain. merges_same y is ((same_end y plain).cells is) (merged y plain is);
              value = λ v h. subst (HoldsAt layout registers' ks' x) (value_is v h) scan_value;
              lasts = last;
              no_last = λ y among none. let same = none_last y among none in (same.cells [] ∙ keeps y [] (last_apart y among), same.register);
              others = λ r plain. (same_end r plain).register;
              long = long_end;
              printed = told ∙ ap (λ (t : List ℕ). text ++ t) (printed layout mark roles loops body outer us effects l registers ks pass chunks account reached ran all);
            }

-- the chunks of the space are those of the iterations
pub together : (l : LoweredLoop) (registers registers' : List ℕ) (ks ks' : List Kept) (kind : Kind) (workers : ℕ) (account : Account) (text text' : List ℕ) → AreFilled ks → (of : AreOfLoop l registers ks Plain kind workers account) → IsPut l.roles account registers registers' ks ks'
    → text' ≡ text ++ text_in_order (length (cut kind (length (vectors of.space)) workers)) account.chunks → LeavesTogether l registers registers' ks ks' text text' kind workers
together l registers registers' ks ks' kind workers account text text' filled of put told = λ layout mark roles loops body outer us effects reached ran helds.
    let same : us ≡ vectors of.space = of.of layout mark roles loops body outer us ks reached in
    let chunks = cut kind (length us) workers in
    let all : AreAll l registers ks Plain chunks account = subst (λ (vs : List Vector). AreAll l registers ks Plain (cut kind (length vs) workers) account) (sym same) of.all in
    let cut_is : IsCut (length us) chunks = subst (λ (vs : List Vector). IsCut (length vs) (cut kind (length vs) workers)) (sym same) of.cut_is in
    let told_is : text' ≡ text ++ text_in_order (length chunks) account.chunks = subst (λ (vs : List Vector). text' ≡ text ++ text_in_order (length (cut kind (length vs) workers)) account.chunks) (sym same) told in
    put_together layout mark roles loops body outer us effects Plain l registers ks chunks account registers' ks' reached (have_same loops body (begun roles outer) (chunked us chunks) effects ran) filled cut_is all tt (begun roles outer)
    (λ number e x h. record { cells = λ is. refl; looks = refl }) (begun_cells roles.reductions outer) (reduced 0 l.roles.reductions.items account.chunks) put (reduced_long 0 l.roles.reductions.items account.chunks)
    (λ m x h. reduced_others layout mark account.chunks 0 roles.reductions l.roles.reductions.items m x reached.lowered.roles_at.reductions h) (λ number. refl) (λ m. refl) helds text text' told_is
