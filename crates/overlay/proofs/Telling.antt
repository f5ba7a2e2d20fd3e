-- What is told of the variables with a role behind a chunk.
use Rattle.std.proofs.Common.{ℕ, zero, suc, ◌≡◌, Bool, true, false, cond, List, [], ◌∷◌, map, Some, refl, sym, ap, ◌∙◌}
use Rattle.std.specs.Prelude.{◌==◌, ◌||◌, slice_get}
use Rattle.std.proofs.lemmas.Bool.{true≢false, eq-eqb, eqb-true, or_parts}
use Rattle.std.proofs.lemmas.Option.{none-some, same_Some}
use Rattle.semantics.specs.Tree.{Variable}
use Rattle.semantics.specs.Meaning.State.{State, overwritten, look}
use Rattle.semantics.specs.Meaning.Runs.{Effect}
use Rattle.semantics.specs.Meaning.Agrees.{is_among}
use Rattle.semantics.specs.Loops.Operator.{ReduceOp}
use Rattle.law_roles.specs.Updates.{operator_of}
use Rattle.law_roles.specs.Reducing.{AreHeld}
use Rattle.law_roles.specs.Sharing.{are_different, changed_from, unless_same}
use Rattle.semantics.specs.Loops.Joined.{given}
use Rattle.law_roles.proofs.Seen.{apart_back, only_look, look_of, takes}
use Rattle.law_starts.proofs.Beginning.{reduced, first_apart, others_apart, begun_holds, given_only}
use Rattle.lower_code.specs.declared.laid.Laid.{Laid}
use Rattle.lower_machine.specs.Machine.{Machine}
use Rattle.lower_code.specs.Meaning.{Represents}
use Rattle.lower.specs.declared.roles.Spot.{Spot}
use Rattle.lower.specs.declared.roles.LoweredReduction.{LoweredReduction}
use Rattle.lower.specs.Roles.{StandsAt, StandEach, AreReduced}
use Rattle.overlay.specs.declared.beginning.Start.{Start}
use Rattle.overlay.specs.declared.beginning.Start.TheVariants.{Reduction, Scan}
use Rattle.overlay.specs.Spots.{begins_at, held_at, partial_at}
use Rattle.overlay.specs.Chunks.{AreLasts, started}
use Rattle.overlay.proofs.Standing.{some_value, held_in}

-- each reduction variable of a list has its operator among all
abbrev HaveOperators : List (Variable × ReduceOp) → List (Variable × ReduceOp) → Type 0
HaveOperators all [] = Unit {0}
HaveOperators all (r ∷ rs) = (operator_of all r.0 ≡ Some r.1) × HaveOperators all rs

have_more : (q : Variable × ReduceOp) (all rs : List (Variable × ReduceOp)) → is_among (reduced rs) q.0 ≡ false → HaveOperators all rs → HaveOperators (q ∷ all) rs
have_more q all [] h have = have
have_more q all (r ∷ rs) h have = at (r.0 == q.0) refl h (λ k. have_more q all rs k have.1)
  where
    at : (b : Bool) → (r.0 == q.0) ≡ b → (b || is_among (reduced rs) q.0) ≡ false → (is_among (reduced rs) q.0 ≡ false → HaveOperators (q ∷ all) rs) → HaveOperators (q ∷ all) (r ∷ rs)
    at true e k rest = absurd (true≢false k)
    at false e k rest = (ap (λ b. cond b (Some q.1) (operator_of all r.0)) (apart_back r.0 q.0 e) ∙ have.0, rest k)

have_operators : (rs : List (Variable × ReduceOp)) → are_different (reduced rs) ≡ true → HaveOperators rs rs
have_operators [] d = tt
have_operators (r ∷ rs) d = (
  ap (λ b. cond b (Some r.1) (operator_of rs r.0)) (eq-eqb r.0 r.0 refl),
  have_more r rs rs (first_apart r rs d) (have_operators rs (others_apart r rs d)),
)

-- variables that take a given number have it, and all else is as it was
pub given_locals : (v : ℕ) (rs : List (Variable × ReduceOp)) (s : State) (x : Variable) → is_among (reduced rs) x ≡ false → (started (Scan v) rs s).locals x ≡ s.locals x
given_locals v [] s x h = refl
given_locals v (r ∷ rs) s x h =
    let parts = or_parts (r.0 == x) (is_among (reduced rs) x) h in
    given_locals v rs (given s r.0 (Some v)) x parts.1 ∙ (given_only s r.0 (Some v)).locals x (apart_back r.0 x parts.0)

pub given_cells : (v : ℕ) (rs : List (Variable × ReduceOp)) (s : State) (x : Variable) (is : List ℕ) → is_among (reduced rs) x ≡ false → (started (Scan v) rs s).cells x is ≡ s.cells x is
given_cells v [] s x is h = refl
given_cells v (r ∷ rs) s x is h =
    let parts = or_parts (r.0 == x) (is_among (reduced rs) x) h in
    given_cells v rs (given s r.0 (Some v)) x is parts.1 ∙ (given_only s r.0 (Some v)).cells x is (apart_back r.0 x parts.0)

given_holds : (n : ℕ) (rs : List (Variable × ReduceOp)) (s : State) (x : Variable) (op : ReduceOp) (v : ℕ) → are_different (reduced rs) ≡ true → operator_of rs x ≡ Some op → look s x [] ≡ Some v
    → look (started (Scan n) rs s) x [] ≡ Some n
given_holds n [] s x op v d is h = absurd (none-some op is)
given_holds n (r ∷ rs) s x op v d is h = at (r.0 == x) refl is (λ k g. given_holds n rs next x op v (others_apart r rs d) k g)
  where
    next : State
    next = given s r.0 (Some n)

    at : (b : Bool) → (r.0 == x) ≡ b → cond b (Some r.1) (operator_of rs x) ≡ Some op
        → (operator_of rs x ≡ Some op → look next x [] ≡ Some v → look (started (Scan n) rs next) x [] ≡ Some n)
        → look (started (Scan n) rs next) x [] ≡ Some n
    at true e k rest =
        let same : r.0 ≡ x = eqb-true r.0 x e in
        let gone : is_among (reduced rs) x ≡ false = ap (is_among (reduced rs)) (sym same) ∙ first_apart r rs d in
        look_of x (started (Scan n) rs next) next (given_locals n rs next x gone) (λ is. given_cells n rs next x is gone) []
        ∙ ap (λ y. look next y []) (sym same) ∙ (takes s r.0 v n (ap (λ y. look s y []) same ∙ h)).holds
    at false e k rest = rest k (only_look r.0 s next (given_only s r.0 (Some n)) x (apart_back r.0 x e) [] ∙ h)

started_holds : (start : Start) (rs : List (Variable × ReduceOp)) (s : State) (x : Variable) (op : ReduceOp) (v : ℕ) → are_different (reduced rs) ≡ true → operator_of rs x ≡ Some op → look s x [] ≡ Some v
    → look (started start rs s) x [] ≡ Some (begins_at start op v)
started_holds Reduction rs s x op v d is h = begun_holds rs s x op v d is h
started_holds (Scan n) rs s x op v d is h = given_holds n rs s x op v d is h

-- machines before the loop and behind the chunk stand for the states there
module _ (layout : List Laid) (mark : ℕ) (first : Start) (all : List (Variable × ReduceOp)) (outer : State) (e : Effect) (before behind : Machine) (stands : Represents layout mark outer before)
    (stands_behind : Represents layout mark (overwritten (started first all outer) e.writes) behind) (different : are_different (reduced all) ≡ true) (held : AreHeld all outer) (held_behind : AreHeld all (overwritten (started first all outer) e.writes)) where
  abbrev start : State
  start = started first all outer

  partial_is : (r : Variable × ReduceOp) (l : LoweredReduction) → operator_of all r.0 ≡ Some r.1 → AreReduced layout mark (r ∷ []) (l ∷ []) → partial_at first before behind l ≡ changed_from start e r.0
  partial_is r l known (op, at, none) =
      let was_value = some_value (look outer r.0 []) (held r.0 r.1 known) in
      let last = some_value (look (overwritten start e.writes) r.0 []) (held_behind r.0 r.1 known) in
      let was = (held_in layout mark outer before r.0 was_value.0 l.spot at stands was_value.1).is in
      let left = (held_in layout mark (overwritten start e.writes) behind r.0 last.0 l.spot at stands_behind last.1).is in
      ap (λ o. unless_same (Some (begins_at first o (held_at l.spot before))) (Some (held_at l.spot behind))) op
      ∙ ap (λ n. unless_same (Some (begins_at first r.1 n)) (Some (held_at l.spot behind))) was
      ∙ ap (λ n. unless_same (Some (begins_at first r.1 was_value.0)) (Some n)) left
      ∙ ap (λ o. unless_same o (Some last.0)) (sym (started_holds first all outer r.0 r.1 was_value.0 different known was_value.1))
      ∙ ap (λ o. unless_same (look start r.0 []) o) (sym last.1)

  partials_are : (rs : List (Variable × ReduceOp)) (ls : List LoweredReduction) → HaveOperators all rs → AreReduced layout mark rs ls → map (partial_at first before behind) ls ≡ map (λ r. changed_from start e r.0) rs
  partials_are [] [] known are = refl
  partials_are [] (l ∷ ls) known are = absurd are
  partials_are (r ∷ rs) [] known are = absurd are
  partials_are (r ∷ rs) (l ∷ ls) known (op, at, rest) =
      let one = partial_is r l known.0 (op, at, tt) in
      let others = partials_are rs ls known.1 rest in
      λ i. one i ∷ others i

  pub all_partials : (ls : List LoweredReduction) → AreReduced layout mark all ls → map (partial_at first before behind) ls ≡ map (λ r. changed_from start e r.0) all
  all_partials ls are = partials_are all ls (have_operators all different) are

-- and last values
lasts_more : (layout : List Laid) (mark : ℕ) (s : State) (m : Machine) (x : Variable) (xs : List Variable) (at : Spot) (spots : List Spot) → Represents layout mark s m → StandsAt layout mark x at → AreLasts xs s (map (λ at. held_at at m) spots) → AreLasts (x ∷ xs) s (map (λ at. held_at at m) (at ∷ spots))
lasts_more layout mark s m x xs at spots stands here others = record { count = ap suc others.count; each = found }
  where
    found : (k : ℕ) (y : Variable) (v : ℕ) → slice_get (x ∷ xs) k ≡ Some y → look s y [] ≡ Some v → slice_get (map (λ at. held_at at m) (at ∷ spots)) k ≡ Some v
    found zero y v e h = ap Some (held_in layout mark s m x v at here stands (ap (λ z. look s z []) (same_Some x y e) ∙ h)).is
    found (suc k) y v e h = others.each k y v e h

pub lasts_are : (layout : List Laid) (mark : ℕ) (s : State) (m : Machine) (xs : List Variable) (spots : List Spot) → Represents layout mark s m → StandEach layout mark xs spots → AreLasts xs s (map (λ at. held_at at m) spots)
lasts_are layout mark s m [] [] stands each = record { count = refl; each = λ k x v e h. absurd (none-some x e) }
lasts_are layout mark s m [] (at ∷ spots) stands each = absurd each
lasts_are layout mark s m (x ∷ xs) [] stands each = absurd each
lasts_are layout mark s m (x ∷ xs) (at ∷ spots) stands (here, rest) = lasts_more layout mark s m x xs at spots stands here (lasts_are layout mark s m xs spots stands rest)
