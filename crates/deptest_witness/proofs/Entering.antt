-- The first turns of loops inside one another.
use Rattle.std.specs.Prelude.{ℕ, zero, suc, ◌≡◌, ◌<◌, ◌≤◌, ◌^◌, ◌++◌, ◌*◌, ◌+ℤ◌, ◌≤ℤ◌, ℤ, Option, Result, Ok, Err, IfOk, MatchOption, pos, List, [], ◌∷◌, slice_get, Some, None}
use Rattle.std.proofs.Common.{sym, ap, ◌∙◌, subst, arith}
use Rattle.std.proofs.lemmas.Int.{ints}
use Rattle.std.proofs.lemmas.Option.{same_Some, MatchOption-at_some, MatchOption-at_none}
use Rattle.std.specs.Global.{Vec}
use Rattle.std.specs.declared.alloc.AllocError.{AllocError}
use Rattle.semantics.specs.Tree.{Variable}
use Rattle.semantics.specs.Loops.Nest.{Vector}
use Rattle.affine.specs.Affine.{value, term_sum}
use Rattle.nest_loop.specs.declared.stride.Stride.{Stride}
use Rattle.nest_loop.specs.declared.stride.Direction.{Direction}
use Rattle.nest_loop.specs.declared.stride.Direction.TheVariants.{Rising, Falling}
use Rattle.nest_loop.specs.declared.stride.Bound.{Bound}
use Rattle.nest_loop.specs.declared.stride.Bound.TheVariants.{Strict, Inclusive, Unequal}
use Rattle.nest_loop.specs.declared.head.Canonical.{Canonical}
use Rattle.nest_loop.specs.Sides.{IsBefore, moved as moved_ℤ, end_shift}
use Rattle.nest_space.specs.declared.bounds.Value.{Value}
use Rattle.nest_space.specs.Space.{Turns, moved, counted, values_of, vectors}
use Rattle.nest_space.specs.Nests.{given, AreModest, IsRunOf, AreRunsOf}
use Rattle.nest_space.proofs.Runs.{same_runs}
use Rattle.nest_space.proofs.Counted.{found_at}
use Rattle.nest_space.proofs.Places.{pair_found}
use Rattle.deptest_witness.specs.Touching.{holding, FirstTurns, held}

-- a loop runs in one way alone
pub same_run : (l : Canonical) (values : Variable → ℤ) (t u : Turns) → IsRunOf l values t → IsRunOf l values u → t ≡ u
same_run l values t u p q = same_Some t u (ap (λ ts. slice_get ts 0) (same_runs (l ∷ []) values (t ∷ []) (u ∷ []) (p, tt) (q, tt)))

-- loops have first turns in one way alone
pub same_first : (ls : List Canonical) (before us vs : List Value) → FirstTurns ls before us → FirstTurns ls before vs → us ≡ vs
same_first [] before us vs p q = p ∙ sym q
same_first (l ∷ ls) before us vs p q =
    same_first ls (before ++ (holding l p.0.first ∷ [])) us vs p.3
    (subst (λ (t : Turns). FirstTurns ls (before ++ (holding l t.first ∷ [])) vs) (same_run l (given before) q.0 p.0 q.1 p.1) q.3)

-- one more modest value
pub modest_more : (us vs : List Value) → AreModest us → AreModest vs → AreModest (us ++ vs)
modest_more [] vs p q = q
modest_more (u ∷ us) vs p q = (p.0, modest_more us vs p.1 q)

-- a number between the bounds of a loop
near : (d : Direction) (bound : Bound) (first n : ℕ) (start c sum : ℤ) → start ≡ pos first → start ≤ℤ pos (2 ^ 32) → (c +ℤ sum) ≤ℤ pos (2 ^ 32)
    → IsBefore d (moved_ℤ d start n) ((c +ℤ end_shift d bound) +ℤ sum) → moved d first n ≤ 2 ^ 33
near Rising Strict first n start c sum e s l b = omega (arith, ints)
near Rising Inclusive first n start c sum e s l b = omega (arith, ints)
near Rising Unequal first n start c sum e s l b = omega (arith, ints)
near Falling Strict first n start c sum e s l b = omega (arith, ints)
near Falling Inclusive first n start c sum e s l b = omega (arith, ints)
near Falling Unequal first n start c sum e s l b = omega (arith, ints)

-- no value of a loop is above 2^33
value_modest : (l : Canonical) (values : Variable → ℤ) (t : Turns) (k x : ℕ) → IsRunOf l values t → slice_get (values_of t) k ≡ Some x → x ≤ 2 ^ 33
value_modest l values t k x run e =
    let at = found_at t k x e in
    let there : moved l.stride.direction t.first (l.stride.by * k) ≤ 2 ^ 33 =
    near l.stride.direction l.bound t.first (l.stride.by * k) (value l.start values) l.limit.constant (term_sum l.limit.terms values)
    run.first run.stays.start.below run.stays.limit.below ((run.count.counts k).0 at.turn) in
    subst (λ n. n ≤ 2 ^ 33) (sym (at.is ∙ ap (λ (s : Stride). moved s.direction t.first (s.by * k)) run.stride)) there

-- nor one of a vector
pub held_modest : (ls : List Canonical) (values : Variable → ℤ) (ts : List Turns) (k : ℕ) (vs : Vector) → AreRunsOf ls values ts → slice_get (vectors ts) k ≡ Some vs → AreModest (held ls vs)
held_modest [] values ts k vs runs e = tt
held_modest (l ∷ ls) values [] k vs runs e = absurd runs
held_modest (l ∷ ls) values (t ∷ ts) k [] runs e = tt
held_modest (l ∷ ls) values (t ∷ ts) k (v ∷ vs) runs e =
    let p = pair_found (values_of t) (vectors ts) k v vs e in
    (value_modest l values t p.outer v runs.0 p.value, held_modest ls values ts p.inner vs runs.1 p.vector)

-- the first value of a loop that turns
first_is : (s : Stride) (first n v : ℕ) → 0 < n → slice_get (counted s first n) 0 ≡ Some v → first ≡ v
first_is s first zero v some e = absurd (omega arith)
first_is s first (suc n) v some e = same_Some first v e

pub first_modest : (l : Canonical) (values : Variable → ℤ) (t : Turns) (v : ℕ) → IsRunOf l values t → slice_get (values_of t) 0 ≡ Some v → v ≤ 2 ^ 33
first_modest l values t v run e = value_modest l values t 0 v run e

-- inside the first turn of one more loop
abbrev pub FoundTurns : List Canonical → List Value → Option (Vec Value) → Type 0
FoundTurns ls before o = MatchOption o ((others : List Value) → FirstTurns ls before others → ⊥) (λ vs. FirstTurns ls before vs.items)

found_step : (l : Canonical) (ls : List Canonical) (before : List Value) (t : Turns) (v : ℕ) (o : Option (Vec Value)) → IsRunOf l (given before) t → 0 < t.count → t.first ≡ v
    → FoundTurns ls (before ++ (holding l v ∷ [])) o → FoundTurns (l ∷ ls) before o
found_step l ls before t v None run some e h = λ others f.
    h others (subst (λ w. FirstTurns ls (before ++ (holding l w ∷ [])) others) (ap (λ (u : Turns). u.first) (same_run l (given before) f.0 t f.1 run) ∙ e) f.3)
found_step l ls before t v (Some vs) run some e h = (t, run, some, subst (λ w. FirstTurns ls (before ++ (holding l w ∷ [])) vs.items) (sym e) h)

pub first_step : (l : Canonical) (ls : List Canonical) (before : List Value) (t : Turns) (v : ℕ) (r : Result (Option (Vec Value)) AllocError) → IsRunOf l (given before) t → 0 < t.count
    → slice_get (values_of t) 0 ≡ Some v → IfOk r (FoundTurns ls (before ++ (holding l v ∷ []))) → IfOk r (FoundTurns (l ∷ ls) before)
first_step l ls before t v (Ok o) run some e h = found_step l ls before t v o run some (first_is t.stride t.first t.count v some e) h
first_step l ls before t v (Err f) run some e h = tt

pub turns_found : (ls : List Canonical) (before : List Value) (o : Option (Vec Value)) (vs : Vec Value) → o ≡ Some vs → FoundTurns ls before o → FirstTurns ls before vs.items
turns_found ls before o vs e h = MatchOption-at_some ((others : List Value) → FirstTurns ls before others → ⊥) (λ (us : Vec Value). FirstTurns ls before us.items) vs e h

pub no_turns : (ls : List Canonical) (before : List Value) (o : Option (Vec Value)) → o ≡ None → FoundTurns ls before o → (others : List Value) → FirstTurns ls before others → ⊥
no_turns ls before o e h = MatchOption-at_none ((others : List Value) → FirstTurns ls before others → ⊥) (λ (us : Vec Value). FirstTurns ls before us.items) e h
