-- The iterations of a nest are the vectors of the turns of those of its loops that are reached.
use Rattle.std.specs.Prelude.{ℕ, zero, suc, ◌≡◌, ◌*◌, ◌<◌, ◌≤◌, ◌^◌, ℤ, List, [], ◌∷◌, length, map, flat_map, Option, Some, None, option_and_then, MatchOption}
use Rattle.std.specs.Option.{SomeIff, IfSome}
use Rattle.std.proofs.Common.{refl, sym, ap, ◌∙◌, subst, arith}
use Rattle.semantics.specs.Tree.{Variable}
use Rattle.semantics.specs.Meaning.Value.{map_option}
use Rattle.semantics.specs.Loops.Nest.{Vector, at_value, concat_options, iterations}
use Rattle.nest_loop.specs.declared.head.Canonical.{Canonical}
use Rattle.nest_space.specs.Space.{Turns, counted, values_of, vectors, product, IsSpace}
use Rattle.nest_space.specs.Nests.{IsRunOf}
use Rattle.nest_space.specs.Reached.{AreRunsReached}
use Rattle.nest_space.specs.Heads.{HasIterations}
use Rattle.nest_space.proofs.Walks.{counters_at, values_are}
use Rattle.nest_space.proofs.Nesting.{joined}
use Rattle.nest_space.proofs.Runs.{same_run}

pub reached_law : (ls : List Canonical) (values : Variable → ℤ) (ts : List Turns) → AreRunsReached ls values ts → HasIterations ls values ts
reached_law [] values [] runs box [] s c heads = refl
reached_law [] values [] runs box (h ∷ hs) s c heads = absurd heads
reached_law [] values (t ∷ ts) runs box hs s c heads = absurd runs
reached_law (l ∷ ls) values [] runs box hs s c heads = absurd runs
reached_law (l ∷ ls) values (t ∷ ts) runs box [] s c heads = absurd heads
reached_law (l ∷ ls) values (t ∷ ts) runs box (h ∷ hs) s c heads =
    ap (option_and_then (λ vs. concat_options (map inside vs))) (values_are box values s c h l heads.0 t runs.0)
    ∙ turned t.count refl (λ some v. reached_law ls values ts (runs.2 some) box hs (at_value s h.variable v) (counters_at box values s c h l heads.0 t runs.0 v) heads.1)
  where
    inside : ℕ → Option (List Vector)
    inside v = map_option (map (λ us. v ∷ us)) (iterations hs (at_value s h.variable v))

    behind : List ℕ → List Vector
    behind vs = flat_map (λ v. map (λ us. v ∷ us) (vectors ts)) vs

    turned : (n : ℕ) → t.count ≡ n → (0 < t.count → (v : ℕ) → iterations hs (at_value s h.variable v) ≡ Some (vectors ts)) → concat_options (map inside (values_of t)) ≡ Some (behind (values_of t))
    turned zero none each =
        let no_values : values_of t ≡ [] = ap (counted t.stride t.first) none in
        ap (λ vs. concat_options (map inside vs)) no_values ∙ ap (λ vs. Some (behind vs)) (sym no_values)
    turned (suc n) some each = joined (vectors ts) (λ v. iterations hs (at_value s h.variable v)) (values_of t) (each (omega (arith, some)))

pub length-reached : (ls : List Canonical) (values : Variable → ℤ) (ts : List Turns) → AreRunsReached ls values ts → length ts ≡ length ls
length-reached [] values [] runs = refl
length-reached [] values (t ∷ ts) runs = absurd runs
length-reached (l ∷ ls) values [] runs = absurd runs
length-reached (l ∷ ls) values (t ∷ ts) runs = ap suc runs.1

products : (m n a b : ℕ) → m ≡ n → (0 < m → a ≡ b) → m * a ≡ n * b
products zero n a b same each = (let none : 0 * a ≡ 0 * b = omega arith in none) ∙ ap (λ k. k * b) same
products (suc m) n a b same each = ap (λ k. suc m * k) (each (omega arith)) ∙ ap (λ k. k * b) same

-- however the loops that are not reached would run, there are as many iterations
same_product : (ls : List Canonical) (values : Variable → ℤ) (ts us : List Turns) → AreRunsReached ls values ts → AreRunsReached ls values us → product ts ≡ product us
same_product [] values [] [] p q = refl
same_product [] values [] (u ∷ us) p q = absurd q
same_product [] values (t ∷ ts) us p q = absurd p
same_product (l ∷ ls) values [] us p q = absurd p
same_product (l ∷ ls) values (t ∷ ts) [] p q = absurd q
same_product (l ∷ ls) values (t ∷ ts) (u ∷ us) p q =
    let counts : t.count ≡ u.count = ap (λ (v : Turns). v.count) (same_run l values t u p.0 q.0) in
    products t.count u.count (product ts) (product us) counts (λ some. same_product ls values ts us (p.2 some) (q.2 (subst (λ n. 0 < n) counts some)))

-- more loops than a space has
pub too_many_reached : (ls : List Canonical) (values : Variable → ℤ) (ts : List Turns) → 4 < length ls → AreRunsReached ls values ts → IsSpace ts → ⊥
too_many_reached ls values ts more p is = let few = is.loops in let same = length-reached ls values ts p in absurd (omega arith)

-- the space of these runs, where there is one
pub space_reached : (M : Type 0) (ls : List Canonical) (values : Variable → ℤ) (us : List Turns) (o : Option (List Turns)) → AreRunsReached ls values us → SomeIff o (IsSpace us) us
    → MatchOption o ((ts : List Turns) → M → AreRunsReached ls values ts → IsSpace ts → ⊥) (λ ts. AreRunsReached ls values ts)
space_reached M ls values us None p h = λ ts m q is.
    let loops = is.loops in
    let few = is.few in
    let long : length us ≡ length ts = length-reached ls values us p ∙ sym (length-reached ls values ts q) in
    let many : product us ≡ product ts = same_product ls values us ts p q in
    h (record { loops = subst (λ n. n ≤ 4) (sym long) loops; few = subst (λ n. n ≤ 2 ^ 24) (sym many) few })
space_reached M ls values us (Some ts) p h = subst (AreRunsReached ls values) (sym h.1) p

-- its vectors are the iterations
pub iterations_reached : (ls : List Canonical) (values : Variable → ℤ) (us : List Turns) (o : Option (List Turns)) → AreRunsReached ls values us → SomeIff o (IsSpace us) us
    → IfSome o (λ ts. HasIterations ls values ts)
iterations_reached ls values us None p h = tt
iterations_reached ls values us (Some ts) p h = reached_law ls values ts (subst (AreRunsReached ls values) (sym h.1) p)

-- and it has a side for each loop
pub loops_reached : (ls : List Canonical) (values : Variable → ℤ) (us : List Turns) (o : Option (List Turns)) → AreRunsReached ls values us → SomeIff o (IsSpace us) us
    → IfSome o (λ ts. length ts ≡ length ls)
loops_reached ls values us None p h = tt
loops_reached ls values us (Some ts) p h = ap length h.1 ∙ length-reached ls values us p

-- ---- one loop more in front

pub never_turns : (ls : List Canonical) (l : Canonical) (rest : List Canonical) (values : Variable → ℤ) (t : Turns) (ts : List Turns) → ls ≡ l ∷ rest → IsRunOf l values t → t.count ≡ 0 → length ts ≡ length rest
    → AreRunsReached ls values (t ∷ ts)
never_turns ls l rest values t ts is run none long =
    subst (λ (hs : List Canonical). AreRunsReached hs values (t ∷ ts)) (sym is) (run, long, λ some. absurd (omega (arith, none, some)))

pub one_reached : (ls : List Canonical) (l : Canonical) (rest : List Canonical) (values : Variable → ℤ) (t : Turns) (ts : List Turns) → ls ≡ l ∷ rest → IsRunOf l values t → AreRunsReached rest values ts
    → AreRunsReached ls values (t ∷ ts)
one_reached ls l rest values t ts is run others =
    subst (λ (hs : List Canonical). AreRunsReached hs values (t ∷ ts)) (sym is) (run, length-reached rest values ts others, λ some. others)

none_behind : (l : Canonical) (rest : List Canonical) (values : Variable → ℤ) (t : Turns) → IsRunOf l values t → 0 < t.count → ((ts : List Turns) → AreRunsReached rest values ts → ⊥)
    → (ts : List Turns) → AreRunsReached (l ∷ rest) values ts → ⊥
none_behind l rest values t run some none [] p = absurd p
none_behind l rest values t run some none (u ∷ us) p = none us (p.2 (subst (λ (v : Turns). 0 < v.count) (same_run l values t u run p.0) some))

pub none_reached : (ls : List Canonical) (l : Canonical) (rest : List Canonical) (values : Variable → ℤ) (t : Turns) → ls ≡ l ∷ rest → IsRunOf l values t → 0 < t.count → ((ts : List Turns) → AreRunsReached rest values ts → ⊥)
    → (ts : List Turns) → AreRunsReached ls values ts → ⊥
none_reached ls l rest values t is run some none ts p = none_behind l rest values t run some none ts (subst (λ (hs : List Canonical). AreRunsReached hs values ts) is p)
