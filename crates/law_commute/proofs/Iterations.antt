-- Iterations of which no two conflict, in any order.
use Rattle.std.specs.Prelude.{ℕ, zero, suc, Bool, true, false, ◌≡◌, ◌==◌, ◌<◌, ◌≤◌, ◌⊎◌, List, [], ◌∷◌, length, Option, Some, None, slice_get, option_and_then, Contains}
use Rattle.std.proofs.Common.{refl, sym, ap, ◌∙◌, subst, cond, arith, inl, inr}
use Rattle.std.proofs.lemmas.Bool.{eq-eqb, eqb-true, cases_lt}
use Rattle.std.proofs.lemmas.Bool.Decides.{nat_tests}
use Rattle.std.proofs.lemmas.Option.{same_Some, slice_get_within, get_or_from_slice_get}
use Rattle.std.specs.List.{AllPairs}
use Rattle.std.specs.Prelude.{◌≢◌}
use Rattle.std.proofs.lemmas.List.Elements.{All-from_recursion}
use Rattle.std.specs.List.{AllByRecursion as Each}
use Rattle.semantics.specs.Tree.{Variable, Stmt}
use Rattle.semantics.specs.Meaning.State.{State, Outside, Holds, overwritten}
use Rattle.semantics.specs.Meaning.Value.{both, map_option}
use Rattle.semantics.specs.Meaning.Runs.{Effect, nothing, joined, then_from}
use Rattle.semantics.specs.Meaning.Agrees.{visible_behind}
use Rattle.semantics.specs.Loops.Nest.{Loop, Vector, at_value, at_vector}
use Rattle.semantics.specs.Loops.Access.{Mode, Writes, Touches, Conflict, accesses}
use Rattle.semantics.specs.Loops.Arrangement.{once, once_below, times, EachOnceBelow, with_found, picked}
use Rattle.semantics.specs.Loops.Piece.{run_iteration, run_iterations}
use Rattle.semantics.specs.Meaning.Places.{below}
use Rattle.semantics.specs.Theorems.{SameElements}
use Rattle.law_commute.specs.Commuting.{IsOwnWrite, IterationsWriteWhatTheyTouch, KeepsToItself, InnerLoopsTurn, LooksAlike, IterationsSeeWhatTheyTouch, IndependentIterationsCommute}
use Rattle.law_commute.proofs.Same.{SameVariable, same_set, Point}
use Rattle.law_commute.proofs.Lists.{each_contained}
use Rattle.law_commute.proofs.Matched.{Matched, overwritten-append}
use Rattle.law_commute.proofs.Framed.{Spot, Fixed, stmt_law, true_not_false}
use Rattle.law_commute.proofs.Paths.{both_there}
use Rattle.law_commute.proofs.Orders.{inside, picked_all, below_once, once_itself, once_other, below_one, once_of_below}
use Rattle.law_commute.proofs.Changes.{acted, hit, not_hit, hit_touches, Changed, changed_all}

-- the loops' variables have these values in both
pub cells_at : (ls : List Loop) (w : Vector) (s : State) (y : Variable) (is : List ℕ) → (at_vector ls w s).cells y is ≡ s.cells y is
cells_at [] w s y is = refl
cells_at (l ∷ ls) [] s y is = refl
cells_at (l ∷ ls) (v ∷ vs) s y is = cells_at ls vs (at_value s l.variable v) y is

same_at : (ls : List Loop) (w : Vector) (s t : State) (y : Variable) → SameVariable y s t → SameVariable y (at_vector ls w s) (at_vector ls w t)
same_at [] w s t y h = h
same_at (l ∷ ls) [] s t y h = h
same_at (l ∷ ls) (v ∷ vs) s t y h = same_at ls vs (at_value s l.variable v) (at_value t l.variable v) y (same_set l.variable y s t (Holds v) refl (λ e. h))

pub outside_at : (ls : List Loop) (w : Vector) (s : State) (y : Variable) → (at_vector ls w s).locals y ≡ Outside → s.locals y ≡ Outside
outside_at [] w s y h = h
outside_at (l ∷ ls) [] s y h = h
outside_at (l ∷ ls) (v ∷ vs) s y h = before (y == l.variable) (outside_at ls vs (at_value s l.variable v) y h)
  where
    before : (b : Bool) → cond b (Holds v) (s.locals y) ≡ Outside → s.locals y ≡ Outside
    before true e = absurd cc
    before false e = e

-- an iteration from a state that looks alike
module _ (loops : List Loop) (body : Stmt) (outer : State) (u : Vector) (keeps : KeepsToItself body) (turn : InnerLoopsTurn loops body outer u) where
  abbrev seen : Variable → Bool
  seen = visible_behind body

  abbrev base : State
  base = at_vector loops u outer

  abbrev T : Variable → ℕ → List ℕ → Type 0
  T x i is = (mode : Mode) × Touches loops body outer u (record { array = x; indexes = i ∷ is }) mode

  pub one_iteration : (s : State) → LooksAlike loops body outer u s → Matched (IsOwnWrite loops body outer u) (Point T seen seen base) (at_vector loops u s) base (run_iteration loops body u s) (run_iteration loops body u outer)
  one_iteration s like =
      let spot : Spot loops body outer u turn [] base = record { vector = []; path = tt; is = refl } in
      let fixed : Fixed loops body outer u turn seen base = record { wide = λ y h. h; arrays = λ y h o. (h, outside_at loops u outer y o) } in
      let same : (y : Variable) → seen y ≡ true → SameVariable y (at_vector loops u s) base = λ y h. same_at loops u s outer y (record { locals = like.locals y h; cells = λ o. like.scalars y h }) in
      let point : Point T seen seen base (at_vector loops u s) base = record {
        one = same;
        two = λ y h. record { locals = refl; cells = λ o. refl };
        both = same;
        elements = λ y i is t. cells_at loops u s y (i ∷ is) ∙ like.elements y i is t.0 t.1 ∙ sym (cells_at loops u outer y (i ∷ is));
      } in
      stmt_law loops body outer u turn body [] seen seen base (at_vector loops u s) base spot fixed point keeps.names keeps.steady (each_contained (accesses [] body))

pub iterations_see : IterationsSeeWhatTheyTouch
iterations_see loops body outer s u keeps turn like = (one_iteration loops body outer u keeps turn s like).same

pub iterations_write : IterationsWriteWhatTheyTouch
iterations_write loops body outer s u e keeps turn like is =
    let left = (one_iteration loops body outer u keeps turn s like).left e is in
    All-from_recursion (IsOwnWrite loops body outer u) e.writes left.own

pub contains_at : (us : List Vector) (c : ℕ) (u : Vector) → slice_get us c ≡ Some u → Contains us u
contains_at us c u e = (c, slice_get_within us c u e, get_or_from_slice_get us c u u e)

joined_both : (e : Effect) (o : Option Effect) → map_option (joined e) o ≡ both joined (Some e) o
joined_both e None = refl
joined_both e (Some f) = refl

module _ (loops : List Loop) (body : Stmt) (outer : State) (us : List Vector) (keeps : KeepsToItself body) (different : AllPairs (λ u v. u ≢ v) us)
    (turning : (u : Vector) → Contains us u → InnerLoopsTurn loops body outer u)
    (independent : (u v : Vector) → Contains us u → Contains us v → Conflict loops body outer u v → ⊥) where
  abbrev n : ℕ
  n = length us

  -- what the iteration of this number does
  abbrev alone : Vector → Option Effect
  alone u = run_iteration loops body u outer

  abbrev pub effect_of : ℕ → Option Effect
  effect_of c = option_and_then (λ u. run_iteration loops body u outer) (slice_get us c)

  abbrev pub all_of : List ℕ → Option Effect
  all_of [] = Some nothing
  all_of (c ∷ cs) = both joined (effect_of c) (all_of cs)

  abbrev At : ℕ → Vector → Type 0
  At c u = slice_get us c ≡ Some u

  abbrev TouchesAt : Vector → Mode → Variable → ℕ → List ℕ → Type 0
  TouchesAt u mode y j js = Touches loops body outer u (record { array = y; indexes = j ∷ js }) mode

  differ : (c d : ℕ) (u v : Vector) → At c u → At d v → (d ≡ c → ⊥) → u ≢ v
  differ c d u v p q other same = at (cases_lt c d)
    where
      at : (c < d) ⊎ (d ≤ c) → ⊥
      at (inl lt) = different c d u lt (slice_get_within us d v q) (get_or_from_slice_get us c u u p ∙ same ∙ sym (get_or_from_slice_get us d v u q))
      at (inr le) = different d c u (let lt : d < c = omega (arith, other) in lt) (slice_get_within us c u p) (get_or_from_slice_get us d v u q ∙ sym same ∙ sym (get_or_from_slice_get us c u u p))

  -- no other iteration touches what one writes
  clear : (c d : ℕ) (u v : Vector) → At c u → At d v → (d ≡ c → ⊥) → (y : Variable) (j : ℕ) (js : List ℕ) (mode : Mode) → TouchesAt u Writes y j js → TouchesAt v mode y j js → ⊥
  clear c d u v p q other y j js mode s t =
      independent u v (contains_at us c u p) (contains_at us d v q)
      (record { differ = differ c d u v p q other; element = record { array = y; indexes = j ∷ js }; first = Writes; second = mode; one_writes = inl refl; by_first = s; by_second = t })

  -- each number at most once
  abbrev pub Fresh : List ℕ → Type 0
  Fresh cs = (x : ℕ) → times x cs ≤ once_below x n

  -- before these iterations what they touch is as it was before the loop
  pub record Ready (cs : List ℕ) (s : State) : Type 0 where
    locals : (y : Variable) → visible_behind body y ≡ true → s.locals y ≡ outer.locals y
    scalars : (y : Variable) → visible_behind body y ≡ true → s.cells y [] ≡ outer.cells y []
    elements : (c : ℕ) (u : Vector) → 1 ≤ times c cs → At c u → (y : Variable) (j : ℕ) (js : List ℕ) (mode : Mode) → TouchesAt u mode y j js → s.cells y (j ∷ js) ≡ outer.cells y (j ∷ js)

  pub first_in : (c : ℕ) (cs : List ℕ) → Fresh (c ∷ cs) → c < n
  first_in c cs fresh = below_one c n (omega (arith, fresh c, once_itself c))

  pub rest_fresh : (c : ℕ) (cs : List ℕ) → Fresh (c ∷ cs) → Fresh cs
  rest_fresh c cs fresh x = omega (arith, fresh x)

  first_there : (c : ℕ) (cs : List ℕ) → 1 ≤ times c (c ∷ cs)
  first_there c cs = omega (arith, once_itself c)

  once_at_most : (x : ℕ) → once_below x n ≤ 1
  once_at_most x = at (cases_lt x n)
    where
      at : (x < n) ⊎ (n ≤ x) → once_below x n ≤ 1
      at (inl lt) = omega (arith, once_of_below x n lt)
      at (inr le) = let h : once_below x n ≡ 0 = grind (arith, nat_tests) in omega arith

  not_again : (c : ℕ) (cs : List ℕ) → Fresh (c ∷ cs) → (d : ℕ) → 1 ≤ times d cs → d ≡ c → ⊥
  not_again c cs fresh d h e =
      let here : times c cs ≡ times d cs = ap (λ x. times x cs) (sym e) in
      absurd (omega (arith, fresh c, once_itself c, once_at_most c))

  look_alike : (c : ℕ) (cs : List ℕ) (u : Vector) (s : State) → At c u → Ready (c ∷ cs) s → LooksAlike loops body outer u s
  look_alike c cs u s p ready = record { locals = ready.locals; scalars = ready.scalars; elements = λ y j js mode t. ready.elements c u (first_there c cs) p y j js mode t }

  pub itself : (u : Vector) → LooksAlike loops body outer u outer
  itself u = record { locals = λ y h. refl; scalars = λ y h. refl; elements = λ y j js mode t. refl }

  -- the writes of an iteration are its own
  owned : (c : ℕ) (u : Vector) (p : At c u) (e : Effect) → alone u ≡ Some e → Each (IsOwnWrite loops body outer u) e.writes
  owned c u p e is = ((one_iteration loops body outer u keeps (turning u (contains_at us c u p)) outer (itself u)).left e is).own

  changes : (c : ℕ) (u : Vector) (p : At c u) (e : Effect) → alone u ≡ Some e → (s : State) → ((y : Variable) → visible_behind body y ≡ true → s.locals y ≡ outer.locals y)
      → ((y : Variable) → visible_behind body y ≡ true → s.cells y [] ≡ outer.cells y []) → Changed loops body outer u e.writes s (overwritten s e.writes)
  changes c u p e is s locals scalars = changed_all loops body outer u e.writes s (owned c u p e is) (record { locals = locals; scalars = scalars })

  hits_touch : (c : ℕ) (u : Vector) (p : At c u) (e : Effect) → alone u ≡ Some e → (y : Variable) (j : ℕ) (js : List ℕ) → hit y (j ∷ js) e.writes ≡ true → TouchesAt u Writes y j js
  hits_touch c u p e is y j js h = hit_touches loops body outer u y j js e.writes (owned c u p e is) h

  still_ready : (c : ℕ) (cs : List ℕ) (u : Vector) (s : State) (p : At c u) (e : Effect) → alone u ≡ Some e → Fresh (c ∷ cs) → Ready (c ∷ cs) s → Ready cs (overwritten s e.writes)
  still_ready c cs u s p e is fresh ready =
      let change = changes c u p e is s ready.locals ready.scalars in
      record {
        locals = change.alike.locals;
        scalars = change.alike.scalars;
        elements = λ d v h q y j js mode t.
            change.elements y j js ∙ untouched d v h q y j js mode t (hit y (j ∷ js) e.writes) refl ∙ ready.elements d v (omega (arith, h)) q y j js mode t;
      }
    where
      untouched : (d : ℕ) (v : Vector) → 1 ≤ times d cs → At d v → (y : Variable) (j : ℕ) (js : List ℕ) (mode : Mode) → TouchesAt v mode y j js → (b : Bool) → hit y (j ∷ js) e.writes ≡ b
          → acted y (j ∷ js) e.writes (s.cells y (j ∷ js)) ≡ s.cells y (j ∷ js)
      untouched d v h q y j js mode t true k = absurd (clear c d u v p q (not_again c cs fresh d h) y j js mode (hits_touch c u p e is y j js k) t)
      untouched d v h q y j js mode t false k = not_hit y (j ∷ js) e.writes (s.cells y (j ∷ js)) k

  -- in any order each iteration does what it does alone
  pub in_order : (cs : List ℕ) (s : State) → Fresh cs → Ready cs s → run_iterations loops body (picked us cs) s ≡ all_of cs
  in_order [] s fresh ready = refl
  in_order (c ∷ cs) s fresh ready =
      let found = inside us c (first_in c cs fresh) in
      let u = found.0 in
      let p = found.1 in
      ap (λ o. run_iterations loops body (with_found o (picked us cs)) s) p
      ∙ ap (λ o. then_from s o (run_iterations loops body (picked us cs))) (one_iteration loops body outer u keeps (turning u (contains_at us c u p)) s (look_alike c cs u s p ready)).same
      ∙ at u p (alone u) refl (λ e is. in_order cs (overwritten s e.writes) (rest_fresh c cs fresh) (still_ready c cs u s p e is fresh ready))
      ∙ sym (ap (λ o. both joined (option_and_then (λ u. run_iteration loops body u outer) o) (all_of cs)) p)
    where
      at : (u : Vector) → At c u → (o : Option Effect) → alone u ≡ o → ((e : Effect) → alone u ≡ Some e → run_iterations loops body (picked us cs) (overwritten s e.writes) ≡ all_of cs)
          → then_from s (alone u) (run_iterations loops body (picked us cs)) ≡ both joined (alone u) (all_of cs)
      at u p None is rest = ap (λ o. then_from s o (run_iterations loops body (picked us cs))) is ∙ sym (ap (λ o. both joined o (all_of cs)) is)
      at u p (Some e) is rest =
          ap (λ o. then_from s o (run_iterations loops body (picked us cs))) is ∙ ap (map_option (joined e)) (rest e is) ∙ joined_both e (all_of cs) ∙ sym (ap (λ o. both joined o (all_of cs)) is)

  -- what an element holds behind some
  abbrev pub acted_by : Option Effect → Variable → List ℕ → Option ℕ → Option ℕ
  acted_by None y js x = x
  acted_by (Some e) y js x = acted y js e.writes x

  abbrev pub folded : Variable → List ℕ → List ℕ → Option ℕ → Option ℕ
  folded y js [] x = x
  folded y js (c ∷ cs) x = folded y js cs (acted_by (effect_of c) y js x)

  -- it is the change of each in turn
  pub record Told (cs : List ℕ) (s : State) (e : Effect) : Type 0 where
    pub each : (c : ℕ) → 1 ≤ times c cs → (f : Effect) × (effect_of c ≡ Some f)
    pub elements : (y : Variable) (j : ℕ) (js : List ℕ) → (overwritten s e.writes).cells y (j ∷ js) ≡ folded y (j ∷ js) cs (s.cells y (j ∷ js))
    pub locals : (y : Variable) → visible_behind body y ≡ true → (overwritten s e.writes).locals y ≡ outer.locals y
    pub scalars : (y : Variable) → visible_behind body y ≡ true → (overwritten s e.writes).cells y [] ≡ outer.cells y []

  pub told : (cs : List ℕ) (s : State) (e : Effect) → Fresh cs → ((y : Variable) → visible_behind body y ≡ true → s.locals y ≡ outer.locals y)
      → ((y : Variable) → visible_behind body y ≡ true → s.cells y [] ≡ outer.cells y []) → all_of cs ≡ Some e → Told cs s e
  told [] s e fresh locals scalars is =
      let same = same_Some nothing e is in
      record {
        each = λ c h. absurd (omega (arith, h));
        elements = λ y j js. sym (ap (λ (f : Effect). (overwritten s f.writes).cells y (j ∷ js)) same);
        locals = λ y h. sym (ap (λ (f : Effect). (overwritten s f.writes).locals y) same) ∙ locals y h;
        scalars = λ y h. sym (ap (λ (f : Effect). (overwritten s f.writes).cells y []) same) ∙ scalars y h;
      }
  told (c ∷ cs) s e fresh locals scalars is =
      let parts = both_there joined (effect_of c) (all_of cs) e is in
      let found = inside us c (first_in c cs fresh) in
      let alone_is : alone found.0 ≡ Some parts.left = sym (ap (option_and_then (λ u. run_iteration loops body u outer)) found.1) ∙ parts.first in
      let change = changes c found.0 found.1 parts.left alone_is s locals scalars in
      let rest = told cs (overwritten s parts.left.writes) parts.right (rest_fresh c cs fresh) change.alike.locals change.alike.scalars parts.second in
      let behind : overwritten s e.writes ≡ overwritten (overwritten s parts.left.writes) parts.right.writes =
      sym (ap (λ (f : Effect). overwritten s f.writes) parts.is) ∙ overwritten-append s parts.left.writes parts.right.writes in
      record {
        each = λ d h. at d (d == c) refl (parts.left, parts.first) rest.each h;
        elements = λ y j js.
            ap (λ (t : State). t.cells y (j ∷ js)) behind ∙ rest.elements y j js
            ∙ ap (folded y (j ∷ js) cs) (change.elements y j js ∙ sym (ap (λ o. acted_by o y (j ∷ js) (s.cells y (j ∷ js))) parts.first));
        locals = λ y h. ap (λ (t : State). t.locals y) behind ∙ rest.locals y h;
        scalars = λ y h. ap (λ (t : State). t.cells y []) behind ∙ rest.scalars y h;
      }
    where
      at : (d : ℕ) (b : Bool) → (d == c) ≡ b → ((f : Effect) × (effect_of c ≡ Some f)) → ((x : ℕ) → 1 ≤ times x cs → (f : Effect) × (effect_of x ≡ Some f)) → 1 ≤ times d (c ∷ cs) → (f : Effect) × (effect_of d ≡ Some f)
      at d true e f rest h = (f.0, ap (λ x. option_and_then (λ u. run_iteration loops body u outer) (slice_get us x)) (eqb-true d c e) ∙ f.1)
      at d false e f rest h = rest d (let none : once d c ≡ 0 = once_other d c (λ q. true_not_false (d == c) (eq-eqb d c (sym q)) e) in omega (arith, none, h))

  -- where each has an effect, all have
  pub all_there : (cs : List ℕ) → ((c : ℕ) → 1 ≤ times c cs → (f : Effect) × (effect_of c ≡ Some f)) → (e : Effect) × (all_of cs ≡ Some e)
  all_there [] each = (nothing, refl)
  all_there (c ∷ cs) each =
      let one = each c (first_there c cs) in
      let rest = all_there cs (λ d h. each d (omega (arith, h))) in
      (joined one.0 rest.0, λ i. both joined (one.1 i) (rest.1 i))

  -- an element that is hit by one iteration at most
  module _ (y : Variable) (j : ℕ) (js : List ℕ) where
    abbrev hit_by : Option Effect → Bool
    hit_by None = false
    hit_by (Some e) = hit y (j ∷ js) e.writes

    abbrev hits : ℕ → Bool
    hits c = hit_by (effect_of c)

    not_acted : (o : Option Effect) (x : Option ℕ) → hit_by o ≡ false → acted_by o y (j ∷ js) x ≡ x
    not_acted None x h = refl
    not_acted (Some e) x h = not_hit y (j ∷ js) e.writes x h

    -- an iteration that hits it
    record Hits (c : ℕ) : Type 0 where
      vector : Vector
      here : At c vector
      touches : TouchesAt vector Writes y j js

    hits_by : (c : ℕ) → hits c ≡ true → Hits c
    hits_by c h = at (slice_get us c) refl
      where
        with_effect : (u : Vector) → At c u → (o : Option Effect) → alone u ≡ o → hit_by o ≡ true → Hits c
        with_effect u p None is k = absurd cc
        with_effect u p (Some e) is k = record { vector = u; here = p; touches = hits_touch c u p e is y j js k }

        at : (o : Option Vector) → slice_get us c ≡ o → Hits c
        at None e = absurd (true_not_false (hits c) h (ap (λ o. hit_by (option_and_then (λ u. run_iteration loops body u outer) o)) e))
        at (Some u) e = with_effect u e (alone u) refl (sym (ap (λ o. hit_by (option_and_then (λ u. run_iteration loops body u outer) o)) e) ∙ h)

    one_hits : (c d : ℕ) → hits c ≡ true → (d ≡ c → ⊥) → hits d ≡ false
    one_hits c d h other = at (hits d) refl
      where
        at : (b : Bool) → hits d ≡ b → hits d ≡ false
        at true e =
            let first = hits_by c h in
            let second = hits_by d e in
            absurd (clear c d first.vector second.vector first.here second.here other y j js Writes first.touches second.touches)
        at false e = e

    none_folded : (cs : List ℕ) (x : Option ℕ) → ((d : ℕ) → 1 ≤ times d cs → hits d ≡ false) → folded y (j ∷ js) cs x ≡ x
    none_folded [] x h = refl
    none_folded (c ∷ cs) x h = ap (folded y (j ∷ js) cs) (not_acted (effect_of c) x (h c (first_there c cs))) ∙ none_folded cs x (λ d k. h d (omega (arith, k)))

    one_folded : (c : ℕ) → ((d : ℕ) → (d ≡ c → ⊥) → hits d ≡ false) → (cs : List ℕ) (x : Option ℕ) → times c cs ≡ 1 → folded y (j ∷ js) cs x ≡ acted_by (effect_of c) y (j ∷ js) x
    one_folded c others [] x h = absurd (omega (arith, h))
    one_folded c others (d ∷ cs) x h = at (d == c) refl (λ k. one_folded c others cs x k)
      where
        at : (b : Bool) → (d == c) ≡ b → (times c cs ≡ 1 → folded y (j ∷ js) cs x ≡ acted_by (effect_of c) y (j ∷ js) x) → folded y (j ∷ js) (d ∷ cs) x ≡ acted_by (effect_of c) y (j ∷ js) x
        at true e rest =
            let same = eqb-true d c e in
            let none : times c cs ≡ 0 = omega (arith, h, ap (once c) same, once_itself c) in
            none_folded cs (acted_by (effect_of d) y (j ∷ js) x) (λ f k. others f (λ q. let w : times f cs ≡ times c cs = ap (λ z. times z cs) q in absurd (omega (arith, k, none, w))))
            ∙ ap (λ z. acted_by (option_and_then (λ u. run_iteration loops body u outer) (slice_get us z)) y (j ∷ js) x) same
        at false e rest =
            let apart : d ≡ c → ⊥ = λ q. true_not_false (d == c) (eq-eqb d c q) e in
            ap (folded y (j ∷ js) cs) (not_acted (effect_of d) x (others d apart)) ∙ rest (omega (arith, h, once_other c d apart))

    -- some iteration hits it, or none
    find : (m : ℕ) → ((c : ℕ) × (c < m) × (hits c ≡ true)) ⊎ ((c : ℕ) → c < m → hits c ≡ false)
    find zero = inr (λ c lt. absurd (omega (arith, lt)))
    find (suc m) = at (hits m) refl (find m)
      where
        last : (hits m ≡ false) → ((c : ℕ) → c < m → hits c ≡ false) → (c : ℕ) → c < suc m → hits c ≡ false
        last e rest c lt = go (c == m) refl
          where
            go : (b : Bool) → (c == m) ≡ b → hits c ≡ false
            go true q = ap (λ z. hit_by (option_and_then (λ u. run_iteration loops body u outer) (slice_get us z))) (eqb-true c m q) ∙ e
            go false q = rest c (let apart : c ≡ m → ⊥ = λ k. true_not_false (c == m) (eq-eqb c m k) q in omega (arith, lt, apart))

        at : (b : Bool) → hits m ≡ b → ((c : ℕ) × (c < m) × (hits c ≡ true)) ⊎ ((c : ℕ) → c < m → hits c ≡ false) → ((c : ℕ) × (c < suc m) × (hits c ≡ true)) ⊎ ((c : ℕ) → c < suc m → hits c ≡ false)
        at true e rest = inl (m, omega arith, e)
        at false e (inl q) = let lt = q.1 in inl (q.0, omega arith, q.2)
        at false e (inr rest) = inr (last e rest)

    -- any two orders leave the same
    pub same_folded : (cs ds : List ℕ) → EachOnceBelow n cs → EachOnceBelow n ds → (x : Option ℕ) → folded y (j ∷ js) cs x ≡ folded y (j ∷ js) ds x
    same_folded cs ds p q x = at (find n)
      where
        inside_all : (es : List ℕ) → EachOnceBelow n es → ((c : ℕ) → c < n → hits c ≡ false) → (d : ℕ) → 1 ≤ times d es → hits d ≡ false
        inside_all es r h d k = h d (below_one d n (omega (arith, r d, k)))

        at : ((c : ℕ) × (c < n) × (hits c ≡ true)) ⊎ ((c : ℕ) → c < n → hits c ≡ false) → folded y (j ∷ js) cs x ≡ folded y (j ∷ js) ds x
        at (inl h) =
            one_folded h.0 (λ d other. one_hits h.0 d h.2 other) cs x (p h.0 ∙ once_of_below h.0 n h.1)
            ∙ sym (one_folded h.0 (λ d other. one_hits h.0 d h.2 other) ds x (q h.0 ∙ once_of_below h.0 n h.1))
        at (inr h) = none_folded cs x (inside_all cs p h) ∙ sym (none_folded ds x (inside_all ds q h))

  pub fresh_of : (cs : List ℕ) → EachOnceBelow n cs → Fresh cs
  fresh_of cs h x = omega (arith, h x)

  pub ready_at_start : (cs : List ℕ) → Ready cs outer
  ready_at_start cs = record { locals = λ y h. refl; scalars = λ y h. refl; elements = λ c u h p y j js mode t. refl }

  pub any_order : (order : List ℕ) → EachOnceBelow n order → (e : Effect) → run_iterations loops body us outer ≡ Some e
      → (f : Effect) × (run_iterations loops body (picked us order) outer ≡ Some f) × SameElements (overwritten outer e.writes) (overwritten outer f.writes)
  any_order order once_each e is =
      let all = below n in
      let all_once = below_once n in
      let sequence : all_of all ≡ Some e = sym (in_order all outer (fresh_of all all_once) (ready_at_start all)) ∙ ap (λ vs. run_iterations loops body vs outer) (picked_all us) ∙ is in
      let first = told all outer e (fresh_of all all_once) (λ y h. refl) (λ y h. refl) sequence in
      let there = all_there order (λ c h. first.each c (omega (arith, all_once c, once_each c, h))) in
      let second = told order outer there.0 (fresh_of order once_each) (λ y h. refl) (λ y h. refl) there.1 in (
        there.0,
        in_order order outer (fresh_of order once_each) (ready_at_start order) ∙ there.1,
        λ y j js. first.elements y j js ∙ same_folded y j js all order all_once once_each (outer.cells y (j ∷ js)) ∙ sym (second.elements y j js),
      )

pub independent_commute : IndependentIterationsCommute
independent_commute loop outer us none keeps different turning independent order once_each e is =
    let r = any_order loop.loops loop.body outer us keeps different turning independent order once_each e is in
    (r.0, r.1, r.2, λ q h. absurd (nothing_there q (subst (λ rs. Contains rs q) none h)))
  where
    nothing_there : {A : Type 0} (x : A) → Contains [] x → ⊥
    nothing_there x h = let lt = h.1 in omega arith
