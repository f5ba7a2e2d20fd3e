-- A loop's turns beside the vectors of the loops inside it: both split at the first turn.
use Rattle.std.specs.Prelude.{ℕ, zero, suc, Bool, true, false, ◌≡◌, List, [], ◌∷◌, ◌++◌, map, Option, Some, None, option_and_then}
use Rattle.std.proofs.Common.{refl, sym, ap, ◌∙◌, subst}
use Rattle.std.proofs.lemmas.Option.{same_Some, none-some}
use Rattle.semantics.specs.Tree.{Name, Variable, Stmt, For}
use Rattle.semantics.specs.Meaning.State.{State, Holds, Declared, Assigned, with_local, overwritten, look, look_in}
use Rattle.semantics.specs.Meaning.Value.{source_value, holds, by_test, both, map_option}
use Rattle.semantics.specs.Meaning.Runs.{Effect, nothing, one_write, joined, then_from, declares, incremented, turns, run, greatest_trip_count}
use Rattle.semantics.specs.Meaning.Agrees.{also}
use Rattle.semantics.specs.Loops.Nest.{Loop, Vector, nest_of, at_value, values_from, iterations, concat_options}
use Rattle.semantics.proofs.NestLaw.{local_same, local_twice}
use Rattle.law_commute.specs.Steady.{IsFixedSource, IsFixedCond, IsFixedStep}
use Rattle.law_commute.proofs.Values.{fixed_source, fixed_holds}
use Rattle.law_commute.proofs.Matched.{overwritten-append}
use Rattle.law_commute.proofs.Paths.{BothThere, both_there}
use Rattle.law_commute.proofs.Framed.{step_number, number_to, step_is, step_same, also_itself}
use Rattle.law_nests.proofs.Steadied.{SameFixed, step_left}

-- what is mapped was there
mapped : {A B : Type 0} (f : A → B) (o : Option A) (b : B) → map_option f o ≡ Some b → (a : A) × (o ≡ Some a) × (f a ≡ b)
mapped f None b h = absurd (none-some b h)
mapped f (Some a) b h = (a, refl, same_Some (f a) b h)

-- of a nest inside a loop
pub inner_nest_is : (body : Stmt) (n : ℕ) (l : Loop) (b : Stmt) (ls : List Loop) → map_option {B = List Loop × Stmt} (λ (found : List Loop × Stmt). (l ∷ found.0, found.1)) (nest_of n b) ≡ Some (ls, body)
    → (rest : List Loop) × (nest_of n b ≡ Some (rest, body)) × (l ∷ rest ≡ ls)
inner_nest_is body n l b ls h =
    let m = mapped {B = List Loop × Stmt} (λ (found : List Loop × Stmt). (l ∷ found.0, found.1)) (nest_of n b) (ls, body) h in
    (m.0.0, m.1 ∙ ap (λ z. Some (m.0.0, z)) (ap (λ (q : List Loop × Stmt). q.1) m.2), ap (λ (q : List Loop × Stmt). q.0) m.2)

-- a loop, with loops inside it, from a state round it
module _ (s : State) (l : Loop) (ls : List Loop) where
  abbrev x : Variable
  x = l.variable

  abbrev base : ℕ → State
  base v = at_value s x v

  abbrev all_inside : ℕ → Option (List Vector)
  all_inside v = map_option (map (λ u. v ∷ u)) (iterations ls (base v))

  abbrev joined_values : List ℕ → Option (List Vector)
  joined_values vs = concat_options (map all_inside vs)

  -- the values of its turns
  record Values (us : List Vector) : Type 0 where
    first : ℕ
    values : List ℕ
    first_is : source_value s l.start ≡ Some first
    are : values_from greatest_trip_count l (base first) ≡ Some values
    all : joined_values values ≡ Some us

  values_there : (us : List Vector) → iterations (l ∷ ls) s ≡ Some us → Values us
  values_there us are = at (source_value s l.start) refl are
    where
      counted : (v : ℕ) → source_value s l.start ≡ Some v → (o : Option (List ℕ)) → values_from greatest_trip_count l (base v) ≡ o → option_and_then joined_values o ≡ Some us → Values us
      counted v e None k h = absurd (none-some us h)
      counted v e (Some vs) k h = record { first = v; values = vs; first_is = e; are = k; all = h }

      at : (o : Option ℕ) → source_value s l.start ≡ o → option_and_then joined_values (option_and_then (λ v. values_from greatest_trip_count l (base v)) o) ≡ Some us → Values us
      at None e h = absurd (none-some us h)
      at (Some v) e h = counted v e (values_from greatest_trip_count l (base v)) refl h

  -- the vectors of a turn, the next value, and those of the turns from it on
  record Onward (k v : ℕ) (us : List Vector) : Type 0 where
    next : ℕ
    later : List ℕ
    first_us : List Vector
    later_us : List Vector
    stepped : step_number (base v) l.step ≡ Some next
    first : iterations ls (base v) ≡ Some first_us
    values : values_from k l (base next) ≡ Some later
    rest : joined_values later ≡ Some later_us
    all : map (λ u. v ∷ u) first_us ++ later_us ≡ us

  module _ (F : Variable → Bool) (test_fixed : IsFixedCond (also F x) l.test) (step_fixed : IsFixedStep (also F x) x l.step) where
    -- a state in which what is fixed is as at a value holds that, and tests and steps as there
    held : (v : ℕ) (r : State) → SameFixed (also F x) r (base v) → r.locals x ≡ Holds v
    held v r same = (same x (also_itself F x)).locals ∙ local_same s x (Holds v)

    same_test : (v : ℕ) (r : State) → SameFixed (also F x) r (base v) → holds r l.test ≡ holds (base v) l.test
    same_test v r same = fixed_holds (also F x) r (base v) same l.test test_fixed

    steps : (v : ℕ) (r : State) → SameFixed (also F x) r (base v) → (o : Option ℕ) → step_number (base v) l.step ≡ o → incremented r l.step ≡ number_to x o
    steps v r same o stepped =
        step_is (also F x) r x v l.step (held v r same) step_fixed
        ∙ ap (number_to x) (step_same (also F x) r (base v) same x (also_itself F x) l.step step_fixed ∙ stepped)

    base_steps : (v : ℕ) (o : Option ℕ) → step_number (base v) l.step ≡ o → incremented (base v) l.step ≡ number_to x o
    base_steps v o stepped = steps v (base v) (λ y h. record { locals = refl; cells = λ k. refl }) o stepped

    base_left : (v w : ℕ) → overwritten (base v) (Assigned x [] w ∷ []) ≡ base w
    base_left v w = step_left (base v) x v w (local_same s x (Holds v)) ∙ local_twice s x (Holds v) (Holds w)

    onward : (k v : ℕ) (vs : List ℕ) (us : List Vector) → holds (base v) l.test ≡ Some true → values_from (suc k) l (base v) ≡ Some vs → joined_values vs ≡ Some us → Onward k v us
    onward k v vs us tested are all = at (step_number (base v) l.step) refl
      where
        from : Effect → Option (List ℕ)
        from e = values_from k l (overwritten (base v) e.writes)

        behind_step : Option (List ℕ)
        behind_step = option_and_then from (incremented (base v) l.step)

        p : BothThere (λ z zs. z ∷ zs) (look (base v) x []) behind_step vs
        p = both_there (λ z zs. z ∷ zs) (look (base v) x []) behind_step vs (sym (ap (λ c. by_test c (both (λ z zs. z ∷ zs) (look (base v) x []) behind_step) (Some [])) tested) ∙ are)

        here : p.left ≡ v
        here = same_Some p.left v (sym p.first ∙ ap (λ slot. look_in slot (base v) x []) (local_same s x (Holds v)))

        q : BothThere (λ a c. a ++ c) (all_inside v) (joined_values p.right) us
        q = both_there (λ a c. a ++ c) (all_inside v) (joined_values p.right) us (ap (λ z. joined_values (z ∷ p.right)) (sym here) ∙ ap joined_values p.is ∙ all)

        at : (o : Option ℕ) → step_number (base v) l.step ≡ o → Onward k v us
        at None stepped = absurd (none-some p.right (sym (ap (option_and_then from) (base_steps v None stepped)) ∙ p.second))
        at (Some w) stepped =
            let m = mapped (map (λ u. v ∷ u)) (iterations ls (base v)) q.left q.first in
            record {
              next = w;
              later = p.right;
              first_us = m.0;
              later_us = q.right;
              stepped = stepped;
              first = m.1;
              values = ap (values_from k l) (sym (base_left v w)) ∙ sym (ap (option_and_then from) (base_steps v (Some w) stepped)) ∙ p.second;
              rest = q.second;
              all = ap (λ a. a ++ q.right) m.2 ∙ q.is;
            }

    module _ (b : Stmt) where
      abbrev turning : ℕ → State → Option Effect
      turning k = turns k (λ q. holds q l.test) (run b) (λ q. incremented q l.step)

      -- what the step and the turns behind it do, as from where the variable has the next value
      record Behind (k w : ℕ) (r : State) (e : Effect) : Type 0 where
        effect : Effect
        ran : turning k (with_local r x (Holds w)) ≡ Some effect
        left : overwritten (with_local r x (Holds w)) effect.writes ≡ overwritten r e.writes
        text : effect.text ≡ e.text

      behind : (k v w : ℕ) (r : State) (e : Effect) → SameFixed (also F x) r (base v) → step_number (base v) l.step ≡ Some w → then_from r (incremented r l.step) (turning k) ≡ Some e → Behind k w r e
      behind k v w r e same stepped ran =
          let one : Effect = one_write (Assigned x [] w) in
          let moved : overwritten r one.writes ≡ with_local r x (Holds w) = step_left r x v w (held v r same) in
          let m = mapped (joined one) (turning k (overwritten r one.writes)) e (sym (ap (λ o. then_from r o (turning k)) (steps v r same (Some w) stepped)) ∙ ran) in
          record {
            effect = m.0;
            ran = ap (turning k) (sym moved) ∙ m.1;
            left = ap (λ q. overwritten q m.0.writes) (sym moved) ∙ ap (λ (f : Effect). overwritten r f.writes) m.2;
            text = ap (λ (f : Effect). f.text) m.2;
          }

      -- Inside: the loop runs in one state at this value, and its vectors in the other. Ends: these vectors print this, and leave what goes with such a state
      module _ (Inside : ℕ → State → State → Type 0) (Ends : List Vector → State → List ℕ → State → Type 0) (fixed : (v : ℕ) (r t : State) → Inside v r t → SameFixed (also F x) r (base v))
          (moves : (v w : ℕ) (r t : State) → Inside v r t → Inside w (with_local r x (Holds w)) t) (ended : (v : ℕ) (r t : State) → Inside v r t → Ends [] t [] r)
          (turn : (v : ℕ) (first_us later_us : List Vector) (r t : State) (one : Effect) (text : List ℕ) (q : State) → Inside v r t → iterations ls (base v) ≡ Some first_us → run b r ≡ Some one
          → ((t' : State) → Inside v (overwritten r one.writes) t' → Ends later_us t' text q) → Ends (map (λ u. v ∷ u) first_us ++ later_us) t (one.text ++ text) q) where
        abbrev Done : List Vector → State → State → Effect → Type 0
        Done us r t e = Ends us t e.text (overwritten r e.writes)

        -- what so many turns do
        abbrev AllGo : ℕ → Type 0
        AllGo k =
            (v : ℕ) (vs : List ℕ) (us : List Vector) (r t : State) (e : Effect) → Inside v r t → values_from k l (base v) ≡ Some vs → joined_values vs ≡ Some us → turning k r ≡ Some e → Done us r t e

        -- no turn is left
        none_left : (v : ℕ) (vs : List ℕ) (us : List Vector) (r t : State) (e : Effect) → Inside v r t → [] ≡ vs → joined_values vs ≡ Some us → nothing ≡ e → Done us r t e
        none_left v vs us r t e inside none all ran =
            subst (λ (ws : List Vector). Done ws r t e) (same_Some [] us (ap joined_values none ∙ all)) (subst (λ (f : Effect). Done [] r t f) ran (ended v r t inside))

        -- one turn and those behind it
        one_turn : (k v : ℕ) (vs : List ℕ) (us : List Vector) (r t : State) (e : Effect) → Inside v r t → holds r l.test ≡ Some true → values_from (suc k) l (base v) ≡ Some vs → joined_values vs ≡ Some us
            → then_from r (run b r) (λ q. then_from q (incremented q l.step) (turning k)) ≡ Some e → AllGo k → Done us r t e
        one_turn k v vs us r t e inside tested are all ran later = at (run b r) refl ran
          where
            next : State → Option Effect
            next q = then_from q (incremented q l.step) (turning k)

            at : (o : Option Effect) → run b r ≡ o → then_from r o next ≡ Some e → Done us r t e
            at None is h = absurd (none-some e h)
            at (Some one) is h =
                let r' : State = overwritten r one.writes in
                let m = mapped (joined one) (next r') e h in
                let o = onward k v vs us (sym (same_test v r (fixed v r t inside)) ∙ tested) are all in
                let left : overwritten r' m.0.writes ≡ overwritten r e.writes = sym (overwritten-append r one.writes m.0.writes) ∙ ap (λ (f : Effect). overwritten r f.writes) m.2 in
                subst (λ z. Ends us t z (overwritten r e.writes)) (ap (λ (f : Effect). f.text) m.2)
                (subst (λ (ws : List Vector). Ends ws t (one.text ++ m.0.text) (overwritten r e.writes)) o.all
                (turn v o.first_us o.later_us r t one m.0.text (overwritten r e.writes) inside o.first is
                (λ t' there.
                let f = behind k v o.next r' m.0 (fixed v r' t' there) o.stepped m.1 in
                subst (λ z. Ends o.later_us t' z (overwritten r e.writes)) f.text
                (subst (λ q. Ends o.later_us t' f.effect.text q) (f.left ∙ left)
                (later o.next o.later o.later_us (with_local r' x (Holds o.next)) t' f.effect (moves v o.next r' t' there) o.values o.rest f.ran)))))

        -- by the test
        tested : (v : ℕ) (vs : List ℕ) (us : List Vector) (r t : State) (e : Effect) (more : Option (List ℕ)) (goes : Option Effect) → Inside v r t → by_test (holds (base v) l.test) more (Some []) ≡ Some vs → joined_values vs ≡ Some us
            → by_test (holds r l.test) goes (Some nothing) ≡ Some e → (holds r l.test ≡ Some true → goes ≡ Some e → Done us r t e) → Done us r t e
        tested v vs us r t e more goes inside are all ran turns_on = at (holds r l.test) refl
          where
            at : (c : Option Bool) → holds r l.test ≡ c → Done us r t e
            at None is = absurd (none-some e (sym (ap (λ c. by_test c goes (Some nothing)) is) ∙ ran))
            at (Some true) is = turns_on is (sym (ap (λ c. by_test c goes (Some nothing)) is) ∙ ran)
            at (Some false) is =
                none_left v vs us r t e inside (same_Some [] vs (sym (ap (λ c. by_test c more (Some [])) (sym (same_test v r (fixed v r t inside)) ∙ is)) ∙ are)) all
                (same_Some nothing e (sym (ap (λ c. by_test c goes (Some nothing)) is) ∙ ran))

        -- all turns
        all_turns : (k : ℕ) → AllGo k
        all_turns zero v vs us r t e inside are all ran = tested v vs us r t e None None inside are all ran (λ is h. absurd (none-some e h))
        all_turns (suc k) v vs us r t e inside are all ran =
            tested v vs us r t e (both (λ z zs. z ∷ zs) (look (base v) x []) (option_and_then (λ (f : Effect). values_from k l (overwritten (base v) f.writes)) (incremented (base v) l.step)))
            (then_from r (run b r) (λ q. then_from q (incremented q l.step) (turning k))) inside are all ran (λ is h. one_turn k v vs us r t e inside is are all h (all_turns k))

        -- the loop, from its start
        pub loop_goes : (name : Name) (us : List Vector) (r t : State) (e : Effect) → IsFixedSource F l.start → SameFixed F r s → ((v : ℕ) → Inside v (with_local r x (Holds v)) t) → iterations (l ∷ ls) s ≡ Some us
            → run (For x name l.start l.test l.step b) r ≡ Some e → Ends us t e.text (overwritten r e.writes)
        loop_goes name us r t e start_fixed same begun are ran =
            let vs = values_there us are in
            let one : Effect = one_write (Declared x (Some vs.first)) in
            let starts : source_value r l.start ≡ Some vs.first = fixed_source F r s same l.start start_fixed ∙ vs.first_is in
            let m = mapped (joined one) (turning greatest_trip_count (overwritten r one.writes)) e (sym (ap (λ o. then_from r (declares x o) (turning greatest_trip_count)) starts) ∙ ran) in
            subst (λ (f : Effect). Done us r t f) m.2 (all_turns greatest_trip_count vs.first vs.values us (with_local r x (Holds vs.first)) t m.0 (begun vs.first) vs.are vs.all m.1)
