-- How a run goes on, step by step.
use Rattle.std.proofs.Common.{◌≡◌, ℕ, zero, suc, ◌+◌, ◌-◌, ◌<◌, ◌≤◌, Bool, true, false, List, [], ◌∷◌, ◌++◌, Option, Some, None, IsSome, refl, sym, ap, ◌∙◌, subst, arith, append_assoc, append-nil}
use Rattle.semantics.specs.Tree.{Source}
use Rattle.semantics.specs.Meaning.State.{State, Holds, Write, with_local, written, overwritten}
use Rattle.semantics.specs.Meaning.Value.{by_test, map_option, source_value}
use Rattle.semantics.specs.Meaning.Runs.{Effect, nothing, joined, then_from, declared, turns, greatest_trip_count}
use Rattle.seqrun_io.specs.Told.{AddsBeginning}
use Rattle.seqrun_io.proofs.Beginnings.{whole, of_front, of_rest}
use Rattle.seqrun.specs.Ran.{Ran, Ended, text_of}
use Rattle.seqrun.proofs.WriteLemmas.{value_declared}

-- a run as far as it has come: what was done first, and the rest, which is done from the state here
pub record Going (all rest : Option Effect) (state state' : State) (text text' : List ℕ) : Type 0 where
  pub effect : Effect
  pub is : all ≡ map_option (joined effect) rest
  pub left : state' ≡ overwritten state effect.writes
  pub printed : text' ≡ text ++ effect.text

pub overwritten-append : (s : State) (ws vs : List Write) → overwritten s (ws ++ vs) ≡ overwritten (overwritten s ws) vs
overwritten-append s [] vs = refl
overwritten-append s (w ∷ ws) vs = overwritten-append (written s w) ws vs

joined_assoc : (a b c : Effect) → joined (joined a b) c ≡ joined a (joined b c)
joined_assoc a b c = λ i. record { writes = append_assoc a.writes b.writes c.writes i; text = append_assoc a.text b.text c.text i }

map_joined_assoc : (a b : Effect) (o : Option Effect) → map_option (joined a) (map_option (joined b) o) ≡ map_option (joined (joined a b)) o
map_joined_assoc a b None = refl
map_joined_assoc a b (Some c) = ap Some (sym (joined_assoc a b c))

map_joined_nothing : (o : Option Effect) → o ≡ map_option (joined nothing) o
map_joined_nothing None = refl
map_joined_nothing (Some e) = refl

-- a run as it begins
pub going_from : (all : Option Effect) (s : State) (t : List ℕ) → Going all all s s t t
going_from all s t = record { effect = nothing; is = map_joined_nothing all; left = refl; printed = sym (append-nil t) }

pub going_same : (all rest rest' : Option Effect) (s s' : State) (t t' : List ℕ) → rest ≡ rest' → Going all rest s s' t t' → Going all rest' s s' t t'
going_same all rest rest' s s' t t' e g = subst (λ r. Going all r s s' t t') e g

-- one step more
pub going_on : (all r : Option Effect) (next : State → Option Effect) (s s' s'' : State) (t t' t'' : List ℕ) → Going all (then_from s' r next) s s' t t' → Ran r s' s'' t' t'' → Going all (next s'') s s'' t t''
going_on all r next s s' s'' t t' t'' g d =
    record {
      effect = joined g.effect d.effect;
      is = g.is ∙ ap (map_option (joined g.effect)) (ap (λ o. then_from s' o next) d.is ∙ ap (λ u. map_option (joined d.effect) (next u)) (sym d.left)) ∙ map_joined_assoc g.effect d.effect (next s'');
      left = d.left ∙ ap (λ u. overwritten u d.effect.writes) g.left ∙ sym (overwritten-append s g.effect.writes d.effect.writes);
      printed = d.printed ∙ ap (λ u. u ++ d.effect.text) g.printed ∙ append_assoc t g.effect.text d.effect.text;
    }

pub ran_from_ended : (r : Option Effect) (s s' : State) (t : List ℕ) → Ended r s s' → Ran r s s' t t
ran_from_ended r s s' t e = record { effect = record { writes = e.writes; text = [] }; is = e.is; left = e.left; printed = sym (append-nil t) }

-- a run that is over
pub going_over : (all : Option Effect) (s s' : State) (t t' : List ℕ) → Going all (Some nothing) s s' t t' → Ran all s s' t t'
going_over all s s' t t' g =
    record {
      effect = joined g.effect nothing;
      is = g.is;
      left = g.left ∙ ap (overwritten s) (sym (append-nil g.effect.writes));
      printed = g.printed ∙ ap (λ u. t ++ u) (sym (append-nil g.effect.text));
    }

-- what ran printed all its text
pub ran_begun : (all : Option Effect) (s s' : State) (t t' : List ℕ) → Ran all s s' t t' → AddsBeginning t t' (text_of all)
ran_begun all s s' t t' r = whole t t' (text_of all) (r.printed ∙ ap (λ (o : Option Effect). t ++ text_of o) (sym r.is))

no_run : (all : Option Effect) → all ≡ None → IsSome all → ⊥
no_run None e h = cc
no_run (Some a) e h = cc

-- a run that stops here printed a beginning
pub going_stops : (all rest : Option Effect) (s s' : State) (t t' : List ℕ) → Going all rest s s' t t' → IsSome all → AddsBeginning t t' (text_of all)
going_stops all None s s' t t' g h = absurd (no_run all g.is h)
going_stops all (Some e) s s' t t' g h =
    subst (λ (o : Option Effect). AddsBeginning t t' (text_of o)) (sym g.is) (g.effect.text, g.printed, (e.text, refl))

-- so did one that stops in its next step
pub going_begun : (all r : Option Effect) (next : State → Option Effect) (s s' : State) (t t' t'' : List ℕ) → Going all (then_from s' r next) s s' t t' → IsSome all → AddsBeginning t' t'' (text_of r) → AddsBeginning t t'' (text_of all)
going_begun all None next s s' t t' t'' g h begun = absurd (no_run all g.is h)
going_begun all (Some f) next s s' t t' t'' g h begun = go (next (overwritten s' f.writes)) g.is
  where
    go : (o : Option Effect) → all ≡ map_option (joined g.effect) (map_option (joined f) o) → AddsBeginning t t'' (text_of all)
    go None e = absurd (no_run all e h)
    go (Some a) e =
        subst (λ (o : Option Effect). AddsBeginning t t'' (text_of o)) (sym e) (of_rest t t' t'' g.effect.text (f.text ++ a.text) g.printed (of_front t' t'' f.text a.text begun))

joined_some : (a : Effect) (o : Option Effect) → IsSome (map_option (joined a) o) → IsSome o
joined_some a None h = cc
joined_some a (Some e) h = refl

pub rest_some : (all rest : Option Effect) (s s' : State) (t t' : List ℕ) → Going all rest s s' t t' → IsSome all → IsSome rest
rest_some all rest s s' t t' g h = joined_some g.effect rest (subst IsSome g.is h)

pub first_some : (s : State) (r : Option Effect) (next : State → Option Effect) → IsSome (then_from s r next) → IsSome r
first_some s None next h = cc
first_some s (Some e) next h = refl

module _ (test : State → Option Bool) (body step : State → Option Effect) where
  abbrev others : ℕ → State → Option Effect
  others n s = then_from s (body s) (λ t. then_from t (step t) (turns n test body step))

  -- a loop as it begins
  pub loop_begun : (s s' : State) (x : ℕ) (start : Source) (v : ℕ) (t : List ℕ) → source_value s start ≡ Some v → s' ≡ with_local s x (Holds v) → Going (then_from s (declared s x (Some start)) (turns greatest_trip_count test body step)) (turns (greatest_trip_count - 0) test body step s') s s' t t
  unfolding greatest_trip_count
  loop_begun s s' x start v t is e =
      going_on _ (declared s x (Some start)) (turns greatest_trip_count test body step) s s s' t t t (going_from _ s t) (ran_from_ended _ s s' t (value_declared s s' x start v is e))

  test_of_both : (o : Option Bool) (a b : Option Effect) → IsSome (by_test o a b) → IsSome o
  test_of_both None a b h = cc
  test_of_both (Some t) a b h = refl

  -- a loop looks at its test first
  pub test_some : (n : ℕ) (s : State) → IsSome (turns n test body step s) → IsSome (test s)
  test_some zero s h = test_of_both (test s) None (Some nothing) h
  test_some (suc n) s h = test_of_both (test s) (others n s) (Some nothing) h

  -- it is over where the test fails
  pub turns_over : (n : ℕ) (s : State) → test s ≡ Some false → turns n test body step s ≡ Some nothing
  turns_over zero s e = ap (λ o. by_test o None (Some nothing)) e
  turns_over (suc n) s e = ap (λ o. by_test o (others n s) (Some nothing)) e

  -- and goes on where it holds
  pub turns_on : (k : ℕ) (s : State) → k < 18446744073709551615 → test s ≡ Some true → turns (greatest_trip_count - k) test body step s ≡ others (greatest_trip_count - (k + 1)) s
  unfolding greatest_trip_count
  turns_on k s lt e =
      let n : greatest_trip_count - k ≡ suc (greatest_trip_count - (k + 1)) = omega arith in
      ap (λ m. turns m test body step s) n ∙ ap (λ o. by_test o (others (greatest_trip_count - (k + 1)) s) (Some nothing)) e

  turns_none : (o : Option Bool) → IsSome (by_test o None (Some nothing)) → by_test o None (Some nothing) ≡ Some nothing
  turns_none None h = cc
  turns_none (Some true) h = cc
  turns_none (Some false) h = refl

  -- no turn is left after the last
  pub turns_last : (k : ℕ) (s : State) → 18446744073709551615 ≤ k → IsSome (turns (greatest_trip_count - k) test body step s) → turns (greatest_trip_count - k) test body step s ≡ Some nothing
  unfolding greatest_trip_count
  turns_last k s le h =
      let n : greatest_trip_count - k ≡ 0 = omega arith in
      ap (λ m. turns m test body step s) n ∙ turns_none (test s) (subst (λ m. IsSome (turns m test body step s)) n h)

  -- a loop's run after its body, and before its step
  pub after_body : (all : Option Effect) (k : ℕ) (s s' s'' : State) (t t' t'' : List ℕ) → k < 18446744073709551615 → test s' ≡ Some true → Going all (turns (greatest_trip_count - k) test body step s') s s' t t' → Ran (body s') s' s'' t' t'' → Going all (then_from s'' (step s'') (turns (greatest_trip_count - (k + 1)) test body step)) s s'' t t''
  after_body all k s s' s'' t t' t'' lt e g d =
      going_on all (body s') (λ u. then_from u (step u) (turns (greatest_trip_count - (k + 1)) test body step)) s s' s'' t t' t'' (going_same all _ _ s s' t t' (turns_on k s' lt e) g) d

  -- a loop that stops in its body
  pub body_begun : (all : Option Effect) (k : ℕ) (s s' : State) (t t' t'' : List ℕ) → k < 18446744073709551615 → test s' ≡ Some true → Going all (turns (greatest_trip_count - k) test body step s') s s' t t' → IsSome all → AddsBeginning t' t'' (text_of (body s')) → AddsBeginning t t'' (text_of all)
  body_begun all k s s' t t' t'' lt e g h begun =
      going_begun all (body s') (λ u. then_from u (step u) (turns (greatest_trip_count - (k + 1)) test body step)) s s' t t' t'' (going_same all _ _ s s' t t' (turns_on k s' lt e) g) h begun
