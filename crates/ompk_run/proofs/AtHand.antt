-- What is at hand where a team is handed a loop: scalars, and numbers of 64 bits.
use Rattle.std.specs.Prelude.{ℕ, Bool, true, false, not, ◌≡◌, ◌==◌, ◌&&◌, ◌||◌, ◌<◌, ◌^◌, List, [], ◌∷◌, is_some, Option, Some, None, IsSome, slice_get, option_and_then}
use Rattle.std.specs.List.{list_all}
use Rattle.std.proofs.Common.{refl, sym, ap, ◌∙◌, subst, cond, inl, inr}
use Rattle.std.proofs.lemmas.Bool.{eqb-true, or_cases, true≢false}
use Rattle.std.proofs.lemmas.Option.{none-some, get_or_from_slice_get}
use Rattle.semantics.specs.Tree.{Variable, Stmt}
use Rattle.semantics.specs.Meaning.State.{State, Slot, Outside, Empty, Holds, look, look_in, is_there}
use Rattle.semantics.specs.Meaning.Agrees.{is_among}
use Rattle.semantics.specs.Meaning.Runs.{run}
use Rattle.semantics.specs.Loops.Operator.{ReduceOp}
use Rattle.semantics.specs.Loops.Piece.{Roles, is_outside}
use Rattle.law_commute.proofs.Values.{first_of, second_of}
use Rattle.law_roles.specs.Updates.{operator_of, operands}
use Rattle.law_roles.specs.Reducing.{takes_all}
use Rattle.law_roles.specs.Sharing.{role_variables, IsScalar, HoldsNumber, TakesOperands}
use Rattle.law_independence.specs.OrderLaws.{AreAtHand}
use Rattle.law_apart.specs.Apart.{stands_there, is_at_hand}
use Rattle.store.specs.Kept.{Kept}
use Rattle.store.specs.Flat.{values_of}
use Rattle.lower_code.specs.declared.laid.Laid.{Laid}
use Rattle.lower_code.specs.Layout.{shapes_of, spot_in, spot, first_of as first_in, cell_at}
use Rattle.lower_code.proofs.Values.{bind_there}
use Rattle.lower_run.specs.Walk.{StandFor}

-- one of a list passes the test that all of it pass
pub one_of : (P : Variable → Bool) (xs : List Variable) → list_all P xs ≡ true → (x : Variable) → is_among xs x ≡ true → P x ≡ true
one_of P [] h x k = absurd (true≢false (sym k))
one_of P (y ∷ ys) h x k = go (y == x) refl k (λ q. one_of P ys (second_of (P y) (list_all P ys) h) x q)
  where
    go : (b : Bool) → (y == x) ≡ b → (b || is_among ys x) ≡ true → (is_among ys x ≡ true → P x ≡ true) → P x ≡ true
    go true e q rest = ap P (sym (eqb-true y x e)) ∙ first_of (P y) (list_all P ys) h
    go false e q rest = rest q

-- so each reduction variable holds a number
one_held : (s : State) (rs : List (Variable × ReduceOp)) → list_all (λ (r : Variable × ReduceOp). is_some (look s r.0 [])) rs ≡ true → (x : Variable) (op : ReduceOp) → operator_of rs x ≡ Some op → is_some (look s x []) ≡ true
one_held s [] h x op is = absurd (none-some op is)
one_held s (r ∷ rs) h x op is =
    go (r.0 == x) refl is (λ k. one_held s rs (second_of (is_some (look s r.0 [])) (list_all (λ (q : Variable × ReduceOp). is_some (look s q.0 [])) rs) h) x op k)
  where
    go : (b : Bool) → (r.0 == x) ≡ b → cond b (Some r.1) (operator_of rs x) ≡ Some op → (operator_of rs x ≡ Some op → is_some (look s x []) ≡ true) → is_some (look s x []) ≡ true
    go true e k rest =
        ap (λ y. is_some (look s y [])) (sym (eqb-true r.0 x e)) ∙ first_of (is_some (look s r.0 [])) (list_all (λ (q : Variable × ReduceOp). is_some (look s q.0 [])) rs) h
    go false e k rest = rest k

-- where a scalar's object lies there is no element of an array
pub no_element : (o : Option (List ℕ)) (first : ℕ) (cells cells' : List ℕ) (i : ℕ) (is : List ℕ) → is_there (option_and_then (λ k. slice_get cells k) (spot_in o first [])) ≡ true
    → option_and_then (λ k. slice_get cells' k) (spot_in o first (i ∷ is)) ≡ None
no_element None first cells cells' i is h = refl
no_element (Some []) first cells cells' i is h = refl
no_element (Some (n ∷ ns)) first cells cells' i is h = absurd (true≢false (sym h))

module _ (layout : List Laid) (mark : ℕ) (s : State) (rs : List ℕ) (ks : List Kept) (stand : StandFor layout mark s rs ks) where
  pub alone : (x : Variable) → is_there (s.cells x []) ≡ true → (cells : List ℕ) (i : ℕ) (is : List ℕ) → cell_at (shapes_of layout) cells x (i ∷ is) ≡ None
  alone x there cells i is =
      no_element (slice_get (shapes_of layout) x) (first_in (shapes_of layout) x) (values_of ks) cells i is (sym (ap is_there (stand.machine.cell x [])) ∙ there)

  scalar : (x : Variable) → stands_there s x ≡ true → IsScalar s x
  scalar x h = go (s.locals x) refl h
    where
      go : (k : Slot) → s.locals x ≡ k → (not (is_outside k) || is_there (s.cells x [])) ≡ true → IsScalar s x
      go Outside e q = inr (record { outside = e; there = q; alone = λ i is. stand.machine.cell x (i ∷ is) ∙ alone x q (values_of ks) i is })
      go Empty e q = inl (ap is_outside e)
      go (Holds n) e q = inl (ap is_outside e)

  -- what a scalar holds fits in 64 bits
  number : (x : Variable) → is_some (look s x []) ≡ true → HoldsNumber s x
  number x h = go (s.locals x) refl h
    where
      cell : (o : Option ℕ) → s.cells x [] ≡ o → is_some o ≡ true → s.locals x ≡ Outside → HoldsNumber s x
      cell None f q e = absurd (true≢false (sym q))
      cell (Some v) f q e =
          let w = bind_there (λ k. slice_get (values_of ks) k) (spot (shapes_of layout) x []) v (sym (stand.machine.cell x []) ∙ f) in
          (v, ap (λ l. look_in l s x []) e ∙ f, subst (λ m. m < 2 ^ 64) (get_or_from_slice_get (values_of ks) w.0 v 0 w.2) (stand.machine.fits.cells w.0))

      go : (k : Slot) → s.locals x ≡ k → is_some (look_in k s x []) ≡ true → HoldsNumber s x
      go Outside e q = cell (s.cells x []) refl q e
      go Empty e q = absurd (true≢false (sym q))
      go (Holds n) e q = (n, ap (λ l. look_in l s x []) e, subst (λ m. m < 2 ^ 64) (stand.machine.local x n e) (stand.machine.fits.registers x))

  module _ (roles : Roles) (a : Stmt) (h : is_at_hand roles a s ≡ true) where
    stand_all : (list_all (stands_there s) (role_variables roles) && list_all (λ (r : Variable × ReduceOp). is_some (look s r.0 [])) roles.reductions) ≡ true
    stand_all =
        first_of (list_all (stands_there s) (role_variables roles) && list_all (λ (r : Variable × ReduceOp). is_some (look s r.0 [])) roles.reductions) (takes_all roles.reductions || is_some (run (operands roles.reductions a) s)) h

    pub held : (x : Variable) (op : ReduceOp) → operator_of roles.reductions x ≡ Some op → IsSome (look s x [])
    held x op is =
        one_held s roles.reductions (second_of (list_all (stands_there s) (role_variables roles)) (list_all (λ (r : Variable × ReduceOp). is_some (look s r.0 [])) roles.reductions) stand_all) x op is

    taken : TakesOperands roles.reductions a s
    taken =
        or_cases (takes_all roles.reductions) (is_some (run (operands roles.reductions a) s))
        (second_of (list_all (stands_there s) (role_variables roles) && list_all (λ (r : Variable × ReduceOp). is_some (look s r.0 [])) roles.reductions) (takes_all roles.reductions || is_some (run (operands roles.reductions a) s)) h)

    pub at_hand : AreAtHand roles a s
    at_hand = record {
      scalars = λ x role. scalar x (one_of (stands_there s) (role_variables roles) (first_of (list_all (stands_there s) (role_variables roles)) (list_all (λ (r : Variable × ReduceOp). is_some (look s r.0 [])) roles.reductions) stand_all) x role);
      numbers = λ x op is. number x (held x op is);
      taken = taken;
    }
