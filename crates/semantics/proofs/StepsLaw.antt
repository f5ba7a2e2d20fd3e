-- The other way round: what the function gives is a run by the rules.
use Rattle.std.specs.Prelude.{ℕ, zero, suc, Bool, true, false, ◌≡◌, ◌≤◌, List, [], Option, Some, None}
use Rattle.std.proofs.Common.{refl, ap, ◌∙◌, subst, arith, cond}
use Rattle.semantics.specs.Tree.{Variable, Cond, Source, Increment, PrintPart, Stmt, Assign, Update, If, IfElse, For, Block, Print, Items, no_items, mark, local, stmt}
use Rattle.semantics.specs.Meaning.State.{State, Assigned, overwritten, is_object}
use Rattle.semantics.specs.Meaning.Value.{values, holds, source_value, by_test, map_option}
use Rattle.semantics.specs.Meaning.Runs.{Effect, nothing, one_write, joined, then_from, declares, declared, assigned, incremented, print_text, turns, greatest_trip_count, run, run_items}
use Rattle.semantics.specs.Meaning.Steps.{Steps, Turns, StepsItems, assigns, updates, if_holds, if_not, first, second, loops, block, prints, over, turn, over_items, passed, declares_one, does_one}
use Rattle.std.proofs.lemmas.Option.{same_Some}

-- a step and then another had both
record Parted (s : State) (o : Option Effect) (next : State → Option Effect) (e : Effect) : Type 0 where
  a : Effect
  b : Effect
  one : o ≡ Some a
  two : next (overwritten s a.writes) ≡ Some b
  whole : joined a b ≡ e

parted : (s : State) (o : Option Effect) (next : State → Option Effect) (e : Effect) → then_from s o next ≡ Some e → Parted s o next e
parted s None next e h = absurd cc
parted s (Some a) next e h = behind (next (overwritten s a.writes)) refl h
  where
    behind : (p : Option Effect) → next (overwritten s a.writes) ≡ p → map_option (joined a) p ≡ Some e → Parted s (Some a) next e
    behind None q k = absurd cc
    behind (Some b) q k = record { a = a; b = b; one = refl; two = q; whole = same_Some _ _ k }

-- a test held or not
record Chosen (o : Option Bool) (a b : Option Effect) (e : Effect) : Type 0 where
  yes : Bool
  test : o ≡ Some yes
  is : cond yes a b ≡ Some e

chosen : (o : Option Bool) (a b : Option Effect) (e : Effect) → by_test o a b ≡ Some e → Chosen o a b e
chosen None a b e h = absurd cc
chosen (Some true) a b e h = record { yes = true; test = refl; is = h }
chosen (Some false) a b e h = record { yes = false; test = refl; is = h }

-- a run by the rules, for an effect
abbrev DoesStmt : Stmt → State → Effect → Type 0
DoesStmt a s e = Steps a s e.writes e.text

abbrev DoesItems : Items → State → Effect → Type 0
DoesItems items s e = StepsItems items s e.writes e.text

record TurnsTo (test : Cond) (step : Increment) (body : Stmt) (m : ℕ) (s : State) (e : Effect) : Type 0 where
  n : ℕ
  at_most : n ≤ m
  made : Turns test step body n s e.writes e.text

assign_steps : (x : Variable) (is : _) (e : Source) (s : State) (ks : Option (List ℕ)) (v : Option ℕ) (f : Effect) → values s is ≡ ks → source_value s e ≡ v → assigned s x ks v ≡ Some f → DoesStmt (Assign x is e) s f
assign_steps x is e s (Some ks) (Some v) f p q h = go (is_object s x ks) refl h
  where
    go : (b : Bool) → is_object s x ks ≡ b → cond b (Some (one_write (Assigned x ks v))) None ≡ Some f → DoesStmt (Assign x is e) s f
    go true r k = subst (DoesStmt (Assign x is e) s) (same_Some _ _ k) (assigns p q r)
    go false r k = absurd cc
assign_steps x is e s (Some ks) None f p q h = absurd cc
assign_steps x is e s None v f p q h = absurd cc

one_way : (c : Cond) (a : Stmt) (s : State) (e : Effect) (b : Bool) → holds s c ≡ Some b → cond b (run a s) (Some nothing) ≡ Some e → (run a s ≡ Some e → DoesStmt a s e) → DoesStmt (If c a) s e
one_way c a s e true t k r = if_holds t (r k)
one_way c a s e false t k r = subst (DoesStmt (If c a) s) (same_Some _ _ k) (if_not t)

two_ways : (c : Cond) (a b : Stmt) (s : State) (e : Effect) (y : Bool) → holds s c ≡ Some y → cond y (run a s) (run b s) ≡ Some e → (run a s ≡ Some e → DoesStmt a s e) → (run b s ≡ Some e → DoesStmt b s e) → DoesStmt (IfElse c a b) s e
two_ways c a b s e true t k r q = first t (r k)
two_ways c a b s e false t k r q = second t (q k)

print_steps : (parts : List PrintPart) (s : State) (o : Option (List ℕ)) (e : Effect) → print_text s parts ≡ o → map_option (λ t. record { writes = []; text = t }) o ≡ Some e → DoesStmt (Print parts) s e
print_steps parts s None e p h = absurd cc
print_steps parts s (Some t) e p h = subst (DoesStmt (Print parts) s) (same_Some _ _ h) (prints p)

-- a loop's turns, where each run of its body is one by the rules
module _ (test : Cond) (step : Increment) (body : Stmt) (does : (s : State) (e : Effect) → run body s ≡ Some e → DoesStmt body s e) where
  abbrev all_turns : ℕ → State → Option Effect
  all_turns m = turns m (λ u. holds u test) (run body) (λ u. incremented u step)

  none_left : (m : ℕ) (s : State) (e : Effect) (t : holds s test ≡ Some false) → nothing ≡ e → TurnsTo test step body m s e
  none_left m s e t q = subst (TurnsTo test step body m s) q (record { n = zero; at_most = omega arith; made = over t })

  one_more : (m : ℕ) (s : State) (e : Effect) (t : holds s test ≡ Some true) (p : Parted s (run body s) (λ u. then_from u (incremented u step) (all_turns m)) e) (q : Parted (overwritten s p.a.writes) (incremented (overwritten s p.a.writes) step) (all_turns m) p.b) → TurnsTo test step body m (overwritten (overwritten s p.a.writes) q.a.writes) q.b → TurnsTo test step body (suc m) s e
  one_more m s e t p q r =
      subst (TurnsTo test step body (suc m) s) (ap (joined p.a) q.whole ∙ p.whole)
      (record { n = suc r.n; at_most = omega (arith, r.at_most); made = turn t (does s p.a p.one) q.one r.made })

  abbrev one_turn : ℕ → State → Option Effect
  one_turn m s = then_from s (run body s) (λ u. then_from u (incremented u step) (all_turns m))

  ended : (s : State) (e : Effect) (y : Bool) → holds s test ≡ Some y → cond y None (Some nothing) ≡ Some e → TurnsTo test step body zero s e
  ended s e true t k = absurd cc
  ended s e false t k = none_left zero s e t (same_Some _ _ k)

  goes_on : (m : ℕ) (s : State) (e : Effect) (y : Bool) → holds s test ≡ Some y → cond y (one_turn m s) (Some nothing) ≡ Some e → ((u : State) (f : Effect) → all_turns m u ≡ Some f → TurnsTo test step body m u f) → TurnsTo test step body (suc m) s e
  goes_on m s e true t k rest =
      let p = parted s (run body s) (λ u. then_from u (incremented u step) (all_turns m)) e k in
      let q = parted (overwritten s p.a.writes) (incremented (overwritten s p.a.writes) step) (all_turns m) p.b p.two in
      one_more m s e t p q (rest (overwritten (overwritten s p.a.writes) q.a.writes) q.b q.two)
  goes_on m s e false t k rest = none_left (suc m) s e t (same_Some _ _ k)

  turns_steps : (m : ℕ) (s : State) (e : Effect) → all_turns m s ≡ Some e → TurnsTo test step body m s e
  turns_steps zero s e h =
      let c = chosen (holds s test) None (Some nothing) e h in
      ended s e c.yes c.test c.is
  turns_steps (suc m) s e h =
      let c = chosen (holds s test) (one_turn m s) (Some nothing) e h in
      goes_on m s e c.yes c.test c.is (λ u f. turns_steps m u f)

for_steps : (x : Variable) (name : _) (start : Source) (test : Cond) (step : Increment) (body : Stmt) (s : State) (o : Option ℕ) (a b : Effect) → source_value s start ≡ o → declares x o ≡ Some a → TurnsTo test step body greatest_trip_count (overwritten s a.writes) b → DoesStmt (For x name start test step body) s (joined a b)
for_steps x name start test step body s None a b p q t = absurd cc
for_steps x name start test step body s (Some v) a b p q t =
    subst (λ f. TurnsTo test step body greatest_trip_count (overwritten s f.writes) b → DoesStmt (For x name start test step body) s (joined f b)) (same_Some _ _ q) (λ r. loops p r.at_most r.made) t

mutual
  -- what the function gives, the rules give
  pub run_steps : (a : Stmt) (s : State) (e : Effect) → run a s ≡ Some e → Steps a s e.writes e.text
  run_steps (Assign x is src) s e h = assign_steps x is src s (values s is) (source_value s src) e refl refl h
  run_steps (Update x is op src) s e h = updates h
  run_steps (If c a) s e h =
      let p = chosen (holds s c) (run a s) (Some nothing) e h in
      one_way c a s e p.yes p.test p.is (run_steps a s e)
  run_steps (IfElse c a b) s e h =
      let p = chosen (holds s c) (run a s) (run b s) e h in
      two_ways c a b s e p.yes p.test p.is (run_steps a s e) (run_steps b s e)
  run_steps (For x name start test step body) s e h =
      let p = parted s (declared s x (Some start)) (turns greatest_trip_count (λ u. holds u test) (run body) (λ u. incremented u step)) e h in
      subst (DoesStmt (For x name start test step body) s) p.whole
      (for_steps x name start test step body s (source_value s start) p.a p.b refl p.one (turns_steps test step body (run_steps body) greatest_trip_count (overwritten s p.a.writes) p.b p.two))
  run_steps (Block items) s e h = block (items_steps items s e h)
  run_steps (Print parts) s e h = print_steps parts s (print_text s parts) e refl h

  -- and so of a block's items
  pub items_steps : (items : Items) (s : State) (e : Effect) → run_items items s ≡ Some e → StepsItems items s e.writes e.text
  items_steps no_items s e h = subst (DoesItems no_items s) (same_Some _ _ h) over_items
  items_steps (mark line rest) s e h = passed (items_steps rest s e h)
  items_steps (local x name start rest) s e h =
      let p = parted s (declared s x start) (run_items rest) e h in
      subst (DoesItems (local x name start rest) s) p.whole (declares_one p.one (items_steps rest (overwritten s p.a.writes) p.b p.two))
  items_steps (stmt a rest) s e h =
      let p = parted s (run a s) (run_items rest) e h in
      subst (DoesItems (stmt a rest) s) p.whole (does_one (run_steps a s p.a p.one) (items_steps rest (overwritten s p.a.writes) p.b p.two))
