-- The same big steps as an inductive relation, a constructor for each rule of C11 6.8.
use Rattle.std.specs.Prelude.{ℕ, zero, suc, true, false, ◌≡◌, ◌≤◌, List, [], ◌∷◌, ◌++◌, Option, Some}
use Rattle.semantics.specs.Tree.{Variable, Name, BinaryOp, Exprs, Expr, Cond, Source, Increment, PrintPart, Stmt, Assign, Update, If, IfElse, For, Block, Print, Items, no_items, mark, local, stmt}
use Rattle.semantics.specs.Meaning.State.{State, Write, Declared, Assigned, overwritten, is_object}
use Rattle.semantics.specs.Meaning.Value.{values, holds, source_value}
use Rattle.semantics.specs.Meaning.Runs.{Effect, declared, updated, incremented, print_text, greatest_trip_count}

-- writes and a text
abbrev pub effect : List Write → List ℕ → Effect
effect ws t = record { writes = ws; text = t }

mutual
  -- a statement steps from a state, writes this and prints this
  pub data Steps : Stmt → State → List Write → List ℕ → Type 0 where
    assigns : {x : Variable} {is : Exprs} {e : Source} {s : State} {ks : List ℕ} {v : ℕ} →
        values s is ≡ Some ks → source_value s e ≡ Some v → is_object s x ks ≡ true → Steps (Assign x is e) s (Assigned x ks v ∷ []) []
    updates : {x : Variable} {is : Exprs} {op : BinaryOp} {e : Expr} {s : State} {ws : List Write} {t : List ℕ} →
        updated s x is op e ≡ Some (effect ws t) → Steps (Update x is op e) s ws t
    if_holds : {c : Cond} {a : Stmt} {s : State} {ws : List Write} {t : List ℕ} → holds s c ≡ Some true → Steps a s ws t → Steps (If c a) s ws t
    if_not : {c : Cond} {a : Stmt} {s : State} → holds s c ≡ Some false → Steps (If c a) s [] []
    first : {c : Cond} {a b : Stmt} {s : State} {ws : List Write} {t : List ℕ} → holds s c ≡ Some true → Steps a s ws t → Steps (IfElse c a b) s ws t
    second : {c : Cond} {a b : Stmt} {s : State} {ws : List Write} {t : List ℕ} → holds s c ≡ Some false → Steps b s ws t → Steps (IfElse c a b) s ws t
    loops : {x : Variable} {name : Name} {start : Source} {test : Cond} {step : Increment} {body : Stmt} {s : State} {v n : ℕ} {ws : List Write} {t : List ℕ} →
        source_value s start ≡ Some v → n ≤ greatest_trip_count → Turns test step body n (overwritten s (Declared x (Some v) ∷ [])) ws t →
        Steps (For x name start test step body) s (Declared x (Some v) ∷ ws) t
    block : {items : Items} {s : State} {ws : List Write} {t : List ℕ} → StepsItems items s ws t → Steps (Block items) s ws t
    prints : {parts : List PrintPart} {s : State} {t : List ℕ} → print_text s parts ≡ Some t → Steps (Print parts) s [] t

  -- so many turns of a loop
  pub data Turns : Cond → Increment → Stmt → ℕ → State → List Write → List ℕ → Type 0 where
    over : {test : Cond} {step : Increment} {body : Stmt} {s : State} → holds s test ≡ Some false → Turns test step body zero s [] []
    turn : {test : Cond} {step : Increment} {body : Stmt} {n : ℕ} {s : State} {ws us vs : List Write} {t q r : List ℕ} →
        holds s test ≡ Some true → Steps body s ws t → incremented (overwritten s ws) step ≡ Some (effect us q) →
        Turns test step body n (overwritten (overwritten s ws) us) vs r → Turns test step body (suc n) s (ws ++ (us ++ vs)) (t ++ (q ++ r))

  -- a block's items do
  pub data StepsItems : Items → State → List Write → List ℕ → Type 0 where
    over_items : {s : State} → StepsItems no_items s [] []
    passed : {n : ℕ} {items : Items} {s : State} {ws : List Write} {t : List ℕ} → StepsItems items s ws t → StepsItems (mark n items) s ws t
    declares_one : {x : Variable} {name : Name} {e : Option Source} {items : Items} {s : State} {us ws : List Write} {q t : List ℕ} →
        declared s x e ≡ Some (effect us q) → StepsItems items (overwritten s us) ws t → StepsItems (local x name e items) s (us ++ ws) (q ++ t)
    does_one : {a : Stmt} {items : Items} {s : State} {us ws : List Write} {q t : List ℕ} →
        Steps a s us q → StepsItems items (overwritten s us) ws t → StepsItems (stmt a items) s (us ++ ws) (q ++ t)
