-- What is known of the locals decides what a statement does. (C11 6.2.4, 6 and 6.7.9)
use Rattle.std.specs.Prelude.{ℕ, Bool, true, ◌≡◌, List, Option, Some}
use Rattle.semantics.specs.Tree.{Variable, Stmt, Items}
use Rattle.semantics.specs.Meaning.State.{State, overwritten}
use Rattle.semantics.specs.Meaning.Runs.{Effect, run}
use Rattle.semantics.specs.Meaning.Definite.{Privates, DefinitelyAssigned, definite, definite_items}
use Rattle.semantics.specs.Meaning.Agrees.{Agrees, is_among, names_only}

-- the same effect from both states, or none, and behind it the two agree in what is known there
pub record RunAlike (V known : Variable → Bool) (s t : State) (o p : Option Effect) : Type 0 where
  pub same : o ≡ p
  pub left : (e : Effect) → o ≡ Some e → Agrees V known (overwritten s e.writes) (overwritten t e.writes)

-- a statement that names visible variables alone, and reads no local that is not known, does the same from states that agree in these
abbrev pub KnownStatesRunAlike : Type 0
KnownStatesRunAlike =
    (P : Privates) (a : Stmt) (V k k' : Variable → Bool) (s t : State) → definite P a k ≡ Some k' → names_only V a ≡ true → Agrees V k s t
    → RunAlike V k' s t (run a s) (run a t)

-- all that is known in the one is known in the other
abbrev pub IsWithin : DefinitelyAssigned → DefinitelyAssigned → Type 0
IsWithin k j = (x : Variable) → k x ≡ true → j x ≡ true

-- each local of the one list stands in the other
abbrev pub AreAmong : List Variable → List Variable → Type 0
AreAmong xs ys = (x : Variable) → is_among xs x ≡ true → is_among ys x ≡ true

-- where the first is known, so is the second, and all of the first is known in it
pub record KnowsMore (k : DefinitelyAssigned) (o : Option DefinitelyAssigned) : Type 0 where
  pub known : DefinitelyAssigned
  pub is : o ≡ Some known
  pub more : IsWithin k known

-- with more known before, and fewer private locals, nothing else is read that is not known, and more is known behind
pub record MoreIsKnown : Type 0 where
  pub statements : (P Q : Privates) (a : Stmt) (k k' j : DefinitelyAssigned) → ((line : ℕ) → AreAmong (Q line) (P line)) → IsWithin k j
      → definite P a k ≡ Some k' → KnowsMore k' (definite Q a j)
  pub items : (P Q : Privates) (pending pending' : List Variable) (items : Items) (k k' j : DefinitelyAssigned)
      → ((line : ℕ) → AreAmong (Q line) (P line)) → AreAmong pending' pending → IsWithin k j
      → definite_items P pending items k ≡ Some k' → KnowsMore k' (definite_items Q pending' items j)
