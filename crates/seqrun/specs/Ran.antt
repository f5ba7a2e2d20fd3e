-- What a run did.
use Rattle.std.specs.Prelude.{ℕ, ◌≡◌, List, [], ◌++◌, Option, Some, None, map}
use Rattle.semantics.specs.Tree.{Variable, Exprs, BinaryOp, Object}
use Rattle.semantics.specs.Meaning.State.{State, Write, overwritten}
use Rattle.semantics.specs.Meaning.Value.{both_then, operate, value, values}
use Rattle.semantics.specs.Meaning.Runs.{Effect, assigned}
use Rattle.store.specs.Kept.{Kept}

-- a run from one state to another, and from one text to a longer one
pub record Ran (outcome : Option Effect) (state state' : State) (text text' : List ℕ) : Type 0 where
  pub effect : Effect
  pub is : outcome ≡ Some effect
  pub left : state' ≡ overwritten state effect.writes
  pub printed : text' ≡ text ++ effect.text

-- a step without text
pub record Ended (outcome : Option Effect) (state state' : State) : Type 0 where
  pub writes : List Write
  pub is : outcome ≡ Some (record { writes = writes; text = [] })
  pub left : state' ≡ overwritten state writes

-- a text that is there, else none
abbrev pub text_or_none : Option (List ℕ) → List ℕ
text_or_none None = []
text_or_none (Some text) = text

-- what a run prints
abbrev pub text_of : Option Effect → List ℕ
text_of None = []
text_of (Some effect) = effect.text

-- the lengths of the variables' dimensions
abbrev pub lengths_of : List Kept → List (List ℕ)
lengths_of ks = map (λ (k : Kept). k.lengths) ks

-- `op=`, by the value of its right side (C11 6.5.16.2)
abbrev pub updated_by : State → Variable → Exprs → BinaryOp → Option ℕ → Option Effect
updated_by s x is op v = assigned s x (values s is) (both_then (operate op) (value s (Object x is)) v)
