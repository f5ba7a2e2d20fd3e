-- Reading from the front of a list of tokens.
use Rattle.std.specs.Prelude.{Bool, List, Option, Some, None}
use Rattle.semantics.specs.Source.Token.{Token}

-- what was read at the front: its tree, whether its names and sorts are right, and the tokens behind it
pub record Got (A : Type 0) : Type 0 where
  pub tree : A
  pub sound : Bool
  pub rest : List Token

-- nothing, where the grammar has nothing so or too much would be open
abbrev pub Reader : Type 0 → Type 0
Reader A = List Token → Option (Got A)

infixl 10 ◌>>=◌
abbrev pub ◌>>=◌ : {A B : Type 0} → Option A → (A → Option B) → Option B
None >>= f = None
(Some x) >>= f = f x

-- what was read
abbrev pub got : {A : Type 0} → A → Bool → List Token → Option (Got A)
got tree sound rest = Some (record { tree = tree; sound = sound; rest = rest })

-- what follows if something comes next, and else
abbrev pub chosen : {A B : Type 0} → Option A → B → (A → B) → B
chosen None other f = other
chosen (Some x) other f = f x
