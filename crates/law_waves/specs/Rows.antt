-- Worked rows of doacross nests: orders, waves, and a chain with a private variable.
use Rattle.std.specs.Prelude.{true, false, ◌≡◌, List, [], ◌∷◌, Some, IsSome, pos}
use Rattle.semantics.specs.Tree.{Binary, Plus, Minus, no_exprs, Compare, Less, Number, Up, For, Assign, Stmt, Block, no_items, stmt, If, Print, Characters}
use Rattle.semantics.specs.Meaning.State.{State}
use Rattle.semantics.specs.Meaning.Runs.{Effect, run}
use Rattle.semantics.specs.Loops.Nest.{Loop, Vector}
use Rattle.semantics.specs.Loops.Order.{Distance, wave}
use Rattle.semantics.specs.Loops.Piece.{Roles, no_roles}
use Rattle.semantics.specs.Rows.Numbers.{var, num}
use Rattle.semantics.specs.Rows.Loops.{a_at, at_i, holding}
use Rattle.law_waves.specs.Silent.{is_silent}
use Rattle.law_waves.specs.Rising.{is_earlier}
use Rattle.law_waves.specs.Doacross.{IsDoacross, first_waves}

-- 2 by 2, with the sinks i-1, j and i, j-1
abbrev pub square : List Vector
square = (0 ∷ 0 ∷ []) ∷ (0 ∷ 1 ∷ []) ∷ (1 ∷ 0 ∷ []) ∷ (1 ∷ 1 ∷ []) ∷ []

abbrev pub square_sinks : List Distance
square_sinks = (pos 1 ∷ pos 0 ∷ []) ∷ (pos 0 ∷ pos 1 ∷ []) ∷ []

-- A is variable 0, s is 1, and i is 2: for (i = 1; i < 4; i++) { s = A[i - 1]; A[i] = s + 1; } with s private and the sink i-1
abbrev pub chain_body : Stmt
chain_body = Block (stmt (Assign 1 no_exprs (Number (a_at (Binary Minus (var 2) (num 1))))) (stmt (Assign 0 at_i (Number (Binary Plus (var 1) (num 1)))) no_items))

abbrev pub chain_loop : Loop
chain_loop = record { variable = 2; start = Number (num 1); test = Compare Less (var 2) (num 4); step = Up 2 }

abbrev pub chain : Stmt
chain = For 2 [] (Number (num 1)) (Compare Less (var 2) (num 4)) (Up 2) chain_body

abbrev pub chain_roles : Roles
chain_roles = record no_roles { privates = 1 ∷ [] }

abbrev pub chain_sinks : List Distance
chain_sinks = (pos 1 ∷ []) ∷ []

abbrev pub chain_space : List Vector
chain_space = (1 ∷ []) ∷ (2 ∷ []) ∷ (3 ∷ []) ∷ []

-- A is 5 0 0 0, and s is 9
abbrev pub chain_start : State
chain_start = holding (5 ∷ 0 ∷ 0 ∷ 0 ∷ []) 4 9

pub record WaveRows : Type 0 where
  pub earlier : is_earlier (0 ∷ 1 ∷ []) (1 ∷ 0 ∷ []) ≡ true
  pub later : is_earlier (1 ∷ 0 ∷ []) (0 ∷ 1 ∷ []) ≡ false
  pub silent : is_silent chain ≡ true
  pub printing : is_silent (If (Compare Less (var 2) (num 2)) (Print (Characters (97 ∷ []) ∷ []))) ≡ false
  pub middle : wave square square_sinks 1 ≡ (0 ∷ 1 ∷ []) ∷ (1 ∷ 0 ∷ []) ∷ []
  pub first_two : first_waves square square_sinks 2 ≡ (0 ∷ 0 ∷ []) ∷ (0 ∷ 1 ∷ []) ∷ (1 ∷ 0 ∷ []) ∷ []
  -- each iteration of the chain is a wave of its own
  pub alone : first_waves chain_space chain_sinks 2 ≡ (1 ∷ []) ∷ (2 ∷ []) ∷ []
  pub runs : IsSome (run chain chain_start)
  pub doacross : (e : Effect) → run chain chain_start ≡ Some e → IsDoacross chain_roles chain_sinks 1 chain (chain_loop ∷ []) chain_body chain_start chain_space e
