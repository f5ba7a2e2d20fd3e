-- Worked rows of nests that suit waves: a chain with a private variable, and loops that do not count up.
use Rattle.std.specs.Prelude.{◌≡◌, false, [], ◌∷◌}
use Rattle.semantics.specs.Tree.{Plus, Number, Change, Less, Compare}
use Rattle.semantics.specs.Rows.Numbers.{var, num}
use Rattle.flow.specs.Roles.{LoopData}
use Rattle.flow_doacross.specs.Nests.{counts_up}
use Rattle.pairtest_cover.specs.Behind.{LieApart}
use Rattle.law_waves.specs.Rows.{chain, chain_loop, chain_roles, chain_sinks}
use Rattle.law_doacross.specs.Waving.{SuitsWaves}

-- what the line of the chain says: s is private
abbrev pub chain_data : LoopData
chain_data = record { roles = chain_roles; carried = [] }

pub record DoacrossRows : Type 0 where
  -- for (i = 1; i < 4; i++) { s = A[i - 1]; A[i] = s + 1; } with s private and the sink i-1
  pub suits : SuitsWaves chain_sinks chain_data 1 chain
  -- i += 2
  pub by_two : counts_up (record chain_loop { step = Change 2 Plus (num 2) }) ≡ false
  -- from a variable on
  pub from_variable : counts_up (record chain_loop { start = Number (var 3) }) ≡ false
  -- up to one
  pub to_variable : counts_up (record chain_loop { test = Compare Less (var 2) (var 3) }) ≡ false
  -- iterations 1 and 3 lie two steps of the sink apart
  pub apart : LieApart chain_sinks (1 ∷ []) (3 ∷ [])
