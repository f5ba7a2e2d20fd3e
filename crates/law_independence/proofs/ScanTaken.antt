-- The operands of a scan have values wherever it is met at a turn of the loops round it.
use Rattle.std.specs.Prelude.{ℕ, Bool, true, ◌≡◌, List, [], ◌∷◌, Some, is_some}
use Rattle.std.proofs.Common.{sym, ap, subst, inr}
use Rattle.semantics.specs.Tree.{Variable, Stmt, Items, Declaration}
use Rattle.semantics.specs.Meaning.Definite.{no_privates, definite}
use Rattle.semantics.specs.Loops.Nest.{Loop, nest_of}
use Rattle.semantics.specs.Loops.Operator.{ReduceOp}
use Rattle.semantics.specs.Loops.Piece.{Roles}
use Rattle.pairtest_counter.specs.Levels.{Nesting, values_at}
use Rattle.nest.specs.Nests.{Has, StaysInside}
use Rattle.flow.specs.Private.{is_private_body}
use Rattle.deptest_verdict.specs.Shown.{no_loops}
use Rattle.law_turns.specs.Turns.{AreEntered}
use Rattle.law_roles.specs.Sharing.{role_variables, TakesOperands}
use Rattle.law_runs.proofs.Nested.{some_there}
use Rattle.law_scans.specs.Phases.{keeps_phases}
use Rattle.law_scans.specs.Scanning.{whole_of}
use Rattle.law_independence.specs.Inside.{HaveShort}
use Rattle.law_independence.specs.OrderLaws.{used_roles, TakesAtTurns}
use Rattle.law_independence.proofs.ReorderedBodies.{IsStmtRead, IsNestRead}
use Rattle.law_independence.proofs.ReorderedNests.{at_turn}
use Rattle.law_independence.proofs.ScanOperands.{phase_parts}
use Rattle.law_independence.proofs.ScanGoes.{nest_goes}
use Rattle.law_independence.proofs.Taking.{all_short, point_met}

module _ (ds : List Declaration) (short : HaveShort ds) (round : Nesting) (outer : ℕ) (serial : List ℕ) (n : ℕ) (s : Stmt) (found : IsNestRead ds round outer serial n s) (stmt : IsStmtRead ds round.box s) (stays : Has (StaysInside ds) round.box s)
    (roles : Roles) (private : is_private_body (role_variables roles) found.nest.body ≡ true) where
  -- where the scan variable alone is reduced
  pub takes_scanned : (around : List Loop) → AreEntered no_loops around round → (x : Variable) (op : ReduceOp) (inclusive : Bool) (front back : Items) (loops : List Loop) → nest_of n s ≡ Some (loops, whole_of front back)
      → keeps_phases x op inclusive front back ≡ true → (used_roles s roles).reductions ≡ (x, op) ∷ [] → TakesAtTurns ds (used_roles s roles) around s
  takes_scanned around entered x op inclusive front back loops is phases only = λ scope order next next' tokens known outside reads turn met determined.
      let at = at_turn ds short round outer serial n s found stmt stays roles private around entered outside turn in
      let point = point_met ds round around at.0 entered scope next known outside at.1 met in
      let left = some_there (definite no_privates s known) determined in
      let ran = nest_goes ds (all_short ds short) x op inclusive front back (phase_parts x op inclusive front back phases) n loops round.box (values_at round.levels at.0) reads is known left.0 outside stays stmt.kept point left.1 in
      subst (λ (rs : List (Variable × ReduceOp)). TakesOperands rs s outside) (sym only) (inr (ap is_some ran.is))
