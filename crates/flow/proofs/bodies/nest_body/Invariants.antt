use Rattle.std.specs.Prelude.{◌≡◌, ◌-◌}
use Rattle.ktree.specs.View.{stmt_of}
use Rattle.flow.specs.Private.{nest_body_of}
use Rattle.flow.proofs.bodies.nest_body.Given as goal

-- the loops that are left decide
abbrev pub invariant-loop : goal.invariant-loop
invariant-loop l = nest_body_of (l.depth - l.counter) (stmt_of l.body) ≡ nest_body_of l.depth (stmt_of l.statement)
