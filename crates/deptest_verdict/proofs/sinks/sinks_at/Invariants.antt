use Rattle.std.proofs.Common.{◌≡◌}
use Rattle.std.specs.Prelude.{drop}
use Rattle.deptest_verdict.specs.Sinks.{line_sinks}
use Rattle.deptest_verdict.proofs.sinks.sinks_at.Given as goal

-- the line's sinks are those of the nests that are left
abbrev pub invariant-loop-nest : goal.invariant-loop-nest
invariant-loop-nest l = line_sinks l.nests l.line ≡ line_sinks (drop l.nest-index l.nests) l.line
