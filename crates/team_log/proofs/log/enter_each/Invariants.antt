use Rattle.std.proofs.Common.{◌≡◌, List, ℕ, length, map, Bor}
use Rattle.team_log.specs.Logged.{bytes_in}
use Rattle.team_log.specs.Printed.{entered_from}
use Rattle.team_log.proofs.log.enter_each.Given as goal

-- whatever is left to enter leads to the same
abbrev pub invariant-chunks : goal.invariant-chunks
invariant-chunks l =
    record {
      count : bytes_in l.chunks ≡ length l.left;
      same : entered_from l.chunks l.left (map (λ (t : Bor (List ℕ)). t.now) l.texts) ≡ entered_from l.fn.ended l.fn.text (map (λ (t : Bor (List ℕ)). t.now) l.initial.texts);
    }

abbrev pub decreases-chunks : goal.decreases-chunks
decreases-chunks l = length l.chunks
