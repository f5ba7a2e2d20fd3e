use Rattle.std.proofs.Common.{◌≡◌, List, map, subst}
use Rattle.semantics.specs.Loops.Joined.{value_at}
use Rattle.reduce.specs.declared.partial.Partial.{Partial}
use Rattle.reduce.specs.Partial.{partial_of}
use Rattle.inscan.proofs.Passed.{first_told}
use Rattle.inscan.proofs.passes.first_pass.Goals as goal

pub returns-clause-tells : goal.returns-clause-tells
returns-clause-tells c =
    first_told c.args.first.now c.args.registers.now c.args.worker.now c.args.work c.in_ok-piece.piece c.first_partial.result
    (subst (λ (ps : List Partial). partial_of c.first_partial.result ≡ value_at 0 (map partial_of ps)) c.as_slice.ensures.value c.first_partial.ensures) c.in_ok-piece.ensures.leaves
