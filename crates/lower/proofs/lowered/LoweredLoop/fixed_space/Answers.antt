use Rattle.std.proofs.Common.{List, [], ◌≡◌, ◌∙◌, ap, length, subst}
use Rattle.nest_loop.specs.declared.head.Canonical.{Canonical}
use Rattle.nest_space.specs.Nests.{given, AreRunsOf}
use Rattle.nest_space.proofs.Nesting.{nest_law}
use Rattle.nest_space.proofs.Runs.{length-runs}
use Rattle.lower.specs.Lowered.{values_in}
use Rattle.lower.proofs.Spaces.{space_of}
use Rattle.lower.proofs.lowered.LoweredLoop.fixed_space.Goals as goal

pub returns-clause-loops : goal.returns-clause-loops
returns-clause-loops c =
    let same : length c.as_slice.result.now ≡ length c.args.self.now.loops.items = ap (λ (ls : List Canonical). length ls) c.as_slice.ensures.value in
    length-runs c.as_slice.result.now (given []) c.anywhere.result (c.anywhere.ensures.runs (given [])) ∙ same

pub returns-clause-iterations : goal.returns-clause-iterations
returns-clause-iterations c registers =
    let l = c.args.self.now in
    let values = given (values_in l.around.items registers) in
    let runs = subst (λ (ls : List Canonical). AreRunsOf ls values c.anywhere.result) c.as_slice.ensures.value (c.anywhere.ensures.runs values) in
    space_of l registers c.anywhere.result (nest_law l.loops.items values c.anywhere.result runs)
