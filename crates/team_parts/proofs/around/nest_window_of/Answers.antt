-- What is left to show of the window of turns with a loop in them.
use Rattle.std.proofs.Common.{ℕ, ◌<◌, List, refl, sym, subst, arith}
use Rattle.std.specs.Prelude.{IfSome}
use Rattle.lower_machine.specs.Machine.{machine}
use Rattle.lane_rows.specs.Lanes.{stepped}
use Rattle.law_parts.specs.Parts.{KeepApart}
use Rattle.law_unrolled.specs.Unrolled.{ReadsItsOwn, flat}
use Rattle.team_parts.specs.Turned.{nested_in}
use Rattle.team_parts.specs.Window.{bound_of}
use Rattle.team_parts.proofs.Nests.{apart_where_some}
use Rattle.team_parts.proofs.around.nest_window_of.Goals as goal

-- src/around.rt
pub returns-clause-apart : goal.returns-clause-apart
returns-clause-apart c =
    let nest = c.args.nest.now in
    let turns = c.args.turns in
    let found = c.window_along.result in
    let some : 0 < nest.count = omega (arith, c.if-nest-eq0.false) in
    let own : ReadsItsOwn turns.variable (nested_in nest) = subst (λ v. ReadsItsOwn v (nested_in nest)) (sym c.requires.along) (c.in_ok-reads_its_own.ensures c.if-not-branch.false) in
    subst (λ v. IfSome found (λ w. (cells : List ℕ) → KeepApart v (stepped turns.first turns.by) (flat (nested_in nest)) turns.count (machine turns.registers.now cells) (bound_of w))) c.requires.along
    (apart_where_some found nest turns _ c.args.cells c.window_along.ensures.fits c.window_along.ensures.below (let there = c.requires.there in omega (arith, there, c.requires.along)) c.hold_numbers.ensures some refl refl refl refl own)
