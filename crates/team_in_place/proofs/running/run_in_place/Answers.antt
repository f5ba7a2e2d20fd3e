-- What the code does that the loop is compiled to.
use Rattle.std.proofs.Common.{◌≡◌, ℕ, List, ap, ◌∙◌, rules}
use Rattle.seqrun.specs.Ran.{lengths_of}
use Rattle.store.specs.Flat.{values_of}
use Rattle.lower_machine.specs.Machine.{Fits, Running, machine, running}
use Rattle.lower_op.specs.Steps.{steps}
use Rattle.lower_block.specs.Block.{runs}
use Rattle.lower_run.proofs.Beside.{arrives, wider}
use Rattle.team_in_place.specs.Counting.{AreEntered}
use Rattle.team_in_place.specs.Nesting.{loops}
use Rattle.team_in_place.proofs.Turned.{ran_in_place}
use Rattle.team_in_place.proofs.running.run_in_place.Goals as goal

pub returns-clause-ran : goal.returns-clause-ran
returns-clause-ran g c layout mark f performs text s stand some =
    let compiled = c.args.compiled.now in
    let registers = c.args.registers.now in
    let front = c.in-Some.front.now in
    let loop = loops c.in-Some.looped in
    let ks = c.args.store.now in
    let ks' = c.run_looped.new.store in
    let own = c.in-Some-2.own.items in
    let new = c.in-Some-3.own.items in
    let entered : AreEntered compiled front registers (values_of ks) own = search rules in
    let is : (r : Running) → runs compiled.block r ≡ loop (running (steps front r.machine) r.text) = search rules in
    let turned : (text : List ℕ) → loop (running (machine own (values_of ks)) text) ≡ running (machine new (values_of ks')) text = search rules in
    let fits : Fits (machine new (values_of ks')) = search rules in
    arrives layout mark f compiled performs s entered.wide ks text (wider layout mark s registers entered.wide ks entered.same entered.kept stand) entered.room new ks' text
    (ran_in_place compiled loop front registers (values_of ks) own new (values_of ks') entered is turned text) fits (c.run_looped.ensures.shape ∙ ap lengths_of c.registers_behind.ensures.kept) some
