use Rattle.std.proofs.Common.{◌≡◌, ◌++◌, subst, sym}
use Rattle.std.proofs.lemmas.Result.{on_ok_weaker}
use Rattle.semantics.specs.Meaning.Output.{dump}
use Rattle.store.specs.Kept.{state_of}
use Rattle.seqrun_io.specs.Told.{AddsBeginning}
use Rattle.seqrun_io.specs.Reading.{AreVariables, IsStart}
use Rattle.ompk_run.proofs.Carried.{team_begun, team_walked}
use Rattle.ompk_run.proofs.Output.{named}
use Rattle.ompk_run.proofs.Written.{nothing_written, dump_written, all_written}
use Rattle.ompk_run.proofs.running.run.Goals as goal

pub input-requires-clause-named : goal.input-requires-clause-named
input-requires-clause-named g c = subst AreVariables (sym c.declarations-declarations.ensures.variables) (named c.args.checked.now c.declarations-declarations.ensures.sound)

pub returns-in_err-store-clause-beginning : goal.returns-in_err-store-clause-beginning
returns-in_err-store-clause-beginning g c = nothing_written c.args.checked.now c.args.input.now _ c.declarations-declarations.ensures.sound

pub prepare-requires : goal.prepare-requires
prepare-requires g c =
    let first = subst (λ ds. IsStart ds c.args.input.now c.in_ok-store.store) c.declarations-declarations.ensures.variables c.in_ok-store.ensures.start in
    first.lengths

pub returns-in_err-outline-clause-beginning : goal.returns-in_err-outline-clause-beginning
returns-in_err-outline-clause-beginning g c = nothing_written c.args.checked.now c.args.input.now _ c.declarations-declarations.ensures.sound

pub returns-in_err-run_body-clause-beginning : goal.returns-in_err-run_body-clause-beginning
returns-in_err-run_body-clause-beginning g c =
    let first = subst (λ ds. IsStart ds c.args.input.now c.in_ok-store.store) c.declarations-declarations.ensures.variables c.in_ok-store.ensures.start in
    team_begun c.args.checked.now c.args.input.now c.in_ok-outline.field-0.outline.items c.deref.result.now c.in_ok-outline.field-0.registers.items c.in_ok-store.store c.in_ok-outline.ensures.prepared c.deref.ensures.value first
    (g.S.Sink.told c.args.sink.now) (g.S.Sink.told c.run_body.new.sink) c.in_err-run_body.ensures.beginning

pub returns-clause-all : goal.returns-clause-all
returns-clause-all g c =
    let a = c.args.checked.now in
    let ks = c.in_ok-store.store in
    let ks' = c.run_body.new.store in
    let before = g.S.Sink.told c.args.sink.now in
    let middle = g.S.Sink.told c.run_body.new.sink in
    let after = g.S.Sink.told c.dump.new.sink in
    let first = subst (λ ds. IsStart ds c.args.input.now ks) c.declarations-declarations.ensures.variables c.in_ok-store.ensures.start in
    let ready = c.in_ok-outline.ensures.prepared in
    let run = team_walked a c.args.input.now c.in_ok-outline.field-0.outline.items c.deref.result.now c.in_ok-outline.field-0.registers.items ks ready c.deref.ensures.value first
    c.run_body.new.registers.items ks' before middle c.cells-cells.ensures.filled c.in_ok-run_body.ensures.ran in
    on_ok_weaker c.dump.result
    (λ e. all_written a c.args.input.now ks ready.accepted first run.state ks' run.same before middle run.ran after
    (subst (λ ds. after ≡ middle ++ dump ds (state_of ks')) c.declarations-declarations.ensures.variables e))
    c.dump.ensures.all

pub returns-clause-beginning : goal.returns-clause-beginning
returns-clause-beginning g c =
    let a = c.args.checked.now in
    let ks = c.in_ok-store.store in
    let ks' = c.run_body.new.store in
    let before = g.S.Sink.told c.args.sink.now in
    let middle = g.S.Sink.told c.run_body.new.sink in
    let after = g.S.Sink.told c.dump.new.sink in
    let first = subst (λ ds. IsStart ds c.args.input.now ks) c.declarations-declarations.ensures.variables c.in_ok-store.ensures.start in
    let ready = c.in_ok-outline.ensures.prepared in
    let run = team_walked a c.args.input.now c.in_ok-outline.field-0.outline.items c.deref.result.now c.in_ok-outline.field-0.registers.items ks ready c.deref.ensures.value first
    c.run_body.new.registers.items ks' before middle c.cells-cells.ensures.filled c.in_ok-run_body.ensures.ran in
    dump_written a c.args.input.now ks ready.accepted first run.state ks' run.same before middle run.ran after
    (subst (λ ds. AddsBeginning middle after (dump ds (state_of ks'))) c.declarations-declarations.ensures.variables c.dump.ensures.beginning)
