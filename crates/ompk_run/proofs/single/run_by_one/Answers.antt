use Rattle.std.proofs.Common.{◌≡◌, ◌∙◌, sym, subst}
use Rattle.semantics.specs.Meaning.Runs.{run}
use Rattle.ktree.specs.View.{stmt_of}
use Rattle.store.specs.Flat.{values_of}
use Rattle.lower_machine.specs.Machine.{Fits, machine}
use Rattle.lower_run.specs.Walk.{Walks, Begins, stage}
use Rattle.law_apart.specs.Apart.{handed}
use Rattle.outline.specs.View.{roles_in}
use Rattle.ompk_run.specs.Taken.{taken}
use Rattle.ompk_run.proofs.ByOne.{loop_walked, loop_begun}
use Rattle.ompk_run.proofs.single.run_by_one.Goals as goal

pub returns-in_err-perform-clause-beginning : goal.returns-in_err-perform-clause-beginning
returns-in_err-perform-clause-beginning g c layout mark R serial fits =
    let loop = stmt_of c.args.construct.now.statement.now in
    let begun = subst (λ rs. Begins layout mark (run loop) (stage rs c.args.store.now (g.S.Sink.told c.args.sink.now)) (g.S.Sink.told c.perform.new.sink)) c.in_ok-own.ensures (c.perform.ensures.beginning layout mark (run loop) fits.code) in
    loop_begun R serial c.args.construct.now layout mark fits c.args.registers.now.items c.args.store.now (g.S.Sink.told c.args.sink.now) (g.S.Sink.told c.perform.new.sink) begun

pub returns-clause-ran : goal.returns-clause-ran
returns-clause-ran g c layout mark R serial fits =
    let l = c.args.construct.now in
    let loop = stmt_of l.statement.now in
    let rs = c.args.registers.now.items in
    let own = c.perform.new.registers.items in
    let ks = c.args.store.now in
    let ks' = c.perform.new.store in
    let text = g.S.Sink.told c.args.sink.now in
    let text' = g.S.Sink.told c.perform.new.sink in
    let walked = subst (λ xs. Walks layout mark (run loop) (stage xs ks text) (stage own ks' text')) c.in_ok-own.ensures (c.in_ok-perform.ensures.ran layout mark (run loop) fits.code) in
    let same = subst (λ xs. c.take_roles.new.registers.items ≡ taken xs l.lowered.roles rs) c.as_slice.ensures.value c.take_roles.ensures in
    let words = subst (λ xs. Fits (machine xs (values_of ks'))) (c.as_slice-2.ensures.value ∙ same) c.confirm_words.ensures.words in
    subst (λ xs. Walks layout mark (handed (roles_in R l) serial loop) (stage rs ks text) (stage xs ks' text')) (sym same)
    (loop_walked R serial l layout mark fits rs ks text text' own ks' walked words)

pub returns-clause-beginning : goal.returns-clause-beginning
returns-clause-beginning g c layout mark R serial fits =
    let loop = stmt_of c.args.construct.now.statement.now in
    let begun = subst (λ rs. Begins layout mark (run loop) (stage rs c.args.store.now (g.S.Sink.told c.args.sink.now)) (g.S.Sink.told c.perform.new.sink)) c.in_ok-own.ensures (c.perform.ensures.beginning layout mark (run loop) fits.code) in
    loop_begun R serial c.args.construct.now layout mark fits c.args.registers.now.items c.args.store.now (g.S.Sink.told c.args.sink.now) (g.S.Sink.told c.perform.new.sink) begun
