use Rattle.std.proofs.Common.{◌≡◌, ◌++◌, List, [], IsSome, refl, sym, ◌∙◌, subst}
use Rattle.std.proofs.lemmas.Result.{on_ok_weaker}
use Rattle.semantics.specs.Meaning.Output.{dump}
use Rattle.semantics.specs.Meaning.Runs.{run_items}
use Rattle.ktree.specs.View.{items_of}
use Rattle.ktree.specs.declared.statement.Item.{Item}
use Rattle.store.specs.Kept.{state_of}
use Rattle.seqrun_value.specs.declared.frame.Slot.{Slot}
use Rattle.seqrun_value.specs.Standing.{standing}
use Rattle.seqrun.specs.Ran.{Ran, text_of}
use Rattle.seqrun_io.specs.Told.{AddsBeginning}
use Rattle.seqrun_io.specs.Reading.{AreVariables, IsStart}
use Rattle.ompk_run.proofs.Output.{named}
use Rattle.ompk_run.proofs.Written.{nothing_written, runs, body_written, dump_written, all_written}
use Rattle.ompk_run.proofs.running.seq.Goals as goal

pub input-requires-clause-named : goal.input-requires-clause-named
input-requires-clause-named g c = subst AreVariables (sym c.declarations-declarations.ensures.variables) (named c.args.checked.now c.declarations-declarations.ensures.sound)

pub returns-in_err-store-clause-beginning : goal.returns-in_err-store-clause-beginning
returns-in_err-store-clause-beginning g c = nothing_written c.args.checked.now c.args.input.now _ c.declarations-declarations.ensures.sound

pub block-requires-clause-runs : goal.block-requires-clause-runs
block-requires-clause-runs g c =
    let first = subst (λ ds. IsStart ds c.args.input.now c.in_ok-store.store) c.declarations-declarations.ensures.variables c.in_ok-store.ensures.start in
    let slots : c.new-frame.result ≡ [] = c.new-frame.ensures ∙ c.new.ensures.items in
    subst (λ (z : List Item × List Slot). IsSome (run_items (items_of z.0) (standing z.1 c.in_ok-store.store))) (λ i. (sym c.body.ensures i, sym slots i))
    (runs c.args.checked.now c.args.input.now c.in_ok-store.store c.declarations-declarations.ensures.sound first)

pub returns-in_err-block-clause-beginning : goal.returns-in_err-block-clause-beginning
returns-in_err-block-clause-beginning g c =
    let first = subst (λ ds. IsStart ds c.args.input.now c.in_ok-store.store) c.declarations-declarations.ensures.variables c.in_ok-store.ensures.start in
    let slots : c.new-frame.result ≡ [] = c.new-frame.ensures ∙ c.new.ensures.items in
    body_written c.args.checked.now c.args.input.now c.in_ok-store.store c.declarations-declarations.ensures.sound first (g.S.Sink.told c.args.sink.now) (g.S.Sink.told c.block.new.sink)
    (subst (λ (z : List Item × List Slot). AddsBeginning (g.S.Sink.told c.args.sink.now) (g.S.Sink.told c.block.new.sink) (text_of (run_items (items_of z.0) (standing z.1 c.in_ok-store.store))))
    (λ i. (c.body.ensures i, slots i)) c.block.ensures.beginning)

pub returns-clause-all : goal.returns-clause-all
returns-clause-all g c =
    let first = subst (λ ds. IsStart ds c.args.input.now c.in_ok-store.store) c.declarations-declarations.ensures.variables c.in_ok-store.ensures.start in
    let slots : c.new-frame.result ≡ [] = c.new-frame.ensures ∙ c.new.ensures.items in
    let ran = subst (λ (z : List Item × List Slot). Ran (run_items (items_of z.0) (standing z.1 c.in_ok-store.store)) (standing z.1 c.in_ok-store.store) (standing c.block.new.frame c.block.new.store) (g.S.Sink.told c.args.sink.now) (g.S.Sink.told c.block.new.sink))
    (λ i. (c.body.ensures i, slots i)) c.in_ok-block.ensures.ran in
    on_ok_weaker c.dump.result
    (λ e. all_written c.args.checked.now c.args.input.now c.in_ok-store.store c.declarations-declarations.ensures.sound first (standing c.block.new.frame c.block.new.store) c.block.new.store (λ x is. refl) (g.S.Sink.told c.args.sink.now) (g.S.Sink.told c.block.new.sink) ran (g.S.Sink.told c.dump.new.sink)
    (subst (λ ds. g.S.Sink.told c.dump.new.sink ≡ g.S.Sink.told c.block.new.sink ++ dump ds (state_of c.block.new.store)) c.declarations-declarations.ensures.variables e))
    c.dump.ensures.all

pub returns-clause-beginning : goal.returns-clause-beginning
returns-clause-beginning g c =
    let first = subst (λ ds. IsStart ds c.args.input.now c.in_ok-store.store) c.declarations-declarations.ensures.variables c.in_ok-store.ensures.start in
    let slots : c.new-frame.result ≡ [] = c.new-frame.ensures ∙ c.new.ensures.items in
    let ran = subst (λ (z : List Item × List Slot). Ran (run_items (items_of z.0) (standing z.1 c.in_ok-store.store)) (standing z.1 c.in_ok-store.store) (standing c.block.new.frame c.block.new.store) (g.S.Sink.told c.args.sink.now) (g.S.Sink.told c.block.new.sink))
    (λ i. (c.body.ensures i, slots i)) c.in_ok-block.ensures.ran in
    dump_written c.args.checked.now c.args.input.now c.in_ok-store.store c.declarations-declarations.ensures.sound first (standing c.block.new.frame c.block.new.store) c.block.new.store (λ x is. refl) (g.S.Sink.told c.args.sink.now) (g.S.Sink.told c.block.new.sink) ran (g.S.Sink.told c.dump.new.sink)
    (subst (λ ds. AddsBeginning (g.S.Sink.told c.block.new.sink) (g.S.Sink.told c.dump.new.sink) (dump ds (state_of c.block.new.store))) c.declarations-declarations.ensures.variables c.dump.ensures.beginning)
