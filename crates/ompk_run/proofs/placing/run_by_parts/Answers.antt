-- What the loop's own code leaves, but for the registers that have no role.
use Rattle.std.proofs.Common.{◌≡◌, ℕ, List, ◌∙◌, sym, subst, rules}
use Rattle.std.specs.Prelude.{Option}
use Rattle.semantics.specs.Meaning.State.{State}
use Rattle.semantics.specs.Meaning.Runs.{Effect, run}
use Rattle.ktree.specs.View.{stmt_of}
use Rattle.store.specs.Flat.{values_of}
use Rattle.lower_code.specs.declared.laid.Laid.{Laid}
use Rattle.lower_machine.specs.Machine.{Fits, machine}
use Rattle.lower_run.specs.Walk.{Performs, Walks, stage}
use Rattle.law_apart.specs.Apart.{handed}
use Rattle.outline.specs.View.{roles_in}
use Rattle.ompk_run.specs.Taken.{taken}
use Rattle.ompk_run.proofs.ByOne.{loop_walked}
use Rattle.ompk_run.proofs.placing.run_by_parts.Goals as goal

pub returns-clause-ran : goal.returns-clause-ran
returns-clause-ran g c is layout mark R serial text fits =
    let l = c.args.construct.now in
    let loop = stmt_of l.statement.now in
    let rs = c.args.registers.now.items in
    let own = c.in-Some.own.items in
    let ks = c.args.store.now in
    let ks' = c.run_in_place.new.store in
    let ran : (layout : List Laid) (mark : ℕ) (f : State → Option Effect) → Performs layout mark f l.code → (text : List ℕ) → Walks layout mark f (stage c.as_slice.result.now ks text) (stage own ks' text) = search rules in
    let walked = subst (λ xs. Walks layout mark (run loop) (stage xs ks text) (stage own ks' text)) c.as_slice.ensures.value (ran layout mark (run loop) fits.code text) in
    let same = subst (λ xs. c.take_roles.new.registers.items ≡ taken xs l.lowered.roles rs) c.as_slice-2.ensures.value c.take_roles.ensures in
    let words = subst (λ xs. Fits (machine xs (values_of ks'))) (c.as_slice-3.ensures.value ∙ same) c.confirm_words.ensures.words in
    subst (λ xs. Walks layout mark (handed (roles_in R l) serial loop) (stage rs ks text) (stage xs ks' text)) (sym same)
    (loop_walked R serial l layout mark fits rs ks text text own ks' walked words)
