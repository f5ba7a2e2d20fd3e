use Rattle.std.proofs.Common.{ℕ, List, length, ◌≡◌, ◌++◌, ◌∙◌, sym, ap, subst, take, drop, rules, arith}
use Rattle.ktree.specs.View.{stmt_of}
use Rattle.law_apart.specs.Apart.{handed}
use Rattle.outline.specs.View.{roles_in}
use Rattle.schedule.specs.Sched.{kind_said}
use Rattle.team.specs.Together.{LeavesTogether, BeginsTogether}
use Rattle.lower_machine.specs.Machine.{Fits, machine}
use Rattle.lower_run.proofs.Restored.{put_back}
use Rattle.store.specs.Flat.{values_of}
use Rattle.lower_run.specs.Walk.{Arrives}
use Rattle.ompk_run.proofs.Handing.{nothing_carried, loop_arrives, loop_begins}
use Rattle.ompk_run.proofs.teaming.run_team_loop.Goals as goal

pub returns-clause-ran : goal.returns-clause-ran
returns-clause-ran g c layout mark R serial fits s stand some =
    let l = c.args.construct.now in
    let ks = c.args.store.now in
    let ks' = c.share_loop.new.store in
    let old = c.args.registers.now.items in
    let new = c.share_loop.new.registers in
    let kind = kind_said l.lowered.schedule c.args.team.now.sched in
    let text = g.S.Sink.told c.args.sink.now in
    let text' = g.S.Sink.told c.share_loop.new.sink in
    let size : c.args.registers.now.len ≡ length old = search rules in
    let count : length new ≡ length old = c.share_loop.ensures.long ∙ ap (λ (l : List ℕ). length l) c.as_mut_slice.ensures.value in
    let back : take c.args.registers.now.len (new ++ drop (length new) old) ≡ new = put_back c.args.registers.now.len new old (omega arith) (omega arith) in
    let leaves = subst (λ r. LeavesTogether l.lowered r new ks ks' text text' kind c.args.team.now.workers) c.as_mut_slice.ensures.value c.in_ok-share_loop.ensures.leaves in
    let words : Fits (machine new (values_of ks')) = rw (c.as_slice.ensures.value ∙ back) at c.confirm_words.ensures.words in
    subst (λ rs. Arrives layout mark (handed (roles_in R l) serial (stmt_of l.statement.now) s) s rs ks' text text') (sym back)
    (loop_arrives layout mark s old ks stand R serial l fits (nothing_carried layout mark R serial l fits c.requires.chunks) kind c.args.team.now.workers c.confirm_cut.ensures.sized c.confirm_cut.ensures.some text text' new ks' leaves c.share_loop.ensures.shape words c.confirm_words.ensures.room some)

pub returns-clause-beginning : goal.returns-clause-beginning
returns-clause-beginning g c layout mark R serial fits s stand some =
    let l = c.args.construct.now in
    let ks = c.args.store.now in
    let kind = kind_said l.lowered.schedule c.args.team.now.sched in
    let text = g.S.Sink.told c.args.sink.now in
    let text' = g.S.Sink.told c.share_loop.new.sink in
    let begins = subst (λ r. BeginsTogether l.lowered r ks text text' kind c.args.team.now.workers) c.as_mut_slice.ensures.value c.share_loop.ensures.beginning in
    loop_begins layout mark s c.args.registers.now.items ks stand R serial l fits (nothing_carried layout mark R serial l fits c.requires.chunks) kind c.args.team.now.workers c.confirm_cut.ensures.sized c.confirm_cut.ensures.some text text' begins some

pub returns-in_err-share_loop-clause-beginning : goal.returns-in_err-share_loop-clause-beginning
returns-in_err-share_loop-clause-beginning g c layout mark R serial fits s stand some =
    let l = c.args.construct.now in
    let ks = c.args.store.now in
    let kind = kind_said l.lowered.schedule c.args.team.now.sched in
    let text = g.S.Sink.told c.args.sink.now in
    let text' = g.S.Sink.told c.share_loop.new.sink in
    let begins = subst (λ r. BeginsTogether l.lowered r ks text text' kind c.args.team.now.workers) c.as_mut_slice.ensures.value c.share_loop.ensures.beginning in
    loop_begins layout mark s c.args.registers.now.items ks stand R serial l fits (nothing_carried layout mark R serial l fits c.requires.chunks) kind c.args.team.now.workers c.confirm_cut.ensures.sized c.confirm_cut.ensures.some text text' begins some
