use Rattle.std.proofs.Common.{◌≡◌, ℕ, List, ◌++◌, length, sym, ap, subst, ◌∙◌}
use Rattle.semantics.specs.Loops.Chunk.{Chunk, cut}
use Rattle.nest_space.specs.Space.{vectors}
use Rattle.schedule.specs.Sched.{kind_of}
use Rattle.seqrun_io.specs.Told.{AddsBeginning}
use Rattle.team_worker.specs.declared.pass.Pass.{Pass}
use Rattle.team_worker.specs.Ends.{IsCut, AreAll}
use Rattle.team_log.specs.Logged.{joined}
use Rattle.team_log.specs.Printed.{text_in_order}
use Rattle.team_worker.specs.Starts.{taken_in}
use Rattle.team_worker.proofs.Taking.{split_all, taken_chunks, grounds_split}
use Rattle.team.proofs.Texts.{begins_all}
use Rattle.team.proofs.teamwork.run_pass.Goals as goal

pub returns-in_err-put_texts-clause-beginning : goal.returns-in_err-put_texts-clause-beginning
returns-in_err-put_texts-clause-beginning g c =
    let l = c.args.lowered.now in
    let grounds = c.in_ok-grounds.grounds in
    let passing = c.in_pass-grounds.result in
    let pass = c.args.pass in
    let account = joined c.in_ok-logs.logs.items in
    let ks = c.args.store.now in
    let by_chunks = subst (λ (k : List Chunk). AreAll l passing.registers.items ks passing.pass k account) c.in_pass-grounds.ensures.chunks c.in_ok-logs.ensures.all in
    let by_pass = subst (λ (p : Pass). AreAll l passing.registers.items ks p grounds.chunks account) c.in_pass-grounds.ensures.pass by_chunks in
    let all = subst (λ (rs : List ℕ). AreAll l rs ks pass grounds.chunks account) ((λ i. (c.in_pass-grounds.ensures.registers i).items) ∙ c.in_ok-grounds.ensures.registers) by_pass in
    let told = g.S.Sink.told c.args.sink.now in
    let after = g.S.Sink.told c.put_texts.new.sink in
    let begun = subst (λ (text : List ℕ). AddsBeginning told after text) (λ i. text_in_order (c.len-count.ensures i) (joined (c.as_slice.ensures.value i)).chunks) c.put_texts.ensures.beginning in
    begins_all l c.args.registers.now ks pass (kind_of c.args.sched.now) c.args.workers grounds.space grounds.chunks account told after (split_all l c.args.registers.now grounds.space grounds.chunks pass c.requires.all c.in_ok-grounds.ensures.split) (taken_chunks pass c.requires.all (vectors grounds.space) (kind_of c.args.sched.now) c.args.workers grounds.chunks c.in_ok-grounds.ensures.chunks) all begun

pub returns-clause-beginning : goal.returns-clause-beginning
returns-clause-beginning g c =
    let l = c.args.lowered.now in
    let grounds = c.in_ok-grounds.grounds in
    let passing = c.in_pass-grounds.result in
    let pass = c.args.pass in
    let account = joined c.in_ok-logs.logs.items in
    let ks = c.args.store.now in
    let by_chunks = subst (λ (k : List Chunk). AreAll l passing.registers.items ks passing.pass k account) c.in_pass-grounds.ensures.chunks c.in_ok-logs.ensures.all in
    let by_pass = subst (λ (p : Pass). AreAll l passing.registers.items ks p grounds.chunks account) c.in_pass-grounds.ensures.pass by_chunks in
    let all = subst (λ (rs : List ℕ). AreAll l rs ks pass grounds.chunks account) ((λ i. (c.in_pass-grounds.ensures.registers i).items) ∙ c.in_ok-grounds.ensures.registers) by_pass in
    let told = g.S.Sink.told c.args.sink.now in
    let after = g.S.Sink.told c.put_texts.new.sink in
    let begun = subst (λ (text : List ℕ). AddsBeginning told after text) (λ i. text_in_order (c.len-count.ensures i) (joined (c.as_slice.ensures.value i)).chunks) c.put_texts.ensures.beginning in
    begins_all l c.args.registers.now ks pass (kind_of c.args.sched.now) c.args.workers grounds.space grounds.chunks account told after (split_all l c.args.registers.now grounds.space grounds.chunks pass c.requires.all c.in_ok-grounds.ensures.split) (taken_chunks pass c.requires.all (vectors grounds.space) (kind_of c.args.sched.now) c.args.workers grounds.chunks c.in_ok-grounds.ensures.chunks) all begun

pub returns-clause-passed : goal.returns-clause-passed
returns-clause-passed g c =
    let l = c.args.lowered.now in
    let grounds = c.in_ok-grounds.grounds in
    let passing = c.in_pass-grounds.result in
    let pass = c.args.pass in
    let account = joined c.in_ok-logs.logs.items in
    let ks = c.args.store.now in
    let by_chunks = subst (λ (k : List Chunk). AreAll l passing.registers.items ks passing.pass k account) c.in_pass-grounds.ensures.chunks c.in_ok-logs.ensures.all in
    let by_pass = subst (λ (p : Pass). AreAll l passing.registers.items ks p grounds.chunks account) c.in_pass-grounds.ensures.pass by_chunks in
    let all = subst (λ (rs : List ℕ). AreAll l rs ks pass grounds.chunks account) ((λ i. (c.in_pass-grounds.ensures.registers i).items) ∙ c.in_ok-grounds.ensures.registers) by_pass in
    let told = g.S.Sink.told c.args.sink.now in
    let split = split_all l c.args.registers.now grounds.space grounds.chunks pass c.requires.all c.in_ok-grounds.ensures.split in
    let chunks_are = taken_chunks pass c.requires.all (vectors grounds.space) (kind_of c.args.sched.now) c.args.workers grounds.chunks c.in_ok-grounds.ensures.chunks in
    let count_is : c.len-count.result ≡ length (cut (kind_of c.args.sched.now) (length (taken_in pass (vectors grounds.space))) c.args.workers) = c.len-count.ensures ∙ ap (λ (k : List Chunk). length k) chunks_are in
    let printed : g.S.Sink.told c.put_texts.new.sink ≡ told ++ text_in_order c.len-count.result (joined c.as_slice.result.now).chunks = c.in_ok-put_texts.ensures.all in
    record {
      of = record {
        space = grounds.space;
        of = split.iterations;
        cut_is = subst (λ (k : List Chunk). IsCut (length (taken_in pass (vectors grounds.space))) k) chunks_are split.cut;
        all = subst (λ (k : List Chunk). AreAll l c.args.registers.now ks pass k account) chunks_are all;
      };
      printed = printed ∙ (λ i. told ++ text_in_order (count_is i) (joined (c.as_slice.ensures.value i)).chunks);
    }

pub loop_logs-requires-clause-split : goal.loop_logs-requires-clause-split
loop_logs-requires-clause-split g c =
    let split = split_all c.args.lowered.now c.args.registers.now c.in_ok-grounds.grounds.space c.in_ok-grounds.grounds.chunks c.args.pass c.requires.all c.in_ok-grounds.ensures.split in
    grounds_split c.args.lowered.now c.args.registers.now c.args.pass c.in_ok-grounds.grounds c.in_pass-grounds.result c.in_ok-grounds.ensures.registers c.in_pass-grounds.ensures.registers c.in_pass-grounds.ensures.space c.in_pass-grounds.ensures.chunks c.in_pass-grounds.ensures.pass split

pub loop_logs-requires-clause-chunks : goal.loop_logs-requires-clause-chunks
loop_logs-requires-clause-chunks g c =
    let grounds = c.in_ok-grounds.grounds in
    c.in_pass-grounds.ensures.chunks ∙ taken_chunks c.args.pass c.requires.all (vectors grounds.space) (kind_of c.args.sched.now) c.args.workers grounds.chunks c.in_ok-grounds.ensures.chunks
    ∙ (λ i. cut (kind_of c.args.sched.now) (length (taken_in (sym c.in_pass-grounds.ensures.pass i) (vectors (sym c.in_pass-grounds.ensures.space i)))) c.args.workers)
