use Rattle.std.proofs.Common.{ℕ, ◌≡◌, ◌<◌, ◌≤◌, Some, None, List, length, take, slice_get, sym, ap, subst, ◌∙◌, arith, rules}
use Rattle.std.proofs.lemmas.List.{take_all}
use Rattle.std.proofs.lemmas.Option.{slice_get_within}
use Rattle.semantics.specs.Loops.Chunk.{cut}
use Rattle.nest_space.specs.Space.{vectors}
use Rattle.schedule.specs.Part.{static_kind}
use Rattle.team_worker.specs.Ends.{IsAccountOf}
use Rattle.team_worker.specs.Dealt.{own_numbers}
use Rattle.team_worker.specs.Starts.{taken_in}
use Rattle.team_worker.proofs.Cutting.{few_chunks}
use Rattle.team_worker.proofs.Dealing.{own_few, part_numbers, next_own, past_end}
use Rattle.team_worker.proofs.dealt.run_dealt.Goals as goal

pub overflow_add-turn : goal.overflow_add-turn
overflow_add-turn g c =
    let n = length (taken_in c.args.job.pass.now (vectors c.args.job.space.now)) in
    let chunks = c.args.job.chunks.now in
    let own = own_numbers c.args.size (length chunks) c.args.workers c.args.worker in
    let cut_is : chunks ≡ cut (static_kind c.args.size) c.count.result c.args.workers = c.requires.chunks ∙ ap (λ (m : ℕ). cut (static_kind c.args.size) m c.args.workers) (sym c.count.ensures) in
    let same = part_numbers c.static_init-part.result c.args.size c.count.result c.args.workers c.args.worker chunks c.static_init-part.ensures cut_is in
    let there : slice_get own c.loop-number.turn ≡ Some c.in-Some.number = ap (λ (k : List ℕ). slice_get k c.loop-number.turn) (sym same) ∙ sym c.number.ensures.number ∙ c.in-Some.is in
    let within : c.loop-number.turn < length own = slice_get_within own c.loop-number.turn c.in-Some.number there in
    let least : length own ≤ length chunks = own_few c.args.size (length chunks) c.args.workers c.args.worker in
    let few : length chunks ≤ n = few_chunks n chunks c.requires.ready.cut in
    let most : n ≤ 16777216 = c.requires.ready.few in
    search (rules, arith)

pub loop-number-init : goal.loop-number-init
loop-number-init g c =
    let job = c.args.job in
    record {
      runner = c.requires.runner;
      account = c.requires.log;
    }

pub loop-number-smaller : goal.loop-number-smaller
loop-number-smaller g c =
    let n = length (taken_in c.args.job.pass.now (vectors c.args.job.space.now)) in
    let chunks = c.args.job.chunks.now in
    let own = own_numbers c.args.size (length chunks) c.args.workers c.args.worker in
    let cut_is : chunks ≡ cut (static_kind c.args.size) c.count.result c.args.workers = c.requires.chunks ∙ ap (λ (m : ℕ). cut (static_kind c.args.size) m c.args.workers) (sym c.count.ensures) in
    let same = part_numbers c.static_init-part.result c.args.size c.count.result c.args.workers c.args.worker chunks c.static_init-part.ensures cut_is in
    let there : slice_get own c.loop-number.turn ≡ Some c.in-Some.number = ap (λ (k : List ℕ). slice_get k c.loop-number.turn) (sym same) ∙ sym c.number.ensures.number ∙ c.in-Some.is in
    let within : c.loop-number.turn < length own = slice_get_within own c.loop-number.turn c.in-Some.number there in
    omega arith

pub loop-number-preserved : goal.loop-number-preserved
loop-number-preserved g c =
    let n = length (taken_in c.args.job.pass.now (vectors c.args.job.space.now)) in
    let chunks = c.args.job.chunks.now in
    let own = own_numbers c.args.size (length chunks) c.args.workers c.args.worker in
    let cut_is : chunks ≡ cut (static_kind c.args.size) c.count.result c.args.workers = c.requires.chunks ∙ ap (λ (m : ℕ). cut (static_kind c.args.size) m c.args.workers) (sym c.count.ensures) in
    let same = part_numbers c.static_init-part.result c.args.size c.count.result c.args.workers c.args.worker chunks c.static_init-part.ensures cut_is in
    let there : slice_get own c.loop-number.turn ≡ Some c.in-Some.number = ap (λ (k : List ℕ). slice_get k c.loop-number.turn) (sym same) ∙ sym c.number.ensures.number ∙ c.in-Some.is in
    let was = c.loop-number.invariant in
    let job = c.args.job in
    record {
      runner = c.in_ok-run_logged.ensures.runner ∙ was.runner;
      account = subst (λ ns. IsAccountOf job ns c.run_logged.new.log) (sym (next_own own c.loop-number.turn c.in-Some.number there)) (c.in_ok-run_logged.ensures.account (take c.loop-number.turn own) was.account);
    }

pub returns-clause-dealt : goal.returns-clause-dealt
returns-clause-dealt g c =
    let n = length (taken_in c.args.job.pass.now (vectors c.args.job.space.now)) in
    let chunks = c.args.job.chunks.now in
    let own = own_numbers c.args.size (length chunks) c.args.workers c.args.worker in
    let cut_is : chunks ≡ cut (static_kind c.args.size) c.count.result c.args.workers = c.requires.chunks ∙ ap (λ (m : ℕ). cut (static_kind c.args.size) m c.args.workers) (sym c.count.ensures) in
    let same = part_numbers c.static_init-part.result c.args.size c.count.result c.args.workers c.args.worker chunks c.static_init-part.ensures cut_is in
    let none : slice_get own c.loop-number.turn ≡ None = ap (λ (k : List ℕ). slice_get k c.loop-number.turn) (sym same) ∙ sym c.number.ensures.number ∙ c.in_default.is in
    subst (λ ns. IsAccountOf c.args.job ns c.loop-number.log) (take_all c.loop-number.turn own (past_end own c.loop-number.turn none)) c.loop-number.invariant.account
