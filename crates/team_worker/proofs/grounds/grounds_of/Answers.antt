use Rattle.std.proofs.Common.{◌≡◌, ◌≤◌, ◌^◌, List, length, flat_map, ap, subst, ◌∙◌, arith}
use Rattle.semantics.specs.Loops.Chunk.{cut, chunk_iterations}
use Rattle.semantics.specs.Meaning.Places.{below}
use Rattle.nest_space.specs.Space.{Turns, product, vectors}
use Rattle.nest_space.proofs.Places.{length-vectors}
use Rattle.schedule.specs.Sched.{kind_of}
use Rattle.team_worker.proofs.Cutting.{is_cut}
use Rattle.team_worker.proofs.grounds.grounds_of.Goals as goal

pub chunk_list-requires : goal.chunk_list-requires
chunk_list-requires c =
    let few : product c.in_ok-space.space ≤ 2 ^ 24 = subst (λ (ts : List Turns). product ts ≤ 2 ^ 24) c.space-2.view_is c.space-2.invariant.0.few in
    let all = length-vectors c.in_ok-space.space in
    let is = c.count.ensures in
    omega arith

pub returns-clause-split : goal.returns-clause-split
returns-clause-split c =
    let space = c.in_ok-space.space in
    let few : product space ≤ 2 ^ 24 = subst (λ (ts : List Turns). product ts ≤ 2 ^ 24) c.space-2.view_is c.space-2.invariant.0.few in
    let all = length-vectors space in
    let chunks = c.in_ok-chunks.chunks in
    let joined : flat_map chunk_iterations chunks ≡ below (length (vectors space)) = c.in_ok-chunks.ensures.joined ∙ ap below c.count.ensures in
    let is : chunks ≡ cut (kind_of c.args.sched.now) (length (vectors space)) c.args.workers = c.in_ok-chunks.ensures.chunks ∙ ap (λ n. cut (kind_of c.args.sched.now) n c.args.workers) c.count.ensures in
    record {
      loops = c.in_ok-space.ensures.loops;
      iterations = c.in_ok-space.ensures.iterations;
      from = record { wave = λ numbers e. absurd (cc e) };
      few = omega arith;
      cut = is_cut (kind_of c.args.sched.now) (length (vectors space)) c.args.workers chunks is joined;
    }

pub returns-clause-chunks : goal.returns-clause-chunks
returns-clause-chunks c = c.in_ok-chunks.ensures.chunks ∙ ap (λ n. cut (kind_of c.args.sched.now) n c.args.workers) c.count.ensures
