use Rattle.std.proofs.Common.{length, flat_map, vec_len, sym, ap, subst, ◌∙◌, arith}
use Rattle.std.proofs.lemmas.Result.{IfOk-weaker}
use Rattle.semantics.specs.Meaning.Places.{below}
use Rattle.team_worker.specs.declared.way.Draw.{Draw}
use Rattle.team_worker.specs.Ends.{IsAccount, AreBack, AreDrawn, AreAll}
use Rattle.team_worker.specs.Dealt.{own_numbers}
use Rattle.team_worker.specs.Places.{places_of}
use Rattle.team_log.specs.Logged.{joined}
use Rattle.team_worker.proofs.Dealing.{dealt_all}
use Rattle.team_worker.proofs.places.logs_left.Goals as goal

pub all_logs-requires : goal.all_logs-requires
all_logs-requires c =
    let aim = c.requires.0 in
    let left = c.requires.2 in
    let draw = c.in-Drawn.draw in
    let is = c.in-Drawn.is in
    let back = c.in_ok-seats-in-Drawn.seats.items in
    let taken = c.in_ok-seats-in-Drawn.ensures.taken aim draw (left.way_is ∙ is) left.made in
    let len = c.in_ok-seats-in-Drawn.ensures.len in
    let seats = (left.comes.seats draw is).0 in
    let places = c.args.places.ok.0 in
    let all = left.all ∙ ap (λ way. places_of way (length aim.chunks) aim.workers) is in
    let least = left.some in
    let are : AreBack draw.value.drawing back = record {
      some = omega arith;
      all = omega arith;
      named = taken.named;
      ended = taken.ended;
    } in
    subst (λ (d : Draw). AreBack d.drawing back) (sym c.into_inner-drawing.ensures) are

pub returns-in-Dealt-clause-all : goal.returns-in-Dealt-clause-all
returns-in-Dealt-clause-all c = λ aim n left.
    let size = c.in-Dealt.field-0 in
    let is = c.in-Dealt.is in
    let own = own_numbers size (length aim.chunks) aim.workers in
    let count = vec_len c.args.places in
    let places = c.args.places.ok.0 in
    let all = left.all ∙ ap (λ way. places_of way (length aim.chunks) aim.workers) is in
    let least = left.some in
    IfOk-weaker c.gather.result (λ cs. IsAccount aim.lowered aim.registers aim.store aim.pass aim.chunks (flat_map own (below count)) (joined cs.items)) (λ cs. AreAll aim.lowered aim.registers aim.store aim.pass aim.chunks (joined cs.items))
    (λ cs dealt. dealt_all aim.lowered aim.registers aim.store aim.pass aim.chunks size aim.workers count n (joined cs.items) (left.comes.cut size is) (omega arith) (omega arith) dealt)
    (c.gather.ensures.dealt aim size (left.way_is ∙ is) left.made)

pub returns-in_ok-seats-in-Drawn-clause-all : goal.returns-in_ok-seats-in-Drawn-clause-all
returns-in_ok-seats-in-Drawn-clause-all c = λ aim n left.
    let draw = c.in-Drawn.draw in
    let is = c.in-Drawn.is in
    let back = c.in_ok-seats-in-Drawn.seats.items in
    let account = joined c.in_ok-seats-in-Drawn.logs.items in
    let taken = c.in_ok-seats-in-Drawn.ensures.taken aim draw (left.way_is ∙ is) left.made in
    let drawn : AreDrawn aim.lowered aim.registers aim.store aim.pass aim.chunks draw.value.drawing back account = record { count = left.comes.drawn draw is; account = taken.account } in
    c.all_logs.ensures aim.lowered aim.registers aim.store aim.pass aim.chunks (subst (λ (d : Draw). AreDrawn aim.lowered aim.registers aim.store aim.pass aim.chunks d.drawing back account) (sym c.into_inner-drawing.ensures) drawn)
