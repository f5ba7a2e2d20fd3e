use Rattle.std.proofs.Common.{◌≡◌, ◌<◌, ℕ, List, length, sym, ap, subst, ◌∙◌, arith}
use Rattle.semantics.specs.Loops.Chunk.{cut}
use Rattle.schedule.specs.Part.{static_kind}
use Rattle.team_worker.specs.declared.grounds.Grounds.{Grounds}
use Rattle.team_worker.specs.declared.way.Draw.{Draw}
use Rattle.team_worker.specs.Ends.{IsSplit, IsAccount, IsFinished}
use Rattle.team_worker.specs.Dealt.{own_numbers}
use Rattle.team_worker.specs.Places.{Aim, AreFor, AreSplit, aim_of, count_taken}
use Rattle.team_worker.proofs.Dealing.{places_few}
use Rattle.team.proofs.Lending.{place_is, size_fits, share_is_end, draws_are_end}
use Rattle.team.proofs.lent.run_worker.Goals as goal

pub leave_share-requires-clause-ready : goal.leave_share-requires-clause-ready
leave_share-requires-clause-ready g c =
    let lent = c.args.lent.now in
    let grounds = c.deref-grounds.result.now in
    let split = subst (λ (from : Grounds). AreSplit lent.lowered.now from) (sym c.deref-grounds.ensures) lent.ready in
    subst (λ (rs : List ℕ). IsSplit lent.lowered.now rs grounds.pass grounds.space grounds.chunks) (sym c.as_slice.ensures.value) split

pub leave_share-requires-clause-chunks : goal.leave_share-requires-clause-chunks
leave_share-requires-clause-chunks g c =
    let lent = c.args.lent.now in
    let size = c.in-Dealt.size in
    subst (λ (from : Grounds). from.chunks ≡ cut (static_kind size) (count_taken from) lent.workers) (sym c.deref-grounds.ensures) (lent.comes.cut size c.in-Dealt.is)

pub leave_share-requires-clause-size : goal.leave_share-requires-clause-size
leave_share-requires-clause-size g c =
    let lent = c.args.lent.now in
    size_fits lent.way c.in-Dealt.size (count_taken lent.grounds.value) lent.grounds.value.chunks lent.workers lent.comes c.in-Dealt.is

pub leave_share-requires-clause-number : goal.leave_share-requires-clause-number
leave_share-requires-clause-number g c =
    let lent = c.args.lent.now in
    let placed = subst (λ (n : ℕ). c.args.number < n) (ap (λ (k : List Aim). length k) c.deref.ensures.value ∙ sym lent.places.ok.0 ∙ lent.all) c.in-Some.ensures.lookup.3.0 in
    let few = places_few lent.way (length lent.grounds.value.chunks) lent.workers in
    omega arith

pub leave_share-requires-clause-place : goal.leave_share-requires-clause-place
leave_share-requires-clause-place g c =
    let lent = c.args.lent.now in
    let grounds = c.deref-grounds.result.now in
    let found = c.in-Some.ensures.lookup in
    let aim = aim_of lent.lowered.now grounds lent.store lent.way lent.workers in
    let made = subst (λ (from : Grounds). AreFor (aim_of lent.lowered.now from lent.store lent.way lent.workers) lent.places.items) (sym c.deref-grounds.ensures) lent.made in
    let here = place_is aim c.deref.result.now c.in-Some.place.now c.args.number (subst (λ (ps : List Aim). AreFor aim ps) (sym c.deref.ensures.value) made) found.3.0 found.1 in
    let own = own_numbers c.in-Dealt.size (length grounds.chunks) lent.workers c.args.number in
    λ log account. share_is_end aim c.in-Some.place.now c.in-Dealt.size c.args.number here c.in-Dealt.is log
    (subst (λ (rs : List ℕ). IsAccount lent.lowered.now rs lent.store grounds.pass grounds.chunks own log.value) c.as_slice.ensures.value account)

pub leave_draws-requires-clause-ready : goal.leave_draws-requires-clause-ready
leave_draws-requires-clause-ready g c =
    let lent = c.args.lent.now in
    let grounds = c.deref-grounds.result.now in
    let split = subst (λ (from : Grounds). AreSplit lent.lowered.now from) (sym c.deref-grounds.ensures) lent.ready in
    subst (λ (rs : List ℕ). IsSplit lent.lowered.now rs grounds.pass grounds.space grounds.chunks) (sym c.as_slice.ensures.value) split

pub leave_draws-requires-clause-place : goal.leave_draws-requires-clause-place
leave_draws-requires-clause-place g c =
    let lent = c.args.lent.now in
    let grounds = c.deref-grounds.result.now in
    let draw = c.in-Drawn.draw in
    let found = c.in-Some.ensures.lookup in
    let aim = aim_of lent.lowered.now grounds lent.store lent.way lent.workers in
    let made = subst (λ (from : Grounds). AreFor (aim_of lent.lowered.now from lent.store lent.way lent.workers) lent.places.items) (sym c.deref-grounds.ensures) lent.made in
    let here = place_is aim c.deref.result.now c.in-Some.place.now c.args.number (subst (λ (ps : List Aim). AreFor aim ps) (sym c.deref.ensures.value) made) found.3.0 found.1 in
    λ finished is. draws_are_end aim c.in-Some.place.now draw c.args.number here c.in-Drawn.is finished
    (subst (λ (d : Draw). IsFinished lent.lowered.now grounds.registers.items lent.store grounds.pass grounds.chunks d.drawing finished) c.deref-in-Drawn.ensures
    (subst (λ (rs : List ℕ). IsFinished lent.lowered.now rs lent.store grounds.pass grounds.chunks c.deref-in-Drawn.result.now.drawing finished) c.as_slice.ensures.value is))
