use Rattle.std.proofs.Common.{[], refl, rules, subst, sym, ◌∙◌}
use Rattle.nest_space.specs.Nests.{AreModest, given, AreRunsOf}
use Rattle.deptest_witness.specs.Touching.{NestAt, FirstTurns}
use Rattle.deptest_witness.specs.Elements.{access_of}
use Rattle.deptest_witness.proofs.Entering.{turns_found}
use Rattle.deptest_witness.proofs.Meetings.{never_law, no_space_law}
use Rattle.deptest_witness.proofs.meeting.first_meeting.Goals as goal

pub returns-in_default-at-clause-none : goal.returns-in_default-at-clause-none
returns-in_default-at-clause-none c = λ r p is.
    let turns = turns_found c.args.serial.now c.new.result.items c.in_ok-outer.field-0 c.in-Some.outer c.in-Some.is c.in_ok-outer.ensures.turns in
    let first : FirstTurns c.args.serial.now [] c.deref.result.now =
    subst (λ vs. FirstTurns c.args.serial.now vs c.deref.result.now) c.new.ensures.items (subst (λ vs. FirstTurns c.args.serial.now c.new.result.items vs) (sym c.deref.ensures.value) turns) in
    let modest : AreModest c.deref.result.now = search rules in
    absurd (no_space_law c.args.serial.now c.args.nest.now c.deref.result.now first modest c.in_default-at.ensures.exact r p is)

pub returns-clause-none : goal.returns-clause-none
returns-clause-none c =
    let serial = c.args.serial.now in
    let nest = c.args.nest.now in
    let turns = turns_found serial c.new.result.items c.in_ok-outer.field-0 c.in-Some.outer c.in-Some.is c.in_ok-outer.ensures.turns in
    let first : FirstTurns serial [] c.deref-2.result.now =
    subst (λ vs. FirstTurns serial vs c.deref-2.result.now) c.new.ensures.items (subst (λ vs. FirstTurns serial c.new.result.items vs) (sym c.deref-2.ensures.value) turns) in
    let runs : AreRunsOf nest (given c.deref-2.result.now) c.in-Some-at.space =
    subst (λ vs. AreRunsOf nest (given vs) c.in-Some-at.space) (c.deref.ensures.value ∙ sym c.deref-2.ensures.value) c.in-Some-at.ensures.exact in
    let region : NestAt = record { outer = c.deref-2.result.now; loops = nest; turns = c.in-Some-at.space } in
    never_law serial nest region (access_of c.args.x.now) (access_of c.args.y.now) c.meeting_in.result
    (record { loops = refl; first = first; runs = runs })
    c.meeting_in.ensures
