use Rattle.std.proofs.Common.{◌≡◌, ◌<◌, ◌≤◌, length, sym, ap, ◌∙◌, arith}
use Rattle.std.specs.Prelude.{◌&&◌, Bool}
use Rattle.semantics.specs.Meaning.Definite.{DefinitelyAssigned}
use Rattle.flow_definite.specs.Judged.{known_of}
use Rattle.flow_definite.proofs.KnownLemmas.{met_below, met_none, met_set, met_all}
use Rattle.flow_definite.proofs.known.DefinitelyAssigned.meet.Goals as goal

pub loop-i-init : goal.loop-i-init
loop-i-init c = (met_none (known_of (c.reach.new.slots.items, c.args.self.now.1)) (known_of c.args.other.now), sym c.len-count.ensures)

pub loop-i-preserved : goal.loop-i-preserved
loop-i-preserved c =
    let lt : c.loop-i.i < length c.loop-i.slots.items = omega (arith, c.loop-i.invariant.1) in (
      met_set c.args.self.now.1 c.loop-i.slots.items (known_of (c.reach.new.slots.items, c.args.self.now.1)) (known_of c.args.other.now) c.loop-i.i c.index_mut.result.now c.knows.result lt c.index_mut.ensures.value
          c.knows.ensures c.loop-i.invariant.0,
      c.loop-i.invariant.1,
    )

pub returns : goal.returns
returns c =
    let mine : c.self.inside.others ≡ c.args.self.now.1 = ap (λ p. p.1) c.self.view_is in
    let others = c.args.self.now.1 in
    let theirs = c.other.inside.others in
    let slots = c.loop-i.slots.items in
    let there = c.other.inside.slots.items in
    let a : DefinitelyAssigned = known_of (c.reach.new.slots.items, others) in
    let all : length slots ≡ c.loop-i.i = omega (arith, c.loop-i.invariant.1) in
    let less : length there ≤ c.loop-i.i = omega (arith, c.len.ensures, c.len-count.ensures, c.in_ok-reach.ensures.reached) in
    let met : known_of (slots, others) ≡ met_below a (known_of (there, theirs)) c.loop-i.i = c.loop-i.invariant.0 ∙ ap (λ o. met_below a (known_of o) c.loop-i.i) (sym c.other.view_is) in
    let begun : a ≡ known_of c.args.self.now = ap (λ (o : Bool). known_of (c.reach.new.slots.items, o)) (sym mine) ∙ c.in_ok-reach.ensures.known ∙ ap known_of c.self.view_is in
    let both : DefinitelyAssigned → DefinitelyAssigned → DefinitelyAssigned = λ f g y. f y && g y in
    let with_theirs : DefinitelyAssigned → DefinitelyAssigned = λ f. both f (known_of (there, theirs)) in
    ap (λ (o : Bool). known_of (slots, o && theirs)) mine
    ∙ met_all others theirs slots there a c.loop-i.i all less met
    ∙ ap with_theirs begun
    ∙ ap (λ o. both (known_of c.args.self.now) (known_of o)) c.other.view_is
