use Rattle.std.proofs.Common.{◌≡◌, ◌↔◌, ◌<◌, ℕ, List, true, Contains, subst}
use Rattle.std.specs.Prelude.{nat_lt}
use Rattle.std.proofs.lemmas.Bool.Decides.{Decides-ltb}
use Rattle.pairtest.specs.DirectionVectors.{turns_of}
use Rattle.pairtest.proofs.Summaries.{box_decided}
use Rattle.pairtest.proofs.direction.is_box_empty.Goals as goal

pub returns : goal.returns
returns c =
    let serial : (c.never_turns.result ≡ true) ↔ Contains c.args.nest.now.serial.items 0 =
    subst (λ (ns : List ℕ). (c.never_turns.result ≡ true) ↔ Contains ns 0) c.deref.ensures.value c.never_turns.ensures in
    let loops : (c.never_turns-2.result ≡ true) ↔ Contains c.args.nest.now.loops.items 0 =
    subst (λ (ns : List ℕ). (c.never_turns-2.result ≡ true) ↔ Contains ns 0) c.deref-2.ensures.value c.never_turns-2.ensures in
    let earlier : (c.never_turns-3.result ≡ true) ↔ Contains c.args.earlier.now.inner.items 0 =
    subst (λ (ns : List ℕ). (c.never_turns-3.result ≡ true) ↔ Contains ns 0) c.deref-3.ensures.value c.never_turns-3.ensures in
    let later : (c.never_turns-4.result ≡ true) ↔ Contains c.args.later.now.inner.items 0 =
    subst (λ (ns : List ℕ). (c.never_turns-4.result ≡ true) ↔ Contains ns 0) c.deref-4.ensures.value c.never_turns-4.ensures in
    let turns : (nat_lt c.trip_count-turns_once.result 2 ≡ true) ↔ (turns_of c.args.nest.now c.args.at < 2) =
    subst (λ (n : ℕ). (nat_lt c.trip_count-turns_once.result 2 ≡ true) ↔ (n < 2)) c.trip_count-turns_once.ensures (Decides-ltb c.trip_count-turns_once.result 2) in
    box_decided (turns_of c.args.nest.now c.args.at) c.args.nest.now.serial.items c.args.nest.now.loops.items c.args.earlier.now.inner.items c.args.later.now.inner.items
    _ _ _ _ _ turns serial loops earlier later
