use Rattle.std.proofs.Common.{ℕ, ◌≡◌, ◌+◌, ◌≤◌, List, [], ◌∷◌, ◌++◌, length, vec_len, sym, ap, ◌∙◌, subst, append_assoc, length-append, arith}
use Rattle.team_worker.specs.declared.way.Way.TheVariants.{Drawn}
use Rattle.team_worker.specs.declared.place.End.TheVariants.{Draws}
use Rattle.draw.specs.Tickets.{SeatState}
use Rattle.team_worker.specs.Ends.{IsFinished}
use Rattle.team_log.specs.Logged.{Account, joined, both}
use Rattle.team_worker.specs.Places.{Aim, IsEndBy}
use Rattle.team_worker.proofs.Ending.{taken_more, place_of}
use Rattle.team_worker.proofs.Accounts.{joined_more}
use Rattle.team_worker.proofs.drawn.collect.Goals as goal

pub loop-place-preserved : goal.loop-place-preserved
loop-place-preserved c =
    let ys = c.loop-place.yielded in
    let was = c.loop-place.invariant in
    let place = c.in-Some.place in
    let finished = c.in-Some-draws.field-0 in
    let whole = ap (λ (r : List Aim). ys ++ r) (sym c.in-Some.ensures.steps.0) ∙ was.whole in
    record {
      whole = append_assoc ys (place ∷ []) _ ∙ whole;
      seats = subst (λ (n : ℕ). vec_len c.args.places ≤ n) (sym c.seat_back.ensures.room) was.seats;
      logs = subst (λ (n : ℕ). vec_len c.args.places ≤ n) (sym c.push_reserved.ensures.capacity) was.logs;
      many = omega (arith, length-append ys (place ∷ []));
      taken = λ aim draw way are.
          let here = place_of aim ys _ c.args.places.items place whole are in
          let one : IsFinished aim.lowered aim.registers aim.store aim.pass aim.chunks draw.value.drawing finished
          = subst (λ (a : Aim). IsEndBy a (Drawn draw) (Draws finished)) here (c.in-Some-draws.ensures draw (ap (λ (a : Aim). a.way) here ∙ way)) in
          let more = subst (λ (a : Account). joined c.push_reserved.new.self.items ≡ both (joined c.loop-place.logs.items) a) c.into_inner.ensures (joined_more c.loop-place.logs.items c.push_reserved.new.self.items c.into_inner.result c.push_reserved.ensures.items) in
          taken_more aim.lowered aim.registers aim.store aim.pass aim.chunks draw.value.drawing c.loop-place.seats.items c.seat_back.new.seats.items (joined c.loop-place.logs.items) _ finished c.in_ok-seat_back.ensures.back more (was.taken aim draw way are) one;
      len =
          ap (λ (k : List SeatState). length k) c.in_ok-seat_back.ensures.back
          ∙ (length-append c.loop-place.seats.items (finished.seat ∷ []) ∙ (ap (λ (n : ℕ). n + 1) was.len ∙ sym (length-append ys (place ∷ []))));
    }
