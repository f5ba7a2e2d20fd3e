use Rattle.std.proofs.Common.{◌≡◌, [], ◌∷◌, ◌++◌, sym, ap, subst, ◌∙◌, arith}
use Rattle.draw.specs.Tickets.{SeatState}
use Rattle.draw.proofs.Rising.{above, fewer_left}
use Rattle.team_worker.specs.Ends.{IsAccountOf}
use Rattle.team_worker.proofs.worker.run_drawn.Goals as goal

pub loop-ticket-init : goal.loop-ticket-init
loop-ticket-init g c =
    let job = c.args.job in
    record {
      runner = c.requires.runner;
      seat = ap (λ (s : SeatState). s.of) c.requires.seat;
      account = subst (λ ns. IsAccountOf job ns c.args.log.now) (ap (λ (s : SeatState). s.tickets) (sym c.requires.seat)) c.requires.log;
    }

pub loop-ticket-smaller : goal.loop-ticket-smaller
loop-ticket-smaller g c =
    let told = c.in-Some.ensures in
    let fewer = fewer_left c.args.drawing.now.count c.in-Some.ticket c.loop-ticket.seat.tickets told.ticket.0 told.ticket.1 in
    let is : above c.next.new.seat.tickets ≡ above (c.loop-ticket.seat.tickets ++ c.in-Some.ticket ∷ []) = ap (λ (s : SeatState). above s.tickets) told.seat in
    omega arith

pub loop-ticket-preserved : goal.loop-ticket-preserved
loop-ticket-preserved g c =
    let told = c.in-Some.ensures in
    let was = c.loop-ticket.invariant in
    let job = c.args.job in
    let tickets = c.loop-ticket.seat.tickets in
    record {
      runner = c.in_ok-run_logged.ensures.runner ∙ was.runner;
      seat = ap (λ (s : SeatState). s.of) told.seat ∙ was.seat;
      account = subst (λ ns. IsAccountOf job ns c.run_logged.new.log) (sym (ap (λ (s : SeatState). s.tickets) told.seat)) (c.in_ok-run_logged.ensures.account tickets was.account);
    }
