use Rattle.std.proofs.Common.{◌≡◌, true, length, vec_len, sym, subst, ◌∙◌, arith}
use Rattle.std.proofs.lemmas.Bool.{false≢true}
use Rattle.semantics.specs.Loops.Arrangement.{EachOnceBelow}
use Rattle.draw.specs.Tickets.{SomeEnded, all_tickets}
use Rattle.draw.proofs.Seats.{some_ended}
use Rattle.team_worker.proofs.drawn.all_logs.Goals as goal

pub close-requires : goal.close-requires
close-requires c = c.requires.named

pub prove-unreachable-requires : goal.prove-unreachable-requires
prove-unreachable-requires c =
    let back = c.requires in
    let least = back.some in
    let is = c.args.end.seats.ok.0 in
    let len = back.all in
    let all : vec_len c.args.end.seats ≡ c.args.end.drawing.seats = omega arith in
    let ended : SomeEnded c.args.end.seats.items = some_ended c.args.end.seats.items (omega arith) back.ended in
    let whole : c.close.result ≡ true = c.close.ensures.whole.1 (all, ended) in
    false≢true (sym c.if-prove.true ∙ (c.whole-whole.ensures ∙ whole))

pub returns : goal.returns
returns c = λ l registers ks pass chunks drawn.
    let back = c.requires in
    let least = back.some in
    let is = c.args.end.seats.ok.0 in
    let len = back.all in
    let all : vec_len c.args.end.seats ≡ c.args.end.drawing.seats = omega arith in
    let seats = c.args.end.seats.items in
    let ended : SomeEnded seats = some_ended seats (omega arith) back.ended in
    let together = c.close.ensures.together all in
    let count : together.drawn ≡ length chunks = together.ended ended ∙ drawn.count in
    record {
      numbers = all_tickets seats;
      account = drawn.account;
      once = subst (λ n. EachOnceBelow n (all_tickets seats)) count together.each_once;
    }
