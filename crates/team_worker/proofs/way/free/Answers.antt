use Rattle.std.proofs.Common.{◌≡◌, ℕ, ◌≤◌, List, [], ◌∷◌, ◌++◌, All, vec_len, sym, ap, subst, ◌∙◌, append_assoc, length-append, arith}
use Rattle.std.proofs.lemmas.List.Elements.{All-same, All-push}
use Rattle.draw.specs.Tickets.{SeatState, fresh}
use Rattle.team_worker.proofs.Ending.{member}
use Rattle.team_worker.proofs.way.free.Goals as goal

pub loop-seat-preserved : goal.loop-seat-preserved
loop-seat-preserved c =
    let ys = c.loop-seat.yielded in
    let was = c.loop-seat.invariant in
    let name = c.args.drawing.now in
    let whole = ap (λ (r : List SeatState). ys ++ r) (sym c.in-Some.ensures.steps.0) ∙ was.whole in
    let seat : c.in-Some.seat ≡ fresh name = member (λ s. s ≡ fresh name) ys _ c.in-Some.seat (subst (λ (l : List SeatState). All (λ s. s ≡ fresh name) l) (sym whole) c.requires) in
    let here : c.new.result ≡ fresh name = c.new.ensures ∙ seat in
    let P : SeatState → Type 0 = λ s. s ≡ fresh name in
    record {
      whole = append_assoc ys (c.in-Some.seat ∷ []) _ ∙ whole;
      room = subst (λ (n : ℕ). vec_len c.args.seats ≤ n) (sym c.push_reserved.ensures.capacity) was.room;
      many = omega (arith, length-append ys (c.in-Some.seat ∷ []));
      fresh_all = All-same P c.push_reserved.new.self.items (c.loop-seat.free.items ++ c.new.result ∷ []) c.push_reserved.ensures.items (All-push P c.loop-seat.free.items c.new.result was.fresh_all here);
    }
