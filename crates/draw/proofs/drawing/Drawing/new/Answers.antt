use Rattle.std.proofs.Common.{◌≡◌, ℕ, ◌+◌, ◌-◌, [], ◌∷◌, ◌++◌, false, ◌∙◌, ap, rules, arith}
use Rattle.std.proofs.lemmas.List.Elements.{All-same, All-push}
use Rattle.atomic_table.specs.Table.{Me}
use Rattle.draw.specs.declared.rule.Size.{Size}
use Rattle.draw.specs.declared.rule.View.{View}
use Rattle.draw.specs.Tickets.{SeatState, DrawingName, fresh}
use Rattle.draw.specs.Rule.{idle, with_part_less, with_one_part}
use Rattle.draw.proofs.Keeps.{deals}
use Rattle.draw.proofs.drawing.Drawing.new.Goals as goal

pub split_seat-seat-requires : goal.split_seat-seat-requires
split_seat-seat-requires c =
    let was = c.loop.invariant.1 in
    let is = was.parts in
    let parts : c.loop.first.me.0.parts ≡ c.args.seats - c.loop.counter = ap (λ m. m.0.parts) is in
    let tickets : c.loop.first.me.0.tickets ≡ [] = ap (λ m. m.0.tickets) is in
    let ends : c.loop.first.me.0.ends ≡ 0 = ap (λ m. m.0.ends) is in
    (search (rules, was.table_is), search rules, deals _ _ _ (omega arith) tickets ends)

pub loop-preserved : goal.loop-preserved
loop-preserved c =
    let e = c.split_seat-seat.ensures in
    let was = c.loop.invariant.1 in
    let size : Size = record { count = c.args.count; seats = c.args.seats } in
    let name : DrawingName = record { table = c.in_ok-table.table.shared.table_id; count = c.args.count; seats = c.args.seats } in
    let less : c.args.seats - c.loop.counter - 1 ≡ c.args.seats - (c.loop.counter + 1) = omega arith in
    let table_is : c.split_seat-seat.result.table_id ≡ name.table = e.3 ∙ was.table_is in
    let mine : c.split_seat-seat.result.me ≡ (record (idle size) { parts = 1 }, [])
    = e.4 ∙ ap (λ (m : Me (Unit {0}) View). let n : Me (Unit {0}) View = (with_one_part m.0, []) in n) was.parts in
    let new_is : record { of = record { table = c.split_seat-seat.result.table_id; count = c.split_seat-seat.result.me.0.size.count; seats = c.split_seat-seat.result.me.0.size.seats }; tickets = c.split_seat-seat.result.me.0.tickets; ended = false } ≡ fresh name
    = (λ i. record { of = record { table = table_is i; count = (mine i).0.size.count; seats = (mine i).0.size.seats }; tickets = (mine i).0.tickets; ended = false }) in (
      c.in_ok-push.ensures.len ∙ ap (λ (n : ℕ). n + 1) c.loop.invariant.0,
      record {
        table_is = e.0 ∙ was.table_is;
        parts = e.2 ∙ (ap (λ (m : Me (Unit {0}) View). let n : Me (Unit {0}) View = (with_part_less m.0, m.1) in n) was.parts ∙ ap (λ (k : ℕ). let n : Me (Unit {0}) View = (record (idle size) { parts = k }, []) in n) less);
        each = All-same (λ (s : SeatState). s ≡ fresh name) c.push.new.self.items (c.loop.made.items ++ _ ∷ []) c.in_ok-push.ensures.items (All-push (λ (s : SeatState). s ≡ fresh name) c.loop.made.items _ was.each new_is);
      },
    )
