use Rattle.std.proofs.Common.{◌≡◌, ◌-◌, vec_len}
use Rattle.draw.proofs.Seats.{Made}
use Rattle.draw.proofs.drawing.Drawing.new.Given as goal

abbrev pub invariant-loop : goal.invariant-loop
invariant-loop l =
    (vec_len l.made ≡ l.counter)
    × Made (record { table = l.table.shared.table_id; count = l.size.count; seats = l.size.seats }) (l.seats - l.counter) l.first.table_id l.first.me l.made.items
