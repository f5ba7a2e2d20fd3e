-- The row of the register where the operands are made holds them, and else that of the one to which they are moved.
use Rattle.std.proofs.Common.{◌≡◌, ◌+◌, ◌*◌, ◌%◌, ◌^◌, List, length, ap, ◌∙◌, subst, rules}
use Rattle.lower_machine.specs.Machine.{machine}
use Rattle.lower_op.specs.declared.op.Op.{Op}
use Rattle.law_lanes.specs.Lanes.{begun, in_step, lanes_of}
use Rattle.lane_rows.specs.Lanes.{stepped}
use Rattle.lane_part.proofs.Marking.{have_room_more}
use Rattle.lane_work.specs.Files.{files}
use Rattle.lower_lanes.specs.Saved.{IsOperand}
use Rattle.lower_lanes.specs.Tails.{AreOf}
use Rattle.lower_lanes.proofs.Behind.{in_step_append}
use Rattle.lower_lanes.proofs.Counting.{stepped_apart}
use Rattle.lower_lanes.proofs.Operands.{front_marked}
use Rattle.lower_lanes.proofs.Turned.{begun_kept}
use Rattle.lower_lanes.specs.declared.saved_prefixes.Operand.{Operand}
use Rattle.team_scans.specs.declared.prefixes.Prefixes.{Prefixes}
use Rattle.team_scans.proofs.Blocks.{front_of}
use Rattle.team_scans.proofs.Sums.{front_fits, in_rows, made_cells, made_in_rows, parts_fit, ran_over, row_holds, same_cells}
use Rattle.team_scans.proofs.adding.operand_row.Goals as goal

-- both parts of the front
fits : (s : Prefixes) (o : Operand) → IsOperand (front_of s) o.made.now o.moved.now s.scanned.target o.register → AreOf s.scanned.laned.limit s.scanned.laned.ops.now o.made.now × AreOf s.scanned.laned.limit s.scanned.laned.ops.now o.moved.now
fits s o is = parts_fit s.scanned.laned.limit s.scanned.laned.ops.now o.made.now o.moved.now (subst (AreOf s.scanned.laned.limit s.scanned.laned.ops.now) is.whole (front_fits s))

pub steps-some-requires-clause-room : goal.steps-some-requires-clause-room
steps-some-requires-clause-room g c =
    let s = c.args.prefixes in
    let l = s.scanned.laned in
    let o = c.operand_in-operand.result in
    let is = c.operand_in-operand.ensures in
    have_room_more l.limit 64 o.made.now l.few (fits s o is).0.room

pub steps-some-requires-clause-inside : goal.steps-some-requires-clause-inside
steps-some-requires-clause-inside g c =
    let s = c.args.prefixes in
    let l = s.scanned.laned in
    let o = c.operand_in-operand.result in
    let is = c.operand_in-operand.ensures in
    have_room_more l.limit (length s.registers.now) o.made.now s.wide (fits s o is).0.room

pub steps-all-requires-clause-room : goal.steps-all-requires-clause-room
steps-all-requires-clause-room g c =
    let s = c.args.prefixes in
    let l = s.scanned.laned in
    let o = c.operand_in-operand.result in
    let is = c.operand_in-operand.ensures in
    have_room_more l.limit 64 o.moved.now l.few (fits s o is).1.room

pub steps-all-requires-clause-inside : goal.steps-all-requires-clause-inside
steps-all-requires-clause-inside g c =
    let s = c.args.prefixes in
    let l = s.scanned.laned in
    let o = c.operand_in-operand.result in
    let is = c.operand_in-operand.ensures in
    have_room_more l.limit (length s.registers.now) o.moved.now s.wide (fits s o is).1.room

pub returns-then-has_row-clause-operands : goal.returns-then-has_row-clause-operands
returns-then-has_row-clause-operands g c =
    let s = c.args.prefixes in
    let l = s.scanned.laned in
    let o = c.operand_in-operand.result in
    let is = c.operand_in-operand.ensures in
    let first = (s.first + c.args.from * s.by % 2 ^ 64) % 2 ^ 64 in
    let cells = g.M.Cells.cells in
    let old = cells c.args.cells.now in
    let r = c.steps-some in
    let ran = ran_over s first c.args.count old c.args.bench.now r.new.bench (cells r.new.cells) r.result o.made.now (fits s o is).0 r.ensures.does in
    row_holds s c.args.from c.args.count old r.new.bench o.register.at
    (made_in_rows s c.args.from c.args.count old first (stepped_apart s.first s.by c.args.from) o.made.now o.moved.now o.register is r.new.bench (cells r.new.cells) r.result ran (search rules) (search rules))

pub returns-then-has_row-clause-cells : goal.returns-then-has_row-clause-cells
returns-then-has_row-clause-cells g c =
    let s = c.args.prefixes in
    let l = s.scanned.laned in
    let o = c.operand_in-operand.result in
    let is = c.operand_in-operand.ensures in
    let first = (s.first + c.args.from * s.by % 2 ^ 64) % 2 ^ 64 in
    let cells = g.M.Cells.cells in
    let old = cells c.args.cells.now in
    let r = c.steps-some in
    let ran = ran_over s first c.args.count old c.args.bench.now r.new.bench (cells r.new.cells) r.result o.made.now (fits s o is).0 r.ensures.does in
    made_cells s c.args.from c.args.count old first (stepped_apart s.first s.by c.args.from) o.made.now o.moved.now o.register is r.new.bench (cells r.new.cells) r.result ran (search rules) (search rules)

pub returns-clause-operands : goal.returns-clause-operands
returns-clause-operands g c =
    let s = c.args.prefixes in
    let l = s.scanned.laned in
    let o = c.operand_in-operand.result in
    let is = c.operand_in-operand.ensures in
    let first = (s.first + c.args.from * s.by % 2 ^ 64) % 2 ^ 64 in
    let cells = g.M.Cells.cells in
    let old = cells c.args.cells.now in
    let r = c.steps-some in
    let ran = ran_over s first c.args.count old c.args.bench.now r.new.bench (cells r.new.cells) r.result o.made.now (fits s o is).0 r.ensures.does in
    let v = stepped first s.by in
    let m = machine s.registers.now old in
    let a = c.steps-all in
    let kept = r.ensures.keeps l.ops.now (fits s o is).0.steady (fits s o is).0.within (begun_kept l.variable.at v c.args.count s.registers.now c.args.bench.now l.ops.now) in
    let whole : in_step (front_of s) (begun l.variable.at v c.args.count m) ≡ lanes_of (files l.variable.at v a.new.bench s.registers.now a.result c.args.count) (cells a.new.cells) =
    ap (λ (x : List Op). in_step x (begun l.variable.at v c.args.count m)) is.whole
    ∙ in_step_append o.made.now o.moved.now (begun l.variable.at v c.args.count m)
    ∙ ap (in_step o.moved.now) ran
    ∙ a.ensures.does l.ops.now (fits s o is).1.steady (fits s o is).1.within kept in
    let there = front_marked (front_of s) o.made.now o.moved.now s.scanned.target o.register r.result a.result s.scanned.target.at is s.scanned.scanned.prefix.written r.ensures.adds.written a.ensures.adds in
    row_holds s c.args.from c.args.count old a.new.bench s.scanned.target.at
    (in_rows s c.args.from c.args.count old first a.new.bench (cells a.new.cells) a.result (stepped_apart s.first s.by c.args.from) whole there)

pub returns-clause-cells : goal.returns-clause-cells
returns-clause-cells g c =
    let s = c.args.prefixes in
    let l = s.scanned.laned in
    let o = c.operand_in-operand.result in
    let is = c.operand_in-operand.ensures in
    let first = (s.first + c.args.from * s.by % 2 ^ 64) % 2 ^ 64 in
    let cells = g.M.Cells.cells in
    let old = cells c.args.cells.now in
    let r = c.steps-some in
    let ran = ran_over s first c.args.count old c.args.bench.now r.new.bench (cells r.new.cells) r.result o.made.now (fits s o is).0 r.ensures.does in
    let v = stepped first s.by in
    let m = machine s.registers.now old in
    let a = c.steps-all in
    let kept = r.ensures.keeps l.ops.now (fits s o is).0.steady (fits s o is).0.within (begun_kept l.variable.at v c.args.count s.registers.now c.args.bench.now l.ops.now) in
    let whole : in_step (front_of s) (begun l.variable.at v c.args.count m) ≡ lanes_of (files l.variable.at v a.new.bench s.registers.now a.result c.args.count) (cells a.new.cells) =
    ap (λ (x : List Op). in_step x (begun l.variable.at v c.args.count m)) is.whole
    ∙ in_step_append o.made.now o.moved.now (begun l.variable.at v c.args.count m)
    ∙ ap (in_step o.moved.now) ran
    ∙ a.ensures.does l.ops.now (fits s o is).1.steady (fits s o is).1.within kept in
    same_cells s c.args.from c.args.count old first a.new.bench (cells a.new.cells) a.result (stepped_apart s.first s.by c.args.from) whole
