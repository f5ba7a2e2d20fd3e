-- A counted loop whose turns make prefix sums, each turn with its cells to itself, and the shares of a team's workers of these turns.
use Rattle.std.specs.Prelude.{ℕ, zero, suc, ◌+◌, ◌-◌, ◌*◌, ◌/◌, ◌%◌, ◌<◌, ◌≤◌, ◌^◌, ◌≡◌, false, true, List, length, slice_index, take}
use Rattle.std.specs.List.{list_any}
use Rattle.ktree.specs.declared.expression.BinaryOp.TheVariants as B
use Rattle.lower_machine.specs.Machine.{machine}
use Rattle.law_lanes.specs.Reading.{saves}
use Rattle.law_parts.specs.Parts.{KeepApart}
use Rattle.lane_rows.specs.Lanes.{stepped}
use Rattle.lane_body.specs.Steady.{is_steady_rise}
use Rattle.lane_body.specs.declared.body.Scanned.{Scanned}
use Rattle.lane_body.specs.declared.counted.Counted.{Counted}
use Rattle.lane_body.specs.declared.counted.Course.TheVariants.{Up}
use Rattle.team_parts.specs.Window.{bound_of}
use Rattle.team_scans.specs.Placed.{IsPlaced, LeavesOwn, carried_by}
use Rattle.team_scans.specs.declared.prefixes.Prefixes.{Prefixes}
use Rattle.team_in_place.specs.Counting.{AreTurnsOf}
use Rattle.team_in_place.specs.Spinning.{AreItsTurns}
use Rattle.team_in_place.specs.declared.planning.Rise.{Rise}
use Rattle.team_in_place.specs.declared.scan_planning.ScanPlan.{ScanPlan}

-- the body in lanes leaves a turn its cells, whatever all of them hold, and nothing that makes the operand writes one
pub record IsScanApart (p : ScanPlan) (registers : List ℕ) : Type 0 where
  pub sums : p.scanned.operator ≡ B.Plus
  pub quiet : list_any saves (take p.scanned.front p.scanned.laned.ops.now) ≡ false
  pub wide : p.scanned.laned.limit ≤ length registers
  pub many : 2 ^ 16 ≤ p.rise.count
  pub few : p.rise.count ≤ 2 ^ 24
  pub room : p.window.low + p.window.width * p.rise.count < 2 ^ 62
  pub apart : (all : List ℕ) → KeepApart p.scanned.laned.variable.at (stepped p.rise.first p.rise.by) p.scanned.laned.ops.now p.rise.count (machine registers all) (bound_of p.window)

-- a body and turns, and the cells of each turn, which are among so many cells
pub record IsPlannedBy (scanned : Scanned) (rise : Rise) (registers : List ℕ) (cells : ℕ) (p : ScanPlan) : Type 0 where
  pub body : p.scanned ≡ scanned
  pub turns : p.rise ≡ rise
  pub within : p.window.low + p.window.width * p.rise.count ≤ cells
  pub apart : IsScanApart p registers

-- a counted loop's body and its turns, and the cells of each turn, which are among so many cells
pub record IsScanPlannedFor (c : Counted) (registers : List ℕ) (cells : ℕ) (p : ScanPlan) : Type 0 where
  pub ops : p.scanned.ops.now ≡ c.ops.items
  pub variable : p.scanned.laned.variable ≡ c.variable
  pub steady : is_steady_rise c.variable.at c.end.at c.by.at c.ops.items ≡ true
  pub turns : AreTurnsOf c registers p.rise
  pub words : (r : ℕ) → slice_index registers r < 2 ^ 64
  pub within : p.window.low + p.window.width * p.rise.count ≤ cells
  pub apart : IsScanApart p registers

-- the turns of a counted loop where it stands so in registers, which are many, and leave alone what says how many they are
pub record AreManyTurns (c : Counted) (registers : List ℕ) (t : Rise) : Type 0 where
  pub up : c.course ≡ Up
  pub turns : AreItsTurns c.variable c.end c.by c.ops.items registers t.first t.by t.count t.next
  pub many : 2 ^ 16 ≤ t.count

-- the first of so many turns behind some that a worker of so many has; behind the last worker all of them
abbrev pub share_first : ℕ → ℕ → ℕ → ℕ → ℕ
share_first head count workers worker = head + (count - head) * worker / workers

-- how many turns so many workers from one on have
abbrev pub share_turns : ℕ → ℕ → ℕ → ℕ → ℕ → ℕ
share_turns head count workers worker number = share_first head count workers (worker + number) - share_first head count workers worker

-- so many workers' turns from a worker on, over their own cells
abbrev pub AreShares : Prefixes → ℕ → ℕ → ℕ → ℕ → List ℕ → List ℕ → Type 0
AreShares s head workers worker number mine cells = IsPlaced s (share_first head s.count workers worker) (share_turns head s.count workers worker number) mine cells

-- numbers are what the turns of each of so many workers from one on add to the register, but for those of the last worker of all
pub record AreSums (s : Prefixes) (head workers worker number : ℕ) (mine sums : List ℕ) : Type 0 where
  pub adds : (cells : List ℕ) → AreShares s head workers worker number mine cells
      → (k : ℕ) → k < number → suc (worker + k) < workers → carried_by s cells (share_first head s.count workers (suc (worker + k))) ≡ (carried_by s cells (share_first head s.count workers (worker + k)) + slice_index sums k) % 2 ^ 64

-- a first number, and with so many of some numbers added, modulo 2^64
abbrev pub start_of : ℕ → List ℕ → ℕ → ℕ
start_of first sums zero = first
start_of first sums (suc k) = (start_of first sums k + slice_index sums k) % 2 ^ 64

-- numbers are what the register holds as each of so many workers from one on begins
abbrev pub AreStarts : Prefixes → ℕ → ℕ → ℕ → ℕ → List ℕ → List ℕ → Type 0
AreStarts s head workers worker number starts cells = (k : ℕ) → k < number → slice_index starts k ≡ carried_by s cells (share_first head s.count workers (worker + k))

-- the turns of so many workers from one on are done over their own cells, where numbers are what the register holds as each of them begins
pub record AreSharesDone (s : Prefixes) (head workers worker number : ℕ) (starts before after registers : List ℕ) : Type 0 where
  pub long : length after ≡ length before
  pub does : (cells : List ℕ) → AreShares s head workers worker number before cells → AreStarts s head workers worker number starts cells
      → LeavesOwn s (share_first head s.count workers worker) (share_turns head s.count workers worker number) after registers cells
