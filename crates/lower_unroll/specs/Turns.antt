-- Turns of a loop whose variable is known in each of them. (C11 6.8.5)
use Rattle.std.specs.Prelude.{ℕ, zero, suc, ◌≡◌, ◌+◌, ◌==◌, Bool, true, false, not, ◌&&◌, length, slice_set}
use Rattle.lower_machine.specs.declared.term.Code.{Code, Nothing, Set, Then', If'}
use Rattle.lower_machine.specs.Machine.{Machine, Running, machine, running, after}

-- a register takes a number
abbrev pub knowing : ℕ → ℕ → Machine → Machine
knowing x n m = machine (slice_set m.registers x n) m.cells

abbrev pub with_register : ℕ → ℕ → Running → Running
with_register x n r = running (knowing x n r.machine) r.text

-- so many turns of a body, in which a register holds a first number, and from turn to turn one by a step greater; behind them it holds the next
abbrev pub turns : Code → ℕ → ℕ → ℕ → ℕ → Running → Running
turns body x first by zero r = with_register x first r
turns body x first by (suc n) r = turns body x (first + by) by n (after body (with_register x first r))

-- code does nothing but to set other registers
abbrev pub sets_others : ℕ → Code → Bool
sets_others x Nothing = true
sets_others x (Set y t) = not (y.at == x)
sets_others x (Then' p a q b) = sets_others x a && sets_others x b
sets_others x (If' c p a q b) = sets_others x a && sets_others x b
sets_others x c = false

-- code does as other code where there are so many registers
abbrev pub DoesAs : ℕ → (Running → Running) → Code → Type 0
DoesAs count f code = (r : Running) → length r.machine.registers ≡ count → after code r ≡ f r
