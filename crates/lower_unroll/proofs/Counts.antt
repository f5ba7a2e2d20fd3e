-- How often a variable is below its limit, and what its turns leave.
use Rattle.std.proofs.Common.{◌≡◌, ◌≢◌, ℕ, zero, suc, ◌+◌, ◌-◌, ◌*◌, ◌/◌, ◌%◌, ◌^◌, ◌<◌, ◌≤◌, Bool, true, false, cond, refl, sym, ap, ◌∙◌, arith}
use Rattle.std.specs.Prelude.{slice_index, nat_lt}
use Rattle.std.proofs.Math.Nat.{suc-mul, mul_comm, div-add-mod, mul-le-mul_right}
use Rattle.std.proofs.lemmas.Bool.{lt-ltb, ltb-true}
use Rattle.semantics.specs.Meaning.Runs.{greatest_trip_count}
use Rattle.lower_machine.specs.declared.term.Code.{Code, Nothing}
use Rattle.lower_machine.specs.declared.term.Test.{Test}
use Rattle.lower_machine.specs.Machine.{Machine, Running, after, spins, truth}
use Rattle.lower_unroll.specs.Turns.{with_register, sets_others, turns}
use Rattle.lower_unroll.proofs.Registers.{held, width, with_twice, holds_now, width_with, leaves, width_after}
use Rattle.lower_unroll.proofs.Copies.{IsCopy}

-- numbers below a limit, a step apart: the last step may be cut short
pub below_exact : (first limit by k rest : ℕ) → 0 < by → rest ≡ 0 → k < (limit - first) / by + rest → first + k * by < limit
below_exact first limit by k rest some none lt =
    let whole = div-add-mod (limit - first) by in
    let turned = mul_comm ((limit - first) / by) by in
    let next = suc-mul k by in
    let less : suc k ≤ (limit - first) / by = omega arith in
    let most = mul-le-mul_right by less in
    omega (arith, whole, turned, next, most)

pub below_rest : (first limit by k rest : ℕ) → rest ≡ 1 → (limit - first) % by ≢ 0 → k < (limit - first) / by + rest → first + k * by < limit
below_rest first limit by k rest one left lt =
    let whole = div-add-mod (limit - first) by in
    let turned = mul_comm ((limit - first) / by) by in
    let less : k ≤ (limit - first) / by = omega arith in
    let most = mul-le-mul_right by less in
    omega (arith, whole, turned, most, left)

not_below : (a b : ℕ) → b ≤ a → nat_lt a b ≡ false
not_below a b le = go (nat_lt a b) refl
  where
    go : (t : Bool) → nat_lt a b ≡ t → nat_lt a b ≡ false
    go true e = let lt = ltb-true a b e in absurd (omega arith)
    go false e = e

-- a step that adds a number to a register
module _ (x by : ℕ) (body step : Code) (leave : sets_others x body ≡ true) (adds : (r : Running) → after step r ≡ with_register x ((held x r + by) % 2 ^ 64) r) where
  -- one turn, from where the register holds a number
  one_turn : (v : ℕ) (r : Running) → x < width r → v + by < 2 ^ 64 → after step (after body (with_register x v r)) ≡ with_register x (v + by) (after body (with_register x v r))
  one_turn v r lt small =
      let q = after body (with_register x v r) in
      let here : held x q ≡ v = leaves x body leave (with_register x v r) ∙ holds_now x v r lt in
      let sum : (held x q + by) % 2 ^ 64 ≡ v + by = omega (arith, here) in
      adds q ∙ ap (λ n. with_register x n q) sum

  -- the turns of a loop that ends where the register is no longer below a limit
  pub spun : (test : Test) (limit : ℕ) → ((m : Machine) → truth test m ≡ nat_lt (slice_index m.registers x) limit)
      → (n fuel first : ℕ) → n ≤ fuel → first + n * by < 2 ^ 64 → ((k : ℕ) → k < n → first + k * by < limit) → limit ≤ first + n * by
      → (r : Running) → x < width r → spins fuel (truth test) (λ k. after step (after body k)) (with_register x first r) ≡ turns body x first by n r
  spun test limit is zero zero first le fits below ends r lt = refl
  spun test limit is zero (suc fuel) first le fits below ends r lt =
      let start = with_register x first r in
      let past : limit ≤ held x start = (let h = holds_now x first r lt in omega (arith, h)) in
      ap (λ t. cond t (spins fuel (truth test) (λ k. after step (after body k)) (after step (after body start))) start) (is start.machine ∙ not_below (held x start) limit past)
  spun test limit is (suc n) zero first le fits below ends r lt = absurd (omega arith)
  spun test limit is (suc n) (suc fuel) first le fits below ends r lt =
      let start = with_register x first r in
      let q = after body start in
      let more = suc-mul n by in
      let here : held x start < limit = (let h = holds_now x first r lt in let b = below 0 (omega arith) in omega (arith, h, b)) in
      let wide : width q ≡ width r = width_after body start ∙ width_with x first r in
      ap (λ t. cond t (spins fuel (truth test) (λ k. after step (after body k)) (after step (after body start))) start) (is start.machine ∙ lt-ltb (held x start) limit here)
      ∙ ap (spins fuel (truth test) (λ k. after step (after body k))) (one_turn first r lt (omega (arith, more)))
      ∙ spun test limit is n fuel (first + by) (omega arith) (omega (arith, more)) (λ k less. let b = below (suc k) (omega arith) in let m = suc-mul k by in omega (arith, b, m)) (omega (arith, more)) q (omega arith)

-- turns begin with a number in the register, whatever it held
turns_over : (body : Code) (x w by n old : ℕ) (r : Running) → turns body x w by n (with_register x old r) ≡ turns body x w by n r
turns_over body x w by zero old r = with_twice x old w r
turns_over body x w by (suc n) old r = ap (λ k. turns body x (w + by) by n (after body k)) (with_twice x old w r)

-- a copy of the body for one turn, and the turns that are left
pub one_written : (body copy : Code) (x v by n : ℕ) → IsCopy x v body copy → (q : Running) → x < width q → turns body x (v + by) by n (after copy q) ≡ turns body x v by (suc n) q
one_written body copy x v by n is q lt = ap (turns body x (v + by) by n) (is q lt) ∙ turns_over body x (v + by) by n (held x q) (after body (with_register x v q))

-- the turns of a loop are written so far, whatever is written of the others behind
module _ (body : Code) (x first by n : ℕ) where
  abbrev pub IsWritten : ℕ → Code → Type 0
  IsWritten k code = (r : Running) → x < width r → turns body x (first + k * by) by (n - k) (after code r) ≡ turns body x first by n r

  pub none_written : IsWritten 0 Nothing
  none_written r lt =
      let start : first + 0 * by ≡ first = omega arith in
      let all : n - 0 ≡ n = omega arith in
      ap (λ v. turns body x v by (n - 0) r) start ∙ ap (λ m. turns body x first by m r) all

  pub more_written : (k : ℕ) (code copy code' : Code) → k < n → IsCopy x (first + k * by) body copy → ((r : Running) → after code' r ≡ after copy (after code r)) → IsWritten k code → IsWritten (k + 1) code'
  more_written k code copy code' less is both so_far r lt =
      let q = after code r in
      let m = n - (k + 1) in
      let next : first + (k + 1) * by ≡ first + k * by + by = (let e = suc-mul k by in let s : (k + 1) * by ≡ suc k * by = ap (λ j. j * by) (let p : k + 1 ≡ suc k = omega arith in p) in omega (arith, e, s)) in
      let left : suc m ≡ n - k = omega arith in
      let wide : width q ≡ width r = width_after code r in
      ap (turns body x (first + (k + 1) * by) by m) (both r)
      ∙ ap (λ v. turns body x v by m (after copy q)) next
      ∙ one_written body copy x (first + k * by) by m is q (omega arith)
      ∙ ap (λ j. turns body x (first + k * by) by j q) left
      ∙ so_far r lt

  pub all_written : (k : ℕ) (code : Code) → k ≡ n → IsWritten k code → (r : Running) → x < width r → with_register x (first + n * by) (after code r) ≡ turns body x first by n r
  all_written k code end so_far r lt =
      let none : n - k ≡ 0 = omega arith in
      ap (λ j. with_register x (first + j * by) (after code r)) (sym end)
      ∙ ap (λ m. turns body x (first + k * by) by m (after code r)) (sym none)
      ∙ so_far r lt

-- a loop may turn so often
pub few_turns : (n : ℕ) → n ≤ 256 → n ≤ greatest_trip_count
unfolding greatest_trip_count
few_turns n le = omega arith
