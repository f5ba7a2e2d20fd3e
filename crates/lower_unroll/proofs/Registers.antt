-- A register that takes a number, and code that sets other registers.
use Rattle.std.proofs.Common.{◌≡◌, ◌≢◌, ℕ, zero, suc, ◌<◌, Bool, true, false, cond, length, refl, sym, ap, ◌∙◌}
use Rattle.std.specs.Prelude.{slice_index, slice_set, ◌==◌, not}
use Rattle.std.proofs.lemmas.Bool.{and_parts, eq-eqb, true≢false}
use Rattle.std.proofs.lemmas.List.{length-set, get_or-set_same, get_or-set_other, set-set, set-get_or}
use Rattle.lower_machine.specs.declared.term.Code.{Code, Nothing, Set, Save, Then', If', Loop', Print}
use Rattle.lower_machine.specs.Machine.{Machine, Running, machine, running, after, spins, truth, worth}
use Rattle.semantics.specs.Meaning.Runs.{greatest_trip_count}
use Rattle.lower_unroll.specs.Turns.{with_register, sets_others}

-- what a register holds, and how many there are
abbrev pub held : ℕ → Running → ℕ
held x r = slice_index r.machine.registers x

abbrev pub width : Running → ℕ
width r = length r.machine.registers

pub with_twice : (x v w : ℕ) (r : Running) → with_register x w (with_register x v r) ≡ with_register x w r
with_twice x v w r = ap (λ l. running (machine l r.machine.cells) r.text) (set-set r.machine.registers x v w)

pub with_held : (x n : ℕ) (r : Running) → held x r ≡ n → with_register x n r ≡ r
with_held x n r e =
    ap (λ v. running (machine (slice_set r.machine.registers x v) r.machine.cells) r.text) (sym e)
    ∙ ap (λ l. running (machine l r.machine.cells) r.text) (set-get_or r.machine.registers x 0)

pub holds_now : (x n : ℕ) (r : Running) → x < width r → held x (with_register x n r) ≡ n
holds_now x n r lt = get_or-set_same r.machine.registers x n 0 lt

pub width_with : (x n : ℕ) (r : Running) → width (with_register x n r) ≡ width r
width_with x n r = length-set r.machine.registers x n

-- another number is another number
pub unlike : (a b : ℕ) → not (a == b) ≡ true → b ≢ a
unlike a b e same = true≢false (sym e ∙ ap not (eq-eqb a b (sym same)))

-- what holds of both holds of the one that is taken
one_of : (P : Running → Type 0) (t : Bool) (a b : Running) → P a → P b → P (cond t a b)
one_of P true a b one other = one
one_of P false a b one other = other

-- the other registers' code leaves this one
pub leaves : (x : ℕ) (code : Code) → sets_others x code ≡ true → (r : Running) → held x (after code r) ≡ held x r
leaves x Nothing e r = refl
leaves x (Set y t) e r = get_or-set_other r.machine.registers y.at x (worth t r.machine) 0 (unlike y.at x e)
leaves x (Save a t) e r = absurd cc
leaves x (Then' p a q b) e r =
    let both = and_parts (sets_others x a) (sets_others x b) e in
    leaves x b both.1 (after a r) ∙ leaves x a both.0 r
leaves x (If' c p a q b) e r =
    let both = and_parts (sets_others x a) (sets_others x b) e in
    one_of (λ k. held x k ≡ held x r) (truth c r.machine) (after a r) (after b r) (leaves x a both.0 r) (leaves x b both.1 r)
leaves x (Loop' c p a q b) e r = absurd cc
leaves x (Print ps) e r = absurd cc

-- no code changes how many registers there are
spins_width : (n : ℕ) (test : Machine → Bool) (turn : Running → Running) → ((k : Running) → width (turn k) ≡ width k) → (r : Running) → width (spins n test turn r) ≡ width r
spins_width zero test turn same r = refl
spins_width (suc n) test turn same r =
    one_of (λ k. width k ≡ width r) (test r.machine) (spins n test turn (turn r)) r (spins_width n test turn same (turn r) ∙ same r) refl

pub width_after : (code : Code) (r : Running) → width (after code r) ≡ width r
width_after Nothing r = refl
width_after (Set y t) r = length-set r.machine.registers y.at (worth t r.machine)
width_after (Save a t) r = refl
width_after (Then' p a q b) r = width_after b (after a r) ∙ width_after a r
width_after (If' c p a q b) r = one_of (λ k. width k ≡ width r) (truth c r.machine) (after a r) (after b r) (width_after a r) (width_after b r)
width_after (Loop' c p a q b) r = spins_width greatest_trip_count (truth c) (λ k. after b (after a k)) (λ k. width_after b (after a k) ∙ width_after a k) r
width_after (Print ps) r = refl
