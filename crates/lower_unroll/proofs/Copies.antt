-- Copies of code in which a register's number is known.
use Rattle.std.proofs.Common.{◌≡◌, ℕ, ◌<◌, Bool, true, false, cond, length, refl, sym, ap, ◌∙◌, subst, arith}
use Rattle.std.specs.Prelude.{slice_set, ◌==◌, not}
use Rattle.std.proofs.lemmas.List.{set-set, set_comm, set-get_or}
use Rattle.lower_machine.specs.declared.term.Code.{Code, Nothing, Set}
use Rattle.lower_machine.specs.declared.term.Register.{Register}
use Rattle.lower_machine.specs.declared.term.Term.{Term}
use Rattle.lower_machine.specs.declared.term.Test.{Test}
use Rattle.lower_machine.specs.Machine.{Machine, Running, machine, running, after, truth, worth}
use Rattle.lower_unroll.specs.Turns.{knowing, with_register, sets_others}
use Rattle.lower_unroll.proofs.Registers.{held, width, with_twice, with_held, holds_now, width_with, unlike, leaves, width_after}

module _ (x v : ℕ) where
  -- code leaves what other code leaves where a register holds a number, but for the register
  abbrev pub IsCopy : Code → Code → Type 0
  IsCopy a a' = (r : Running) → x < width r → after a' r ≡ with_register x (held x r) (after a (with_register x v r))

  pub nothing_copied : IsCopy Nothing Nothing
  nothing_copied r lt = sym (with_twice x v (held x r) r ∙ with_held x (held x r) r refl)

  pub set_copied : (y : Register) (t t' : Term) → not (y.at == x) ≡ true → ((m : Machine) → x < length m.registers → worth t' m ≡ worth t (knowing x v m)) → IsCopy (Set y t) (Set y t')
  set_copied y t t' other same r lt =
      let regs = r.machine.registers in
      let w = worth t (knowing x v r.machine) in
      ap (λ n. running (machine (slice_set regs y.at n) r.machine.cells) r.text) (same r.machine lt)
      ∙ ap (λ l. running (machine l r.machine.cells) r.text)
      (sym (set_comm (slice_set regs x v) y.at x w (held x r) (λ e. unlike y.at x other (sym e))
      ∙ ap (λ l. slice_set l y.at w) (set-set regs x v (held x r) ∙ set-get_or regs x 0)))

  pub then_copied : (a a' b b' : Code) → sets_others x a ≡ true → IsCopy a a' → IsCopy b b' → (r : Running) → x < width r → after b' (after a' r) ≡ with_register x (held x r) (after b (after a (with_register x v r)))
  then_copied a a' b b' leave one other r lt =
      let old = held x r in
      let q = after a (with_register x v r) in
      let wide : width q ≡ width r = width_after a (with_register x v r) ∙ width_with x v r in
      let here : held x q ≡ v = leaves x a leave (with_register x v r) ∙ holds_now x v r lt in
      let there : x < width (with_register x old q) = (let w = width_with x old q in omega arith) in
      ap (after b') (one r lt)
      ∙ other (with_register x old q) there
      ∙ ap (λ n. with_register x n (after b (with_register x v (with_register x old q)))) (holds_now x old q (omega arith))
      ∙ ap (λ k. with_register x old (after b k)) (with_twice x old v q ∙ with_held x v q here)

  pub branch_copied : (c c' : Test) (a a' b b' : Code) → ((m : Machine) → x < length m.registers → truth c' m ≡ truth c (knowing x v m)) → IsCopy a a' → IsCopy b b'
      → (r : Running) → x < width r → cond (truth c' r.machine) (after a' r) (after b' r) ≡ with_register x (held x r) (cond (truth c (knowing x v r.machine)) (after a (with_register x v r)) (after b (with_register x v r)))
  branch_copied c c' a a' b b' same one other r lt =
      ap (λ t. cond t (after a' r) (after b' r)) (same r.machine lt) ∙ go (truth c (knowing x v r.machine))
    where
      go : (t : Bool) → cond t (after a' r) (after b' r) ≡ with_register x (held x r) (cond t (after a (with_register x v r)) (after b (with_register x v r)))
      go true = one r lt
      go false = other r lt

-- the same of code that is the same
pub copied_at : (x v : ℕ) {a b a' b' : Code} → a ≡ b → b' ≡ a' → IsCopy x v a a' → IsCopy x v b b'
copied_at x v {a} {b} {a'} {b'} same same' copy = subst (λ k. IsCopy x v k b') same (subst (λ k. IsCopy x v a k) (sym same') copy)
