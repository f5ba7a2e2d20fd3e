-- A loop whose turns are those of a recursion: what is left of it gives what the whole of it gives.
use Rattle.std.proofs.Common.{◌≡◌, ℕ, suc, ◌+◌, ◌-◌, ◌<◌, ◌≤◌, Option, sym, ap, subst, ◌∙◌, arith}
use Rattle.cparse_cursor.specs.declared.stop.Stop.{Stop}
use Rattle.cparse_cursor.specs.Outcome.{Fails}

module _ {S R : Type 0} (run : ℕ → S → Option R) (count i : ℕ) (s : S) (total : Option R) (so_far : run (count - i) s ≡ total) where
  -- one more turn
  pub goes : (s' : S) → i < count → ((n : ℕ) → run (suc n) s ≡ run n s') → run (count - (i + 1)) s' ≡ total
  goes s' lt step =
      let one : count - i ≡ suc (count - (i + 1)) = omega arith in
      sym (step (count - (i + 1))) ∙ (ap (λ n. run n s) (sym one) ∙ so_far)

  -- a turn that stops reading
  pub fails : (e : Stop) → i < count → ((n : ℕ) → Fails e (run (suc n) s)) → Fails e total
  fails e lt f =
      let one : count - i ≡ suc (count - (i + 1)) = omega arith in
      subst (Fails e) (ap (λ n. run n s) (sym one) ∙ so_far) (f (count - (i + 1)))

  -- nothing more comes
  pub ends : (r : Option R) → ((n : ℕ) → run n s ≡ r) → total ≡ r
  ends r done = sym so_far ∙ done (count - i)

  -- a last turn
  pub closes : (r : Option R) → i < count → ((n : ℕ) → run (suc n) s ≡ r) → total ≡ r
  closes r lt step =
      let one : count - i ≡ suc (count - (i + 1)) = omega arith in
      sym so_far ∙ (ap (λ n. run n s) one ∙ step (count - (i + 1)))

  -- no turn is left
  pub is_over : (r : Option R) → count ≤ i → run 0 s ≡ r → total ≡ r
  is_over r le done =
      let none' : count - i ≡ 0 = omega arith in
      sym so_far ∙ (ap (λ n. run n s) none' ∙ done)
