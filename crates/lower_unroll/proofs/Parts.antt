-- Code whose parts are written out.
use Rattle.std.proofs.Common.{◌≡◌, ℕ, zero, suc, Bool, cond, refl, ap, ◌∙◌}
use Rattle.lower_machine.specs.declared.term.Code.{Code}
use Rattle.lower_machine.specs.Machine.{Machine, Running, after, spins}
use Rattle.lower_unroll.specs.Turns.{DoesAs}
use Rattle.lower_unroll.proofs.Registers.{width, width_after}

pub then_written : (count : ℕ) (a b a' b' t : Code) → DoesAs count (after a) a' → DoesAs count (after b) b' → DoesAs count (λ r. after b' (after a' r)) t → DoesAs count (λ r. after b (after a r)) t
then_written count a b a' b' t one other both r wide =
    both r wide
    ∙ other (after a' r) (width_after a' r ∙ wide)
    ∙ ap (after b) (one r wide)

pub turns_written : (count : ℕ) (body body' step : Code) → DoesAs count (after body) body' → (n : ℕ) (test : Machine → Bool) (r : Running) → width r ≡ count
    → spins n test (λ k. after step (after body' k)) r ≡ spins n test (λ k. after step (after body k)) r
turns_written count body body' step same zero test r wide = refl
turns_written count body body' step same (suc n) test r wide =
    ap (λ k. cond (test r.machine) k r)
    (turns_written count body body' step same n test (after step (after body' r)) (width_after step (after body' r) ∙ width_after body' r ∙ wide)
    ∙ ap (λ k. spins n test (λ j. after step (after body j)) (after step k)) (same r wide))
