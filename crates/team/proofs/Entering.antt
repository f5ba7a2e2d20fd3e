-- What all chunks of a loop tell, each by its number.
use Rattle.std.specs.Prelude.{ℕ, ◌≡◌, ◌<◌, List, length, replicate, slice_get, Some}
use Rattle.std.proofs.Common.{sym, ◌∙◌, subst, inr, arith}
use Rattle.std.proofs.lemmas.List.{length-replicate}
use Rattle.std.proofs.lemmas.List.Elements.{All-weaker}
use Rattle.semantics.specs.Loops.Arrangement.{times, once_below}
use Rattle.semantics.specs.Loops.Chunk.{Chunk}
use Rattle.store.specs.Kept.{Kept}
use Rattle.lower.specs.declared.lowered.LoweredLoop.{LoweredLoop}
use Rattle.team_worker.specs.declared.pass.Pass.{Pass}
use Rattle.team_worker.specs.Ends.{IsLeaving, AreAll}
use Rattle.team_log.specs.Logged.{Leaving, Account}
use Rattle.team_log.specs.Printed.{entered_by}
use Rattle.team_worker.proofs.Cutting.{one_below}
use Rattle.team_log.proofs.Entering.{entered_all}

module _ {A : Type 0} (told : Leaving → A) (d : A) (wanted : List A) where
  pub all_entered : (l : LoweredLoop) (registers : List ℕ) (ks : List Kept) (pass : Pass) (chunks : List Chunk) (account : Account) → AreAll l registers ks pass chunks account → length wanted ≡ length chunks
      → ((c : Leaving) → IsLeaving l registers ks pass chunks c → slice_get wanted c.number ≡ Some (told c)) → entered_by told account.chunks (replicate (length chunks) d) ≡ wanted
  all_entered l registers ks pass chunks account all many one =
      entered_all told d wanted account.chunks (replicate (length chunks) d) (length-replicate (length chunks) d ∙ sym many) (All-weaker (IsLeaving l registers ks pass chunks) (λ (c : Leaving). slice_get wanted c.number ≡ Some (told c)) one account.chunks all.account.each)
      (λ k lt.
      let once_is = all.once k in
      let is_one : once_below k (length chunks) ≡ 1 = one_below k (length chunks) (omega arith) in
      let some : 0 < times k all.numbers = omega arith in
      inr (subst (λ (ns : List ℕ). 0 < times k ns) (sym all.account.numbers_are) some))
