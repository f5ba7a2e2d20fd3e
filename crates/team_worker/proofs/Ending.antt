-- What the workers' ends are together.
use Rattle.std.specs.Prelude.{ℕ, true, ◌≡◌, List, [], ◌∷◌, ◌++◌, length, slice_get, All}
use Rattle.std.proofs.Common.{refl, sym, ap, ◌∙◌, subst, length-append, arith}
use Rattle.std.proofs.lemmas.Bool.Decides.{nat_tests}
use Rattle.std.proofs.lemmas.List.Elements.{All-head, All-tail, All-same, All-push}
use Rattle.schedule.proofs.Sized.{get-append_seam}
use Rattle.semantics.specs.Loops.Arrangement.{once_below}
use Rattle.semantics.specs.Loops.Chunk.{Chunk}
use Rattle.store.specs.Kept.{Kept}
use Rattle.lower.specs.declared.lowered.LoweredLoop.{LoweredLoop}
use Rattle.draw.specs.Tickets.{DrawingName, SeatState, all_tickets}
use Rattle.draw.proofs.Seats.{all_tickets-snoc}
use Rattle.team_worker.specs.declared.pass.Pass.{Pass}
use Rattle.team_worker.specs.declared.worker.Finished.{Finished}
use Rattle.team_worker.specs.Ends.{IsAccount, IsFinished, AreTaken, AreAll}
use Rattle.team_log.specs.Logged.{Account, no_account, both}
use Rattle.team_worker.specs.Places.{Aim, AreFor}
use Rattle.team_worker.proofs.Accounts.{account_none, account_both}

module _ (l : LoweredLoop) (registers : List ℕ) (ks : List Kept) (pass : Pass) (chunks : List Chunk) (of : DrawingName) where
  -- one more end
  pub taken_more : (seats seats' : List SeatState) (a a' : Account) (f : Finished) → seats' ≡ seats ++ f.seat ∷ [] → a' ≡ both a f.log.value
      → AreTaken l registers ks pass chunks of seats a → IsFinished l registers ks pass chunks of f → AreTaken l registers ks pass chunks of seats' a'
  taken_more seats seats' a a' f more joined was one =
      let tickets : all_tickets seats' ≡ all_tickets seats ++ f.seat.tickets = ap all_tickets more ∙ all_tickets-snoc seats f.seat in
      let all = account_both l registers ks pass chunks (all_tickets seats) f.seat.tickets a f.log.value was.account one.account in
      record {
        named = All-same (λ (s : SeatState). s.of ≡ of) seats' (seats ++ f.seat ∷ []) more (All-push (λ (s : SeatState). s.of ≡ of) seats f.seat was.named one.seat);
        ended = All-same (λ (s : SeatState). s.ended ≡ true) seats' (seats ++ f.seat ∷ []) more (All-push (λ (s : SeatState). s.ended ≡ true) seats f.seat was.ended one.ended);
        account = subst (λ ns. IsAccount l registers ks pass chunks ns a') (sym tickets) (subst (λ b. IsAccount l registers ks pass chunks (all_tickets seats ++ f.seat.tickets) b) (sym joined) all);
      }

-- where there is no chunk, that of none is the account of all
pub all_of_none : (l : LoweredLoop) (registers : List ℕ) (ks : List Kept) (pass : Pass) (chunks : List Chunk) (a : Account) → chunks ≡ [] → a ≡ no_account → AreAll l registers ks pass chunks a
all_of_none l registers ks pass chunks a none is =
    record {
      numbers = [];
      account = subst (λ b. IsAccount l registers ks pass chunks [] b) (sym is) (account_none l registers ks pass chunks);
      once = λ number. let zero_is : 0 ≡ once_below number 0 = grind (arith, nat_tests) in subst (λ (k : List Chunk). 0 ≡ once_below number (length k)) (sym none) zero_is;
    }

-- what holds of each element holds of the one between two parts
pub member : {X : Type 0} (P : X → Type 0) (ys rest : List X) (x : X) → All P (ys ++ x ∷ rest) → P x
member P [] rest x h = All-head P x rest h
member P (y ∷ ys) rest x h = member P ys rest x (All-tail P y (ys ++ x ∷ rest) h)

-- the place that comes next is the one of its number
pub place_of : (aim : Aim) (ys rest all : List Aim) (p : Aim) → ys ++ p ∷ rest ≡ all → AreFor aim all → p ≡ record aim { number = length ys }
place_of aim ys rest all p whole are = are (length ys) p (sym (ap (λ (k : List Aim). slice_get k (length ys)) whole) ∙ get-append_seam ys p rest (length ys) refl)

-- where none is left, as many have been yielded as there are
pub all_yielded : (ys rest all : List Aim) (left count : ℕ) → ys ++ rest ≡ all → left ≡ length rest → left ≡ 0 → count ≡ length all → length ys ≡ count
all_yielded ys rest all left count whole rest_is none all_is =
    let same : length (ys ++ rest) ≡ length all = ap (λ (k : List Aim). length k) whole in
    omega (arith, length-append ys rest)
