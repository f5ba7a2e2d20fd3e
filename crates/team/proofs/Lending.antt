-- What the worker of a number asks of a loop that is lent.
use Rattle.std.specs.Prelude.{ℕ, ◌≡◌, ◌<◌, ◌≤◌, ◌^◌, List, length, Option, Some, None, IfSome}
use Rattle.std.specs.Global.{Box}
use Rattle.std.proofs.Common.{sym, ap, ◌∙◌, subst, get_or}
use Rattle.std.proofs.lemmas.Option.{slice_get-get_or}
use Rattle.semantics.specs.Loops.Chunk.{Chunk}
use Rattle.team_worker.specs.declared.way.Draw.{Draw}
use Rattle.team_worker.specs.declared.way.Way.{Way}
use Rattle.team_worker.specs.declared.way.Way.TheVariants.{Dealt, Drawn}
use Rattle.team_worker.specs.declared.place.End.TheVariants.{Share, Draws}
use Rattle.team_worker.specs.declared.worker.Finished.{Finished}
use Rattle.team_worker.specs.Dealt.{own_numbers}
use Rattle.team_worker.specs.Ends.{IsAccount, IsFinished}
use Rattle.team_worker.specs.Places.{Aim, AreFor, IsEnd, IsEndBy, IsWay}
use Rattle.team_log.specs.Logged.{Account}

-- the place of a number is made for the worker of that number
pub place_is : (aim : Aim) (places : List Aim) (place : Aim) (number : ℕ) → AreFor aim places → number < length places → place ≡ get_or places number place → place ≡ record aim { number = number }
place_is aim places place number are within is = are number place (slice_get-get_or places number place within ∙ ap Some (sym is))

-- a size by which chunks are dealt keeps its bounds
pub size_fits : (way : Way) (size : Option ℕ) (count : ℕ) (chunks : List Chunk) (workers : ℕ) → IsWay way count chunks workers → way ≡ Dealt size → IfSome size (λ k. (1 ≤ k) × (k ≤ 2 ^ 24))
size_fits way None count chunks workers comes is = tt
size_fits way (Some k) count chunks workers comes is = comes.some k is

-- what a worker leaves of the chunks that are dealt to it is an end for its place
pub share_is_end : (aim place : Aim) (size : Option ℕ) (number : ℕ) → place ≡ record aim { number = number } → aim.way ≡ Dealt size
    → (log : Box Account) → IsAccount aim.lowered aim.registers aim.store aim.pass aim.chunks (own_numbers size (length aim.chunks) aim.workers number) log.value → IsEnd place (Share log)
share_is_end aim place size number here way log account =
    subst (λ (a : Aim). IsEnd a (Share log)) (sym here) (subst (λ (w : Way). IsEndBy (record aim { number = number }) w (Share log)) (sym way) account)

-- and so is what it leaves of those that it drew
pub draws_are_end : (aim place : Aim) (draw : Box Draw) (number : ℕ) → place ≡ record aim { number = number } → aim.way ≡ Drawn draw
    → (f : Finished) → IsFinished aim.lowered aim.registers aim.store aim.pass aim.chunks draw.value.drawing f → IsEnd place (Draws f)
draws_are_end aim place draw number here way f finished =
    subst (λ (a : Aim). IsEnd a (Draws f)) (sym here) (subst (λ (w : Way). IsEndBy (record aim { number = number }) w (Draws f)) (sym way) finished)
