-- The laws, as they are cited by the functions that state them.
use Rattle.std.specs.Prelude.{ℕ, zero, suc, ◌≡◌, ◌+◌, ◌<◌, List, [], ◌∷◌}
use Rattle.std.proofs.Common.{sym, ap, ◌∙◌, arith}
use Rattle.std.proofs.lemmas.Option.{same_Some}
use Rattle.std.specs.List.{AllByRecursion as ByRecursion}
use Rattle.std.proofs.lemmas.List.Elements.{All-from_recursion}
use Rattle.semantics.specs.Meaning.State.{overwritten}
use Rattle.semantics.specs.Meaning.Runs.{Effect}
use Rattle.semantics.specs.Meaning.Steps.{effect}
use Rattle.semantics.specs.Loops.Chunk.{Chunk, PlainStatic, Static, Dynamic, Guided, sized, sizes, cut}
use Rattle.semantics.specs.Laws.{RunsAreUnique, RunsFollowTheRules, ChunksHoldIterations, OwnersAreWorkers}
use Rattle.semantics.proofs.RulesRun.{steps_run}
use Rattle.semantics.proofs.StepsLaw.{run_steps}
use Rattle.semantics.proofs.CutLaw.{one_chunk_each}
use Rattle.std.proofs.Math.Nat.{mod-lt}

pub runs_are_unique : RunsAreUnique
runs_are_unique a s left left' writes writes' text text' r q =
    let e : effect writes text ≡ effect writes' text' = same_Some _ _ (sym r.effect ∙ q.effect) in
    (ap (λ (f : Effect). f.writes) e, r.left ∙ ap (λ (f : Effect). overwritten s f.writes) e ∙ sym q.left, ap (λ (f : Effect). f.text) e)

pub runs_follow_the_rules : RunsFollowTheRules
runs_follow_the_rules a s writes text = (λ d. steps_run d, λ e. run_steps a s (effect writes text) e)

none_empty : (first : ℕ) (ns : List ℕ) → ByRecursion (λ (c : Chunk). 0 < c.count) (sized first ns)
none_empty first [] = tt
none_empty first (zero ∷ ns) = none_empty first ns
none_empty first (suc n ∷ ns) = (omega arith, none_empty (first + suc n) ns)

pub chunks_hold_iterations : ChunksHoldIterations
chunks_hold_iterations kind n workers = All-from_recursion (λ (c : Chunk). 0 < c.count) (cut kind n workers) (none_empty 0 (sizes kind n workers))

pub owners_are_workers : OwnersAreWorkers
owners_are_workers PlainStatic n workers c w some lt e =
    let same = same_Some _ _ e in
    let r = one_chunk_each n workers in
    omega arith
owners_are_workers (Static k) n workers c w some lt e =
    let same = same_Some _ _ e in
    let r = mod-lt c some in
    omega arith
owners_are_workers (Dynamic k) n workers c w some lt e = absurd cc
owners_are_workers (Guided k) n workers c w some lt e = absurd cc
