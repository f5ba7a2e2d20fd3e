-- Iterations with private scalars in any order, by those of a body that declares these itself.
use Rattle.std.specs.Prelude.{zero, ◌∷◌, List, [], Contains}
use Rattle.std.proofs.Common.{sym, ◌∙◌, subst, arith}
use Rattle.semantics.specs.Meaning.Agrees.{visible_behind}
use Rattle.semantics.specs.Loops.Arrangement.{picked}
use Rattle.semantics.specs.Loops.Nest.{Vector}
use Rattle.semantics.specs.Loops.Piece.{SharedLoop, run_iterations}
use Rattle.law_commute.specs.Targets.{targets_outside}
use Rattle.law_commute.proofs.Iterations.{independent_commute}
use Rattle.law_private.specs.Private.{PrivateIterationsCommute}
use Rattle.law_private.proofs.Own.{own_body, others, innermost, replaced_keeps, KnownInside, known_inside}
use Rattle.law_private.proofs.Near.{Beside, beside_first, beside_second, Found, Near, near_iterations}
use Rattle.law_private.proofs.Chunks.{near_itself, targets_none, own_turning, own_conflict}

pub private_commute : PrivateIterationsCommute
private_commute loop outer us none keeps first local_all different turning independent order once e is =
    let xs = targets_outside loop.body in
    let own = own_body xs loop.body in
    let apart = targets_none loop.body in
    let known : KnownInside xs loop.body = known_inside xs loop.body zero loop.body own [] innermost apart (others xs) (λ x h. h) first in
    let here : Near xs outer outer = near_itself xs outer local_all in
    let beside : (vs : List Vector) → Beside (Near xs) outer outer (run_iterations loop.loops loop.body vs outer) (run_iterations loop.loops own vs outer) =
    λ vs. near_iterations xs loop.body (visible_behind loop.body) keeps.names known loop.loops vs outer outer here in
    let whole : Found (Near xs) outer outer e (run_iterations loop.loops own us outer) =
    beside_first (Near xs) outer outer (run_iterations loop.loops loop.body us outer) (run_iterations loop.loops own us outer) e (beside us) is in
    let mine : SharedLoop = record { loops = loop.loops; body = own; roles = loop.roles } in
    let law =
    independent_commute mine outer us none (replaced_keeps xs loop.body zero loop.body own [] innermost apart keeps) different
    (λ u h. own_turning xs loop.loops loop.body outer u (turning u h)) (λ u v h k c. independent u v h k (own_conflict xs loop.loops loop.body outer u v c)) order once whole.effect whole.is in
    let other = picked us order in
    let back : Found (λ s t. Near xs t s) outer outer law.0 (run_iterations loop.loops loop.body other outer) =
    beside_second (Near xs) outer outer (run_iterations loop.loops loop.body other outer) (run_iterations loop.loops own other outer) law.0 (beside other) law.1 in (
      back.effect,
      back.is,
      λ x i js. whole.after.agrees.cells x (i ∷ js) ∙ law.2 x i js ∙ sym (back.after.agrees.cells x (i ∷ js)),
      λ r h. absurd (nothing_there r (subst (λ rs. Contains rs r) none h)),
    )
  where
    nothing_there : {A : Type 0} (x : A) → Contains [] x → ⊥
    nothing_there x h = let lt = h.1 in omega arith
