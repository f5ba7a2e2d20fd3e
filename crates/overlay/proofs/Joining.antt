-- Iterations that are run in parts.
use Rattle.std.proofs.Common.{ℕ, suc, ◌≡◌, ◌+◌, List, [], ◌∷◌, ◌++◌, append_assoc, take, drop, Option, Some, None, refl, sym, ap, ◌∙◌, subst, arith}
use Rattle.std.specs.Prelude.{slice_get}
use Rattle.std.proofs.Math.Seq.{drop-cons, take-add}
use Rattle.std.proofs.lemmas.List.{drop-drop}
use Rattle.std.proofs.lemmas.Option.{get_or_from_slice_get, slice_get_within}
use Rattle.semantics.specs.Tree.{Stmt}
use Rattle.semantics.specs.Meaning.State.{State, overwritten}
use Rattle.semantics.specs.Meaning.Value.{map_option}
use Rattle.semantics.specs.Meaning.Runs.{Effect, nothing, joined, then_from, run}
use Rattle.semantics.specs.Loops.Nest.{Loop, Vector}
use Rattle.law_commute.proofs.Matched.{overwritten-append}
use Rattle.law_nests.specs.Walks.{enters, walk}
use Rattle.lower_machine.specs.Machine.{Running, machine, running}
use Rattle.lower.specs.declared.lowered.LoweredLoop.{LoweredLoop}
use Rattle.overlay.specs.Walking.{Enters, RunsOver, WalksOver}
use Rattle.overlay.proofs.Going.{goes_then, walks_on, walks_none}

then_same : (s : State) (o : Option Effect) (f g : State → Option Effect) → ((t : State) → f t ≡ g t) → then_from s o f ≡ then_from s o g
then_same s None f g h = refl
then_same s (Some e) f g h = ap (map_option (joined e)) (h (overwritten s e.writes))

then_grouped : (s : State) (o : Option Effect) (f g : State → Option Effect) → then_from s o (λ t. then_from t (f t) g) ≡ then_from s (then_from s o f) g
then_grouped s None f g = refl
then_grouped s (Some e) f g = at (f (overwritten s e.writes))
  where
    at : (o : Option Effect) → map_option (joined e) (then_from (overwritten s e.writes) o g) ≡ then_from s (map_option (joined e) o) g
    at None = refl
    at (Some d) = end (g (overwritten (overwritten s e.writes) d.writes)) ∙ ap (λ t. map_option (joined (joined e d)) (g t)) (sym (overwritten-append s e.writes d.writes))
      where
        end : (o : Option Effect) → map_option (joined e) (map_option (joined d) o) ≡ map_option (joined (joined e d)) o
        end None = refl
        end (Some c) = λ i. Some (record { writes = sym (append_assoc e.writes d.writes c.writes) i; text = sym (append_assoc e.text d.text c.text) i })

-- iterations and then others
walk_joined : (loops : List Loop) (body : Stmt) (us vs : List Vector) (s : State) → walk loops body (us ++ vs) s ≡ then_from s (walk loops body us s) (walk loops body vs)
walk_joined loops body [] vs s = at (walk loops body vs s)
  where
    at : (o : Option Effect) → o ≡ map_option (joined nothing) o
    at None = refl
    at (Some e) = refl
walk_joined loops body (u ∷ us) vs s =
    then_same s (Some (enters loops u)) (λ t. then_from t (run body t) (walk loops body (us ++ vs))) (λ t. then_from t (then_from t (run body t) (walk loops body us)) (walk loops body vs))
    (λ t. then_same t (run body t) (walk loops body (us ++ vs)) (λ r. then_from r (walk loops body us r) (walk loops body vs)) (walk_joined loops body us vs)
    ∙ then_grouped t (run body t) (walk loops body us) (walk loops body vs))
    ∙ then_grouped s (Some (enters loops u)) (λ t. then_from t (run body t) (walk loops body us)) (walk loops body vs)

walks_joined : (l : LoweredLoop) (us vs : List Vector) (a b c : Running) → WalksOver l us a b → WalksOver l vs b c → WalksOver l (us ++ vs) a c
walks_joined l us vs a b c one two layout mark box roles loops body lowered s e stands is =
    goes_then layout mark (walk loops body us) (walk loops body vs) a b c (one layout mark box roles loops body lowered) (two layout mark box roles loops body lowered) s e stands
    (sym (walk_joined loops body us vs s) ∙ is)

-- so many from a number on, and then those behind them
pub walks_parts : (l : LoweredLoop) (vs : List Vector) (n a b all : ℕ) (r r1 r2 : Running) → a + b ≡ all → WalksOver l (take a (drop n vs)) r r1 → WalksOver l (take b (drop (n + a) vs)) r1 r2
    → WalksOver l (take all (drop n vs)) r r2
walks_parts l vs n a b all r r1 r2 sum one two =
    subst (λ us. WalksOver l us r r2)
    (sym (take-add a b (drop n vs) ∙ ap (λ us. take a (drop n vs) ++ take b us) (drop-drop a n vs)) ∙ ap (λ m. take m (drop n vs)) sum)
    (walks_joined l (take a (drop n vs)) (take b (drop (n + a) vs)) r r1 r2 one two)

-- the first of them
pub first_is : (n d : ℕ) (vs : List Vector) (u : Vector) → slice_get vs n ≡ Some u → take (suc d) (drop n vs) ≡ u ∷ take d (drop (n + 1) vs)
first_is n d vs u e =
    let next : suc n ≡ n + 1 = omega arith in
    ap (take (suc d)) (drop-cons vs n [] (slice_get_within vs n u e))
    ∙ ap (λ x. x ∷ take d (drop (suc n) vs)) (get_or_from_slice_get vs n u [] e)
    ∙ ap (λ m. u ∷ take d (drop m vs)) next

-- one alone
pub walks_one : (l : LoweredLoop) (vs : List Vector) (n : ℕ) (u : Vector) (rs rs' cells text : List ℕ) (r : Running) → slice_get vs n ≡ Some u → Enters l.loops.items u rs rs' → RunsOver l.body (running (machine rs' cells) text) r
    → WalksOver l (take 1 (drop n vs)) (running (machine rs cells) text) r
walks_one l vs n u rs rs' cells text r at entered ran =
    subst (λ us. WalksOver l us (running (machine rs cells) text) r) (sym (first_is n 0 vs u at)) (walks_on l u [] rs rs' cells text r r entered ran (walks_none l r))
