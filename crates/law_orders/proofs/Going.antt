-- Steps one after another, by the states that they leave.
use Rattle.std.specs.Prelude.{ℕ, ◌≡◌, List, [], ◌∷◌, Option, Some}
use Rattle.std.specs.List.{AllByRecursion as Each}
use Rattle.std.proofs.Common.{refl, sym, ap, ◌∙◌, subst}
use Rattle.std.proofs.Math.Path.{fun_ext}
use Rattle.std.proofs.lemmas.Option.{same_Some}
use Rattle.semantics.specs.Tree.{Variable, Stmt}
use Rattle.semantics.specs.Meaning.State.{State, slot_of, with_local, overwritten}
use Rattle.semantics.specs.Meaning.Value.{map_option}
use Rattle.semantics.specs.Meaning.Runs.{Effect, nothing, joined, then_from}
use Rattle.semantics.specs.Loops.Nest.{Loop, Vector}
use Rattle.semantics.specs.Loops.Piece.{Roles, run_iteration, run_iterations}
use Rattle.semantics.specs.Theorems.{run_turns}
use Rattle.law_commute.proofs.Matched.{overwritten-append}
use Rattle.law_nests.proofs.Nested.{parts_of}
use Rattle.law_private.proofs.Alike.{Both, both_some, both_steps}

-- steps lead from the one state to the other
pub data Goes {A : Type 0} (step : A → State → Option Effect) : List A → State → State → Type 0 where
  done : {a : State} → Goes step [] a a
  more : {t : A} {ts : List A} {a c : State} (e : Effect) → step t a ≡ Some e → Goes step ts (overwritten a e.writes) c → Goes step (t ∷ ts) a c

module _ {A : Type 0} (step : A → State → Option Effect) where
  -- each from where the one before it ended
  abbrev pub all_by : List A → State → Option Effect
  all_by [] s = Some nothing
  all_by (t ∷ ts) s = then_from s (step t s) (all_by ts)

  pub goes_of : (ts : List A) (a : State) (f : Effect) → all_by ts a ≡ Some f → Goes step ts a (overwritten a f.writes)
  goes_of [] a f ran = subst (λ (g : Effect). Goes step [] a (overwritten a g.writes)) (same_Some nothing f ran) done
  goes_of (t ∷ ts) a f ran =
      let p = parts_of a (step t a) (all_by ts) f ran in
      subst (Goes step (t ∷ ts) a) (sym (overwritten-append a p.one.writes p.two.writes) ∙ ap (λ (g : Effect). overwritten a g.writes) p.is)
      (more p.one p.one_is (goes_of ts (overwritten a p.one.writes) p.two p.two_is))

  -- by this effect
  pub record Reached (ts : List A) (a c : State) : Type 0 where
    pub effect : Effect
    pub ran : all_by ts a ≡ Some effect
    pub left : c ≡ overwritten a effect.writes

  pub reached : {ts : List A} {a c : State} → Goes step ts a c → Reached ts a c
  reached done = record { effect = nothing; ran = refl; left = refl }
  reached (more {t = t} {ts = ts} {a = a} e is rest) =
      let r = reached rest in
      record {
        effect = joined e r.effect;
        ran = ap (λ o. then_from a o (all_by ts)) is ∙ ap (map_option (joined e)) r.ran;
        left = r.left ∙ sym (overwritten-append a e.writes r.effect.writes);
      }

  -- from two states, where each does the same, and leaves what is alike
  pub both_all : (R : State → State → Type 0) → ((t : A) (a b : State) → R a b → Both R a b (step t a) (step t b)) → (ts : List A) (a b : State) → R a b → Both R a b (all_by ts a) (all_by ts b)
  both_all R one [] a b r = both_some R a b nothing r
  both_all R one (t ∷ ts) a b r = both_steps R R a b (step t a) (step t b) (all_by ts) (all_by ts) (one t a b r) (λ c d q. both_all R one ts c d q)

-- iterations, and turns of a scan, are such steps
pub runs_are : (loops : List Loop) (body : Stmt) (us : List Vector) (s : State) → run_iterations loops body us s ≡ all_by (run_iteration loops body) us s
runs_are loops body [] s = refl
runs_are loops body (u ∷ us) s = ap (then_from s (run_iteration loops body u s)) (fun_ext (λ t. runs_are loops body us t))

abbrev pub scan_turn : List Loop → Stmt → Variable → Vector × Option ℕ → State → Option Effect
scan_turn loops body x t s = run_iteration loops body t.0 (with_local s x (slot_of t.1))

pub turns_are : (loops : List Loop) (body : Stmt) (roles : Roles) (x : Variable) (ts : List (Vector × Option ℕ)) (s : State)
    → run_turns (record { loops = loops; body = body; roles = roles }) x ts s ≡ all_by (scan_turn loops body x) ts s
turns_are loops body roles x [] s = refl
turns_are loops body roles x (t ∷ ts) s = ap (then_from s (scan_turn loops body x t s)) (fun_ext (λ r. turns_are loops body roles x ts r))

-- where each step of the first has its like in the second, so have some of them
module _ {A : Type 0} (one two : A → State → Option Effect) (R : State → State → Type 0) where
  -- the like of a step that leads to this state
  pub record Like (t : A) (b a' : State) : Type 0 where
    pub effect : Effect
    pub ran : two t b ≡ Some effect
    pub after : R a' (overwritten b effect.writes)

  -- and of some
  pub record Followed (ts : List A) (b c : State) : Type 0 where
    pub state : State
    pub goes : Goes two ts b state
    pub after : R c state

  pub follow : (P : A → Type 0) → ((t : A) → P t → (a b : State) → R a b → (e : Effect) → one t a ≡ Some e → Like t b (overwritten a e.writes))
      → {ts : List A} {a c : State} → Each P ts → (b : State) → R a b → Goes one ts a c → Followed ts b c
  follow P step holds b r done = record { state = b; goes = done; after = r }
  follow P step holds b r (more {t = t} {a = a} e is rest) =
      let k = step t holds.0 a b r e is in
      let m = follow P step holds.1 (overwritten b k.effect.writes) k.after rest in
      record { state = m.state; goes = more k.effect k.ran m.goes; after = m.after }
