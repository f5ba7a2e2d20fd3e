-- What chunks of a scan change of elements, put together.
use Rattle.std.specs.Prelude.{ℕ, Bool, true, false, ◌&&◌, ◌≡◌, ◌==◌, ◌||◌, ◌⊎◌, List, [], ◌∷◌, ◌++◌, length, Option, Some}
use Rattle.std.specs.List.{AllByRecursion as Each}
use Rattle.std.proofs.Common.{refl, sym, ap, ◌∙◌, subst, cond, inl, inr}
use Rattle.std.proofs.lemmas.Bool.{true≢false, or_cases}
use Rattle.std.proofs.lemmas.Option.{same_Some}
use Rattle.semantics.specs.Tree.{Variable, Stmt}
use Rattle.semantics.specs.Meaning.State.{State, Holds, Write, Declared, Assigned, renewed, same_indexes, overwritten}
use Rattle.semantics.specs.Meaning.Runs.{Effect, nothing, joined}
use Rattle.semantics.specs.Meaning.Agrees.{is_among}
use Rattle.semantics.specs.Loops.Nest.{Loop, Vector, at_vector}
use Rattle.semantics.specs.Loops.Access.{Writes}
use Rattle.law_commute.specs.Targets.{KeepsApart, AssignsFirst}
use Rattle.law_commute.specs.Commuting.{InnerLoopsTurn}
use Rattle.law_commute.proofs.Iterations.{cells_at}
use Rattle.law_commute.proofs.Changes.{acted, hit}
use Rattle.law_commute.proofs.Lists.{each_left, each_right}
use Rattle.law_nests.specs.Walks.{walk, entered, enters}
use Rattle.law_private.proofs.Own.{DeclaresNone}
use Rattle.law_roles.specs.Following.{variables_of}
use Rattle.law_roles.proofs.Recorded.{kept_entered}
use Rattle.law_scans.proofs.Steps.{Apart, TouchedBy, IsSet, goes, goes_too, same_slot}
use Rattle.law_scans.proofs.Walking.{AllApart, split_of, left_cons, set_value}
use Rattle.law_scans.proofs.Changing.{changes}

pub acted-append : (y : Variable) (js : List ℕ) (ws vs : List Write) (c : Option ℕ) → acted y js (ws ++ vs) c ≡ acted y js vs (acted y js ws c)
acted-append y js [] vs c = refl
acted-append y js (Declared x v ∷ ws) vs c = acted-append y js ws vs c
acted-append y js (Assigned x is n ∷ ws) vs c = acted-append y js ws vs (cond ((y == x) && same_indexes js is) (renewed c n) c)

or_grouped : (a b c : Bool) → (a || (b || c)) ≡ ((a || b) || c)
or_grouped true b c = refl
or_grouped false b c = refl

hit-append : (y : Variable) (js : List ℕ) (ws vs : List Write) → hit y js (ws ++ vs) ≡ (hit y js ws || hit y js vs)
hit-append y js [] vs = refl
hit-append y js (Declared x v ∷ ws) vs = hit-append y js ws vs
hit-append y js (Assigned x is n ∷ ws) vs = ap (λ b. ((y == x) && same_indexes js is) || b) (hit-append y js ws vs) ∙ or_grouped ((y == x) && same_indexes js is) (hit y js ws) (hit y js vs)

acted_entered : (y : Variable) (js : List ℕ) (ls : List Loop) (u : Vector) (ws : List Write) (c : Option ℕ) → acted y js (entered ls u ++ ws) c ≡ acted y js ws c
acted_entered y js [] u ws c = refl
acted_entered y js (l ∷ ls) [] ws c = refl
acted_entered y js (l ∷ ls) (v ∷ vs) ws c = acted_entered y js ls vs ws c

hit_entered : (y : Variable) (js : List ℕ) (ls : List Loop) (u : Vector) (ws : List Write) → hit y js (entered ls u ++ ws) ≡ hit y js ws
hit_entered y js [] u ws = refl
hit_entered y js (l ∷ ls) [] ws = refl
hit_entered y js (l ∷ ls) (v ∷ vs) ws = hit_entered y js ls vs ws

module _ (x : Variable) (ps : List Variable) (body : Stmt) (keeps : KeepsApart (x ∷ ps) body) (none : DeclaresNone (x ∷ ps) body) (first : AssignsFirst ps body) (apart : is_among ps x ≡ false) (loops : List Loop) (o : State)
    (not_of_loops : is_among (variables_of loops) x ≡ false) where
  abbrev Set : List Vector → State → ℕ → Type 0
  Set us a v = IsSet x ps loops body o us a v

  abbrev Fit : Vector → Type 0
  Fit u = (length u ≡ length loops) × InnerLoopsTurn loops body o u

  -- it does not write the element
  abbrev pub Spares : Variable → ℕ → List ℕ → Vector → Type 0
  Spares y j js u = TouchedBy loops body o u Writes y j js → ⊥

  pub record Changing (us vs : List Vector) (v : ℕ) (f : Effect) : Type 0 where
    pub elements : (b : State) → Set us b v → (y : Variable) (j : ℕ) (js : List ℕ) → (overwritten b f.writes).cells y (j ∷ js) ≡ acted y (j ∷ js) f.writes (b.cells y (j ∷ js))
    pub hits : (y : Variable) (j : ℕ) (js : List ℕ) → hit y (j ∷ js) f.writes ≡ true → Each (Spares y j js) vs
    pub misses : (y : Variable) (j : ℕ) (js : List ℕ) → Each (Spares y j js) us → hit y (j ∷ js) f.writes ≡ false

  spared : (u : Vector) (y : Variable) (j : ℕ) (js : List ℕ) → TouchedBy loops body o u Writes y j js → (vs : List Vector) → Each (Apart loops body o u) vs → Each (Spares y j js) vs
  spared u y j js t [] h = tt
  spared u y j js t (v ∷ vs) h = (λ k. h.0 y j js Writes t k, spared u y j js t vs h.1)

  pub changing : (us vs : List Vector) (a : State) (v : ℕ) (f : Effect) → Each Fit us → AllApart loops body o (us ++ vs) → Set (us ++ vs) a v → walk loops body us a ≡ Some f → Changing us vs v f
  changing [] vs a v f fit clear set ran =
      subst (Changing [] vs v) (same_Some nothing f ran)
      (record { elements = λ b s y j js. refl; hits = λ y j js h. absurd (true≢false (sym h)); misses = λ y j js h. refl })
  changing (u ∷ us) vs a v f fit clear set ran =
      let p = split_of loops body u us a f ran in
      let one = goes x ps body keeps none first apart loops o not_of_loops u (us ++ vs) a v p.one fit.0.0 fit.0.1 set clear.0 p.one_is in
      let q : State = overwritten (at_vector loops u a) p.one.writes in
      let rest = changing us vs q one.next p.two fit.1 clear.1 one.after p.two_is in
      let mine = changes x ps body keeps none first apart loops o not_of_loops u (us ++ vs) a v p.one fit.0.0 fit.0.1 set one.own_is in
      let hit_is : (y : Variable) (js : List ℕ) → hit y js (joined (enters loops u) (joined p.one p.two)).writes ≡ (hit y js p.one.writes || hit y js p.two.writes) =
      λ y js. hit_entered y js loops u (p.one.writes ++ p.two.writes) ∙ hit-append y js p.one.writes p.two.writes in
      subst (Changing (u ∷ us) vs v) p.whole
      (record {
        elements = λ b s y j js.
            let near = each_left (Apart loops body o u) us vs clear.0 in
            let is = goes_too x ps body keeps none first apart loops o not_of_loops u us b v p.one fit.0.0 fit.0.1 s near one.own_is in
            let there = goes x ps body keeps none first apart loops o not_of_loops u us b v p.one fit.0.0 fit.0.1 s near is in
            let r : State = overwritten (at_vector loops u b) p.one.writes in
            let entered_same : (at_vector loops u b).locals x ≡ (at_vector loops u a).locals x = kept_entered loops u b x not_of_loops ∙ s.holds ∙ sym (kept_entered loops u a x not_of_loops ∙ set.holds) in
            let value : r.locals x ≡ Holds one.next = same_slot x p.one.writes (at_vector loops u b) (at_vector loops u a) entered_same ∙ one.after.holds in
            let here = changes x ps body keeps none first apart loops o not_of_loops u us b v p.one fit.0.0 fit.0.1 s one.own_is in
            ap (λ (t : State). t.cells y (j ∷ js)) (left_cons loops u b p.one p.two)
            ∙ rest.elements r (set_value x ps body keeps none first apart loops o not_of_loops us r there.next one.next there.after value) y j js
            ∙ ap (acted y (j ∷ js) p.two.writes) (here.elements y j js ∙ ap (acted y (j ∷ js) p.one.writes) (cells_at loops u b y (j ∷ js)))
            ∙ sym (acted-append y (j ∷ js) p.one.writes p.two.writes (b.cells y (j ∷ js))) ∙ sym (acted_entered y (j ∷ js) loops u (p.one.writes ++ p.two.writes) (b.cells y (j ∷ js)));
        hits = λ y j js h. either y j js (or_cases (hit y (j ∷ js) p.one.writes) (hit y (j ∷ js) p.two.writes) (sym (hit_is y (j ∷ js)) ∙ h)) (λ k. each_right (Spares y j js) us vs (spared u y j js (mine.wrote y j js k) (us ++ vs) clear.0)) (λ k. rest.hits y j js k);
        misses = λ y j js h. hit_is y (j ∷ js) ∙ neither (hit y (j ∷ js) p.one.writes) (hit y (j ∷ js) p.two.writes) (λ k. h.0 (mine.wrote y j js k)) (rest.misses y j js h.1);
      })
    where
      either : {p q : Bool} (y : Variable) (j : ℕ) (js : List ℕ) → (p ≡ true) ⊎ (q ≡ true) → (p ≡ true → Each (Spares y j js) vs) → (q ≡ true → Each (Spares y j js) vs) → Each (Spares y j js) vs
      either y j js (inl k) one two = one k
      either y j js (inr k) one two = two k

      neither : (p q : Bool) → (p ≡ true → ⊥) → q ≡ false → (p || q) ≡ false
      neither true q h k = absurd (h refl)
      neither false q h k = k
