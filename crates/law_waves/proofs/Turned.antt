-- Walks over the same iterations in other orders.
use Rattle.std.specs.Prelude.{ℕ, Bool, true, false, ◌≡◌, List, [], ◌∷◌, ◌++◌, Option, Some}
use Rattle.std.specs.List.{AllByRecursion as Each}
use Rattle.std.proofs.Common.{refl, sym, ap, ◌∙◌, subst}
use Rattle.std.proofs.lemmas.Option.{same_Some}
use Rattle.semantics.specs.Tree.{Variable, Stmt}
use Rattle.semantics.specs.Meaning.State.{State, overwritten}
use Rattle.semantics.specs.Meaning.Runs.{Effect, nothing, joined, run}
use Rattle.semantics.specs.Loops.Nest.{Loop, Vector, at_vector}
use Rattle.semantics.specs.Loops.Access.{Mode, Writes}
use Rattle.law_commute.specs.Commuting.{KeepsToItself}
use Rattle.law_commute.proofs.Changes.{acted, hit, not_hit}
use Rattle.law_nests.specs.Walks.{walk, enters}
use Rattle.law_scans.proofs.Walking.{walk_cons, left_cons, split_of}
use Rattle.law_waves.proofs.Steps.{TouchesAt, Clear, Good, Steady, Same, same_itself, same_then, same_of, runs_same, stepped}

-- what none of two touches that the other writes
module _ {A : Type 0} (Touched : A → Mode → Variable → ℕ → List ℕ → Type 0) where
  -- what the first writes the second does not touch
  abbrev IsApart : A → A → Type 0
  IsApart t u = (y : Variable) (j : ℕ) (js : List ℕ) (mode : Mode) → Touched t Writes y j js → Touched u mode y j js → ⊥

  -- it touches each element that is written
  abbrev AreHits : A → Effect → Type 0
  AreHits t e = (y : Variable) (j : ℕ) (js : List ℕ) → hit y (j ∷ js) e.writes ≡ true → Touched t Writes y j js

  pub untouched : (t u : A) (e : Effect) → IsApart t u → AreHits t e → (y : Variable) (j : ℕ) (js : List ℕ) (mode : Mode) → Touched u mode y j js → (k : Option ℕ) → acted y (j ∷ js) e.writes k ≡ k
  untouched t u e apart hits y j js mode m k = at (hit y (j ∷ js) e.writes) refl
    where
      at : (b : Bool) → hit y (j ∷ js) e.writes ≡ b → acted y (j ∷ js) e.writes k ≡ k
      at true h = absurd (apart y j js mode (hits y j js h) m)
      at false h = not_hit y (j ∷ js) e.writes k h

  pub commute : (t u : A) (d e : Effect) → IsApart u t → AreHits t d → AreHits u e
      → (y : Variable) (j : ℕ) (js : List ℕ) (k : Option ℕ) → acted y (j ∷ js) e.writes (acted y (j ∷ js) d.writes k) ≡ acted y (j ∷ js) d.writes (acted y (j ∷ js) e.writes k)
  commute t u d e apart by_t by_u y j js k = at (hit y (j ∷ js) d.writes) refl
    where
      at : (b : Bool) → hit y (j ∷ js) d.writes ≡ b → acted y (j ∷ js) e.writes (acted y (j ∷ js) d.writes k) ≡ acted y (j ∷ js) d.writes (acted y (j ∷ js) e.writes k)
      at true h =
          let m = by_t y j js h in
          untouched u t e apart by_u y j js Writes m (acted y (j ∷ js) d.writes k) ∙ ap (acted y (j ∷ js) d.writes) (sym (untouched u t e apart by_u y j js Writes m k))
      at false h = ap (acted y (j ∷ js) e.writes) (not_hit y (j ∷ js) d.writes k h) ∙ sym (not_hit y (j ∷ js) d.writes (acted y (j ∷ js) e.writes k) h)

module _ (loops : List Loop) (own : Stmt) (o : State) (keeps : KeepsToItself own) where
  abbrev IsSame : State → State → Type 0
  IsSame = Same loops own o keeps

  abbrev IsSteady : State → Type 0
  IsSteady = Steady loops own o keeps

  abbrev IsGood : Vector → Type 0
  IsGood = Good loops own o keeps

  abbrev IsClear : Vector → Vector → Type 0
  IsClear = Clear loops own o keeps

  abbrev Touching : Vector → Mode → Variable → ℕ → List ℕ → Type 0
  Touching = TouchesAt loops own o keeps

  -- behind an iteration
  abbrev pub after : Vector → State → Effect → State
  after u a e = overwritten (at_vector loops u a) e.writes

  -- ---- the same iterations from states that are the same

  pub along : (us : List Vector) (a b : State) (f : Effect) → Each IsGood us → IsSame a b → walk loops own us a ≡ Some f
      → (walk loops own us b ≡ Some f) × IsSame (overwritten a f.writes) (overwritten b f.writes)
  along [] a b f good same ran = (ran, subst (λ (g : Effect). IsSame (overwritten a g.writes) (overwritten b g.writes)) (same_Some nothing f ran) same)
  along (u ∷ us) a b f good same ran =
      let p = split_of loops own u us a f ran in
      let is : run own (at_vector loops u b) ≡ Some p.one = sym (runs_same loops own o keeps u good.0 a b same.first same.second (λ y j js mode t. same.cells y (j ∷ js))) ∙ p.one_is in
      let one = stepped loops own o keeps u good.0 a p.one same.first p.one_is in
      let two = stepped loops own o keeps u good.0 b p.one same.second is in
      let next : IsSame (after u a p.one) (after u b p.one) =
      same_of loops own o keeps (after u a p.one) (after u b p.one) one.steady two.steady (λ y j js. one.cells y j js ∙ ap (acted y (j ∷ js) p.one.writes) (same.cells y (j ∷ js)) ∙ sym (two.cells y j js)) in
      let rest = along us (after u a p.one) (after u b p.one) p.two good.1 next p.two_is in
      subst (λ (g : Effect). (walk loops own (u ∷ us) b ≡ Some g) × IsSame (overwritten a g.writes) (overwritten b g.writes)) p.whole (
        walk_cons loops own u us b p.one p.two is rest.0,
        subst (λ t. IsSame t (overwritten b (joined (enters loops u) (joined p.one p.two)).writes)) (sym (left_cons loops u a p.one p.two))
            (subst (λ t. IsSame (overwritten (after u a p.one) p.two.writes) t) (sym (left_cons loops u b p.one p.two)) rest.1),
      )

  pub still_steady : (us : List Vector) (a : State) (f : Effect) → Each IsGood us → IsSteady a → walk loops own us a ≡ Some f → IsSteady (overwritten a f.writes)
  still_steady us a f good st ran = (along us a a f good (same_itself loops own o keeps a st) ran).1.first

  -- ---- other orders

  -- these have a walk, which leaves the same
  pub record Ended (ws : List Vector) (a t : State) : Type 0 where
    pub effect : Effect
    pub ran : walk loops own ws a ≡ Some effect
    pub same : IsSame t (overwritten a effect.writes)

  -- wherever the first have a walk, the second have one that leaves the same
  abbrev pub Turns : List Vector → List Vector → Type 0
  Turns us ws = (a : State) (f : Effect) → IsSteady a → walk loops own us a ≡ Some f → Ended ws a (overwritten a f.writes)

  pub turns_itself : (us : List Vector) → Each IsGood us → Turns us us
  turns_itself us good a f st ran = record { effect = f; ran = ran; same = same_itself loops own o keeps (overwritten a f.writes) (still_steady us a f good st ran) }

  pub turns_then : (us vs ws : List Vector) → Turns us vs → Turns vs ws → Turns us ws
  turns_then us vs ws one two a f st ran =
      let p = one a f st ran in
      let q = two a p.effect st p.ran in
      record { effect = q.effect; ran = q.ran; same = same_then loops own o keeps (overwritten a f.writes) (overwritten a p.effect.writes) (overwritten a q.effect.writes) p.same q.same }

  pub turns_cons : (u : Vector) (us ws : List Vector) → IsGood u → Turns us ws → Turns (u ∷ us) (u ∷ ws)
  turns_cons u us ws good rest a f st ran =
      let p = split_of loops own u us a f ran in
      let one = stepped loops own o keeps u good a p.one st p.one_is in
      let q = rest (after u a p.one) p.two one.steady p.two_is in
      record {
        effect = joined (enters loops u) (joined p.one q.effect);
        ran = walk_cons loops own u ws a p.one q.effect p.one_is q.ran;
        same =
            subst (λ t. IsSame t (overwritten a (joined (enters loops u) (joined p.one q.effect)).writes)) (sym (left_cons loops u a p.one p.two) ∙ ap (λ (g : Effect). overwritten a g.writes) p.whole)
            (subst (λ t. IsSame (overwritten (after u a p.one) p.two.writes) t) (sym (left_cons loops u a p.one q.effect)) q.same);
      }

  -- two neighbours of which none touches what the other writes
  module _ (u v : Vector) (good_u : IsGood u) (good_v : IsGood v) (clear : IsClear u v) (clear_back : IsClear v u) where
    pub swapped : (back : List Vector) → Each IsGood back → Turns (u ∷ (v ∷ back)) (v ∷ (u ∷ back))
    swapped back good a f st ran =
        let p = split_of loops own u (v ∷ back) a f ran in
        let a1 = after u a p.one in
        let s1 = stepped loops own o keeps u good_u a p.one st p.one_is in
        let q = split_of loops own v back a1 p.two p.two_is in
        let a2 = after v a1 q.one in
        let s2 = stepped loops own o keeps v good_v a1 q.one s1.steady q.one_is in
        let first : run own (at_vector loops v a) ≡ Some q.one =
        runs_same loops own o keeps v good_v a a1 st s1.steady (λ y j js mode t. sym (s1.cells y j js ∙ untouched Touching u v p.one clear s1.hits y j js mode t (a.cells y (j ∷ js)))) ∙ q.one_is in
        let b1 = after v a q.one in
        let t1 = stepped loops own o keeps v good_v a q.one st first in
        let second : run own (at_vector loops u b1) ≡ Some p.one =
        runs_same loops own o keeps u good_u b1 a t1.steady st (λ y j js mode t. t1.cells y j js ∙ untouched Touching v u q.one clear_back t1.hits y j js mode t (a.cells y (j ∷ js))) ∙ p.one_is in
        let b2 = after u b1 p.one in
        let t2 = stepped loops own o keeps u good_u b1 p.one t1.steady second in
        let same : IsSame a2 b2 = same_of loops own o keeps a2 b2 s2.steady t2.steady
        (λ y j js.
        s2.cells y j js ∙ ap (acted y (j ∷ js) q.one.writes) (s1.cells y j js) ∙ commute Touching u v p.one q.one clear_back s1.hits t1.hits y j js (a.cells y (j ∷ js))
        ∙ ap (acted y (j ∷ js) p.one.writes) (sym (t1.cells y j js)) ∙ sym (t2.cells y j js)) in
        let rest = along back a2 b2 q.two good same q.two_is in
        let inner : Effect = joined (enters loops u) (joined p.one q.two) in
        let left : overwritten a2 q.two.writes ≡ overwritten a f.writes =
        sym (left_cons loops v a1 q.one q.two) ∙ ap (λ (g : Effect). overwritten a1 g.writes) q.whole ∙ sym (left_cons loops u a p.one p.two) ∙ ap (λ (g : Effect). overwritten a g.writes) p.whole in
        let right : overwritten b2 q.two.writes ≡ overwritten a (joined (enters loops v) (joined q.one inner)).writes = sym (left_cons loops u b1 p.one q.two) ∙ sym (left_cons loops v a q.one inner) in
        record {
          effect = joined (enters loops v) (joined q.one inner);
          ran = walk_cons loops own v (u ∷ back) a q.one inner first (walk_cons loops own u back b1 p.one q.two second rest.0);
          same = subst (λ t. IsSame t (overwritten a (joined (enters loops v) (joined q.one inner)).writes)) left (subst (λ t. IsSame (overwritten a2 q.two.writes) t) right rest.1);
        }

  -- none of the two touches what the other writes
  abbrev pub Both : Vector → Vector → Type 0
  Both u v = IsClear u v × IsClear v u

  -- one behind some others
  pub moved : (u : Vector) (lows highs : List Vector) → IsGood u → Each IsGood (lows ++ highs) → Each (Both u) lows → Turns (u ∷ (lows ++ highs)) (lows ++ (u ∷ highs))
  moved u [] highs good_u good clear = turns_itself (u ∷ highs) (good_u, good)
  moved u (l ∷ lows) highs good_u good clear =
      turns_then (u ∷ (l ∷ (lows ++ highs))) (l ∷ (u ∷ (lows ++ highs))) (l ∷ (lows ++ (u ∷ highs)))
      (swapped u l good_u good.0 clear.0.0 clear.0.1 (lows ++ highs) good.1)
      (turns_cons l (u ∷ (lows ++ highs)) (lows ++ (u ∷ highs)) good.0 (moved u lows highs good_u good.1 clear.1))
