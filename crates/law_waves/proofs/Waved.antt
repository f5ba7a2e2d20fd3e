-- A walk over iterations level by level leaves what the walk in their own order leaves.
use Rattle.std.specs.Prelude.{ℕ, suc, Bool, true, false, ◌≡◌, ◌==◌, ◌<◌, ◌+◌, List, [], ◌∷◌, ◌++◌, Some}
use Rattle.std.specs.List.{AllByRecursion as Each}
use Rattle.std.proofs.Common.{refl, sym, ap, ◌∙◌, subst, arith}
use Rattle.std.proofs.lemmas.Bool.{eqb-true}
use Rattle.std.proofs.lemmas.Option.{same_Some}
use Rattle.semantics.specs.Tree.{Stmt}
use Rattle.semantics.specs.Meaning.State.{State, overwritten}
use Rattle.semantics.specs.Meaning.Runs.{Effect}
use Rattle.semantics.specs.Loops.Nest.{Loop, Vector}
use Rattle.law_commute.specs.Commuting.{KeepsToItself}
use Rattle.law_commute.proofs.Matched.{overwritten-append}
use Rattle.law_nests.specs.Walks.{walk}
use Rattle.law_scans.proofs.Walking.{halves}
use Rattle.law_waves.proofs.Steps.{Clear, Good, Steady, Same}
use Rattle.law_waves.proofs.Turned.{Both, Turns, turns_itself, turns_then, turns_cons, moved}
use Rattle.law_waves.proofs.Sorting.{picked_at, sorted, sorted_more, sorted_none, picked_other, picked_first, inserted, begun, picked_each, sorted_each}
use Rattle.law_waves.proofs.Leveled.{Settled, AllSettled, weaker}
use Rattle.law_waves.proofs.Chunks.{AllClear}

module _ (loops : List Loop) (own : Stmt) (o : State) (keeps : KeepsToItself own) (f : Vector → ℕ) where
  abbrev IsSteady : State → Type 0
  IsSteady = Steady loops own o keeps

  abbrev IsGood : Vector → Type 0
  IsGood = Good loops own o keeps

  abbrev Clears : Vector → Vector → Type 0
  Clears = Both loops own o keeps

  abbrev pub AreSettled : List Vector → Type 0
  AreSettled us = AllSettled f Clears us

  abbrev Leads : List Vector → List Vector → Type 0
  Leads = Turns loops own o keeps

  pub sorts : (us : List Vector) (k : ℕ) → Each (λ u. f u < k) us → AreSettled us → Each IsGood us → Leads us (sorted f us k)
  sorts [] k low settled good = subst (Leads []) (sym (sorted_none f k)) (turns_itself loops own o keeps [] tt)
  sorts (u ∷ us) k low settled good =
      let r = inserted f u us k low.0 in
      let lows = sorted f us (f u) in
      let all_good : Each IsGood (lows ++ r.highs) = subst (Each IsGood) r.without (sorted_each f IsGood us k (weaker IsGood (λ v. f v < k → IsGood v) us (λ v h lt. h) good.1)) in
      let clear : Each (Clears u) lows = sorted_each f (Clears u) us (f u) (weaker (Settled f Clears u) (λ v. f v < f u → Clears u v) us (λ v h lt. h (omega (arith, lt))) settled.0) in
      turns_then loops own o keeps (u ∷ us) (u ∷ sorted f us k) (sorted f (u ∷ us) k)
      (turns_cons loops own o keeps u us (sorted f us k) good.0 (sorts us k low.1 settled.1 good.1))
      (subst (λ (zs : List Vector). Leads (u ∷ sorted f us k) zs) (sym r.with_it)
      (subst (λ (zs : List Vector). Leads (u ∷ zs) (lows ++ (u ∷ r.highs))) (sym r.without) (moved loops own o keeps u lows r.highs good.0 all_good clear)))

  -- iterations of one number do not conflict
  pub wave_clear : (us : List Vector) (i : ℕ) → AreSettled us → AllClear loops own o keeps (picked_at f us i)
  wave_clear [] i settled = tt
  wave_clear (u ∷ us) i settled = at (f u == i) refl (wave_clear us i settled.1)
    where
      at : (b : Bool) → (f u == i) ≡ b → AllClear loops own o keeps (picked_at f us i) → AllClear loops own o keeps (picked_at f (u ∷ us) i)
      at true e rest =
          let here = eqb-true (f u) i e in
          let mine : Each (Clear loops own o keeps u) (picked_at f us i) =
          picked_each f (Clear loops own o keeps u) us i (weaker (Settled f Clears u) (λ v. f v ≡ i → Clear loops own o keeps u v) us (λ v h k. (h (omega (arith, here, k))).0) settled.0) in
          subst (AllClear loops own o keeps) (sym (picked_first f u us i e)) (mine, rest)
      at false e rest = subst (AllClear loops own o keeps) (sym (picked_other f u us i e)) rest

  -- ---- so many of the waves

  module _ (us : List Vector) (most : ℕ) (low : Each (λ u. f u < most) us) (settled : AreSettled us) (good : Each IsGood us) (st : IsSteady o) (g : Effect) (ran : walk loops own us o ≡ Some g) where
    -- the first waves have a walk
    pub record Firsts (i : ℕ) : Type 0 where
      pub effect : Effect
      pub is : walk loops own (sorted f us i) o ≡ Some effect

    pub firsts : (i : ℕ) → Firsts i
    firsts i =
        let k = most + i in
        let all = sorts us k (weaker (λ u. f u < most) (λ u. f u < k) us (λ u h. omega (arith, h)) low) settled good o g st ran in
        let b = begun f us i k (omega arith) in
        let parts = halves loops own (sorted f us i) b.rest o all.effect (ap (λ vs. walk loops own vs o) (sym b.is) ∙ all.ran) in
        record { effect = parts.one; is = parts.one_is }

    -- and behind them the next one
    pub record Next (i : ℕ) (e : Effect) : Type 0 where
      pub here : Effect
      pub here_is : walk loops own (picked_at f us i) (overwritten o e.writes) ≡ Some here
      pub whole : Effect
      pub whole_is : walk loops own (sorted f us (suc i)) o ≡ Some whole
      pub left : overwritten o whole.writes ≡ overwritten (overwritten o e.writes) here.writes

    pub next : (i : ℕ) (e : Effect) → walk loops own (sorted f us i) o ≡ Some e → Next i e
    next i e is =
        let all = firsts (suc i) in
        let parts = halves loops own (sorted f us i) (picked_at f us i) o all.effect (ap (λ vs. walk loops own vs o) (sym (sorted_more f us i)) ∙ all.is) in
        let same : parts.one ≡ e = same_Some parts.one e (sym parts.one_is ∙ is) in
        record {
          here = parts.two;
          here_is = subst (λ (d : Effect). walk loops own (picked_at f us i) (overwritten o d.writes) ≡ Some parts.two) same parts.two_is;
          whole = all.effect;
          whole_is = all.is;
          left =
              ap (λ (d : Effect). overwritten o d.writes) parts.whole ∙ overwritten-append o parts.one.writes parts.two.writes
              ∙ ap (λ (d : Effect). overwritten (overwritten o d.writes) parts.two.writes) same;
        }

    -- all of them leave what the iterations leave in their own order
    pub all_left : (e : Effect) → walk loops own (sorted f us most) o ≡ Some e → Same loops own o keeps (overwritten o g.writes) (overwritten o e.writes)
    all_left e is =
        let all = sorts us most low settled good o g st ran in
        subst (λ (d : Effect). Same loops own o keeps (overwritten o g.writes) (overwritten o d.writes)) (same_Some all.effect e (sym all.ran ∙ is)) all.same
