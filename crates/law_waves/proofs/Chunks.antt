-- Chunks of iterations that do not conflict, each walked from the state before all of them.
use Rattle.std.specs.Prelude.{ℕ, zero, suc, Bool, true, false, ◌≡◌, ◌==◌, ◌&&◌, ◌||◌, ◌⊎◌, List, [], ◌∷◌, ◌++◌, map, flat_map, Option, Some, slice_get}
use Rattle.std.specs.List.{AllByRecursion as Each}
use Rattle.std.proofs.Common.{refl, sym, ap, ◌∙◌, subst, inl, inr}
use Rattle.std.proofs.lemmas.Bool.{true≢false, or_cases}
use Rattle.std.proofs.lemmas.Option.{same_Some, none-some}
use Rattle.semantics.specs.Tree.{Variable, Stmt}
use Rattle.semantics.specs.Meaning.State.{State, Write, Declared, Assigned, same_indexes, overwritten}
use Rattle.semantics.specs.Meaning.Runs.{Effect, nothing, run}
use Rattle.semantics.specs.Loops.Nest.{Loop, Vector, at_vector}
use Rattle.semantics.specs.Loops.Access.{Mode, Writes}
use Rattle.law_commute.specs.Commuting.{KeepsToItself}
use Rattle.law_commute.proofs.Lists.{each_left, each_right}
use Rattle.law_commute.proofs.Changes.{acted, hit, not_hit}
use Rattle.law_commute.proofs.Joining.{acted-append}
use Rattle.law_nests.specs.Walks.{walk, entered}
use Rattle.law_nests.specs.Merging.{Cells, left_by, NoneChanges, OneChanges}
use Rattle.law_scans.proofs.Walking.{walk_cons, left_cons, split_of, halves}
use Rattle.law_waves.proofs.Steps.{TouchesAt, Clear, Good, Steady, runs_same, stepped, same_scalar}

-- ---- writes

entered_acted : (ls : List Loop) (u : Vector) (y : Variable) (js : List ℕ) (c : Option ℕ) → acted y js (entered ls u) c ≡ c
entered_acted [] u y js c = refl
entered_acted (l ∷ ls) [] y js c = refl
entered_acted (l ∷ ls) (v ∷ vs) y js c = entered_acted ls vs y js c

entered_hit : (ls : List Loop) (u : Vector) (y : Variable) (js : List ℕ) → hit y js (entered ls u) ≡ false
entered_hit [] u y js = refl
entered_hit (l ∷ ls) [] y js = refl
entered_hit (l ∷ ls) (v ∷ vs) y js = entered_hit ls vs y js

or_join : (a b c : Bool) → (a || (b || c)) ≡ ((a || b) || c)
or_join true b c = refl
or_join false b c = refl

hit-append : (y : Variable) (js : List ℕ) (ws vs : List Write) → hit y js (ws ++ vs) ≡ (hit y js ws || hit y js vs)
hit-append y js [] vs = refl
hit-append y js (Declared x v ∷ ws) vs = hit-append y js ws vs
hit-append y js (Assigned x is v ∷ ws) vs = ap (λ b. ((y == x) && same_indexes js is) || b) (hit-append y js ws vs) ∙ or_join ((y == x) && same_indexes js is) (hit y js ws) (hit y js vs)

-- of some effects, one after another
abbrev pub acted_all : Variable → List ℕ → List Effect → Option ℕ → Option ℕ
acted_all y js [] c = c
acted_all y js (e ∷ es) c = acted_all y js es (acted y js e.writes c)

module _ (loops : List Loop) (own : Stmt) (o : State) (keeps : KeepsToItself own) where
  abbrev IsSteady : State → Type 0
  IsSteady = Steady loops own o keeps

  abbrev IsGood : Vector → Type 0
  IsGood = Good loops own o keeps

  abbrev IsClear : Vector → Vector → Type 0
  IsClear = Clear loops own o keeps

  abbrev Touching : Vector → Mode → Variable → ℕ → List ℕ → Type 0
  Touching = TouchesAt loops own o keeps

  -- one of them touches it for a write
  abbrev pub Wrote : List Vector → Variable → ℕ → List ℕ → Type 0
  Wrote [] y j js = ⊥
  Wrote (u ∷ us) y j js = Touching u Writes y j js ⊎ Wrote us y j js

  wrote_left : (us vs : List Vector) (y : Variable) (j : ℕ) (js : List ℕ) → Wrote us y j js → Wrote (us ++ vs) y j js
  wrote_left [] vs y j js h = absurd h
  wrote_left (u ∷ us) vs y j js (inl h) = inl h
  wrote_left (u ∷ us) vs y j js (inr h) = inr (wrote_left us vs y j js h)

  wrote_right : (us vs : List Vector) (y : Variable) (j : ℕ) (js : List ℕ) → Wrote vs y j js → Wrote (us ++ vs) y j js
  wrote_right [] vs y j js h = h
  wrote_right (u ∷ us) vs y j js h = inr (wrote_right us vs y j js h)

  -- ---- what a walk changes

  pub record Told (us : List Vector) (a : State) (f : Effect) : Type 0 where
    pub steady : IsSteady (overwritten a f.writes)
    pub cells : (y : Variable) (j : ℕ) (js : List ℕ) → (overwritten a f.writes).cells y (j ∷ js) ≡ acted y (j ∷ js) f.writes (a.cells y (j ∷ js))
    pub hits : (y : Variable) (j : ℕ) (js : List ℕ) → hit y (j ∷ js) f.writes ≡ true → Wrote us y j js

  pub told : (us : List Vector) (a : State) (f : Effect) → Each IsGood us → IsSteady a → walk loops own us a ≡ Some f → Told us a f
  told [] a f good st ran = subst (Told [] a) (same_Some nothing f ran) (record { steady = st; cells = λ y j js. refl; hits = λ y j js h. absurd (true≢false (sym h)) })
  told (u ∷ us) a f good st ran =
      let p = split_of loops own u us a f ran in
      let one = stepped loops own o keeps u good.0 a p.one st p.one_is in
      let b = overwritten (at_vector loops u a) p.one.writes in
      let rest = told us b p.two good.1 one.steady p.two_is in
      subst (Told (u ∷ us) a) p.whole
      (record {
        steady = subst IsSteady (sym (left_cons loops u a p.one p.two)) rest.steady;
        cells = λ y j js.
            ap (λ (t : State). t.cells y (j ∷ js)) (left_cons loops u a p.one p.two) ∙ rest.cells y j js ∙ ap (acted y (j ∷ js) p.two.writes) (one.cells y j js)
            ∙ sym
            (acted-append y (j ∷ js) (entered loops u) (p.one.writes ++ p.two.writes) (a.cells y (j ∷ js))
            ∙ ap (acted y (j ∷ js) (p.one.writes ++ p.two.writes)) (entered_acted loops u y (j ∷ js) (a.cells y (j ∷ js)))
            ∙ acted-append y (j ∷ js) p.one.writes p.two.writes (a.cells y (j ∷ js)));
        hits = λ y j js h.
            either p.one p.two y j js one.hits rest.hits
            (sym (hit-append y (j ∷ js) p.one.writes p.two.writes) ∙ sym (hit-append y (j ∷ js) (entered loops u) (p.one.writes ++ p.two.writes) ∙ ap (λ c. c || hit y (j ∷ js) (p.one.writes ++ p.two.writes)) (entered_hit loops u y (j ∷ js))) ∙ h);
      })
    where
      either : (d e : Effect) (y : Variable) (j : ℕ) (js : List ℕ) → ((y : Variable) (j : ℕ) (js : List ℕ) → hit y (j ∷ js) d.writes ≡ true → Touching u Writes y j js)
          → ((y : Variable) (j : ℕ) (js : List ℕ) → hit y (j ∷ js) e.writes ≡ true → Wrote us y j js) → (hit y (j ∷ js) d.writes || hit y (j ∷ js) e.writes) ≡ true → Wrote (u ∷ us) y j js
      either d e y j js one two h = at (or_cases (hit y (j ∷ js) d.writes) (hit y (j ∷ js) e.writes) h)
        where
          at : (hit y (j ∷ js) d.writes ≡ true) ⊎ (hit y (j ∷ js) e.writes ≡ true) → Wrote (u ∷ us) y j js
          at (inl k) = inl (one y j js k)
          at (inr k) = inr (two y j js k)

  -- ---- iterations that find what they touch as another state has it

  abbrev pub Finds : State → State → Vector → Type 0
  Finds a b u = (y : Variable) (j : ℕ) (js : List ℕ) (mode : Mode) → Touching u mode y j js → a.cells y (j ∷ js) ≡ b.cells y (j ∷ js)

  finds_behind : (us : List Vector) (a b c d : State) (e : Effect) → Each (Finds a b) us → ((y : Variable) (j : ℕ) (js : List ℕ) → c.cells y (j ∷ js) ≡ acted y (j ∷ js) e.writes (a.cells y (j ∷ js)))
      → ((y : Variable) (j : ℕ) (js : List ℕ) → d.cells y (j ∷ js) ≡ acted y (j ∷ js) e.writes (b.cells y (j ∷ js))) → Each (Finds c d) us
  finds_behind [] a b c d e h one two = tt
  finds_behind (u ∷ us) a b c d e h one two = (λ y j js mode t. one y j js ∙ ap (acted y (j ∷ js) e.writes) (h.0 y j js mode t) ∙ sym (two y j js), finds_behind us a b c d e h.1 one two)

  pub walks_too : (us : List Vector) (a b : State) (f : Effect) → Each IsGood us → IsSteady a → IsSteady b → Each (Finds a b) us → walk loops own us a ≡ Some f → walk loops own us b ≡ Some f
  walks_too [] a b f good one two finds ran = ran
  walks_too (u ∷ us) a b f good one two finds ran =
      let p = split_of loops own u us a f ran in
      let is : run own (at_vector loops u b) ≡ Some p.one = sym (runs_same loops own o keeps u good.0 a b one two finds.0) ∙ p.one_is in
      let by_a = stepped loops own o keeps u good.0 a p.one one p.one_is in
      let by_b = stepped loops own o keeps u good.0 b p.one two is in
      let a' = overwritten (at_vector loops u a) p.one.writes in
      let b' = overwritten (at_vector loops u b) p.one.writes in
      walk_cons loops own u us b p.one p.two is (walks_too us a' b' p.two good.1 by_a.steady by_b.steady (finds_behind us a b a' b' p.one finds.1 by_a.cells by_b.cells) p.two_is) ∙ ap Some p.whole

  -- none touches what one before it writes
  abbrev pub AllClear : List Vector → Type 0
  AllClear [] = Unit {0}
  AllClear (u ∷ us) = Each (IsClear u) us × AllClear us

  clear_right : (us vs : List Vector) → AllClear (us ++ vs) → AllClear vs
  clear_right [] vs h = h
  clear_right (u ∷ us) vs h = clear_right us vs h.1

  clear_of : (u : Vector) (us vs : List Vector) → Each (IsClear u) (us ++ vs) → Each (IsClear u) vs
  clear_of u us vs h = each_right (IsClear u) us vs h

  -- so an element is not written by the first and touched by one of the others
  apart : (us vs : List Vector) (y : Variable) (j : ℕ) (js : List ℕ) → AllClear (us ++ vs) → Wrote us y j js → Each (λ v. (mode : Mode) → Touching v mode y j js → ⊥) vs
  apart [] vs y j js clear h = absurd h
  apart (u ∷ us) vs y j js clear (inl h) = each_not vs (clear_of u us vs clear.0)
    where
      each_not : (vs : List Vector) → Each (IsClear u) vs → Each (λ v. (mode : Mode) → Touching v mode y j js → ⊥) vs
      each_not [] k = tt
      each_not (v ∷ vs) k = (λ mode t. k.0 y j js mode h t, each_not vs k.1)
  apart (u ∷ us) vs y j js clear (inr h) = apart us vs y j js clear.1 h

  never_wrote : (vs : List Vector) (y : Variable) (j : ℕ) (js : List ℕ) → Each (λ v. (mode : Mode) → Touching v mode y j js → ⊥) vs → Wrote vs y j js → ⊥
  never_wrote [] y j js h k = k
  never_wrote (v ∷ vs) y j js h (inl k) = h.0 Writes k
  never_wrote (v ∷ vs) y j js h (inr k) = never_wrote vs y j js h.1 k

  pub clash : (us vs : List Vector) (y : Variable) (j : ℕ) (js : List ℕ) → AllClear (us ++ vs) → Wrote us y j js → Wrote vs y j js → ⊥
  clash us vs y j js clear h k = never_wrote vs y j js (apart us vs y j js clear h) k

  -- the others find what they touch behind the first as before them
  finds_still : (us vs : List Vector) (a b : State) (f : Effect) → AllClear (us ++ vs) → Told us a f → Each (Finds a b) vs → Each (Finds (overwritten a f.writes) b) vs
  finds_still us vs a b f clear t finds = all vs finds (λ y j js h. apart us vs y j js clear (t.hits y j js h))
    where
      all : (ws : List Vector) → Each (Finds a b) ws → ((y : Variable) (j : ℕ) (js : List ℕ) → hit y (j ∷ js) f.writes ≡ true → Each (λ v. (mode : Mode) → Touching v mode y j js → ⊥) ws)
          → Each (Finds (overwritten a f.writes) b) ws
      all [] h none = tt
      all (w ∷ ws) h none = (
        λ y j js mode touch. t.cells y j js ∙ at y j js mode touch (hit y (j ∷ js) f.writes) refl ∙ h.0 y j js mode touch,
        all ws h.1 (λ y j js k. (none y j js k).1),
      )
        where
          at : (y : Variable) (j : ℕ) (js : List ℕ) (mode : Mode) → Touching w mode y j js → (b : Bool) → hit y (j ∷ js) f.writes ≡ b → acted y (j ∷ js) f.writes (a.cells y (j ∷ js)) ≡ a.cells y (j ∷ js)
          at y j js mode touch true k = absurd ((none y j js k).0 mode touch)
          at y j js mode touch false k = not_hit y (j ∷ js) f.writes (a.cells y (j ∷ js)) k

  -- ---- chunks

  module _ (p : State) (p_steady : IsSteady p) where
    abbrev pub AllTold : List (List Vector) → List Effect → Type 0
    AllTold [] [] = Unit {0}
    AllTold (vs ∷ cs) (f ∷ fs) = Told vs p f × AllTold cs fs
    AllTold _ _ = ⊥

    abbrev flat : List (List Vector) → List Vector
    flat cs = flat_map (λ vs. vs) cs

    -- each has a walk from this state, and one after another they change what the walk over all does
    pub record Cut (chunks : List (List Vector)) (h : Effect) : Type 0 where
      pub effects : List Effect
      pub each : map (λ vs. walk loops own vs p) chunks ≡ map Some effects
      pub facts : AllTold chunks effects
      pub changes : (y : Variable) (js : List ℕ) (c : Option ℕ) → acted y js h.writes c ≡ acted_all y js effects c

    pub cut : (chunks : List (List Vector)) (a : State) (h : Effect) → Each IsGood (flat chunks) → AllClear (flat chunks) → IsSteady a → Each (Finds a p) (flat chunks) → walk loops own (flat chunks) a ≡ Some h → Cut chunks h
    cut [] a h good clear st finds ran = record { effects = []; each = refl; facts = tt; changes = λ y js c. sym (ap (λ (g : Effect). acted y js g.writes c) (same_Some nothing h ran)) }
    cut (vs ∷ cs) a h good clear st finds ran =
        let parts = halves loops own vs (flat cs) a h ran in
        let good_vs = each_left IsGood vs (flat cs) good in
        let from_p = walks_too vs a p parts.one good_vs st p_steady (each_left (Finds a p) vs (flat cs) finds) parts.one_is in
        let by_a = told vs a parts.one good_vs st parts.one_is in
        let by_p = told vs p parts.one good_vs p_steady from_p in
        let rest =
        cut cs (overwritten a parts.one.writes) parts.two (each_right IsGood vs (flat cs) good) (clear_right vs (flat cs) clear) by_a.steady
        (finds_still vs (flat cs) a p parts.one clear by_a (each_right (Finds a p) vs (flat cs) finds)) parts.two_is in
        record {
          effects = parts.one ∷ rest.effects;
          each = λ i. from_p i ∷ rest.each i;
          facts = (by_p, rest.facts);
          changes = λ y js c.
              ap (λ (g : Effect). acted y js g.writes c) parts.whole ∙ acted-append y js parts.one.writes parts.two.writes c ∙ rest.changes y js (acted y js parts.one.writes c);
        }

    -- ---- put together

    module _ (y : Variable) (j : ℕ) (js : List ℕ) where
      abbrev hits : Effect → Bool
      hits f = hit y (j ∷ js) f.writes

      abbrev by : Effect → Option ℕ → Option ℕ
      by f c = acted y (j ∷ js) f.writes c

      unless_hit : (f : Effect) → (hits f ≡ true → ⊥) → (c : Option ℕ) → by f c ≡ c
      unless_hit f h c = at (hits f) refl
        where
          at : (b : Bool) → hits f ≡ b → by f c ≡ c
          at true k = absurd (h k)
          at false k = not_hit y (j ∷ js) f.writes c k

      no_hit : (us : List Vector) (cs : List (List Vector)) (fs : List Effect) → AllTold cs fs → AllClear (us ++ flat cs) → Wrote us y j js → (c : Option ℕ) → acted_all y (j ∷ js) fs c ≡ c
      no_hit us [] [] facts clear wrote c = refl
      no_hit us (vs ∷ cs) (f ∷ fs) facts clear wrote c =
          let none = apart us (vs ++ flat cs) y j js clear wrote in
          ap (acted_all y (j ∷ js) fs) (unless_hit f (λ k. never_wrote vs y j js (each_left (λ v. (mode : Mode) → Touching v mode y j js → ⊥) vs (flat cs) none) (facts.0.hits y j js k)) c)
          ∙ others cs fs facts.1 (each_right (λ v. (mode : Mode) → Touching v mode y j js → ⊥) vs (flat cs) none)
        where
          others : (cs : List (List Vector)) (fs : List Effect) → AllTold cs fs → Each (λ v. (mode : Mode) → Touching v mode y j js → ⊥) (flat cs) → acted_all y (j ∷ js) fs c ≡ c
          others [] [] facts none = refl
          others (vs ∷ cs) (f ∷ fs) facts none =
              ap (acted_all y (j ∷ js) fs) (unless_hit f (λ k. never_wrote vs y j js (each_left (λ v. (mode : Mode) → Touching v mode y j js → ⊥) vs (flat cs) none) (facts.0.hits y j js k)) c)
              ∙ others cs fs facts.1 (each_right (λ v. (mode : Mode) → Touching v mode y j js → ⊥) vs (flat cs) none)
          others _ _ facts none = absurd facts
      no_hit us _ _ facts clear wrote c = absurd facts

      -- one writes it
      one_hit : (cs : List (List Vector)) (fs : List Effect) → AllTold cs fs → AllClear (flat cs) → (k : ℕ) (f : Effect) → slice_get fs k ≡ Some f → hits f ≡ true → (c : Option ℕ) → acted_all y (j ∷ js) fs c ≡ by f c
      one_hit [] [] facts clear k f is h c = absurd (none-some f is)
      one_hit (vs ∷ cs) (d ∷ fs) facts clear zero f is h c =
          let same = same_Some d f is in
          no_hit vs cs fs facts.1 clear (facts.0.hits y j js (ap hits same ∙ h)) (by d c) ∙ ap (λ (g : Effect). by g c) same
      one_hit (vs ∷ cs) (d ∷ fs) facts clear (suc k) f is h c =
          ap (acted_all y (j ∷ js) fs) (unless_hit d (λ q. clash vs (flat cs) y j js clear (facts.0.hits y j js q) (wrote_at cs fs facts.1 k f is h)) c)
          ∙ one_hit cs fs facts.1 (clear_right vs (flat cs) clear) k f is h c
        where
          wrote_at : (cs : List (List Vector)) (fs : List Effect) → AllTold cs fs → (k : ℕ) (f : Effect) → slice_get fs k ≡ Some f → hits f ≡ true → Wrote (flat cs) y j js
          wrote_at [] [] facts k f is h = absurd (none-some f is)
          wrote_at (vs ∷ cs) (d ∷ fs) facts zero f is h = wrote_left vs (flat cs) y j js (facts.0.hits y j js (ap hits (same_Some d f is) ∙ h))
          wrote_at (vs ∷ cs) (d ∷ fs) facts (suc k) f is h = wrote_right vs (flat cs) y j js (wrote_at cs fs facts.1 k f is h)
          wrote_at _ _ facts k f is h = absurd facts
      one_hit _ _ facts clear k f is h c = absurd facts

      -- none changes it
      none_acts : (cs : List (List Vector)) (fs : List Effect) → AllTold cs fs → NoneChanges p fs y (j ∷ js) → acted_all y (j ∷ js) fs (p.cells y (j ∷ js)) ≡ p.cells y (j ∷ js)
      none_acts [] [] facts none = refl
      none_acts (vs ∷ cs) (f ∷ fs) facts none =
          ap (acted_all y (j ∷ js) fs) (sym (facts.0.cells y j js) ∙ none 0 f refl) ∙ none_acts cs fs facts.1 (λ k e is. none (suc k) e is)
      none_acts _ _ facts none = absurd facts

    steady_at : (cs : List (List Vector)) (fs : List Effect) → AllTold cs fs → (k : ℕ) (f : Effect) → slice_get fs k ≡ Some f → IsSteady (overwritten p f.writes) × ((y : Variable) (j : ℕ) (js : List ℕ) → (overwritten p f.writes).cells y (j ∷ js) ≡ acted y (j ∷ js) f.writes (p.cells y (j ∷ js)))
    steady_at [] [] facts k f is = absurd (none-some f is)
    steady_at (vs ∷ cs) (d ∷ fs) facts zero f is = subst (λ (g : Effect). IsSteady (overwritten p g.writes) × ((y : Variable) (j : ℕ) (js : List ℕ) → (overwritten p g.writes).cells y (j ∷ js) ≡ acted y (j ∷ js) g.writes (p.cells y (j ∷ js)))) (same_Some d f is) (facts.0.steady, facts.0.cells)
    steady_at (vs ∷ cs) (d ∷ fs) facts (suc k) f is = steady_at cs fs facts.1 k f is
    steady_at _ _ facts k f is = absurd facts

    -- an object that is as before, or as one of them leaves it that changes it, is as the walk over all leaves it
    pub merged_at : (chunks : List (List Vector)) (h : Effect) → AllClear (flat chunks) → (c : Cut chunks h) → Told (flat chunks) p h → (after : Cells) (y : Variable) (js : List ℕ)
        → (NoneChanges p c.effects y js × (after y js ≡ p.cells y js)) ⊎ OneChanges p c.effects after y js → after y js ≡ left_by p h y js
    merged_at chunks h clear c t after y [] (inl none) = none.1 ∙ same_scalar loops own o keeps p (overwritten p h.writes) p_steady t.steady y
    merged_at chunks h clear c t after y [] (inr one) =
        absurd (one.changes (same_scalar loops own o keeps (overwritten p one.effect.writes) p (steady_at chunks c.effects c.facts one.number one.effect one.among).0 p_steady y))
    merged_at chunks h clear c t after y (j ∷ js) (inl none) =
        none.1 ∙ sym (t.cells y j js ∙ c.changes y (j ∷ js) (p.cells y (j ∷ js)) ∙ none_acts y j js chunks c.effects c.facts none.0)
    merged_at chunks h clear c t after y (j ∷ js) (inr one) =
        let cells : left_by p one.effect y (j ∷ js) ≡ acted y (j ∷ js) one.effect.writes (p.cells y (j ∷ js)) = (steady_at chunks c.effects c.facts one.number one.effect one.among).1 y j js in
        one.leaves ∙ cells ∙ sym (one_hit y j js chunks c.effects c.facts clear one.number one.effect one.among (sure cells (hit y (j ∷ js) one.effect.writes) refl) (p.cells y (j ∷ js)))
        ∙ sym (t.cells y j js ∙ c.changes y (j ∷ js) (p.cells y (j ∷ js)))
      where
        sure : left_by p one.effect y (j ∷ js) ≡ acted y (j ∷ js) one.effect.writes (p.cells y (j ∷ js)) → (b : Bool) → hit y (j ∷ js) one.effect.writes ≡ b → hit y (j ∷ js) one.effect.writes ≡ true
        sure cells true k = k
        sure cells false k = absurd (one.changes (cells ∙ not_hit y (j ∷ js) one.effect.writes (p.cells y (j ∷ js)) k))
