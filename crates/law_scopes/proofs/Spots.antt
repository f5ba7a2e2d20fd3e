-- Places inside serial loops: a state in which their variables hold the values of a turn, and what keeps these.
use Rattle.std.specs.Prelude.{ℕ, Bool, true, false, ◌≡◌, ◌==◌, ◌&&◌, ◌||◌, List, [], ◌∷◌, ◌++◌, Option, Some, None, IsSome}
use Rattle.std.specs.List.{list_any, AllByRecursion as Each}
use Rattle.std.proofs.Common.{refl, sym, ap, ◌∙◌, subst, cond, inl, inr}
use Rattle.std.proofs.lemmas.Bool.{eqb-true, eq-eqb}
use Rattle.std.proofs.lemmas.Option.{same_Some, none-some}
use Rattle.semantics.specs.Tree.{Variable, Source, Cond, Increment}
use Rattle.semantics.specs.Meaning.State.{State, Empty, Holds, Declared, Assigned, overwritten, look_in, is_object}
use Rattle.semantics.specs.Meaning.Value.{source_value, holds}
use Rattle.semantics.specs.Meaning.Runs.{Effect, one_write, declares, declared, assigned, incremented}
use Rattle.semantics.specs.Meaning.Agrees.{also}
use Rattle.semantics.specs.Loops.Nest.{Loop, Vector, at_value, at_vector, iterations}
use Rattle.semantics.specs.Loops.Piece.{is_outside}
use Rattle.semantics.proofs.NestLaw.{local_same, local_twice}
use Rattle.law_commute.specs.Steady.{IsFixedSource, IsFixedCond, IsFixedStep}
use Rattle.law_commute.proofs.Same.{SameVariable, apart, also_other, also_more}
use Rattle.law_commute.proofs.Lists.{Among, each_join}
use Rattle.law_commute.proofs.Values.{first_of, second_of, fixed_holds, fixed_source}
use Rattle.law_commute.proofs.Paths.{Visits, now, later, Path, path_among, path_more, at_vector_more}
use Rattle.law_commute.proofs.Framed.{step_number, number_to, step_is, step_same, also_itself, true_not_false}
use Rattle.law_nests.proofs.Steadied.{step_left}
use Rattle.law_runs.proofs.Assigning.{other_local, other_assigned}
use Rattle.law_independence.specs.OrderLaws.{HaveTurns}
use Rattle.law_scopes.specs.Apart.{holds_number, hold_values, hold_some, is_at_turn}

-- these locals are as they were
abbrev pub Kept : (Variable → Bool) → State → State → Type 0
Kept F t u = (y : Variable) → F y ≡ true → u.locals y ≡ t.locals y

-- ---- what single steps keep

module _ (F : Variable → Bool) (s : State) where
  effect_kept : (f e : Effect) → f ≡ e → Kept F s (overwritten s f.writes) → Kept F s (overwritten s e.writes)
  effect_kept f e is k = subst (λ (g : Effect). Kept F s (overwritten s g.writes)) is k

  pub assigned_keeps : (x : Variable) → F x ≡ false → (is : Option (List ℕ)) (o : Option ℕ) (e : Effect) → assigned s x is o ≡ Some e → Kept F s (overwritten s e.writes)
  assigned_keeps x free None o e h = absurd (none-some e h)
  assigned_keeps x free (Some ks) None e h = absurd (none-some e h)
  assigned_keeps x free (Some ks) (Some n) e h = at (is_object s x ks) h
    where
      at : (b : Bool) → cond b (Some (one_write (Assigned x ks n))) None ≡ Some e → Kept F s (overwritten s e.writes)
      at false q = absurd (none-some e q)
      at true q = effect_kept (one_write (Assigned x ks n)) e (same_Some (one_write (Assigned x ks n)) e q) (λ y f. other_assigned s x ks n y (apart F x y free f))

  pub declares_keeps : (x : Variable) → F x ≡ false → (o : Option ℕ) (e : Effect) → declares x o ≡ Some e → Kept F s (overwritten s e.writes)
  declares_keeps x free None e h = absurd (none-some e h)
  declares_keeps x free (Some n) e h = effect_kept (one_write (Declared x (Some n))) e (same_Some (one_write (Declared x (Some n))) e h) (λ y f. other_local s x (Holds n) y (apart F x y free f))

  pub declared_keeps : (x : Variable) → F x ≡ false → (start : Option Source) (e : Effect) → declared s x start ≡ Some e → Kept F s (overwritten s e.writes)
  declared_keeps x free None e h = effect_kept (one_write (Declared x None)) e (same_Some (one_write (Declared x None)) e h) (λ y f. other_local s x Empty y (apart F x y free f))
  declared_keeps x free (Some a) e h = declares_keeps x free (source_value s a) e h

-- ---- places

pub some_of : {A : Type 0} (o : Option A) → IsSome o → (a : A) × (o ≡ Some a)
some_of None h = absurd cc
some_of (Some a) h = (a, refl)

-- the variables of serial loops hold the values of a turn; the fixed ones are theirs, and hold what they hold at that turn
pub record Spot (F : Variable → Bool) (serial : List Loop) (t : State) : Type 0 where
  pub vector : Vector
  pub path : (m : State) → Path serial vector m
  pub same : (m : State) (y : Variable) → F y ≡ true → (at_vector serial vector m).locals y ≡ t.locals y
  pub stand : (y : Variable) → F y ≡ true → is_outside (t.locals y) ≡ false
  pub own : Each (λ (l : Loop). F l.variable ≡ true) serial
  pub hold : hold_values serial t vector ≡ true

pub no_spot : (t : State) → Spot (λ x. false) [] t
no_spot t = record { vector = []; path = λ m. tt; same = λ m y h. absurd cc; stand = λ y h. absurd cc; own = tt; hold = refl }

hold_kept : (F : Variable → Bool) (t u : State) → Kept F t u → (ls : List Loop) (w : Vector) → Each (λ (l : Loop). F l.variable ≡ true) ls → hold_values ls t w ≡ true → hold_values ls u w ≡ true
hold_kept F t u kept [] [] own h = refl
hold_kept F t u kept [] (v ∷ vs) own h = absurd cc
hold_kept F t u kept (l ∷ ls) [] own h = absurd cc
hold_kept F t u kept (l ∷ ls) (v ∷ vs) own h =
    let rest = hold_kept F t u kept ls vs own.1 (second_of (holds_number (t.locals l.variable) v) (hold_values ls t vs) h) in
    ap (λ k. holds_number k v && hold_values ls u vs) (kept l.variable own.0)
    ∙ ap (λ b. b && hold_values ls u vs) (first_of (holds_number (t.locals l.variable) v) (hold_values ls t vs) h) ∙ rest

pub spot_kept : (F : Variable → Bool) (serial : List Loop) (t u : State) → Spot F serial t → Kept F t u → Spot F serial u
spot_kept F serial t u spot kept =
    record {
      vector = spot.vector;
      path = spot.path;
      same = λ m y f. spot.same m y f ∙ sym (kept y f);
      stand = λ y f. ap is_outside (kept y f) ∙ spot.stand y f;
      own = spot.own;
      hold = hold_kept F t u kept serial spot.vector spot.own spot.hold;
    }

any_of : (p : Vector → Bool) (us : List Vector) (u : Vector) → Among us u → p u ≡ true → list_any p us ≡ true
any_of p [] u a h = absurd a
any_of p (v ∷ us) u (inl e) h = ap (λ b. b || list_any p us) (ap p e ∙ h)
any_of p (v ∷ us) u (inr a) h = at (p v) (any_of p us u a h)
  where
    at : (b : Bool) → list_any p us ≡ true → (b || list_any p us) ≡ true
    at true q = refl
    at false q = q

-- it is at a turn of them
pub spot_turn : (F : Variable → Bool) (serial : List Loop) (t : State) → HaveTurns serial → Spot F serial t → is_at_turn serial t ≡ true
spot_turn F serial t round spot =
    let us = some_of (iterations serial t) (round t) in
    ap (hold_some serial t) us.1 ∙ any_of (hold_values serial t) us.0 spot.vector (path_among serial spot.vector t us.0 (spot.path t) us.1) spot.hold

-- ---- one loop more

hold_more : (ls : List Loop) (t : State) (w : Vector) (l : Loop) (v : ℕ) → hold_values ls t w ≡ true → t.locals l.variable ≡ Holds v → hold_values (ls ++ l ∷ []) t (w ++ v ∷ []) ≡ true
hold_more [] t [] l v h e = ap (λ k. holds_number k v && true) e ∙ ap (λ b. b && true) (eq-eqb v v refl)
hold_more [] t (u ∷ us) l v h e = absurd cc
hold_more (k ∷ ls) t [] l v h e = absurd cc
hold_more (k ∷ ls) t (u ∷ us) l v h e =
    let rest = hold_more ls t us l v (second_of (holds_number (t.locals k.variable) u) (hold_values ls t us) h) e in
    ap (λ b. b && hold_values (ls ++ l ∷ []) t (us ++ v ∷ [])) (first_of (holds_number (t.locals k.variable) u) (hold_values ls t us) h) ∙ rest

module _ (F : Variable → Bool) (serial : List Loop) (x : Variable) (start : Source) (test : Cond) (step : Increment) (free : F x ≡ false) (start_fixed : IsFixedSource F start) (test_fixed : IsFixedCond (also F x) test)
    (step_fixed : IsFixedStep (also F x) x step) (t0 : State) (spot : Spot F serial t0) (first : ℕ) (start_is : source_value t0 start ≡ Some first) where
  abbrev pub loop : Loop
  loop = record { variable = x; start = start; test = test; step = step }

  -- a turn of the loops outside, in any state
  abbrev base : State → State
  base m = at_vector serial spot.vector m

  -- what the loop visits from this value on, it visits from its start on
  abbrev pub FromStart : ℕ → Type 0
  FromStart v = (m : State) (z : ℕ) → Visits loop (at_value (base m) x v) z → Visits loop (at_value (base m) x first) z

  -- a state at this value of the loop's variable
  pub record At (v : ℕ) (t : State) : Type 0 where
    pub kept : Kept F t0 t
    pub is : t.locals x ≡ Holds v
    pub from : FromStart v

  locals_there : (v : ℕ) (t : State) → At v t → (m : State) (y : Variable) → also F x y ≡ true → t.locals y ≡ (at_value (base m) x v).locals y
  locals_there v t at m y h = go (y == x) refl
    where
      go : (b : Bool) → (y == x) ≡ b → t.locals y ≡ cond (y == x) (Holds v) ((base m).locals y)
      go true e = ap t.locals (eqb-true y x e) ∙ at.is ∙ sym (ap (λ b. cond b (Holds v) ((base m).locals y)) e)
      go false e = let f = also_other F x y h e in at.kept y f ∙ sym (spot.same m y f) ∙ sym (ap (λ b. cond b (Holds v) ((base m).locals y)) e)

  stand_there : (v : ℕ) (t : State) → At v t → (y : Variable) → also F x y ≡ true → is_outside (t.locals y) ≡ false
  stand_there v t at y h = go (y == x) refl
    where
      go : (b : Bool) → (y == x) ≡ b → is_outside (t.locals y) ≡ false
      go true e = ap (λ z. is_outside (t.locals z)) (eqb-true y x e) ∙ ap is_outside at.is
      go false e = let f = also_other F x y h e in ap is_outside (at.kept y f) ∙ spot.stand y f

  same_there : (v : ℕ) (t : State) → At v t → (m : State) (y : Variable) → also F x y ≡ true → SameVariable y t (at_value (base m) x v)
  same_there v t at m y h =
      record { locals = locals_there v t at m y h; cells = λ o. absurd (true_not_false (is_outside (t.locals y)) (ap is_outside o) (stand_there v t at y h)) }

  same_start : (m : State) (y : Variable) → F y ≡ true → SameVariable y (base m) t0
  same_start m y f =
      record { locals = spot.same m y f; cells = λ o. absurd (true_not_false (is_outside (t0.locals y)) (ap is_outside (sym (spot.same m y f) ∙ o)) (spot.stand y f)) }

  -- inside its body
  pub spot_inside : (v : ℕ) (t : State) → At v t → holds t test ≡ Some true → Spot (also F x) (serial ++ loop ∷ []) t
  spot_inside v t at tested =
      record {
        vector = spot.vector ++ v ∷ [];
        path = λ m. path_more serial spot.vector m loop v first (spot.path m) (fixed_source F (base m) t0 (same_start m) start start_fixed ∙ start_is)
            (at.from m v (now (sym (fixed_holds (also F x) t (at_value (base m) x v) (same_there v t at m) test test_fixed) ∙ tested) (ap (λ slot. look_in slot (at_value (base m) x v) x []) (local_same (base m) x (Holds v)))));
        same = λ m y h. ap (λ (z : State). z.locals y) (at_vector_more serial spot.vector m loop v (spot.path m)) ∙ sym (locals_there v t at m y h);
        stand = stand_there v t at;
        own = each_join (λ (l : Loop). also F x l.variable ≡ true) serial (loop ∷ []) (wider serial spot.own) (also_itself F x, tt);
        hold = hold_more serial t spot.vector loop v (hold_kept F t0 t at.kept serial spot.vector spot.own spot.hold) at.is;
      }
    where
      wider : (ls : List Loop) → Each (λ (l : Loop). F l.variable ≡ true) ls → Each (λ (l : Loop). also F x l.variable ≡ true) ls
      wider [] h = tt
      wider (l ∷ ls) h = (also_more F x l.variable h.0, wider ls h.1)

  -- at its start
  pub at_start : (t : State) → Kept F t0 t → t.locals x ≡ Holds first → At first t
  at_start t kept is = record { kept = kept; is = is; from = λ m z h. h }

  -- behind its body
  pub at_body : (v : ℕ) (t u : State) → At v t → Kept (also F x) t u → At v u
  at_body v t u at kept = record { kept = λ y f. kept y (also_more F x y f) ∙ at.kept y f; is = kept x (also_itself F x) ∙ at.is; from = at.from }

  -- behind its step
  pub record Next (u : State) : Type 0 where
    pub value : ℕ
    pub at : At value u

  pub at_next : (v : ℕ) (t u : State) (e : Effect) → At v t → At v u → holds t test ≡ Some true → incremented u step ≡ Some e → Next (overwritten u e.writes)
  at_next v t u e before at tested stepped = go (step_number u step) refl (sym (step_is (also F x) u x v step at.is step_fixed) ∙ stepped)
    where
      go : (o : Option ℕ) → step_number u step ≡ o → number_to x o ≡ Some e → Next (overwritten u e.writes)
      go None q is = absurd (none-some e is)
      go (Some n) q is =
          subst (λ (f : Effect). Next (overwritten u f.writes)) (same_Some (one_write (Assigned x [] n)) e is)
          (subst Next (sym (step_left u x v n at.is))
          (record {
            value = n;
            at = record {
              kept = λ y f. other_local u x (Holds n) y (apart F x y free f) ∙ at.kept y f;
              is = local_same u x (Holds n);
              from = λ m z h. at.from m z (later (sym (fixed_holds (also F x) t (at_value (base m) x v) (same_there v t before m) test test_fixed) ∙ tested) (goes m)
                  (subst (λ (s : State). Visits loop s z) (sym (after m)) h));
            };
          }))
        where
          goes : (m : State) → incremented (at_value (base m) x v) step ≡ Some (one_write (Assigned x [] n))
          goes m =
              step_is (also F x) (at_value (base m) x v) x v step (local_same (base m) x (Holds v)) step_fixed
              ∙ ap (number_to x) (sym (step_same (also F x) u (at_value (base m) x v) (same_there v u at m) x (also_itself F x) step step_fixed) ∙ q)

          after : (m : State) → overwritten (at_value (base m) x v) (Assigned x [] n ∷ []) ≡ at_value (base m) x n
          after m = step_left (at_value (base m) x v) x v n (local_same (base m) x (Holds v)) ∙ local_twice (base m) x (Holds v) (Holds n)
