-- Chunks of one wave, each from where a chunk may begin, put together.
use Rattle.std.specs.Prelude.{ℕ, zero, suc, Bool, true, false, not, ◌≡◌, List, [], ◌∷◌, ◌++◌, length, map, flat_map, Option, Some, None, IsSome, slice_get}
use Rattle.std.specs.List.{AllByRecursion as Each}
use Rattle.std.proofs.Common.{refl, sym, ap, ◌∙◌, subst, cond, inl, inr}
use Rattle.std.proofs.lemmas.Bool.{true≢false}
use Rattle.std.proofs.lemmas.Option.{same_Some, none-some}
use Rattle.semantics.specs.Tree.{Variable, Stmt}
use Rattle.semantics.specs.Meaning.State.{State, overwritten}
use Rattle.semantics.specs.Meaning.Runs.{Effect}
use Rattle.semantics.specs.Meaning.Agrees.{is_among, visible_behind}
use Rattle.semantics.specs.Loops.Nest.{Loop, Vector}
use Rattle.semantics.specs.Loops.Order.{Distance}
use Rattle.semantics.specs.Loops.Piece.{Roles, is_outside}
use Rattle.law_nests.specs.Walks.{walk}
use Rattle.law_nests.specs.Merging.{Cells}
use Rattle.law_roles.specs.Updates.{operator_of}
use Rattle.law_roles.specs.Sharing.{IsScalar, MergesAt, last_filled, MayStart, changed_from, SharesFrom}
use Rattle.law_roles.proofs.Chunked.{nest_variables}
use Rattle.law_roles.proofs.Joining.{held_slot, localized, localized_inside, localized_moved}
use Rattle.law_roles.proofs.Lasts.{none_filled}
use Rattle.law_waves.specs.Doacross.{IsDoacross}
use Rattle.law_waves.proofs.Steps.{Good, Steady}
use Rattle.law_waves.proofs.Silent.{silent_walk}
use Rattle.law_waves.proofs.Tied.{Tied, tied_cells, tied_locals, Back, back}
use Rattle.law_waves.proofs.Chunks.{Finds, AllClear, Told, told, Cut, cut, merged_at}
use Rattle.law_waves.proofs.Grounded as ground
use Rattle.law_commute.proofs.Lists.{first_there, others_there}

-- a variable that is none of these stands as before
pub localized_other : (vars : List Variable) (t : State) (x : Variable) → is_among vars x ≡ false → (localized vars t).locals x ≡ t.locals x
localized_other vars t x h = ap (λ b. cond b (held_slot (t.locals x) (t.cells x [])) (t.locals x)) h

pub localized_cell : (vars : List Variable) (t : State) (x : Variable) (js : List ℕ) → is_among vars x ≡ false → (localized vars t).cells x js ≡ t.cells x js
localized_cell vars t x js h = ap (λ b. cond b None (t.cells x js)) h

pub localized_none : (vars : List Variable) (t : State) (x : Variable) (js : List ℕ) → is_among vars x ≡ true → (localized vars t).cells x js ≡ None
localized_none vars t x js h = ap (λ b. cond b None (t.cells x js)) h

module _ (roles : Roles) (ds : List Distance) (n : ℕ) (s : Stmt) (loops : List Loop) (body : Stmt) (outer : State) (us : List Vector) (e : Effect) (is : IsDoacross roles ds n s loops body outer us e) where
  abbrev vars : List Variable
  vars = ground.vars roles ds n s loops body outer us e is

  abbrev own : Stmt
  own = ground.own roles ds n s loops body outer us e is

  abbrev o : State
  o = ground.o roles ds n s loops body outer us e is

  abbrev IsSteady : State → Type 0
  IsSteady = Steady loops own o (ground.keeps_own roles ds n s loops body outer us e is)

  -- behind such a walk locals round the nest are as before it
  pub locals_still : (t : State) → IsSteady t → (x : Variable) → visible_behind s x ≡ true → is_among vars x ≡ false → t.locals x ≡ outer.locals x
  locals_still t st x seen free =
      st.locals x (ground.own_visible roles ds n s loops body outer us e is x seen free) (nest_variables n s loops body is.nest x seen)
      ∙ localized_other vars outer x free

  -- a wave from a state
  module _ (state : State) (scalars : (x : Variable) → is_among vars x ≡ true → IsScalar state x) (locals : (x : Variable) → visible_behind s x ≡ true → is_among vars x ≡ false → state.locals x ≡ outer.locals x)
      (p_steady : IsSteady (localized vars state)) (w : List Vector) (good : Each (Good loops own o (ground.keeps_own roles ds n s loops body outer us e is)) w)
      (clear : AllClear loops own o (ground.keeps_own roles ds n s loops body outer us e is) w) (h : Effect) (ran : walk loops own w (localized vars state) ≡ Some h) where
    abbrev p : State
    p = localized vars state

    abbrev Ties : State → State → Type 0
    Ties = Tied vars

    pub wave_back : Back vars body (ground.named roles ds n s loops body outer us e is) (ground.known roles ds n s loops body outer us e is) loops w state p h
    wave_back = back vars body (ground.named roles ds n s loops body outer us e is) (ground.known roles ds n s loops body outer us e is) loops w state p h (ground.tied_of roles ds n s loops body outer us e is state scalars) ran

    behind : Told loops own o (ground.keeps_own roles ds n s loops body outer us e is) w p h
    behind = told loops own o (ground.keeps_own roles ds n s loops body outer us e is) w p h good p_steady ran

    -- ---- chunks

    module _ (start : State) (chunks : List (List Vector)) (may : MayStart roles state start) (whole : flat_map (λ vs. vs) chunks ≡ w) where
      tied_start : Ties start p
      tied_start = record {
        middle = localized vars start;
        moved = localized_moved vars start may.scalars;
        near = record {
          agrees = record {
            cells = λ x js. cell x js (is_among vars x) refl;
            kinds = λ x k. kind x (is_among vars x) refl;
            values = λ x k. value x (is_among vars x) refl k;
          };
          inside = localized_inside vars start;
        };
      }
        where
          cell : (x : Variable) (js : List ℕ) (b : Bool) → is_among vars x ≡ b → (localized vars start).cells x js ≡ p.cells x js
          cell x js true k = localized_none vars start x js k ∙ sym (localized_none vars state x js k)
          cell x js false k = localized_cell vars start x js k ∙ may.cells x js k ∙ sym (localized_cell vars state x js k)

          other : (x : Variable) → is_among vars x ≡ false → (localized vars start).locals x ≡ p.locals x
          other x k = localized_other vars start x k ∙ may.locals x k ∙ sym (localized_other vars state x k)

          kind : (x : Variable) (b : Bool) → is_among vars x ≡ b → is_outside ((localized vars start).locals x) ≡ is_outside (p.locals x)
          kind x true k = localized_inside vars start x k ∙ sym (localized_inside vars state x k)
          kind x false k = ap is_outside (other x k)

          value : (x : Variable) (b : Bool) → is_among vars x ≡ b → not (is_among vars x) ≡ true → (localized vars start).locals x ≡ p.locals x
          value x true k j = absurd (true≢false (sym j ∙ ap not k))
          value x false k j = other x k

      pieces : Cut loops own o (ground.keeps_own roles ds n s loops body outer us e is) p p_steady chunks h
      pieces =
          let k = ground.keeps_own roles ds n s loops body outer us e is in
          cut loops own o k p p_steady chunks p h (subst (Each (Good loops own o k)) (sym whole) good) (subst (AllClear loops own o k) (sym whole) clear) p_steady (finds_all (flat_map (λ vs. vs) chunks))
          (ap (λ vs. walk loops own vs p) whole ∙ ran)
        where
          finds_all : (vs : List Vector) → Each (Finds loops own o (ground.keeps_own roles ds n s loops body outer us e is) p p) vs
          finds_all [] = tt
          finds_all (v ∷ vs) = (λ y j js mode t. refl, finds_all vs)

      abbrev AllTied : List Effect → List Effect → Type 0
      AllTied [] [] = Unit {0}
      AllTied (a ∷ fs) (b ∷ gs) = Ties (overwritten start a.writes) (overwritten p b.writes) × AllTied fs gs
      AllTied _ _ = ⊥

      record Walks (cs : List (List Vector)) (gs : List Effect) : Type 0 where
        effects : List Effect
        each : map (λ vs. walk loops body vs start) cs ≡ map Some effects
        ties : AllTied effects gs
        many : length effects ≡ length cs
        text : flat_map (λ (a : Effect). a.text) effects ≡ []

      walks_of : (cs : List (List Vector)) (gs : List Effect) → map (λ vs. walk loops own vs p) cs ≡ map Some gs → Walks cs gs
      walks_of [] [] k = record { effects = []; each = refl; ties = tt; many = refl; text = refl }
      walks_of [] (g ∷ gs) k = absurd cc
      walks_of (vs ∷ cs) [] k = absurd cc
      walks_of (vs ∷ cs) (g ∷ gs) k =
          let one = back vars body (ground.named roles ds n s loops body outer us e is) (ground.known roles ds n s loops body outer us e is) loops vs start p g tied_start (first_there (λ (us : List Vector). walk loops own us p) vs cs g gs k) in
          let rest = walks_of cs gs (others_there (λ (us : List Vector). walk loops own us p) vs cs g gs k) in
          record {
            effects = one.effect ∷ rest.effects;
            each = λ i. one.ran i ∷ rest.each i;
            ties = (one.after, rest.ties);
            many = ap suc rest.many;
            text = λ i. silent_walk loops body is.silent vs start one.effect one.ran i ++ rest.text i;
          }

      all : Walks chunks pieces.effects
      all = walks_of chunks pieces.effects pieces.each

      -- what stands at a place in the one list has its like in the other
      record Partner (gs : List Effect) (k : ℕ) (a : Effect) : Type 0 where
        effect : Effect
        there : slice_get gs k ≡ Some effect
        tied : Ties (overwritten start a.writes) (overwritten p effect.writes)

      partner : (fs gs : List Effect) → AllTied fs gs → (k : ℕ) (a : Effect) → slice_get fs k ≡ Some a → Partner gs k a
      partner [] [] t k a at = absurd (none-some a at)
      partner (d ∷ fs) (g ∷ gs) t zero a at = record { effect = g; there = refl; tied = subst (λ (c : Effect). Ties (overwritten start c.writes) (overwritten p g.writes)) (same_Some d a at) t.0 }
      partner (d ∷ fs) (g ∷ gs) t (suc k) a at = let r = partner fs gs t.1 k a at in record { effect = r.effect; there = r.there; tied = r.tied }
      partner _ _ t k a at = absurd t

      record Origin (fs : List Effect) (k : ℕ) (b : Effect) : Type 0 where
        effect : Effect
        there : slice_get fs k ≡ Some effect
        tied : Ties (overwritten start effect.writes) (overwritten p b.writes)

      origin : (fs gs : List Effect) → AllTied fs gs → (k : ℕ) (b : Effect) → slice_get gs k ≡ Some b → Origin fs k b
      origin [] [] t k b at = absurd (none-some b at)
      origin (d ∷ fs) (g ∷ gs) t zero b at = record { effect = d; there = refl; tied = subst (λ (c : Effect). Ties (overwritten start d.writes) (overwritten p c.writes)) (same_Some g b at) t.0 }
      origin (d ∷ fs) (g ∷ gs) t (suc k) b at = let r = origin fs gs t.1 k b at in record { effect = r.effect; there = r.there; tied = r.tied }
      origin _ _ t k b at = absurd t

      start_cell : (x : Variable) (js : List ℕ) → is_among vars x ≡ false → start.cells x js ≡ p.cells x js
      start_cell x js free = tied_cells vars start p tied_start x js free

      merges_too : (after : Cells) (x : Variable) (js : List ℕ) → is_among vars x ≡ false → MergesAt start all.effects after x js → MergesAt p pieces.effects after x js
      merges_too after x js free (inl none) = inl (
        λ k b at. let r = origin all.effects pieces.effects all.ties k b at in sym (tied_cells vars (overwritten start r.effect.writes) (overwritten p b.writes) r.tied x js free) ∙ none.0 k r.effect r.there ∙ start_cell x js free,
        none.1 ∙ start_cell x js free,
      )
      merges_too after x js free (inr one) =
          let r = partner all.effects pieces.effects all.ties one.number one.effect one.among in
          let same = tied_cells vars (overwritten start one.effect.writes) (overwritten p r.effect.writes) r.tied x js free in
          inr (record { number = one.number; effect = r.effect; among = r.there; changes = λ k. one.changes (same ∙ k ∙ sym (start_cell x js free)); leaves = one.leaves ∙ same })

      pub shares : SharesFrom start (changed_from start) roles s loops body chunks state wave_back.effect
      shares = record {
        effects = all.effects;
        each = all.each;
        merge = λ after merges x js free.
            let k = ground.keeps_own roles ds n s loops body outer us e is in
            merged_at loops own o k p p_steady chunks h (subst (AllClear loops own o k) (sym whole) clear) pieces (subst (λ vs. Told loops own o k vs p h) (sym whole) behind) after x js (merges_too after x js free (merges x js free))
            ∙ sym (tied_cells vars (overwritten state wave_back.effect.writes) (overwritten p h.writes) wave_back.after x js free);
        reductions = λ x op v order at holds once. absurd (none-some op (sym (ap (λ rs. operator_of rs x) is.keeps.no_reductions) ∙ at));
        lasts = λ x a last filled. absurd (true≢false (sym last ∙ ap (λ xs. is_among xs x) is.keeps.no_lasts));
        filled = λ some. at (last_filled chunks all.effects) refl some;
        no_last = λ x last none. absurd (true≢false (sym last ∙ ap (λ xs. is_among xs x) is.keeps.no_lasts));
        locals = λ x seen free.
            tied_locals vars (overwritten state wave_back.effect.writes) (overwritten p h.writes) wave_back.after x free
            ∙ locals_still (overwritten p h.writes) behind.steady x seen free ∙ sym (locals x seen free);
        text = silent_walk loops body is.silent w state wave_back.effect wave_back.ran ∙ sym all.text;
      }
        where
          at : (q : Option Effect) → last_filled chunks all.effects ≡ q → (flat_map (λ us. us) chunks ≡ [] → ⊥) → IsSome q
          at None k some = absurd (some (none_filled chunks all.effects all.many k))
          at (Some a) k some = refl
