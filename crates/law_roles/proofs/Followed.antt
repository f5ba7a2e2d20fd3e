-- A nest beside a walk over its iterations.
use Rattle.std.specs.Prelude.{ℕ, zero, suc, Bool, true, false, ◌≡◌, ◌==◌, ◌&&◌, ◌||◌, not, List, [], ◌∷◌, ◌++◌, map, Option, Some}
use Rattle.std.proofs.Common.{refl, sym, ap, ◌∙◌, subst, cond}
use Rattle.std.proofs.Math.Path.{fun_ext}
use Rattle.std.proofs.lemmas.Bool.{true≢false, eqb-true}
use Rattle.std.proofs.lemmas.List.{append-nil, append_assoc}
use Rattle.std.proofs.lemmas.Option.{same_Some, none-some}
use Rattle.semantics.specs.Tree.{Name, Variable, Stmt, For, Block, no_items, stmt}
use Rattle.semantics.specs.Meaning.State.{State, Holds, Write, with_local, overwritten}
use Rattle.semantics.specs.Meaning.Value.{map_option}
use Rattle.semantics.specs.Meaning.Runs.{Effect, nothing, joined, then_from, run, run_items}
use Rattle.semantics.specs.Meaning.Agrees.{also, is_among, visible_behind}
use Rattle.semantics.specs.Loops.Nest.{Loop, Vector, nest_of, at_value, at_vector, iterations}
use Rattle.semantics.proofs.NestLaw.{local_same}
use Rattle.law_commute.specs.Steady.{IsFixedSource, IsFixedCond, IsFixedStep, IsSteady}
use Rattle.law_commute.proofs.Same.{same_set, same_unset, apart, also_more}
use Rattle.law_commute.proofs.Matched.{overwritten-append}
use Rattle.law_commute.proofs.Framed.{also_itself}
use Rattle.law_nests.specs.Walks.{entered, enters, walk}
use Rattle.law_nests.proofs.Nested.{parts_of}
use Rattle.law_nests.proofs.Steadied.{SameFixed, same_at_value}
use Rattle.law_nests.proofs.Onward.{inner_nest_is, loop_goes}
use Rattle.law_roles.specs.Following.{variables_of, NestsAreWalks}
use Rattle.law_roles.proofs.Seen.{apart_back}
use Rattle.law_roles.proofs.Recorded.{entered_is}
use Rattle.law_roles.proofs.Keeping.{same_through, same_back, steady_keeps}

-- ---- walks that enter each iteration by these writes

abbrev enter : List Write → Effect
enter ws = record { writes = ws; text = [] }

module _ (body : Stmt) where
  abbrev walk_by : (Vector → List Write) → List Vector → State → Option Effect
  walk_by W [] t = Some nothing
  walk_by W (u ∷ us) t = then_from t (Some (enter (W u))) (λ q. then_from q (run body q) (walk_by W us))

  walk_is : (loops : List Loop) (us : List Vector) (t : State) → walk loops body us t ≡ walk_by (entered loops) us t
  walk_is loops [] t = refl
  walk_is loops (u ∷ us) t = λ i. then_from t (Some (enters loops u)) (λ q. then_from q (run body q) (λ r. walk_is loops us r i))

  walk-map : (W : Vector → List Write) (v : ℕ) (us : List Vector) (t : State) → walk_by W (map (λ u. v ∷ u) us) t ≡ walk_by (λ u. W (v ∷ u)) us t
  walk-map W v [] t = refl
  walk-map W v (u ∷ us) t = λ i. then_from t (Some (enter (W (v ∷ u)))) (λ q. then_from q (run body q) (λ r. walk-map W v us r i))

  -- such a walk has a run, which prints this and leaves such a state
  record Walked (W : Vector → List Write) (us : List Vector) (t : State) (text : List ℕ) (post : State → Type 0) : Type 0 where
    effect : Effect
    ran : walk_by W us t ≡ Some effect
    text_is : text ≡ effect.text
    after : post (overwritten t effect.writes)

  walked_none : (W : Vector → List Write) (t : State) (post : State → Type 0) → post t → Walked W [] t [] post
  walked_none W t post h = record { effect = nothing; ran = refl; text_is = refl; after = h }

  -- one iteration, and the others
  walked_one : (W : Vector → List Write) (u : Vector) (us : List Vector) (t : State) (text : List ℕ) (post : State → Type 0) (e : Effect) → run body (overwritten t (W u)) ≡ Some e
      → Walked W us (overwritten (overwritten t (W u)) e.writes) text post → Walked W (u ∷ us) t (e.text ++ text) post
  walked_one W u us t text post e is rest = record {
    effect = joined (enter (W u)) (joined e rest.effect);
    ran = ap (map_option (joined (enter (W u)))) (ap (λ o. then_from (overwritten t (W u)) o (walk_by W us)) is ∙ ap (map_option (joined e)) rest.ran);
    text_is = ap (λ q. e.text ++ q) rest.text_is;
    after =
        subst post
        (sym (overwritten-append (overwritten t (W u)) e.writes rest.effect.writes) ∙ sym (overwritten-append t (W u) (e.writes ++ rest.effect.writes))) rest.after;
  }

  walked_append : (W : Vector → List Write) (us vs : List Vector) (t : State) (text more : List ℕ) (post : State → Type 0) (e : Effect) → walk_by W us t ≡ Some e → text ≡ e.text
      → Walked W vs (overwritten t e.writes) more post → Walked W (us ++ vs) t (text ++ more) post
  walked_append W [] vs t text more post e is told rest =
      let same : nothing ≡ e = same_Some nothing e is in
      let none : text ≡ [] = told ∙ sym (ap (λ (f : Effect). f.text) same) in
      subst (λ q. Walked W vs t q post) (ap (λ q. q ++ more) (sym none)) (subst (λ (f : Effect). Walked W vs (overwritten t f.writes) more post) (sym same) rest)
  walked_append W (u ∷ us) vs t text more post e is told rest =
      let q : State = overwritten t (W u) in
      let p = parts_of t (Some (enter (W u))) (λ q. then_from q (run body q) (walk_by W us)) e is in
      let first : enter (W u) ≡ p.one = same_Some (enter (W u)) p.one p.one_is in
      let two_is : then_from q (run body q) (walk_by W us) ≡ Some p.two = ap (λ (f : Effect). then_from (overwritten t f.writes) (run body (overwritten t f.writes)) (walk_by W us)) first ∙ p.two_is in
      let r = parts_of q (run body q) (walk_by W us) p.two two_is in
      let whole : joined (enter (W u)) (joined r.one r.two) ≡ e = ap (joined (enter (W u))) r.is ∙ ap (λ (f : Effect). joined f p.two) first ∙ p.is in
      let behind : overwritten t e.writes ≡ overwritten (overwritten q r.one.writes) r.two.writes =
      sym (ap (λ (f : Effect). overwritten t f.writes) whole) ∙ overwritten-append t (W u) (r.one.writes ++ r.two.writes) ∙ overwritten-append q r.one.writes r.two.writes in
      let texts : text ≡ r.one.text ++ r.two.text = told ∙ sym (ap (λ (f : Effect). f.text) whole) in
      subst (λ z. Walked W (u ∷ (us ++ vs)) t z post) (sym (append_assoc r.one.text r.two.text more) ∙ ap (λ z. z ++ more) (sym texts))
      (walked_one W u (us ++ vs) t (r.two.text ++ more) post r.one r.one_is
      (walked_append W us vs (overwritten q r.one.writes) r.two.text more post r.two r.two_is refl (subst (λ z. Walked W vs z more post) behind rest)))

-- ---- a nest beside a walk

module _ (outer : State) (body : Stmt) where
  -- fixed variables are as before the nest, with the loops' variables round a place at their values; all others but the variables of the loops to come are the same in both
  record Stand (F : Variable → Bool) (ls : List Loop) (P : State → State) (r t : State) : Type 0 where
    cells : (y : Variable) (js : List ℕ) → r.cells y js ≡ t.cells y js
    locals : (y : Variable) → is_among (variables_of ls) y ≡ false → r.locals y ≡ (P t).locals y
    fixed : SameFixed F r (P outer)

  -- what is known of a statement on the way to the body
  record IsInner (F : Variable → Bool) (P : State → State) (W : Vector → List Write) (ls : List Loop) (s : Stmt) : Type 0 where
    steady : IsSteady F s
    cells : (t : State) (y : Variable) (js : List ℕ) → (P t).cells y js ≡ t.cells y js
    settled : (q : State) → SameFixed F q (P outer) → (y : Variable) → (P q).locals y ≡ q.locals y
    enters_by : (t : State) (u : Vector) → overwritten t (W u) ≡ at_vector ls u (P t)

  abbrev Ends : (Variable → Bool) → (State → State) → (Vector → List Write) → List Loop → List Vector → State → State → Effect → Type 0
  Ends F P W ls us r t e = Walked body W us t e.text (Stand F ls P (overwritten r e.writes))

  abbrev NestsGo : ℕ → Type 0
  NestsGo n =
      (F : Variable → Bool) (P : State → State) (W : Vector → List Write) (s : Stmt) (ls : List Loop) (us : List Vector) (r t : State) (e : Effect) → IsInner F P W ls s → nest_of n s ≡ Some (ls, body)
      → iterations ls (P outer) ≡ Some us → Stand F ls P r t → run s r ≡ Some e → Ends F P W ls us r t e

  at_body : (F : Variable → Bool) (P : State → State) (W : Vector → List Write) (r t : State) (e : Effect) → IsInner F P W [] body → Stand F [] P r t → run body r ≡ Some e → Ends F P W [] ([] ∷ []) r t e
  at_body F P W r t e inner stand ran =
      let same : P t ≡ r = λ i. record { cells = fun_ext (λ y. fun_ext (λ js. inner.cells t y js ∙ sym (stand.cells y js))) i; locals = fun_ext (λ y. sym (stand.locals y refl)) i } in
      let begun : overwritten t (W []) ≡ r = inner.enters_by t [] ∙ same in
      let after : State = overwritten r e.writes in
      let kept : SameFixed F after (P outer) = λ y h. same_through y after r (P outer) (same_back y r after (steady_keeps F body inner.steady r e ran y h)) (stand.fixed y h) in
      let stands : Stand F [] P after after = record { cells = λ y js. refl; locals = λ y h. sym (inner.settled after kept y); fixed = kept } in
      subst (λ z. Walked body W ([] ∷ []) t z (Stand F [] P after)) (append-nil e.text)
      (walked_one body W [] [] t [] (Stand F [] P after) e (ap (run body) begun ∙ ran)
      (walked_none body W (overwritten (overwritten t (W [])) e.writes) (Stand F [] P after) (subst (λ q. Stand F [] P after (overwritten q e.writes)) (sym begun) stands)))

  no_loops : NestsGo zero
  no_loops F P W s ls us r t e inner is are stand ran =
      let both_are : ([], s) ≡ (ls, body) = same_Some ([], s) (ls, body) is in
      let body_is : s ≡ body = ap (λ (p : List Loop × Stmt). p.1) both_are in
      let none : [] ≡ ls = ap (λ (p : List Loop × Stmt). p.0) both_are in
      let all : ([] ∷ []) ≡ us = same_Some ([] ∷ []) us (ap (λ l. iterations l (P outer)) none ∙ are) in
      subst (λ (l : List Loop). Ends F P W l us r t e) none
      (subst (λ (vs : List Vector). Ends F P W [] vs r t e) all
      (at_body F P W r t e (subst (λ (l : List Loop). IsInner F P W l body) (sym none) (subst (IsInner F P W ls) body_is inner))
      (subst (λ (l : List Loop). Stand F l P r t) (sym none) stand) (ap (λ a. run a r) (sym body_is) ∙ ran)))

  -- a loop
  module _ (n : ℕ) (inner_nest : NestsGo n) (F : Variable → Bool) (P : State → State) (W : Vector → List Write) (l : Loop) (b : Stmt) (ls : List Loop) (is : nest_of n b ≡ Some (ls, body))
      (p_cells : (t : State) (y : Variable) (js : List ℕ) → (P t).cells y js ≡ t.cells y js) (p_settled : (q : State) → SameFixed F q (P outer) → (y : Variable) → (P q).locals y ≡ q.locals y)
      (p_enters : (t : State) (u : Vector) → overwritten t (W u) ≡ at_vector (l ∷ ls) u (P t))
      (free : F l.variable ≡ false) (test_fixed : IsFixedCond (also F l.variable) l.test) (step_fixed : IsFixedStep (also F l.variable) l.variable l.step)
      (steady : IsSteady (also F l.variable) b) where
    abbrev x : Variable
    x = l.variable

    abbrev Round : ℕ → State → State
    Round v t = at_value (P t) x v

    abbrev base : ℕ → State
    base v = at_value (P outer) x v

    abbrev Inside : ℕ → State → State → Type 0
    Inside v r t = Stand (also F x) ls (Round v) r t

    -- a fixed variable is none of this loop's
    fixed_other : (y : Variable) → F y ≡ true → (y == x) ≡ false
    fixed_other y h = apart F x y free h

    fixed_out : (v : ℕ) (q : State) → SameFixed (also F x) q (base v) → SameFixed F q (P outer)
    fixed_out v q h y k = same_unset x y q (P outer) (Holds v) (fixed_other y k) (h y (also_more F x y k))

    inner_at : (v : ℕ) → IsInner (also F x) (Round v) (λ u. W (v ∷ u)) ls b
    inner_at v = record {
      steady = steady;
      cells = p_cells;
      settled = λ q h y. at q h y (y == x) refl;
      enters_by = λ t u. p_enters t (v ∷ u);
    }
      where
        at : (q : State) → SameFixed (also F x) q (base v) → (y : Variable) (c : Bool) → (y == x) ≡ c → cond (y == x) (Holds v) ((P q).locals y) ≡ q.locals y
        at q h y true e =
            ap (λ c. cond c (Holds v) ((P q).locals y)) e ∙ sym (local_same (P outer) x (Holds v)) ∙ sym (h x (also_itself F x)).locals ∙ ap q.locals (sym (eqb-true y x e))
        at q h y false e = ap (λ c. cond c (Holds v) ((P q).locals y)) e ∙ p_settled q (fixed_out v q h) y

    -- a variable of this loop and those inside it
    among_more : (y : Variable) → is_among (variables_of (l ∷ ls)) y ≡ false → ((y == x) ≡ false) × (is_among (variables_of ls) y ≡ false)
    among_more y h = at (x == y) refl h
      where
        at : (c : Bool) → (x == y) ≡ c → (c || is_among (variables_of ls) y) ≡ false → ((y == x) ≡ false) × (is_among (variables_of ls) y ≡ false)
        at true e k = absurd (true≢false k)
        at false e k = (apart_back x y e, k)

    other_loop : (y : Variable) → (y == x) ≡ false → is_among (variables_of ls) y ≡ false → is_among (variables_of (l ∷ ls)) y ≡ false
    other_loop y e h = ap (λ c. c || is_among (variables_of ls) y) (apart_back y x e) ∙ h

    -- behind the loop
    leaves : (v : ℕ) (r t : State) → Inside v r t → Stand F (l ∷ ls) P r t
    leaves v r t stand = record {
      cells = stand.cells;
      locals = λ y h. let parts = among_more y h in stand.locals y parts.1 ∙ ap (λ c. cond c (Holds v) ((P t).locals y)) parts.0;
      fixed = fixed_out v r stand.fixed;
    }

    -- its variable takes the next value
    moves : (v w : ℕ) (r t : State) → Inside v r t → Inside w (with_local r x (Holds w)) t
    moves v w r t stand = record {
      cells = stand.cells;
      locals = λ y h. at y (y == x) refl h;
      fixed = λ y h. same_set x y r (P outer) (Holds w) refl (λ e. same_unset x y r (P outer) (Holds v) e (stand.fixed y h));
    }
      where
        at : (y : Variable) (c : Bool) → (y == x) ≡ c → is_among (variables_of ls) y ≡ false → cond (y == x) (Holds w) (r.locals y) ≡ cond (y == x) (Holds w) ((P t).locals y)
        at y true e h = ap (λ c. cond c (Holds w) (r.locals y)) e ∙ sym (ap (λ c. cond c (Holds w) ((P t).locals y)) e)
        at y false e h =
            ap (λ c. cond c (Holds w) (r.locals y)) e ∙ stand.locals y h ∙ ap (λ c. cond c (Holds v) ((P t).locals y)) e
            ∙ sym (ap (λ c. cond c (Holds w) ((P t).locals y)) e)

    abbrev Done : List Vector → State → List ℕ → State → Type 0
    Done us t text q = Walked body W us t text (Stand F (l ∷ ls) P q)

    -- no turn is left
    ended : (v : ℕ) (r t : State) → Inside v r t → Done [] t [] r
    ended v r t stand = walked_none body W t (Stand F (l ∷ ls) P r) (leaves v r t stand)

    -- one turn and those behind it
    one_turn : (v : ℕ) (first_us later_us : List Vector) (r t : State) (one : Effect) (text : List ℕ) (q : State) → Inside v r t → iterations ls (base v) ≡ Some first_us → run b r ≡ Some one
        → ((t' : State) → Inside v (overwritten r one.writes) t' → Done later_us t' text q) → Done (map (λ u. v ∷ u) first_us ++ later_us) t (one.text ++ text) q
    one_turn v first_us later_us r t one text q stand are ran later =
        let inside = inner_nest (also F x) (Round v) (λ u. W (v ∷ u)) b ls first_us r t one (inner_at v) is are stand ran in
        walked_append body W (map (λ u. v ∷ u) first_us) later_us t one.text text (Stand F (l ∷ ls) P q) inside.effect (walk-map body W v first_us t ∙ inside.ran) inside.text_is
        (later (overwritten t inside.effect.writes) inside.after)

    -- its variable takes the first value
    begun : (r t : State) → Stand F (l ∷ ls) P r t → (v : ℕ) → Inside v (with_local r x (Holds v)) t
    begun r t stand v = record { cells = stand.cells; locals = λ y h. at y (y == x) refl h; fixed = same_at_value F x v r (P outer) stand.fixed }
      where
        at : (y : Variable) (c : Bool) → (y == x) ≡ c → is_among (variables_of ls) y ≡ false → cond (y == x) (Holds v) (r.locals y) ≡ cond (y == x) (Holds v) ((P t).locals y)
        at y true k h = ap (λ c. cond c (Holds v) (r.locals y)) k ∙ sym (ap (λ c. cond c (Holds v) ((P t).locals y)) k)
        at y false k h =
            ap (λ c. cond c (Holds v) (r.locals y)) k ∙ stand.locals y (other_loop y k h) ∙ sym (ap (λ c. cond c (Holds v) ((P t).locals y)) k)

    -- all turns
    all_turns : (name : Name) (us : List Vector) (r t : State) (e : Effect) → IsFixedSource F l.start → iterations (l ∷ ls) (P outer) ≡ Some us → Stand F (l ∷ ls) P r t
        → run (For x name l.start l.test l.step b) r ≡ Some e → Ends F P W (l ∷ ls) us r t e
    all_turns name us r t e start_fixed are stand ran =
        loop_goes (P outer) l ls F test_fixed step_fixed b Inside Done (λ v r t inside. inside.fixed) moves ended one_turn name us r t e start_fixed stand.fixed (begun r t stand) are ran

  module _ (n : ℕ) (inner_nest : NestsGo n) where
    -- by the statement: blocks of one statement are passed
    goes : (s : Stmt) (F : Variable → Bool) (P : State → State) (W : Vector → List Write) (ls : List Loop) (us : List Vector) (r t : State) (e : Effect) → IsInner F P W ls s → nest_of (suc n) s ≡ Some (ls, body)
        → iterations ls (P outer) ≡ Some us → Stand F ls P r t → run s r ≡ Some e → Ends F P W ls us r t e
    goes (For x name start test step b) F P W ls us r t e inner h are stand ran =
        let l : Loop = record { variable = x; start = start; test = test; step = step } in
        let found = inner_nest_is body n l b ls h in
        let there : IsInner F P W (l ∷ found.0) (For x name start test step b) = subst (λ (ks : List Loop). IsInner F P W ks (For x name start test step b)) (sym found.2) inner in
        subst (λ (ks : List Loop). Ends F P W ks us r t e) found.2
        (all_turns n inner_nest F P W l b found.0 found.1 there.cells there.settled there.enters_by there.steady.0 there.steady.2 there.steady.3 there.steady.4 name us r t e there.steady.1
        (ap (λ ks. iterations ks (P outer)) found.2 ∙ are) (subst (λ (ks : List Loop). Stand F ks P r t) (sym found.2) stand) ran)
    goes (Block (stmt a no_items)) F P W ls us r t e inner h are stand ran =
        let p = parts_of r (run a r) (run_items no_items) e ran in
        let last : nothing ≡ p.two = same_Some nothing p.two p.two_is in
        let within : IsInner F P W ls a = record { steady = inner.steady.0; cells = inner.cells; settled = inner.settled; enters_by = inner.enters_by } in
        let went = goes a F P W ls us r t p.one within h are stand p.one_is in
        let whole_is : joined p.one nothing ≡ e = ap (joined p.one) last ∙ p.is in
        subst (Ends F P W ls us r t) (λ i. record { writes = (sym (append-nil p.one.writes) ∙ ap (λ (f : Effect). f.writes) whole_is) i; text = (sym (append-nil p.one.text) ∙ ap (λ (f : Effect). f.text) whole_is) i }) went
    goes _ F P W ls us r t e inner h are stand ran = absurd (none-some (ls, body) h)

  -- of every depth
  nests_go : (n : ℕ) → NestsGo n
  nests_go zero = no_loops
  nests_go (suc n) = λ F P W s ls us r t e inner h are stand ran. goes n (nests_go n) s F P W ls us r t e inner h are stand ran

pub walked : NestsAreWalks
walked n s loops body xs outer us e is keeps are ran =
    let F : Variable → Bool = λ x. visible_behind s x && not (is_among xs x) in
    let went =
    nests_go outer body n F (λ t. t) (entered loops) s loops us outer outer e
    (record { steady = keeps.steady; cells = λ t y js. refl; settled = λ q h y. refl; enters_by = λ t u. entered_is loops u t }) is are
    (record { cells = λ y js. refl; locals = λ y h. refl; fixed = λ y h. record { locals = refl; cells = λ o. refl } }) ran in
    record {
      effect = went.effect;
      ran = walk_is body loops us outer ∙ went.ran;
      text = went.text_is;
      cells = went.after.cells;
      locals = went.after.locals;
    }
