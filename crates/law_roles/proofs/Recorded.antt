-- What a walk assigns, by what each of its iterations assigns alone.
use Rattle.std.specs.Prelude.{ℕ, zero, Bool, true, false, not, ◌≡◌, ◌==◌, ◌||◌, List, [], ◌∷◌, ◌++◌, length, Option, Some, None}
use Rattle.std.specs.List.{AllByRecursion as Each}
use Rattle.std.proofs.Common.{refl, sym, ap, ◌∙◌, subst, cond, arith}
use Rattle.std.proofs.lemmas.Bool.{eq-eqb, or_left, or_right, or_parts}
use Rattle.std.proofs.lemmas.List.{append-nil}
use Rattle.std.proofs.lemmas.Option.{same_Some}
use Rattle.semantics.specs.Tree.{Variable, Stmt, no_items, stmt}
use Rattle.semantics.specs.Meaning.State.{State, Empty, Holds, Write, Declared, Assigned, with_local, overwritten}
use Rattle.semantics.specs.Meaning.Value.{map_option}
use Rattle.semantics.specs.Meaning.Runs.{Effect, nothing, one_write, joined, then_from, run, run_items}
use Rattle.semantics.specs.Meaning.Agrees.{is_among, names_only, visible_behind}
use Rattle.semantics.specs.Loops.Nest.{Loop, Vector, at_value, at_vector}
use Rattle.semantics.specs.Loops.Access.{Mode, Writes, Touches}
use Rattle.semantics.specs.Loops.Piece.{is_outside}
use Rattle.law_commute.specs.Commuting.{IsOwnWrite, KeepsToItself, InnerLoopsTurn, LooksAlike}
use Rattle.law_commute.proofs.Same.{Point}
use Rattle.law_commute.proofs.Matched.{Matched, overwritten-append}
use Rattle.law_commute.proofs.Iterations.{cells_at, one_iteration}
use Rattle.law_commute.proofs.Changes.{acted, hit, not_hit, hit_touches, Changed, changed_all}
use Rattle.law_commute.proofs.Values.{second_of}
use Rattle.law_nests.specs.Walks.{entered, enters, walk}
use Rattle.law_nests.proofs.Nested.{parts_of}
use Rattle.law_private.proofs.Own.{declaring, own_body, innermost, fixed_is, KnownInside}
use Rattle.law_private.proofs.Near.{Near, near_empty, near_all, all_inside, same_body}
use Rattle.law_private.proofs.Chunks.{not_true}
use Rattle.law_roles.proofs.Seen.{apart_back}
use Rattle.law_roles.specs.Following.{variables_of}

-- ---- assignments alone

abbrev pub assignments : List Write → List Write
assignments [] = []
assignments (Declared x v ∷ ws) = assignments ws
assignments (Assigned x is n ∷ ws) = Assigned x is n ∷ assignments ws

pub assignments-append : (ws vs : List Write) → assignments (ws ++ vs) ≡ assignments ws ++ assignments vs
assignments-append [] vs = refl
assignments-append (Declared x v ∷ ws) vs = assignments-append ws vs
assignments-append (Assigned x is n ∷ ws) vs = ap (λ z. Assigned x is n ∷ z) (assignments-append ws vs)

entered_none : (ls : List Loop) (u : Vector) → assignments (entered ls u) ≡ []
entered_none [] u = refl
entered_none (l ∷ ls) [] = refl
entered_none (l ∷ ls) (v ∷ vs) = entered_none ls vs

pub entered_is : (ls : List Loop) (u : Vector) (s : State) → overwritten s (entered ls u) ≡ at_vector ls u s
entered_is [] u s = refl
entered_is (l ∷ ls) [] s = refl
entered_is (l ∷ ls) (v ∷ vs) s = entered_is ls vs (at_value s l.variable v)

-- all of the loops' variables are set, so that the others alone are to be the same
pub same_entered : (ls : List Loop) (u : Vector) (s t : State) (y : Variable) → length u ≡ length ls → (is_among (variables_of ls) y ≡ false → s.locals y ≡ t.locals y) → (at_vector ls u s).locals y ≡ (at_vector ls u t).locals y
same_entered [] u s t y long same = same refl
same_entered (l ∷ ls) [] s t y long same = absurd (omega (arith, long))
same_entered (l ∷ ls) (v ∷ vs) s t y long same =
    same_entered ls vs (at_value s l.variable v) (at_value t l.variable v) y (omega (arith, long)) (λ h. at (y == l.variable) refl h)
  where
    at : (c : Bool) → (y == l.variable) ≡ c → is_among (variables_of ls) y ≡ false → cond (y == l.variable) (Holds v) (s.locals y) ≡ cond (y == l.variable) (Holds v) (t.locals y)
    at true e h = ap (λ c. cond c (Holds v) (s.locals y)) e ∙ sym (ap (λ c. cond c (Holds v) (t.locals y)) e)
    at false e h =
        ap (λ c. cond c (Holds v) (s.locals y)) e ∙ same (ap (λ c. c || is_among (variables_of ls) y) (apart_back y l.variable e) ∙ h) ∙ sym (ap (λ c. cond c (Holds v) (t.locals y)) e)

pub kept_entered : (ls : List Loop) (u : Vector) (s : State) (y : Variable) → is_among (variables_of ls) y ≡ false → (at_vector ls u s).locals y ≡ s.locals y
kept_entered [] u s y h = refl
kept_entered (l ∷ ls) [] s y h = refl
kept_entered (l ∷ ls) (v ∷ vs) s y h =
    let parts = or_parts (l.variable == y) (is_among (variables_of ls) y) h in
    kept_entered ls vs (at_value s l.variable v) y parts.1 ∙ ap (λ c. cond c (Holds v) (s.locals y)) (apart_back l.variable y parts.0)

-- ---- a body, and one that declares its private scalars itself

module _ (vars : List Variable) (body : Stmt) (named : names_only (visible_behind body) body ≡ true) (known : KnownInside vars body) where
  abbrev pub own : Stmt
  own = own_body vars body

  abbrev pub declareds : List Variable → List Write
  declareds [] = []
  declareds (z ∷ zs) = Declared z None ∷ declareds zs

  abbrev pub behind : List Variable → Effect → Effect
  behind zs e = record { writes = declareds zs ++ (e.writes ++ []); text = e.text ++ [] }

  near_declareds : (zs : List Variable) (b c : State) → ((y : Variable) → is_among zs y ≡ true → is_among vars y ≡ true) → Near vars b c → Near vars b (overwritten c (declareds zs))
  near_declareds [] b c own n = n
  near_declareds (z ∷ zs) b c own n =
      near_declareds zs b (with_local c z Empty) (λ y h. own y (or_right (z == y) (is_among zs y) h)) (near_empty vars z b c (own z (or_left (z == z) (is_among zs z) (eq-eqb z z refl))) n)

  own_runs : (zs : List Variable) (b c : State) → ((y : Variable) → is_among zs y ≡ true → is_among vars y ≡ true) → Near vars b c → run_items (declaring zs (stmt body no_items)) c ≡ map_option (behind zs) (run body b)
  own_runs [] b c own n = ap (λ o. then_from c o (run_items no_items)) (sym (same_body vars body (visible_behind body) named known b c n)) ∙ at (run body b)
    where
      at : (o : Option Effect) → then_from c o (run_items no_items) ≡ map_option (behind []) o
      at None = refl
      at (Some e) = refl
  own_runs (z ∷ zs) b c own n =
      ap (map_option (joined (one_write (Declared z None))))
      (own_runs zs b (with_local c z Empty) (λ y h. own y (or_right (z == y) (is_among zs y) h)) (near_empty vars z b c (own z (or_left (z == z) (is_among zs z) (eq-eqb z z refl))) n))
      ∙ at (run body b)
    where
      at : (o : Option Effect) → map_option (joined (one_write (Declared z None))) (map_option (behind zs) o) ≡ map_option (behind (z ∷ zs)) o
      at None = refl
      at (Some e) = refl

  near_self : (q : State) → ((y : Variable) → is_among vars y ≡ true → is_outside (q.locals y) ≡ false) → Near vars q q
  near_self q h = record { agrees = record { cells = λ x is. refl; kinds = λ x k. refl; values = λ x k. refl }; inside = h }

  declareds_none : (zs : List Variable) → assignments (declareds zs) ≡ []
  declareds_none [] = refl
  declareds_none (z ∷ zs) = declareds_none zs

  behind_assigns : (e : Effect) → assignments (behind vars e).writes ≡ assignments e.writes
  behind_assigns e =
      assignments-append (declareds vars) (e.writes ++ []) ∙ ap (λ z. z ++ assignments (e.writes ++ [])) (declareds_none vars) ∙ ap assignments (append-nil e.writes)

  -- what is visible to the body with these as its own is none of them
  pub own_visible : (y : Variable) → visible_behind own y ≡ true → is_among vars y ≡ false
  own_visible y h =
      not_true (is_among vars y) (second_of (visible_behind body y) (not (is_among vars y)) (ap (λ (V : Variable → Bool). V y) (fixed_is vars body zero body own [] innermost) ∙ h))

  -- ---- iterations from states that look alike

  module _ (loops : List Loop) (o : State) (keeps : KeepsToItself own) where
    abbrev pub place : Vector → State
    place u = at_vector loops u o

    abbrev pub TouchesAt : Vector → Mode → Variable → ℕ → List ℕ → Type 0
    TouchesAt u mode y j js = Touches [] own (place u) [] (record { array = y; indexes = j ∷ js }) mode

    -- what the first writes the second does not touch
    abbrev pub Clear : Vector → Vector → Type 0
    Clear u v = (y : Variable) (j : ℕ) (js : List ℕ) (mode : Mode) → TouchesAt u Writes y j js → TouchesAt v mode y j js → ⊥

    abbrev pub AllClear : List Vector → Type 0
    AllClear [] = Unit {0}
    AllClear (u ∷ us) = Each (Clear u) us × AllClear us

    abbrev pub Good : Vector → Type 0
    Good u = (length u ≡ length loops) × InnerLoopsTurn [] own (place u) []

    -- what an iteration assigns alone
    abbrev pub assigned_by : Option Effect → List Write
    assigned_by None = []
    assigned_by (Some e) = assignments e.writes

    abbrev pub recorded : Vector → List Write
    recorded u = assigned_by (run own (place u))

    abbrev pub all_recorded : List Vector → List Write
    all_recorded [] = []
    all_recorded (u ∷ us) = recorded u ++ all_recorded us

    -- what these touch is as before the loop
    abbrev pub Untouched : State → Vector → Type 0
    Untouched a u = (y : Variable) (j : ℕ) (js : List ℕ) (mode : Mode) → TouchesAt u mode y j js → a.cells y (j ∷ js) ≡ o.cells y (j ∷ js)

    pub record Ready (us : List Vector) (a : State) : Type 0 where
      pub locals : (y : Variable) → visible_behind own y ≡ true → is_among (variables_of loops) y ≡ false → a.locals y ≡ o.locals y
      pub scalars : (y : Variable) → visible_behind own y ≡ true → a.cells y [] ≡ o.cells y []
      pub elements : Each (Untouched a) us
      pub inside : (y : Variable) → is_among vars y ≡ true → is_outside (a.locals y) ≡ false

    pub record Stepped (u : Vector) (us : List Vector) (a : State) (e : Effect) : Type 0 where
      pub is : recorded u ≡ assignments e.writes
      pub own_is : run own (place u) ≡ Some (behind vars e)
      pub ready : Ready us (overwritten (at_vector loops u a) e.writes)

    entered_inside : (ls : List Loop) (u : Vector) (s : State) (y : Variable) → is_outside (s.locals y) ≡ false → is_outside ((at_vector ls u s).locals y) ≡ false
    entered_inside ls u s y h = ap (λ (q : State). is_outside (q.locals y)) (sym (entered_is ls u s)) ∙ all_inside (entered ls u) s y h

    pub steps : (u : Vector) (us : List Vector) (a : State) (e : Effect) → Good u → Ready (u ∷ us) a → Each (Clear u) us → run body (at_vector loops u a) ≡ Some e → Stepped u us a e
    steps u us a e good ready clear ran =
        let left = matched.left (behind vars e) own_ran in
        let change : Changed [] own (place u) [] (behind vars e).writes q (overwritten q (behind vars e).writes) =
        changed_all [] own (place u) [] (behind vars e).writes q left.own (record { locals = alike.locals; scalars = alike.scalars }) in
        let near : Near vars (overwritten q e.writes) (overwritten q (behind vars e).writes) =
        subst (λ z. Near vars (overwritten q e.writes) z)
        (sym (overwritten-append q (declareds vars) (e.writes ++ []) ∙ ap (overwritten (overwritten q (declareds vars))) (append-nil e.writes)))
        (near_all vars e.writes q (overwritten q (declareds vars)) (near_declareds vars q q (λ y h. h) (near_self q inside))) in
        record {
          is = ap assigned_by (sym matched.same ∙ own_ran) ∙ behind_assigns e;
          own_is = sym matched.same ∙ own_ran;
          ready = record {
            locals = λ y h none.
                near.agrees.values y (ap not (own_visible y h)) ∙ change.alike.locals y h ∙ kept_entered loops u o y none;
            scalars = λ y h. near.agrees.cells y [] ∙ change.alike.scalars y h ∙ cells_at loops u o y [];
            elements = others us ready.elements.1 clear
                (λ y j js. near.agrees.cells y (j ∷ js) ∙ change.elements y j js)
                (λ y j js h. hit_touches [] own (place u) [] y j js (behind vars e).writes left.own h);
            inside = λ y h. all_inside e.writes q y (inside y h);
          };
        }
      where
        q : State
        q = at_vector loops u a

        inside : (y : Variable) → is_among vars y ≡ true → is_outside (q.locals y) ≡ false
        inside y h = entered_inside loops u a y (ready.inside y h)

        alike : LooksAlike [] own (place u) [] q
        alike = record {
          locals = λ y h. same_entered loops u a o y good.0 (λ none. ready.locals y h none);
          scalars = λ y h. cells_at loops u a y [] ∙ ready.scalars y h ∙ sym (cells_at loops u o y []);
          elements = λ y j js mode t. cells_at loops u a y (j ∷ js) ∙ ready.elements.0 y j js mode t ∙ sym (cells_at loops u o y (j ∷ js));
        }

        matched : Matched (IsOwnWrite [] own (place u) []) (Point (λ x i is. (mode : Mode) × Touches [] own (place u) [] (record { array = x; indexes = i ∷ is }) mode) (visible_behind own) (visible_behind own) (place u)) q (place u) (run own q) (run own (place u))
        matched = one_iteration [] own (place u) [] keeps good.1 q alike

        own_ran : run own q ≡ Some (behind vars e)
        own_ran = own_runs vars q q (λ y h. h) (near_self q inside) ∙ ap (map_option (behind vars)) ran

        others : (vs : List Vector) → Each (Untouched a) vs → Each (Clear u) vs
            → ((y : Variable) (j : ℕ) (js : List ℕ) → (overwritten q e.writes).cells y (j ∷ js) ≡ acted y (j ∷ js) (behind vars e).writes (q.cells y (j ∷ js)))
            → ((y : Variable) (j : ℕ) (js : List ℕ) → hit y (j ∷ js) (behind vars e).writes ≡ true → TouchesAt u Writes y j js) → Each (Untouched (overwritten q e.writes)) vs
        others [] h k change touch = tt
        others (v ∷ vs) h k change touch = (
          λ y j js mode t.
              change y j js ∙ still y j js mode t (hit y (j ∷ js) (behind vars e).writes) refl ∙ cells_at loops u a y (j ∷ js) ∙ h.0 y j js mode t,
          others vs h.1 k.1 change touch,
        )
          where
            still : (y : Variable) (j : ℕ) (js : List ℕ) (mode : Mode) → TouchesAt v mode y j js → (b : Bool) → hit y (j ∷ js) (behind vars e).writes ≡ b
                → acted y (j ∷ js) (behind vars e).writes (q.cells y (j ∷ js)) ≡ q.cells y (j ∷ js)
            still y j js mode t true x = absurd (k.0 y j js mode (touch y j js x) t)
            still y j js mode t false x = not_hit y (j ∷ js) (behind vars e).writes (q.cells y (j ∷ js)) x

    -- a walk assigns what its iterations assign alone
    pub walk_recorded : (us : List Vector) (a : State) (f : Effect) → Each Good us → AllClear us → Ready us a → walk loops body us a ≡ Some f → assignments f.writes ≡ all_recorded us
    walk_recorded [] a f good clear ready ran = sym (ap (λ (g : Effect). assignments g.writes) (same_Some nothing f ran))
    walk_recorded (u ∷ us) a f good clear ready ran =
        let q : State = overwritten a (entered loops u) in
        let p = parts_of a (Some (enters loops u)) (λ q. then_from q (run body q) (walk loops body us)) f ran in
        let first : enters loops u ≡ p.one = same_Some (enters loops u) p.one p.one_is in
        let two_is : then_from q (run body q) (walk loops body us) ≡ Some p.two = ap (λ (g : Effect). then_from (overwritten a g.writes) (run body (overwritten a g.writes)) (walk loops body us)) first ∙ p.two_is in
        let r = parts_of q (run body q) (walk loops body us) p.two two_is in
        let whole : joined (enters loops u) (joined r.one r.two) ≡ f = ap (joined (enters loops u)) r.is ∙ ap (λ (g : Effect). joined g p.two) first ∙ p.is in
        let stepped = steps u us a r.one good.0 ready clear.0 (ap (run body) (sym (entered_is loops u a)) ∙ r.one_is) in
        let rest = walk_recorded us (overwritten q r.one.writes) r.two good.1 clear.1 (subst (λ z. Ready us (overwritten z r.one.writes)) (sym (entered_is loops u a)) stepped.ready) r.two_is in
        sym (ap (λ (g : Effect). assignments g.writes) whole)
        ∙ assignments-append (entered loops u) (r.one.writes ++ r.two.writes) ∙ ap (λ z. z ++ assignments (r.one.writes ++ r.two.writes)) (entered_none loops u)
        ∙ assignments-append r.one.writes r.two.writes ∙ (λ i. sym stepped.is i ++ rest i)
