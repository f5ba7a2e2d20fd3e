-- Iterations, each begun with its loops' variables alone, in other orders.
use Rattle.std.specs.Prelude.{ℕ, Bool, true, ◌≡◌, List, [], ◌∷◌, ◌++◌, Option, Some, Contains}
use Rattle.std.specs.List.{AllByRecursion as Each}
use Rattle.std.proofs.Common.{refl, sym, ap, ◌∙◌, subst, inl, inr}
use Rattle.semantics.specs.Tree.{Variable, Stmt}
use Rattle.semantics.specs.Meaning.State.{State, Holds, overwritten}
use Rattle.semantics.specs.Meaning.Runs.{Effect}
use Rattle.semantics.specs.Meaning.Agrees.{visible_behind}
use Rattle.semantics.specs.Loops.Nest.{Loop, Vector, at_value, at_vector}
use Rattle.semantics.specs.Loops.Access.{Access, Mode, Writes, Element, Touches, Conflict, accesses}
use Rattle.semantics.specs.Loops.Piece.{run_iteration}
use Rattle.law_commute.specs.Commuting.{IsOwnWrite, KeepsToItself, InnerLoopsTurn}
use Rattle.law_commute.proofs.Same.{SameVariable, same_set, Point}
use Rattle.law_commute.proofs.Lists.{each_contained}
use Rattle.law_commute.proofs.Matched.{Matched}
use Rattle.law_commute.proofs.Framed.{Spot, Fixed, stmt_law}
use Rattle.law_commute.proofs.Iterations.{cells_at, outside_at}
use Rattle.law_commute.proofs.Changes.{acted, hit, hit_touches, Changed, changed_all}
use Rattle.law_waves.proofs.Turned.{untouched, commute}
use Rattle.law_orders.proofs.Going.{Goes, more, Like, Followed, follow}
use Rattle.law_orders.proofs.Mixed.{Pairs, pairs_cut, pairs_before, Mixed, mixed_each, passed}

same_at : (ls : List Loop) (w : Vector) (s t : State) (y : Variable) → SameVariable y s t → SameVariable y (at_vector ls w s) (at_vector ls w t)
same_at [] w s t y h = h
same_at (l ∷ ls) [] s t y h = h
same_at (l ∷ ls) (v ∷ vs) s t y h = same_at ls vs (at_value s l.variable v) (at_value t l.variable v) y (same_set l.variable y s t (Holds v) refl (λ e. h))

-- turns of a loop, each with its iteration and with what it runs there
module _ {A : Type 0} (vector : A → Vector) (own : A → Stmt) (loops : List Loop) where
  abbrev pub one_turn : A → State → Option Effect
  one_turn t s = run_iteration loops (own t) (vector t) s

  -- each keeps to itself, and all see the same variables round them
  module _ (o : State) (K : Variable → Bool) (keeps : (t : A) → KeepsToItself (own t)) (sees : (t : A) (y : Variable) → visible_behind (own t) y ≡ K y) where
    abbrev pub TouchesAt : A → Mode → Variable → ℕ → List ℕ → Type 0
    TouchesAt t mode y j js = Touches loops (own t) o (vector t) (record { array = y; indexes = j ∷ js }) mode

    -- what the first writes the second does not touch
    abbrev pub Clear : A → A → Type 0
    Clear t u = (y : Variable) (j : ℕ) (js : List ℕ) (mode : Mode) → TouchesAt t Writes y j js → TouchesAt u mode y j js → ⊥

    -- none of the two touches what the other writes
    abbrev pub Both : A → A → Type 0
    Both t u = Clear t u × Clear u t

    abbrev pub Good : A → Type 0
    Good t = InnerLoopsTurn loops (own t) o (vector t)

    -- where all have the accesses of one body
    module _ (body : Stmt) (same_accesses : (t : A) → accesses [] (own t) ≡ accesses [] body) where
      there_back : (t : A) (a : Access) → Contains (accesses [] (own t)) a → Contains (accesses [] body) a
      there_back t a h = subst (λ (found : List Access). Contains found a) (same_accesses t) h

      pub good_of : (t : A) → InnerLoopsTurn loops body o (vector t) → Good t
      good_of t turn access there = turn access (there_back t access there)

      touch_of : (t : A) (element : Element) (mode : Mode) → Touches loops (own t) o (vector t) element mode → Touches loops body o (vector t) element mode
      touch_of t element mode r = record { access = r.access; there = there_back t r.access r.there; reaches = r.reaches; mode_is = r.mode_is }

      pub clear_of : (t u : A) → (vector t ≡ vector u → ⊥) → (Conflict loops body o (vector t) (vector u) → ⊥) → Both t u
      clear_of t u differ none = (
        λ y j js mode r q.
            let element : Element = record { array = y; indexes = j ∷ js } in
            none (record { differ = differ; element = element; first = Writes; second = mode; one_writes = inl refl; by_first = touch_of t element Writes r; by_second = touch_of u element mode q }),
        λ y j js mode r q.
            let element : Element = record { array = y; indexes = j ∷ js } in
            none (record { differ = differ; element = element; first = mode; second = Writes; one_writes = inr refl; by_first = touch_of t element mode q; by_second = touch_of u element Writes r }),
      )

    -- all but elements is as before the loop
    pub record Steady (a : State) : Type 0 where
      pub locals : (y : Variable) → K y ≡ true → a.locals y ≡ o.locals y
      pub scalars : (y : Variable) → K y ≡ true → a.cells y [] ≡ o.cells y []

    -- such states with the same elements
    pub record Same (a b : State) : Type 0 where
      pub first : Steady a
      pub second : Steady b
      pub elements : (y : Variable) (j : ℕ) (js : List ℕ) → a.cells y (j ∷ js) ≡ b.cells y (j ∷ js)

    pub same_itself : (a : State) → Steady a → Same a a
    same_itself a h = record { first = h; second = h; elements = λ y j js. refl }

    same_then : (a b c : State) → Same a b → Same b c → Same a c
    same_then a b c p q = record { first = p.first; second = q.second; elements = λ y j js. p.elements y j js ∙ q.elements y j js }

    -- ---- one turn

    module _ (t : A) (good : Good t) where
      abbrev place : State
      place = at_vector loops (vector t) o

      abbrev seen : Variable → Bool
      seen = visible_behind (own t)

      abbrev Here : State → State → Type 0
      Here = Point (λ y j js. (mode : Mode) × TouchesAt t mode y j js) seen seen place

      matched : (a b : State) → Steady a → Steady b → ((y : Variable) (j : ℕ) (js : List ℕ) (mode : Mode) → TouchesAt t mode y j js → a.cells y (j ∷ js) ≡ b.cells y (j ∷ js))
          → Matched (IsOwnWrite loops (own t) o (vector t)) Here (at_vector loops (vector t) a) (at_vector loops (vector t) b) (one_turn t a) (one_turn t b)
      matched a b one two same =
          let u = vector t in
          let spot : Spot loops (own t) o u good [] place = record { vector = []; path = tt; is = refl } in
          let fixed : Fixed loops (own t) o u good seen place = record { wide = λ y h. h; arrays = λ y h out. (h, outside_at loops u o y out) } in
          let point : Here (at_vector loops u a) (at_vector loops u b) = record {
            one = λ y h. same_at loops u a o y (record { locals = one.locals y (sym (sees t y) ∙ h); cells = λ out. one.scalars y (sym (sees t y) ∙ h) });
            two = λ y h. same_at loops u b o y (record { locals = two.locals y (sym (sees t y) ∙ h); cells = λ out. two.scalars y (sym (sees t y) ∙ h) });
            both = λ y h.
                let k = sym (sees t y) ∙ h in
                same_at loops u a b y (record { locals = one.locals y k ∙ sym (two.locals y k); cells = λ out. one.scalars y k ∙ sym (two.scalars y k) });
            elements = λ y j js m. cells_at loops u a y (j ∷ js) ∙ same y j js m.0 m.1 ∙ sym (cells_at loops u b y (j ∷ js));
          } in
          stmt_law loops (own t) o u good (own t) [] seen seen place (at_vector loops u a) (at_vector loops u b) spot fixed point (keeps t).names (keeps t).steady (each_contained (accesses [] (own t)))

      -- it does the same where what it touches is the same
      pub runs_same : (a b : State) → Steady a → Steady b → ((y : Variable) (j : ℕ) (js : List ℕ) (mode : Mode) → TouchesAt t mode y j js → a.cells y (j ∷ js) ≡ b.cells y (j ∷ js)) → one_turn t a ≡ one_turn t b
      runs_same a b one two same = (matched a b one two same).same

      -- and changes elements as its writes say, which go to elements that it touches
      pub record Stepped (a : State) (e : Effect) : Type 0 where
        pub steady : Steady (overwritten a e.writes)
        pub elements : (y : Variable) (j : ℕ) (js : List ℕ) → (overwritten a e.writes).cells y (j ∷ js) ≡ acted y (j ∷ js) e.writes (a.cells y (j ∷ js))
        pub hits : (y : Variable) (j : ℕ) (js : List ℕ) → hit y (j ∷ js) e.writes ≡ true → TouchesAt t Writes y j js

      pub stepped : (a : State) (e : Effect) → Steady a → one_turn t a ≡ Some e → Stepped a e
      stepped a e st is =
          let own_writes = ((matched a a st st (λ y j js mode m. refl)).left e is).own in
          let change : Changed loops (own t) o (vector t) e.writes a (overwritten a e.writes) =
          changed_all loops (own t) o (vector t) e.writes a own_writes
          (record { locals = λ y h. st.locals y (sym (sees t y) ∙ h); scalars = λ y h. st.scalars y (sym (sees t y) ∙ h) }) in
          record {
            steady = record { locals = λ y h. change.alike.locals y (sees t y ∙ h); scalars = λ y h. change.alike.scalars y (sees t y ∙ h) };
            elements = change.elements;
            hits = λ y j js h. hit_touches loops (own t) o (vector t) y j js e.writes own_writes h;
          }

    -- the same from states that are the same
    again : (t : A) → Good t → (a b : State) → Same a b → (e : Effect) → one_turn t a ≡ Some e → Like one_turn one_turn Same t b (overwritten a e.writes)
    again t good a b same e is =
        let ran : one_turn t b ≡ Some e = sym (runs_same t good a b same.first same.second (λ y j js mode m. same.elements y j js)) ∙ is in
        let one = stepped t good a e same.first is in
        let two = stepped t good b e same.second ran in
        record {
          effect = e;
          ran = ran;
          after = record { first = one.steady; second = two.steady; elements = λ y j js. one.elements y j js ∙ ap (acted y (j ∷ js) e.writes) (same.elements y j js) ∙ sym (two.elements y j js) };
        }

    -- ---- some turns

    -- these lead to the same
    abbrev pub Ended : List A → State → State → Type 0
    Ended = Followed one_turn one_turn Same

    along : {ts : List A} {a c : State} → Each Good ts → (b : State) → Same a b → Goes one_turn ts a c → Ended ts b c
    along good b same goes = follow one_turn one_turn Same Good again good b same goes

    -- wherever the first lead, the second lead to the same
    abbrev pub Turns : List A → List A → Type 0
    Turns ts us = (a c : State) → Steady a → Goes one_turn ts a c → Ended us a c

    turns_itself : (ts : List A) → Each Good ts → Turns ts ts
    turns_itself ts good a c st goes = along good a (same_itself a st) goes

    turns_then : (ts us vs : List A) → Turns ts us → Turns us vs → Turns ts vs
    turns_then ts us vs one two a c st goes =
        let p = one a c st goes in
        let q = two a p.state st p.goes in
        record { state = q.state; goes = q.goes; after = same_then c p.state q.state p.after q.after }

    turns_cons : (t : A) (ts us : List A) → Good t → Turns ts us → Turns (t ∷ ts) (t ∷ us)
    turns_cons t ts us good rest a c st (more e is goes) =
        let q = rest (overwritten a e.writes) c (stepped t good a e st is).steady goes in
        record { state = q.state; goes = more e is q.goes; after = q.after }

    -- two neighbours of which none touches what the other writes
    module _ (t u : A) (good_t : Good t) (good_u : Good u) (clear : Clear t u) (clear_back : Clear u t) where
      swapped : (back : List A) → Each Good back → Turns (t ∷ (u ∷ back)) (u ∷ (t ∷ back))
      swapped back good a c st (more d d_is (more e e_is goes)) =
          let a1 = overwritten a d.writes in
          let s1 = stepped t good_t a d st d_is in
          let s2 = stepped u good_u a1 e s1.steady e_is in
          let first : one_turn u a ≡ Some e =
          runs_same u good_u a a1 st s1.steady (λ y j js mode m. sym (s1.elements y j js ∙ untouched TouchesAt t u d clear s1.hits y j js mode m (a.cells y (j ∷ js)))) ∙ e_is in
          let b1 = overwritten a e.writes in
          let t1 = stepped u good_u a e st first in
          let second : one_turn t b1 ≡ Some d =
          runs_same t good_t b1 a t1.steady st (λ y j js mode m. t1.elements y j js ∙ untouched TouchesAt u t e clear_back t1.hits y j js mode m (a.cells y (j ∷ js))) ∙ d_is in
          let t2 = stepped t good_t b1 d t1.steady second in
          let same : Same (overwritten a1 e.writes) (overwritten b1 d.writes) = record {
            first = s2.steady;
            second = t2.steady;
            elements = λ y j js.
                s2.elements y j js ∙ ap (acted y (j ∷ js) e.writes) (s1.elements y j js) ∙ commute TouchesAt t u d e clear_back s1.hits t1.hits y j js (a.cells y (j ∷ js))
                ∙ ap (acted y (j ∷ js) d.writes) (sym (t1.elements y j js)) ∙ sym (t2.elements y j js);
          } in
          let rest = along good (overwritten b1 d.writes) same goes in
          record { state = rest.state; goes = more e first (more d second rest.goes); after = rest.after }

    -- one behind some others
    moved : (t : A) (lows highs : List A) → Good t → Each Good (lows ++ highs) → Each (Both t) lows → Turns (t ∷ (lows ++ highs)) (lows ++ (t ∷ highs))
    moved t [] highs good_t good clear = turns_itself (t ∷ highs) (good_t, good)
    moved t (l ∷ lows) highs good_t good clear =
        turns_then (t ∷ (l ∷ (lows ++ highs))) (l ∷ (t ∷ (lows ++ highs))) (l ∷ (lows ++ (t ∷ highs)))
        (swapped t l good_t good.0 clear.0.0 clear.0.1 (lows ++ highs) good.1)
        (turns_cons l (t ∷ (lows ++ highs)) (lows ++ (t ∷ highs)) good.0 (moved t lows highs good_t good.1 clear.1))

    -- two that may stand in the one order, and in the other, let each other pass: then each may be moved to its place
    pub turned : (N : A → A → Type 0) (ts us : List A) → Each Good ts → Mixed ts us → Pairs N ts → Pairs N us → Pairs (λ t u. N t u → N u t → Both t u) ts → Turns ts us
    turned N [] us good m one two may = subst (λ (vs : List A). Turns [] vs) (sym m) (turns_itself [] good)
    turned N (t ∷ ts) us good m one two may =
        let lows = m.0 in
        let highs = m.1 in
        let there = subst (Pairs N) m.2 two in
        let rest = turned N ts (lows ++ highs) good.1 m.3 one.1 (pairs_cut N t lows highs there) may.1 in
        subst (λ (vs : List A). Turns (t ∷ ts) vs) (sym m.2)
        (turns_then (t ∷ ts) (t ∷ (lows ++ highs)) (lows ++ (t ∷ highs)) (turns_cons t ts (lows ++ highs) good.0 rest)
        (moved t lows highs good.0 (mixed_each Good ts (lows ++ highs) m.3 good.1) (passed N Both t ts lows highs m.3 one.0 (pairs_before N t lows highs there) may.0)))
