-- One iteration of a body that keeps to itself, from states that are the same for it.
use Rattle.std.specs.Prelude.{ℕ, Bool, true, false, ◌≡◌, List, [], ◌∷◌, length, Some, None}
use Rattle.std.proofs.Common.{refl, sym, ap, ◌∙◌}
use Rattle.semantics.specs.Tree.{Variable, Stmt}
use Rattle.semantics.specs.Meaning.State.{State, Write, overwritten}
use Rattle.semantics.specs.Meaning.Runs.{Effect, run}
use Rattle.semantics.specs.Meaning.Agrees.{is_among, visible_behind}
use Rattle.semantics.specs.Loops.Nest.{Loop, Vector, at_vector}
use Rattle.semantics.specs.Loops.Access.{Mode, Writes, Touches, accesses}
use Rattle.law_commute.specs.Commuting.{IsOwnWrite, KeepsToItself, InnerLoopsTurn}
use Rattle.law_commute.proofs.Same.{SameVariable, Point}
use Rattle.law_commute.proofs.Lists.{each_contained}
use Rattle.law_commute.proofs.Matched.{Matched}
use Rattle.law_commute.proofs.Framed.{Spot, Fixed, stmt_law}
use Rattle.law_commute.proofs.Iterations.{cells_at}
use Rattle.law_commute.proofs.Changes.{acted, hit, hit_touches, Changed, changed_all}
use Rattle.law_roles.specs.Following.{variables_of}
use Rattle.law_roles.proofs.Shared.{none_stays}
use Rattle.law_roles.proofs.Recorded.{same_entered, kept_entered}

-- the same variable in both, by a third
through_third : (y : Variable) (a b m : State) → SameVariable y a m → SameVariable y b m → SameVariable y a b
through_third y a b m p q = record { locals = p.locals ∙ sym q.locals; cells = λ out. p.cells out ∙ sym (q.cells (q.locals ∙ sym p.locals ∙ out)) }

module _ (loops : List Loop) (own : Stmt) (o : State) (keeps : KeepsToItself own) where
  abbrev pub K : Variable → Bool
  K = visible_behind own

  abbrev pub place : Vector → State
  place u = at_vector loops u o

  -- an iteration touches an element
  abbrev pub TouchesAt : Vector → Mode → Variable → ℕ → List ℕ → Type 0
  TouchesAt u mode y j js = Touches [] own (place u) [] (record { array = y; indexes = j ∷ js }) mode

  -- what the first writes the second does not touch
  abbrev pub Clear : Vector → Vector → Type 0
  Clear u v = (y : Variable) (j : ℕ) (js : List ℕ) (mode : Mode) → TouchesAt u Writes y j js → TouchesAt v mode y j js → ⊥

  abbrev pub Good : Vector → Type 0
  Good u = (length u ≡ length loops) × InnerLoopsTurn [] own (place u) []

  -- all but elements and the variables of loops is as before the nest
  pub record Steady (a : State) : Type 0 where
    pub locals : (y : Variable) → K y ≡ true → is_among (variables_of loops) y ≡ false → a.locals y ≡ o.locals y
    pub scalars : (y : Variable) → K y ≡ true → a.cells y [] ≡ o.cells y []
    pub none : (y : Variable) → K y ≡ false → a.cells y [] ≡ None

  pub same_scalar : (a b : State) → Steady a → Steady b → (y : Variable) → a.cells y [] ≡ b.cells y []
  same_scalar a b p q y = at (K y) refl
    where
      at : (c : Bool) → K y ≡ c → a.cells y [] ≡ b.cells y []
      at true h = p.scalars y h ∙ sym (q.scalars y h)
      at false h = p.none y h ∙ sym (q.none y h)

  -- such states with the same objects
  pub record Same (a b : State) : Type 0 where
    pub first : Steady a
    pub second : Steady b
    pub cells : (y : Variable) (js : List ℕ) → a.cells y js ≡ b.cells y js

  pub same_itself : (a : State) → Steady a → Same a a
  same_itself a h = record { first = h; second = h; cells = λ y js. refl }

  pub same_then : (a b c : State) → Same a b → Same b c → Same a c
  same_then a b c p q = record { first = p.first; second = q.second; cells = λ y js. p.cells y js ∙ q.cells y js }

  pub same_back : (a b : State) → Same a b → Same b a
  same_back a b p = record { first = p.second; second = p.first; cells = λ y js. sym (p.cells y js) }

  pub same_of : (a b : State) → Steady a → Steady b → ((y : Variable) (j : ℕ) (js : List ℕ) → a.cells y (j ∷ js) ≡ b.cells y (j ∷ js)) → Same a b
  same_of a b p q h = record { first = p; second = q; cells = λ y js. at y js }
    where
      at : (y : Variable) (js : List ℕ) → a.cells y js ≡ b.cells y js
      at y [] = same_scalar a b p q y
      at y (j ∷ js) = h y j js

  module _ (u : Vector) (good : Good u) where
    abbrev Here : State → State → Type 0
    Here = Point (λ x i is. (mode : Mode) × TouchesAt u mode x i is) K K (place u)

    abbrev Own : Write → Type 0
    Own = IsOwnWrite [] own (place u) []

    abbrev pub Set : State → State
    Set a = at_vector loops u a

    fixed_at : (a : State) → Steady a → (y : Variable) → K y ≡ true → SameVariable y (Set a) (place u)
    fixed_at a st y h = record {
      locals = same_entered loops u a o y good.0 (λ none. st.locals y h none);
      cells = λ out. cells_at loops u a y [] ∙ st.scalars y h ∙ sym (cells_at loops u o y []);
    }

    matched : (a b : State) → Steady a → Steady b → ((y : Variable) (j : ℕ) (js : List ℕ) (mode : Mode) → TouchesAt u mode y j js → a.cells y (j ∷ js) ≡ b.cells y (j ∷ js))
        → Matched Own Here (Set a) (Set b) (run own (Set a)) (run own (Set b))
    matched a b one two same =
        let spot : Spot [] own (place u) [] good.1 [] (place u) = record { vector = []; path = tt; is = refl } in
        let fixed : Fixed [] own (place u) [] good.1 K (place u) = record { wide = λ y h. h; arrays = λ y h out. (h, out) } in
        let point : Here (Set a) (Set b) = record {
          one = fixed_at a one;
          two = fixed_at b two;
          both = λ y h. through_third y (Set a) (Set b) (place u) (fixed_at a one y h) (fixed_at b two y h);
          elements = λ y i is t. cells_at loops u a y (i ∷ is) ∙ same y i is t.0 t.1 ∙ sym (cells_at loops u b y (i ∷ is));
        } in
        stmt_law [] own (place u) [] good.1 own [] K K (place u) (Set a) (Set b) spot fixed point keeps.names keeps.steady (each_contained (accesses [] own))

    -- it does the same where what it touches is the same
    pub runs_same : (a b : State) → Steady a → Steady b → ((y : Variable) (j : ℕ) (js : List ℕ) (mode : Mode) → TouchesAt u mode y j js → a.cells y (j ∷ js) ≡ b.cells y (j ∷ js)) → run own (Set a) ≡ run own (Set b)
    runs_same a b one two same = (matched a b one two same).same

    -- and changes elements as its writes say, which go to elements that it touches
    pub record Stepped (a : State) (e : Effect) : Type 0 where
      pub steady : Steady (overwritten (Set a) e.writes)
      pub cells : (y : Variable) (j : ℕ) (js : List ℕ) → (overwritten (Set a) e.writes).cells y (j ∷ js) ≡ acted y (j ∷ js) e.writes (a.cells y (j ∷ js))
      pub hits : (y : Variable) (j : ℕ) (js : List ℕ) → hit y (j ∷ js) e.writes ≡ true → TouchesAt u Writes y j js

    pub stepped : (a : State) (e : Effect) → Steady a → run own (Set a) ≡ Some e → Stepped a e
    stepped a e st is =
        let left = (matched a a st st (λ y j js mode t. refl)).left e is in
        let change : Changed [] own (place u) [] e.writes (Set a) (overwritten (Set a) e.writes) =
        changed_all [] own (place u) [] e.writes (Set a) left.own (record { locals = λ y h. (fixed_at a st y h).locals; scalars = λ y h. cells_at loops u a y [] ∙ st.scalars y h ∙ sym (cells_at loops u o y []) }) in
        record {
          steady = record {
            locals = λ y h free. change.alike.locals y h ∙ kept_entered loops u o y free;
            scalars = λ y h. change.alike.scalars y h ∙ cells_at loops u o y [];
            none = λ y h. none_stays y [] e.writes (Set a) (cells_at loops u a y [] ∙ st.none y h);
          };
          cells = λ y j js. change.elements y j js ∙ ap (acted y (j ∷ js) e.writes) (cells_at loops u a y (j ∷ js));
          hits = λ y j js h. hit_touches [] own (place u) [] y j js e.writes left.own h;
        }
