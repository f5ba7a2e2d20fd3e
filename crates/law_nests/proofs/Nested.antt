-- A nest does what its iterations do one after another.
use Rattle.std.specs.Prelude.{ℕ, zero, suc, Bool, true, false, ◌≡◌, ◌==◌, ◌&&◌, ◌||◌, not, List, [], ◌∷◌, ◌++◌, map, Option, Some, None, IsSome, Contains}
use Rattle.std.specs.List.{AllByRecursion as Each}
use Rattle.std.proofs.Common.{refl, sym, ap, ◌∙◌, subst, cond}
use Rattle.std.proofs.lemmas.Bool.{eq-eqb, eqb-true}
use Rattle.std.proofs.lemmas.List.{append_assoc, append-nil}
use Rattle.std.proofs.lemmas.Option.{same_Some, none-some}
use Rattle.std.specs.Cmp.Lexicographic.{same_text}
use Rattle.semantics.specs.Tree.{Name, Variable, Source, Cond, Increment, Stmt, Assign, Update, If, IfElse, For, Block, Print, no_items, mark, local, stmt}
use Rattle.semantics.specs.Meaning.State.{State, Slot, Outside, Empty, Holds, Write, Declared, Assigned, slot_of, renewed, same_indexes, with_local, with_cell, assign_at, is_there, written, overwritten}
use Rattle.semantics.specs.Meaning.Value.{map_option}
use Rattle.semantics.specs.Meaning.Runs.{Effect, nothing, joined, then_from, run, run_items}
use Rattle.semantics.specs.Meaning.Agrees.{also, declared_in, is_among, names_only, names_source, names_cond, names_step, visible_behind}
use Rattle.semantics.specs.Loops.Nest.{Loop, Vector, nest_of, at_value, at_vector, iterations}
use Rattle.semantics.specs.Loops.Access.{Access, Mode, Touches, accesses}
use Rattle.semantics.specs.Loops.Piece.{run_iterations, is_outside}
use Rattle.law_commute.specs.Commuting.{IsOwnWrite, KeepsToItself, InnerLoopsTurn}
use Rattle.law_commute.specs.Steady.{IsFixedSource, IsFixedCond, IsFixedStep, IsSteady}
use Rattle.law_commute.proofs.Lists.{each_left, each_right, each_same, contains_among}
use Rattle.law_commute.proofs.Same.{Point, apart, also_other, also_more}
use Rattle.law_commute.proofs.Values.{first_of, second_of}
use Rattle.law_commute.proofs.Matched.{Matched, overwritten-append}
use Rattle.law_commute.proofs.Framed.{true_not_false}
use Rattle.law_commute.proofs.Iterations.{one_iteration}
use Rattle.law_commute.proofs.Joining.{no_change}
use Rattle.law_nests.specs.Nests.{NestsRunTheirIterations}
use Rattle.law_nests.proofs.Steadied.{SameFixed, same_inner, declared_free}
use Rattle.law_nests.proofs.Onward.{inner_nest_is, loop_goes}

-- steps one after another, each at one of these
abbrev runs_by : {A : Type 0} → (A → State → Option Effect) → List A → State → Option Effect
runs_by f [] s = Some nothing
runs_by f (x ∷ xs) s = then_from s (f x s) (runs_by f xs)

-- they have a run, which prints this and leaves such a state
record Went {A : Type 0} (f : A → State → Option Effect) (xs : List A) (s : State) (text : List ℕ) (P : State → Type 0) : Type 0 where
  effect : Effect
  ran : runs_by f xs s ≡ Some effect
  text_is : effect.text ≡ text
  after : P (overwritten s effect.writes)

went_nothing : {A : Type 0} (f : A → State → Option Effect) (s : State) (P : State → Type 0) → P s → Went f [] s [] P
went_nothing f s P h = record { effect = nothing; ran = refl; text_is = refl; after = h }

went_then : {A : Type 0} (f : A → State → Option Effect) (x : A) (xs : List A) (s : State) (text : List ℕ) (P : State → Type 0) (e : Effect) → f x s ≡ Some e
    → Went f xs (overwritten s e.writes) text P → Went f (x ∷ xs) s (e.text ++ text) P
went_then f x xs s text P e is rest = record {
  effect = joined e rest.effect;
  ran = ap (λ o. then_from s o (runs_by f xs)) is ∙ ap (map_option (joined e)) rest.ran;
  text_is = ap (λ t. e.text ++ t) rest.text_is;
  after = subst P (sym (overwritten-append s e.writes rest.effect.writes)) rest.after;
}

-- what the first of two steps gave, and what the others did from there
pub record Parts (s : State) (first : Option Effect) (next : State → Option Effect) (e : Effect) : Type 0 where
  pub one : Effect
  pub two : Effect
  pub one_is : first ≡ Some one
  pub two_is : next (overwritten s one.writes) ≡ Some two
  pub is : joined one two ≡ e

pub parts_of : (s : State) (first : Option Effect) (next : State → Option Effect) (e : Effect) → then_from s first next ≡ Some e → Parts s first next e
parts_of s None next e h = absurd (none-some e h)
parts_of s (Some a) next e h = at (next (overwritten s a.writes)) refl h
  where
    at : (o : Option Effect) → next (overwritten s a.writes) ≡ o → map_option (joined a) o ≡ Some e → Parts s (Some a) next e
    at None k j = absurd (none-some e j)
    at (Some b) k j = record { one = a; two = b; one_is = refl; two_is = k; is = same_Some (joined a b) e j }

went_append : {A : Type 0} (f : A → State → Option Effect) (xs ys : List A) (s : State) (text : List ℕ) (P : State → Type 0) (e : Effect) → runs_by f xs s ≡ Some e
    → Went f ys (overwritten s e.writes) text P → Went f (xs ++ ys) s (e.text ++ text) P
went_append f [] ys s text P e is rest =
    let same : nothing ≡ e = same_Some nothing e is in
    subst (λ (a : Effect). Went f ys s (a.text ++ text) P) same (subst (λ (a : Effect). Went f ys (overwritten s a.writes) text P) (sym same) rest)
went_append f (x ∷ xs) ys s text P e is rest =
    let p = parts_of s (f x s) (runs_by f xs) e is in
    let behind : overwritten s e.writes ≡ overwritten (overwritten s p.one.writes) p.two.writes =
    sym (ap (λ (a : Effect). overwritten s a.writes) p.is) ∙ overwritten-append s p.one.writes p.two.writes in
    subst (λ z. Went f (x ∷ (xs ++ ys)) s z P) (sym (append_assoc p.one.text p.two.text text) ∙ ap (λ (a : Effect). a.text ++ text) p.is)
    (went_then f x (xs ++ ys) s (p.two.text ++ text) P p.one p.one_is
    (went_append f xs ys (overwritten s p.one.writes) text P p.two p.two_is (subst (λ t. Went f ys t text P) behind rest)))

runs-map : {A B : Type 0} (f : B → State → Option Effect) (g : A → B) (xs : List A) (s : State) → runs_by f (map g xs) s ≡ runs_by (λ x. f (g x)) xs s
runs-map f g [] s = refl
runs-map f g (x ∷ xs) s = λ i. then_from s (f (g x) s) (λ t. runs-map f g xs t i)

module _ (whole : Stmt) (outer : State) where
  abbrev V : Variable → Bool
  V = visible_behind whole

  -- what is declared outside of the nest is as before it, and what it declares is no object
  pub record Like (t : State) : Type 0 where
    pub locals : (y : Variable) → V y ≡ true → t.locals y ≡ outer.locals y
    pub scalars : (y : Variable) → V y ≡ true → t.cells y [] ≡ outer.cells y []
    pub none : (y : Variable) → V y ≡ false → t.cells y [] ≡ None

  -- a state with the variables of the loops round a place at their values
  pub record IsRound (K : Variable → Bool) (P : State → State) : Type 0 where
    pub cells : (t : State) (y : Variable) (js : List ℕ) → (P t).cells y js ≡ t.cells y js
    pub locals : (s t : State) (y : Variable) → K y ≡ true → (V y ≡ true → s.locals y ≡ t.locals y) → (P s).locals y ≡ (P t).locals y
    pub outside : (t : State) (y : Variable) → (P t).locals y ≡ Outside → t.locals y ≡ Outside
    pub wide : (y : Variable) → V y ≡ true → K y ≡ true

  -- the nest runs in one, and beside it the iterations in the other
  pub record Beside (K : Variable → Bool) (P : State → State) (s t : State) : Type 0 where
    pub like : Like t
    pub cells : (y : Variable) (js : List ℕ) → s.cells y js ≡ t.cells y js
    pub locals : (y : Variable) → K y ≡ true → s.locals y ≡ (P t).locals y

  at_round : (K : Variable → Bool) (P : State → State) (x : Variable) (v : ℕ) → IsRound K P → IsRound (also K x) (λ t. at_value (P t) x v)
  at_round K P x v r = record {
    cells = r.cells;
    locals = λ s t y h same. at s t y (y == x) refl h same;
    outside = λ t y h. r.outside t y (before t y (y == x) h);
    wide = λ y h. also_more K x y (r.wide y h);
  }
    where
      at : (s t : State) (y : Variable) (b : Bool) → (y == x) ≡ b → also K x y ≡ true → (V y ≡ true → s.locals y ≡ t.locals y) → cond (y == x) (Holds v) ((P s).locals y) ≡ cond (y == x) (Holds v) ((P t).locals y)
      at s t y true e h same = ap (λ b. cond b (Holds v) ((P s).locals y)) e ∙ sym (ap (λ b. cond b (Holds v) ((P t).locals y)) e)
      at s t y false e h same =
          ap (λ b. cond b (Holds v) ((P s).locals y)) e ∙ r.locals s t y (also_other K x y h e) same ∙ sym (ap (λ b. cond b (Holds v) ((P t).locals y)) e)

      before : (t : State) (y : Variable) (b : Bool) → cond b (Holds v) ((P t).locals y) ≡ Outside → (P t).locals y ≡ Outside
      before t y true h = absurd cc
      before t y false h = h

  module _ (K : Variable → Bool) (P : State → State) (round : IsRound K P) where
    base_scalar : (s t : State) → Like t → ((y : Variable) (js : List ℕ) → s.cells y js ≡ t.cells y js) → Like outer → (y : Variable) → s.cells y [] ≡ (P outer).cells y []
    base_scalar s t like cells there y = at (V y) refl
      where
        at : (b : Bool) → V y ≡ b → s.cells y [] ≡ (P outer).cells y []
        at true h = cells y [] ∙ like.scalars y h ∙ sym (round.cells outer y [])
        at false h = cells y [] ∙ like.none y h ∙ sym (there.none y h) ∙ sym (round.cells outer y [])

    -- what is visible there is the same as from the state before the nest
    same_base : (s t : State) → Like outer → Beside K P s t → SameFixed K s (P outer)
    same_base s t there beside y h = record {
      locals = beside.locals y h ∙ round.locals t outer y h (λ k. beside.like.locals y k);
      cells = λ o. base_scalar s t beside.like beside.cells there y;
    }

    same_round : (t : State) → Like outer → Like t → SameFixed K (P t) (P outer)
    same_round t there like y h = record {
      locals = round.locals t outer y h (λ k. like.locals y k);
      cells = λ o. base_scalar (P t) t like (λ z js. round.cells t z js) there y;
    }

    -- a write to a scalar that is not visible there
    record Quiet (x : Variable) (s s' : State) : Type 0 where
      cells : (y : Variable) (js : List ℕ) → s'.cells y js ≡ s.cells y js
      locals : (y : Variable) → (y == x) ≡ false → s'.locals y ≡ s.locals y

    quiet_local : (x : Variable) (s : State) (k : Slot) → Quiet x s (with_local s x k)
    quiet_local x s k = record { cells = λ y js. refl; locals = λ y h. ap (λ b. cond b k (s.locals y)) h }

    quiet_scalar : (x : Variable) (v : ℕ) (s : State) → s.cells x [] ≡ None → Quiet x s (written s (Assigned x [] v))
    quiet_scalar x v s none = at (s.locals x)
      where
        at : (k : Slot) → Quiet x s (assign_at k s x [] v)
        at Outside = record {
          cells = λ y js. no_change ((y == x) && same_indexes js []) (s.cells y js) v
              (λ hit.
              let array : y ≡ x = eqb-true y x (first_of (y == x) (same_indexes js []) hit) in
              let indexes : js ≡ [] = same_text js [] (sym (second_of (y == x) (same_indexes js []) hit)) in
              (λ i. is_there (s.cells (array i) (indexes i))) ∙ ap is_there none);
          locals = λ y h. refl;
        }
        at Empty = quiet_local x s (Holds v)
        at (Holds n) = quiet_local x s (Holds v)

    unseen : (x : Variable) → K x ≡ false → V x ≡ false
    unseen x h = at (V x) refl
      where
        at : (b : Bool) → V x ≡ b → V x ≡ false
        at true e = absurd (true_not_false (K x) (round.wide x e) h)
        at false e = e

    beside_quiet : (x : Variable) (s s' t t' : State) → K x ≡ false → Beside K P s t → Quiet x s s' → Quiet x t t' → Beside K P s' t'
    beside_quiet x s s' t t' free beside one two = record {
      like = record {
        locals = λ y h. two.locals y (apart V x y (unseen x free) h) ∙ beside.like.locals y h;
        scalars = λ y h. two.cells y [] ∙ beside.like.scalars y h;
        none = λ y h. two.cells y [] ∙ beside.like.none y h;
      };
      cells = λ y js. one.cells y js ∙ beside.cells y js ∙ sym (two.cells y js);
      locals = λ y h.
          one.locals y (apart K x y free h) ∙ beside.locals y h ∙ round.locals t t' y h (λ k. sym (two.locals y (apart K x y free h)));
    }

    no_scalar : (y x i : ℕ) (js : List ℕ) (v : ℕ) (c : Option ℕ) → cond ((y == x) && same_indexes [] (i ∷ js)) (renewed c v) c ≡ c
    no_scalar y x i js v c = at (y == x)
      where
        at : (b : Bool) → cond (b && same_indexes [] (i ∷ js)) (renewed c v) c ≡ c
        at true = refl
        at false = refl

    beside_element : (x i : ℕ) (is : List ℕ) (v : ℕ) (s t : State) → Beside K P s t → Beside K P (with_cell s x (i ∷ is) v) (with_cell t x (i ∷ is) v)
    beside_element x i is v s t beside = record {
      like = record {
        locals = beside.like.locals;
        scalars = λ y h. no_scalar y x i is v (t.cells y []) ∙ beside.like.scalars y h;
        none = λ y h. no_scalar y x i is v (t.cells y []) ∙ beside.like.none y h;
      };
      cells = λ y js. ap (λ c. cond ((y == x) && same_indexes js (i ∷ is)) (renewed c v) c) (beside.cells y js);
      locals = λ y h. beside.locals y h ∙ round.locals t (with_cell t x (i ∷ is) v) y h (λ k. refl);
    }

-- the body, at an iteration
module _ (whole : Stmt) (outer : State) (there : Like whole outer outer) (body : Stmt) (keeps : KeepsToItself body) (P : State → State) (round : IsRound whole outer (visible_behind body) P) where
  abbrev K : Variable → Bool
  K = visible_behind body

  abbrev Own : State → Write → Type 0
  Own p = IsOwnWrite [] body p []

  evolves : (p : State) (ws : List Write) (s t : State) → Each (Own p) ws → ((y : Variable) → K y ≡ true → (P t).locals y ≡ p.locals y) → Beside whole outer K P s t → Beside whole outer K P (overwritten s ws) (overwritten t ws)
  evolves p [] s t own same beside = beside
  evolves p (Declared x v ∷ ws) s t own same beside =
      evolves p ws (with_local s x (slot_of v)) (with_local t x (slot_of v)) own.1
      (λ y h. round.locals (with_local t x (slot_of v)) t y h (λ k. ap (λ b. cond b (slot_of v) (t.locals y)) (apart K x y own.0 h)) ∙ same y h)
      (beside_quiet whole outer K P round x s (with_local s x (slot_of v)) t (with_local t x (slot_of v)) own.0 beside
      (quiet_local whole outer K P round x s (slot_of v)) (quiet_local whole outer K P round x t (slot_of v)))
  evolves p (Assigned x [] v ∷ ws) s t own same beside =
      let none : t.cells x [] ≡ None = beside.like.none x (unseen whole outer K P round x own.0) in
      let one = quiet_scalar whole outer K P round x v s (beside.cells x [] ∙ none) in
      let two = quiet_scalar whole outer K P round x v t none in
      evolves p ws (written s (Assigned x [] v)) (written t (Assigned x [] v)) own.1
      (λ y h. round.locals (written t (Assigned x [] v)) t y h (λ k. two.locals y (apart K x y own.0 h)) ∙ same y h)
      (beside_quiet whole outer K P round x s (written s (Assigned x [] v)) t (written t (Assigned x [] v)) own.0 beside one two)
  evolves p (Assigned x (i ∷ is) v ∷ ws) s t own same beside =
      let inside : (P t).locals x ≡ Outside = same x own.0.0 ∙ own.0.1 in
      let one : written s (Assigned x (i ∷ is) v) ≡ with_cell s x (i ∷ is) v = ap (λ k. assign_at k s x (i ∷ is) v) (beside.locals x own.0.0 ∙ inside) in
      let two : written t (Assigned x (i ∷ is) v) ≡ with_cell t x (i ∷ is) v = ap (λ k. assign_at k t x (i ∷ is) v) (round.outside t x inside) in
      let rest = evolves p ws (with_cell s x (i ∷ is) v) (with_cell t x (i ∷ is) v) own.1
      (λ y h. round.locals (with_cell t x (i ∷ is) v) t y h (λ k. refl) ∙ same y h) (beside_element whole outer K P round x i is v s t beside) in
      subst (λ a. Beside whole outer K P (overwritten a ws) (overwritten (written t (Assigned x (i ∷ is) v)) ws)) (sym one)
      (subst (λ b. Beside whole outer K P (overwritten (with_cell s x (i ∷ is) v) ws) (overwritten b ws)) (sym two) rest)

  pub record BodyWent (s t : State) (e : Effect) : Type 0 where
    pub ran : run body (P t) ≡ Some e
    pub after : Beside whole outer K P (overwritten s e.writes) (overwritten t e.writes)

  -- it does the same in both
  body_same : (s t : State) → Beside whole outer K P s t → ((a : Access) → Contains (accesses [] body) a → IsSome (iterations a.inner (P outer)))
      → Matched (Own (P t)) (Point (λ x i is. (mode : Mode) × Touches [] body (P t) [] (record { array = x; indexes = i ∷ is }) mode) K K (P t)) s (P t) (run body s) (run body (P t))
  body_same s t beside turn =
      let p : State = P t in
      let turns_there : InnerLoopsTurn [] body p [] =
      λ a h. subst (λ o. IsSome o) (sym (same_inner body K p (P outer) keeps.steady (same_round whole outer K P round t there beside.like) a h)) (turn a h) in
      one_iteration [] body p [] keeps turns_there s
      (record {
        locals = beside.locals;
        scalars = λ y h. beside.cells y [] ∙ sym (round.cells t y []);
        elements = λ y i js mode h. beside.cells y (i ∷ js) ∙ sym (round.cells t y (i ∷ js));
      })

  body_went : (s t : State) → Beside whole outer K P s t → ((a : Access) → Contains (accesses [] body) a → IsSome (iterations a.inner (P outer))) → (e : Effect) → run body s ≡ Some e → BodyWent s t e
  body_went s t beside turn e is =
      let m = body_same s t beside turn in
      let left = m.left e is in
      record { ran = sym m.same ∙ is; after = evolves (P t) e.writes s t left.own (λ y h. refl) beside }

  -- as the iteration goes, the nest goes
  pub nest_goes : (s t : State) → Beside whole outer K P s t → ((a : Access) → Contains (accesses [] body) a → IsSome (iterations a.inner (P outer))) → (e : Effect) → run body (P t) ≡ Some e
      → (run body s ≡ Some e) × BodyWent s t e
  nest_goes s t beside turn e is = let same : run body s ≡ Some e = (body_same s t beside turn).same ∙ is in (same, body_went s t beside turn e same)

-- the loops of a nest
module _ (whole : Stmt) (outer : State) (there : Like whole outer outer) (body : Stmt) where
  -- the body's own loops turn at an iteration
  abbrev Turns : List Loop → (State → State) → Vector → Type 0
  Turns ls P u = (a : Access) → Contains (accesses [] body) a → IsSome (iterations a.inner (at_vector ls u (P outer)))

  -- the body at an iteration, begun from a state beside the nest
  abbrev at_iteration : List Loop → (State → State) → Vector → State → Option Effect
  at_iteration ls P u t = run body (at_vector ls u (P t))

  abbrev NestWent : (Variable → Bool) → (State → State) → List Loop → List Vector → State → State → Effect → Type 0
  NestWent K P ls us s t e = Went (at_iteration ls P) us t e.text (Beside whole outer K P (overwritten s e.writes))

  -- what is known of a statement on the way to the body
  record IsInner (K : Variable → Bool) (P : State → State) (s : Stmt) : Type 0 where
    names : names_only K s ≡ true
    steady : IsSteady K s
    seen : (y : Variable) → visible_behind s y ≡ true → K y ≡ true
    round : IsRound whole outer K P

  -- so of all statements with such a nest
  abbrev NestsGo : ℕ → Type 0
  NestsGo n =
      (K : Variable → Bool) (P : State → State) (s : Stmt) (ls : List Loop) (us : List Vector) (r t : State) (e : Effect) → IsInner K P s → nest_of n s ≡ Some (ls, body)
      → iterations ls (P outer) ≡ Some us → Each (Turns ls P) us → Beside whole outer K P r t → run s r ≡ Some e → NestWent K P ls us r t e

  same_bool : (a b : Bool) → (a ≡ true → b ≡ true) → (b ≡ true → a ≡ true) → a ≡ b
  same_bool true b one two = sym (one refl)
  same_bool false true one two = two refl
  same_bool false false one two = refl

  visible_is : (K : Variable → Bool) (P : State → State) (s : Stmt) → IsInner K P s → K ≡ visible_behind s
  visible_is K P s h = λ i y. same_bool (K y) (visible_behind s y) (down y) (h.seen y) i
    where
      down : (y : Variable) → K y ≡ true → visible_behind s y ≡ true
      down y k = at (is_among (declared_in s) y) refl
        where
          at : (b : Bool) → is_among (declared_in s) y ≡ b → not (is_among (declared_in s) y) ≡ true
          at true j = absurd (true_not_false (K y) k (declared_free s K y h.steady j))
          at false j = ap not j

  at_body : (K : Variable → Bool) (P : State → State) (r t : State) (e : Effect) → IsInner K P body → Turns [] P [] → Beside whole outer K P r t → run body r ≡ Some e → NestWent K P [] ([] ∷ []) r t e
  at_body K P r t e inner turn beside ran =
      let same = visible_is K P body inner in
      let keeps : KeepsToItself body = record { names = subst (λ k. names_only k body ≡ true) same inner.names; steady = subst (λ k. IsSteady k body) same inner.steady } in
      let round = subst (λ k. IsRound whole outer k P) same inner.round in
      let went = body_went whole outer there body keeps P round r t (subst (λ k. Beside whole outer k P r t) same beside) turn e ran in
      let after = subst (λ k. Beside whole outer k P (overwritten r e.writes) (overwritten t e.writes)) (sym same) went.after in
      subst (λ z. Went (at_iteration [] P) ([] ∷ []) t z (Beside whole outer K P (overwritten r e.writes))) (append-nil e.text)
      (went_then (at_iteration [] P) [] [] t [] (Beside whole outer K P (overwritten r e.writes)) e went.ran
      (went_nothing (at_iteration [] P) (overwritten t e.writes) (Beside whole outer K P (overwritten r e.writes)) after))

  no_loops : NestsGo zero
  no_loops K P s ls us r t e inner is are turn beside ran =
      let both_are : ([], s) ≡ (ls, body) = same_Some ([], s) (ls, body) is in
      let body_is : s ≡ body = ap (λ (p : List Loop × Stmt). p.1) both_are in
      let none : [] ≡ ls = ap (λ (p : List Loop × Stmt). p.0) both_are in
      let all : ([] ∷ []) ≡ us = same_Some ([] ∷ []) us (ap (λ l. iterations l (P outer)) none ∙ are) in
      let turns_there : Each (Turns [] P) ([] ∷ []) =
      subst (λ (l : List Loop). Each (Turns l P) ([] ∷ [])) (sym none) (subst (λ (vs : List Vector). Each (Turns ls P) vs) (sym all) turn) in
      subst (λ (l : List Loop). NestWent K P l us r t e) none
      (subst (λ (vs : List Vector). NestWent K P [] vs r t e) all
      (at_body K P r t e (subst (IsInner K P) body_is inner) turns_there.0 beside (ap (λ a. run a r) (sym body_is) ∙ ran)))

  -- a loop, found in blocks of one statement
  module _ (n : ℕ) (inner_nest : NestsGo n) (K : Variable → Bool) (P : State → State) (round : IsRound whole outer K P) (l : Loop) (b : Stmt) (ls : List Loop) (is : nest_of n b ≡ Some (ls, body))
      (free : K l.variable ≡ false) (test_fixed : IsFixedCond (also K l.variable) l.test) (step_fixed : IsFixedStep (also K l.variable) l.variable l.step)
      (names : names_only (also K l.variable) b ≡ true) (steady : IsSteady (also K l.variable) b) (seen : (y : Variable) → visible_behind b y ≡ true → also K l.variable y ≡ true) where
    abbrev x : Variable
    x = l.variable

    abbrev Round : ℕ → State → State
    Round v t = at_value (P t) x v

    abbrev Inside : ℕ → State → State → Type 0
    Inside v r t = Beside whole outer (also K x) (Round v) r t

    inner_at : (v : ℕ) → IsInner (also K x) (Round v) b
    inner_at v = record { names = names; steady = steady; seen = seen; round = at_round whole outer K P x v round }

    -- behind the loop
    leaves : (v : ℕ) (r t : State) → Inside v r t → Beside whole outer K P r t
    leaves v r t beside = record {
      like = beside.like;
      cells = beside.cells;
      locals = λ y h. beside.locals y (also_more K x y h) ∙ ap (λ c. cond c (Holds v) ((P t).locals y)) (apart K x y free h);
    }

    -- its variable takes the next value
    moves : (v w : ℕ) (r t : State) → Inside v r t → Inside w (with_local r x (Holds w)) t
    moves v w r t beside = record { like = beside.like; cells = beside.cells; locals = λ y h. at y (y == x) refl h }
      where
        at : (y : Variable) (c : Bool) → (y == x) ≡ c → also K x y ≡ true → cond (y == x) (Holds w) (r.locals y) ≡ cond (y == x) (Holds w) ((P t).locals y)
        at y true e h = ap (λ c. cond c (Holds w) (r.locals y)) e ∙ sym (ap (λ c. cond c (Holds w) ((P t).locals y)) e)
        at y false e h =
            ap (λ c. cond c (Holds w) (r.locals y)) e ∙ beside.locals y h ∙ ap (λ c. cond c (Holds v) ((P t).locals y)) e
            ∙ sym (ap (λ c. cond c (Holds w) ((P t).locals y)) e)

    -- what is fixed is as at the value before the nest
    fixed : (v : ℕ) (r t : State) → Inside v r t → SameFixed (also K x) r (at_value (P outer) x v)
    fixed v r t beside = same_base whole outer (also K x) (Round v) (at_round whole outer K P x v round) r t there beside

    abbrev Ends : List Vector → State → List ℕ → State → Type 0
    Ends us t text q = Each (Turns (l ∷ ls) P) us → Went (at_iteration (l ∷ ls) P) us t text (Beside whole outer K P q)

    -- no turn is left
    ended : (v : ℕ) (r t : State) → Inside v r t → Ends [] t [] r
    ended v r t beside turn = went_nothing (at_iteration (l ∷ ls) P) t (Beside whole outer K P r) (leaves v r t beside)

    -- of several lists each has its turns
    each_map : (f : Vector → Vector) (Q : Vector → Type 0) (us : List Vector) → Each Q (map f us) → Each (λ u. Q (f u)) us
    each_map f Q [] h = tt
    each_map f Q (u ∷ us) h = (h.0, each_map f Q us h.1)

    -- one turn and those behind it
    one_turn : (v : ℕ) (first_us later_us : List Vector) (r t : State) (one : Effect) (text : List ℕ) (q : State) → Inside v r t → iterations ls (at_value (P outer) x v) ≡ Some first_us → run b r ≡ Some one
        → ((t' : State) → Inside v (overwritten r one.writes) t' → Ends later_us t' text q) → Ends (map (λ u. v ∷ u) first_us ++ later_us) t (one.text ++ text) q
    one_turn v first_us later_us r t one text q beside are ran later turn =
        let vectors : List Vector = map (λ u. v ∷ u) first_us in
        let turn_first = each_map (λ u. v ∷ u) (Turns (l ∷ ls) P) first_us (each_left (Turns (l ∷ ls) P) vectors later_us turn) in
        let inside = inner_nest (also K x) (Round v) b ls first_us r t one (inner_at v) is are turn_first beside ran in
        let f = at_iteration (l ∷ ls) P in
        let post = Beside whole outer K P q in
        subst (λ z. Went f (vectors ++ later_us) t (z ++ text) post) inside.text_is
        (went_append f vectors later_us t text post inside.effect (runs-map f (λ u. v ∷ u) first_us t ∙ inside.ran)
        (later (overwritten t inside.effect.writes) inside.after (each_right (Turns (l ∷ ls) P) vectors later_us turn)))

    -- its variable takes the first value
    begun : (r t : State) → Beside whole outer K P r t → (v : ℕ) → Inside v (with_local r x (Holds v)) t
    begun r t beside v = record { like = beside.like; cells = beside.cells; locals = λ y h. at y (y == x) refl h }
      where
        at : (y : Variable) (c : Bool) → (y == x) ≡ c → also K x y ≡ true → cond (y == x) (Holds v) (r.locals y) ≡ cond (y == x) (Holds v) ((P t).locals y)
        at y true k h = ap (λ c. cond c (Holds v) (r.locals y)) k ∙ sym (ap (λ c. cond c (Holds v) ((P t).locals y)) k)
        at y false k h =
            ap (λ c. cond c (Holds v) (r.locals y)) k ∙ beside.locals y (also_other K x y h k) ∙ sym (ap (λ c. cond c (Holds v) ((P t).locals y)) k)

    all_turns : (name : Name) (us : List Vector) (r t : State) (e : Effect) → IsFixedSource K l.start → iterations (l ∷ ls) (P outer) ≡ Some us → Each (Turns (l ∷ ls) P) us → Beside whole outer K P r t
        → run (For x name l.start l.test l.step b) r ≡ Some e → NestWent K P (l ∷ ls) us r t e
    all_turns name us r t e start_fixed are turn beside ran =
        loop_goes (P outer) l ls K test_fixed step_fixed b Inside Ends fixed moves ended one_turn name us r t e start_fixed (same_base whole outer K P round r t there beside) (begun r t beside) are ran turn

  -- a loop from its start
  module _ (n : ℕ) (inner_nest : NestsGo n) (K : Variable → Bool) (P : State → State) (x : Variable) (name : Name) (start : Source) (test : Cond) (step : Increment) (b : Stmt)
      (inner : IsInner K P (For x name start test step b)) (ls : List Loop) (is : nest_of n b ≡ Some (ls, body)) where
    abbrev this : Loop
    this = record { variable = x; start = start; test = test; step = step }

    seen_inside : (y : Variable) → visible_behind b y ≡ true → also K x y ≡ true
    seen_inside y h = at (y == x) refl
      where
        at : (c : Bool) → (y == x) ≡ c → also K x y ≡ true
        at true e = ap (λ c. c || K y) e
        at false e =
            let other : (x == y) ≡ false = not_equal (x == y) refl in
            also_more K x y (inner.seen y (ap (λ c. not (c || is_among (declared_in b) y)) other ∙ h))
          where
            not_equal : (c : Bool) → (x == y) ≡ c → c ≡ false
            not_equal true k = absurd (true_not_false (y == x) (eq-eqb y x (sym (eqb-true x y k))) e)
            not_equal false k = refl

    names_inside : names_only (also K x) b ≡ true
    names_inside = second_of (names_source K start && names_cond (also K x) test && names_step (also K x) step) (names_only (also K x) b) inner.names

    from_start : (us : List Vector) (r t : State) (e : Effect) → iterations (this ∷ ls) (P outer) ≡ Some us → Each (Turns (this ∷ ls) P) us → Beside whole outer K P r t
        → run (For x name start test step b) r ≡ Some e → NestWent K P (this ∷ ls) us r t e
    from_start us r t e are turn beside ran =
        all_turns n inner_nest K P inner.round this b ls is inner.steady.0 inner.steady.2 inner.steady.3 names_inside inner.steady.4 seen_inside name us r t e inner.steady.1 are turn beside ran

  module _ (n : ℕ) (inner_nest : NestsGo n) where
    no_loop : {Q : Type 0} (p : List Loop × Stmt) → None ≡ Some p → Q
    no_loop p h = absurd (none-some p h)

    -- by the statement: blocks of one statement are passed
    goes : (s : Stmt) (K : Variable → Bool) (P : State → State) (ls : List Loop) (us : List Vector) (r t : State) (e : Effect) → IsInner K P s → nest_of (suc n) s ≡ Some (ls, body)
        → iterations ls (P outer) ≡ Some us → Each (Turns ls P) us → Beside whole outer K P r t → run s r ≡ Some e → NestWent K P ls us r t e
    goes (Assign x is a) K P ls us r t e inner h are turn beside ran = no_loop (ls, body) h
    goes (Update x is op a) K P ls us r t e inner h are turn beside ran = no_loop (ls, body) h
    goes (If c a) K P ls us r t e inner h are turn beside ran = no_loop (ls, body) h
    goes (IfElse c a b) K P ls us r t e inner h are turn beside ran = no_loop (ls, body) h
    goes (Print parts) K P ls us r t e inner h are turn beside ran = no_loop (ls, body) h
    goes (For x name start test step b) K P ls us r t e inner h are turn beside ran =
        let l : Loop = record { variable = x; start = start; test = test; step = step } in
        let found = inner_nest_is body n l b ls h in
        subst (λ (ks : List Loop). NestWent K P ks us r t e) found.2
        (from_start n inner_nest K P x name start test step b inner found.0 found.1 us r t e (ap (λ ks. iterations ks (P outer)) found.2 ∙ are)
        (subst (λ (ks : List Loop). Each (Turns ks P) us) (sym found.2) turn) beside ran)
    goes (Block no_items) K P ls us r t e inner h are turn beside ran = no_loop (ls, body) h
    goes (Block (mark line rest)) K P ls us r t e inner h are turn beside ran = no_loop (ls, body) h
    goes (Block (local x name start rest)) K P ls us r t e inner h are turn beside ran = no_loop (ls, body) h
    goes (Block (stmt a (mark line rest))) K P ls us r t e inner h are turn beside ran = no_loop (ls, body) h
    goes (Block (stmt a (local x name start rest))) K P ls us r t e inner h are turn beside ran = no_loop (ls, body) h
    goes (Block (stmt a (stmt c rest))) K P ls us r t e inner h are turn beside ran = no_loop (ls, body) h
    goes (Block (stmt a no_items)) K P ls us r t e inner h are turn beside ran =
        let p = parts_of r (run a r) (run_items no_items) e ran in
        let last : nothing ≡ p.two = same_Some nothing p.two p.two_is in
        let within : IsInner K P a = record {
          names = first_of (names_only K a) true inner.names;
          steady = inner.steady.0;
          seen = λ y k. inner.seen y (ap (λ ds. not (is_among ds y)) (append-nil (declared_in a)) ∙ k);
          round = inner.round;
        } in
        let went = goes a K P ls us r t p.one within h are turn beside p.one_is in
        let whole_is : joined p.one nothing ≡ e = ap (joined p.one) last ∙ p.is in
        subst (NestWent K P ls us r t) (λ i. record { writes = (sym (append-nil p.one.writes) ∙ ap (λ (f : Effect). f.writes) whole_is) i; text = (sym (append-nil p.one.text) ∙ ap (λ (f : Effect). f.text) whole_is) i }) went

  -- of every depth
  nests_go : (n : ℕ) → NestsGo n
  nests_go zero = no_loops
  nests_go (suc n) = λ K P s ls us r t e inner h are turn beside ran. goes n (nests_go n) s K P ls us r t e inner h are turn beside ran

runs_are : (loops : List Loop) (body : Stmt) (us : List Vector) (s : State) → run_iterations loops body us s ≡ runs_by (λ (u : Vector) (t : State). run body (at_vector loops u t)) us s
runs_are loops body [] s = refl
runs_are loops body (u ∷ us) s = λ i. then_from s (run body (at_vector loops u s)) (λ t. runs_are loops body us t i)

pub nests_run : NestsRunTheirIterations
nests_run n s loops body outer us e is keeps locals_alone are turn ran =
    let there : Like s outer outer = record { locals = λ y h. refl; scalars = λ y h. refl; none = locals_alone } in
    let V = visible_behind s in
    let inner : IsInner s outer there body V (λ t. t) s = record {
      names = keeps.names;
      steady = keeps.steady;
      seen = λ y h. h;
      round = record { cells = λ t y js. refl; locals = λ a b y h same. same h; outside = λ t y h. h; wide = λ y h. h };
    } in
    let beside : Beside s outer V (λ t. t) outer outer = record { like = there; cells = λ y js. refl; locals = λ y h. refl } in
    let went = nests_go s outer there body n V (λ t. t) s loops us outer outer e inner is are (each_same (Turns s outer there body loops (λ t. t)) us (λ u h. turn u (contains_among us u h))) beside ran in
    let after = went.after in
    record {
      effect = went.effect;
      run = runs_are loops body us outer ∙ went.ran;
      text = sym went.text_is;
      leave = record {
        cells = after.cells;
        kinds = λ y h. ap is_outside (after.locals y h);
        values = λ y h. after.locals y (first_of (V y) _ h);
      };
    }
