-- The input phase behind the scan phase, without what that writes.
use Rattle.std.specs.Prelude.{ℕ, Bool, true, false, not, ◌≡◌, ◌==◌, ◌&&◌, ◌||◌, ◌⊎◌, List, [], ◌∷◌, ◌++◌, Option, Some, None, IsSome, Contains, is_none}
use Rattle.std.specs.List.{list_all}
use Rattle.std.proofs.Common.{refl, sym, ap, ◌∙◌, subst, cond, inl, inr}
use Rattle.std.proofs.lemmas.Bool.{true≢false, eqb-true, eq-eqb, and_from, or_left, or_right, or_cases, or_parts}
use Rattle.std.proofs.lemmas.List.Folds.{list_any-append}
use Rattle.std.proofs.lemmas.List.Elements.{Contains-append_right}
use Rattle.std.proofs.lemmas.Option.{same_Some, none-some}
use Rattle.semantics.specs.Tree.{Variable, Source, Stmt, Block, Items, no_items, mark, local, stmt}
use Rattle.semantics.specs.Meaning.State.{State, Empty, Holds, Write, Declared, slot_of, with_local, overwritten}
use Rattle.semantics.specs.Meaning.Value.{map_option, source_value}
use Rattle.semantics.specs.Meaning.Runs.{Effect, one_write, joined, then_from, declares, declared, run, run_items}
use Rattle.semantics.specs.Meaning.Definite.{DefinitelyAssigned, definite_items, no_privates}
use Rattle.semantics.specs.Meaning.Agrees.{also, is_among, declared_in, declared_among, names_only, names_items, names_start, visible_behind}
use Rattle.semantics.specs.Loops.Access.{Access, items_accesses}
use Rattle.semantics.specs.Loops.Operator.{ReduceOp}
use Rattle.semantics.specs.Loops.Piece.{is_outside}
use Rattle.law_commute.specs.Steady.{AreSteady}
use Rattle.law_commute.specs.Targets.{KeepsApart, AssignsFirst}
use Rattle.law_commute.proofs.Matched.{overwritten-append}
use Rattle.law_commute.proofs.Values.{first_of, second_of}
use Rattle.law_nests.proofs.Nested.{parts_of}
use Rattle.law_private.proofs.Alike.{Both}
use Rattle.law_private.proofs.Chunks.{not_true}
use Rattle.law_private.proofs.Names.{names_more}
use Rattle.law_private.proofs.Near.{all_inside}
use Rattle.law_private.proofs.Own.{others, DeclaresNone}
use Rattle.law_roles.specs.Updates.{is_plain, reduces, all_reduce}
use Rattle.law_roles.proofs.Seen.{apart_back}
use Rattle.law_scans.specs.Phases.{joined_items, bare, read_among, written_in, written_among, spares}
use Rattle.law_scans.proofs.Phased.{runs_joined, declared_joined, accesses_joined, steady_front}
use Rattle.law_scans.proofs.Spared.{items_spare, spared_cells, spared_local, spared_empty, kept_kinds, there_stays}
use Rattle.law_scans.proofs.Reading.{Meets, items_same}
use Rattle.law_scans.proofs.Determined.{Knows, bare_knows}
use Rattle.law_scans.proofs.Steps.{same_slot}
use Rattle.law_scans.proofs.Inputs.{IsInput}

-- ---- declarations alone

-- the locals of a block itself
abbrev pub tops : Items → List Variable
tops front = declared_among (bare front)

pub tops_declared : (front : Items) (y : Variable) → is_among (tops front) y ≡ true → is_among (declared_among front) y ≡ true
tops_declared no_items y h = h
tops_declared (mark line rest) y h = tops_declared rest y h
tops_declared (local x name start rest) y h = at (or_cases (x == y) (is_among (tops rest) y) h) (tops_declared rest y)
  where
    at : ((x == y) ≡ true) ⊎ (is_among (tops rest) y ≡ true) → (is_among (tops rest) y ≡ true → is_among (declared_among rest) y ≡ true) → ((x == y) || is_among (declared_among rest) y) ≡ true
    at (inl e) go = or_left (x == y) (is_among (declared_among rest) y) e
    at (inr k) go = or_right (x == y) (is_among (declared_among rest) y) (go k)
tops_declared (stmt a rest) y h = list_any-append (λ z. z == y) (declared_in a) (declared_among rest) ∙ or_right (is_among (declared_in a) y) (is_among (declared_among rest) y) (tops_declared rest y h)

pub bare_names : (front back : Items) (V : Variable → Bool) → names_items V (joined_items front back) ≡ true → names_items V (joined_items (bare front) back) ≡ true
bare_names no_items back V h = h
bare_names (mark line rest) back V h = bare_names rest back V h
bare_names (local x name start rest) back V h = bare_names rest back (also V x) (second_of (names_start V start) (names_items (also V x) (joined_items rest back)) h)
bare_names (stmt a rest) back V h = bare_names rest back V (second_of (names_only V a) (names_items V (joined_items rest back)) h)

pub bare_steady : (front back : Items) (F : Variable → Bool) → AreSteady F (joined_items front back) → AreSteady F (joined_items (bare front) back)
bare_steady no_items back F h = h
bare_steady (mark line rest) back F h = bare_steady rest back F h
bare_steady (local x name start rest) back F h = (h.0, tt, bare_steady rest back F h.2)
bare_steady (stmt a rest) back F h = bare_steady rest back F h.1

bare_accesses : (front : Items) → items_accesses [] (bare front) ≡ []
bare_accesses no_items = refl
bare_accesses (mark line rest) = bare_accesses rest
bare_accesses (local x name start rest) = bare_accesses rest
bare_accesses (stmt a rest) = bare_accesses rest

bare_reduces : (front back : Items) (x : Variable) (op : ReduceOp) → is_among (tops front) x ≡ false → all_reduce ((x, op) ∷ []) back ≡ true → all_reduce ((x, op) ∷ []) (joined_items (bare front) back) ≡ true
bare_reduces no_items back x op free h = h
bare_reduces (mark line rest) back x op free h = bare_reduces rest back x op free h
bare_reduces (local y name start rest) back x op free h =
    let parts = or_parts (y == x) (is_among (tops rest) x) free in
    and_from (is_plain ((x, op) ∷ []) y && true) (all_reduce ((x, op) ∷ []) (joined_items (bare rest) back))
    (and_from (is_plain ((x, op) ∷ []) y) true (ap (λ b. is_none (cond b (Some op) None)) (apart_back y x parts.0)) refl) (bare_reduces rest back x op parts.1 h)
bare_reduces (stmt a rest) back x op free h = bare_reduces rest back x op free h

-- what may be named behind it
pub names_back : (front back : Items) (V : Variable → Bool) → names_items V (joined_items front back) ≡ true → names_items (λ y. V y || is_among (tops front) y) back ≡ true
names_back no_items back V h = names_more (Block back) V (λ y. V y || false) (λ y k. or_left (V y) false k) h
names_back (mark line rest) back V h = names_back rest back V h
names_back (local x name start rest) back V h =
    names_more (Block back) (λ y. also V x y || is_among (tops rest) y) (λ y. V y || ((x == y) || is_among (tops rest) y)) (λ y k. turned (x == y) (V y) (is_among (tops rest) y) (flip y) k)
    (names_back rest back (also V x) (second_of (names_start V start) (names_items (also V x) (joined_items rest back)) h))
  where
    flip : (y : Variable) → (y == x) ≡ (x == y)
    flip y = at (y == x) refl
      where
        at : (b : Bool) → (y == x) ≡ b → (y == x) ≡ (x == y)
        at true e = e ∙ sym (eq-eqb x y (sym (eqb-true y x e)))
        at false e = e ∙ sym (apart_back y x e)

    turned : {c : Bool} (b v t : Bool) → c ≡ b → ((c || v) || t) ≡ true → (v || (b || t)) ≡ true
    turned b true t e h = refl
    turned true false t e h = refl
    turned false false t e h = sym (ap (λ d. (d || false) || t) e) ∙ h
names_back (stmt a rest) back V h = names_back rest back V (second_of (names_only V a) (names_items V (joined_items rest back)) h)

-- ---- its run

abbrev pub empties : List Variable → List Write
empties [] = []
empties (z ∷ zs) = Declared z None ∷ empties zs

pub bare_runs : (front : Items) (q : State) → run_items (bare front) q ≡ Some (record { writes = empties (tops front); text = [] })
bare_runs no_items q = refl
bare_runs (mark line rest) q = bare_runs rest q
bare_runs (local x name start rest) q = ap (map_option (joined (one_write (Declared x None)))) (bare_runs rest (with_local q x Empty))
bare_runs (stmt a rest) q = bare_runs rest q

empties_cells : (zs : List Variable) (q : State) (y : Variable) (is : List ℕ) → (overwritten q (empties zs)).cells y is ≡ q.cells y is
empties_cells [] q y is = refl
empties_cells (z ∷ zs) q y is = empties_cells zs (with_local q z Empty) y is

empties_other : (zs : List Variable) (q : State) (y : Variable) → is_among zs y ≡ false → (overwritten q (empties zs)).locals y ≡ q.locals y
empties_other [] q y h = refl
empties_other (z ∷ zs) q y h =
    let parts = or_parts (z == y) (is_among zs y) h in
    empties_other zs (with_local q z Empty) y parts.1 ∙ ap (λ b. cond b Empty (q.locals y)) (apart_back z y parts.0)

stays_empty : (zs : List Variable) (q : State) (y : Variable) → q.locals y ≡ Empty → (overwritten q (empties zs)).locals y ≡ Empty
stays_empty [] q y h = h
stays_empty (z ∷ zs) q y h = stays_empty zs (with_local q z Empty) y (at (y == z))
  where
    at : (b : Bool) → cond b Empty (q.locals y) ≡ Empty
    at true = refl
    at false = h

empties_own : (zs : List Variable) (q : State) (y : Variable) → is_among zs y ≡ true → (overwritten q (empties zs)).locals y ≡ Empty
empties_own [] q y h = absurd (true≢false (sym h))
empties_own (z ∷ zs) q y h = at (or_cases (z == y) (is_among zs y) h) (empties_own zs (with_local q z Empty) y)
  where
    at : ((z == y) ≡ true) ⊎ (is_among zs y ≡ true) → (is_among zs y ≡ true → (overwritten (with_local q z Empty) (empties zs)).locals y ≡ Empty) → (overwritten (with_local q z Empty) (empties zs)).locals y ≡ Empty
    at (inl e) go = stays_empty zs (with_local q z Empty) y (ap (λ b. cond b Empty (q.locals y)) (eq-eqb y z (sym (eqb-true z y e))))
    at (inr k) go = go k

-- a local of the block itself holds nothing behind its front where this writes none of it
tops_empty : (front : Items) (F : Variable → Bool) → AreSteady F front → (q : State) (e : Effect) (y : Variable) → is_among (written_among front) y ≡ false → is_among (tops front) y ≡ true → run_items front q ≡ Some e
    → (overwritten q e.writes).locals y ≡ Empty
tops_empty no_items F steady q e y free top ran = absurd (true≢false (sym top))
tops_empty (mark line rest) F steady q e y free top ran = tops_empty rest F steady q e y free top ran
tops_empty (local x name (Some d) rest) F steady q e y free top ran =
    let parts = or_parts (x == y) (is_among (written_among rest) y) free in
    let p = parts_of q (declared q x (Some d)) (run_items rest) e ran in
    ap (λ (g : Effect). (overwritten q g.writes).locals y) (sym p.is) ∙ ap (λ (t : State). t.locals y) (overwritten-append q p.one.writes p.two.writes)
    ∙ tops_empty rest F steady.2 (overwritten q p.one.writes) p.two y parts.1 (sym (ap (λ b. b || is_among (tops rest) y) parts.0) ∙ top) p.two_is
tops_empty (local x name None rest) F steady q e y free top ran =
    let p = parts_of q (declared q x None) (run_items rest) e ran in
    let first : overwritten q p.one.writes ≡ with_local q x Empty = ap (λ (g : Effect). overwritten q g.writes) (sym (same_Some (one_write (Declared x None)) p.one p.one_is)) in
    ap (λ (g : Effect). (overwritten q g.writes).locals y) (sym p.is) ∙ ap (λ (t : State). t.locals y) (overwritten-append q p.one.writes p.two.writes)
    ∙ at (is_among (tops rest) y) refl first p.two p.two_is (λ k. tops_empty rest F steady.2 (overwritten q p.one.writes) p.two y free k p.two_is)
  where
    at : (b : Bool) → is_among (tops rest) y ≡ b → {s : State} → s ≡ with_local q x Empty → (d : Effect) → run_items rest s ≡ Some d → (is_among (tops rest) y ≡ true → (overwritten s d.writes).locals y ≡ Empty)
        → (overwritten s d.writes).locals y ≡ Empty
    at true k same d is go = go k
    at false k {s} same d is go =
        let mine : (x == y) ≡ true = sym (or_false (x == y)) ∙ sym (ap (λ b. (x == y) || b) k) ∙ top in
        spared_empty y d.writes s (items_spare false true refl y rest F steady.2 free refl s d is)
        (ap (λ (t : State). t.locals y) same ∙ ap (λ b. cond b Empty (q.locals y)) (eq-eqb y x (sym (eqb-true x y mine))))
      where
        or_false : (b : Bool) → (b || false) ≡ b
        or_false true = refl
        or_false false = refl
tops_empty (stmt a rest) F steady q e y free top ran =
    let parts = or_parts (is_among (written_in a) y) (is_among (written_among rest) y) (sym (list_any-append (λ z. z == y) (written_in a) (written_among rest)) ∙ free) in
    let p = parts_of q (run a q) (run_items rest) e ran in
    ap (λ (g : Effect). (overwritten q g.writes).locals y) (sym p.is) ∙ ap (λ (t : State). t.locals y) (overwritten-append q p.one.writes p.two.writes)
    ∙ tops_empty rest F steady.1 (overwritten q p.one.writes) p.two y parts.1 top p.two_is

-- it stands, whatever is written
tops_inside : (front : Items) (F : Variable → Bool) → AreSteady F front → (q : State) (e : Effect) (y : Variable) → is_among (tops front) y ≡ true → run_items front q ≡ Some e → is_outside ((overwritten q e.writes).locals y) ≡ false
tops_inside no_items F steady q e y top ran = absurd (true≢false (sym top))
tops_inside (mark line rest) F steady q e y top ran = tops_inside rest F steady q e y top ran
tops_inside (local x name start rest) F steady q e y top ran =
    let p = parts_of q (declared q x start) (run_items rest) e ran in
    ap (λ (g : Effect). is_outside ((overwritten q g.writes).locals y)) (sym p.is) ∙ ap (λ (t : State). is_outside (t.locals y)) (overwritten-append q p.one.writes p.two.writes)
    ∙ at (or_cases (x == y) (is_among (tops rest) y) top) p.one p.two (stands_after start p.one p.one_is) (λ k. tops_inside rest F steady.2 (overwritten q p.one.writes) p.two y k p.two_is)
  where
    stood : (v : Option ℕ) → is_outside ((with_local q x (slot_of v)).locals x) ≡ false
    stood v = ap (λ b. is_outside (cond b (slot_of v) (q.locals x))) (eq-eqb x x refl) ∙ of v
      where
        of : (v : Option ℕ) → is_outside (slot_of v) ≡ false
        of None = refl
        of (Some n) = refl

    stands_after : (start : Option Source) (d : Effect) → declared q x start ≡ Some d → is_outside ((overwritten q d.writes).locals x) ≡ false
    stands_after None d is = ap (λ (g : Effect). is_outside ((overwritten q g.writes).locals x)) (sym (same_Some (one_write (Declared x None)) d is)) ∙ stood None
    stands_after (Some s) d is = of (source_value q s) is
      where
        of : (o : Option ℕ) → declares x o ≡ Some d → is_outside ((overwritten q d.writes).locals x) ≡ false
        of None h = absurd (none-some d h)
        of (Some n) h = ap (λ (g : Effect). is_outside ((overwritten q g.writes).locals x)) (sym (same_Some (one_write (Declared x (Some n))) d h)) ∙ stood (Some n)

    at : ((x == y) ≡ true) ⊎ (is_among (tops rest) y ≡ true) → (one two : Effect) → is_outside ((overwritten q one.writes).locals x) ≡ false
        → (is_among (tops rest) y ≡ true → is_outside ((overwritten (overwritten q one.writes) two.writes).locals y) ≡ false) → is_outside ((overwritten (overwritten q one.writes) two.writes).locals y) ≡ false
    at (inl k) one two up go = all_inside two.writes (overwritten q one.writes) y (ap (λ z. is_outside ((overwritten q one.writes).locals z)) (sym (eqb-true x y k)) ∙ up)
    at (inr k) one two up go = go k
tops_inside (stmt a rest) F steady q e y top ran =
    let p = parts_of q (run a q) (run_items rest) e ran in
    ap (λ (g : Effect). is_outside ((overwritten q g.writes).locals y)) (sym p.is) ∙ ap (λ (t : State). is_outside (t.locals y)) (overwritten-append q p.one.writes p.two.writes)
    ∙ tops_inside rest F steady.1 (overwritten q p.one.writes) p.two y top p.two_is

-- what a part does not write the other may read
pub spared_reads : (x : Variable) (front back : Items) → is_among (written_among front) x ≡ false → spares x front back ≡ true → (y : Variable) → is_among (read_among back) y ≡ true → is_among (written_among front) y ≡ false
spared_reads x front back only_read apart y r = at (is_among (written_among front) y) refl
  where
    R : Variable → Bool
    R = is_among (read_among back)

    of : (xs : List Variable) → list_all (λ z. (z == x) || not (is_among (read_among back) z)) xs ≡ true → is_among xs y ≡ true → ((y == x) || not (R y)) ≡ true
    of [] h k = absurd (true≢false (sym k))
    of (z ∷ zs) h k = one (or_cases (z == y) (is_among zs y) k) (of zs (second_of ((z == x) || not (R z)) (list_all (λ w. (w == x) || not (is_among (read_among back) w)) zs) h))
      where
        one : ((z == y) ≡ true) ⊎ (is_among zs y ≡ true) → (is_among zs y ≡ true → ((y == x) || not (R y)) ≡ true) → ((y == x) || not (R y)) ≡ true
        one (inl e) go = ap (λ w. (w == x) || not (R w)) (sym (eqb-true z y e)) ∙ first_of ((z == x) || not (R z)) (list_all (λ w. (w == x) || not (is_among (read_among back) w)) zs) h
        one (inr j) go = go j

    at : (b : Bool) → is_among (written_among front) y ≡ b → is_among (written_among front) y ≡ false
    at false e = e
    at true e = absurd (end (or_cases (y == x) (not (R y)) (of (written_among front) apart e)))
      where
        end : ((y == x) ≡ true) ⊎ (not (R y) ≡ true) → ⊥
        end (inl k) = true≢false (sym e ∙ ap (is_among (written_among front)) (eqb-true y x k) ∙ only_read)
        end (inr k) = true≢false (sym r ∙ not_true (R y) k)

-- ---- behind a part that writes nothing that is read

not_top : (front : Items) (y : Variable) → is_among (declared_among front) y ≡ false → is_among (tops front) y ≡ false
not_top front y h = at (is_among (tops front) y) refl
  where
    at : (b : Bool) → is_among (tops front) y ≡ b → is_among (tops front) y ≡ false
    at true e = absurd (true≢false (sym (tops_declared front y e) ∙ h))
    at false e = e

module _ (R V F : Variable → Bool) (front : Items) (steady : AreSteady F front) (free : (y : Variable) → R y ≡ true → is_among (written_among front) y ≡ false)
    (none : (y : Variable) → V y ≡ true → is_among (declared_among front) y ≡ false) where
  -- a state behind it, and one behind its declarations alone
  pub met_bare : (s t : State) (e : Effect) → Meets R V s t → run_items front s ≡ Some e → Meets R (λ y. V y || is_among (tops front) y) (overwritten s e.writes) (overwritten t (empties (tops front)))
  met_bare s t e m ran = record {
    kinds = λ y h. kind y (or_cases (V y) (is_among (tops front) y) h);
    there = λ y is. there_stays e.writes s y is ∙ m.there y is ∙ sym (there_stays (empties (tops front)) t y is);
    slots = λ y h r. slot y r (or_cases (V y) (is_among (tops front) y) h);
    cells = λ y is r. spared_cells y false e.writes s is (items_spare false true refl y front F steady (free y r) refl s e ran) ∙ m.cells y is r ∙ sym (empties_cells (tops front) t y is);
  }
    where
      kind : (y : Variable) → (V y ≡ true) ⊎ (is_among (tops front) y ≡ true) → is_outside ((overwritten s e.writes).locals y) ≡ is_outside ((overwritten t (empties (tops front))).locals y)
      kind y (inl v) =
          kept_kinds y e.writes s (items_spare true false refl y front F steady refl (none y v) s e ran) ∙ m.kinds y v ∙ sym (ap is_outside (empties_other (tops front) t y (not_top front y (none y v))))
      kind y (inr o) = tops_inside front F steady s e y o ran ∙ sym (ap is_outside (empties_own (tops front) t y o))

      slot : (y : Variable) → R y ≡ true → (V y ≡ true) ⊎ (is_among (tops front) y ≡ true) → (overwritten s e.writes).locals y ≡ (overwritten t (empties (tops front))).locals y
      slot y r (inl v) =
          spared_local y e.writes s (items_spare true true refl y front F steady (free y r) (none y v) s e ran) ∙ m.slots y v r ∙ sym (empties_other (tops front) t y (not_top front y (none y v)))
      slot y r (inr o) = tops_empty front F steady s e y (free y r) o ran ∙ sym (empties_own (tops front) t y o)

-- ---- the part

module _ (x : Variable) (op : ReduceOp) (ps : List Variable) (front back : Items) (keeps : KeepsApart (x ∷ ps) (Block (joined_items front back))) (none : DeclaresNone (x ∷ ps) (Block (joined_items front back)))
    (first : AssignsFirst ps (Block (joined_items front back))) (only_read : is_among (written_among front) x ≡ false) (apart : spares x front back ≡ true) where
  abbrev body : Stmt
  body = Block (joined_items front back)

  abbrev input : Stmt
  input = Block (joined_items (bare front) back)

  abbrev V : Variable → Bool
  V = visible_behind body

  abbrev F : Variable → Bool
  F y = visible_behind body y && not (is_among (x ∷ ps) y)

  abbrev R : Variable → Bool
  R = is_among (read_among back)

  front_steady : AreSteady F front
  front_steady = steady_front front back F keeps.steady

  mine : V x ≡ true
  mine = none x (or_left (x == x) (is_among ps x) (eq-eqb x x refl))

  declared_parts : (y : Variable) → V y ≡ true → (is_among (declared_among front) y ≡ false) × (is_among (declared_among back) y ≡ false)
  declared_parts y h =
      or_parts (is_among (declared_among front) y) (is_among (declared_among back) y)
      (sym (list_any-append (λ z. z == y) (declared_among front) (declared_among back)) ∙ ap (λ ds. is_among ds y) (sym (declared_joined front back)) ∙ not_true (is_among (declared_among (joined_items front back)) y) h)

  -- the scan phase writes nothing that is read
  free : (y : Variable) → R y ≡ true → is_among (written_among front) y ≡ false
  free = spared_reads x front back only_read apart

  -- ---- both runs

  met_states : (q : State) (e : Effect) → run_items front q ≡ Some e → Meets R (λ y. V y || is_among (tops front) y) (overwritten q e.writes) (overwritten q (empties (tops front)))
  met_states q e ran = met_bare R V F front front_steady free (λ y v. (declared_parts y v).0) q q e (record { kinds = λ y v. refl; there = λ y is. refl; slots = λ y v r. refl; cells = λ y is r. refl }) ran

  runs : (q : State) (v : ℕ) (e : Effect) → q.locals x ≡ Holds v → run body q ≡ Some e
      → (f : Effect) × (run input q ≡ Some f) × ((overwritten q f.writes).locals x ≡ (overwritten q e.writes).locals x)
  runs q v e h is =
      let b : Effect = record { writes = empties (tops front); text = [] } in
      let p = parts_of q (run_items front q) (run_items back) e (sym (runs_joined front back q) ∙ is) in
      let q1 : State = overwritten q p.one.writes in
      let q2 : State = overwritten q (empties (tops front)) in
      let W : Variable → Bool = λ y. V y || is_among (tops front) y in
      let both : Both (Meets R W) q1 q2 (run_items back q1) (run_items back q2) = items_same R back W (names_back front back V keeps.names) (λ y k. k) q1 q2 (met_states q p.one p.one_is) in
      let two : run_items back q2 ≡ Some p.two = sym both.same ∙ p.two_is in
      let one : q1.locals x ≡ q.locals x = spared_local x p.one.writes q (items_spare true true refl x front F front_steady only_read (declared_parts x mine).0 q p.one p.one_is) in
      let other : q2.locals x ≡ q.locals x = empties_other (tops front) q x (not_top front x (declared_parts x mine).0) in (
        joined b p.two,
        runs_joined (bare front) back q ∙ ap (λ o. then_from q o (run_items back)) (bare_runs front q) ∙ ap (map_option (joined b)) two,
        ap (λ (t : State). t.locals x) (overwritten-append q (empties (tops front)) p.two.writes) ∙ same_slot x p.two.writes q2 q1 (other ∙ sym one)
            ∙ sym (ap (λ (t : State). t.locals x) (overwritten-append q p.one.writes p.two.writes)) ∙ ap (λ (g : Effect). (overwritten q g.writes).locals x) p.is,
      )

  pub back_input : reduces ((x, op) ∷ []) (Block back) ≡ true → IsInput x op ps body input
  back_input updates = record {
    declared = λ y h. declared y (or_cases (is_among (tops front) y) (is_among (declared_among back) y) (sym (list_any-append (λ z. z == y) (tops front) (declared_among back)) ∙ ap (λ ds. is_among ds y) (sym (declared_joined (bare front) back)) ∙ h));
    names = bare_names front back V keeps.names;
    steady = bare_steady front back F keeps.steady;
    first = there (definite_items no_privates [] (joined_items front back) (others ps)) (definite_items no_privates [] (joined_items (bare front) back) (others ps)) (bare_knows R front back (λ y k. k) free (others ps) (others ps) (λ y r k. k)) first;
    accesses = λ a h.
        subst (λ (found : List Access). Contains found a) (sym (accesses_joined front back))
        (Contains-append_right (items_accesses [] front) (items_accesses [] back) a
        (subst (λ (found : List Access). Contains found a) (accesses_joined (bare front) back ∙ ap (λ found. found ++ items_accesses [] back) (bare_accesses front)) h));
    updates = bare_reduces front back x op (not_top front x (declared_parts x mine).0) updates;
    runs = runs;
  }
    where
      declared : (y : Variable) → (is_among (tops front) y ≡ true) ⊎ (is_among (declared_among back) y ≡ true) → is_among (declared_among (joined_items front back)) y ≡ true
      declared y k = ap (λ ds. is_among ds y) (declared_joined front back) ∙ list_any-append (λ z. z == y) (declared_among front) (declared_among back) ∙ of k
        where
          of : (is_among (tops front) y ≡ true) ⊎ (is_among (declared_among back) y ≡ true) → (is_among (declared_among front) y || is_among (declared_among back) y) ≡ true
          of (inl t) = or_left (is_among (declared_among front) y) (is_among (declared_among back) y) (tops_declared front y t)
          of (inr t) = or_right (is_among (declared_among front) y) (is_among (declared_among back) y) t

      there : (o p : Option DefinitelyAssigned) → Knows R o p → IsSome o → IsSome p
      there None p k h = absurd (true≢false (sym h))
      there (Some a) None k h = absurd k
      there (Some a) (Some b) k h = refl
