-- What a body's accesses touch, in the words of the definitions.
use Rattle.std.specs.Prelude.{ℕ, ◌≡◌, ◌≢◌, ◌<◌, ◌^◌, ℤ, pos, ◌≤ℤ◌, ◌<ℤ◌, List, [], ◌∷◌, ◌++◌, length, Contains, Option, Some, slice_get}
use Rattle.std.proofs.Common.{refl, sym, ap, ◌∙◌, subst, arith}
use Rattle.std.proofs.lemmas.Int.{ints}
use Rattle.std.proofs.lemmas.Option.{slice_get_within, get_or_from_slice_get}
use Rattle.semantics.specs.Tree.{Variable, Exprs, no_exprs, more_exprs, Stmt, Declaration}
use Rattle.semantics.specs.Meaning.State.{State}
use Rattle.semantics.specs.Meaning.Value.{both, values}
use Rattle.semantics.specs.Loops.Nest.{Loop, Vector, iterations, at_vector}
use Rattle.semantics.specs.Loops.Access.{Touches, accesses}
use Rattle.semantics.specs.Loops.Access as meant
use Rattle.affine.specs.declared.interval.Side.{Side}
use Rattle.affine.specs.Affine.{Affine, value}
use Rattle.affine.specs.Box.{IsInside}
use Rattle.affine_expr.specs.Forms.{form_of}
use Rattle.nest_loop.specs.declared.head.Canonical.{Canonical}
use Rattle.nest_loop.proofs.FormValues.{form_number}
use Rattle.pairtest_counter.specs.Levels.{Nesting, values_at}
use Rattle.nest.specs.Nests.{lengths_of}
use Rattle.nest.specs.Perfect.{AreRectangular}
use Rattle.nest_space.specs.declared.bounds.Value.{Value}
use Rattle.nest_space.specs.Space.{vectors}
use Rattle.nest_space.specs.Nests.{given, AreRunsOf}
use Rattle.nest_space.proofs.Nesting.{nest_law}
use Rattle.deptest_witness.specs.Touching.{FirstTurns, held, AreIndexes, NestAt, IsEntered, TouchesAt}
use Rattle.pairtest_access.specs.Sites.{Site}
use Rattle.pairtest_access.specs.Found.{AreEach, IsTouched}
use Rattle.pairtest_access.specs.declared.told.Touched.{Touched}
use Rattle.deptest_verdict.specs.Shown.{no_loops}
use Rattle.deptest_verdict.specs.Refused.{touch_of, serial_loops, nest_loops}
use Rattle.law_turns.specs.Turns.{AreEntered}
use Rattle.law_turns.proofs.Laws.{iterations_are_there, iterations_are_turns, iterations_differ}
use Rattle.law_independence.proofs.Entered.{entered_loops, inner_are, serial_are, nest_are, first_are}
use Rattle.law_independence.specs.ConflictLaws.{TouchesFirst}
use Rattle.law_independence.specs.Inside.{HaveShort}
use Rattle.law_independence.proofs.Backward.{inside_at, first_back, indexes_back}
use Rattle.law_independence.proofs.LyingApart.{lengths_short}
use Rattle.law_independence.proofs.Values.{IsAt, vector_at, IsFirstAt, first_there}
use Rattle.law_independence.proofs.Rectangular.{heads_of}
use Rattle.law_independence.proofs.Links.{Link}
use Rattle.law_independence.proofs.Outer.{there_is, pos_same, contains_at, Begins, begins_there}

-- ---- subscripts

not_below : (z : ℤ) (i : ℕ) → z ≡ pos i → pos 0 ≤ℤ z
not_below z i e = omega (arith, ints)

not_above : (z : ℤ) (i : ℕ) → z ≡ pos i → i < 2 ^ 64 → z <ℤ pos (2 ^ 64)
not_above z i e lt = omega (arith, ints)

-- the values of subscripts are those of their forms
pub indexes_there : (box : List Side) (there : List Value) (s : State) → IsAt box there s → (es : Exprs) (fs : List Affine) (is : List ℕ) → AreEach (λ e f. form_of box e ≡ Some f) es fs
    → AreIndexes fs (given there) is → values s es ≡ Some is
indexes_there box there s at no_exprs [] [] each are = refl
indexes_there box there s at no_exprs [] (i ∷ is) each are = absurd are
indexes_there box there s at no_exprs (f ∷ fs) is each are = absurd each
indexes_there box there s at (more_exprs e es) [] is each are = absurd each
indexes_there box there s at (more_exprs e es) (f ∷ fs) [] each are = absurd are
indexes_there box there s at (more_exprs e es) (f ∷ fs) (i ∷ is) each are =
    let z = value f (given there) in
    let n = form_number box (given there) s at.counters e f each.0 (not_below z i are.0) (not_above z i are.0 are.1) in
    let same : n.0 ≡ i = pos_same n.0 i (sym n.2 ∙ are.0) in
    ap (λ (o : Option ℕ). both (λ k ks. k ∷ ks) o (values s es)) (n.1 ∙ ap Some same)
    ∙ ap (λ (o : Option (List ℕ)). both (λ k ks. k ∷ ks) (Some i) o) (indexes_there box there s at es fs is each.1 are.2)

-- ---- a nest at the first turns of the serial loops

module _ (serial loops : List Loop) (round now : Nesting) (body : Stmt) (outside : AreEntered no_loops serial round) (entered : AreEntered round loops now)
    (ls : List Canonical) (rectangular : AreRectangular round.box loops ls) (region : NestAt)
    (known : IsEntered (serial_loops (length round.levels) now) (nest_loops (length round.levels) now) region) (from : State) where
  serial_known : serial_loops (length round.levels) now ≡ entered_loops serial no_loops round outside
  serial_known = serial_are loops round now entered ∙ first_are serial no_loops round outside refl

  nest_known : nest_loops (length round.levels) now ≡ entered_loops loops round now entered
  nest_known = nest_are loops round now entered

  pub begun : Begins serial round region.outer from
  begun = begins_there serial round region.outer from outside (subst (λ (cs : List Canonical). FirstTurns cs [] region.outer) serial_known known.first)

  runs : AreRunsOf (entered_loops loops round now entered) (given region.outer) region.turns
  runs = subst (λ (cs : List Canonical). AreRunsOf cs (given region.outer) region.turns) nest_known known.runs

  abbrev us : List Vector
  us = vectors region.turns

  -- its iterations are those that are numbered
  pub iterations_known : iterations loops begun.outer ≡ Some us
  iterations_known =
      nest_law (entered_loops loops round now entered) (given region.outer) region.turns runs round.box loops begun.outer begun.at.counters (heads_of loops round now entered ls rectangular)

  -- two numbers have two iterations
  pub numbers_differ : (i j : ℕ) (u v : Vector) → i < j → slice_get us i ≡ Some u → slice_get us j ≡ Some v → u ≢ v
  numbers_differ i j u v lt p q e =
      iterations_differ round now loops begun.steps begun.outer us entered begun.turn iterations_known i j u lt (slice_get_within us j v q)
      (get_or_from_slice_get us i u u p ∙ e ∙ sym (get_or_from_slice_get us j v u q))

  -- the values of the loops' variables at an iteration, and its state
  module _ (number : ℕ) (vector : Vector) (found : slice_get us number ≡ Some vector) where
    abbrev held_there : List Value
    held_there = region.outer ++ held region.loops vector

    abbrev state : State
    state = at_vector loops vector begun.outer

    at_iteration : IsAt now.box held_there state
    at_iteration =
        subst (λ (cs : List Canonical). IsAt now.box (region.outer ++ held cs vector) state) (sym (known.loops ∙ nest_known))
        (vector_at loops round now entered (given region.outer) region.turns number region.outer begun.outer vector runs found begun.at)

    inside_iteration : IsInside now.box (given held_there)
    inside_iteration =
        let it = iterations_are_turns round now loops begun.steps begun.outer us vector entered begun.turn iterations_known (contains_at us number vector found) in
        inside_at now.box held_there (values_at now.levels it.0) state at_iteration it.1.at

  -- an access of the text, by the forms of its subscripts
  module _ (ds : List Declaration) (site : Site) (access : meant.Access) (link : Link ds now site access) (touched : Touched) (is : IsTouched (length now.levels) site.round site.subscripts touched) where
    inner_known : touched.inner.items ≡ entered_loops access.inner now site.round link.entered
    inner_known = is.inner ∙ inner_are access.inner now site.round link.entered

    -- where it touches an element in the words of the definitions, it does so by its forms
    pub touches_back : HaveShort ds → (number : ℕ) (indexes : List ℕ) → TouchesFirst loops begun.outer us access number indexes → TouchesAt region (touch_of touched) number indexes
    touches_back short number indexes t =
        let back = first_back access.inner now site.round link.entered (held_there number t.vector t.is) (state number t.vector t.is) t.there
        (at_iteration number t.vector t.is) (inside_iteration number t.vector t.is) t.begins in
        record {
          vector = t.vector;
          is = t.is;
          touches = record {
            there = back.there;
            turns = subst (λ (cs : List Canonical). FirstTurns cs (held_there number t.vector t.is) back.there) (sym inner_known) back.first;
            are = indexes_back t.there site.round.box back.there back.at back.inside site.subscripts touched.subscripts.items (lengths_of (slice_get ds site.array)) indexes is.subscripts link.stays
                (lengths_short ds site.array short) (subst (λ (es : Exprs). values t.there es ≡ Some indexes) (sym link.subscripts) t.are);
          };
        }

    module _ (number : ℕ) (indexes : List ℕ) (t : TouchesAt region (touch_of touched) number indexes) where
      abbrev held_now : List Value
      held_now = held_there number t.vector t.is

      abbrev state_now : State
      state_now = state number t.vector t.is

      -- the first turns of the body's own loops round it
      pub record IsThere : Type 0 where
        pub turns : List Vector
        pub are : iterations access.inner state_now ≡ Some turns
        pub first : IsFirstAt access.inner site.round.box state_now turns t.touches.there

      pub is_there : IsThere
      is_there =
          let it = iterations_are_turns round now loops begun.steps begun.outer us t.vector entered begun.turn iterations_known (contains_at us number t.vector t.is) in
          let all = there_is (iterations access.inner state_now) (iterations_are_there now site.round access.inner it.0 state_now link.entered it.1.at) in
          record {
            turns = all.0;
            are = all.1;
            first = first_there access.inner now site.round link.entered held_now t.touches.there state_now all.0
                (subst (λ (cs : List Canonical). FirstTurns cs held_now t.touches.there) inner_known t.touches.turns) (at_iteration number t.vector t.is) all.1;
          }

      pub element : values (at_vector access.inner is_there.first.turn state_now) access.subscripts ≡ Some indexes
      element =
          subst (λ (es : Exprs). values (at_vector access.inner is_there.first.turn state_now) es ≡ Some indexes) link.subscripts
          (indexes_there site.round.box t.touches.there (at_vector access.inner is_there.first.turn state_now) is_there.first.at site.subscripts touched.subscripts.items indexes is.subscripts t.touches.are)

      -- it touches the element at these turns, and so in the words of the definitions
      pub touches_first : TouchesFirst loops begun.outer us access number indexes
      touches_first = record { vector = t.vector; is = t.is; there = at_vector access.inner is_there.first.turn state_now; begins = is_there.first.begins; are = element }

      abbrev pub touches_there : Contains (accesses [] body) access → (array : Variable) → array ≡ access.array
          → Touches loops body begun.outer t.vector (record { array = array; indexes = indexes }) access.mode
      touches_there among array same =
          record {
            access = access;
            there = among;
            reaches = record {
              turns = is_there.turns;
              are = is_there.are;
              turn = is_there.first.turn;
              among = contains_at is_there.turns 0 is_there.first.turn is_there.first.first;
              array = same;
              indexes = element;
            };
            mode_is = refl;
          }
