-- A doacross nest wave by wave.
use Rattle.std.specs.Prelude.{ℕ, suc, Bool, true, false, ◌≡◌, ◌<◌, List, [], Some, not, ◌&&◌}
use Rattle.std.specs.List.{AllByRecursion as Each}
use Rattle.std.proofs.Common.{refl, sym, ap, ◌∙◌}
use Rattle.semantics.specs.Tree.{Variable, Stmt}
use Rattle.semantics.specs.Meaning.State.{State, overwritten}
use Rattle.semantics.specs.Meaning.Runs.{Effect, nothing}
use Rattle.semantics.specs.Meaning.Agrees.{is_among, visible_behind}
use Rattle.semantics.specs.Loops.Nest.{Loop, Vector, iterations}
use Rattle.semantics.specs.Loops.Order.{Distance, wave, wave_count}
use Rattle.semantics.specs.Loops.Piece.{Roles}
use Rattle.law_commute.proofs.Values.{first_of, second_of}
use Rattle.law_nests.specs.Walks.{walk}
use Rattle.law_nests.proofs.Steadied.{SameFixed, same_iterations}
use Rattle.law_private.proofs.Chunks.{not_true}
use Rattle.law_roles.specs.Following.{IsWalked}
use Rattle.law_roles.proofs.Chunked.{nest_variables}
use Rattle.law_roles.proofs.Joining.{localized}
use Rattle.law_roles.proofs.Shared.{none_stays}
use Rattle.law_waves.specs.Doacross.{IsDoacross, IsLeft, first_waves, StandsBehind, SharesWave, WaveChunksJoin}
use Rattle.law_waves.proofs.Steps.{Good, Steady, Same}
use Rattle.law_waves.proofs.Turned.{along, still_steady}
use Rattle.law_waves.proofs.Silent.{silent_walk}
use Rattle.law_waves.proofs.Tied.{Tied, tied_cells, tied_locals, Forth, forth, Back, back}
use Rattle.law_waves.proofs.Sorting.{picked_each, sorted_each}
use Rattle.law_waves.proofs.Leveled.{weaker}
use Rattle.law_waves.proofs.Chunks.{AllClear}
use Rattle.law_waves.proofs.Waved.{wave_clear, Next, next, all_left}
use Rattle.law_waves.proofs.Grounded as ground
use Rattle.law_waves.proofs.Joined.{localized_other, localized_cell, localized_none, locals_still, wave_back, shares}

module _ (roles : Roles) (ds : List Distance) (n : ℕ) (s : Stmt) (loops : List Loop) (body : Stmt) (outer : State) (us : List Vector) (e : Effect) (is : IsDoacross roles ds n s loops body outer us e) where
  abbrev vars : List Variable
  vars = ground.vars roles ds n s loops body outer us e is

  abbrev own : Stmt
  own = ground.own roles ds n s loops body outer us e is

  abbrev o : State
  o = ground.o roles ds n s loops body outer us e is

  abbrev IsSteady : State → Type 0
  IsSteady = Steady loops own o (ground.keeps_own roles ds n s loops body outer us e is)

  abbrev IsGood : Vector → Type 0
  IsGood = Good loops own o (ground.keeps_own roles ds n s loops body outer us e is)

  abbrev IsSame : State → State → Type 0
  IsSame = Same loops own o (ground.keeps_own roles ds n s loops body outer us e is)

  abbrev Ties : State → State → Type 0
  Ties = Tied vars

  tied_o : Ties outer o
  tied_o = ground.tied_of roles ds n s loops body outer us e is outer is.keeps.scalars

  abbrev Stands : ℕ → State → Type 0
  Stands i state = StandsBehind roles ds s loops body us outer i state

  waves_good : (i : ℕ) → Each IsGood (first_waves us ds i)
  waves_good i =
      sorted_each (ground.leveled roles ds n s loops body outer us e is) IsGood us i
      (weaker IsGood (λ u. ground.leveled roles ds n s loops body outer us e is u < i → IsGood u) us (λ u h lt. h) (ground.good roles ds n s loops body outer us e is))

  wave_good : (i : ℕ) → Each IsGood (wave us ds i)
  wave_good i =
      picked_each (ground.leveled roles ds n s loops body outer us e is) IsGood us i
      (weaker IsGood (λ u. ground.leveled roles ds n s loops body outer us e is u ≡ i → IsGood u) us (λ u h k. h) (ground.good roles ds n s loops body outer us e is))

  -- the walk over the first waves with private variables as locals
  beside : (i : ℕ) (state : State) (st : Stands i state)
      → Forth vars body (ground.named roles ds n s loops body outer us e is) (ground.known roles ds n s loops body outer us e is) loops (first_waves us ds i) outer o st.effect
  beside i state st = forth vars body (ground.named roles ds n s loops body outer us e is) (ground.known roles ds n s loops body outer us e is) loops (first_waves us ds i) outer o st.effect tied_o st.ran

  module _ (i : ℕ) (state : State) (st : Stands i state) where
    abbrev p : State
    p = localized vars state

    first : Forth vars body (ground.named roles ds n s loops body outer us e is) (ground.known roles ds n s loops body outer us e is) loops (first_waves us ds i) outer o st.effect
    first = beside i state st

    abbrev q : State
    q = overwritten o first.effect.writes

    q_steady : IsSteady q
    q_steady = still_steady loops own o (ground.keeps_own roles ds n s loops body outer us e is) (first_waves us ds i) o first.effect (waves_good i) (ground.steady_o roles ds n s loops body outer us e is) first.ran

    same_cells : (x : Variable) (js : List ℕ) → q.cells x js ≡ p.cells x js
    same_cells x js = at (is_among vars x) refl
      where
        at : (b : Bool) → is_among vars x ≡ b → q.cells x js ≡ p.cells x js
        at true k = none_stays x js first.effect.writes o (localized_none vars outer x js k) ∙ sym (localized_none vars state x js k)
        at false k = sym (tied_cells vars (overwritten outer st.effect.writes) q first.after x js k) ∙ sym (st.left.cells x js k) ∙ sym (localized_cell vars state x js k)

    p_steady : IsSteady p
    p_steady = record {
      locals = λ y h free.
          let other = ground.own_free roles ds n s loops body outer us e is y h in
          localized_other vars state y other ∙ st.left.locals y (ground.own_outside roles ds n s loops body outer us e is y h free) other ∙ sym (localized_other vars outer y other);
      scalars = λ y h. sym (same_cells y []) ∙ q_steady.scalars y h;
      none = λ y h. sym (same_cells y []) ∙ q_steady.none y h;
    }

    same : IsSame q p
    same = record { first = q_steady; second = p_steady; cells = same_cells }

    -- bounds and steps are as before the nest, and so are its iterations
    abbrev fixed : Variable → Bool
    fixed x = visible_behind s x && not (is_among vars x)

    same_fixed : SameFixed fixed state outer
    same_fixed y h =
        let seen = first_of (visible_behind s y) (not (is_among vars y)) h in
        let free = not_true (is_among vars y) (second_of (visible_behind s y) (not (is_among vars y)) h) in
        record {
          locals = st.left.locals y seen free;
          cells = λ out. sym (localized_cell vars state y [] free) ∙ p_steady.scalars y (ground.own_visible roles ds n s loops body outer us e is y seen free) ∙ localized_cell vars outer y [] free;
        }

    same_are : iterations loops state ≡ Some us
    same_are = same_iterations loops fixed state outer same_fixed (ground.nest_fixed n s loops body fixed is.nest is.keeps.whole.steady) ∙ is.are

    abbrev AllNext : Type 0
    AllNext =
        Next loops own o (ground.keeps_own roles ds n s loops body outer us e is) (ground.leveled roles ds n s loops body outer us e is) us (wave_count us ds) (ground.lower roles ds n s loops body outer us e is)
        (ground.settled roles ds n s loops body outer us e is) (ground.good roles ds n s loops body outer us e is) (ground.steady_o roles ds n s loops body outer us e is)
        (ground.in_turn roles ds n s loops body outer us e is).effect (ground.in_turn roles ds n s loops body outer us e is).ran i first.effect

    then : AllNext
    then =
        next loops own o (ground.keeps_own roles ds n s loops body outer us e is) (ground.leveled roles ds n s loops body outer us e is) us (wave_count us ds) (ground.lower roles ds n s loops body outer us e is)
        (ground.settled roles ds n s loops body outer us e is) (ground.good roles ds n s loops body outer us e is) (ground.steady_o roles ds n s loops body outer us e is)
        (ground.in_turn roles ds n s loops body outer us e is).effect (ground.in_turn roles ds n s loops body outer us e is).ran i first.effect first.ran

    from_p : (walk loops own (wave us ds i) p ≡ Some then.here) × IsSame (overwritten q then.here.writes) (overwritten p then.here.writes)
    from_p = along loops own o (ground.keeps_own roles ds n s loops body outer us e is) (wave us ds i) q p then.here (wave_good i) same then.here_is

    clear : AllClear loops own o (ground.keeps_own roles ds n s loops body outer us e is) (wave us ds i)
    clear = wave_clear loops own o (ground.keeps_own roles ds n s loops body outer us e is) (ground.leveled roles ds n s loops body outer us e is) us i (ground.settled roles ds n s loops body outer us e is)

    abbrev here : Back vars body (ground.named roles ds n s loops body outer us e is) (ground.known roles ds n s loops body outer us e is) loops (wave us ds i) state p then.here
    here = wave_back roles ds n s loops body outer us e is state st.left.scalars st.left.locals p_steady (wave us ds i) (wave_good i) clear then.here from_p.0

    whole : Back vars body (ground.named roles ds n s loops body outer us e is) (ground.known roles ds n s loops body outer us e is) loops (first_waves us ds (suc i)) outer o then.whole
    whole = back vars body (ground.named roles ds n s loops body outer us e is) (ground.known roles ds n s loops body outer us e is) loops (first_waves us ds (suc i)) outer o then.whole tied_o then.whole_is

    one_more : (after : State) → IsLeft roles s state here.effect after → Stands (suc i) after
    one_more after left = record {
      effect = whole.effect;
      ran = whole.ran;
      left = record {
        cells = λ x js free.
            left.cells x js free ∙ tied_cells vars (overwritten state here.effect.writes) (overwritten p then.here.writes) here.after x js free
            ∙ sym (from_p.1.cells x js) ∙ sym (ap (λ (t : State). t.cells x js) then.left)
            ∙ sym (tied_cells vars (overwritten outer whole.effect.writes) (overwritten o then.whole.writes) whole.after x js free);
        locals = λ x seen free. left.locals x seen free ∙ st.left.locals x seen free;
        scalars = left.scalars;
      };
    }

    one_wave : SharesWave roles ds s loops body us outer i state
    one_wave = record {
      are = same_are;
      here = here.effect;
      ran = here.ran;
      text = silent_walk loops body is.silent (wave us ds i) state here.effect here.ran;
      shares = λ start chunks may flat. shares roles ds n s loops body outer us e is state st.left.scalars st.left.locals p_steady (wave us ds i) (wave_good i) clear then.here from_p.0 start chunks may flat;
      next = one_more;
    }

  -- ---- behind all waves

  abbrev ByNest : Type 0
  ByNest = Forth vars body (ground.named roles ds n s loops body outer us e is) (ground.known roles ds n s loops body outer us e is) loops us outer o (ground.sequence roles ds n s loops body outer us e is).effect

  abbrev by_nest : ByNest
  by_nest = ground.in_turn roles ds n s loops body outer us e is

  abbrev sequence : IsWalked loops body us outer e
  sequence = ground.sequence roles ds n s loops body outer us e is

  all_same : (state : State) (st : Stands (wave_count us ds) state) → IsSame (overwritten o by_nest.effect.writes) (overwritten o (beside (wave_count us ds) state st).effect.writes)
  all_same state st =
      all_left loops own o (ground.keeps_own roles ds n s loops body outer us e is) (ground.leveled roles ds n s loops body outer us e is) us (wave_count us ds) (ground.lower roles ds n s loops body outer us e is)
      (ground.settled roles ds n s loops body outer us e is) (ground.good roles ds n s loops body outer us e is) (ground.steady_o roles ds n s loops body outer us e is) by_nest.effect by_nest.ran
      (beside (wave_count us ds) state st).effect (beside (wave_count us ds) state st).ran

  ended : (state : State) → Stands (wave_count us ds) state → IsLeft roles s outer e state
  ended state st =
      let b = beside (wave_count us ds) state st in
      record {
        cells = λ x js free.
            st.left.cells x js free ∙ tied_cells vars (overwritten outer st.effect.writes) (overwritten o b.effect.writes) b.after x js free
            ∙ sym ((all_same state st).cells x js) ∙ sym (tied_cells vars (overwritten outer sequence.effect.writes) (overwritten o by_nest.effect.writes) by_nest.after x js free)
            ∙ sym (sequence.cells x js);
        locals = st.left.locals;
        scalars = st.left.scalars;
      }

  still : (x : Variable) → visible_behind s x ≡ true → is_among vars x ≡ false → (overwritten outer e.writes).locals x ≡ outer.locals x
  still x seen free =
      sequence.locals x (nest_variables n s loops body is.nest x seen)
      ∙ tied_locals vars (overwritten outer sequence.effect.writes) (overwritten o by_nest.effect.writes) by_nest.after x free
      ∙ locals_still roles ds n s loops body outer us e is (overwritten o by_nest.effect.writes)
      (still_steady loops own o (ground.keeps_own roles ds n s loops body outer us e is) us o by_nest.effect (ground.good roles ds n s loops body outer us e is) (ground.steady_o roles ds n s loops body outer us e is) by_nest.ran)
      x seen free

  quiet : e.text ≡ []
  quiet = sequence.text ∙ silent_walk loops body is.silent us outer sequence.effect sequence.ran

pub join : WaveChunksJoin
join roles ds n s loops body outer us e is = record {
  begins = record { effect = nothing; ran = refl; left = record { cells = λ x js free. refl; locals = λ x seen free. refl; scalars = is.keeps.scalars } };
  goes_on = one_wave roles ds n s loops body outer us e is;
  ends = ended roles ds n s loops body outer us e is;
  locals = still roles ds n s loops body outer us e is;
  text = quiet roles ds n s loops body outer us e is;
}
