-- Loops that count up between numbers: their iterations are the vectors of one space, and the values of their variables lie their counters behind its first ones.
use Rattle.std.specs.Prelude.{ℕ, zero, suc, true, ◌≡◌, ◌+◌, ℤ, pos, ◌+ℤ◌, ◌*ℤ◌, List, [], ◌∷◌, length, map, Some}
use Rattle.std.specs.List.{list_all}
use Rattle.std.proofs.Common.{refl, sym, ap, ◌∙◌, subst, cond, arith}
use Rattle.std.proofs.lemmas.Bool.{eq-eqb}
use Rattle.std.proofs.lemmas.Int.{ints}
use Rattle.std.proofs.lemmas.Option.{same_Some}
use Rattle.semantics.specs.Meaning.State.{State}
use Rattle.semantics.specs.Loops.Nest.{Loop, iterations}
use Rattle.semantics.specs.Loops.Order.{Distance}
use Rattle.affine.specs.declared.interval.Side.{Side}
use Rattle.affine.specs.Affine.{value}
use Rattle.affine.proofs.Values.{with_value-same}
use Rattle.affine_expr.specs.Forms.{is_counter}
use Rattle.nest_loop.specs.declared.head.Canonical.{Canonical}
use Rattle.nest_loop.specs.declared.stride.Stride.{Stride}
use Rattle.nest_loop.specs.declared.stride.Direction.{Direction}
use Rattle.nest_loop.specs.declared.stride.Direction.TheVariants.{Rising}
use Rattle.nest_loop.specs.Canonical.{canonical}
use Rattle.nest_loop.specs.Sides.{HasNumbers}
use Rattle.pairtest_counter.specs.Counters.{step_by}
use Rattle.pairtest_counter.specs.Levels.{Nesting, AreLevels, IsTurn, values_at}
use Rattle.pairtest_counter.proofs.Chains.{canonical_named}
use Rattle.nest_space.specs.Space.{Turns, vectors}
use Rattle.nest_space.specs.Nests.{IsRunOf, AreRunsOf}
use Rattle.nest_space.specs.Heads.{AreHeadsOf}
use Rattle.nest_space.proofs.Anywhere.{number_anywhere, run_anywhere}
use Rattle.nest_space.proofs.Nesting.{nest_law}
use Rattle.pairtest_cover.specs.Behind.{LiesBehind, EachRisesByOne, at_counters}
use Rattle.flow_doacross.specs.Nests.{counts_up}
use Rattle.flow_doacross.proofs.CountLaw.{count_up_anywhere}
use Rattle.law_commute.proofs.Values.{first_of, second_of}
use Rattle.law_turns.specs.Turns.{AreEntered}
use Rattle.law_turns.proofs.Laws.{turns_are_inside, turns_join}
use Rattle.law_turns.proofs.OneLoop.{run_there}
use Rattle.law_turns.proofs.Iterating.{nested, values_kept}
use Rattle.law_independence.proofs.Rectangular.{wider_loop}
use Rattle.law_independence.proofs.Sums.{stretch}
use Rattle.law_independence.proofs.Counted.{AreNatural}
use Rattle.law_independence.proofs.LyingApart.{longer}

-- ---- a loop between two numbers

-- a loop of the text is this one, wherever it stands
pub record IsUp (h : Loop) (l : Canonical) : Type 0 where
  pub form : canonical [] h.variable h.start h.test h.step ≡ Some l
  pub numbers : HasNumbers l
  pub rises : l.stride.direction ≡ Rising
  pub by_one : l.stride.by ≡ 1

pub is_up : (box : List Side) (h : Loop) (l : Canonical) → counts_up h ≡ true → canonical box h.variable h.start h.test h.step ≡ Some l → IsUp h l
is_up box h l up is =
    let c = count_up_anywhere [] h up in
    let there = wider_loop [] box (λ x none. absurd (cc none)) h.variable h.start h.test h.step c.loop c.form in
    subst (IsUp h) (same_Some c.loop l (sym there ∙ is)) (record { form = c.form; numbers = c.numbers; rises = c.rises; by_one = c.by_one })

-- its variable's value after some steps
risen : (d : Direction) (by first k : ℕ) (z : ℤ) → d ≡ Rising → by ≡ 1 → z ≡ pos k → pos first +ℤ step_by d by *ℤ z ≡ pos (first + k)
risen d by first k z rises one e =
    ap (λ (d : Direction). pos first +ℤ step_by d by *ℤ z) rises ∙ ap (λ (n : ℕ). pos first +ℤ pos n *ℤ z) one ∙ ap (λ (z : ℤ). pos first +ℤ pos 1 *ℤ z) e ∙ sum first k
  where
    sum : (f k : ℕ) → pos f +ℤ pos 1 *ℤ pos k ≡ pos (f + k)
    sum f k = omega (arith, ints)

-- ---- the space of a nest

-- the iterations of loops that were entered are the vectors of a space, and their values lie their counters behind its first ones
pub record HasSpace (before after : Nesting) (hs : List Loop) : Type 0 where
  pub turns : List Turns
  pub canonicals : List Canonical
  pub runs : AreRunsOf canonicals (λ x. pos 0) turns
  pub heads : AreHeadsOf [] hs canonicals
  pub rises : EachRisesByOne turns
  pub as_many : length turns ≡ length hs
  pub values : (steps : ℕ → ℤ) (k : ℕ → ℕ) → AreNatural (length after.levels) steps k
      → map (λ h. values_at after.levels steps h.variable) hs ≡ map pos (at_counters turns (stretch (length before.levels) (length hs) k))

-- at a turn of all loops
pub space_there : (hs : List Loop) (before after : Nesting) (steps : ℕ → ℤ) → list_all counts_up hs ≡ true → AreEntered before hs after → AreLevels before.box before.levels → IsTurn after.levels steps
    → HasSpace before after hs
space_there [] before after steps up entered are turn = record { turns = []; canonicals = []; runs = tt; heads = tt; rises = tt; as_many = refl; values = λ steps k natural. refl }
space_there (h ∷ hs) before after steps up (s, v, is, level, rest) are turn =
    let inner = space_there hs (nested before s v) after steps (second_of (counts_up h) (list_all counts_up hs) up) rest (level, are) turn in
    record {
      turns = run.0 ∷ inner.turns;
      canonicals = v.canonical ∷ inner.canonicals;
      runs = (run_anywhere v.canonical (values_at before.levels steps) (λ x. pos 0) run.0 own.numbers run.1, inner.runs);
      heads = (record { scope = is.scope; order = is.order; tokens = is.tokens; small = is.small; reads = is.reads; is = own.form; other = refl }, inner.heads);
      rises = (ap (λ (st : Stride). st.direction) run.1.stride ∙ own.rises, ap (λ (st : Stride). st.by) run.1.stride ∙ own.by_one, inner.rises);
      as_many = ap suc inner.as_many;
      values = λ others k natural. let first = value_is others k natural in let later = inner.values others k natural in λ i. first i ∷ later i;
    }
  where
    own : IsUp h v.canonical
    own = is_up before.box h v.canonical (first_of (counts_up h) (list_all counts_up hs) up) is.is

    before_turn : IsTurn before.levels steps
    before_turn = ((turns_join before after (h ∷ hs) steps (s, v, is, level, rest)).0 turn).0

    run : (t : Turns) × IsRunOf v.canonical (values_at before.levels steps) t
    run = run_there v.canonical (values_at before.levels steps) (level.stays (values_at before.levels steps) (turns_are_inside before.box before.levels steps are before_turn).0) level.by_one

    named : h.variable ≡ v.canonical.variable.0
    named = canonical_named before.box h.variable h.start h.test h.step v.canonical is.is

    counts : is_counter (s ∷ before.box) h.variable ≡ true
    counts = ap (λ b. cond b true (is_counter before.box h.variable)) (eq-eqb s.variable.0 h.variable (ap (λ (t : Side). t.variable.0) level.is ∙ sym named))

    value_is : (others : ℕ → ℤ) (k : ℕ → ℕ) → AreNatural (length after.levels) others k → values_at after.levels others h.variable ≡ pos (run.0.first + k (length before.levels))
    value_is others k natural =
        let more = longer hs (nested before s v) after rest in
        values_kept hs (nested before s v) after others h.variable rest counts
        ∙ with_value-same (values_at before.levels others) v.canonical.variable.0 (value v.canonical.start (values_at before.levels others) +ℤ step_by v.canonical.stride.direction v.canonical.stride.by *ℤ others (length before.levels)) h.variable named
        ∙ ap (λ z. z +ℤ step_by v.canonical.stride.direction v.canonical.stride.by *ℤ others (length before.levels)) (number_anywhere v.canonical.start (values_at before.levels others) (values_at before.levels steps) own.numbers.start ∙ run.1.first)
        ∙ risen v.canonical.stride.direction v.canonical.stride.by run.0.first (k (length before.levels)) (others (length before.levels)) own.rises own.by_one (natural (length before.levels) (omega arith))

module _ (before after : Nesting) (hs : List Loop) (space : HasSpace before after hs) where
  -- the iterations, in any state
  pub iterations_there : (s : State) → iterations hs s ≡ Some (vectors space.turns)
  iterations_there s = nest_law space.canonicals (λ x. pos 0) space.turns space.runs [] hs s (λ x none. absurd (cc none)) space.heads

-- ---- vectors

pub same_numbers : (us vs : List ℕ) → map pos us ≡ map pos vs → us ≡ vs
same_numbers [] [] e = refl
same_numbers [] (v ∷ vs) e = absurd (cc e)
same_numbers (u ∷ us) [] e = absurd (cc e)
same_numbers (u ∷ us) (v ∷ vs) e =
    let first : pos u ≡ pos v = cc e in
    let later : map pos us ≡ map pos vs = cc e in
    let rest = same_numbers us vs later in
    let same : u ≡ v = one u v first in
    λ i. same i ∷ rest i
  where
    one : (a b : ℕ) → pos a ≡ pos b → a ≡ b
    one a b e = omega (arith, ints)

-- counters that lie apart, and the values there
pub moved_behind : (m : ℕ) (ts : List Turns) (d : Distance) (ks ls : List ℕ) → length ks ≡ length ts → LiesBehind m d ks ls → LiesBehind m d (at_counters ts ks) (at_counters ts ls)
moved_behind m [] [] [] [] e h = tt
moved_behind m [] [] [] (l ∷ ls) e h = absurd h
moved_behind m [] [] (k ∷ ks) ls e h = absurd h
moved_behind m [] (d ∷ ds) [] ls e h = absurd h
moved_behind m [] (d ∷ ds) (k ∷ ks) ls e h = absurd (omega (arith, e))
moved_behind m (t ∷ ts) ds [] ls e h = absurd (omega (arith, e))
moved_behind m (t ∷ ts) [] (k ∷ ks) ls e h = absurd h
moved_behind m (t ∷ ts) (d ∷ ds) (k ∷ ks) [] e h = absurd h
moved_behind m (t ∷ ts) (d ∷ ds) (k ∷ ks) (l ∷ ls) e h = (shifted t.first k l (pos m *ℤ d) h.0, moved_behind m ts ds ks ls (omega (arith, e)) h.1)
  where
    shifted : (f k l : ℕ) (z : ℤ) → pos l ≡ pos k +ℤ z → pos (f + l) ≡ pos (f + k) +ℤ z
    shifted f k l z e = omega (arith, ints, e)

pub stretch-length : (n from : ℕ) (k : ℕ → ℕ) → length (stretch from n k) ≡ n
stretch-length zero from k = refl
stretch-length (suc n) from k = ap suc (stretch-length n (suc from) k)

-- so many loops were entered
pub entered_length : (hs : List Loop) (before after : Nesting) → AreEntered before hs after → length after.levels ≡ length before.levels + length hs
entered_length [] before after entered = let same : length before.levels ≡ length after.levels = ap (λ (m : Nesting). length m.levels) entered in omega arith
entered_length (h ∷ hs) before after (s, v, is, level, rest) = let inner = entered_length hs (nested before s v) after rest in omega arith
