-- The operands of reductions have values wherever a nest is met at a turn of the loops round it. (C11 6.5.13 and 6.5.14; OpenMP 5.2, 5.5.8)
use Rattle.std.specs.Prelude.{ℕ, Bool, true, false, ◌≡◌, ◌==◌, ◌<◌, ℤ, List, [], ◌∷◌, length, IsSome, is_some, nat_lt}
use Rattle.std.specs.List.{AllByRecursion}
use Rattle.std.proofs.Common.{refl, sym, ap, ◌∙◌, cond, arith, inl, inr}
use Rattle.std.proofs.lemmas.Bool.{eqb-true, ltb-true, ltb-false}
use Rattle.semantics.specs.Tree.{Variable, Stmt, Declaration}
use Rattle.semantics.specs.Source.Token.{Token}
use Rattle.semantics.specs.Source.Scope.{Scope, Entity, AVariable, AConstant}
use Rattle.semantics.specs.Source.Statements.{ReadsStmt}
use Rattle.semantics.specs.Meaning.State.{State, Slot, Outside, Empty, Holds}
use Rattle.semantics.specs.Meaning.Definite.{no_privates, definite}
use Rattle.semantics.specs.Loops.Nest.{Loop}
use Rattle.semantics.specs.Loops.Operator.{ReduceOp}
use Rattle.semantics.specs.Loops.Piece.{is_outside}
use Rattle.affine.specs.declared.interval.Side.{Side}
use Rattle.affine_expr.specs.Forms.{is_counter}
use Rattle.nest_loop.specs.Turn.{AtTurn}
use Rattle.pairtest_counter.proofs.Chains.{canonical_named}
use Rattle.nest_loop.proofs.Visible.{each_weaker}
use Rattle.pairtest_counter.specs.Levels.{Nesting, values_at}
use Rattle.nest.specs.Nests.{Has, StaysInside}
use Rattle.deptest_verdict.specs.Shown.{no_loops}
use Rattle.law_turns.specs.Turns.{AreEntered}
use Rattle.law_roles.specs.Updates.{reduces}
use Rattle.law_roles.specs.Sharing.{TakesOperands}
use Rattle.law_runs.proofs.Going.{stands, is_held}
use Rattle.law_runs.proofs.Nested.{some_there}
use Rattle.law_runs.proofs.Points.{IsBelow, CanBeSet, IsPoint}
use Rattle.law_runs.proofs.StatementsRun.{Keeps, stmt_goes}
use Rattle.law_runs.proofs.Values as values
use Rattle.law_independence.specs.Inside as inside
use Rattle.law_independence.specs.Inside.{HaveShort}
use Rattle.law_independence.specs.OrderLaws.{IsSeen, IsMet}

-- lengths of 64 bits
pub each_short : (ns : List ℕ) → inside.AreShort ns → values.AreShort ns
each_short [] h = tt
each_short (n ∷ ns) h = (h.0, each_short ns h.1)

pub all_short : (ds : List Declaration) → HaveShort ds → values.HaveShort ds
all_short [] h = tt
all_short (d ∷ ds) h = (each_short d.lengths h.0, all_short ds h.1)

-- the variables of loops that were entered have numbers below the next one
counters_below : (hs : List Loop) (n after : Nesting) (next : ℕ) → AreEntered n hs after → AllByRecursion (λ (l : Loop). l.variable < next) hs → ((y : Variable) → is_counter n.box y ≡ true → y < next)
    → (y : Variable) → is_counter after.box y ≡ true → y < next
counters_below [] n after next entered each ok y c = ok y (ap (λ (m : Nesting). is_counter m.box y) entered ∙ c)
counters_below (h ∷ hs) n after next (s, v, is, level, rest) each ok y c = counters_below hs (record { box = s ∷ n.box; levels = v ∷ n.levels }) after next rest each.1 more y c
  where
    named : s.variable.0 ≡ h.variable
    named = ap (λ (t : Side). t.variable.0) level.is ∙ sym (canonical_named n.box h.variable h.start h.test h.step v.canonical is.is)

    more : (z : Variable) → cond (s.variable.0 == z) true (is_counter n.box z) ≡ true → z < next
    more z q = at (s.variable.0 == z) refl q
      where
        at : (b : Bool) → (s.variable.0 == z) ≡ b → cond b true (is_counter n.box z) ≡ true → z < next
        at true e p = let same = eqb-true s.variable.0 z e in let name = named in let less = each.0 in omega arith
        at false e p = ok z p

up_is : (k : Slot) → is_outside k ≡ false → stands k ≡ true
up_is Outside h = absurd cc
up_is Empty h = refl
up_is (Holds v) h = refl

-- where a statement is met, its run begins
pub point_met : (ds : List Declaration) (round : Nesting) (around : List Loop) (steps : ℕ → ℤ) → AreEntered no_loops around round → (scope : Scope) (next : ℕ) (known : Variable → Bool) (outer : State)
    → AtTurn round.box (values_at round.levels steps) outer → IsMet ds scope next known around outer → IsPoint ds round.box (values_at round.levels steps) scope next known outer
point_met ds round around steps entered scope next known outer turn met = record {
  small = met.small;
  usable = each_weaker (IsSeen ds next outer) (CanBeSet ds outer) settable scope met.seen;
  room = met.room;
  good = record { cells = met.stands.there; outside = met.stands.outside };
  below = record {
    visible = each_weaker (IsSeen ds next outer) (IsBelow next) below scope met.seen;
    known = met.below;
    counters = counters_below around no_loops round next entered met.loops (λ y c. absurd cc);
  };
  here = record { known = λ x le k. ap is_held (met.stands.held x k le).1; turn = turn };
}
  where
    settable : (e : Entity) → IsSeen ds next outer e → CanBeSet ds outer e
    settable (AVariable x n) h = at (nat_lt x (length ds)) refl
      where
        at : (b : Bool) → nat_lt x (length ds) ≡ b → CanBeSet ds outer (AVariable x n)
        at true e = inl (ltb-true x (length ds) e)
        at false e = inr (up_is (outer.locals x) (h.1 (ltb-false x (length ds) e)))
    settable (AConstant n) h = tt

    below : (e : Entity) → IsSeen ds next outer e → IsBelow next e
    below (AVariable x n) h = h.0
    below (AConstant n) h = tt

pub operands_taken : (ds : List Declaration) (round : Nesting) (around : List Loop) (rs : List (Variable × ReduceOp)) (s : Stmt) (steps : ℕ → ℤ) → HaveShort ds → AreEntered no_loops around round → Has (StaysInside ds) round.box s
    → Keeps round.box s → reduces rs s ≡ true → (scope : Scope) (order next next' : ℕ) (tokens : List Token) (known : Variable → Bool) (outer : State) → ReadsStmt scope order next tokens s next'
    → AtTurn round.box (values_at round.levels steps) outer → IsMet ds scope next known around outer → IsSome (definite no_privates s known) → TakesOperands rs s outer
operands_taken ds round around rs s steps short entered stays kept red scope order next next' tokens known outer reads turn met determined =
    let left = some_there (definite no_privates s known) determined in
    let point = point_met ds round around steps entered scope next known outer turn met in
    let ran = stmt_goes ds (all_short ds short) rs round.box (values_at round.levels steps) reads known left.0 outer stays kept red point left.1 in
    inr (ap is_some ran.is)
