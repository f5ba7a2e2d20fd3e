-- A loop with constant bounds inside others makes their box larger by the numbers from its first to its last.
use Rattle.std.specs.Prelude.{ℕ, Bool, true, false, ◌≡◌, List, Option, Some, None}
use Rattle.std.proofs.Common.{refl, sym, ap, ◌∙◌, cond}
use Rattle.semantics.specs.Tree
use Rattle.affine.specs.declared.interval.Interval.{Interval}
use Rattle.affine.specs.declared.interval.Side.{Side}
use Rattle.affine.specs.Affine.{Affine}
use Rattle.affine_expr.specs.Forms.{form_of}
use Rattle.nest_loop.specs.declared.stride.Stride.{Stride}
use Rattle.nest_loop.specs.declared.stride.Bound.{Bound}
use Rattle.nest_loop.specs.declared.head.Canonical.{Canonical}
use Rattle.nest_loop.specs.Canonical.{is_variable, stride_of, bound_after, canonical_by, start_form, canonical}
use Rattle.nest_loop.specs.Sides.{HasNumbers, IsCount, IsSide, exact, by_range, never, end_of, walked}
use Rattle.nest_loop.specs.Loops.{inside}
use Rattle.nest_loop.proofs.Laws.{canonical_well}
use Rattle.nest.specs.Turns.{ConstantLoop, box_of, ConstantLoopsMakeBoxes}

-- a loop has the variable of its head
by_variable : (x : Tree.Variable) (s : Option Stride) (b : Option Bound) (start limit : Option Affine) (l : Canonical) → canonical_by x s b start limit ≡ Some l → l.variable.0 ≡ x
by_variable x None b start limit l e = absurd (cc e)
by_variable x (Some s) None start limit l e = absurd (cc e)
by_variable x (Some s) (Some b) None limit l e = absurd (cc e)
by_variable x (Some s) (Some b) (Some f) None l e = absurd (cc e)
by_variable x (Some s) (Some b) (Some f) (Some g) l e =
    let same : record { variable = record { 0 = x }; stride = s; bound = b; start = f; limit = g } ≡ l = cc in
    sym (ap (λ (m : Canonical). m.variable.0) same)

its_variable : (box : List Side) (x : Tree.Variable) (start : Tree.Source) (test : Tree.Cond) (step : Tree.Increment) (l : Canonical) → canonical box x start test step ≡ Some l → l.variable.0 ≡ x
its_variable box x start (Tree.Compare op a ub) step l e = by (is_variable x a) e
  where
    by : (b : Bool) → cond b (canonical_by x (stride_of x step) (bound_after op (stride_of x step)) (start_form box start) (form_of box ub)) None ≡ Some l → l.variable.0 ≡ x
    by true k = by_variable x (stride_of x step) (bound_after op (stride_of x step)) (start_form box start) (form_of box ub) l k
    by false k = absurd (cc k)
its_variable box x start (Tree.NotZero c) step l e = absurd (cc e)
its_variable box x start (Tree.Not c) step l e = absurd (cc e)
its_variable box x start (Tree.LogicalAnd c d) step l e = absurd (cc e)
its_variable box x start (Tree.LogicalOr c d) step l e = absurd (cc e)

-- how often it turns
record Counted (l : Canonical) (i : Interval) : Type 0 where
  count : ℕ
  counted : IsCount l.stride l.start.constant (end_of l).constant count
  is : walked l.stride.direction l.stride.by l.start.constant count ≡ i

counted_side : (box : List Side) (l : Canonical) (i : Interval) → HasNumbers l → IsSide box l i → Counted l i
counted_side box l i numbers (exact {n = n} h counted) = record { count = n; counted = counted; is = refl }
counted_side box l i numbers (by_range other r s) = absurd (other numbers)
counted_side box l i numbers (never other e) = absurd (other numbers)

pub constant_loops_make_boxes : ConstantLoopsMakeBoxes
constant_loops_make_boxes loops x start test step body l i h numbers =
    let side = counted_side (box_of loops) l i numbers h.numbers in
    let one = (canonical_well (box_of loops) x start test step l h.form).by_one in
    let c : ConstantLoop = record { loop = l; numbers = numbers; by_one = one; count = side.count; counted = side.counted } in (
      c,
      refl,
      ap (λ (y : Tree.Variable). inside (box_of loops) y i) (sym (its_variable (box_of loops) x start test step l h.form))
          ∙ ap (inside (box_of loops) l.variable.0) (sym side.is),
    )
