-- Forms in the counters of loops inside each other, each of which counts the steps of its loop from 0. (OpenMP 5.2, 4.4.2)
use Rattle.std.specs.Prelude.{ℕ, ◌≡◌, ◌==◌, if◌then◌else◌, ℤ, pos, negsuc, ◌-ℤ◌, List, [], ◌∷◌, length, Option, Some, None, option_map, ◌⊎◌, MatchResult}
use Rattle.std.specs.declared.result.Result.{Result}
use Rattle.ktree.specs.declared.place.Place.{Place}
use Rattle.ktree.specs.declared.refusal.Refusal.{Refusal}
use Rattle.ktree.specs.declared.refusal.Refusal.TheVariants.{Limit, OutOfMemory}
use Rattle.semantics.specs.Tree.{Variable}
use Rattle.affine.specs.declared.term.Term.{Term}
use Rattle.affine.specs.Affine.{Affine}
use Rattle.affine.specs.Arithmetic.{constant_form, variable_form, sum_form, multiple_form, plus_multiple}
use Rattle.affine.specs.Limits.{Fits}
use Rattle.nest_loop.specs.declared.stride.Direction.{Direction}
use Rattle.nest_loop.specs.declared.stride.Stride.{Stride}
use Rattle.nest_loop.specs.declared.stride.Direction.TheVariants.{Rising, Falling}
use Rattle.nest_loop.specs.declared.head.Canonical.{Canonical}
use Rattle.nest_loop.specs.Sides.{end_shift}
use Rattle.nest_loop.specs.Most.{way}
use Rattle.pairtest_counter.specs.declared.level.EnclosingLoop.{EnclosingLoop}
use Rattle.pairtest_counter.specs.declared.level.Forms.{Forms}

-- how far a variable goes with each step, below 0 where it falls
abbrev pub step_by : Direction → ℕ → ℤ
step_by Rising by = pos by
step_by Falling by = pos 0 -ℤ pos by

-- the variable of a loop inside others as a form in their counters, the innermost loop first; a variable of no loop is 0
abbrev pub place_in : List EnclosingLoop → Variable → Option Affine
place_in [] x = Some (constant_form (pos 0))
place_in (v ∷ vs) x = if v.canonical.variable.0 == x then option_map (λ f. f.place) v.forms else place_in vs x

-- a form in the counters and further terms in the variables are together this form in the counters, and each form on the way keeps the limits
pub data Adds (levels : List EnclosingLoop) : Affine → List Term → Affine → Type 0 where
  none_left : {f : Affine} → Adds levels f [] f
  one_more : {f p g : Affine} {t : Term} {ts : List Term} → place_in levels t.variable.0 ≡ Some p → Fits (multiple_form p t.coefficient)
      → Fits (sum_form f (multiple_form p t.coefficient)) → Adds levels (sum_form f (multiple_form p t.coefficient)) ts g → Adds levels f (t ∷ ts) g

-- a form in the variables of loops is this form in their counters
abbrev pub InCounters : List EnclosingLoop → Affine → Affine → Type 0
InCounters levels f g = Adds levels (constant_form f.constant) f.terms g

-- a start and as many steps as the counter of the next loop says
abbrev pub stepped : ℕ → Canonical → Affine → Affine
stepped n l start = sum_form start (multiple_form (variable_form n) (step_by l.stride.direction l.stride.by))

-- how far one form lies behind another, on the way of a loop
abbrev pub form_way : Direction → Affine → Affine → Affine
form_way Rising first end = plus_multiple end (negsuc 0) first
form_way Falling first end = plus_multiple first (negsuc 0) end

-- how far the end lies behind the start, where the form of the start and that of what the variable is compared with are these
abbrev pub reached : Canonical → Affine → Affine → Affine
reached l start limit = sum_form (form_way l.stride.direction start limit) (constant_form (way l.stride.direction (pos 0) (end_shift l.stride.direction l.bound)))

-- the variable of a loop inside others and how far its end lies behind its start, as forms in the counters, and each form on the way keeps the limits
pub record AreForms (outer : List EnclosingLoop) (l : Canonical) (f : Forms) : Type 0 where
  pub start : Affine
  pub limit : Affine
  pub starts : InCounters outer l.start start
  pub limits : InCounters outer l.limit limit
  pub place : f.place ≡ stepped (length outer) l start
  pub place_fits : Fits f.place
  pub way_fits : Fits (form_way l.stride.direction start limit)
  pub reach : f.reach ≡ reached l start limit
  pub reach_fits : Fits f.reach

-- they are these, or there are none
abbrev pub Given : {A : Type 0} → (A → Type 0) → Option A → Type 0
Given {A} P None = (a : A) → P a → ⊥
Given P (Some a) = P a

-- memory ran out, or no form is so and the limit is told at this place
abbrev pub Stops : {A : Type 0} → Place → (A → Type 0) → Refusal → Type 0
Stops {A} place P r = (r ≡ OutOfMemory) ⊎ ((r ≡ Limit place) × ((g : A) → P g → ⊥))

-- what is made is so, or it stops
abbrev pub Makes : {A : Type 0} → Result A Refusal → Place → (A → Type 0) → Type 0
Makes result place P = MatchResult result P (Stops place P)

-- what a term is in the counters
pub record IsProduct (levels : List EnclosingLoop) (t : Term) (f : Affine) : Type 0 where
  pub place : Affine
  pub at : place_in levels t.variable.0 ≡ Some place
  pub is : f ≡ multiple_form place t.coefficient
  pub fits : Fits f

-- how far one form lies behind another
pub record IsWay (d : Direction) (first end f : Affine) : Type 0 where
  pub is : f ≡ form_way d first end
  pub fits : Fits f

-- a start and as many steps as this counter says
pub record IsStepped (n : ℕ) (s : Stride) (start f : Affine) : Type 0 where
  pub is : f ≡ sum_form start (multiple_form (variable_form n) (step_by s.direction s.by))
  pub fits : Fits f

-- how far the end of a loop lies behind its start
pub record IsReached (l : Canonical) (start limit f : Affine) : Type 0 where
  pub way_fits : Fits (form_way l.stride.direction start limit)
  pub is : f ≡ reached l start limit
  pub fits : Fits f

-- the forms of a loop whose start and what its variable is compared with have these forms
pub record AreFormsBetween (n : ℕ) (l : Canonical) (start limit : Affine) (f : Forms) : Type 0 where
  pub place : IsStepped n l.stride start f.place
  pub reach : IsReached l start limit f.reach
