-- What is found of an element access: its subscripts' forms, and the loops round it. (OpenMP 5.2, 4.4.1 and 4.4.2)
use Rattle.std.specs.Prelude.{ℕ, zero, suc, ◌≡◌, ◌⊎◌, ◌-◌, ℤ, IsTrue, false, List, [], ◌∷◌, ◌++◌, length, map, reverse, take, Option, Some, None}
use Rattle.semantics.specs.Tree.{Expr, Exprs, no_exprs, more_exprs}
use Rattle.affine.specs.Affine.{Affine, coefficient_at}
use Rattle.affine_expr.specs.Forms.{form_of}
use Rattle.pairtest_counter.specs.declared.level.EnclosingLoop.{EnclosingLoop}
use Rattle.pairtest_counter.specs.Counters.{InCounters}
use Rattle.pairtest_counter.specs.Levels.{Nesting}
use Rattle.pairtest.specs.declared.access.Subscript.{Subscript}
use Rattle.pairtest.specs.declared.access.Access.{Access}
use Rattle.pairtest_access.specs.Sites.{Site}
use Rattle.pairtest_access.specs.declared.told.Touched.{Touched}

-- this is so of each subscript and what is made of it, from the left
abbrev pub AreEach : {A : Type 0} → (Expr → A → Type 0) → Exprs → List A → Type 0
AreEach P no_exprs [] = Unit {0}
AreEach P no_exprs (x ∷ xs) = ⊥
AreEach P (more_exprs e es) [] = ⊥
AreEach P (more_exprs e es) (x ∷ xs) = P e x × AreEach P es xs

-- the coefficients of the counters of so many loops, the outermost first
abbrev pub coefficients : ℕ → Affine → List ℤ
coefficients zero g = []
coefficients (suc n) g = coefficients n g ++ (coefficient_at g.terms n ∷ [])

-- a subscript has a form in the variables of the loops round it, that is this one in their counters
pub record IsSubscript (round : Nesting) (e : Expr) (t : Subscript) : Type 0 where
  pub form : Affine
  pub counted : Affine
  pub of : form_of round.box e ≡ Some form
  pub in_counters : InCounters round.levels form counted
  pub constant : t.constant ≡ counted.constant
  pub coefficients : t.coefficients.items ≡ coefficients (length round.levels) counted

-- some subscript of an access has no form in the variables of the loops round it, or none in their counters within the limits
abbrev pub HasNoForms : Site → Type 0
HasNoForms s = (ts : List Subscript) → AreEach (IsSubscript s.round) s.subscripts ts → ⊥

-- of loops inside each other, the innermost first, those inside the first so many, the outermost first
abbrev pub inner_loops : ℕ → List EnclosingLoop → List EnclosingLoop
inner_loops outer levels = reverse (take (length levels - outer) levels)

-- an access as the test of pairs has it, so many loops being outside the body
pub record IsFound (outer : ℕ) (s : Site) (f : Access) : Type 0 where
  pub array : f.array.0 ≡ s.array
  pub mode : f.mode ≡ s.mode
  pub counted : IsTrue f.is_counted
  pub subscripts : AreEach (IsSubscript s.round) s.subscripts f.subscripts.items
  pub inner : f.inner.items ≡ map (λ v. v.most) (inner_loops outer s.round.levels)

-- each access as it is found, in order
abbrev pub AreFound : ℕ → List Site → List Access → Type 0
AreFound outer [] [] = Unit {0}
AreFound outer [] (f ∷ fs) = ⊥
AreFound outer (s ∷ ss) [] = ⊥
AreFound outer (s ∷ ss) (f ∷ fs) = IsFound outer s f × AreFound outer ss fs

-- an access that is not counted, for want of forms
pub record IsUncounted (s : Site) (f : Access) : Type 0 where
  pub lacks : HasNoForms s
  pub counted : f.is_counted ≡ false

-- one or the other
abbrev pub IsMet : ℕ → Site → Access → Type 0
IsMet outer s f = IsFound outer s f ⊎ IsUncounted s f

-- each access so, in order
abbrev pub AreMet : ℕ → List Site → List Access → Type 0
AreMet outer [] [] = Unit {0}
AreMet outer [] (f ∷ fs) = ⊥
AreMet outer (s ∷ ss) [] = ⊥
AreMet outer (s ∷ ss) (f ∷ fs) = IsMet outer s f × AreMet outer ss fs

-- the forms of an access's subscripts in the variables of the loops round it, and the body's own loops round it, so many being outside
pub record IsTouched (outer : ℕ) (round : Nesting) (es : Exprs) (t : Touched) : Type 0 where
  pub subscripts : AreEach (λ e f. form_of round.box e ≡ Some f) es t.subscripts.items
  pub inner : t.inner.items ≡ map (λ v. v.canonical) (inner_loops outer round.levels)

-- that of the access, where there is one
abbrev pub IsTold : ℕ → Option Site → Option Touched → Type 0
IsTold outer None None = Unit {0}
IsTold outer None (Some t) = ⊥
IsTold outer (Some s) None = ⊥
IsTold outer (Some s) (Some t) = IsTouched outer s.round s.subscripts t
