-- Subscripts that stay inside their dimensions.
use Rattle.std.specs.Prelude.{ℕ, Bool, true, false, ◌≡◌, ◌↔◌, IsTrue, IsNone, IfSome, MatchOption, ℤ, pos, ◌≤ℤ◌, ◌<ℤ◌, List, Option, Some, None}
use Rattle.std.proofs.Common.{sym, subst, arith}
use Rattle.std.proofs.lemmas.Int.{ints, by_lt_z}
use Rattle.affine.specs.declared.interval.Side.{Side}
use Rattle.affine.specs.Affine.{Affine}
use Rattle.affine.specs.Box.{IsEmpty, IsRange}
use Rattle.nest.specs.Nests.{StaysBelow}
use Rattle.nest.specs.Leaves.{LeavesDimension}

-- the least and the greatest value are of the dimension
pub within : (box : List Side) (n : ℕ) (o : Option Affine) (f : Affine) (least greatest : ℤ) → o ≡ Some f → IsRange f box least greatest
    → (pos 0 ≤ℤ least) × (greatest <ℤ pos n) → StaysBelow box n o
within box n o f least greatest e range fits =
    subst (StaysBelow box n) (sym e) (λ values inside. let r = range.within values inside in (omega (arith, ints, r.0, fits.0), omega (arith, ints, r.1, fits.1)))

-- one of them is not
pub leaves : (box : List Side) (n : ℕ) (o : Option Affine) (f : Affine) (least greatest : ℤ) → o ≡ Some f → IsRange f box least greatest
    → ((pos 0 ≤ℤ least) × (greatest <ℤ pos n) → ⊥) → LeavesDimension box n o
leaves box n o f least greatest e range fits =
    subst (LeavesDimension box n) (sym e) (by_lt_z least (pos 0)
    (λ (below : least <ℤ pos 0). let low = range.least_reached in (low.values, low.inside, λ h. let gives = low.gives in let above = h.0 in absurd (omega (arith, ints, gives, above, below))))
    (λ (above : pos 0 ≤ℤ least). let high = range.greatest_reached in (high.values, high.inside, λ h. fits (above, subst (λ v. v <ℤ pos n) high.gives h.1))))

-- an empty box has no value
pub never : (box : List Side) (n : ℕ) (o : Option Affine) (f : Affine) → o ≡ Some f → IsEmpty box → StaysBelow box n o
never box n o f e (x, none) =
    subst (StaysBelow box n) (sym e) (λ values inside. let h = inside x in let low = h.above in let high = h.below in absurd (omega (arith, ints, low, high, none)))

-- what a range says of a dimension
abbrev pub RangeTells : Option (ℤ × ℤ) → ℕ → Bool → Type 0
RangeTells range n b = MatchOption range (IsTrue b) (λ ends. IsTrue b ↔ (pos 0 ≤ℤ ends.0) × (ends.1 <ℤ pos n))

-- the range of a form, found over the box, decides
pub decided : (box : List Side) (n : ℕ) (o : Option Affine) (f : Affine) (range : Option (ℤ × ℤ)) (b : Bool) → o ≡ Some f → (IsNone range ↔ IsEmpty box)
    → IfSome range (λ ends. IsRange f box ends.0 ends.1) → RangeTells range n b → b ≡ true → StaysBelow box n o
decided box n o f None b e empty exact tells is = never box n o f e (empty.0 cc)
decided box n o f (Some (least, greatest)) b e empty exact tells is = within box n o f least greatest e exact (tells.0 (subst IsTrue (sym is) cc))

no_true : (b : Bool) → b ≡ false → IsTrue b → ⊥
no_true b e h = let t : b ≡ true = h in absurd cc

pub refused : (box : List Side) (n : ℕ) (o : Option Affine) (f : Affine) (range : Option (ℤ × ℤ)) (b : Bool) → o ≡ Some f
    → IfSome range (λ ends. IsRange f box ends.0 ends.1) → RangeTells range n b → b ≡ false → LeavesDimension box n o
refused box n o f None b e exact tells is = let t : b ≡ true = tells in absurd cc
refused box n o f (Some (least, greatest)) b e exact tells is = leaves box n o f least greatest e exact (λ fits. no_true b is (tells.1 fits))
