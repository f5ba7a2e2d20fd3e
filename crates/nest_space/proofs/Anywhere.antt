-- Loops between numbers run alike wherever they are reached.
use Rattle.std.specs.Prelude.{◌≡◌, ℤ, List, [], ◌∷◌}
use Rattle.std.specs.List.{AllByRecursion}
use Rattle.std.proofs.Common.{sym, ◌∙◌, subst}
use Rattle.std.proofs.lemmas.List.Elements.{recursion_from_All}
use Rattle.semantics.specs.Tree.{Variable}
use Rattle.affine.specs.Affine.{Affine, value}
use Rattle.nest_loop.specs.declared.head.Canonical.{Canonical}
use Rattle.nest_loop.specs.Sides.{HasNumbers, IsModest, Room, IsCount, end_of}
use Rattle.nest_loop.proofs.Numbers.{number_value}
use Rattle.nest_space.specs.Space.{Turns}
use Rattle.nest_space.specs.Nests.{IsRunOf, AreRunsOf}
use Rattle.nest_space.specs.Fixed.{HaveNumbers}

-- a number without variables
pub number_anywhere : (f : Affine) (a b : Variable → ℤ) → f.terms ≡ [] → value f a ≡ value f b
number_anywhere f a b e = number_value f a e ∙ sym (number_value f b e)

-- one loop
pub run_anywhere : (l : Canonical) (a b : Variable → ℤ) (t : Turns) → HasNumbers l → IsRunOf l a t → IsRunOf l b t
run_anywhere l a b t numbers run =
    let p = number_anywhere l.start a b numbers.start in
    let q = number_anywhere l.limit a b numbers.limit in
    let e = number_anywhere (end_of l) a b numbers.limit in
    record {
      stays = record {
        start = subst IsModest p run.stays.start;
        limit = subst IsModest q run.stays.limit;
        room = subst (λ z. Room l.stride.direction l.bound l.stride.by z (value l.limit b)) p (subst (λ z. Room l.stride.direction l.bound l.stride.by (value l.start a) z) q run.stays.room);
      };
      least = run.least;
      stride = run.stride;
      first = sym p ∙ run.first;
      count = subst (λ z. IsCount l.stride z (value (end_of l) b) t.count) p (subst (λ z. IsCount l.stride (value l.start a) z t.count) e run.count);
    }

-- and all of a nest
each_anywhere : (ls : List Canonical) (a b : Variable → ℤ) (ts : List Turns) → AllByRecursion HasNumbers ls → AreRunsOf ls a ts → AreRunsOf ls b ts
each_anywhere [] a b [] numbers runs = tt
each_anywhere [] a b (t ∷ ts) numbers runs = absurd runs
each_anywhere (l ∷ ls) a b [] numbers runs = absurd runs
each_anywhere (l ∷ ls) a b (t ∷ ts) numbers runs = (run_anywhere l a b t numbers.0 runs.0, each_anywhere ls a b ts numbers.1 runs.1)

pub runs_anywhere : (ls : List Canonical) (a b : Variable → ℤ) (ts : List Turns) → HaveNumbers ls → AreRunsOf ls a ts → AreRunsOf ls b ts
runs_anywhere ls a b ts numbers runs = each_anywhere ls a b ts (recursion_from_All HasNumbers ls numbers) runs
