-- The turns of loops that rise.
use Rattle.std.specs.Prelude.{◌≡◌, ◌≤◌, ◌↔◌, ℤ, List, [], ◌∷◌, All}
use Rattle.std.specs.List.{AllByRecursion}
use Rattle.std.proofs.Common.{sym, ap, ◌∙◌, subst}
use Rattle.std.proofs.lemmas.List.Elements.{All-cons, All-from_recursion, recursion_from_All}
use Rattle.semantics.specs.Tree.{Variable}
use Rattle.nest_loop.specs.declared.head.Canonical.{Canonical}
use Rattle.nest_loop.specs.declared.stride.Stride.{Stride}
use Rattle.nest_loop.specs.declared.stride.Direction.TheVariants.{Rising}
use Rattle.nest_space.specs.Space.{Turns}
use Rattle.nest_space.specs.Nests.{AreRunsOf}
use Rattle.nest_space.specs.Rises.{EachRises, HeadsRise}

-- one after another
each_rises : (ls : List Canonical) (values : Variable → ℤ) (ts : List Turns) → AreRunsOf ls values ts → AllByRecursion (λ (l : Canonical). l.stride.direction ≡ Rising) ls → EachRises ts
each_rises [] values [] runs rise = tt
each_rises [] values (t ∷ ts) runs rise = absurd runs
each_rises (l ∷ ls) values [] runs rise = absurd runs
each_rises (l ∷ ls) values (t ∷ ts) runs rise =
    (ap (λ (s : Stride). s.direction) runs.0.stride ∙ rise.0, subst (λ (s : Stride). 1 ≤ s.by) (sym runs.0.stride) runs.0.least, each_rises ls values ts runs.1 rise.1)

-- loops that rise wherever they are reached have turns that do
pub runs_rise : (ls : List Canonical) (values : Variable → ℤ) (ts : List Turns) → AreRunsOf ls values ts → HeadsRise ls → EachRises ts
runs_rise ls values ts runs rise = each_rises ls values ts runs (recursion_from_All (λ (l : Canonical). l.stride.direction ≡ Rising) ls rise)

-- what holds of each loop, with one more in front of which it holds
pub each_more : (P : Canonical → Type 0) (r : Type 0) (ls : List Canonical) (l : Canonical) (rest : List Canonical) → ls ≡ l ∷ rest → P l → r ↔ All P rest → r ↔ All P ls
each_more P r ls l rest is first others =
    subst (λ (xs : List Canonical). r ↔ All P xs) (sym is) (
      λ holds. All-cons P l rest first (others.0 holds),
      λ all. others.1 (All-from_recursion P rest (recursion_from_All P (l ∷ rest) all).1),
    )
