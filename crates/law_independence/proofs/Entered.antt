-- The canonical loops of loops that were entered, and the lists in which they stand.
use Rattle.std.specs.Prelude.{ℕ, ◌≡◌, ◌+◌, ◌-◌, List, [], ◌∷◌, ◌++◌, length, map, reverse, take, drop}
use Rattle.std.proofs.Common.{refl, sym, ap, ◌∙◌, arith}
use Rattle.std.proofs.Math.Seq.{take-append_seam, drop-append_seam}
use Rattle.std.proofs.lemmas.List.{append_assoc, length-append, length-map, map-append, reverse-append, length-reverse}
use Rattle.semantics.specs.Loops.Nest.{Loop}
use Rattle.nest_loop.specs.declared.head.Canonical.{Canonical}
use Rattle.pairtest_counter.specs.declared.level.EnclosingLoop.{EnclosingLoop}
use Rattle.pairtest_counter.specs.Levels.{Nesting}
use Rattle.pairtest_access.specs.Found.{inner_loops}
use Rattle.deptest_verdict.specs.Refused.{serial_loops, nest_loops}
use Rattle.law_turns.specs.Turns.{AreEntered}
use Rattle.law_turns.proofs.Iterating.{nested}

-- the canonical loops that were entered, the outermost first
abbrev pub entered_loops : (hs : List Loop) (before after : Nesting) → AreEntered before hs after → List Canonical
entered_loops [] before after entered = []
entered_loops (h ∷ hs) before after (s, v, is, level, rest) = v.canonical ∷ entered_loops hs (nested before s v) after rest

-- of some levels their loops
abbrev pub loops_of : List EnclosingLoop → List Canonical
loops_of levels = map (λ v. v.canonical) levels

-- the levels that were entered stand in front of those before
pub record AreInFront (before after : Nesting) (ls : List Canonical) : Type 0 where
  pub front : List EnclosingLoop
  pub levels : after.levels ≡ front ++ before.levels
  pub are : loops_of (reverse front) ≡ ls

pub entered_front : (hs : List Loop) (before after : Nesting) (entered : AreEntered before hs after) → AreInFront before after (entered_loops hs before after entered)
entered_front [] before after entered = record { front = []; levels = ap (λ (n : Nesting). n.levels) (sym entered); are = refl }
entered_front (h ∷ hs) before after (s, v, is, level, rest) =
    let f = entered_front hs (nested before s v) after rest in
    record {
      front = f.front ++ (v ∷ []);
      levels = f.levels ∙ sym (append_assoc f.front (v ∷ []) before.levels);
      are = ap loops_of (reverse-append f.front (v ∷ [])) ∙ ap (λ (ls : List Canonical). v.canonical ∷ ls) f.are;
    }

-- the loops that were entered are those inside the ones before
pub inner_are : (hs : List Loop) (before after : Nesting) (entered : AreEntered before hs after) → map (λ v. v.canonical) (inner_loops (length before.levels) after.levels) ≡ entered_loops hs before after entered
inner_are hs before after entered =
    let f = entered_front hs before after entered in
    let count : length (f.front ++ before.levels) - length before.levels ≡ length f.front =
    ap (λ n. n - length before.levels) (length-append f.front before.levels) ∙ less (length f.front) (length before.levels) in
    ap (λ (vs : List EnclosingLoop). loops_of (reverse (take (length vs - length before.levels) vs))) f.levels
    ∙ ap (λ n. loops_of (reverse (take n (f.front ++ before.levels)))) count
    ∙ ap (λ (vs : List EnclosingLoop). loops_of (reverse vs)) (take-append_seam f.front before.levels)
    ∙ f.are
  where
    less : (a b : ℕ) → (a + b) - b ≡ a
    less a b = omega arith

-- all loops, the outermost first, are those before and those that were entered
all_are : (hs : List Loop) (before after : Nesting) (entered : AreEntered before hs after)
    → loops_of (reverse after.levels) ≡ loops_of (reverse before.levels) ++ entered_loops hs before after entered
all_are hs before after entered =
    let f = entered_front hs before after entered in
    ap (λ (vs : List EnclosingLoop). loops_of (reverse vs)) f.levels
    ∙ ap loops_of (reverse-append f.front before.levels)
    ∙ map-append (λ v. v.canonical) (reverse before.levels) (reverse f.front)
    ∙ ap (λ (ls : List Canonical). loops_of (reverse before.levels) ++ ls) f.are

so_many : (levels : List EnclosingLoop) → length levels ≡ length (loops_of (reverse levels))
so_many levels = sym (length-map (reverse levels) (λ v. v.canonical) ∙ length-reverse levels)

-- those before are the first, and the others are those that were entered
pub serial_are : (hs : List Loop) (before after : Nesting) → AreEntered before hs after → serial_loops (length before.levels) after ≡ loops_of (reverse before.levels)
serial_are hs before after entered =
    let ls = entered_loops hs before after entered in
    ap (take (length before.levels)) (all_are hs before after entered)
    ∙ ap (λ n. take n (loops_of (reverse before.levels) ++ ls)) (so_many before.levels)
    ∙ take-append_seam (loops_of (reverse before.levels)) ls

pub nest_are : (hs : List Loop) (before after : Nesting) (entered : AreEntered before hs after) → nest_loops (length before.levels) after ≡ entered_loops hs before after entered
nest_are hs before after entered =
    let ls = entered_loops hs before after entered in
    ap (drop (length before.levels)) (all_are hs before after entered)
    ∙ ap (λ n. drop n (loops_of (reverse before.levels) ++ ls)) (so_many before.levels)
    ∙ drop-append_seam (loops_of (reverse before.levels)) ls

-- those of no loops at all are all that were entered
pub first_are : (hs : List Loop) (before after : Nesting) (entered : AreEntered before hs after) → before.levels ≡ [] → loops_of (reverse after.levels) ≡ entered_loops hs before after entered
first_are hs before after entered none =
    all_are hs before after entered ∙ ap (λ (vs : List EnclosingLoop). loops_of (reverse vs) ++ entered_loops hs before after entered) none
