use Rattle.std.proofs.Common.{arith, rules, sym, ap, subst, ◌∙◌, ◌≡◌, ◌<◌, ◌≤◌, map, length, slice_get, Some, List, ℕ}
use Rattle.std.proofs.lemmas.List.{length_push}
use Rattle.nest_space.specs.Space.{vectors}
use Rattle.waves.specs.Table.{AreLevels}
use Rattle.waves.proofs.Known.{more_levels}
use Rattle.waves.proofs.leveling.levels_by.Goals.{After-fit}
use Rattle.waves.proofs.leveling.levels_by.Goals as goal

-- the iteration at hand
there : (c : After-fit) → slice_get (vectors c.args.space.now) c.loop-number._number ≡ Some c.loop-number.values
there c =
    let all : c.count-count.result ≡ length (vectors c.args.space.now) = c.count-count.ensures in
    c.loop-number.invariant.3 (subst (λ n. c.loop-number._number < n) all c.loop-number-test.true)

pub level_above-level-requires-clause-at : goal.level_above-level-requires-clause-at
level_above-level-requires-clause-at c =
    let here = (goal.at.level_above-level-requires-clause-at c).After-fit in
    ap (slice_get (vectors c.args.space.now)) (ap length c.deref.ensures.value ∙ c.loop-number.invariant.1) ∙ there here

pub level_above-level-requires-clause-levels : goal.level_above-level-requires-clause-levels
level_above-level-requires-clause-levels c =
    subst (AreLevels (vectors c.args.space.now) (map (λ d. d.items) c.args.distances.now)) (sym c.deref.ensures.value) c.loop-number.invariant.2

pub loop-number-preserved : goal.loop-number-preserved
loop-number-preserved c =
    let space = vectors c.args.space.now in
    let ds = map (λ d. d.items) c.args.distances.now in
    let before = c.loop-number.levels.items in
    let level = c.level_above-level.result in
    let same = c.loop-number.invariant.1 in
    let at = there (goal.at.loop-number-preserved c).After-fit in
    let most : level ≤ length before = subst (λ (xs : List ℕ). level ≤ length xs) c.deref.ensures.value c.level_above-level.ensures.small in
    let more = more_levels space ds before c.loop-number.values level c.loop-number.invariant.2 (ap (slice_get space) same ∙ at) c.level_above-level.ensures.level most c.fit.ensures in
    let one = length_push before level in (
      search rules,
      ap length c.in_ok-push.ensures.items ∙ omega (arith, one, same),
      subst (AreLevels space ds) (sym c.in_ok-push.ensures.items) more,
      λ lt. c.advance.ensures c.loop-number._number lt at,
    )
