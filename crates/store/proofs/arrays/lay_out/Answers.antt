use Rattle.std.proofs.Common.{◌≡◌, ◌+◌, ◌++◌, List, [], ◌∷◌, rules, ap, sym, subst, refl, ◌∙◌}
use Rattle.store.specs.Placing.{Lie}
use Rattle.store.specs.declared.arrays.Placed.{Placed}
use Rattle.store.proofs.Laid.{lie_push, shapes_push}
use Rattle.store.proofs.arrays.lay_out.Goals as goal

pub loop-shape-preserved : goal.loop-shape-preserved
loop-shape-preserved c =
    let p : Placed = record { shape = c.in-Some.shape; first = c.loop-shape.first } in
    let ps = c.loop-shape.places.items in
    let end : c.in-Some-checked_add.end ≡ c.loop-shape.first + c.in-Some.shape.count = search rules in
    rw c.in_ok-push.ensures.items (
      subst (λ n. Lie 0 (ps ++ p ∷ []) n) (sym end) (lie_push 0 c.loop-shape.first ps p c.loop-shape.invariant.0 refl),
      shapes_push ps p ∙ ap (λ (l : List _). l ++ p.shape ∷ []) c.loop-shape.invariant.1,
    )
