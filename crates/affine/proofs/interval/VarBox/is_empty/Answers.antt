use Rattle.std.proofs.Common.{◌≡◌, ◌<◌, ℕ, false, true, List, length, get_or, sym, subst, ◌∙◌, ap, arith}
use Rattle.affine.specs.declared.interval.Side.{Side}
use Rattle.affine.specs.Box.{HasNone, interval_at}
use Rattle.affine.proofs.Ranges.{not_empty}
use Rattle.affine.proofs.interval.VarBox.is_empty.Goals as goal

pub returns : goal.returns
returns c =
    let items = c.deref-side-items.ensures ∙ c.self.view_is in
    let some : (k : ℕ) (d : Side) → k < length c.args.self.now → ¬ (HasNone (interval_at c.args.self.now (get_or c.args.self.now k d).variable.0)) =
    λ k d l n.
    let there : k < length c.deref-side-items.result.now = omega (arith, ap length items) in
    c.loop-side.invariant k d (omega arith) (subst (λ (ss : List Side). HasNone (interval_at c.args.self.now (get_or ss k d).variable.0)) (sym items) n) in
    (λ t. let e : false ≡ true = t in cc, λ e. absurd (not_empty c.args.self.now some e))
