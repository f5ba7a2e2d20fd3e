use Rattle.std.proofs.Common.{◌≡◌, ◌==◌, pos, List, Some, sym, ◌∙◌, ap, get_or}
use Rattle.std.specs.Prelude.{position}
use Rattle.affine.specs.declared.interval.Side.{Side}
use Rattle.affine.specs.Box.{side}
use Rattle.affine.proofs.Lookups.{interval_at-Some, interval_at-None}
use Rattle.affine.proofs.interval.VarBox.interval.Goals as goal

pub returns-in-Some-clause-value : goal.returns-in-Some-clause-value
returns-in-Some-clause-value c =
    let p = λ (ss : List Side). position (λ s. s.variable.0 == c.args.variable.0) ss in
    let d = side 0 (pos 0) (pos 0) in
    let at : p c.args.self.now ≡ Some c.in-Some.at = sym (c.in-Some.ensures ∙ ap p (c.as_slice.ensures ∙ c.self.view_is)) in
    ap (λ (ss : List Side). (get_or ss c.in-Some.at d).interval) (c.deref.ensures ∙ c.self.view_is)
    ∙ sym (interval_at-Some c.args.variable.0 c.args.self.now c.in-Some.at d at)

pub returns-in-None-clause-value : goal.returns-in-None-clause-value
returns-in-None-clause-value c =
    let p = λ (ss : List Side). position (λ s. s.variable.0 == c.args.variable.0) ss in
    sym (interval_at-None c.args.variable.0 c.args.self.now (side 0 (pos 0) (pos 0)) (sym (c.in-None.ensures ∙ ap p (c.as_slice.ensures ∙ c.self.view_is))))
