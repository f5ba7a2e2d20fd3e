use Rattle.std.proofs.Common.{◌∷◌, refl, sym, ap, ◌∙◌}
use Rattle.semantics.specs.Tree
use Rattle.ktree.specs.View.{items_of}
use Rattle.ktree.specs.declared.statement.Item.{Item}
use Rattle.law_lines.specs.Without.{without_among}
use Rattle.pragma_region.specs.Regions.{is_left_out}
use Rattle.pragma_region.proofs.Lines.{all_items, kept_more, line_kept, none_left}
use Rattle.pragma_region.proofs.dissolving.+statement.Goals as goal

pub items_without-loop-item-preserved-in_ok-push-in-Directive : goal.items_without-loop-item-preserved-in_ok-push-in-Directive
items_without-loop-item-preserved-in_ok-push-in-Directive n c =
    let out = is_left_out c.args.directives.now in
    let left = c.in-Some.ensures.steps.0 ∙ ap (λ (i : Item). i ∷ c.next.new.self.rest.items) c.in-Directive.is in
    kept_more out _ _ _ _ _ _ _ left c.in_ok-push-in-Directive.ensures.items (line_kept out c.in-Directive.place.line (items_of c.next.new.self.rest.items) (sym c.is_left_out.ensures ∙ c.if-not-is_left_out.true)) c.loop-item.invariant

pub items_without-loop-item-preserved-in_ok-push-in-Local : goal.items_without-loop-item-preserved-in_ok-push-in-Local
items_without-loop-item-preserved-in_ok-push-in-Local n c =
    let left = c.in-Some.ensures.steps.0 ∙ ap (λ (i : Item). i ∷ c.next.new.self.rest.items) c.in-Local.is in
    kept_more (is_left_out c.args.directives.now) _ _ _ _ _ _ _ left c.in_ok-push-in-Local.ensures.items refl c.loop-item.invariant

pub items_without-loop-item-preserved : goal.items_without-loop-item-preserved
items_without-loop-item-preserved n c =
    let out = is_left_out c.args.directives.now in
    let left = c.in-Some.ensures.steps.0 ∙ ap (λ (i : Item). i ∷ c.next.new.self.rest.items) c.in-Statement.is in
    let behind = without_among out (items_of c.next.new.self.rest.items) in
    kept_more out _ _ _ _ _ _ _ left c.in_ok-push-in-Statement.ensures.items (ap (λ s. Tree.stmt s behind) (sym c.in_ok-boxed_without-in-Statement.ensures)) c.loop-item.invariant

pub items_without-returns : goal.items_without-returns
items_without-returns n c =
    let rest = c.loop-item.item-iterator.rest in
    sym (all_items c.loop-item.kept.items) ∙ none_left (is_left_out c.args.directives.now) c.loop-item.kept.items rest.items _ (sym rest.ok.0 ∙ c.in-None.ensures.steps.0) c.loop-item.invariant
