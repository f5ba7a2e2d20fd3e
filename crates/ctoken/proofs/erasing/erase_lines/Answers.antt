use Rattle.std.proofs.Common.{◌++◌, ◌∙◌, ap}
use Rattle.semantics.specs.Source.Text.{erase}
use Rattle.std.proofs.lemmas.List.{nil_from_length}
use Rattle.ctoken.proofs.EraseLaw.{erase_end, erase_step}
use Rattle.ctoken.proofs.erasing.erase_lines.Goals as goal

pub returns-in_default : goal.returns-in_default
returns-in_default c = erase_end (erase c.args.text.now) c.loop-kept.kept.items _ c.loop-kept.rest.now c.first_line-line.result.now c.loop-kept.invariant c.first_line-line.ensures.exact c.in_ok-keep_line.ensures (nil_from_length _ c.in_default.ensures.cases)

pub loop-kept-preserved : goal.loop-kept-preserved
loop-kept-preserved c = ap (λ xs. xs ++ erase c.in-Some.more.now) c.in_ok-push.ensures.items ∙ (erase_step (erase c.args.text.now) c.loop-kept.kept.items _ c.loop-kept.rest.now c.first_line-line.result.now c.in-Some.more.now c.in-Some._line_end.now c.loop-kept.invariant c.first_line-line.ensures.exact c.in_ok-keep_line.ensures c.in-Some.ensures.cases.0)
