use Rattle.std.proofs.Common.{◌≡◌, ◌≤◌, length, ap, ◌∙◌, rules, arith}
use Rattle.std.proofs.lemmas.Option.{slice_get_read}
use Rattle.semantics.specs.Source.Text.{first_line}
use Rattle.pragma.specs.Lines.{line_starts}
use Rattle.pragma.proofs.ReadingLaw.{line_added, is_line_from, all_read}
use Rattle.pragma.proofs.lines.Directives.read.Goals as goal

pub loop-index-preserved : goal.loop-index-preserved
loop-index-preserved c =
    let starts : c.deref-start-items.result.now ≡ line_starts c.args.text.now = c.deref-start-items.ensures.value ∙ c.in_ok-starts.ensures in
    let line = is_line_from c.args.text.now c.deref-start-items.result.now c.first_line.result.now c.loop-index.index _ starts (search (rules, slice_get_read)) (c.first_line.ensures.exact ∙ ap first_line c.behind.ensures) in
    line_added c.args.text.now c.first_line.result.now c.loop-index.lines.items c.loop-index.index line c.loop-index.invariant c.add_line.new.lines.items c.in_ok-add_line.ensures.ok

pub invariant_of-result : goal.invariant_of-result
invariant_of-result c =
    let starts : c.deref-start-items.result.now ≡ line_starts c.args.text.now = c.deref-start-items.ensures.value ∙ c.in_ok-starts.ensures in
    let end : length c.deref-start-items.result.now ≤ c.loop-index.index = search (rules, arith) in
    all_read c.args.text.now c.deref-start-items.result.now c.loop-index.lines.items c.loop-index.index starts end c.loop-index.invariant
