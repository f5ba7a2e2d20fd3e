use Rattle.outline.proofs.Found.{HasLineIn}
use Rattle.outline.proofs.lines.+line.Given as goal

-- the items so far, and those that are left
abbrev pub invariant-has_line_among-loop-inner : goal.invariant-has_line_among-loop-inner
invariant-has_line_among-loop-inner l = HasLineIn l.items l.inner-index l.found
