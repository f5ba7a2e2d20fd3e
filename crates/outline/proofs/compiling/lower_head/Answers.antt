use Rattle.outline.proofs.compiling.lower_head.Goals as goal

pub returns-clause-ok : goal.returns-clause-ok
returns-clause-ok c all = record {
  entry = c.in_ok-entry.ensures.ok all;
  test = c.in_ok-test.ensures.ok;
  step = c.in_ok-step.ensures.ok;
}
