use Rattle.team.proofs.waving.reach_nest.Goals as goal

pub returns-clause-by : goal.returns-clause-by
returns-clause-by c =
    record {
      loops = c.fixed_space-space.ensures.loops;
      of = c.fixed_space-space.ensures.iterations c.in_ok-registers.registers.items;
      few = c.confirm_few.ensures;
    }
