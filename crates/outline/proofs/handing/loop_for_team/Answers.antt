use Rattle.std.specs.Prelude.{ℕ}
use Rattle.std.proofs.Common.{refl, sym, subst}
use Rattle.ktree.specs.View.{stmt_of}
use Rattle.nest.specs.Perfect.{IsRightNest}
use Rattle.outline.specs.Handed.{IsWay, inside_told}
use Rattle.outline.proofs.handing.loop_for_team.Goals as goal

pub lower_whole-requires : goal.lower_whole-requires
lower_whole-requires c = record {
  nest = subst (λ (n : ℕ). IsRightNest c.args.bounds.now n (stmt_of c.args.stmt.now)) (sym c.depth_of-depth.ensures.value) (c.requires.nest c.loop_at-parallel.result.now c.loop_at-parallel.ensures);
  few = c.depth_of-depth.ensures.few;
  places = c.requires.places;
}

pub way_of-requires : goal.way_of-requires
way_of-requires c = record {
  nest = subst (λ (n : ℕ). IsRightNest c.args.bounds.now n (stmt_of c.args.stmt.now)) (sym c.depth_of-depth.ensures.value) (c.requires.nest c.loop_at-parallel.result.now c.loop_at-parallel.ensures);
  few = c.depth_of-depth.ensures.few;
  places = c.requires.places;
}

pub returns-clause-handed : goal.returns-clause-handed
returns-clause-handed c = record {
  parallel = c.loop_at-parallel.result.now;
  stands = c.loop_at-parallel.ensures;
  statement = refl;
  at = refl;
  depth = c.depth_of-depth.ensures.value;
  schedule = c.in_ok-lowered.ensures.schedule;
  way =
      subst (λ (line : ℕ). IsWay c.args.target.layout.now c.args.target.registers c.args.bounds.now (inside_told c.args.loops) line c.depth_of-depth.result (stmt_of c.args.stmt.now) c.loop_at-parallel.result.now.roles c.in_ok-way.way)
      c.loop_at-parallel.ensures.1 c.in_ok-way.ensures.way;
  lowered = c.in_ok-lowered.ensures.lowered;
  body = c.in_ok-lowered.ensures.body;
  code = c.in_ok-code.ensures.ok;
}
