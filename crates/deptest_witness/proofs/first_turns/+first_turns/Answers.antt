use Rattle.std.proofs.Common.{arith, ◌∷◌, [], ◌++◌, subst, sym, rules, List, IfOk}
use Rattle.nest_loop.specs.declared.head.Canonical.{Canonical}
use Rattle.nest_space.specs.Nests.{given, AreModest, IsRunOf}
use Rattle.deptest_witness.specs.Touching.{holding}
use Rattle.deptest_witness.proofs.Entering.{modest_more, first_modest, first_step, FoundTurns}
use Rattle.deptest_witness.proofs.first_turns.+first_turns.Goals as goal

pub first_turns-requires : goal.first_turns-requires
first_turns-requires t c = (
  search rules,
  subst AreModest (sym c.in_ok-push.ensures.items)
      (modest_more c.args.values.items (holding c.in-Some.first.now c.value.result ∷ []) c.requires
      (first_modest c.in-Some.first.now (given c.deref.result.now) c.in-Some-turns_at.turns c.value.result c.in-Some-turns_at.ensures c.value.ensures, tt)),
)

pub returns-clause-turns : goal.returns-clause-turns
returns-clause-turns t c =
    let run : IsRunOf c.in-Some.first.now (given c.args.values.items) c.in-Some-turns_at.turns =
    subst (λ vs. IsRunOf c.in-Some.first.now (given vs) c.in-Some-turns_at.turns) c.deref.ensures.value c.in-Some-turns_at.ensures in
    let inner = subst (λ vs. IfOk c.first_turns.result (FoundTurns c.in-Some.rest.now vs)) {y = c.args.values.items ++ (holding c.in-Some.first.now c.value.result ∷ [])} c.in_ok-push.ensures.items c.first_turns.ensures.turns in
    subst (λ (ls : List Canonical). IfOk c.first_turns.result (FoundTurns ls c.args.values.items)) {y = c.args.loops.now} (sym c.in-Some.ensures.cases.0)
    (first_step c.in-Some.first.now c.in-Some.rest.now c.args.values.items c.in-Some-turns_at.turns c.value.result c.first_turns.result run (omega arith) c.value.ensures inner)
