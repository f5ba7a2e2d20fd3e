use Rattle.pairtest_counter.specs.Counters.{AreForms}
use Rattle.pairtest_counter.proofs.Converted.{none_within, only_memory}
use Rattle.pairtest_counter.proofs.chain.forms_within.Goals as goal

pub returns-in-Limit-clause-ok : goal.returns-in-Limit-clause-ok
returns-in-Limit-clause-ok c =
    none_within c.args.place (AreForms c.args.outer.now c.args.canonical.now) c.in-Err.refusal c.fault_of_refusal.result c.in-Limit.field-0 c.fault_of_refusal.ensures.memory c.in-Limit.is c.in-Err.ensures

pub returns-in_default-clause-err : goal.returns-in_default-clause-err
returns-in_default-clause-err c =
    only_memory c.args.place (AreForms c.args.outer.now c.args.canonical.now) c.in-Err.refusal c.fault_of_refusal.result c.fault_of_refusal.ensures.memory c.fault_of_refusal.ensures.limit c.in_default.not-Limit
    c.in-Err.ensures
