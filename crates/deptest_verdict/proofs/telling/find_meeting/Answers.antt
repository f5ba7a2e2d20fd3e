use Rattle.std.specs.Prelude.{take, drop}
use Rattle.std.proofs.Common.{◌≡◌, rules}
use Rattle.std.proofs.lemmas.List.{take_min, drop_min}
use Rattle.deptest_verdict.proofs.Verdicts.{never_as}
use Rattle.deptest_verdict.proofs.telling.find_meeting.Goals as goal

pub returns-clause-none : goal.returns-clause-none
returns-clause-none c =
    let front : c.split_at.result.0.now ≡ take c.args.outer c.args.loops.now = search (rules, take_min) in
    let back : c.split_at.result.1.now ≡ drop c.args.outer c.args.loops.now = search (rules, drop_min) in
    never_as c.in_ok-first_meeting.field-0 _ _ _ _ _ _ _ _ _ _ _ _ front back c.as_slice.ensures.value c.as_slice-2.ensures.value c.as_slice-3.ensures.value c.as_slice-4.ensures.value c.in_ok-first_meeting.ensures.none
