use Rattle.std.proofs.Common.{◌<◌, List, length, sym, ap, subst, ◌∙◌, arith}
use Rattle.std.specs.Global.{Vec}
use Rattle.std.proofs.lemmas.Result.{on_ok_weaker}
use Rattle.store.specs.Flat.{values_of}
use Rattle.team_log.specs.Applied.{AreApplied}
use Rattle.team_log.specs.Logged.{Account, joined}
use Rattle.team_worker.specs.declared.place.Place.{Place}
use Rattle.team_worker.specs.Places.{AreLeft, places_of}
use Rattle.team_worker.proofs.Overwriting.{overwritten_all}
use Rattle.team_worker.proofs.places.apply_left.Goals as goal

pub returns-in-Dealt-clause-applied : goal.returns-in-Dealt-clause-applied
returns-in-Dealt-clause-applied c =
    let size = c.in-Dealt.field-0 in
    let is = c.in-Dealt.is in
    let places = c.args.spare.now.places.items in
    let before = values_of c.args.store.now in
    let after = values_of c.apply_dealt.new.store in
    on_ok_weaker c.apply_dealt.result (λ dealt aim n left.
    let least = left.some in
    let some : 0 < aim.workers = omega arith in
    overwritten_all aim size n (length places) before after (left.comes.cut size is) some (left.all ∙ ap (λ way. places_of way (length aim.chunks) aim.workers) is) (dealt aim size (left.way_is ∙ is) left.made)) c.apply_dealt.ensures.dealt

pub logs_left-requires : goal.logs_left-requires
logs_left-requires c =
    let aim = c.requires.0 in
    let n = c.requires.1 in
    (aim, n, subst (λ (ps : Vec Place). AreLeft aim n c.args.way ps.items) (sym c.replace-places.ensures.value) c.requires.2)

pub returns-clause-applied : goal.returns-clause-applied
returns-clause-applied c = λ aim n left.
    let logs = c.in-Ok.logs.items in
    let before = values_of c.args.store.now in
    let after = values_of c.apply_all.new.store in
    let taken = subst (λ (ps : Vec Place). AreLeft aim n c.args.way ps.items) (sym c.replace-places.ensures.value) left in
    record {
      account = joined logs;
      all = c.in-Ok.ensures.all aim n taken;
      applied = subst (λ (ls : List Account). AreApplied before after (joined ls).chunks) c.as_slice.ensures.value c.apply_all.ensures.applied;
    }
