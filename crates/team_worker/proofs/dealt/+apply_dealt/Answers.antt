use Rattle.std.proofs.Common.{◌≡◌, ℕ, suc, List, [], ◌∷◌, ◌++◌, length, flat_map, sym, ap, ◌∙◌, subst, length-append, arith}
use Rattle.semantics.specs.Meaning.Places.{below}
use Rattle.store.specs.Flat.{values_of}
use Rattle.team_worker.specs.declared.way.Way.TheVariants.{Dealt}
use Rattle.team_worker.specs.declared.place.End.TheVariants.{Share}
use Rattle.team_log.specs.Applied.{AreApplied}
use Rattle.team_worker.specs.Ends.{IsAccount}
use Rattle.team_worker.specs.Dealt.{own_numbers}
use Rattle.team_log.specs.Logged.{Account}
use Rattle.team_worker.specs.Overwritten.{AreOverwrittenBy}
use Rattle.team_worker.specs.Places.{Aim, IsEndBy}
use Rattle.team_worker.proofs.Ending.{place_of}
use Rattle.team_worker.proofs.Overwriting.{for_first, overwritten_none, overwritten_more}
use Rattle.team_worker.proofs.dealt.+apply_dealt.Goals as goal

pub returns-in_default-clause-dealt : goal.returns-in_default-clause-dealt
returns-in_default-clause-dealt t c = λ aim size way are.
    let places = c.args.places.now in
    let cells = values_of c.args.store.now in
    let long = places.ok.0 in
    let empty = c.in_default.ensures.cases.0 in
    let none : 0 ≡ length places.items = omega arith in
    subst (λ (n : ℕ). AreOverwrittenBy aim (flat_map (own_numbers size (length aim.chunks) aim.workers) (below n)) cells cells) none (overwritten_none aim cells)

pub returns-clause-dealt : goal.returns-clause-dealt
returns-clause-dealt t c = λ aim size way are.
    let all = c.args.places.now.items in
    let first = c.pop.new.self.items in
    let place = c.in-Some.place in
    let log = c.in-Some-share.log in
    let whole : all ≡ first ++ place ∷ [] = c.in-Some.ensures.items in
    let here = place_of aim first [] all place (sym whole) are in
    let own = own_numbers size (length aim.chunks) aim.workers in
    let last : IsAccount aim.lowered aim.registers aim.store aim.pass aim.chunks (own (length first)) log.value
    = subst (λ (a : Aim). IsEndBy a (Dealt size) (Share log)) here (c.in-Some-share.ensures size (ap (λ (a : Aim). a.way) here ∙ way)) in
    let long : length all ≡ suc (length first) = omega (arith, ap (λ (l : List Aim). length l) whole, length-append first (place ∷ [])) in
    overwritten_more aim own (length first) (length all) (values_of c.args.store.now) (values_of c.apply_dealt.new.store) (values_of c.apply.new.store) log.value long
    (c.in_ok-apply_dealt.ensures.dealt aim size way (for_first aim first all place whole are)) last (subst (λ (a : Account). AreApplied (values_of c.apply_dealt.new.store) (values_of c.apply.new.store) a.chunks) c.deref.ensures c.apply.ensures.applied)
