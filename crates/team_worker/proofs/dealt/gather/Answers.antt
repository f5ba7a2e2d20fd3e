use Rattle.std.proofs.Common.{◌≡◌, ◌≤◌, ℕ, suc, List, [], ◌∷◌, ◌++◌, length, vec_len, flat_map, sym, ap, ◌∙◌, subst, append_assoc, length-append, arith}
use Rattle.semantics.specs.Meaning.Places.{below}
use Rattle.team_worker.specs.declared.way.Way.TheVariants.{Dealt}
use Rattle.team_worker.specs.declared.place.End.TheVariants.{Share}
use Rattle.team_worker.specs.Ends.{IsAccount}
use Rattle.team_worker.specs.Dealt.{own_numbers}
use Rattle.team_log.specs.Logged.{joined}
use Rattle.team_worker.specs.Places.{Aim, IsEndBy}
use Rattle.team_worker.proofs.Dealing.{dealt_more}
use Rattle.team_worker.proofs.Ending.{place_of, all_yielded}
use Rattle.team_worker.proofs.Accounts.{joined_more}
use Rattle.team_worker.proofs.dealt.gather.Goals as goal

pub loop-place-preserved : goal.loop-place-preserved
loop-place-preserved c =
    let ys = c.loop-place.yielded in
    let was = c.loop-place.invariant in
    let place = c.in-Some.place in
    let log = c.in-Some-share.log in
    let whole = ap (λ (r : List Aim). ys ++ r) (sym c.in-Some.ensures.steps.0) ∙ was.whole in
    let long : length (ys ++ place ∷ []) ≡ suc (length ys) = omega (arith, length-append ys (place ∷ [])) in
    record {
      whole = append_assoc ys (place ∷ []) _ ∙ whole;
      room = subst (λ (n : ℕ). vec_len c.args.places ≤ n) (sym c.push_reserved.ensures.capacity) was.room;
      many = omega arith;
      dealt = λ aim size way are.
          let here = place_of aim ys _ c.args.places.items place whole are in
          let own = own_numbers size (length aim.chunks) aim.workers in
          let last : IsAccount aim.lowered aim.registers aim.store aim.pass aim.chunks (own (length ys)) log.value
          = subst (λ (a : Aim). IsEndBy a (Dealt size) (Share log)) here (c.in-Some-share.ensures size (ap (λ (a : Aim). a.way) here ∙ way)) in
          let taken = subst (IsAccount aim.lowered aim.registers aim.store aim.pass aim.chunks (own (length ys))) (sym c.into_inner.ensures) last in
          dealt_more aim.lowered aim.registers aim.store aim.pass aim.chunks own (length ys) (length (ys ++ place ∷ [])) (joined c.loop-place.logs.items) c.into_inner.result _ long (joined_more c.loop-place.logs.items c.push_reserved.new.self.items c.into_inner.result c.push_reserved.ensures.items) (was.dealt aim size way are) taken;
    }

pub returns-clause-dealt : goal.returns-clause-dealt
returns-clause-dealt c = λ aim size way are.
    let was = c.loop-place.invariant in
    let count : length c.loop-place.yielded ≡ vec_len c.args.places
    = all_yielded c.loop-place.yielded c.loop-place.place-iterator.rest.items c.args.places.items c.loop-place.place-iterator.rest.len (vec_len c.args.places) was.whole c.loop-place.place-iterator.rest.ok.0 c.in-None.ensures.steps.0 c.args.places.ok.0 in
    subst (λ (n : ℕ). IsAccount aim.lowered aim.registers aim.store aim.pass aim.chunks (flat_map (own_numbers size (length aim.chunks) aim.workers) (below n)) (joined c.loop-place.logs.items)) count (was.dealt aim size way are)
