-- The shares of the first workers and those of the others are all.
use Rattle.std.proofs.Common.{◌≡◌, ◌+◌, ◌-◌, ◌*◌, ◌<◌, ℕ, List, ◌++◌, length, refl, ◌∙◌, subst, arith, rules}
use Rattle.std.proofs.iter.Serving.{serving}
use Rattle.team_in_place.specs.Scanning.{AreSharesDone, share_turns}
use Rattle.team_in_place.proofs.Shares.{cells_both, shares_join}
use Rattle.team_in_place.proofs.scan_sharing.+fn-scan_shares-join_mut+arg2+fn-scan_shares-join_mut+arg3+scan_shares.Goals as goal

pub split_at_mut-front-requires : goal.split_at_mut-front-requires
split_at_mut-front-requires g t c =
    let s = c.args.team.now.prefixes in
    let w = s.window.width in
    let workers = c.args.team.now.workers in
    let worker = c.args.worker in
    let x = c.shares_of_next-shares.result in
    let y = c.args.number - x in
    let both : w * share_turns c.args.team.now.head s.count workers worker c.args.number ≡ w * share_turns c.args.team.now.head s.count workers worker x + w * share_turns c.args.team.now.head s.count workers (worker + x) y =
    cells_both c.args.team.now.head s.count workers (omega (arith, c.requires.some, c.requires.workers)) worker x y w c.args.number c.shares_of_next-shares.ensures.others refl in
    omega (arith, both, c.cells_of.ensures, c.requires.own)

pub join_mut-done-requires-after_bounds : goal.join_mut-done-requires-after_bounds
join_mut-done-requires-after_bounds g t c κs within =
    let s = c.args.team.now.prefixes in
    let w = s.window.width in
    let workers = c.args.team.now.workers in
    let worker = c.args.worker in
    let x = c.shares_of_next-shares.result in
    let y = c.args.number - x in
    let both : w * share_turns c.args.team.now.head s.count workers worker c.args.number ≡ w * share_turns c.args.team.now.head s.count workers worker x + w * share_turns c.args.team.now.head s.count workers (worker + x) y =
    cells_both c.args.team.now.head s.count workers (omega (arith, c.requires.some, c.requires.workers)) worker x y w c.args.number c.shares_of_next-shares.ensures.others refl in
    let front : length c.split_at_mut-front.result.0.now ≡ w * share_turns c.args.team.now.head s.count workers worker x = c.split_at_mut-front.ensures.front_len ∙ c.cells_of.ensures in
    let back : length c.split_at_mut-front.result.1.now ≡ w * share_turns c.args.team.now.head s.count workers (worker + x) y = omega (arith, both, c.split_at_mut-front.ensures.back_len, c.requires.own, c.cells_of.ensures) in
    grind serving

pub returns : goal.returns
returns g t c =
    let s = c.args.team.now.prefixes in
    let workers = c.args.team.now.workers in
    let worker = c.args.worker in
    let x = c.shares_of_next-shares.result in
    let y = c.args.number - x in
    let front = c.split_at_mut-front.result.0.now in
    let back = c.split_at_mut-front.result.1.now in
    let front' = c.front-1.given.0 in
    let back' = c.back-1.given.0 in
    let starts = c.split_at.result.0.now in
    let starts' = c.split_at.result.1.now in
    let rs = c.in_ok-done.field-0.items in
    let rs' = c.in_ok-registers.registers.items in
    let all : x + y ≡ c.args.number = omega (arith, c.shares_of_next-shares.ensures.others) in
    let more : 0 < y = omega (arith, c.shares_of_next-shares.ensures.others) in
    let long : length front ≡ s.window.width * share_turns c.args.team.now.head s.count workers worker x = c.split_at_mut-front.ensures.front_len ∙ c.cells_of.ensures in
    let many : length starts ≡ x = search rules in
    let whole : front ++ back ≡ c.args.own.now = search rules in
    let begins : starts ++ starts' ≡ c.args.starts.now = search rules in
    let first : AreSharesDone s c.args.team.now.head workers worker x starts front front' rs = search rules in
    let second : AreSharesDone s c.args.team.now.head workers (worker + x) y starts' back back' rs' = search rules in
    subst (λ (xs : List ℕ). AreSharesDone s c.args.team.now.head workers worker c.args.number c.args.starts.now xs (front' ++ back') rs') whole
    (subst (λ (xs : List ℕ). AreSharesDone s c.args.team.now.head workers worker c.args.number xs (front ++ back) (front' ++ back') rs') begins
    (subst (λ n. AreSharesDone s c.args.team.now.head workers worker n (starts ++ starts') (front ++ back) (front' ++ back') rs') all
    (shares_join s c.args.team.now.head workers worker x y (omega (arith, c.requires.some, c.requires.workers)) front back long c.args.team.now.enough more starts starts' front' back' rs rs' many first second)))
