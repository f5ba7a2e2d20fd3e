-- The turns in front of all shares, and those behind.
use Rattle.std.proofs.Common.{◌≡◌, ◌+◌, ◌-◌, ◌*◌, ◌<◌, ◌≤◌, ℕ, List, ◌++◌, length, ap, subst, ◌∙◌, arith, rules}
use Rattle.std.specs.Prelude.{slice_index}
use Rattle.std.proofs.Math.Nat.{mul-add}
use Rattle.team_scans.specs.Placed.{IsPartDone}
use Rattle.team_scans.proofs.Blocks.{cells_done, parts_join}
use Rattle.team_in_place.proofs.scan_sharing.scan_both.Goals as goal

-- the cells behind those of the turns in front
cells_behind : (w head count : ℕ) → head ≤ count → w * count ≡ w * head + w * (count - head)
cells_behind w head count le = ap (λ n. w * n) (let e : count ≡ head + (count - head) = omega (arith, le) in e) ∙ mul-add w head (count - head)

pub scan_ahead-requires-clause-rest : goal.scan_ahead-requires-clause-rest
scan_ahead-requires-clause-rest g c κs within =
    let t = c.args.team.now in
    let enough = t.enough in
    let both = cells_behind t.prefixes.window.width t.head t.prefixes.count (omega (arith, enough)) in
    omega (arith, both, c.split_at_mut-front.ensures.back_len, c.requires.own, c.cells_of.ensures)

pub scan_behind-requires-clause-own : goal.scan_behind-requires-clause-own
scan_behind-requires-clause-own g c κs within =
    let t = c.args.team.now in
    let enough = t.enough in
    let both = cells_behind t.prefixes.window.width t.head t.prefixes.count (omega (arith, enough)) in
    ap length c.scan_ahead.ensures.kept ∙ omega (arith, both, c.split_at_mut-front.ensures.back_len, c.requires.own, c.cells_of.ensures)

pub returns : goal.returns
returns g c =
    let t = c.args.team.now in
    let s = t.prefixes in
    let enough = t.enough in
    let front = c.split_at_mut-front.result.0.now in
    let rest = c.split_at_mut-front.result.1.now in
    let front' = c.scan_ahead.new.front in
    let rest' = c.scan_behind.new.own in
    let behind = s.count - t.head in
    let ahead : 0 < t.head = c.requires.some in
    let some : 0 < behind = omega (arith, enough, c.get-most.ensures.value, c.get-most.ensures.least) in
    let all : t.head + behind ≡ s.count = omega (arith, enough) in
    let long : length front ≡ s.window.width * t.head = search rules in
    let whole : front ++ rest ≡ c.args.own.now = search rules in
    let carried : c.register_value-carried.result ≡ slice_index c.in_ok-registers.registers.items s.scanned.target.at = search rules in
    let first : IsPartDone s c.args.first 0 t.head front front' c.in_ok-registers.registers.items = search rules in
    let rs = c.in_ok-end.end.items in
    let done : IsPartDone s c.register_value-carried.result t.head behind c.scan_ahead.new.rest rest' rs = search rules in
    subst (λ (xs : List ℕ). IsPartDone s c.args.first 0 s.count xs (front' ++ rest') rs) whole
    (subst (λ n. IsPartDone s c.args.first 0 n (front ++ rest) (front' ++ rest') rs) all
    (parts_join s c.args.first c.register_value-carried.result 0 t.head behind front rest front' rest' rs long some
    (cells_done s c.args.first c.register_value-carried.result 0 t.head front front' c.in_ok-registers.registers.items ahead carried first)
    (subst (λ n. IsPartDone s c.register_value-carried.result n behind rest rest' rs) (let e : t.head ≡ 0 + t.head = omega arith in e)
    (subst (λ (xs : List ℕ). IsPartDone s c.register_value-carried.result t.head behind xs rest' rs) c.scan_ahead.ensures.kept done))))
