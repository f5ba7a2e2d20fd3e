use Rattle.std.proofs.Common.{rules, ℕ, ◌≡◌, ◌+◌, ◌*◌, ◌/◌, ◌^◌, ◌<◌, List, length, sym, ap, ◌∙◌, arith}
use Rattle.std.proofs.lemmas.List.{length-replicate}
use Rattle.overlay_pages.specs.Table.{Table}
use Rattle.overlay_pages.proofs.Tables.{sound_empty, slots_empty, bits_of_zeros, zeros_hold}
use Rattle.overlay_pages.proofs.pages.empty_pages.Goals as goal

pub returns-clause-right : goal.returns-clause-right
returns-clause-right c =
    let pages = c.args.size / 64 + 1 in
    let z : ℕ = 0 in
    let t : Table = record { size = c.args.size; masks = c.in_ok-masks.masks; numbers = c.in_ok-masks.numbers; entered = c.in_ok-entered.entered.items; values = c.in_ok-entered.values.items } in
    let masked = ap (λ (l : List ℕ). length l) c.in_ok-masks.ensures.0 ∙ length-replicate pages z in
    let numbered = ap (λ (l : List ℕ). length l) c.in_ok-masks.ensures.1 ∙ length-replicate pages z in
    let count : c.in-Some.count ≡ (pages + 1) * 64 = search rules in
    let small : c.in-Some.count < 2 ^ 64 = omega arith in
    let ke = c.in_ok-entered.ensures.entered.1 in
    let kv = c.in_ok-entered.ensures.values.1 in
    record {
      sound =
          sound_empty t (masked ∙ sym numbered) (omega arith) (omega arith) c.in_ok-entered.ensures.entered.0 (let l = c.in_ok-entered.ensures.values.0 in omega arith)
          (zeros_hold pages t.numbers c.in_ok-masks.ensures.1)
          (bits_of_zeros t pages c.in_ok-masks.ensures.0);
      entered = omega arith;
      values = omega arith;
    }

pub returns-clause-none : goal.returns-clause-none
returns-clause-none c =
    let t : Table = record { size = c.args.size; masks = c.in_ok-masks.masks; numbers = c.in_ok-masks.numbers; entered = c.in_ok-entered.entered.items; values = c.in_ok-entered.values.items } in
    slots_empty t (bits_of_zeros t (c.args.size / 64 + 1) c.in_ok-masks.ensures.0)
