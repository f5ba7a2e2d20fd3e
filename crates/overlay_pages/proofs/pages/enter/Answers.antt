use Rattle.std.proofs.Common.{ℕ, List, ◌+◌, ◌*◌, ◌-◌, ◌++◌, ◌∙◌, replicate, suc, ◌≡◌, length, sym, ap, subst, refl, arith}
use Rattle.std.specs.Prelude.{slice_set}
use Rattle.std.proofs.lemmas.List.{length-set}
use Rattle.overlay_pages.specs.Table.{table_of, IsSound}
use Rattle.overlay_pages.proofs.Tables.{room_to_enter, sound_entering, entering_is}
use Rattle.overlay_pages.proofs.pages.enter.Goals as goal

pub push_reserved-requires : goal.push_reserved-requires
push_reserved-requires c =
    let r = room_to_enter (table_of c.args.pages.now) c.requires.roomy.sound c.args.page c.requires.there c.requires.new in
    let k = c.requires.roomy.entered in
    let l = c.args.pages.now.entered.ok.0 in
    omega arith

pub fill-requires : goal.fill-requires
fill-requires c =
    let r = room_to_enter (table_of c.args.pages.now) c.requires.roomy.sound c.args.page c.requires.there c.requires.new in
    let k = c.requires.roomy.values in
    let l = c.args.pages.now.entered.ok.0 in
    let e = c.push_reserved.ensures.len in
    let f = c.len-number.ensures in
    omega arith

pub returns-clause-roomy : goal.returns-clause-roomy
returns-clause-roomy c =
    let old = c.args.pages.now in
    let count : c.len-number.result ≡ suc (length old.entered.items) = (let l = old.entered.ok.0 in let e = c.push_reserved.ensures.len in let f = c.len-number.ensures in omega arith) in
    let target : 64 * (c.len-number.result + 1) ≡ 64 * suc (suc (length old.entered.items)) = omega arith in
    let long : length c.set.new.self ≡ length old.numbers = ap (λ (l : List ℕ). length l) c.set.ensures ∙ length-set old.numbers c.args.page c.len-number.result in
    let k = c.requires.roomy.entered in
    let v = c.requires.roomy.values in
    let ke = c.push_reserved.ensures.capacity in
    let kv = c.fill.ensures.capacity in
    record {
      sound =
          subst IsSound
          (sym (entering_is (table_of old) _ c.args.page refl refl (c.set.ensures ∙ ap (slice_set old.numbers c.args.page) count) c.push_reserved.ensures.items (c.fill.ensures.items ∙ ap (λ n. old.values.items ++ replicate (n - length old.values.items) 0) target)))
          (sound_entering (table_of old) c.requires.roomy.sound c.args.page c.requires.there c.requires.new);
      entered = omega arith;
      values = omega arith;
    }
