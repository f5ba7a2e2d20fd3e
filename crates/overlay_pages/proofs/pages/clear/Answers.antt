use Rattle.std.proofs.Common.{Vec, Global, List, ◌≡◌, ℕ, ◌+◌, ◌<◌, ◌≤◌, length, replicate, None, ap, sym, ◌∙◌, subst, arith}
use Rattle.std.specs.Prelude.{slice_index, slice_set}
use Rattle.std.proofs.lemmas.List.{get_or_read}
use Rattle.std.specs.Vec.{vec_capacity}
use Rattle.overlay_pages.specs.Table.{Table, table_of}
use Rattle.overlay_pages.proofs.Tables.{sound_empty, slots_empty, Clearing, clearing_on, cleared_numbers, cleared_bits}
use Rattle.overlay_pages.proofs.pages.clear.Goals as goal

pub loop-k-preserved : goal.loop-k-preserved
loop-k-preserved c =
    let old = c.args.pages.now in
    let k = c.loop-k.k in
    let inv = c.loop-k.invariant in
    let test = c.loop-k-test.true in
    let ends = c.len-k-end.ensures in
    let less : k < length old.entered.items = (let o = old.entered.ok.0 in omega arith) in
    let same : length c.loop-k.pages.entered.items ≡ length old.entered.items = ap (λ (v : Vec ℕ Global). length v.items) inv.entered in
    let page : c.index-page.result.now ≡ slice_index old.entered.items k = get_or_read c.loop-k.pages.entered.items k _ (omega arith) c.index-page.ensures 0 ∙ ap (λ (v : Vec ℕ Global). slice_index v.items k) inv.entered in
    let q = slice_index old.entered.items k in
    let numbers : c.set.new.self ≡ slice_set c.loop-k.pages.numbers q 0 = c.set.ensures ∙ ap (λ (q : ℕ). slice_set c.loop-k.pages.numbers q 0) page in
    let masks : c.set-in-loop-k.new.self ≡ slice_set c.loop-k.pages.masks q 0 = c.set-in-loop-k.ensures ∙ ap (λ (q : ℕ). slice_set c.loop-k.pages.masks q 0) page in
    record {
      size = inv.size;
      entered = inv.entered;
      values = inv.values;
      cleared =
          subst (λ (l : List ℕ). Clearing (table_of old) (k + 1) l c.set-in-loop-k.new.self) (sym numbers)
          (subst (λ (l : List ℕ). Clearing (table_of old) (k + 1) (slice_set c.loop-k.pages.numbers q 0) l) (sym masks)
          (clearing_on (table_of old) c.requires.sound k less c.loop-k.pages.numbers c.loop-k.pages.masks inv.cleared));
    }

pub returns-clause-roomy : goal.returns-clause-roomy
returns-clause-roomy c =
    let old = c.args.pages.now in
    let k = c.loop-k.k in
    let test = c.loop-k-test.false in
    let ends = c.len-k-end.ensures in
    let done : length old.entered.items ≤ k = (let o = old.entered.ok.0 in omega arith) in
    let inv = c.loop-k.invariant in
    let t : Table = record { size = c.loop-k.pages.size; masks = c.loop-k.pages.masks; numbers = c.loop-k.pages.numbers; entered = c.clear.new.self.items; values = c.loop-k.pages.values.items } in
    let sound = c.requires.sound in
    let numbered = inv.cleared.numbered in
    let masked = inv.cleared.masked in
    let covers = sound.covers in
    let small = sound.small in
    let size = inv.size in
    let sized = sound.sized in
    let same : length c.loop-k.pages.values.items ≡ length old.values.items = ap (λ (v : Vec ℕ Global). length v.items) inv.values in
    let room = c.requires.entered in
    let places = c.requires.values in
    let kept : vec_capacity c.loop-k.pages.entered ≡ vec_capacity old.entered = ap (λ (v : Vec ℕ Global). vec_capacity v) inv.entered in
    let held : vec_capacity c.loop-k.pages.values ≡ vec_capacity old.values = ap (λ (v : Vec ℕ Global). vec_capacity v) inv.values in
    let ke = c.clear.ensures.capacity in
    record {
      sound = sound_empty t (masked ∙ sym numbered) (omega arith) (omega arith) c.clear.ensures.items
          (omega arith)
          (cleared_numbers (table_of old) sound k done t.numbers t.masks inv.cleared)
          (cleared_bits (table_of old) sound k done t.numbers t.masks inv.cleared);
      entered = omega arith;
      values = omega arith;
    }

pub returns-clause-none : goal.returns-clause-none
returns-clause-none c =
    let test = c.loop-k-test.false in
    let ends = c.len-k-end.ensures in
    let done : length c.args.pages.now.entered.items ≤ c.loop-k.k = (let o = c.args.pages.now.entered.ok.0 in omega arith) in
    let t : Table = record { size = c.loop-k.pages.size; masks = c.loop-k.pages.masks; numbers = c.loop-k.pages.numbers; entered = c.clear.new.self.items; values = c.loop-k.pages.values.items } in
    slots_empty t (cleared_bits (table_of c.args.pages.now) c.requires.sound c.loop-k.k done t.numbers t.masks c.loop-k.invariant.cleared)
    ∙ ap (λ n. replicate n None) c.loop-k.invariant.size
