use Rattle.std.proofs.Common.{◌≡◌, ◌<◌, ◌+◌, ◌≤◌, List, length, map, sym, ap, ◌∙◌, refl, arith, Some}
use Rattle.std.specs.Prelude.{slice_get, option_map}
use Rattle.std.proofs.lemmas.Option.{slice_get_read, slice_get-map}
use Rattle.store.specs.Kept.{Kept}
use Rattle.store.specs.Placing.{kept_at}
use Rattle.store.proofs.Laid.{lie_at, count_at, there}
use Rattle.store.proofs.arrays.Store.array.Goals as goal

pub part-values-requires : goal.part-values-requires
part-values-requires c =
    let ps = c.self.inside.places.items in
    let i = c.args.variable in
    let p = c.index-placed.result.now in
    let lt : i < length ps = there ps c.self.inside.cells.items c.args.self.now i c.self.view_is c.requires in
    let at = slice_get_read ps (length ps) i p refl lt c.index-placed.ensures in
    let le = lie_at 0 (length c.self.inside.cells.items) ps i p c.self.invariant at in
    let same = ap (λ (l : List _). length l) c.as_slice.ensures.value in
    omega arith

pub invariant_of-result : goal.invariant_of-result
invariant_of-result c =
    let ps = c.self.inside.places.items in
    let i = c.args.variable in
    let p = c.index-placed.result.now in
    let lt : i < length ps = there ps c.self.inside.cells.items c.args.self.now i c.self.view_is c.requires in
    let at = slice_get_read ps (length ps) i p refl lt c.index-placed.ensures in
    let le = lie_at 0 (length c.self.inside.cells.items) ps i p c.self.invariant at in
    let same = ap (λ (l : List _). length l) c.as_slice.ensures.value in
    record {
      count = ap (λ (l : List _). length l) c.part-values.ensures ∙ count_at c.as_slice.result.now p.first p.shape.count (omega arith) ∙ p.shape.counted ∙ ap Rattle.semantics.specs.Meaning.Places.size (sym c.as_slice-lengths.ensures.value);
    }

pub returns : goal.returns
returns c =
    let ps = c.self.inside.places.items in
    let i = c.args.variable in
    let p = c.index-placed.result.now in
    let lt : i < length ps = there ps c.self.inside.cells.items c.args.self.now i c.self.view_is c.requires in
    let at = slice_get_read ps (length ps) i p refl lt c.index-placed.ensures in
    let cells = c.self.inside.cells.items in
    ap (λ (ks : List Kept). slice_get ks i) (sym c.self.view_is)
    ∙ slice_get-map (kept_at cells) ps i
    ∙ ap (option_map (kept_at cells)) at
    ∙ (λ j. Some (record { lengths = sym c.as_slice-lengths.ensures.value j; values = sym (c.part-values.ensures ∙ ap (λ l. Rattle.std.proofs.Common.take p.shape.count (Rattle.std.proofs.Common.drop p.first l)) c.as_slice.ensures.value) j }))
