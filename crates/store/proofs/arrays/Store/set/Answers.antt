use Rattle.std.proofs.Common.{◌<◌, ◌+◌, List, length, sym, ap, ◌∙◌, subst, refl, arith, rules}
use Rattle.std.specs.Prelude.{slice_get, [], ◌∷◌}
use Rattle.std.proofs.lemmas.Option.{slice_get_read}
use Rattle.store.specs.Kept.{Kept, HasRoom, rewritten_at}
use Rattle.store.specs.Placing.{kept_in}
use Rattle.store.proofs.Laid.{lie_at, has_it, room_at, one_written}
use Rattle.store.proofs.arrays.Store.set.Goals as goal

pub index-placed-requires : goal.index-placed-requires
index-placed-requires c =
    let lt : c.args.variable.0 < length c.self.inside.places.items = has_it c.self.inside.places.items c.self.inside.cells.items c.args.self.now c.args.variable.0 _ c.self.view_is c.requires in
    search rules

pub set_cell-requires : goal.set_cell-requires
set_cell-requires c =
    let ps = c.self.inside.places.items in
    let cells = c.self.inside.cells.items in
    let x = c.args.variable.0 in
    let p = c.index-placed.result.now in
    let lt : x < length ps = has_it ps cells c.args.self.now x _ c.self.view_is c.requires in
    let at = slice_get_read ps (length ps) x p refl lt c.index-placed.ensures in
    let room = room_at cells ps x p (c.args.at + 1) c.self.invariant at (subst (λ (ks : List Kept). HasRoom (slice_get ks x) (c.args.at + 1)) (sym c.self.view_is) c.requires) in
    let le = lie_at 0 (length cells) ps x p c.self.invariant at in
    omega arith

pub returns : goal.returns
returns c =
    let ps = c.self.inside.places.items in
    let cells = c.self.inside.cells.items in
    let x = c.args.variable.0 in
    let p = c.index-placed.result.now in
    let lt : x < length ps = has_it ps cells c.args.self.now x _ c.self.view_is c.requires in
    let at = slice_get_read ps (length ps) x p refl lt c.index-placed.ensures in
    let room = room_at cells ps x p (c.args.at + 1) c.self.invariant at (subst (λ (ks : List Kept). HasRoom (slice_get ks x) (c.args.at + 1)) (sym c.self.view_is) c.requires) in
    ap (λ cs. kept_in cs ps) c.set_cell.ensures
    ∙ one_written cells 0 (length cells) ps x p c.args.at c.args.value c.self.invariant refl at (omega arith)
    ∙ ap (λ (ks : List Kept). rewritten_at ks x c.args.at (c.args.value ∷ [])) c.self.view_is
