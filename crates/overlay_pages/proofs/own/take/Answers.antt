use Rattle.std.proofs.Common.{ℕ, ◌≡◌, suc, ◌*◌, length}
use Rattle.std.proofs.lemmas.Result.{IfOk-weaker}
use Rattle.store.specs.Flat.{values_of}
use Rattle.overlay_pages.specs.Over.{writes_of, writes_in, changing, AreOnce}
use Rattle.overlay_pages.specs.Table.{table_of, slots, Gathers}
use Rattle.overlay_pages.proofs.Gathered.{gathers_all}
use Rattle.overlay_pages.proofs.own.take.Goals as goal

pub returns-clause-changes : goal.returns-clause-changes
returns-clause-changes c =
    let cells = values_of c.args.store.now in
    let t = table_of c.args.pages.now in
    IfOk-weaker c.gather-gathered.result (Gathers cells t (64 * suc (length t.entered))) (λ changes. (place : ℕ) → writes_of changes place ≡ changing (writes_in (slots t)) cells place)
    (λ changes g. gathers_all cells t c.requires.sound changes g) c.gather-gathered.ensures

pub returns-clause-once : goal.returns-clause-once
returns-clause-once c =
    let t = table_of c.args.pages.now in
    IfOk-weaker c.gather-gathered.result (Gathers (values_of c.args.store.now) t (64 * suc (length t.entered))) AreOnce (λ changes g. g.once) c.gather-gathered.ensures
