use Rattle.std.proofs.Common.{ℕ, ◌<◌, ◌^◌, Option, sym, ap, subst}
use Rattle.overlay_pages.specs.Over.{or_else, writes_in}
use Rattle.overlay_pages.specs.Table.{table_of, slots}
use Rattle.overlay_pages.proofs.Tables.{slots_say}
use Rattle.overlay_pages.proofs.Near.{near_words}
use Rattle.overlay_pages.proofs.own.Own.are_words.Goals as goal

pub returns : goal.returns
returns c place =
    let inside = c.self.inside in
    subst (λ (o : Option ℕ). or_else o 0 < 2 ^ 64) (ap (λ l. writes_in l place) c.self.view_is)
    (near_words (slots (table_of inside.pages)) inside.near inside.value
    (λ p. subst (λ (o : Option ℕ). or_else o 0 < 2 ^ 64) (sym (slots_say (table_of inside.pages) c.self.invariant.sound p)) (c.written_words.ensures p))
    c.is_word.ensures place)
