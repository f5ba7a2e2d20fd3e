use Rattle.std.specs.Prelude.{List, length}
use Rattle.std.specs.List.Sorted.{IsBinarySearchResult}
use Rattle.std.specs.Ordering.{nat_cmp}
use Rattle.std.proofs.Common.{◌<◌, subst, rules}
use Rattle.std.proofs.lemmas.List.Sorted.{answers_always}
use Rattle.semantics.specs.Source.Text.{line_from, line_at}
use Rattle.pragma.specs.declared.lines.LineReading.{LineReading}
use Rattle.pragma.specs.declared.reading.Reading.TheVariants.{Malformed}
use Rattle.pragma.specs.Reading.{IsReading}
use Rattle.pragma.proofs.ReadingLaw.{found_reading, none_found}
use Rattle.pragma.proofs.lines.Directives.reading_of_line.Goals as goal

pub returns-in-Ok : goal.returns-in-Ok
returns-in-Ok c =
    let n = c.saturating_sub.result in
    let reading = c.index.result.now.reading in
    let searched = c.binary_search_by_key.ensures.position (λ line. line.index) (answers_always _ _ _ (λ f a r g called. search rules)) in
    let there = subst (λ (ls : List LineReading). IsBinarySearchResult (λ y. nat_cmp y.index n) ls c.binary_search_by_key.result) c.deref.ensures.value searched in
    let within : c.in-Ok.found < length c.self.inside.lines.items = search rules in
    let found = found_reading c.self.inside.text.now c.self.inside.lines.items n c.self.invariant.found c.in-Ok.found c.index.result.now within c.index.ensures
    (subst (IsBinarySearchResult (λ y. nat_cmp y.index n) c.self.inside.lines.items) c.in-Ok.is there) in
    subst (λ text. IsReading (line_at text c.args.number) reading) c.self.view_is (subst (λ m. IsReading (line_from m c.self.inside.text.now) reading) c.saturating_sub.ensures found)

pub returns-in-Err : goal.returns-in-Err
returns-in-Err c =
    let n = c.saturating_sub.result in
    let searched = c.binary_search_by_key.ensures.position (λ line. line.index) (answers_always _ _ _ (λ f a r g called. search rules)) in
    let there = subst (λ (ls : List LineReading). IsBinarySearchResult (λ y. nat_cmp y.index n) ls c.binary_search_by_key.result) c.deref.ensures.value searched in
    let absent = none_found c.self.inside.text.now c.self.inside.lines.items n c.self.invariant.found c.binary_search_by_key.result c.in-Err.field-0 c.in-Err.is there in
    let none = c.self.invariant.others n absent in
    subst (λ text. IsReading (line_at text c.args.number) Malformed) c.self.view_is (subst (λ m. IsReading (line_from m c.self.inside.text.now) Malformed) c.saturating_sub.ensures none)
