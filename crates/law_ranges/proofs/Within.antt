-- What stays inside its array over a box does so at a turn of the loops round it.
use Rattle.std.specs.Prelude.{pos, [], slice_get}
use Rattle.std.proofs.Common.{refl}
use Rattle.semantics.specs.Loops.Nest.{at_vector}
use Rattle.law_lines.proofs.Kept.{kept_lines_are_read}
use Rattle.nest.specs.Nests.{lengths_of}
use Rattle.law_runs.proofs.Values.{subscripts_there}
use Rattle.law_independence.proofs.LyingApart.{lengths_short}
use Rattle.law_independence.proofs.Grammar.{decls_short, decls_small, items_read}
use Rattle.law_independence.proofs.Taking.{each_short}
use Rattle.law_ranges.specs.Laws.{RangesHoldAtTurns}
use Rattle.law_ranges.proofs.Round.{items_round}
use Rattle.law_ranges.proofs.Turning.{at_start, turn_of}

pub ranges_hold_at_turns : RangesHoldAtTurns
ranges_hold_at_turns text k access s turns u reads in_range there e among =
    let read = (kept_lines_are_read text k reads).reads in
    let round = items_round k.variables [] [] k.body refl (items_read [] read.items (decls_small read.declared tt) (λ y c. absurd cc)) in_range access there in
    let turn = turn_of access.inner [] round.box (λ x. pos 0) s turns u round.round (at_start s) e among in
    let indexes = subscripts_there (at_vector access.inner u s) round.box turn.0 turn.1 (lengths_of (slice_get k.variables access.array)) access.subscripts
    (each_short (lengths_of (slice_get k.variables access.array)) (lengths_short k.variables access.array (decls_short read.declared tt))) round.stays in
    record { indexes = indexes.0; are = indexes.1; inside = indexes.2 }
