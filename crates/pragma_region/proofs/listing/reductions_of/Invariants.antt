use Rattle.std.proofs.Common.{◌≡◌, map, take}
use Rattle.std.specs.Prelude.{flat_map}
use Rattle.semantics.specs.Directives.Clauses.{reduction_of}
use Rattle.pragma_clause.specs.Views.{written_clause}
use Rattle.pragma_region.specs.Listed.{reduction_named}
use Rattle.pragma_region.proofs.listing.reductions_of.Given as goal

-- those of the clauses so far
abbrev pub invariant-loop-clause : goal.invariant-loop-clause
invariant-loop-clause l = map reduction_named l.reductions.items ≡ flat_map reduction_of (map written_clause (take l.clause-index l.clauses))
