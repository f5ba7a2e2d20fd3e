use Rattle.std.proofs.Common.{◌≡◌, ◌++◌, map, reverse, vec_len}
use Rattle.cparse_grammar.specs.PrintfReader.{filled}
use Rattle.cparse_printf.specs.Spots.{spot_of, spots_of, arguments_of, arguments_left, parts_of}
use Rattle.cparse_printf.proofs.printing.fill_places.Given as goal

-- what was filled, and what the rest makes
abbrev pub invariant-loop-spot : goal.invariant-loop-spot
invariant-loop-spot l = parts_of l.parts ++ filled (map spot_of (reverse l.spots.items)) (arguments_left l.arguments) ≡ filled (spots_of l.fn.spots) (arguments_of l.fn.arguments)

abbrev pub decreases-loop-spot : goal.decreases-loop-spot
decreases-loop-spot l = vec_len l.spots
