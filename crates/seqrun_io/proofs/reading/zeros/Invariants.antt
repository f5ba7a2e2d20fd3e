use Rattle.std.specs.Prelude.{◌≡◌, [], take, map}
use Rattle.ktree.specs.View.{declaration_of}
use Rattle.store.specs.Flat.{zeros_of}
use Rattle.seqrun_io.specs.Reading.{kept_from}
use Rattle.seqrun_io.proofs.reading.zeros.Given as goal

abbrev pub invariant-loop-declaration : goal.invariant-loop-declaration
invariant-loop-declaration l = map (λ s. zeros_of s.lengths.items) l.shapes.items ≡ kept_from 0 (map declaration_of (take l.declaration-index l.declarations)) []
