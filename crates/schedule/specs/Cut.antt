-- What the ways to find a chunk stand for.
use Rattle.std.specs.Prelude.{◌<◌, ◌≤◌, ◌^◌, List, map}
use Rattle.semantics.specs.Loops.Chunk as meant
use Rattle.schedule.specs.declared.chunks.Cut.{Cut}
use Rattle.schedule.specs.declared.chunks.Cut.TheVariants.{Shares, Blocks, Listed}
use Rattle.schedule.specs.Chunk.{chunk_of}

-- all chunks, in order
abbrev pub chunks_of : Cut → List meant.Chunk
chunks_of (Shares iterations workers) = meant.cut meant.PlainStatic iterations workers
chunks_of (Blocks iterations size) = meant.cut (meant.Static size) iterations 1
chunks_of (Listed chunks) = map chunk_of chunks.items

-- so many iterations at most, some worker, and no empty blocks
abbrev pub IsBounded : Cut → Type 0
IsBounded (Shares iterations workers) = (iterations ≤ 2 ^ 24) × (0 < workers)
IsBounded (Blocks iterations size) = 0 < size
IsBounded (Listed chunks) = Unit {0}
