-- What a chunk stands for.
use Rattle.semantics.specs.Loops.Chunk as meant
use Rattle.schedule.specs.declared.chunk.Chunk.{Chunk}

-- the chunk of these iterations
abbrev pub chunk_of : Chunk → meant.Chunk
chunk_of c = record { first = c.first; count = c.count }
