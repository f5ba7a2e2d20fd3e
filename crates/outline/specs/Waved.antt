-- Loops that are run in waves. (OpenMP 5.2, 15.9.6)
use Rattle.std.specs.Prelude.{◌≡◌}
use Rattle.nest_space.specs.Fixed.{AreFixed}
use Rattle.waves.specs.Wanted.{SinkList}
use Rattle.lower.specs.declared.lowered.LoweredLoop.{LoweredLoop}
use Rattle.outline.specs.declared.shape.Way.{Way}
use Rattle.outline.specs.declared.shape.Way.TheVariants.{Waves}

-- where this is the way in waves, the loops of a lowered nest rise between numbers and have a space
abbrev pub IsFixedInWaves : LoweredLoop → Way → Type 0
IsFixedInWaves l way = (sinks : SinkList) → way ≡ Waves sinks → AreFixed l.loops.items
