-- What the code's lines open.
use Rattle.std.specs.Prelude.{Option, Some, None}
use Rattle.pragma_attach.specs.declared.placed.Construct.{Construct}
use Rattle.pragma_attach.specs.declared.placed.Opened.{Opened}

-- the construct that a line opens
abbrev pub opened_by : Option Opened → Option Construct
opened_by None = None
opened_by (Some o) = Some o.construct
