use Rattle.std.proofs.Common.{◌≡◌, ◌-◌, length, drop}
use Rattle.std.specs.Prelude.{map}
use Rattle.semantics.specs.Directives.Annotated.{variables_from}
use Rattle.ktree.specs.View.{declaration_of}
use Rattle.cparse_cursor.specs.Names.{names_of}
use Rattle.pragma_attach.proofs.visible.variables.Given as goal

-- the last so many variables
abbrev pub invariant-loop-done : goal.invariant-loop-done
invariant-loop-done l =
    names_of l.scope ≡ variables_from (length l.declarations - l.done) (map declaration_of (drop (length l.declarations - l.done) l.declarations))
