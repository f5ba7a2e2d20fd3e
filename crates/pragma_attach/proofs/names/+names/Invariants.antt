use Rattle.std.proofs.Common.{◌≡◌, ◌++◌, ℕ, List, length, take, drop}
use Rattle.semantics.specs.Source.Scope.{Scope}
use Rattle.semantics.specs.Directives.Annotated.{lines_among}
use Rattle.ktree.specs.View.{items_of}
use Rattle.cparse_cursor.specs.Names.{names_of}
use Rattle.pragma_named.specs.Known.{kept}
use Rattle.pragma_attach.specs.Told.{Carries}
use Rattle.pragma_attach.proofs.names.+names.Given as goal

-- the lines of the items so far, and of those that are left
abbrev pub invariant-items_names-loop-item : goal.invariant-items_names-loop-item
invariant-items_names-loop-item l =
    ((rest : List (ℕ × Scope)) → Carries l.directives (kept l.fn.table) (kept l.table) (lines_among (names_of l.fn.scope) (items_of l.items) ++ rest) (lines_among (names_of l.scope) (items_of (drop l.item-index l.items)) ++ rest))
    × (take (length l.fn.scope) l.scope ≡ l.fn.scope)
