use Rattle.std.proofs.Common.{◌≡◌, drop}
use Rattle.std.specs.Prelude.{map, string_bytes}
use Rattle.semantics.specs.Source.Scope.{with_constants}
use Rattle.cparse_cursor.specs.Names.{names_of}
use Rattle.pragma_attach.proofs.visible.add_constants.Given as goal

-- the constants so far
abbrev pub invariant-loop-constant : goal.invariant-loop-constant
invariant-loop-constant l =
    with_constants (map (λ c. (string_bytes c.name, c.value)) (drop l.constant-index l.constants)) (names_of l.scope) ≡ with_constants (map (λ c. (string_bytes c.name, c.value)) l.constants) (names_of l.fn.scope)
