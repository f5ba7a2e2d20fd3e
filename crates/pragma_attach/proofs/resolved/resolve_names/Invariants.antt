use Rattle.std.proofs.Common.{refl}
use Rattle.semantics.specs.Directives.Annotated.{resolve, resolve_all}
use Rattle.ktree.specs.DirectiveView.{name_of}
use Rattle.cparse_cursor.specs.Names.{names_of}
use Rattle.pragma_named.specs.Views.{variable_named}
use Rattle.pragma_attach.proofs.EachLaw.{Left}
use Rattle.pragma_attach.proofs.resolved.resolve_names.Given as goal

-- the names so far
abbrev pub invariant-loop-written : goal.invariant-loop-written
invariant-loop-written l =
    Left (resolve (names_of l.scope)) (resolve_all (names_of l.scope)) refl (λ w ws. refl) name_of variable_named l.names l.written-index l.found.items
