use Rattle.std.proofs.Common.{[], ◌∷◌, option_map, ap, ◌∙◌}
use Rattle.cparse_cursor.specs.declared.scope.Binding.{Binding}
use Rattle.cparse_cursor.specs.Names.{entity_of, bound, seen}
use Rattle.cparse_cursor.proofs.NameLemmas.{seen_last, tied_more}
use Rattle.cparse_cursor.proofs.scope.add.Goals as goal

pub invariant_of-scope-in-Ok : goal.invariant_of-scope-in-Ok
invariant_of-scope-in-Ok c =
    rw c.in_ok-push.ensures.items (tied_more c.scope.inside.latest c.put.new.latest c.scope.inside.bindings.items (record { name = c.args.name; entity = c.args.entity; before = c.copied-before.result }) c.scope.invariant
    (ap (option_map entity_of) (c.copied-before.ensures ∙ c.get.ensures.value)) c.in-Ok.ensures.ok)

pub returns-in-Ok-clause-names : goal.returns-in-Ok-clause-names
returns-in-Ok-clause-names c =
    let b : Binding = record { name = c.args.name; entity = c.args.entity; before = c.copied-before.result } in
    ap (seen []) c.in_ok-push.ensures.items ∙ seen_last [] c.scope.inside.bindings.items b ∙ ap (λ bs. bound b ∷ seen [] bs) c.scope.view_is
