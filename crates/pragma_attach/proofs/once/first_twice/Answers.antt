use Rattle.std.specs.Prelude.{map}
use Rattle.std.proofs.Common.{sym, ◌∙◌}
use Rattle.pragma_named.specs.Views.{variable_named}
use Rattle.pragma_named.specs.declared.named.Named.{Named}
use Rattle.pragma_mention.specs.Sets.{holds}
use Rattle.semantics.specs.Directives.Naming.{are_distinct}
use Rattle.pragma_attach.proofs.OnceLaw.{fresh_first, none_held, one_new}
use Rattle.pragma_attach.proofs.once.first_twice.Goals as goal

pub loop-named-init : goal.loop-named-init
loop-named-init c = fresh_first (holds c.new-seen.result) (map variable_named c.args.list.now) (none_held c.new-seen.result c.new-seen.ensures.empty)

pub loop-named-preserved : goal.loop-named-preserved
loop-named-preserved c =
    let none : Named = record { variable = record { 0 = 0 }; place = record { line = 0; column = 0 } } in
    one_new variable_named c.args.list.now c.loop-named.named-index none c.loop-named-test.true (holds c.loop-named.seen) (are_distinct (map variable_named c.args.list.now)) c.loop-named.invariant
    (holds c.note.new.set) (sym c.if-not-branch.false ∙ c.in_ok-note.ensures.added) c.in_ok-note.ensures.noted
