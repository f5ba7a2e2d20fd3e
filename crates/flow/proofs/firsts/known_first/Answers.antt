use Rattle.std.specs.Prelude.{[], true, map}
use Rattle.std.proofs.Common.{sym, ap, ◌∙◌}
use Rattle.semantics.specs.Meaning.Definite.{without}
use Rattle.law_roles.specs.Sharing.{assigned_first}
use Rattle.pragma_named.specs.Views.{variable_named}
use Rattle.pragma_named.specs.Known.{kept}
use Rattle.flow_definite.specs.Judged.{known_of}
use Rattle.flow.specs.Roles.{roles_known}
use Rattle.flow_definite.proofs.PrivatesLemmas.{without_append}
use Rattle.flow.proofs.LocalLemmas.{all_but_these}
use Rattle.flow.proofs.firsts.known_first.Goals as goal

pub returns : goal.returns
returns c =
    let roles = roles_known (kept c.args.lines.now) c.args.files c.args.line in
    c.in_ok-forget_all.ensures ∙ ap (λ xs. without (known_of c.forget_line.new.known) xs) (ap (map variable_named) c.deref.ensures.value ∙ c.in_ok-lasts.ensures)
    ∙ ap (λ k. without k roles.lasts) (c.in_ok-forget_line.ensures ∙ ap (λ k. without (known_of k) roles.privates) c.all-known.ensures)
    ∙ sym (without_append (known_of ([], true)) roles.privates roles.lasts) ∙ all_but_these (assigned_first roles)
