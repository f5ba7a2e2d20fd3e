use Rattle.std.proofs.Common.{None, cond, option_map, sym, ap, ◌∙◌}
use Rattle.semantics.specs.Source.Scope.{same_name}
use Rattle.cparse_cursor.specs.Names.{entity_of, stands}
use Rattle.cparse_cursor.proofs.NameLemmas.{set_at, set_again}
use Rattle.cparse_cursor.proofs.scope.put_back.Goals as goal

pub returns-in-None : goal.returns-in-None
returns-in-None c =
    λ q. set_at c.args.latest.now c.remove.new.self None c.args.name c.remove.ensures.updates q
    ∙ ap (λ before. cond (same_name c.args.name.now q) (option_map entity_of before) (stands c.args.latest.now q)) (sym c.in-None.is)

pub returns-in-Some : goal.returns-in-Some
returns-in-Some c =
    λ q. set_again c.args.latest.now c.insert-same.new.self c.in-Some.entity c.args.name c.insert-same.result c.requires c.insert-same.ensures.updates c.insert-same.ensures.absent q
    ∙ ap (λ before. cond (same_name c.args.name.now q) (option_map entity_of before) (stands c.args.latest.now q)) (sym c.in-Some.is)
