use Rattle.std.proofs.Common.{refl}
use Rattle.cparse_cursor.specs.Names.{names_of}
use Rattle.cparse_cursor.specs.Outcome.{got_of}
use Rattle.cparse.specs.DeclarationViews.{named_of}
use Rattle.cparse.proofs.Leaving.{variable_leaves_tokens}
use Rattle.cparse.proofs.declarations.with_variable.Goals as goal

pub returns-clause-fewer : goal.returns-clause-fewer
returns-clause-fewer c = variable_leaves_tokens (names_of c.args.scope.now) c.args.tokens.now c.in_ok-tree.field-0.rest.now (got_of named_of c.in_ok-tree.field-0) c.in_ok-tree.ensures refl
