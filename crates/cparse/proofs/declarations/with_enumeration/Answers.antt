use Rattle.std.proofs.Common.{refl}
use Rattle.cparse_cursor.specs.Names.{names_of}
use Rattle.cparse_cursor.specs.Outcome.{got_of}
use Rattle.cparse.specs.DeclarationViews.{enumerators_of}
use Rattle.cparse.proofs.Leaving.{enumeration_leaves_tokens}
use Rattle.cparse.proofs.declarations.with_enumeration.Goals as goal

pub returns-clause-fewer : goal.returns-clause-fewer
returns-clause-fewer c = enumeration_leaves_tokens (names_of c.args.scope.now) c.args.tokens.now c.in_ok-constants.field-0.rest.now (got_of enumerators_of c.in_ok-constants.field-0) c.in_ok-constants.ensures.constants refl
