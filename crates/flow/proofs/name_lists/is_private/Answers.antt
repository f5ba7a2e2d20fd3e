use Rattle.std.specs.Prelude.{flat_map}
use Rattle.std.proofs.Common.{◌∙◌, arith}
use Rattle.semantics.specs.Directives.Clauses.{private_of}
use Rattle.pragma_named.specs.Known.{kept, lines_known}
use Rattle.flow.proofs.LocalLemmas.{local_listed, file_not_listed}
use Rattle.flow.proofs.name_lists.is_private.Goals as goal

pub returns : goal.returns
returns c = c.is_listed.ensures ∙ local_listed c.args.files (flat_map private_of (lines_known (kept c.args.lines.now) c.args.line)) c.args.variable.0 (omega arith)

pub returns-then-variable-files : goal.returns-then-variable-files
returns-then-variable-files c = file_not_listed c.args.files (flat_map private_of (lines_known (kept c.args.lines.now) c.args.line)) c.args.variable.0 (omega arith)
