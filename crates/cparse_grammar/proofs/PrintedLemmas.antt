-- printf read in parts is the definitions' printf.
use Rattle.std.proofs.Common.{◌≡◌, ℕ, suc, List}
use Rattle.semantics.specs.Source.Token.{Token}
use Rattle.semantics.specs.Source.Scope.{Scope}
use Rattle.cparse_grammar.specs.PrintfReader.{printed}
use Rattle.cparse_grammar.specs.PrintfSteps.{printed_in_parts}
use Rattle.cparse_grammar.proofs.Binds.{grouped}

pub printed_by_parts : (room : ℕ) (scope : Scope) (ts : List Token) → printed (suc room) scope ts ≡ printed_in_parts room scope ts
unfolding printed
printed_by_parts room scope ts = simp grouped
