-- Operators behind an operand that was read up to a reach.
use Rattle.std.specs.Prelude.{◌≡◌, ◌<◌, ◌≤◌, ℕ, zero, suc, List, length, Option, Some, None}
use Rattle.semantics.specs.Tree.{Source}
use Rattle.semantics.specs.Source.Token.{Token}
use Rattle.semantics.specs.Source.Scope.{Scope}
use Rattle.cparse_grammar.specs.Reading.{Got, ◌>>=◌}
use Rattle.cparse_grammar.specs.ExpressionReader.{Inner, next_infix, further, binary}

-- the operators of so many precedences behind this one, the tightest first (C11 6.5.5 to 6.5.14)
abbrev pub rise : ℕ → ℕ → Scope → Inner → Got Source → Option (Got Source)
rise zero reached scope inner a = Some a
rise (suc n) reached scope inner a =
    further (length a.rest) (suc reached) (binary reached scope inner) a >>= λ b. rise n (suc reached) scope inner b

-- none of the precedences behind this one, up to the other, has the operator that comes next
abbrev pub NoneWithin : ℕ → ℕ → List Token → Type 0
NoneWithin reached limit ts = (k : ℕ) → reached < k → k ≤ limit → next_infix k ts ≡ None
