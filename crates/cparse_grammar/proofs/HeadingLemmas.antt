-- A loop's head, and an `if`, read in parts are the definitions'.
use Rattle.std.proofs.Common.{◌≡◌, ℕ, suc, List, Some, sym, ap, ◌∙◌}
use Rattle.semantics.specs.Tree.{Source, Stmt}
use Rattle.semantics.specs.Source.Token.{Token}
use Rattle.semantics.specs.Source.Scope.{Scope}
use Rattle.cparse_grammar.specs.Reading.{Got, ◌>>=◌}
use Rattle.cparse_grammar.specs.ExpressionReader.{expression}
use Rattle.cparse_grammar.specs.StatementReader.{Tally, Told, heading, selection, statement}
use Rattle.cparse_grammar.specs.StatementParts.{once, twice, in_parens, otherwise, heading_in_parts, selection_in_parts}
use Rattle.cparse_grammar.proofs.Binds.{bind_to, grouped}

pub heading_by_parts : (room : ℕ) (scope : Scope) (tally : Tally) (ts : List Token) → heading room scope tally ts ≡ heading_in_parts room scope tally ts
unfolding heading
heading_by_parts room scope tally ts = simp grouped

selection_by_parts : (room : ℕ) (scope : Scope) (tally : Tally) (ts : List Token) → selection (suc (suc room)) (once (suc (suc room))) (twice (suc (suc room))) scope tally ts ≡ selection_in_parts room scope tally ts
unfolding selection
selection_by_parts room scope tally ts = simp grouped

-- an `if` whose condition and first statement were read
pub selected : (room outer inner : ℕ) (scope : Scope) (tally : Tally) (ts : List Token) (c : Got Source) (a : Told Stmt) → room ≡ suc outer → outer ≡ suc inner
    → in_parens (expression inner scope) ts ≡ Some c → statement outer scope tally c.rest ≡ Some a
    → selection room (once room) (twice room) scope tally ts ≡ otherwise (statement inner) scope c a
selected room outer inner scope tally ts c a e f g h =
    let two : room ≡ suc (suc inner) = e ∙ ap suc f in
    let read : statement (suc inner) scope tally c.rest ≡ Some a = ap (λ n. statement n scope tally c.rest) (sym f) ∙ h in
    ap (λ n. selection n (once n) (twice n) scope tally ts) two ∙ (selection_by_parts inner scope tally ts
    ∙ (bind_to (λ c. statement (suc inner) scope tally c.rest >>= λ a. otherwise (statement inner) scope c a) g ∙ bind_to (λ a. otherwise (statement inner) scope c a) read))
