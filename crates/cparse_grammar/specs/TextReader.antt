-- The reading of declarations and of a whole list of tokens.
use Rattle.std.specs.Prelude.{ℕ, zero, suc, Bool, true, false, ◌&&◌, ◌^◌, nat_le, if◌then◌else◌, List, [], ◌∷◌, ◌++◌, length, Option, Some, None, codes}
use Rattle.semantics.specs.Tree.{Name, Declaration, Kernel}
use Rattle.semantics.specs.Source.Token.{Token, Word, Punctuator, Header, OpenBracket}
use Rattle.semantics.specs.Source.Typing.{constant}
use Rattle.semantics.specs.Source.Scope.{Scope, AVariable, AConstant, with_constants, same_name}
use Rattle.semantics.specs.Source.Grammar.{elements}
use Rattle.cparse_grammar.specs.Reading.{Reader, ◌>>=◌, got, chosen}
use Rattle.cparse_grammar.specs.Operators.{number_in, is_number}
use Rattle.cparse_grammar.specs.NextTokens.{close_paren, close_bracket, semicolon, open_paren, equal_sign, open_brace, close_brace, comma, word, new_name}
use Rattle.cparse_grammar.specs.ExpressionReader.{expression}
use Rattle.cparse_grammar.specs.StatementReader.{is_unused, items, statement}

-- the length of a dimension, 1 where there is none (C11 6.7.6.2)
abbrev pub length_of : Option ℕ → ℕ
length_of None = 1
length_of (Some zero) = 1
length_of (Some (suc n)) = suc n

abbrev pub is_length : Option ℕ → Bool
is_length None = false
is_length (Some zero) = false
is_length (Some (suc n)) = true

-- the lengths of a declared array, so many at most
abbrev pub lengths : ℕ → Scope → Reader (List ℕ)
lengths (suc n) scope (Punctuator OpenBracket ∷ ts) =
    expression 64 scope ts >>= λ e. close_bracket e.rest >>= λ behind. lengths n scope behind >>= λ more.
    got (length_of (constant (number_in e.tree)) ∷ more.tree) ((e.sound && is_number e.tree) && (is_length (constant (number_in e.tree)) && more.sound)) more.rest
lengths n scope ts = got [] true ts

-- a constant's value, 0 where it has none
abbrev pub value_of : Option ℕ → ℕ
value_of None = 0
value_of (Some n) = n

abbrev pub has_value : Option ℕ → Bool
has_value None = false
has_value (Some n) = true

-- the enum constants of one declaration, so many at most (C11 6.7.2.2)
abbrev pub constants : ℕ → Scope → Reader (List (Name × ℕ))
constants zero scope ts = None
constants (suc n) scope ts =
    new_name ts >>= λ name. equal_sign name.1 >>= λ behind. expression 64 scope behind >>= λ e.
    chosen (comma e.rest)
    (got ((name.0, value_of (constant (number_in e.tree))) ∷ []) (is_unused scope name.0 && ((e.sound && is_number e.tree) && has_value (constant (number_in e.tree)))) e.rest)
    (λ next. constants n ((name.0, AConstant (value_of (constant (number_in e.tree)))) ∷ scope) next >>= λ more.
    got ((name.0, value_of (constant (number_in e.tree))) ∷ more.tree)
    ((is_unused scope name.0 && ((e.sound && is_number e.tree) && has_value (constant (number_in e.tree)))) && more.sound) more.rest)

-- what is declared, and what is visible behind it
pub record Decls : Type 0 where
  pub constants : List (Name × ℕ)
  pub variables : List Declaration
  pub scope : Scope
  pub sound : Bool
  pub rest : List Token

-- one `enum` behind its word
unfoldable pub enumeration : Scope → Reader (List (Name × ℕ))
enumeration scope ts =
    open_brace ts >>= λ inner. constants (length inner) scope inner >>= λ cs. close_brace cs.rest >>= λ behind. semicolon behind >>= λ after.
    got cs.tree cs.sound after

-- one variable behind its type: 4 dimensions at most
unfoldable pub variable : Scope → Reader Declaration
variable scope ts =
    new_name ts >>= λ name. lengths (length name.1) scope name.1 >>= λ ns. semicolon ns.rest >>= λ behind.
    got (record { name = name.0; lengths = ns.tree }) (is_unused scope name.0 && (ns.sound && nat_le (length ns.tree) 4)) behind

-- the declarations from the front on, so many at most
abbrev pub declarations : ℕ → Scope → ℕ → List Token → Option Decls
declarations (suc n) scope next (Word w ∷ ts) =
    if same_name w (codes "enum")
    then (enumeration scope ts >>= λ cs. declarations n (with_constants cs.tree scope) next cs.rest >>= λ more.
    Some (record { constants = cs.tree ++ more.constants; variables = more.variables; scope = more.scope; sound = cs.sound && more.sound; rest = more.rest }))
    else (if same_name w (codes "uint64_t")
    then (variable scope ts >>= λ v. declarations n ((v.tree.name, AVariable next (length v.tree.lengths)) ∷ scope) (suc next) v.rest >>= λ more.
    Some (record { constants = more.constants; variables = v.tree ∷ more.variables; scope = more.scope; sound = v.sound && more.sound; rest = more.rest }))
    else Some (record { constants = []; variables = []; scope = scope; sound = true; rest = Word w ∷ ts }))
declarations n scope next ts = Some (record { constants = []; variables = []; scope = scope; sound = true; rest = ts })

-- `void kernel(void) {`
unfoldable pub opening : List Token → Option (List Token)
opening ts =
    word (codes "void") ts >>= λ a. word (codes "kernel") a >>= λ b. open_paren b >>= λ c. word (codes "void") c >>= λ d. close_paren d >>= λ e. open_brace e

-- behind the include lines
abbrev pub behind_headers : List Token → List Token
behind_headers (Header h ∷ ts) = behind_headers ts
behind_headers ts = ts

-- nothing is left
abbrev pub at_end : List Token → Option (List Token)
at_end [] = Some []
at_end (t ∷ ts) = None

-- a tree, and whether its names and sorts are right
pub record Whole : Type 0 where
  pub tree : Kernel
  pub sound : Bool

-- all tokens of a text: include lines, declarations, and the kernel's block, in which 4,096 statements may stand
unfoldable pub kernel : List Token → Option Whole
kernel ts =
    declarations (length (behind_headers ts)) [] 0 (behind_headers ts) >>= λ ds. opening ds.rest >>= λ inner.
    items (length inner) 63 (statement 63) ds.scope (record { next = length ds.variables; left = 4096 }) inner >>= λ is.
    close_brace is.rest >>= λ behind. at_end behind >>= λ end.
    Some (record {
      tree = record { constants = ds.constants; variables = ds.variables; body = is.tree };
      sound = ds.sound && (is.sound && nat_le (elements ds.variables) (2 ^ 24));
    })
