-- The steps of reading declarations, as the code takes them.
use Rattle.std.specs.Prelude.{ℕ, ◌&&◌, List, [], ◌∷◌, ◌++◌, length, Option, Some}
use Rattle.semantics.specs.Tree.{Name}
use Rattle.semantics.specs.Source.Token.{Token}
use Rattle.semantics.specs.Source.Typing.{constant}
use Rattle.semantics.specs.Source.Scope.{Scope, Entity, AVariable, AConstant, with_constants}
use Rattle.cparse_grammar.specs.Reading.{Got, Reader, ◌>>=◌, got}
use Rattle.cparse_grammar.specs.Operators.{number_in, is_number}
use Rattle.cparse_grammar.specs.NextTokens.{close_bracket, equal_sign, new_name}
use Rattle.cparse_grammar.specs.ExpressionReader.{expression}
use Rattle.cparse_grammar.specs.StatementReader.{is_unused}
use Rattle.cparse_grammar.specs.TextReader.{length_of, is_length, value_of, has_value, enumeration, variable, Decls}

-- a constant expression, if it has a value (C11 6.6)
abbrev pub constant_read : Scope → Reader (Option ℕ)
constant_read scope ts = expression 64 scope ts >>= λ e. got (constant (number_in e.tree)) (e.sound && is_number e.tree) e.rest

-- a dimension behind its bracket
abbrev pub dimension : Scope → Reader ℕ
dimension scope ts = constant_read scope ts >>= λ v. close_bracket v.rest >>= λ behind. got (length_of v.tree) (v.sound && is_length v.tree) behind

-- a list read so far, and one more
abbrev pub and_then : {A : Type 0} → Got (List A) → Got A → Got (List A)
and_then row one = record { tree = row.tree ++ one.tree ∷ []; sound = row.sound && one.sound; rest = one.rest }

-- an enum constant with its value
abbrev pub one_constant : Scope → Reader (Name × ℕ)
one_constant scope ts =
    new_name ts >>= λ name. equal_sign name.1 >>= λ behind. constant_read scope behind >>= λ v.
    got (name.0, value_of v.tree) (is_unused scope name.0 && (v.sound && has_value v.tree)) v.rest

-- an enum constant as it is visible
abbrev pub visible : Name × ℕ → Name × Entity
visible c = (c.0, AConstant c.1)

-- what was declared, and an enumeration behind its word
abbrev pub enum_step : Decls → List Token → Option Decls
enum_step s ts =
    enumeration s.scope ts >>= λ cs.
    Some (record { constants = s.constants ++ cs.tree; variables = s.variables; scope = with_constants cs.tree s.scope; sound = s.sound && cs.sound; rest = cs.rest })

-- what was declared, and a variable behind its type
abbrev pub variable_step : Decls → List Token → Option Decls
variable_step s ts =
    variable s.scope ts >>= λ v.
    Some (record {
      constants = s.constants;
      variables = s.variables ++ v.tree ∷ [];
      scope = (v.tree.name, AVariable (length s.variables) (length v.tree.lengths)) ∷ s.scope;
      sound = s.sound && v.sound;
      rest = v.rest;
    })
