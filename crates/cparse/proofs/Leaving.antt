-- What is declared leaves no more tokens than there were.
use Rattle.std.specs.Prelude.{ℕ, zero, suc, Bool, ◌&&◌, ◌≡◌, ◌<◌, ◌≤◌, nat_le, List, [], ◌∷◌, length, Option, Some, None, Result, Ok, Err, IfOk, codes}
use Rattle.std.proofs.Common.{refl, ap, arith}
use Rattle.std.proofs.lemmas.List.{length-map}
use Rattle.semantics.specs.Tree.{Name, Source, Declaration}
use Rattle.semantics.specs.Source.Token.{Token, Punctuator, Symbol, OpenParen, CloseParen, CloseBracket, OpenBrace, CloseBrace, Semicolon, Comma, EqualSign, OpenBracket}
use Rattle.semantics.specs.Source.Typing.{constant}
use Rattle.semantics.specs.Source.Scope.{Scope, AConstant}
use Rattle.cparse_grammar.specs.Reading.{Got, ◌>>=◌, got, chosen}
use Rattle.cparse_grammar.specs.Operators.{number_in, is_number}
use Rattle.cparse_grammar.specs.NextTokens as ahead
use Rattle.cparse_grammar.specs.ExpressionReader.{expression}
use Rattle.cparse_grammar.specs.StatementReader.{is_unused}
use Rattle.cparse_grammar.specs.TextReader as reader
use Rattle.cparse_grammar.specs.TextReader.{Decls, length_of, is_length, value_of, has_value, opening}
use Rattle.cparse_grammar.proofs.Binds.{bind_some}
use Rattle.cparse_cursor.specs.Lexemes.{token_of, tokens_of}
use Rattle.cparse_cursor.specs.declared.lexeme.Lexeme.{Lexeme}
use Rattle.cparse_cursor.specs.declared.stop.Stop.{Stop}
use Rattle.cparse_cursor.specs.Outcome.{Gives}
use Rattle.cparse_phrase.proofs.Leaving.{Leaves, nothing, kept, punctuator_takes, word_takes, new_name_takes, expression_leaves}

-- dimensions
lengths_leave : (n : ℕ) (scope : Scope) → Leaves (reader.lengths n scope)
lengths_leave (suc n) scope (Punctuator OpenBracket ∷ ts) g e =
    let a = bind_some (expression 64 scope ts) (λ e. ahead.close_bracket e.rest >>= λ behind. reader.lengths n scope behind >>= λ more. got (length_of (constant (number_in e.tree)) ∷ more.tree) ((e.sound && is_number e.tree) && (is_length (constant (number_in e.tree)) && more.sound)) more.rest) g e in
    let b = bind_some (ahead.close_bracket a.0.rest) (λ behind. reader.lengths n scope behind >>= λ more. got (length_of (constant (number_in a.0.tree)) ∷ more.tree) ((a.0.sound && is_number a.0.tree) && (is_length (constant (number_in a.0.tree)) && more.sound)) more.rest) g a.2 in
    let c = bind_some (reader.lengths n scope b.0) (λ more. got (length_of (constant (number_in a.0.tree)) ∷ more.tree) ((a.0.sound && is_number a.0.tree) && (is_length (constant (number_in a.0.tree)) && more.sound)) more.rest) g b.2 in
    let one : length a.0.rest ≤ length ts = expression_leaves 64 scope ts a.0 a.1 in
    let two : length b.0 < length a.0.rest = punctuator_takes CloseBracket a.0.rest b.0 b.1 in
    let three : length c.0.rest ≤ length b.0 = lengths_leave n scope b.0 c.0 c.1 in
    kept (length (Punctuator OpenBracket ∷ ts)) c.2 (omega arith)
lengths_leave zero scope ts g e = kept (length ts) e (omega arith)
lengths_leave (suc n) scope (Punctuator s ∷ ts) g e = kept (length (Punctuator s ∷ ts)) e (omega arith)
lengths_leave (suc n) scope ts g e = kept (length ts) e (omega arith)

-- enumeration constants
abbrev one_sound : Scope → Name → Got Source → Bool
one_sound scope name e = is_unused scope name && ((e.sound && is_number e.tree) && has_value (constant (number_in e.tree)))

abbrev value_in : Got Source → ℕ
value_in e = value_of (constant (number_in e.tree))

abbrev one : Scope → Name → Got Source → Option (Got (List (Name × ℕ)))
one scope name e = got ((name, value_in e) ∷ []) (one_sound scope name e) e.rest

abbrev and_more : ℕ → Scope → Name → Got Source → List Token → Option (Got (List (Name × ℕ)))
and_more n scope name e next =
    reader.constants n ((name, AConstant (value_in e)) ∷ scope) next >>= λ more. got ((name, value_in e) ∷ more.tree) (one_sound scope name e && more.sound) more.rest

behind_one : (n : ℕ) → ((scope : Scope) → Leaves (reader.constants n scope)) → (scope : Scope) (name : Name) (e : Got Source) (g : Got (List (Name × ℕ))) (x : Option (List Token)) → ahead.comma e.rest ≡ x
    → chosen x (one scope name e) (and_more n scope name e) ≡ Some g → length g.rest ≤ length e.rest
behind_one n k scope name e g None f d = kept (length e.rest) d (omega arith)
behind_one n k scope name e g (Some next) f d =
    let inner : Scope = (name, AConstant (value_in e)) ∷ scope in
    let m = bind_some (reader.constants n inner next) (λ more. got ((name, value_in e) ∷ more.tree) (one_sound scope name e && more.sound) more.rest) g d in
    let first : length next < length e.rest = punctuator_takes Comma e.rest next f in
    let second : length m.0.rest ≤ length next = k inner next m.0 m.1 in
    kept (length e.rest) m.2 (omega arith)

constants_leave : (n : ℕ) (scope : Scope) → Leaves (reader.constants n scope)
constants_leave zero scope ts g e = nothing e
constants_leave (suc n) scope ts g e =
    let a = bind_some (ahead.new_name ts) (λ name. ahead.equal_sign name.1 >>= λ behind. expression 64 scope behind >>= λ e. chosen (ahead.comma e.rest) (one scope name.0 e) (and_more n scope name.0 e)) g e in
    let b = bind_some (ahead.equal_sign a.0.1) (λ behind. expression 64 scope behind >>= λ e. chosen (ahead.comma e.rest) (one scope a.0.0 e) (and_more n scope a.0.0 e)) g a.2 in
    let c = bind_some (expression 64 scope b.0) (λ e. chosen (ahead.comma e.rest) (one scope a.0.0 e) (and_more n scope a.0.0 e)) g b.2 in
    let first : length a.0.1 < length ts = new_name_takes ts a.0 a.1 in
    let second : length b.0 < length a.0.1 = punctuator_takes EqualSign a.0.1 b.0 b.1 in
    let third : length c.0.rest ≤ length b.0 = expression_leaves 64 scope b.0 c.0 c.1 in
    let fourth : length g.rest ≤ length c.0.rest = behind_one n (constants_leave n) scope a.0.0 c.0 g (ahead.comma c.0.rest) refl c.2 in
    omega arith

enumeration_leaves : (scope : Scope) → Leaves (reader.enumeration scope)
unfolding reader.enumeration
enumeration_leaves scope ts g e =
    let a = bind_some (ahead.open_brace ts) (λ inner. reader.constants (length inner) scope inner >>= λ cs. ahead.close_brace cs.rest >>= λ behind. ahead.semicolon behind >>= λ after. got cs.tree cs.sound after) g e in
    let b = bind_some (reader.constants (length a.0) scope a.0) (λ cs. ahead.close_brace cs.rest >>= λ behind. ahead.semicolon behind >>= λ after. got cs.tree cs.sound after) g a.2 in
    let c = bind_some (ahead.close_brace b.0.rest) (λ behind. ahead.semicolon behind >>= λ after. got b.0.tree b.0.sound after) g b.2 in
    let d = bind_some (ahead.semicolon c.0) (λ after. got b.0.tree b.0.sound after) g c.2 in
    let one : length a.0 < length ts = punctuator_takes OpenBrace ts a.0 a.1 in
    let two : length b.0.rest ≤ length a.0 = constants_leave (length a.0) scope a.0 b.0 b.1 in
    let three : length c.0 < length b.0.rest = punctuator_takes CloseBrace b.0.rest c.0 c.1 in
    let four : length d.0 < length c.0 = punctuator_takes Semicolon c.0 d.0 d.1 in
    kept (length ts) d.2 (omega arith)

abbrev declared : Name → Got (List ℕ) → Declaration
declared name ns = record { name = name; lengths = ns.tree }

variable_leaves : (scope : Scope) → Leaves (reader.variable scope)
unfolding reader.variable
variable_leaves scope ts g e =
    let a = bind_some (ahead.new_name ts) (λ name. reader.lengths (length name.1) scope name.1 >>= λ ns. ahead.semicolon ns.rest >>= λ behind. got (declared name.0 ns) (is_unused scope name.0 && (ns.sound && nat_le (length ns.tree) 4)) behind) g e in
    let b = bind_some (reader.lengths (length a.0.1) scope a.0.1) (λ ns. ahead.semicolon ns.rest >>= λ behind. got (declared a.0.0 ns) (is_unused scope a.0.0 && (ns.sound && nat_le (length ns.tree) 4)) behind) g a.2 in
    let c = bind_some (ahead.semicolon b.0.rest) (λ behind. got (declared a.0.0 b.0) (is_unused scope a.0.0 && (b.0.sound && nat_le (length b.0.tree) 4)) behind) g b.2 in
    let one : length a.0.1 < length ts = new_name_takes ts a.0 a.1 in
    let two : length b.0.rest ≤ length a.0.1 = lengths_leave (length a.0.1) scope a.0.1 b.0 b.1 in
    let three : length c.0 < length b.0.rest = punctuator_takes Semicolon b.0.rest c.0 c.1 in
    kept (length ts) c.2 (omega arith)

-- of the tokens of the code
pub word_takes_tokens : (w : Name) (ts us : List Lexeme) → ahead.word w (tokens_of ts) ≡ Some (tokens_of us) → length us < length ts
word_takes_tokens w ts us e =
    let taken : length (tokens_of us) < length (tokens_of ts) = word_takes w (tokens_of ts) (tokens_of us) e in
    let before : length (tokens_of ts) ≡ length ts = length-map ts token_of in
    let behind : length (tokens_of us) ≡ length us = length-map us token_of in
    omega arith

pub punctuator_takes_tokens : (s : Symbol) (ts us : List Lexeme) → ahead.punctuator s (tokens_of ts) ≡ Some (tokens_of us) → length us < length ts
punctuator_takes_tokens s ts us e =
    let taken : length (tokens_of us) < length (tokens_of ts) = punctuator_takes s (tokens_of ts) (tokens_of us) e in
    let before : length (tokens_of ts) ≡ length ts = length-map ts token_of in
    let behind : length (tokens_of us) ≡ length us = length-map us token_of in
    omega arith

fewer_tokens : (ts us : List Lexeme) (rest : List Token) → rest ≡ tokens_of us → length rest ≤ length (tokens_of ts) → length us ≤ length ts
fewer_tokens ts us rest e h =
    let before : length (tokens_of ts) ≡ length ts = length-map ts token_of in
    let behind : length (tokens_of us) ≡ length us = length-map us token_of in
    let same : length rest ≡ length (tokens_of us) = ap (λ xs. length xs) e in
    omega arith

pub enumeration_leaves_tokens : (scope : Scope) (ts us : List Lexeme) (g : Got (List (Name × ℕ))) → reader.enumeration scope (tokens_of ts) ≡ Some g → g.rest ≡ tokens_of us → length us ≤ length ts
enumeration_leaves_tokens scope ts us g e r = fewer_tokens ts us g.rest r (enumeration_leaves scope (tokens_of ts) g e)

pub variable_leaves_tokens : (scope : Scope) (ts us : List Lexeme) (g : Got Declaration) → reader.variable scope (tokens_of ts) ≡ Some g → g.rest ≡ tokens_of us → length us ≤ length ts
variable_leaves_tokens scope ts us g e r = fewer_tokens ts us g.rest r (variable_leaves scope (tokens_of ts) g e)

-- the tokens behind `void kernel(void) {`
pub opening_takes : {X : Type 0} (view : X → List Lexeme) (r : Result X Stop) (ts a b c d e : List Lexeme)
    → ahead.word (codes "void") (tokens_of ts) ≡ Some (tokens_of a) → ahead.word (codes "kernel") (tokens_of a) ≡ Some (tokens_of b) → ahead.open_paren (tokens_of b) ≡ Some (tokens_of c)
    → ahead.word (codes "void") (tokens_of c) ≡ Some (tokens_of d) → ahead.close_paren (tokens_of d) ≡ Some (tokens_of e) → Gives (λ rest. tokens_of (view rest)) r (ahead.open_brace (tokens_of e))
    → IfOk r (λ rest. length (view rest) ≤ length ts)
opening_takes view (Err stop) ts a b c d e h k l m n o = tt
opening_takes view (Ok rest) ts a b c d e h k l m n o =
    let first : length a < length ts = word_takes_tokens (codes "void") ts a h in
    let second : length b < length a = word_takes_tokens (codes "kernel") a b k in
    let third : length c < length b = punctuator_takes_tokens OpenParen b c l in
    let fourth : length d < length c = word_takes_tokens (codes "void") c d m in
    let fifth : length e < length d = punctuator_takes_tokens CloseParen d e n in
    let sixth : length (view rest) < length e = punctuator_takes_tokens OpenBrace e (view rest) o in
    omega arith
