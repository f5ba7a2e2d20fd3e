-- Whatever the grammar of texts has is read so.
use Rattle.std.specs.Prelude.{ℕ, zero, suc, Bool, true, ◌&&◌, ◌≡◌, ◌≤◌, ◌+◌, ◌-◌, ◌^◌, nat_le, List, [], ◌∷◌, ◌++◌, length, Option, Some, None, is_none, codes}
use Rattle.std.proofs.Common.{cond, refl, ap, ◌∙◌, arith}
use Rattle.std.proofs.lemmas.Bool.{le-leb}
use Rattle.std.proofs.lemmas.List.{append_assoc, length-append}
use Rattle.semantics.specs.Tree.{Name, Source, Number, Items, Declaration}
use Rattle.semantics.specs.Source.Token.{Token, Word, Punctuator, Semicolon, Comma, OpenParen, CloseParen, CloseBracket, OpenBrace, CloseBrace, EqualSign}
use Rattle.semantics.specs.Source.Typing.{constant}
use Rattle.semantics.specs.Source.Scope.{Scope, AVariable, AConstant, with_constants, find, IsFree}
use Rattle.semantics.specs.Source.Statements.{statement_count}
use Rattle.semantics.specs.Source.Grammar.{ReadsLengths, no_lengths, dimension, ReadsConstants, only, further, ReadsDecls, no_decls, enum, object, elements, headers}
use Rattle.cparse_grammar.specs.Reading.{Got, ◌>>=◌, got, chosen}
use Rattle.cparse_grammar.specs.Operators.{number_in, is_number}
use Rattle.cparse_grammar.specs.NextTokens.{close_bracket, word}
use Rattle.cparse_grammar.specs.ExpressionReader.{expression}
use Rattle.cparse_grammar.specs.NextTokens as ahead
use Rattle.cparse_grammar.specs.StatementReader as reader
use Rattle.cparse_grammar.specs.StatementReader.{items, Told, Tally}
use Rattle.cparse_grammar.specs.TextReader as text
use Rattle.cparse_grammar.specs.TextReader.{lengths, length_of, is_length, constants, value_of, has_value, declarations, Decls, Whole, behind_headers, kernel}
use Rattle.law_grammar.specs.Laws.{KernelsAreRead}
use Rattle.cparse_grammar.proofs.Binds.{bind_to}
use Rattle.law_grammar.proofs.ExpressionComplete.{right, expr_read}
use Rattle.law_grammar.proofs.StatementComplete.{IsClean, clean_more, items_read, tally_of}

-- the lengths of an array, up to the end of its declaration
lengths_read : {scope : Scope} {ts : List Token} {ns : List ℕ} → ReadsLengths scope ts ns → (n : ℕ) → length ts ≤ n → (rest : List Token) → lengths n scope (ts ++ Punctuator Semicolon ∷ rest) ≡ Some (right ns (Punctuator Semicolon ∷ rest))
lengths_read no_lengths zero h rest = refl
lengths_read no_lengths (suc n) h rest = refl
lengths_read (dimension r c q) zero h rest = absurd (omega arith)
lengths_read {scope} (dimension {e = e} {n = m} {ns = ns} {ts = ts} {us = us} r c q) (suc n) h rest =
    bind_to (λ y. close_bracket y.rest >>= λ behind. lengths n scope behind >>= λ more. whole y more)
    (ap (expression 64 scope) (append_assoc ts (Punctuator CloseBracket ∷ us) (Punctuator Semicolon ∷ rest)) ∙ expr_read r 64 refl (Punctuator CloseBracket ∷ (us ++ Punctuator Semicolon ∷ rest)) refl)
    ∙ bind_to (λ more. whole (right (Number e) (Punctuator CloseBracket ∷ (us ++ Punctuator Semicolon ∷ rest))) more) (lengths_read q n (let l = length-append ts (Punctuator CloseBracket ∷ us) in omega arith) rest)
    ∙ ap (λ x. got (length_of x ∷ ns) ((true && true) && (is_length x && true)) (Punctuator Semicolon ∷ rest)) c
  where
    whole : Got Source → Got (List ℕ) → Option (Got (List ℕ))
    whole y more = got (length_of (constant (number_in y.tree)) ∷ more.tree) ((y.sound && is_number y.tree) && (is_length (constant (number_in y.tree)) && more.sound)) more.rest

-- enum constants, up to the brace that closes
constants_read : {scope : Scope} {ts : List Token} {cs : List (Name × ℕ)} → ReadsConstants scope ts cs → (n : ℕ) → length ts ≤ n → (rest : List Token) → constants n scope (ts ++ Punctuator CloseBrace ∷ rest) ≡ Some (right cs (Punctuator CloseBrace ∷ rest))
constants_read (only f r c) zero h rest = absurd (omega arith)
constants_read {scope} (only {name = w} {e = e} {n = m} {ts = ts} f r c) (suc n) h rest =
    ap (λ x. named x >>= λ name. ahead.equal_sign name.1 >>= λ behind. expression 64 scope behind >>= λ y. on name.0 y) f.word
    ∙ bind_to (on w) (expr_read r 64 refl (Punctuator CloseBrace ∷ rest) refl)
    ∙ ap (λ x. got ((w, value_of x) ∷ []) (is_none (find scope w) && ((true && true) && has_value x)) (Punctuator CloseBrace ∷ rest)) c
    ∙ ap (λ x. got ((w, m) ∷ []) (is_none x && ((true && true) && true)) (Punctuator CloseBrace ∷ rest)) f.unused
  where
    named : Bool → Option (Name × List Token)
    named x = cond x None (Some (w, Punctuator EqualSign ∷ (ts ++ Punctuator CloseBrace ∷ rest)))

    on : Name → Got Source → Option (Got (List (Name × ℕ)))
    on w y =
        chosen (ahead.comma y.rest)
        (got ((w, value_of (constant (number_in y.tree))) ∷ []) (is_none (find scope w) && ((y.sound && is_number y.tree) && has_value (constant (number_in y.tree)))) y.rest)
        (λ next. constants n ((w, AConstant (value_of (constant (number_in y.tree)))) ∷ scope) next >>= λ more.
        got ((w, value_of (constant (number_in y.tree))) ∷ more.tree) ((is_none (find scope w) && ((y.sound && is_number y.tree) && has_value (constant (number_in y.tree)))) && more.sound) more.rest)
constants_read (further f r c q) zero h rest = absurd (omega arith)
constants_read {scope} (further {name = w} {e = e} {n = m} {cs = cs} {ts = ts} {us = us} f r c q) (suc n) h rest =
    ap (λ x. named x >>= λ name. ahead.equal_sign name.1 >>= λ behind. expression 64 scope behind >>= λ y. on name.0 y) f.word
    ∙ bind_to (on w) (ap (expression 64 scope) (append_assoc ts (Punctuator Comma ∷ us) (Punctuator CloseBrace ∷ rest)) ∙ expr_read r 64 refl (Punctuator Comma ∷ (us ++ Punctuator CloseBrace ∷ rest)) refl)
    ∙ ap (λ x. constants n ((w, AConstant (value_of x)) ∷ scope) (us ++ Punctuator CloseBrace ∷ rest) >>= λ more. got ((w, value_of x) ∷ more.tree) ((is_none (find scope w) && ((true && true) && has_value x)) && more.sound) more.rest) c
    ∙ bind_to (λ more. got ((w, m) ∷ more.tree) ((is_none (find scope w) && ((true && true) && true)) && more.sound) more.rest) (constants_read q n (let l = length-append ts (Punctuator Comma ∷ us) in omega arith) rest)
    ∙ ap (λ x. got ((w, m) ∷ cs) ((is_none x && ((true && true) && true)) && true) (Punctuator CloseBrace ∷ rest)) f.unused
  where
    named : Bool → Option (Name × List Token)
    named x = cond x None (Some (w, Punctuator EqualSign ∷ ((ts ++ Punctuator Comma ∷ us) ++ Punctuator CloseBrace ∷ rest)))

    on : Name → Got Source → Option (Got (List (Name × ℕ)))
    on w y =
        chosen (ahead.comma y.rest)
        (got ((w, value_of (constant (number_in y.tree))) ∷ []) (is_none (find scope w) && ((y.sound && is_number y.tree) && has_value (constant (number_in y.tree)))) y.rest)
        (λ next. constants n ((w, AConstant (value_of (constant (number_in y.tree)))) ∷ scope) next >>= λ more.
        got ((w, value_of (constant (number_in y.tree))) ∷ more.tree) ((is_none (find scope w) && ((y.sound && is_number y.tree) && has_value (constant (number_in y.tree)))) && more.sound) more.rest)

-- enum constants are no reserved words
clean_constants : {scope : Scope} {ts : List Token} {cs : List (Name × ℕ)} → ReadsConstants scope ts cs → IsClean scope → IsClean (with_constants cs scope)
clean_constants {scope} (only {name = w} {n = m} f r c) k = clean_more scope w (AConstant m) f.word k
clean_constants {scope} (further {name = w} {n = m} f r c q) k = clean_constants q (clean_more scope w (AConstant m) f.word k)

enumeration_read : {scope : Scope} {ts : List Token} {cs : List (Name × ℕ)} → ReadsConstants scope ts cs → (rest : List Token)
    → text.enumeration scope (Punctuator OpenBrace ∷ (ts ++ Punctuator CloseBrace ∷ Punctuator Semicolon ∷ rest)) ≡ Some (right cs rest)
unfolding text.enumeration
enumeration_read {scope} {ts} {cs} r rest =
    bind_to (λ cs. ahead.close_brace cs.rest >>= λ behind. ahead.semicolon behind >>= λ after. got cs.tree cs.sound after)
    (constants_read r (length (ts ++ Punctuator CloseBrace ∷ Punctuator Semicolon ∷ rest)) (let l = length-append ts (Punctuator CloseBrace ∷ Punctuator Semicolon ∷ rest) in omega arith) (Punctuator Semicolon ∷ rest))

variable_read : {scope : Scope} {ts : List Token} {ns : List ℕ} (name : Name) → IsFree scope name → length ns ≤ 4 → ReadsLengths scope ts ns → (rest : List Token)
    → text.variable scope (Word name ∷ (ts ++ Punctuator Semicolon ∷ rest)) ≡ Some (right (record { name = name; lengths = ns }) rest)
unfolding text.variable
variable_read {scope} {ts} {ns} w f most r rest =
    ap (λ x. named x >>= on) f.word
    ∙ bind_to (λ ns. ahead.semicolon ns.rest >>= λ behind. whole w ns behind)
    (lengths_read r (length (ts ++ Punctuator Semicolon ∷ rest)) (let l = length-append ts (Punctuator Semicolon ∷ rest) in omega arith) rest)
    ∙ ap (λ x. declared (is_none x && (true && nat_le (length ns) 4))) f.unused ∙ ap declared (le-leb (length ns) 4 most)
  where
    named : Bool → Option (Name × List Token)
    named x = cond x None (Some (w, ts ++ Punctuator Semicolon ∷ rest))

    whole : Name → Got (List ℕ) → List Token → Option (Got Declaration)
    whole w ns behind = got (record { name = w; lengths = ns.tree }) (is_none (find scope w) && (ns.sound && nat_le (length ns.tree) 4)) behind

    on : Name × List Token → Option (Got Declaration)
    on name = lengths (length name.1) scope name.1 >>= λ ns. ahead.semicolon ns.rest >>= λ behind. whole name.0 ns behind

    declared : Bool → Option (Got Declaration)
    declared b = got (record { name = w; lengths = ns }) b rest

-- what was declared, with nothing wrong in it
abbrev pub decls_of : List (Name × ℕ) → List Declaration → Scope → List Token → Decls
decls_of cs vs scope rest = record { constants = cs; variables = vs; scope = scope; sound = true; rest = rest }

-- the kernel follows
abbrev pub kernel_follows : List Token → List Token
kernel_follows rest = Word (codes "void") ∷ rest

declarations_read : {scope scope' : Scope} {next : ℕ} {ts : List Token} {cs : List (Name × ℕ)} {vs : List Declaration} → ReadsDecls scope next ts cs vs scope' → (n : ℕ) → length ts ≤ n → (rest : List Token)
    → declarations n scope next (ts ++ kernel_follows rest) ≡ Some (decls_of cs vs scope' (kernel_follows rest))
declarations_read no_decls zero h rest = refl
declarations_read no_decls (suc n) h rest = refl
declarations_read (enum r q) zero h rest = absurd (omega arith)
declarations_read {scope} {next = next} (enum {cs = cs} {ds = ds} {ts = ts} {us = us} r q) (suc n) h rest =
    bind_to (λ cs. declarations n (with_constants cs.tree scope) next cs.rest >>= λ more. whole cs more)
    (ap (λ xs. text.enumeration scope (Punctuator OpenBrace ∷ xs)) (append_assoc ts (Punctuator CloseBrace ∷ Punctuator Semicolon ∷ us) (kernel_follows rest)) ∙ enumeration_read r (us ++ kernel_follows rest))
    ∙ bind_to (λ more. whole (right cs (us ++ kernel_follows rest)) more) (declarations_read q n (let l = length-append ts (Punctuator CloseBrace ∷ Punctuator Semicolon ∷ us) in omega arith) rest)
  where
    whole : Got (List (Name × ℕ)) → Decls → Option Decls
    whole cs more = Some (record { constants = cs.tree ++ more.constants; variables = more.variables; scope = more.scope; sound = cs.sound && more.sound; rest = more.rest })
declarations_read (object f most r q) zero h rest = absurd (omega arith)
declarations_read {scope} {next = next} (object {name = w} {ns = ns} {ts = ts} {us = us} f most r q) (suc n) h rest =
    bind_to (λ v. declarations n ((v.tree.name, AVariable next (length v.tree.lengths)) ∷ scope) (suc next) v.rest >>= λ more. whole v more)
    (ap (λ xs. text.variable scope (Word w ∷ xs)) (append_assoc ts (Punctuator Semicolon ∷ us) (kernel_follows rest)) ∙ variable_read w f most r (us ++ kernel_follows rest))
    ∙ bind_to (λ more. whole (right (record { name = w; lengths = ns }) (us ++ kernel_follows rest)) more) (declarations_read q n (let l = length-append ts (Punctuator Semicolon ∷ us) in omega arith) rest)
  where
    whole : Got Declaration → Decls → Option Decls
    whole v more = Some (record { constants = more.constants; variables = v.tree ∷ more.variables; scope = more.scope; sound = v.sound && more.sound; rest = more.rest })

clean_decls : {scope scope' : Scope} {next : ℕ} {ts : List Token} {cs : List (Name × ℕ)} {vs : List Declaration} → ReadsDecls scope next ts cs vs scope' → IsClean scope → IsClean scope'
clean_decls no_decls k = k
clean_decls (enum r q) k = clean_decls q (clean_constants r k)
clean_decls {next = next} (object {scope = scope} {name = w} {ns = ns} f most r q) k = clean_decls q (clean_more scope w (AVariable next (length ns)) f.word k)

clean_nothing : IsClean []
clean_nothing name e f = absurd (cc)

-- the include lines end in front of what no header begins
decls_begin : {scope scope' : Scope} {next : ℕ} {ts : List Token} {cs : List (Name × ℕ)} {vs : List Declaration} → ReadsDecls scope next ts cs vs scope' → (rest : List Token) → behind_headers (ts ++ kernel_follows rest) ≡ ts ++ kernel_follows rest
decls_begin no_decls rest = refl
decls_begin (enum r q) rest = refl
decls_begin (object f most r q) rest = refl

behind_all : (hs : List ℕ) (ts : List Token) → behind_headers (headers hs ++ ts) ≡ behind_headers ts
behind_all [] ts = refl
behind_all (h ∷ hs) ts = behind_all hs ts

opening_read : (rest : List Token) → text.opening (Word (codes "void") ∷ Word (codes "kernel") ∷ Punctuator OpenParen ∷ Word (codes "void") ∷ Punctuator CloseParen ∷ Punctuator OpenBrace ∷ rest) ≡ Some rest
unfolding text.opening
opening_read rest = refl

-- a whole text's tokens are read as their tree
pub kernel_read : KernelsAreRead
unfolding kernel
kernel_read ts tree r =
    ap (λ xs. declarations (length xs) [] 0 xs >>= on) front
    ∙ bind_to on (declarations_read r.declared (length (r.decls ++ kernel_follows behind)) (let l = length-append r.decls (kernel_follows behind) in omega arith) behind)
    ∙ bind_to (within ds) (opening_read (r.body ++ Punctuator CloseBrace ∷ []))
    ∙ bind_to (λ is. ahead.close_brace is.rest >>= λ behind. text.at_end behind >>= λ end. whole ds is)
    (ap (λ n. items (length inner) 63 (reader.statement 63) r.scope (tally_of (length tree.variables) n) inner) left
    ∙ items_read r.items (clean_decls r.declared clean_nothing) 63 refl (length inner) (4096 - statement_count tree.body) [] (let l = length-append r.body (Punctuator CloseBrace ∷ []) in omega arith))
    ∙ ap (λ b. Some (record { tree = tree; sound = true && (true && b) })) (le-leb (elements tree.variables) (2 ^ 24) r.within)
  where
    inner : List Token
    inner = r.body ++ Punctuator CloseBrace ∷ []

    behind : List Token
    behind = Word (codes "kernel") ∷ Punctuator OpenParen ∷ Word (codes "void") ∷ Punctuator CloseParen ∷ Punctuator OpenBrace ∷ inner

    ds : Decls
    ds = decls_of tree.constants tree.variables r.scope (kernel_follows behind)

    whole : Decls → Told Items → Option Whole
    whole ds is = Some (record { tree = record { constants = ds.constants; variables = ds.variables; body = is.tree }; sound = ds.sound && (is.sound && nat_le (elements ds.variables) (2 ^ 24)) })

    within : Decls → List Token → Option Whole
    within ds inner =
        items (length inner) 63 (reader.statement 63) ds.scope (tally_of (length ds.variables) 4096) inner >>= λ is. ahead.close_brace is.rest >>= λ behind. text.at_end behind >>= λ end. whole ds is

    on : Decls → Option Whole
    on ds = text.opening ds.rest >>= λ inner. within ds inner

    front : behind_headers ts ≡ r.decls ++ kernel_follows behind
    front = ap behind_headers r.all ∙ behind_all r.includes (r.decls ++ kernel_follows behind) ∙ decls_begin r.declared behind

    left : 4096 ≡ statement_count tree.body + (4096 - statement_count tree.body)
    left = let most : statement_count tree.body ≤ 4096 = r.statements in omega arith
