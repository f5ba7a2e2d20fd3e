-- What printf, a local's first value and statements leave: no more variables are declared than tokens are taken.
use Rattle.std.specs.Prelude.{ℕ, zero, suc, Bool, true, false, ◌&&◌, ◌≡◌, ◌<◌, ◌≤◌, ◌+◌, List, [], ◌∷◌, length, Option, Some, None, codes}
use Rattle.std.proofs.Common.{cond, refl, sym, ap, ◌∙◌, subst, arith}
use Rattle.std.proofs.lemmas.List.{length-map}
use Rattle.std.proofs.lemmas.Option.{same_Some}
use Rattle.semantics.specs.Tree.{Name, Source, Stmt, If, IfElse, For, Block, Print, no_items, local, stmt}
use Rattle.semantics.specs.Source.Token.{Token, Word, IntegerConstant, StringLiteral, Punctuator, Header, Line, Comma, Semicolon, OpenParen, CloseParen, OpenBrace, CloseBrace, EqualSign}
use Rattle.semantics.specs.Source.Typing.{typed, plain}
use Rattle.semantics.specs.Source.Scope.{Scope, same_name}
use Rattle.cparse_grammar.specs.Reading.{Got, Reader, ◌>>=◌, got, chosen}
use Rattle.cparse_grammar.specs.Operators.{number_in, is_number, cond_in}
use Rattle.cparse_grammar.specs.NextTokens.{open_paren, close_paren, semicolon, close_brace, word, new_name}
use Rattle.cparse_grammar.specs.ExpressionReader.{expression}
use Rattle.cparse_grammar.specs.PrintfReader.{starts_quoted, format, arguments, filled, fills, printed}
use Rattle.cparse_grammar.specs.StatementReader.{Tally, Told, StmtReader, told, no_stmt, is_unused, spent, spend, declared, with_local, ended, initial, assignment, items, block, selection, heading, iteration, by_head, counted, statement}
use Rattle.cparse_grammar.specs.StatementParts.{Row, begins_item, item, stated, located, append_items, otherwise}
use Rattle.cparse_grammar.proofs.Binds.{bind_some}
use Rattle.cparse_cursor.specs.declared.lexeme.Lexeme.{Lexeme}
use Rattle.cparse_cursor.specs.Lexemes.{token_of, tokens_of}
use Rattle.cparse_phrase.specs.declared.tally.Tally as code
use Rattle.cparse_phrase.specs.Tallies.{HasNumbers}
use Rattle.cparse_phrase.proofs.Leaving.{Leaves, nothing, kept, punctuator_takes, word_takes, new_name_takes, expression_leaves, assignment_leaves, heading_leaves}
use Rattle.cparse_stmt.proofs.ItemRun.{after_item, items_by, items_end}

-- a format
format_leaves : (n : ℕ) → Leaves (format n)
format_leaves zero ts g e = nothing e
format_leaves (suc n) (StringLiteral bs false ∷ ts) g e = kept (length (StringLiteral bs false ∷ ts)) e (omega arith)
format_leaves (suc n) (StringLiteral bs true ∷ ts) g e =
    let a = bind_some (word (codes "PRIu64") ts) (λ behind. cond (starts_quoted behind) (format n behind >>= λ more. got (Some bs ∷ None ∷ more.tree) true more.rest) (got (Some bs ∷ None ∷ []) true behind)) g e in
    go a.0 (word_takes (codes "PRIu64") ts a.0 a.1) (starts_quoted a.0) (format_leaves n a.0) a.2
  where
    go : (behind : List Token) → length behind < length ts → (b : Bool) → ((g : Got (List (Option (List ℕ)))) → format n behind ≡ Some g → length g.rest ≤ length behind)
        → cond b (format n behind >>= λ more. got (Some bs ∷ None ∷ more.tree) true more.rest) (got (Some bs ∷ None ∷ []) true behind) ≡ Some g → length g.rest ≤ length (StringLiteral bs true ∷ ts)
    go behind h true more d =
        let m = bind_some (format n behind) (λ more. got (Some bs ∷ None ∷ more.tree) true more.rest) g d in
        let r : length m.0.rest ≤ length behind = more m.0 m.1 in
        kept (length (StringLiteral bs true ∷ ts)) m.2 (omega arith)
    go behind h false more d = kept (length (StringLiteral bs true ∷ ts)) d (omega arith)
format_leaves (suc n) [] g e = nothing e
format_leaves (suc n) (Word w ∷ ts) g e = nothing e
format_leaves (suc n) (IntegerConstant m s ∷ ts) g e = nothing e
format_leaves (suc n) (Punctuator s ∷ ts) g e = nothing e
format_leaves (suc n) (Header m ∷ ts) g e = nothing e
format_leaves (suc n) (Line m ∷ ts) g e = nothing e

-- arguments
arguments_leave : (read : Reader Source) → Leaves read → (n : ℕ) → Leaves (arguments n read)
arguments_leave read k (suc n) (Punctuator Comma ∷ ts) g e =
    let a = bind_some (read ts) (λ e. arguments n read e.rest >>= λ es. got (number_in e.tree ∷ es.tree) ((e.sound && is_number e.tree) && ((typed (number_in e.tree) && plain (number_in e.tree)) && es.sound)) es.rest) g e in
    let b = bind_some (arguments n read a.0.rest) (λ es. got (number_in a.0.tree ∷ es.tree) ((a.0.sound && is_number a.0.tree) && ((typed (number_in a.0.tree) && plain (number_in a.0.tree)) && es.sound)) es.rest) g a.2 in
    let one : length a.0.rest ≤ length ts = k ts a.0 a.1 in
    let two : length b.0.rest ≤ length a.0.rest = arguments_leave read k n a.0.rest b.0 b.1 in
    kept (length (Punctuator Comma ∷ ts)) b.2 (omega arith)
arguments_leave read k zero ts g e = kept (length ts) e (omega arith)
arguments_leave read k (suc n) (Punctuator s ∷ ts) g e = kept (length (Punctuator s ∷ ts)) e (omega arith)
arguments_leave read k (suc n) ts g e = kept (length ts) e (omega arith)

pub printed_leaves : (room : ℕ) (scope : Scope) → Leaves (printed room scope)
unfolding printed
printed_leaves zero scope ts g e = nothing e
printed_leaves (suc room) scope ts g e =
    let read : Reader Source = expression room scope in
    let a = bind_some (open_paren ts) (λ inner. format (length inner) inner >>= λ spots. arguments (length spots.rest) read spots.rest >>= λ es. close_paren es.rest >>= λ behind. got (Print (filled spots.tree es.tree)) (es.sound && fills spots.tree es.tree) behind) g e in
    let b = bind_some (format (length a.0) a.0) (λ spots. arguments (length spots.rest) read spots.rest >>= λ es. close_paren es.rest >>= λ behind. got (Print (filled spots.tree es.tree)) (es.sound && fills spots.tree es.tree) behind) g a.2 in
    let c = bind_some (arguments (length b.0.rest) read b.0.rest) (λ es. close_paren es.rest >>= λ behind. got (Print (filled b.0.tree es.tree)) (es.sound && fills b.0.tree es.tree) behind) g b.2 in
    let d = bind_some (close_paren c.0.rest) (λ behind. got (Print (filled b.0.tree c.0.tree)) (c.0.sound && fills b.0.tree c.0.tree) behind) g c.2 in
    let one : length a.0 < length ts = punctuator_takes OpenParen ts a.0 a.1 in
    let two : length b.0.rest ≤ length a.0 = format_leaves (length a.0) a.0 b.0 b.1 in
    let three : length c.0.rest ≤ length b.0.rest = arguments_leave read (expression_leaves room scope) (length b.0.rest) b.0.rest c.0 c.1 in
    let four : length d.0 < length c.0.rest = punctuator_takes CloseParen c.0.rest d.0 d.1 in
    kept (length ts) d.2 (omega arith)

-- a local's first value
pub initial_leaves : (read : Reader Source) → Leaves read → Leaves (initial read)
initial_leaves read k (Punctuator Semicolon ∷ ts) g e = kept (length (Punctuator Semicolon ∷ ts)) e (omega arith)
initial_leaves read k (Punctuator EqualSign ∷ ts) g e =
    let a = bind_some (read ts) (λ e. semicolon e.rest >>= λ behind. got (Some e.tree) e.sound behind) g e in
    let b = bind_some (semicolon a.0.rest) (λ behind. got (Some a.0.tree) a.0.sound behind) g a.2 in
    let one : length a.0.rest ≤ length ts = k ts a.0 a.1 in
    let two : length b.0 < length a.0.rest = punctuator_takes Semicolon a.0.rest b.0 b.1 in
    kept (length (Punctuator EqualSign ∷ ts)) b.2 (omega arith)
initial_leaves read k (Punctuator s ∷ ts) g e = nothing e
initial_leaves read k _ g e = nothing e

-- the next variable's number and the tokens that are left are together no more than before
abbrev pub Counts : {A : Type 0} → (Scope → Tally → List Token → Option (Told A)) → Type 0
Counts {A} read = (scope : Scope) (tally : Tally) (ts : List Token) (t : Told A) → read scope tally ts ≡ Some t → t.tally.next + length t.rest ≤ tally.next + length ts

kept_told : {A : Type 0} {x t : Told A} (n : ℕ) → Some x ≡ Some t → x.tally.next + length x.rest ≤ n → t.tally.next + length t.rest ≤ n
kept_told {A} {x} {t} n e h = subst (λ y. y.tally.next + length y.rest ≤ n) (same_Some x t e) h

kept_row : {x r : Row} (n : ℕ) → Some x ≡ Some r → x.tally.next + length x.rest ≤ n → r.tally.next + length r.rest ≤ n
kept_row {x} {r} n e h = subst (λ y. y.tally.next + length y.rest ≤ n) (same_Some x r e) h

-- items
stated_counts : (read : StmtReader) → Counts read → (scope : Scope) (tally : Tally) (ts : List Token) (r : Row) → stated read scope tally ts ≡ Some r → r.tally.next + length r.rest ≤ tally.next + length ts
stated_counts read k scope tally ts r e =
    let a = bind_some (read scope tally ts) (λ s. Some (record { tree = stmt s.tree no_items; sound = s.sound; scope = scope; tally = s.tally; rest = s.rest })) r e in
    kept_row (tally.next + length ts) a.2 (k scope tally ts a.0 a.1)

located_counts : (room : ℕ) (scope : Scope) (tally : Tally) (ts : List Token) (r : Row) → located room scope tally ts ≡ Some r → r.tally.next + length r.rest ≤ tally.next + length ts
located_counts room scope tally ts r e =
    let whole : Name → Got (Option Source) → Option Row = (λ w start. Some (record { tree = local tally.next w start.tree no_items; sound = is_unused scope w && start.sound; scope = with_local scope w tally; tally = declared tally; rest = start.rest })) in
    let a = bind_some (new_name ts) (λ name. initial (expression room (with_local scope name.0 tally)) name.1 >>= λ start. whole name.0 start) r e in
    let b = bind_some (initial (expression room (with_local scope a.0.0 tally)) a.0.1) (λ start. whole a.0.0 start) r a.2 in
    let one : length a.0.1 < length ts = new_name_takes ts a.0 a.1 in
    let two : length b.0.rest ≤ length a.0.1 = initial_leaves (expression room (with_local scope a.0.0 tally)) (expression_leaves room (with_local scope a.0.0 tally)) a.0.1 b.0 b.1 in
    kept_row (tally.next + length ts) b.2 (omega arith)

pub item_counts : (room : ℕ) (read : StmtReader) → Counts read → (scope : Scope) (tally : Tally) (ts : List Token) (r : Row) → item room read scope tally ts ≡ Some r → r.tally.next + length r.rest ≤ tally.next + length ts
item_counts room read k scope tally (Line line ∷ ts) r e = kept_row (tally.next + length (Line line ∷ ts)) e (omega arith)
item_counts room read k scope tally (Word w ∷ ts) r e = go (same_name w (codes "uint64_t")) e
  where
    go : (b : Bool) → cond b (located room scope tally ts) (stated read scope tally (Word w ∷ ts)) ≡ Some r → r.tally.next + length r.rest ≤ tally.next + length (Word w ∷ ts)
    go true d = let one : r.tally.next + length r.rest ≤ tally.next + length ts = located_counts room scope tally ts r d in omega arith
    go false d = stated_counts read k scope tally (Word w ∷ ts) r d
item_counts room read k scope tally ts r e = stated_counts read k scope tally ts r e

items_count : (room : ℕ) (read : StmtReader) → Counts read → (n : ℕ) → Counts (items n room read)
items_count room read k zero scope tally ts t e = kept_told (tally.next + length ts) e (omega arith)
items_count room read k (suc n) scope tally ts t e = go (items_count room read k n) (begins_item ts) refl
  where
    go : Counts (items n room read) → (b : Bool) → begins_item ts ≡ b → t.tally.next + length t.rest ≤ tally.next + length ts
    go more false h = kept_told (tally.next + length ts) (sym (items_end room (suc n) read scope tally ts h) ∙ e) (omega arith)
    go more true h =
        let a = bind_some (item room read scope tally ts) (after_item room read n) t (sym (items_by room n read scope tally ts h) ∙ e) in
        let b = bind_some (items n room read a.0.scope a.0.tally a.0.rest) (λ more. told (append_items a.0.tree more.tree) (a.0.sound && more.sound) more.tally more.rest) t a.2 in
        let one : a.0.tally.next + length a.0.rest ≤ tally.next + length ts = item_counts room read k scope tally ts a.0 a.1 in
        let two : b.0.tally.next + length b.0.rest ≤ a.0.tally.next + length a.0.rest = more a.0.scope a.0.tally a.0.rest b.0 b.1 in
        kept_told (tally.next + length ts) b.2 (omega arith)

block_counts : (room : ℕ) (read : StmtReader) → Counts read → Counts (block room read)
unfolding block
block_counts zero read k scope tally ts t e = nothing e
block_counts (suc room) read k scope tally ts t e =
    let a = bind_some (items (length ts) room read scope tally ts) (λ is. close_brace is.rest >>= λ behind. told (Block is.tree) is.sound is.tally behind) t e in
    let b = bind_some (close_brace a.0.rest) (λ behind. told (Block a.0.tree) a.0.sound a.0.tally behind) t a.2 in
    let one : a.0.tally.next + length a.0.rest ≤ tally.next + length ts = items_count room read k (length ts) scope tally ts a.0 a.1 in
    let two : length b.0 < length a.0.rest = punctuator_takes CloseBrace a.0.rest b.0 b.1 in
    kept_told (tally.next + length ts) b.2 (omega arith)

-- behind the first statement of an `if`
behind_counts : (read : StmtReader) → Counts read → (scope : Scope) (c : Got Source) (a : Told Stmt) (t : Told Stmt) (x : Option (List Token)) → word (codes "else") a.rest ≡ x
    → chosen x (told (If (cond_in c.tree) a.tree) (c.sound && a.sound) a.tally a.rest)
    (λ other. read scope a.tally other >>= λ b. told (IfElse (cond_in c.tree) a.tree b.tree) (c.sound && (a.sound && b.sound)) b.tally b.rest) ≡ Some t → t.tally.next + length t.rest ≤ a.tally.next + length a.rest
behind_counts read k scope c a t None f e = kept_told (a.tally.next + length a.rest) e (omega arith)
behind_counts read k scope c a t (Some other) f e =
    let b = bind_some (read scope a.tally other) (λ b. told (IfElse (cond_in c.tree) a.tree b.tree) (c.sound && (a.sound && b.sound)) b.tally b.rest) t e in
    let one : length other < length a.rest = word_takes (codes "else") a.rest other f in
    let two : b.0.tally.next + length b.0.rest ≤ a.tally.next + length other = k scope a.tally other b.0 b.1 in
    kept_told (a.tally.next + length a.rest) b.2 (omega arith)

selection_counts : (room : ℕ) (once twice : StmtReader) → Counts once → Counts twice → Counts (selection room once twice)
unfolding selection
selection_counts zero once twice k l scope tally ts t e = nothing e
selection_counts (suc zero) once twice k l scope tally ts t e = nothing e
selection_counts (suc (suc room)) once twice k l scope tally ts t e =
    let finish : Got Source → Told Stmt → Option (Told Stmt) = (λ c a. otherwise twice scope c a) in
    let a = bind_some (open_paren ts) (λ inner. expression room scope inner >>= λ c. close_paren c.rest >>= λ behind. once scope tally behind >>= λ a. finish c a) t e in
    let c = bind_some (expression room scope a.0) (λ c. close_paren c.rest >>= λ behind. once scope tally behind >>= λ a. finish c a) t a.2 in
    let d = bind_some (close_paren c.0.rest) (λ behind. once scope tally behind >>= λ a. finish c.0 a) t c.2 in
    let b = bind_some (once scope tally d.0) (λ a. finish c.0 a) t d.2 in
    let one : length a.0 < length ts = punctuator_takes OpenParen ts a.0 a.1 in
    let two : length c.0.rest ≤ length a.0 = expression_leaves room scope a.0 c.0 c.1 in
    let three : length d.0 < length c.0.rest = punctuator_takes CloseParen c.0.rest d.0 d.1 in
    let four : b.0.tally.next + length b.0.rest ≤ tally.next + length d.0 = k scope tally d.0 b.0 b.1 in
    let five : t.tally.next + length t.rest ≤ b.0.tally.next + length b.0.rest = behind_counts twice l scope c.0 b.0 t (word (codes "else") b.0.rest) refl b.2 in
    omega arith

-- the word in front of a loop makes up for its variable
iteration_counts : (room : ℕ) (once : StmtReader) → Counts once → (scope : Scope) (tally : Tally) (ts : List Token) (t : Told Stmt) → iteration room once scope tally ts ≡ Some t → t.tally.next + length t.rest ≤ suc (tally.next + length ts)
unfolding iteration
iteration_counts zero once k scope tally ts t e = nothing e
iteration_counts (suc zero) once k scope tally ts t e = nothing e
iteration_counts (suc (suc room)) once k scope tally ts t e =
    let a = bind_some (heading room scope tally ts) (λ h. once (with_local scope h.name tally) (declared tally) h.rest >>= λ s. told (For tally.next h.name h.start (cond_in h.test) h.step s.tree) (h.sound && s.sound) s.tally s.rest) t e in
    let b = bind_some (once (with_local scope a.0.name tally) (declared tally) a.0.rest) (λ s. told (For tally.next a.0.name a.0.start (cond_in a.0.test) a.0.step s.tree) (a.0.sound && s.sound) s.tally s.rest) t a.2 in
    let one : length a.0.rest ≤ length ts = heading_leaves room scope tally ts a.0 a.1 in
    let two : b.0.tally.next + length b.0.rest ≤ suc tally.next + length a.0.rest = k (with_local scope a.0.name tally) (declared tally) a.0.rest b.0 b.1 in
    kept_told (suc (tally.next + length ts)) b.2 (omega arith)

ended_counts : (tally : Tally) (s : Got Stmt) (t : Told Stmt) → ended tally s ≡ Some t → t.tally.next + length t.rest ≤ tally.next + length s.rest
ended_counts tally s t e =
    let a = bind_some (semicolon s.rest) (λ behind. told s.tree s.sound tally behind) t e in
    let one : length a.0 < length s.rest = punctuator_takes Semicolon s.rest a.0 a.1 in
    kept_told (tally.next + length s.rest) a.2 (omega arith)

line_counts : (tally : Tally) (read : List Token → Option (Got Stmt)) → Leaves read → (ts : List Token) (t : Told Stmt) → (read ts >>= λ s. ended tally s) ≡ Some t → t.tally.next + length t.rest ≤ tally.next + length ts
line_counts tally read k ts t e =
    let a = bind_some (read ts) (λ s. ended tally s) t e in
    let one : length a.0.rest ≤ length ts = k ts a.0 a.1 in
    let two : t.tally.next + length t.rest ≤ tally.next + length a.0.rest = ended_counts tally a.0 t a.2 in
    omega arith

head_counts : (room : ℕ) (once twice : StmtReader) → Counts once → Counts twice → Counts (by_head room once twice)
head_counts room once twice k l scope tally (Punctuator OpenBrace ∷ ts) t e =
    let one : t.tally.next + length t.rest ≤ tally.next + length ts = block_counts room once k scope tally ts t e in
    omega arith
head_counts room once twice k l scope tally (Word w ∷ ts) t e = first (same_name w (codes "if")) e
  where
    line : Option (Told Stmt)
    line = cond (same_name w (codes "printf")) (printed room scope ts >>= λ s. ended tally s) (assignment room scope w ts >>= λ s. ended tally s)

    third : (b : Bool) → cond b (printed room scope ts >>= λ s. ended tally s) (assignment room scope w ts >>= λ s. ended tally s) ≡ Some t → t.tally.next + length t.rest ≤ tally.next + length ts
    third true d = line_counts tally (printed room scope) (printed_leaves room scope) ts t d
    third false d = line_counts tally (assignment room scope w) (assignment_leaves room scope w) ts t d

    second : (b : Bool) → cond b (iteration room once scope tally ts) line ≡ Some t → t.tally.next + length t.rest ≤ tally.next + length (Word w ∷ ts)
    second true d = let one : t.tally.next + length t.rest ≤ suc (tally.next + length ts) = iteration_counts room once k scope tally ts t d in omega arith
    second false d = let one : t.tally.next + length t.rest ≤ tally.next + length ts = third (same_name w (codes "printf")) d in omega arith

    first : (b : Bool) → cond b (selection room once twice scope tally ts) (cond (same_name w (codes "for")) (iteration room once scope tally ts) line) ≡ Some t → t.tally.next + length t.rest ≤ tally.next + length (Word w ∷ ts)
    first true d = let one : t.tally.next + length t.rest ≤ tally.next + length ts = selection_counts room once twice k l scope tally ts t d in omega arith
    first false d = second (same_name w (codes "for")) d
head_counts room once twice k l scope tally (Punctuator s ∷ ts) t e = nothing e
head_counts room once twice k l scope tally _ t e = nothing e

pub spend_keeps : (tally x : Tally) → spend tally ≡ Some x → x.next ≡ tally.next
spend_keeps tally x e = go tally.next tally.left e
  where
    go : (next left : ℕ) → spent next left ≡ Some x → x.next ≡ next
    go next zero d = nothing d
    go next (suc left) d = sym (ap (λ y. y.next) (same_Some (record { next = next; left = left }) x d))

counted_counts : (room : ℕ) (once twice : StmtReader) → Counts once → Counts twice → Counts (counted room once twice)
counted_counts room once twice k l scope tally ts t e =
    let a = bind_some (spend tally) (λ x. by_head room once twice scope x ts) t e in
    let one : a.0.next ≡ tally.next = spend_keeps tally a.0 a.1 in
    let two : t.tally.next + length t.rest ≤ a.0.next + length ts = head_counts room once twice k l scope a.0 ts t a.2 in
    omega arith

none_counts : Counts no_stmt
none_counts scope tally ts t e = nothing e

pub statement_counts : (room : ℕ) → Counts (statement room)
statement_counts zero = counted_counts zero no_stmt no_stmt none_counts none_counts
statement_counts (suc zero) = counted_counts (suc zero) (statement zero) no_stmt (statement_counts zero) none_counts
statement_counts (suc (suc room)) = counted_counts (suc (suc room)) (statement (suc room)) (statement room) (statement_counts (suc room)) (statement_counts room)

-- numbers that sufficed suffice for what is left
pub has_still : (before after : code.Tally) (ts us : List Lexeme) → HasNumbers before ts → after.next + length (tokens_of us) ≤ before.next + length (tokens_of ts) → HasNumbers after us
has_still before after ts us h k =
    let all : length (tokens_of ts) ≡ length ts = length-map ts token_of in
    let left : length (tokens_of us) ≡ length us = length-map us token_of in
    omega arith
