-- Whatever the grammar of clauses has is read so.
use Rattle.std.specs.Prelude.{ℕ, zero, suc, Bool, true, false, ◌≡◌, ◌<◌, ◌≤◌, ◌^◌, ◌+◌, nat_le, List, [], ◌∷◌, ◌++◌, length, Option, Some, None, codes}
use Rattle.std.specs.List.{list_all}
use Rattle.std.proofs.Common.{cond, refl, ap, ◌∙◌, arith}
use Rattle.std.proofs.lemmas.Bool.{cond-true}
use Rattle.std.proofs.lemmas.List.{append_assoc, length-append}
use Rattle.semantics.specs.Tree.{Name}
use Rattle.semantics.specs.Source.Token.{Token, Word, Punctuator, OpenParen, CloseParen, Comma, Colon}
use Rattle.semantics.specs.Source.Cuts.{is_decimal, decimal_from}
use Rattle.semantics.specs.Source.Scope.{same_name}
use Rattle.semantics.specs.Loops.Operator.{ReduceOp, Sum, Product, And, Or, Xor, AndAlso, OrElse, Max, Min}
use Rattle.semantics.specs.Directives.Directive as meant
use Rattle.semantics.specs.Directives.Directive.{Schedule, Clause, op_text}
use Rattle.semantics.specs.Directives.DirectiveGrammar as grammar
use Rattle.semantics.specs.Directives.DirectiveGrammar.{is_list_name, called, ReadsNames, ReadsNumber, ReadsSchedule, ReadsClause, ReadsFurther, ReadsClauses, each_once}
use Rattle.cparse_grammar.specs.Reading.{◌>>=◌, chosen}
use Rattle.cparse_grammar.specs.NextTokens as ahead
use Rattle.cparse_grammar.proofs.Binds.{bind_to, first_true, second_true, both_true}
use Rattle.pragma_clause.specs.ClauseReader as reader
use Rattle.pragma_clause.specs.ClauseReader.{Reads, is_end, name, listed, names, number_in, number}
use Rattle.pragma_clause.proofs.Loops.{listed_go, listed_close, clauses_go}
use Rattle.pragma_clause.proofs.ClauseSound.{append_end}

pub name_read : (w : Name) (us : List Token) → is_list_name w ≡ true → name (Word w ∷ us) ≡ Some (w, us)
name_read w us h = bind_to _ (cond-true _ _ _ h)

names_read : {ts : List Token} {ws : List Name} → ReadsNames ts ws → (n : ℕ) (ys : List Name) (us : List Token) → length ts ≤ n → ahead.comma us ≡ None → listed name n ys (ts ++ us) ≡ Some (ys ++ ws, us)
names_read (grammar.only {w = w} h) zero ys us le e = absurd (omega arith)
names_read (grammar.only {w = w} h) (suc n) ys us le e = listed_close name n ys (Word w ∷ us) (w, us) (name_read w us h) e
names_read (grammar.further {w = w} h r) zero ys us le e = absurd (omega arith)
names_read (grammar.further {w = w} {ts = ts} {ws = ws} h r) (suc n) ys us le e =
    let fewer : length ts ≤ n = omega arith in
    listed_go name n ys (Word w ∷ Punctuator Comma ∷ (ts ++ us)) (w, Punctuator Comma ∷ (ts ++ us)) (ts ++ us) (name_read w _ h) refl
    ∙ names_read r n (ys ++ w ∷ []) us fewer e ∙ ap (λ xs. Some (xs, us)) (append_assoc ys (w ∷ []) ws)

number_in_read : (most : ℕ) (w : List ℕ) (n : ℕ) → ReadsNumber most w n → number_in true most w ≡ Some n
number_in_read most _ _ (grammar.number {ds = ds} d r) =
    let n : ℕ = decimal_from 0 ds in
    cond-true _ _ _ (both_true {a = is_decimal ds} {b = nat_le 1 n} d (first_true (nat_le 1 n) (nat_le n most) r)) ∙ cond-true _ _ _ (second_true (nat_le 1 n) (nat_le n most) r)

number_read : (most : ℕ) (w : List ℕ) (n : ℕ) (us : List Token) → ReadsNumber most w n → number true most (Word w ∷ us) ≡ Some (n, us)
number_read most w n us r = bind_to _ (number_in_read most w n r)

-- a size behind a comma
size_read : (w : List ℕ) (k : ℕ) (us : List Token) → ReadsNumber (2 ^ 24) w k → reader.size true (Punctuator Comma ∷ Word w ∷ us) ≡ Some (Some k, us)
size_read w k us r = bind_to _ (number_read (2 ^ 24) w k us r)

-- no size
abbrev behind_size : List Token → Option (List Token) → Option (Option ℕ × List Token)
behind_size us o = chosen o (Some (None, us)) (λ behind. number true (2 ^ 24) behind >>= λ k. Some (Some k.0, k.1))

no_size : (us : List Token) → ahead.comma us ≡ None → reader.size true us ≡ Some (None, us)
no_size us e = ap (behind_size us) e

schedule_read : {ts : List Token} {s : Schedule} → ReadsSchedule ts s → (us : List Token) → ahead.comma us ≡ None → reader.schedule true (ts ++ us) ≡ Some (s, us)
schedule_read grammar.static_plain us e = bind_to _ (no_size us e)
schedule_read (grammar.static_size {w = w} {k = k} r) us e = bind_to _ (size_read w k us r)
schedule_read grammar.dynamic us e = bind_to _ (no_size us e)
schedule_read (grammar.dynamic_size {w = w} {k = k} r) us e = bind_to _ (size_read w k us r)
schedule_read grammar.guided us e = bind_to _ (no_size us e)
schedule_read (grammar.guided_size {w = w} {k = k} r) us e = bind_to _ (size_read w k us r)
schedule_read grammar.auto us e = bind_to _ (no_size us e)
schedule_read grammar.runtime us e = bind_to _ (no_size us e)

operator_read : (op : ReduceOp) → reader.operator (op_text op) ≡ Some op
operator_read Sum = refl
operator_read Product = refl
operator_read And = refl
operator_read Or = refl
operator_read Xor = refl
operator_read AndAlso = refl
operator_read OrElse = refl
operator_read Max = refl
operator_read Min = refl

not_inscan : (op : ReduceOp) (ts : List Token) → ahead.word (codes "inscan") (Word (op_text op) ∷ ts) ≡ None
not_inscan Sum ts = refl
not_inscan Product ts = refl
not_inscan And ts = refl
not_inscan Or ts = refl
not_inscan Xor ts = refl
not_inscan AndAlso ts = refl
not_inscan OrElse ts = refl
not_inscan Max ts = refl
not_inscan Min ts = refl

identifier_read : (op : ReduceOp) (ts : List Token) → reader.identifier (Word (op_text op) ∷ Punctuator Colon ∷ ts) ≡ Some (op, ts)
identifier_read op ts = bind_to _ (operator_read op)

-- names are no `conditional` with its colon
not_conditional : {ts : List Token} {ws : List Name} → ReadsNames ts ws → (us : List Token) → reader.conditional (ts ++ Punctuator CloseParen ∷ us) ≡ None
not_conditional (grammar.only {w = w} h) us = go (same_name w (codes "conditional"))
  where
    go : (b : Bool) → (cond b (Some (Punctuator CloseParen ∷ us)) None >>= λ behind. ahead.colon behind) ≡ None
    go true = refl
    go false = refl
not_conditional (grammar.further {w = w} {ts = ts} h r) us = go (same_name w (codes "conditional"))
  where
    go : (b : Bool) → (cond b (Some (Punctuator Comma ∷ (ts ++ Punctuator CloseParen ∷ us))) None >>= λ behind. ahead.colon behind) ≡ None
    go true = refl
    go false = refl

-- what stands between parentheses
inside_read : (n : ℕ) (w : List ℕ) (ts us : List Token) (c : Clause Name) → reader.inside true n w (ts ++ Punctuator CloseParen ∷ us) ≡ Some (c, Punctuator CloseParen ∷ us)
    → reader.enclosed true n w (Punctuator OpenParen ∷ ((ts ++ Punctuator CloseParen ∷ []) ++ us)) ≡ Some (c, us)
inside_read n w ts us c e =
    ap (λ vs. reader.inside true n w vs >>= λ c. ahead.close_paren c.1 >>= λ rest. Some (c.0, rest)) (append_assoc ts (Punctuator CloseParen ∷ []) us) ∙ bind_to _ e

-- the tokens between the parentheses are fewer
fewer : (w : List ℕ) (ts : List Token) (n : ℕ) → length (called w ts) ≤ n → length ts ≤ n
fewer w ts n le = omega (arith, length-append ts (Punctuator CloseParen ∷ []))

pub clause_read : {ts : List Token} {c : Clause Name} → ReadsClause ts c → (n : ℕ) (us : List Token) → length ts ≤ n → ahead.open_paren us ≡ None → reader.clause true n (ts ++ us) ≡ Some (c, us)
clause_read grammar.default_shared n us le e = refl
clause_read grammar.default_none n us le e = refl
clause_read (grammar.shared {ts = ts} {ws = ws} r) n us le e =
    inside_read n (codes "shared") ts us (meant.Shared ws) (bind_to _ (names_read r n [] (Punctuator CloseParen ∷ us) (fewer (codes "shared") ts n le) refl))
clause_read (grammar.private {ts = ts} {ws = ws} r) n us le e =
    inside_read n (codes "private") ts us (meant.Private ws) (bind_to _ (names_read r n [] (Punctuator CloseParen ∷ us) (fewer (codes "private") ts n le) refl))
clause_read (grammar.firstprivate {ts = ts} {ws = ws} r) n us le e =
    inside_read n (codes "firstprivate") ts us (meant.Firstprivate ws) (bind_to _ (names_read r n [] (Punctuator CloseParen ∷ us) (fewer (codes "firstprivate") ts n le) refl))
clause_read (grammar.lastprivate {ts = ts} {ws = ws} r) n us le e =
    inside_read n (codes "lastprivate") ts us (meant.Lastprivate ws)
    (ap (λ o. chosen o (names n (ts ++ Punctuator CloseParen ∷ us) >>= λ xs. Some (meant.Lastprivate xs.0, xs.1)) (λ behind. names n behind >>= λ xs. Some (meant.LastConditional xs.0, xs.1))) (not_conditional r us)
    ∙ bind_to _ (names_read r n [] (Punctuator CloseParen ∷ us) (fewer (codes "lastprivate") ts n le) refl))
clause_read (grammar.last_conditional {ts = ts} {ws = ws} r) n us le e =
    let few : length ts ≤ n = omega (arith, fewer (codes "lastprivate") (Word (codes "conditional") ∷ Punctuator Colon ∷ ts) n le) in
    inside_read n (codes "lastprivate") (Word (codes "conditional") ∷ Punctuator Colon ∷ ts) us (meant.LastConditional ws) (bind_to _ (names_read r n [] (Punctuator CloseParen ∷ us) few refl))
clause_read (grammar.reduction {ts = ts} {ws = ws} op r) n us le e =
    let few : length ts ≤ n = omega (arith, fewer (codes "reduction") (Word (op_text op) ∷ Punctuator Colon ∷ ts) n le) in
    let vs : List Token = Word (op_text op) ∷ Punctuator Colon ∷ (ts ++ Punctuator CloseParen ∷ us) in
    inside_read n (codes "reduction") (Word (op_text op) ∷ Punctuator Colon ∷ ts) us (meant.Reduction op ws)
    (ap (λ o. chosen o (reader.identifier vs >>= λ op. names n op.1 >>= λ xs. Some (meant.Reduction op.0 xs.0, xs.1)) (λ behind. reader.inscan behind)) (not_inscan op _)
    ∙ bind_to _ (identifier_read op (ts ++ Punctuator CloseParen ∷ us)) ∙ bind_to _ (names_read r n [] (Punctuator CloseParen ∷ us) few refl))
clause_read (grammar.inscan {w = w} op h) n us le e =
    inside_read n (codes "reduction") (Word (codes "inscan") ∷ Punctuator Comma ∷ Word (op_text op) ∷ Punctuator Colon ∷ Word w ∷ []) us (meant.Inscan op w)
    (bind_to _ (identifier_read op (Word w ∷ Punctuator CloseParen ∷ us)) ∙ bind_to _ (name_read w (Punctuator CloseParen ∷ us) h))
clause_read (grammar.schedule {ts = ts} {kind = s} r) n us le e =
    inside_read n (codes "schedule") ts us (meant.ScheduledBy s) (bind_to _ (schedule_read r (Punctuator CloseParen ∷ us) refl))
clause_read (grammar.collapse {w = w} {c = c} r) n us le e =
    inside_read n (codes "collapse") (Word w ∷ []) us (meant.Collapse c) (bind_to _ (number_read 4 w c (Punctuator CloseParen ∷ us) r))
clause_read grammar.ordered n us le e =
    ap (λ o. chosen o (Some (meant.Ordered, us)) (λ inner. reader.loops true inner)) e
clause_read (grammar.ordered_loops {w = w} {n = m} r) n us le e = bind_to _ (number_read 4 w m (Punctuator CloseParen ∷ us) r)
clause_read grammar.nowait n us le e = refl

-- how a clause begins
record Begins (ts : List Token) : Type 0 where
  is_there : is_end ts ≡ false
  no_comma : ahead.comma ts ≡ None
  no_paren : ahead.open_paren ts ≡ None
  no_for : ahead.word (codes "for") ts ≡ None

begins : {ts : List Token} {c : Clause Name} → ReadsClause ts c → (us : List Token) → Begins (ts ++ us)
begins grammar.default_shared us = record { is_there = refl; no_comma = refl; no_paren = refl; no_for = refl }
begins grammar.default_none us = record { is_there = refl; no_comma = refl; no_paren = refl; no_for = refl }
begins (grammar.shared r) us = record { is_there = refl; no_comma = refl; no_paren = refl; no_for = refl }
begins (grammar.private r) us = record { is_there = refl; no_comma = refl; no_paren = refl; no_for = refl }
begins (grammar.firstprivate r) us = record { is_there = refl; no_comma = refl; no_paren = refl; no_for = refl }
begins (grammar.lastprivate r) us = record { is_there = refl; no_comma = refl; no_paren = refl; no_for = refl }
begins (grammar.last_conditional r) us = record { is_there = refl; no_comma = refl; no_paren = refl; no_for = refl }
begins (grammar.reduction op r) us = record { is_there = refl; no_comma = refl; no_paren = refl; no_for = refl }
begins (grammar.inscan op h) us = record { is_there = refl; no_comma = refl; no_paren = refl; no_for = refl }
begins (grammar.schedule r) us = record { is_there = refl; no_comma = refl; no_paren = refl; no_for = refl }
begins (grammar.collapse r) us = record { is_there = refl; no_comma = refl; no_paren = refl; no_for = refl }
begins grammar.ordered us = record { is_there = refl; no_comma = refl; no_paren = refl; no_for = refl }
begins (grammar.ordered_loops r) us = record { is_there = refl; no_comma = refl; no_paren = refl; no_for = refl }
begins grammar.nowait us = record { is_there = refl; no_comma = refl; no_paren = refl; no_for = refl }

-- a clause has a token
has_token : {ts : List Token} {c : Clause Name} → ReadsClause ts c → 1 ≤ length ts
has_token grammar.default_shared = omega arith
has_token grammar.default_none = omega arith
has_token (grammar.shared r) = omega arith
has_token (grammar.private r) = omega arith
has_token (grammar.firstprivate r) = omega arith
has_token (grammar.lastprivate r) = omega arith
has_token (grammar.last_conditional r) = omega arith
has_token (grammar.reduction op r) = omega arith
has_token (grammar.inscan op h) = omega arith
has_token (grammar.schedule r) = omega arith
has_token (grammar.collapse r) = omega arith
has_token grammar.ordered = omega arith
has_token (grammar.ordered_loops r) = omega arith
has_token grammar.nowait = omega arith

-- no parenthesis opens behind a clause
no_paren_behind : {ts : List Token} {cs : List (Clause Name)} → ReadsFurther ts cs → ahead.open_paren ts ≡ None
no_paren_behind grammar.no_further = refl
no_paren_behind (grammar.next {ts = ts} {us = us} c r) = (begins c us).no_paren
no_paren_behind (grammar.next_behind_comma c r) = refl

further_read : {ts : List Token} {cs : List (Clause Name)} → ReadsFurther ts cs → (most n : ℕ) (ys : List (Clause Name)) → length ts ≤ most → length ts < n → reader.further true most n ys ts ≡ Some (ys ++ cs)
further_read r most zero ys le lt = absurd (omega arith)
further_read grammar.no_further most (suc n) ys le lt = ap Some (append_end ys)
further_read (grammar.next {ts = ts} {us = us} {c = c} {cs = cs} r f) most (suc n) ys le lt =
    let begun = begins r us in
    let sum : length (ts ++ us) ≡ length ts + length us = length-append ts us in
    let some_token : 1 ≤ length ts = has_token r in
    let few : length ts ≤ most = omega arith in
    let less : length us ≤ most = omega arith in
    let left : length us < n = omega arith in
    let here : reader.behind_comma (ts ++ us) ≡ ts ++ us = ap (λ o. chosen o (ts ++ us) (λ behind. behind)) begun.no_comma in
    clauses_go true most n ys (ts ++ us) (c, us) begun.is_there (ap (reader.clause true most) here ∙ clause_read r most us few (no_paren_behind f))
    ∙ further_read f most n (ys ++ c ∷ []) less left ∙ ap Some (append_assoc ys (c ∷ []) cs)
further_read (grammar.next_behind_comma {ts = ts} {us = us} {c = c} {cs = cs} r f) most (suc n) ys le lt =
    let sum : length (ts ++ us) ≡ length ts + length us = length-append ts us in
    let few : length ts ≤ most = omega arith in
    let less : length us ≤ most = omega arith in
    let left : length us < n = omega arith in
    clauses_go true most n ys (Punctuator Comma ∷ (ts ++ us)) (c, us) refl (clause_read r most us few (no_paren_behind f))
    ∙ further_read f most n (ys ++ c ∷ []) less left ∙ ap Some (append_assoc ys (c ∷ []) cs)

clauses_read : {ts : List Token} {cs : List (Clause Name)} → ReadsClauses ts cs → (n : ℕ) → length ts < n → reader.clauses true n ts ≡ Some cs
clauses_read grammar.no_clauses n lt = further_read grammar.no_further n n [] (omega arith) lt
clauses_read (grammar.first {ts = ts} {us = us} c r) n lt =
    ap (λ o. chosen o (reader.further true n n [] (ts ++ us)) (λ behind. None)) (begins c us).no_comma ∙ further_read (grammar.next c r) n n [] (omega arith) lt

-- clauses are no `for`
pub no_for_first : {ts : List Token} {cs : List (Clause Name)} → ReadsClauses ts cs → ahead.word (codes "for") ts ≡ None
no_for_first grammar.no_clauses = refl
no_for_first (grammar.first {ts = ts} {us = us} c r) = (begins c us).no_for

pub directive_clauses_read : {ts : List Token} {cs : List (Clause Name)} → ReadsClauses ts cs → (n : ℕ) (may : Clause Name → Bool) → list_all may cs ≡ true → each_once cs ≡ true → length ts < n → reader.directive_clauses true n may ts ≡ Some cs
directive_clauses_read r n may fit once lt = bind_to _ (clauses_read r n lt) ∙ cond-true _ _ _ (both_true fit once)
