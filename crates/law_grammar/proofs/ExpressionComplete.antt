-- Whatever the grammar of expressions has is read so.
use Rattle.std.specs.Prelude.{ℕ, zero, suc, Bool, true, false, not, ◌&&◌, ◌≡◌, ◌<◌, ◌≤◌, ◌+◌, nat_le, List, [], ◌∷◌, ◌++◌, length, Option, Some, None}
use Rattle.std.proofs.Common.{rules, cond, refl, sym, ap, ◌∙◌, subst, arith}
use Rattle.std.proofs.lemmas.Bool.{eq-eqb}
use Rattle.std.proofs.lemmas.List.{append_assoc, length-append}
use Rattle.semantics.specs.Tree.{Name, Variable, Suffix, UnaryOp, Literal, Constant, Object, Unary, Conditional, Binary, Expr, Exprs, Cond, Source, Number, Truth, NotZero, Compare, Not, LogicalAnd, LogicalOr, Negate, Complement, BinaryOp, CompareOp, no_exprs, more_exprs}
use Rattle.semantics.specs.Source.Token.{Token, Word, IntegerConstant, StringLiteral, Punctuator, Header, Line, Symbol, OpenParen, CloseParen, OpenBracket, CloseBracket, Question, Colon, Bang, DoubleAmp, DoubleBar, MinusSign, Tilde}
use Rattle.semantics.specs.Source.Typing.{in_range, typed}
use Rattle.semantics.specs.Source.Scope.{Scope, Entity, AVariable, AConstant, find, count}
use Rattle.semantics.specs.Source.Expressions.{UnarySign, minus, tilde, BinarySign, CompareSign, ReadsExpr, literal, enumerator, object, parens, unary, binary, choose, tighter, ReadsSubscripts, no_subscripts, subscript, ReadsCond, numeric, cond_parens, compare, both, either, cond_tighter}
use Rattle.semantics.specs.Source.Expressions as grammar
use Rattle.cparse_grammar.specs.Reading.{Got, ◌>>=◌, got, chosen}
use Rattle.cparse_grammar.specs.Operators.{Infix, Arithmetic, Comparing, AndAlso, OrElse, precedence, infix_of, number_in, is_number, cond_in, joined, joins}
use Rattle.cparse_grammar.specs.NextTokens as ahead
use Rattle.cparse_grammar.specs.ExpressionReader as reader
use Rattle.cparse_grammar.specs.ExpressionReader.{Inner, subscripts, primary, unary_of, next_infix, of_precedence, join, further, whole, inside}
use Rattle.cparse_grammar.proofs.Binds.{bind_to}

-- a condition as it is read
abbrev pub as_source : Cond → Source
as_source (NotZero e) = Number e
as_source (Compare op a b) = Truth (Compare op a b)
as_source (Not c) = Truth (Not c)
as_source (LogicalAnd c d) = Truth (LogicalAnd c d)
as_source (LogicalOr c d) = Truth (LogicalOr c d)

pub cond_as_source : (c : Cond) → cond_in (as_source c) ≡ c
cond_as_source (NotZero e) = refl
cond_as_source (Compare op a b) = refl
cond_as_source (Not c) = refl
cond_as_source (LogicalAnd c d) = refl
cond_as_source (LogicalOr c d) = refl

abbrev pub is_bracket : Symbol → Bool
is_bracket OpenBracket = true
is_bracket _ = false

abbrev pub is_question : Symbol → Bool
is_question Question = true
is_question _ = false

-- no subscript comes next, and no operator that reaches less far
abbrev pub ends_at : ℕ → Symbol → Option Infix → Bool
ends_at j s None = not (is_bracket s)
ends_at j s (Some op) = nat_le j (precedence op)

abbrev pub ends : ℕ → List Token → Bool
ends j (Punctuator s ∷ ts) = ends_at j s (infix_of s)
ends j _ = true

-- nothing that an expression could go on with
abbrev pub stops_at : Symbol → Option Infix → Bool
stops_at s None = not (is_bracket s) && not (is_question s)
stops_at s (Some op) = false

abbrev pub stops : List Token → Bool
stops (Punctuator s ∷ ts) = stops_at s (infix_of s)
stops _ = true

stops_ends_at : (j : ℕ) (s : Symbol) (o : Option Infix) → stops_at s o ≡ true → ends_at j s o ≡ true
stops_ends_at j s None h = go (is_bracket s) refl
  where
    go : (b : Bool) → is_bracket s ≡ b → not (is_bracket s) ≡ true
    go false e = ap not e
    go true e = absurd (let k : (not (is_bracket s) && not (is_question s)) ≡ true = h in let m : false ≡ true = ap (λ b. not b && not (is_question s)) (sym e) ∙ k in cc)
stops_ends_at j s (Some op) h = absurd (cc)

-- what stops all, stops each
pub stops_ends : (j : ℕ) (ts : List Token) → stops ts ≡ true → ends j ts ≡ true
stops_ends j [] h = refl
stops_ends j (Word w ∷ ts) h = refl
stops_ends j (IntegerConstant n s ∷ ts) h = refl
stops_ends j (StringLiteral cs o ∷ ts) h = refl
stops_ends j (Punctuator s ∷ ts) h = stops_ends_at j s (infix_of s) h
stops_ends j (Header n ∷ ts) h = refl
stops_ends j (Line n ∷ ts) h = refl

le_true : (a b : ℕ) → a ≤ b → nat_le a b ≡ true
le_true a b h = search rules

weaker_at : (j : ℕ) (s : Symbol) (o : Option Infix) → ends_at (suc j) s o ≡ true → ends_at j s o ≡ true
weaker_at j s None h = h
weaker_at j s (Some op) h = search rules

-- what ends an operator's reach ends a shorter one
pub ends_weaker : (j : ℕ) (ts : List Token) → ends (suc j) ts ≡ true → ends j ts ≡ true
ends_weaker j [] h = refl
ends_weaker j (Word w ∷ ts) h = refl
ends_weaker j (IntegerConstant n s ∷ ts) h = refl
ends_weaker j (StringLiteral cs o ∷ ts) h = refl
ends_weaker j (Punctuator s ∷ ts) h = weaker_at j s (infix_of s) h
ends_weaker j (Header n ∷ ts) h = refl
ends_weaker j (Line n ∷ ts) h = refl

no_reach : (j : ℕ) (ts : List Token) (s : Symbol) (o : Option Infix) → ends_at (suc j) s o ≡ true → of_precedence j ts o ≡ None
no_reach j ts s None h = refl
no_reach j ts s (Some op) h = search rules

-- no operator of a reach comes next
pub ends_next : (j : ℕ) (ts : List Token) → ends (suc j) ts ≡ true → next_infix j ts ≡ None
ends_next j [] h = refl
ends_next j (Word w ∷ ts) h = refl
ends_next j (IntegerConstant n s ∷ ts) h = refl
ends_next j (StringLiteral cs o ∷ ts) h = refl
ends_next j (Punctuator s ∷ ts) h = no_reach j ts s (infix_of s) h
ends_next j (Header n ∷ ts) h = refl
ends_next j (Line n ∷ ts) h = refl

-- what was read, with nothing wrong in it
abbrev pub right : {A : Type 0} → A → List Token → Got A
right s rest = record { tree = s; sound = true; rest = rest }

-- operators of a reach behind a left operand; at the unary level there are none
abbrev pub further_at : ℕ → ℕ → Scope → Inner → Got Source → Option (Got Source)
further_at n zero scope inner a = Some a
further_at n (suc j) scope inner a = further n (suc j) (reader.binary j scope inner) a

-- nothing further comes
pub further_done : (n j : ℕ) (scope : Scope) (inner : Inner) (s : Source) (rest : List Token) → ends (suc j) rest ≡ true → further_at n j scope inner (right s rest) ≡ Some (right s rest)
further_done n zero scope inner s rest h = refl
further_done zero (suc j) scope inner s rest h = refl
further_done (suc n) (suc j) scope inner s rest h =
    ap (λ o. chosen o (Some (right s rest)) (λ op. reader.binary j scope inner op.1 >>= λ b. further n (suc j) (reader.binary j scope inner) (join (right s rest) op.0 b))) (ends_next (suc j) rest h)

-- how tokens are read that make an operand of some reach: primary ones, and those with operators that reach further and further
abbrev pub ReadsAs : ℕ → Scope → ℕ → List Token → Source → List Token → Type 0
ReadsAs zero scope room ts s rest = ends 0 rest ≡ true → primary scope (inside room scope) (ts ++ rest) ≡ Some (right s rest)
ReadsAs (suc j) scope room ts s rest =
    ends j rest ≡ true → (n : ℕ) × (length rest ≤ n) × (reader.binary j scope (inside room scope) (ts ++ rest) ≡ further_at n j scope (inside room scope) (right s rest))

-- the same by the grammar's levels
abbrev pub Claim : ℕ → Scope → ℕ → List Token → Source → Type 0
Claim zero scope room ts s = (rest : List Token) → stops rest ≡ true → whole scope (inside room scope) (ts ++ rest) ≡ Some (right s rest)
Claim (suc l) scope room ts s = (k : ℕ) × (l + k ≡ 11) × ((rest : List Token) → ReadsAs k scope room ts s rest)

-- at the reach of a level
claim_at : (l : ℕ) (scope : Scope) (room : ℕ) (ts : List Token) (s : Source) (k : ℕ) → l + k ≡ 11 → Claim (suc l) scope room ts s → (rest : List Token) → ReadsAs k scope room ts s rest
claim_at l scope room ts s k e c = subst (λ m. (rest : List Token) → ReadsAs m scope room ts s rest) (let d : l + c.0 ≡ 11 = c.1 in omega arith) c.2

claim_to : (l m : ℕ) (scope : Scope) (room : ℕ) (ts : List Token) (s : Source) → l ≡ m → Claim l scope room ts s → Claim m scope room ts s
claim_to l m scope room ts s e c = subst (λ n. Claim n scope room ts s) e c

-- no subscript follows
subs_none : (n : ℕ) (inner : Inner) (rest : List Token) → ends 0 rest ≡ true → subscripts n inner rest ≡ Some (right no_exprs rest)
subs_none zero inner rest h = refl
subs_none (suc n) inner [] h = refl
subs_none (suc n) inner (Word w ∷ ts) h = refl
subs_none (suc n) inner (IntegerConstant m s ∷ ts) h = refl
subs_none (suc n) inner (StringLiteral cs o ∷ ts) h = refl
subs_none (suc n) inner (Punctuator s ∷ ts) h = sign s h
  where
    sign : (s : Symbol) → ends_at 0 s (infix_of s) ≡ true → subscripts (suc n) inner (Punctuator s ∷ ts) ≡ Some (right no_exprs (Punctuator s ∷ ts))
    sign OpenBracket h = absurd (cc)
    sign _ h = refl
subs_none (suc n) inner (Header m ∷ ts) h = refl
subs_none (suc n) inner (Line m ∷ ts) h = refl

-- what an operator takes and leaves
reads_infix : (scope : Scope) (room l j : ℕ) (op : Infix) (sign : Symbol) (ts us : List Token) (a b : Source) → infix_of sign ≡ Some op → precedence op ≡ suc j → l + suc (suc j) ≡ 11 → joins op a b ≡ true
    → Claim (suc l) scope room ts a → Claim (suc (suc l)) scope room us b → Claim (suc l) scope room (ts ++ Punctuator sign ∷ us) (joined op a b)
reads_infix scope room l j op sign ts us a b is far level fits c d = (suc (suc j), level, λ rest h. at rest h)
  where
    inner : Inner
    inner = inside room scope

    next : (rest : List Token) → next_infix (suc j) (Punctuator sign ∷ rest) ≡ Some (op, rest)
    next rest = ap (of_precedence (suc j) rest) is ∙ ap (λ b. cond b (Some (op, rest)) None) (eq-eqb (precedence op) (suc j) far)

    front : (rest : List Token) → ends (suc j) (Punctuator sign ∷ rest) ≡ true
    front rest = ap (ends_at (suc j) sign) is ∙ le_true (suc j) (precedence op) (omega (arith, far))

    right_one : (rest : List Token) → ends (suc j) rest ≡ true → reader.binary j scope inner (us ++ rest) ≡ Some (right b rest)
    right_one rest h =
        let r = claim_at (suc l) scope room us b (suc j) (omega (arith, level)) d rest (ends_weaker j rest h) in
        r.2 ∙ further_done r.0 j scope inner b rest h

    joint : (rest : List Token) → join (right a (Punctuator sign ∷ (us ++ rest))) op (right b rest) ≡ right (joined op a b) rest
    joint rest = ap (λ x. record { tree = joined op a b; sound = true && (true && x); rest = rest }) fits

    turn : (n : ℕ) (rest : List Token) → ends (suc j) rest ≡ true → further_at (suc n) (suc j) scope inner (right a (Punctuator sign ∷ (us ++ rest))) ≡ further_at n (suc j) scope inner (right (joined op a b) rest)
    turn n rest h =
        ap (λ o. chosen o (Some (right a (Punctuator sign ∷ (us ++ rest)))) (λ x. reader.binary j scope inner x.1 >>= λ y. further n (suc j) (reader.binary j scope inner) (join (right a (Punctuator sign ∷ (us ++ rest))) x.0 y))) (next (us ++ rest))
        ∙ ap (λ o. o >>= λ y. further n (suc j) (reader.binary j scope inner) (join (right a (Punctuator sign ∷ (us ++ rest))) op y)) (right_one rest h)
        ∙ ap (further n (suc j) (reader.binary j scope inner)) (joint rest)

    more : (rest : List Token) → ends (suc j) rest ≡ true → (n : ℕ) → suc (length us + length rest) ≤ n → reader.binary (suc j) scope inner (ts ++ Punctuator sign ∷ (us ++ rest)) ≡ further_at n (suc j) scope inner (right a (Punctuator sign ∷ (us ++ rest)))
        → (m : ℕ) × (length rest ≤ m) × (reader.binary (suc j) scope inner (ts ++ Punctuator sign ∷ (us ++ rest)) ≡ further_at m (suc j) scope inner (right (joined op a b) rest))
    more rest h zero k e = absurd (omega arith)
    more rest h (suc n) k e = (n, omega arith, e ∙ turn n rest h)

    at : (rest : List Token) → ends (suc j) rest ≡ true → (n : ℕ) × (length rest ≤ n) × (reader.binary (suc j) scope inner ((ts ++ Punctuator sign ∷ us) ++ rest) ≡ further_at n (suc j) scope inner (right (joined op a b) rest))
    at rest h =
        let r = claim_at l scope room ts a (suc (suc j)) level c (Punctuator sign ∷ (us ++ rest)) (front (us ++ rest)) in
        let long : length (Punctuator sign ∷ (us ++ rest)) ≤ r.0 = r.1 in
        let m = more rest h r.0 (let l = length-append us rest in omega arith) r.2 in
        (m.0, m.1, ap (reader.binary (suc j) scope inner) (append_assoc ts (Punctuator sign ∷ us) rest) ∙ m.2)

-- what begins as a primary expression is no unary one
unary_primary : (scope : Scope) (inner : Inner) (ts : List Token) (r : Got Source) → primary scope inner ts ≡ Some r → reader.unary scope inner ts ≡ Some r
unfolding primary reader.unary
unary_primary scope inner [] r h = h
unary_primary scope inner (Word w ∷ ts) r h = h
unary_primary scope inner (IntegerConstant m s ∷ ts) r h = h
unary_primary scope inner (StringLiteral cs o ∷ ts) r h = h
unary_primary scope inner (Punctuator MinusSign ∷ ts) r h = absurd (cc)
unary_primary scope inner (Punctuator Tilde ∷ ts) r h = absurd (cc)
unary_primary scope inner (Punctuator Bang ∷ ts) r h = absurd (cc)
unary_primary scope inner (Punctuator s ∷ ts) r h = h
unary_primary scope inner (Header m ∷ ts) r h = h
unary_primary scope inner (Line m ∷ ts) r h = h

no_question : (ts : List Token) → stops ts ≡ true → ahead.question_mark ts ≡ None
no_question [] h = refl
no_question (Word w ∷ ts) h = refl
no_question (IntegerConstant m s ∷ ts) h = refl
no_question (StringLiteral cs o ∷ ts) h = refl
no_question (Punctuator Question ∷ ts) h = absurd (cc)
no_question (Punctuator s ∷ ts) h = refl
no_question (Header m ∷ ts) h = refl
no_question (Line m ∷ ts) h = refl

-- the arms of `?:`, if they come
abbrev pub arms : Inner → Got Source → Option (Got Source)
arms inner c =
    chosen (ahead.question_mark c.rest) (Some c)
    (λ behind. inner.whole behind >>= λ a. ahead.colon a.rest >>= λ other. inner.whole other >>= λ b. reader.choice c a b)

pub whole_by : (scope : Scope) (inner : Inner) (ts : List Token) → whole scope inner ts ≡ (reader.binary 10 scope inner ts >>= arms inner)
unfolding whole
whole_by scope inner ts = refl

-- a tighter level's reading is a looser one's
tighter_reads : (scope : Scope) (room l : ℕ) (ts : List Token) (s : Source) → Claim (suc l) scope room ts s → Claim l scope room ts s
tighter_reads scope room (suc l) ts s c = (suc c.0, omega (arith, c.1), go c.0 c.2)
  where
    inner : Inner
    inner = inside room scope

    go : (k : ℕ) → ((rest : List Token) → ReadsAs k scope room ts s rest) → (rest : List Token) → ReadsAs (suc k) scope room ts s rest
    go zero f rest h = (length rest, omega arith, unary_primary scope inner (ts ++ rest) (right s rest) (f rest h))
    go (suc j) f rest h =
        let r = f rest (ends_weaker j rest h) in
        (length rest, omega arith, bind_to (λ a. further (length a.rest) (suc j) (reader.binary j scope inner) a) (r.2 ∙ further_done r.0 j scope inner s rest h))
tighter_reads scope room zero ts s c = at
  where
    inner : Inner
    inner = inside room scope

    at : (rest : List Token) → stops rest ≡ true → whole scope inner (ts ++ rest) ≡ Some (right s rest)
    at rest h =
        let r = claim_at 0 scope room ts s 11 refl c rest (stops_ends 10 rest h) in
        whole_by scope inner (ts ++ rest)
        ∙ bind_to (arms inner) (r.2 ∙ further_done r.0 10 scope inner s rest (stops_ends 11 rest h))
        ∙ ap (λ o. chosen o (Some (right s rest)) (λ behind. inner.whole behind >>= λ a. ahead.colon a.rest >>= λ other. inner.whole other >>= λ b. reader.choice (right s rest) a b)) (no_question rest h)

reads_literal : (scope : Scope) (room n : ℕ) (suffix : Suffix) → in_range suffix n ≡ true → Claim 12 scope room (IntegerConstant n suffix ∷ []) (Number (Literal n suffix))
unfolding primary
reads_literal scope room n suffix r = (0, refl, λ rest h. ap (λ b. Some (record { tree = Number (cond b (Literal n suffix) (Literal 0 suffix)); sound = b; rest = rest })) r)

-- subscripts behind a name
abbrev pub SubsClaim : Scope → ℕ → List Token → Exprs → Type 0
SubsClaim scope room ts is = (n : ℕ) → length ts ≤ n → (rest : List Token) → ends 0 rest ≡ true → subscripts n (inside room scope) (ts ++ rest) ≡ Some (right is rest)

-- a visible name
primary_name : (scope : Scope) (inner : Inner) (name : Name) (e : Entity) (is : Exprs) (ts rest : List Token) → find scope name ≡ Some e → subscripts (length ts) inner ts ≡ Some (right is rest)
    → primary scope inner (Word name ∷ ts) ≡ reader.named (Some e) name (right is rest)
unfolding primary
primary_name scope inner name e is ts rest f h =
    ap (λ o. cond (ahead.may_be_named o name) (subscripts (length ts) inner ts >>= λ x. reader.named o name x) None) f ∙ bind_to (reader.named (Some e) name) h

reads_enumerator : (scope : Scope) (room : ℕ) (name : Name) (n : ℕ) → find scope name ≡ Some (AConstant n) → Claim 12 scope room (Word name ∷ []) (Number (Constant name n))
reads_enumerator scope room name n f = (0, refl, λ rest h. primary_name scope (inside room scope) name (AConstant n) no_exprs rest rest f (subs_none (length rest) (inside room scope) rest h))

reads_object : (scope : Scope) (room : ℕ) (name : Name) (x : Variable) (is : Exprs) (ts : List Token) → find scope name ≡ Some (AVariable x (count is)) → SubsClaim scope room ts is → Claim 12 scope room (Word name ∷ ts) (Number (Object x is))
reads_object scope room name x is ts f c = (
  0,
  refl,
  λ rest h. primary_name scope (inside room scope) name (AVariable x (count is)) is (ts ++ rest) rest f (c (length (ts ++ rest)) (let l = length-append ts rest in omega arith) rest h)
      ∙ ap (λ b. Some (record { tree = Number (Object x is); sound = b; rest = rest })) (eq-eqb (count is) (count is) refl),
)

primary_parens : (scope : Scope) (inner : Inner) (ts rest : List Token) (s : Source) → inner.whole ts ≡ Some (right s (Punctuator CloseParen ∷ rest)) → primary scope inner (Punctuator OpenParen ∷ ts) ≡ Some (right s rest)
unfolding primary
primary_parens scope inner ts rest s h = ap (λ o. o >>= λ e. ahead.close_paren e.rest >>= λ behind. got e.tree e.sound behind) h

reads_parens : (scope : Scope) (room o : ℕ) (ts : List Token) (s : Source) → o < 64 → room + o ≡ 64 → ((room : ℕ) → room + suc o ≡ 64 → Claim 0 scope room ts s) → Claim 12 scope room (Punctuator OpenParen ∷ (ts ++ Punctuator CloseParen ∷ [])) s
reads_parens scope zero o ts s b e c = absurd (omega arith)
reads_parens scope (suc room) o ts s b e c = (
  0,
  refl,
  λ rest h. primary_parens scope (inside (suc room) scope) ((ts ++ Punctuator CloseParen ∷ []) ++ rest) rest s
      (ap (whole scope (inside room scope)) (append_assoc ts (Punctuator CloseParen ∷ []) rest) ∙ c room (omega arith) (Punctuator CloseParen ∷ rest) refl),
)

unary_sign : (scope : Scope) (inner : Inner) (ts rest : List Token) (e : Expr) {sign : Symbol} {op : UnaryOp} → UnarySign sign op → typed e ≡ true → inner.operand ts ≡ Some (right (Number e) rest)
    → reader.unary scope inner (Punctuator sign ∷ ts) ≡ Some (right (Number (Unary op e)) rest)
unfolding reader.unary
unary_sign scope inner ts rest e minus t h = ap (λ o. o >>= unary_of Negate) h ∙ ap (λ b. Some (record { tree = Number (Unary Negate e); sound = b; rest = rest })) t
unary_sign scope inner ts rest e tilde t h = ap (λ o. o >>= unary_of Complement) h ∙ ap (λ b. Some (record { tree = Number (Unary Complement e); sound = b; rest = rest })) t

reads_unary : (scope : Scope) (room o : ℕ) (ts : List Token) (sign : Symbol) (op : UnaryOp) (e : Expr) → o < 64 → room + o ≡ 64 → UnarySign sign op → typed e ≡ true
    → ((room : ℕ) → room + suc o ≡ 64 → Claim 11 scope room ts (Number e)) → Claim 11 scope room (Punctuator sign ∷ ts) (Number (Unary op e))
reads_unary scope zero o ts sign op e b h u t c = absurd (omega arith)
reads_unary scope (suc room) o ts sign op e b h u t c = (
  1,
  refl,
  λ rest k. (
    length rest,
    omega arith,
    unary_sign scope (inside (suc room) scope) (ts ++ rest) rest e u t
        (claim_at 10 scope room ts (Number e) 1 refl (c room (omega arith)) rest k).2,
  ),
)

unary_bang : (scope : Scope) (inner : Inner) (ts rest : List Token) (c : Cond) → inner.operand ts ≡ Some (right (as_source c) rest) → reader.unary scope inner (Punctuator Bang ∷ ts) ≡ Some (right (Truth (Not c)) rest)
unfolding reader.unary
unary_bang scope inner ts rest c h = ap (λ o. o >>= λ e. got (Truth (Not (cond_in e.tree))) e.sound e.rest) h ∙ ap (λ d. Some (right (Truth (Not d)) rest)) (cond_as_source c)

reads_not : (scope : Scope) (room o : ℕ) (ts : List Token) (c : Cond) → o < 64 → room + o ≡ 64 → ((room : ℕ) → room + suc o ≡ 64 → Claim 11 scope room ts (as_source c)) → Claim 11 scope room (Punctuator Bang ∷ ts) (Truth (Not c))
reads_not scope zero o ts c b h f = absurd (omega arith)
reads_not scope (suc room) o ts c b h f = (
  1,
  refl,
  λ rest k. (
    length rest,
    omega arith,
    unary_bang scope (inside (suc room) scope) (ts ++ rest) rest c
        (claim_at 10 scope room ts (as_source c) 1 refl (f room (omega arith)) rest k).2,
  ),
)

-- a condition, `?`, and two arms with `:` between them
reads_choose : (scope : Scope) (room o : ℕ) (ts us vs : List Token) (c : Cond) (a b : Expr) → o < 64 → room + o ≡ 64 → Claim 1 scope room ts (as_source c)
    → ((room : ℕ) → room + suc o ≡ 64 → Claim 0 scope room us (Number a)) → ((room : ℕ) → room + suc o ≡ 64 → Claim 0 scope room vs (Number b))
    → Claim 0 scope room (ts ++ Punctuator Question ∷ (us ++ Punctuator Colon ∷ vs)) (Number (Conditional c a b))
reads_choose scope zero o ts us vs c a b k h first second third = absurd (omega arith)
reads_choose scope (suc room) o ts us vs c a b k h first second third = at
  where
    inner : Inner
    inner = inside (suc room) scope

    apart : (rest : List Token) → (ts ++ Punctuator Question ∷ (us ++ Punctuator Colon ∷ vs)) ++ rest ≡ ts ++ Punctuator Question ∷ (us ++ Punctuator Colon ∷ (vs ++ rest))
    apart rest = append_assoc ts (Punctuator Question ∷ (us ++ Punctuator Colon ∷ vs)) rest ∙ ap (λ xs. ts ++ Punctuator Question ∷ xs) (append_assoc us (Punctuator Colon ∷ vs) rest)

    test : (rest : List Token) → reader.binary 10 scope inner (ts ++ Punctuator Question ∷ rest) ≡ Some (right (as_source c) (Punctuator Question ∷ rest))
    test rest =
        let r = claim_at 0 scope (suc room) ts (as_source c) 11 refl first (Punctuator Question ∷ rest) refl in
        r.2 ∙ further_done r.0 10 scope inner (as_source c) (Punctuator Question ∷ rest) refl

    tail : (rest : List Token) → stops rest ≡ true → arms inner (right (as_source c) (Punctuator Question ∷ (us ++ Punctuator Colon ∷ (vs ++ rest)))) ≡ Some (right (Number (Conditional c a b)) rest)
    tail rest d =
        ap (λ o. o >>= λ x. ahead.colon x.rest >>= λ other. inner.whole other >>= λ y. reader.choice (right (as_source c) (Punctuator Question ∷ (us ++ Punctuator Colon ∷ (vs ++ rest)))) x y)
        (second room (omega arith) (Punctuator Colon ∷ (vs ++ rest)) refl)
        ∙ ap (λ o. o >>= λ y. reader.choice (right (as_source c) (Punctuator Question ∷ (us ++ Punctuator Colon ∷ (vs ++ rest)))) (right (Number a) (Punctuator Colon ∷ (vs ++ rest))) y) (third room (omega arith) rest d)
        ∙ ap (λ d. Some (right (Number (Conditional d a b)) rest)) (cond_as_source c)

    at : (rest : List Token) → stops rest ≡ true → whole scope inner ((ts ++ Punctuator Question ∷ (us ++ Punctuator Colon ∷ vs)) ++ rest) ≡ Some (right (Number (Conditional c a b)) rest)
    at rest d = ap (whole scope inner) (apart rest) ∙ whole_by scope inner _ ∙ bind_to (arms inner) (test (us ++ Punctuator Colon ∷ (vs ++ rest))) ∙ tail rest d

reads_subscript : (scope : Scope) (room o : ℕ) (ts us : List Token) (e : Expr) (is : Exprs) → o < 64 → room + o ≡ 64 → ((room : ℕ) → room + suc o ≡ 64 → Claim 0 scope room ts (Number e)) → SubsClaim scope room us is
    → SubsClaim scope room (Punctuator OpenBracket ∷ (ts ++ Punctuator CloseBracket ∷ us)) (more_exprs e is)
reads_subscript scope zero o ts us e is b h c d n k rest x = absurd (omega arith)
reads_subscript scope (suc room) o ts us e is b h c d zero k rest x = absurd (omega arith)
reads_subscript scope (suc room) o ts us e is b h c d (suc n) k rest x =
    ap (λ o. o >>= λ y. ahead.close_bracket y.rest >>= λ behind. subscripts n inner behind >>= λ es. got (more_exprs (number_in y.tree) es.tree) (y.sound && (is_number y.tree && es.sound)) es.rest)
    (ap (whole scope (inside room scope)) (append_assoc ts (Punctuator CloseBracket ∷ us) rest) ∙ c room (omega arith) (Punctuator CloseBracket ∷ (us ++ rest)) refl)
    ∙ ap (λ o. o >>= λ es. got (more_exprs e es.tree) (true && (true && es.sound)) es.rest) (d n (let l = length-append ts (Punctuator CloseBracket ∷ us) in omega arith) rest x)
  where
    inner : Inner
    inner = inside (suc room) scope

reads_none : (scope : Scope) (room : ℕ) → SubsClaim scope room [] no_exprs
reads_none scope room n k rest x = subs_none n (inside room scope) rest x

-- where an operator's level lies
binary_level : {level : ℕ} {s : Symbol} {op : BinaryOp} → BinarySign level s op → (l j : ℕ) × (level ≡ suc l) × (precedence (Arithmetic op) ≡ suc j) × (l + suc (suc j) ≡ 11) × (infix_of s ≡ Some (Arithmetic op))
binary_level grammar.bar = (2, 7, refl, refl, refl, refl)
binary_level grammar.caret = (3, 6, refl, refl, refl, refl)
binary_level grammar.amp = (4, 5, refl, refl, refl, refl)
binary_level grammar.shift_left = (7, 2, refl, refl, refl, refl)
binary_level grammar.shift_right = (7, 2, refl, refl, refl, refl)
binary_level grammar.plus = (8, 1, refl, refl, refl, refl)
binary_level grammar.minus = (8, 1, refl, refl, refl, refl)
binary_level grammar.times = (9, 0, refl, refl, refl, refl)
binary_level grammar.divide = (9, 0, refl, refl, refl, refl)
binary_level grammar.remainder = (9, 0, refl, refl, refl, refl)

compare_level : {level : ℕ} {s : Symbol} {op : CompareOp} → CompareSign level s op → (l j : ℕ) × (level ≡ suc l) × (precedence (Comparing op) ≡ suc j) × (l + suc (suc j) ≡ 11) × (infix_of s ≡ Some (Comparing op))
compare_level grammar.equal = (5, 4, refl, refl, refl, refl)
compare_level grammar.not_equal = (5, 4, refl, refl, refl, refl)
compare_level grammar.less = (6, 3, refl, refl, refl, refl)
compare_level grammar.less_equal = (6, 3, refl, refl, refl, refl)
compare_level grammar.greater = (6, 3, refl, refl, refl, refl)
compare_level grammar.greater_equal = (6, 3, refl, refl, refl, refl)

mutual
  -- an arithmetic expression of the grammar is read as its tree
  pub expr_read : {scope : Scope} {o l : ℕ} {ts : List Token} {e : Expr} → ReadsExpr scope o l ts e → (room : ℕ) → room + o ≡ 64 → Claim l scope room ts (Number e)
  expr_read {scope} (literal {n = n} {suffix = s} r) room h = reads_literal scope room n s r
  expr_read {scope} (enumerator {name = w} {n = n} f) room h = reads_enumerator scope room w n f
  expr_read {scope} (object {name = w} {x = x} {is = is} {ts = ts} f r) room h = reads_object scope room w x is ts f (subs_read r room h)
  expr_read {scope} {o} (parens {e = e} {ts = ts} b r) room h = reads_parens scope room o ts (Number e) b h (expr_read r)
  expr_read {scope} {o} (unary {e = e} {ts = ts} {sign = s} {op = op} b u t r) room h = reads_unary scope room o ts s op e b h u t (expr_read r)
  expr_read {scope} (binary {level = l} {a = a} {b = b} {ts = ts} {us = us} {sign = s} {op = op} k f r q) room h =
      let at = binary_level k in
      claim_to (suc at.0) l scope room (ts ++ Punctuator s ∷ us) (Number (Binary op a b)) (sym at.2)
      (reads_infix scope room at.0 at.1 (Arithmetic op) s ts us (Number a) (Number b) at.5 at.3 at.4 f
      (claim_to l (suc at.0) scope room ts (Number a) at.2 (expr_read r room h))
      (claim_to (suc l) (suc (suc at.0)) scope room us (Number b) (ap suc at.2) (expr_read q room h)))
  expr_read {scope} {o} (choose {c = c} {a = a} {b = b} {ts = ts} {us = us} {vs = vs} k r p q) room h = reads_choose scope room o ts us vs c a b k h (cond_read r room h) (expr_read p) (expr_read q)
  expr_read {scope} {l = l} {ts} {e} (tighter r) room h = tighter_reads scope room l ts (Number e) (expr_read r room h)

  -- subscripts
  pub subs_read : {scope : Scope} {o : ℕ} {ts : List Token} {is : Exprs} → ReadsSubscripts scope o ts is → (room : ℕ) → room + o ≡ 64 → SubsClaim scope room ts is
  subs_read {scope} no_subscripts room h = reads_none scope room
  subs_read {scope} {o} (subscript {e = e} {is = is} {ts = ts} {us = us} b r q) room h = reads_subscript scope room o ts us e is b h (expr_read r) (subs_read q room h)

  -- a condition
  pub cond_read : {scope : Scope} {o l : ℕ} {ts : List Token} {c : Cond} → ReadsCond scope o l ts c → (room : ℕ) → room + o ≡ 64 → Claim l scope room ts (as_source c)
  cond_read (numeric r) room h = expr_read r room h
  cond_read {scope} {o} (cond_parens {c = c} {ts = ts} b r) room h = reads_parens scope room o ts (as_source c) b h (cond_read r)
  cond_read {scope} {o} (grammar.not {c = c} {ts = ts} b r) room h = reads_not scope room o ts c b h (cond_read r)
  cond_read {scope} (compare {level = l} {a = a} {b = b} {ts = ts} {us = us} {sign = s} {op = op} k f r q) room h =
      let at = compare_level k in
      claim_to (suc at.0) l scope room (ts ++ Punctuator s ∷ us) (Truth (Compare op a b)) (sym at.2)
      (reads_infix scope room at.0 at.1 (Comparing op) s ts us (Number a) (Number b) at.5 at.3 at.4 f
      (claim_to l (suc at.0) scope room ts (Number a) at.2 (expr_read r room h))
      (claim_to (suc l) (suc (suc at.0)) scope room us (Number b) (ap suc at.2) (expr_read q room h)))
  cond_read {scope} (both {c = c} {d = d} {ts = ts} {us = us} r q) room h =
      subst (λ x. Claim 2 scope room (ts ++ Punctuator DoubleAmp ∷ us) (Truth (LogicalAnd x d))) (cond_as_source c)
      (subst (λ x. Claim 2 scope room (ts ++ Punctuator DoubleAmp ∷ us) (Truth (LogicalAnd (cond_in (as_source c)) x))) (cond_as_source d)
      (reads_infix scope room 1 8 AndAlso DoubleAmp ts us (as_source c) (as_source d) refl refl refl refl (cond_read r room h) (cond_read q room h)))
  cond_read {scope} (either {c = c} {d = d} {ts = ts} {us = us} r q) room h =
      subst (λ x. Claim 1 scope room (ts ++ Punctuator DoubleBar ∷ us) (Truth (LogicalOr x d))) (cond_as_source c)
      (subst (λ x. Claim 1 scope room (ts ++ Punctuator DoubleBar ∷ us) (Truth (LogicalOr (cond_in (as_source c)) x))) (cond_as_source d)
      (reads_infix scope room 0 9 OrElse DoubleBar ts us (as_source c) (as_source d) refl refl refl refl (cond_read r room h) (cond_read q room h)))
  cond_read {scope} {l = l} {ts} {c} (cond_tighter r) room h = tighter_reads scope room l ts (as_source c) (cond_read r room h)
