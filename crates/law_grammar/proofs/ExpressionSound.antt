-- Whatever is read as an expression, with nothing wrong in it, the grammar has.
use Rattle.std.specs.Prelude.{ℕ, zero, suc, Bool, true, false, ◌&&◌, ◌==◌, ◌≡◌, ◌<◌, ◌+◌, ◌-◌, List, [], ◌∷◌, ◌++◌, length, Option, Some, None}
use Rattle.std.proofs.Common.{cond, refl, sym, ap, ◌∙◌, subst, arith}
use Rattle.std.proofs.lemmas.Bool.{eqb-true}
use Rattle.std.proofs.lemmas.Option.{same_Some}
use Rattle.std.proofs.lemmas.List.{append_assoc}
use Rattle.semantics.specs.Tree.{Name, Suffix, UnaryOp, Negate, Complement, Literal, Exprs, no_exprs, more_exprs, Source, Number, Truth, Not, LogicalAnd, LogicalOr}
use Rattle.semantics.specs.Source.Token.{Token, Word, IntegerConstant, Punctuator, Symbol, OpenParen, CloseParen, OpenBracket, CloseBracket, Question, Colon, Bang, MinusSign, Tilde, Star, Slash, Percent, PlusSign, DoubleLess, DoubleGreater, LessSign, LessEqualSign, GreaterSign, GreaterEqualSign, DoubleEqual, BangEqual, Amp, Caret, Bar, DoubleAmp, DoubleBar}
use Rattle.semantics.specs.Source.Typing.{in_range, typed}
use Rattle.semantics.specs.Source.Scope.{Scope, Entity, AVariable, AConstant, find, count}
use Rattle.semantics.specs.Source.Expressions.{UnarySign, BinarySign, CompareSign, ReadsExpr, literal, enumerator, object, parens, unary, binary, choose, tighter, ReadsSubscripts, no_subscripts, subscript, ReadsCond, numeric, cond_parens, compare, both, either, cond_tighter}
use Rattle.semantics.specs.Source.Expressions as grammar
use Rattle.semantics.specs.Source.Statements.{is_truth}
use Rattle.cparse_grammar.specs.Reading.{Got, Reader, ◌>>=◌, got, chosen}
use Rattle.cparse_grammar.specs.Operators.{Infix, Arithmetic, Comparing, AndAlso, OrElse, precedence, infix_of, number_in, is_number, cond_in, joined, joins}
use Rattle.cparse_grammar.specs.NextTokens as ahead
use Rattle.cparse_grammar.specs.ExpressionReader as reader
use Rattle.cparse_grammar.specs.ExpressionReader.{Inner, subscripts, primary, unary_of, next_infix, of_precedence, join, further, whole, inside}
use Rattle.cparse_grammar.proofs.Binds.{bind_some, first_true, second_true}
use Rattle.law_grammar.proofs.ExpressionComplete.{arms, whole_by}

-- what the grammar has as this tree
abbrev pub AsAt : Scope → ℕ → ℕ → List Token → Source → Type 0
AsAt scope o l ts (Number e) = ReadsExpr scope o l ts e
AsAt scope o l ts (Truth c) = (is_truth c ≡ true) × ReadsCond scope o l ts c

pub as_tighter : (scope : Scope) (o l : ℕ) (ts : List Token) (s : Source) → AsAt scope o (suc l) ts s → AsAt scope o l ts s
as_tighter scope o l ts (Number e) r = tighter r
as_tighter scope o l ts (Truth c) r = (r.0, cond_tighter r.1)

pub as_cond : (scope : Scope) (o l : ℕ) (ts : List Token) (s : Source) → AsAt scope o l ts s → ReadsCond scope o l ts (cond_in s)
as_cond scope o l ts (Number e) r = numeric r
as_cond scope o l ts (Truth c) r = r.1

pub as_number : (scope : Scope) (o l : ℕ) (ts : List Token) (s : Source) → is_number s ≡ true → AsAt scope o l ts s → ReadsExpr scope o l ts (number_in s)
as_number scope o l ts (Number e) h r = r
as_number scope o l ts (Truth c) h r = absurd (cc)

-- a front of the tokens, and the rest behind it
pub record Front {A : Type 0} (R : List Token → A → Type 0) (ts : List Token) (g : Got A) : Type 0 where
  pub front : List Token
  pub split : ts ≡ front ++ g.rest
  pub reads : R front g.tree

-- whatever is read with nothing wrong in it is so
abbrev pub IsSound : {A : Type 0} → Reader A → (List Token → A → Type 0) → Type 0
IsSound {A} read R = (ts : List Token) (g : Got A) → read ts ≡ Some g → g.sound ≡ true → Front R ts g

-- what stands inside of what is opened
pub record InnerSound (scope : Scope) (o : ℕ) (inner : Inner) : Type 0 where
  pub whole : IsSound inner.whole (λ ts s. (o < 64) × AsAt scope (suc o) 0 ts s)
  pub operand : IsSound inner.operand (λ ts s. (o < 64) × AsAt scope (suc o) 11 ts s)

pub out : {A : Type 0} {x y : A} → Some x ≡ Some y → x ≡ y
out {A} {x} {y} e = same_Some x y e

pub no_some : {A P : Type 0} {x : A} → None ≡ Some x → P
no_some e = absurd (cc)

pub close_paren_is : (ts us : List Token) → ahead.close_paren ts ≡ Some us → ts ≡ Punctuator CloseParen ∷ us
close_paren_is (Punctuator CloseParen ∷ ts) us e = ap (λ xs. Punctuator CloseParen ∷ xs) (out e)
close_paren_is (Punctuator s ∷ ts) us e = no_some e
close_paren_is _ us e = no_some e

pub close_bracket_is : (ts us : List Token) → ahead.close_bracket ts ≡ Some us → ts ≡ Punctuator CloseBracket ∷ us
close_bracket_is (Punctuator CloseBracket ∷ ts) us e = ap (λ xs. Punctuator CloseBracket ∷ xs) (out e)
close_bracket_is (Punctuator s ∷ ts) us e = no_some e
close_bracket_is _ us e = no_some e

colon_is : (ts us : List Token) → ahead.colon ts ≡ Some us → ts ≡ Punctuator Colon ∷ us
colon_is (Punctuator Colon ∷ ts) us e = ap (λ xs. Punctuator Colon ∷ xs) (out e)
colon_is (Punctuator s ∷ ts) us e = no_some e
colon_is _ us e = no_some e

question_is : (ts us : List Token) → ahead.question_mark ts ≡ Some us → ts ≡ Punctuator Question ∷ us
question_is (Punctuator Question ∷ ts) us e = ap (λ xs. Punctuator Question ∷ xs) (out e)
question_is (Punctuator s ∷ ts) us e = no_some e
question_is _ us e = no_some e

-- subscripts
subs_none : (scope : Scope) (o : ℕ) (ts : List Token) (g : Got Exprs) → got no_exprs true ts ≡ Some g → Front (ReadsSubscripts scope o) ts g
subs_none scope o ts g e = subst (λ x. Front (ReadsSubscripts scope o) ts x) (out e) (record { front = []; split = refl; reads = no_subscripts })

pub subs_sound : (scope : Scope) (o : ℕ) (inner : Inner) → InnerSound scope o inner → (n : ℕ) → IsSound (subscripts n inner) (ReadsSubscripts scope o)
subs_sound scope o inner k (suc n) (Punctuator OpenBracket ∷ ts) g e h =
    let a = bind_some (inner.whole ts) (λ e. ahead.close_bracket e.rest >>= λ behind. subscripts n inner behind >>= λ es. got (more_exprs (number_in e.tree) es.tree) (e.sound && (is_number e.tree && es.sound)) es.rest) g e in
    let b = bind_some (ahead.close_bracket a.0.rest) (λ behind. subscripts n inner behind >>= λ es. got (more_exprs (number_in a.0.tree) es.tree) (a.0.sound && (is_number a.0.tree && es.sound)) es.rest) g a.2 in
    let c = bind_some (subscripts n inner b.0) (λ es. got (more_exprs (number_in a.0.tree) es.tree) (a.0.sound && (is_number a.0.tree && es.sound)) es.rest) g b.2 in
    let all : (a.0.sound && (is_number a.0.tree && c.0.sound)) ≡ true = ap (λ x. x.sound) (out c.2) ∙ h in
    let rest : (is_number a.0.tree && c.0.sound) ≡ true = second_true a.0.sound _ all in
    let first = k.whole ts a.0 a.1 (first_true a.0.sound _ all) in
    let more = subs_sound scope o inner k n b.0 c.0 c.1 (second_true (is_number a.0.tree) _ rest) in
    subst (λ x. Front (ReadsSubscripts scope o) (Punctuator OpenBracket ∷ ts) x) (out c.2)
    (record {
      front = Punctuator OpenBracket ∷ (first.front ++ Punctuator CloseBracket ∷ more.front);
      split = ap (λ xs. Punctuator OpenBracket ∷ xs) (first.split ∙ ap (λ xs. first.front ++ xs) (close_bracket_is a.0.rest b.0 b.1 ∙ ap (λ xs. Punctuator CloseBracket ∷ xs) more.split) ∙ sym (append_assoc first.front (Punctuator CloseBracket ∷ more.front) c.0.rest));
      reads = subscript first.reads.0 (as_number scope (suc o) 0 first.front a.0.tree (first_true (is_number a.0.tree) _ rest) first.reads.1) more.reads;
    })
subs_sound scope o inner k zero ts g e h = subs_none scope o ts g e
subs_sound scope o inner k (suc n) (Punctuator s ∷ ts) g e h = subs_none scope o (Punctuator s ∷ ts) g e
subs_sound scope o inner k (suc n) ts g e h = subs_none scope o ts g e

literal_sound : (scope : Scope) (o n : ℕ) (suffix : Suffix) (ts : List Token) (g : Got Source) → got (Number (reader.literal_tree n suffix)) (in_range suffix n) ts ≡ Some g → g.sound ≡ true → Front (AsAt scope o 12) (IntegerConstant n suffix ∷ ts) g
literal_sound scope o n suffix ts g e h =
    let fits : in_range suffix n ≡ true = ap (λ x. x.sound) (out e) ∙ h in
    subst (λ x. Front (AsAt scope o 12) (IntegerConstant n suffix ∷ ts) x) (out e)
    (record {
      front = IntegerConstant n suffix ∷ [];
      split = refl;
      reads = subst (λ b. ReadsExpr scope o 12 (IntegerConstant n suffix ∷ []) (cond b (Literal n suffix) (Literal 0 suffix))) (sym fits) (literal fits);
    })

-- no subscripts are no tokens
none_of : {scope : Scope} {o : ℕ} {us : List Token} {is : Exprs} → ReadsSubscripts scope o us is → (count is == 0) ≡ true → us ≡ []
none_of no_subscripts h = refl
none_of (subscript {is = is} b r q) h = absurd (let e : suc (count is) ≡ 0 = eqb-true (suc (count is)) 0 h in omega arith)

named_sound : (scope : Scope) (o : ℕ) (name : Name) (ts : List Token) (is : Got Exprs) (g : Got Source) (e : Option Entity) → find scope name ≡ e → Front (ReadsSubscripts scope o) ts is
    → (is.sound && reader.name_sound e is.tree) ≡ true → Front (AsAt scope o 12) (Word name ∷ ts) (record { tree = Number (reader.name_tree e name is.tree); sound = is.sound && reader.name_sound e is.tree; rest = is.rest })
named_sound scope o name ts is g None f r h = absurd (let k : false ≡ true = second_true is.sound _ h in cc)
named_sound scope o name ts is g (Some (AVariable x n)) f r h =
    record {
      front = Word name ∷ r.front;
      split = ap (λ xs. Word name ∷ xs) r.split;
      reads = object (f ∙ ap (λ m. Some (AVariable x m)) (eqb-true n (count is.tree) (second_true is.sound _ h))) r.reads;
    }
named_sound scope o name ts is g (Some (AConstant v)) f r h =
    record {
      front = Word name ∷ [];
      split = ap (λ xs. Word name ∷ xs) (r.split ∙ ap (λ xs. xs ++ is.rest) (none_of r.reads (second_true is.sound _ h)));
      reads = enumerator f;
    }

name_sound : (scope : Scope) (o : ℕ) (inner : Inner) (name : Name) (ts : List Token) (g : Got Source) → InnerSound scope o inner → (e : Option Entity) → find scope name ≡ e → (b : Bool)
    → cond b (subscripts (length ts) inner ts >>= λ is. reader.named e name is) None ≡ Some g → g.sound ≡ true → Front (AsAt scope o 12) (Word name ∷ ts) g
name_sound scope o inner name ts g k e f false d h = no_some d
name_sound scope o inner name ts g k e f true d h =
    let a = bind_some (subscripts (length ts) inner ts) (reader.named e name) g d in
    let all : (a.0.sound && reader.name_sound e a.0.tree) ≡ true = ap (λ x. x.sound) (out a.2) ∙ h in
    subst (λ x. Front (AsAt scope o 12) (Word name ∷ ts) x) (out a.2)
    (named_sound scope o name ts a.0 g e f (subs_sound scope o inner k (length ts) ts a.0 a.1 (first_true a.0.sound _ all)) all)

as_parens : (scope : Scope) (o : ℕ) (ts : List Token) (s : Source) → o < 64 → AsAt scope (suc o) 0 ts s → AsAt scope o 12 (Punctuator OpenParen ∷ (ts ++ Punctuator CloseParen ∷ [])) s
as_parens scope o ts (Number e) b r = parens b r
as_parens scope o ts (Truth c) b r = (r.0, cond_parens b r.1)

parens_sound : (scope : Scope) (o : ℕ) (inner : Inner) (ts : List Token) (g : Got Source) → InnerSound scope o inner
    → (inner.whole ts >>= λ e. ahead.close_paren e.rest >>= λ behind. got e.tree e.sound behind) ≡ Some g → g.sound ≡ true → Front (AsAt scope o 12) (Punctuator OpenParen ∷ ts) g
parens_sound scope o inner ts g k d h =
    let a = bind_some (inner.whole ts) (λ e. ahead.close_paren e.rest >>= λ behind. got e.tree e.sound behind) g d in
    let b = bind_some (ahead.close_paren a.0.rest) (λ behind. got a.0.tree a.0.sound behind) g a.2 in
    let first = k.whole ts a.0 a.1 (ap (λ x. x.sound) (out b.2) ∙ h) in
    subst (λ x. Front (AsAt scope o 12) (Punctuator OpenParen ∷ ts) x) (out b.2)
    (record {
      front = Punctuator OpenParen ∷ (first.front ++ Punctuator CloseParen ∷ []);
      split = ap (λ xs. Punctuator OpenParen ∷ xs) (first.split ∙ ap (λ xs. first.front ++ xs) (close_paren_is a.0.rest b.0 b.1) ∙ sym (append_assoc first.front (Punctuator CloseParen ∷ []) b.0));
      reads = as_parens scope o first.front a.0.tree first.reads.0 first.reads.1;
    })

pub primary_sound : (scope : Scope) (o : ℕ) (inner : Inner) → InnerSound scope o inner → IsSound (primary scope inner) (AsAt scope o 12)
unfolding primary
primary_sound scope o inner k (IntegerConstant n suffix ∷ ts) g e h = literal_sound scope o n suffix ts g e h
primary_sound scope o inner k (Word name ∷ ts) g e h = name_sound scope o inner name ts g k (find scope name) refl (ahead.may_be_named (find scope name) name) e h
primary_sound scope o inner k (Punctuator OpenParen ∷ ts) g e h = parens_sound scope o inner ts g k e h
primary_sound scope o inner k (Punctuator s ∷ ts) g e h = no_some e
primary_sound scope o inner k _ g e h = no_some e

-- a unary operator before its operand
unary_of_sound : (scope : Scope) (o : ℕ) (inner : Inner) (ts : List Token) (g : Got Source) {sign : Symbol} (op : UnaryOp) → UnarySign sign op → InnerSound scope o inner
    → (inner.operand ts >>= λ e. unary_of op e) ≡ Some g → g.sound ≡ true → Front (AsAt scope o 11) (Punctuator sign ∷ ts) g
unary_of_sound scope o inner ts g {sign} op u k d h =
    let a = bind_some (inner.operand ts) (unary_of op) g d in
    let all : (a.0.sound && (is_number a.0.tree && typed (number_in a.0.tree))) ≡ true = ap (λ x. x.sound) (out a.2) ∙ h in
    let some : (is_number a.0.tree && typed (number_in a.0.tree)) ≡ true = second_true a.0.sound _ all in
    let first = k.operand ts a.0 a.1 (first_true a.0.sound _ all) in
    subst (λ x. Front (AsAt scope o 11) (Punctuator sign ∷ ts) x) (out a.2)
    (record {
      front = Punctuator sign ∷ first.front;
      split = ap (λ xs. Punctuator sign ∷ xs) first.split;
      reads = unary first.reads.0 u (second_true (is_number a.0.tree) _ some) (as_number scope (suc o) 11 first.front a.0.tree (first_true (is_number a.0.tree) _ some) first.reads.1);
    })

bang_sound : (scope : Scope) (o : ℕ) (inner : Inner) (ts : List Token) (g : Got Source) → InnerSound scope o inner
    → (inner.operand ts >>= λ e. got (Truth (Not (cond_in e.tree))) e.sound e.rest) ≡ Some g → g.sound ≡ true → Front (AsAt scope o 11) (Punctuator Bang ∷ ts) g
bang_sound scope o inner ts g k d h =
    let a = bind_some (inner.operand ts) (λ e. got (Truth (Not (cond_in e.tree))) e.sound e.rest) g d in
    let first = k.operand ts a.0 a.1 (ap (λ x. x.sound) (out a.2) ∙ h) in
    subst (λ x. Front (AsAt scope o 11) (Punctuator Bang ∷ ts) x) (out a.2)
    (record {
      front = Punctuator Bang ∷ first.front;
      split = ap (λ xs. Punctuator Bang ∷ xs) first.split;
      reads = (refl, grammar.not first.reads.0 (as_cond scope (suc o) 11 first.front a.0.tree first.reads.1));
    })

-- at a looser level
looser : (scope : Scope) (o l : ℕ) (ts : List Token) (g : Got Source) → Front (AsAt scope o (suc l)) ts g → Front (AsAt scope o l) ts g
looser scope o l ts g r = record { front = r.front; split = r.split; reads = as_tighter scope o l r.front g.tree r.reads }

pub unary_sound : (scope : Scope) (o : ℕ) (inner : Inner) → InnerSound scope o inner → IsSound (reader.unary scope inner) (AsAt scope o 11)
unfolding reader.unary
unary_sound scope o inner k (Punctuator MinusSign ∷ ts) g e h = unary_of_sound scope o inner ts g Negate grammar.minus k e h
unary_sound scope o inner k (Punctuator Tilde ∷ ts) g e h = unary_of_sound scope o inner ts g Complement grammar.tilde k e h
unary_sound scope o inner k (Punctuator Bang ∷ ts) g e h = bang_sound scope o inner ts g k e h
unary_sound scope o inner k (Punctuator s ∷ ts) g e h = looser scope o 11 (Punctuator s ∷ ts) g (primary_sound scope o inner k (Punctuator s ∷ ts) g e h)
unary_sound scope o inner k ts g e h = looser scope o 11 ts g (primary_sound scope o inner k ts g e h)

-- the grammar's level of an operator
abbrev pub IsSign : ℕ → Symbol → Infix → Type 0
IsSign l s (Arithmetic op) = BinarySign l s op
IsSign l s (Comparing op) = CompareSign l s op
IsSign l s AndAlso = (l ≡ 2) × (s ≡ DoubleAmp)
IsSign l s OrElse = (l ≡ 1) × (s ≡ DoubleBar)

sign_of : (s : Symbol) (op : Infix) → infix_of s ≡ Some op → IsSign (11 - precedence op) s op
sign_of Star op e = subst (λ o. IsSign (11 - precedence o) Star o) (out e) grammar.times
sign_of Slash op e = subst (λ o. IsSign (11 - precedence o) Slash o) (out e) grammar.divide
sign_of Percent op e = subst (λ o. IsSign (11 - precedence o) Percent o) (out e) grammar.remainder
sign_of PlusSign op e = subst (λ o. IsSign (11 - precedence o) PlusSign o) (out e) grammar.plus
sign_of MinusSign op e = subst (λ o. IsSign (11 - precedence o) MinusSign o) (out e) grammar.minus
sign_of DoubleLess op e = subst (λ o. IsSign (11 - precedence o) DoubleLess o) (out e) grammar.shift_left
sign_of DoubleGreater op e = subst (λ o. IsSign (11 - precedence o) DoubleGreater o) (out e) grammar.shift_right
sign_of LessSign op e = subst (λ o. IsSign (11 - precedence o) LessSign o) (out e) grammar.less
sign_of LessEqualSign op e = subst (λ o. IsSign (11 - precedence o) LessEqualSign o) (out e) grammar.less_equal
sign_of GreaterSign op e = subst (λ o. IsSign (11 - precedence o) GreaterSign o) (out e) grammar.greater
sign_of GreaterEqualSign op e = subst (λ o. IsSign (11 - precedence o) GreaterEqualSign o) (out e) grammar.greater_equal
sign_of DoubleEqual op e = subst (λ o. IsSign (11 - precedence o) DoubleEqual o) (out e) grammar.equal
sign_of BangEqual op e = subst (λ o. IsSign (11 - precedence o) BangEqual o) (out e) grammar.not_equal
sign_of Amp op e = subst (λ o. IsSign (11 - precedence o) Amp o) (out e) grammar.amp
sign_of Caret op e = subst (λ o. IsSign (11 - precedence o) Caret o) (out e) grammar.caret
sign_of Bar op e = subst (λ o. IsSign (11 - precedence o) Bar o) (out e) grammar.bar
sign_of DoubleAmp op e = subst (λ o. IsSign (11 - precedence o) DoubleAmp o) (out e) (refl, refl)
sign_of DoubleBar op e = subst (λ o. IsSign (11 - precedence o) DoubleBar o) (out e) (refl, refl)
sign_of _ op e = no_some e

-- an operator between two operands
as_joined : (scope : Scope) (o l : ℕ) (s : Symbol) (ts us : List Token) (op : Infix) (a b : Source) → IsSign l s op → joins op a b ≡ true → AsAt scope o l ts a → AsAt scope o (suc l) us b → AsAt scope o l (ts ++ Punctuator s ∷ us) (joined op a b)
as_joined scope o l s ts us (Arithmetic op) (Number a) (Number b) k f r q = binary k f r q
as_joined scope o l s ts us (Arithmetic op) (Number a) (Truth b) k f r q = absurd (cc)
as_joined scope o l s ts us (Arithmetic op) (Truth a) b k f r q = absurd (cc)
as_joined scope o l s ts us (Comparing op) (Number a) (Number b) k f r q = (refl, compare k f r q)
as_joined scope o l s ts us (Comparing op) (Number a) (Truth b) k f r q = absurd (cc)
as_joined scope o l s ts us (Comparing op) (Truth a) b k f r q = absurd (cc)
as_joined scope o l s ts us AndAlso a b k f r q =
    subst (λ m. AsAt scope o m (ts ++ Punctuator s ∷ us) (Truth (LogicalAnd (cond_in a) (cond_in b)))) (sym k.0)
    (subst (λ x. AsAt scope o 2 (ts ++ Punctuator x ∷ us) (Truth (LogicalAnd (cond_in a) (cond_in b)))) (sym k.1)
    (refl, both (as_cond scope o 2 ts a (subst (λ m. AsAt scope o m ts a) k.0 r)) (as_cond scope o 3 us b (subst (λ m. AsAt scope o (suc m) us b) k.0 q))))
as_joined scope o l s ts us OrElse a b k f r q =
    subst (λ m. AsAt scope o m (ts ++ Punctuator s ∷ us) (Truth (LogicalOr (cond_in a) (cond_in b)))) (sym k.0)
    (subst (λ x. AsAt scope o 1 (ts ++ Punctuator x ∷ us) (Truth (LogicalOr (cond_in a) (cond_in b)))) (sym k.1)
    (refl, either (as_cond scope o 1 ts a (subst (λ m. AsAt scope o m ts a) k.0 r)) (as_cond scope o 2 us b (subst (λ m. AsAt scope o (suc m) us b) k.0 q))))

-- an operator of a reach, as it stands
pub record Stands (k : ℕ) (ts : List Token) (x : Infix × List Token) : Type 0 where
  pub sign : Symbol
  pub split : ts ≡ Punctuator sign ∷ x.1
  pub is : infix_of sign ≡ Some x.0
  pub far : precedence x.0 ≡ k

reaching_is : (k : ℕ) (s : Symbol) (ts : List Token) (x : Infix × List Token) (o : Option Infix) → infix_of s ≡ o → of_precedence k ts o ≡ Some x → Stands k (Punctuator s ∷ ts) x
reaching_is k s ts x None f e = no_some e
reaching_is k s ts x (Some op) f e = go (precedence op == k) refl e
  where
    go : (b : Bool) → (precedence op == k) ≡ b → cond b (Some (op, ts)) None ≡ Some x → Stands k (Punctuator s ∷ ts) x
    go true h d = subst (λ y. Stands k (Punctuator s ∷ ts) y) (out d) (record { sign = s; split = refl; is = f; far = eqb-true (precedence op) k h })
    go false h d = no_some d

next_is : (k : ℕ) (ts : List Token) (x : Infix × List Token) → next_infix k ts ≡ Some x → Stands k ts x
next_is k (Punctuator s ∷ ts) x e = reaching_is k s ts x (infix_of s) refl e
next_is k _ x e = no_some e

-- what is wrong in front stays wrong
abbrev Keeps : (Got Source → Option (Got Source)) → Type 0
Keeps on = (a g : Got Source) → on a ≡ Some g → g.sound ≡ true → a.sound ≡ true

turn_keeps : (operand : Reader Source) (on : Got Source → Option (Got Source)) → Keeps on → (a g : Got Source) (x : Option (Infix × List Token))
    → chosen x (Some a) (λ op. operand op.1 >>= λ b. on (join a op.0 b)) ≡ Some g → g.sound ≡ true → a.sound ≡ true
turn_keeps operand on k a g None e h = ap (λ x. x.sound) (out e) ∙ h
turn_keeps operand on k a g (Some op) e h =
    let step = bind_some (operand op.1) (λ b. on (join a op.0 b)) g e in
    first_true a.sound _ (k (join a op.0 step.0) g step.2 h)

further_keeps : (n j : ℕ) (operand : Reader Source) → Keeps (further n j operand)
further_keeps zero j operand a g e h = ap (λ x. x.sound) (out e) ∙ h
further_keeps (suc n) j operand a g e h = turn_keeps operand (further n j operand) (further_keeps n j operand) a g (next_infix j a.rest) e h

-- a left operand that was read, and what is read on
abbrev GoesOn : Scope → ℕ → ℕ → (Got Source → Option (Got Source)) → Type 0
GoesOn scope o l on =
    (a g : Got Source) → on a ≡ Some g → g.sound ≡ true → (ts front : List Token) → ts ≡ front ++ a.rest → AsAt scope o l front a.tree → Front (AsAt scope o l) ts g

stays : (scope : Scope) (o l : ℕ) → GoesOn scope o l (λ a. Some a)
stays scope o l a g e h ts front split reads =
    subst (λ x. Front (AsAt scope o l) ts x) (out e) (record { front = front; split = split; reads = reads })

turn_sound : (scope : Scope) (o l j : ℕ) (operand : Reader Source) (on : Got Source → Option (Got Source)) → l + suc j ≡ 11 → IsSound operand (AsAt scope o (suc l)) → Keeps on → GoesOn scope o l on
    → (a g : Got Source) (x : Option (Infix × List Token)) → next_infix (suc j) a.rest ≡ x → chosen x (Some a) (λ op. operand op.1 >>= λ b. on (join a op.0 b)) ≡ Some g → g.sound ≡ true
    → (ts front : List Token) → ts ≡ front ++ a.rest → AsAt scope o l front a.tree → Front (AsAt scope o l) ts g
turn_sound scope o l j operand on level k keeps more a g None f e h ts front split reads = stays scope o l a g e h ts front split reads
turn_sound scope o l j operand on level k keeps more a g (Some op) f e h ts front split reads =
    more joint g step.2 h ts (front ++ Punctuator at.sign ∷ taken.front) whole_split joined_reads
  where
    at : Stands (suc j) a.rest op
    at = next_is (suc j) a.rest op f

    step : (b : Got Source) × (operand op.1 ≡ Some b) × (on (join a op.0 b) ≡ Some g)
    step = bind_some (operand op.1) (λ b. on (join a op.0 b)) g e

    joint : Got Source
    joint = join a op.0 step.0

    some : (step.0.sound && joins op.0 a.tree step.0.tree) ≡ true
    some = second_true a.sound _ (keeps joint g step.2 h)

    taken : Front (AsAt scope o (suc l)) op.1 step.0
    taken = k op.1 step.0 step.1 (first_true step.0.sound _ some)

    whole_split : ts ≡ (front ++ Punctuator at.sign ∷ taken.front) ++ joint.rest
    whole_split = split ∙ ap (λ xs. front ++ xs) (at.split ∙ ap (λ xs. Punctuator at.sign ∷ xs) taken.split) ∙ sym (append_assoc front (Punctuator at.sign ∷ taken.front) step.0.rest)

    level_is : 11 - precedence op.0 ≡ l
    level_is = let far : precedence op.0 ≡ suc j = at.far in omega arith

    joined_reads : AsAt scope o l (front ++ Punctuator at.sign ∷ taken.front) joint.tree
    joined_reads = as_joined scope o l at.sign front taken.front op.0 a.tree step.0.tree (subst (λ m. IsSign m at.sign op.0) level_is (sign_of at.sign op.0 at.is)) (second_true step.0.sound _ some) reads taken.reads

further_sound : (scope : Scope) (o l j : ℕ) (operand : Reader Source) → l + suc j ≡ 11 → IsSound operand (AsAt scope o (suc l)) → (n : ℕ) → GoesOn scope o l (further n (suc j) operand)
further_sound scope o l j operand level k zero a g e h ts front split reads = stays scope o l a g e h ts front split reads
further_sound scope o l j operand level k (suc n) a g e h ts front split reads =
    turn_sound scope o l j operand (further n (suc j) operand) level k (further_keeps n (suc j) operand) (further_sound scope o l j operand level k n) a g (next_infix (suc j) a.rest) refl e h ts front split reads

-- operators up to a reach
binary_sound : (scope : Scope) (o : ℕ) (inner : Inner) → InnerSound scope o inner → (j l : ℕ) → l + j ≡ 11 → IsSound (reader.binary j scope inner) (AsAt scope o l)
binary_sound scope o inner k zero l level ts g e h = subst (λ m. Front (AsAt scope o m) ts g) (omega arith) (unary_sound scope o inner k ts g e h)
binary_sound scope o inner k (suc j) l level ts g e h =
    let a = bind_some (reader.binary j scope inner ts) (λ a. further (length a.rest) (suc j) (reader.binary j scope inner) a) g e in
    let tighter_sound = binary_sound scope o inner k j (suc l) (omega arith) in
    let first = tighter_sound ts a.0 a.1 (further_keeps (length a.0.rest) (suc j) (reader.binary j scope inner) a.0 g a.2 h) in
    further_sound scope o l j (reader.binary j scope inner) level tighter_sound (length a.0.rest) a.0 g a.2 h ts first.front first.split (as_tighter scope o l first.front a.0.tree first.reads)

-- the arms of `?:`, where they come
arms_sound : (scope : Scope) (o : ℕ) (inner : Inner) → InnerSound scope o inner → (c g : Got Source) (x : Option (List Token)) → ahead.question_mark c.rest ≡ x
    → chosen x (Some c) (λ behind. inner.whole behind >>= λ a. ahead.colon a.rest >>= λ other. inner.whole other >>= λ b. reader.choice c a b) ≡ Some g → g.sound ≡ true
    → (ts : List Token) → (c.sound ≡ true → Front (AsAt scope o 1) ts c) → Front (AsAt scope o 0) ts g
arms_sound scope o inner k c g None f e h ts first = subst (λ x. Front (AsAt scope o 0) ts x) (out e) (looser scope o 0 ts c (first (ap (λ x. x.sound) (out e) ∙ h)))
arms_sound scope o inner k c g (Some behind) f e h ts first =
    let a = bind_some (inner.whole behind) (λ a. ahead.colon a.rest >>= λ other. inner.whole other >>= λ b. reader.choice c a b) g e in
    let d = bind_some (ahead.colon a.0.rest) (λ other. inner.whole other >>= λ b. reader.choice c a.0 b) g a.2 in
    let b = bind_some (inner.whole d.0) (λ b. reader.choice c a.0 b) g d.2 in
    let all : (c.sound && ((a.0.sound && is_number a.0.tree) && (b.0.sound && is_number b.0.tree))) ≡ true = ap (λ x. x.sound) (out b.2) ∙ h in
    let some : ((a.0.sound && is_number a.0.tree) && (b.0.sound && is_number b.0.tree)) ≡ true = second_true c.sound _ all in
    let left : (a.0.sound && is_number a.0.tree) ≡ true = first_true (a.0.sound && is_number a.0.tree) _ some in
    let right : (b.0.sound && is_number b.0.tree) ≡ true = second_true (a.0.sound && is_number a.0.tree) _ some in
    let test = first (first_true c.sound _ all) in
    let one = k.whole behind a.0 a.1 (first_true a.0.sound _ left) in
    let two = k.whole d.0 b.0 b.1 (first_true b.0.sound _ right) in
    subst (λ x. Front (AsAt scope o 0) ts x) (out b.2)
    (record {
      front = test.front ++ Punctuator Question ∷ (one.front ++ Punctuator Colon ∷ two.front);
      split =
          test.split ∙ ap (λ xs. test.front ++ xs) (question_is c.rest behind f
          ∙ ap (λ xs. Punctuator Question ∷ xs) (one.split ∙ ap (λ xs. one.front ++ xs) (colon_is a.0.rest d.0 d.1 ∙ ap (λ xs. Punctuator Colon ∷ xs) two.split) ∙ sym (append_assoc one.front (Punctuator Colon ∷ two.front) b.0.rest)))
          ∙ sym (append_assoc test.front (Punctuator Question ∷ (one.front ++ Punctuator Colon ∷ two.front)) b.0.rest);
      reads = choose one.reads.0 (as_cond scope o 1 test.front c.tree test.reads)
          (as_number scope (suc o) 0 one.front a.0.tree (second_true a.0.sound _ left) one.reads.1) (as_number scope (suc o) 0 two.front b.0.tree (second_true b.0.sound _ right) two.reads.1);
    })

pub whole_sound : (scope : Scope) (o : ℕ) (inner : Inner) → InnerSound scope o inner → IsSound (whole scope inner) (AsAt scope o 0)
whole_sound scope o inner k ts g e h =
    let c = bind_some (reader.binary 10 scope inner ts) (arms inner) g (sym (whole_by scope inner ts) ∙ e) in
    arms_sound scope o inner k c.0 g (ahead.question_mark c.0.rest) refl c.2 h ts (λ d. binary_sound scope o inner k 10 1 refl ts c.0 c.1 d)

-- inside of what is opened
pub inside_sound : (scope : Scope) (room o : ℕ) → room + o ≡ 64 → InnerSound scope o (inside room scope)
inside_sound scope zero o h = record { whole = λ ts g e d. no_some e; operand = λ ts g e d. no_some e }
inside_sound scope (suc room) o h =
    let k = inside_sound scope room (suc o) (omega arith) in
    let b : o < 64 = omega arith in
    record {
      whole = λ ts g e d. (let r = whole_sound scope (suc o) (inside room scope) k ts g e d in record { front = r.front; split = r.split; reads = (b, r.reads) });
      operand = λ ts g e d. (let r = unary_sound scope (suc o) (inside room scope) k ts g e d in record { front = r.front; split = r.split; reads = (b, r.reads) });
    }

-- an expression
pub expression_sound : (scope : Scope) (room o : ℕ) → room + o ≡ 64 → IsSound (reader.expression room scope) (AsAt scope o 0)
expression_sound scope room o h = whole_sound scope o (inside room scope) (inside_sound scope room o h)
