-- What is read leaves no more tokens than it was given.
use Rattle.std.specs.Prelude.{ℕ, zero, suc, Bool, true, false, ◌&&◌, ◌==◌, ◌≡◌, ◌<◌, ◌≤◌, List, ◌∷◌, length, Option, Some, None, codes}
use Rattle.std.proofs.Common.{cond, refl, sym, ap, ◌∙◌, subst, arith}
use Rattle.std.proofs.lemmas.Option.{same_Some}
use Rattle.semantics.specs.Tree.{Name, UnaryOp, Negate, Complement, Exprs, more_exprs, Source, Truth, Not, BinaryOp, Increment, Up, Down, Set, Change, Assign, Update}
use Rattle.semantics.specs.Source.Token.{Token, Word, IntegerConstant, Punctuator, Symbol, Semicolon, OpenParen, CloseParen, OpenBracket, CloseBracket, Question, Colon, EqualSign, MinusSign, Tilde, Bang, PlusPlus, MinusMinus}
use Rattle.semantics.specs.Source.Scope.{Scope, Entity, find, is_reserved, same_name}
use Rattle.semantics.specs.Source.Cuts.{symbol_text}
use Rattle.cparse_grammar.specs.Reading.{Got, Reader, ◌>>=◌, got, chosen}
use Rattle.cparse_grammar.specs.Operators.{Infix, precedence, infix_of, number_in, is_number, cond_in, update_of}
use Rattle.cparse_grammar.specs.NextTokens as ahead
use Rattle.cparse_grammar.specs.ExpressionReader.{Inner, subscripts, named, primary, unary_of, next_infix, of_precedence, join, further, whole, choice, inside, expression}
use Rattle.cparse_grammar.specs.ExpressionReader as reader
use Rattle.cparse_grammar.specs.StatementReader.{Tally, Heading, target_of, may_set, may_step, is_unused, with_local, if_named, step_behind, step, assigned, assignment, heading}
use Rattle.cparse_grammar.specs.StatementParts.{in_parens, ended_source, counter, closed_step}
use Rattle.cparse_grammar.proofs.Binds.{bind_some}
use Rattle.cparse_grammar.proofs.HeadingLemmas.{heading_by_parts}

-- a reader that leaves no more
abbrev pub Leaves : {A : Type 0} → Reader A → Type 0
Leaves {A} read = (ts : List Token) (g : Got A) → read ts ≡ Some g → length g.rest ≤ length ts

pub nothing : {A P : Type 0} {x : A} → None ≡ Some x → P
nothing e = absurd (cc)

-- what was read is what is left
pub kept : {A : Type 0} {x g : Got A} (n : ℕ) → Some x ≡ Some g → length x.rest ≤ n → length g.rest ≤ n
kept {A} {x} {g} n e h = subst (λ y. length y.rest ≤ n) (same_Some x g e) h

-- what comes next is taken off
pub punctuator_takes : (s : Symbol) (ts us : List Token) → ahead.punctuator s ts ≡ Some us → length us < length ts
punctuator_takes s (Punctuator t ∷ ts) us e = go (same_name (symbol_text t) (symbol_text s)) e
  where
    go : (b : Bool) → cond b (Some ts) None ≡ Some us → length us < length (Punctuator t ∷ ts)
    go true d = let same : length ts ≡ length us = ap (λ xs. length xs) (same_Some ts us d) in omega arith
    go false d = nothing d
punctuator_takes s _ us e = nothing e

pub word_takes : (w : Name) (ts us : List Token) → ahead.word w ts ≡ Some us → length us < length ts
word_takes w (Word v ∷ ts) us e = go (same_name v w) e
  where
    go : (b : Bool) → cond b (Some ts) None ≡ Some us → length us < length (Word v ∷ ts)
    go true d = let same : length ts ≡ length us = ap (λ xs. length xs) (same_Some ts us d) in omega arith
    go false d = nothing d
word_takes w _ us e = nothing e

pub new_name_takes : (ts : List Token) (x : Name × List Token) → ahead.new_name ts ≡ Some x → length x.1 < length ts
new_name_takes (Word w ∷ ts) x e = go (is_reserved w) e
  where
    go : (b : Bool) → cond b None (Some (w, ts)) ≡ Some x → length x.1 < length (Word w ∷ ts)
    go true d = nothing d
    go false d = let same : length ts ≡ length x.1 = ap (λ y. length y.1) (same_Some (w, ts) x d) in omega arith
new_name_takes _ x e = nothing e

pub sign_takes : (ts : List Token) (x : Symbol × List Token) → ahead.sign ts ≡ Some x → length x.1 < length ts
sign_takes (Punctuator s ∷ ts) x e = let same : length ts ≡ length x.1 = ap (λ y. length y.1) (same_Some (s, ts) x e) in omega arith
sign_takes _ x e = nothing e

-- what stands inside of what is opened
pub record InnerLeaves (inner : Inner) : Type 0 where
  pub whole : Leaves inner.whole
  pub operand : Leaves inner.operand

-- subscripts
pub subscripts_leave : (inner : Inner) → InnerLeaves inner → (n : ℕ) → Leaves (subscripts n inner)
subscripts_leave inner k (suc n) (Punctuator OpenBracket ∷ ts) g e =
    let a = bind_some (inner.whole ts) (λ e. ahead.close_bracket e.rest >>= λ behind. subscripts n inner behind >>= λ es. got (more_exprs (number_in e.tree) es.tree) (e.sound && (is_number e.tree && es.sound)) es.rest) g e in
    let b = bind_some (ahead.close_bracket a.0.rest) (λ behind. subscripts n inner behind >>= λ es. got (more_exprs (number_in a.0.tree) es.tree) (a.0.sound && (is_number a.0.tree && es.sound)) es.rest) g a.2 in
    let c = bind_some (subscripts n inner b.0) (λ es. got (more_exprs (number_in a.0.tree) es.tree) (a.0.sound && (is_number a.0.tree && es.sound)) es.rest) g b.2 in
    let one : length a.0.rest ≤ length ts = k.whole ts a.0 a.1 in
    let two : length b.0 < length a.0.rest = punctuator_takes CloseBracket a.0.rest b.0 b.1 in
    let three : length c.0.rest ≤ length b.0 = subscripts_leave inner k n b.0 c.0 c.1 in
    kept (length (Punctuator OpenBracket ∷ ts)) c.2 (omega arith)
subscripts_leave inner k zero ts g e = kept (length ts) e (omega arith)
subscripts_leave inner k (suc n) (Punctuator s ∷ ts) g e = kept (length (Punctuator s ∷ ts)) e (omega arith)
subscripts_leave inner k (suc n) ts g e = kept (length ts) e (omega arith)

name_leaves : (inner : Inner) → InnerLeaves inner → (entity : Option Entity) (name : Name) (ts : List Token) (g : Got Source) (b : Bool)
    → cond b (subscripts (length ts) inner ts >>= λ is. named entity name is) None ≡ Some g → length g.rest ≤ length ts
name_leaves inner k entity name ts g false d = nothing d
name_leaves inner k entity name ts g true d =
    let a = bind_some (subscripts (length ts) inner ts) (named entity name) g d in
    kept (length ts) a.2 (subscripts_leave inner k (length ts) ts a.0 a.1)

parens_leave : (inner : Inner) → InnerLeaves inner → (ts : List Token) (g : Got Source) → (inner.whole ts >>= λ e. ahead.close_paren e.rest >>= λ behind. got e.tree e.sound behind) ≡ Some g → length g.rest ≤ length ts
parens_leave inner k ts g d =
    let a = bind_some (inner.whole ts) (λ e. ahead.close_paren e.rest >>= λ behind. got e.tree e.sound behind) g d in
    let b = bind_some (ahead.close_paren a.0.rest) (λ behind. got a.0.tree a.0.sound behind) g a.2 in
    let one : length a.0.rest ≤ length ts = k.whole ts a.0 a.1 in
    let two : length b.0 < length a.0.rest = punctuator_takes CloseParen a.0.rest b.0 b.1 in
    kept (length ts) b.2 (omega arith)

-- one token more was there
wider : (t : Token) (ts us : List Token) → length us ≤ length ts → length us ≤ length (t ∷ ts)
wider t ts us h = omega arith

primary_leaves : (scope : Scope) (inner : Inner) → InnerLeaves inner → Leaves (primary scope inner)
unfolding primary
primary_leaves scope inner k (IntegerConstant n suffix ∷ ts) g e = kept (length (IntegerConstant n suffix ∷ ts)) e (omega arith)
primary_leaves scope inner k (Word name ∷ ts) g e = wider (Word name) ts g.rest (name_leaves inner k (find scope name) name ts g (ahead.may_be_named (find scope name) name) e)
primary_leaves scope inner k (Punctuator OpenParen ∷ ts) g e = wider (Punctuator OpenParen) ts g.rest (parens_leave inner k ts g e)
primary_leaves scope inner k (Punctuator s ∷ ts) g e = nothing e
primary_leaves scope inner k _ g e = nothing e

unary_of_leaves : (inner : Inner) → InnerLeaves inner → (op : UnaryOp) (ts : List Token) (g : Got Source) → (inner.operand ts >>= λ e. unary_of op e) ≡ Some g → length g.rest ≤ length ts
unary_of_leaves inner k op ts g d =
    let a = bind_some (inner.operand ts) (unary_of op) g d in
    kept (length ts) a.2 (k.operand ts a.0 a.1)

bang_leaves : (inner : Inner) → InnerLeaves inner → (ts : List Token) (g : Got Source) → (inner.operand ts >>= λ e. got (Truth (Not (cond_in e.tree))) e.sound e.rest) ≡ Some g → length g.rest ≤ length ts
bang_leaves inner k ts g d =
    let a = bind_some (inner.operand ts) (λ e. got (Truth (Not (cond_in e.tree))) e.sound e.rest) g d in
    kept (length ts) a.2 (k.operand ts a.0 a.1)

unary_leaves : (scope : Scope) (inner : Inner) → InnerLeaves inner → Leaves (reader.unary scope inner)
unfolding reader.unary
unary_leaves scope inner k (Punctuator MinusSign ∷ ts) g e = wider (Punctuator MinusSign) ts g.rest (unary_of_leaves inner k Negate ts g e)
unary_leaves scope inner k (Punctuator Tilde ∷ ts) g e = wider (Punctuator Tilde) ts g.rest (unary_of_leaves inner k Complement ts g e)
unary_leaves scope inner k (Punctuator Bang ∷ ts) g e = wider (Punctuator Bang) ts g.rest (bang_leaves inner k ts g e)
unary_leaves scope inner k (Punctuator s ∷ ts) g e = primary_leaves scope inner k (Punctuator s ∷ ts) g e
unary_leaves scope inner k ts g e = primary_leaves scope inner k ts g e

-- an operator between two operands
reaching_takes : (j : ℕ) (s : Symbol) (ts : List Token) (x : Infix × List Token) (o : Option Infix) → of_precedence j ts o ≡ Some x → length x.1 < length (Punctuator s ∷ ts)
reaching_takes j s ts x None e = nothing e
reaching_takes j s ts x (Some op) e = go (precedence op == j) e
  where
    go : (b : Bool) → cond b (Some (op, ts)) None ≡ Some x → length x.1 < length (Punctuator s ∷ ts)
    go true d = let same : length ts ≡ length x.1 = ap (λ y. length y.1) (same_Some (op, ts) x d) in omega arith
    go false d = nothing d

infix_takes : (j : ℕ) (ts : List Token) (x : Infix × List Token) → next_infix j ts ≡ Some x → length x.1 < length ts
infix_takes j (Punctuator s ∷ ts) x e = reaching_takes j s ts x (infix_of s) e
infix_takes j _ x e = nothing e

-- what is read behind a left operand leaves no more than it
abbrev GoesOn : (Got Source → Option (Got Source)) → Type 0
GoesOn on = (a g : Got Source) → on a ≡ Some g → length g.rest ≤ length a.rest

turn_leaves : (j : ℕ) (operand : Reader Source) (on : Got Source → Option (Got Source)) → Leaves operand → GoesOn on → (a g : Got Source) (x : Option (Infix × List Token)) → next_infix j a.rest ≡ x
    → chosen x (Some a) (λ op. operand op.1 >>= λ b. on (join a op.0 b)) ≡ Some g → length g.rest ≤ length a.rest
turn_leaves j operand on k more a g None f e = kept (length a.rest) e (omega arith)
turn_leaves j operand on k more a g (Some op) f e =
    let b = bind_some (operand op.1) (λ b. on (join a op.0 b)) g e in
    let one : length op.1 < length a.rest = infix_takes j a.rest op f in
    let two : length b.0.rest ≤ length op.1 = k op.1 b.0 b.1 in
    let three : length g.rest ≤ length b.0.rest = more (join a op.0 b.0) g b.2 in
    omega arith

further_leaves : (n j : ℕ) (operand : Reader Source) → Leaves operand → GoesOn (further n j operand)
further_leaves zero j operand k a g e = kept (length a.rest) e (omega arith)
further_leaves (suc n) j operand k a g e = turn_leaves j operand (further n j operand) k (further_leaves n j operand k) a g (next_infix j a.rest) refl e

binary_leaves : (scope : Scope) (inner : Inner) → InnerLeaves inner → (j : ℕ) → Leaves (reader.binary j scope inner)
binary_leaves scope inner k zero ts g e = unary_leaves scope inner k ts g e
binary_leaves scope inner k (suc j) ts g e =
    let a = bind_some (reader.binary j scope inner ts) (λ a. further (length a.rest) (suc j) (reader.binary j scope inner) a) g e in
    let one : length a.0.rest ≤ length ts = binary_leaves scope inner k j ts a.0 a.1 in
    let two : length g.rest ≤ length a.0.rest = further_leaves (length a.0.rest) (suc j) (reader.binary j scope inner) (binary_leaves scope inner k j) a.0 g a.2 in
    omega arith

-- the arms of `?:`, where they come
arms_leave : (inner : Inner) → InnerLeaves inner → (c g : Got Source) (x : Option (List Token)) → ahead.question_mark c.rest ≡ x
    → chosen x (Some c) (λ behind. inner.whole behind >>= λ a. ahead.colon a.rest >>= λ other. inner.whole other >>= λ b. choice c a b) ≡ Some g → length g.rest ≤ length c.rest
arms_leave inner k c g None f e = kept (length c.rest) e (omega arith)
arms_leave inner k c g (Some behind) f e =
    let a = bind_some (inner.whole behind) (λ a. ahead.colon a.rest >>= λ other. inner.whole other >>= λ b. choice c a b) g e in
    let d = bind_some (ahead.colon a.0.rest) (λ other. inner.whole other >>= λ b. choice c a.0 b) g a.2 in
    let b = bind_some (inner.whole d.0) (λ b. choice c a.0 b) g d.2 in
    let one : length behind < length c.rest = punctuator_takes Question c.rest behind f in
    let two : length a.0.rest ≤ length behind = k.whole behind a.0 a.1 in
    let three : length d.0 < length a.0.rest = punctuator_takes Colon a.0.rest d.0 d.1 in
    let four : length b.0.rest ≤ length d.0 = k.whole d.0 b.0 b.1 in
    kept (length c.rest) b.2 (omega arith)

whole_leaves : (scope : Scope) (inner : Inner) → InnerLeaves inner → Leaves (whole scope inner)
unfolding whole
whole_leaves scope inner k ts g e =
    let c = bind_some (reader.binary 10 scope inner ts) (λ c. chosen (ahead.question_mark c.rest) (Some c) (λ behind. inner.whole behind >>= λ a. ahead.colon a.rest >>= λ other. inner.whole other >>= λ b. choice c a b)) g e in
    let one : length c.0.rest ≤ length ts = binary_leaves scope inner k 10 ts c.0 c.1 in
    let two : length g.rest ≤ length c.0.rest = arms_leave inner k c.0 g (ahead.question_mark c.0.rest) refl c.2 in
    omega arith

pub inside_leaves : (room : ℕ) (scope : Scope) → InnerLeaves (inside room scope)
inside_leaves zero scope = record { whole = λ ts g e. nothing e; operand = λ ts g e. nothing e }
inside_leaves (suc room) scope =
    let k = inside_leaves room scope in
    record { whole = λ ts g e. whole_leaves scope (inside room scope) k ts g e; operand = λ ts g e. unary_leaves scope (inside room scope) k ts g e }

-- an expression
pub expression_leaves : (room : ℕ) (scope : Scope) → Leaves (expression room scope)
expression_leaves room scope ts g e = whole_leaves scope (inside room scope) (inside_leaves room scope) ts g e

pub in_parens_leaves : (read : Reader Source) → Leaves read → Leaves (in_parens read)
in_parens_leaves read k ts g e =
    let a = bind_some (ahead.open_paren ts) (λ inner. read inner >>= λ e. ahead.close_paren e.rest >>= λ behind. got e.tree e.sound behind) g e in
    let b = bind_some (read a.0) (λ e. ahead.close_paren e.rest >>= λ behind. got e.tree e.sound behind) g a.2 in
    let c = bind_some (ahead.close_paren b.0.rest) (λ behind. got b.0.tree b.0.sound behind) g b.2 in
    let one : length a.0 < length ts = punctuator_takes OpenParen ts a.0 a.1 in
    let two : length b.0.rest ≤ length a.0 = k a.0 b.0 b.1 in
    let three : length c.0 < length b.0.rest = punctuator_takes CloseParen b.0.rest c.0 c.1 in
    kept (length ts) c.2 (omega arith)

pub ended_source_leaves : (read : Reader Source) → Leaves read → Leaves (ended_source read)
ended_source_leaves read k ts g e =
    let a = bind_some (read ts) (λ e. ahead.semicolon e.rest >>= λ behind. got e.tree e.sound behind) g e in
    let b = bind_some (ahead.semicolon a.0.rest) (λ behind. got a.0.tree a.0.sound behind) g a.2 in
    let one : length a.0.rest ≤ length ts = k ts a.0 a.1 in
    let two : length b.0 < length a.0.rest = punctuator_takes Semicolon a.0.rest b.0 b.1 in
    kept (length ts) b.2 (omega arith)

-- a name where a variable stands
if_named_some : {A : Type 0} (scope : Scope) (w : Name) (read : Option A) (x : A) → if_named scope w read ≡ Some x → read ≡ Some x
if_named_some {A} scope w read x e = go (ahead.may_be_named (find scope w) w) e
  where
    go : (b : Bool) → cond b read None ≡ Some x → read ≡ Some x
    go true d = d
    go false d = nothing d

-- a loop's step
step_behind_leaves : (read : Reader Source) → Leaves read → (entity : Option Entity) (s : Symbol) → Leaves (step_behind read entity s)
step_behind_leaves read k entity PlusPlus ts g e = kept (length ts) e (omega arith)
step_behind_leaves read k entity MinusMinus ts g e = kept (length ts) e (omega arith)
step_behind_leaves read k entity EqualSign ts g e =
    let a = bind_some (read ts) (λ e. got (Set (target_of entity) e.tree) (may_step entity && e.sound) e.rest) g e in
    kept (length ts) a.2 (k ts a.0 a.1)
step_behind_leaves read k entity s ts g e = changed (update_of s) e
  where
    changed : (x : Option BinaryOp) → chosen x None (λ op. read ts >>= λ e. got (Change (target_of entity) op (number_in e.tree)) (may_step entity && (e.sound && is_number e.tree)) e.rest) ≡ Some g → length g.rest ≤ length ts
    changed None d = nothing d
    changed (Some op) d =
        let a = bind_some (read ts) (λ e. got (Change (target_of entity) op (number_in e.tree)) (may_step entity && (e.sound && is_number e.tree)) e.rest) g d in
        kept (length ts) a.2 (k ts a.0 a.1)

-- two tokens more were there
wider_by_two : (t u : Token) (ts us : List Token) → length us ≤ length ts → length us ≤ length (t ∷ u ∷ ts)
wider_by_two t u ts us h = omega arith

step_leaves : (read : Reader Source) → Leaves read → (scope : Scope) → Leaves (step read scope)
unfolding step
step_leaves read k scope (Punctuator PlusPlus ∷ Word w ∷ ts) g e =
    let d = if_named_some scope w (got (Up (target_of (find scope w))) (may_step (find scope w)) ts) g e in
    kept (length (Punctuator PlusPlus ∷ Word w ∷ ts)) d (omega arith)
step_leaves read k scope (Punctuator MinusMinus ∷ Word w ∷ ts) g e =
    let d = if_named_some scope w (got (Down (target_of (find scope w))) (may_step (find scope w)) ts) g e in
    kept (length (Punctuator MinusMinus ∷ Word w ∷ ts)) d (omega arith)
step_leaves read k scope (Word w ∷ Punctuator s ∷ ts) g e =
    wider_by_two (Word w) (Punctuator s) ts g.rest (step_behind_leaves read k (find scope w) s ts g (if_named_some scope w (step_behind read (find scope w) s ts) g e))
step_leaves read k scope _ g e = nothing e

pub closed_step_leaves : (read : Reader Source) → Leaves read → (scope : Scope) → Leaves (closed_step read scope)
closed_step_leaves read k scope ts g e =
    let a = bind_some (step read scope ts) (λ turn. ahead.close_paren turn.rest >>= λ behind. got turn.tree turn.sound behind) g e in
    let b = bind_some (ahead.close_paren a.0.rest) (λ behind. got a.0.tree a.0.sound behind) g a.2 in
    let one : length a.0.rest ≤ length ts = step_leaves read k scope ts a.0 a.1 in
    let two : length b.0 < length a.0.rest = punctuator_takes CloseParen a.0.rest b.0 b.1 in
    kept (length ts) b.2 (omega arith)

-- an assignment
assigned_leaves : (read : Reader Source) → Leaves read → (entity : Option Entity) (is : Exprs) (sound : Bool) (s : Symbol) → Leaves (assigned read entity is sound s)
assigned_leaves read k entity is sound EqualSign ts g e =
    let a = bind_some (read ts) (λ e. got (Assign (target_of entity) is e.tree) (sound && (may_set entity is && e.sound)) e.rest) g e in
    kept (length ts) a.2 (k ts a.0 a.1)
assigned_leaves read k entity is sound s ts g e = changed (update_of s) e
  where
    changed : (x : Option BinaryOp) → chosen x None (λ op. read ts >>= λ e. got (Update (target_of entity) is op (number_in e.tree)) (sound && (may_set entity is && (e.sound && is_number e.tree))) e.rest) ≡ Some g → length g.rest ≤ length ts
    changed None d = nothing d
    changed (Some op) d =
        let a = bind_some (read ts) (λ e. got (Update (target_of entity) is op (number_in e.tree)) (sound && (may_set entity is && (e.sound && is_number e.tree))) e.rest) g d in
        kept (length ts) a.2 (k ts a.0 a.1)

pub assignment_leaves : (room : ℕ) (scope : Scope) (w : Name) → Leaves (assignment room scope w)
unfolding assignment
assignment_leaves room scope w ts g e =
    let d = if_named_some scope w (subscripts (length ts) (inside room scope) ts >>= λ is. ahead.sign is.rest >>= λ s. assigned (expression room scope) (find scope w) is.tree is.sound s.0 s.1) g e in
    let a = bind_some (subscripts (length ts) (inside room scope) ts) (λ is. ahead.sign is.rest >>= λ s. assigned (expression room scope) (find scope w) is.tree is.sound s.0 s.1) g d in
    let b = bind_some (ahead.sign a.0.rest) (λ s. assigned (expression room scope) (find scope w) a.0.tree a.0.sound s.0 s.1) g a.2 in
    let one : length a.0.rest ≤ length ts = subscripts_leave (inside room scope) (inside_leaves room scope) (length ts) ts a.0 a.1 in
    let two : length b.0.1 < length a.0.rest = sign_takes a.0.rest b.0 b.1 in
    let three : length g.rest ≤ length b.0.1 = assigned_leaves (expression room scope) (expression_leaves room scope) (find scope w) a.0.tree a.0.sound b.0.0 b.0.1 g b.2 in
    omega arith

-- a loop's head
counter_takes : (ts : List Token) (x : Name × List Token) → counter ts ≡ Some x → length x.1 < length ts
counter_takes ts x e =
    let a = bind_some (ahead.open_paren ts) (λ inner. ahead.word (codes "uint64_t") inner >>= λ typed. ahead.new_name typed >>= λ name. ahead.equal_sign name.1 >>= λ behind. Some (name.0, behind)) x e in
    let b = bind_some (ahead.word (codes "uint64_t") a.0) (λ typed. ahead.new_name typed >>= λ name. ahead.equal_sign name.1 >>= λ behind. Some (name.0, behind)) x a.2 in
    let c = bind_some (ahead.new_name b.0) (λ name. ahead.equal_sign name.1 >>= λ behind. Some (name.0, behind)) x b.2 in
    let d = bind_some (ahead.equal_sign c.0.1) (λ behind. Some (c.0.0, behind)) x c.2 in
    let one : length a.0 < length ts = punctuator_takes OpenParen ts a.0 a.1 in
    let two : length b.0 < length a.0 = word_takes (codes "uint64_t") a.0 b.0 b.1 in
    let three : length c.0.1 < length b.0 = new_name_takes b.0 c.0 c.1 in
    let four : length d.0 < length c.0.1 = punctuator_takes EqualSign c.0.1 d.0 d.1 in
    let same : length d.0 ≡ length x.1 = ap (λ y. length y.1) (same_Some (c.0.0, d.0) x d.2) in
    omega arith

pub heading_leaves : (room : ℕ) (scope : Scope) (tally : Tally) (ts : List Token) (h : Heading) → heading room scope tally ts ≡ Some h → length h.rest ≤ length ts
heading_leaves room scope tally ts h e =
    let whole : Name → Got Source → Got Source → Got Increment → Option Heading = (λ w start test turn. Some (record { name = w; start = start.tree; test = test.tree; step = turn.tree; sound = is_unused scope w && (start.sound && (test.sound && turn.sound)); rest = turn.rest })) in
    let read : Name → Reader Source = (λ w. expression room (with_local scope w tally)) in
    let a = bind_some (counter ts) (λ name. ended_source (read name.0) name.1 >>= λ start. ended_source (read name.0) start.rest >>= λ test. closed_step (read name.0) (with_local scope name.0 tally) test.rest >>= λ turn. whole name.0 start test turn) h (sym (heading_by_parts room scope tally ts) ∙ e) in
    let w : Name = a.0.0 in
    let k : Leaves (read w) = expression_leaves room (with_local scope w tally) in
    let b = bind_some (ended_source (read w) a.0.1) (λ start. ended_source (read w) start.rest >>= λ test. closed_step (read w) (with_local scope w tally) test.rest >>= λ turn. whole w start test turn) h a.2 in
    let c = bind_some (ended_source (read w) b.0.rest) (λ test. closed_step (read w) (with_local scope w tally) test.rest >>= λ turn. whole w b.0 test turn) h b.2 in
    let d = bind_some (closed_step (read w) (with_local scope w tally) c.0.rest) (λ turn. whole w b.0 c.0 turn) h c.2 in
    let one : length a.0.1 < length ts = counter_takes ts a.0 a.1 in
    let two : length b.0.rest ≤ length a.0.1 = ended_source_leaves (read w) k a.0.1 b.0 b.1 in
    let three : length c.0.rest ≤ length b.0.rest = ended_source_leaves (read w) k b.0.rest c.0 c.1 in
    let four : length d.0.rest ≤ length c.0.rest = closed_step_leaves (read w) k (with_local scope w tally) c.0.rest d.0 d.1 in
    let same : length d.0.rest ≡ length h.rest = ap (λ y. length y.rest) (same_Some _ h d.2) in
    omega arith
