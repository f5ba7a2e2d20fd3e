-- Whatever is read as a statement, with nothing wrong in it, the grammar has.
use Rattle.std.specs.Prelude.{ℕ, zero, suc, Bool, true, false, ◌&&◌, ◌≡◌, ◌⊎◌, ◌<◌, ◌+◌, List, [], ◌∷◌, ◌++◌, length, Option, Some, None, is_none, codes}
use Rattle.std.proofs.Common.{inl, inr, cond, refl, sym, ap, ◌∙◌, subst, arith}
use Rattle.std.proofs.lemmas.Bool.{eqb-true}
use Rattle.std.proofs.lemmas.List.{append_assoc}
use Rattle.semantics.specs.Tree.{Name, Expr, Exprs, Source, Number, Truth, BinaryOp, Increment, Up, Down, Set, Change, Stmt, Assign, Update, If, IfElse, For, Block, Print, Items, no_items, mark, local}
use Rattle.semantics.specs.Source.Token.{Token, Word, IntegerConstant, StringLiteral, Punctuator, Header, Line, Symbol, Semicolon, Comma, OpenParen, CloseParen, OpenBrace, CloseBrace, PlusPlus, MinusMinus, EqualSign, PlusEqual, MinusEqual, TimesEqual, AmpEqual, BarEqual, CaretEqual}
use Rattle.semantics.specs.Source.Typing.{typed, plain}
use Rattle.semantics.specs.Source.Scope.{Scope, Entity, AVariable, AConstant, find, count, is_reserved, same_name, IsFree}
use Rattle.semantics.specs.Source.Expressions.{UpdateSign, ReadsExpr, ReadsSubscripts, ReadsCond}
use Rattle.semantics.specs.Source.Expressions as grammar
use Rattle.semantics.specs.Source.Statements.{is_closed, stmt_count, statement_count, ReadsSource, number, truth, target, ReadsIncrement, up_before, up_behind, down_before, down_behind, set, change, ReadsFormat, end, last, place, ReadsArguments, no_arguments, argument, Fills, ReadsStmt, assign, update, if_only, if_else, for_loop, block, print, ReadsItems, no_more, line, empty_local, first_local, statement}
use Rattle.cparse_grammar.specs.Reading.{Got, Reader, ◌>>=◌, got, chosen}
use Rattle.cparse_grammar.specs.Operators.{number_in, is_number, cond_in, update_of}
use Rattle.cparse_grammar.specs.NextTokens.{close_paren, may_be_named, word}
use Rattle.cparse_grammar.specs.ExpressionReader.{subscripts, inside, expression}
use Rattle.cparse_grammar.specs.NextTokens as ahead
use Rattle.cparse_grammar.specs.PrintfReader as printing
use Rattle.cparse_grammar.specs.StatementReader as reader
use Rattle.cparse_grammar.specs.StatementReader.{Tally, Told, StmtReader, target_of, may_set, may_step, step_behind, step, assigned, assignment, items, by_head}
use Rattle.cparse_grammar.specs.PrintfReader.{format, arguments, filled, fills}
use Rattle.cparse_grammar.proofs.Binds.{bind_some, first_true, second_true}
use Rattle.law_grammar.proofs.ExpressionSound.{AsAt, as_cond, as_number, Front, IsSound, out, no_some, close_paren_is, subs_sound, inside_sound, expression_sound}
use Rattle.law_grammar.proofs.StatementComplete.{same_is}

-- what comes next
pub semicolon_is : (ts us : List Token) → ahead.semicolon ts ≡ Some us → ts ≡ Punctuator Semicolon ∷ us
semicolon_is (Punctuator Semicolon ∷ ts) us e = ap (λ xs. Punctuator Semicolon ∷ xs) (out e)
semicolon_is (Punctuator s ∷ ts) us e = no_some e
semicolon_is _ us e = no_some e

pub open_paren_is : (ts us : List Token) → ahead.open_paren ts ≡ Some us → ts ≡ Punctuator OpenParen ∷ us
open_paren_is (Punctuator OpenParen ∷ ts) us e = ap (λ xs. Punctuator OpenParen ∷ xs) (out e)
open_paren_is (Punctuator s ∷ ts) us e = no_some e
open_paren_is _ us e = no_some e

pub becomes_is : (ts us : List Token) → ahead.equal_sign ts ≡ Some us → ts ≡ Punctuator EqualSign ∷ us
becomes_is (Punctuator EqualSign ∷ ts) us e = ap (λ xs. Punctuator EqualSign ∷ xs) (out e)
becomes_is (Punctuator s ∷ ts) us e = no_some e
becomes_is _ us e = no_some e

pub close_brace_is : (ts us : List Token) → ahead.close_brace ts ≡ Some us → ts ≡ Punctuator CloseBrace ∷ us
close_brace_is (Punctuator CloseBrace ∷ ts) us e = ap (λ xs. Punctuator CloseBrace ∷ xs) (out e)
close_brace_is (Punctuator s ∷ ts) us e = no_some e
close_brace_is _ us e = no_some e

pub word_is : (w : Name) (ts us : List Token) → word w ts ≡ Some us → ts ≡ Word w ∷ us
word_is w (Word v ∷ ts) us e = go (same_name v w) refl e
  where
    go : (b : Bool) → same_name v w ≡ b → cond b (Some ts) None ≡ Some us → Word v ∷ ts ≡ Word w ∷ us
    go true h d = ap (λ x. Word x ∷ ts) (same_is v w h) ∙ ap (λ xs. Word w ∷ xs) (out d)
    go false h d = no_some d
word_is w [] us e = no_some e
word_is w (IntegerConstant n s ∷ ts) us e = no_some e
word_is w (StringLiteral cs o ∷ ts) us e = no_some e
word_is w (Punctuator s ∷ ts) us e = no_some e
word_is w (Header n ∷ ts) us e = no_some e
word_is w (Line n ∷ ts) us e = no_some e

-- a word that may be declared
pub record NewName (ts : List Token) (x : Name × List Token) : Type 0 where
  pub split : ts ≡ Word x.0 ∷ x.1
  pub free : is_reserved x.0 ≡ false

pub new_name_is : (ts : List Token) (x : Name × List Token) → ahead.new_name ts ≡ Some x → NewName ts x
new_name_is (Word w ∷ ts) x e = go (is_reserved w) refl e
  where
    go : (b : Bool) → is_reserved w ≡ b → cond b None (Some (w, ts)) ≡ Some x → NewName (Word w ∷ ts) x
    go true h d = no_some d
    go false h d = subst (λ y. NewName (Word w ∷ ts) y) (out d) (record { split = refl; free = h })
new_name_is [] x e = no_some e
new_name_is (IntegerConstant n s ∷ ts) x e = no_some e
new_name_is (StringLiteral cs o ∷ ts) x e = no_some e
new_name_is (Punctuator s ∷ ts) x e = no_some e
new_name_is (Header n ∷ ts) x e = no_some e
new_name_is (Line n ∷ ts) x e = no_some e

none_there : {A : Type 0} (o : Option A) → is_none o ≡ true → o ≡ None
none_there None h = refl
none_there (Some x) h = absurd (cc)

pub free_name : (scope : Scope) (w : Name) → is_reserved w ≡ false → reader.is_unused scope w ≡ true → IsFree scope w
free_name scope w h k = record { word = h; unused = none_there (find scope w) k }

-- a right side
as_source : (scope : Scope) (o : ℕ) (ts : List Token) (s : Source) → AsAt scope o 0 ts s → ReadsSource scope o ts s
as_source scope o ts (Number e) r = number r
as_source scope o ts (Truth c) r = truth r.0 r.1

-- the sign of `op=`
update_sign : (s : Symbol) (op : BinaryOp) → update_of s ≡ Some op → UpdateSign s op
update_sign PlusEqual op e = subst (λ x. UpdateSign PlusEqual x) (out e) grammar.UpdateSign.plus
update_sign MinusEqual op e = subst (λ x. UpdateSign MinusEqual x) (out e) grammar.UpdateSign.minus
update_sign TimesEqual op e = subst (λ x. UpdateSign TimesEqual x) (out e) grammar.UpdateSign.times
update_sign AmpEqual op e = subst (λ x. UpdateSign AmpEqual x) (out e) grammar.and
update_sign BarEqual op e = subst (λ x. UpdateSign BarEqual x) (out e) grammar.or
update_sign CaretEqual op e = subst (λ x. UpdateSign CaretEqual x) (out e) grammar.xor
update_sign _ op e = no_some e

-- a variable that may be set
target_is : (scope : Scope) (w : Name) (e : Option Entity) (is : Exprs) → find scope w ≡ e → may_set e is ≡ true → find scope w ≡ Some (AVariable (target_of e) (count is))
target_is scope w None is f h = absurd (cc)
target_is scope w (Some (AVariable x n)) is f h = f ∙ ap (λ m. Some (AVariable x m)) (eqb-true n (count is) h)
target_is scope w (Some (AConstant v)) is f h = absurd (cc)

scalar_is : (scope : Scope) (w : Name) (e : Option Entity) → find scope w ≡ e → may_step e ≡ true → find scope w ≡ Some (AVariable (target_of e) 0)
scalar_is scope w None f h = absurd (cc)
scalar_is scope w (Some (AVariable x n)) f h = f ∙ ap (λ m. Some (AVariable x m)) (eqb-true n 0 h)
scalar_is scope w (Some (AConstant v)) f h = absurd (cc)

-- a name where a variable stands
if_named_some : {A : Type 0} (scope : Scope) (w : Name) (read : Option A) (x : A) → reader.if_named scope w read ≡ Some x → read ≡ Some x
if_named_some {A} scope w read x e = go (may_be_named (find scope w) w) e
  where
    go : (b : Bool) → cond b read None ≡ Some x → read ≡ Some x
    go true d = d
    go false d = no_some d

-- a step behind its variable
step_behind_sound : (scope : Scope) (o : ℕ) (whole : Reader Source) → IsSound whole (AsAt scope o 0) → (w : Name) (s : Symbol) (ts : List Token) (g : Got Increment)
    → step_behind whole (find scope w) s ts ≡ Some g → g.sound ≡ true → Front (ReadsIncrement scope o) (Word w ∷ Punctuator s ∷ ts) g
step_behind_sound scope o whole k w PlusPlus ts g e h =
    subst (λ x. Front (ReadsIncrement scope o) (Word w ∷ Punctuator PlusPlus ∷ ts) x) (out e)
    (record { front = Word w ∷ Punctuator PlusPlus ∷ []; split = refl; reads = up_behind (scalar_is scope w (find scope w) refl (ap (λ x. x.sound) (out e) ∙ h)) })
step_behind_sound scope o whole k w MinusMinus ts g e h =
    subst (λ x. Front (ReadsIncrement scope o) (Word w ∷ Punctuator MinusMinus ∷ ts) x) (out e)
    (record { front = Word w ∷ Punctuator MinusMinus ∷ []; split = refl; reads = down_behind (scalar_is scope w (find scope w) refl (ap (λ x. x.sound) (out e) ∙ h)) })
step_behind_sound scope o whole k w EqualSign ts g e h =
    let a = bind_some (whole ts) (λ e. got (Set (target_of (find scope w)) e.tree) (may_step (find scope w) && e.sound) e.rest) g e in
    let all : (may_step (find scope w) && a.0.sound) ≡ true = ap (λ x. x.sound) (out a.2) ∙ h in
    let r = k ts a.0 a.1 (second_true (may_step (find scope w)) _ all) in
    subst (λ x. Front (ReadsIncrement scope o) (Word w ∷ Punctuator EqualSign ∷ ts) x) (out a.2)
    (record {
      front = Word w ∷ Punctuator EqualSign ∷ r.front;
      split = ap (λ xs. Word w ∷ Punctuator EqualSign ∷ xs) r.split;
      reads = set (scalar_is scope w (find scope w) refl (first_true (may_step (find scope w)) _ all)) (as_source scope o r.front a.0.tree r.reads);
    })
step_behind_sound scope o whole k w s ts g e h = changed (update_of s) refl e
  where
    changed : (x : Option BinaryOp) → update_of s ≡ x
        → chosen x None (λ op. whole ts >>= λ e. got (Change (target_of (find scope w)) op (number_in e.tree)) (may_step (find scope w) && (e.sound && is_number e.tree)) e.rest) ≡ Some g → Front (ReadsIncrement scope o) (Word w ∷ Punctuator s ∷ ts) g
    changed None f d = no_some d
    changed (Some op) f d =
        let a = bind_some (whole ts) (λ e. got (Change (target_of (find scope w)) op (number_in e.tree)) (may_step (find scope w) && (e.sound && is_number e.tree)) e.rest) g d in
        let all : (may_step (find scope w) && (a.0.sound && is_number a.0.tree)) ≡ true = ap (λ x. x.sound) (out a.2) ∙ h in
        let some : (a.0.sound && is_number a.0.tree) ≡ true = second_true (may_step (find scope w)) _ all in
        let r = k ts a.0 a.1 (first_true a.0.sound _ some) in
        subst (λ x. Front (ReadsIncrement scope o) (Word w ∷ Punctuator s ∷ ts) x) (out a.2)
        (record {
          front = Word w ∷ Punctuator s ∷ r.front;
          split = ap (λ xs. Word w ∷ Punctuator s ∷ xs) r.split;
          reads = change (scalar_is scope w (find scope w) refl (first_true (may_step (find scope w)) _ all)) (update_sign s op f) (as_number scope o 0 r.front a.0.tree (second_true a.0.sound _ some) r.reads);
        })

step_sound : (scope : Scope) (o : ℕ) (whole : Reader Source) → IsSound whole (AsAt scope o 0) → IsSound (step whole scope) (ReadsIncrement scope o)
unfolding step
step_sound scope o whole k (Punctuator PlusPlus ∷ Word w ∷ ts) g e h =
    let d = if_named_some scope w (got (Up (target_of (find scope w))) (may_step (find scope w)) ts) g e in
    subst (λ x. Front (ReadsIncrement scope o) (Punctuator PlusPlus ∷ Word w ∷ ts) x) (out d)
    (record { front = Punctuator PlusPlus ∷ Word w ∷ []; split = refl; reads = up_before (scalar_is scope w (find scope w) refl (ap (λ x. x.sound) (out d) ∙ h)) })
step_sound scope o whole k (Punctuator MinusMinus ∷ Word w ∷ ts) g e h =
    let d = if_named_some scope w (got (Down (target_of (find scope w))) (may_step (find scope w)) ts) g e in
    subst (λ x. Front (ReadsIncrement scope o) (Punctuator MinusMinus ∷ Word w ∷ ts) x) (out d)
    (record { front = Punctuator MinusMinus ∷ Word w ∷ []; split = refl; reads = down_before (scalar_is scope w (find scope w) refl (ap (λ x. x.sound) (out d) ∙ h)) })
step_sound scope o whole k (Word w ∷ Punctuator s ∷ ts) g e h = step_behind_sound scope o whole k w s ts g (if_named_some scope w (step_behind whole (find scope w) s ts) g e) h
step_sound scope o whole k _ g e h = no_some e

-- a statement of one line, by its target and what stands behind it
abbrev pub IsLineOf : Scope → ℕ → Name → List Token → Stmt → Type 0
IsLineOf scope o w ts s = ((next : ℕ) → ReadsStmt scope o next (Word w ∷ (ts ++ Punctuator Semicolon ∷ [])) s next) × (stmt_count s ≡ 1) × (is_closed s ≡ true)

regrouped : (us vs : List Token) (t v : Token) → (us ++ t ∷ vs) ++ v ∷ [] ≡ us ++ t ∷ (vs ++ v ∷ [])
regrouped us vs t v = append_assoc us (t ∷ vs) (v ∷ [])

at_tokens : (scope : Scope) (o next next' : ℕ) (ts us : List Token) (s : Stmt) → ts ≡ us → ReadsStmt scope o next ts s next' → ReadsStmt scope o next us s next'
at_tokens scope o next next' ts us s e r = subst (λ xs. ReadsStmt scope o next xs s next') e r

assigned_sound : (scope : Scope) (o : ℕ) (whole : Reader Source) → IsSound whole (AsAt scope o 0) → (w : Name) (ts0 : List Token) (is : Got Exprs) → Front (ReadsSubscripts scope o) ts0 is → (s : Symbol) (ts : List Token) → is.rest ≡ Punctuator s ∷ ts
    → (g : Got Stmt) → assigned whole (find scope w) is.tree true s ts ≡ Some g → g.sound ≡ true → Front (IsLineOf scope o w) ts0 g
assigned_sound scope o whole k w ts0 is f EqualSign ts rest g e h =
    let a = bind_some (whole ts) (λ e. got (Assign (target_of (find scope w)) is.tree e.tree) (true && (may_set (find scope w) is.tree && e.sound)) e.rest) g e in
    let all : (may_set (find scope w) is.tree && a.0.sound) ≡ true = ap (λ x. x.sound) (out a.2) ∙ h in
    let r = k ts a.0 a.1 (second_true (may_set (find scope w) is.tree) _ all) in
    subst (λ x. Front (IsLineOf scope o w) ts0 x) (out a.2)
    (record {
      front = f.front ++ Punctuator EqualSign ∷ r.front;
      split = f.split ∙ ap (λ xs. f.front ++ xs) (rest ∙ ap (λ xs. Punctuator EqualSign ∷ xs) r.split) ∙ sym (append_assoc f.front (Punctuator EqualSign ∷ r.front) a.0.rest);
      reads = (
        λ next. at_tokens scope o next next _ _ _ (ap (λ xs. Word w ∷ xs) (sym (regrouped f.front r.front (Punctuator EqualSign) (Punctuator Semicolon))))
            (assign (target (target_is scope w (find scope w) is.tree refl (first_true (may_set (find scope w) is.tree) _ all)) f.reads) (as_source scope o r.front a.0.tree r.reads)),
        refl,
        refl,
      );
    })
assigned_sound scope o whole k w ts0 is f s ts rest g e h = changed (update_of s) refl e
  where
    changed : (x : Option BinaryOp) → update_of s ≡ x
        → chosen x None (λ op. whole ts >>= λ e. got (Update (target_of (find scope w)) is.tree op (number_in e.tree)) (true && (may_set (find scope w) is.tree && (e.sound && is_number e.tree))) e.rest) ≡ Some g → Front (IsLineOf scope o w) ts0 g
    changed None u d = no_some d
    changed (Some op) u d =
        let a = bind_some (whole ts) (λ e. got (Update (target_of (find scope w)) is.tree op (number_in e.tree)) (true && (may_set (find scope w) is.tree && (e.sound && is_number e.tree))) e.rest) g d in
        let all : (may_set (find scope w) is.tree && (a.0.sound && is_number a.0.tree)) ≡ true = ap (λ x. x.sound) (out a.2) ∙ h in
        let some : (a.0.sound && is_number a.0.tree) ≡ true = second_true (may_set (find scope w) is.tree) _ all in
        let r = k ts a.0 a.1 (first_true a.0.sound _ some) in
        subst (λ x. Front (IsLineOf scope o w) ts0 x) (out a.2)
        (record {
          front = f.front ++ Punctuator s ∷ r.front;
          split = f.split ∙ ap (λ xs. f.front ++ xs) (rest ∙ ap (λ xs. Punctuator s ∷ xs) r.split) ∙ sym (append_assoc f.front (Punctuator s ∷ r.front) a.0.rest);
          reads = (
            λ next. at_tokens scope o next next _ _ _ (ap (λ xs. Word w ∷ xs) (sym (regrouped f.front r.front (Punctuator s) (Punctuator Semicolon))))
                (update (target (target_is scope w (find scope w) is.tree refl (first_true (may_set (find scope w) is.tree) _ all)) f.reads) (update_sign s op u) (as_number scope o 0 r.front a.0.tree (second_true a.0.sound _ some) r.reads)),
            refl,
            refl,
          );
        })

assigned_keeps : (whole : Reader Source) (e : Option Entity) (is : Exprs) (b : Bool) (s : Symbol) (ts : List Token) (g : Got Stmt) → assigned whole e is b s ts ≡ Some g → g.sound ≡ true → b ≡ true
assigned_keeps whole e is b EqualSign ts g d h =
    let a = bind_some (whole ts) (λ y. got (Assign (target_of e) is y.tree) (b && (may_set e is && y.sound)) y.rest) g d in
    first_true b _ (ap (λ x. x.sound) (out a.2) ∙ h)
assigned_keeps whole e is b s ts g d h = changed (update_of s) d
  where
    changed : (x : Option BinaryOp) → chosen x None (λ op. whole ts >>= λ y. got (Update (target_of e) is op (number_in y.tree)) (b && (may_set e is && (y.sound && is_number y.tree))) y.rest) ≡ Some g → b ≡ true
    changed None d = no_some d
    changed (Some op) d =
        let a = bind_some (whole ts) (λ y. got (Update (target_of e) is op (number_in y.tree)) (b && (may_set e is && (y.sound && is_number y.tree))) y.rest) g d in
        first_true b _ (ap (λ x. x.sound) (out a.2) ∙ h)

sign_is : (ts : List Token) (x : Symbol × List Token) → ahead.sign ts ≡ Some x → ts ≡ Punctuator x.0 ∷ x.1
sign_is (Punctuator s ∷ ts) x e = ap (λ y. Punctuator y.0 ∷ y.1) (out e)
sign_is [] x e = no_some e
sign_is (Word w ∷ ts) x e = no_some e
sign_is (IntegerConstant n s ∷ ts) x e = no_some e
sign_is (StringLiteral cs o ∷ ts) x e = no_some e
sign_is (Header n ∷ ts) x e = no_some e
sign_is (Line n ∷ ts) x e = no_some e

assignment_sound : (scope : Scope) (room o : ℕ) → room + o ≡ 64 → (w : Name) → IsSound (assignment room scope w) (IsLineOf scope o w)
unfolding assignment
assignment_sound scope room o k w ts g e h =
    let d = if_named_some scope w (subscripts (length ts) (inside room scope) ts >>= λ is. ahead.sign is.rest >>= λ s. assigned (expression room scope) (find scope w) is.tree is.sound s.0 s.1) g e in
    let a = bind_some (subscripts (length ts) (inside room scope) ts) (λ is. ahead.sign is.rest >>= λ s. assigned (expression room scope) (find scope w) is.tree is.sound s.0 s.1) g d in
    let b = bind_some (ahead.sign a.0.rest) (λ s. assigned (expression room scope) (find scope w) a.0.tree a.0.sound s.0 s.1) g a.2 in
    let well : a.0.sound ≡ true = assigned_keeps (expression room scope) (find scope w) a.0.tree a.0.sound b.0.0 b.0.1 g b.2 h in
    assigned_sound scope o (expression room scope) (expression_sound scope room o k) w ts a.0 (subs_sound scope o (inside room scope) (inside_sound scope room o k) (length ts) ts a.0 a.1 well)
    b.0.0 b.0.1 (sign_is a.0.rest b.0 b.1) g (subst (λ x. assigned (expression room scope) (find scope w) a.0.tree x b.0.0 b.0.1 ≡ Some g) well b.2) h

-- a format, as far as it goes
format_sound : (n : ℕ) (ts : List Token) (g : Got (List (Option (List ℕ)))) → format n ts ≡ Some g → Front ReadsFormat ts g
format_sound zero ts g e = no_some e
format_sound (suc n) (StringLiteral bs false ∷ ts) g e = subst (λ x. Front ReadsFormat (StringLiteral bs false ∷ ts) x) (out e) (record { front = StringLiteral bs false ∷ []; split = refl; reads = end })
format_sound (suc n) (StringLiteral bs true ∷ ts) g e =
    let a = bind_some (word (codes "PRIu64") ts) (λ behind. cond (printing.starts_quoted behind) (format n behind >>= λ more. got (Some bs ∷ None ∷ more.tree) true more.rest) (got (Some bs ∷ None ∷ []) true behind)) g e in
    go a.0 (word_is (codes "PRIu64") ts a.0 a.1) (printing.starts_quoted a.0) (format_sound n a.0) a.2
  where
    go : (behind : List Token) → ts ≡ Word (codes "PRIu64") ∷ behind → (b : Bool) → ((g : Got (List (Option (List ℕ)))) → format n behind ≡ Some g → Front ReadsFormat behind g)
        → cond b (format n behind >>= λ more. got (Some bs ∷ None ∷ more.tree) true more.rest) (got (Some bs ∷ None ∷ []) true behind) ≡ Some g → Front ReadsFormat (StringLiteral bs true ∷ ts) g
    go behind f true more d =
        let m = bind_some (format n behind) (λ more. got (Some bs ∷ None ∷ more.tree) true more.rest) g d in
        let r = more m.0 m.1 in
        subst (λ x. Front ReadsFormat (StringLiteral bs true ∷ ts) x) (out m.2)
        (record { front = StringLiteral bs true ∷ Word (codes "PRIu64") ∷ r.front; split = ap (λ xs. StringLiteral bs true ∷ xs) (f ∙ ap (λ xs. Word (codes "PRIu64") ∷ xs) r.split); reads = place r.reads })
    go behind f false more d =
        subst (λ x. Front ReadsFormat (StringLiteral bs true ∷ ts) x) (out d) (record { front = StringLiteral bs true ∷ Word (codes "PRIu64") ∷ []; split = ap (λ xs. StringLiteral bs true ∷ xs) f; reads = last })
format_sound (suc n) [] g e = no_some e
format_sound (suc n) (Word w ∷ ts) g e = no_some e
format_sound (suc n) (IntegerConstant m s ∷ ts) g e = no_some e
format_sound (suc n) (Punctuator s ∷ ts) g e = no_some e
format_sound (suc n) (Header m ∷ ts) g e = no_some e
format_sound (suc n) (Line m ∷ ts) g e = no_some e

-- arguments
arguments_none : (scope : Scope) (o : ℕ) (ts : List Token) (g : Got (List Expr)) → got [] true ts ≡ Some g → Front (ReadsArguments scope o) ts g
arguments_none scope o ts g e = subst (λ x. Front (ReadsArguments scope o) ts x) (out e) (record { front = []; split = refl; reads = no_arguments })

arguments_sound : (scope : Scope) (o : ℕ) (whole : Reader Source) → IsSound whole (AsAt scope o 0) → (n : ℕ) → IsSound (arguments n whole) (ReadsArguments scope o)
arguments_sound scope o whole k (suc n) (Punctuator Comma ∷ ts) g e h =
    let a = bind_some (whole ts) (λ e. arguments n whole e.rest >>= λ es. got (number_in e.tree ∷ es.tree) ((e.sound && is_number e.tree) && ((typed (number_in e.tree) && plain (number_in e.tree)) && es.sound)) es.rest) g e in
    let b = bind_some (arguments n whole a.0.rest) (λ es. got (number_in a.0.tree ∷ es.tree) ((a.0.sound && is_number a.0.tree) && ((typed (number_in a.0.tree) && plain (number_in a.0.tree)) && es.sound)) es.rest) g a.2 in
    let all : ((a.0.sound && is_number a.0.tree) && ((typed (number_in a.0.tree) && plain (number_in a.0.tree)) && b.0.sound)) ≡ true = ap (λ x. x.sound) (out b.2) ∙ h in
    let front : (a.0.sound && is_number a.0.tree) ≡ true = first_true (a.0.sound && is_number a.0.tree) _ all in
    let behind : ((typed (number_in a.0.tree) && plain (number_in a.0.tree)) && b.0.sound) ≡ true = second_true (a.0.sound && is_number a.0.tree) _ all in
    let sorts : (typed (number_in a.0.tree) && plain (number_in a.0.tree)) ≡ true = first_true (typed (number_in a.0.tree) && plain (number_in a.0.tree)) _ behind in
    let r = k ts a.0 a.1 (first_true a.0.sound _ front) in
    let q = arguments_sound scope o whole k n a.0.rest b.0 b.1 (second_true (typed (number_in a.0.tree) && plain (number_in a.0.tree)) _ behind) in
    subst (λ x. Front (ReadsArguments scope o) (Punctuator Comma ∷ ts) x) (out b.2)
    (record {
      front = Punctuator Comma ∷ (r.front ++ q.front);
      split = ap (λ xs. Punctuator Comma ∷ xs) (r.split ∙ ap (λ xs. r.front ++ xs) q.split ∙ sym (append_assoc r.front q.front b.0.rest));
      reads = argument (first_true (typed (number_in a.0.tree)) _ sorts) (second_true (typed (number_in a.0.tree)) _ sorts) (as_number scope o 0 r.front a.0.tree (second_true a.0.sound _ front) r.reads) q.reads;
    })
arguments_sound scope o whole k zero ts g e h = arguments_none scope o ts g e
arguments_sound scope o whole k (suc n) (Punctuator s ∷ ts) g e h = arguments_none scope o (Punctuator s ∷ ts) g e
arguments_sound scope o whole k (suc n) ts g e h = arguments_none scope o ts g e

fill : (ps : List (Option (List ℕ))) (es : List Expr) → fills ps es ≡ true → Fills ps es (filled ps es)
fill [] [] h = tt
fill [] (e ∷ es) h = absurd (cc)
fill (Some bs ∷ ps) es h = (refl, fill ps es h)
fill (None ∷ ps) [] h = absurd (cc)
fill (None ∷ ps) (e ∷ es) h = (refl, fill ps es h)

printed_sound : (scope : Scope) (room o : ℕ) → room + o ≡ 64 → (ts : List Token) (g : Got Stmt) → printing.printed room scope ts ≡ Some g → g.sound ≡ true → Front (IsLineOf scope o (codes "printf")) ts g
unfolding printing.printed
printed_sound scope zero o k ts g e h = no_some e
printed_sound scope (suc room) o k ts g e h =
    let whole : Reader Source = expression room scope in
    let a = bind_some (ahead.open_paren ts) (λ inner. format (length inner) inner >>= λ spots. arguments (length spots.rest) whole spots.rest >>= λ es. close_paren es.rest >>= λ behind. got (Print (filled spots.tree es.tree)) (es.sound && fills spots.tree es.tree) behind) g e in
    let b = bind_some (format (length a.0) a.0) (λ spots. arguments (length spots.rest) whole spots.rest >>= λ es. close_paren es.rest >>= λ behind. got (Print (filled spots.tree es.tree)) (es.sound && fills spots.tree es.tree) behind) g a.2 in
    let c = bind_some (arguments (length b.0.rest) whole b.0.rest) (λ es. close_paren es.rest >>= λ behind. got (Print (filled b.0.tree es.tree)) (es.sound && fills b.0.tree es.tree) behind) g b.2 in
    let d = bind_some (close_paren c.0.rest) (λ behind. got (Print (filled b.0.tree c.0.tree)) (c.0.sound && fills b.0.tree c.0.tree) behind) g c.2 in
    let all : (c.0.sound && fills b.0.tree c.0.tree) ≡ true = ap (λ x. x.sound) (out d.2) ∙ h in
    let f = format_sound (length a.0) a.0 b.0 b.1 in
    let r = arguments_sound scope (suc o) whole (expression_sound scope room (suc o) (omega arith)) (length b.0.rest) b.0.rest c.0 c.1 (first_true c.0.sound _ all) in
    let below : o < 64 = omega arith in
    subst (λ x. Front (IsLineOf scope o (codes "printf")) ts x) (out d.2)
    (record {
      front = Punctuator OpenParen ∷ (f.front ++ (r.front ++ Punctuator CloseParen ∷ []));
      split =
          open_paren_is ts a.0 a.1
          ∙ ap (λ xs. Punctuator OpenParen ∷ xs) (f.split ∙ ap (λ xs. f.front ++ xs) (r.split ∙ ap (λ xs. r.front ++ xs) (close_paren_is c.0.rest d.0 d.1) ∙ sym (append_assoc r.front (Punctuator CloseParen ∷ []) d.0))
          ∙ sym (append_assoc f.front (r.front ++ Punctuator CloseParen ∷ []) d.0));
      reads = (
        λ next. at_tokens scope o next next _ _ _
            (ap (λ xs. Word (codes "printf") ∷ Punctuator OpenParen ∷ xs) (sym (append_assoc f.front (r.front ++ Punctuator CloseParen ∷ []) (Punctuator Semicolon ∷ []) ∙ ap (λ xs. f.front ++ xs) (append_assoc r.front (Punctuator CloseParen ∷ []) (Punctuator Semicolon ∷ [])))))
            (print below f.reads r.reads (fill b.0.tree c.0.tree (second_true c.0.sound _ all))),
        refl,
        refl,
      );
    })

-- a statement at the front, with the tally behind it
pub record StmtFront (scope : Scope) (o : ℕ) (next left : ℕ) (ts : List Token) (t : Told Stmt) : Type 0 where
  pub front : List Token
  pub split : ts ≡ front ++ t.rest
  pub reads : ReadsStmt scope o next front t.tree t.tally.next
  pub count : left ≡ stmt_count t.tree + t.tally.left
  pub closed : (us : List Token) → word (codes "else") t.rest ≡ Some us → is_closed t.tree ≡ true

pub record ItemsFront (scope : Scope) (o : ℕ) (next left : ℕ) (ts : List Token) (t : Told Items) : Type 0 where
  pub front : List Token
  pub split : ts ≡ front ++ t.rest
  pub reads : ReadsItems scope o next front t.tree t.tally.next
  pub count : left ≡ statement_count t.tree + t.tally.left

-- whatever is read as a statement with nothing wrong in it is one
abbrev pub IsStmtSound : ℕ → StmtReader → Type 0
IsStmtSound o read = (scope : Scope) (tally : Tally) (ts : List Token) (t : Told Stmt) → read scope tally ts ≡ Some t → t.sound ≡ true → StmtFront scope o tally.next tally.left ts t

-- where one more was counted
abbrev pub IsHeadSound : ℕ → StmtReader → Type 0
IsHeadSound o read = (scope : Scope) (tally : Tally) (ts : List Token) (t : Told Stmt) → read scope tally ts ≡ Some t → t.sound ≡ true → StmtFront scope o tally.next (suc tally.left) ts t

ended_sound : (scope : Scope) (o : ℕ) (w : Name) (tally : Tally) (ts : List Token) (read : Option (Got Stmt)) → ((g : Got Stmt) → read ≡ Some g → g.sound ≡ true → Front (IsLineOf scope o w) ts g)
    → (t : Told Stmt) → (read >>= λ s. reader.ended tally s) ≡ Some t → t.sound ≡ true → StmtFront scope o tally.next (suc tally.left) (Word w ∷ ts) t
ended_sound scope o w tally ts read k t e h =
    let a = bind_some read (reader.ended tally) t e in
    let b = bind_some (ahead.semicolon a.0.rest) (λ behind. reader.told a.0.tree a.0.sound tally behind) t a.2 in
    let r = k a.0 a.1 (ap (λ x. x.sound) (out b.2) ∙ h) in
    subst (λ x. StmtFront scope o tally.next (suc tally.left) (Word w ∷ ts) x) (out b.2)
    (record {
      front = Word w ∷ (r.front ++ Punctuator Semicolon ∷ []);
      split = ap (λ xs. Word w ∷ xs) (r.split ∙ ap (λ xs. r.front ++ xs) (semicolon_is a.0.rest b.0 b.1) ∙ sym (append_assoc r.front (Punctuator Semicolon ∷ []) b.0));
      reads = r.reads.0 tally.next;
      count = let one : stmt_count a.0.tree ≡ 1 = r.reads.1 in omega arith;
      closed = λ us d. r.reads.2;
    })

-- a local's first value
initial_sound : (scope : Scope) (o : ℕ) (whole : Reader Source) → IsSound whole (AsAt scope o 0) → IsSound (reader.initial whole)
    (λ us start. (((start ≡ None) × (us ≡ Punctuator Semicolon ∷ [])) ⊎ ((e : Source) × (vs : List Token) × (start ≡ Some e) × (us ≡ Punctuator EqualSign ∷ (vs ++ Punctuator Semicolon ∷ [])) × ReadsSource scope o vs e)))
initial_sound scope o whole k (Punctuator Semicolon ∷ ts) g e h =
    subst (λ x. Front (λ us start. (((start ≡ None) × (us ≡ Punctuator Semicolon ∷ [])) ⊎ ((e : Source) × (vs : List Token) × (start ≡ Some e) × (us ≡ Punctuator EqualSign ∷ (vs ++ Punctuator Semicolon ∷ [])) × ReadsSource scope o vs e))) (Punctuator Semicolon ∷ ts) x) (out e)
    (record { front = Punctuator Semicolon ∷ []; split = refl; reads = inl (refl, refl) })
initial_sound scope o whole k (Punctuator EqualSign ∷ ts) g e h =
    let a = bind_some (whole ts) (λ e. ahead.semicolon e.rest >>= λ behind. got (Some e.tree) e.sound behind) g e in
    let b = bind_some (ahead.semicolon a.0.rest) (λ behind. got (Some a.0.tree) a.0.sound behind) g a.2 in
    let r = k ts a.0 a.1 (ap (λ x. x.sound) (out b.2) ∙ h) in
    subst (λ x. Front (λ us start. (((start ≡ None) × (us ≡ Punctuator Semicolon ∷ [])) ⊎ ((e : Source) × (vs : List Token) × (start ≡ Some e) × (us ≡ Punctuator EqualSign ∷ (vs ++ Punctuator Semicolon ∷ [])) × ReadsSource scope o vs e))) (Punctuator EqualSign ∷ ts) x) (out b.2)
    (record {
      front = Punctuator EqualSign ∷ (r.front ++ Punctuator Semicolon ∷ []);
      split = ap (λ xs. Punctuator EqualSign ∷ xs) (r.split ∙ ap (λ xs. r.front ++ xs) (semicolon_is a.0.rest b.0 b.1) ∙ sym (append_assoc r.front (Punctuator Semicolon ∷ []) b.0));
      reads = inr (a.0.tree, r.front, refl, refl, as_source scope o r.front a.0.tree r.reads);
    })
initial_sound scope o whole k (Punctuator s ∷ ts) g e h = no_some e
initial_sound scope o whole k _ g e h = no_some e

-- whatever is read as a block's items is so
abbrev pub IsItemsSound : ℕ → (Scope → Tally → List Token → Option (Told Items)) → Type 0
IsItemsSound o read = (scope : Scope) (tally : Tally) (ts : List Token) (t : Told Items) → read scope tally ts ≡ Some t → t.sound ≡ true → ItemsFront scope o tally.next tally.left ts t

no_item : (scope : Scope) (o : ℕ) (tally : Tally) (ts : List Token) (t : Told Items) → reader.told no_items true tally ts ≡ Some t → ItemsFront scope o tally.next tally.left ts t
no_item scope o tally ts t e = subst (λ x. ItemsFront scope o tally.next tally.left ts x) (out e) (record { front = []; split = refl; reads = no_more; count = omega arith })

item_sound : (o : ℕ) (read : StmtReader) (more : Scope → Tally → List Token → Option (Told Items)) → IsStmtSound o read → IsItemsSound o more → (scope : Scope) (tally : Tally) (ts : List Token) (t : Told Items)
    → (read scope tally ts >>= λ s. more scope s.tally s.rest >>= λ is. reader.with_stmt s is) ≡ Some t → t.sound ≡ true → ItemsFront scope o tally.next tally.left ts t
item_sound o read more k m scope tally ts t e h =
    let a = bind_some (read scope tally ts) (λ s. more scope s.tally s.rest >>= λ is. reader.with_stmt s is) t e in
    let b = bind_some (more scope a.0.tally a.0.rest) (reader.with_stmt a.0) t a.2 in
    let all : (a.0.sound && b.0.sound) ≡ true = ap (λ x. x.sound) (out b.2) ∙ h in
    let r = k scope tally ts a.0 a.1 (first_true a.0.sound _ all) in
    let q = m scope a.0.tally a.0.rest b.0 b.1 (second_true a.0.sound _ all) in
    subst (λ x. ItemsFront scope o tally.next tally.left ts x) (out b.2)
    (record {
      front = r.front ++ q.front;
      split = r.split ∙ ap (λ xs. r.front ++ xs) q.split ∙ sym (append_assoc r.front q.front b.0.rest);
      reads = statement r.reads q.reads;
      count = let one : tally.left ≡ stmt_count a.0.tree + a.0.tally.left = r.count in let two : a.0.tally.left ≡ statement_count b.0.tree + b.0.tally.left = q.count in omega arith;
    })

items_at_tokens : (scope : Scope) (o next next' : ℕ) (ts us : List Token) (s : Items) → ts ≡ us → ReadsItems scope o next ts s next' → ReadsItems scope o next us s next'
items_at_tokens scope o next next' ts us s e r = subst (λ xs. ReadsItems scope o next xs s next') e r

-- a local in front of others
local_reads : (scope : Scope) (o next next' : ℕ) (w : Name) (start : Option Source) (us vs : List Token) (is : Items) → IsFree scope w
    → (((start ≡ None) × (us ≡ Punctuator Semicolon ∷ [])) ⊎ ((e : Source) × (xs : List Token) × (start ≡ Some e) × (us ≡ Punctuator EqualSign ∷ (xs ++ Punctuator Semicolon ∷ [])) × ReadsSource ((w, AVariable next 0) ∷ scope) o xs e))
    → ReadsItems ((w, AVariable next 0) ∷ scope) o (suc next) vs is next' → ReadsItems scope o next (Word (codes "uint64_t") ∷ Word w ∷ (us ++ vs)) (local next w start is) next'
local_reads scope o next next' w start us vs is f (inl d) r =
    subst (λ x. ReadsItems scope o next (Word (codes "uint64_t") ∷ Word w ∷ (us ++ vs)) (local next w x is) next') (sym d.0)
    (items_at_tokens scope o next next' _ _ _ (ap (λ xs. Word (codes "uint64_t") ∷ Word w ∷ (xs ++ vs)) (sym d.1)) (empty_local f r))
local_reads scope o next next' w start us vs is f (inr d) r =
    subst (λ x. ReadsItems scope o next (Word (codes "uint64_t") ∷ Word w ∷ (us ++ vs)) (local next w x is) next') (sym d.2)
    (items_at_tokens scope o next next' _ _ _ (ap (λ xs. Word (codes "uint64_t") ∷ Word w ∷ Punctuator EqualSign ∷ xs) (sym (append_assoc d.1 (Punctuator Semicolon ∷ []) vs)) ∙ ap (λ xs. Word (codes "uint64_t") ∷ Word w ∷ (xs ++ vs)) (sym d.3)) (first_local f d.4 r))

local_sound : (room o : ℕ) → room + o ≡ 64 → (more : Scope → Tally → List Token → Option (Told Items)) → IsItemsSound o more → (scope : Scope) (tally : Tally) (ts : List Token) (t : Told Items)
    → (ahead.new_name ts >>= λ name. reader.initial (expression room (reader.with_local scope name.0 tally)) name.1 >>= λ start.
    more (reader.with_local scope name.0 tally) (reader.declared tally) start.rest >>= λ is.
    reader.told (local tally.next name.0 start.tree is.tree) (reader.is_unused scope name.0 && (start.sound && is.sound)) is.tally is.rest) ≡ Some t
    → t.sound ≡ true → ItemsFront scope o tally.next tally.left (Word (codes "uint64_t") ∷ ts) t
local_sound room o k more m scope tally ts t e h =
    let a = bind_some (ahead.new_name ts) (λ name. reader.initial (expression room (reader.with_local scope name.0 tally)) name.1 >>= λ start.
    more (reader.with_local scope name.0 tally) (reader.declared tally) start.rest >>= λ is.
    reader.told (local tally.next name.0 start.tree is.tree) (reader.is_unused scope name.0 && (start.sound && is.sound)) is.tally is.rest) t e in
    let w : Name = a.0.0 in
    let within : Scope = reader.with_local scope w tally in
    let b = bind_some (reader.initial (expression room within) a.0.1) (λ start. more within (reader.declared tally) start.rest >>= λ is.
    reader.told (local tally.next w start.tree is.tree) (reader.is_unused scope w && (start.sound && is.sound)) is.tally is.rest) t a.2 in
    let c = bind_some (more within (reader.declared tally) b.0.rest) (λ is. reader.told (local tally.next w b.0.tree is.tree) (reader.is_unused scope w && (b.0.sound && is.sound)) is.tally is.rest) t b.2 in
    let all : (reader.is_unused scope w && (b.0.sound && c.0.sound)) ≡ true = ap (λ x. x.sound) (out c.2) ∙ h in
    let some : (b.0.sound && c.0.sound) ≡ true = second_true (reader.is_unused scope w) _ all in
    let n = new_name_is ts a.0 a.1 in
    let r = initial_sound within o (expression room within) (expression_sound within room o k) a.0.1 b.0 b.1 (first_true b.0.sound _ some) in
    let q = m within (reader.declared tally) b.0.rest c.0 c.1 (second_true b.0.sound _ some) in
    subst (λ x. ItemsFront scope o tally.next tally.left (Word (codes "uint64_t") ∷ ts) x) (out c.2)
    (record {
      front = Word (codes "uint64_t") ∷ Word w ∷ (r.front ++ q.front);
      split = ap (λ xs. Word (codes "uint64_t") ∷ xs) (n.split ∙ ap (λ xs. Word w ∷ xs) (r.split ∙ ap (λ xs. r.front ++ xs) q.split ∙ sym (append_assoc r.front q.front c.0.rest)));
      reads = local_reads scope o tally.next c.0.tally.next w b.0.tree r.front q.front c.0.tree (free_name scope w n.free (first_true (reader.is_unused scope w) _ all)) r.reads q.reads;
      count = q.count;
    })

word_item : (room o : ℕ) → room + o ≡ 64 → (read : StmtReader) (n : ℕ) → IsStmtSound o read → IsItemsSound o (items n room read) → (scope : Scope) (tally : Tally) (w : Name) (ts : List Token) (t : Told Items)
    → items (suc n) room read scope tally (Word w ∷ ts) ≡ Some t → t.sound ≡ true → ItemsFront scope o tally.next tally.left (Word w ∷ ts) t
word_item room o k read n s m scope tally w ts t e h = go (same_name w (codes "uint64_t")) refl e
  where
    go : (b : Bool) → same_name w (codes "uint64_t") ≡ b
        → cond b (ahead.new_name ts >>= λ name. reader.initial (expression room (reader.with_local scope name.0 tally)) name.1 >>= λ start.
        items n room read (reader.with_local scope name.0 tally) (reader.declared tally) start.rest >>= λ more.
        reader.told (local tally.next name.0 start.tree more.tree) (reader.is_unused scope name.0 && (start.sound && more.sound)) more.tally more.rest)
        (read scope tally (Word w ∷ ts) >>= λ s. items n room read scope s.tally s.rest >>= λ more. reader.with_stmt s more) ≡ Some t
        → ItemsFront scope o tally.next tally.left (Word w ∷ ts) t
    go true f d = subst (λ v. ItemsFront scope o tally.next tally.left (Word v ∷ ts) t) (sym (same_is w (codes "uint64_t") f)) (local_sound room o k (items n room read) m scope tally ts t d h)
    go false f d = item_sound o read (items n room read) s m scope tally (Word w ∷ ts) t d h

line_item : (room o : ℕ) (read : StmtReader) (n : ℕ) → IsItemsSound o (items n room read) → (scope : Scope) (tally : Tally) (at : ℕ) (ts : List Token) (t : Told Items)
    → items (suc n) room read scope tally (Line at ∷ ts) ≡ Some t → t.sound ≡ true → ItemsFront scope o tally.next tally.left (Line at ∷ ts) t
line_item room o read n m scope tally at ts t e h =
    let a = bind_some (items n room read scope tally ts) (λ more. reader.told (mark at more.tree) more.sound more.tally more.rest) t e in
    let q = m scope tally ts a.0 a.1 (ap (λ x. x.sound) (out a.2) ∙ h) in
    subst (λ x. ItemsFront scope o tally.next tally.left (Line at ∷ ts) x) (out a.2)
    (record { front = Line at ∷ q.front; split = ap (λ xs. Line at ∷ xs) q.split; reads = line q.reads; count = q.count })

pub items_sound : (room o : ℕ) → room + o ≡ 64 → (read : StmtReader) → IsStmtSound o read → (n : ℕ) → IsItemsSound o (items n room read)
items_sound room o k read s zero scope tally ts t e h = no_item scope o tally ts t e
items_sound room o k read s (suc n) scope tally (Line at ∷ ts) t e h = line_item room o read n (items_sound room o k read s n) scope tally at ts t e h
items_sound room o k read s (suc n) scope tally (Punctuator OpenBrace ∷ ts) t e h = item_sound o read (items n room read) s (items_sound room o k read s n) scope tally (Punctuator OpenBrace ∷ ts) t e h
items_sound room o k read s (suc n) scope tally (Word w ∷ ts) t e h = word_item room o k read n s (items_sound room o k read s n) scope tally w ts t e h
items_sound room o k read s (suc n) scope tally (Punctuator x ∷ ts) t e h = no_item scope o tally (Punctuator x ∷ ts) t e
items_sound room o k read s (suc n) scope tally ts t e h = no_item scope o tally ts t e

block_sound : (room o : ℕ) → room + o ≡ 64 → (once : StmtReader) → ((inner : ℕ) → room ≡ suc inner → IsStmtSound (suc o) once) → (scope : Scope) (tally : Tally) (ts : List Token) (t : Told Stmt)
    → reader.block room once scope tally ts ≡ Some t → t.sound ≡ true → StmtFront scope o tally.next (suc tally.left) (Punctuator OpenBrace ∷ ts) t
unfolding reader.block
block_sound zero o k once s scope tally ts t e h = no_some e
block_sound (suc room) o k once s scope tally ts t e h =
    let a = bind_some (items (length ts) room once scope tally ts) (λ is. ahead.close_brace is.rest >>= λ behind. reader.told (Block is.tree) is.sound is.tally behind) t e in
    let b = bind_some (ahead.close_brace a.0.rest) (λ behind. reader.told (Block a.0.tree) a.0.sound a.0.tally behind) t a.2 in
    let q = items_sound room (suc o) (omega arith) once (s room refl) (length ts) scope tally ts a.0 a.1 (ap (λ x. x.sound) (out b.2) ∙ h) in
    let below : o < 64 = omega arith in
    subst (λ x. StmtFront scope o tally.next (suc tally.left) (Punctuator OpenBrace ∷ ts) x) (out b.2)
    (record {
      front = Punctuator OpenBrace ∷ (q.front ++ Punctuator CloseBrace ∷ []);
      split = ap (λ xs. Punctuator OpenBrace ∷ xs) (q.split ∙ ap (λ xs. q.front ++ xs) (close_brace_is a.0.rest b.0 b.1) ∙ sym (append_assoc q.front (Punctuator CloseBrace ∷ []) b.0));
      reads = block below q.reads;
      count = let one : tally.left ≡ statement_count a.0.tree + a.0.tally.left = q.count in omega arith;
      closed = λ us d. refl;
    })

-- what stands behind a condition
if_sound : (o : ℕ) (once twice : StmtReader) → suc o < 64 → IsStmtSound (suc o) once → IsStmtSound (suc (suc o)) twice → (scope : Scope) (tally : Tally) (ts behind : List Token) (c : Got Source) (t : Told Stmt)
    → Front (AsAt scope (suc (suc o)) 0) ts c → c.rest ≡ Punctuator CloseParen ∷ behind → (a : Told Stmt) → once scope tally behind ≡ Some a → (x : Option (List Token)) → word (codes "else") a.rest ≡ x
    → chosen x (reader.told (If (cond_in c.tree) a.tree) (c.sound && a.sound) a.tally a.rest)
    (λ other. twice scope a.tally other >>= λ b. reader.told (IfElse (cond_in c.tree) a.tree b.tree) (c.sound && (a.sound && b.sound)) b.tally b.rest) ≡ Some t
    → t.sound ≡ true → StmtFront scope o tally.next (suc tally.left) (Word (codes "if") ∷ Punctuator OpenParen ∷ ts) t
if_sound o once twice below s s' scope tally ts behind c t f rest a d None w e h =
    let all : (c.sound && a.sound) ≡ true = ap (λ x. x.sound) (out e) ∙ h in
    let r = s scope tally behind a d (second_true c.sound _ all) in
    subst (λ x. StmtFront scope o tally.next (suc tally.left) (Word (codes "if") ∷ Punctuator OpenParen ∷ ts) x) (out e)
    (record {
      front = Word (codes "if") ∷ Punctuator OpenParen ∷ (f.front ++ Punctuator CloseParen ∷ r.front);
      split = ap (λ xs. Word (codes "if") ∷ Punctuator OpenParen ∷ xs) (f.split ∙ ap (λ xs. f.front ++ xs) (rest ∙ ap (λ xs. Punctuator CloseParen ∷ xs) r.split) ∙ sym (append_assoc f.front (Punctuator CloseParen ∷ r.front) a.rest));
      reads = if_only below (as_cond scope (suc (suc o)) 0 f.front c.tree f.reads) r.reads;
      count = let one : tally.left ≡ stmt_count a.tree + a.tally.left = r.count in omega arith;
      closed = λ us y. no_some (sym w ∙ y);
    })
if_sound o once twice below s s' scope tally ts behind c t f rest a d (Some other) w e h =
    let z = bind_some (twice scope a.tally other) (λ b. reader.told (IfElse (cond_in c.tree) a.tree b.tree) (c.sound && (a.sound && b.sound)) b.tally b.rest) t e in
    let b : Told Stmt = z.0 in
    let all : (c.sound && (a.sound && b.sound)) ≡ true = ap (λ x. x.sound) (out z.2) ∙ h in
    let some : (a.sound && b.sound) ≡ true = second_true c.sound _ all in
    let r = s scope tally behind a d (first_true a.sound _ some) in
    let q = s' scope a.tally other b z.1 (second_true a.sound _ some) in
    subst (λ x. StmtFront scope o tally.next (suc tally.left) (Word (codes "if") ∷ Punctuator OpenParen ∷ ts) x) (out z.2)
    (record {
      front = Word (codes "if") ∷ Punctuator OpenParen ∷ (f.front ++ Punctuator CloseParen ∷ (r.front ++ Word (codes "else") ∷ q.front));
      split =
          ap (λ xs. Word (codes "if") ∷ Punctuator OpenParen ∷ xs)
          (f.split ∙ ap (λ xs. f.front ++ xs) (rest ∙ ap (λ xs. Punctuator CloseParen ∷ xs) (r.split ∙ ap (λ xs. r.front ++ xs) (word_is (codes "else") a.rest other w ∙ ap (λ xs. Word (codes "else") ∷ xs) q.split) ∙ sym (append_assoc r.front (Word (codes "else") ∷ q.front) b.rest)))
          ∙ sym (append_assoc f.front (Punctuator CloseParen ∷ (r.front ++ Word (codes "else") ∷ q.front)) b.rest));
      reads = if_else below (as_cond scope (suc (suc o)) 0 f.front c.tree f.reads) (r.closed other w) r.reads q.reads;
      count = let one : tally.left ≡ stmt_count a.tree + a.tally.left = r.count in let two : a.tally.left ≡ stmt_count b.tree + b.tally.left = q.count in omega arith;
      closed = q.closed;
    })

-- a condition that was wrong makes the whole wrong
if_keeps : (scope : Scope) (twice : StmtReader) (c : Got Source) (a t : Told Stmt) (x : Option (List Token))
    → chosen x (reader.told (If (cond_in c.tree) a.tree) (c.sound && a.sound) a.tally a.rest)
    (λ other. twice scope a.tally other >>= λ b. reader.told (IfElse (cond_in c.tree) a.tree b.tree) (c.sound && (a.sound && b.sound)) b.tally b.rest) ≡ Some t → t.sound ≡ true → c.sound ≡ true
if_keeps scope twice c a t None e h = first_true c.sound _ (ap (λ x. x.sound) (out e) ∙ h)
if_keeps scope twice c a t (Some other) e h =
    let z = bind_some (twice scope a.tally other) (λ b. reader.told (IfElse (cond_in c.tree) a.tree b.tree) (c.sound && (a.sound && b.sound)) b.tally b.rest) t e in
    first_true c.sound _ (ap (λ x. x.sound) (out z.2) ∙ h)

selection_sound : (room o : ℕ) → room + o ≡ 64 → (once twice : StmtReader) → ((inner : ℕ) → room ≡ suc inner → IsStmtSound (suc o) once) → ((inner : ℕ) → room ≡ suc (suc inner) → IsStmtSound (suc (suc o)) twice)
    → (scope : Scope) (tally : Tally) (ts : List Token) (t : Told Stmt) → reader.selection room once twice scope tally ts ≡ Some t → t.sound ≡ true → StmtFront scope o tally.next (suc tally.left) (Word (codes "if") ∷ ts) t
unfolding reader.selection
selection_sound zero o k once twice s s' scope tally ts t e h = no_some e
selection_sound (suc zero) o k once twice s s' scope tally ts t e h = no_some e
selection_sound (suc (suc room)) o k once twice s s' scope tally ts t e h =
    let finish : Got Source → Told Stmt → Option (Told Stmt) = (λ c a. chosen (word (codes "else") a.rest) (reader.told (If (cond_in c.tree) a.tree) (c.sound && a.sound) a.tally a.rest)
    (λ other. twice scope a.tally other >>= λ b. reader.told (IfElse (cond_in c.tree) a.tree b.tree) (c.sound && (a.sound && b.sound)) b.tally b.rest)) in
    let a = bind_some (ahead.open_paren ts) (λ inner. expression room scope inner >>= λ c. close_paren c.rest >>= λ behind. once scope tally behind >>= λ a. finish c a) t e in
    let c = bind_some (expression room scope a.0) (λ c. close_paren c.rest >>= λ behind. once scope tally behind >>= λ a. finish c a) t a.2 in
    let d = bind_some (close_paren c.0.rest) (λ behind. once scope tally behind >>= λ a. finish c.0 a) t c.2 in
    let b = bind_some (once scope tally d.0) (λ a. finish c.0 a) t d.2 in
    let f = expression_sound scope room (suc (suc o)) (omega arith) a.0 c.0 c.1 (if_keeps scope twice c.0 b.0 t (word (codes "else") b.0.rest) b.2 h) in
    let below : suc o < 64 = omega arith in
    subst (λ xs. StmtFront scope o tally.next (suc tally.left) (Word (codes "if") ∷ xs) t) (sym (open_paren_is ts a.0 a.1))
    (if_sound o once twice below (s (suc room) refl) (s' room refl) scope tally a.0 d.0 c.0 t f (close_paren_is c.0.rest d.0 d.1) b.0 b.1 (word (codes "else") b.0.rest) refl b.2 h)

-- a loop's heading, as the grammar has it
pub record HeadingFront (scope : Scope) (o next : ℕ) (ts : List Token) (h : reader.Heading) : Type 0 where
  pub starts : List Token
  pub tests : List Token
  pub turns : List Token
  pub split : ts ≡ Punctuator OpenParen ∷ Word (codes "uint64_t") ∷ Word h.name ∷ Punctuator EqualSign ∷ (starts ++ Punctuator Semicolon ∷ (tests ++ Punctuator Semicolon ∷ (turns ++ Punctuator CloseParen ∷ h.rest)))
  pub free : IsFree scope h.name
  pub start : ReadsSource ((h.name, AVariable next 0) ∷ scope) o starts h.start
  pub test : ReadsCond ((h.name, AVariable next 0) ∷ scope) o 0 tests (cond_in h.test)
  pub turn : ReadsIncrement ((h.name, AVariable next 0) ∷ scope) o turns h.step

-- the rest of a heading behind its test's semicolon, behind its start's, and behind its `=`
abbrev whole_heading : Scope → Name → Got Source → Got Source → Got Increment → List Token → Option reader.Heading
whole_heading scope w start test turn body =
    Some (record { name = w; start = start.tree; test = test.tree; step = turn.tree; sound = is_none (find scope w) && (start.sound && (test.sound && turn.sound)); rest = body })

abbrev within : Scope → Tally → Name → Scope
within scope tally w = (w, AVariable tally.next 0) ∷ scope

abbrev turned : ℕ → Scope → Tally → Name → Got Source → Got Source → List Token → Option reader.Heading
turned room scope tally w start test second =
    step (expression room (within scope tally w)) (within scope tally w) second >>= λ turn. close_paren turn.rest >>= λ body. whole_heading scope w start test turn body

abbrev tested : ℕ → Scope → Tally → Name → Got Source → List Token → Option reader.Heading
tested room scope tally w start first = expression room (within scope tally w) first >>= λ test. ahead.semicolon test.rest >>= λ second. turned room scope tally w start test second

abbrev started : ℕ → Scope → Tally → Name → List Token → Option reader.Heading
started room scope tally w behind = expression room (within scope tally w) behind >>= λ start. ahead.semicolon start.rest >>= λ first. tested room scope tally w start first

record Turned (room : ℕ) (scope : Scope) (tally : Tally) (w : Name) (start test : Got Source) (second : List Token) (g : reader.Heading) : Type 0 where
  turn : Got Increment
  body : List Token
  read : step (expression room (within scope tally w)) (within scope tally w) second ≡ Some turn
  closes : turn.rest ≡ Punctuator CloseParen ∷ body
  is : whole_heading scope w start test turn body ≡ Some g

turned_is : (room : ℕ) (scope : Scope) (tally : Tally) (w : Name) (start test : Got Source) (second : List Token) (g : reader.Heading) → turned room scope tally w start test second ≡ Some g → Turned room scope tally w start test second g
turned_is room scope tally w start test second g e =
    let a = bind_some (step (expression room (within scope tally w)) (within scope tally w) second) (λ turn. close_paren turn.rest >>= λ body. whole_heading scope w start test turn body) g e in
    let b = bind_some (close_paren a.0.rest) (λ body. whole_heading scope w start test a.0 body) g a.2 in
    record { turn = a.0; body = b.0; read = a.1; closes = close_paren_is a.0.rest b.0 b.1; is = b.2 }

record Tested (room : ℕ) (scope : Scope) (tally : Tally) (w : Name) (start : Got Source) (first : List Token) (g : reader.Heading) : Type 0 where
  test : Got Source
  second : List Token
  read : expression room (within scope tally w) first ≡ Some test
  ends : test.rest ≡ Punctuator Semicolon ∷ second
  more : Turned room scope tally w start test second g

tested_is : (room : ℕ) (scope : Scope) (tally : Tally) (w : Name) (start : Got Source) (first : List Token) (g : reader.Heading) → tested room scope tally w start first ≡ Some g → Tested room scope tally w start first g
tested_is room scope tally w start first g e =
    let a = bind_some (expression room (within scope tally w) first) (λ test. ahead.semicolon test.rest >>= λ second. turned room scope tally w start test second) g e in
    let b = bind_some (ahead.semicolon a.0.rest) (λ second. turned room scope tally w start a.0 second) g a.2 in
    record { test = a.0; second = b.0; read = a.1; ends = semicolon_is a.0.rest b.0 b.1; more = turned_is room scope tally w start a.0 b.0 g b.2 }

record Started (room : ℕ) (scope : Scope) (tally : Tally) (w : Name) (behind : List Token) (g : reader.Heading) : Type 0 where
  start : Got Source
  first : List Token
  read : expression room (within scope tally w) behind ≡ Some start
  ends : start.rest ≡ Punctuator Semicolon ∷ first
  more : Tested room scope tally w start first g

started_is : (room : ℕ) (scope : Scope) (tally : Tally) (w : Name) (behind : List Token) (g : reader.Heading) → started room scope tally w behind ≡ Some g → Started room scope tally w behind g
started_is room scope tally w behind g e =
    let a = bind_some (expression room (within scope tally w) behind) (λ start. ahead.semicolon start.rest >>= λ first. tested room scope tally w start first) g e in
    let b = bind_some (ahead.semicolon a.0.rest) (λ first. tested room scope tally w a.0 first) g a.2 in
    record { start = a.0; first = b.0; read = a.1; ends = semicolon_is a.0.rest b.0 b.1; more = tested_is room scope tally w a.0 b.0 g b.2 }

record Headed (room : ℕ) (scope : Scope) (tally : Tally) (ts : List Token) (g : reader.Heading) : Type 0 where
  name : Name
  behind : List Token
  free : is_reserved name ≡ false
  split : ts ≡ Punctuator OpenParen ∷ Word (codes "uint64_t") ∷ Word name ∷ Punctuator EqualSign ∷ behind
  more : Started room scope tally name behind g

headed_is : (room : ℕ) (scope : Scope) (tally : Tally) (ts : List Token) (g : reader.Heading) → reader.heading room scope tally ts ≡ Some g → Headed room scope tally ts g
unfolding reader.heading
headed_is room scope tally ts g e =
    let a = bind_some (ahead.open_paren ts) (λ inner. word (codes "uint64_t") inner >>= λ typed'. ahead.new_name typed' >>= λ name. ahead.equal_sign name.1 >>= λ behind. started room scope tally name.0 behind) g e in
    let b = bind_some (word (codes "uint64_t") a.0) (λ typed'. ahead.new_name typed' >>= λ name. ahead.equal_sign name.1 >>= λ behind. started room scope tally name.0 behind) g a.2 in
    let c = bind_some (ahead.new_name b.0) (λ name. ahead.equal_sign name.1 >>= λ behind. started room scope tally name.0 behind) g b.2 in
    let d = bind_some (ahead.equal_sign c.0.1) (λ behind. started room scope tally c.0.0 behind) g c.2 in
    record {
      name = c.0.0;
      behind = d.0;
      free = (new_name_is b.0 c.0 c.1).free;
      split =
          open_paren_is ts a.0 a.1 ∙ ap (λ xs. Punctuator OpenParen ∷ xs) (word_is (codes "uint64_t") a.0 b.0 b.1
          ∙ ap (λ xs. Word (codes "uint64_t") ∷ xs) ((new_name_is b.0 c.0 c.1).split ∙ ap (λ xs. Word c.0.0 ∷ xs) (becomes_is c.0.1 d.0 d.1)));
      more = started_is room scope tally c.0.0 d.0 g d.2;
    }

heading_at : (scope : Scope) (room o : ℕ) → room + o ≡ 64 → (tally : Tally) (ts : List Token) (w : Name) (behind : List Token) (start test : Got Source) (first second body : List Token) (turn : Got Increment)
    → is_reserved w ≡ false → ts ≡ Punctuator OpenParen ∷ Word (codes "uint64_t") ∷ Word w ∷ Punctuator EqualSign ∷ behind
    → expression room (within scope tally w) behind ≡ Some start → start.rest ≡ Punctuator Semicolon ∷ first → expression room (within scope tally w) first ≡ Some test → test.rest ≡ Punctuator Semicolon ∷ second
    → step (expression room (within scope tally w)) (within scope tally w) second ≡ Some turn → turn.rest ≡ Punctuator CloseParen ∷ body
    → (is_none (find scope w) && (start.sound && (test.sound && turn.sound))) ≡ true
    → HeadingFront scope o tally.next ts (record { name = w; start = start.tree; test = test.tree; step = turn.tree; sound = is_none (find scope w) && (start.sound && (test.sound && turn.sound)); rest = body })
heading_at scope room o k tally ts w behind start test first second body turn free split a b c d e f all =
    let some : (start.sound && (test.sound && turn.sound)) ≡ true = second_true (is_none (find scope w)) _ all in
    let few : (test.sound && turn.sound) ≡ true = second_true start.sound _ some in
    let p = expression_sound (within scope tally w) room o k behind start a (first_true start.sound _ some) in
    let q = expression_sound (within scope tally w) room o k first test c (first_true test.sound _ few) in
    let r = step_sound (within scope tally w) o (expression room (within scope tally w)) (expression_sound (within scope tally w) room o k) second turn e (second_true test.sound _ few) in
    record {
      starts = p.front;
      tests = q.front;
      turns = r.front;
      split =
          split ∙ ap (λ xs. Punctuator OpenParen ∷ Word (codes "uint64_t") ∷ Word w ∷ Punctuator EqualSign ∷ xs)
          (p.split ∙ ap (λ xs. p.front ++ xs) (b ∙ ap (λ xs. Punctuator Semicolon ∷ xs) (q.split ∙ ap (λ xs. q.front ++ xs) (d ∙ ap (λ xs. Punctuator Semicolon ∷ xs) (r.split ∙ ap (λ xs. r.front ++ xs) f)))));
      free = free_name scope w free (first_true (is_none (find scope w)) _ all);
      start = as_source (within scope tally w) o p.front start.tree p.reads;
      test = as_cond (within scope tally w) o 0 q.front test.tree q.reads;
      turn = r.reads;
    }

heading_sound : (scope : Scope) (room o : ℕ) → room + o ≡ 64 → (tally : Tally) (ts : List Token) (g : reader.Heading) → reader.heading room scope tally ts ≡ Some g → g.sound ≡ true → HeadingFront scope o tally.next ts g
heading_sound scope room o k tally ts g e h = from (headed_is room scope tally ts g e)
  where
    from : Headed room scope tally ts g → HeadingFront scope o tally.next ts g
    from x =
        let s : Started room scope tally x.name x.behind g = x.more in
        let t : Tested room scope tally x.name s.start s.first g = s.more in
        let u : Turned room scope tally x.name s.start t.test t.second g = t.more in
        subst (λ y. HeadingFront scope o tally.next ts y) (out u.is)
        (heading_at scope room o k tally ts x.name x.behind s.start t.test s.first t.second u.body u.turn x.free x.split s.read s.ends t.read t.ends u.read u.closes (ap (λ y. y.sound) (out u.is) ∙ h))

iteration_sound : (room o : ℕ) → room + o ≡ 64 → (once : StmtReader) → ((inner : ℕ) → room ≡ suc inner → IsStmtSound (suc o) once)
    → (scope : Scope) (tally : Tally) (ts : List Token) (t : Told Stmt) → reader.iteration room once scope tally ts ≡ Some t → t.sound ≡ true → StmtFront scope o tally.next (suc tally.left) (Word (codes "for") ∷ ts) t
unfolding reader.iteration
iteration_sound zero o k once s scope tally ts t e h = no_some e
iteration_sound (suc zero) o k once s scope tally ts t e h = no_some e
iteration_sound (suc (suc room)) o k once s scope tally ts t e h =
    let a = bind_some (reader.heading room scope tally ts) (λ h. once (reader.with_local scope h.name tally) (reader.declared tally) h.rest >>= λ s. reader.told (For tally.next h.name h.start (cond_in h.test) h.step s.tree) (h.sound && s.sound) s.tally s.rest) t e in
    let head : reader.Heading = a.0 in
    let b = bind_some (once (reader.with_local scope head.name tally) (reader.declared tally) head.rest) (λ s. reader.told (For tally.next head.name head.start (cond_in head.test) head.step s.tree) (head.sound && s.sound) s.tally s.rest) t a.2 in
    let all : (head.sound && b.0.sound) ≡ true = ap (λ x. x.sound) (out b.2) ∙ h in
    let f = heading_sound scope room (suc (suc o)) (omega arith) tally ts head a.1 (first_true head.sound _ all) in
    let r = s (suc room) refl (reader.with_local scope head.name tally) (reader.declared tally) head.rest b.0 b.1 (second_true head.sound _ all) in
    let below : suc o < 64 = omega arith in
    subst (λ x. StmtFront scope o tally.next (suc tally.left) (Word (codes "for") ∷ ts) x) (out b.2)
    (record {
      front = Word (codes "for") ∷ Punctuator OpenParen ∷ Word (codes "uint64_t") ∷ Word head.name ∷ Punctuator EqualSign ∷ (f.starts ++ Punctuator Semicolon ∷ (f.tests ++ Punctuator Semicolon ∷ (f.turns ++ Punctuator CloseParen ∷ r.front)));
      split =
          ap (λ xs. Word (codes "for") ∷ xs) (f.split ∙ ap (λ xs. Punctuator OpenParen ∷ Word (codes "uint64_t") ∷ Word head.name ∷ Punctuator EqualSign ∷ (f.starts ++ Punctuator Semicolon ∷ (f.tests ++ Punctuator Semicolon ∷ (f.turns ++ Punctuator CloseParen ∷ xs)))) r.split)
          ∙ sym (ap (λ xs. Word (codes "for") ∷ Punctuator OpenParen ∷ Word (codes "uint64_t") ∷ Word head.name ∷ Punctuator EqualSign ∷ xs)
          (append_assoc f.starts (Punctuator Semicolon ∷ (f.tests ++ Punctuator Semicolon ∷ (f.turns ++ Punctuator CloseParen ∷ r.front))) b.0.rest
          ∙ ap (λ xs. f.starts ++ Punctuator Semicolon ∷ xs) (append_assoc f.tests (Punctuator Semicolon ∷ (f.turns ++ Punctuator CloseParen ∷ r.front)) b.0.rest
          ∙ ap (λ xs. f.tests ++ Punctuator Semicolon ∷ xs) (append_assoc f.turns (Punctuator CloseParen ∷ r.front) b.0.rest))));
      reads = for_loop below f.free f.start f.test f.turn r.reads;
      count = let one : tally.left ≡ stmt_count b.0.tree + b.0.tally.left = r.count in omega arith;
      closed = r.closed;
    })

head_sound : (room o : ℕ) → room + o ≡ 64 → (once twice : StmtReader) → ((inner : ℕ) → room ≡ suc inner → IsStmtSound (suc o) once) → ((inner : ℕ) → room ≡ suc (suc inner) → IsStmtSound (suc (suc o)) twice) → IsHeadSound o (by_head room once twice)
head_sound room o k once twice s s' scope tally (Punctuator OpenBrace ∷ ts) t e h = block_sound room o k once s scope tally ts t e h
head_sound room o k once twice s s' scope tally (Word w ∷ ts) t e h = go (same_name w (codes "if")) refl e
  where
    fourth : (b : Bool) → same_name w (codes "printf") ≡ b → cond b (printing.printed room scope ts >>= λ s. reader.ended tally s) (assignment room scope w ts >>= λ s. reader.ended tally s) ≡ Some t → StmtFront scope o tally.next (suc tally.left) (Word w ∷ ts) t
    fourth true f d =
        subst (λ v. StmtFront scope o tally.next (suc tally.left) (Word v ∷ ts) t) (sym (same_is w (codes "printf") f))
        (ended_sound scope o (codes "printf") tally ts (printing.printed room scope ts) (printed_sound scope room o k ts) t d h)
    fourth false f d = ended_sound scope o w tally ts (assignment room scope w ts) (assignment_sound scope room o k w ts) t d h

    third : (b : Bool) → same_name w (codes "for") ≡ b
        → cond b (reader.iteration room once scope tally ts) (cond (same_name w (codes "printf")) (printing.printed room scope ts >>= λ s. reader.ended tally s) (assignment room scope w ts >>= λ s. reader.ended tally s)) ≡ Some t
        → StmtFront scope o tally.next (suc tally.left) (Word w ∷ ts) t
    third true f d = subst (λ v. StmtFront scope o tally.next (suc tally.left) (Word v ∷ ts) t) (sym (same_is w (codes "for") f)) (iteration_sound room o k once s scope tally ts t d h)
    third false f d = fourth (same_name w (codes "printf")) refl d

    go : (b : Bool) → same_name w (codes "if") ≡ b
        → cond b (reader.selection room once twice scope tally ts) (cond (same_name w (codes "for")) (reader.iteration room once scope tally ts) (cond (same_name w (codes "printf")) (printing.printed room scope ts >>= λ s. reader.ended tally s) (assignment room scope w ts >>= λ s. reader.ended tally s))) ≡ Some t
        → StmtFront scope o tally.next (suc tally.left) (Word w ∷ ts) t
    go true f d = subst (λ v. StmtFront scope o tally.next (suc tally.left) (Word v ∷ ts) t) (sym (same_is w (codes "if") f)) (selection_sound room o k once twice s s' scope tally ts t d h)
    go false f d = third (same_name w (codes "for")) refl d
head_sound room o k once twice s s' scope tally (Punctuator x ∷ ts) t e h = no_some e
head_sound room o k once twice s s' scope tally _ t e h = no_some e

counted_sound : (room o : ℕ) (once twice : StmtReader) → IsHeadSound o (by_head room once twice) → IsStmtSound o (reader.counted room once twice)
counted_sound room o once twice k scope tally ts t e h =
    let a = bind_some (reader.spend tally) (λ x. by_head room once twice scope x ts) t e in
    let is = spent_is tally.next tally.left a.0 a.1 in
    let r = k scope a.0 ts t a.2 h in
    let front : List Token = r.front in
    record {
      front = r.front;
      split = r.split;
      reads = subst (λ n. ReadsStmt scope o n front t.tree t.tally.next) (sym is.0) r.reads;
      count = is.1 ∙ r.count;
      closed = r.closed;
    }
  where
    spent_is : (next left : ℕ) (x : Tally) → reader.spent next left ≡ Some x → (next ≡ x.next) × (left ≡ suc x.left)
    spent_is next zero x e = no_some e
    spent_is next (suc n) x e = (ap (λ y. y.next) (out e), ap (λ y. suc y.left) (out e))

pub statement_sound : (room o : ℕ) → room + o ≡ 64 → IsStmtSound o (reader.statement room)
statement_sound zero o k = counted_sound zero o reader.no_stmt reader.no_stmt (head_sound zero o k reader.no_stmt reader.no_stmt (λ inner e. absurd (omega arith)) (λ inner e. absurd (omega arith)))
statement_sound (suc zero) o k =
    counted_sound (suc zero) o (reader.statement zero) reader.no_stmt
    (head_sound (suc zero) o k (reader.statement zero) reader.no_stmt (λ inner e. statement_sound zero (suc o) (omega arith)) (λ inner e. absurd (omega arith)))
statement_sound (suc (suc room)) o k =
    counted_sound (suc (suc room)) o (reader.statement (suc room)) (reader.statement room)
    (head_sound (suc (suc room)) o k (reader.statement (suc room)) (reader.statement room) (λ inner e. statement_sound (suc room) (suc o) (omega arith)) (λ inner e. statement_sound room (suc (suc o)) (omega arith)))
