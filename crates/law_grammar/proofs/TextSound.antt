-- Whatever is read as a text, with nothing wrong in it, the grammar has.
use Rattle.std.specs.Prelude.{ℕ, zero, suc, Bool, true, false, ◌&&◌, ◌≡◌, ◌≤◌, ◌+◌, ◌^◌, nat_le, List, [], ◌∷◌, ◌++◌, length, Option, Some, None, is_none, codes}
use Rattle.std.proofs.Common.{cond, refl, sym, ap, ◌∙◌, subst, arith}
use Rattle.std.proofs.lemmas.Bool.{leb-true}
use Rattle.std.proofs.lemmas.List.{append_assoc}
use Rattle.semantics.specs.Tree.{Name, Expr, Source, Items, Declaration, Kernel}
use Rattle.semantics.specs.Source.Token.{Token, Word, IntegerConstant, StringLiteral, Punctuator, Header, Line, Semicolon, Comma, OpenParen, CloseParen, OpenBracket, CloseBracket, OpenBrace, CloseBrace, EqualSign}
use Rattle.semantics.specs.Source.Typing.{constant}
use Rattle.semantics.specs.Source.Scope.{Scope, AVariable, AConstant, with_constants, find, same_name, IsFree}
use Rattle.semantics.specs.Source.Expressions.{ReadsExpr}
use Rattle.semantics.specs.Source.Statements.{statement_count}
use Rattle.semantics.specs.Source.Grammar.{ReadsLengths, no_lengths, dimension, ReadsConstants, only, further, ReadsDecls, no_decls, enum, object, elements, headers, Reads}
use Rattle.cparse_grammar.specs.Reading.{Got, Reader, ◌>>=◌, got, chosen}
use Rattle.cparse_grammar.specs.Operators.{number_in, is_number}
use Rattle.cparse_grammar.specs.NextTokens.{close_paren, close_bracket, word}
use Rattle.cparse_grammar.specs.ExpressionReader.{expression}
use Rattle.cparse_grammar.specs.NextTokens as ahead
use Rattle.cparse_grammar.specs.StatementReader as reader
use Rattle.cparse_grammar.specs.StatementReader.{items, Told, Tally}
use Rattle.cparse_grammar.specs.TextReader as text
use Rattle.cparse_grammar.specs.TextReader.{lengths, length_of, is_length, constants, value_of, has_value, declarations, Decls, Whole, behind_headers, kernel}
use Rattle.law_grammar.specs.Laws.{ReadKernelsStand}
use Rattle.cparse_grammar.proofs.Binds.{bind_some, first_true, second_true}
use Rattle.law_grammar.proofs.ExpressionSound.{AsAt, as_number, Front, IsSound, out, no_some, close_paren_is, close_bracket_is, expression_sound}
use Rattle.law_grammar.proofs.StatementSound.{semicolon_is, open_paren_is, becomes_is, close_brace_is, word_is, new_name_is, free_name, items_sound, statement_sound}
use Rattle.law_grammar.proofs.StatementComplete.{same_is}
use Rattle.law_grammar.proofs.TextComplete.{kernel_read}

open_brace_is : (ts us : List Token) → ahead.open_brace ts ≡ Some us → ts ≡ Punctuator OpenBrace ∷ us
open_brace_is (Punctuator OpenBrace ∷ ts) us e = ap (λ xs. Punctuator OpenBrace ∷ xs) (out e)
open_brace_is (Punctuator s ∷ ts) us e = no_some e
open_brace_is _ us e = no_some e

comma_is : (ts us : List Token) → ahead.comma ts ≡ Some us → ts ≡ Punctuator Comma ∷ us
comma_is (Punctuator Comma ∷ ts) us e = ap (λ xs. Punctuator Comma ∷ xs) (out e)
comma_is (Punctuator s ∷ ts) us e = no_some e
comma_is _ us e = no_some e

length_is : (o : Option ℕ) → is_length o ≡ true → (n : ℕ) × (o ≡ Some (suc n)) × (length_of o ≡ suc n)
length_is None h = absurd (cc)
length_is (Some zero) h = absurd (cc)
length_is (Some (suc n)) h = (n, refl, refl)

value_is : (o : Option ℕ) → has_value o ≡ true → o ≡ Some (value_of o)
value_is None h = absurd (cc)
value_is (Some n) h = refl

no_length : (scope : Scope) (ts : List Token) (g : Got (List ℕ)) → got [] true ts ≡ Some g → Front (ReadsLengths scope) ts g
no_length scope ts g e = subst (λ x. Front (ReadsLengths scope) ts x) (out e) (record { front = []; split = refl; reads = no_lengths })

with_length : (scope : Scope) (e : Expr) (ts us : List Token) (ns : List ℕ) → ReadsExpr scope 0 0 ts e → is_length (constant e) ≡ true → ReadsLengths scope us ns → ReadsLengths scope (Punctuator OpenBracket ∷ (ts ++ Punctuator CloseBracket ∷ us)) (length_of (constant e) ∷ ns)
with_length scope e ts us ns r c q =
    let is = length_is (constant e) c in
    subst (λ n. ReadsLengths scope (Punctuator OpenBracket ∷ (ts ++ Punctuator CloseBracket ∷ us)) (n ∷ ns)) (sym is.2) (dimension r is.1 q)

lengths_sound : (scope : Scope) (n : ℕ) → IsSound (lengths n scope) (ReadsLengths scope)
lengths_sound scope (suc n) (Punctuator OpenBracket ∷ ts) g e h =
    let whole : Got Source → Got (List ℕ) → Option (Got (List ℕ)) =
    (λ y more. got (length_of (constant (number_in y.tree)) ∷ more.tree) ((y.sound && is_number y.tree) && (is_length (constant (number_in y.tree)) && more.sound)) more.rest) in
    let a = bind_some (expression 64 scope ts) (λ y. close_bracket y.rest >>= λ behind. lengths n scope behind >>= λ more. whole y more) g e in
    let b = bind_some (close_bracket a.0.rest) (λ behind. lengths n scope behind >>= λ more. whole a.0 more) g a.2 in
    let c = bind_some (lengths n scope b.0) (λ more. whole a.0 more) g b.2 in
    let all : ((a.0.sound && is_number a.0.tree) && (is_length (constant (number_in a.0.tree)) && c.0.sound)) ≡ true = ap (λ x. x.sound) (out c.2) ∙ h in
    let front : (a.0.sound && is_number a.0.tree) ≡ true = first_true (a.0.sound && is_number a.0.tree) _ all in
    let behind : (is_length (constant (number_in a.0.tree)) && c.0.sound) ≡ true = second_true (a.0.sound && is_number a.0.tree) _ all in
    let r = expression_sound scope 64 0 refl ts a.0 a.1 (first_true a.0.sound _ front) in
    let q = lengths_sound scope n b.0 c.0 c.1 (second_true (is_length (constant (number_in a.0.tree))) _ behind) in
    subst (λ x. Front (ReadsLengths scope) (Punctuator OpenBracket ∷ ts) x) (out c.2)
    (record {
      front = Punctuator OpenBracket ∷ (r.front ++ Punctuator CloseBracket ∷ q.front);
      split = ap (λ xs. Punctuator OpenBracket ∷ xs) (r.split ∙ ap (λ xs. r.front ++ xs) (close_bracket_is a.0.rest b.0 b.1 ∙ ap (λ xs. Punctuator CloseBracket ∷ xs) q.split) ∙ sym (append_assoc r.front (Punctuator CloseBracket ∷ q.front) c.0.rest));
      reads = with_length scope (number_in a.0.tree) r.front q.front c.0.tree (as_number scope 0 0 r.front a.0.tree (second_true a.0.sound _ front) r.reads) (first_true (is_length (constant (number_in a.0.tree))) _ behind) q.reads;
    })
lengths_sound scope zero ts g e h = no_length scope ts g e
lengths_sound scope (suc n) (Punctuator s ∷ ts) g e h = no_length scope (Punctuator s ∷ ts) g e
lengths_sound scope (suc n) ts g e h = no_length scope ts g e

-- the constants of one declaration, behind the first name
constant_sound : (scope : Scope) (w : Name) (more : Reader (List (Name × ℕ))) (ts behind : List Token) (y : Got Source) → IsFree scope w → ts ≡ Word w ∷ Punctuator EqualSign ∷ behind
    → (y.sound ≡ true → Front (AsAt scope 0 0) behind y) → IsSound more (ReadsConstants ((w, AConstant (value_of (constant (number_in y.tree)))) ∷ scope))
    → (x : Option (List Token)) → ahead.comma y.rest ≡ x → (g : Got (List (Name × ℕ)))
    → chosen x
    (got ((w, value_of (constant (number_in y.tree))) ∷ []) (true && ((y.sound && is_number y.tree) && has_value (constant (number_in y.tree)))) y.rest)
    (λ next. more next >>= λ more. got ((w, value_of (constant (number_in y.tree))) ∷ more.tree) ((true && ((y.sound && is_number y.tree) && has_value (constant (number_in y.tree)))) && more.sound) more.rest) ≡ Some g
    → g.sound ≡ true → Front (ReadsConstants scope) ts g
constant_sound scope w more ts behind y free begins first rest None f g e h =
    let all : ((y.sound && is_number y.tree) && has_value (constant (number_in y.tree))) ≡ true = ap (λ x. x.sound) (out e) ∙ h in
    let front : (y.sound && is_number y.tree) ≡ true = first_true (y.sound && is_number y.tree) _ all in
    let r = first (first_true y.sound _ front) in
    subst (λ x. Front (ReadsConstants scope) ts x) (out e)
    (record {
      front = Word w ∷ Punctuator EqualSign ∷ r.front;
      split = begins ∙ ap (λ xs. Word w ∷ Punctuator EqualSign ∷ xs) r.split;
      reads = only free (as_number scope 0 0 r.front y.tree (second_true y.sound _ front) r.reads) (value_is (constant (number_in y.tree)) (second_true (y.sound && is_number y.tree) _ all));
    })
constant_sound scope w more ts behind y free begins first rest (Some next) f g e h =
    let v : ℕ = value_of (constant (number_in y.tree)) in
    let a = bind_some (more next) (λ more. got ((w, v) ∷ more.tree) ((true && ((y.sound && is_number y.tree) && has_value (constant (number_in y.tree)))) && more.sound) more.rest) g e in
    let whole : (((y.sound && is_number y.tree) && has_value (constant (number_in y.tree))) && a.0.sound) ≡ true = ap (λ x. x.sound) (out a.2) ∙ h in
    let all : ((y.sound && is_number y.tree) && has_value (constant (number_in y.tree))) ≡ true = first_true ((y.sound && is_number y.tree) && has_value (constant (number_in y.tree))) _ whole in
    let front : (y.sound && is_number y.tree) ≡ true = first_true (y.sound && is_number y.tree) _ all in
    let r = first (first_true y.sound _ front) in
    let q = rest next a.0 a.1 (second_true ((y.sound && is_number y.tree) && has_value (constant (number_in y.tree))) _ whole) in
    subst (λ x. Front (ReadsConstants scope) ts x) (out a.2)
    (record {
      front = Word w ∷ Punctuator EqualSign ∷ (r.front ++ Punctuator Comma ∷ q.front);
      split = begins ∙ ap (λ xs. Word w ∷ Punctuator EqualSign ∷ xs) (r.split ∙ ap (λ xs. r.front ++ xs) (comma_is y.rest next f ∙ ap (λ xs. Punctuator Comma ∷ xs) q.split) ∙ sym (append_assoc r.front (Punctuator Comma ∷ q.front) a.0.rest));
      reads = further free (as_number scope 0 0 r.front y.tree (second_true y.sound _ front) r.reads) (value_is (constant (number_in y.tree)) (second_true (y.sound && is_number y.tree) _ all)) q.reads;
    })

-- behind a constant's expression; u: its name is unused
abbrev after_constant : Bool → Name → (Scope → Reader (List (Name × ℕ))) → Scope → Got Source → Option (List Token) → Option (Got (List (Name × ℕ)))
after_constant u w more scope y x =
    chosen x
    (got ((w, value_of (constant (number_in y.tree))) ∷ []) (u && ((y.sound && is_number y.tree) && has_value (constant (number_in y.tree)))) y.rest)
    (λ next. more ((w, AConstant (value_of (constant (number_in y.tree)))) ∷ scope) next >>= λ more.
    got ((w, value_of (constant (number_in y.tree))) ∷ more.tree) ((u && ((y.sound && is_number y.tree) && has_value (constant (number_in y.tree)))) && more.sound) more.rest)

after_keeps : (u : Bool) (w : Name) (more : Scope → Reader (List (Name × ℕ))) (scope : Scope) (y : Got Source) (x : Option (List Token)) (g : Got (List (Name × ℕ))) → after_constant u w more scope y x ≡ Some g → g.sound ≡ true → u ≡ true
after_keeps u w more scope y None g e h = first_true u _ (ap (λ x. x.sound) (out e) ∙ h)
after_keeps u w more scope y (Some next) g e h =
    let a = bind_some (more ((w, AConstant (value_of (constant (number_in y.tree)))) ∷ scope) next) (λ more. got ((w, value_of (constant (number_in y.tree))) ∷ more.tree) ((u && ((y.sound && is_number y.tree) && has_value (constant (number_in y.tree)))) && more.sound) more.rest) g e in
    first_true u _ (first_true (u && ((y.sound && is_number y.tree) && has_value (constant (number_in y.tree)))) _ (ap (λ x. x.sound) (out a.2) ∙ h))

constants_sound : (n : ℕ) (scope : Scope) → IsSound (constants n scope) (ReadsConstants scope)
constants_sound zero scope ts g e h = no_some e
constants_sound (suc n) scope ts g e h =
    let a = bind_some (ahead.new_name ts) (λ name. ahead.equal_sign name.1 >>= λ behind. expression 64 scope behind >>= λ y. after_constant (is_none (find scope name.0)) name.0 (constants n) scope y (ahead.comma y.rest)) g e in
    let w : Name = a.0.0 in
    let b = bind_some (ahead.equal_sign a.0.1) (λ behind. expression 64 scope behind >>= λ y. after_constant (is_none (find scope w)) w (constants n) scope y (ahead.comma y.rest)) g a.2 in
    let c = bind_some (expression 64 scope b.0) (λ y. after_constant (is_none (find scope w)) w (constants n) scope y (ahead.comma y.rest)) g b.2 in
    let unused : is_none (find scope w) ≡ true = after_keeps (is_none (find scope w)) w (constants n) scope c.0 (ahead.comma c.0.rest) g c.2 h in
    let name = new_name_is ts a.0 a.1 in
    constant_sound scope w (constants n ((w, AConstant (value_of (constant (number_in c.0.tree)))) ∷ scope)) ts b.0 c.0 (free_name scope w name.free unused)
    (name.split ∙ ap (λ xs. Word w ∷ xs) (becomes_is a.0.1 b.0 b.1)) (λ d. expression_sound scope 64 0 refl b.0 c.0 c.1 d)
    (constants_sound n ((w, AConstant (value_of (constant (number_in c.0.tree)))) ∷ scope)) (ahead.comma c.0.rest) refl g
    (subst (λ u. after_constant u w (constants n) scope c.0 (ahead.comma c.0.rest) ≡ Some g) unused c.2) h

-- declarations at the front
pub record DeclsFront (scope : Scope) (next : ℕ) (ts : List Token) (ds : Decls) : Type 0 where
  pub front : List Token
  pub split : ts ≡ front ++ ds.rest
  pub reads : ReadsDecls scope next front ds.constants ds.variables ds.scope

abbrev AreDecls : (Scope → ℕ → List Token → Option Decls) → Type 0
AreDecls read = (scope : Scope) (next : ℕ) (ts : List Token) (ds : Decls) → read scope next ts ≡ Some ds → ds.sound ≡ true → DeclsFront scope next ts ds

no_more : (scope : Scope) (next : ℕ) (ts : List Token) (ds : Decls) → Some (record { constants = []; variables = []; scope = scope; sound = true; rest = ts }) ≡ Some ds → DeclsFront scope next ts ds
no_more scope next ts ds e = subst (λ x. DeclsFront scope next ts x) (out e) (record { front = []; split = refl; reads = no_decls })

enumeration_sound : (scope : Scope) (ts : List Token) (g : Got (List (Name × ℕ))) → text.enumeration scope ts ≡ Some g → g.sound ≡ true
    → (front : List Token) × (ts ≡ Punctuator OpenBrace ∷ (front ++ Punctuator CloseBrace ∷ Punctuator Semicolon ∷ g.rest)) × ReadsConstants scope front g.tree
unfolding text.enumeration
enumeration_sound scope ts g e h =
    let a = bind_some (ahead.open_brace ts) (λ inner. constants (length inner) scope inner >>= λ cs. ahead.close_brace cs.rest >>= λ behind. ahead.semicolon behind >>= λ after. got cs.tree cs.sound after) g e in
    let b = bind_some (constants (length a.0) scope a.0) (λ cs. ahead.close_brace cs.rest >>= λ behind. ahead.semicolon behind >>= λ after. got cs.tree cs.sound after) g a.2 in
    let c = bind_some (ahead.close_brace b.0.rest) (λ behind. ahead.semicolon behind >>= λ after. got b.0.tree b.0.sound after) g b.2 in
    let d = bind_some (ahead.semicolon c.0) (λ after. got b.0.tree b.0.sound after) g c.2 in
    let r = constants_sound (length a.0) scope a.0 b.0 b.1 (ap (λ x. x.sound) (out d.2) ∙ h) in (
      r.front,
      open_brace_is ts a.0 a.1 ∙ ap (λ xs. Punctuator OpenBrace ∷ xs) (r.split ∙ ap (λ xs. r.front ++ xs) (close_brace_is b.0.rest c.0 c.1 ∙ ap (λ xs. Punctuator CloseBrace ∷ xs) (semicolon_is c.0 d.0 d.1 ∙ ap (λ x. Punctuator Semicolon ∷ x.rest) (out d.2)))),
      subst (λ x. ReadsConstants scope r.front x.tree) (out d.2) r.reads,
    )

variable_sound : (scope : Scope) (ts : List Token) (g : Got Declaration) → text.variable scope ts ≡ Some g → g.sound ≡ true
    → (front : List Token) × (ts ≡ Word g.tree.name ∷ (front ++ Punctuator Semicolon ∷ g.rest)) × IsFree scope g.tree.name × (length g.tree.lengths ≤ 4) × ReadsLengths scope front g.tree.lengths
unfolding text.variable
variable_sound scope ts g e h =
    let whole : Name → Got (List ℕ) → List Token → Option (Got Declaration) =
    (λ w ns behind. got (record { name = w; lengths = ns.tree }) (is_none (find scope w) && (ns.sound && nat_le (length ns.tree) 4)) behind) in
    let a = bind_some (ahead.new_name ts) (λ name. lengths (length name.1) scope name.1 >>= λ ns. ahead.semicolon ns.rest >>= λ behind. whole name.0 ns behind) g e in
    let w : Name = a.0.0 in
    let b = bind_some (lengths (length a.0.1) scope a.0.1) (λ ns. ahead.semicolon ns.rest >>= λ behind. whole w ns behind) g a.2 in
    let c = bind_some (ahead.semicolon b.0.rest) (λ behind. whole w b.0 behind) g b.2 in
    let all : (is_none (find scope w) && (b.0.sound && nat_le (length b.0.tree) 4)) ≡ true = ap (λ x. x.sound) (out c.2) ∙ h in
    let some : (b.0.sound && nat_le (length b.0.tree) 4) ≡ true = second_true (is_none (find scope w)) _ all in
    let name = new_name_is ts a.0 a.1 in
    let r = lengths_sound scope (length a.0.1) a.0.1 b.0 b.1 (first_true b.0.sound _ some) in
    subst (λ x. (front : List Token) × (ts ≡ Word x.tree.name ∷ (front ++ Punctuator Semicolon ∷ x.rest)) × IsFree scope x.tree.name × (length x.tree.lengths ≤ 4) × ReadsLengths scope front x.tree.lengths) (out c.2) (
      r.front,
      name.split ∙ ap (λ xs. Word w ∷ xs) (r.split ∙ ap (λ xs. r.front ++ xs) (semicolon_is b.0.rest c.0 c.1)),
      free_name scope w name.free (first_true (is_none (find scope w)) _ all),
      leb-true (length b.0.tree) 4 (second_true b.0.sound _ some),
      r.reads,
    )

enum_sound : (more : Scope → ℕ → List Token → Option Decls) → AreDecls more → (scope : Scope) (next : ℕ) (ts : List Token) (ds : Decls)
    → (text.enumeration scope ts >>= λ cs. more (with_constants cs.tree scope) next cs.rest >>= λ more.
    Some (record { constants = cs.tree ++ more.constants; variables = more.variables; scope = more.scope; sound = cs.sound && more.sound; rest = more.rest })) ≡ Some ds
    → ds.sound ≡ true → DeclsFront scope next (Word (codes "enum") ∷ ts) ds
enum_sound more k scope next ts ds e h =
    let whole : Got (List (Name × ℕ)) → Decls → Option Decls = (λ cs more. Some (record { constants = cs.tree ++ more.constants; variables = more.variables; scope = more.scope; sound = cs.sound && more.sound; rest = more.rest })) in
    let a = bind_some (text.enumeration scope ts) (λ cs. more (with_constants cs.tree scope) next cs.rest >>= λ more. whole cs more) ds e in
    let b = bind_some (more (with_constants a.0.tree scope) next a.0.rest) (λ more. whole a.0 more) ds a.2 in
    let all : (a.0.sound && b.0.sound) ≡ true = ap (λ x. x.sound) (out b.2) ∙ h in
    let r = enumeration_sound scope ts a.0 a.1 (first_true a.0.sound _ all) in
    let q = k (with_constants a.0.tree scope) next a.0.rest b.0 b.1 (second_true a.0.sound _ all) in
    subst (λ x. DeclsFront scope next (Word (codes "enum") ∷ ts) x) (out b.2)
    (record {
      front = Word (codes "enum") ∷ Punctuator OpenBrace ∷ (r.0 ++ Punctuator CloseBrace ∷ Punctuator Semicolon ∷ q.front);
      split = ap (λ xs. Word (codes "enum") ∷ xs) (r.1 ∙ ap (λ xs. Punctuator OpenBrace ∷ (r.0 ++ Punctuator CloseBrace ∷ Punctuator Semicolon ∷ xs)) q.split ∙ ap (λ xs. Punctuator OpenBrace ∷ xs) (sym (append_assoc r.0 (Punctuator CloseBrace ∷ Punctuator Semicolon ∷ q.front) b.0.rest)));
      reads = enum r.2 q.reads;
    })

object_sound : (more : Scope → ℕ → List Token → Option Decls) → AreDecls more → (scope : Scope) (next : ℕ) (ts : List Token) (ds : Decls)
    → (text.variable scope ts >>= λ v. more ((v.tree.name, AVariable next (length v.tree.lengths)) ∷ scope) (suc next) v.rest >>= λ more.
    Some (record { constants = more.constants; variables = v.tree ∷ more.variables; scope = more.scope; sound = v.sound && more.sound; rest = more.rest })) ≡ Some ds
    → ds.sound ≡ true → DeclsFront scope next (Word (codes "uint64_t") ∷ ts) ds
object_sound more k scope next ts ds e h =
    let whole : Got Declaration → Decls → Option Decls = (λ v more. Some (record { constants = more.constants; variables = v.tree ∷ more.variables; scope = more.scope; sound = v.sound && more.sound; rest = more.rest })) in
    let a = bind_some (text.variable scope ts) (λ v. more ((v.tree.name, AVariable next (length v.tree.lengths)) ∷ scope) (suc next) v.rest >>= λ more. whole v more) ds e in
    let b = bind_some (more ((a.0.tree.name, AVariable next (length a.0.tree.lengths)) ∷ scope) (suc next) a.0.rest) (λ more. whole a.0 more) ds a.2 in
    let all : (a.0.sound && b.0.sound) ≡ true = ap (λ x. x.sound) (out b.2) ∙ h in
    let r = variable_sound scope ts a.0 a.1 (first_true a.0.sound _ all) in
    let q = k ((a.0.tree.name, AVariable next (length a.0.tree.lengths)) ∷ scope) (suc next) a.0.rest b.0 b.1 (second_true a.0.sound _ all) in
    subst (λ x. DeclsFront scope next (Word (codes "uint64_t") ∷ ts) x) (out b.2)
    (record {
      front = Word (codes "uint64_t") ∷ Word a.0.tree.name ∷ (r.0 ++ Punctuator Semicolon ∷ q.front);
      split = ap (λ xs. Word (codes "uint64_t") ∷ xs) (r.1 ∙ ap (λ xs. Word a.0.tree.name ∷ (r.0 ++ Punctuator Semicolon ∷ xs)) q.split ∙ ap (λ xs. Word a.0.tree.name ∷ xs) (sym (append_assoc r.0 (Punctuator Semicolon ∷ q.front) b.0.rest)));
      reads = object r.2 r.3 r.4 q.reads;
    })

declarations_sound : (n : ℕ) → AreDecls (declarations n)
declarations_sound zero scope next ts ds e h = no_more scope next ts ds e
declarations_sound (suc n) scope next (Word w ∷ ts) ds e h = go (same_name w (codes "enum")) refl (declarations_sound n) e
  where
    other : (b : Bool) → same_name w (codes "uint64_t") ≡ b → AreDecls (declarations n)
        → cond b (text.variable scope ts >>= λ v. declarations n ((v.tree.name, AVariable next (length v.tree.lengths)) ∷ scope) (suc next) v.rest >>= λ more.
        Some (record { constants = more.constants; variables = v.tree ∷ more.variables; scope = more.scope; sound = v.sound && more.sound; rest = more.rest }))
        (Some (record { constants = []; variables = []; scope = scope; sound = true; rest = Word w ∷ ts })) ≡ Some ds
        → DeclsFront scope next (Word w ∷ ts) ds
    other true f k d = subst (λ v. DeclsFront scope next (Word v ∷ ts) ds) (sym (same_is w (codes "uint64_t") f)) (object_sound (declarations n) k scope next ts ds d h)
    other false f k d = no_more scope next (Word w ∷ ts) ds d

    go : (b : Bool) → same_name w (codes "enum") ≡ b → AreDecls (declarations n)
        → cond b (text.enumeration scope ts >>= λ cs. declarations n (with_constants cs.tree scope) next cs.rest >>= λ more.
        Some (record { constants = cs.tree ++ more.constants; variables = more.variables; scope = more.scope; sound = cs.sound && more.sound; rest = more.rest }))
        (cond (same_name w (codes "uint64_t")) (text.variable scope ts >>= λ v. declarations n ((v.tree.name, AVariable next (length v.tree.lengths)) ∷ scope) (suc next) v.rest >>= λ more.
        Some (record { constants = more.constants; variables = v.tree ∷ more.variables; scope = more.scope; sound = v.sound && more.sound; rest = more.rest }))
        (Some (record { constants = []; variables = []; scope = scope; sound = true; rest = Word w ∷ ts }))) ≡ Some ds
        → DeclsFront scope next (Word w ∷ ts) ds
    go true f k d = subst (λ v. DeclsFront scope next (Word v ∷ ts) ds) (sym (same_is w (codes "enum") f)) (enum_sound (declarations n) k scope next ts ds d h)
    go false f k d = other (same_name w (codes "uint64_t")) refl k d
declarations_sound (suc n) scope next [] ds e h = no_more scope next [] ds e
declarations_sound (suc n) scope next (IntegerConstant m s ∷ ts) ds e h = no_more scope next (IntegerConstant m s ∷ ts) ds e
declarations_sound (suc n) scope next (StringLiteral cs o ∷ ts) ds e h = no_more scope next (StringLiteral cs o ∷ ts) ds e
declarations_sound (suc n) scope next (Punctuator s ∷ ts) ds e h = no_more scope next (Punctuator s ∷ ts) ds e
declarations_sound (suc n) scope next (Header m ∷ ts) ds e h = no_more scope next (Header m ∷ ts) ds e
declarations_sound (suc n) scope next (Line m ∷ ts) ds e h = no_more scope next (Line m ∷ ts) ds e

-- the include lines in front
headers_are : (ts : List Token) → (hs : List ℕ) × (ts ≡ headers hs ++ behind_headers ts)
headers_are (Header h ∷ ts) = let r = headers_are ts in (h ∷ r.0, ap (λ xs. Header h ∷ xs) r.1)
headers_are [] = ([], refl)
headers_are (Word w ∷ ts) = ([], refl)
headers_are (IntegerConstant n s ∷ ts) = ([], refl)
headers_are (StringLiteral cs o ∷ ts) = ([], refl)
headers_are (Punctuator s ∷ ts) = ([], refl)
headers_are (Line n ∷ ts) = ([], refl)

at_end_is : (ts us : List Token) → text.at_end ts ≡ Some us → ts ≡ []
at_end_is [] us e = refl
at_end_is (t ∷ ts) us e = no_some e

opening_is : (ts us : List Token) → text.opening ts ≡ Some us → ts ≡ Word (codes "void") ∷ Word (codes "kernel") ∷ Punctuator OpenParen ∷ Word (codes "void") ∷ Punctuator CloseParen ∷ Punctuator OpenBrace ∷ us
unfolding text.opening
opening_is ts us e =
    let a = bind_some (word (codes "void") ts) (λ a. word (codes "kernel") a >>= λ b. ahead.open_paren b >>= λ c. word (codes "void") c >>= λ d. close_paren d >>= λ e. ahead.open_brace e) us e in
    let b = bind_some (word (codes "kernel") a.0) (λ b. ahead.open_paren b >>= λ c. word (codes "void") c >>= λ d. close_paren d >>= λ e. ahead.open_brace e) us a.2 in
    let c = bind_some (ahead.open_paren b.0) (λ c. word (codes "void") c >>= λ d. close_paren d >>= λ e. ahead.open_brace e) us b.2 in
    let d = bind_some (word (codes "void") c.0) (λ d. close_paren d >>= λ e. ahead.open_brace e) us c.2 in
    let f = bind_some (close_paren d.0) (λ e. ahead.open_brace e) us d.2 in
    word_is (codes "void") ts a.0 a.1 ∙ ap (λ xs. Word (codes "void") ∷ xs) (word_is (codes "kernel") a.0 b.0 b.1 ∙ ap (λ xs. Word (codes "kernel") ∷ xs) (open_paren_is b.0 c.0 c.1 ∙ ap (λ xs. Punctuator OpenParen ∷ xs)
    (word_is (codes "void") c.0 d.0 d.1 ∙ ap (λ xs. Word (codes "void") ∷ xs) (close_paren_is d.0 f.0 f.1 ∙ ap (λ xs. Punctuator CloseParen ∷ xs) (open_brace_is f.0 us f.2)))))

-- the tokens of a text
pub kernel_sound : ReadKernelsStand
unfolding kernel
kernel_sound ts w e h =
    let whole : Decls → Told Items → Option Whole =
    (λ ds is. Some (record { tree = record { constants = ds.constants; variables = ds.variables; body = is.tree }; sound = ds.sound && (is.sound && nat_le (elements ds.variables) (2 ^ 24)) })) in
    let tally : Decls → Tally = (λ ds. record { next = length ds.variables; left = 4096 }) in
    let a = bind_some (declarations (length (behind_headers ts)) [] 0 (behind_headers ts)) (λ ds. text.opening ds.rest >>= λ inner. items (length inner) 63 (reader.statement 63) ds.scope (tally ds) inner >>= λ is.
    ahead.close_brace is.rest >>= λ behind. text.at_end behind >>= λ end. whole ds is) w e in
    let ds : Decls = a.0 in
    let b = bind_some (text.opening ds.rest) (λ inner. items (length inner) 63 (reader.statement 63) ds.scope (tally ds) inner >>= λ is. ahead.close_brace is.rest >>= λ behind. text.at_end behind >>= λ end. whole ds is) w a.2 in
    let c = bind_some (items (length b.0) 63 (reader.statement 63) ds.scope (tally ds) b.0) (λ is. ahead.close_brace is.rest >>= λ behind. text.at_end behind >>= λ end. whole ds is) w b.2 in
    let is : Told Items = c.0 in
    let d = bind_some (ahead.close_brace is.rest) (λ behind. text.at_end behind >>= λ end. whole ds is) w c.2 in
    let f = bind_some (text.at_end d.0) (λ end. whole ds is) w d.2 in
    let all : (ds.sound && (is.sound && nat_le (elements ds.variables) (2 ^ 24))) ≡ true = ap (λ x. x.sound) (out f.2) ∙ h in
    let some : (is.sound && nat_le (elements ds.variables) (2 ^ 24)) ≡ true = second_true ds.sound _ all in
    let hs = headers_are ts in
    let r = declarations_sound (length (behind_headers ts)) [] 0 (behind_headers ts) ds a.1 (first_true ds.sound _ all) in
    let q = items_sound 63 1 refl (reader.statement 63) (statement_sound 63 1 refl) (length b.0) ds.scope (tally ds) b.0 is c.1 (first_true is.sound _ some) in
    let count : 4096 ≡ statement_count is.tree + is.tally.left = q.count in
    subst (λ x. Reads ts x.tree) (out f.2)
    (record {
      includes = hs.0;
      scope = ds.scope;
      next = is.tally.next;
      decls = r.front;
      body = q.front;
      all = hs.1 ∙ ap (λ xs. headers hs.0 ++ xs) (r.split ∙ ap (λ xs. r.front ++ xs) (opening_is ds.rest b.0 b.1
          ∙ ap (λ xs. Word (codes "void") ∷ Word (codes "kernel") ∷ Punctuator OpenParen ∷ Word (codes "void") ∷ Punctuator CloseParen ∷ Punctuator OpenBrace ∷ xs) (q.split ∙ ap (λ xs. q.front ++ xs) (close_brace_is is.rest d.0 d.1 ∙ ap (λ xs. Punctuator CloseBrace ∷ xs) (at_end_is d.0 f.0 f.1)))));
      declared = r.reads;
      items = q.reads;
      statements = omega arith;
      within = leb-true (elements ds.variables) (2 ^ 24) (second_true is.sound _ some);
    })

-- tokens have one tree
pub one_tree : (ts : List Token) (a b : Kernel) → Reads ts a → Reads ts b → a ≡ b
one_tree ts a b r q = ap (λ w. w.tree) (out (sym (kernel_read ts a r) ∙ kernel_read ts b q))
