-- The tokens of a text with their bytes at hand.
use Rattle.std.specs.Prelude.{ℕ, zero, suc, Bool, true, false, ◌==◌, ◌≡◌, ◌<◌, ◌≤◌, ◌+◌, ◌^◌, min, nat_le, List, [], ◌∷◌, ◌++◌, length, take, slice_index_or, Option, Some, None, IsAscii, IsUtf8}
use Rattle.std.specs.Option.{SomeIff}
use Rattle.std.proofs.Common.{inl, inr, cond, rules, refl, sym, ap, ◌∙◌, subst, arith}
use Rattle.std.proofs.lemmas.Bool.{leb-true, leb-false}
use Rattle.std.proofs.lemmas.List.{length-take}
use Rattle.std.proofs.lemmas.Str.{IsUtf8-from_ascii}
use Rattle.semantics.specs.Source.Token as meant
use Rattle.semantics.specs.Source.Spans.{spanned, line_ends, IsAt, AreAt}
use Rattle.semantics.specs.Source.Cuts.{Stands, word}
use Rattle.semantics.specs.Tree.{Suffix}
use Rattle.ktree.specs.View.{suffix_of}
use Rattle.ctoken.specs.Front.{spelled}
use Rattle.ctoken.proofs.StringLaw.{stands_string}
use Rattle.ctoken.proofs.FrontLaw.{spelled_whole}
use Rattle.ctoken.specs.Meant.{symbol_of, number_of, IsKind, IsLineOf, StandFor, span_of, spans_of}
use Rattle.ctoken.specs.declared.token.Token.{Token}
use Rattle.ctoken.specs.declared.token.TokenKind.{TokenKind}
use Rattle.ctoken.specs.declared.token.TokenKind.TheVariants as given
use Rattle.cparse_cursor.specs.declared.lexeme.Kind.{Kind}
use Rattle.cparse_cursor.specs.declared.lexeme.Kind.TheVariants as seen
use Rattle.cparse_cursor.specs.declared.lexeme.Lexeme.{Lexeme}
use Rattle.cparse_cursor.specs.Lexemes.{value_of, kind_of, tokens_of}
use Rattle.cparse_grammar.specs.SameTokens.{IsSame, AreSame}
use Rattle.cparse.specs.LexedTokens.{IsKindOf, IsLexed, AreLexed}

-- a word can be spelled
pub ascii_is_utf8 : (bs : List ℕ) → IsAscii bs → IsUtf8 bs
ascii_is_utf8 bs h = IsUtf8-from_ascii bs h

-- one token more of a front
front_more : (ts : List Token) (i : ℕ) (d : Token) → i < length ts → take (suc i) ts ≡ take i ts ++ slice_index_or ts i d ∷ []
front_more [] i d h = absurd (omega arith)
front_more (t ∷ ts) zero d h = refl
front_more (t ∷ ts) (suc i) d h = ap (λ xs. t ∷ xs) (front_more ts i d (omega arith))

pub front_next : (ts : List Token) (i : ℕ) (d : Token) → i < length ts → take (i + 1) ts ≡ take i ts ++ slice_index_or ts i d ∷ []
front_next ts i d h = let e : i + 1 ≡ suc i = omega arith in ap (λ n. take n ts) e ∙ front_more ts i d h

pub front_all : (ts : List Token) (i : ℕ) → length ts ≤ i → take i ts ≡ ts
front_all [] zero h = refl
front_all [] (suc i) h = refl
front_all (t ∷ ts) zero h = absurd (omega arith)
front_all (t ∷ ts) (suc i) h = ap (λ xs. t ∷ xs) (front_all ts i (omega arith))

-- one more
pub lexed_push : (text : List ℕ) (ts : List Token) (ls : List Lexeme) (t : Token) (l : Lexeme) → AreLexed text ts ls → IsLexed text t l → AreLexed text (ts ++ t ∷ []) (ls ++ l ∷ [])
lexed_push text [] [] t l h k = (k, tt)
lexed_push text (u ∷ ts) (v ∷ ls) t l h k = (h.0, lexed_push text ts ls t l h.1 k)
lexed_push text [] (v ∷ ls) t l h k = absurd h
lexed_push text (u ∷ ts) [] t l h k = absurd h

-- what stands past the end
abbrev pub no_token : Token
no_token = record { kind = given.Identifier; start = 0; length = 0; place = record { line = 0; column = 0 } }

pub lexed_next : (text : List ℕ) (ts : List Token) (i : ℕ) (ls new : List Lexeme) (l : Lexeme) → i < length ts → AreLexed text (take i ts) ls → IsLexed text (slice_index_or ts i no_token) l → new ≡ ls ++ l ∷ [] → AreLexed text (take (i + 1) ts) new
lexed_next text ts i ls new l h k d e =
    subst (λ xs. AreLexed text xs new) (sym (front_next ts i no_token h))
    (subst (λ xs. AreLexed text (take i ts ++ slice_index_or ts i no_token ∷ []) xs) (sym e) (lexed_push text (take i ts) ls (slice_index_or ts i no_token) l k d))

-- the same word
stands_word : {v rest w : List ℕ} → Stands v rest (meant.Word w) → v ≡ w
stands_word (word h k) = refl

too_great : (n : ℕ) → (n < 2 ^ 64 → ⊥) → 2 ^ 64 ≤ n
too_great n h = go (nat_le (2 ^ 64) n) refl
  where
    go : (b : Bool) → nat_le (2 ^ 64) n ≡ b → 2 ^ 64 ≤ n
    go true e = leb-true (2 ^ 64) n e
    go false e = absurd (h (leb-false (2 ^ 64) n e))

value_same : (value : Option ℕ) (n : ℕ) (s u : Suffix) → SomeIff value (n < 2 ^ 64) n → s ≡ u → IsSame (meant.IntegerConstant (value_of value) s) (meant.IntegerConstant n u)
value_same None n s u h e = (e, inr (omega arith, too_great n h))
value_same (Some m) n s u h e = (e, inl h.1)

-- lines of a text are no more than its bytes
ends_within : (bs : List ℕ) → line_ends bs ≤ length bs
ends_within [] = omega arith
ends_within (b ∷ bs) = go (b == 10) (ends_within bs)
  where
    go : (x : Bool) → line_ends bs ≤ length bs → cond x (suc (line_ends bs)) (line_ends bs) ≤ suc (length bs)
    go true h = omega arith
    go false h = omega arith

few_lines : (text : List ℕ) (i : ℕ) → length text ≤ 2 ^ 20 → suc (line_ends (take i text)) < 2 ^ 32
few_lines text i h = let l = ends_within (take i text) in let k = length-take i text in omega arith

-- a kind of token and what it stands for
kind_same : (text : List ℕ) (t : Token) (line : ℕ) (k : TokenKind) (l : Kind) (m : meant.Token) → length text ≤ 2 ^ 20 → IsKind k m → IsLineOf line m → IsAt text (span_of t) m → IsKindOf (spanned text (span_of t)) k l → IsSame (kind_of line l) m
kind_same text t line given.Identifier (seen.Identifier w) (meant.Word v) small h n a e = ap meant.Word (e ∙ stands_word a)
kind_same text t line given.Identifier (seen.Identifier w) m small h n a e = absurd h
kind_same text t line given.Identifier l m small h n a e = absurd e
kind_same text t line (given.IntegerConstant value s) (seen.IntegerConstant value' s') (meant.IntegerConstant n u) small h l a e =
    value_same value' n (suffix_of s') u (subst (λ x. SomeIff x (n < 2 ^ 64) n) e.0 h.0) (ap suffix_of (sym e.1) ∙ h.1)
kind_same text t line (given.IntegerConstant value s) (seen.IntegerConstant value' s') m small h n a e = absurd h
kind_same text t line (given.IntegerConstant value s) l m small h n a e = absurd e
kind_same text t line (given.StringLiteral o) (seen.StringLiteral w o') (meant.StringLiteral cs p) small h n a e =
    let s = stands_string a in
    ap (λ xs. meant.StringLiteral (spelled false xs) o') (e.1 s.0 s.1) ∙ ap (λ xs. meant.StringLiteral xs o') (spelled_whole s.2) ∙ ap (λ x. meant.StringLiteral cs x) (sym e.0 ∙ h)
kind_same text t line (given.StringLiteral o) (seen.StringLiteral w o') m small h n a e = absurd h
kind_same text t line (given.StringLiteral o) l m small h n a e = absurd e
kind_same text t line (given.Punctuator s) (seen.Punctuator s') (meant.Punctuator x) small h n a e = ap meant.Punctuator (ap symbol_of (sym e) ∙ h)
kind_same text t line (given.Punctuator s) (seen.Punctuator s') m small h n a e = absurd h
kind_same text t line (given.Punctuator s) l m small h n a e = absurd e
kind_same text t line (given.Include i) (seen.Include i') (meant.Header n) small h l a e = ap meant.Header (ap number_of (sym e) ∙ h)
kind_same text t line (given.Include i) (seen.Include i') m small h n a e = absurd h
kind_same text t line (given.Include i) l m small h n a e = absurd e
kind_same text t line given.Line seen.Line (meant.Line n) small h l a e =
    ap meant.Line (l ∙ let few = few_lines text t.start small in let is : n ≡ suc (line_ends (take t.start text)) = a.2 in min_low n 4294967295 (omega arith))
  where
    min_low : (a b : ℕ) → a ≤ b → min a b ≡ a
    min_low a b h = search rules
kind_same text t line given.Line seen.Line m small h n a e = absurd h
kind_same text t line given.Line l m small h n a e = absurd e

-- the tokens of a text are those that stand for it, but for literals that are too great
pub lexed_same : (text : List ℕ) (p : ℕ) (ts : List Token) (ls : List Lexeme) (ms : List meant.Token) → length text ≤ 2 ^ 20 → StandFor ts ms → AreAt text p (spans_of ts) ms → AreLexed text ts ls → AreSame (tokens_of ls) ms
lexed_same text p [] [] [] small h a e = tt
lexed_same text p (t ∷ ts) (l ∷ ls) (m ∷ ms) small h a e =
    (kind_same text t l.place.line t.kind l.kind m small h.0.0 (subst (λ x. IsLineOf x.line m) (sym e.0.place) h.0.1) a.2 e.0.kind, lexed_same text (t.start + t.length) ts ls ms small h.1 a.3 e.1)
lexed_same text p [] (l ∷ ls) ms small h a e = absurd e
lexed_same text p (t ∷ ts) [] ms small h a e = absurd e
lexed_same text p [] [] (m ∷ ms) small h a e = absurd h
lexed_same text p (t ∷ ts) (l ∷ ls) [] small h a e = absurd h
