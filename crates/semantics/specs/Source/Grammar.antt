-- The grammar of texts: what tree a text is read as.
use Rattle.std.specs.Prelude.{ℕ, suc, ◌≡◌, ◌≤◌, ◌+◌, ◌^◌, List, [], ◌∷◌, ◌++◌, length, Some, codes}
use Rattle.semantics.specs.Tree.{Name, Expr, Declaration, Kernel}
use Rattle.semantics.specs.Source.Token.{Token, Word, Punctuator, Header, Semicolon, Comma, OpenParen, CloseParen, OpenBracket, CloseBracket, OpenBrace, CloseBrace, EqualSign}
use Rattle.semantics.specs.Source.Typing.{constant}
use Rattle.semantics.specs.Source.Cuts.{Tokens}
use Rattle.semantics.specs.Meaning.Places.{size}
use Rattle.semantics.specs.Source.Scope.{Scope, AVariable, AConstant, with_constants, IsFree}
use Rattle.semantics.specs.Source.Expressions.{ReadsExpr}
use Rattle.semantics.specs.Source.Statements.{ReadsItems, statement_count}

-- the lengths of a declared array, each at least 1 (C11 6.7.6.2)
pub data ReadsLengths (scope : Scope) : List Token → List ℕ → Type 0 where
  no_lengths : ReadsLengths scope [] []
  dimension : {e : Expr} {n : ℕ} {ns : List ℕ} {ts us : List Token} →
      ReadsExpr scope 0 0 ts e → constant e ≡ Some (suc n) → ReadsLengths scope us ns →
      ReadsLengths scope (Punctuator OpenBracket ∷ (ts ++ Punctuator CloseBracket ∷ us)) (suc n ∷ ns)

-- the enum constants of one declaration, each visible to those behind it (C11 6.7.2.2)
pub data ReadsConstants : Scope → List Token → List (Name × ℕ) → Type 0 where
  only : {scope : Scope} {name : Name} {e : Expr} {n : ℕ} {ts : List Token} →
      IsFree scope name → ReadsExpr scope 0 0 ts e → constant e ≡ Some n → ReadsConstants scope (Word name ∷ Punctuator EqualSign ∷ ts) ((name, n) ∷ [])
  further : {scope : Scope} {name : Name} {e : Expr} {n : ℕ} {cs : List (Name × ℕ)} {ts us : List Token} →
      IsFree scope name → ReadsExpr scope 0 0 ts e → constant e ≡ Some n → ReadsConstants ((name, AConstant n) ∷ scope) us cs →
      ReadsConstants scope (Word name ∷ Punctuator EqualSign ∷ (ts ++ Punctuator Comma ∷ us)) ((name, n) ∷ cs)

-- declarations, of 4 dimensions at most: the constants and variables of each, and what is visible behind them (C11 6.7)
pub data ReadsDecls : Scope → ℕ → List Token → List (Name × ℕ) → List Declaration → Scope → Type 0 where
  no_decls : {scope : Scope} {next : ℕ} → ReadsDecls scope next [] [] [] scope
  enum : {scope scope' : Scope} {next : ℕ} {cs ds : List (Name × ℕ)} {vs : List Declaration} {ts us : List Token} →
      ReadsConstants scope ts cs → ReadsDecls (with_constants cs scope) next us ds vs scope' →
      ReadsDecls scope next (Word (codes "enum") ∷ Punctuator OpenBrace ∷ (ts ++ Punctuator CloseBrace ∷ Punctuator Semicolon ∷ us)) (cs ++ ds) vs scope'
  object : {scope scope' : Scope} {next : ℕ} {name : Name} {ns : List ℕ} {cs : List (Name × ℕ)} {vs : List Declaration} {ts us : List Token} →
      IsFree scope name → length ns ≤ 4 → ReadsLengths scope ts ns → ReadsDecls ((name, AVariable next (length ns)) ∷ scope) (suc next) us cs vs scope' →
      ReadsDecls scope next (Word (codes "uint64_t") ∷ Word name ∷ (ts ++ Punctuator Semicolon ∷ us)) cs (record { name = name; lengths = ns } ∷ vs) scope'

-- the elements in all, a scalar being one
abbrev pub elements : List Declaration → ℕ
elements [] = 0
elements (d ∷ ds) = size d.lengths + elements ds

-- include lines
abbrev pub headers : List ℕ → List Token
headers [] = []
headers (h ∷ hs) = Header h ∷ headers hs

-- tokens are read as this tree: include lines, declarations and the kernel, with 4,096 statements and 2^24 elements at most
pub record Reads (tokens : List Token) (tree : Kernel) : Type 0 where
  pub includes : List ℕ
  pub scope : Scope
  pub next : ℕ
  pub decls : List Token
  pub body : List Token
  pub all : tokens ≡ headers includes ++ (decls ++ Word (codes "void") ∷ Word (codes "kernel") ∷ Punctuator OpenParen ∷ Word (codes "void") ∷ Punctuator CloseParen ∷ Punctuator OpenBrace ∷ (body ++ Punctuator CloseBrace ∷ []))
  pub declared : ReadsDecls [] 0 decls tree.constants tree.variables scope
  pub items : ReadsItems scope 1 (length tree.variables) body tree.body next
  pub statements : statement_count tree.body ≤ 4096
  pub within : elements tree.variables ≤ 2 ^ 24

-- a text, of 1,048,576 bytes at most, is read as this tree
pub record ReadsText (text : List ℕ) (tree : Kernel) : Type 0 where
  pub tokens : List Token
  pub cut : Tokens text tokens
  pub reads : Reads tokens tree
  pub length : length text ≤ 2 ^ 20
