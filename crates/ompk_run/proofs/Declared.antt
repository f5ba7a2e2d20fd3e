-- The declarations of a text that is read: names of C, no two the same, and no empty array.
use Rattle.std.specs.Prelude.{ℕ, Bool, true, false, ◌≡◌, ◌≢◌, ◌≤◌, if◌then◌else◌, List, [], ◌∷◌, ◌++◌, length, Some, None}
use Rattle.std.proofs.Common.{sym, ap, ◌∙◌, subst, arith}
use Rattle.semantics.specs.Tree.{Name, Declaration, Kernel}
use Rattle.semantics.specs.Source.Token.{Token, Word, IntegerConstant, StringLiteral, Punctuator, Header, Line, Semicolon, CloseBrace}
use Rattle.semantics.specs.Source.Cuts.{is_name, Stands, word, number, text, symbol, Cuts, end, blank, line_end, comment_line, comment, directive, header, token}
use Rattle.semantics.specs.Source.Scope.{Scope, Entity, AVariable, AConstant, same_name, find, with_constants}
use Rattle.semantics.specs.Source.Grammar.{ReadsLengths, no_lengths, dimension, ReadsDecls, no_decls, enum, object, headers, ReadsText}
use Rattle.law_lines.specs.Without.{IsTreeOf}
use Rattle.seqrun_io.specs.Reading.{IsOther, ArePositive, AreVariables}
use Rattle.seqrun_io.proofs.InputLaw.{itself}

-- each word is a name
abbrev IsNamed : Token → Type 0
IsNamed (Word w) = is_name w ≡ true
IsNamed (IntegerConstant n suffix) = Unit {0}
IsNamed (StringLiteral cs open') = Unit {0}
IsNamed (Punctuator s) = Unit {0}
IsNamed (Header h) = Unit {0}
IsNamed (Line n) = Unit {0}

abbrev AreNamed : List Token → Type 0
AreNamed [] = Unit {0}
AreNamed (t ∷ ts) = IsNamed t × AreNamed ts

front : (ts us : List Token) → AreNamed (ts ++ us) → AreNamed ts
front [] us h = tt
front (t ∷ ts) us h = (h.0, front ts us h.1)

behind : (ts us : List Token) → AreNamed (ts ++ us) → AreNamed us
behind [] us h = h
behind (t ∷ ts) us h = behind ts us h.1

token_named : {w bs : List ℕ} {t : Token} → Stands w bs t → IsNamed t
token_named (word n s) = n
token_named (number ds suffix d s) = tt
token_named (text s) = tt
token_named (symbol s) = tt

cut_named : {fresh : Bool} {n : ℕ} {bs : List ℕ} {ts : List Token} → Cuts fresh n bs ts → AreNamed ts
cut_named end = tt
cut_named (blank e c) = cut_named c
cut_named (line_end c) = cut_named c
cut_named (comment_line cs e c) = cut_named c
cut_named (comment cs e f c) = cut_named c
cut_named (directive line e f g c) = (tt, cut_named c)
cut_named (header line e f c) = (tt, cut_named c)
cut_named (token s c) = (token_named s, cut_named c)

-- something visible has this name
abbrev IsBound : Scope → Name → Type 0
IsBound scope name = find scope name ≢ None

bound_more : (scope : Scope) (name n : Name) (e : Entity) → IsBound scope name → IsBound ((n, e) ∷ scope) name
bound_more scope name n e h = go (same_name n name)
  where
    go : (t : Bool) → (if t then Some e else find scope name) ≡ None → ⊥
    go true q = absurd (cc q)
    go false q = h q

bound_here : (scope : Scope) (name : Name) (e : Entity) → IsBound ((name, e) ∷ scope) name
bound_here scope name e q =
    let none : Some e ≡ None = sym (ap (λ t. if t then Some e else find scope name) (itself name)) ∙ q in
    absurd (cc none)

constants_bound : (cs : List (Name × ℕ)) (scope : Scope) (name : Name) → IsBound scope name → IsBound (with_constants cs scope) name
constants_bound [] scope name h = h
constants_bound (c ∷ cs) scope name h = constants_bound cs ((c.0, AConstant c.1) ∷ scope) name (bound_more scope name c.0 (AConstant c.1) h)

-- later declarations have other names
others : {scope scope' : Scope} {next : ℕ} {ts : List Token} {cs : List (Name × ℕ)} {vs : List Declaration} → ReadsDecls scope next ts cs vs scope' → (name : Name) → IsBound scope name → IsOther name vs
others no_decls name h = tt
others (enum {scope = scope} {cs = cs} c r) name h = others r name (constants_bound cs scope name h)
others (object {scope = scope} {next = next} {name = n} {ns = ns} free le l r) name h = (
  (λ e. h (subst (λ (m : Name). find scope m ≡ None) (sym e) free.unused)),
  others r name (bound_more scope name n (AVariable next (length ns)) h),
)

lengths_positive : {scope : Scope} {ts : List Token} {ns : List ℕ} → ReadsLengths scope ts ns → ArePositive ns
lengths_positive no_lengths = tt
lengths_positive (dimension {n = n} e c r) = (let le : 1 ≤ Rattle.std.specs.Prelude.suc n = omega arith in le, lengths_positive r)

variables_in : {scope scope' : Scope} {next : ℕ} {ts : List Token} {cs : List (Name × ℕ)} {vs : List Declaration} → ReadsDecls scope next ts cs vs scope' → AreNamed ts → AreVariables vs
variables_in no_decls h = tt
variables_in (enum {ts = ts} {us = us} c r) h = variables_in r (behind ts (Punctuator CloseBrace ∷ Punctuator Semicolon ∷ us) h.1.1).1.1
variables_in (object {scope = scope} {next = next} {name = name} {ns = ns} {ts = ts} {us = us} free le l r) h = (
  h.1.0,
  others r name (bound_here scope name (AVariable next (length ns))),
  lengths_positive l,
  variables_in r (behind ts (Punctuator Semicolon ∷ us) h.1.1).1,
)

-- so a text's variables can be named in an input
read_variables : (bytes : List ℕ) (tree : Kernel) → ReadsText bytes tree → AreVariables tree.variables
read_variables bytes tree r =
    let all : AreNamed r.tokens = cut_named r.cut.cut in
    let parts = subst AreNamed r.reads.all all in
    variables_in r.reads.declared (front r.reads.decls _ (behind (headers r.reads.includes) _ parts))

pub variables_of : (bytes : List ℕ) (tree : Kernel) → IsTreeOf bytes tree → AreVariables tree.variables
variables_of bytes tree t = subst (λ (k : Kernel). AreVariables k.variables) (sym t.is) (read_variables bytes t.whole t.reads)
