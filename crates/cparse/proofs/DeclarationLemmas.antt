-- Lengths, lists of declarations, and declarations that stop reading.
use Rattle.std.specs.Prelude.{ℕ, zero, suc, Bool, true, not, ◌&&◌, ◌==◌, ◌≡◌, ◌-◌, max, List, [], ◌∷◌, ◌++◌, Option, Some, None, codes}
use Rattle.std.proofs.Common.{rules, refl, sym, ap, ◌∙◌, arith}
use Rattle.std.proofs.lemmas.List.{append_assoc, append-nil}
use Rattle.semantics.specs.Tree.{Source}
use Rattle.semantics.specs.Source.Token.{Token, Punctuator, OpenBracket}
use Rattle.semantics.specs.Source.Typing.{constant}
use Rattle.semantics.specs.Source.Scope.{Scope}
use Rattle.cparse_grammar.specs.Reading.{Got, ◌>>=◌, got}
use Rattle.cparse_grammar.specs.Operators.{number_in, is_number}
use Rattle.cparse_grammar.specs.NextTokens.{close_bracket, open_bracket, word}
use Rattle.cparse_grammar.specs.ExpressionReader.{expression}
use Rattle.cparse_grammar.specs.TextReader.{lengths, length_of, is_length, Decls}
use Rattle.cparse_grammar.specs.DeclarationSteps.{dimension, and_then, enum_step, variable_step}
use Rattle.cparse_cursor.specs.Outcome.{Fails}
use Rattle.cparse_cursor.specs.declared.stop.Stop.{Stop}
use Rattle.cparse_cursor.specs.declared.stop.Stop.TheVariants.{Memory, Syntax, Limit}
use Rattle.cparse_expr.proofs.LoopLemmas.{opens}
use Rattle.law_grammar.proofs.DeclarationTurns.{and_apart, and_right, decls_run, enum_by, variable_by}

pub length_some : (n : ℕ) → length_of (Some n) ≡ max n 1
length_some zero = refl
length_some (suc n) = sym (at_least n)
  where
    at_least : (n : ℕ) → max (suc n) 1 ≡ suc n
    at_least n = search rules

pub is_length_some : (n : ℕ) → is_length (Some n) ≡ not (n == 0)
is_length_some zero = refl
is_length_some (suc n) = search rules

-- what was read, with a list in front of it
abbrev pub behind_row : {A : Type 0} → Got (List A) → Option (Got (List A)) → Option (Got (List A))
behind_row row read = read >>= λ x. got (row.tree ++ x.tree) (row.sound && x.sound) x.rest

pub behind_nothing : {A : Type 0} (read : Option (Got (List A))) (ts : List Token) → behind_row (record { tree = []; sound = true; rest = ts }) read ≡ read
behind_nothing None ts = refl
behind_nothing (Some x) ts = refl

-- nothing more was read
pub row_alone : {A : Type 0} (row : Got (List A)) → behind_row row (got [] true row.rest) ≡ Some row
row_alone row = ap (λ xs. Some (record { tree = xs; sound = row.sound && true; rest = row.rest })) (append-nil row.tree) ∙ ap (λ b. Some (record { tree = row.tree; sound = b; rest = row.rest })) (and_right row.sound)

-- one more was
pub row_one : {A : Type 0} (row : Got (List A)) (one : Got A) (read : Option (Got (List A))) → behind_row row (read >>= λ more. got (one.tree ∷ more.tree) (one.sound && more.sound) more.rest) ≡ behind_row (and_then row one) read
row_one row one None = refl
row_one row one (Some x) =
    ap (λ xs. Some (record { tree = xs; sound = row.sound && (one.sound && x.sound); rest = x.rest })) (sym (append_assoc row.tree (one.tree ∷ []) x.tree))
    ∙ ap (λ b. Some (record { tree = (row.tree ++ one.tree ∷ []) ++ x.tree; sound = b; rest = x.rest })) (and_apart row.sound one.sound x.sound)

abbrev tail : Got Source → List Token → Option (Got (List ℕ)) → Option (Got (List ℕ))
tail e behind read = read >>= λ more. got (length_of (constant (number_in e.tree)) ∷ more.tree) ((e.sound && is_number e.tree) && (is_length (constant (number_in e.tree)) && more.sound)) more.rest

-- a dimension and those behind it
lengths_by : (n : ℕ) (scope : Scope) (ts : List Token) → lengths (suc n) scope (Punctuator OpenBracket ∷ ts) ≡ (dimension scope ts >>= λ one. lengths n scope one.rest >>= λ more. got (one.tree ∷ more.tree) (one.sound && more.sound) more.rest)
lengths_by n scope ts = first (expression 64 scope ts)
  where
    third : (e : Got Source) (behind : List Token) (read : Option (Got (List ℕ))) → tail e behind read
        ≡ (read >>= λ more. got (length_of (constant (number_in e.tree)) ∷ more.tree) (((e.sound && is_number e.tree) && is_length (constant (number_in e.tree))) && more.sound) more.rest)
    third e behind None = refl
    third e behind (Some more) = ap (λ b. Some (record { tree = length_of (constant (number_in e.tree)) ∷ more.tree; sound = b; rest = more.rest })) (and_apart (e.sound && is_number e.tree) (is_length (constant (number_in e.tree))) more.sound)

    second : (e : Got Source) (o : Option (List Token)) → (o >>= λ behind. tail e behind (lengths n scope behind))
        ≡ ((o >>= λ behind. got (length_of (constant (number_in e.tree))) ((e.sound && is_number e.tree) && is_length (constant (number_in e.tree))) behind) >>= λ one. lengths n scope one.rest >>= λ more. got (one.tree ∷ more.tree) (one.sound && more.sound) more.rest)
    second e None = refl
    second e (Some behind) = third e behind (lengths n scope behind)

    first : (o : Option (Got Source)) → (o >>= λ e. close_bracket e.rest >>= λ behind. tail e behind (lengths n scope behind))
        ≡ (((o >>= λ e. got (constant (number_in e.tree)) (e.sound && is_number e.tree) e.rest) >>= λ v. close_bracket v.rest >>= λ behind. got (length_of v.tree) (v.sound && is_length v.tree) behind)
        >>= λ one. lengths n scope one.rest >>= λ more. got (one.tree ∷ more.tree) (one.sound && more.sound) more.rest)
    first None = refl
    first (Some e) = second e (close_bracket e.rest)

-- the turns of the loop over the dimensions
abbrev pub lengths_run : Scope → ℕ → Got (List ℕ) → Option (Got (List ℕ))
lengths_run scope n row = behind_row row (lengths n scope row.rest)

lengths_at : (n : ℕ) (scope : Scope) (row : Got (List ℕ)) (ts : List Token) → open_bracket row.rest ≡ Some ts
    → lengths_run scope (suc n) row ≡ behind_row row (dimension scope ts >>= λ one. lengths n scope one.rest >>= λ more. got (one.tree ∷ more.tree) (one.sound && more.sound) more.rest)
lengths_at n scope row ts h = ap (λ us. behind_row row (lengths (suc n) scope us)) (opens row.rest ts h) ∙ ap (behind_row row) (lengths_by n scope ts)

pub lengths_step : (scope : Scope) (row : Got (List ℕ)) (ts : List Token) (one : Got ℕ) → open_bracket row.rest ≡ Some ts → dimension scope ts ≡ Some one → (n : ℕ) → lengths_run scope (suc n) row ≡ lengths_run scope n (and_then row one)
lengths_step scope row ts one h d n =
    lengths_at n scope row ts h ∙ ap (λ o. behind_row row (o >>= λ one. lengths n scope one.rest >>= λ more. got (one.tree ∷ more.tree) (one.sound && more.sound) more.rest)) d ∙ row_one row one (lengths n scope one.rest)

pub lengths_fail : (e : Stop) (scope : Scope) (row : Got (List ℕ)) (ts : List Token) → open_bracket row.rest ≡ Some ts → Fails e (dimension scope ts) → (n : ℕ) → Fails e (lengths_run scope (suc n) row)
lengths_fail Memory scope row ts h d n = tt
lengths_fail (Syntax place) scope row ts h d n = lengths_at n scope row ts h ∙ ap (λ o. behind_row row (o >>= λ one. lengths n scope one.rest >>= λ more. got (one.tree ∷ more.tree) (one.sound && more.sound) more.rest)) d
lengths_fail (Limit place) scope row ts h d n = lengths_at n scope row ts h ∙ ap (λ o. behind_row row (o >>= λ one. lengths n scope one.rest >>= λ more. got (one.tree ∷ more.tree) (one.sound && more.sound) more.rest)) d

lengths_none : (n : ℕ) (scope : Scope) (ts : List Token) → open_bracket ts ≡ None → lengths n scope ts ≡ got [] true ts
lengths_none zero scope ts e = refl
lengths_none (suc n) scope [] e = refl
lengths_none (suc n) scope (Punctuator OpenBracket ∷ ts) e = absurd cc
lengths_none (suc n) scope (t ∷ ts) e = refl

pub lengths_end : (scope : Scope) (row : Got (List ℕ)) → open_bracket row.rest ≡ None → (n : ℕ) → lengths_run scope n row ≡ Some row
lengths_end scope row h n = ap (behind_row row) (lengths_none n scope row.rest h) ∙ row_alone row

-- the loop begins with nothing
pub lengths_begin : (n : ℕ) (scope : Scope) (ts : List Token) (items : List ℕ) → items ≡ [] → lengths_run scope (n - 0) (record { tree = items; sound = true; rest = ts }) ≡ lengths n scope ts
lengths_begin n scope ts items e =
    let same : n - 0 ≡ n = omega arith in
    ap (λ m. lengths_run scope m (record { tree = items; sound = true; rest = ts })) same
    ∙ ap (λ xs. behind_row (record { tree = xs; sound = true; rest = ts }) (lengths n scope ts)) e ∙ behind_nothing (lengths n scope ts) ts

pub lengths_over : (scope : Scope) (row : Got (List ℕ)) → lengths_run scope 0 row ≡ Some row
lengths_over scope row = row_alone row

-- part by part
pub same_got : {A : Type 0} (g : Got A) (tree : A) (sound : Bool) (rest : List Token) → g.tree ≡ tree → g.sound ≡ sound → g.rest ≡ rest → g ≡ record { tree = tree; sound = sound; rest = rest }
same_got g tree sound rest a b c = ap (λ x. record { tree = x; sound = g.sound; rest = g.rest }) a ∙ ap (λ x. record { tree = tree; sound = x; rest = g.rest }) b ∙ ap (λ x. record { tree = tree; sound = sound; rest = x }) c

-- a declaration that stops reading
pub enum_fails : (e : Stop) (s : Decls) (behind : List Token) → word (codes "enum") s.rest ≡ Some behind → Fails e (enum_step s behind) → (n : ℕ) → Fails e (decls_run (suc n) s)
enum_fails Memory s behind h f n = tt
enum_fails (Syntax place) s behind h f n = enum_by n s behind h ∙ ap (λ o. o >>= decls_run n) f
enum_fails (Limit place) s behind h f n = enum_by n s behind h ∙ ap (λ o. o >>= decls_run n) f

pub variable_fails : (e : Stop) (s : Decls) (behind : List Token) → word (codes "uint64_t") s.rest ≡ Some behind → Fails e (variable_step s behind) → (n : ℕ) → Fails e (decls_run (suc n) s)
variable_fails Memory s behind h f n = tt
variable_fails (Syntax place) s behind h f n = variable_by n s behind h ∙ ap (λ o. o >>= decls_run n) f
variable_fails (Limit place) s behind h f n = variable_by n s behind h ∙ ap (λ o. o >>= decls_run n) f
