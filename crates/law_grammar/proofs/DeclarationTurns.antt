-- The turns of the loop over declarations.
use Rattle.std.specs.Prelude.{ℕ, zero, suc, Bool, true, false, ◌&&◌, ◌≡◌, ◌-◌, List, [], ◌∷◌, ◌++◌, length, Option, Some, None, codes}
use Rattle.std.proofs.Common.{cond, refl, sym, ap, ◌∙◌, arith}
use Rattle.std.proofs.lemmas.List.{append_assoc, append-nil, length-append}
use Rattle.semantics.specs.Tree.{Name, Declaration}
use Rattle.semantics.specs.Source.Token.{Token, Word, IntegerConstant, StringLiteral, Punctuator, Header, Line}
use Rattle.semantics.specs.Source.Scope.{Scope, AVariable, with_constants, same_name}
use Rattle.cparse_grammar.specs.Reading.{Got, ◌>>=◌}
use Rattle.cparse_grammar.specs.NextTokens.{word}
use Rattle.cparse_grammar.specs.TextReader.{Decls, enumeration, variable, declarations}
use Rattle.cparse_grammar.specs.DeclarationSteps.{enum_step, variable_step}
use Rattle.law_grammar.proofs.StatementSound.{word_is}

-- three tests in a row, and one that holds
pub and_apart : (a b c : Bool) → (a && (b && c)) ≡ ((a && b) && c)
and_apart true b c = refl
and_apart false b c = refl

pub and_right : (b : Bool) → (b && true) ≡ b
and_right true = refl
and_right false = refl

-- what was declared, with more in front of it
abbrev pub behind_decls : Decls → Option Decls → Option Decls
behind_decls s read =
    read >>= λ more.
    Some (record { constants = s.constants ++ more.constants; variables = s.variables ++ more.variables; scope = more.scope; sound = s.sound && more.sound; rest = more.rest })

-- reading on from here
abbrev pub decls_run : ℕ → Decls → Option Decls
decls_run n s = behind_decls s (declarations n s.scope (length s.variables) s.rest)

abbrev pub stopped : Scope → List Token → Decls
stopped scope ts = record { constants = []; variables = []; scope = scope; sound = true; rest = ts }

alone : (s : Decls) → behind_decls s (Some (stopped s.scope s.rest)) ≡ Some s
alone s =
    ap (λ xs. Some (record { constants = xs; variables = s.variables ++ []; scope = s.scope; sound = s.sound && true; rest = s.rest })) (append-nil s.constants)
    ∙ ap (λ xs. Some (record { constants = s.constants; variables = xs; scope = s.scope; sound = s.sound && true; rest = s.rest })) (append-nil s.variables)
    ∙ ap (λ b. Some (record { constants = s.constants; variables = s.variables; scope = s.scope; sound = b; rest = s.rest })) (and_right s.sound)

pub decls_over : (s : Decls) → decls_run 0 s ≡ Some s
decls_over s = alone s

nothing_front : (read : Option Decls) (scope : Scope) (ts : List Token) → behind_decls (stopped scope ts) read ≡ read
nothing_front None scope ts = refl
nothing_front (Some x) scope ts = refl

pub decls_begin : (n : ℕ) (scope : Scope) (ts : List Token) (cs : List (Name × ℕ)) (vs : List Declaration) → cs ≡ [] → vs ≡ [] → decls_run (n - 0) (record { constants = cs; variables = vs; scope = scope; sound = true; rest = ts }) ≡ declarations n scope 0 ts
decls_begin n scope ts cs vs e f =
    let same : n - 0 ≡ n = omega arith in
    ap (λ m. decls_run m (record { constants = cs; variables = vs; scope = scope; sound = true; rest = ts })) same
    ∙ ap (λ xs. decls_run n (record { constants = xs; variables = vs; scope = scope; sound = true; rest = ts })) e
    ∙ ap (λ xs. decls_run n (record { constants = []; variables = xs; scope = scope; sound = true; rest = ts })) f
    ∙ nothing_front (declarations n scope 0 ts) scope ts

-- an enumeration, and those behind it
join_enum : (s : Decls) (cs : Got (List (Name × ℕ))) (read : Option Decls)
    → behind_decls s (read >>= λ more. Some (record { constants = cs.tree ++ more.constants; variables = more.variables; scope = more.scope; sound = cs.sound && more.sound; rest = more.rest }))
    ≡ behind_decls (record { constants = s.constants ++ cs.tree; variables = s.variables; scope = with_constants cs.tree s.scope; sound = s.sound && cs.sound; rest = cs.rest }) read
join_enum s cs None = refl
join_enum s cs (Some x) =
    ap (λ xs. Some (record { constants = xs; variables = s.variables ++ x.variables; scope = x.scope; sound = s.sound && (cs.sound && x.sound); rest = x.rest })) (sym (append_assoc s.constants cs.tree x.constants))
    ∙ ap (λ b. Some (record { constants = (s.constants ++ cs.tree) ++ x.constants; variables = s.variables ++ x.variables; scope = x.scope; sound = b; rest = x.rest })) (and_apart s.sound cs.sound x.sound)

enum_read : (n : ℕ) (s : Decls) (o : Option (Got (List (Name × ℕ))))
    → behind_decls s (o >>= λ cs. declarations n (with_constants cs.tree s.scope) (length s.variables) cs.rest >>= λ more.
    Some (record { constants = cs.tree ++ more.constants; variables = more.variables; scope = more.scope; sound = cs.sound && more.sound; rest = more.rest }))
    ≡ ((o >>= λ cs. Some (record { constants = s.constants ++ cs.tree; variables = s.variables; scope = with_constants cs.tree s.scope; sound = s.sound && cs.sound; rest = cs.rest })) >>= decls_run n)
enum_read n s None = refl
enum_read n s (Some cs) = join_enum s cs (declarations n (with_constants cs.tree s.scope) (length s.variables) cs.rest)

pub enum_by : (n : ℕ) (s : Decls) (behind : List Token) → word (codes "enum") s.rest ≡ Some behind → decls_run (suc n) s ≡ (enum_step s behind >>= decls_run n)
enum_by n s behind h = ap (λ ts. behind_decls s (declarations (suc n) s.scope (length s.variables) ts)) (word_is (codes "enum") s.rest behind h) ∙ enum_read n s (enumeration s.scope behind)

-- a variable, and those behind it
join_variable : (n : ℕ) (s : Decls) (v : Got Declaration) (read : Option Decls)
    → behind_decls s (read >>= λ more. Some (record { constants = more.constants; variables = v.tree ∷ more.variables; scope = more.scope; sound = v.sound && more.sound; rest = more.rest }))
    ≡ behind_decls (record {
      constants = s.constants;
      variables = s.variables ++ v.tree ∷ [];
      scope = (v.tree.name, AVariable (length s.variables) (length v.tree.lengths)) ∷ s.scope;
      sound = s.sound && v.sound;
      rest = v.rest;
    }) read
join_variable n s v None = refl
join_variable n s v (Some x) =
    ap (λ xs. Some (record { constants = s.constants ++ x.constants; variables = xs; scope = x.scope; sound = s.sound && (v.sound && x.sound); rest = x.rest })) (sym (append_assoc s.variables (v.tree ∷ []) x.variables))
    ∙ ap (λ b. Some (record { constants = s.constants ++ x.constants; variables = (s.variables ++ v.tree ∷ []) ++ x.variables; scope = x.scope; sound = b; rest = x.rest })) (and_apart s.sound v.sound x.sound)

variable_read : (n : ℕ) (s : Decls) (o : Option (Got Declaration))
    → behind_decls s (o >>= λ v. declarations n ((v.tree.name, AVariable (length s.variables) (length v.tree.lengths)) ∷ s.scope) (suc (length s.variables)) v.rest >>= λ more.
    Some (record { constants = more.constants; variables = v.tree ∷ more.variables; scope = more.scope; sound = v.sound && more.sound; rest = more.rest }))
    ≡ ((o >>= λ v. Some (record {
      constants = s.constants;
      variables = s.variables ++ v.tree ∷ [];
      scope = (v.tree.name, AVariable (length s.variables) (length v.tree.lengths)) ∷ s.scope;
      sound = s.sound && v.sound;
      rest = v.rest;
    })) >>= decls_run n)
variable_read n s None = refl
variable_read n s (Some v) =
    let more : suc (length s.variables) ≡ length (s.variables ++ v.tree ∷ []) = (let l = length-append s.variables (v.tree ∷ []) in omega arith) in
    ap (λ next. behind_decls s (declarations n ((v.tree.name, AVariable (length s.variables) (length v.tree.lengths)) ∷ s.scope) next v.rest >>= λ more.
    Some (record { constants = more.constants; variables = v.tree ∷ more.variables; scope = more.scope; sound = v.sound && more.sound; rest = more.rest }))) more
    ∙ join_variable n s v (declarations n ((v.tree.name, AVariable (length s.variables) (length v.tree.lengths)) ∷ s.scope) (length (s.variables ++ v.tree ∷ [])) v.rest)

pub variable_by : (n : ℕ) (s : Decls) (behind : List Token) → word (codes "uint64_t") s.rest ≡ Some behind → decls_run (suc n) s ≡ (variable_step s behind >>= decls_run n)
variable_by n s behind h = ap (λ ts. behind_decls s (declarations (suc n) s.scope (length s.variables) ts)) (word_is (codes "uint64_t") s.rest behind h) ∙ variable_read n s (variable s.scope behind)

pub enum_goes : (s t : Decls) (behind : List Token) → word (codes "enum") s.rest ≡ Some behind → enum_step s behind ≡ Some t → (n : ℕ) → decls_run (suc n) s ≡ decls_run n t
enum_goes s t behind h e n = enum_by n s behind h ∙ ap (λ o. o >>= decls_run n) e

pub variable_goes : (s t : Decls) (behind : List Token) → word (codes "uint64_t") s.rest ≡ Some behind → variable_step s behind ≡ Some t → (n : ℕ) → decls_run (suc n) s ≡ decls_run n t
variable_goes s t behind h e n = variable_by n s behind h ∙ ap (λ o. o >>= decls_run n) e

no_word : (w v : Name) (ts : List Token) → word v (Word w ∷ ts) ≡ None → same_name w v ≡ false
no_word w v ts h = go (same_name w v) refl
  where
    go : (b : Bool) → same_name w v ≡ b → same_name w v ≡ false
    go false e = e
    go true e = absurd (let k : cond (same_name w v) (Some ts) None ≡ None = h in let m : cond true (Some ts) None ≡ None = ap (λ b. cond b (Some ts) None) (sym e) ∙ k in cc)

declarations_none : (n : ℕ) (scope : Scope) (next : ℕ) (ts : List Token) → word (codes "enum") ts ≡ None → word (codes "uint64_t") ts ≡ None → declarations n scope next ts ≡ Some (stopped scope ts)
declarations_none zero scope next ts h k = refl
declarations_none (suc n) scope next (Word w ∷ ts) h k =
    ap (λ b. cond b (enumeration scope ts >>= λ cs. declarations n (with_constants cs.tree scope) next cs.rest >>= λ more.
    Some (record { constants = cs.tree ++ more.constants; variables = more.variables; scope = more.scope; sound = cs.sound && more.sound; rest = more.rest }))
    (cond (same_name w (codes "uint64_t")) (variable scope ts >>= λ v. declarations n ((v.tree.name, AVariable next (length v.tree.lengths)) ∷ scope) (suc next) v.rest >>= λ more.
    Some (record { constants = more.constants; variables = v.tree ∷ more.variables; scope = more.scope; sound = v.sound && more.sound; rest = more.rest }))
    (Some (stopped scope (Word w ∷ ts))))) (no_word w (codes "enum") ts h)
    ∙ ap (λ b. cond b (variable scope ts >>= λ v. declarations n ((v.tree.name, AVariable next (length v.tree.lengths)) ∷ scope) (suc next) v.rest >>= λ more.
    Some (record { constants = more.constants; variables = v.tree ∷ more.variables; scope = more.scope; sound = v.sound && more.sound; rest = more.rest }))
    (Some (stopped scope (Word w ∷ ts)))) (no_word w (codes "uint64_t") ts k)
declarations_none (suc n) scope next [] h k = refl
declarations_none (suc n) scope next (IntegerConstant m s ∷ ts) h k = refl
declarations_none (suc n) scope next (StringLiteral cs o ∷ ts) h k = refl
declarations_none (suc n) scope next (Punctuator s ∷ ts) h k = refl
declarations_none (suc n) scope next (Header m ∷ ts) h k = refl
declarations_none (suc n) scope next (Line m ∷ ts) h k = refl

pub decls_end : (s : Decls) → word (codes "enum") s.rest ≡ None → word (codes "uint64_t") s.rest ≡ None → (n : ℕ) → decls_run n s ≡ Some s
decls_end s h k n = ap (behind_decls s) (declarations_none n s.scope (length s.variables) s.rest h k) ∙ alone s
