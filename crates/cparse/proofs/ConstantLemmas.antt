-- The turns of the loop over the constants of an enumeration.
use Rattle.std.specs.Prelude.{ℕ, suc, true, ◌&&◌, ◌≡◌, ◌-◌, List, [], ◌∷◌, ◌++◌, Option, Some, None}
use Rattle.std.proofs.Common.{refl, ap, ◌∙◌, arith}
use Rattle.semantics.specs.Tree.{Name, Source}
use Rattle.semantics.specs.Source.Token.{Token}
use Rattle.semantics.specs.Source.Typing.{constant}
use Rattle.semantics.specs.Source.Scope.{Scope, AConstant, with_constants}
use Rattle.cparse_grammar.specs.Reading.{Got, ◌>>=◌, got, chosen}
use Rattle.cparse_grammar.specs.Operators.{number_in, is_number}
use Rattle.cparse_grammar.specs.ExpressionReader.{expression}
use Rattle.cparse_grammar.specs.NextTokens.{new_name, equal_sign, comma}
use Rattle.cparse_grammar.specs.StatementReader.{is_unused}
use Rattle.cparse_grammar.specs.TextReader.{constants, value_of, has_value}
use Rattle.cparse_grammar.specs.DeclarationSteps.{constant_read, one_constant, and_then, visible}
use Rattle.cparse_cursor.specs.Outcome.{Fails}
use Rattle.cparse_cursor.specs.declared.stop.Stop.{Stop}
use Rattle.cparse_cursor.specs.declared.stop.Stop.TheVariants.{Memory, Syntax, Limit}
use Rattle.cparse.proofs.DeclarationLemmas.{behind_row, behind_nothing, row_one}

-- behind one constant
abbrev pub after : ℕ → Scope → Got (Name × ℕ) → Option (List Token) → Option (Got (List (Name × ℕ)))
after n scope one x =
    chosen x (got (one.tree ∷ []) one.sound one.rest) (λ next. constants n (visible one.tree ∷ scope) next >>= λ more. got (one.tree ∷ more.tree) (one.sound && more.sound) more.rest)

constants_by : (n : ℕ) (scope : Scope) (ts : List Token) → constants (suc n) scope ts ≡ (one_constant scope ts >>= λ one. after n scope one (comma one.rest))
constants_by n scope ts = first (new_name ts)
  where
    third : (w : Name) (o : Option (Got Source)) → (o >>= λ e. chosen (comma e.rest)
        (got ((w, value_of (constant (number_in e.tree))) ∷ []) (is_unused scope w && ((e.sound && is_number e.tree) && has_value (constant (number_in e.tree)))) e.rest)
        (λ next. constants n ((w, AConstant (value_of (constant (number_in e.tree)))) ∷ scope) next >>= λ more.
        got ((w, value_of (constant (number_in e.tree))) ∷ more.tree) ((is_unused scope w && ((e.sound && is_number e.tree) && has_value (constant (number_in e.tree)))) && more.sound) more.rest))
        ≡ (((o >>= λ e. got (constant (number_in e.tree)) (e.sound && is_number e.tree) e.rest) >>= λ v. got (w, value_of v.tree) (is_unused scope w && (v.sound && has_value v.tree)) v.rest) >>= λ one. after n scope one (comma one.rest))
    third w None = refl
    third w (Some e) = refl

    second : (w : Name) (o : Option (List Token)) → (o >>= λ behind. expression 64 scope behind >>= λ e. chosen (comma e.rest)
        (got ((w, value_of (constant (number_in e.tree))) ∷ []) (is_unused scope w && ((e.sound && is_number e.tree) && has_value (constant (number_in e.tree)))) e.rest)
        (λ next. constants n ((w, AConstant (value_of (constant (number_in e.tree)))) ∷ scope) next >>= λ more.
        got ((w, value_of (constant (number_in e.tree))) ∷ more.tree) ((is_unused scope w && ((e.sound && is_number e.tree) && has_value (constant (number_in e.tree)))) && more.sound) more.rest))
        ≡ ((o >>= λ behind. constant_read scope behind >>= λ v. got (w, value_of v.tree) (is_unused scope w && (v.sound && has_value v.tree)) v.rest) >>= λ one. after n scope one (comma one.rest))
    second w None = refl
    second w (Some behind) = third w (expression 64 scope behind)

    first : (o : Option (Name × List Token)) → (o >>= λ name. equal_sign name.1 >>= λ behind. expression 64 scope behind >>= λ e. chosen (comma e.rest)
        (got ((name.0, value_of (constant (number_in e.tree))) ∷ []) (is_unused scope name.0 && ((e.sound && is_number e.tree) && has_value (constant (number_in e.tree)))) e.rest)
        (λ next. constants n ((name.0, AConstant (value_of (constant (number_in e.tree)))) ∷ scope) next >>= λ more.
        got ((name.0, value_of (constant (number_in e.tree))) ∷ more.tree) ((is_unused scope name.0 && ((e.sound && is_number e.tree) && has_value (constant (number_in e.tree)))) && more.sound) more.rest))
        ≡ ((o >>= λ name. equal_sign name.1 >>= λ behind. constant_read scope behind >>= λ v. got (name.0, value_of v.tree) (is_unused scope name.0 && (v.sound && has_value v.tree)) v.rest) >>= λ one. after n scope one (comma one.rest))
    first None = refl
    first (Some name) = second name.0 (equal_sign name.1)

-- what the loop has read, and the names that are visible
abbrev pub constants_run : ℕ → Got (List (Name × ℕ)) × Scope → Option (Got (List (Name × ℕ)))
constants_run n s = behind_row s.0 (constants n s.1 s.0.rest)

pub constants_fail : (e : Stop) (row : Got (List (Name × ℕ))) (scope : Scope) → Fails e (one_constant scope row.rest) → (n : ℕ) → Fails e (constants_run (suc n) (row, scope))
constants_fail Memory row scope d n = tt
constants_fail (Syntax place) row scope d n = ap (behind_row row) (constants_by n scope row.rest) ∙ ap (λ o. behind_row row (o >>= λ one. after n scope one (comma one.rest))) d
constants_fail (Limit place) row scope d n = ap (behind_row row) (constants_by n scope row.rest) ∙ ap (λ o. behind_row row (o >>= λ one. after n scope one (comma one.rest))) d

-- one constant, and what comes behind it
one_by : (row : Got (List (Name × ℕ))) (scope : Scope) (one : Got (Name × ℕ)) (x : Option (List Token)) → one_constant scope row.rest ≡ Some one → comma one.rest ≡ x → (n : ℕ) → constants_run (suc n) (row, scope) ≡ behind_row row (after n scope one x)
one_by row scope one x d h n =
    ap (behind_row row) (constants_by n scope row.rest) ∙ ap (λ o. behind_row row (o >>= λ one. after n scope one (comma one.rest))) d ∙ ap (λ o. behind_row row (after n scope one o)) h

pub constants_last : (row : Got (List (Name × ℕ))) (scope : Scope) (one : Got (Name × ℕ)) → one_constant scope row.rest ≡ Some one → comma one.rest ≡ None → (n : ℕ) → constants_run (suc n) (row, scope) ≡ Some (and_then row one)
constants_last row scope one d h n = one_by row scope one None d h n

pub constants_more : (row : Got (List (Name × ℕ))) (scope : Scope) (one : Got (Name × ℕ)) (next : List Token) → one_constant scope row.rest ≡ Some one → comma one.rest ≡ Some next
    → (n : ℕ) → constants_run (suc n) (row, scope) ≡ constants_run n (record { tree = row.tree ++ one.tree ∷ []; sound = row.sound && one.sound; rest = next }, visible one.tree ∷ scope)
constants_more row scope one next d h n = one_by row scope one (Some next) d h n ∙ row_one row one (constants n (visible one.tree ∷ scope) next)

pub constants_begin : (n : ℕ) (scope : Scope) (ts : List Token) (items : List (Name × ℕ)) → items ≡ [] → constants_run (n - 0) (record { tree = items; sound = true; rest = ts }, scope) ≡ constants n scope ts
constants_begin n scope ts items e =
    let same : n - 0 ≡ n = omega arith in
    ap (λ m. constants_run m (record { tree = items; sound = true; rest = ts }, scope)) same
    ∙ ap (λ xs. behind_row (record { tree = xs; sound = true; rest = ts }) (constants n scope ts)) e ∙ behind_nothing (constants n scope ts) ts

-- the last constant is innermost
pub with_last : (cs : List (Name × ℕ)) (c : Name × ℕ) (scope : Scope) → with_constants (cs ++ c ∷ []) scope ≡ visible c ∷ with_constants cs scope
with_last [] c scope = refl
with_last (d ∷ cs) c scope = with_last cs c ((d.0, AConstant d.1) ∷ scope)
