-- Reading each number as 1 is reading tokens in which each number stands as 1.
use Rattle.std.specs.Prelude.{ℕ, zero, suc, Bool, true, false, ◌&&◌, ◌≡◌, ◌^◌, nat_le, List, [], ◌∷◌, ◌++◌, Option, Some, None, option_map, ℤ, codes}
use Rattle.std.specs.List.{list_all}
use Rattle.std.proofs.Common.{cond, refl, sym, ap, ◌∙◌, arith}
use Rattle.std.proofs.lemmas.Bool.{cond-true, cond-false}
use Rattle.std.proofs.lemmas.Bool.Decides.{nat_tests}
use Rattle.semantics.specs.Tree.{Name}
use Rattle.semantics.specs.Source.Token.{Token, Word, Punctuator, OpenParen, CloseParen, Comma, Colon}
use Rattle.semantics.specs.Source.Cuts.{is_digit, is_letter, is_name, is_decimal}
use Rattle.semantics.specs.Source.Scope.{same_name}
use Rattle.semantics.specs.Directives.Directive.{Clause}
use Rattle.semantics.specs.Directives.DirectiveGrammar as grammar
use Rattle.semantics.specs.Directives.DirectiveGrammar.{is_list_name, each_once, ReadsElement}
use Rattle.cparse_grammar.specs.Reading.{◌>>=◌, chosen}
use Rattle.cparse_grammar.specs.NextTokens as ahead
use Rattle.cparse_grammar.proofs.Binds.{first_true}
use Rattle.pragma_clause.specs.ClauseReader as reader
use Rattle.pragma_clause.specs.ClauseReader.{Reads, run, is_end, name_in, name, listed, names, number_in, number}
use Rattle.pragma_clause.specs.DirectiveReader as directives
use Rattle.pragma_clause.specs.Ones.{is_number, one, ones}
use Rattle.pragma_clause.proofs.Steps.{same}
use Rattle.pragma_clause.proofs.DirectiveSound.{element_in_sound}

-- what was read, with the tokens behind it
abbrev kept : {A : Type 0} → A × List Token → A × List Token
kept x = (x.0, ones x.1)

-- a run, with the tokens behind it
abbrev run_kept : List ℕ × List Token → List ℕ × List Token
run_kept x = (one x.0, ones x.1)

-- a step and what comes behind it
step : {A C B D : Type 0} (j : A → C) (k : B → D) (o : Option A) (p : Option C) (f : A → Option B) (g : C → Option D) → p ≡ option_map j o → ((x : A) → g (j x) ≡ option_map k (f x)) → (p >>= g) ≡ option_map k (o >>= f)
step j k None p f g e h = ap (λ o. o >>= g) e
step j k (Some x) p f g e h = ap (λ o. o >>= g) e ∙ h x

-- a step that is the same
level : {A B D : Type 0} (k : B → D) (o p : Option A) (f : A → Option B) (g : A → Option D) → p ≡ o → ((x : A) → g x ≡ option_map k (f x)) → (p >>= g) ≡ option_map k (o >>= f)
level k None p f g e h = ap (λ o. o >>= g) e
level k (Some x) p f g e h = ap (λ o. o >>= g) e ∙ h x

-- a test that is the same
test : {B D : Type 0} (k : B → D) (b c : Bool) (x y : Option B) (u v : Option D) → c ≡ b → u ≡ option_map k x → v ≡ option_map k y → cond c u v ≡ option_map k (cond b x y)
test k true c x y u v e f g = cond-true _ _ _ e ∙ f
test k false c x y u v e f g = cond-false _ _ _ e ∙ g

-- a test of a table
row : {A : Type 0} (b c : Bool) (x u v : A) → c ≡ b → v ≡ u → cond c x v ≡ cond b x u
row true c x u v e f = cond-true _ _ _ e
row false c x u v e f = cond-false _ _ _ e ∙ f

-- what comes next decides
choice : {A C B D : Type 0} (j : A → C) (k : B → D) (o : Option A) (p : Option C) (x : Option B) (u : Option D) (f : A → Option B) (g : C → Option D) → p ≡ option_map j o → u ≡ option_map k x → ((y : A) → g (j y) ≡ option_map k (f y))
    → chosen p u g ≡ option_map k (chosen o x f)
choice j k None p x u f g e d h = ap (λ o. chosen o u g) e ∙ d
choice j k (Some y) p x u f g e d h = ap (λ o. chosen o u g) e ∙ h y

run_ones : (ts : List Token) → run (ones ts) ≡ option_map run_kept (run ts)
run_ones [] = refl
run_ones (Word w ∷ ts) = refl
run_ones ts = refl

open_ones : (ts : List Token) → ahead.open_paren (ones ts) ≡ option_map ones (ahead.open_paren ts)
open_ones [] = refl
open_ones (Punctuator s ∷ ts) = go s
  where
    go : (s : _) → ahead.open_paren (ones (Punctuator s ∷ ts)) ≡ option_map ones (ahead.open_paren (Punctuator s ∷ ts))
    go OpenParen = refl
    go s = refl
open_ones ts = refl

close_ones : (ts : List Token) → ahead.close_paren (ones ts) ≡ option_map ones (ahead.close_paren ts)
close_ones [] = refl
close_ones (Punctuator CloseParen ∷ ts) = refl
close_ones (Punctuator s ∷ ts) = refl
close_ones ts = refl

comma_ones : (ts : List Token) → ahead.comma (ones ts) ≡ option_map ones (ahead.comma ts)
comma_ones [] = refl
comma_ones (Punctuator Comma ∷ ts) = refl
comma_ones (Punctuator s ∷ ts) = refl
comma_ones ts = refl

colon_ones : (ts : List Token) → ahead.colon (ones ts) ≡ option_map ones (ahead.colon ts)
colon_ones [] = refl
colon_ones (Punctuator Colon ∷ ts) = refl
colon_ones (Punctuator s ∷ ts) = refl
colon_ones ts = refl

end_ones : (ts : List Token) → is_end (ones ts) ≡ is_end ts
end_ones [] = refl
end_ones (t ∷ ts) = refl

-- a word that is no number
keyword : (w v : List ℕ) → is_number v ≡ false → same_name (codes "1") v ≡ false → same_name (one w) v ≡ same_name w v
keyword w v e f = go (is_number w) refl
  where
    other : (b : Bool) → is_number w ≡ true → same_name w v ≡ b → same_name w v ≡ false
    other true g h = let d : true ≡ false = sym g ∙ (ap is_number (same w v h) ∙ e) in absurd (cc)
    other false g h = h

    go : (b : Bool) → is_number w ≡ b → same_name (cond b (codes "1") w) v ≡ same_name w v
    go true g = f ∙ sym (other (same_name w v) g refl)
    go false g = refl

word_ones : (v : Name) (ts : List Token) → is_number v ≡ false → same_name (codes "1") v ≡ false → ahead.word v (ones ts) ≡ option_map ones (ahead.word v ts)
word_ones v [] e f = refl
word_ones v (Word w ∷ ts) e f = test ones (same_name w v) (same_name (one w) v) (Some ts) None (Some (ones ts)) None (keyword w v e f) refl refl
word_ones v ts e f = refl

-- a text begins with a digit
abbrev begins_digit : List ℕ → Bool
begins_digit [] = false
begins_digit (b ∷ bs) = is_digit b

number_begins : (w : List ℕ) → is_number w ≡ true → begins_digit w ≡ true
number_begins [] h = absurd (cc)
number_begins (b ∷ []) h = first_true (is_digit b) _ h
number_begins (b ∷ c ∷ w) h = first_true (is_digit b) _ (first_true (is_decimal (b ∷ c ∷ w)) _ h)

no_letter : (b : ℕ) → is_letter b ≡ true → is_digit b ≡ false
no_letter b h = grind (arith, nat_tests)

name_begins : (x r : List ℕ) → is_list_name x ≡ true → begins_digit (x ++ r) ≡ false
name_begins [] r h = absurd (cc)
name_begins (b ∷ x) r h = no_letter b (first_true (is_letter b) _ (first_true (is_name (b ∷ x)) _ h))

name_in_ones : (w : List ℕ) → name_in (one w) ≡ name_in w
name_in_ones w = go (is_number w) refl
  where
    none' : (b : Bool) → is_number w ≡ true → is_list_name w ≡ b → None ≡ cond b (Some w) None
    none' true e h =
        let d : true ≡ false = sym (number_begins w e) ∙ (ap begins_digit (whole w) ∙ name_begins w [] h) in absurd (cc)
      where
        whole : (xs : List ℕ) → xs ≡ xs ++ []
        whole [] = refl
        whole (x ∷ xs) = ap (λ ys. x ∷ ys) (whole xs)
    none' false e h = refl

    go : (b : Bool) → is_number w ≡ b → name_in (cond b (codes "1") w) ≡ name_in w
    go true e = none' (is_list_name w) e refl
    go false e = refl

name_ones : (ts : List Token) → name (ones ts) ≡ option_map kept (name ts)
name_ones ts = step run_kept kept (run ts) (run (ones ts)) _ _ (run_ones ts) (λ w. level kept (name_in w.0) (name_in (one w.0)) _ _ (name_in_ones w.0) (λ x. refl))

listed_ones : {A : Type 0} (read : Reads A) → ((ts : List Token) → read (ones ts) ≡ option_map kept (read ts)) → (n : ℕ) (ys : List A) (ts : List Token) → listed read n ys (ones ts) ≡ option_map kept (listed read n ys ts)
listed_ones read h zero ys ts = refl
listed_ones read h (suc n) ys ts =
    step kept kept (read ts) (read (ones ts)) _ _ (h ts) (λ x.
    choice ones kept (ahead.comma x.1) (ahead.comma (ones x.1)) _ _ _ _ (comma_ones x.1) refl (λ behind. listed_ones read h n (ys ++ x.0 ∷ []) behind))

names_ones : (n : ℕ) (ts : List Token) → names n (ones ts) ≡ option_map kept (names n ts)
names_ones n ts = listed_ones name name_ones n [] ts

number_in_ones : (most : ℕ) (w : List ℕ) → nat_le 1 most ≡ true → number_in true most (one w) ≡ number_in false most w
number_in_ones most w h = go (is_number w) refl
  where
    go : (b : Bool) → is_number w ≡ b → number_in true most (cond b (codes "1") w) ≡ number_in false most w
    go true e = cond-true _ _ _ h ∙ sym (cond-true _ _ _ e)
    go false e = cond-false _ _ _ e ∙ sym (cond-false _ _ _ e)

number_ones : (most : ℕ) (ts : List Token) → nat_le 1 most ≡ true → number true most (ones ts) ≡ option_map kept (number false most ts)
number_ones most ts h =
    step run_kept kept (run ts) (run (ones ts)) _ _ (run_ones ts) (λ w. level kept (number_in false most w.0) (number_in true most (one w.0)) _ _ (number_in_ones most w.0 h) (λ x. refl))

size_ones : (ts : List Token) → reader.size true (ones ts) ≡ option_map kept (reader.size false ts)
size_ones ts =
    choice ones kept (ahead.comma ts) (ahead.comma (ones ts)) _ _ _ _ (comma_ones ts) refl (λ behind.
    step kept kept (number false (2 ^ 24) behind) (number true (2 ^ 24) (ones behind)) _ _ (number_ones (2 ^ 24) behind refl) (λ k. refl))

plain_kind_ones : (w : List ℕ) → reader.plain_kind (one w) ≡ reader.plain_kind w
plain_kind_ones w =
    row (same_name w (codes "static")) _ _ _ _ (keyword w (codes "static") refl refl)
    (row (same_name w (codes "dynamic")) _ _ _ _ (keyword w (codes "dynamic") refl refl)
    (row (same_name w (codes "guided")) _ _ _ _ (keyword w (codes "guided") refl refl)
    (row (same_name w (codes "auto")) _ _ _ _ (keyword w (codes "auto") refl refl) (row (same_name w (codes "runtime")) _ _ _ _ (keyword w (codes "runtime") refl refl) refl))))

sized_kind_ones : (w : List ℕ) (k : ℕ) → reader.sized_kind (one w) k ≡ reader.sized_kind w k
sized_kind_ones w k =
    row (same_name w (codes "static")) _ _ _ _ (keyword w (codes "static") refl refl)
    (row (same_name w (codes "dynamic")) _ _ _ _ (keyword w (codes "dynamic") refl refl) (row (same_name w (codes "guided")) _ _ _ _ (keyword w (codes "guided") refl refl) refl))

kind_ones : (w : List ℕ) (k : Option ℕ) → reader.kind (one w) k ≡ reader.kind w k
kind_ones w None = plain_kind_ones w
kind_ones w (Some k) = sized_kind_ones w k

schedule_ones : (ts : List Token) → reader.schedule true (ones ts) ≡ option_map kept (reader.schedule false ts)
schedule_ones ts =
    step run_kept kept (run ts) (run (ones ts)) _ _ (run_ones ts) (λ w. step kept kept (reader.size false w.1) (reader.size true (ones w.1)) _ _ (size_ones w.1) (λ k.
    level kept (reader.kind w.0 k.0) (reader.kind (one w.0) k.0) _ _ (kind_ones w.0 k.0) (λ s. refl)))

operator_ones : (w : List ℕ) → reader.operator (one w) ≡ reader.operator w
operator_ones w =
    row (same_name w (codes "+")) _ _ _ _ (keyword w (codes "+") refl refl)
    (row (same_name w (codes "*")) _ _ _ _ (keyword w (codes "*") refl refl)
    (row (same_name w (codes "&")) _ _ _ _ (keyword w (codes "&") refl refl)
    (row (same_name w (codes "|")) _ _ _ _ (keyword w (codes "|") refl refl)
    (row (same_name w (codes "^")) _ _ _ _ (keyword w (codes "^") refl refl)
    (row (same_name w (codes "&&")) _ _ _ _ (keyword w (codes "&&") refl refl)
    (row (same_name w (codes "||")) _ _ _ _ (keyword w (codes "||") refl refl)
    (row (same_name w (codes "max")) _ _ _ _ (keyword w (codes "max") refl refl) (row (same_name w (codes "min")) _ _ _ _ (keyword w (codes "min") refl refl) refl))))))))

identifier_ones : (ts : List Token) → reader.identifier (ones ts) ≡ option_map kept (reader.identifier ts)
identifier_ones ts =
    step run_kept kept (run ts) (run (ones ts)) _ _ (run_ones ts) (λ w. level kept (reader.operator w.0) (reader.operator (one w.0)) _ _ (operator_ones w.0) (λ op.
    step ones kept (ahead.colon w.1) (ahead.colon (ones w.1)) _ _ (colon_ones w.1) (λ behind. refl)))

inscan_ones : (ts : List Token) → reader.inscan (ones ts) ≡ option_map kept (reader.inscan ts)
inscan_ones ts =
    step ones kept (ahead.comma ts) (ahead.comma (ones ts)) _ _ (comma_ones ts) (λ behind.
    step kept kept (reader.identifier behind) (reader.identifier (ones behind)) _ _ (identifier_ones behind) (λ op. step kept kept (name op.1) (name (ones op.1)) _ _ (name_ones op.1) (λ x. refl)))

reduction_ones : (n : ℕ) (ts : List Token) → reader.reduction n (ones ts) ≡ option_map kept (reader.reduction n ts)
reduction_ones n ts =
    choice ones kept (ahead.word (codes "inscan") ts) (ahead.word (codes "inscan") (ones ts)) _ _ _ _ (word_ones (codes "inscan") ts refl refl)
    (step kept kept (reader.identifier ts) (reader.identifier (ones ts)) _ _ (identifier_ones ts) (λ op. step kept kept (names n op.1) (names n (ones op.1)) _ _ (names_ones n op.1) (λ xs. refl)))
    (λ behind. inscan_ones behind)

conditional_ones : (ts : List Token) → reader.conditional (ones ts) ≡ option_map ones (reader.conditional ts)
conditional_ones ts = step ones ones (ahead.word (codes "conditional") ts) (ahead.word (codes "conditional") (ones ts)) _ _ (word_ones (codes "conditional") ts refl refl) (λ behind. colon_ones behind)

last_ones : (n : ℕ) (ts : List Token) → reader.last n (ones ts) ≡ option_map kept (reader.last n ts)
last_ones n ts =
    choice ones kept (reader.conditional ts) (reader.conditional (ones ts)) _ _ _ _ (conditional_ones ts) (step kept kept (names n ts) (names n (ones ts)) _ _ (names_ones n ts) (λ xs. refl))
    (λ behind. step kept kept (names n behind) (names n (ones behind)) _ _ (names_ones n behind) (λ xs. refl))

naming_ones : (w : List ℕ) (xs : List Name) → reader.naming (one w) xs ≡ reader.naming w xs
naming_ones w xs =
    row (same_name w (codes "shared")) _ _ _ _ (keyword w (codes "shared") refl refl)
    (row (same_name w (codes "private")) _ _ _ _ (keyword w (codes "private") refl refl) (row (same_name w (codes "firstprivate")) _ _ _ _ (keyword w (codes "firstprivate") refl refl) refl))

named_ones : (n : ℕ) (w : List ℕ) (ts : List Token) → reader.named n (one w) (ones ts) ≡ option_map kept (reader.named n w ts)
named_ones n w ts =
    step kept kept (names n ts) (names n (ones ts)) _ _ (names_ones n ts) (λ xs. level kept (reader.naming w xs.0) (reader.naming (one w) xs.0) _ _ (naming_ones w xs.0) (λ c. refl))

default_ones : (w : List ℕ) → reader.default' (one w) ≡ reader.default' w
default_ones w =
    row (same_name w (codes "shared")) _ _ _ _ (keyword w (codes "shared") refl refl) (row (same_name w (codes "none")) _ _ _ _ (keyword w (codes "none") refl refl) refl)

plain_ones : (w : List ℕ) (ts : List Token) → reader.plain true (one w) (ones ts) ≡ option_map kept (reader.plain false w ts)
plain_ones w ts =
    test kept (same_name w (codes "default")) _ _ _ _ _ (keyword w (codes "default") refl refl)
    (step run_kept kept (run ts) (run (ones ts)) _ _ (run_ones ts) (λ v. level kept (reader.default' v.0) (reader.default' (one v.0)) _ _ (default_ones v.0) (λ c. refl)))
    (test kept (same_name w (codes "schedule")) _ _ _ _ _ (keyword w (codes "schedule") refl refl)
    (step kept kept (reader.schedule false ts) (reader.schedule true (ones ts)) _ _ (schedule_ones ts) (λ s. refl))
    (test kept (same_name w (codes "collapse")) _ _ _ _ _ (keyword w (codes "collapse") refl refl) (step kept kept (number false 4 ts) (number true 4 (ones ts)) _ _ (number_ones 4 ts refl) (λ c. refl)) refl))

is_plain_ones : (w : List ℕ) → reader.is_plain (one w) ≡ reader.is_plain w
is_plain_ones w =
    row (same_name w (codes "default")) _ _ _ _ (keyword w (codes "default") refl refl)
    (row (same_name w (codes "schedule")) _ _ _ _ (keyword w (codes "schedule") refl refl) (keyword w (codes "collapse") refl refl))

inside_ones : (n : ℕ) (w : List ℕ) (ts : List Token) → reader.inside true n (one w) (ones ts) ≡ option_map kept (reader.inside false n w ts)
inside_ones n w ts =
    test kept (reader.is_plain w) _ _ _ _ _ (is_plain_ones w) (plain_ones w ts)
    (test kept (same_name w (codes "reduction")) _ _ _ _ _ (keyword w (codes "reduction") refl refl) (reduction_ones n ts)
    (test kept (same_name w (codes "lastprivate")) _ _ _ _ _ (keyword w (codes "lastprivate") refl refl) (last_ones n ts) (named_ones n w ts)))

enclosed_ones : (n : ℕ) (w : List ℕ) (ts : List Token) → reader.enclosed true n (one w) (ones ts) ≡ option_map kept (reader.enclosed false n w ts)
enclosed_ones n w ts =
    step ones kept (ahead.open_paren ts) (ahead.open_paren (ones ts)) _ _ (open_ones ts) (λ inner. step kept kept (reader.inside false n w inner) (reader.inside true n (one w) (ones inner)) _ _ (inside_ones n w inner) (λ c.
    step ones kept (ahead.close_paren c.1) (ahead.close_paren (ones c.1)) _ _ (close_ones c.1) (λ rest. refl)))

loops_ones : (ts : List Token) → reader.loops true (ones ts) ≡ option_map kept (reader.loops false ts)
loops_ones ts =
    step kept kept (number false 4 ts) (number true 4 (ones ts)) _ _ (number_ones 4 ts refl) (λ n. step ones kept (ahead.close_paren n.1) (ahead.close_paren (ones n.1)) _ _ (close_ones n.1) (λ rest. refl))

ordered_clause_ones : (ts : List Token) → reader.ordered_clause true (ones ts) ≡ option_map kept (reader.ordered_clause false ts)
ordered_clause_ones ts = choice ones kept (ahead.open_paren ts) (ahead.open_paren (ones ts)) _ _ _ _ (open_ones ts) refl (λ inner. loops_ones inner)

clause_ones : (n : ℕ) (ts : List Token) → reader.clause true n (ones ts) ≡ option_map kept (reader.clause false n ts)
clause_ones n ts =
    step run_kept kept (run ts) (run (ones ts)) _ _ (run_ones ts) (λ w.
    test kept (same_name w.0 (codes "nowait")) _ _ _ _ _ (keyword w.0 (codes "nowait") refl refl) refl
    (test kept (same_name w.0 (codes "ordered")) _ _ _ _ _ (keyword w.0 (codes "ordered") refl refl) (ordered_clause_ones w.1) (enclosed_ones n w.0 w.1)))

behind_comma_ones : (ts : List Token) → reader.behind_comma (ones ts) ≡ ones (reader.behind_comma ts)
behind_comma_ones [] = refl
behind_comma_ones (Punctuator Comma ∷ ts) = refl
behind_comma_ones (Punctuator s ∷ ts) = refl
behind_comma_ones ts = refl

-- what is whole is the same
abbrev whole : {A : Type 0} → A → A
whole x = x

mapped_whole : {A : Type 0} (o : Option A) → o ≡ option_map whole o
mapped_whole None = refl
mapped_whole (Some x) = refl

further_ones : (most n : ℕ) (cs : List (Clause Name)) (ts : List Token) → reader.further true most n cs (ones ts) ≡ option_map whole (reader.further false most n cs ts)
further_ones most zero cs ts = refl
further_ones most (suc n) cs ts =
    test whole (is_end ts) _ _ _ _ _ (end_ones ts) refl
    (step kept whole (reader.clause false most (reader.behind_comma ts)) (reader.clause true most (reader.behind_comma (ones ts))) _ _
    (ap (reader.clause true most) (behind_comma_ones ts) ∙ clause_ones most (reader.behind_comma ts)) (λ c. further_ones most n (cs ++ c.0 ∷ []) c.1))

clauses_ones : (n : ℕ) (ts : List Token) → reader.clauses true n (ones ts) ≡ option_map whole (reader.clauses false n ts)
clauses_ones n ts = choice ones whole (ahead.comma ts) (ahead.comma (ones ts)) _ _ _ _ (comma_ones ts) (further_ones n n [] ts) (λ behind. refl)

directive_clauses_ones : (n : ℕ) (may : Clause Name → Bool) (ts : List Token) → reader.directive_clauses true n may (ones ts) ≡ option_map whole (reader.directive_clauses false n may ts)
directive_clauses_ones n may ts =
    step whole whole (reader.clauses false n ts) (reader.clauses true n (ones ts)) _ _ (clauses_ones n ts) (λ cs. test whole (list_all may cs && each_once cs) _ _ _ _ _ refl refl refl)

closes_ones : (ts : List Token) → directives.closes (ones ts) ≡ option_map ones (directives.closes ts)
closes_ones ts = step ones ones (ahead.close_paren ts) (ahead.close_paren (ones ts)) _ _ (close_ones ts) (λ rest. test ones (is_end rest) _ _ _ _ _ (end_ones rest) refl refl)

enclosed_name_ones : (ts : List Token) → directives.enclosed_name (ones ts) ≡ option_map whole (directives.enclosed_name ts)
enclosed_name_ones ts =
    step ones whole (ahead.open_paren ts) (ahead.open_paren (ones ts)) _ _ (open_ones ts) (λ inner. step kept whole (name inner) (name (ones inner)) _ _ (name_ones inner) (λ x.
    step ones whole (directives.closes x.1) (directives.closes (ones x.1)) _ _ (closes_ones x.1) (λ rest. refl)))

scan_kind_ones : (w : List ℕ) (x : Name) → directives.scan_kind (one w) x ≡ directives.scan_kind w x
scan_kind_ones w x =
    row (same_name w (codes "inclusive")) _ _ _ _ (keyword w (codes "inclusive") refl refl) (row (same_name w (codes "exclusive")) _ _ _ _ (keyword w (codes "exclusive") refl refl) refl)

scan_ones : (ts : List Token) → directives.scan (ones ts) ≡ option_map whole (directives.scan ts)
scan_ones ts =
    step run_kept whole (run ts) (run (ones ts)) _ _ (run_ones ts) (λ w. step whole whole (directives.enclosed_name w.1) (directives.enclosed_name (ones w.1)) _ _ (enclosed_name_ones w.1) (λ x.
    scan_kind_ones w.0 x ∙ mapped_whole (directives.scan_kind w.0 x)))

element_begins : (w : List ℕ) (e : Name × ℤ) → ReadsElement w e → begins_digit w ≡ false
element_begins _ _ (grammar.here {w = w} h) = ap begins_digit (end w) ∙ name_begins w [] h
  where
    end : (xs : List ℕ) → xs ≡ xs ++ []
    end [] = refl
    end (x ∷ xs) = ap (λ ys. x ∷ ys) (end xs)
element_begins _ _ (grammar.above {w = w} ds suffix h d r) = name_begins w _ h
element_begins _ _ (grammar.below {w = w} ds suffix h d r) = name_begins w _ h

element_in_ones : (w : List ℕ) → directives.element_in (one w) ≡ directives.element_in w
element_in_ones w = go (is_number w) refl
  where
    none' : (o : Option (Name × ℤ)) → is_number w ≡ true → directives.element_in w ≡ o → None ≡ o
    none' None e h = refl
    none' (Some x) e h = let d : true ≡ false = sym (number_begins w e) ∙ element_begins w x (element_in_sound w x h) in absurd (cc)

    go : (b : Bool) → is_number w ≡ b → directives.element_in (cond b (codes "1") w) ≡ directives.element_in w
    go true e = none' (directives.element_in w) e refl
    go false e = refl

element_ones : (ts : List Token) → directives.element (ones ts) ≡ option_map kept (directives.element ts)
element_ones ts =
    step run_kept kept (run ts) (run (ones ts)) _ _ (run_ones ts) (λ w. level kept (directives.element_in w.0) (directives.element_in (one w.0)) _ _ (element_in_ones w.0) (λ e. refl))

vector_ones : (n : ℕ) (ts : List Token) → directives.vector n (ones ts) ≡ option_map kept (directives.vector n ts)
vector_ones n ts = listed_ones directives.element element_ones n [] ts

dependence_ones : (n : ℕ) (w : List ℕ) (ts : List Token) → directives.dependence n (one w) (ones ts) ≡ option_map whole (directives.dependence n w ts)
dependence_ones n w ts =
    test whole (same_name w (codes "source")) _ _ _ _ _ (keyword w (codes "source") refl refl) (step ones whole (directives.closes ts) (directives.closes (ones ts)) _ _ (closes_ones ts) (λ rest. refl))
    (test whole (same_name w (codes "sink")) _ _ _ _ _ (keyword w (codes "sink") refl refl)
    (step kept whole (directives.vector n ts) (directives.vector n (ones ts)) _ _ (vector_ones n ts) (λ es. step ones whole (directives.closes es.1) (directives.closes (ones es.1)) _ _ (closes_ones es.1) (λ rest. refl))) refl)

doacross_ones : (n : ℕ) (ts : List Token) → directives.doacross n (ones ts) ≡ option_map whole (directives.doacross n ts)
doacross_ones n ts =
    step ones whole (ahead.open_paren ts) (ahead.open_paren (ones ts)) _ _ (open_ones ts) (λ inner. step run_kept whole (run inner) (run (ones inner)) _ _ (run_ones inner) (λ w.
    step ones whole (ahead.colon w.1) (ahead.colon (ones w.1)) _ _ (colon_ones w.1) (λ behind. dependence_ones n w.0 behind)))

ordered_ones : (n : ℕ) (ts : List Token) → directives.ordered n (ones ts) ≡ option_map whole (directives.ordered n ts)
ordered_ones n ts =
    test whole (is_end ts) _ _ _ _ _ (end_ones ts) refl
    (step ones whole (ahead.word (codes "doacross") ts) (ahead.word (codes "doacross") (ones ts)) _ _ (word_ones (codes "doacross") ts refl refl) (λ behind. doacross_ones n behind))

worksharing_ones : (n : ℕ) (ts : List Token) → directives.worksharing true n (ones ts) ≡ option_map whole (directives.worksharing false n ts)
worksharing_ones n ts =
    step whole whole (reader.directive_clauses false n grammar.on_for ts) (reader.directive_clauses true n grammar.on_for (ones ts)) _ _ (directive_clauses_ones n grammar.on_for ts) (λ cs. refl)

parallel_for_ones : (n : ℕ) (ts : List Token) → directives.parallel_for true n (ones ts) ≡ option_map whole (directives.parallel_for false n ts)
parallel_for_ones n ts =
    step whole whole (reader.directive_clauses false n grammar.on_parallel_for ts) (reader.directive_clauses true n grammar.on_parallel_for (ones ts)) _ _ (directive_clauses_ones n grammar.on_parallel_for ts) (λ cs. refl)

parallel_ones : (n : ℕ) (ts : List Token) → directives.parallel true n (ones ts) ≡ option_map whole (directives.parallel false n ts)
parallel_ones n ts =
    choice ones whole (ahead.word (codes "for") ts) (ahead.word (codes "for") (ones ts)) _ _ _ _ (word_ones (codes "for") ts refl refl)
    (step whole whole (reader.directive_clauses false n grammar.on_parallel ts) (reader.directive_clauses true n grammar.on_parallel (ones ts)) _ _ (directive_clauses_ones n grammar.on_parallel ts) (λ cs. refl))
    (λ behind. parallel_for_ones n behind)

directive_by_ones : (n : ℕ) (ts : List Token) → directives.directive true n (ones ts) ≡ option_map whole (directives.directive false n ts)
directive_by_ones n ts =
    step run_kept whole (run ts) (run (ones ts)) _ _ (run_ones ts) (λ w.
    test whole (same_name w.0 (codes "parallel")) _ _ _ _ _ (keyword w.0 (codes "parallel") refl refl) (parallel_ones n w.1)
    (test whole (same_name w.0 (codes "for")) _ _ _ _ _ (keyword w.0 (codes "for") refl refl) (worksharing_ones n w.1)
    (test whole (same_name w.0 (codes "scan")) _ _ _ _ _ (keyword w.0 (codes "scan") refl refl) (scan_ones w.1)
    (test whole (same_name w.0 (codes "ordered")) _ _ _ _ _ (keyword w.0 (codes "ordered") refl refl) (ordered_ones n w.1) refl))))

-- tokens read with 1 for each number are those with ones in place of the numbers
pub directive_ones : (n : ℕ) (ts : List Token) → directives.directive true n (ones ts) ≡ directives.directive false n ts
directive_ones n ts = directive_by_ones n ts ∙ sym (mapped_whole (directives.directive false n ts))
