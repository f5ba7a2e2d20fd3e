-- Formats and arguments, turn by turn.
use Rattle.std.proofs.Common.{◌≡◌, ℕ, zero, suc, Bool, true, false, List, [], ◌∷◌, ◌++◌, Option, Some, None, refl, sym, ap, ◌∙◌, append_assoc}
use Rattle.std.specs.Prelude.{◌&&◌, if◌then◌else◌, codes}
use Rattle.std.proofs.lemmas.List.{append-nil}
use Rattle.semantics.specs.Tree.{Expr, Source}
use Rattle.semantics.specs.Source.Token.{Token, StringLiteral, Punctuator, Comma}
use Rattle.semantics.specs.Source.Typing.{typed, plain}
use Rattle.cparse_cursor.specs.declared.stop.Stop.{Stop}
use Rattle.cparse_cursor.specs.declared.stop.Stop.TheVariants.{Memory, Syntax, Limit}
use Rattle.cparse_cursor.specs.Outcome.{Fails}
use Rattle.cparse_grammar.specs.Reading.{Got, Reader, ◌>>=◌, got}
use Rattle.cparse_grammar.specs.Operators.{number_in, is_number}
use Rattle.cparse_grammar.specs.NextTokens.{word, comma}
use Rattle.cparse_grammar.specs.PrintfReader.{starts_quoted, format, arguments, filled}
use Rattle.cparse_grammar.specs.PrintfSteps.{Turn, format_turn, turn_spots, with_turn, with_argument, part_at, arguments_behind}

-- what was read, behind a front that was read before
abbrev pub behind_front : {A : Type 0} → Got (List A) → Option (Got (List A)) → Option (Got (List A))
behind_front row read = read >>= λ x. got (row.tree ++ x.tree) (row.sound && x.sound) x.rest

abbrev got_list : {A : Type 0} → List A → Bool → List Token → Option (Got (List A))
got_list tree sound rest = got tree sound rest

and_true : (b : Bool) → (b && true) ≡ b
and_true true = refl
and_true false = refl

and_assoc : (a b c : Bool) → (a && (b && c)) ≡ ((a && b) && c)
and_assoc true b c = refl
and_assoc false b c = refl

pub front_begins : {A : Type 0} (read : Option (Got (List A))) (ts : List Token) → behind_front (record { tree = []; sound = true; rest = ts }) read ≡ read
front_begins None ts = refl
front_begins (Some x) ts = refl

pub front_ends : {A : Type 0} (row : Got (List A)) (rest : List Token) → behind_front row (got [] true rest) ≡ got row.tree row.sound rest
front_ends row rest = ap (λ tree. got_list tree (row.sound && true) rest) (append-nil row.tree) ∙ ap (λ sound. got_list row.tree sound rest) (and_true row.sound)

-- a part of the front that is read in one turn
pub front_moves : {A : Type 0} (row : Got (List A)) (one : List A) (sound : Bool) (rest : List Token) (read : Option (Got (List A)))
    → behind_front row (read >>= λ x. got (one ++ x.tree) (sound && x.sound) x.rest) ≡ behind_front (record { tree = row.tree ++ one; sound = row.sound && sound; rest = rest }) read
front_moves row one sound rest None = refl
front_moves row one sound rest (Some x) =
    ap (λ tree. got_list tree (row.sound && (sound && x.sound)) x.rest) (sym (append_assoc row.tree one x.tree))
    ∙ ap (λ s. got_list ((row.tree ++ one) ++ x.tree) s x.rest) (and_assoc row.sound sound x.sound)

-- ---- formats

-- what was read, behind the parts before it
abbrev pub behind_spots : Got (List (Option (List ℕ))) → Option (Got (List (Option (List ℕ)))) → Option (Got (List (Option (List ℕ))))
behind_spots row read = read >>= λ x. got (row.tree ++ x.tree) true x.rest

-- what is left of a format, behind what was read
abbrev pub format_run : ℕ → Got (List (Option (List ℕ))) → Option (Got (List (Option (List ℕ))))
format_run n row = behind_spots row (format n row.rest)

-- what a turn leaves to be read
after_turn : ℕ → Turn → Option (Got (List (Option (List ℕ))))
after_turn n t = if t.more then (format n t.rest >>= λ more. got (turn_spots t ++ more.tree) true more.rest) else got (turn_spots t) true t.rest

format_by : (n : ℕ) (ts : List Token) → format (suc n) ts ≡ format_turn ts >>= after_turn n
unfolding after_turn
format_by n [] = refl
format_by n (StringLiteral bs false ∷ ts) = refl
format_by n (StringLiteral bs true ∷ ts) = go (word (codes "PRIu64") ts)
  where
    go : (o : Option (List Token)) → (o >>= λ behind. (if starts_quoted behind then (format n behind >>= λ more. got (Some bs ∷ None ∷ more.tree) true more.rest) else got (Some bs ∷ None ∷ []) true behind)) ≡ (o >>= λ behind. Some (record { characters = bs; placed = true; more = starts_quoted behind; rest = behind })) >>= after_turn n
    go None = refl
    go (Some behind) = refl
format_by n (t ∷ ts) = refl

format_is_sound : (n : ℕ) (ts : List Token) → behind_spots (record { tree = []; sound = true; rest = ts }) (format n ts) ≡ format n ts
unfolding after_turn
format_is_sound zero ts = refl
format_is_sound (suc n) ts = ap (behind_spots (record { tree = []; sound = true; rest = ts })) (format_by n ts) ∙ (turn (format_turn ts) ∙ sym (format_by n ts))
  where
    more : (b : Bool) (t : Turn) (o : Option (Got (List (Option (List ℕ))))) → behind_spots (record { tree = []; sound = true; rest = ts }) (if b then (o >>= λ more. got (turn_spots t ++ more.tree) true more.rest) else got (turn_spots t) true t.rest) ≡ (if b then (o >>= λ more. got (turn_spots t ++ more.tree) true more.rest) else got (turn_spots t) true t.rest)
    more true t None = refl
    more true t (Some x) = refl
    more false t o = refl

    turn : (o : Option Turn) → behind_spots (record { tree = []; sound = true; rest = ts }) (o >>= after_turn n) ≡ o >>= after_turn n
    turn None = refl
    turn (Some t) = more t.more t (format n t.rest)

pub format_begins : (n : ℕ) (ts : List Token) → format_run n (record { tree = []; sound = true; rest = ts }) ≡ format n ts
format_begins n ts = format_is_sound n ts

format_step : (n : ℕ) (row : Got (List (Option (List ℕ)))) (t : Turn) → format_turn row.rest ≡ Some t → format_run (suc n) row ≡ behind_spots row (after_turn n t)
format_step n row t e = ap (behind_spots row) (format_by n row.rest ∙ ap (λ o. o >>= after_turn n) e)

-- a further string follows
pub format_goes : (n : ℕ) (row : Got (List (Option (List ℕ)))) (t : Turn) → format_turn row.rest ≡ Some t → t.more ≡ true → format_run (suc n) row ≡ format_run n (with_turn row t)
unfolding after_turn
format_goes n row t e more =
    format_step n row t e ∙ (ap (λ b. behind_spots row (if b then (format n t.rest >>= λ more. got (turn_spots t ++ more.tree) true more.rest) else got (turn_spots t) true t.rest)) more ∙ go (format n t.rest))
  where
    go : (o : Option (Got (List (Option (List ℕ))))) → behind_spots row (o >>= λ more. got (turn_spots t ++ more.tree) true more.rest) ≡ behind_spots (with_turn row t) o
    go None = refl
    go (Some x) = ap (λ tree. got_list tree true x.rest) (sym (append_assoc row.tree (turn_spots t) x.tree))

-- none follows
pub format_ends : (n : ℕ) (row : Got (List (Option (List ℕ)))) (t : Turn) → format_turn row.rest ≡ Some t → t.more ≡ false → format_run (suc n) row ≡ Some (with_turn row t)
unfolding after_turn
format_ends n row t e more =
    format_step n row t e ∙ ap (λ b. behind_spots row (if b then (format n t.rest >>= λ more. got (turn_spots t ++ more.tree) true more.rest) else got (turn_spots t) true t.rest)) more

-- no part of a format comes next
pub format_fails : (e : Stop) (n : ℕ) (row : Got (List (Option (List ℕ)))) → Fails e (format_turn row.rest) → Fails e (format_run (suc n) row)
format_fails Memory n row f = tt
format_fails (Syntax place) n row f = ap (behind_spots row) (format_by n row.rest ∙ ap (λ o. o >>= after_turn n) f)
format_fails (Limit place) n row f = ap (behind_spots row) (format_by n row.rest ∙ ap (λ o. o >>= after_turn n) f)

-- ---- arguments

-- what is left of the arguments, behind those that were read
abbrev pub arguments_run : Reader Source → ℕ → Got (List Expr) → Option (Got (List Expr))
arguments_run whole n row = behind_front row (arguments n whole row.rest)

-- what an argument leaves to be read
abbrev after_argument : Reader Source → ℕ → Got Source → Option (Got (List Expr))
after_argument whole n e = arguments n whole e.rest >>= λ es. got (number_in e.tree ∷ es.tree) ((e.sound && is_number e.tree) && ((typed (number_in e.tree) && plain (number_in e.tree)) && es.sound)) es.rest

arguments_end : (whole : Reader Source) (n : ℕ) (ts : List Token) → comma ts ≡ None → arguments n whole ts ≡ got [] true ts
arguments_end whole zero ts e = refl
arguments_end whole (suc n) [] e = refl
arguments_end whole (suc n) (Punctuator Comma ∷ ts) e = absurd cc
arguments_end whole (suc n) (t ∷ ts) e = refl

parts : (us ts : List Token) → comma us ≡ Some ts → us ≡ Punctuator Comma ∷ ts
parts (Punctuator Comma ∷ us) ts e = cc
parts _ ts e = absurd cc

arguments_by : (whole : Reader Source) (n : ℕ) (us ts : List Token) → comma us ≡ Some ts → arguments (suc n) whole us ≡ whole ts >>= after_argument whole n
arguments_by whole n us ts e = ap (arguments (suc n) whole) (parts us ts e)

pub arguments_over : (whole : Reader Source) (n : ℕ) (row : Got (List Expr)) → comma row.rest ≡ None → arguments_run whole n row ≡ Some row
arguments_over whole n row e = ap (behind_front row) (arguments_end whole n row.rest e) ∙ front_ends row row.rest

pub arguments_out : (whole : Reader Source) (row : Got (List Expr)) → arguments_run whole 0 row ≡ Some row
arguments_out whole row = front_ends row row.rest

pub arguments_fail : (e : Stop) (whole : Reader Source) (n : ℕ) (row : Got (List Expr)) (ts : List Token) → comma row.rest ≡ Some ts → Fails e (whole ts) → Fails e (arguments_run whole (suc n) row)
arguments_fail Memory whole n row ts h f = tt
arguments_fail (Syntax place) whole n row ts h f = ap (behind_front row) (arguments_by whole n row.rest ts h ∙ ap (λ o. o >>= after_argument whole n) f)
arguments_fail (Limit place) whole n row ts h f = ap (behind_front row) (arguments_by whole n row.rest ts h ∙ ap (λ o. o >>= after_argument whole n) f)

pub arguments_go : (whole : Reader Source) (n : ℕ) (row : Got (List Expr)) (ts : List Token) (e : Got Source) → comma row.rest ≡ Some ts → whole ts ≡ Some e → arguments_run whole (suc n) row ≡ arguments_run whole n (with_argument row e)
arguments_go whole n row ts e h w =
    ap (behind_front row) (arguments_by whole n row.rest ts h ∙ ap (λ o. o >>= after_argument whole n) w)
    ∙ (ap (behind_front row) (sounds (arguments n whole e.rest))
    ∙ front_moves row (number_in e.tree ∷ []) ((e.sound && is_number e.tree) && (typed (number_in e.tree) && plain (number_in e.tree))) e.rest (arguments n whole e.rest))
  where
    sounds : (o : Option (Got (List Expr))) → (o >>= λ es. got (number_in e.tree ∷ es.tree) ((e.sound && is_number e.tree) && ((typed (number_in e.tree) && plain (number_in e.tree)) && es.sound)) es.rest)
        ≡ (o >>= λ x. got ((number_in e.tree ∷ []) ++ x.tree) (((e.sound && is_number e.tree) && (typed (number_in e.tree) && plain (number_in e.tree))) && x.sound) x.rest)
    sounds None = refl
    sounds (Some x) = ap (λ s. got_list (number_in e.tree ∷ x.tree) s x.rest) (and_assoc (e.sound && is_number e.tree) (typed (number_in e.tree) && plain (number_in e.tree)) x.sound)

-- ---- what is printed

pub filled_by : (p : Option (List ℕ)) (ps : List (Option (List ℕ))) (es : List Expr) → filled (p ∷ ps) es ≡ part_at p es ∷ filled ps (arguments_behind p es)
filled_by (Some bs) ps es = refl
filled_by None ps [] = refl
filled_by None ps (e ∷ es) = refl
