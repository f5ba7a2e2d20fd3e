-- Loops of the reader: each turn reads what one more step of the definitions' reader reads.
use Rattle.std.proofs.Common.{◌≡◌, ℕ, zero, suc, ◌+◌, ◌-◌, ◌<◌, ◌≤◌, Bool, true, false, List, [], ◌∷◌, Option, Some, None, refl, sym, ap, subst, ◌∙◌, arith}
use Rattle.std.specs.Prelude.{◌&&◌}
use Rattle.semantics.specs.Tree.{Exprs, no_exprs, more_exprs, Source}
use Rattle.semantics.specs.Source.Token.{Token, Punctuator, OpenBracket}
use Rattle.cparse_grammar.specs.Reading.{Got, Reader, ◌>>=◌, got, chosen}
use Rattle.cparse_grammar.specs.Operators.{Infix, number_in, is_number}
use Rattle.cparse_grammar.specs.ExpressionReader.{Inner, subscripts, next_infix, join, further, choice}
use Rattle.cparse_grammar.specs.NextTokens.{close_bracket, open_bracket, colon}
use Rattle.cparse_cursor.specs.declared.stop.Stop.{Stop}
use Rattle.cparse_cursor.specs.declared.stop.Stop.TheVariants.{Memory, Syntax, Limit}
use Rattle.cparse_cursor.specs.Outcome.{Fails}
use Rattle.cparse_grammar.specs.ExpressionSteps.{and_one, with_subscript, second_arm, arms_behind}

-- one list of subscripts behind another
abbrev pub append_exprs : Exprs → Exprs → Exprs
append_exprs no_exprs ys = ys
append_exprs (more_exprs x xs) ys = more_exprs x (append_exprs xs ys)

-- what was read, with the subscripts in front of it
abbrev pub in_front : Got Exprs → Option (Got Exprs) → Option (Got Exprs)
in_front row read = read >>= λ x. got (append_exprs row.tree x.tree) (row.sound && x.sound) x.rest

append_one : (xs : Exprs) (e : _) (ys : Exprs) → append_exprs (and_one xs e) ys ≡ append_exprs xs (more_exprs e ys)
append_one no_exprs e ys = refl
append_one (more_exprs x xs) e ys = ap (more_exprs x) (append_one xs e ys)

append_none : (xs : Exprs) → append_exprs xs no_exprs ≡ xs
append_none no_exprs = refl
append_none (more_exprs x xs) = ap (more_exprs x) (append_none xs)

pub opens : (us ts : List Token) → open_bracket us ≡ Some ts → us ≡ Punctuator OpenBracket ∷ ts
opens (Punctuator OpenBracket ∷ us) ts e = cc
opens _ ts e = absurd cc

-- no operator of this reach comes next
pub further_ends : (m k : ℕ) (operand : Reader Source) (a : Got Source) → next_infix k a.rest ≡ None → further m k operand a ≡ Some a
further_ends zero k operand a e = refl
further_ends (suc n) k operand a e = ap (λ o. chosen o (Some a) (λ op. operand op.1 >>= λ b. further n k operand (join a op.0 b))) e

-- an operator comes next
further_by : (n k : ℕ) (operand : Reader Source) (a : Got Source) (op : Infix × List Token) → next_infix k a.rest ≡ Some op → further (suc n) k operand a ≡ operand op.1 >>= λ b. further n k operand (join a op.0 b)
further_by n k operand a op e = ap (λ o. chosen o (Some a) (λ op. operand op.1 >>= λ b. further n k operand (join a op.0 b))) e

further_failed : (e : Stop) (n k : ℕ) (operand : Reader Source) (a : Got Source) (op : Infix × List Token) → next_infix k a.rest ≡ Some op → Fails e (operand op.1) → Fails e (further (suc n) k operand a)
further_failed Memory n k operand a op h f = tt
further_failed (Syntax place) n k operand a op h f = further_by n k operand a op h ∙ ap (λ o. o >>= λ b. further n k operand (join a op.0 b)) f
further_failed (Limit place) n k operand a op h f = further_by n k operand a op h ∙ ap (λ o. o >>= λ b. further n k operand (join a op.0 b)) f

further_went : (n k : ℕ) (operand : Reader Source) (a : Got Source) (op : Infix × List Token) (b : Got Source) → next_infix k a.rest ≡ Some op → operand op.1 ≡ Some b → further (suc n) k operand a ≡ further n k operand (join a op.0 b)
further_went n k operand a op b h f = further_by n k operand a op h ∙ ap (λ o. o >>= λ b. further n k operand (join a op.0 b)) f

-- its right operand was not read
pub further_fails : (e : Stop) (count i k : ℕ) (operand : Reader Source) (a : Got Source) (op : Infix × List Token) (total : Option (Got Source)) → i < count → next_infix k a.rest ≡ Some op → Fails e (operand op.1) → further (count - i) k operand a ≡ total → Fails e total
further_fails e count i k operand a op total lt h f so_far =
    let one : count - i ≡ suc (count - (i + 1)) = omega arith in
    subst (Fails e) (ap (λ m. further m k operand a) (sym one) ∙ so_far) (further_failed e (count - (i + 1)) k operand a op h f)

-- it was read
pub further_goes : (count i k : ℕ) (operand : Reader Source) (a : Got Source) (op : Infix × List Token) (b : Got Source) (total : Option (Got Source)) → i < count → next_infix k a.rest ≡ Some op → operand op.1 ≡ Some b → further (count - i) k operand a ≡ total → further (count - (i + 1)) k operand (join a op.0 b) ≡ total
further_goes count i k operand a op b total lt h f so_far =
    let one : count - i ≡ suc (count - (i + 1)) = omega arith in
    sym (further_went (count - (i + 1)) k operand a op b h f) ∙ (ap (λ m. further m k operand a) (sym one) ∙ so_far)

-- no subscript comes next
pub subscripts_end : (m : ℕ) (inner : Inner) (ts : List Token) → open_bracket ts ≡ None → subscripts m inner ts ≡ got no_exprs true ts
subscripts_end zero inner ts e = refl
subscripts_end (suc n) inner [] e = refl
subscripts_end (suc n) inner (Punctuator OpenBracket ∷ ts) e = absurd cc
subscripts_end (suc n) inner (t ∷ ts) e = refl

-- one comes next
subscripts_by : (n : ℕ) (inner : Inner) (us ts : List Token) → open_bracket us ≡ Some ts → subscripts (suc n) inner us ≡ inner.whole ts >>= λ e. close_bracket e.rest >>= λ behind. subscripts n inner behind >>= λ es. got (more_exprs (number_in e.tree) es.tree) (e.sound && (is_number e.tree && es.sound)) es.rest
subscripts_by n inner us ts h = ap (subscripts (suc n) inner) (opens us ts h)

and_true : (b : Bool) → (b && true) ≡ b
and_true true = refl
and_true false = refl

and_regroup : (a b c d : Bool) → (a && (b && (c && d))) ≡ ((a && (b && c)) && d)
and_regroup true true c d = refl
and_regroup true false c d = refl
and_regroup false b c d = refl

abbrev got_exprs : Exprs → Bool → List Token → Option (Got Exprs)
got_exprs tree sound rest = got tree sound rest

-- what was read is all
in_front_none : (row : Got Exprs) → in_front row (got no_exprs true row.rest) ≡ Some row
in_front_none row = ap (λ tree. got_exprs tree (row.sound && true) row.rest) (append_none row.tree) ∙ ap (λ sound. got_exprs row.tree sound row.rest) (and_true row.sound)

in_front_one : (row : Got Exprs) (e : Got Source) (behind : List Token) (read : Option (Got Exprs)) → in_front row (read >>= λ es. got (more_exprs (number_in e.tree) es.tree) (e.sound && (is_number e.tree && es.sound)) es.rest) ≡ in_front (with_subscript row e behind) read
in_front_one row e behind None = refl
in_front_one row e behind (Some x) =
    ap (λ tree. got_exprs tree (row.sound && (e.sound && (is_number e.tree && x.sound))) x.rest) (sym (append_one row.tree (number_in e.tree) x.tree))
    ∙ ap (λ sound. got_exprs (append_exprs (and_one row.tree (number_in e.tree)) x.tree) sound x.rest) (and_regroup row.sound e.sound (is_number e.tree) x.sound)

pub row_begins : (read : Option (Got Exprs)) (ts : List Token) → in_front (record { tree = no_exprs; sound = true; rest = ts }) read ≡ read
row_begins None ts = refl
row_begins (Some x) ts = refl

pub row_ends : (m : ℕ) (inner : Inner) (row : Got Exprs) → open_bracket row.rest ≡ None → in_front row (subscripts m inner row.rest) ≡ Some row
row_ends m inner row e = ap (in_front row) (subscripts_end m inner row.rest e) ∙ in_front_none row

pub row_is_done : (count i : ℕ) (inner : Inner) (row : Got Exprs) (total : Option (Got Exprs)) → count ≤ i → in_front row (subscripts (count - i) inner row.rest) ≡ total → total ≡ Some row
row_is_done count i inner row total le so_far =
    let none' : count - i ≡ 0 = omega arith in
    sym so_far ∙ (ap (λ m. in_front row (subscripts m inner row.rest)) none' ∙ in_front_none row)

-- what stands at the front of the tokens behind a row
module _ (count i : ℕ) (inner : Inner) (row : Got Exprs) (ts : List Token) (total : Option (Got Exprs)) (lt : i < count) (h : open_bracket row.rest ≡ Some ts) (so_far : in_front row (subscripts (count - i) inner row.rest) ≡ total) where
  by_one : total ≡ in_front row (inner.whole ts >>= λ e. close_bracket e.rest >>= λ behind. subscripts (count - (i + 1)) inner behind >>= λ es. got (more_exprs (number_in e.tree) es.tree) (e.sound && (is_number e.tree && es.sound)) es.rest)
  by_one =
      let one : count - i ≡ suc (count - (i + 1)) = omega arith in
      sym so_far ∙ (ap (λ m. in_front row (subscripts m inner row.rest)) one ∙ ap (in_front row) (subscripts_by (count - (i + 1)) inner row.rest ts h))

  -- the subscript was not read
  pub row_fails : (e : Stop) → Fails e (inner.whole ts) → Fails e total
  row_fails Memory f = tt
  row_fails (Syntax place) f = by_one ∙ rw f refl
  row_fails (Limit place) f = by_one ∙ rw f refl

  -- what closes it was not there
  pub row_stays_open : (e : Stop) (x : Got Source) → inner.whole ts ≡ Some x → Fails e (close_bracket x.rest) → Fails e total
  row_stays_open Memory x w f = tt
  row_stays_open (Syntax place) x w f = by_one ∙ rw (w, f) refl
  row_stays_open (Limit place) x w f = by_one ∙ rw (w, f) refl

  -- it was read
  pub row_goes : (x : Got Source) (behind : List Token) → inner.whole ts ≡ Some x → close_bracket x.rest ≡ Some behind → in_front (with_subscript row x behind) (subscripts (count - (i + 1)) inner behind) ≡ total
  row_goes x behind w f = sym (by_one ∙ rw (w, f) (in_front_one row x behind (subscripts (count - (i + 1)) inner behind)))

abbrev there : {A : Type 0} → A → Option A
there x = Some x

-- what is there is one thing
pub same_some : {A : Type 0} (x y : A) → there x ≡ there y → x ≡ y
same_some x y e = cc

-- what is there was read, unless memory ran out
pub not_there : {A B : Type 0} (e : Stop) (x : A) (read : Option B) → Fails e (there x) → Fails e read
not_there Memory x read f = tt
not_there (Syntax place) x read f = absurd cc
not_there (Limit place) x read f = absurd cc

-- one step behind two others
then_none : {A B C : Type 0} (o : Option A) (f : A → Option B) (g : B → Option C) → (o >>= f) ≡ None → (o >>= λ x. f x >>= g) ≡ None
then_none None f g e = refl
then_none (Some x) f g e = ap (λ r. r >>= g) e

then_some : {A B C : Type 0} (o : Option A) (f : A → Option B) (g : B → Option C) (y : B) → (o >>= f) ≡ Some y → (o >>= λ x. f x >>= g) ≡ g y
then_some None f g y e = absurd cc
then_some (Some x) f g y e = ap (λ r. r >>= g) e

-- the arms behind a condition
module _ (inner : Inner) (c : Got Source) (ts : List Token) (a : Got Source) (is : inner.whole ts ≡ Some a) where
  by_first : arms_behind inner c ts ≡ colon a.rest >>= λ other. inner.whole other >>= λ b. choice c a b
  by_first = ap (λ o. o >>= λ a. colon a.rest >>= λ other. inner.whole other >>= λ b. choice c a b) is

  pub arms_fail : (e : Stop) → Fails e (second_arm inner a.rest) → Fails e (arms_behind inner c ts)
  arms_fail Memory f = tt
  arms_fail (Syntax place) f = by_first ∙ then_none (colon a.rest) inner.whole (choice c a) f
  arms_fail (Limit place) f = by_first ∙ then_none (colon a.rest) inner.whole (choice c a) f

  pub arms_go : (b : Got Source) → second_arm inner a.rest ≡ Some b → arms_behind inner c ts ≡ choice c a b
  arms_go b f = by_first ∙ then_some (colon a.rest) inner.whole (choice c a) b f
