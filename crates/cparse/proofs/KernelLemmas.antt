-- The steps of reading a whole text.
use Rattle.std.specs.Prelude.{ℕ, ◌&&◌, ◌≡◌, ◌^◌, nat_le, List, [], length, Option, Some}
use Rattle.std.proofs.Common.{sym, ap, ◌∙◌, subst}
use Rattle.semantics.specs.Tree.{Items}
use Rattle.semantics.specs.Source.Token.{Token}
use Rattle.semantics.specs.Source.Scope.{Scope}
use Rattle.semantics.specs.Source.Grammar.{elements}
use Rattle.cparse_grammar.specs.Reading.{◌>>=◌}
use Rattle.cparse_grammar.specs.StatementReader.{Told, items, statement}
use Rattle.cparse_grammar.specs.NextTokens.{close_brace}
use Rattle.cparse_grammar.specs.TextReader.{Decls, Whole, declarations, opening, behind_headers, at_end, kernel}
use Rattle.cparse_cursor.specs.Outcome.{Fails}
use Rattle.cparse_cursor.specs.declared.stop.Stop.{Stop}
use Rattle.cparse_cursor.specs.declared.stop.Stop.TheVariants.{Memory, Syntax, Limit}

-- behind the kernel's items
abbrev pub whole : Decls → Told Items → Whole
whole ds is = record { tree = record { constants = ds.constants; variables = ds.variables; body = is.tree }; sound = ds.sound && (is.sound && nat_le (elements ds.variables) (2 ^ 24)) }

abbrev pub finish : Decls → Told Items → Option Whole
finish ds is = close_brace is.rest >>= λ behind. at_end behind >>= λ end. Some (whole ds is)

-- the kernel's items, with so many variables before them
abbrev pub body : Decls → ℕ → List Token → Option (Told Items)
body ds n inner = items (length inner) 63 (statement 63) ds.scope (record { next = n; left = 4096 }) inner

pub kernel_items : (ts front inner : List Token) (scope : Scope) (ds : Decls) (n : ℕ) → front ≡ behind_headers ts → scope ≡ [] → declarations (length front) scope 0 front ≡ Some ds → opening ds.rest ≡ Some inner → n ≡ length ds.variables → kernel ts ≡ (body ds n inner >>= finish ds)
unfolding kernel
kernel_items ts front inner scope ds n e s d o h =
    ap (λ xs. declarations (length xs) [] 0 xs >>= λ ds. opening ds.rest >>= λ inner. body ds (length ds.variables) inner >>= finish ds) (sym e)
    ∙ ap (λ x. declarations (length front) x 0 front >>= λ ds. opening ds.rest >>= λ inner. body ds (length ds.variables) inner >>= finish ds) (sym s)
    ∙ ap (λ x. x >>= λ ds. opening ds.rest >>= λ inner. body ds (length ds.variables) inner >>= finish ds) d
    ∙ ap (λ x. x >>= λ inner. body ds (length ds.variables) inner >>= finish ds) o
    ∙ ap (λ m. body ds m inner >>= finish ds) (sym h)

pub fails_bind : {A B : Type 0} (e : Stop) (o : Option A) (f : A → Option B) → Fails e o → Fails e (o >>= f)
fails_bind Memory o f h = tt
fails_bind (Syntax place) o f h = ap (λ x. x >>= f) h
fails_bind (Limit place) o f h = ap (λ x. x >>= f) h

pub fails_to : {B : Type 0} (e : Stop) (x y : Option B) → x ≡ y → Fails e y → Fails e x
fails_to e x y h f = subst (Fails e) (sym h) f

pub body_fails : (e : Stop) (ts inner : List Token) (ds : Decls) (n : ℕ) → kernel ts ≡ (body ds n inner >>= finish ds) → Fails e (body ds n inner) → Fails e (kernel ts)
body_fails e ts inner ds n h f = fails_to e (kernel ts) (body ds n inner >>= finish ds) h (fails_bind e (body ds n inner) (finish ds) f)

pub brace_fails : (e : Stop) (ts inner : List Token) (ds : Decls) (n : ℕ) (is : Told Items) → kernel ts ≡ (body ds n inner >>= finish ds) → body ds n inner ≡ Some is → Fails e (close_brace is.rest) → Fails e (kernel ts)
brace_fails e ts inner ds n is h b f = fails_to e (kernel ts) (finish ds is) (h ∙ ap (λ o. o >>= finish ds) b) (fails_bind e (close_brace is.rest) (λ behind. at_end behind >>= λ end. Some (whole ds is)) f)

pub end_fails : (e : Stop) (ts inner : List Token) (ds : Decls) (n : ℕ) (is : Told Items) (behind : List Token) → kernel ts ≡ (body ds n inner >>= finish ds) → body ds n inner ≡ Some is → close_brace is.rest ≡ Some behind → Fails e (at_end behind) → Fails e (kernel ts)
end_fails e ts inner ds n is behind h b c f =
    fails_to e (kernel ts) (at_end behind >>= λ end. Some (whole ds is)) (h ∙ ap (λ o. o >>= finish ds) b ∙ ap (λ o. o >>= λ behind. at_end behind >>= λ end. Some (whole ds is)) c) (fails_bind e (at_end behind) (λ end. Some (whole ds is)) f)

pub kernel_done : (ts inner : List Token) (ds : Decls) (n : ℕ) (is : Told Items) (behind end : List Token) → kernel ts ≡ (body ds n inner >>= finish ds) → body ds n inner ≡ Some is → close_brace is.rest ≡ Some behind → at_end behind ≡ Some end → kernel ts ≡ Some (whole ds is)
kernel_done ts inner ds n is behind end h b c d = h ∙ ap (λ o. o >>= finish ds) b ∙ ap (λ o. o >>= λ behind. at_end behind >>= λ end. Some (whole ds is)) c ∙ ap (λ o. o >>= λ end. Some (whole ds is)) d
