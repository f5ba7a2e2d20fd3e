-- What a loop's directive says, and what a line is read as.
use Rattle.std.specs.Prelude.{ℕ, true, false, ◌≡◌, List, Option, Some, None, is_some}
use Rattle.std.proofs.Common.{◌⊎◌, refl, sym, ap, ◌∙◌, subst, inl, inr}
use Rattle.semantics.specs.Tree.{Name}
use Rattle.semantics.specs.Directives.Directive.{Schedule, Directive}
use Rattle.semantics.specs.Directives.DirectiveGrammar.{ReadsLine}
use Rattle.ktree.specs.DirectiveView.{name_of, directive_of}
use Rattle.ktree.specs.declared.directive.Written.{Written}
use Rattle.ktree.specs.declared.directive.Directive as Read
use Rattle.ktree.specs.declared.place.Place.{Place}
use Rattle.ktree.specs.declared.refusal.Refusal.{Refusal}
use Rattle.ktree.specs.declared.refusal.Refusal.TheVariants as refusals
use Rattle.cparse_grammar.specs.Reading.{chosen}
use Rattle.pragma_clause.specs.DirectiveReader.{line_directive, line_form}
use Rattle.pragma_clause.specs.Outcome.{HasForm, IsFault, IsFormless, IsTold}
use Rattle.pragma_clause.proofs.DirectiveSound.{line_sound}
use Rattle.pragma_clause.proofs.DirectiveComplete.{line_read}
use Rattle.pragma_clause.proofs.LineLaw.{formed, formless}
use Rattle.pragma.specs.Clauses.{Said, ReadsLoop, loop_of}
use Rattle.pragma.specs.Reading.{ReadsNone, IsTooLarge, IsReading}
use Rattle.pragma.specs.declared.reading.Reading.{Reading}
use Rattle.pragma.specs.declared.reading.Reading.TheVariants as readings

-- ---- a line is read in one way

same_said : {s t : Said} → Some s ≡ Some t → s ≡ t
same_said e = cc e

same_directive : {d e : Directive Name} → Some d ≡ Some e → d ≡ e
same_directive e = cc e

pub one_directive : (line : List ℕ) (k : Option Schedule) (c : Option ℕ) (m : Option Schedule) (d : Option ℕ) (p : ReadsLoop line k c) (q : ReadsLoop line m d) → p.directive ≡ q.directive
one_directive line k c m d p q = same_directive (sym (line_read line p.directive p.reads) ∙ line_read line q.directive q.reads)

pub read_once : (line : List ℕ) (k : Option Schedule) (c : Option ℕ) (m : Option Schedule) (d : Option ℕ) → ReadsLoop line k c → ReadsLoop line m d → (k ≡ m) × (c ≡ d)
read_once line k c m d p q = (ap (λ (s : Said). s.0) same, ap (λ (s : Said). s.1) same)
  where
    left : Said
    left = (k, c)

    right : Said
    right = (m, d)

    same : left ≡ right
    same = same_said (sym p.says ∙ ap loop_of (one_directive line k c m d p q) ∙ q.says)

-- what is read of a line is its directive
the_directive : (line : List ℕ) (d : Directive Name) (k : Option Schedule) (c : Option ℕ) → ReadsLine line d → ReadsLoop line k c → loop_of d ≡ Some (k, c)
the_directive line d k c e r = ap loop_of (same_directive (sym (line_read line d e) ∙ line_read line r.directive r.reads)) ∙ r.says

-- what a directive says is what its line says
pub loop_read : (line : List ℕ) (d : Directive Name) (k : Option Schedule) (c : Option ℕ) → ReadsLine line d → loop_of d ≡ Some (k, c) → ReadsLoop line k c
loop_read line d k c e f = record { directive = d; reads = e; says = f }

-- and where it says nothing the line does not
pub no_loop : (line : List ℕ) (d : Directive Name) → ReadsLine line d → loop_of d ≡ None → (k : Option Schedule) (c : Option ℕ) → ReadsLoop line k c → ⊥
no_loop line d e f k c r = absurd (cc (sym f ∙ the_directive line d k c e r))

-- a directive that says nothing is not refused by its numbers
pub read_fault : (line : List ℕ) (place : Place) (d : Directive Name) → ReadsLine line d → IsFault place (IsTooLarge line) (refusals.Directive place)
read_fault line place d e = inr (refl, λ (t : IsTooLarge line). t.1 d e)

-- a line that is no directive is none of a loop
pub none_said : (line : List ℕ) (place : Place) (r : Refusal) → IsFault place (HasForm line) r × ReadsNone line
    → IsFault place (IsTooLarge line) r × ((k : Option Schedule) (c : Option ℕ) → ReadsLoop line k c → ⊥)
none_said line place r (inl f, n) = (inl (f.0, (f.1, n)), λ k c l. n l.directive l.reads)
none_said line place r (inr f, n) = (inr (f.0, λ (t : IsTooLarge line). f.1 t.0), λ k c l. n l.directive l.reads)

-- ---- readings

pub too_large : (line : List ℕ) (place other : Place) (r : Refusal) → r ≡ refusals.Limit other → IsTold place line r → IsTooLarge line
too_large line place other r l (inl m) = absurd (cc (sym l ∙ m))
too_large line place other r l (inr (inl t, n)) = (t.1, n)
too_large line place other r l (inr (inr t, n)) = absurd (cc (sym l ∙ t.0))

pub malformed : (line : List ℕ) (place : Place) (r : Refusal) → (r ≡ refusals.OutOfMemory → ⊥) → ((other : Place) → r ≡ refusals.Limit other → ⊥) → IsTold place line r → IsReading line readings.Malformed
malformed line place r m l (inl x) = absurd (m x)
malformed line place r m l (inr (inl t, n)) = absurd (l place t.0)
malformed line place r m l (inr (inr t, n)) = (t.1, n)

-- where numbers alone are too large, a second reading fails by want of memory alone
pub memory_alone : (line : List ℕ) (place : Place) (r : Refusal) → IsTooLarge line → IsFormless place line r → r ≡ refusals.OutOfMemory
memory_alone line place r t (inl e) = e
memory_alone line place r t (inr e) = absurd (formless line e.1 t.0)

-- ---- directives whatever their numbers

pub none_read : (line : List ℕ) → ReadsNone line → line_directive true line ≡ None
none_read line n = go (line_directive true line) refl
  where
    go : (o : Option (Directive Name)) → line_directive true line ≡ o → o ≡ None
    go None e = refl
    go (Some d) e = absurd (n d (line_sound line d e))

or_form : (line : List ℕ) (o : Option (Directive Name)) → line_directive true line ≡ o → line_form line ≡ chosen o (line_directive false line) Some
or_form line o e = ap (λ o. chosen o (line_directive false line) Some) e

-- of a line that is read as one, or as one but for its numbers
pub form_of_reading : (line : List ℕ) (r : Reading) (d : Read.Directive Written) → (r ≡ readings.Read d) ⊎ (r ≡ readings.TooLarge d) → IsReading line r → line_form line ≡ Some (directive_of name_of d)
form_of_reading line r d (inl e) h = or_form line (Some (directive_of name_of d)) (line_read line (directive_of name_of d) (subst (IsReading line) e h))
form_of_reading line r d (inr e) h = let large : IsReading line (readings.TooLarge d) = subst (IsReading line) e h in or_form line None (none_read line large.0.1) ∙ large.1

pub no_form : (line : List ℕ) → IsReading line readings.Malformed → line_form line ≡ None
no_form line h = or_form line None (none_read line h.1) ∙ go (line_directive false line) refl
  where
    go : (o : Option (Directive Name)) → line_directive false line ≡ o → o ≡ None
    go None e = refl
    go (Some d) e = absurd (h.0 (formed line (ap is_some e)))
