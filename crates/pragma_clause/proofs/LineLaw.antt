-- What is told of a line, in the words of the grammar.
use Rattle.std.specs.Prelude.{ℕ, true, false, ◌≡◌, List, Some, None, is_some, Result, Ok, Err, IfOk, IfErr}
use Rattle.std.proofs.Common.{◌<◌, Option, Bool, length, cond, refl, sym, ◌∙◌, inl, inr, arith}
use Rattle.std.proofs.lemmas.Bool.{cond-true}
use Rattle.std.proofs.lemmas.List.{length-map}
use Rattle.semantics.specs.Tree.{Name}
use Rattle.semantics.specs.Source.Token.{Token}
use Rattle.semantics.specs.Source.Text.{is_directive_line, behind_omp}
use Rattle.semantics.specs.Directives.Directive as meant
use Rattle.semantics.specs.Directives.DirectiveGrammar.{words, ReadsLine}
use Rattle.ktree.specs.declared.directive.Written.{Written}
use Rattle.ktree.specs.declared.directive.Directive.{Directive}
use Rattle.ktree.specs.declared.place.Place.{Place}
use Rattle.ktree.specs.declared.refusal.Refusal.{Refusal}
use Rattle.ktree.specs.DirectiveView.{name_of, directive_of}
use Rattle.pragma_clause.specs.DirectiveReader.{directive, line_directive}
use Rattle.pragma_clause.specs.Ones.{with_one, ones}
use Rattle.pragma_clause.specs.Outcome.{HasForm, IsRefusal, IsTold}
use Rattle.pragma_clause.specs.Views.{written_directive}
use Rattle.pragma_clause.proofs.Steps.{no_some}
use Rattle.pragma_clause.proofs.DirectiveSound.{directive_sound, line_sound}
use Rattle.pragma_clause.proofs.DirectiveComplete.{directive_read, line_few, line_read}
use Rattle.pragma_clause.proofs.OnesLaw.{directive_ones}

pub ok_reads : (r : Result (Directive Written) Refusal) (bs : List ℕ) → IfOk r (λ d. line_directive true bs ≡ Some (written_directive d)) → IfOk r (λ d. ReadsLine bs (directive_of name_of d))
ok_reads (Ok d) bs h = line_sound bs (written_directive d) h
ok_reads (Err e) bs h = h

-- a line that is not read is none
refused : (bs : List ℕ) → line_directive true bs ≡ None → (d : meant.Directive Name) → ReadsLine bs d → ⊥
refused bs e d r = no_some (sym e ∙ line_read bs d r)

-- a line that is read with 1 for each number has the form
pub formed : (bs : List ℕ) → is_some (line_directive false bs) ≡ true → HasForm bs
formed bs h = go (is_directive_line bs) refl h
  where
    n : ℕ
    n = length bs

    ts : List Token
    ts = words (behind_omp bs)

    reads : (o : Option (meant.Directive Name)) → is_directive_line bs ≡ true → directive false n ts ≡ o → is_some o ≡ true → HasForm bs
    reads None l e h = absurd (cc)
    reads (Some d) l e h = record { is_line = l; directive = d; reads = directive_sound n (ones ts) d (directive_ones n ts ∙ e) }

    go : (b : Bool) → is_directive_line bs ≡ b → is_some (cond b (directive false n ts) None) ≡ true → HasForm bs
    go true e h = reads (directive false n ts) e refl h
    go false e h = absurd (cc)

-- and one that is not has not
pub formless : (bs : List ℕ) → line_directive false bs ≡ None → HasForm bs → ⊥
formless bs e h =
    let n : ℕ = length bs in
    let ts : List Token = words (behind_omp bs) in
    let fewer : length ts < n = line_few bs h.is_line in
    let few : length (ones ts) < n = omega (arith, length-map ts with_one) in
    no_some (sym e ∙ cond-true _ _ _ h.is_line ∙ sym (directive_ones n ts) ∙ directive_read h.reads n few)

refusal_told : (place : Place) (bs : List ℕ) (r : Refusal) → IsRefusal place bs r → IsTold place bs r
refusal_told place bs r (inl e) = inl e
refusal_told place bs r (inr (e, inl h)) = inr (inl (h.0, formed bs h.1), refused bs e)
refusal_told place bs r (inr (e, inr h)) = inr (inr (h.0, formless bs h.1), refused bs e)

pub err_told : (r : Result (Directive Written) Refusal) (place : Place) (bs : List ℕ) → IfErr r (IsRefusal place bs) → IfErr r (IsTold place bs)
err_told (Ok d) place bs h = h
err_told (Err e) place bs h = refusal_told place bs e h
