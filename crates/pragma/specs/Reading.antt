-- What the lines of a text are read as.
use Rattle.std.specs.Prelude.{ℕ, false, ◌≡◌, ◌⊎◌, ◌<◌, List, [], ◌∷◌, ◌++◌, Some, slice_get}
use Rattle.semantics.specs.Tree.{Name}
use Rattle.semantics.specs.Source.Text.{line_from}
use Rattle.semantics.specs.Directives.Directive.{Directive}
use Rattle.semantics.specs.Directives.DirectiveGrammar.{ReadsLine}
use Rattle.pragma.specs.declared.reading.Reading.{Reading}
use Rattle.pragma.specs.declared.reading.Reading.TheVariants.{Read, TooLarge, Malformed}
use Rattle.pragma.specs.declared.lines.LineReading.{LineReading}
use Rattle.ktree.specs.DirectiveView.{name_of, directive_of}
use Rattle.pragma_clause.specs.DirectiveReader.{line_directive}
use Rattle.pragma_clause.specs.Outcome.{HasForm}

-- no directive
abbrev pub ReadsNone : List ℕ → Type 0
ReadsNone line = (d : Directive Name) → ReadsLine line d → ⊥

-- a directive but for a number above its limit
abbrev pub IsTooLarge : List ℕ → Type 0
IsTooLarge line = HasForm line × ReadsNone line

-- a line is read as this
abbrev pub IsReading : List ℕ → Reading → Type 0
IsReading line (Read d) = ReadsLine line (directive_of name_of d)
IsReading line (TooLarge d) = IsTooLarge line × (line_directive false line ≡ Some (directive_of name_of d))
IsReading line Malformed = (HasForm line → ⊥) × ReadsNone line

-- each of these is what the line of its index is read as, and the indexes rise
pub record AreReadings (text : List ℕ) (lines : List LineReading) : Type 0 where
  pub each : (i : ℕ) (l : LineReading) → slice_get lines i ≡ Some l → IsReading (line_from l.index text) l.reading
  pub rising : (i j : ℕ) (k l : LineReading) → i < j → slice_get lines i ≡ Some k → slice_get lines j ≡ Some l → k.index < l.index

-- no line of these has the index
abbrev pub IsAbsent : List LineReading → ℕ → Type 0
IsAbsent lines n = (i : ℕ) (l : LineReading) → slice_get lines i ≡ Some l → l.index ≡ n → ⊥

-- the first so many lines of a text, by those that are well formed
pub record AreReadBelow (text : List ℕ) (lines : List LineReading) (k : ℕ) : Type 0 where
  pub found : AreReadings text lines
  pub below : (i : ℕ) (l : LineReading) → slice_get lines i ≡ Some l → l.index < k
  pub others : (n : ℕ) → n < k → IsAbsent lines n → IsReading (line_from n text) Malformed

-- all lines
pub record AreRead (text : List ℕ) (lines : List LineReading) : Type 0 where
  pub found : AreReadings text lines
  pub others : (n : ℕ) → IsAbsent lines n → IsReading (line_from n text) Malformed

-- one more line stands behind these, where it is well formed
abbrev pub AddsLine : ℕ → List ℕ → List LineReading → List LineReading → Type 0
AddsLine n line before after =
    (IsReading line Malformed × (after ≡ before)) ⊎ ((r : Reading) × IsReading line r × (after ≡ before ++ record { index = n; reading = r } ∷ []))
