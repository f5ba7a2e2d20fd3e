-- What is known of an accepted kernel where a part of it is outlined.
use Rattle.std.specs.Prelude.{ℕ, ◌≡◌, ◌<◌, ◌≤◌, true, List, map, Contains}
use Rattle.semantics.specs.Tree.{Variable}
use Rattle.semantics.specs.Meaning.Agrees.{is_among}
use Rattle.semantics.specs.Loops.Nest.{Loop}
use Rattle.affine.specs.declared.interval.Side.{Side}
use Rattle.affine_expr.specs.Forms.{is_counter}
use Rattle.flow.specs.Roles.{LineData}
use Rattle.law_independence.specs.Said.{LinesInside}
use Rattle.outline.specs.declared.handing.Loops.{Loops}
use Rattle.outline.specs.Handed.{AreOfText, inside_told}

-- the variables of a box are those of serial loops, and have registers
abbrev pub IsRound : ℕ → List Loop → List Side → Type 0
IsRound mark serial box = (x : Variable) → is_counter box x ≡ true → (x < mark) × Contains (map (λ l. l.variable) serial) x

-- private variables of lines are locals: they have numbers behind those of so many file-scope variables (OpenMP 5.2, 5.4.3)
abbrev pub ArePrivateLocals : ℕ → LineData → Type 0
ArePrivateLocals files R = (line : ℕ) (x : Variable) → is_among (R line).roles.privates x ≡ true → files ≤ x

-- the loops round a place, and the tables of what the text's directive lines say, over so many file-scope variables
pub record IsGiven (files mark : ℕ) (text : List ℕ) (R : LineData) (P : LinesInside) (loops : Loops) (serial : List Loop) (box : List Side) : Type 0 where
  pub round : IsRound mark serial box
  pub table : AreOfText text R loops.parallel.now
  pub inside : P ≡ inside_told loops
  pub privates : ArePrivateLocals files R
