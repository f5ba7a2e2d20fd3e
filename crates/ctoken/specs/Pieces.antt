-- What the code finds at the front of a text.
use Rattle.std.specs.Prelude.{ℕ, ◌≡◌, ◌≤◌, List, length, Option, Some, None, Result, Ok, Err}
use Rattle.semantics.specs.Source.Token as meant
use Rattle.ctoken.specs.Front as front
use Rattle.ctoken.specs.Meant.{IsKind}
use Rattle.ctoken.specs.declared.piece.Piece.{Piece}
use Rattle.ctoken.specs.declared.piece.Piece.TheVariants.{Gap, LineEnd, Token}

-- the piece is this front
abbrev pub IsFront : Piece → Option front.Piece → Type 0
IsFront (Gap k) o = o ≡ Some (front.Gap k)
IsFront LineEnd o = o ≡ Some front.Turn
IsFront (Token kind lead k) o = (t : meant.Token) × (o ≡ Some (front.Took lead k t)) × IsKind kind t

-- the front, or a place in the text where there is none
abbrev pub Gives : List ℕ → Result Piece ℕ → Option front.Piece → Type 0
Gives text (Ok p) o = IsFront p o
Gives text (Err at) o = (at ≤ length text) × (o ≡ None)
