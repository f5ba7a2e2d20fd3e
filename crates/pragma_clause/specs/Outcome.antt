-- What a reading function that needs memory answers.
use Rattle.std.specs.Prelude.{ℕ, true, false, ◌≡◌, ◌⊎◌, List, Option, is_some, Some, None, Result, Ok, Err}
use Rattle.ktree.specs.declared.place.Place.{Place}
use Rattle.ktree.specs.declared.refusal.Refusal.{Refusal}
use Rattle.ktree.specs.declared.refusal.Refusal.TheVariants as refusals
use Rattle.semantics.specs.Tree.{Name}
use Rattle.semantics.specs.Source.Text.{is_directive_line, behind_omp}
use Rattle.pragma_clause.specs.Ones.{ones}
use Rattle.semantics.specs.Directives.Directive.{Directive}
use Rattle.semantics.specs.Directives.DirectiveGrammar.{words, ReadsDirective, ReadsLine}
use Rattle.pragma_clause.specs.DirectiveReader.{line_directive}
use Rattle.pragma_clause.specs.declared.unread.Unread.{Unread}
use Rattle.pragma_clause.specs.declared.unread.Unread.TheVariants.{Malformed, OutOfMemory}

-- why nothing was read
abbrev pub Fails : {Y : Type 0} → Unread → Option Y → Type 0
Fails Malformed read = read ≡ None
Fails OutOfMemory read = Unit {0}

-- what was read, as it is viewed
abbrev pub Gives : {X Y : Type 0} → (X → Y) → Result X Unread → Option Y → Type 0
Gives view (Ok x) read = read ≡ Some (view x)
Gives view (Err e) read = Fails e read

-- a line is refused that is no directive whatever its numbers, or memory ran out
abbrev pub IsFormless : Place → List ℕ → Refusal → Type 0
IsFormless place bs r = (r ≡ refusals.OutOfMemory) ⊎ ((r ≡ refusals.Directive place) × (line_directive false bs ≡ None))

-- a line that is not read is refused by its numbers alone, or by its form, or memory ran out
abbrev pub IsRefusal : Place → List ℕ → Refusal → Type 0
IsRefusal place bs r =
    (r ≡ refusals.OutOfMemory)
    ⊎ ((line_directive true bs ≡ None)
    × (((r ≡ refusals.Limit place) × (is_some (line_directive false bs) ≡ true)) ⊎ ((r ≡ refusals.Directive place) × (line_directive false bs ≡ None))))

-- a line is refused by its numbers alone, or by its form
abbrev pub IsFault : Place → Type 0 → Refusal → Type 0
IsFault place P r = ((r ≡ refusals.Limit place) × P) ⊎ ((r ≡ refusals.Directive place) × (P → ⊥))

-- a line is a directive line but for the size of its numbers: the grammar has it with 1 in place of each bare literal from 1 on
pub record HasForm (bs : List ℕ) : Type 0 where
  pub is_line : is_directive_line bs ≡ true
  pub directive : Directive Name
  pub reads : ReadsDirective (ones (words (behind_omp bs))) directive

-- a line that the grammar does not have is refused by its numbers alone, or by its form, or memory ran out
abbrev pub IsTold : Place → List ℕ → Refusal → Type 0
IsTold place bs r = (r ≡ refusals.OutOfMemory) ⊎ (IsFault place (HasForm bs) r × ((d : Directive Name) → ReadsLine bs d → ⊥))
