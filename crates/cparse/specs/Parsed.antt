-- Why a text is not parsed.
use Rattle.std.specs.Prelude.{ℕ, ◌≡◌, List}
use Rattle.semantics.specs.Tree.{Kernel}
use Rattle.semantics.specs.Source.Grammar.{ReadsText}
use Rattle.ktree.specs.declared.refusal.Refusal.{Refusal}
use Rattle.ktree.specs.declared.refusal.Refusal.TheVariants.{Syntax, NumberOutOfRange, UnknownName, NameTwice, Operands, Limit, OutOfMemory}
use Rattle.cparse_cursor.specs.declared.stop.Stop.{Stop}
use Rattle.cparse_cursor.specs.declared.stop.Stop.TheVariants as stop

-- no tree is read from the text
abbrev pub HasNoTree : List ℕ → Type 0
HasNoTree text = (tree : Kernel) → ReadsText text tree → ⊥

-- memory was refused, or no tree is read from the text
abbrev pub RefusesTree : List ℕ → Refusal → Type 0
RefusesTree text (Syntax place) = HasNoTree text
RefusesTree text (NumberOutOfRange place) = HasNoTree text
RefusesTree text (UnknownName place) = HasNoTree text
RefusesTree text (NameTwice place) = HasNoTree text
RefusesTree text (Operands place) = HasNoTree text
RefusesTree text (Limit place) = HasNoTree text
RefusesTree text OutOfMemory = Unit {0}
RefusesTree text _ = ⊥

-- reading stops for want of memory, or where there is no tree
abbrev pub StopsFor : List ℕ → Stop → Type 0
StopsFor text stop.Memory = Unit {0}
StopsFor text (stop.Syntax place) = HasNoTree text
StopsFor text (stop.Limit place) = HasNoTree text

-- a text has one tree
abbrev pub TreesAreUnique : Type 0
TreesAreUnique = (text : List ℕ) (a b : Kernel) → ReadsText text a → ReadsText text b → a ≡ b
