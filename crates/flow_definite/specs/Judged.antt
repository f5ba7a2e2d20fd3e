-- How the judgement on a text's names ends.
use Rattle.std.specs.Prelude.{ℕ, ◌≡◌, ◌⊎◌, Bool, true, false, not, nat_lt, List, [], filter, flat_map, Option, Some, None, slice_get}
use Rattle.semantics.specs.Tree
use Rattle.semantics.specs.Tree.{Variable, Items}
use Rattle.semantics.specs.Directives.Clauses.{private_of}
use Rattle.semantics.specs.Meaning.Definite.{DefinitelyAssigned, Privates, may_read, IsDefinite}
use Rattle.pragma_named.specs.Known.{Known, lines_known}
use Rattle.ktree.specs.Numbers.{number_of}
use Rattle.ktree.specs.View.{kernel_of}
use Rattle.ktree.specs.declared.refusal.Refusal.{Refusal}
use Rattle.ktree.specs.declared.refusal.Refusal.TheVariants as refusals
use Rattle.ktree.specs.declared.statement.Kernel.{Kernel}
use Rattle.flow_definite.specs.declared.fault.ReadFault.{ReadFault}
use Rattle.flow_definite.specs.declared.fault.ReadFault.TheVariants.{Unassigned, OutOfMemory}

-- what is known of a variable, or of each behind the last
abbrev pub known_at : Bool → Option Bool → Bool
known_at others None = others
known_at others (Some b) = b

-- what is known, by the numbers of the first variables, and of all others
abbrev pub known_of : List Bool × Bool → DefinitelyAssigned
known_of k x = known_at k.1 (slice_get k.0 x)

-- a local, where so many variables stand at file scope: these have the first numbers
abbrev pub is_local : ℕ → Variable → Bool
is_local files x = not (nat_lt x files)

-- the locals in the private lists of a line, by its clauses (OpenMP 5.2, 5.4.3)
abbrev pub private_locals : Known → ℕ → Privates
private_locals known files line = filter (is_local files) (flat_map private_of (lines_known known line))

-- what is to be unassigned behind the statement that comes next
abbrev pub pending : Privates → Option ℕ → List Variable
pending P None = []
pending P (Some line) = P line

-- something is read that may not be
abbrev pub Unread : {E : Type 0} → Bool → E → Type 0
Unread ok name = ok ≡ false

-- a fault tells of a name that may be read unassigned
abbrev pub TellsOfName : ReadFault → Type 0
TellsOfName (Unassigned place) = Unit {0}
TellsOfName OutOfMemory = ⊥

-- want of memory, or such a name where nothing is known after it, since something is read that may not be
abbrev pub Refuses : Option DefinitelyAssigned → ReadFault → Type 0
Refuses after fault = (fault ≡ OutOfMemory) ⊎ (TellsOfName fault × (after ≡ None))

-- want of memory, or such a name where nothing is known after an item, whatever comes behind it
abbrev pub RefusesAnyhow : (Items → Option DefinitelyAssigned) → ReadFault → Type 0
RefusesAnyhow after fault = (fault ≡ OutOfMemory) ⊎ (TellsOfName fault × ((rest : Items) → after rest ≡ None))

-- the refusal that tells a fault
abbrev pub refusal_of : ReadFault → Refusal
refusal_of (Unassigned place) = refusals.MayBeUnassigned place
refusal_of OutOfMemory = refusals.OutOfMemory

-- want of memory, or K10 where a local of the text may be read before it is assigned
abbrev pub MayBeUnassigned : Privates → Kernel → Refusal → Type 0
MayBeUnassigned P kernel refusal = (refusal ≡ refusals.OutOfMemory) ⊎ ((number_of refusal ≡ 10) × (IsDefinite P (kernel_of kernel) → ⊥))

-- of one part of what printf writes
abbrev pub may_part : DefinitelyAssigned → Tree.PrintPart → Bool
may_part k (Tree.Characters bs) = true
may_part k (Tree.Decimal e) = may_read k e
