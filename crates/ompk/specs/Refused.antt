-- Why a text is not accepted.
use Rattle.std.specs.Prelude.{ℕ, ◌≡◌, ◌==◌, ◌⊎◌, true, false, List, [], ◌∷◌, Some, None}
use Rattle.std.specs.List.{list_any}
use Rattle.semantics.specs.Tree.{Kernel}
use Rattle.semantics.specs.Source.Grammar.{ReadsText}
use Rattle.semantics.specs.Meaning.Definite.{IsDefinite}
use Rattle.ktree.specs.Numbers.{number_of}
use Rattle.ktree.specs.declared.place.Place.{Place}
use Rattle.ktree.specs.declared.refusal.Refusal.{Refusal}
use Rattle.ktree.specs.declared.refusal.Refusal.TheVariants.{OutOfMemory, SubscriptOutOfRange}
use Rattle.cparse.specs.Parsed.{RefusesTree}
use Rattle.semantics.specs.Directives.Annotated.{Directives}
use Rattle.semantics.specs.Directives.Naming.{IsAttached}
use Rattle.pragma.specs.Plain.{IsDirected}
use Rattle.pragma_region.specs.Regions.{alone}
use Rattle.pragma_region.specs.NotKnown.{unknown_among}
use Rattle.nest.specs.Nests.{IsNested, IsInRange}
use Rattle.nest.specs.Leaves.{LeavesSomewhere}
use Rattle.nest.specs.Perfect.{AreRightNests}
use Rattle.flow.specs.Roles.{LineData, privates_by, ItemsKeepRoles}
use Rattle.flow.specs.Told.{TellsOfItems, data_refusal_of}
use Rattle.flow.specs.declared.fault.DataFault.{DataFault}
use Rattle.pragma_named.specs.Known.{Lines}
use Rattle.flow_clauses.specs.Fitting.{fit_clauses, number_told}
use Rattle.flow_clauses.specs.declared.judging.Misuse.{Misuse}
use Rattle.deptest.specs.Accepted.{clauses_counted, data_counted}
use Rattle.deptest.specs.Refused.{RefusesLoops}
use Rattle.ompk.specs.Judged.{Whole, IsRight, whole_found}

-- its number is one of these
abbrev pub TellsOneOf : List ℕ → Refusal → Type 0
TellsOneOf numbers r = list_any (λ n. number_of r == n) numbers ≡ true

-- memory was refused, or a loop is not canonical (K06) or may wrap (K07), or a subscript is not affine (K08), or a parallel loop has no right nest (K12), or one of too many iterations, or a number passes its limit (K21)
abbrev pub RefusesNests : List ℕ → Kernel → Refusal → Type 0
RefusesNests text tree r = (r ≡ OutOfMemory) ⊎ (TellsOneOf (6 ∷ 7 ∷ 8 ∷ 12 ∷ 21 ∷ []) r × (IsNested tree × AreRightNests text tree → ⊥))

-- with all of its lines a nest is not perfect (K12)
abbrev pub RefusesImperfect : Whole → Refusal → Type 0
RefusesImperfect whole r = (whole.perfect ≡ false) × (number_of r ≡ 12)

-- a subscript leaves its array
abbrev pub RefusesRanges : Kernel → Refusal → Type 0
RefusesRanges tree r = (place : Place) × (r ≡ SubscriptOutOfRange place) × LeavesSomewhere tree

-- K03, K11, K13 or K21: the text's directives are not attached to the tree, since one is not read, does not stand where it may, names what is no variable, or has a variable in the wrong clause, in two or in none
abbrev pub RefusesDirectives : List ℕ → Kernel → Refusal → Type 0
RefusesDirectives text tree r = TellsOneOf (3 ∷ 11 ∷ 13 ∷ 21 ∷ []) r × ((ds : Directives) → IsAttached text tree ds → ⊥)

-- memory was refused, or so it is
abbrev pub RefusesLines : List ℕ → Kernel → Refusal → Type 0
RefusesLines text tree r = (r ≡ OutOfMemory) ⊎ RefusesDirectives text tree r

-- the first clause that is read and not run has this number (K15)
abbrev pub RefusesUnknown : List ℕ → Kernel → Refusal → Type 0
RefusesUnknown text tree r = unknown_among text tree.body ≡ Some (number_of r)

-- not each directive line is that of a loop, with known clauses, before a loop and inside no parallel loop (K11, K21)
abbrev pub RefusesPlaces : List ℕ → Kernel → Refusal → Type 0
RefusesPlaces text tree r = (IsDirected text tree → ⊥) × TellsOneOf (11 ∷ 21 ∷ []) r

-- memory was refused, or a local may be read before it is assigned; or a parallel loop writes a shared scalar, or does not keep the roles of its scalars, or a line has no nest, whichever is told
abbrev pub RefusesScalars : List ℕ → Kernel → LineData → Refusal → Type 0
RefusesScalars text tree R r =
    (r ≡ OutOfMemory) ⊎ (((number_of r ≡ 10) × (IsDefinite (privates_by R) tree → ⊥)) ⊎ ((f : DataFault) × (r ≡ data_refusal_of f) × TellsOfItems f text R tree.body))

-- memory was refused, or a clause names what it may not (K15, and K16 of reductions)
abbrev pub RefusesClauses : Lines → Kernel → Refusal → Type 0
RefusesClauses lines tree r = (r ≡ OutOfMemory) ⊎ ((m : Misuse) × (number_of r ≡ number_told m) × (fit_clauses lines tree ≡ false))

-- an ordered region stands where it may not, or a parallel loop prints outside of one (K18); or a scan is misused (K17, and K16 of its variable in an input phase)
abbrev pub RefusesRegions : Whole → Refusal → Type 0
RefusesRegions whole r = ((whole.ordered ≡ false) × (number_of r ≡ 18)) ⊎ ((whole.phased ≡ false) × ((number_of r ≡ 17) ⊎ (number_of r ≡ 16)))

-- so it is, or a doacross nest is misused (K18)
abbrev pub RefusesWhole : Whole → Refusal → Type 0
RefusesWhole whole r = RefusesRegions whole r ⊎ ((whole.nested ≡ false) × (number_of r ≡ 18))

-- one of these
abbrev pub RefusesData : List ℕ → Kernel → LineData → Lines → Whole → Refusal → Type 0
RefusesData text tree R lines whole r = RefusesScalars text tree R r ⊎ (RefusesClauses lines tree r ⊎ RefusesWhole whole r)

-- the passes before that of the data find nothing wrong, nor does that of the data
abbrev pub IsNestedRightly : List ℕ → Kernel → Whole → Type 0
IsNestedRightly text tree whole = IsDirected text tree × IsNested tree × AreRightNests text tree × (whole.perfect ≡ true)

abbrev pub HasRightData : List ℕ → Kernel → LineData → Lines → Whole → Type 0
HasRightData text tree R lines whole = IsDefinite (privates_by R) tree × ItemsKeepRoles text R [] tree.body × (fit_clauses lines tree ≡ true) × IsRight whole

-- the data are wrong, by one of their numbers, or they are right and a subscript leaves its array
abbrev pub RefusesDataOrRanges : List ℕ → Kernel → LineData → Lines → Whole → Refusal → Type 0
RefusesDataOrRanges text tree R lines whole r =
    (TellsOneOf (10 ∷ 14 ∷ 15 ∷ 16 ∷ 17 ∷ 18 ∷ []) r × RefusesData text tree R lines whole r) ⊎ (HasRightData text tree R lines whole × RefusesRanges tree r)

-- memory was refused, or the first pass that finds something wrong tells it: places of lines, then nests, then data, then ranges
abbrev pub RefusesPasses : List ℕ → Kernel → LineData → Lines → Whole → Refusal → Type 0
RefusesPasses text tree R lines whole r =
    (r ≡ OutOfMemory)
    ⊎ (RefusesPlaces text tree r
    ⊎ ((IsDirected text tree × (RefusesNests text tree r ⊎ RefusesImperfect whole r))
    ⊎ (IsNestedRightly text tree whole × RefusesDataOrRanges text tree R lines whole r)))

-- none of them finds anything, by the clauses that are known of each line
pub record IsJudged (text : List ℕ) (tree : Kernel) (R : LineData) (lines : Lines) (whole : Whole) : Type 0 where
  pub right : IsNestedRightly text tree whole
  pub environment : HasRightData text tree R lines whole
  pub in_range : IsInRange tree

-- a tree whose regions are dissolved is refused by one of these passes, or all of that is well, and it is by the dependence test, or memory was refused
abbrev pub RefusesAlone : List ℕ → Kernel → LineData → Lines → Whole → Refusal → Type 0
RefusesAlone text tree R lines whole r = RefusesPasses text tree R lines whole r ⊎ RefusesLoops text tree r

-- each clause of a directive is one that is run, and the tree with its regions dissolved is refused, by the clauses that count for its lines
abbrev pub RefusesKnown : List ℕ → Kernel → Directives → Refusal → Type 0
RefusesKnown text tree ds r =
    (unknown_among text tree.body ≡ None) × RefusesAlone text (alone text tree) (data_counted text tree ds) (clauses_counted text tree ds) (whole_found text (clauses_counted text tree ds) tree) r

-- the directives are attached, and one has a clause that is not run, or the tree is refused though all are
abbrev pub RefusesAttached : List ℕ → Kernel → Refusal → Type 0
RefusesAttached text tree r = (ds : Directives) × IsAttached text tree ds × (RefusesUnknown text tree r ⊎ RefusesKnown text tree ds r)

-- the tree is none that is run
abbrev pub RefusesKernel : List ℕ → Kernel → Refusal → Type 0
RefusesKernel text tree r = RefusesLines text tree r ⊎ RefusesAttached text tree r

-- no tree is read from the text, or one that is refused
abbrev pub RefusesText : List ℕ → Refusal → Type 0
RefusesText text r = RefusesTree text r ⊎ ((tree : Kernel) × ReadsText text tree × RefusesKernel text tree r)
