-- What a walk over element accesses keeps of them, and how it goes along the facts of loops.
use Rattle.std.specs.Prelude.{zero, suc, ◌≡◌, List, [], ◌∷◌, ◌++◌, Some}
use Rattle.semantics.specs.Tree.{Stmt}
use Rattle.ktree.specs.View.{source_of, cond_of, increment_of}
use Rattle.ktree.specs.declared.statement.Head.{Head}
use Rattle.nest_loop.specs.declared.entered.LoopFacts.{LoopFacts}
use Rattle.nest_loop.specs.Facts.{FactsOf, LoopFactsOf}
use Rattle.pairtest_counter.specs.Levels.{Nesting}
use Rattle.pairtest.specs.declared.access.Access.{Access}
use Rattle.pairtest_access.specs.Sites.{Site, IsInside}
use Rattle.pairtest_access.specs.Found.{IsMet, IsTouched}
use Rattle.pairtest_access.specs.declared.told.Touched.{Touched}
use Rattle.pairtest_access.specs.declared.finder.Finder.{Finder}
use Rattle.pairtest_access.specs.declared.finder.Wanted.{Wanted}
use Rattle.pairtest_access.specs.declared.finder.Wanted.TheVariants.{Every, Only, Nothing}

-- a further access, where this is wanted
abbrev pub MeetsWanted : Wanted → Finder → Site → Finder → Type 0
MeetsWanted Every before s after =
    (f : Access) × IsMet before.outer s f × (after.accesses.items ≡ before.accesses.items ++ (f ∷ [])) × (after.wanted ≡ Every)
MeetsWanted (Only zero) before s after = (t : Touched) × IsTouched before.outer s.round s.subscripts t × (after.touched ≡ Some t) × (after.wanted ≡ Nothing)
MeetsWanted (Only (suc n)) before s after = (after.touched ≡ before.touched) × (after.wanted ≡ Only n)
MeetsWanted Nothing before s after = after ≡ before

-- a further access: every access that is wanted stands behind those before it, and the only one that is wanted is counted down to
abbrev pub Meets : Finder → Site → Finder → Type 0
Meets before s after = (after.outer ≡ before.outer) × MeetsWanted before.wanted before s after

-- further accesses, one after the other
abbrev pub MeetsAll : Finder → List Site → Finder → Type 0
MeetsAll before [] after = after ≡ before
MeetsAll before (s ∷ ss) after = (between : Finder) × Meets before s between × MeetsAll between ss after

-- whatever loop of this head has its facts in front of a rest, it was entered, and now the facts of the loops in its body stand in front of that rest
abbrev pub EntersFirst : Nesting → Nesting → Head → List LoopFacts → List LoopFacts → Type 0
EntersFirst before after head facts inner =
    (body : Stmt) (rest : List LoopFacts) → LoopFactsOf before.box head body facts rest
    → IsInside before head.variable.0 (source_of head.start) (cond_of head.test) (increment_of head.step) body after × FactsOf after.box body inner rest
