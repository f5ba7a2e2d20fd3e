-- A walk over directive lines along the facts of loops, item by item and loop by loop.
use Rattle.std.specs.Prelude.{ℕ, ◌+◌, ◌-◌, ◌≤◌, ◌≡◌, ◌<◌, ◌⊎◌, List, ◌∷◌, length, get_or, drop, take, IsOk, OnOk, OnErr, MatchResult}
use Rattle.std.specs.declared.result.Result.{Result}
use Rattle.std.specs.declared.result.Result.TheVariants.{Ok, Err}
use Rattle.std.proofs.Common.{inl, inr, sym, subst}
use Rattle.semantics.specs.Tree
use Rattle.ktree.specs.View.{items_of, with_item}
use Rattle.ktree.specs.declared.statement.Head.{Head}
use Rattle.ktree.specs.declared.statement.Item.{Item}
use Rattle.ktree.proofs.Trees.{next_item}
use Rattle.affine.specs.declared.interval.Side.{Side}
use Rattle.affine_expr.specs.declared.faults.Fault.{Fault}
use Rattle.affine_expr.specs.declared.faults.Fault.TheVariants.{OutOfMemory}
use Rattle.nest_loop.specs.declared.head.Canonical.{Canonical}
use Rattle.nest_loop.specs.declared.entered.LoopFacts.{LoopFacts}
use Rattle.nest_loop.specs.Loops.{inside}
use Rattle.nest_loop.specs.Facts.{FactsOf, FactsAmong}
use Rattle.nest_loop.proofs.Standing.{own_facts, item_facts}
use Rattle.nest.specs.Facts.{product_of}
use Rattle.nest.specs.Judged.{Decides, DecidesBy, Entered}
use Rattle.nest.specs.Perfect.{NestHas, AreRectangular, IsNestWithin, Nests, ItemsNest, FirstLineNests, FirstNests}
use Rattle.nest.proofs.Walks.{loop_of}
use Rattle.nest.proofs.PerfectLaw.{right_is, right_rectangular, right_small}
use Rattle.nest.proofs.FactsLaw.{nest_small, nest_large}
use Rattle.nest.proofs.NestedLaw.{decides_same, whole_nest, nest_inner, all_behind, LeftNests, nests_more, line_not, item_not}

-- ---- loops

pub loop_along : {A : Type 0} (r : Result A Fault) (text : List ℕ) (box after : List Side) (head : Head) (body : Tree.Stmt) (facts : List LoopFacts) (own : LoopFacts) (inner : List LoopFacts)
    → facts ≡ own ∷ inner → after ≡ inside box head.variable.0 own.numbers → DecidesBy (FactsOf after body inner) r (Nests text after body)
    → DecidesBy (FactsOf box (loop_of head body) facts) r (Nests text box (loop_of head body))
loop_along r text box after head body facts own inner e g judged rest k =
    let here = own_facts box head body facts own inner rest e k in
    let entered : Entered box after head body = (own.canonical, own.numbers, here.are.loop, g) in
    decides_same r (whole_nest text box after head body entered) (nest_inner text box after head body entered) (judged rest (subst (λ b. FactsOf b body inner rest) (sym g) here.behind))

pub loop_not : (text : List ℕ) (box after : List Side) (head : Head) (body : Tree.Stmt) (facts : List LoopFacts) (own : LoopFacts) (inner : List LoopFacts) (fault : Fault)
    → facts ≡ own ∷ inner → after ≡ inside box head.variable.0 own.numbers
    → ((rest : List LoopFacts) → FactsOf after body inner rest → (fault ≡ OutOfMemory) ⊎ (Nests text after body → ⊥)) → (rest : List LoopFacts)
    → FactsOf box (loop_of head body) facts rest → (fault ≡ OutOfMemory) ⊎ (Nests text box (loop_of head body) → ⊥)
loop_not text box after head body facts own inner fault e g judged = loop_along {A = Unit {0}} (Err fault) text box after head body facts own inner e g judged

-- ---- items

-- where the facts are those of the items, what is left of them are those of the items that are left, which decide
abbrev pub SoFar : List ℕ → List Side → List Item → ℕ → List LoopFacts → List LoopFacts → Type 0
SoFar text box is i facts left = (rest : List LoopFacts) → FactsAmong box (items_of is) facts rest → FactsAmong box (items_of (drop i is)) left rest × LeftNests text box is i

-- the items behind one, as a slice has them
abbrev pub behind : List Item → ℕ → Tree.Items
behind is i = items_of (take (length is - (i + 1)) (drop (i + 1) is))

here : (text : List ℕ) (box : List Side) (is : List Item) (i : ℕ) (e : Item) (facts left rest : List LoopFacts) → i < length is → e ≡ get_or is i e → SoFar text box is i facts left
    → FactsAmong box (items_of is) facts rest → FactsAmong box (with_item e (items_of (drop (i + 1) is))) left rest
here text box is i e facts left rest lt p so_far k = subst (λ xs. FactsAmong box xs left rest) (next_item is i e lt p) (so_far rest k).0

with_behind : (box : List Side) (is : List Item) (i : ℕ) (e : Item) (left rest : List LoopFacts) → FactsAmong box (with_item e (items_of (drop (i + 1) is))) left rest
    → FactsAmong box (with_item e (behind is i)) left rest
with_behind box is i e left rest h = subst (λ xs. FactsAmong box (with_item e (items_of xs)) left rest) (sym (all_behind is (i + 1))) h

-- a line that is not
pub along_line_not : (text : List ℕ) (box : List Side) (is : List Item) (i : ℕ) (e : Item) (fault : Fault) (facts left : List LoopFacts) → i < length is → e ≡ get_or is i e
    → SoFar text box is i facts left
    → ((rest : List LoopFacts) → FactsAmong box (with_item e (behind is i)) left rest → (fault ≡ OutOfMemory) ⊎ (FirstLineNests text box (with_item e Tree.no_items) (behind is i) → ⊥))
    → (rest : List LoopFacts) → FactsAmong box (items_of is) facts rest → (fault ≡ OutOfMemory) ⊎ (ItemsNest text box (items_of is) → ⊥)
along_line_not text box is i e fault facts left lt p so_far judged rest k =
    line_not text box is i e fault lt p (so_far rest k).1 (judged rest (with_behind box is i e left rest (here text box is i e facts left rest lt p so_far k)))

-- an item that is not
pub along_item_not : (text : List ℕ) (box : List Side) (is : List Item) (i : ℕ) (e : Item) (fault : Fault) (facts left : List LoopFacts) → i < length is → e ≡ get_or is i e
    → SoFar text box is i facts left
    → ((rest : List LoopFacts) → FactsAmong box (with_item e Tree.no_items) left rest → (fault ≡ OutOfMemory) ⊎ (FirstNests text box (with_item e Tree.no_items) → ⊥))
    → (rest : List LoopFacts) → FactsAmong box (items_of is) facts rest → (fault ≡ OutOfMemory) ⊎ (ItemsNest text box (items_of is) → ⊥)
along_item_not text box is i e fault facts left lt p so_far judged rest k =
    let parts = item_facts box e (items_of (drop (i + 1) is)) left rest (here text box is i e facts left rest lt p so_far k) in
    item_not text box is i e fault lt p (so_far rest k).1 (judged parts.middle parts.own)

-- an item that is so
pub along_more : (text : List ℕ) (box : List Side) (is : List Item) (i : ℕ) (e : Item) (facts left now : List LoopFacts) → i < length is → e ≡ get_or is i e → SoFar text box is i facts left
    → ((rest : List LoopFacts) → FactsAmong box (with_item e (behind is i)) left rest → FirstLineNests text box (with_item e Tree.no_items) (behind is i))
    → ((rest : List LoopFacts) → FactsAmong box (with_item e Tree.no_items) left rest → FirstNests text box (with_item e Tree.no_items))
    → ((rest : List LoopFacts) → FactsAmong box (with_item e Tree.no_items) left rest → now ≡ rest) → SoFar text box is (i + 1) facts now
along_more text box is i e facts left now lt p so_far line nests moved rest k =
    let whole = here text box is i e facts left rest lt p so_far k in
    let parts = item_facts box e (items_of (drop (i + 1) is)) left rest whole in (
      subst (λ (x : List LoopFacts). FactsAmong box (items_of (drop (i + 1) is)) x rest) (sym (moved parts.middle parts.own)) parts.others,
      nests_more text box is i e lt p (so_far rest k).1 (line rest (with_behind box is i e left rest whole)) (nests parts.middle parts.own),
    )

-- ---- nests

abbrev IsRectangular : List Side → ℕ → Tree.Stmt → Type 0
IsRectangular box n s = NestHas (λ loops. (ls : List Canonical) × AreRectangular box loops ls) n s

failed : (A : Type 0) (fault : Fault) → IsOk {T = A} {E = Fault} (Err fault) → ⊥
failed A fault e = absurd (cc e)

pub right_judged : (A : Type 0) (most n : ℕ) (box : List Side) (s : Tree.Stmt) (facts : List LoopFacts) (small rectangular r : Result A Fault) → NestHas (λ loops. Unit {0}) n s
    → OnOk small (product_of n facts ≤ most) → OnErr small (n ≤ length facts → product_of n facts ≤ most → ⊥) → Decides rectangular (IsRectangular box n s)
    → MatchResult r (λ _. IsOk small × IsOk rectangular) (λ fault. (small ≡ Err fault) ⊎ (rectangular ≡ Err fault)) → DecidesBy (FactsOf box s facts) r (IsNestWithin most box n s)
right_judged A most n box s facts (Ok a) (Ok b) (Ok c) perfect few many rect both rest k = right_is most box n s rect (nest_small most n box s facts rest k perfect few)
right_judged A most n box s facts (Err a) rectangular (Ok c) perfect few many rect both rest k = absurd (failed A a both.0)
right_judged A most n box s facts (Ok a) (Err b) (Ok c) perfect few many rect both rest k = absurd (failed A b both.1)
right_judged A most n box s facts (Ok a) rectangular (Err f) perfect few many rect (inl e) rest k = absurd (cc e)
right_judged A most n box s facts (Err a) rectangular (Err f) perfect few many rect (inl e) rest k = inr (λ h. nest_large most n box s facts rest k many (right_small most box n s h))
right_judged A most n box s facts small (Ok b) (Err f) perfect few many rect (inr e) rest k = absurd (cc e)
right_judged A most n box s facts small (Err b) (Err f) perfect few many rect (inr e) rest k =
    let same : b ≡ f = cc in
    told (subst (λ (x : Fault). (x ≡ OutOfMemory) ⊎ (IsRectangular box n s → ⊥)) same rect)
  where
    told : (f ≡ OutOfMemory) ⊎ (IsRectangular box n s → ⊥) → (f ≡ OutOfMemory) ⊎ (IsNestWithin most box n s → ⊥)
    told (inl m) = inl m
    told (inr h) = inr (λ right. h (right_rectangular most box n s right))
