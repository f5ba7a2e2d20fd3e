-- Facts of loops that stand in front of others, loop by loop and item by item.
use Rattle.std.specs.Prelude.{ℕ, ◌+◌, ◌≡◌, ◌<◌, List, [], ◌∷◌, length, get_or, drop, Option, Some, None}
use Rattle.std.proofs.Common.{refl, sym, ap, ◌∙◌, subst}
use Rattle.semantics.specs.Tree
use Rattle.semantics.specs.Loops.Nest.{Loop, as_loop, only_loop}
use Rattle.ktree.specs.View.{items_of, with_item}
use Rattle.ktree.specs.declared.statement.Head.{Head}
use Rattle.ktree.specs.declared.statement.Item.{Item, Directive, Local, Statement'}
use Rattle.ktree.proofs.Trees.{next_item}
use Rattle.affine.specs.declared.interval.Side.{Side}
use Rattle.nest_loop.specs.declared.entered.LoopFacts.{LoopFacts}
use Rattle.nest_loop.specs.Loops.{inside}
use Rattle.nest_loop.specs.Facts.{AreFacts, AreFactsOf, FactsOf, FactsAmong, LoopFactsOf, StandFirstAmong, LoopStandsFirst, IsLeft}

-- ---- loops

-- a loop's facts stand first
pub record OwnFacts (box : List Side) (head : Head) (body : Tree.Stmt) (own : LoopFacts) (inner rest : List LoopFacts) : Type 0 where
  pub are : AreFactsOf box head body own
  pub behind : FactsOf (inside box head.variable.0 own.numbers) body inner rest

abbrev head_or : LoopFacts → List LoopFacts → LoopFacts
head_or x [] = x
head_or x (y ∷ ys) = y

abbrev tail_of : List LoopFacts → List LoopFacts
tail_of [] = []
tail_of (y ∷ ys) = ys

pub own_facts : (box : List Side) (head : Head) (body : Tree.Stmt) (facts : List LoopFacts) (own : LoopFacts) (inner rest : List LoopFacts) → facts ≡ own ∷ inner
    → LoopFactsOf box head body facts rest → OwnFacts box head body own inner rest
own_facts box head body facts own inner rest e (f, more, is, are, behind) =
    let both : own ∷ inner ≡ f ∷ more = sym e ∙ is in
    go (ap (head_or own) both) (ap tail_of both)
  where
    go : own ≡ f → inner ≡ more → OwnFacts box head body own inner rest
    go p q =
        subst (λ (xs : List LoopFacts). OwnFacts box head body own xs rest) (sym q)
        (subst (λ (x : LoopFacts). OwnFacts box head body x more rest) (sym p) (record { are = are; behind = behind }))

-- some facts are there
pub loop_there : (box : List Side) (head : Head) (facts : List LoopFacts) → LoopStandsFirst box head facts → facts ≡ [] → ⊥
loop_there box head facts (body, rest, (f, more, is, are, behind)) none = let e : f ∷ more ≡ [] = sym is ∙ none in absurd (cc e)

-- the facts of a loop that a statement is
pub record FirstFacts (box : List Side) (h : Loop) (body : Tree.Stmt) (facts rest : List LoopFacts) : Type 0 where
  pub own : LoopFacts
  pub more : List LoopFacts
  pub is : facts ≡ own ∷ more
  pub are : AreFacts box h.variable h.start h.test h.step body own
  pub inner : FactsOf (inside box h.variable own.numbers) body more rest

abbrev pub first_or : {A B : Type 0} → A → Option (A × B) → A
first_or x None = x
first_or x (Some p) = p.0

abbrev second_or : {A B : Type 0} → B → Option (A × B) → B
second_or x None = x
second_or x (Some p) = p.1

mutual
  pub first_facts : (box : List Side) (s : Tree.Stmt) (h : Loop) (body : Tree.Stmt) (facts rest : List LoopFacts) → as_loop s ≡ Some (h, body) → FactsOf box s facts rest → FirstFacts box h body facts rest
  first_facts box (Tree.Assign x is e) h body facts rest p k = absurd (cc p)
  first_facts box (Tree.Update x is op e) h body facts rest p k = absurd (cc p)
  first_facts box (Tree.If c a) h body facts rest p k = absurd (cc p)
  first_facts box (Tree.IfElse c a b) h body facts rest p k = absurd (cc p)
  first_facts box (Tree.For x name start test step b) h body facts rest p (f, more, is, are, inner) =
      go h body (ap (first_or h) p) (ap (second_or body) p)
    where
      go : (h : Loop) (body : Tree.Stmt) → record { variable = x; start = start; test = test; step = step } ≡ h → b ≡ body → FirstFacts box h body facts rest
      go h body e g = subst (λ (k : Loop). FirstFacts box k body facts rest) e (subst (λ (t : Tree.Stmt). FirstFacts box (record { variable = x; start = start; test = test; step = step }) t facts rest) g (record { own = f; more = more; is = is; are = are; inner = inner }))
  first_facts box (Tree.Block items) h body facts rest p k = only_facts box items h body facts rest p k
  first_facts box (Tree.Print parts) h body facts rest p k = absurd (cc p)

  only_facts : (box : List Side) (items : Tree.Items) (h : Loop) (body : Tree.Stmt) (facts rest : List LoopFacts) → only_loop items ≡ Some (h, body) → FactsAmong box items facts rest
      → FirstFacts box h body facts rest
  only_facts box Tree.no_items h body facts rest p k = absurd (cc p)
  only_facts box (Tree.mark line items) h body facts rest p k = absurd (cc p)
  only_facts box (Tree.local x name start items) h body facts rest p k = absurd (cc p)
  only_facts box (Tree.stmt s Tree.no_items) h body facts rest p (m, f, e) =
      first_facts box s h body facts rest p (subst (FactsOf box s facts) e f)
  only_facts box (Tree.stmt s (Tree.mark line items)) h body facts rest p k = absurd (cc p)
  only_facts box (Tree.stmt s (Tree.local x name start items)) h body facts rest p k = absurd (cc p)
  only_facts box (Tree.stmt s (Tree.stmt t items)) h body facts rest p k = absurd (cc p)

-- ---- items

-- an item's facts, and those of the items behind it
pub record ItemFacts (box : List Side) (i : Item) (items : Tree.Items) (facts rest : List LoopFacts) : Type 0 where
  pub middle : List LoopFacts
  pub own : FactsAmong box (with_item i Tree.no_items) facts middle
  pub others : FactsAmong box items middle rest

pub item_facts : (box : List Side) (i : Item) (items : Tree.Items) (facts rest : List LoopFacts) → FactsAmong box (with_item i items) facts rest → ItemFacts box i items facts rest
item_facts box (Directive place) items facts rest h = record { middle = facts; own = refl; others = h }
item_facts box (Local l) items facts rest h = record { middle = facts; own = refl; others = h }
item_facts box (Statement' p s) items facts rest (m, f, h) = record { middle = m; own = (m, f, λ k. m); others = h }

-- where the facts are those of the items, what is left of them are those of the items that are left
abbrev pub AreLeft : List Side → List Item → ℕ → List LoopFacts → List LoopFacts → Type 0
AreLeft box is i facts left = (rest : List LoopFacts) → FactsAmong box (items_of is) facts rest → FactsAmong box (items_of (drop i is)) left rest

pub left_with_item : (box : List Side) (is : List Item) (i : ℕ) (e : Item) (facts left rest : List LoopFacts) → i < length is → e ≡ get_or is i e → AreLeft box is i facts left
    → FactsAmong box (items_of is) facts rest → FactsAmong box (with_item e (items_of (drop (i + 1) is))) left rest
left_with_item box is i e facts left rest lt p are k = subst (λ xs. FactsAmong box xs left rest) (next_item is i e lt p) (are rest k)

-- those of the next item stand first
pub next_first : (box : List Side) (is : List Item) (i : ℕ) (e : Item) (facts left : List LoopFacts) → i < length is → e ≡ get_or is i e → AreLeft box is i facts left
    → StandFirstAmong box (items_of is) facts → StandFirstAmong box (with_item e Tree.no_items) left
next_first box is i e facts left lt p are (rest, k) =
    let parts = item_facts box e (items_of (drop (i + 1) is)) left rest (left_with_item box is i e facts left rest lt p are k) in
    (parts.middle, parts.own)

-- so do those of this item and of the items behind it
pub next_and_behind : (box : List Side) (is : List Item) (i : ℕ) (e : Item) (facts left : List LoopFacts) → i < length is → e ≡ get_or is i e → AreLeft box is i facts left
    → StandFirstAmong box (items_of is) facts → StandFirstAmong box (with_item e (items_of (drop (i + 1) is))) left
next_and_behind box is i e facts left lt p are (rest, k) = (rest, left_with_item box is i e facts left rest lt p are k)

-- behind an item the facts of the items behind it are left
pub left_more : (box : List Side) (is : List Item) (i : ℕ) (e : Item) (facts left now : List LoopFacts) → i < length is → e ≡ get_or is i e → AreLeft box is i facts left
    → IsLeft (FactsAmong box (with_item e Tree.no_items) left) now → AreLeft box is (i + 1) facts now
left_more box is i e facts left now lt p are moved rest k =
    let parts = item_facts box e (items_of (drop (i + 1) is)) left rest (left_with_item box is i e facts left rest lt p are k) in
    subst (λ (x : List LoopFacts). FactsAmong box (items_of (drop (i + 1) is)) x rest) (sym (moved parts.middle parts.own)) parts.others
