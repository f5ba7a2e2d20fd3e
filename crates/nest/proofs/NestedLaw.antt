-- A walk over directive lines, item by item and loop by loop.
use Rattle.std.specs.Prelude.{ℕ, ◌+◌, ◌-◌, ◌^◌, ◌≡◌, ◌≤◌, ◌<◌, ◌⊎◌, ◌↔◌, List, length, get_or, drop, take, Option, Some, None}
use Rattle.std.specs.declared.result.Result.{Result}
use Rattle.std.specs.declared.result.Result.TheVariants.{Ok, Err}
use Rattle.std.proofs.Common.{refl, inl, inr, sym, ap, ◌∙◌, subst, arith}
use Rattle.std.proofs.lemmas.List.{length-drop, take_all}
use Rattle.semantics.specs.Tree
use Rattle.semantics.specs.Tree.{Name}
use Rattle.semantics.specs.Source.Text.{line_at}
use Rattle.ktree.specs.View.{items_of, with_item, source_of, cond_of, increment_of}
use Rattle.ktree.specs.declared.statement.Head.{Head}
use Rattle.ktree.specs.declared.statement.Item.{Item, Directive, Local, Statement'}
use Rattle.ktree.proofs.Trees.{next_item}
use Rattle.affine.specs.declared.interval.Side.{Side}
use Rattle.nest_loop.specs.Loops.{inside}
use Rattle.nest_loop.proofs.Laws.{loop_is_unique}
use Rattle.affine_expr.specs.declared.faults.Fault.{Fault}
use Rattle.affine_expr.specs.declared.faults.Fault.TheVariants.{OutOfMemory}
use Rattle.semantics.specs.Directives.Directive.{Schedule, Directive as Said}
use Rattle.pragma.specs.Clauses.{ReadsLoop, doacross_loops}
use Rattle.pragma.specs.Parallel.{associated}
use Rattle.pragma.proofs.LoopLaw.{one_directive, read_once}
use Rattle.nest.specs.Judged.{Decides, Entered}
use Rattle.nest.specs.Perfect.{FirstNestWithin, LineNests, most_iterations, DoacrossIsSmall, Nests, ItemsNest, FirstLineNests, FirstNests}
use Rattle.nest.proofs.Walks.{loop_of}

-- a judgement of what comes to the same
pub decides_same : {A : Type 0} {P Q : Type 0} (r : Result A Fault) → (P → Q) → (Q → P) → Decides r P → Decides r Q
decides_same (Ok x) f g h = f h
decides_same (Err fault) f g (inl e) = inl e
decides_same (Err fault) f g (inr h) = inr (λ q. h (g q))

-- a nest with fewer iterations has no more
first_wider : (least most : ℕ) (box : List Side) (n : ℕ) (rest : Tree.Items) → least ≤ most → FirstNestWithin least box n rest → FirstNestWithin most box n rest
first_wider least most box n Tree.no_items le h = h
first_wider least most box n (Tree.mark line rest) le h = h
first_wider least most box n (Tree.local x name start rest) le h = h
first_wider least most box n (Tree.stmt s rest) le (loops, body, is, (rectangular, (k, product, few))) = (loops, body, is, (rectangular, (k, product, omega (arith, few, le))))

-- no nest has more than 2^24
most_within : (o : Option ℕ) → most_iterations o ≤ 2 ^ 24
most_within None = omega arith
most_within (Some d) = omega arith

-- a line is judged by what stands behind it
pub line_judged : {A : Type 0} (r : Result A Fault) (text : List ℕ) (box : List Side) (line : ℕ) (rest : Tree.Items) (k : Option Schedule) (c : Option ℕ) (n most : ℕ)
    → (reads : ReadsLoop (line_at text line) k c) → n ≡ associated c → most ≡ most_iterations (doacross_loops reads.directive) → Decides r (FirstNestWithin most box n rest)
    → Decides r (LineNests text box line rest × DoacrossIsSmall text box line rest)
line_judged r text box line rest k c n most reads e f h = decides_same r up down h
  where
    -- by any other reading of the line
    other_loops : (m : Option Schedule) (d : Option ℕ) (other : ReadsLoop (line_at text line) m d) → n ≡ associated d
    other_loops m d other = e ∙ ap associated (read_once (line_at text line) k c m d reads other).1

    other_most : (m : Option Schedule) (d : Option ℕ) (other : ReadsLoop (line_at text line) m d) → most ≡ most_iterations (doacross_loops other.directive)
    other_most m d other = f ∙ ap (λ (x : Said Name). most_iterations (doacross_loops x)) (one_directive (line_at text line) k c m d reads other)

    up : FirstNestWithin most box n rest → LineNests text box line rest × DoacrossIsSmall text box line rest
    up p = (
      (k, c, reads, first_wider most (2 ^ 24) box (associated c) rest (subst (λ (m : ℕ). m ≤ 2 ^ 24) (sym f) (most_within (doacross_loops reads.directive))) (subst (λ (m : ℕ). FirstNestWithin most box m rest) e p)),
      λ m d other i is. subst (λ (x : ℕ). FirstNestWithin x box (associated d) rest) (other_most m d other ∙ ap most_iterations is) (subst (λ (x : ℕ). FirstNestWithin most box x rest) (other_loops m d other) p),
    )

    down : LineNests text box line rest × DoacrossIsSmall text box line rest → FirstNestWithin most box n rest
    down ((m, d, other, p), small) =
        subst (λ (x : ℕ). FirstNestWithin most box x rest) (sym (other_loops m d other))
        (subst (λ (x : ℕ). FirstNestWithin x box (associated d) rest) (sym (other_most m d other)) (by (doacross_loops other.directive) refl))
      where
        by : (o : Option ℕ) → doacross_loops other.directive ≡ o → FirstNestWithin (most_iterations o) box (associated d) rest
        by None is = p
        by (Some i) is = small m d other i is

-- a loop whose body is so
pub whole_nest : (text : List ℕ) (box after : List Side) (head : Head) (body : Tree.Stmt) → Entered box after head body → Nests text after body → Nests text box (loop_of head body)
whole_nest text box after head body (l, i, is, e) h = (l, i, is, subst (λ b. Nests text b body) e h)

-- the body of a loop that is so
pub nest_inner : (text : List ℕ) (box after : List Side) (head : Head) (body : Tree.Stmt) → Entered box after head body → Nests text box (loop_of head body) → Nests text after body
nest_inner text box after head body (l, i, is, e) (m, j, other, inner) =
    let same = loop_is_unique box head.variable.0 (source_of head.start) (cond_of head.test) (increment_of head.step) body l m i j is other in
    subst (λ b. Nests text b body) (ap (inside box head.variable.0) (sym same.1) ∙ sym e) inner

-- what is behind an item, to the end
pub all_behind : (is : List Item) (i : ℕ) → take (length is - i) (drop i is) ≡ drop i is
all_behind is i = let n = length-drop i is in take_all (length is - i) (drop i is) (omega (arith, n))

-- an item, and the others
pub nests_cut : (text : List ℕ) (box : List Side) (i : Item) (rest : Tree.Items)
    → ItemsNest text box (with_item i rest) ↔ FirstLineNests text box (with_item i Tree.no_items) rest × FirstNests text box (with_item i Tree.no_items) × ItemsNest text box rest
nests_cut text box (Directive place) rest = (λ h. ((h.0, h.2), tt, h.1), λ h. (h.0.0, h.2, h.0.1))
nests_cut text box (Local l) rest = (λ h. (tt, tt, h), λ h. h.2)
nests_cut text box (Statement' p s) rest = (λ h. (tt, h.0, h.1), λ h. (h.1, h.2))

-- the items that are left decide
abbrev pub LeftNests : List ℕ → List Side → List Item → ℕ → Type 0
LeftNests text box is i = ItemsNest text box (items_of (drop i is)) ↔ ItemsNest text box (items_of is)

-- an item that is so
pub nests_more : (text : List ℕ) (box : List Side) (is : List Item) (i : ℕ) (e : Item) → i < length is → e ≡ get_or is i e → LeftNests text box is i
    → FirstLineNests text box (with_item e Tree.no_items) (items_of (take (length is - (i + 1)) (drop (i + 1) is))) → FirstNests text box (with_item e Tree.no_items) → LeftNests text box is (i + 1)
nests_more text box is i e lt p left line nests =
    let cut = nests_cut text box e (items_of (drop (i + 1) is)) in
    let next = next_item is i e lt p in
    let here = subst (λ xs. FirstLineNests text box (with_item e Tree.no_items) (items_of xs)) (all_behind is (i + 1)) line in
    (λ h. left.0 (subst (ItemsNest text box) (sym next) (cut.1 (here, nests, h))), λ h. (cut.0 (subst (ItemsNest text box) next (left.1 h))).2)

parts_of : (text : List ℕ) (box : List Side) (is : List Item) (i : ℕ) (e : Item) → i < length is → e ≡ get_or is i e → LeftNests text box is i → ItemsNest text box (items_of is)
    → FirstLineNests text box (with_item e Tree.no_items) (items_of (drop (i + 1) is)) × FirstNests text box (with_item e Tree.no_items)
parts_of text box is i e lt p left h =
    let parts = (nests_cut text box e (items_of (drop (i + 1) is))).0 (subst (ItemsNest text box) (next_item is i e lt p) (left.1 h)) in
    (parts.0, parts.1)

-- a line that is not
pub line_not : (text : List ℕ) (box : List Side) (is : List Item) (i : ℕ) (e : Item) (fault : Fault) → i < length is → e ≡ get_or is i e → LeftNests text box is i
    → (fault ≡ OutOfMemory) ⊎ (FirstLineNests text box (with_item e Tree.no_items) (items_of (take (length is - (i + 1)) (drop (i + 1) is))) → ⊥)
    → (fault ≡ OutOfMemory) ⊎ (ItemsNest text box (items_of is) → ⊥)
line_not text box is i e fault lt p left (inl m) = inl m
line_not text box is i e fault lt p left (inr f) =
    inr (λ h. f (subst (λ xs. FirstLineNests text box (with_item e Tree.no_items) (items_of xs)) (sym (all_behind is (i + 1))) (parts_of text box is i e lt p left h).0))

-- an item that is not
pub item_not : (text : List ℕ) (box : List Side) (is : List Item) (i : ℕ) (e : Item) (fault : Fault) → i < length is → e ≡ get_or is i e → LeftNests text box is i
    → (fault ≡ OutOfMemory) ⊎ (FirstNests text box (with_item e Tree.no_items) → ⊥) → (fault ≡ OutOfMemory) ⊎ (ItemsNest text box (items_of is) → ⊥)
item_not text box is i e fault lt p left (inl m) = inl m
item_not text box is i e fault lt p left (inr f) = inr (λ h. f (parts_of text box is i e lt p left h).1)
