-- A walk over statements, item by item and loop by loop.
use Rattle.std.specs.Prelude.{ℕ, ◌+◌, ◌≡◌, ◌<◌, ◌⊎◌, ◌↔◌, List, length, get_or, drop, string_bytes}
use Rattle.std.proofs.Common.{inl, inr, sym, ap, ◌∙◌, subst}
use Rattle.semantics.specs.Tree
use Rattle.ktree.specs.View.{items_of, with_item, source_of, cond_of, increment_of}
use Rattle.ktree.specs.declared.statement.Head.{Head}
use Rattle.ktree.specs.declared.statement.Item.{Item, Directive, Local, Statement'}
use Rattle.ktree.proofs.Trees.{next_item}
use Rattle.affine.specs.declared.interval.Side.{Side}
use Rattle.nest_loop.specs.Loops.{inside}
use Rattle.nest_loop.proofs.Laws.{loop_is_unique}
use Rattle.affine_expr.specs.declared.faults.Fault.{Fault}
use Rattle.affine_expr.specs.declared.faults.Fault.TheVariants.{OutOfMemory}
use Rattle.nest.specs.Nests.{Asked, Has, Have}
use Rattle.nest.specs.Judged.{Entered}

-- a loop's statement, by its head and body
abbrev pub loop_of : Head → Tree.Stmt → Tree.Stmt
loop_of head body = Tree.For head.variable.0 (string_bytes head.name) (source_of head.start) (cond_of head.test) (increment_of head.step) body

-- a loop whose body is so
pub whole_loop : (P : Asked) (box after : List Side) (head : Head) (body : Tree.Stmt) → Entered box after head body → Has P after body → Has P box (loop_of head body)
whole_loop P box after head body (l, i, is, e) h = (l, i, is, subst (λ b. Has P b body) e h)

-- a loop whose body is not
pub body_refused : (P : Asked) (box after : List Side) (head : Head) (body : Tree.Stmt) (fault : Fault) → Entered box after head body
    → (fault ≡ OutOfMemory) ⊎ (Has P after body → ⊥) → (fault ≡ OutOfMemory) ⊎ (Has P box (loop_of head body) → ⊥)
body_refused P box after head body fault entered (inl e) = inl e
body_refused P box after head body fault (l, i, is, e) (inr f) = inr (λ h. f (go h))
  where
    go : Has P box (loop_of head body) → Has P after body
    go (m, j, other, inner) =
        let same = loop_is_unique box head.variable.0 (source_of head.start) (cond_of head.test) (increment_of head.step) body l m i j is other in
        subst (λ b. Has P b body) (ap (inside box head.variable.0) (sym same.1) ∙ sym e) inner

-- no loop at all
pub head_refused : (P : Asked) (box : List Side) (head : Head) (body : Tree.Stmt) (fault : Fault)
    → (fault ≡ OutOfMemory) ⊎ ((after : List Side) → Entered box after head body → ⊥) → (fault ≡ OutOfMemory) ⊎ (Has P box (loop_of head body) → ⊥)
head_refused P box head body fault (inl e) = inl e
head_refused P box head body fault (inr f) = inr (λ h. f (inside box head.variable.0 h.1) (h.0, h.1, h.2, λ k. inside box head.variable.0 h.1))

-- an item, and the others
pub item_cut : (P : Asked) (box : List Side) (i : Item) (rest : Tree.Items) → Have P box (with_item i rest) ↔ Have P box (with_item i Tree.no_items) × Have P box rest
item_cut P box (Directive place) rest = (λ h. (tt, h), λ h. h.1)
item_cut P box (Local l) rest = (λ h. ((h.0, tt), h.1), λ h. (h.0.0, h.1))
item_cut P box (Statement' p s) rest = (λ h. ((h.0, tt), h.1), λ h. (h.0.0, h.1))

-- the items that are left decide
abbrev pub Left : Asked → List Side → List Item → ℕ → Type 0
Left P box is i = Have P box (items_of (drop i is)) ↔ Have P box (items_of is)

-- an item that is so
pub item_more : (P : Asked) (box : List Side) (is : List Item) (i : ℕ) (e : Item) → i < length is → e ≡ get_or is i e → Left P box is i
    → Have P box (with_item e Tree.no_items) → Left P box is (i + 1)
item_more P box is i e lt p left here =
    let cut = item_cut P box e (items_of (drop (i + 1) is)) in
    let next = next_item is i e lt p in
    (λ h. left.0 (subst (Have P box) (sym next) (cut.1 (here, h))), λ h. (cut.0 (subst (Have P box) next (left.1 h))).1)

-- an item that is not
pub item_refused : (P : Asked) (box : List Side) (is : List Item) (i : ℕ) (e : Item) (fault : Fault) → i < length is → e ≡ get_or is i e → Left P box is i
    → (fault ≡ OutOfMemory) ⊎ (Have P box (with_item e Tree.no_items) → ⊥) → (fault ≡ OutOfMemory) ⊎ (Have P box (items_of is) → ⊥)
item_refused P box is i e fault lt p left (inl m) = inl m
item_refused P box is i e fault lt p left (inr f) =
    inr (λ h. f ((item_cut P box e (items_of (drop (i + 1) is))).0 (subst (Have P box) (next_item is i e lt p) (left.1 h))).0)
