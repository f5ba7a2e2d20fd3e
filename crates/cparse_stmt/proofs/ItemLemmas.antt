-- A block's items, one by one.
use Rattle.std.proofs.Common.{◌≡◌, ℕ, zero, suc, List, [], ◌∷◌, ◌++◌, length, take, refl, sym, ap, ◌∙◌}
use Rattle.semantics.specs.Tree.{Items, no_items, mark, local, stmt}
use Rattle.ktree.specs.View.{with_item, items_of}
use Rattle.ktree.specs.declared.statement.Item.{Item, Directive, Local, Statement'}
use Rattle.cparse_grammar.specs.StatementReader.{statement, counted}
use Rattle.cparse_grammar.specs.StatementParts.{append_items, once, twice}

-- an item in front of others
with_item_by : (i : Item) (more : Items) → with_item i more ≡ append_items (with_item i no_items) more
with_item_by (Directive place) more = refl
with_item_by (Local l) more = refl
with_item_by (Statement' p s) more = refl

pub append_assoc : (a b c : Items) → append_items (append_items a b) c ≡ append_items a (append_items b c)
append_assoc no_items b c = refl
append_assoc (mark line a) b c = ap (mark line) (append_assoc a b c)
append_assoc (local x name start a) b c = ap (local x name start) (append_assoc a b c)
append_assoc (stmt s a) b c = ap (stmt s) (append_assoc a b c)

pub append_none : (a : Items) → append_items a no_items ≡ a
append_none no_items = refl
append_none (mark line a) = ap (mark line) (append_none a)
append_none (local x name start a) = ap (local x name start) (append_none a)
append_none (stmt s a) = ap (stmt s) (append_none a)

-- one more item
pub items_more : (is : List Item) (i : Item) → items_of (is ++ i ∷ []) ≡ append_items (items_of is) (with_item i no_items)
items_more [] i = refl
items_more (j ∷ is) i =
    ap (with_item j) (items_more is i) ∙ (with_item_by j (append_items (items_of is) (with_item i no_items))
    ∙ (sym (append_assoc (with_item j no_items) (items_of is) (with_item i no_items)) ∙ ap (λ a. append_items a (with_item i no_items)) (sym (with_item_by j (items_of is)))))

-- a statement by what may be opened in it
pub statement_by : (room : ℕ) → statement room ≡ counted room (once room) (twice room)
statement_by zero = refl
statement_by (suc zero) = refl
statement_by (suc (suc room)) = refl

-- a front of a front
pub front_then : {A : Type 0} (xs ys zs : List A) → take (length xs) ys ≡ xs → take (length ys) zs ≡ ys → take (length xs) zs ≡ xs
front_then [] ys zs h k = refl
front_then (x ∷ xs) [] zs h k = absurd cc
front_then (x ∷ xs) (y ∷ ys) [] h k = absurd cc
front_then (x ∷ xs) (y ∷ ys) (z ∷ zs) h k =
    let one : take (length xs) ys ≡ xs = cc in
    let two : take (length ys) zs ≡ ys = cc in
    let head : z ≡ x = cc in
    ap (λ w. w ∷ take (length xs) zs) head ∙ ap (λ ws. x ∷ ws) (front_then xs ys zs one two)
