-- What the code's tree stands for, where it holds lists.
use Rattle.std.specs.Prelude.{ℕ, ◌+◌, Bool, true, false, ◌≡◌, ◌==◌, ◌||◌, ◌<◌, ◌≤◌, List, [], ◌∷◌, length, get_or, drop}
use Rattle.std.proofs.Common.{refl, sym, ap, ◌∙◌, arith}
use Rattle.semantics.specs.Tree
use Rattle.ktree.specs.View.{exprs_of, stmt_of, items_of, with_item}
use Rattle.ktree.specs.declared.expression.Expr.{Expr}
use Rattle.ktree.specs.declared.statement.Item.{Item, Directive, Local, Statement'}
use Rattle.ktree.proofs.Trees.{next_item}
use Rattle.nest_loop.specs.Canonical.{is_variable, assigns, assigns_among}

-- an object is a variable only without subscripts
pub plain_variable : (x y : ℕ) (es : List Expr) → length es < 1 → is_variable x (Tree.Object y (exprs_of es)) ≡ (y == x)
plain_variable x y [] l = refl
plain_variable x y (e ∷ es) l = absurd (omega arith)

pub subscripted_variable : (x y : ℕ) (es : List Expr) → 1 ≤ length es → is_variable x (Tree.Object y (exprs_of es)) ≡ false
subscripted_variable x y [] l = absurd (omega arith)
subscripted_variable x y (e ∷ es) l = refl

or_false : (b : Bool) → (b || false) ≡ b
or_false true = refl
or_false false = refl

first_assigns : (x : ℕ) (i : Item) (rest : Tree.Items) → assigns_among x (with_item i rest) ≡ (assigns_among x (with_item i Tree.no_items) || assigns_among x rest)
first_assigns x (Directive place) rest = refl
first_assigns x (Local l) rest = refl
first_assigns x (Statement' p s) rest = ap (λ b. b || assigns_among x rest) (sym (or_false (assigns x (stmt_of s))))

-- an item that assigns, and one that does not
pub assigned_here : (x : ℕ) (is : List Item) (i : ℕ) (e : Item) → i < length is → e ≡ get_or is i e → assigns_among x (with_item e Tree.no_items) ≡ true
    → assigns_among x (items_of (drop i is)) ≡ true
assigned_here x is i e lt p h =
    ap (assigns_among x) (next_item is i e lt p) ∙ first_assigns x e (items_of (drop (i + 1) is)) ∙ ap (λ b. b || assigns_among x (items_of (drop (i + 1) is))) h

pub assigned_later : (x : ℕ) (is : List Item) (i : ℕ) (e : Item) → i < length is → e ≡ get_or is i e → assigns_among x (with_item e Tree.no_items) ≡ false
    → assigns_among x (items_of (drop i is)) ≡ assigns_among x (items_of (drop (i + 1) is))
assigned_later x is i e lt p h =
    ap (assigns_among x) (next_item is i e lt p) ∙ first_assigns x e (items_of (drop (i + 1) is)) ∙ ap (λ b. b || assigns_among x (items_of (drop (i + 1) is))) h
