-- What a block's items assign, one after another.
use Rattle.std.specs.Prelude.{ℕ, Bool, true, false, ◌≡◌, ◌+◌, ◌<◌, ◌||◌, ◌&&◌, ◌==◌, if◌then◌else◌, List, [], ◌∷◌, ◌++◌, length, get_or, drop, filter}
use Rattle.std.proofs.Common.{refl, sym, ap, ◌∙◌, arith}
use Rattle.std.proofs.lemmas.Bool.{eqb-true}
use Rattle.std.proofs.lemmas.List.Folds.{list_any-append}
use Rattle.semantics.specs.Tree
use Rattle.semantics.specs.Tree.{Variable}
use Rattle.semantics.specs.Meaning.Agrees.{is_among}
use Rattle.law_commute.specs.Targets.{scalar, targets, targets_among}
use Rattle.ktree.specs.View.{exprs_of, stmt_of, items_of, with_item}
use Rattle.ktree.specs.declared.expression.Expr.{Expr}
use Rattle.ktree.specs.declared.statement.Item.{Item, Directive, Local, Statement'}
use Rattle.ktree.proofs.Trees.{next_item}

or_false : (b : Bool) → (b || false) ≡ b
or_false true = refl
or_false false = refl

-- an element of an array is no scalar
pub element : (x y : Variable) (es : List Expr) → 0 < length es → false ≡ is_among (scalar x (exprs_of es)) y
element x y [] lt = absurd (omega arith)
element x y (e ∷ es) lt = refl

-- a variable of the first, or of the others
among_both : (xs ys : List Variable) (x : Variable) → is_among (xs ++ ys) x ≡ (is_among xs x || is_among ys x)
among_both xs ys x = list_any-append (λ y. y == x) xs ys

among_alone : (xs : List Variable) (x : Variable) → is_among (xs ++ []) x ≡ is_among xs x
among_alone xs x = among_both xs [] x ∙ or_false (is_among xs x)

assigned_cut : (x : Variable) (i : Item) (rest : Tree.Items)
    → is_among (targets_among (with_item i rest)) x ≡ (is_among (targets_among (with_item i Tree.no_items)) x || is_among (targets_among rest) x)
assigned_cut x (Directive place) rest = refl
assigned_cut x (Local l) rest = refl
assigned_cut x (Statement' p s) rest = among_both (targets (stmt_of s)) (targets_among rest) x ∙ ap (λ b. b || is_among (targets_among rest) x) (sym (among_alone (targets (stmt_of s)) x))

-- an item, and what is behind it
module _ (x : Variable) (is : List Item) (i : ℕ) (e : Item) (lt : i < length is) (at : e ≡ get_or is i e) (left : is_among (targets_among (items_of (drop i is))) x ≡ is_among (targets_among (items_of is)) x) where
  assigned_next : is_among (targets_among (items_of is)) x ≡ (is_among (targets_among (with_item e Tree.no_items)) x || is_among (targets_among (items_of (drop (i + 1) is))) x)
  assigned_next = sym left ∙ ap (λ items. is_among (targets_among items) x) (next_item is i e lt at) ∙ assigned_cut x e (items_of (drop (i + 1) is))

  -- this item assigns it
  pub assigned_here : is_among (targets_among (with_item e Tree.no_items)) x ≡ true → is_among (targets_among (items_of is)) x ≡ true
  assigned_here here = assigned_next ∙ ap (λ b. b || is_among (targets_among (items_of (drop (i + 1) is))) x) here

  -- it does not
  pub assigned_later : is_among (targets_among (with_item e Tree.no_items)) x ≡ false → is_among (targets_among (items_of (drop (i + 1) is))) x ≡ is_among (targets_among (items_of is)) x
  assigned_later here = sym (assigned_next ∙ ap (λ b. b || is_among (targets_among (items_of (drop (i + 1) is))) x) here)

-- one of those that a test leaves passes it
pub among_left : (f : Variable → Bool) (xs : List Variable) (x : Variable) → is_among (filter f xs) x ≡ (f x && is_among xs x)
among_left f [] x = go (f x)
  where
    go : (b : Bool) → false ≡ (b && false)
    go true = refl
    go false = refl
among_left f (y ∷ xs) x = go (f y) refl (y == x) refl (among_left f xs x)
  where
    rest : List Variable
    rest = filter f xs

    go : (b : Bool) → f y ≡ b → (e : Bool) → (y == x) ≡ e → is_among rest x ≡ (f x && is_among xs x) → is_among (if f y then y ∷ rest else rest) x ≡ (f x && ((y == x) || is_among xs x))
    go true is true same later =
        ap (λ (b : Bool). is_among (if b then y ∷ rest else rest) x) is ∙ ap (λ b. b || is_among rest x) same
        ∙ sym (ap (λ b. f x && (b || is_among xs x)) same ∙ ap (λ b. b && true) (sym (ap f (eqb-true y x same)) ∙ is))
    go false is true same later =
        ap (λ (b : Bool). is_among (if b then y ∷ rest else rest) x) is ∙ later ∙ ap (λ b. b && is_among xs x) none
        ∙ sym (ap (λ b. f x && (b || is_among xs x)) same ∙ ap (λ b. b && true) none)
      where
        none : f x ≡ false
        none = sym (ap f (eqb-true y x same)) ∙ is
    go true is false same later =
        ap (λ (b : Bool). is_among (if b then y ∷ rest else rest) x) is ∙ ap (λ b. b || is_among rest x) same ∙ later ∙ sym (ap (λ b. f x && (b || is_among xs x)) same)
    go false is false same later = ap (λ (b : Bool). is_among (if b then y ∷ rest else rest) x) is ∙ later ∙ sym (ap (λ b. f x && (b || is_among xs x)) same)
