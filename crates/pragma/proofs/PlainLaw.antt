-- Directive lines, item by item.
use Rattle.std.specs.Prelude.{ℕ, ◌+◌, ◌-◌, Bool, true, false, ◌||◌, ◌≡◌, ◌<◌, ◌↔◌, List, [], ◌++◌, length, get_or, take, drop, Option, Some, None, string_bytes}
use Rattle.std.proofs.Common.{Box, Global, refl, sym, ap, ◌∙◌, subst, arith}
use Rattle.std.proofs.lemmas.List.{length-drop, take_all}
use Rattle.semantics.specs.Tree
use Rattle.semantics.specs.Loops.Nest.{Loop}
use Rattle.ktree.specs.View.{source_of, cond_of, increment_of, stmt_of, items_of, with_item}
use Rattle.ktree.specs.declared.statement.Stmt.{Stmt, For}
use Rattle.ktree.specs.declared.statement.Head.{Head}
use Rattle.ktree.specs.declared.statement.Item.{Item, Directive, Local, Statement'}
use Rattle.ktree.proofs.Trees.{next_item}
use Rattle.pragma.specs.Parallel.{LineHas, LoopsHave, ItemsHave}
use Rattle.pragma.specs.Plain.{has_line, has_line_among, IsPlainLoop, FirstLineHas, FirstLoopsHave, Judges}

-- what is behind some items, to the end
pub all_behind : (is : List Item) (i : ℕ) → take (length is - i) (drop i is) ≡ drop i is
all_behind is i = let n = length-drop i is in take_all (length is - i) (drop i is) (omega (arith, n))

-- a line in the first item, or behind it
or_false : (b : Bool) → (b || false) ≡ b
or_false true = refl
or_false false = refl

pub line_cut : (i : Item) (rest : Tree.Items) → has_line_among (with_item i rest) ≡ (has_line_among (with_item i Tree.no_items) || has_line_among rest)
line_cut (Directive place) rest = refl
line_cut (Local l) rest = refl
line_cut (Statement' p s) rest = ap (λ b. b || has_line_among rest) (sym (or_false (has_line (stmt_of s))))

pub inner_line : (s : Tree.Stmt) → has_line_among (Tree.stmt s Tree.no_items) ≡ has_line s
inner_line s = or_false (has_line s)

-- a line in this item
pub line_here : (is : List Item) (i : ℕ) (e : Item) → i < length is → e ≡ get_or is i e → has_line_among (items_of (drop i is)) ≡ has_line_among (items_of is)
    → has_line_among (with_item e Tree.no_items) ≡ true → has_line_among (items_of is) ≡ true
line_here is i e lt p left here =
    sym left ∙ ap has_line_among (next_item is i e lt p) ∙ line_cut e (items_of (drop (i + 1) is)) ∙ ap (λ b. b || has_line_among (items_of (drop (i + 1) is))) here

-- none in it
pub line_later : (is : List Item) (i : ℕ) (e : Item) → i < length is → e ≡ get_or is i e → has_line_among (items_of (drop i is)) ≡ has_line_among (items_of is)
    → has_line_among (with_item e Tree.no_items) ≡ false → has_line_among (items_of (drop (i + 1) is)) ≡ has_line_among (items_of is)
line_later is i e lt p left here =
    sym (sym left ∙ ap has_line_among (next_item is i e lt p) ∙ line_cut e (items_of (drop (i + 1) is)) ∙ ap (λ b. b || has_line_among (items_of (drop (i + 1) is))) here)

abbrev mutual
  -- whatever stands round a statement, the same is asked of the loops in it
  pub same_round : (text : List ℕ) (a b : List Loop) (s : Tree.Stmt) → LoopsHave text IsPlainLoop a s → LoopsHave text IsPlainLoop b s
  same_round text a b (Tree.Assign x is e) h = h
  same_round text a b (Tree.Update x is op e) h = h
  same_round text a b (Tree.If c s) h = same_round text a b s h
  same_round text a b (Tree.IfElse c s t) h = (same_round text a b s h.0, same_round text a b t h.1)
  same_round text a b (Tree.For x name start test step body) h = same_round text (a ++ _) (b ++ _) body h
  same_round text a b (Tree.Block items) h = same_items text a b items h
  same_round text a b (Tree.Print parts) h = h

  pub same_items : (text : List ℕ) (a b : List Loop) (items : Tree.Items) → ItemsHave text IsPlainLoop a items → ItemsHave text IsPlainLoop b items
  same_items text a b Tree.no_items h = h
  same_items text a b (Tree.mark line rest) h = (same_line text a b line rest h.0, same_items text a b rest h.1)
  same_items text a b (Tree.local x name start rest) h = same_items text a b rest h
  same_items text a b (Tree.stmt s rest) h = (same_round text a b s h.0, same_items text a b rest h.1)

  pub same_line : (text : List ℕ) (a b : List Loop) (line : ℕ) (rest : Tree.Items) → LineHas text IsPlainLoop a line rest → LineHas text IsPlainLoop b line rest
  same_line text a b line Tree.no_items h = h
  same_line text a b line (Tree.mark other rest) h = h
  same_line text a b line (Tree.local x name start rest) h = h
  same_line text a b line (Tree.stmt s rest) h = h

-- an item, and the others
pub item_cut : (text : List ℕ) (i : Item) (rest : Tree.Items)
    → ItemsHave text IsPlainLoop [] (with_item i rest) ↔ FirstLineHas text (with_item i Tree.no_items) rest × FirstLoopsHave text (with_item i Tree.no_items) × ItemsHave text IsPlainLoop [] rest
item_cut text (Directive place) rest = (λ h. (h.0, tt, h.1), λ h. (h.0, h.2))
item_cut text (Local l) rest = (λ h. (tt, tt, h), λ h. h.2)
item_cut text (Statement' p s) rest = (λ h. (tt, h.0, h.1), λ h. (h.1, h.2))

-- the items that are left decide
abbrev pub Left : List ℕ → List Item → ℕ → Type 0
Left text is i = ItemsHave text IsPlainLoop [] (items_of (drop i is)) ↔ ItemsHave text IsPlainLoop [] (items_of is)

-- an item that is so
pub item_more : (text : List ℕ) (is : List Item) (i : ℕ) (e : Item) → i < length is → e ≡ get_or is i e → Left text is i
    → FirstLineHas text (with_item e Tree.no_items) (items_of (drop (i + 1) is)) → FirstLoopsHave text (with_item e Tree.no_items) → Left text is (i + 1)
item_more text is i e lt p left line loops =
    let cut = item_cut text e (items_of (drop (i + 1) is)) in
    let next = next_item is i e lt p in
    (λ h. left.0 (subst (ItemsHave text IsPlainLoop []) (sym next) (cut.1 (line, loops, h))), λ h. (cut.0 (subst (ItemsHave text IsPlainLoop []) next (left.1 h))).2)

-- an item that is not
pub item_parts : (text : List ℕ) (is : List Item) (i : ℕ) (e : Item) → i < length is → e ≡ get_or is i e → Left text is i → ItemsHave text IsPlainLoop [] (items_of is)
    → FirstLineHas text (with_item e Tree.no_items) (items_of (drop (i + 1) is)) × FirstLoopsHave text (with_item e Tree.no_items)
item_parts text is i e lt p left h =
    let parts = (item_cut text e (items_of (drop (i + 1) is))).0 (subst (ItemsHave text IsPlainLoop []) (next_item is i e lt p) (left.1 h)) in
    (parts.0, parts.1)

-- a judgement of what comes to the same
pub judges_same : {A : Type 0} {P Q : Type 0} (o : Option A) → (P → Q) → (Q → P) → Judges o P → Judges o Q
judges_same None f g h = f h
judges_same (Some x) f g h = λ q. h (g q)

-- a loop's statement, by its head and body
abbrev loop_of : Head → Tree.Stmt → Tree.Stmt
loop_of head body = Tree.For head.variable.0 (string_bytes head.name) (source_of head.start) (cond_of head.test) (increment_of head.step) body

-- a loop is judged by its body
pub for_judged : {A : Type 0} (o : Option A) (text : List ℕ) (s : Stmt) (head : Head) (body : Box Stmt Global) (inner : Stmt) → s ≡ For head body → inner ≡ body.value
    → Judges o (LoopsHave text IsPlainLoop [] (stmt_of inner)) → Judges o (LoopsHave text IsPlainLoop [] (stmt_of s))
for_judged o text s head body inner e f h =
    let is : loop_of head (stmt_of inner) ≡ stmt_of s = ap (λ b. loop_of head (stmt_of b)) f ∙ sym (ap stmt_of e) in
    subst (λ t. Judges o (LoopsHave text IsPlainLoop [] t)) is (judges_same o (same_round text [] _ (stmt_of inner)) (same_round text _ [] (stmt_of inner)) h)

-- no truth is false
pub clash : (b : Bool) → true ≡ b → b ≡ false → ⊥
clash b e f = absurd cc

-- a line before these items that is not so
pub line_refused : (text : List ℕ) (is : List Item) (i : ℕ) (e : Item) → i < length is → e ≡ get_or is i e → Left text is i
    → (FirstLineHas text (with_item e Tree.no_items) (items_of (take (length is - (i + 1)) (drop (i + 1) is))) → ⊥) → ItemsHave text IsPlainLoop [] (items_of is) → ⊥
line_refused text is i e lt p left none h =
    none (subst (λ xs. FirstLineHas text (with_item e Tree.no_items) (items_of xs)) (sym (all_behind is (i + 1))) (item_parts text is i e lt p left h).0)
