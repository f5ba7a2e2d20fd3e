-- The data of parallel loops, statement by statement.
use Rattle.std.specs.Prelude.{ℕ, suc, ◌+◌, ◌-◌, Bool, true, false, ◌||◌, ◌&&◌, ◌==◌, ◌≡◌, ◌<◌, ◌↔◌, List, [], ◌∷◌, ◌++◌, length, get_or, take, drop, Option, Some, None, option_map, option_and_then, string_bytes}
use Rattle.std.proofs.Common.{Box, Global, refl, sym, ap, ◌∙◌, subst, arith, inl, inr}
use Rattle.std.proofs.lemmas.List.Folds.{list_any-append}
use Rattle.semantics.specs.Tree
use Rattle.semantics.specs.Tree.{Variable}
use Rattle.semantics.specs.Source.Text.{line_at}
use Rattle.semantics.specs.Meaning.Agrees.{is_among, declared_in, declared_among}
use Rattle.semantics.specs.Meaning.Value.{map_option}
use Rattle.semantics.specs.Loops.Nest.{Loop, as_loop, nest_of}
use Rattle.ktree.specs.View.{exprs_of, source_of, cond_of, increment_of, stmt_of, items_of, with_item}
use Rattle.ktree.specs.declared.expression.Expr.{Expr}
use Rattle.ktree.specs.declared.statement.Stmt.{Stmt, For}
use Rattle.ktree.specs.declared.statement.Head.{Head}
use Rattle.ktree.specs.declared.statement.Item.{Item, Directive, Local, Statement'}
use Rattle.semantics.specs.Directives.Directive.{Schedule}
use Rattle.pragma.specs.Clauses.{ReadsLoop}
use Rattle.pragma.specs.Parallel.{AskedOfLoop, associated, FirstHas, LineHas}
use Rattle.pragma.proofs.LoopLaw.{read_once}
use Rattle.ktree.proofs.Trees.{next_item}
use Rattle.pragma.proofs.PlainLaw.{all_behind}
use Rattle.flow.specs.declared.fault.DataFault.{DataFault}
use Rattle.flow.specs.Private.{is_own, keeps, keeps_all, nest_body_of, first_stmt_of}
use Rattle.flow.specs.Roles.{LoopData, LineData, KeepsItsRoles, KeepsRolesThere, LoopsKeepRoles, ItemsKeepRoles, FirstLineKeepsRoles, FirstLoopsKeepRoles}
use Rattle.flow.specs.Told.{Finds, IsNest}

or_false : (b : Bool) → (b || false) ≡ b
or_false true = refl
or_false false = refl

and_true : (b : Bool) → (b && true) ≡ b
and_true true = refl
and_true false = refl

-- a variable of the first, or of the others
pub among_both : (xs ys : List Variable) (x : Variable) → is_among (xs ++ ys) x ≡ (is_among xs x || is_among ys x)
among_both xs ys x = list_any-append (λ y. y == x) xs ys

-- one that a statement declares alone
pub declared_alone : (s : Tree.Stmt) (x : Variable) → is_among (declared_among (Tree.stmt s Tree.no_items)) x ≡ is_among (declared_in s) x
declared_alone s x = among_both (declared_in s) [] x ∙ or_false (is_among (declared_in s) x)

declared_cut : (x : Variable) (i : Item) (rest : Tree.Items)
    → is_among (declared_among (with_item i rest)) x ≡ (is_among (declared_among (with_item i Tree.no_items)) x || is_among (declared_among rest) x)
declared_cut x (Directive place) rest = refl
declared_cut x (Local l) rest = ap (λ b. b || is_among (declared_among rest) x) (sym (or_false (l.variable.0 == x)))
declared_cut x (Statement' p s) rest = among_both (declared_in (stmt_of s)) (declared_among rest) x ∙ ap (λ b. b || is_among (declared_among rest) x) (sym (declared_alone (stmt_of s) x))

keeps_cut : (own : Variable → Bool) (i : Item) (rest : Tree.Items) → keeps_all own (with_item i rest) ≡ (keeps_all own (with_item i Tree.no_items) && keeps_all own rest)
keeps_cut own (Directive place) rest = refl
keeps_cut own (Local l) rest = refl
keeps_cut own (Statement' p s) rest = ap (λ b. b && keeps_all own rest) (sym (and_true (keeps own (stmt_of s))))

-- an item, and what is behind it
module _ (x : Variable) (is : List Item) (i : ℕ) (e : Item) (lt : i < length is) (at : e ≡ get_or is i e) (left : is_among (declared_among (items_of (drop i is))) x ≡ is_among (declared_among (items_of is)) x) where
  declared_next : is_among (declared_among (items_of is)) x ≡ (is_among (declared_among (with_item e Tree.no_items)) x || is_among (declared_among (items_of (drop (i + 1) is))) x)
  declared_next = sym left ∙ ap (λ items. is_among (declared_among items) x) (next_item is i e lt at) ∙ declared_cut x e (items_of (drop (i + 1) is))

  -- this item declares it
  pub declared_here : is_among (declared_among (with_item e Tree.no_items)) x ≡ true → is_among (declared_among (items_of is)) x ≡ true
  declared_here here = declared_next ∙ ap (λ b. b || is_among (declared_among (items_of (drop (i + 1) is))) x) here

  -- it does not
  pub declared_later : is_among (declared_among (with_item e Tree.no_items)) x ≡ false → is_among (declared_among (items_of (drop (i + 1) is))) x ≡ is_among (declared_among (items_of is)) x
  declared_later here = sym (declared_next ∙ ap (λ b. b || is_among (declared_among (items_of (drop (i + 1) is))) x) here)

module _ (own : Variable → Bool) (is : List Item) (i : ℕ) (e : Item) (lt : i < length is) (at : e ≡ get_or is i e) (left : keeps_all own (items_of (drop i is)) ≡ keeps_all own (items_of is)) where
  keeps_next : keeps_all own (items_of is) ≡ (keeps_all own (with_item e Tree.no_items) && keeps_all own (items_of (drop (i + 1) is)))
  keeps_next = sym left ∙ ap (keeps_all own) (next_item is i e lt at) ∙ keeps_cut own e (items_of (drop (i + 1) is))

  -- this item does not keep to its own
  pub fault_here : keeps_all own (with_item e Tree.no_items) ≡ false → keeps_all own (items_of is) ≡ false
  fault_here here = keeps_next ∙ ap (λ b. b && keeps_all own (items_of (drop (i + 1) is))) here

  -- it does
  pub fault_later : keeps_all own (with_item e Tree.no_items) ≡ true → keeps_all own (items_of (drop (i + 1) is)) ≡ keeps_all own (items_of is)
  fault_later here = sym (keeps_next ∙ ap (λ b. b && keeps_all own (items_of (drop (i + 1) is))) here)

-- an element is assigned
pub element : (own : Variable → Bool) (x : Variable) (es : List Expr) → 0 < length es → true ≡ is_own own x (exprs_of es)
element own x [] lt = absurd (omega arith)
element own x (e ∷ es) lt = refl

-- the body of a nest, loop by loop
pub nest_on : (n : ℕ) (s : Tree.Stmt) → nest_body_of (suc n) s ≡ option_and_then (λ found. nest_body_of n found.1) (as_loop s)
nest_on n s = go (as_loop s)
  where
    inner : (l : Loop) (o : Option (List Loop × Tree.Stmt)) → option_map (λ (nest : List Loop × Tree.Stmt). nest.1) (map_option (λ (inner : List Loop × Tree.Stmt). (l ∷ inner.0, inner.1)) o) ≡ option_map (λ (nest : List Loop × Tree.Stmt). nest.1) o
    inner l None = refl
    inner l (Some nest) = refl

    go : (o : Option (Loop × Tree.Stmt))
        → option_map (λ (nest : List Loop × Tree.Stmt). nest.1) (option_and_then (λ (found : Loop × Tree.Stmt). map_option (λ (inner : List Loop × Tree.Stmt). (found.0 ∷ inner.0, inner.1)) (nest_of n found.1)) o)
        ≡ option_and_then (λ (found : Loop × Tree.Stmt). nest_body_of n found.1) o
    go None = refl
    go (Some found) = inner found.0 (nest_of n found.1)

module _ (depth i : ℕ) (s body : Tree.Stmt) (lt : i < depth) (left : nest_body_of (depth - i) body ≡ nest_body_of depth s) where
  nest_left : option_and_then (λ (found : Loop × Tree.Stmt). nest_body_of (depth - (i + 1)) found.1) (as_loop body) ≡ nest_body_of depth s
  nest_left =
      let count : depth - i ≡ suc (depth - (i + 1)) = omega arith in
      sym (nest_on (depth - (i + 1)) body) ∙ ap (λ n. nest_body_of n body) (sym count) ∙ left

  -- one loop further in
  pub nest_more : (h : Loop) (inner : Tree.Stmt) → as_loop body ≡ Some (h, inner) → nest_body_of (depth - (i + 1)) inner ≡ nest_body_of depth s
  nest_more h inner is = ap (option_and_then (λ (found : Loop × Tree.Stmt). nest_body_of (depth - (i + 1)) found.1)) (sym is) ∙ nest_left

  -- no loop is there
  pub nest_ends : as_loop body ≡ None → None ≡ nest_body_of depth s
  nest_ends none = ap (option_and_then (λ (found : Loop × Tree.Stmt). nest_body_of (depth - (i + 1)) found.1)) (sym none) ∙ nest_left

-- a nest with a body
pub nest_with : (n : ℕ) (s b : Tree.Stmt) → Some b ≡ nest_body_of n s → (loops : List Loop) × (nest_of n s ≡ Some (loops, b))
nest_with n s b e = go (nest_of n s) refl e
  where
    go : (o : Option (List Loop × Tree.Stmt)) → nest_of n s ≡ o → Some b ≡ option_map (λ (nest : List Loop × Tree.Stmt). nest.1) o → (loops : List Loop) × (nest_of n s ≡ Some (loops, b))
    go None is f = absurd (cc f)
    go (Some nest) is f = let same : b ≡ nest.1 = cc f in (nest.0, is ∙ ap (λ c. Some (nest.0, c)) (sym same))

pub body_of_nest : (n : ℕ) (s b : Tree.Stmt) (loops : List Loop) → nest_of n s ≡ Some (loops, b) → nest_body_of n s ≡ Some b
body_of_nest n s b loops e = ap (option_map (λ (nest : List Loop × Tree.Stmt). nest.1)) e

-- what is asked of the statement that stands first
pub first_is : (P : AskedOfLoop) (n : ℕ) (rest : Tree.Items) (s : Tree.Stmt) → Some s ≡ first_stmt_of rest → FirstHas P [] n rest ↔ P [] n s
first_is P n Tree.no_items s e = absurd (cc e)
first_is P n (Tree.mark line rest) s e = absurd (cc e)
first_is P n (Tree.local x name start rest) s e = absurd (cc e)
first_is P n (Tree.stmt t rest) s e =
    let same : s ≡ t = cc e in
    (subst (P [] n) (sym same), subst (P [] n) same)

-- what is found of the one, is found of the other
pub finds_same : {A B : Type 0} (o : Option DataFault) → (A → B) → (B → A) → Finds o A → Finds o B
finds_same None one other h = one h
finds_same (Some f) one other (inl out) = inl out
finds_same (Some f) one other (inr not) = inr (λ b. not (other b))

-- a directive that has a statement behind it
module _ (text : List ℕ) (line : ℕ) (rest : Tree.Items) (k : Option Schedule) (c : Option ℕ) (reads : ReadsLoop (line_at text line) k c) (s : Tree.Stmt) (first : Some s ≡ first_stmt_of rest) where
  pub asked : (P : AskedOfLoop) → LineHas text P [] line rest → P [] (associated c) s
  asked P h =
      let once : (h.0 ≡ k) × (h.1 ≡ c) = read_once (line_at text line) h.0 h.1 k c h.2 reads in
      subst (λ d. P [] (associated d) s) once.1 ((first_is P (associated h.1) rest s first).0 h.3)

  -- but no nest
  no_nest : None ≡ nest_body_of (associated c) s → IsNest [] (associated c) s → ⊥
  no_nest none nest = absurd (cc (none, body_of_nest (associated c) s nest.1 nest.0 nest.2))

  pub not_nested : None ≡ nest_body_of (associated c) s → LineHas text IsNest [] line rest → ⊥
  not_nested none h = no_nest none (asked IsNest h)

  pub not_kept : (d : LoopData) → None ≡ nest_body_of (associated c) s → LineHas text (KeepsRolesThere d) [] line rest → ⊥
  not_kept d none h =
      let its = asked (KeepsRolesThere d) h in
      no_nest none (its.loops, its.body, its.nest)

  -- and a nest
  pub nest_judged : (d : LoopData) (o : Option DataFault) → Finds o (KeepsItsRoles d (associated c) s) → Finds o (LineHas text (KeepsRolesThere d) [] line rest)
  nest_judged d o h = finds_same o (λ its. (k, c, reads, (first_is (KeepsRolesThere d) (associated c) rest s first).1 its)) (asked (KeepsRolesThere d)) h

abbrev mutual
  -- whatever stands round a statement, the same is asked of the loops in it
  pub same_round : (text : List ℕ) (R : LineData) (a b : List Loop) (s : Tree.Stmt) → LoopsKeepRoles text R a s → LoopsKeepRoles text R b s
  same_round text R a b (Tree.Assign x is e) h = h
  same_round text R a b (Tree.Update x is op e) h = h
  same_round text R a b (Tree.If c s) h = same_round text R a b s h
  same_round text R a b (Tree.IfElse c s t) h = (same_round text R a b s h.0, same_round text R a b t h.1)
  same_round text R a b (Tree.For x name start test step body) h = same_round text R (a ++ _) (b ++ _) body h
  same_round text R a b (Tree.Block items) h = same_items text R a b items h
  same_round text R a b (Tree.Print parts) h = h

  same_items : (text : List ℕ) (R : LineData) (a b : List Loop) (items : Tree.Items) → ItemsKeepRoles text R a items → ItemsKeepRoles text R b items
  same_items text R a b Tree.no_items h = h
  same_items text R a b (Tree.mark line rest) h = (same_line text R a b line rest h.0, same_items text R a b rest h.1)
  same_items text R a b (Tree.local x name start rest) h = same_items text R a b rest h
  same_items text R a b (Tree.stmt s rest) h = (same_round text R a b s h.0, same_items text R a b rest h.1)

  same_line : (text : List ℕ) (R : LineData) (a b : List Loop) (line : ℕ) (rest : Tree.Items) → LineHas text (KeepsRolesThere (R line)) a line rest → LineHas text (KeepsRolesThere (R line)) b line rest
  same_line text R a b line Tree.no_items h = h
  same_line text R a b line (Tree.mark other rest) h = h
  same_line text R a b line (Tree.local x name start rest) h = h
  same_line text R a b line (Tree.stmt s rest) h = h

-- a loop's statement, by its head and body
abbrev pub loop_of : Head → Tree.Stmt → Tree.Stmt
loop_of head body = Tree.For head.variable.0 (string_bytes head.name) (source_of head.start) (cond_of head.test) (increment_of head.step) body

-- a loop, by what its fields stand for
pub loop_is : (s : Stmt) (head : Head) (body : Box Stmt Global) (inner : Stmt) → s ≡ For head body → inner ≡ body.value → loop_of head (stmt_of inner) ≡ stmt_of s
loop_is s head body inner e f = ap (λ b. loop_of head (stmt_of b)) f ∙ sym (ap stmt_of e)

-- the parallel loops in a loop are those in its body
pub loop_keeps : (text : List ℕ) (R : LineData) (head : Head) (inner s : Tree.Stmt) → loop_of head inner ≡ s → LoopsKeepRoles text R [] inner → LoopsKeepRoles text R [] s
loop_keeps text R head inner s is h = subst (LoopsKeepRoles text R []) is (same_round text R [] _ inner h)

-- an item, and the others
pub item_cut : (text : List ℕ) (R : LineData) (i : Item) (rest : Tree.Items)
    → ItemsKeepRoles text R [] (with_item i rest) ↔ FirstLineKeepsRoles text R (with_item i Tree.no_items) rest × FirstLoopsKeepRoles text R (with_item i Tree.no_items) × ItemsKeepRoles text R [] rest
item_cut text R (Directive place) rest = (λ h. (h.0, tt, h.1), λ h. (h.0, h.2))
item_cut text R (Local l) rest = (λ h. (tt, tt, h), λ h. h.2)
item_cut text R (Statement' p s) rest = (λ h. (tt, h.0, h.1), λ h. (h.1, h.2))

-- the items that are left decide
abbrev pub Left : List ℕ → LineData → List Item → ℕ → Type 0
Left text R is i = ItemsKeepRoles text R [] (items_of (drop i is)) ↔ ItemsKeepRoles text R [] (items_of is)

module _ (text : List ℕ) (R : LineData) (is : List Item) (i : ℕ) (e : Item) (lt : i < length is) (at : e ≡ get_or is i e) (left : Left text R is i) where
  -- an item that is so
  pub item_more : FirstLineKeepsRoles text R (with_item e Tree.no_items) (items_of (take (length is - (i + 1)) (drop (i + 1) is))) → FirstLoopsKeepRoles text R (with_item e Tree.no_items) → Left text R is (i + 1)
  item_more line loops =
      let cut = item_cut text R e (items_of (drop (i + 1) is)) in
      let next = next_item is i e lt at in
      let here = subst (λ xs. FirstLineKeepsRoles text R (with_item e Tree.no_items) (items_of xs)) (all_behind is (i + 1)) line in
      (λ h. left.0 (subst (ItemsKeepRoles text R []) (sym next) (cut.1 (here, loops, h))), λ h. (cut.0 (subst (ItemsKeepRoles text R []) next (left.1 h))).2)

  -- what the whole asks of an item
  pub item_parts : ItemsKeepRoles text R [] (items_of is) → FirstLineKeepsRoles text R (with_item e Tree.no_items) (items_of (drop (i + 1) is)) × FirstLoopsKeepRoles text R (with_item e Tree.no_items)
  item_parts h =
      let parts = (item_cut text R e (items_of (drop (i + 1) is))).0 (subst (ItemsKeepRoles text R []) (next_item is i e lt at) (left.1 h)) in
      (parts.0, parts.1)
