-- A tree without its directive lines is the same, whichever of them were left out before.
use Rattle.std.specs.Prelude.{ℕ, Bool, true, false, ◌≡◌, if◌then◌else◌}
use Rattle.std.proofs.Common.{refl, ap, ◌∙◌}
use Rattle.semantics.specs.Tree.{Stmt, Assign, Update, If, IfElse, For, Block, Print, Items, no_items, mark, local, stmt, strip_stmt, strip_items}
use Rattle.law_lines.specs.Without.{without_in, without_among}
use Rattle.law_lines.specs.Laws.{StrippedTreesAreOne}

stripped_line : (b : Bool) (line : ℕ) (items : Items) → strip_items (if b then items else mark line items) ≡ strip_items items
stripped_line true line items = refl
stripped_line false line items = refl

mutual
  stripped_in : (out : ℕ → Bool) (s : Stmt) → strip_stmt (without_in out s) ≡ strip_stmt s
  stripped_in out (Assign x is e) = refl
  stripped_in out (Update x is op e) = refl
  stripped_in out (If c a) = ap (λ t. If c t) (stripped_in out a)
  stripped_in out (IfElse c a b) = ap (λ t. IfElse c t (strip_stmt (without_in out b))) (stripped_in out a) ∙ ap (λ t. IfElse c (strip_stmt a) t) (stripped_in out b)
  stripped_in out (For x name start test step body) = ap (λ t. For x name start test step t) (stripped_in out body)
  stripped_in out (Block items) = ap (λ t. Block t) (stripped_among out items)
  stripped_in out (Print parts) = refl

  stripped_among : (out : ℕ → Bool) (items : Items) → strip_items (without_among out items) ≡ strip_items items
  stripped_among out no_items = refl
  stripped_among out (mark line rest) = stripped_line (out line) line (without_among out rest) ∙ stripped_among out rest
  stripped_among out (local x name start rest) = ap (λ t. local x name start t) (stripped_among out rest)
  stripped_among out (stmt s rest) = ap (λ t. stmt t (strip_items (without_among out rest))) (stripped_in out s) ∙ ap (λ t. stmt (strip_stmt s) t) (stripped_among out rest)

pub stripped_trees_are_one : StrippedTreesAreOne
stripped_trees_are_one out tree = ap (λ t. record { constants = tree.constants; variables = tree.variables; body = t }) (stripped_among out tree.body)
