-- A tree of a text is one of which no line is left out.
use Rattle.std.specs.Prelude.{ℕ, false, ◌≡◌, List}
use Rattle.std.proofs.Common.{refl, sym, ap, ◌∙◌}
use Rattle.semantics.specs.Tree.{Stmt, Assign, Update, If, IfElse, For, Block, Print, Items, no_items, mark, local, stmt, Kernel}
use Rattle.semantics.specs.Source.Grammar.{ReadsText}
use Rattle.law_lines.specs.Without.{without_in, without_among, IsTreeOf}

mutual
  all_in : (s : Stmt) → without_in (λ n. false) s ≡ s
  all_in (Assign x is e) = refl
  all_in (Update x is op e) = refl
  all_in (If c a) = ap (λ t. If c t) (all_in a)
  all_in (IfElse c a b) = ap (λ t. IfElse c t (without_in (λ n. false) b)) (all_in a) ∙ ap (λ t. IfElse c a t) (all_in b)
  all_in (For x name start test step body) = ap (λ t. For x name start test step t) (all_in body)
  all_in (Block items) = ap (λ t. Block t) (all_among items)
  all_in (Print parts) = refl

  all_among : (items : Items) → without_among (λ n. false) items ≡ items
  all_among no_items = refl
  all_among (mark line rest) = ap (λ t. mark line t) (all_among rest)
  all_among (local x name start rest) = ap (λ t. local x name start t) (all_among rest)
  all_among (stmt s rest) = ap (λ t. stmt t (without_among (λ n. false) rest)) (all_in s) ∙ ap (λ t. stmt s t) (all_among rest)

pub whole_tree : (text : List ℕ) (tree : Kernel) → ReadsText text tree → IsTreeOf text tree
whole_tree text tree reads =
    record {
      whole = tree;
      reads = reads;
      left_out = λ n. false;
      is = ap (λ t. record { constants = tree.constants; variables = tree.variables; body = t }) (sym (all_among tree.body));
    }
