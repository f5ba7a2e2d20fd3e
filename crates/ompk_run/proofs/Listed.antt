-- What the directive lines of a text say is what is kept of its parallel loops.
use Rattle.std.proofs.Common.{◌≡◌, ℕ, List, [], sym, subst}
use Rattle.std.specs.List.{AllByRecursion as Each}
use Rattle.std.proofs.lemmas.List.Elements.{All-from_recursion}
use Rattle.semantics.specs.Tree.{Stmt, Assign, Update, If, IfElse, For, Block, Print, Items, no_items, mark, local, stmt, Kernel}
use Rattle.semantics.specs.Source.Text.{line_at}
use Rattle.pragma.specs.Clauses.{ReadsLoop}
use Rattle.pragma.specs.Views.{scheduled}
use Rattle.flow.specs.Roles.{LineData}
use Rattle.flow.specs.Parallel.{AreRolesOf, IsParallelLoop, Joined, LoopsAre, ItemsAre, AreParallelLoops, OfLoops}
use Rattle.flow.specs.declared.environment.ParallelLoop.{ParallelLoop}
use Rattle.law_commute.proofs.Lists.{each_join}
use Rattle.outline.specs.Handed.{IsOfText, AreOfText}

module _ (text : List ℕ) (R : LineData) where
  abbrev IsRead : ParallelLoop → Type 0
  IsRead l = IsOfText text R l

  abbrev AreRead : OfLoops
  AreRead ls = Each IsRead ls

  read : (line : ℕ) (rest : Items) (l : ParallelLoop) → IsParallelLoop text R line rest l → IsRead l
  read line rest l is = record {
    reads = subst (λ n. ReadsLoop (line_at text n) (scheduled l.directive) l.directive.collapse) (sym is.at_line) is.reads;
    roles = subst (λ n. AreRolesOf (R n) l.roles) (sym is.at_line) is.roles;
  }

  none : (ls : List ParallelLoop) → ls ≡ [] → AreRead ls
  none ls e = subst AreRead (sym e) tt

  both : (P Q : OfLoops) → ((ls : List ParallelLoop) → P ls → AreRead ls) → ((ls : List ParallelLoop) → Q ls → AreRead ls) → (ls : List ParallelLoop) → Joined P Q ls → AreRead ls
  both P Q p q ls h = subst AreRead (sym h.2) (each_join IsRead h.0 h.1 (p h.0 h.3) (q h.1 h.4))

  mutual
    of_statement : (a : Stmt) (ls : List ParallelLoop) → LoopsAre text R a ls → AreRead ls
    of_statement (Assign x is e) ls h = none ls h
    of_statement (Update x is op e) ls h = none ls h
    of_statement (If c a) ls h = of_statement a ls h
    of_statement (IfElse c a b) ls h = both (LoopsAre text R a) (LoopsAre text R b) (of_statement a) (of_statement b) ls h
    of_statement (For x name start test step body) ls h = of_statement body ls h
    of_statement (Block items) ls h = of_items items ls h
    of_statement (Print parts) ls h = none ls h

    of_items : (items : Items) (ls : List ParallelLoop) → ItemsAre text R items ls → AreRead ls
    of_items no_items ls h = none ls h
    of_items (mark line rest) ls h = subst AreRead (sym h.2) (read line rest h.0 h.3, of_items rest h.1 h.4)
    of_items (local x name start rest) ls h = of_items rest ls h
    of_items (stmt a rest) ls h = both (LoopsAre text R a) (ItemsAre text R rest) (of_statement a) (of_items rest) ls h

  pub are_of_text : (k : Kernel) (ls : List ParallelLoop) → AreParallelLoops text R k ls → AreOfText text R ls
  are_of_text k ls h = All-from_recursion IsRead ls (of_items k.body ls h)
