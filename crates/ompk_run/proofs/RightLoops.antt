-- The loops of a text that has passed are right: behind each directive line stands one that is kept of it, in a right nest that assigns scalars which have their places.
use Rattle.std.specs.Prelude.{ℕ, true, ◌≡◌, List, [], ◌∷◌, ◌++◌, Contains, Option}
use Rattle.std.proofs.Common.{refl, sym, ◌∙◌, subst, arith}
use Rattle.std.proofs.lemmas.Bool.{or_left, or_right}
use Rattle.std.proofs.lemmas.List.Elements.{Contains-append_left, Contains-append_right}
use Rattle.semantics.specs.Tree.{Variable, Stmt, Assign, Update, If, IfElse, For, Block, Print, Items, no_items, mark, local, stmt, Kernel}
use Rattle.semantics.specs.Source.Text.{line_at}
use Rattle.semantics.specs.Meaning.Agrees.{is_among}
use Rattle.affine.specs.declared.interval.Side.{Side}
use Rattle.nest_loop.specs.Loops.{inside}
use Rattle.nest.specs.Perfect.{IsRightNest, LineNests, Nests, ItemsNest, AreRightNests}
use Rattle.pragma.specs.Clauses.{ReadsLoop}
use Rattle.pragma.specs.Parallel.{associated}
use Rattle.pragma.specs.Views.{scheduled}
use Rattle.pragma.proofs.LoopLaw.{read_once}
use Rattle.flow.specs.Roles.{LineData}
use Rattle.flow.specs.Parallel.{IsParallelLoop, LoopsAre, ItemsAre, AreParallelLoops}
use Rattle.flow.specs.declared.environment.ParallelLoop.{ParallelLoop}
use Rattle.flow.proofs.PrivateLemmas.{among_both}
use Rattle.law_commute.specs.Targets.{targets, targets_among}
use Rattle.law_independence.proofs.Targeted.{outside_target}
use Rattle.lower_code.specs.declared.laid.Laid.{Laid}
use Rattle.outline.specs.Accepted.{HasPlace, StandsAt, LoopFirst, HasRightLoops, HaveRightLoops}
use Rattle.outline.specs.Handed.{IsOfText, AreOfText}
use Rattle.ompk_run.proofs.Listed.{are_of_text}

-- each of the one list is in the other
abbrev Within : List ParallelLoop → List ParallelLoop → Type 0
Within own all = (l : ParallelLoop) → Contains own l → Contains all l

module _ (text : List ℕ) (R : LineData) (all : List ParallelLoop) (table : AreOfText text R all) (layout : List Laid) (registers : ℕ) where
  -- each of these has its place
  abbrev ArePlaced : List Variable → Type 0
  ArePlaced xs = (x : Variable) → is_among xs x ≡ true → HasPlace layout registers x

  placed_first : (xs ys : List Variable) → ArePlaced (xs ++ ys) → ArePlaced xs
  placed_first xs ys placed x t = placed x (among_both xs ys x ∙ or_left (is_among xs x) (is_among ys x) t)

  placed_others : (xs ys : List Variable) → ArePlaced (xs ++ ys) → ArePlaced ys
  placed_others xs ys placed x t = placed x (among_both xs ys x ∙ or_right (is_among xs x) (is_among ys x) t)

  left : (own first others : List ParallelLoop) → own ≡ first ++ others → Within own all → Within first all
  left own first others e within l c = within l (subst (λ (ls : List ParallelLoop). Contains ls l) (sym e) (Contains-append_left first others l c))

  right : (own first others : List ParallelLoop) → own ≡ first ++ others → Within own all → Within others all
  right own first others e within l c = within l (subst (λ (ls : List ParallelLoop). Contains ls l) (sym e) (Contains-append_right first others l c))

  -- which clause associates how many loops is said once
  said : (line : ℕ) (k : _) (c : Option ℕ) → ReadsLoop (line_at text line) k c → (l : ParallelLoop) → StandsAt all line l → c ≡ l.directive.collapse
  said line k c reads l (at, here) =
      let own = subst (IsOfText text R) at.2 (table at.0 l at.1) in
      let same = subst (λ (n : ℕ). ReadsLoop (line_at text n) (scheduled l.directive) l.directive.collapse) here own.reads in
      (read_once (line_at text line) k c (scheduled l.directive) l.directive.collapse reads same).1

  first : (box : List Side) (line : ℕ) (rest : Items) (own others : List ParallelLoop) (l : ParallelLoop) → own ≡ l ∷ others → IsParallelLoop text R line rest l → Within own all → LineNests text box line rest → ArePlaced (targets_among rest) → LoopFirst layout registers all box line rest
  first box line no_items own others l e is within (k, c, reads, nest) placed = absurd nest
  first box line (mark m rest) own others l e is within (k, c, reads, nest) placed = absurd nest
  first box line (local x name start rest) own others l e is within (k, c, reads, nest) placed = absurd nest
  first box line (stmt s rest) own others l e is within (k, c, reads, nest) placed = record {
    parallel = l;
    stands = (left own (l ∷ []) others e within l (0, omega arith, refl), is.at_line);
    nest = λ q stands. subst (λ (d : Option ℕ). IsRightNest box (associated d) s) (said line k c reads q stands) nest;
    places = λ x t. placed_first (targets s) (targets_among rest) placed x (outside_target s x t);
  }

  mutual
    in_statement : (box : List Side) (a : Stmt) (own : List ParallelLoop) → LoopsAre text R a own → Within own all → Nests text box a → ArePlaced (targets a) → HasRightLoops layout registers all box a
    in_statement box (Assign x is e) own h within n placed = tt
    in_statement box (Update x is op e) own h within n placed = tt
    in_statement box (If c a) own h within n placed = in_statement box a own h within n placed
    in_statement box (IfElse c a b) own h within n placed = (
      in_statement box a h.0 h.3 (left own h.0 h.1 h.2 within) n.0 (placed_first (targets a) (targets b) placed),
      in_statement box b h.1 h.4 (right own h.0 h.1 h.2 within) n.1 (placed_others (targets a) (targets b) placed),
    )
    in_statement box (For x name start test step body) own h within (l, i, is, n) placed = (l, i, is, in_statement (inside box x i) body own h within n placed)
    in_statement box (Block items) own h within n placed = in_items box items own h within n placed
    in_statement box (Print parts) own h within n placed = tt

    in_items : (box : List Side) (items : Items) (own : List ParallelLoop) → ItemsAre text R items own → Within own all → ItemsNest text box items → ArePlaced (targets_among items) → HaveRightLoops layout registers all box items
    in_items box no_items own h within n placed = tt
    in_items box (mark line rest) own h within n placed =
        (first box line rest own h.1 h.0 h.2 h.3 within n.0 placed, in_items box rest h.1 h.4 (right own (h.0 ∷ []) h.1 h.2 within) n.1 placed)
    in_items box (local x name start rest) own h within n placed = in_items box rest own h within n placed
    in_items box (stmt a rest) own h within n placed = (
      in_statement box a h.0 h.3 (left own h.0 h.1 h.2 within) n.0 (placed_first (targets a) (targets_among rest) placed),
      in_items box rest h.1 h.4 (right own h.0 h.1 h.2 within) n.1 (placed_others (targets a) (targets_among rest) placed),
    )

pub right_loops : (text : List ℕ) (R : LineData) (k : Kernel) (loops : List ParallelLoop) (layout : List Laid) (registers : ℕ) → AreParallelLoops text R k loops → AreRightNests text k
    → ((x : Variable) → is_among (targets_among k.body) x ≡ true → HasPlace layout registers x) → HaveRightLoops layout registers loops [] k.body
right_loops text R k loops layout registers listed nested placed = in_items text R loops (are_of_text text R k loops listed) layout registers [] k.body loops listed (λ l c. c) nested placed
