-- Statements and blocks made of parts that mean theirs.
use Rattle.std.proofs.Common.{◌≡◌, ℕ, ◌+◌, ◌<◌, ◌≤◌, cond, List, [], ◌∷◌, ◌++◌, length, get_or, drop, append-nil, append_assoc, Option, Some, None, refl, sym, ap, ◌∙◌, subst}
use Rattle.semantics.specs.Tree
use Rattle.semantics.specs.Meaning.State.{State, overwritten}
use Rattle.semantics.specs.Meaning.Value.{source_value, holds}
use Rattle.semantics.specs.Meaning.Runs.{Effect, nothing, joined, then_from, declared, incremented, turns, greatest_trip_count, run, run_items}
use Rattle.semantics.specs.Meaning.Agrees.{declared_in, declared_among}
use Rattle.ktree.specs.View.{stmt_of, items_of, with_item}
use Rattle.ktree.specs.declared.statement.Item.{Item, Directive, Local, Statement'}
use Rattle.ktree.proofs.Trees.{next_item}
use Rattle.seqrun.proofs.BlockLemmas.{items_on, items_over, item_on}
use Rattle.lower_code.specs.declared.laid.Laid.{Laid}
use Rattle.lower_machine.specs.declared.term.Term.{Term}
use Rattle.lower_machine.specs.declared.term.Test.{Test}
use Rattle.lower_machine.specs.declared.term.Code.{Code}
use Rattle.lower_machine.specs.Machine.{Running, after, truth, spins}
use Rattle.lower_code.specs.Meaning.{Represents, Leads, Gives, DoesAlways, MeansTest, AreLocals, MeansDeclared, MeansStmt, MeansTurns, MeansItems}
use Rattle.lower_code.proofs.Spots.{same_some}
use Rattle.lower_code.proofs.Doing.{Sets, parts, overwritten-append, leads_nothing, then_does, branch_does, loop_does, set_declares, nothing_declares}

-- locals on two lists
pub locals_left : (layout : List Laid) (mark : ℕ) (xs ys : List ℕ) → AreLocals layout mark (xs ++ ys) → AreLocals layout mark xs
locals_left layout mark [] ys all = tt
locals_left layout mark (x ∷ xs) ys (here, all) = (here, locals_left layout mark xs ys all)

pub locals_right : (layout : List Laid) (mark : ℕ) (xs ys : List ℕ) → AreLocals layout mark (xs ++ ys) → AreLocals layout mark ys
locals_right layout mark [] ys all = all
locals_right layout mark (x ∷ xs) ys (here, all) = locals_right layout mark xs ys all

-- a step with nothing behind it
joined_nothing : (e : Effect) → joined e nothing ≡ e
joined_nothing e = λ i. record { writes = append-nil e.writes i; text = append-nil e.text i }

alone : (s : State) (o : Option Effect) → then_from s o (run_items Tree.no_items) ≡ o
alone s None = refl
alone s (Some e) = ap Some (joined_nothing e)

module _ (layout : List Laid) where
  pub declaration_means : (x : ℕ) (f : Tree.Source) (t : Term) (code : Code) → Gives layout (λ s. source_value s f) t → Sets x t code → MeansDeclared layout x (Some f) code
  declaration_means x f t code gives is mark all = set_declares layout mark x f t code all.0.0 all.0.1 gives is

  pub empty_means : (x : ℕ) (code : Code) → ((r : Running) → after code r ≡ r) → MeansDeclared layout x None code
  empty_means x code is mark all = nothing_declares layout mark x code all.0.0 all.0.1 is

  pub if_means : (c : Tree.Cond) (a : Tree.Stmt) (z : Test) (x none code : Code) → MeansTest layout c z → MeansStmt layout a x → ((r : Running) → after none r ≡ r) → ((r : Running) → after code r ≡ cond (truth z r.machine) (after x r) (after none r)) → MeansStmt layout (Tree.If c a) code
  if_means c a z x none code mz mx is chooses mark all =
      branch_does layout mark c (run a) (λ s. Some nothing) z x none code mz (mx mark all) (λ s r e stands h. subst (λ k. Leads layout mark s r e k) (sym (is r)) (leads_nothing layout mark s r e stands h)) chooses

  pub if_else_means : (c : Tree.Cond) (a b : Tree.Stmt) (z : Test) (x y code : Code) → MeansTest layout c z → MeansStmt layout a x → MeansStmt layout b y → ((r : Running) → after code r ≡ cond (truth z r.machine) (after x r) (after y r)) → MeansStmt layout (Tree.IfElse c a b) code
  if_else_means c a b z x y code mz mx my chooses mark all =
      branch_does layout mark c (run a) (run b) z x y code mz (mx mark (locals_left layout mark (declared_in a) (declared_in b) all)) (my mark (locals_right layout mark (declared_in a) (declared_in b) all)) chooses

  -- the turns of a loop
  pub turns_mean : (test : Tree.Cond) (step : Tree.Increment) (body : Tree.Stmt) (a b code : Code) (z : Test) → MeansTest layout test z → MeansStmt layout body a → DoesAlways layout (λ s. incremented s step) b → ((r : Running) → after code r ≡ spins greatest_trip_count (truth z) (λ k. after b (after a k)) r) → MeansTurns layout test body step code
  turns_mean test step body a b code z mz ma db loops mark all = loop_does layout mark test (run body) (λ t. incremented t step) z a b code mz (ma mark all) (db mark) loops

  -- `for`: its variable, and then the turns
  pub for_means : (x : ℕ) (name : Tree.Name) (start : Tree.Source) (test : Tree.Cond) (step : Tree.Increment) (body : Tree.Stmt) (first spinning code : Code) → MeansDeclared layout x (Some start) first → MeansTurns layout test body step spinning → ((r : Running) → after code r ≡ after spinning (after first r)) → MeansStmt layout (Tree.For x name start test step body) code
  for_means x name start test step body first spinning code md mt joins mark (here, all) =
      then_does layout mark (λ s. declared s x (Some start)) (turns greatest_trip_count (λ t. holds t test) (run body) (λ t. incremented t step)) first spinning code (md mark (here, tt)) (mt mark all) joins

  -- one item
  pub statement_alone : (a : Tree.Stmt) (code : Code) → MeansStmt layout a code → MeansItems layout (Tree.stmt a Tree.no_items) code
  statement_alone a code means mark all s r e stands h =
      means mark (locals_left layout mark (declared_in a) [] all) s r e stands (sym (alone s (run a s)) ∙ h)

  pub local_alone : (x : ℕ) (name : Tree.Name) (start : Option Tree.Source) (code : Code) → MeansDeclared layout x start code → MeansItems layout (Tree.local x name start Tree.no_items) code
  local_alone x name start code means mark all s r e stands h = means mark all s r e stands (sym (alone s (declared s x start)) ∙ h)

  pub line_alone : (line : ℕ) (code : Code) → ((r : Running) → after code r ≡ r) → MeansItems layout (Tree.mark line Tree.no_items) code
  line_alone line code is mark all s r e stands h = subst (λ k. Leads layout mark s r e k) (sym (is r)) (leads_nothing layout mark s r e stands h)

-- the locals of an item, and those behind it
locals_cut : (layout : List Laid) (mark : ℕ) (e : Item) (rest : Tree.Items) → AreLocals layout mark (declared_among (with_item e rest)) → AreLocals layout mark (declared_among (with_item e Tree.no_items)) × AreLocals layout mark (declared_among rest)
locals_cut layout mark (Directive place) rest all = (tt, all)
locals_cut layout mark (Local l) rest (here, all) = ((here, tt), all)
locals_cut layout mark (Statement' p s) rest all =
    let xs = declared_in (stmt_of s) in
    (subst (AreLocals layout mark) (sym (append-nil xs)) (locals_left layout mark xs (declared_among rest) all), locals_right layout mark xs (declared_among rest) all)

-- what is done, and what is left
pub record Left (layout : List Laid) (mark : ℕ) (s : State) (r : Running) (e : Effect) (rest : Tree.Items) (r' : Running) : Type 0 where
  pub done : Effect
  pub second : Effect
  pub leads : Leads layout mark s r done r'
  pub two : run_items rest (overwritten s done.writes) ≡ Some second
  pub left : overwritten s e.writes ≡ overwritten (overwritten s done.writes) second.writes
  pub text : e.text ≡ done.text ++ second.text

abbrev pub Begun : List Laid → Tree.Items → Tree.Items → Code → Type 0
Begun layout all rest code =
    (mark : ℕ) → AreLocals layout mark (declared_among all)
    → AreLocals layout mark (declared_among rest) × ((s : State) (r : Running) (e : Effect) → Represents layout mark s r.machine → run_items all s ≡ Some e → Left layout mark s r e rest (after code r))

pub begun : (layout : List Laid) (all : Tree.Items) (code : Code) → ((r : Running) → after code r ≡ r) → Begun layout all all code
begun layout all code is mark locals = (
  locals,
  λ s r e stands h. record {
    done = nothing;
    second = e;
    leads = subst (λ k. Leads layout mark s r nothing k) (sym (is r)) (record { machine = stands; text = sym (append-nil r.text) });
    two = h;
    left = refl;
    text = refl;
  },
)

pub begun_on : (layout : List Laid) (list : List Item) (i : ℕ) (item : Item) (code next t : Code) → i < length list → item ≡ get_or list i item → Begun layout (items_of list) (items_of (drop i list)) code → MeansItems layout (with_item item Tree.no_items) next → ((r : Running) → after t r ≡ after next (after code r)) → Begun layout (items_of list) (items_of (drop (i + 1) list)) t
begun_on layout list i item code next t lt at b means is mark locals =
    let before = b mark locals in
    let rest = items_of (drop (i + 1) list) in
    let here = locals_cut layout mark item rest (subst (λ xs. AreLocals layout mark (declared_among xs)) (next_item list i item lt at) before.0) in (
      here.1,
      λ s r e stands h.
          let l = before.1 s r e stands h in
          let u = overwritten s l.done.writes in
          let on = items_on list i item lt at u ∙ item_on item rest u in
          let p = parts u (run_items (with_item item Tree.no_items) u) (run_items rest) l.second (sym on ∙ l.two) in
          let one = means mark here.0 u (after code r) p.first l.leads.machine p.one in
          let join = overwritten-append s l.done.writes p.first.writes in
          record {
            done = joined l.done p.first;
            second = p.second;
            leads = subst (λ k. Leads layout mark s r (joined l.done p.first) k) (sym (is r)) (record {
              machine = subst (λ v. Represents layout mark v (after next (after code r)).machine) (sym join) one.machine;
              text = one.text ∙ ap (λ l. l ++ p.first.text) l.leads.text ∙ append_assoc r.text l.done.text p.first.text;
            });
            two = ap (run_items rest) join ∙ p.two;
            left = l.left ∙ p.left ∙ ap (λ v. overwritten v p.second.writes) (sym join);
            text = l.text ∙ ap (λ x. l.done.text ++ x) p.text ∙ sym (append_assoc l.done.text p.first.text p.second.text);
          },
    )

pub begun_ends : (layout : List Laid) (list : List Item) (i : ℕ) (code : Code) → length list ≤ i → Begun layout (items_of list) (items_of (drop i list)) code → MeansItems layout (items_of list) code
begun_ends layout list i code le b mark locals s r e stands h =
    let l = (b mark locals).1 s r e stands h in
    let u = overwritten s l.done.writes in
    let none : nothing ≡ l.second = same_some (sym (items_over list i le u) ∙ l.two) in
    let left : overwritten s e.writes ≡ u = l.left ∙ ap (λ (e : Effect). overwritten u e.writes) (sym none) in
    let text : e.text ≡ l.done.text = l.text ∙ ap (λ (e : Effect). l.done.text ++ e.text) (sym none) ∙ append-nil l.done.text in
    record {
      machine = subst (λ v. Represents layout mark v (after code r).machine) (sym left) l.leads.machine;
      text = l.leads.text ∙ ap (λ x. r.text ++ x) (sym text);
    }
