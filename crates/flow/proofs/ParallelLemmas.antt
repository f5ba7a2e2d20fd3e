-- The parallel loops of a text and what they declare, item by item.
use Rattle.std.specs.Prelude.{ℕ, zero, suc, ◌+◌, ◌-◌, ◌≡◌, ◌<◌, ◌≤◌, List, [], ◌∷◌, ◌++◌, length, get_or, take, drop, map, Option, Some, None, option_and_then}
use Rattle.std.proofs.Common.{Vec, Global, refl, sym, ap, ◌∙◌, subst}
use Rattle.std.proofs.lemmas.List.{append_assoc, append-nil, drop_all}
use Rattle.semantics.specs.Tree
use Rattle.semantics.specs.Tree.{Variable}
use Rattle.semantics.specs.Source.Text.{line_at}
use Rattle.semantics.specs.Meaning.Agrees.{declared_in, declared_among}
use Rattle.semantics.specs.Meaning.Value.{map_option}
use Rattle.semantics.specs.Loops.Nest.{Loop, as_loop, only_loop, nest_of}
use Rattle.ktree.specs.View.{stmt_of, items_of, with_item}
use Rattle.ktree.specs.declared.place.Place.{Place}
use Rattle.ktree.specs.declared.place.VarId.{VarId}
use Rattle.ktree.specs.declared.statement.Item.{Item, Directive, Local, Statement'}
use Rattle.pragma.specs.Clauses.{ReadsLoop}
use Rattle.pragma.specs.Parallel.{associated, LineHas}
use Rattle.pragma.specs.Views.{scheduled}
use Rattle.pragma.specs.declared.combined.ParallelFor.{ParallelFor}
use Rattle.ktree.proofs.Trees.{next_item}
use Rattle.pragma.proofs.PlainLaw.{all_behind}
use Rattle.flow.specs.Private.{first_stmt_of}
use Rattle.flow.specs.Roles.{LineData, KeepsRolesThere}
use Rattle.flow.specs.Parallel.{numbers, AreRolesOf, IsParallelLoop, Joined, LoopsAre, ItemsAre, FirstLineIs, FirstLoopsAre, Adds}
use Rattle.flow.specs.declared.environment.LoopRoles.{LoopRoles}
use Rattle.flow.specs.declared.environment.ParallelLoop.{ParallelLoop}
use Rattle.flow.proofs.PrivateLemmas.{asked}

-- what an item declares, and what the others do
among_cut : (i : Item) (rest : Tree.Items) → declared_among (with_item i rest) ≡ declared_among (with_item i Tree.no_items) ++ declared_among rest
among_cut (Directive place) rest = refl
among_cut (Local l) rest = refl
among_cut (Statement' p s) rest = ap (λ xs. xs ++ declared_among rest) (sym (append-nil (declared_in (stmt_of s))))

-- one item more is declared
pub declared_step : (is : List Item) (i : ℕ) (e : Item) → i < length is → e ≡ get_or is i e → (old vs ws : List Variable)
    → vs ++ declared_among (items_of (drop i is)) ≡ old ++ declared_among (items_of is) → ws ≡ vs ++ declared_among (with_item e Tree.no_items)
    → ws ++ declared_among (items_of (drop (i + 1) is)) ≡ old ++ declared_among (items_of is)
declared_step is i e lt at old vs ws left adds =
    let rest = declared_among (items_of (drop (i + 1) is)) in
    let here = declared_among (with_item e Tree.no_items) in
    let next : declared_among (items_of (drop i is)) ≡ here ++ rest = ap declared_among (next_item is i e lt at) ∙ among_cut e (items_of (drop (i + 1) is)) in
    ap (λ xs. xs ++ rest) adds ∙ append_assoc vs here rest ∙ ap (λ xs. vs ++ xs) (sym next) ∙ left

-- a loop's variable, and what its body declares
abbrev of_loop : Option (Loop × Tree.Stmt) → List Variable
of_loop None = []
of_loop (Some found) = found.0.variable ∷ declared_in found.1

mutual
  -- a loop declares its variable, and what its body does
  loop_declares : (s : Tree.Stmt) (l : Loop) (b : Tree.Stmt) → as_loop s ≡ Some (l, b) → declared_in s ≡ l.variable ∷ declared_in b
  loop_declares (Tree.Assign x is e) l b f = absurd (cc f)
  loop_declares (Tree.Update x is op e) l b f = absurd (cc f)
  loop_declares (Tree.If c s) l b f = absurd (cc f)
  loop_declares (Tree.IfElse c s t) l b f = absurd (cc f)
  loop_declares (Tree.For x name start test step body) l b f = ap of_loop f
  loop_declares (Tree.Block items) l b f = only_declares items l b f
  loop_declares (Tree.Print parts) l b f = absurd (cc f)

  only_declares : (items : Tree.Items) (l : Loop) (b : Tree.Stmt) → only_loop items ≡ Some (l, b) → declared_among items ≡ l.variable ∷ declared_in b
  only_declares Tree.no_items l b f = absurd (cc f)
  only_declares (Tree.mark line rest) l b f = absurd (cc f)
  only_declares (Tree.local x name start rest) l b f = absurd (cc f)
  only_declares (Tree.stmt s Tree.no_items) l b f = append-nil (declared_in s) ∙ loop_declares s l b f
  only_declares (Tree.stmt s (Tree.mark line rest)) l b f = absurd (cc f)
  only_declares (Tree.stmt s (Tree.local x name start rest)) l b f = absurd (cc f)
  only_declares (Tree.stmt s (Tree.stmt t rest)) l b f = absurd (cc f)

-- the variables of a nest's loops, and what its body declares
abbrev of_nest : Option (List Loop × Tree.Stmt) → List Variable
of_nest None = []
of_nest (Some nest) = map (λ h. h.variable) nest.0 ++ declared_in nest.1

-- a nest declares these
pub nest_declares : (n : ℕ) (s : Tree.Stmt) (loops : List Loop) (body : Tree.Stmt) → nest_of n s ≡ Some (loops, body) → declared_in s ≡ map (λ h. h.variable) loops ++ declared_in body
nest_declares zero s loops body f = ap of_nest f
nest_declares (suc n) s loops body f = go (as_loop s) refl f (nest_declares n)
  where
    inner : (l : Loop) (b : Tree.Stmt) (o : Option (List Loop × Tree.Stmt)) → nest_of n b ≡ o → map_option {B = List Loop × Tree.Stmt} (λ inner. (l ∷ inner.0, inner.1)) o ≡ Some (loops, body)
        → ((s : Tree.Stmt) (loops : List Loop) (body : Tree.Stmt) → nest_of n s ≡ Some (loops, body) → declared_in s ≡ map (λ h. h.variable) loops ++ declared_in body)
        → l.variable ∷ declared_in b ≡ map (λ h. h.variable) loops ++ declared_in body
    inner l b None is f rec = absurd (cc f)
    inner l b (Some nest) is f rec = ap (λ xs. l.variable ∷ xs) (rec b nest.0 nest.1 is) ∙ ap of_nest f

    go : (o : Option (Loop × Tree.Stmt)) → as_loop s ≡ o
        → option_and_then (λ (found : Loop × Tree.Stmt). map_option {B = List Loop × Tree.Stmt} (λ inner. (found.0 ∷ inner.0, inner.1)) (nest_of n found.1)) o ≡ Some (loops, body)
        → ((s : Tree.Stmt) (loops : List Loop) (body : Tree.Stmt) → nest_of n s ≡ Some (loops, body) → declared_in s ≡ map (λ h. h.variable) loops ++ declared_in body)
        → declared_in s ≡ map (λ h. h.variable) loops ++ declared_in body
    go None is f rec = absurd (cc f)
    go (Some found) is f rec = loop_declares s found.0 found.1 is ∙ inner found.0 found.1 (nest_of n found.1) refl f rec

-- the parallel loop of a line
pub loop_listed : (text : List ℕ) (place : Place) (rest : Tree.Items) (said : ParallelFor) → ReadsLoop (line_at text place.line) (scheduled said) said.collapse
    → (s : Tree.Stmt) → Some s ≡ first_stmt_of rest → (private : Vec VarId Global) → numbers private.items ≡ declared_in s → (R : LineData) (roles : LoopRoles) → AreRolesOf (R place.line) roles
    → LineHas text (KeepsRolesThere (R place.line)) [] place.line rest → IsParallelLoop text R place.line rest (record { line = place; directive = said; private = private; roles = roles })
loop_listed text place rest said reads s first private declares R roles are h =
    let found = asked text place.line rest (scheduled said) said.collapse reads s first (KeepsRolesThere (R place.line)) h in
    record {
      at_line = refl;
      reads = reads;
      statement = s;
      loops = found.loops;
      body = found.body;
      stands = sym first;
      nest = found.nest;
      privates = declares ∙ nest_declares (associated said.collapse) s found.loops found.body found.nest;
      roles = are;
    }

-- those of both branches
pub both_listed : (text : List ℕ) (R : LineData) (a b : Tree.Stmt) (before mid after : List ParallelLoop) → Adds (LoopsAre text R a) before mid → Adds (LoopsAre text R b) mid after
    → Adds (Joined (LoopsAre text R a) (LoopsAre text R b)) before after
both_listed text R a b before mid after p q = (p.0 ++ q.0, q.1 ∙ ap (λ xs. xs ++ q.0) p.1 ∙ append_assoc before p.0 q.0, (p.0, q.0, refl, p.2, q.2))

-- an item's, and those of the others
joined_item : (text : List ℕ) (R : LineData) (i : Item) (rest : Tree.Items) (a b c : List ParallelLoop) → FirstLineIs text R (with_item i Tree.no_items) rest a
    → FirstLoopsAre text R (with_item i Tree.no_items) b → ItemsAre text R rest c → ItemsAre text R (with_item i rest) (a ++ (b ++ c))
joined_item text R (Directive place) rest a b c p q r = (p.0, c, ap (λ xs. xs ++ (b ++ c)) p.1 ∙ ap (λ xs. p.0 ∷ (xs ++ c)) q, p.2, r)
joined_item text R (Local l) rest a b c p q r = subst (ItemsAre text R rest) (sym (ap (λ xs. xs ++ (b ++ c)) p ∙ ap (λ xs. xs ++ c) q)) r
joined_item text R (Statement' at s) rest a b c p q r = (b, c, ap (λ xs. xs ++ (b ++ c)) p, q, r)

-- those of the first items are listed; with those that are left they are all
abbrev pub Listed : List ℕ → LineData → List Item → ℕ → List ParallelLoop → List ParallelLoop → Type 0
Listed text R is i before now = Adds (λ added. (rest : List ParallelLoop) → ItemsAre text R (items_of (drop i is)) rest → ItemsAre text R (items_of is) (added ++ rest)) before now

-- all in the end
pub all_listed : (text : List ℕ) (R : LineData) (is : List Item) (i : ℕ) (before now : List ParallelLoop) → length is ≤ i → Listed text R is i before now → Adds (ItemsAre text R (items_of is)) before now
all_listed text R is i before now far found =
    let none : ItemsAre text R (items_of (drop i is)) [] = subst (λ xs. ItemsAre text R (items_of xs) []) (sym (drop_all i is far)) refl in
    (found.0, found.1, subst (ItemsAre text R (items_of is)) (append-nil found.0) (found.2 [] none))

-- one item more
pub item_listed : (text : List ℕ) (R : LineData) (is : List Item) (i : ℕ) (e : Item) → i < length is → e ≡ get_or is i e → (before now mid after : List ParallelLoop) → Listed text R is i before now
    → Adds (FirstLineIs text R (with_item e Tree.no_items) (items_of (take (length is - (i + 1)) (drop (i + 1) is)))) now mid → Adds (FirstLoopsAre text R (with_item e Tree.no_items)) mid after
    → Listed text R is (i + 1) before after
item_listed text R is i e lt at before now mid after so_far line of_loops =
    let first = with_item e Tree.no_items in
    let behind = items_of (drop (i + 1) is) in
    let next = next_item is i e lt at in
    let of_line : Adds (FirstLineIs text R first behind) now mid = subst (λ xs. Adds (FirstLineIs text R first (items_of xs)) now mid) (all_behind is (i + 1)) line in
    let a = so_far.0 in
    let b = of_line.0 in
    let c = of_loops.0 in
    let all : after ≡ before ++ (a ++ (b ++ c)) = of_loops.1 ∙ ap (λ xs. xs ++ c) (of_line.1 ∙ ap (λ xs. xs ++ b) so_far.1) ∙ append_assoc (before ++ a) b c ∙ append_assoc before a (b ++ c) in (
      a ++ (b ++ c),
      all,
      λ rest r.
          subst (ItemsAre text R (items_of is)) (sym (append_assoc a (b ++ c) rest ∙ ap (λ xs. a ++ xs) (append_assoc b c rest)))
          (so_far.2 (b ++ (c ++ rest)) (subst (λ items. ItemsAre text R items (b ++ (c ++ rest))) (sym next) (joined_item text R e behind b c rest of_line.2 of_loops.2 r))),
    )
