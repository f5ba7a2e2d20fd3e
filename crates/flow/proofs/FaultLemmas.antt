-- What a fault of the data tells of, statement by statement.
use Rattle.std.specs.Prelude.{ℕ, zero, suc, ◌+◌, ◌-◌, Bool, ◌≡◌, ◌<◌, List, [], ◌∷◌, length, get_or, take, drop, Option, Some, None, IfSome}
use Rattle.std.proofs.Common.{sym, subst, inl, inr}
use Rattle.semantics.specs.Tree
use Rattle.semantics.specs.Tree.{Variable}
use Rattle.semantics.specs.Source.Text.{line_at}
use Rattle.ktree.specs.View.{items_of, with_item}
use Rattle.ktree.specs.declared.statement.Head.{Head}
use Rattle.ktree.specs.declared.statement.Item.{Item, Directive, Local, Statement'}
use Rattle.semantics.specs.Directives.Directive.{Schedule}
use Rattle.pragma.specs.Clauses.{ReadsLoop}
use Rattle.pragma.specs.Parallel.{associated}
use Rattle.ktree.proofs.Trees.{next_item}
use Rattle.pragma.proofs.PlainLaw.{all_behind}
use Rattle.flow.specs.Private.{nest_body_of, first_stmt_of}
use Rattle.flow.specs.Roles.{LineData, LoopsKeepRoles, ItemsKeepRoles, FirstLineKeepsRoles, FirstLoopsKeepRoles}
use Rattle.flow.specs.Told.{RefusesFor, TellsOfAny, TellsOfRoles, TellsOfNest, TellsOfLine, TellsOfLoops, TellsOfItems, TellsOfFirstLine, TellsOfFirstLoops}
use Rattle.flow.specs.declared.fault.DataFault.{DataFault}
use Rattle.flow.proofs.PrivateLemmas.{first_is, nest_with, loop_of, same_round, Left, item_parts}

-- a directive with a nest behind it
pub nest_told : (text : List ℕ) (R : LineData) (line : ℕ) (rest : Tree.Items) (k : Option Schedule) (c : Option ℕ) → ReadsLoop (line_at text line) k c → (s : Tree.Stmt) → Some s ≡ first_stmt_of rest
    → (o : Option DataFault) (b : Tree.Stmt) → Some b ≡ nest_body_of (associated c) s → IfSome o (λ e. TellsOfRoles e (R line) s b) → IfSome o (λ e. TellsOfLine e text R line rest)
nest_told text R line rest k c reads s first None b nest told = tt
nest_told text R line rest k c reads s first (Some e) b nest told =
    let found = nest_with (associated c) s b nest in
    inl (k, c, reads, (first_is (TellsOfNest e (R line)) (associated c) rest s first).1 (found.0, b, found.1, told))

-- what it tells of in an item of a body, it tells of in all of them
module _ (f : DataFault) (own : Variable → Bool) where
  told_before : (i : Item) (rest : Tree.Items) → TellsOfAny f own (with_item i Tree.no_items) → TellsOfAny f own (with_item i rest)
  told_before (Directive place) rest h = absurd h
  told_before (Local l) rest h = absurd h
  told_before (Statement' p s) rest (inl h) = inl h
  told_before (Statement' p s) rest (inr h) = absurd h

  told_later : (i : Item) (rest : Tree.Items) → TellsOfAny f own rest → TellsOfAny f own (with_item i rest)
  told_later (Directive place) rest h = h
  told_later (Local l) rest h = h
  told_later (Statement' p s) rest h = inr h

  told_behind : (i : ℕ) (is : List Item) → TellsOfAny f own (items_of (drop i is)) → TellsOfAny f own (items_of is)
  told_behind zero is h = h
  told_behind (suc i) [] h = h
  told_behind (suc i) (e ∷ is) h = told_later e (items_of is) (told_behind i is h)

  pub told_item : (is : List Item) (i : ℕ) (e : Item) → i < length is → e ≡ get_or is i e → TellsOfAny f own (with_item e Tree.no_items) → TellsOfAny f own (items_of is)
  told_item is i e lt at h =
      let rest = items_of (drop (i + 1) is) in
      told_behind i is (subst (TellsOfAny f own) (sym (next_item is i e lt at)) (told_before e rest h))

-- and so with the directive lines among the items of a text
module _ (f : DataFault) (text : List ℕ) (R : LineData) where
  line_before : (i : Item) (rest : Tree.Items) → TellsOfFirstLine f text R (with_item i Tree.no_items) rest → TellsOfItems f text R (with_item i rest)
  line_before (Directive place) rest h = inl h
  line_before (Local l) rest h = absurd h
  line_before (Statement' p s) rest h = absurd h

  loops_before : (i : Item) (rest : Tree.Items) → TellsOfFirstLoops f text R (with_item i Tree.no_items) → TellsOfItems f text R (with_item i rest)
  loops_before (Directive place) rest h = absurd h
  loops_before (Local l) rest h = absurd h
  loops_before (Statement' p s) rest h = inl h

  lines_later : (i : Item) (rest : Tree.Items) → TellsOfItems f text R rest → TellsOfItems f text R (with_item i rest)
  lines_later (Directive place) rest h = inr h
  lines_later (Local l) rest h = h
  lines_later (Statement' p s) rest h = inr h

  lines_behind : (i : ℕ) (is : List Item) → TellsOfItems f text R (items_of (drop i is)) → TellsOfItems f text R (items_of is)
  lines_behind zero is h = h
  lines_behind (suc i) [] h = h
  lines_behind (suc i) (e ∷ is) h = lines_later e (items_of is) (lines_behind i is h)

  -- a loop is refused for what its body is refused for
  pub loop_refuses : (head : Head) (inner s : Tree.Stmt) → loop_of head inner ≡ s → RefusesFor (LoopsKeepRoles text R [] inner) (λ f. TellsOfLoops f text R inner) f
      → RefusesFor (LoopsKeepRoles text R [] s) (λ f. TellsOfLoops f text R s) f
  loop_refuses head inner s is (inl out) = inl out
  loop_refuses head inner s is (inr why) =
      subst (λ t. RefusesFor (LoopsKeepRoles text R [] t) (λ f. TellsOfLoops f text R t) f) is (inr (λ h. why.0 (same_round text R _ [] inner h), why.1))

  -- items are refused for what one of them is refused for
  module _ (is : List Item) (i : ℕ) (e : Item) (lt : i < length is) (at : e ≡ get_or is i e) (left : Left text R is i) where
    pub line_refuses : RefusesFor (FirstLineKeepsRoles text R (with_item e Tree.no_items) (items_of (take (length is - (i + 1)) (drop (i + 1) is))))
        (λ f. TellsOfFirstLine f text R (with_item e Tree.no_items) (items_of (take (length is - (i + 1)) (drop (i + 1) is)))) f
        → RefusesFor (ItemsKeepRoles text R [] (items_of is)) (λ f. TellsOfItems f text R (items_of is)) f
    line_refuses (inl out) = inl out
    line_refuses (inr why) =
        let all = all_behind is (i + 1) in
        let here = subst (λ xs. TellsOfFirstLine f text R (with_item e Tree.no_items) (items_of xs)) all why.1 in
        inr (
          λ h. why.0 (subst (λ xs. FirstLineKeepsRoles text R (with_item e Tree.no_items) (items_of xs)) (sym all) (item_parts text R is i e lt at left h).0),
          lines_behind i is (subst (TellsOfItems f text R) (sym (next_item is i e lt at)) (line_before e (items_of (drop (i + 1) is)) here)),
        )

    pub loops_refuse : RefusesFor (FirstLoopsKeepRoles text R (with_item e Tree.no_items)) (λ f. TellsOfFirstLoops f text R (with_item e Tree.no_items)) f
        → RefusesFor (ItemsKeepRoles text R [] (items_of is)) (λ f. TellsOfItems f text R (items_of is)) f
    loops_refuse (inl out) = inl out
    loops_refuse (inr why) =
        inr (
          λ h. why.0 (item_parts text R is i e lt at left h).1,
          lines_behind i is (subst (TellsOfItems f text R) (sym (next_item is i e lt at)) (loops_before e (items_of (drop (i + 1) is)) why.1)),
        )
