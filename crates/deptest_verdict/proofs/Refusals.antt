-- A walk over parallel loops up to the first that is refused.
use Rattle.std.specs.Prelude.{ℕ, ◌+◌, ◌-◌, ◌≡◌, ◌<◌, List, length, get_or, drop, take}
use Rattle.std.proofs.Common.{inl, inr, sym, subst}
use Rattle.semantics.specs.Tree
use Rattle.ktree.specs.View.{items_of, with_item}
use Rattle.ktree.specs.declared.statement.Item.{Item, Directive, Local, Statement'}
use Rattle.ktree.specs.declared.refusal.Refusal.{Refusal}
use Rattle.pairtest_counter.specs.Levels.{Nesting}
use Rattle.ktree.proofs.Trees.{next_item}
use Rattle.nest.proofs.NestedLaw.{all_behind}
use Rattle.deptest_verdict.specs.Sinks.{LineSinks}
use Rattle.deptest_verdict.specs.Shown.{FirstLineShown, FirstLoopsShown}
use Rattle.deptest_verdict.specs.Refused.{ItemsRefused}
use Rattle.deptest_verdict.specs.Telling.{FirstLineRefused, FirstLoopsRefused, OrMemory}

-- ---- items

-- the line that an item is
line_refused : (text : List ℕ) (sinks : LineSinks) (ds : List Tree.Declaration) (n : Nesting) (i : Item) (rest : Tree.Items) (r : Refusal) → FirstLineRefused text sinks ds n (with_item i Tree.no_items) rest r
    → ItemsRefused text sinks ds n (with_item i rest) r
line_refused text sinks ds n (Directive place) rest r h = inl h
line_refused text sinks ds n (Local l) rest r h = absurd h
line_refused text sinks ds n (Statement' p s) rest r h = absurd h

-- the statement that an item is
statement_refused : (text : List ℕ) (sinks : LineSinks) (ds : List Tree.Declaration) (n : Nesting) (i : Item) (rest : Tree.Items) (r : Refusal) → FirstLoopsRefused text sinks ds n (with_item i Tree.no_items) r
    → ItemsRefused text sinks ds n (with_item i rest) r
statement_refused text sinks ds n (Directive place) rest r h = absurd h
statement_refused text sinks ds n (Local l) rest r h = absurd h
statement_refused text sinks ds n (Statement' p s) rest r h = inl h

-- an item behind one that is shown
later_refused : (text : List ℕ) (sinks : LineSinks) (ds : List Tree.Declaration) (n : Nesting) (i : Item) (rest : Tree.Items) (r : Refusal) → FirstLineShown text sinks n (with_item i Tree.no_items) rest
    → FirstLoopsShown text sinks n (with_item i Tree.no_items) → ItemsRefused text sinks ds n rest r → ItemsRefused text sinks ds n (with_item i rest) r
later_refused text sinks ds n (Directive place) rest r line loops h = inr (line, h)
later_refused text sinks ds n (Local l) rest r line loops h = h
later_refused text sinks ds n (Statement' p s) rest r line loops h = inr (loops, h)

-- where the items that are left are refused, all are
abbrev pub LeftRefused : List ℕ → LineSinks → List Tree.Declaration → Nesting → List Item → ℕ → Type 0
LeftRefused text sinks ds n is i = (r : Refusal) → ItemsRefused text sinks ds n (items_of (drop i is)) r → ItemsRefused text sinks ds n (items_of is) r

-- an item that is shown
pub refused_more : (text : List ℕ) (sinks : LineSinks) (ds : List Tree.Declaration) (n : Nesting) (is : List Item) (i : ℕ) (e : Item) → i < length is → e ≡ get_or is i e → LeftRefused text sinks ds n is i
    → FirstLineShown text sinks n (with_item e Tree.no_items) (items_of (take (length is - (i + 1)) (drop (i + 1) is))) → FirstLoopsShown text sinks n (with_item e Tree.no_items) → LeftRefused text sinks ds n is (i + 1)
refused_more text sinks ds n is i e lt p left line loops r h =
    let here = subst (λ xs. FirstLineShown text sinks n (with_item e Tree.no_items) (items_of xs)) (all_behind is (i + 1)) line in
    left r (subst (λ xs. ItemsRefused text sinks ds n xs r) (sym (next_item is i e lt p)) (later_refused text sinks ds n e (items_of (drop (i + 1) is)) r here loops h))

-- an item that is refused for its line
pub refused_by_line : (text : List ℕ) (sinks : LineSinks) (ds : List Tree.Declaration) (n : Nesting) (is : List Item) (i : ℕ) (e : Item) (r : Refusal) → i < length is → e ≡ get_or is i e → LeftRefused text sinks ds n is i
    → OrMemory (FirstLineRefused text sinks ds n (with_item e Tree.no_items) (items_of (take (length is - (i + 1)) (drop (i + 1) is)))) r → OrMemory (ItemsRefused text sinks ds n (items_of is)) r
refused_by_line text sinks ds n is i e r lt p left (inl m) = inl m
refused_by_line text sinks ds n is i e r lt p left (inr h) =
    let here = subst (λ xs. FirstLineRefused text sinks ds n (with_item e Tree.no_items) (items_of xs) r) (all_behind is (i + 1)) h in
    inr (left r (subst (λ xs. ItemsRefused text sinks ds n xs r) (sym (next_item is i e lt p)) (line_refused text sinks ds n e (items_of (drop (i + 1) is)) r here)))

-- an item that is refused for its statement
pub refused_by_statement : (text : List ℕ) (sinks : LineSinks) (ds : List Tree.Declaration) (n : Nesting) (is : List Item) (i : ℕ) (e : Item) (r : Refusal) → i < length is → e ≡ get_or is i e → LeftRefused text sinks ds n is i
    → OrMemory (FirstLoopsRefused text sinks ds n (with_item e Tree.no_items)) r → OrMemory (ItemsRefused text sinks ds n (items_of is)) r
refused_by_statement text sinks ds n is i e r lt p left (inl m) = inl m
refused_by_statement text sinks ds n is i e r lt p left (inr h) =
    inr (left r (subst (λ xs. ItemsRefused text sinks ds n xs r) (sym (next_item is i e lt p)) (statement_refused text sinks ds n e (items_of (drop (i + 1) is)) r h)))
