-- A walk over parallel loops, item by item.
use Rattle.std.specs.Prelude.{ℕ, zero, suc, IsTrue, [], ◌∷◌, slice_get, ◌+◌, ◌-◌, ◌≡◌, ◌<◌, List, length, get_or, drop, take, map, Option, Some, None, MatchOption}
use Rattle.std.proofs.Common.{inl, inr, refl, sym, subst, arith}
use Rattle.std.proofs.lemmas.Option.{slice_get_within}
use Rattle.semantics.specs.Tree
use Rattle.semantics.specs.Source.Text.{line_at}
use Rattle.semantics.specs.Loops.Nest.{Loop, as_loop}
use Rattle.semantics.specs.Loops.Order.{Distance}
use Rattle.ktree.specs.View.{items_of, with_item, source_of, cond_of, increment_of}
use Rattle.ktree.specs.declared.statement.Head.{Head}
use Rattle.ktree.specs.declared.refusal.Refusal.{Refusal}
use Rattle.affine.specs.declared.interval.Side.{Side}
use Rattle.nest_loop.specs.declared.entered.LoopFacts.{LoopFacts}
use Rattle.nest_loop.specs.Facts.{LoopFactsOf, StandFirst, StandFirstAmong}
use Rattle.nest_loop.proofs.Standing.{first_facts}
use Rattle.ktree.specs.declared.statement.Item.{Item, Directive, Local, Statement'}
use Rattle.pairtest_counter.specs.Levels.{Nesting}
use Rattle.semantics.specs.Directives.Directive.{Schedule}
use Rattle.pragma.specs.Clauses.{ReadsLoop}
use Rattle.pragma.specs.Parallel.{associated}
use Rattle.ktree.proofs.Trees.{next_item}
use Rattle.nest.proofs.NestedLaw.{all_behind}
use Rattle.pairtest.specs.declared.access.Access.{Access}
use Rattle.pairtest.specs.declared.access.Nest.{Nest}
use Rattle.pairtest_access.specs.Sites.{Site, Sites, IsInside}
use Rattle.pairtest_access.specs.Walk.{EntersFirst}
use Rattle.pairtest_access.proofs.Walks.{loop_of}
use Rattle.nest.specs.Heads.{head_of}
use Rattle.pairtest_access.specs.Found.{AreFound, AreMet, IsFound, IsMet, inner_loops}
use Rattle.deptest_verdict.specs.declared.pairs.Pair.{Pair}
use Rattle.deptest_verdict.specs.Sinks.{LineSinks}
use Rattle.deptest_verdict.specs.Pairs.{AreShown, IsFirstPair}
use Rattle.deptest_verdict.specs.Shown.{IsShownBody, IsShownNest, ShownFirst, LineShown, LoopsShown, ItemsShown, FirstLineShown, FirstLoopsShown}
use Rattle.deptest_verdict.specs.Refused.{LoopsRefused}
use Rattle.deptest_verdict.specs.Telling.{OrMemory}

-- an item, and the others
shown_joined : (text : List ℕ) (sinks : LineSinks) (n : Nesting) (i : Item) (rest : Tree.Items)
    → FirstLineShown text sinks n (with_item i Tree.no_items) rest → FirstLoopsShown text sinks n (with_item i Tree.no_items) → ItemsShown text sinks n rest → ItemsShown text sinks n (with_item i rest)
shown_joined text sinks n (Directive place) rest line loops h = (line, h)
shown_joined text sinks n (Local l) rest line loops h = h
shown_joined text sinks n (Statement' p s) rest line loops h = (loops, h)

-- where the items that are left are so, all are
abbrev pub LeftShown : List ℕ → LineSinks → Nesting → List Item → ℕ → Type 0
LeftShown text sinks n is i = ItemsShown text sinks n (items_of (drop i is)) → ItemsShown text sinks n (items_of is)

-- an item that is so
pub shown_more : (text : List ℕ) (sinks : LineSinks) (n : Nesting) (is : List Item) (i : ℕ) (e : Item) → i < length is → e ≡ get_or is i e → LeftShown text sinks n is i
    → FirstLineShown text sinks n (with_item e Tree.no_items) (items_of (take (length is - (i + 1)) (drop (i + 1) is))) → FirstLoopsShown text sinks n (with_item e Tree.no_items) → LeftShown text sinks n is (i + 1)
shown_more text sinks n is i e lt p left line loops h =
    let here = subst (λ xs. FirstLineShown text sinks n (with_item e Tree.no_items) (items_of xs)) (all_behind is (i + 1)) line in
    left (subst (ItemsShown text sinks n) (sym (next_item is i e lt p)) (shown_joined text sinks n e (items_of (drop (i + 1) is)) here loops h))

-- a line is judged by what stands behind it
pub line_is : (text : List ℕ) (sinks : LineSinks) (n : Nesting) (line : ℕ) (rest : Tree.Items) (k : Option Schedule) (c : Option ℕ) (m : ℕ)
    → ReadsLoop (line_at text line) k c → m ≡ associated c → ShownFirst n (sinks line) m rest → LineShown text sinks n line rest
line_is text sinks n line rest k c m reads e h = (k, c, reads, subst (λ (j : ℕ). ShownFirst n (sinks line) j rest) e h)

-- accesses that are all counted have their forms
all_counted : (outer : ℕ) (ss : List Site) (fs : List Access) → AreMet outer ss fs → ((k : ℕ) (f : Access) → slice_get fs k ≡ Some f → IsTrue f.is_counted) → AreFound outer ss fs
all_counted outer [] [] h counted = tt
all_counted outer [] (f ∷ fs) h counted = absurd h
all_counted outer (s ∷ ss) [] h counted = absurd h
all_counted outer (s ∷ ss) (f ∷ fs) h counted = (found_of h.0, all_counted outer ss fs h.1 (λ k g e. counted (suc k) g e))
  where
    found_of : IsMet outer s f → IsFound outer s f
    found_of (inl k) = k
    found_of (inr k) = let t = subst IsTrue k.counted (counted 0 f refl) in absurd (cc t)

-- a body, from what was found of it
pub body_is : (now : Nesting) (outer : ℕ) (serial : List ℕ) (sinks : List Distance) (body : Tree.Stmt) (ss : List Site) (found xs : List Access) (nest : Nest) (o : Option Pair) → Sites now body ss → AreMet (length now.levels) ss found
    → xs ≡ found → nest.serial.items ≡ serial → nest.loops.items ≡ map (λ v. v.most) (inner_loops outer now.levels)
    → MatchOption o (AreShown nest sinks xs) (λ pair. IsFirstPair nest sinks xs pair.first pair.second) → o ≡ None → IsShownBody now outer serial sinks body
body_is now outer serial sinks body ss found xs nest None are finds same p q h e =
    let shown : AreShown nest sinks found = subst (AreShown nest sinks) same h in
    record { sites = ss; are = are; found = found; finds = all_counted (length now.levels) ss found finds (λ k x e. (shown k x (slice_get_within found k x e) e).0); nest = nest; counts = p; loops = q; shown = shown }
body_is now outer serial sinks body ss found xs nest (Some pair) are finds same p q h e = absurd (cc e)

-- ---- the facts of loops

-- those of the loop that a statement is stand first
pub loop_first : (box : List Side) (s : Tree.Stmt) (head : Head) (body : Tree.Stmt) (loops : List LoopFacts) → as_loop s ≡ Some (head_of head, body) → StandFirst box s loops
    → (rest : List LoopFacts) × LoopFactsOf box head body loops rest
loop_first box s head body loops e (rest, k) = let first = first_facts box s (head_of head) body loops rest e k in (rest, (first.own, first.more, first.is, first.are, first.inner))

-- it was entered, and those of its body stand first
pub record IsInto (n inner : Nesting) (head : Head) (body : Tree.Stmt) (behind : List LoopFacts) : Type 0 where
  pub inside : IsInside n head.variable.0 (source_of head.start) (cond_of head.test) (increment_of head.step) body inner
  pub first : StandFirst inner.box body behind

pub into_loop : (n inner : Nesting) (s : Tree.Stmt) (head : Head) (body : Tree.Stmt) (loops behind : List LoopFacts) → as_loop s ≡ Some (head_of head, body) → StandFirst n.box s loops
    → EntersFirst n inner head loops behind → IsInto n inner head body behind
into_loop n inner s head body loops behind e k enters =
    let first = loop_first n.box s head body loops e k in
    let both = enters body first.0 first.1 in
    record { inside = both.0; first = (first.0, both.1) }

-- a nest that is shown inside one loop
pub shown_inner : (now inner : Nesting) (outer : ℕ) (serial : List ℕ) (sinks : List Distance) (n : ℕ) (s : Tree.Stmt) (h : Loop) (body : Tree.Stmt) → 0 < n → as_loop s ≡ Some (h, body)
    → IsInside now h.variable h.start h.test h.step body inner → IsShownNest inner outer serial sinks (n - 1) body → IsShownNest now outer serial sinks n s
shown_inner now inner outer serial sinks zero s h body l e i k = absurd (omega (arith, l))
shown_inner now inner outer serial sinks (suc n) s h body l e i k = (h, body, e, inner, i, subst (λ (m : ℕ). IsShownNest inner outer serial sinks m body) (one_less n) k)
  where
    one_less : (m : ℕ) → suc m - 1 ≡ m
    one_less m = omega arith

-- a loop's parallel loops, and what is refused of them
pub loop_shown : (text : List ℕ) (sinks : LineSinks) (n inner : Nesting) (head : Head) (body : Tree.Stmt) → IsInside n head.variable.0 (source_of head.start) (cond_of head.test) (increment_of head.step) body inner
    → LoopsShown text sinks inner body → LoopsShown text sinks n (loop_of head body)
loop_shown text sinks n inner head body into h = (inner, into, h)

pub loop_refused : (text : List ℕ) (sinks : LineSinks) (ds : List Tree.Declaration) (n inner : Nesting) (head : Head) (body : Tree.Stmt) (r : Refusal)
    → IsInside n head.variable.0 (source_of head.start) (cond_of head.test) (increment_of head.step) body inner
    → OrMemory (LoopsRefused text sinks ds inner body) r → OrMemory (LoopsRefused text sinks ds n (loop_of head body)) r
loop_refused text sinks ds n inner head body r into (inl m) = inl m
loop_refused text sinks ds n inner head body r into (inr h) = inr (inner, into, h)

-- the facts of the first of some items stand first
pub statement_first : (box : List Side) (s : Tree.Stmt) (rest : Tree.Items) (loops : List LoopFacts) → StandFirstAmong box (Tree.stmt s rest) loops → StandFirst box s loops
statement_first box s rest loops (behind, (middle, f, k)) = (middle, f)
