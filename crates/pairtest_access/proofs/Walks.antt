-- A walk over the accesses of a body, item by item and loop by loop.
use Rattle.std.specs.Prelude.{ℕ, zero, suc, ◌+◌, ◌≡◌, ◌<◌, ◌⊎◌, List, [], ◌∷◌, ◌++◌, length, get_or, take, drop, map, string_bytes}
use Rattle.std.proofs.Common.{Box, Global, inl, inr, refl, sym, ap, ◌∙◌, subst, arith}
use Rattle.std.proofs.lemmas.List.{take_more, append_assoc, append-nil}
use Rattle.semantics.specs.Tree
use Rattle.ktree.specs.View.{start_of, stmt_of, items_of, with_item, part_of, source_of, cond_of, increment_of}
use Rattle.ktree.specs.declared.statement.Head.{Head}
use Rattle.ktree.specs.declared.statement.PrintPart.{PrintPart}
use Rattle.ktree.specs.declared.statement.Stmt as code
use Rattle.ktree.specs.declared.statement.Item.{Item, Directive, Local, Statement'}
use Rattle.affine.specs.declared.interval.Side.{Side}
use Rattle.nest_loop.specs.declared.entered.LoopFacts.{LoopFacts}
use Rattle.nest_loop.specs.Loops.{inside}
use Rattle.nest_loop.specs.Facts.{FactsOf, StandFirst, IsLeft}
use Rattle.nest_loop.proofs.Laws.{loop_is_unique}
use Rattle.nest_loop.proofs.Standing.{own_facts}
use Rattle.pairtest_counter.specs.declared.level.EnclosingLoop.{EnclosingLoop}
use Rattle.pairtest_counter.specs.Levels.{Nesting, AreLevels, EntersWith}
use Rattle.pairtest.specs.declared.access.Mode.TheVariants.{Writes}
use Rattle.affine_expr.specs.declared.faults.Fault.{Fault}
use Rattle.pairtest_access.specs.Sites.{Site, Sites, ItemsSites, IsInside, named, expr_sites, cond_sites, source_sites, start_sites, printed_sites, part_sites}
use Rattle.pairtest_access.specs.Refused.{Lacks, IsStuck, AreStuck, Because}
use Rattle.pairtest_access.specs.Walk.{MeetsAll, EntersFirst}
use Rattle.pairtest_access.specs.declared.finder.Finder.{Finder}

-- no access
pub none_met : (b : Finder) → MeetsAll b [] b
none_met b = refl

-- a walk behind another
pub joined : (b m a : Finder) (xs ys : List Site) → MeetsAll b xs m → MeetsAll m ys a → MeetsAll b (xs ++ ys) a
joined b m a [] ys h k = subst (λ f. MeetsAll f ys a) h k
joined b m a (s ∷ xs) ys h k = (h.0, h.1, joined h.0 m a xs ys h.2 k)

-- some access of both is not affine
pub lacks_before : (xs ys : List Site) → Lacks xs → Lacks (xs ++ ys)
lacks_before [] ys h = absurd h
lacks_before (s ∷ xs) ys (inl h) = inl h
lacks_before (s ∷ xs) ys (inr h) = inr (lacks_before xs ys h)

pub lacks_behind : (xs ys : List Site) → Lacks ys → Lacks (xs ++ ys)
lacks_behind [] ys h = h
lacks_behind (s ∷ xs) ys h = inr (lacks_behind xs ys h)

-- ---- printf's arguments

one_part : (n : Nesting) (ps : List PrintPart) (p : PrintPart) → part_sites n (map part_of (ps ++ (p ∷ []))) ≡ part_sites n (map part_of ps) ++ printed_sites n (part_of p)
one_part n [] p = append-nil (printed_sites n (part_of p))
one_part n (q ∷ qs) p =
    ap (λ ss. printed_sites n (part_of q) ++ ss) (one_part n qs p) ∙ sym (append_assoc (printed_sites n (part_of q)) (part_sites n (map part_of qs)) (printed_sites n (part_of p)))

-- the next argument
pub next_part : (n : Nesting) (ps : List PrintPart) (i : ℕ) (p : PrintPart) (b m a : Finder) → i < length ps → p ≡ get_or ps i p → MeetsAll b (part_sites n (map part_of (take i ps))) m
    → MeetsAll m (printed_sites n (part_of p)) a → MeetsAll b (part_sites n (map part_of (take (i + 1) ps))) a
next_part n ps i p b m a lt is h k =
    let taken : take (i + 1) ps ≡ take i ps ++ (p ∷ []) = take_more ps i p lt ∙ ap (λ q. take i ps ++ (q ∷ [])) (sym is) in
    subst (λ ss. MeetsAll b ss a) (sym (ap (λ qs. part_sites n (map part_of qs)) taken ∙ one_part n (take i ps) p))
    (joined b m a (part_sites n (map part_of (take i ps))) (printed_sites n (part_of p)) h k)

-- ---- a block's items

-- the accesses of items are met on the way from one to the other
abbrev pub Walked : Nesting → Tree.Items → Finder → Finder → Type 0
Walked n items b a = (ss : List Site) × ItemsSites n items ss × MeetsAll b ss a

-- the first items are walked
abbrev pub Before : Nesting → Finder → List Item → ℕ → Finder → Type 0
Before n b items i a = Walked n (items_of (take i items)) b a

-- an item behind others
one_item : (n : Nesting) (is : List Item) (e : Item) (ss ts : List Site) → ItemsSites n (items_of is) ss → ItemsSites n (with_item e Tree.no_items) ts → ItemsSites n (items_of (is ++ (e ∷ []))) (ss ++ ts)
one_item n [] e ss ts h k = subst (λ us. ItemsSites n (with_item e Tree.no_items) (us ++ ts)) (sym h) k
one_item n (Directive place ∷ is) e ss ts h k = one_item n is e ss ts h k
one_item n (Local l ∷ is) e ss ts (us, h, is_these) k = (us ++ ts, one_item n is e us ts h k, ap (λ vs. vs ++ ts) is_these ∙ append_assoc (start_sites n (start_of l.start)) us ts)
one_item n (Statement' p s ∷ is) e ss ts (us, vs, first, h, is_these) k = (us, vs ++ ts, first, one_item n is e vs ts h k, ap (λ ws. ws ++ ts) is_these ∙ append_assoc us vs ts)

-- the next item
pub next_item : (n : Nesting) (is : List Item) (i : ℕ) (e : Item) (b m a : Finder) → i < length is → e ≡ get_or is i e → Before n b is i m → Walked n (with_item e Tree.no_items) m a
    → Before n b is (i + 1) a
next_item n is i e b m a lt eq (ss, h, met) (ts, k, more) =
    let taken : take (i + 1) is ≡ take i is ++ (e ∷ []) = take_more is i e lt ∙ ap (λ d. take i is ++ (d ∷ [])) (sym eq) in (
      ss ++ ts,
      subst (λ ds. ItemsSites n (items_of ds) (ss ++ ts)) (sym taken) (one_item n (take i is) e ss ts h k),
      joined b m a ss ts met more,
    )

-- ---- statements

-- a loop's statement, by its head and body
abbrev pub loop_of : Head → Tree.Stmt → Tree.Stmt
loop_of head body = Tree.For head.variable.0 (string_bytes head.name) (source_of head.start) (cond_of head.test) (increment_of head.step) body

-- its accesses are met
abbrev pub Goes : Nesting → Tree.Stmt → Finder → Finder → Type 0
Goes n s b a = (ss : List Site) × Sites n s ss × MeetsAll b ss a

-- a loop is entered and its body walked
pub loop_walked : (n inner : Nesting) (head : Head) (body : Tree.Stmt) (b a : Finder) → IsInside n head.variable.0 (source_of head.start) (cond_of head.test) (increment_of head.step) body inner
    → Goes inner body b a → Goes n (loop_of head body) b a
loop_walked n inner head body b a enters (ss, sites, met) = (ss, (inner, enters, sites), met)

-- the loops behind a loop are those before it
pub left : (n inner after : Nesting) (x : Tree.Variable) (start : Tree.Source) (test : Tree.Cond) (step : Tree.Increment) (body : Tree.Stmt) → IsInside n x start test step body inner
    → after.box ≡ drop 1 inner.box → after.levels ≡ drop 1 inner.levels → after ≡ n
left n inner after x start test step body enters box levels =
    let box' : after.box ≡ n.box = box ∙ ap (λ (m : Nesting). drop 1 m.box) enters.now in
    let levels' : after.levels ≡ n.levels = levels ∙ ap (λ (m : Nesting). drop 1 m.levels) enters.now in
    ap (λ (ss : List Side). record { box = ss; levels = after.levels }) box' ∙ ap (λ (vs : List EnclosingLoop). record { box = n.box; levels = vs }) levels'

-- an assignment
pub assign_walked : (n : Nesting) (x : Tree.Variable) (es : Tree.Exprs) (e : Tree.Source) (b m a : Finder) → MeetsAll b (named n Writes x es) m → MeetsAll m (source_sites n e) a
    → Goes n (Tree.Assign x es e) b a
assign_walked n x es e b m a h k = (named n Writes x es ++ source_sites n e, refl, joined b m a (named n Writes x es) (source_sites n e) h k)

pub update_walked : (n : Nesting) (x : Tree.Variable) (es : Tree.Exprs) (op : Tree.BinaryOp) (e : Tree.Expr) (b m a : Finder) → MeetsAll b (named n Writes x es) m → MeetsAll m (expr_sites n e) a
    → Goes n (Tree.Update x es op e) b a
update_walked n x es op e b m a h k = (named n Writes x es ++ expr_sites n e, refl, joined b m a (named n Writes x es) (expr_sites n e) h k)

-- a selection
pub if_walked : (n : Nesting) (c : Tree.Cond) (s : Tree.Stmt) (b m a : Finder) → MeetsAll b (cond_sites n c) m → Goes n s m a → Goes n (Tree.If c s) b a
if_walked n c s b m a h (ss, sites, met) = (cond_sites n c ++ ss, (ss, sites, refl), joined b m a (cond_sites n c) ss h met)

pub if_else_walked : (n : Nesting) (c : Tree.Cond) (s t : Tree.Stmt) (b l m a : Finder) → MeetsAll b (cond_sites n c) l → Goes n s l m → Goes n t m a → Goes n (Tree.IfElse c s t) b a
if_else_walked n c s t b l m a h (ss, sites, met) (ts, others, more) =
    (cond_sites n c ++ (ss ++ ts), (ss, ts, sites, others, refl), joined b l a (cond_sites n c) (ss ++ ts) h (joined l m a ss ts met more))

-- ---- what is wrong

-- one of some items
stuck_among : (n : Nesting) (is : List Item) (i : ℕ) (e : Item) → i < length is → e ≡ get_or is i e → AreStuck n (with_item e Tree.no_items) → AreStuck n (items_of is)
stuck_among n [] i e lt is h = absurd (omega (arith, lt))
stuck_among n (Directive place ∷ es) zero e lt is h = absurd (subst (λ d. AreStuck n (with_item d Tree.no_items)) is h)
stuck_among n (Local l ∷ es) zero e lt is h = by (subst (λ d. AreStuck n (with_item d Tree.no_items)) is h)
  where
    by : Lacks (start_sites n (start_of l.start)) ⊎ ⊥ → Lacks (start_sites n (start_of l.start)) ⊎ AreStuck n (items_of es)
    by (inl k) = inl k
    by (inr k) = absurd k
stuck_among n (Statement' p s ∷ es) zero e lt is h = by (subst (λ d. AreStuck n (with_item d Tree.no_items)) is h)
  where
    by : IsStuck n (stmt_of s) ⊎ ⊥ → IsStuck n (stmt_of s) ⊎ AreStuck n (items_of es)
    by (inl k) = inl k
    by (inr k) = absurd k
stuck_among n (Directive place ∷ es) (suc i) e lt is h = stuck_among n es i e (omega (arith, lt)) is h
stuck_among n (Local l ∷ es) (suc i) e lt is h = inr (stuck_among n es i e (omega (arith, lt)) is h)
stuck_among n (Statement' p s ∷ es) (suc i) e lt is h = inr (stuck_among n es i e (omega (arith, lt)) is h)

pub item_stuck : (n : Nesting) (is : List Item) (i : ℕ) (e : Item) (fault : Fault) → i < length is → e ≡ get_or is i e → Because (AreStuck n (with_item e Tree.no_items)) fault
    → Because (AreStuck n (items_of is)) fault
item_stuck n is i e fault lt eq (inl m) = inl m
item_stuck n is i e fault lt eq (inr h) = inr (stuck_among n is i e lt eq h)

-- one of printf's arguments
lacks_among : (n : Nesting) (ps : List PrintPart) (i : ℕ) (p : PrintPart) → i < length ps → p ≡ get_or ps i p → Lacks (printed_sites n (part_of p)) → Lacks (part_sites n (map part_of ps))
lacks_among n [] i p lt is h = absurd (omega (arith, lt))
lacks_among n (q ∷ qs) zero p lt is h = lacks_before (printed_sites n (part_of q)) (part_sites n (map part_of qs)) (subst (λ r. Lacks (printed_sites n (part_of r))) is h)
lacks_among n (q ∷ qs) (suc i) p lt is h = lacks_behind (printed_sites n (part_of q)) (part_sites n (map part_of qs)) (lacks_among n qs i p (omega (arith, lt)) is h)

pub part_lacks : (n : Nesting) (ps : List PrintPart) (i : ℕ) (p : PrintPart) (fault : Fault) → i < length ps → p ≡ get_or ps i p → Because (Lacks (printed_sites n (part_of p))) fault
    → Because (Lacks (part_sites n (map part_of ps))) fault
part_lacks n ps i p fault lt eq (inl m) = inl m
part_lacks n ps i p fault lt eq (inr h) = inr (lacks_among n ps i p lt eq h)

-- a loop
pub loop_stuck : (n inner : Nesting) (head : Head) (body : Tree.Stmt) (fault : Fault) → IsInside n head.variable.0 (source_of head.start) (cond_of head.test) (increment_of head.step) body inner
    → Because (IsStuck inner body) fault → Because (IsStuck n (loop_of head body)) fault
loop_stuck n inner head body fault enters (inl m) = inl m
loop_stuck n inner head body fault enters (inr h) = inr (inner, enters, h)

-- ---- the facts of loops

-- whatever loop has its facts first was entered, and those of its body stand first behind its own
pub enters_first : (before after : Nesting) (head : Head) (loops : List LoopFacts) (own : LoopFacts) (inner : List LoopFacts) → loops ≡ own ∷ inner → EntersWith before after head own
    → AreLevels after.box after.levels → EntersFirst before after head loops inner
enters_first before after head loops own inner e enters sound body rest h =
    let here = own_facts before.box head body loops own inner rest e h in
    let into = enters body here.are in
    let numbers : into.1 ≡ own.numbers =
    (loop_is_unique before.box head.variable.0 (source_of head.start) (cond_of head.test) (increment_of head.step) body into.0.canonical own.canonical into.1 own.numbers into.2 here.are.loop).1 in
    let box : after.box ≡ inside before.box head.variable.0 own.numbers = ap (λ (n : Nesting). n.box) into.3 ∙ ap (inside before.box head.variable.0) numbers in (
      record { level = into.0; numbers = into.1; is = into.2; now = into.3; sound = sound },
      subst (λ (b : List Side). FactsOf b body inner rest) (sym box) here.behind,
    )

-- a loop that was entered so
pub loop_inside : (before after : Nesting) (head : Head) (body : Tree.Stmt) (loops inner : List LoopFacts) → EntersFirst before after head loops inner → StandFirst before.box (loop_of head body) loops
    → IsInside before head.variable.0 (source_of head.start) (cond_of head.test) (increment_of head.step) body after
loop_inside before after head body loops inner enters (rest, k) = (enters body rest k).0

pub body_first : (before after : Nesting) (head : Head) (body : Tree.Stmt) (loops inner : List LoopFacts) → EntersFirst before after head loops inner → StandFirst before.box (loop_of head body) loops
    → StandFirst after.box body inner
body_first before after head body loops inner enters (rest, k) = (rest, (enters body rest k).1)

pub loop_passed : (before after : Nesting) (head : Head) (body : Tree.Stmt) (loops inner passed : List LoopFacts) → EntersFirst before after head loops inner → IsLeft (FactsOf after.box body inner) passed
    → IsLeft (FactsOf before.box (loop_of head body) loops) passed
loop_passed before after head body loops inner passed enters behind rest k = behind rest (enters body rest k).1

-- the loop that a statement is
pub for_is : (s : code.Stmt) (head : Head) (body : Box code.Stmt Global) (inner : code.Stmt) → s ≡ code.For head body → inner ≡ body.value → loop_of head (stmt_of inner) ≡ stmt_of s
for_is s head body inner e f = ap (λ b. loop_of head (stmt_of b)) f ∙ sym (ap stmt_of e)

pub loop_entered : (n inner : Nesting) (s : code.Stmt) (head : Head) (body : Box code.Stmt Global) (b : code.Stmt) (loops behind : List LoopFacts) → s ≡ code.For head body → b ≡ body.value
    → EntersFirst n inner head loops behind → StandFirst n.box (stmt_of s) loops → IsInside n head.variable.0 (source_of head.start) (cond_of head.test) (increment_of head.step) (stmt_of b) inner
loop_entered n inner s head body b loops behind e f enters first =
    loop_inside n inner head (stmt_of b) loops behind enters (subst (λ (t : Tree.Stmt). StandFirst n.box t loops) (sym (for_is s head body b e f)) first)

-- there is a loop to leave
pub some_loop : (n inner after : Nesting) (x : Tree.Variable) (start : Tree.Source) (test : Tree.Cond) (step : Tree.Increment) (body : Tree.Stmt) → IsInside n x start test step body inner → after ≡ inner
    → 0 < length after.levels
some_loop n inner after x start test step body into same =
    let e : length after.levels ≡ length (into.level ∷ n.levels) = ap (λ (m : Nesting). length m.levels) (same ∙ into.now) in
    subst (λ (k : ℕ). 0 < k) (sym e) (more n.levels)
  where
    more : (vs : List EnclosingLoop) → 0 < suc (length vs)
    more vs = omega arith
