-- The accesses that the tests look at are the element accesses of a body, one after another, as the semantics has them.
use Rattle.std.specs.Prelude.{ℕ, zero, suc, ◌≡◌, List, [], ◌∷◌, ◌++◌, Contains, Option, Some, None, slice_get}
use Rattle.std.proofs.Common.{refl, sym, ap, subst}
use Rattle.std.proofs.lemmas.List.{append_assoc}
use Rattle.std.proofs.lemmas.List.Elements.{Contains-append_right}
use Rattle.std.proofs.lemmas.Option.{none-some, same_Some}
use Rattle.semantics.specs.Tree.{Variable, Expr, Literal, Constant, Object, Unary, Binary, Conditional, Exprs, no_exprs, more_exprs, Cond, NotZero, Compare, Not, LogicalAnd, LogicalOr, Source, Number, Truth, Increment, PrintPart, Characters, Decimal, Stmt, Assign, Update, If, IfElse, For, Block, Print, Items, no_items, mark, local, stmt, Declaration}
use Rattle.semantics.specs.Loops.Nest.{Loop}
use Rattle.semantics.specs.Loops.Access.{Access, Mode, Reads, Writes, expr_accesses, cond_accesses, source_accesses, start_accesses, part_accesses, accesses, items_accesses}
use Rattle.semantics.specs.Loops.Access as meant
use Rattle.affine.specs.declared.interval.Interval.{Interval}
use Rattle.affine.specs.Box.{side}
use Rattle.nest_loop.specs.Loops.{inside}
use Rattle.nest_loop.proofs.Laws.{loop_is_unique}
use Rattle.pairtest_counter.specs.Levels.{Nesting, AreLevels}
use Rattle.nest.specs.Nests.{ExprHas, CondHas, SourceHas, StartHas, PartsHave, Has, Have, StaysInside}
use Rattle.pairtest.specs.declared.access.Mode as found_mode
use Rattle.pairtest.specs.declared.access.Mode.TheVariants as found
use Rattle.pairtest_access.specs.Sites.{Site, named, expr_sites, cond_sites, source_sites, start_sites, part_sites, IsInside, Sites, ItemsSites}
use Rattle.law_turns.specs.Turns.{AreEntered}
use Rattle.law_turns.proofs.Laws.{entered_join}
use Rattle.law_turns.proofs.Joining.{contains_none, contains_first, contains_cases}
use Rattle.law_independence.specs.Inside.{IsRead, LoopsAreRead, ItemsAreRead}

-- a site is this access: its own loops are those that were entered, and its subscripts are in range
pub record Link (ds : List Declaration) (base : Nesting) (site : Site) (a : Access) : Type 0 where
  pub array : site.array ≡ a.array
  pub subscripts : site.subscripts ≡ a.subscripts
  pub writes : site.mode ≡ found.Writes → a.mode ≡ Writes
  pub found_writing : a.mode ≡ Writes → site.mode ≡ found.Writes
  pub entered : AreEntered base a.inner site.round
  pub stays : StaysInside ds site.round.box site.array site.subscripts

-- some sites are these accesses, one after another
abbrev pub AreLinked : List Declaration → Nesting → List Site → List Access → Type 0
AreLinked ds base [] [] = Unit {0}
AreLinked ds base [] (a ∷ xs) = ⊥
AreLinked ds base (s ∷ ss) [] = ⊥
AreLinked ds base (s ∷ ss) (a ∷ xs) = Link ds base s a × AreLinked ds base ss xs

-- the access of a number
pub linked_at : (ds : List Declaration) (base : Nesting) (ss : List Site) (xs : List Access) (k : ℕ) (site : Site) → AreLinked ds base ss xs → slice_get ss k ≡ Some site
    → (a : Access) × (slice_get xs k ≡ Some a) × Link ds base site a
linked_at ds base [] xs k site links e = absurd (none-some site e)
linked_at ds base (s ∷ ss) [] k site links e = absurd links
linked_at ds base (s ∷ ss) (a ∷ xs) zero site links e = (a, refl, subst (λ t. Link ds base t a) (same_Some s site e) links.0)
linked_at ds base (s ∷ ss) (a ∷ xs) (suc k) site links e = linked_at ds base ss xs k site links.1 e

-- the site of an access
pub linked_site : (ds : List Declaration) (base : Nesting) (ss : List Site) (xs : List Access) (a : Access) → AreLinked ds base ss xs → Contains xs a → (site : Site) × Contains ss site × Link ds base site a
linked_site ds base [] [] a links among = absurd (contains_none a among)
linked_site ds base [] (b ∷ xs) a links among = absurd links
linked_site ds base (s ∷ ss) [] a links among = absurd links
linked_site ds base (s ∷ ss) (b ∷ xs) a links among =
    contains_cases b a xs (λ e. (s, contains_first s ss, subst (Link ds base s) e links.0))
    (λ h. let later = linked_site ds base ss xs a links.1 h in (later.0, Contains-append_right (s ∷ []) ss later.0 later.1, later.2)) among

linked_joined : (ds : List Declaration) (base : Nesting) (ss ts : List Site) (xs ys : List Access) → AreLinked ds base ss xs → AreLinked ds base ts ys → AreLinked ds base (ss ++ ts) (xs ++ ys)
linked_joined ds base [] ts [] ys first second = second
linked_joined ds base [] ts (a ∷ xs) ys first second = absurd first
linked_joined ds base (s ∷ ss) ts [] ys first second = absurd first
linked_joined ds base (s ∷ ss) ts (a ∷ xs) ys first second = (first.0, linked_joined ds base ss ts xs ys first.1 second)

-- three lists
linked_three : (ds : List Declaration) (base : Nesting) (ss ts us : List Site) (xs ys zs : List Access) → AreLinked ds base ss xs → AreLinked ds base ts ys → AreLinked ds base us zs
    → AreLinked ds base (ss ++ (ts ++ us)) ((xs ++ ys) ++ zs)
linked_three ds base ss ts us xs ys zs first second third =
    subst (AreLinked ds base (ss ++ (ts ++ us))) (sym (append_assoc xs ys zs))
    (linked_joined ds base ss (ts ++ us) xs (ys ++ zs) first (linked_joined ds base ts us ys zs second third))

linked_by : (ds : List Declaration) (base : Nesting) (ss ts : List Site) (xs : List Access) → ss ≡ ts → AreLinked ds base ts xs → AreLinked ds base ss xs
linked_by ds base ss ts xs e h = subst (λ us. AreLinked ds base us xs) (sym e) h

-- a loop that the list of accesses goes into was entered
pub one_entered : (n inner : Nesting) (x : Variable) (start : Source) (test : Cond) (step : Increment) (body : Stmt) → IsInside n x start test step body inner
    → IsRead n.box (record { variable = x; start = start; test = test; step = step }) → AreEntered n (record { variable = x; start = start; test = test; step = step } ∷ []) inner
one_entered n inner x start test step body into read = (
  side x into.numbers.least into.numbers.greatest,
  into.level,
  record { scope = read.scope; order = read.order; tokens = read.tokens; small = read.small; reads = read.reads; is = into.is.form; other = read.other },
  (subst (λ (m : Nesting). AreLevels m.box m.levels) into.now into.sound).0,
  sym into.now,
)

module _ (ds : List Declaration) (base : Nesting) where
  module _ (n : Nesting) (hs : List Loop) (entered : AreEntered base hs n) where
    named_linked : (x : Variable) (es : Exprs) (m : found_mode.Mode) (w : Mode) → (m ≡ found.Writes → w ≡ Writes) → (w ≡ Writes → m ≡ found.Writes) → StaysInside ds n.box x es → AreLinked ds base (named n m x es) (meant.named x es w hs)
    named_linked x no_exprs m w same back stays = tt
    named_linked x (more_exprs e es) m w same back stays =
        (record { array = refl; subscripts = refl; writes = same; found_writing = back; entered = entered; stays = stays }, tt)

    only_reads : found.Reads ≡ found.Writes → Reads ≡ Writes
    only_reads e = absurd (cc e)

    reads_only : Reads ≡ Writes → found.Reads ≡ found.Writes
    reads_only e = absurd (cc e)

    mutual
      expr_linked : (e : Expr) → ExprHas (StaysInside ds) n.box e → AreLinked ds base (expr_sites n e) (expr_accesses hs e)
      expr_linked (Literal value suffix) h = tt
      expr_linked (Constant name value) h = tt
      expr_linked (Object x es) h = named_linked x es found.Reads Reads only_reads reads_only h
      expr_linked (Unary op a) h = expr_linked a h
      expr_linked (Binary op a b) h = linked_joined ds base (expr_sites n a) (expr_sites n b) (expr_accesses hs a) (expr_accesses hs b) (expr_linked a h.0) (expr_linked b h.1)
      expr_linked (Conditional c a b) h =
          linked_three ds base (cond_sites n c) (expr_sites n a) (expr_sites n b) (cond_accesses hs c) (expr_accesses hs a) (expr_accesses hs b) (cond_linked c h.0) (expr_linked a h.1) (expr_linked b h.2)

      cond_linked : (c : Cond) → CondHas (StaysInside ds) n.box c → AreLinked ds base (cond_sites n c) (cond_accesses hs c)
      cond_linked (NotZero a) h = expr_linked a h
      cond_linked (Compare op a b) h = linked_joined ds base (expr_sites n a) (expr_sites n b) (expr_accesses hs a) (expr_accesses hs b) (expr_linked a h.0) (expr_linked b h.1)
      cond_linked (Not c) h = cond_linked c h
      cond_linked (LogicalAnd c d) h = linked_joined ds base (cond_sites n c) (cond_sites n d) (cond_accesses hs c) (cond_accesses hs d) (cond_linked c h.0) (cond_linked d h.1)
      cond_linked (LogicalOr c d) h = linked_joined ds base (cond_sites n c) (cond_sites n d) (cond_accesses hs c) (cond_accesses hs d) (cond_linked c h.0) (cond_linked d h.1)

    source_linked : (e : Source) → SourceHas (StaysInside ds) n.box e → AreLinked ds base (source_sites n e) (source_accesses hs e)
    source_linked (Number a) h = expr_linked a h
    source_linked (Truth c) h = cond_linked c h

    start_linked : (o : Option Source) → StartHas (StaysInside ds) n.box o → AreLinked ds base (start_sites n o) (start_accesses hs o)
    start_linked None h = tt
    start_linked (Some e) h = source_linked e h

    parts_linked : (ps : List PrintPart) → PartsHave (StaysInside ds) n.box ps → AreLinked ds base (part_sites n ps) (part_accesses hs ps)
    parts_linked [] h = tt
    parts_linked (Characters ys ∷ ps) h = parts_linked ps h
    parts_linked (Decimal a ∷ ps) h = linked_joined ds base (expr_sites n a) (part_sites n ps) (expr_accesses hs a) (part_accesses hs ps) (expr_linked a h.0) (parts_linked ps h.1)

  mutual
    pub linked : (n : Nesting) (hs : List Loop) (s : Stmt) (ss : List Site) → AreEntered base hs n → Sites n s ss → LoopsAreRead n.box s → Has (StaysInside ds) n.box s → AreLinked ds base ss (accesses hs s)
    linked n hs (Assign x es e) ss entered is read h =
        linked_by ds base ss (named n found.Writes x es ++ source_sites n e) (accesses hs (Assign x es e)) is
        (linked_joined ds base (named n found.Writes x es) (source_sites n e) (meant.named x es Writes hs) (source_accesses hs e)
        (named_linked n hs entered x es found.Writes Writes (λ e. refl) (λ e. refl) h.0) (source_linked n hs entered e h.1))
    linked n hs (Update x es op e) ss entered is read h =
        linked_by ds base ss (named n found.Writes x es ++ expr_sites n e) (accesses hs (Update x es op e)) is
        (linked_joined ds base (named n found.Writes x es) (expr_sites n e) (meant.named x es Writes hs) (expr_accesses hs e)
        (named_linked n hs entered x es found.Writes Writes (λ e. refl) (λ e. refl) h.0) (expr_linked n hs entered e h.1))
    linked n hs (If c a) ss entered (ts, in_a, is) read h =
        linked_by ds base ss (cond_sites n c ++ ts) (accesses hs (If c a)) is
        (linked_joined ds base (cond_sites n c) ts (cond_accesses hs c) (accesses hs a) (cond_linked n hs entered c h.0) (linked n hs a ts entered in_a read h.1))
    linked n hs (IfElse c a b) ss entered (ts, us, in_a, in_b, is) read h =
        linked_by ds base ss (cond_sites n c ++ (ts ++ us)) (accesses hs (IfElse c a b)) is
        (linked_three ds base (cond_sites n c) ts us (cond_accesses hs c) (accesses hs a) (accesses hs b) (cond_linked n hs entered c h.0)
        (linked n hs a ts entered in_a read.0 h.1) (linked n hs b us entered in_b read.1 h.2))
    linked n hs (For x name start test step body) ss entered (inner, into, is) read (l, i, loop, h) =
        let same = (loop_is_unique n.box x start test step body l into.level.canonical i into.numbers loop into.is).1 in
        let box : inside n.box x into.numbers ≡ inner.box = ap (λ (m : Nesting). m.box) (sym into.now) in
        linked inner (hs ++ (record { variable = x; start = start; test = test; step = step } ∷ [])) body ss
        (entered_join base n inner hs (record { variable = x; start = start; test = test; step = step } ∷ []) entered (one_entered n inner x start test step body into read.0)) is
        (subst (λ b. LoopsAreRead b body) box (read.1 into.level.canonical into.numbers into.is))
        (subst (λ b. Has (StaysInside ds) b body) box (subst (λ (j : Interval). Has (StaysInside ds) (inside n.box x j) body) same h))
    linked n hs (Block items) ss entered is read h = items_linked n hs items ss entered is read h
    linked n hs (Print parts) ss entered is read h = linked_by ds base ss (part_sites n parts) (accesses hs (Print parts)) is (parts_linked n hs entered parts h)

    items_linked : (n : Nesting) (hs : List Loop) (items : Items) (ss : List Site) → AreEntered base hs n → ItemsSites n items ss → ItemsAreRead n.box items → Have (StaysInside ds) n.box items
        → AreLinked ds base ss (items_accesses hs items)
    items_linked n hs no_items ss entered is read h = linked_by ds base ss [] [] is tt
    items_linked n hs (mark line rest) ss entered is read h = items_linked n hs rest ss entered is read h
    items_linked n hs (local x name start rest) ss entered (ts, later, is) read h =
        linked_by ds base ss (start_sites n start ++ ts) (items_accesses hs (local x name start rest)) is
        (linked_joined ds base (start_sites n start) ts (start_accesses hs start) (items_accesses hs rest) (start_linked n hs entered start h.0) (items_linked n hs rest ts entered later read h.1))
    items_linked n hs (stmt s rest) ss entered (ts, us, in_s, later, is) read h =
        linked_by ds base ss (ts ++ us) (items_accesses hs (stmt s rest)) is
        (linked_joined ds base ts us (accesses hs s) (items_accesses hs rest) (linked n hs s ts entered in_s read.0 h.0) (items_linked n hs rest us entered later read.1 h.1))
