-- The parallel loops of a kernel, one after another: chunks, or two passes, where a loop is no doacross nest, and waves where it is one.
use Rattle.std.specs.Prelude.{ℕ, suc, ◌==◌, ◌≡◌, List, [], ◌∷◌, ◌++◌, length, Option, Some, None}
use Rattle.std.proofs.Common.{refl, sym, ap, subst, arith}
use Rattle.std.proofs.lemmas.Bool.{ltb-true, or_parts}
use Rattle.semantics.specs.Tree.{Stmt, Items, Declaration, Kernel}
use Rattle.semantics.specs.Source.Token.{Token}
use Rattle.semantics.specs.Source.Scope.{Scope, AVariable}
use Rattle.semantics.specs.Source.Statements.{ReadsStmt, assign, update, if_only, if_else, for_loop, block, print, ReadsItems, no_more, line, empty_local, first_local, statement}
use Rattle.semantics.specs.Source.Text.{line_at}
use Rattle.semantics.specs.Meaning.Definite.{no_privates, definite_items, known_at_start, IsDefinite}
use Rattle.semantics.specs.Loops.Nest.{Loop}
use Rattle.semantics.specs.Loops.Order.{Distance}
use Rattle.law_lines.specs.Without.{IsTreeOf}
use Rattle.law_lines.proofs.Kept.{kept_lines_are_read}
use Rattle.nest_loop.specs.Loops.{inside}
use Rattle.pairtest_counter.specs.Levels.{Nesting}
use Rattle.pragma.specs.Parallel.{associated, FirstHas, LineHas}
use Rattle.pragma.proofs.LoopLaw.{read_once}
use Rattle.nest.specs.Nests.{Has, Have, StaysInside, IsInRange}
use Rattle.deptest_verdict.specs.Shown.{IsShownLoop, ShownFirst, LineShown, LoopsShown, ItemsShown, AreShownLoops, no_loops}
use Rattle.law_runs.proofs.Points.{rises}
use Rattle.law_runs.proofs.StatementsRun.{Keeps, AllKeep, keeps_inside}
use Rattle.nest_loop.specs.Canonical.{stepped, assigns, assigns_among}
use Rattle.law_runs.proofs.Nested.{decls_below, some_there}
use Rattle.law_turns.specs.Turns.{AreEntered}
use Rattle.law_turns.proofs.Laws.{entered_join}
use Rattle.law_independence.specs.Inside.{LoopsAreRead, ItemsAreRead, HaveShort}
use Rattle.law_independence.specs.Said.{LinesInside, phases_in, listed, sinks_in}
use Rattle.law_independence.specs.OrderLaws.{SharesBy}
use Rattle.law_independence.proofs.Links.{one_entered}
use Rattle.law_independence.proofs.IndependentNests.{body_there}
use Rattle.law_independence.proofs.Grammar.{decls_small, decls_short, items_read}
use Rattle.law_private.proofs.More.{more_known}
use Rattle.flow.specs.Phases.{PhasesBy}
use Rattle.flow.specs.Roles.{LineData, AskedByLine, privates_by, KeepsRolesThere, LoopsHaveBy, ItemsHaveBy, LoopsKeepRoles, ItemsKeepRoles}
use Rattle.law_independence.proofs.Numbering.{IsPlace, place_later, place_behind, place_inside}
use Rattle.law_independence.proofs.ReorderedBodies.{IsStmtRead}
use Rattle.law_independence.proofs.Starts.{StartsNameOthers, AllNameOthers, all_start}
use Rattle.law_independence.proofs.JudgedNests.{loop_shares}
use Rattle.law_doacross.specs.Waving.{SuitBy, AcceptedLoopsShare}
use Rattle.law_doacross.proofs.Waved.{nest_shares_in_waves}

-- ---- a loop of an accepted kernel

-- what is known of the loop behind a line
pub record IsAccepted (ds : List Declaration) (R : LineData) (P : LinesInside) (line : ℕ) (serial : List Loop) (n : ℕ) (s : Stmt) : Type 0 where
  pub short : HaveShort ds
  pub round : Nesting
  pub entered : AreEntered no_loops serial round
  pub read : LoopsAreRead round.box s
  pub stays : Has (StaysInside ds) round.box s
  pub stmt : IsStmtRead ds round.box s
  pub kept : KeepsRolesThere (R line) serial n s
  pub shown : IsShownLoop round (sinks_in P line) n s
  pub phased : PhasesBy R (phases_in P) line serial n s
  pub suits : SuitBy R P line serial n s

shares : (ds : List Declaration) (R : LineData) (P : LinesInside) (number : ℕ) (serial : List Loop) (n : ℕ) (s : Stmt) → IsAccepted ds R P number serial n s → SharesBy ds R P number serial n s
shares ds R P number serial n s its = by (P number).sinks refl
  where
    by : (o : Option (List Distance)) → (P number).sinks ≡ o → SharesBy ds R P number serial n s
    by None is = loop_shares ds serial its.round n s its.short its.entered its.read its.stays its.stmt (R number) its.kept (subst (λ o. IsShownLoop its.round (listed o) n s) is its.shown) (P number) is its.phased
    by (Some sinks) is = nest_shares_in_waves ds serial its.round n s its.short its.entered its.read its.stays its.stmt (R number) its.kept sinks (subst (λ o. IsShownLoop its.round (listed o) n s) is its.shown) (its.suits sinks is) (P number) is

-- ---- the walk

-- what follows for each loop of which that is known
module _ (text : List ℕ) (ds : List Declaration) (short : HaveShort ds) (R : LineData) (P : LinesInside) (Q : AskedByLine) (each : (line : ℕ) (serial : List Loop) (n : ℕ) (s : Stmt) → IsAccepted ds R P line serial n s → Q line serial n s) where
  first_has : {scope : Scope} {o next next' : ℕ} {ts : List Token} {items : Items} → ReadsItems scope o next ts items next' → (round : Nesting) (serial : List Loop) (n : ℕ) → AreEntered no_loops serial round
      → IsPlace ds round.box scope next → AllNameOthers items → AllKeep round.box items → (line : ℕ) → ShownFirst round (sinks_in P line) n items → FirstHas (KeepsRolesThere (R line)) serial n items → FirstHas (PhasesBy R (phases_in P) line) serial n items → FirstHas (SuitBy R P line) serial n items → ItemsAreRead round.box items → Have (StaysInside ds) round.box items
      → FirstHas (Q line) serial n items
  first_has no_more round serial n entered at starts kept line' shown private phased suits read has = shown
  first_has (line r) round serial n entered at starts kept line' shown private phased suits read has = shown
  first_has (empty_local free r) round serial n entered at starts kept line' shown private phased suits read has = shown
  first_has (first_local free e r) round serial n entered at starts kept line' shown private phased suits read has = shown
  first_has {scope} (statement {open' = open'} {next = next} {next' = middle} {s = s} {items = rest} {ts = ts} ra r) round serial n entered at starts kept line' shown private phased suits read has =
      each line' serial n s
      (record {
        short = short;
        round = round;
        entered = entered;
        read = read.0;
        stays = has.0;
        stmt = record { scope = scope; order = open'; next = next; after = middle; tokens = ts; reads = ra; place = at; starts = starts.0; kept = λ y q. (or_parts (assigns y s) (assigns_among y rest) (kept y q)).0 };
        kept = private;
        shown = shown;
        phased = phased;
        suits = suits;
      })

  line_has : {scope : Scope} {o next next' : ℕ} {ts : List Token} {items : Items} → ReadsItems scope o next ts items next' → (round : Nesting) (serial : List Loop) (n : ℕ) → AreEntered no_loops serial round
      → IsPlace ds round.box scope next → AllNameOthers items → AllKeep round.box items → LineShown text (sinks_in P) round n items → LineHas text (KeepsRolesThere (R n)) serial n items → LineHas text (PhasesBy R (phases_in P) n) serial n items → LineHas text (SuitBy R P n) serial n items → ItemsAreRead round.box items → Have (StaysInside ds) round.box items
      → LineHas text (Q n) serial n items
  line_has {items = items} r round serial n entered at starts kept (k, c, reads, first) (k', c', reads', private) (l, e, reads'', phased) (m, f, reads''', suits) read has =
      let same = (read_once (line_at text n) k' c' k c reads' reads).1 in
      let also = (read_once (line_at text n) l e k c reads'' reads).1 in
      let again = (read_once (line_at text n) m f k c reads''' reads).1 in
      (k, c, reads, first_has r round serial (associated c) entered at starts kept n first (subst (λ d. FirstHas (KeepsRolesThere (R n)) serial (associated d) items) same private) (subst (λ d. FirstHas (PhasesBy R (phases_in P) n) serial (associated d) items) also phased) (subst (λ d. FirstHas (SuitBy R P n) serial (associated d) items) again suits) read has)

  mutual
    stmt_has : {scope : Scope} {o next next' : ℕ} {ts : List Token} {s : Stmt} → ReadsStmt scope o next ts s next' → (round : Nesting) (serial : List Loop) → AreEntered no_loops serial round
        → IsPlace ds round.box scope next → StartsNameOthers s → Keeps round.box s → LoopsShown text (sinks_in P) round s → LoopsKeepRoles text R serial s → LoopsHaveBy text (PhasesBy R (phases_in P)) serial s → LoopsHaveBy text (SuitBy R P) serial s → LoopsAreRead round.box s → Has (StaysInside ds) round.box s
        → LoopsHaveBy text Q serial s
    stmt_has (assign t e) round serial entered at starts kept shown private phased suits read has = tt
    stmt_has (update t u e) round serial entered at starts kept shown private phased suits read has = tt
    stmt_has (if_only less rc ra) round serial entered at starts kept shown private phased suits read has = stmt_has ra round serial entered at starts kept shown private phased suits read has.1
    stmt_has {scope} (if_else {next = next} {next' = middle} {a = a} {b = b} less rc closed ra rb) round serial entered at starts kept shown private phased suits read has = (
      stmt_has ra round serial entered at starts.0 (λ y q. (or_parts (assigns y a) (assigns y b) (kept y q)).0) shown.0 private.0 phased.0 suits.0 read.0 has.1,
      stmt_has rb round serial entered (place_later ds round.box scope next middle (rises ra) at) starts.1 (λ y q. (or_parts (assigns y a) (assigns y b) (kept y q)).1) shown.1 private.1 phased.1 suits.1 read.1 has.2,
    )
    stmt_has {scope} (for_loop {next = next} {name = name} {start = start} {test = test} {step = step} {body = body} less free rs rt ru r) round serial entered at starts kept (inner, into, shown) private phased suits read has =
        let h : Loop = record { variable = next; start = start; test = test; step = step } in
        let there = body_there ds round inner h body into (record { read = read.0; each = read.1; loop = has.0; numbers = has.1; is = has.2; stays = has.3 }) in
        let box : inside round.box next into.numbers ≡ inner.box = ap (λ (m : Nesting). m.box) (sym into.now) in
        stmt_has r inner (serial ++ (h ∷ []))
        (entered_join no_loops round inner serial (h ∷ []) entered (one_entered round inner next start test step body into read.0))
        (subst (λ b. IsPlace ds b ((name, AVariable next 0) ∷ scope) (suc next)) box (place_inside ds round.box scope name next into.numbers at))
        starts (subst (λ b. Keeps b body) box (keeps_inside round.box next into.numbers body (λ y q. (or_parts (stepped step == y) (assigns y body) (kept y q)).1) has.2.kept)) shown private phased suits there.read there.stays
    stmt_has (block less items) round serial entered at starts kept shown private phased suits read has = items_have items round serial entered at starts kept shown private phased suits read has
    stmt_has (print less f r fill) round serial entered at starts kept shown private phased suits read has = tt

    items_have : {scope : Scope} {o next next' : ℕ} {ts : List Token} {items : Items} → ReadsItems scope o next ts items next' → (round : Nesting) (serial : List Loop) → AreEntered no_loops serial round
        → IsPlace ds round.box scope next → AllNameOthers items → AllKeep round.box items → ItemsShown text (sinks_in P) round items → ItemsKeepRoles text R serial items → ItemsHaveBy text (PhasesBy R (phases_in P)) serial items → ItemsHaveBy text (SuitBy R P) serial items → ItemsAreRead round.box items → Have (StaysInside ds) round.box items
        → ItemsHaveBy text Q serial items
    items_have no_more round serial entered at starts kept shown private phased suits read has = tt
    items_have (line {n = n} r) round serial entered at starts kept shown private phased suits read has =
        (line_has r round serial n entered at starts kept shown.0 private.0 phased.0 suits.0 read has, items_have r round serial entered at starts kept shown.1 private.1 phased.1 suits.1 read has)
    items_have {scope} (empty_local {next = next} {name = name} free r) round serial entered at starts kept shown private phased suits read has =
        items_have r round serial entered (place_behind ds round.box scope name next at) starts.1 kept shown private phased suits read has.1
    items_have {scope} (first_local {next = next} {name = name} free e r) round serial entered at starts kept shown private phased suits read has =
        items_have r round serial entered (place_behind ds round.box scope name next at) starts.1 kept shown private phased suits read has.1
    items_have {scope} (statement {next = next} {next' = middle} {s = a} {items = items} ra r) round serial entered at starts kept shown private phased suits read has = (
      stmt_has ra round serial entered at starts.0 (λ y q. (or_parts (assigns y a) (assigns_among y items) (kept y q)).0) shown.0 private.0 phased.0 suits.0 read.0 has.0,
      items_have r round serial entered (place_later ds round.box scope next middle (rises ra) at) starts.1 (λ y q. (or_parts (assigns y a) (assigns_among y items) (kept y q)).1) shown.1 private.1 phased.1 suits.1 read.1 has.1,
    )

-- ---- a kernel

-- what follows so for each of its parallel loops
pub each_has : (Q : AskedByLine) (text : List ℕ) (k : Kernel) (R : LineData) (P : LinesInside)
    → ((line : ℕ) (serial : List Loop) (n : ℕ) (s : Stmt) → IsAccepted k.variables R P line serial n s → Q line serial n s)
    → IsTreeOf text k → IsInRange k → IsDefinite (privates_by R) k → ItemsKeepRoles text R [] k.body
    → ItemsHaveBy text (PhasesBy R (phases_in P)) [] k.body → ItemsHaveBy text (SuitBy R P) [] k.body → AreShownLoops text (sinks_in P) k
    → ItemsHaveBy text Q [] k.body
each_has Q text k R P each reads in_range definite private phased suits shown =
    let ds = k.variables in
    let read = (kept_lines_are_read text k reads).reads in
    let left = some_there (definite_items (privates_by R) [] k.body (known_at_start ds)) definite in
    let plain = more_known.items (privates_by R) no_privates [] [] k.body (known_at_start ds) left.0 (known_at_start ds) (λ line x h. absurd (cc h)) (λ x h. h) (λ x h. h) left.1 in
    let below = decls_below (length ds) read.declared (omega arith) tt in
    items_have text ds (decls_short read.declared tt) R P Q each read.items no_loops [] refl
    (record { visible = below; counters = λ y c. absurd cc; room = omega arith })
    (all_start read.items (known_at_start ds) plain.known below (λ y e. ltb-true y (length ds) e) plain.is) (λ y c. absurd (cc c)) shown private phased suits
    (items_read [] read.items (decls_small read.declared tt) (λ y c. absurd cc)) in_range

pub accepted_loops_share : AcceptedLoopsShare
accepted_loops_share text k R P = each_has (SharesBy k.variables R P) text k R P (shares k.variables R P)
