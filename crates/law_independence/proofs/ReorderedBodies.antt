-- The body of a nest, as the grammar reads it, keeps to its own scalars.
use Rattle.std.specs.Prelude.{ℕ, zero, suc, Bool, true, false, ◌≡◌, ◌<◌, ◌==◌, ◌&&◌, ◌||◌, not, List, [], ◌∷◌, Some}
use Rattle.std.proofs.Common.{refl, sym, ap, ◌∙◌, subst, cond, arith}
use Rattle.std.proofs.lemmas.Bool.{or_parts, and_from, not_from_true, not_from_false, true≢false}
use Rattle.std.proofs.lemmas.Option.{none-some, same_Some}
use Rattle.semantics.specs.Tree.{Variable, Stmt, Items, Declaration}
use Rattle.semantics.specs.Source.Token.{Token}
use Rattle.semantics.specs.Source.Scope.{Scope, Entity, AVariable, AConstant}
use Rattle.semantics.specs.Source.Statements.{ReadsStmt, assign, update, if_only, if_else, for_loop, block, print, ReadsItems, no_more, line, empty_local, first_local, statement}
use Rattle.semantics.specs.Meaning.Agrees.{is_among, declared_in, visible_behind}
use Rattle.semantics.specs.Loops.Nest.{Loop, as_loop, only_loop, holds_none}
use Rattle.affine.specs.declared.interval.Interval.{Interval}
use Rattle.affine.specs.declared.interval.Side.{Side}
use Rattle.affine_expr.specs.Forms.{is_counter}
use Rattle.nest_loop.specs.Loops.{inside}
use Rattle.nest_loop.proofs.Visible.{each_weaker}
use Rattle.pairtest_counter.specs.Levels.{Nesting}
use Rattle.nest.specs.Nests.{Has, Have, StaysInside}
use Rattle.deptest_verdict.specs.Shown.{IsShownNest}
use Rattle.law_runs.proofs.Points.{IsBelow}
use Rattle.law_runs.proofs.StatementsRun.{Keeps, AllKeep, keeps_inside}
use Rattle.nest_loop.specs.Canonical.{stepped, assigns, assigns_among}
use Rattle.law_turns.proofs.Laws.{entered_join}
use Rattle.law_independence.specs.Inside.{LoopsAreRead, ItemsAreRead}
use Rattle.law_independence.proofs.Links.{one_entered}
use Rattle.law_independence.proofs.IndependentNests.{some_alone, longer, IsLoopThere, IsBodyThere, body_there, IsNestThere}
use Rattle.law_commute.specs.Targets.{targets, KeepsApart}
use Rattle.law_independence.proofs.Numbering.{undeclared, IsPlace, place_inside}
use Rattle.law_independence.proofs.Starts.{StartsNameOthers, AllNameOthers}
use Rattle.law_independence.proofs.Naming.{IsNamed, stmt_named}
use Rattle.law_independence.proofs.Steadiness.{IsArray, array_below, stmt_steady}
use Rattle.law_independence.proofs.Targeted.{Spares, no_target, loop_visible, nest_targets}

-- a statement of the text at some place of a kernel, inside the loops of a box, whose variables it does not assign
pub record IsStmtRead (ds : List Declaration) (box : List Side) (s : Stmt) : Type 0 where
  pub scope : Scope
  pub order : ℕ
  pub next : ℕ
  pub after : ℕ
  pub tokens : List Token
  pub reads : ReadsStmt scope order next tokens s after
  pub place : IsPlace ds box scope next
  pub starts : StartsNameOthers s
  pub kept : Keeps box s

-- ---- what a body names and assigns

-- it assigns these and what it declares, which are neither arrays nor variables of the loops round it
pub record AreItsOwn (ds : List Declaration) (box : List Side) (body : Stmt) (xs : List Variable) : Type 0 where
  pub all : (y : Variable) → is_among (targets body) y ≡ true → visible_behind body y ≡ true → is_among xs y ≡ true
  pub arrays : (y : Variable) → IsArray ds y → is_among xs y ≡ false
  pub counters : Spares box xs

pub body_keeps : (ds : List Declaration) (box : List Side) (body : Stmt) (xs : List Variable) → IsStmtRead ds box body → Has (StaysInside ds) box body → AreItsOwn ds box body xs → KeepsApart xs body
body_keeps ds box body xs read has its =
    record {
      names = stmt_named (StaysInside ds) read.reads (visible_behind body) box (each_weaker (IsBelow read.next) (IsNamed (visible_behind body)) seen read.scope read.place.visible) (λ y c. below y (read.place.counters y c)) has read.starts;
      steady =
          stmt_steady ds read.reads box fixed
          (record {
            counters = λ y c. and_from (visible_behind body y) (not (is_among xs y)) (below y (read.place.counters y c)) (not_from_false (is_among xs y) (its.counters y c));
            arrays = λ y array.
                let room = read.place.room in
                let less = array_below ds y array in
                and_from (visible_behind body y) (not (is_among xs y)) (below y (omega arith)) (not_from_false (is_among xs y) (its.arrays y array));
            fresh = λ y h. ap (λ b. b && not (is_among xs y)) (not_from_true (is_among (declared_in body) y) h);
            scalars = λ y h. assigned y h (visible_behind body y) refl;
          }) has;
    }
  where
    fixed : Variable → Bool
    fixed y = visible_behind body y && not (is_among xs y)

    assigned : (y : Variable) → is_among (targets body) y ≡ true → (b : Bool) → visible_behind body y ≡ b → (b && not (is_among xs y)) ≡ false
    assigned y h true e = not_from_true (is_among xs y) (its.all y h e)
    assigned y h false e = refl

    below : (y : Variable) → y < read.next → visible_behind body y ≡ true
    below y less = not_from_false (is_among (declared_in body) y) (undeclared read.reads y less)

    seen : (e : Entity) → IsBelow read.next e → IsNamed (visible_behind body) e
    seen (AVariable x n) h = below x h
    seen (AConstant n) h = tt

-- ---- the loops of a nest

-- a loop and its body
record IsLoopRead (ds : List Declaration) (box : List Side) (h : Loop) (body : Stmt) : Type 0 where
  there : IsLoopThere ds box h body
  inner : (i : Interval) → IsStmtRead ds (inside box h.variable i) body

module _ (ds : List Declaration) (box : List Side) (h : Loop) (body : Stmt) where
  mutual
    loop_read : {scope : Scope} {o next next' : ℕ} {ts : List Token} {s : Stmt} → ReadsStmt scope o next ts s next' → IsPlace ds box scope next → StartsNameOthers s → Keeps box s → LoopsAreRead box s → Has (StaysInside ds) box s
        → as_loop s ≡ Some (h, body) → IsLoopRead ds box h body
    loop_read (assign t e) at starts kept read has same = absurd (none-some (h, body) same)
    loop_read (update t u e) at starts kept read has same = absurd (none-some (h, body) same)
    loop_read (if_only less rc ra) at starts kept read has same = absurd (none-some (h, body) same)
    loop_read (if_else less rc closed ra rb) at starts kept read has same = absurd (none-some (h, body) same)
    loop_read {scope} (for_loop {open' = open'} {next = next} {next' = next'} {name = name} {start = start} {test = test} {step = step} {body = inner} {ws = ws} less free rs rt ru r) at starts kept read has same =
        subst (λ (p : Loop × Stmt). IsLoopRead ds box p.0 p.1) (same_Some (record { variable = next; start = start; test = test; step = step }, inner) (h, body) same)
        (record {
          there = record { read = read.0; each = read.1; loop = has.0; numbers = has.1; is = has.2; stays = has.3 };
          inner = λ i. record {
            scope = (name, AVariable next 0) ∷ scope;
            order = suc open';
            next = suc next;
            after = next';
            tokens = ws;
            reads = r;
            place = place_inside ds box scope name next i at;
            starts = starts;
            kept = keeps_inside box next i inner (λ y q. (or_parts (stepped step == y) (assigns y inner) (kept y q)).1) has.2.kept;
          };
        })
    loop_read (block less items) at starts kept read has same = only_read items at starts kept read has same
    loop_read (print less f r fill) at starts kept read has same = absurd (none-some (h, body) same)

    only_read : {scope : Scope} {o next next' : ℕ} {ts : List Token} {items : Items} → ReadsItems scope o next ts items next' → IsPlace ds box scope next → AllNameOthers items → AllKeep box items → ItemsAreRead box items
        → Have (StaysInside ds) box items → only_loop items ≡ Some (h, body) → IsLoopRead ds box h body
    only_read no_more at starts kept read has same = absurd (none-some (h, body) same)
    only_read (line r) at starts kept read has same = absurd (none-some (h, body) same)
    only_read (empty_local free r) at starts kept read has same = absurd (none-some (h, body) same)
    only_read (first_local free e r) at starts kept read has same = absurd (none-some (h, body) same)
    only_read (statement {s = s} {items = rest} ra r) at starts kept read has same =
        loop_read ra at starts.0 (λ y q. (or_parts (assigns y s) (assigns_among y rest) (kept y q)).0) read.0 has.0 (some_alone (holds_none rest) (as_loop s) (h, body) same)

-- a nest with its body, which assigns none of the loops' variables
pub record IsNestRead (ds : List Declaration) (now : Nesting) (outer : ℕ) (serial : List ℕ) (n : ℕ) (s : Stmt) : Type 0 where
  pub nest : IsNestThere ds now outer serial [] n s
  pub inner : IsStmtRead ds nest.inner.box nest.body
  pub outside : (x : Variable) → is_among (targets nest.body) x ≡ true → visible_behind nest.body x ≡ true → visible_behind s x ≡ true

-- what a loop's body assigns of what is visible round the body is visible round the loop
seen_outside : (s : Stmt) (h : Loop) (body : Stmt) (box : List Side) (i : Interval) → as_loop s ≡ Some (h, body) → Spares (inside box h.variable i) (targets body) → (x : Variable) → is_among (targets body) x ≡ true
    → visible_behind body x ≡ true → visible_behind s x ≡ true
seen_outside s h body box i is spares x t v = loop_visible s h body is x ∙ at (h.variable == x) refl
  where
    at : (b : Bool) → (h.variable == x) ≡ b → not (b || is_among (declared_in body) x) ≡ true
    at true e = absurd (true≢false (sym t ∙ spares x (ap (λ b. cond b true (is_counter box x)) e)))
    at false e = v

pub nest_read : (n : ℕ) (ds : List Declaration) (now : Nesting) (outer : ℕ) (serial : List ℕ) (s : Stmt) → IsShownNest now outer serial [] n s → IsBodyThere ds now s → IsStmtRead ds now.box s
    → IsNestRead ds now outer serial n s
nest_read zero ds now outer serial s shown there read =
    record { nest = record { loops = []; body = s; inner = now; is = refl; entered = refl; shown = shown; there = there }; inner = read; outside = λ x t v. v }
nest_read (suc n) ds now outer serial s (h, body, is, inner, into, shown) there read =
    let loop = loop_read ds now.box h body read.reads read.place read.starts read.kept there.read there.stays is in
    let box : inside now.box h.variable into.numbers ≡ inner.box = ap (λ (m : Nesting). m.box) (sym into.now) in
    let rest = nest_read n ds inner outer serial body shown (body_there ds now inner h body into loop.there) (subst (λ b. IsStmtRead ds b body) box (loop.inner into.numbers)) in
    record {
      nest = record {
        loops = h ∷ rest.nest.loops;
        body = rest.nest.body;
        inner = rest.nest.inner;
        is = longer n s h body rest.nest.loops rest.nest.body is rest.nest.is;
        entered = entered_join now inner rest.nest.inner (h ∷ []) rest.nest.loops (one_entered now inner h.variable h.start h.test h.step body into loop.there.read) rest.nest.entered;
        shown = rest.nest.shown;
        there = rest.nest.there;
      };
      inner = rest.inner;
      outside = λ x t v. seen_outside s h body now.box into.numbers is (λ y c. no_target y body ((loop.inner into.numbers).kept y c)) x (ap (λ xs. is_among xs x) (nest_targets n body rest.nest.loops rest.nest.body rest.nest.is) ∙ t) (rest.outside x t v);
    }
