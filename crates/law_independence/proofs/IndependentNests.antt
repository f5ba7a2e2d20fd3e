-- Nests whose bodies are shown to be independent, and the loops of the text that they are.
use Rattle.std.specs.Prelude.{ℕ, zero, suc, Bool, true, false, ◌≡◌, List, [], ◌∷◌, length, map, Option, Some, None, IsSome, option_and_then, pos}
use Rattle.std.proofs.Common.{refl, sym, ap, ◌∙◌, subst, cond}
use Rattle.std.proofs.lemmas.Option.{none-some, same_Some}
use Rattle.semantics.specs.Tree.{Stmt, Assign, Update, If, IfElse, For, Block, Print, Items, no_items, mark, local, stmt, Declaration}
use Rattle.semantics.specs.Meaning.Value.{map_option}
use Rattle.semantics.specs.Loops.Nest.{Loop, as_loop, only_loop, holds_none, nest_of, iterations}
use Rattle.semantics.specs.Loops.Access.{Conflict}
use Rattle.semantics.specs.Loops.Order.{Distance}
use Rattle.affine.specs.declared.interval.Interval.{Interval}
use Rattle.affine.specs.declared.interval.Side.{Side}
use Rattle.nest_loop.specs.declared.head.Canonical.{Canonical}
use Rattle.nest_loop.specs.Loops.{IsLoop, inside}
use Rattle.nest_loop.specs.Turn.{AtTurn}
use Rattle.nest_loop.proofs.Laws.{loop_is_unique}
use Rattle.pairtest_counter.specs.Levels.{Nesting, values_at}
use Rattle.nest.specs.Nests.{Has, Have, StaysInside}
use Rattle.pairtest_access.specs.Sites.{IsInside}
use Rattle.pairtest_access.specs.Found.{inner_loops}
use Rattle.deptest_verdict.specs.Shown.{IsShownBody, IsShownNest, no_loops}
use Rattle.law_turns.specs.Turns.{AreEntered}
use Rattle.law_turns.proofs.Laws.{entered_join, entered_are_levels, outside_is_a_turn, iterations_are_turns}
use Rattle.law_independence.specs.Inside.{IsRead, LoopsAreRead, ItemsAreRead}
use Rattle.law_independence.specs.IndependenceLaws.{ShownLoopsAreIndependent}
use Rattle.law_independence.proofs.Links.{one_entered}
use Rattle.law_independence.proofs.Independent.{shown_bodies_are_independent}

-- what is known of a loop and its body, inside those of a box
pub record IsLoopThere (ds : List Declaration) (box : List Side) (h : Loop) (body : Stmt) : Type 0 where
  pub read : IsRead box h
  pub each : (l : Canonical) (i : Interval) → IsLoop box h.variable h.start h.test h.step body l i → LoopsAreRead (inside box h.variable i) body
  pub loop : Canonical
  pub numbers : Interval
  pub is : IsLoop box h.variable h.start h.test h.step body loop numbers
  pub stays : Has (StaysInside ds) (inside box h.variable numbers) body

-- an option that is kept where a test holds
pub some_alone : {A : Type 0} (b : Bool) (o : Option A) (x : A) → cond b o None ≡ Some x → o ≡ Some x
some_alone true o x e = e
some_alone false o x e = absurd (none-some x e)

module _ (ds : List Declaration) (box : List Side) (h : Loop) (body : Stmt) where
  mutual
    pub loop_there : (s : Stmt) → as_loop s ≡ Some (h, body) → LoopsAreRead box s → Has (StaysInside ds) box s → IsLoopThere ds box h body
    loop_there (Assign x is e) same read has = absurd (none-some (h, body) same)
    loop_there (Update x is op e) same read has = absurd (none-some (h, body) same)
    loop_there (If c a) same read has = absurd (none-some (h, body) same)
    loop_there (IfElse c a b) same read has = absurd (none-some (h, body) same)
    loop_there (For x name start test step inner) same read has =
        subst (λ (p : Loop × Stmt). IsLoopThere ds box p.0 p.1) (same_Some (record { variable = x; start = start; test = test; step = step }, inner) (h, body) same)
        (record { read = read.0; each = read.1; loop = has.0; numbers = has.1; is = has.2; stays = has.3 })
    loop_there (Block items) same read has = only_there items same read has
    loop_there (Print parts) same read has = absurd (none-some (h, body) same)

    only_there : (items : Items) → only_loop items ≡ Some (h, body) → ItemsAreRead box items → Have (StaysInside ds) box items → IsLoopThere ds box h body
    only_there no_items same read has = absurd (none-some (h, body) same)
    only_there (mark line rest) same read has = absurd (none-some (h, body) same)
    only_there (local x name start rest) same read has = absurd (none-some (h, body) same)
    only_there (stmt s rest) same read has = loop_there s (some_alone (holds_none rest) (as_loop s) (h, body) same) read.0 has.0

-- a body inside a loop that was entered
pub record IsBodyThere (ds : List Declaration) (inner : Nesting) (body : Stmt) : Type 0 where
  pub read : LoopsAreRead inner.box body
  pub stays : Has (StaysInside ds) inner.box body

pub body_there : (ds : List Declaration) (now inner : Nesting) (h : Loop) (body : Stmt) → IsInside now h.variable h.start h.test h.step body inner → IsLoopThere ds now.box h body → IsBodyThere ds inner body
body_there ds now inner h body into there =
    let same = (loop_is_unique now.box h.variable h.start h.test h.step body there.loop into.level.canonical there.numbers into.numbers there.is into.is).1 in
    let box : inside now.box h.variable into.numbers ≡ inner.box = ap (λ (m : Nesting). m.box) (sym into.now) in
    record {
      read = subst (λ b. LoopsAreRead b body) box (there.each into.level.canonical into.numbers into.is);
      stays = subst (λ b. Has (StaysInside ds) b body) box (subst (λ (j : Interval). Has (StaysInside ds) (inside now.box h.variable j) body) same there.stays);
    }

-- a nest of the text, its loops entered, and each pair of accesses shown
pub record IsNestThere (ds : List Declaration) (now : Nesting) (outer : ℕ) (serial : List ℕ) (sinks : List Distance) (n : ℕ) (s : Stmt) : Type 0 where
  pub loops : List Loop
  pub body : Stmt
  pub inner : Nesting
  pub is : nest_of n s ≡ Some (loops, body)
  pub entered : AreEntered now loops inner
  pub shown : IsShownBody inner outer serial sinks body
  pub there : IsBodyThere ds inner body

-- a nest inside one loop more
pub longer : (n : ℕ) (s : Stmt) (h : Loop) (b : Stmt) (ls : List Loop) (c : Stmt) → as_loop s ≡ Some (h, b) → nest_of n b ≡ Some (ls, c) → nest_of (suc n) s ≡ Some (h ∷ ls, c)
longer n s h b ls c e f =
    ap (λ o. option_and_then (λ found. map_option (λ inner. (found.0 ∷ inner.0, inner.1)) (nest_of n found.1)) o) e
    ∙ ap (λ o. map_option (λ inner. (h ∷ inner.0, inner.1)) o) f

pub nest_there : (n : ℕ) (ds : List Declaration) (now : Nesting) (outer : ℕ) (serial : List ℕ) (sinks : List Distance) (s : Stmt) → IsShownNest now outer serial sinks n s → IsBodyThere ds now s
    → IsNestThere ds now outer serial sinks n s
nest_there zero ds now outer serial sinks s shown there = record { loops = []; body = s; inner = now; is = refl; entered = refl; shown = shown; there = there }
nest_there (suc n) ds now outer serial sinks s (h, body, is, inner, into, shown) there =
    let loop = loop_there ds now.box h body s is there.read there.stays in
    let rest = nest_there n ds inner outer serial sinks body shown (body_there ds now inner h body into loop) in
    record {
      loops = h ∷ rest.loops;
      body = rest.body;
      inner = rest.inner;
      is = longer n s h body rest.loops rest.body is rest.is;
      entered = entered_join now inner rest.inner (h ∷ []) rest.loops (one_entered now inner h.variable h.start h.test h.step body into loop.read) rest.entered;
      shown = rest.shown;
      there = rest.there;
    }

-- the nest at a turn of the serial loops
pub shown_loops_are_independent : ShownLoopsAreIndependent
shown_loops_are_independent ds serial round n s short entered read stays shown =
    let nest = nest_there n ds round (length round.levels) (map (λ v. v.most) (inner_loops 0 round.levels)) [] s shown (record { read = read; stays = stays }) in (
      subst IsSome (sym nest.is) refl,
      λ loop is outer us u v turn are in_u in_v.
          let same : (nest.loops, nest.body) ≡ (loop.loops, loop.body) = same_Some (nest.loops, nest.body) (loop.loops, loop.body) (sym nest.is ∙ is) in
          let it = iterations_are_turns no_loops round serial (λ j. pos 0) outer turn.turns turn.turn entered (outside_is_a_turn (λ j. pos 0) outer) turn.are turn.among in
          subst (λ (p : List Loop × Stmt). iterations p.0 outer ≡ Some us → ¬ (Conflict p.0 p.1 outer u v)) same
          (λ are'. shown_bodies_are_independent ds round nest.inner nest.loops nest.body it.0 outer us u v
          (record { short = short; levels = entered_are_levels no_loops round serial entered tt; entered = nest.entered; read = nest.there.read; stays = nest.there.stays }) nest.shown
          (it.1.whole tt) (subst (AtTurn round.box (values_at round.levels it.0)) (sym turn.is) it.1.at) are' in_u in_v) are,
    )
