-- The nest whose body is refused, and what is told of it.
use Rattle.std.specs.Prelude.{ℕ, zero, suc, ◌≡◌, ◌≤◌, ◌^◌, List, [], ◌∷◌, length, map, Option, Some, None, IsSome, option_and_then}
use Rattle.std.proofs.Common.{refl, sym, inl, inr, ap, ◌∙◌, subst}
use Rattle.std.proofs.lemmas.Option.{same_Some}
use Rattle.semantics.specs.Tree.{Stmt, Declaration}
use Rattle.semantics.specs.Meaning.Value.{map_option}
use Rattle.semantics.specs.Loops.Nest.{Loop, as_loop, nest_of}
use Rattle.semantics.specs.Loops.Order.{Distance}
use Rattle.ktree.specs.declared.refusal.Refusal.{Refusal}
use Rattle.ktree.specs.declared.refusal.Refusal.TheVariants as refusals
use Rattle.nest_loop.specs.declared.head.Canonical.{Canonical}
use Rattle.pairtest_counter.specs.Levels.{Nesting}
use Rattle.nest.specs.Nests.{Has, StaysInside}
use Rattle.nest.specs.Perfect.{IsRightNest, AreRectangular, HasProduct}
use Rattle.pairtest_access.specs.Found.{inner_loops}
use Rattle.deptest_verdict.specs.Shown.{no_loops}
use Rattle.deptest_verdict.specs.Refused.{IsVerdict, BodyRefused, NestRefused, LoopRefused}
use Rattle.law_turns.specs.Turns.{AreEntered}
use Rattle.law_turns.proofs.Laws.{entered_join}
use Rattle.law_independence.specs.Inside.{LoopsAreRead, HaveShort}
use Rattle.law_independence.specs.ConflictLaws.{IsToldOf}
use Rattle.law_independence.proofs.Links.{one_entered}
use Rattle.law_independence.proofs.IndependentNests.{IsBodyThere, loop_there, body_there, longer}
use Rattle.law_independence.proofs.Affinity.{none_stuck}
use Rattle.law_independence.proofs.Conflicts.{verdict_is_conflict, verdict_is_not_found}

-- a loop round a nest
abbrev with_loop : Loop → List Loop × Stmt → List Loop × Stmt
with_loop h inner = (h ∷ inner.0, inner.1)

-- the nest of a loop and one of n loops in it
abbrev nest_by : ℕ → Option (Loop × Stmt) → Option (List Loop × Stmt)
nest_by n o = option_and_then (λ found. map_option (with_loop found.0) (nest_of n found.1)) o

outermost : (n : ℕ) (o : Option (Loop × Stmt)) → o ≡ None → IsSome (nest_by n o) → ⊥
outermost n None none some = absurd (cc some)
outermost n (Some found) none some = cc none

kept : (h : Loop) (o : Option (List Loop × Stmt)) → IsSome (map_option (with_loop h) o) → IsSome o
kept h None some = absurd (cc some)
kept h (Some a) some = refl

inside_it : (n : ℕ) (o : Option (Loop × Stmt)) (h : Loop) (body : Stmt) → o ≡ Some (h, body) → IsSome (nest_by n o) → IsSome (nest_of n body)
inside_it n o h body is some = kept h (nest_of n body) (subst (λ (p : Option (Loop × Stmt)). IsSome (nest_by n p)) is some)

-- a nest whose loops were entered, and why its body is refused
record IsNestRefused (ds : List Declaration) (r : Refusal) (sinks : List Distance) (now : Nesting) (outer : ℕ) (counts : List ℕ) (n : ℕ) (s : Stmt) : Type 0 where
  loops : List Loop
  body : Stmt
  inner : Nesting
  is : nest_of n s ≡ Some (loops, body)
  entered : AreEntered now loops inner
  there : IsBodyThere ds inner body
  many : length loops ≡ n
  refused : BodyRefused ds inner outer counts sinks body r

module _ (ds : List Declaration) (r : Refusal) (sinks : List Distance) where
  nest_refused : (n : ℕ) (now : Nesting) (outer : ℕ) (counts : List ℕ) (s : Stmt) → IsBodyThere ds now s → IsSome (nest_of n s) → NestRefused ds now outer counts sinks n s r
      → IsNestRefused ds r sinks now outer counts n s
  nest_refused zero now outer counts s there some refused = record { loops = []; body = s; inner = now; is = refl; entered = refl; there = there; many = refl; refused = refused }
  nest_refused (suc n) now outer counts s there some (inl (names, none)) = absurd (outermost n (as_loop s) none some)
  nest_refused (suc n) now outer counts s there some (inr (h, body, is, inner, into, refused)) =
      let loop = loop_there ds now.box h body s is there.read there.stays in
      let rest = nest_refused n inner outer counts body (body_there ds now inner h body into loop) (inside_it n (as_loop s) h body is some) refused in
      record {
        loops = h ∷ rest.loops;
        body = rest.body;
        inner = rest.inner;
        is = longer n s h body rest.loops rest.body is rest.is;
        entered = entered_join now inner rest.inner (h ∷ []) rest.loops (one_entered now inner h.variable h.start h.test h.step body into loop.read) rest.entered;
        there = rest.there;
        many = ap suc rest.many;
        refused = rest.refused;
      }

module _ (ds : List Declaration) (sinks : List Distance) (serial : List Loop) (round : Nesting) (outside : AreEntered no_loops serial round) (n : ℕ) (s : Stmt) (ls : List Canonical) (loops : List Loop) (now : Nesting)
    (body : Stmt) (nest : nest_of n s ≡ Some (loops, body)) (entered : AreEntered round loops now) (rectangular : AreRectangular round.box loops ls) (there : IsBodyThere ds now body) (short : HaveShort ds)
    (most : ℕ) (product : HasProduct round.box loops most) (few : most ≤ 2 ^ 24) (four : length loops ≤ 4) where
  verdict_told : (r : Refusal) → IsVerdict ds now (length round.levels) (map (λ v. v.most) (inner_loops 0 round.levels)) sinks body r → IsToldOf ds sinks r serial n s
  verdict_told (refusals.Conflict c) v =
      let here = subst (λ distances. IsVerdict ds now (length round.levels) (map (λ v. v.most) (inner_loops 0 round.levels)) distances body (refusals.Conflict c)) v.0 v in
      inl (c, v.0, refl, verdict_is_conflict ds c serial loops round now body outside entered ls rectangular there n s nest here)
  verdict_told (refusals.NotShown a) v = inr (inl (a, refl, verdict_is_not_found ds sinks a serial loops round now body outside entered ls rectangular there n s nest short most product few four v))
  verdict_told _ v = absurd v

  body_told : (r : Refusal) → BodyRefused ds now (length round.levels) (map (λ v. v.most) (inner_loops 0 round.levels)) sinks body r → IsToldOf ds sinks r serial n s
  body_told r (inl v) = verdict_told r v
  body_told r (inr (inl (sites, found, counts, place, tested, large, e))) =
      inr (inr (
        place,
        e,
        record {
          loops = loops;
          body = body;
          nest = nest;
          round = round;
          now = now;
          outside = outside;
          entered = entered;
          sites = sites;
          found = found;
          counts = counts;
          tested = tested;
          large = large;
        },
      ))
  body_told r (inr (inr (f, e, stuck))) = absurd (none_stuck ds body now there.read there.stays stuck)

-- a parallel loop of a right nest, inside serial loops
pub loop_is_told : (ds : List Declaration) → HaveShort ds → (r : Refusal) (sinks : List Distance) (serial : List Loop) (round : Nesting) (n : ℕ) (s : Stmt) → n ≤ 4 → AreEntered no_loops serial round → LoopsAreRead round.box s
    → Has (StaysInside ds) round.box s → IsRightNest round.box n s → LoopRefused ds round sinks n s r → IsToldOf ds sinks r serial n s
loop_is_told ds short r sinks serial round n s four outside read has (loops, body, is, right) refused =
    let counts = map (λ v. v.most) (inner_loops 0 round.levels) in
    let nest = nest_refused ds r sinks n round (length round.levels) counts s (record { read = read; stays = has }) (subst IsSome (sym is) refl) refused in
    let same : (loops, body) ≡ (nest.loops, nest.body) = same_Some (loops, body) (nest.loops, nest.body) (sym is ∙ nest.is) in
    let rectangular = subst (λ (p : List Loop × Stmt). AreRectangular round.box p.0 right.0.0) same right.0.1 in
    let product = subst (λ (p : List Loop × Stmt). HasProduct round.box p.0 right.1.0) same right.1.1 in
    body_told ds sinks serial round outside n s right.0.0 nest.loops nest.inner nest.body nest.is nest.entered rectangular nest.there short right.1.0 product right.1.2 (subst (λ k. k ≤ 4) (sym nest.many) four) r nest.refused
