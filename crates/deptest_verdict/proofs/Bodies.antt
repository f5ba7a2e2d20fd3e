-- A refused body, and the loops round it.
use Rattle.std.specs.Prelude.{ℕ, zero, suc, ◌≡◌, ◌-◌, ◌<◌, List, [], ◌∷◌, length, map, slice_get, Option, Some, None, MatchOption, IfSome}
use Rattle.std.proofs.Common.{inl, inr, refl, sym, ap, ◌∙◌, subst, arith}
use Rattle.std.proofs.lemmas.Option.{same_Some}
use Rattle.semantics.specs.Tree.{Stmt, Declaration}
use Rattle.semantics.specs.Loops.Nest.{Loop, as_loop}
use Rattle.semantics.specs.Loops.Order.{Distance}
use Rattle.ktree.specs.declared.place.Place.{Place}
use Rattle.ktree.specs.declared.refusal.Refusal.{Refusal}
use Rattle.ktree.specs.declared.refusal.Refusal.TheVariants as refusals
use Rattle.ktree.specs.declared.refusal.NotShown as not_shown
use Rattle.pairtest_counter.specs.Levels.{Nesting}
use Rattle.pairtest.specs.declared.access.Access.{Access}
use Rattle.pairtest.specs.declared.access.Nest.{Nest}
use Rattle.pairtest_access.specs.declared.told.Touched.{Touched}
use Rattle.pairtest_access.specs.Sites.{Site, Sites, IsInside}
use Rattle.pairtest_access.specs.Found.{AreMet, IsTold, inner_loops}
use Rattle.deptest_verdict.specs.declared.pairs.Pair.{Pair}
use Rattle.deptest_verdict.specs.Pairs.{AreShown, IsFirstPair, AreNamed}
use Rattle.deptest_verdict.specs.Refused.{AreTested, IsFirstOf, IsVerdict, IsTooLarge, BodyRefused, NestRefused}
use Rattle.deptest_verdict.specs.Telling.{HasSite, IsTouchedBy, IsPairTold, IsPairVerdict, PairRefused, OrMemory}
use Rattle.deptest_verdict.proofs.Same.{sites_are_unique}

-- ---- a body

-- what a body is tested with
pub record Tested (now : Nesting) (outer : ℕ) (serial : List ℕ) (body : Stmt) (found : List Access) (nest : Nest) : Type 0 where
  pub sites : List Site
  pub are : Sites now body sites
  pub finds : AreMet (length now.levels) sites found
  pub counts : nest.serial.items ≡ serial
  pub loops : nest.loops.items ≡ map (λ v. v.most) (inner_loops outer now.levels)

pub tested : (now : Nesting) (outer : ℕ) (serial : List ℕ) (body : Stmt) (ss : List Site) (found xs : List Access) (nest : Nest) → Sites now body ss → AreMet (length now.levels) ss found
    → xs ≡ found → nest.serial.items ≡ serial → nest.loops.items ≡ map (λ v. v.most) (inner_loops outer now.levels) → Tested now outer serial body xs nest
tested now outer serial body ss found xs nest are finds same p q = record { sites = ss; are = are; finds = subst (AreMet (length now.levels) ss) (sym same) finds; counts = p; loops = q }

are_tested : (now : Nesting) (outer : ℕ) (serial : List ℕ) (body : Stmt) (found : List Access) (nest : Nest) (t : Tested now outer serial body found nest) → AreTested now outer serial body t.sites found nest
are_tested now outer serial body found nest t = record { are = t.are; finds = t.finds; counts = t.counts; loops = t.loops }

-- an access that was found is one of the body
site_of : (outer : ℕ) (ss : List Site) (fs : List Access) (i : ℕ) (f : Access) → AreMet outer ss fs → slice_get fs i ≡ Some f → (s : Site) × (slice_get ss i ≡ Some s)
site_of outer [] [] i f are e = absurd (cc e)
site_of outer [] (g ∷ fs) i f are e = absurd are
site_of outer (s ∷ ss) [] i f are e = absurd are
site_of outer (s ∷ ss) (g ∷ fs) zero f are e = (s, refl)
site_of outer (s ∷ ss) (g ∷ fs) (suc i) f are e = site_of outer ss fs i f are.1 e

pub has_site : (now then : Nesting) (outer : ℕ) (serial : List ℕ) (body : Stmt) (found : List Access) (nest : Nest) (i : ℕ) (f : Access) → then ≡ now → Tested now outer serial body found nest
    → slice_get found i ≡ Some f → HasSite then body i
has_site now then outer serial body found nest i f same t e =
    let s = site_of (length now.levels) t.sites found i f t.finds e in
    subst (λ (n : Nesting). HasSite n body i) (sym same) (t.sites, s.0, t.are, s.1)

-- what an access touches, by the sites of the test
told_by : (now : Nesting) (body : Stmt) (ss : List Site) (i : ℕ) (t : Touched) → Sites now body ss → IsTouchedBy now body i t → IsTold (length now.levels) (slice_get ss i) (Some t)
told_by now body ss i t are h = subst (λ (ts : List Site). IsTold (length now.levels) (slice_get ts i) (Some t)) (sites_are_unique now body h.sites ss h.are are) h.told

-- the pair that is told is the first that is not shown
abbrev first_of : (ds : List Declaration) (now : Nesting) (outer : ℕ) (serial : List ℕ) (sinks : List Distance) (body : Stmt) (found : List Access) (nest : Nest) (pair : Pair) (a : not_shown.NotShown)
    → Tested now outer serial body found nest → IsFirstPair nest sinks found pair.first pair.second → AreNamed found pair → IsPairTold ds now body pair a → IsFirstOf ds now outer serial sinks body a
first_of ds now outer serial sinks body found nest pair a t is named p = record {
  sites = t.sites;
  found = found;
  nest = nest;
  tested = are_tested now outer serial body found nest t;
  first = pair.first;
  second = pair.second;
  is = is;
  one = named.one;
  other = named.other;
  one_is = named.one_is;
  other_is = named.other_is;
  array = λ d e. p.named.array d (ap (λ (x : _). slice_get ds x.0) named.array ∙ e);
  one_place = p.named.one_place ∙ named.one_place;
  other_place = p.named.other_place ∙ named.other_place;
  one_touched = p.one_touched;
  other_touched = p.other_touched;
  one_touches = told_by now body t.sites pair.first p.one_touched t.are p.one_touches;
  other_touches = told_by now body t.sites pair.second p.other_touched t.are p.other_touches;
}

verdict_of : (ds : List Declaration) (now : Nesting) (outer : ℕ) (serial : List ℕ) (sinks : List Distance) (body : Stmt) (found : List Access) (nest : Nest) (pair : Pair) (r : Refusal) → Tested now outer serial body found nest
    → IsFirstPair nest sinks found pair.first pair.second → AreNamed found pair → IsPairVerdict ds now outer sinks body pair r → IsVerdict ds now outer serial sinks body r
verdict_of ds now outer serial sinks body found nest pair r t is named (inl (c, no_sink, e, p, at, entered, first)) =
    subst (IsVerdict ds now outer serial sinks body) (sym e) (no_sink, first_of ds now outer serial sinks body found nest pair c.accesses t is named p, at, entered, first)
verdict_of ds now outer serial sinks body found nest pair r t is named (inr (a, e, p, never)) =
    subst (IsVerdict ds now outer serial sinks body) (sym e) (first_of ds now outer serial sinks body found nest pair a t is named p, never)

-- the answer of the search of pairs
pub the_first : (nest : Nest) (sinks : List Distance) (xs : List Access) (o : Option Pair) (pair : Pair) → MatchOption o (AreShown nest sinks xs) (λ p. IsFirstPair nest sinks xs p.first p.second) → o ≡ Some pair
    → IsFirstPair nest sinks xs pair.first pair.second
the_first nest sinks xs None pair h e = absurd (cc e)
the_first nest sinks xs (Some p) pair h e = subst (λ (q : Pair). IsFirstPair nest sinks xs q.first q.second) (same_Some p pair e) h

pub the_named : (xs : List Access) (o : Option Pair) (pair : Pair) → IfSome o (AreNamed xs) → o ≡ Some pair → AreNamed xs pair
the_named xs None pair h e = absurd (cc e)
the_named xs (Some p) pair h e = subst (AreNamed xs) (same_Some p pair e) h

pub pair_refused : (ds : List Declaration) (now then : Nesting) (outer : ℕ) (serial : List ℕ) (sinks : List Distance) (body : Stmt) (found : List Access) (nest : Nest) (pair : Pair) (r : Refusal) → then ≡ now
    → Tested now outer serial body found nest → IsFirstPair nest sinks found pair.first pair.second → AreNamed found pair → OrMemory (PairRefused ds then outer sinks body pair) r
    → OrMemory (BodyRefused ds now outer serial sinks body) r
pair_refused ds now then outer serial sinks body found nest pair r same t is named h = go (subst (λ (n : Nesting). OrMemory (PairRefused ds n outer sinks body pair) r) same h)
  where
    go : OrMemory (PairRefused ds now outer sinks body pair) r → OrMemory (BodyRefused ds now outer serial sinks body) r
    go (inl m) = inl m
    go (inr (inl v)) = inr (inl (verdict_of ds now outer serial sinks body found nest pair r t is named v))
    go (inr (inr f)) = inr (inr (inr f))

pub pair_too_large : (ds : List Declaration) (now : Nesting) (outer : ℕ) (serial : List ℕ) (sinks : List Distance) (body : Stmt) (found : List Access) (nest : Nest) (place : Place) (r : Refusal)
    → Tested now outer serial body found nest → IsTooLarge nest sinks found place → r ≡ refusals.Limit place → OrMemory (BodyRefused ds now outer serial sinks body) r
pair_too_large ds now outer serial sinks body found nest place r t large e = inr (inr (inl (t.sites, found, nest, place, are_tested now outer serial body found nest t, large, e)))

-- ---- a nest

pub nest_inner : (ds : List Declaration) (now inner : Nesting) (outer : ℕ) (serial : List ℕ) (sinks : List Distance) (n : ℕ) (s : Stmt) (h : Loop) (body : Stmt) (r : Refusal) → 0 < n → as_loop s ≡ Some (h, body)
    → IsInside now h.variable h.start h.test h.step body inner → OrMemory (NestRefused ds inner outer serial sinks (n - 1) body) r → OrMemory (NestRefused ds now outer serial sinks n s) r
nest_inner ds now inner outer serial sinks zero s h body r l e i k = absurd (omega (arith, l))
nest_inner ds now inner outer serial sinks (suc n) s h body r l e i k = go (subst (λ (m : ℕ). OrMemory (NestRefused ds inner outer serial sinks m body) r) (one_less n) k)
  where
    one_less : (m : ℕ) → suc m - 1 ≡ m
    one_less m = omega arith

    go : OrMemory (NestRefused ds inner outer serial sinks n body) r → OrMemory (NestRefused ds now outer serial sinks (suc n) s) r
    go (inl m) = inl m
    go (inr k) = inr (inr (h, body, e, inner, i, k))
