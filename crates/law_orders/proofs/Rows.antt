-- The rows.
use Rattle.std.specs.Prelude.{ℕ, true, false, ◌≡◌, ◌≢◌, ◌%◌, ◌⊎◌, nat_eq, List, [], ◌∷◌, Option, Some, None, IsSome}
use Rattle.std.specs.List.{AllByRecursion as Each}
use Rattle.std.proofs.Common.{refl, sym, ap, ◌∙◌, subst, inl, inr}
use Rattle.std.proofs.lemmas.Bool.{true≢false, or_cases}
use Rattle.std.proofs.lemmas.Option.{same_Some}
use lib.Pointwise.{pointwise}
use Rattle.semantics.specs.Meaning.Runs.{greatest_trip_count}
use Rattle.semantics.specs.Meaning.Agrees.{is_among, visible_behind}
use Rattle.semantics.specs.Loops.Arrangement.{picked}
use Rattle.semantics.specs.Loops.Nest.{Vector, at_vector, iterations}
use Rattle.semantics.specs.Loops.Access.{Access, Mode, Element, Reaches, Touches, accesses}
use Rattle.semantics.specs.Loops.Order.{among, sinks_of, Before, sink, through, Earlier, Respects}
use Rattle.law_roles.specs.Following.{variables_of}
use Rattle.law_roles.specs.Sharing.{IsScalar}
use Rattle.law_roles.proofs.Chunked.{each_at}
use Rattle.law_waves.specs.Rising.{is_earlier}
use Rattle.law_waves.proofs.Rising.{respect, same_vector}
use Rattle.law_waves.proofs.Iterating.{all_pairs}
use Rattle.law_waves.proofs.Rows.{only}
use Rattle.law_commute.proofs.Lists.{Among, contains_among}
use Rattle.law_orders.specs.Orders.{IsOrdered}
use Rattle.law_orders.specs.Scans.{IsCarried}
use Rattle.law_orders.specs.Rows.{skip_body, skipping, skip_sinks, skip_space, skip_start, sums, sum_space, sum_start, OrderRows}
use Rattle.law_orders.proofs.Mixed.{Stands, stands_in}

-- ---- the nest

abbrev parity : Option (List ℕ) → ℕ
parity None = 0
parity (Some []) = 0
parity (Some (i ∷ is)) = i % 2

-- an iteration touches elements of its own parity
abbrev KeepsParity : Vector → Type 0
KeepsParity u = (element : Element) (mode : Mode) → Touches skipping.loops skip_body skip_start u element mode → parity (Some element.indexes) ≡ parity (Some u)

abbrev ReachesParity : Vector → Access → Type 0
ReachesParity u a = (element : Element) → Reaches a (at_vector skipping.loops u skip_start) element → parity (Some element.indexes) ≡ parity (Some u)

keeps_parity : (u : Vector) → Each (ReachesParity u) (accesses [] skip_body) → KeepsParity u
keeps_parity u h element mode t = each_at (ReachesParity u) (accesses [] skip_body) h t.access t.there element t.reaches

all_keep_parity : Each KeepsParity skip_space
all_keep_parity = (
  keeps_parity (2 ∷ []) ((λ el r. sym (ap parity r.indexes)), ((λ el r. sym (ap parity r.indexes)), tt)),
  (
    keeps_parity (3 ∷ []) ((λ el r. sym (ap parity r.indexes)), ((λ el r. sym (ap parity r.indexes)), tt)),
    (keeps_parity (4 ∷ []) ((λ el r. sym (ap parity r.indexes)), ((λ el r. sym (ap parity r.indexes)), tt)), tt),
  ),
)

abbrev Covered : Vector → Vector → Type 0
Covered u v = u ≢ v → parity (Some u) ≡ parity (Some v) → Before skip_space skip_sinks u v ⊎ Before skip_space skip_sinks v u

two_four : Before skip_space skip_sinks (2 ∷ []) (4 ∷ [])
two_four = sink (refl, refl)

never : (u : Vector) → Covered u u
never u h e = absurd (h refl)

all_covered : Each (λ u. Each (Covered u) skip_space) skip_space
all_covered = (
  (never (2 ∷ []), ((λ h e. absurd cc), ((λ h e. inl two_four), tt))),
  (
    ((λ h e. absurd cc), (never (3 ∷ []), ((λ h e. absurd cc), tt))),
    (((λ h e. inr two_four), ((λ h e. absurd cc), (never (4 ∷ []), tt))), tt),
  ),
)

skip_ordered : IsOrdered (1 ∷ []) skipping skip_sinks skip_start skip_space
skip_ordered = record {
  no_reductions = refl;
  keeps = record { names = refl; steady = ((refl, ((refl, tt), tt)), (((refl, (refl, tt)), (tt, tt)), tt)) };
  first = refl;
  declares_none = λ x h. subst (λ y. visible_behind skip_body y ≡ true) (only x 1 h) refl;
  not_of_loops = λ x h. subst (λ y. is_among (variables_of skipping.loops) y ≡ false) (only x 1 h) refl;
  scalars = λ x h. subst (IsScalar skip_start) (only x 1 h) (inr (record { outside = refl; there = refl; alone = λ i is. refl }));
  different = all_pairs (λ u v. u ≢ v) skip_space ((λ h. absurd cc, (λ h. absurd cc, tt)), ((λ h. absurd cc, tt), (tt, tt)));
  turning = λ u h access there. each_at (λ (a : Access). IsSome (iterations a.inner (at_vector skipping.loops u skip_start))) (accesses [] skip_body) (refl, (refl, tt)) access there;
  in_order = respect skip_space skip_sinks refl (all_pairs (λ u v. is_earlier u v ≡ true) skip_space ((refl, (refl, tt)), ((refl, tt), (tt, tt))));
  covered = λ u v h k c.
      each_at (Covered u) skip_space (each_at (λ u. Each (Covered u) skip_space) skip_space all_covered u h) v k c.differ
      (sym (each_at KeepsParity skip_space all_keep_parity u h c.element c.first c.by_first) ∙ each_at KeepsParity skip_space all_keep_parity v k c.element c.second c.by_second);
}

-- ---- its orders

stands : (us : List Vector) (v : Vector) → among us v ≡ true → Among us v
stands [] v h = absurd (true≢false (sym h))
stands (u ∷ us) v h = at (or_cases (pointwise nat_eq v u) (among us v) h) (λ k. stands us v k)
  where
    at : (pointwise nat_eq v u ≡ true) ⊎ (among us v ≡ true) → (among us v ≡ true → Among us v) → Among (u ∷ us) v
    at (inl e) rest = inl (same_vector v u e)
    at (inr e) rest = inr (rest e)

-- the first comes before the last, and no other before another
abbrev IsLast : Vector → Type 0
IsLast v = (u : Vector) → among (sinks_of skip_space skip_sinks v) u ≡ true → ((2 ∷ []) ≡ u) × ((4 ∷ []) ≡ v)

all_last : Each IsLast skip_space
all_last = ((λ u k. absurd (true≢false (sym k))), ((λ u k. absurd (true≢false (sym k))), ((λ u k. (one u (stands ((2 ∷ []) ∷ []) u k), refl)), tt)))
  where
    one : (u : Vector) → Among {A = Vector} ((2 ∷ []) ∷ []) u → (2 ∷ []) ≡ u
    one u (inl e) = e
    one u (inr e) = absurd e

only_one : {u v : Vector} → Before skip_space skip_sinks u v → ((2 ∷ []) ≡ u) × ((4 ∷ []) ≡ v)
only_one (sink {u = u} {v = v} s) = each_at IsLast skip_space all_last v (contains_among skip_space v (stands skip_space v s.0)) u s.1
only_one (through {u = u} {v = v} {w = w} h k) = ((only_one h).0, (only_one k).1)

skip_respects : Respects skip_space skip_sinks (picked skip_space (1 ∷ 0 ∷ 2 ∷ []))
skip_respects u v h =
    let both = only_one h in
    let order = picked skip_space (1 ∷ 0 ∷ 2 ∷ []) in
    subst (λ w. Earlier order u w) both.1 (subst (λ w. Earlier order w (4 ∷ [])) both.0 ((3 ∷ []) ∷ [], [], [], refl))

skip_breaks : Respects skip_space skip_sinks (picked skip_space (2 ∷ 0 ∷ 1 ∷ [])) → ⊥
skip_breaks r =
    let e = r (2 ∷ []) (4 ∷ []) two_four in
    at (subst (λ (ws : List Vector). Stands ws (2 ∷ []) (4 ∷ [])) (sym e.3) (stands_in e.0 e.1 e.2 (2 ∷ []) (4 ∷ [])))
  where
    other : Among {A = Vector} ((3 ∷ []) ∷ []) (4 ∷ []) → ⊥
    other (inl h) = absurd cc
    other (inr h) = h

    at : Stands {A = Vector} ((4 ∷ []) ∷ ((2 ∷ []) ∷ ((3 ∷ []) ∷ []))) (2 ∷ []) (4 ∷ []) → ⊥
    at (inl h) = let e = h.0 in absurd cc
    at (inr (inl h)) = other h.1
    at (inr (inr (inl h))) = h.1
    at (inr (inr (inr h))) = h

-- ---- the scan

-- an iteration touches its own elements
abbrev KeepsOwn : Vector → Type 0
KeepsOwn u = (element : Element) (mode : Mode) → Touches sums.loops sums.body sum_start u element mode → u ≡ element.indexes

abbrev ReachesOwn : Vector → Access → Type 0
ReachesOwn u a = (element : Element) → Reaches a (at_vector sums.loops u sum_start) element → u ≡ element.indexes

keeps_own : (u : Vector) → Each (ReachesOwn u) (accesses [] sums.body) → KeepsOwn u
keeps_own u h element mode t = each_at (ReachesOwn u) (accesses [] sums.body) h t.access t.there element t.reaches

all_keep_own : Each KeepsOwn sum_space
all_keep_own = (
  keeps_own (0 ∷ []) ((λ el r. same_Some (0 ∷ []) el.indexes r.indexes), ((λ el r. same_Some (0 ∷ []) el.indexes r.indexes), tt)),
  (
    keeps_own (1 ∷ []) ((λ el r. same_Some (1 ∷ []) el.indexes r.indexes), ((λ el r. same_Some (1 ∷ []) el.indexes r.indexes), tt)),
    (keeps_own (2 ∷ []) ((λ el r. same_Some (2 ∷ []) el.indexes r.indexes), ((λ el r. same_Some (2 ∷ []) el.indexes r.indexes), tt)), tt),
  ),
)

sum_carried : IsCarried 0 [] sums sum_start sum_space
sum_carried = record {
  keeps = record { names = refl; steady = ((refl, (refl, tt)), (((refl, (refl, tt)), tt), tt)) };
  first = refl;
  apart = refl;
  declares_none = λ x h. subst (λ y. visible_behind sums.body y ≡ true) (only x 0 h) refl;
  not_of_loops = λ x h. subst (λ y. is_among (variables_of sums.loops) y ≡ false) (only x 0 h) refl;
  scalars = λ x h. subst (IsScalar sum_start) (only x 0 h) (inr (record { outside = refl; there = refl; alone = λ i is. refl }));
  number = (10, refl);
  different = all_pairs (λ u v. u ≢ v) sum_space ((λ h. absurd cc, (λ h. absurd cc, tt)), ((λ h. absurd cc, tt), (tt, tt)));
  turning = λ u h access there. each_at (λ (a : Access). IsSome (iterations a.inner (at_vector sums.loops u sum_start))) (accesses [] sums.body) (refl, (refl, tt)) access there;
  independent = λ u v h k c. c.differ (each_at KeepsOwn sum_space all_keep_own u h c.element c.first c.by_first ∙ sym (each_at KeepsOwn sum_space all_keep_own v k c.element c.second c.by_second));
}

pub rows : OrderRows
unfolding greatest_trip_count
rows = record {
  space = refl;
  ordered = skip_ordered;
  in_turn = refl;
  respects = skip_respects;
  turned = refl;
  breaks = skip_breaks;
  astray = refl;
  places = refl;
  carried = sum_carried;
  values = refl;
  sequence = refl;
  any = refl;
}
