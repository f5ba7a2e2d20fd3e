-- The rows.
use Rattle.std.specs.Prelude.{Bool, true, false, not, ◌≡◌, ◌≢◌, ◌==◌, ◌⊎◌, [], ◌∷◌, Some, None, IsSome}
use Rattle.std.specs.List.{AllByRecursion as Each}
use Rattle.std.proofs.Common.{refl, sym, subst, inl, inr}
use Rattle.std.proofs.lemmas.Bool.{true≢false, eqb-true, or_cases}
use Rattle.semantics.specs.Tree.{Variable}
use Rattle.semantics.specs.Meaning.Runs.{Effect, greatest_trip_count, run}
use Rattle.semantics.specs.Meaning.Agrees.{is_among, visible_behind}
use Rattle.semantics.specs.Loops.Nest.{Vector, at_vector, iterations}
use Rattle.semantics.specs.Loops.Access.{Access, accesses}
use Rattle.semantics.specs.Loops.Order.{Before, sink, through}
use Rattle.law_roles.specs.Sharing.{IsScalar}
use Rattle.law_roles.proofs.Chunked.{each_at}
use Rattle.law_waves.specs.Rising.{is_earlier}
use Rattle.law_waves.specs.Doacross.{IsDoacross, KeepsPrivates}
use Rattle.law_waves.specs.Rows.{chain_body, chain_loop, chain, chain_roles, chain_sinks, chain_space, chain_start, WaveRows}
use Rattle.law_waves.proofs.Rising.{respect}
use Rattle.law_waves.proofs.Iterating.{all_pairs}

pub only : (x y : Variable) → is_among (y ∷ []) x ≡ true → y ≡ x
only x y h = at (or_cases (y == x) false h)
  where
    at : ((y == x) ≡ true) ⊎ (false ≡ true) → y ≡ x
    at (inl e) = eqb-true y x e
    at (inr e) = absurd (true≢false (sym e))

not_false : (b : Bool) → not b ≡ false → b ≡ true
not_false true h = refl
not_false false h = absurd (true≢false h)

keeps : KeepsPrivates chain_roles chain chain_body chain_start
keeps = record {
  no_firsts = refl;
  no_lasts = refl;
  no_conditionals = refl;
  no_reductions = refl;
  whole = record { names = refl; steady = (refl, tt, (refl, tt), refl, ((refl, ((refl, tt), tt)), (((refl, (refl, tt)), (tt, tt)), tt))) };
  inside = record { names = refl; steady = ((refl, ((refl, tt), tt)), (((refl, (refl, tt)), (tt, tt)), tt)) };
  declares_none = λ x h. subst (λ y. visible_behind chain y ≡ true) (only x 1 h) refl;
  scalars = λ x h. subst (IsScalar chain_start) (only x 1 h) (inr (record { outside = refl; there = refl; alone = λ i is. refl }));
  first = refl;
}

one_two : Before chain_space chain_sinks (1 ∷ []) (2 ∷ [])
one_two = sink (refl, refl)

two_three : Before chain_space chain_sinks (2 ∷ []) (3 ∷ [])
two_three = sink (refl, refl)

one_three : Before chain_space chain_sinks (1 ∷ []) (3 ∷ [])
one_three = through one_two two_three

abbrev Ordered : Vector → Vector → Type 0
Ordered u v = u ≢ v → Before chain_space chain_sinks u v ⊎ Before chain_space chain_sinks v u

never : (u : Vector) → Ordered u u
never u h = absurd (h refl)

ordered : Each (λ u. Each (Ordered u) chain_space) chain_space
ordered = (
  (never (1 ∷ []), (λ h. inl one_two, (λ h. inl one_three, tt))),
  ((λ h. inr one_two, (never (2 ∷ []), (λ h. inl two_three, tt))), ((λ h. inr one_three, (λ h. inr two_three, (never (3 ∷ []), tt))), tt)),
)

is_doacross : (e : Effect) → run chain chain_start ≡ Some e → IsDoacross chain_roles chain_sinks 1 chain (chain_loop ∷ []) chain_body chain_start chain_space e
unfolding greatest_trip_count
is_doacross e ran = record {
  nest = refl;
  keeps = keeps;
  silent = refl;
  declares = λ x h. subst (λ y. chain_start.cells y [] ≡ None) (only x 2 (not_false (is_among (2 ∷ []) x) h)) refl;
  are = refl;
  different = all_pairs (λ u v. u ≢ v) chain_space ((λ h. absurd cc, (λ h. absurd cc, tt)), ((λ h. absurd cc, tt), (tt, tt)));
  turning = λ u h access there. each_at (λ (a : Access). IsSome (iterations a.inner (at_vector (chain_loop ∷ []) u chain_start))) (accesses [] chain_body) (refl, (refl, tt)) access there;
  ahead = refl;
  in_order = respect chain_space chain_sinks refl (all_pairs (λ u v. is_earlier u v ≡ true) chain_space ((refl, (refl, tt)), ((refl, tt), (tt, tt))));
  covered = λ u v h k c. each_at (Ordered u) chain_space (each_at (λ u. Each (Ordered u) chain_space) chain_space ordered u h) v k c.differ;
  ran = ran;
}

pub rows : WaveRows
unfolding greatest_trip_count
rows = record { earlier = refl; later = refl; silent = refl; printing = refl; middle = refl; first_two = refl; alone = refl; runs = refl; doacross = is_doacross }
