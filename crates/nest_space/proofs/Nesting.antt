-- The iterations of a rectangular nest are the vectors of its loops' turns.
use Rattle.std.specs.Prelude.{ℕ, ◌≡◌, ◌++◌, ℤ, List, [], ◌∷◌, map, flat_map, Option, Some, option_and_then}
use Rattle.std.proofs.Common.{refl, sym, ap, ◌∙◌}
use Rattle.std.proofs.lemmas.List.Concat.{flat_map-cons}
use Rattle.semantics.specs.Tree.{Variable}
use Rattle.semantics.specs.Meaning.Value.{both, map_option}
use Rattle.semantics.specs.Loops.Nest.{Vector, at_value, concat_options, iterations}
use Rattle.nest_loop.specs.declared.head.Canonical.{Canonical}
use Rattle.nest_space.specs.Space.{Turns, values_of, vectors}
use Rattle.nest_space.specs.Nests.{AreRunsOf}
use Rattle.nest_space.specs.Heads.{HasIterations}
use Rattle.nest_space.proofs.Walks.{counters_at, values_are}

-- the same vectors behind each value
pub joined : (us : List Vector) (inner : ℕ → Option (List Vector)) (vs : List ℕ) → ((v : ℕ) → inner v ≡ Some us)
    → concat_options (map (λ v. map_option (map (λ u. v ∷ u)) (inner v)) vs) ≡ Some (flat_map (λ v. map (λ u. v ∷ u) us) vs)
joined us inner [] same = refl
joined us inner (v ∷ vs) same =
    ap (λ o. both (λ a b. a ++ b) (map_option (map (λ u. v ∷ u)) o) (concat_options (map (λ v. map_option (map (λ u. v ∷ u)) (inner v)) vs))) (same v)
    ∙ ap (λ o. both (λ a b. a ++ b) (Some (map (λ u. v ∷ u) us)) o) (joined us inner vs same)
    ∙ ap Some (sym (flat_map-cons (λ v. map (λ u. v ∷ u) us) v vs))

-- wherever the variables round the nest have these values
pub nest_law : (ls : List Canonical) (values : Variable → ℤ) (ts : List Turns) → AreRunsOf ls values ts → HasIterations ls values ts
nest_law [] values [] runs box [] s c heads = refl
nest_law [] values [] runs box (h ∷ hs) s c heads = absurd heads
nest_law [] values (t ∷ ts) runs box hs s c heads = absurd runs
nest_law (l ∷ ls) values [] runs box hs s c heads = absurd runs
nest_law (l ∷ ls) values (t ∷ ts) runs box [] s c heads = absurd heads
nest_law (l ∷ ls) values (t ∷ ts) runs box (h ∷ hs) s c heads =
    ap (option_and_then (λ vs. concat_options (map (λ v. map_option (map (λ us. v ∷ us)) (iterations hs (at_value s h.variable v))) vs)))
    (values_are box values s c h l heads.0 t runs.0)
    ∙ joined (vectors ts) (λ v. iterations hs (at_value s h.variable v)) (values_of t)
    (λ v. nest_law ls values ts runs.1 box hs (at_value s h.variable v) (counters_at box values s c h l heads.0 t runs.0 v) heads.1)
