-- Accesses whose pairs are shown to be independent make no conflict.
use Rattle.std.specs.Prelude.{ℕ, List, []}
use Rattle.std.proofs.Common.{⊎_elim}
use Rattle.law_turns.proofs.Laws.{iterations_are_turns}
use Rattle.law_turns.proofs.Joining.{contains_none}
use Rattle.pairtest_cover.specs.Behind.{LieApart}
use Rattle.law_independence.specs.IndependenceLaws.{ShownBodiesAreIndependent}
use Rattle.law_independence.proofs.LyingApart.{nest_counters, lie_apart}

-- no steps lead anywhere without a sink
none_apart : (ks ls : List ℕ) → LieApart [] ks ls → ⊥
none_apart ks ls apart = contains_none apart.sink apart.named

pub shown_bodies_are_independent : ShownBodiesAreIndependent
shown_bodies_are_independent ds round now loops body steps outer us u v nested shown turn at are in_u in_v conflict =
    let p = iterations_are_turns round now loops steps outer us u nested.entered at are in_u in
    let q = iterations_are_turns round now loops steps outer us v nested.entered at are in_v in
    ⊎_elim (none_apart (nest_counters round now p.0) (nest_counters round now q.0)) (none_apart (nest_counters round now q.0) (nest_counters round now p.0))
    (lie_apart ds [] round now loops body steps outer nested shown turn u v p.0 q.0 p.1 q.1 conflict)
