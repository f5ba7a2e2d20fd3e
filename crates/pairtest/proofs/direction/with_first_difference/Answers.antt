use Rattle.std.proofs.Common.{◌≡◌, ℕ, ℤ, pos, ◌-ℤ◌, ◌-◌, ◌^◌, ◌++◌, [], ◌∷◌, List, to_z, of_z, sym, ap, subst, ◌∙◌, rules, arith}
use mir.Syntax.{w128}
use Rattle.std.proofs.lemmas.Int.{ints}
use Rattle.std.proofs.lemmas.Result.{IfOk-weaker, IfErr-weaker}
use Rattle.pairtest.specs.declared.access.PastLimit.{PastLimit}
use Rattle.pairtest.specs.declared.reach.Reach.{Reach}
use Rattle.pairtest.specs.Equations.{Unknown, unknown, IsWithin, CoefficientsWithin}
use Rattle.pairtest.specs.DirectionVectors.{coefficient, differing, place_of, turns_of}
use Rattle.pairtest.specs.Reached.{Summarizes}
use Rattle.pairtest.proofs.Summaries.{if_err_any, two_pushed}
use Rattle.pairtest.proofs.direction.with_first_difference.Goals as goal

pub returns-in_err-with-clause-err : goal.returns-in_err-with-clause-err
returns-in_err-with-clause-err c =
    let nest = c.args.nest.now in
    let at = c.args.at in
    let es = c.args.es.now in
    let ls = c.args.ls.now in
    let place : c.place-place.result ≡ place_of nest at = c.place-place.ensures.value in
    let read : to_z w128 (of_z w128 c.difference.result) ≡ c.difference.result = search (rules, ints) in
    let is : to_z w128 (of_z w128 c.difference.result) ≡ coefficient es (place_of nest at) -ℤ coefficient ls (place_of nest at) =
    read ∙ c.difference.ensures.value ∙ ap (λ (k : ℕ). coefficient es k -ℤ coefficient ls k) place in
    if_err_any c.from_residual.result
    (λ all. c.in_err-with.ensures.err (subst (λ (n : ℤ). IsWithin (2 ^ 62) n) (sym is) (all 0 (unknown (pos 0) 0) (omega arith))))

pub returns-clause-ok : goal.returns-clause-ok
returns-clause-ok c =
    let nest = c.args.nest.now in
    let at = c.args.at in
    let es = c.args.es.now in
    let ls = c.args.ls.now in
    let place : c.place-place.result ≡ place_of nest at = c.place-place.ensures.value in
    let turns : c.saturating_sub-values.result ≡ turns_of nest at - 1 = omega (arith, c.saturating_sub-values.ensures, c.trip_count.ensures) in
    let read : to_z w128 (of_z w128 c.difference.result) ≡ c.difference.result = search (rules, ints) in
    let read_again : to_z w128 (of_z w128 c.difference-2.result) ≡ c.difference-2.result = search (rules, ints) in
    let is : to_z w128 (of_z w128 c.difference.result) ≡ coefficient es (place_of nest at) -ℤ coefficient ls (place_of nest at) =
    read ∙ c.difference.ensures.value ∙ ap (λ (k : ℕ). coefficient es k -ℤ coefficient ls k) place in
    let is_again : to_z w128 (of_z w128 c.difference-2.result) ≡ pos 0 -ℤ coefficient ls (place_of nest at) =
    read_again ∙ c.difference-2.ensures.value ∙ ap (λ (k : ℕ). pos 0 -ℤ coefficient ls k) place in
    let first : unknown (to_z w128 (of_z w128 c.difference.result)) c.saturating_sub-values.result
    ≡ unknown (coefficient es (place_of nest at) -ℤ coefficient ls (place_of nest at)) (turns_of nest at - 1) = cc in
    let second : unknown (to_z w128 (of_z w128 c.difference-2.result)) c.saturating_sub-values.result
    ≡ unknown (pos 0 -ℤ coefficient ls (place_of nest at)) (turns_of nest at - 1) = cc in
    IfOk-weaker c.with-2.result
    (λ (q : Reach). (us : List Unknown) → Summarizes c.in_ok-with.field-0 us → Summarizes q (us ++ unknown (to_z w128 (of_z w128 c.difference-2.result)) c.saturating_sub-values.result ∷ []))
    (λ (q : Reach). (us : List Unknown) → Summarizes c.args.reach us → Summarizes q (us ++ differing nest at es ls))
    (λ q more us h. subst (λ (u : Unknown). Summarizes q (us ++ u ∷ unknown (pos 0 -ℤ coefficient ls (place_of nest at)) (turns_of nest at - 1) ∷ [])) first
    (subst (λ (v : Unknown). Summarizes q (us ++ unknown (to_z w128 (of_z w128 c.difference.result)) c.saturating_sub-values.result ∷ v ∷ [])) second
    (two_pushed c.args.reach c.in_ok-with.field-0 q us _ _ h c.in_ok-with.ensures.ok more)))
    c.with-2.ensures.ok

pub returns-clause-err : goal.returns-clause-err
returns-clause-err c =
    let nest = c.args.nest.now in
    let at = c.args.at in
    let es = c.args.es.now in
    let ls = c.args.ls.now in
    let place : c.place-place.result ≡ place_of nest at = c.place-place.ensures.value in
    let read_again : to_z w128 (of_z w128 c.difference-2.result) ≡ c.difference-2.result = search (rules, ints) in
    let is_again : to_z w128 (of_z w128 c.difference-2.result) ≡ pos 0 -ℤ coefficient ls (place_of nest at) =
    read_again ∙ c.difference-2.ensures.value ∙ ap (λ (k : ℕ). pos 0 -ℤ coefficient ls k) place in
    IfErr-weaker c.with-2.result
    (λ (_ : PastLimit). ¬ (IsWithin (2 ^ 62) (to_z w128 (of_z w128 c.difference-2.result))))
    (λ (_ : PastLimit). ¬ (CoefficientsWithin (2 ^ 62) (differing nest at es ls)))
    (λ _ passed all. passed (subst (λ (n : ℤ). IsWithin (2 ^ 62) n) (sym is_again) (all 1 (unknown (pos 0) 0) (omega arith))))
    c.with-2.ensures.err
