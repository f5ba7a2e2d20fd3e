use Rattle.std.proofs.Common.{◌≡◌, ℕ, ◌+◌, ◌-◌, ◌^◌, ◌++◌, [], List, length, take, drop, sym, ap, subst, length-drop, ◌∙◌, arith}
use Rattle.std.proofs.lemmas.List.{take_all}
use Rattle.std.proofs.lemmas.Result.{IfOk-weaker, IfErr-weaker}
use Rattle.pairtest.specs.declared.access.PastLimit.{PastLimit}
use Rattle.pairtest.specs.declared.reach.Reach.{Reach}
use Rattle.pairtest.specs.Equations.{Unknown, CoefficientsWithin}
use Rattle.pairtest.specs.DirectionVectors.{counters, differing, place_of}
use Rattle.pairtest.specs.Reached.{Summarizes}
use Rattle.pairtest.proofs.Summaries.{if_err_any, four_joined, within_left, within_right}
use Rattle.pairtest.proofs.direction.reach_of.Goals as goal

pub returns-clause-ok : goal.returns-clause-ok
returns-clause-ok c =
    let nest = c.args.nest.now in
    let at = c.args.at in
    let es = c.args.es.now in
    let ls = c.args.ls.now in
    let serial : c.deref-3.result.now ≡ nest.serial.items = c.deref-3.ensures.value in
    let loops : c.deref.result.now ≡ nest.loops.items = c.deref.ensures.value in
    let loops_again : c.deref-2.result.now ≡ nest.loops.items = c.deref-2.ensures.value in
    let behind : take (length c.deref-2.result.now - (at + 1)) (drop (at + 1) c.deref-2.result.now) ≡ drop (at + 1) nest.loops.items =
    let short : length (drop (at + 1) c.deref-2.result.now) ≡ length c.deref-2.result.now - (at + 1) = length-drop (at + 1) c.deref-2.result.now in
    take_all (length c.deref-2.result.now - (at + 1)) (drop (at + 1) c.deref-2.result.now) (omega arith) ∙ ap (λ (ns : List ℕ). drop (at + 1) ns) loops_again in
    let place : c.place-next.result ≡ place_of nest at = c.place-next.ensures.value in
    let shared : counters es ls (c.deref-3.result.now ++ take at c.deref.result.now) ≡ counters es ls (nest.serial.items ++ take at nest.loops.items) = cc in
    let one : counters c.coefficients_from.result.now [] (take (length c.deref-2.result.now - (at + 1)) (drop (at + 1) c.deref-2.result.now) ++ c.deref-4.result.now)
    ≡ counters (drop (place_of nest at + 1) es) [] (drop (at + 1) nest.loops.items ++ c.args.earlier.now.inner.items) =
    let inner : c.deref-4.result.now ≡ c.args.earlier.now.inner.items = c.deref-4.ensures.value in
    let from : c.coefficients_from.result.now ≡ drop (place_of nest at + 1) es = c.coefficients_from.ensures ∙ ap (λ (k : ℕ). drop (k + 1) es) place in
    cc in
    let other : counters [] c.coefficients_from-2.result.now (take (length c.deref-2.result.now - (at + 1)) (drop (at + 1) c.deref-2.result.now) ++ c.deref-5.result.now)
    ≡ counters [] (drop (place_of nest at + 1) ls) (drop (at + 1) nest.loops.items ++ c.args.later.now.inner.items) =
    let inner : c.deref-5.result.now ≡ c.args.later.now.inner.items = c.deref-5.ensures.value in
    let from : c.coefficients_from-2.result.now ≡ drop (place_of nest at + 1) ls = c.coefficients_from-2.ensures ∙ ap (λ (k : ℕ). drop (k + 1) ls) place in
    cc in
    let a : List Unknown = counters es ls (nest.serial.items ++ take at nest.loops.items) in
    let b : List Unknown = differing nest at es ls in
    let d : List Unknown = counters (drop (place_of nest at + 1) es) [] (drop (at + 1) nest.loops.items ++ c.args.earlier.now.inner.items) in
    let e : List Unknown = counters [] (drop (place_of nest at + 1) ls) (drop (at + 1) nest.loops.items ++ c.args.later.now.inner.items) in
    IfOk-weaker c.with_all_counters-3.result
    (λ (q : Reach). (us : List Unknown) → Summarizes c.in_ok-one.one us → Summarizes q (us ++ counters [] c.coefficients_from-2.result.now (take (length c.deref-2.result.now - (at + 1)) (drop (at + 1) c.deref-2.result.now) ++ c.deref-5.result.now)))
    (λ (q : Reach). Summarizes q (a ++ (b ++ (d ++ e))))
    (λ q more. four_joined c.in_ok-shared.shared c.in_ok-apart.apart c.in_ok-one.one q a b d e
    (subst (λ (us : List Unknown). Summarizes c.in_ok-shared.shared us) shared (c.in_ok-shared.ensures.ok [] c.of_nothing.ensures))
    c.in_ok-apart.ensures.ok
    (λ ys h. subst (λ (us : List Unknown). Summarizes c.in_ok-one.one (ys ++ us)) one (c.in_ok-one.ensures.ok ys h))
    (λ ys h. subst (λ (us : List Unknown). Summarizes q (ys ++ us)) other (more ys h)))
    c.with_all_counters-3.ensures.ok

pub returns-in_err-shared-clause-err : goal.returns-in_err-shared-clause-err
returns-in_err-shared-clause-err c =
    let nest = c.args.nest.now in
    let at = c.args.at in
    let es = c.args.es.now in
    let ls = c.args.ls.now in
    let serial : c.deref-3.result.now ≡ nest.serial.items = c.deref-3.ensures.value in
    let loops : c.deref.result.now ≡ nest.loops.items = c.deref.ensures.value in
    let shared : counters es ls (c.deref-3.result.now ++ take at c.deref.result.now) ≡ counters es ls (nest.serial.items ++ take at nest.loops.items) = cc in
    let a : List Unknown = counters es ls (nest.serial.items ++ take at nest.loops.items) in
    let b : List Unknown = differing nest at es ls in
    let d : List Unknown = counters (drop (place_of nest at + 1) es) [] (drop (at + 1) nest.loops.items ++ c.args.earlier.now.inner.items) in
    let e : List Unknown = counters [] (drop (place_of nest at + 1) ls) (drop (at + 1) nest.loops.items ++ c.args.later.now.inner.items) in
    if_err_any c.from_residual.result
    (λ all. c.in_err-shared.ensures.err (subst (λ (us : List Unknown). CoefficientsWithin (2 ^ 62) us) (sym shared) (within_left (2 ^ 62) a (b ++ (d ++ e)) all)))

pub returns-in_err-apart-clause-err : goal.returns-in_err-apart-clause-err
returns-in_err-apart-clause-err c =
    let nest = c.args.nest.now in
    let at = c.args.at in
    let es = c.args.es.now in
    let ls = c.args.ls.now in
    let a : List Unknown = counters es ls (nest.serial.items ++ take at nest.loops.items) in
    let b : List Unknown = differing nest at es ls in
    let d : List Unknown = counters (drop (place_of nest at + 1) es) [] (drop (at + 1) nest.loops.items ++ c.args.earlier.now.inner.items) in
    let e : List Unknown = counters [] (drop (place_of nest at + 1) ls) (drop (at + 1) nest.loops.items ++ c.args.later.now.inner.items) in
    if_err_any c.from_residual-in_err-apart.result
    (λ all. c.in_err-apart.ensures.err (within_left (2 ^ 62) b (d ++ e) (within_right (2 ^ 62) a (b ++ (d ++ e)) all)))

pub returns-in_err-one-clause-err : goal.returns-in_err-one-clause-err
returns-in_err-one-clause-err c =
    let nest = c.args.nest.now in
    let at = c.args.at in
    let es = c.args.es.now in
    let ls = c.args.ls.now in
    let serial : c.deref-3.result.now ≡ nest.serial.items = c.deref-3.ensures.value in
    let loops : c.deref.result.now ≡ nest.loops.items = c.deref.ensures.value in
    let loops_again : c.deref-2.result.now ≡ nest.loops.items = c.deref-2.ensures.value in
    let behind : take (length c.deref-2.result.now - (at + 1)) (drop (at + 1) c.deref-2.result.now) ≡ drop (at + 1) nest.loops.items =
    let short : length (drop (at + 1) c.deref-2.result.now) ≡ length c.deref-2.result.now - (at + 1) = length-drop (at + 1) c.deref-2.result.now in
    take_all (length c.deref-2.result.now - (at + 1)) (drop (at + 1) c.deref-2.result.now) (omega arith) ∙ ap (λ (ns : List ℕ). drop (at + 1) ns) loops_again in
    let place : c.place-next.result ≡ place_of nest at = c.place-next.ensures.value in
    let one : counters c.coefficients_from.result.now [] (take (length c.deref-2.result.now - (at + 1)) (drop (at + 1) c.deref-2.result.now) ++ c.deref-4.result.now)
    ≡ counters (drop (place_of nest at + 1) es) [] (drop (at + 1) nest.loops.items ++ c.args.earlier.now.inner.items) =
    let inner : c.deref-4.result.now ≡ c.args.earlier.now.inner.items = c.deref-4.ensures.value in
    let from : c.coefficients_from.result.now ≡ drop (place_of nest at + 1) es = c.coefficients_from.ensures ∙ ap (λ (k : ℕ). drop (k + 1) es) place in
    cc in
    let a : List Unknown = counters es ls (nest.serial.items ++ take at nest.loops.items) in
    let b : List Unknown = differing nest at es ls in
    let d : List Unknown = counters (drop (place_of nest at + 1) es) [] (drop (at + 1) nest.loops.items ++ c.args.earlier.now.inner.items) in
    let e : List Unknown = counters [] (drop (place_of nest at + 1) ls) (drop (at + 1) nest.loops.items ++ c.args.later.now.inner.items) in
    if_err_any c.from_residual-in_err-one.result
    (λ all. c.in_err-one.ensures.err
    (subst (λ (us : List Unknown). CoefficientsWithin (2 ^ 62) us) (sym one)
    (within_left (2 ^ 62) d e (within_right (2 ^ 62) b (d ++ e) (within_right (2 ^ 62) a (b ++ (d ++ e)) all)))))

pub returns-clause-err : goal.returns-clause-err
returns-clause-err c =
    let nest = c.args.nest.now in
    let at = c.args.at in
    let es = c.args.es.now in
    let ls = c.args.ls.now in
    let serial : c.deref-3.result.now ≡ nest.serial.items = c.deref-3.ensures.value in
    let loops : c.deref.result.now ≡ nest.loops.items = c.deref.ensures.value in
    let loops_again : c.deref-2.result.now ≡ nest.loops.items = c.deref-2.ensures.value in
    let behind : take (length c.deref-2.result.now - (at + 1)) (drop (at + 1) c.deref-2.result.now) ≡ drop (at + 1) nest.loops.items =
    let short : length (drop (at + 1) c.deref-2.result.now) ≡ length c.deref-2.result.now - (at + 1) = length-drop (at + 1) c.deref-2.result.now in
    take_all (length c.deref-2.result.now - (at + 1)) (drop (at + 1) c.deref-2.result.now) (omega arith) ∙ ap (λ (ns : List ℕ). drop (at + 1) ns) loops_again in
    let place : c.place-next.result ≡ place_of nest at = c.place-next.ensures.value in
    let other : counters [] c.coefficients_from-2.result.now (take (length c.deref-2.result.now - (at + 1)) (drop (at + 1) c.deref-2.result.now) ++ c.deref-5.result.now)
    ≡ counters [] (drop (place_of nest at + 1) ls) (drop (at + 1) nest.loops.items ++ c.args.later.now.inner.items) =
    let inner : c.deref-5.result.now ≡ c.args.later.now.inner.items = c.deref-5.ensures.value in
    let from : c.coefficients_from-2.result.now ≡ drop (place_of nest at + 1) ls = c.coefficients_from-2.ensures ∙ ap (λ (k : ℕ). drop (k + 1) ls) place in
    cc in
    let a : List Unknown = counters es ls (nest.serial.items ++ take at nest.loops.items) in
    let b : List Unknown = differing nest at es ls in
    let d : List Unknown = counters (drop (place_of nest at + 1) es) [] (drop (at + 1) nest.loops.items ++ c.args.earlier.now.inner.items) in
    let e : List Unknown = counters [] (drop (place_of nest at + 1) ls) (drop (at + 1) nest.loops.items ++ c.args.later.now.inner.items) in
    IfErr-weaker c.with_all_counters-3.result
    (λ (_ : PastLimit). ¬ (CoefficientsWithin (2 ^ 62) (counters [] c.coefficients_from-2.result.now (take (length c.deref-2.result.now - (at + 1)) (drop (at + 1) c.deref-2.result.now) ++ c.deref-5.result.now))))
    (λ (_ : PastLimit). ¬ (CoefficientsWithin (2 ^ 62) (a ++ (b ++ (d ++ e)))))
    (λ _ passed all. passed
    (subst (λ (us : List Unknown). CoefficientsWithin (2 ^ 62) us) (sym other)
    (within_right (2 ^ 62) d e (within_right (2 ^ 62) b (d ++ e) (within_right (2 ^ 62) a (b ++ (d ++ e)) all)))))
    c.with_all_counters-3.ensures.err
