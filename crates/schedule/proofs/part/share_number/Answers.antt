use Rattle.std.proofs.Common.{◌≡◌, ℕ, ◌==◌, false, filter, slice_get, arith, sym, ap, ◌∙◌, length}
use Rattle.std.specs.Bool.{then_some}
use Rattle.std.proofs.lemmas.Bool.Decides.{nat_tests}
use Rattle.semantics.specs.Meaning.Places.{below}
use Rattle.semantics.specs.Loops.Chunk.{cut, PlainStatic}
use Rattle.schedule.proofs.Owned.{own_first, own_no_more, if_below}
use Rattle.schedule.proofs.part.share_number.Goals as goal
use Rattle.schedule.proofs.part.share_number.Goals.{then-j-eq0, else-j-eq0}

pub returns-clause-number : goal.returns-clause-number
returns-clause-number c =
    let n : ℕ = length (cut PlainStatic c.args.iterations c.args.workers) in
    c.then_some.ensures ∙ elim c.if-j-eq0.branch [
      | then-j-eq0 w ↦
          ap (λ b. then_some b c.args.worker) w.then_some-is
          ∙ ap (λ k. if_below c.args.worker k) w.share_count.ensures
          ∙ sym (own_first c.args.worker n)
          ∙ ap (λ j. slice_get (filter (λ k. k == c.args.worker) (below n)) j) (sym w.if-j-eq0.true)
      | else-j-eq0 w ↦
          let z : (c.args.j == 0) ≡ false = let h = w.if-j-eq0.false in grind (arith, nat_tests) in
          ap (λ b. then_some b c.args.worker) (w.then_some-is ∙ z)
          ∙ sym (own_no_more c.args.worker n c.args.j (let h = w.if-j-eq0.false in omega arith))
    ]
