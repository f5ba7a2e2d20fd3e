use Rattle.std.proofs.Common.{subst, sym, ◌∙◌, ◌≡◌, Option, ℕ}
use Rattle.std.proofs.lemmas.Slice.Eq.{slice_eq-Decides}
use Rattle.std.proofs.lemmas.Bool.Decides.{Decides-eqb}
use Rattle.std.specs.List.{each_same}
use Rattle.std.specs.Global.{Vec}
use Rattle.deptest_witness.specs.Elements.{Names}
use Rattle.deptest_witness.proofs.meeting.common.Goals as goal

pub returns-in_ok-clone : goal.returns-in_ok-clone
returns-in_ok-clone c =
    let same = (slice_eq-Decides Decides-eqb c.as_slice.result.now c.as_slice-2.result.now c.eq.result c.eq.ensures).0 c.if-eq.true in
    let copy : c.in-Some.first.items ≡ c.in_ok-clone.field-0.items = sym (each_same c.in-Some.first.items c.in_ok-clone.field-0.items c.in_ok-clone.ensures.cases.0) in (
      subst (λ (o : Option (Vec ℕ)). Names o c.in_ok-clone.field-0.items) (sym c.in-Some.is) copy,
      subst (λ (o : Option (Vec ℕ)). Names o c.in_ok-clone.field-0.items) (sym c.in-Some-second.is) (sym c.as_slice-2.ensures.value ∙ sym same ∙ c.as_slice.ensures.value ∙ copy),
    )
