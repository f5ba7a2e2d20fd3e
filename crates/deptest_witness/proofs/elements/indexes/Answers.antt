use Rattle.std.proofs.Common.{arith, refl, take, ◌∷◌, [], ◌++◌, subst, sym, ap, ◌+◌, ◌∙◌, List}
use Rattle.std.proofs.lemmas.Option.{slice_get_read}
use Rattle.std.proofs.lemmas.List.{take_more}
use Rattle.affine.specs.Affine.{Affine}
use Rattle.nest_space.specs.Nests.{given}
use Rattle.deptest_witness.specs.Touching.{AreIndexes}
use Rattle.deptest_witness.proofs.Indexes.{indexes_more, index_there}
use Rattle.deptest_witness.proofs.elements.indexes.Goals as goal

pub returns-in_default : goal.returns-in_default
returns-in_default c = λ is h.
    let xs = c.args.subscripts.now in
    let at = slice_get_read xs _ c.loop-form.form-index c.form-item.result refl (omega arith) c.form-item.is in
    let there = index_there xs (given c.args.values.now) is c.loop-form.form-index c.form-item.result h at in
    c.in_default.ensures there.0 there.1 there.2

pub loop-form-preserved : goal.loop-form-preserved
loop-form-preserved c =
    let more = indexes_more (take c.loop-form.form-index c.args.subscripts.now) c.form-item.result (given c.args.values.now) c.loop-form.indexes.items c.in-Some.index c.loop-form.invariant c.in-Some.ensures (omega arith) in
    let item = c.form-item.result in
    let front = take_more c.args.subscripts.now c.loop-form.form-index item (omega arith) ∙ ap (λ (f : Affine). take c.loop-form.form-index c.args.subscripts.now ++ (f ∷ [])) (sym c.form-item.is) in
    let values = given c.args.values.now in
    subst (λ is. AreIndexes (take (c.loop-form.form-index + 1) c.args.subscripts.now) values is) (sym c.in_ok-push.ensures.items)
    (subst (λ (fs : List Affine). AreIndexes fs values (c.loop-form.indexes.items ++ (c.in-Some.index ∷ []))) (sym front) more)
