use Rattle.std.proofs.Common.{◌≡◌, ◌<◌, ◌≤◌, ◌+ℤ◌, ◌*ℤ◌, pos, length, get_or, to_z, of_z, arith, rules}
use Rattle.std.proofs.lemmas.Int.{ints}
use mir.Syntax.{w128}
use Rattle.affine.specs.declared.term.Term.{Term}
use Rattle.affine.specs.Arithmetic.{term}
use Rattle.affine.proofs.Terms.{split-base, split-multiple, split-both}
use Rattle.affine.proofs.merge.split_least.Goals as goal
use Rattle.affine.proofs.merge.split_least.Goals.{then-this-lt1, in-len1-up-len1-up-2+else-y-x}

-- what a read past the end gives
abbrev default : Term
default = term 0 (pos 0)

pub returns-in-empty-len1-up-clause-some : goal.returns-in-empty-len1-up-clause-some
returns-in-empty-len1-up-clause-some c =
    let some : 0 < length c.args.multiple.now = search rules in
    let none : length c.args.base.now ≤ 0 = search rules in
    let is : to_z w128 (of_z w128 c.product.result) ≡ c.args.factor *ℤ (get_or c.args.multiple.now 0 default).coefficient = search (rules, ints) in
    split-multiple c.args.factor c.args.multiple.now c.args.base.now default (to_z w128 (of_z w128 c.product.result)) some c.requires.multiple_canonical c.requires.base_canonical
    (λ (l : 0 < length c.args.base.now). absurd (omega arith)) is

pub returns-in-len1-up-len1-up-clause-some : goal.returns-in-len1-up-len1-up-clause-some
returns-in-len1-up-len1-up-clause-some c =
    let some : 0 < length c.args.multiple.now = search rules in
    let more : 0 < length c.args.base.now = search rules in
    let is : to_z w128 (of_z w128 c.plus_product.result) ≡ (get_or c.args.base.now 0 default).coefficient +ℤ c.args.factor *ℤ (get_or c.args.multiple.now 0 default).coefficient = search (rules, ints) in
    split-both c.args.factor c.args.multiple.now c.args.base.now default (to_z w128 (of_z w128 c.plus_product.result)) some more c.requires.multiple_canonical c.if-x-y.true is

pub returns-in-len1-up-len1-up-2-clause-some : goal.returns-in-len1-up-len1-up-2-clause-some
returns-in-len1-up-len1-up-2-clause-some c =
    let some : 0 < length c.args.multiple.now = search rules in
    let is : to_z w128 (of_z w128 c.product-in-len1-up-len1-up-2.result) ≡ c.args.factor *ℤ (get_or c.args.multiple.now 0 default).coefficient = search (rules, ints) in
    split-multiple c.args.factor c.args.multiple.now c.args.base.now default (to_z w128 (of_z w128 c.product-in-len1-up-len1-up-2.result)) some c.requires.multiple_canonical c.requires.base_canonical
    (λ _. c.if-y-x.true) is

pub returns-in-len1-up-default-clause-some : goal.returns-in-len1-up-default-clause-some
returns-in-len1-up-default-clause-some c =
    let some : 0 < length c.args.base.now = search rules in
    let is : to_z w128 (of_z w128 c.from.result) ≡ (get_or c.args.base.now 0 default).coefficient = search (rules, ints) in
    split-base c.args.factor c.args.multiple.now c.args.base.now default (to_z w128 (of_z w128 c.from.result)) some c.requires.multiple_canonical c.requires.base_canonical
    (λ (l : 0 < length c.args.multiple.now). elim c.in-len1-up-default-1.branch [ then-this-lt1 w ↦ let few : length c.args.multiple.now ≤ 0 = search rules in absurd (omega arith) | in-len1-up-len1-up-2+else-y-x w ↦ omega arith ]) is
