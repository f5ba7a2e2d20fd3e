use Rattle.std.proofs.Common.{◌≡◌, ℤ, to_z, of_z, w64, sym, ap, ◌∙◌, subst, rules}
use mir.Syntax.{w128}
use Rattle.std.proofs.lemmas.Int.{ints}
use Rattle.affine.specs.Box.{IsRange}
use Rattle.nest_loop.specs.Sides.{IsModest}
use Rattle.nest_loop.proofs.Boxes.{modest_ends, modest_read}
use Rattle.nest_loop.proofs.walked.ends.Goals as goal

pub returns-in-Some-clause-exact : goal.returns-in-Some-clause-exact
returns-in-Some-clause-exact c =
    let r = c.in-Some.range in
    let form = c.args.form.now in
    let box = c.args.bounds.now in
    let modest = modest_ends r.0 r.1 form box c.requires c.in-Some.ensures.exact in
    let wide : to_z w128 (of_z w128 r.0) ≡ r.0 = search (rules, ints) in
    let wide2 : to_z w128 (of_z w128 r.1) ≡ r.1 = search (rules, ints) in
    let read = ap (λ (n : ℤ). to_z w64 (of_z w64 n)) wide ∙ modest_read r.0 modest.0 in
    let read2 = ap (λ (n : ℤ). to_z w64 (of_z w64 n)) wide2 ∙ modest_read r.1 modest.1 in
    subst (λ (n : ℤ). IsRange form box n (to_z w64 (of_z w64 (to_z w128 (of_z w128 r.1))))) (sym read)
    (subst (λ (n : ℤ). IsRange form box r.0 n) (sym read2) c.in-Some.ensures.exact)

pub returns-in-Some-clause-least : goal.returns-in-Some-clause-least
returns-in-Some-clause-least c =
    let r = c.in-Some.range in
    let modest = modest_ends r.0 r.1 c.args.form.now c.args.bounds.now c.requires c.in-Some.ensures.exact in
    let wide : to_z w128 (of_z w128 r.0) ≡ r.0 = search (rules, ints) in
    subst IsModest (sym (ap (λ (n : ℤ). to_z w64 (of_z w64 n)) wide ∙ modest_read r.0 modest.0)) modest.0

pub returns-in-Some-clause-greatest : goal.returns-in-Some-clause-greatest
returns-in-Some-clause-greatest c =
    let r = c.in-Some.range in
    let modest = modest_ends r.0 r.1 c.args.form.now c.args.bounds.now c.requires c.in-Some.ensures.exact in
    let wide : to_z w128 (of_z w128 r.1) ≡ r.1 = search (rules, ints) in
    subst IsModest (sym (ap (λ (n : ℤ). to_z w64 (of_z w64 n)) wide ∙ modest_read r.1 modest.1)) modest.1
