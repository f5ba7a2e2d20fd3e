use Rattle.std.proofs.Common.{◌≡◌, ◌<◌, ◌≤◌, ◌^◌, ℤ, pos, ◌+ℤ◌, length, get_or, take, unsigned_abs, ◌+◌, ◌*◌, to_z, of_z, w64, false, true, sym, ap, ◌∙◌, subst, arith, rules}
use mir.Syntax.{w128}
use Rattle.std.proofs.lemmas.Int.{ints, to_z-of_z}
use Rattle.std.proofs.lemmas.List.{take_all}
use Rattle.affine.specs.Affine.{Affine, IsCanonical}
use Rattle.affine.specs.Arithmetic.{term}
use Rattle.affine.specs.Box.{IsEmpty, least_end, greatest_end}
use Rattle.affine.proofs.Whole.{one_more}
use Rattle.affine.proofs.Ranges.{sum_so_far, sum_so_far-more, range_of_ends}
use Rattle.affine.proofs.form.Form.range.Goals as goal

pub overflow_add-least : goal.overflow_add-least
overflow_add-least c =
    let few : c.loop-term.term-index < 64 = omega (arith, ap length c.deref-term-items.ensures, c.self.invariant.fits.terms.variables) in
    let read : to_z w128 (of_z w128 c.products-products.result.0) ≡ c.products-products.result.0 = search (rules, ints) in
    (one_more (to_z w128 c.loop-term.least-bits) (to_z w128 (of_z w128 c.products-products.result.0)) c.loop-term.term-index few c.loop-term.invariant.least_within (subst (λ (n : ℤ). unsigned_abs n ≤ 2 ^ 95) (sym read) c.products-products.ensures.least_within)).0

pub overflow_add-greatest : goal.overflow_add-greatest
overflow_add-greatest c =
    let few : c.loop-term.term-index < 64 = omega (arith, ap length c.deref-term-items.ensures, c.self.invariant.fits.terms.variables) in
    let read : to_z w128 (of_z w128 c.products-products.result.1) ≡ c.products-products.result.1 = search (rules, ints) in
    (one_more (to_z w128 c.loop-term.greatest-bits) (to_z w128 (of_z w128 c.products-products.result.1)) c.loop-term.term-index few c.loop-term.invariant.greatest_within (subst (λ (n : ℤ). unsigned_abs n ≤ 2 ^ 95) (sym read) c.products-products.ensures.greatest_within)).0

pub loop-term-preserved : goal.loop-term-preserved
loop-term-preserved c =
    let few : c.loop-term.term-index < 64 = omega (arith, ap length c.deref-term-items.ensures, c.self.invariant.fits.terms.variables) in
    let items = c.deref-term-items.result.now in
    let i = c.loop-term.term-index in
    let d = term 0 (pos 0) in
    let t = get_or items i d in
    let coefficient : to_z w64 (of_z w64 t.coefficient) ≡ t.coefficient = search (rules, ints) in
    let low = to_z w128 c.loop-term.least-bits in
    let high = to_z w128 c.loop-term.greatest-bits in
    let p = to_z w128 (of_z w128 c.products-products.result.0) in
    let q = to_z w128 (of_z w128 c.products-products.result.1) in
    let read_p : p ≡ c.products-products.result.0 = search (rules, ints) in
    let read_q : q ≡ c.products-products.result.1 = search (rules, ints) in
    let more_low = one_more low p i few c.loop-term.invariant.least_within (subst (λ (n : ℤ). unsigned_abs n ≤ 2 ^ 95) (sym read_p) c.products-products.ensures.least_within) in
    let more_high = one_more high q i few c.loop-term.invariant.greatest_within (subst (λ (n : ℤ). unsigned_abs n ≤ 2 ^ 95) (sym read_q) c.products-products.ensures.greatest_within) in
    let read_low : to_z w128 (of_z w128 (low +ℤ p)) ≡ low +ℤ p = to_z-of_z w128 (low +ℤ p) more_low.0 in
    let read_high : to_z w128 (of_z w128 (high +ℤ q)) ≡ high +ℤ q = to_z-of_z w128 (high +ℤ q) more_high.0 in
    let box = c.args.bounds.now in
    record {
      least = read_low ∙ sum_so_far-more least_end box c.args.self.now.constant items i d (to_z w64 (of_z w64 t.coefficient)) c.interval.result low p c.loop-term-test.true
          coefficient c.interval.ensures.value c.loop-term.invariant.least (read_p ∙ c.products-products.ensures.least);
      greatest = read_high ∙ sum_so_far-more greatest_end box c.args.self.now.constant items i d (to_z w64 (of_z w64 t.coefficient)) c.interval.result high q c.loop-term-test.true
          coefficient c.interval.ensures.value c.loop-term.invariant.greatest (read_q ∙ c.products-products.ensures.greatest);
      least_within = subst (λ (n : ℤ). unsigned_abs n ≤ 2 ^ 62 + (i + 1) * 2 ^ 95) (sym read_low) more_low.1;
      greatest_within = subst (λ (n : ℤ). unsigned_abs n ≤ 2 ^ 62 + (i + 1) * 2 ^ 95) (sym read_high) more_high.1;
    }

pub returns-clause-exact : goal.returns-clause-exact
returns-clause-exact c =
    let a = c.args.self.now in
    let box = c.args.bounds.now in
    let view : c.deref-term-items.result.now ≡ a.terms = c.deref-term-items.ensures ∙ ap (λ (f : Affine). f.terms) c.self.view_is in
    let whole : take c.loop-term.term-index c.deref-term-items.result.now ≡ a.terms = take_all c.loop-term.term-index c.deref-term-items.result.now (omega arith) ∙ view in
    let canonical : IsCanonical a.terms = subst (λ (f : Affine). IsCanonical f.terms) c.self.view_is c.self.invariant.canonical in
    let some : ¬ (IsEmpty box) = λ e. let t : false ≡ true = c.if-is_empty.ensures.1 e in cc in
    range_of_ends a box (to_z w128 c.loop-term.least-bits) (to_z w128 c.loop-term.greatest-bits) canonical some
    (c.loop-term.invariant.least ∙ ap (sum_so_far least_end box a.constant) whole)
    (c.loop-term.invariant.greatest ∙ ap (sum_so_far greatest_end box a.constant) whole)
