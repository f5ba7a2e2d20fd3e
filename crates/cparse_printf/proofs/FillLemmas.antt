-- As many arguments as places.
use Rattle.std.proofs.Common.{◌≡◌, ℕ, suc, ◌+◌, cond, List, [], ◌∷◌, length, map, count_by, refl, sym, ap, ◌∙◌, arith}
use Rattle.std.specs.Prelude.{◌==◌}
use Rattle.std.proofs.Math.Dec.{eqb-suc-zero, eqb-zero-suc}
use Rattle.std.proofs.lemmas.Bool.Decides.{nat_tests}
use Rattle.std.proofs.lemmas.List.Sums.{sum_by-cons}
use Rattle.cparse_printf.specs.declared.format.Spot.{Spot}
use Rattle.cparse_printf.specs.declared.format.Spot.TheVariants.{Characters, Number}
use Rattle.cparse_printf.specs.Spots.{spot_of, is_place}
use Rattle.cparse_grammar.specs.PrintfReader.{fills}
use Rattle.ktree.specs.declared.expression.Expr.{Expr}
use Rattle.ktree.specs.View.{expr_of}

counted_one : (s : Spot) (ss : List Spot) → count_by is_place (s ∷ ss) ≡ cond (is_place s) 1 0 + count_by is_place ss
counted_one s ss = sum_by-cons (λ s. cond (is_place s) 1 0) s ss

same_suc : (m n : ℕ) → (m == n) ≡ (suc m == suc n)
same_suc m n = grind (arith, nat_tests)

pub fills_by : (ss : List Spot) (es : List Expr) → fills (map spot_of ss) (map expr_of es) ≡ (count_by is_place ss == length es)
fills_by [] [] = refl
fills_by [] (e ∷ es) = sym (eqb-zero-suc (length es))
fills_by (Characters bs ∷ ss) es =
    let one : count_by is_place (Characters bs ∷ ss) ≡ count_by is_place ss = omega (arith, counted_one (Characters bs) ss) in
    fills_by ss es ∙ ap (λ n. n == length es) (sym one)
fills_by (Number ∷ ss) [] =
    let one : count_by is_place (Number ∷ ss) ≡ suc (count_by is_place ss) = omega (arith, counted_one Number ss) in
    sym (eqb-suc-zero (count_by is_place ss)) ∙ ap (λ n. n == 0) (sym one)
fills_by (Number ∷ ss) (e ∷ es) =
    let one : count_by is_place (Number ∷ ss) ≡ suc (count_by is_place ss) = omega (arith, counted_one Number ss) in
    fills_by ss es ∙ (same_suc (count_by is_place ss) (length es) ∙ ap (λ n. n == suc (length es)) (sym one))
