-- The nine operators are lawful. An implementation of an operator cites this, so it stands among the definitions.
use Rattle.std.specs.Prelude.{ℕ, zero, suc, Bool, true, false, ◌≡◌, ◌+◌, ◌-◌, ◌*◌, ◌%◌, ◌^◌, min, max, nat_lt, ◌&&◌, ◌||◌, bit_or, refl}
use Rattle.std.proofs.Common.{sym, ap, ◌∙◌}
use Rattle.std.proofs.Math.Nat.{add_comm, add_assoc, add-zero, zero-add, mul_comm, mul_assoc, mul-one, one-mul, add-mod-mod, mod-add-mod, mod-eq_of_lt, max_comm, max-zero, zero-max, max-le, le-max_left, le-max_right, min_comm, min-eq_right, le-min, min-le_left, min-le_right, le_antisymm, le_trans, le_of_suc-le-suc, le-pred_of_lt, not-suc-le-zero}
use Rattle.std.proofs.Math.Bool.{and_assoc as bool_and_assoc, and_comm as bool_and_comm, and-true, or_assoc as bool_or_assoc, or_comm as bool_or_comm, or-false}
use Rattle.std.proofs.lemmas.Bool.{ltb-true}
use Rattle.std.proofs.lemmas.Nat.{and_comm, and_assoc, and_mask, or_comm, xor_comm, mul-mod_first, mul-mod_second}
use Rattle.std.proofs.lemmas.Nat.Bits.{bit_at_or, same_from_bits}
use Rattle.std.specs.Int.{bit_at}
use Rattle.std.specs.Int.Bits.{or_zero_l, or_zero_r, xor_assoc, xor_zero_l, xor_zero_r}
use Rattle.semantics.specs.Loops.Operator.{Sum, Product, And, Or, Xor, AndAlso, OrElse, Max, Min, IsLawful, one_if, is_set}
use Rattle.semantics.specs.Laws.{OperatorsAreLawful}

mod-fits : (a : ℕ) → nat_lt a (2 ^ 64) ≡ true → a % 2 ^ 64 ≡ a
mod-fits a e = mod-eq_of_lt (ltb-true a (2 ^ 64) e)

sum_assoc : (m a b c : ℕ) → ((a + b) % m + c) % m ≡ (a + (b + c) % m) % m
sum_assoc m a b c = mod-add-mod (a + b) m c ∙ ap (λ n. n % m) (add_assoc a b c) ∙ sym (add-mod-mod a (b + c) m)

product_assoc : (m a b c : ℕ) → ((a * b) % m * c) % m ≡ (a * ((b * c) % m)) % m
product_assoc m a b c = mul-mod_first (a * b) c m ∙ ap (λ n. n % m) (mul_assoc a b c) ∙ sym (mul-mod_second a (b * c) m)

max_assoc : (a b c : ℕ) → max (max a b) c ≡ max a (max b c)
max_assoc a b c =
    le_antisymm
    (max-le (max-le (le-max_left a (max b c)) (le_trans (le-max_left b c) (le-max_right a (max b c)))) (le_trans (le-max_right b c) (le-max_right a (max b c))))
    (max-le (le_trans (le-max_left a b) (le-max_left (max a b) c)) (max-le (le_trans (le-max_right a b) (le-max_left (max a b) c)) (le-max_right (max a b) c)))

min_assoc : (a b c : ℕ) → min (min a b) c ≡ min a (min b c)
min_assoc a b c =
    le_antisymm
    (le-min (le_trans (min-le_left (min a b) c) (min-le_left a b)) (le-min (le_trans (min-le_left (min a b) c) (min-le_right a b)) (min-le_right (min a b) c)))
    (le-min (le-min (min-le_left a (min b c)) (le_trans (min-le_right a (min b c)) (min-le_left b c))) (le_trans (min-le_right a (min b c)) (min-le_right b c)))

or_assoc : (a b c : ℕ) → bit_or (bit_or a b) c ≡ bit_or a (bit_or b c)
or_assoc a b c =
    same_from_bits (bit_or (bit_or a b) c) (bit_or a (bit_or b c))
    (λ i. bit_at_or (bit_or a b) c i
    ∙ ap (λ n. max n (bit_at c i)) (bit_at_or a b i)
    ∙ max_assoc (bit_at a i) (bit_at b i) (bit_at c i)
    ∙ ap (λ n. max (bit_at a i) n) (sym (bit_at_or b c i))
    ∙ sym (bit_at_or a (bit_or b c) i))

is_set-one_if : (b : Bool) → is_set (one_if b) ≡ b
is_set-one_if true = refl
is_set-one_if false = refl

one_if-is_set : (a : ℕ) → nat_lt a 2 ≡ true → one_if (is_set a) ≡ a
one_if-is_set zero e = refl
one_if-is_set (suc zero) e = refl
one_if-is_set (suc (suc a)) e = absurd (not-suc-le-zero (le_of_suc-le-suc (le_of_suc-le-suc (ltb-true (suc (suc a)) 2 e))))

sum_lawful : IsLawful Sum
sum_lawful =
    record {
      associative = sum_assoc (2 ^ 64);
      commutative = λ a b. ap (λ n. n % 2 ^ 64) (add_comm a b);
      left = λ a e. ap (λ n. n % 2 ^ 64) (zero-add a) ∙ mod-fits a e;
      right = λ a e. ap (λ n. n % 2 ^ 64) (add-zero a) ∙ mod-fits a e;
    }

product_lawful : IsLawful Product
product_lawful =
    record {
      associative = product_assoc (2 ^ 64);
      commutative = λ a b. ap (λ n. n % 2 ^ 64) (mul_comm a b);
      left = λ a e. ap (λ n. n % 2 ^ 64) (one-mul a) ∙ mod-fits a e;
      right = λ a e. ap (λ n. n % 2 ^ 64) (mul-one a) ∙ mod-fits a e;
    }

and_lawful : IsLawful And
and_lawful =
    record {
      associative = λ a b c. and_assoc c a b;
      commutative = and_comm;
      left = λ a e. and_comm (2 ^ 64 - 1) a ∙ and_mask a 64 ∙ mod-fits a e;
      right = λ a e. and_mask a 64 ∙ mod-fits a e;
    }

or_lawful : IsLawful Or
or_lawful =
    record {
      associative = or_assoc;
      commutative = or_comm;
      left = λ a e. or_zero_l a;
      right = λ a e. or_zero_r a;
    }

xor_lawful : IsLawful Xor
xor_lawful =
    record {
      associative = xor_assoc;
      commutative = xor_comm;
      left = λ a e. xor_zero_l a;
      right = λ a e. xor_zero_r a;
    }

and_also_lawful : IsLawful AndAlso
and_also_lawful =
    record {
      associative = λ a b c.
          ap (λ s. one_if (s && is_set c)) (is_set-one_if (is_set a && is_set b))
          ∙ ap one_if (bool_and_assoc (is_set a) (is_set b) (is_set c))
          ∙ ap (λ s. one_if (is_set a && s)) (sym (is_set-one_if (is_set b && is_set c)));
      commutative = λ a b. ap one_if (bool_and_comm (is_set a) (is_set b));
      left = one_if-is_set;
      right = λ a e. ap one_if (and-true (is_set a)) ∙ one_if-is_set a e;
    }

or_else_lawful : IsLawful OrElse
or_else_lawful =
    record {
      associative = λ a b c.
          ap (λ s. one_if (s || is_set c)) (is_set-one_if (is_set a || is_set b))
          ∙ ap one_if (bool_or_assoc (is_set a) (is_set b) (is_set c))
          ∙ ap (λ s. one_if (is_set a || s)) (sym (is_set-one_if (is_set b || is_set c)));
      commutative = λ a b. ap one_if (bool_or_comm (is_set a) (is_set b));
      left = one_if-is_set;
      right = λ a e. ap one_if (or-false (is_set a)) ∙ one_if-is_set a e;
    }

max_lawful : IsLawful Max
max_lawful =
    record {
      associative = max_assoc;
      commutative = max_comm;
      left = λ a e. zero-max a;
      right = λ a e. max-zero a;
    }

min_lawful : IsLawful Min
min_lawful =
    record {
      associative = min_assoc;
      commutative = min_comm;
      left = λ a e. min-eq_right (le-pred_of_lt (ltb-true a (2 ^ 64) e));
      right = λ a e. min_comm a (2 ^ 64 - 1) ∙ min-eq_right (le-pred_of_lt (ltb-true a (2 ^ 64) e));
    }

pub operators_are_lawful : OperatorsAreLawful
operators_are_lawful Sum = sum_lawful
operators_are_lawful Product = product_lawful
operators_are_lawful And = and_lawful
operators_are_lawful Or = or_lawful
operators_are_lawful Xor = xor_lawful
operators_are_lawful AndAlso = and_also_lawful
operators_are_lawful OrElse = or_else_lawful
operators_are_lawful Max = max_lawful
operators_are_lawful Min = min_lawful
