-- The places of a form in which an inner variable has its number of an inner turn.
use Rattle.std.proofs.Common.{◌≡◌, ℕ, ◌+◌, ◌*◌, ◌%◌, ◌^◌, ◌<◌, Bool, true, false, cond, List, [], ◌∷◌, length, refl, sym, ap, ◌∙◌, arith}
use Rattle.std.specs.Prelude.{slice_index, slice_set, ◌==◌}
use Rattle.std.proofs.lemmas.List.{get_or-set_same, get_or-set_other}
use Rattle.std.proofs.lemmas.Bool.{eqb-true, eqb-false}
use Rattle.lower_machine.specs.declared.term.Register.{Register}
use Rattle.lower_op.specs.declared.op.Form.{Form}
use Rattle.lane_rows.specs.Lanes.{stepped}
use Rattle.lane_part.specs.declared.place.Stride.{Stride}
use Rattle.lane_part.specs.Places.{stride, term_of, places_of}
use Rattle.lane_part.proofs.Striding.{follows_sum, follows_variable_at}
use Rattle.law_unrolled.specs.Unrolled.{share, rest, form_at}

-- in an inner turn the places of a form begin as far on as the inner stride has gone, and go on from turn to turn as without it
abbrev pub PlacesAlong : Type 0
PlacesAlong =
    (outer first by inner inner_first inner_by : ℕ) (registers : List ℕ) (f : Form) (k : ℕ) → (outer == inner) ≡ false → outer < length registers
    → places_of outer first by registers (form_at inner (stepped inner_first inner_by k) f)
    ≡ stride (stepped (places_of inner inner_first inner_by (slice_set registers outer first) f).start (places_of inner inner_first inner_by (slice_set registers outer first) f).step k)
    (places_of outer first by registers f).step

-- a number that no turn changes
same_number : (n k : ℕ) → n % 2 ^ 64 ≡ stepped (n % 2 ^ 64) 0 k
same_number n k = let z : k * 0 ≡ 0 = omega arith in omega (arith, z)

same_term : (n x k : ℕ) → x ≡ n % 2 ^ 64 → (0 + x) % 2 ^ 64 ≡ stepped (n % 2 ^ 64) 0 k
same_term n x k h = let z : k * 0 ≡ 0 = omega arith in omega (arith, z)

-- a factor of what the variable holds, as in a list of that register alone
factor_follows : (factor first by k : ℕ) → (factor * stepped first by k) % 2 ^ 64 ≡ stepped (factor * first % 2 ^ 64) (factor * by % 2 ^ 64) k
factor_follows factor first by k = follows_variable_at factor first by k 0 0 (0 ∷ []) refl (omega arith)

-- the factor 0 makes nothing of a register
none_start : (outer first by r : ℕ) (registers : List ℕ) → (term_of outer first by 0 registers r).start ≡ 0
none_start outer first by r registers = go (r == outer)
  where
    go : (b : Bool) → (cond b (stride (0 * first % 2 ^ 64) (0 * by % 2 ^ 64)) (stride (0 * slice_index registers r % 2 ^ 64) 0)).start ≡ 0
    go true = omega arith
    go false = omega arith

none_step : (outer first by r : ℕ) (registers : List ℕ) → (term_of outer first by 0 registers r).step ≡ 0
none_step outer first by r registers = go (r == outer)
  where
    go : (b : Bool) → (cond b (stride (0 * first % 2 ^ 64) (0 * by % 2 ^ 64)) (stride (0 * slice_index registers r % 2 ^ 64) 0)).step ≡ 0
    go true = omega arith
    go false = refl

-- a register that is not the variable does not go on
other_step : (outer first by factor r : ℕ) (registers : List ℕ) → (r == outer) ≡ false → (term_of outer first by factor registers r).step ≡ 0
other_step outer first by factor r registers e = ap (λ b. (cond b (stride (factor * first % 2 ^ 64) (factor * by % 2 ^ 64)) (stride (factor * slice_index registers r % 2 ^ 64) 0)).step) e

-- sums of what two registers make, with the constant in front
shares_mod : (c one two x y : ℕ) → ((((c + one) + two) % 2 ^ 64 % 2 ^ 64 + x) % 2 ^ 64 + y) % 2 ^ 64 ≡ ((c + (one + x)) + (two + y)) % 2 ^ 64
shares_mod c one two x y = omega arith

module _ (outer first by inner inner_first inner_by : ℕ) (registers : List ℕ) (k : ℕ) (apart : (outer == inner) ≡ false) (there : outer < length registers) where
  -- what the inner variable holds in the turn
  abbrev held : ℕ
  held = stepped inner_first inner_by k

  -- registers with what the outer variable begins with
  abbrev begun : List ℕ
  begun = slice_set registers outer first

  -- what a factor makes of a register without the inner variable
  abbrev apart_term : ℕ → Register → Stride
  apart_term factor r = term_of outer first by (rest inner factor r) registers r.at

  -- what it makes of a register in the inner turns
  abbrev inner_term : ℕ → Register → Stride
  inner_term factor r = term_of inner inner_first inner_by factor begun r.at

  -- a register that is not the inner variable begins with what it holds when the outer variable begins
  outer_start : (factor r : ℕ) → (term_of outer first by factor registers r).start ≡ (factor * slice_index begun r) % 2 ^ 64
  outer_start factor r = go (r == outer) refl
    where
      go : (b : Bool) → (r == outer) ≡ b → (cond b (stride (factor * first % 2 ^ 64) (factor * by % 2 ^ 64)) (stride (factor * slice_index registers r % 2 ^ 64) 0)).start ≡ (factor * slice_index begun r) % 2 ^ 64
      go true e = ap (λ (n : ℕ). factor * n % 2 ^ 64) (sym (ap (slice_index begun) (eqb-true r outer e) ∙ get_or-set_same registers outer first 0 there))
      go false e = ap (λ (n : ℕ). factor * n % 2 ^ 64) (sym (get_or-set_other registers outer r first 0 (eqb-false r outer e)))

  -- a register begins in an inner turn as far on as the inner stride has gone
  term_start : (factor : ℕ) (r : Register) → (share inner held factor r + (apart_term factor r).start) % 2 ^ 64 ≡ stepped (inner_term factor r).start (inner_term factor r).step k
  term_start factor r = go (r.at == inner)
    where
      go : (b : Bool) → (cond b (factor * held) 0 + (term_of outer first by (cond b 0 factor) registers r.at).start) % 2 ^ 64 ≡ stepped (cond b (stride (factor * inner_first % 2 ^ 64) (factor * inner_by % 2 ^ 64)) (stride (factor * slice_index begun r.at % 2 ^ 64) 0)).start (cond b (stride (factor * inner_first % 2 ^ 64) (factor * inner_by % 2 ^ 64)) (stride (factor * slice_index begun r.at % 2 ^ 64) 0)).step k
      go true =
          ap (λ (n : ℕ). (factor * held + n) % 2 ^ 64) (none_start outer first by r.at registers)
          ∙ ap (λ (n : ℕ). n % 2 ^ 64) (omega arith)
          ∙ factor_follows factor inner_first inner_by k
      go false = same_term (factor * slice_index begun r.at) (term_of outer first by factor registers r.at).start k (outer_start factor r.at)

  -- the inner variable is not the outer one
  inner_apart : (r : ℕ) → r ≡ inner → (b : Bool) → (r == outer) ≡ b → b ≡ false
  inner_apart r is true e = absurd (eqb-false outer inner apart (sym (eqb-true r outer e) ∙ is))
  inner_apart r is false e = refl

  -- and goes on from turn to turn as without the inner variable's number
  term_step : (factor : ℕ) (r : Register) → (apart_term factor r).step ≡ (term_of outer first by factor registers r.at).step
  term_step factor r = go (r.at == inner) refl
    where
      go : (b : Bool) → (r.at == inner) ≡ b → (term_of outer first by (cond b 0 factor) registers r.at).step ≡ (term_of outer first by factor registers r.at).step
      go true e =
          none_step outer first by r.at registers
          ∙ sym (other_step outer first by factor r.at registers (inner_apart r.at (eqb-true r.at inner e) (r.at == outer) refl))
      go false e = refl

  -- both registers and the constant
  places_start : (f : Form) → (places_of outer first by registers (form_at inner held f)).start ≡ stepped (places_of inner inner_first inner_by begun f).start (places_of inner inner_first inner_by begun f).step k
  places_start f =
      let left = inner_term f.left_factor f.left in
      let right = inner_term f.right_factor f.right in
      let one = share inner held f.left_factor f.left in
      let two = share inner held f.right_factor f.right in
      let x = (apart_term f.left_factor f.left).start in
      let y = (apart_term f.right_factor f.right).start in
      shares_mod f.constant one two x y
      ∙ follows_sum ((f.constant % 2 ^ 64 + left.start) % 2 ^ 64) ((0 + left.step) % 2 ^ 64) right.start right.step k (f.constant + (one + x)) (two + y)
      (follows_sum (f.constant % 2 ^ 64) 0 left.start left.step k f.constant (one + x) (same_number f.constant k) (term_start f.left_factor f.left))
      (term_start f.right_factor f.right)

  places_step : (f : Form) → (places_of outer first by registers (form_at inner held f)).step ≡ (places_of outer first by registers f).step
  places_step f =
      ap (λ (n : ℕ). ((0 + n) % 2 ^ 64 + (apart_term f.right_factor f.right).step) % 2 ^ 64) (term_step f.left_factor f.left)
      ∙ ap (λ (n : ℕ). ((0 + (term_of outer first by f.left_factor registers f.left.at).step) % 2 ^ 64 + n) % 2 ^ 64) (term_step f.right_factor f.right)

  places_both : (f : Form) → places_of outer first by registers (form_at inner held f) ≡ stride (stepped (places_of inner inner_first inner_by begun f).start (places_of inner inner_first inner_by begun f).step k) (places_of outer first by registers f).step
  places_both f =
      ap (λ (n : ℕ). stride n (places_of outer first by registers (form_at inner held f)).step) (places_start f)
      ∙ ap (λ (n : ℕ). stride (stepped (places_of inner inner_first inner_by begun f).start (places_of inner inner_first inner_by begun f).step k) n) (places_step f)

pub nest_places : PlacesAlong
nest_places outer first by inner inner_first inner_by registers f k apart there = places_both outer first by inner inner_first inner_by registers k apart there f
