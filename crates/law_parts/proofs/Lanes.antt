-- Turns with cells of their own run in lanes.
use Rattle.std.proofs.Common.{◌≡◌, ◌≢◌, ◌⊎◌, inl, inr, ℕ, suc, ◌+◌, ◌<◌, ◌≤◌, Bool, true, false, List, [], ◌∷◌, refl, sym, ◌∙◌, subst, arith}
use Rattle.std.specs.Prelude.{slice_set, ◌&&◌, ◌||◌, Contains}
use Rattle.std.proofs.lemmas.Bool.{and_parts, true≢false}
use Rattle.std.proofs.lemmas.List.Elements.{Contains-append_left}
use Rattle.lower_machine.specs.Machine.{Machine, machine}
use Rattle.lower_op.specs.declared.op.Op.{Op}
use Rattle.lower_op.specs.declared.op.Op.TheVariants.{UpdateFrom}
use Rattle.law_lanes.specs.Reading.{AreClear, loads, may_meet, saves, touches}
use Rattle.law_lanes.specs.Lanes.{AreInOrder}
use Rattle.law_lanes.proofs.Ops.{at, from, place_at, source_at}
use Rattle.law_lanes.proofs.Lanes.{tail_there}
use Rattle.law_parts.specs.Parts.{IsBetween, IsBeside, KeepApart, later, TurnsApartAreLanes}

-- an instruction that does not both read and write has one place
from_saves : (a : Op) (r : List ℕ) → saves a ≡ false → from a r ≡ at a r
from_saves (UpdateFrom op f d b) r e = absurd (true≢false e)
from_saves a r e = refl

from_loads : (a : Op) (r : List ℕ) → loads a ≡ false → from a r ≡ at a r
from_loads (UpdateFrom op f d b) r e = absurd (true≢false e)
from_loads a r e = refl

or_first : (a b : Bool) → b ≡ false → (a || b) ≡ true → a ≡ true
or_first true b e h = refl
or_first false b e h = absurd (true≢false (sym h ∙ e))

or_other : (a b : Bool) → a ≡ false → (a || b) ≡ true → b ≡ true
or_other true b e h = absurd (true≢false e)
or_other false b e h = h

module _ (variable : ℕ) (value : ℕ → ℕ) (ops : List Op) (n : ℕ) (m : Machine) (bound : ℕ → ℕ) (apart : KeepApart variable value ops n m bound) where
  -- the registers in which a turn makes its places
  abbrev lane : ℕ → List ℕ
  lane t = slice_set m.registers variable (value t)

  abbrev Own : ℕ → ℕ → Type 0
  Own t p = IsBetween (bound t) (bound (suc t)) p

  -- a turn's own place, or no turn's
  abbrev Used : ℕ → ℕ → Type 0
  Used t p = Own t p ⊎ IsBeside (bound 0) (bound n) p

  module _ (a : Op) (t : ℕ) (there : Contains ops a) (lt : t < n) where
    place_own : saves a ≡ true → Own t (at a (lane t))
    place_own s = subst (Own t) (place_at a (lane t) m.cells) (apart.writes a t there lt s)

    source_used : loads a ≡ true → Used t (from a (lane t))
    source_used l = subst (Used t) (source_at a (lane t) m.cells) (apart.reads a t there lt l)

    at_used : touches a ≡ true → Used t (at a (lane t))
    at_used h = go (saves a) refl
      where
        go : (b : Bool) → saves a ≡ b → Used t (at a (lane t))
        go true e = inl (place_own e)
        go false e = subst (Used t) (from_saves a (lane t) e) (source_used (or_first (loads a) (saves a) e h))

    from_used : touches a ≡ true → Used t (from a (lane t))
    from_used h = go (loads a) refl
      where
        go : (b : Bool) → loads a ≡ b → Used t (from a (lane t))
        go true e = source_used e
        go false e = inl (subst (Own t) (sym (from_loads a (lane t) e)) (place_own (or_other (loads a) (saves a) e h)))

  -- a turn's own place is none that a later one uses
  own_used : (t u p q : ℕ) → t < u → u < n → Own t p → Used u q → p ≢ q
  own_used t u p q lt in_n own (inl used) e = let rise = apart.rise (suc t) u lt in let high = own.high in let low = used.low in omega (arith, rise, high, low, e)
  own_used t u p q lt in_n own (inr (inl used)) e = let rise = apart.rise 0 t (omega arith) in let low = own.low in omega (arith, rise, low, used, e)
  own_used t u p q lt in_n own (inr (inr used)) e = let rise = apart.rise (suc t) n (omega (arith, lt, in_n)) in let high = own.high in omega (arith, rise, high, used, e)

  -- nor one that an earlier one uses
  used_own : (t u p q : ℕ) → t < u → u < n → Used t p → Own u q → p ≢ q
  used_own t u p q lt in_n (inl used) own e = let rise = apart.rise (suc t) u lt in let high = used.high in let low = own.low in omega (arith, rise, high, low, e)
  used_own t u p q lt in_n (inr (inl used)) own e = let rise = apart.rise 0 u (omega arith) in let low = own.low in omega (arith, rise, low, used, e)
  used_own t u p q lt in_n (inr (inr used)) own e = let rise = apart.rise (suc u) n in_n in let high = own.high in omega (arith, rise, high, used, e)

  module _ (a b : Op) (t u : ℕ) (a_there : Contains ops a) (b_there : Contains ops b) (meet : may_meet a b ≡ true) (lt : t < u) (in_n : u < n) where
    t_in : t < n
    t_in = omega (arith, lt, in_n)

    touch : (touches a ≡ true) × (touches b ≡ true)
    touch = and_parts (touches a) (touches b) (and_parts (touches a && touches b) (saves a || saves b) meet).0

    first_apart : saves a ≡ true → at a (lane t) ≢ at b (lane u)
    first_apart s = own_used t u (at a (lane t)) (at b (lane u)) lt in_n (place_own a t a_there t_in s) (at_used b u b_there in_n touch.1)

    second_apart : saves b ≡ true → at a (lane t) ≢ at b (lane u)
    second_apart s = used_own t u (at a (lane t)) (at b (lane u)) lt in_n (at_used a t a_there t_in touch.0) (place_own b u b_there in_n s)

    places_apart : at a (lane t) ≢ at b (lane u)
    places_apart = go (saves a) refl
      where
        go : (s : Bool) → saves a ≡ s → at a (lane t) ≢ at b (lane u)
        go true e = first_apart e
        go false e = second_apart (or_other (saves a) (saves b) e (and_parts (touches a && touches b) (saves a || saves b) meet).1)

    clear : (cells : List ℕ) → AreClear a (machine (lane t) cells) b (machine (lane u) cells)
    clear cells = record {
      places = λ e. places_apart (sym (place_at a (lane t) cells) ∙ e ∙ place_at b (lane u) cells);
      first = λ s e. used_own t u (from a (lane t)) (at b (lane u)) lt in_n (from_used a t a_there t_in touch.0) (place_own b u b_there in_n s) (sym (source_at a (lane t) cells) ∙ e ∙ place_at b (lane u) cells);
      second = λ s e. own_used t u (at a (lane t)) (from b (lane u)) lt in_n (place_own a t a_there t_in s) (from_used b u b_there in_n touch.1) (sym (place_at a (lane t) cells) ∙ e ∙ source_at b (lane u) cells);
    }

  module _ (first count : ℕ) (le : first + count ≤ n) (cells : List ℕ) where
    in_order : (tail : List Op) → ((a : Op) → Contains tail a → Contains ops a) → AreInOrder variable (later value first) tail count (machine m.registers cells)
    in_order [] sub = tt
    in_order (op ∷ tail) sub = (
      (λ a b j k a_there b_there meet lt in_count. clear a b (first + j) (first + k) (sub a (tail_there op tail a a_there)) (sub b (Contains-append_left (op ∷ []) tail b b_there)) meet (omega (arith, lt)) (omega (arith, in_count, le)) cells),
      in_order tail (λ a there. sub a (tail_there op tail a there)),
    )

pub lanes_law : TurnsApartAreLanes
lanes_law variable value ops n m bound first count cells apart le =
    record { own = apart.own; steady = apart.steady; apart = in_order variable value ops n m bound apart first count le cells ops (λ a there. there) }
