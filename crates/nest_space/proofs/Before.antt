-- The number of the vector that lies so far before another one.
use Rattle.std.specs.Prelude.{ℕ, suc, ◌≡◌, ◌+◌, ◌*◌, ◌<◌, ◌≤◌, ◌^◌, ◌-ℤ◌, ℤ, pos, List, [], ◌∷◌, drop, length, Option, Some, None, slice_get}
use Rattle.std.proofs.Common.{refl, sym, ap, ◌∙◌, subst, arith}
use Rattle.std.proofs.Math.Nat.{add-mul, mul_assoc, mul-le-mul_left, mul-le-mul_right}
use Rattle.std.proofs.lemmas.List.{drop_all}
use Rattle.std.proofs.lemmas.List.Elements.{All-head, All-tail}
use Rattle.std.proofs.lemmas.Option.{slice_get_within, same_Some}
use Rattle.semantics.specs.Meaning.Value.{both}
use Rattle.semantics.specs.Loops.Nest.{Vector}
use Rattle.semantics.specs.Loops.Order.{Distance, as_number, before_by}
use Rattle.nest_space.specs.Space.{Turns, values_of, vectors, product}
use Rattle.nest_space.specs.Numbers.{EachTurns}
use Rattle.nest_space.specs.Sinks.{Fits, IsSinkAt, HasNoSink}
use Rattle.nest_space.proofs.Counted.{found_at}
use Rattle.nest_space.proofs.Places.{length-vectors, number_law, pair_found, product_above}
use Rattle.nest_space.proofs.Onward.{turns_from}

-- both are there
pub record Parts (a : Option ℕ) (b : Option Vector) (w : Vector) : Type 0 where
  pub head : ℕ
  pub tail : Vector
  pub is_head : a ≡ Some head
  pub is_tail : b ≡ Some tail
  pub whole : head ∷ tail ≡ w

pub parts : (a : Option ℕ) (b : Option Vector) (w : Vector) → both (λ v vs. v ∷ vs) a b ≡ Some w → Parts a b w
parts (Some x) (Some y) w e = record { head = x; tail = y; is_head = refl; is_tail = refl; whole = same_Some _ _ e }
parts (Some x) None w e = absurd cc
parts None b w e = absurd cc

-- a distance of another length leads nowhere
same_length : (u : Vector) (d : Distance) (w : Vector) → before_by u d ≡ Some w → length d ≡ length u
same_length [] [] w e = refl
same_length [] (d ∷ ds) w e = absurd cc
same_length (v ∷ vs) [] w e = absurd cc
same_length (v ∷ vs) (d ∷ ds) w e = let p = parts (as_number (pos v -ℤ d)) (before_by vs ds) w e in ap suc (same_length vs ds p.tail p.is_tail)

pub other_length : (space : List Vector) (u : Vector) (d : Distance) → (length d ≡ length u → ⊥) → HasNoSink space u d
other_length space u d other = λ w e fit j is. other (same_length u d w e)

-- a space without vectors
pub no_vectors : (ts : List Turns) (u : Vector) (d : Distance) → product ts ≡ 0 → HasNoSink (vectors ts) u d
no_vectors ts u d none = λ w e fit j is.
    let lt = slice_get_within (vectors ts) j w is in
    let size = length-vectors ts in
    omega (arith, lt, size, none)

-- one loop and those inside it
module _ (t : Turns) (ts : List Turns) (v : ℕ) (vs : Vector) (d : ℤ) (ds : Distance) where
  pub sink_with : (x q r : ℕ) → as_number (pos v -ℤ d) ≡ Some x → slice_get (values_of t) q ≡ Some x → IsSinkAt (vectors ts) vs ds r
      → IsSinkAt (vectors (t ∷ ts)) (v ∷ vs) (d ∷ ds) (q * product ts + r)
  sink_with x q r there turn at = record {
    vector = x ∷ at.vector;
    before = ap (λ o. both (λ v vs. v ∷ vs) o (before_by vs ds)) there ∙ ap (both (λ v vs. v ∷ vs) (Some x)) at.before;
    is = number_law t ts q r x at.vector turn at.is;
  }

  -- what a sink would be made of
  record Made (w : Vector) (j : ℕ) : Type 0 where
    number : ℕ
    others : Vector
    is_number : as_number (pos v -ℤ d) ≡ Some number
    is_others : before_by vs ds ≡ Some others
    small : number < 2 ^ 64
    fit : Fits others
    turn : ℕ
    turns : slice_get (values_of t) turn ≡ Some number
    inner : ℕ
    stands : slice_get (vectors ts) inner ≡ Some others

  made : (w : Vector) (j : ℕ) → before_by (v ∷ vs) (d ∷ ds) ≡ Some w → Fits w → slice_get (vectors (t ∷ ts)) j ≡ Some w → Made w j
  made w j e fit is =
      let p = parts (as_number (pos v -ℤ d)) (before_by vs ds) w e in
      let fits = subst Fits (sym p.whole) fit in
      let pair = pair_found (values_of t) (vectors ts) j p.head p.tail (is ∙ ap Some (sym p.whole)) in
      record {
        number = p.head;
        others = p.tail;
        is_number = p.is_head;
        is_others = p.is_tail;
        small = All-head (λ x. x < 2 ^ 64) p.head p.tail fits;
        fit = All-tail (λ x. x < 2 ^ 64) p.head p.tail fits;
        turn = pair.outer;
        turns = pair.value;
        inner = pair.inner;
        stands = pair.vector;
      }

  pub no_others : HasNoSink (vectors ts) vs ds → HasNoSink (vectors (t ∷ ts)) (v ∷ vs) (d ∷ ds)
  no_others none = λ w e fit j is. let m = made w j e fit is in none m.others m.is_others m.fit m.inner m.stands

  pub no_number : ((w : ℕ) → as_number (pos v -ℤ d) ≡ Some w → w < 2 ^ 64 → ⊥) → HasNoSink (vectors (t ∷ ts)) (v ∷ vs) (d ∷ ds)
  no_number none = λ w e fit j is. let m = made w j e fit is in none m.number m.is_number m.small

  pub no_turn : (x : ℕ) → as_number (pos v -ℤ d) ≡ Some x → ((k : ℕ) → slice_get (values_of t) k ≡ Some x → ⊥) → HasNoSink (vectors (t ∷ ts)) (v ∷ vs) (d ∷ ds)
  no_turn x there none = λ w e fit j is.
      let m = made w j e fit is in
      none m.turn (m.turns ∙ ap Some (same_Some m.number x (sym m.is_number ∙ there)))

-- the number of the outer loops' turns, and what it makes of the inner loops' number
pub record IsReached (ts : List Turns) (vs : Vector) (ds : Distance) (i number : ℕ) : Type 0 where
  pub found : (r : ℕ) → IsSinkAt (vectors (drop i ts)) (drop i vs) (drop i ds) r → IsSinkAt (vectors ts) vs ds (number * product (drop i ts) + r)
  pub none : HasNoSink (vectors (drop i ts)) (drop i vs) (drop i ds) → HasNoSink (vectors ts) vs ds
  pub few : (number + 1) * product (drop i ts) ≤ product ts

pub reached_first : (ts : List Turns) (vs : Vector) (ds : Distance) → IsReached ts vs ds 0 0
reached_first ts vs ds = record {
  found = λ r at. subst (IsSinkAt (vectors ts) vs ds) (let none : r ≡ 0 * product ts + r = omega arith in none) at;
  none = λ none. none;
  few = omega arith;
}

module _ (ts us : List Turns) (vs vs' : Vector) (ds ds' : Distance) (i number : ℕ) (t : Turns) (v : ℕ) (d : ℤ)
    (ts_is : drop i ts ≡ t ∷ us) (vs_is : drop i vs ≡ v ∷ vs') (ds_is : drop i ds ≡ d ∷ ds') (reached : IsReached ts vs ds i number) where
  -- what is said of a loop and those inside it
  without : HasNoSink (vectors (t ∷ us)) (v ∷ vs') (d ∷ ds') → HasNoSink (vectors ts) vs ds
  without none =
      reached.none
      (subst (λ (us : List Turns). HasNoSink (vectors us) (drop i vs) (drop i ds)) (sym ts_is)
      (subst (λ (vs : Vector). HasNoSink (vectors (t ∷ us)) vs (drop i ds)) (sym vs_is)
      (subst (λ (ds : Distance). HasNoSink (vectors (t ∷ us)) (v ∷ vs') ds) (sym ds_is) none)))

  pub not_reached : ((w : ℕ) → as_number (pos v -ℤ d) ≡ Some w → w < 2 ^ 64 → ⊥) → HasNoSink (vectors ts) vs ds
  not_reached none = without (no_number t us v vs' d ds' none)

  pub not_turned : (x : ℕ) → as_number (pos v -ℤ d) ≡ Some x → ((k : ℕ) → slice_get (values_of t) k ≡ Some x → ⊥) → HasNoSink (vectors ts) vs ds
  not_turned x there none = without (no_turn t us v vs' d ds' x there none)

  -- the number with one loop more
  module _ (x turn : ℕ) (there : as_number (pos v -ℤ d) ≡ Some x) (turns : slice_get (values_of t) turn ≡ Some x) where
    within : turn < t.count
    within = (found_at t turn x turns).turn

    few : (number * t.count + turn + 1) * product us ≤ product ts
    few =
        let row : (number + 1) * t.count ≡ number * t.count + 1 * t.count = add-mul number 1 t.count in
        let lt = within in
        let less : number * t.count + turn + 1 ≤ (number + 1) * t.count = omega (arith, row, lt) in
        let all : (number + 1) * t.count * product us ≡ (number + 1) * product (drop i ts) = mul_assoc (number + 1) t.count (product us) ∙ ap (λ us. (number + 1) * product us) (sym ts_is) in
        let most = mul-le-mul_right (product us) less in
        let bound = reached.few in
        omega (arith, all, most, bound)

    found : (r : ℕ) → IsSinkAt (vectors us) vs' ds' r → IsSinkAt (vectors ts) vs ds ((number * t.count + turn) * product us + r)
    found r at =
        let whole : number * product (drop i ts) + (turn * product us + r) ≡ (number * t.count + turn) * product us + r =
        (let row = add-mul (number * t.count) turn (product us) in
        let all : number * t.count * product us ≡ number * product (drop i ts) = mul_assoc number t.count (product us) ∙ ap (λ us. number * product us) (sym ts_is) in
        omega (arith, row, all)) in
        subst (IsSinkAt (vectors ts) vs ds) whole
        (reached.found (turn * product us + r)
        (subst (λ (us' : List Turns). IsSinkAt (vectors us') (drop i vs) (drop i ds) (turn * product us + r)) (sym ts_is)
        (subst (λ (vs : Vector). IsSinkAt (vectors (t ∷ us)) vs (drop i ds) (turn * product us + r)) (sym vs_is)
        (subst (λ (ds : Distance). IsSinkAt (vectors (t ∷ us)) (v ∷ vs') ds (turn * product us + r)) (sym ds_is)
        (sink_with t us v vs' d ds' x turn r there turns at)))))

    pub reached_more : us ≡ drop (i + 1) ts → vs' ≡ drop (i + 1) vs → ds' ≡ drop (i + 1) ds → IsReached ts vs ds (i + 1) (number * t.count + turn)
    reached_more p q r = record {
      found = subst (λ (us : List Turns). (r : ℕ) → IsSinkAt (vectors us) (drop (i + 1) vs) (drop (i + 1) ds) r → IsSinkAt (vectors ts) vs ds ((number * t.count + turn) * product us + r)) p
          (subst (λ (vs' : Vector). (r : ℕ) → IsSinkAt (vectors us) vs' (drop (i + 1) ds) r → IsSinkAt (vectors ts) vs ds ((number * t.count + turn) * product us + r)) q
          (subst (λ (ds' : Distance). (r : ℕ) → IsSinkAt (vectors us) vs' ds' r → IsSinkAt (vectors ts) vs ds ((number * t.count + turn) * product us + r)) r found));
      none = λ none. without (no_others t us v vs' d ds'
          (subst (λ (us : List Turns). HasNoSink (vectors us) vs' ds') (sym p)
          (subst (λ (vs' : Vector). HasNoSink (vectors (drop (i + 1) ts)) vs' ds') (sym q)
          (subst (λ (ds' : Distance). HasNoSink (vectors (drop (i + 1) ts)) (drop (i + 1) vs) ds') (sym r) none))));
      few = subst (λ (us : List Turns). (number * t.count + turn + 1) * product us ≤ product ts) p few;
    }

-- behind the innermost loop
pub reached_all : (ts : List Turns) (vs : Vector) (ds : Distance) (i number : ℕ) → length vs ≡ length ts → length ds ≡ length ts → length ts ≤ i → IsReached ts vs ds i number
    → IsSinkAt (vectors ts) vs ds number
reached_all ts vs ds i number p q le reached =
    let loops : drop i ts ≡ [] = drop_all i ts le in
    let values : drop i vs ≡ [] = drop_all i vs (omega (arith, le, p)) in
    let distance : drop i ds ≡ [] = drop_all i ds (omega (arith, le, q)) in
    let one : number * product (drop i ts) + 0 ≡ number = ap (λ (us : List Turns). number * product us + 0) loops ∙ (let e : number * 1 + 0 ≡ number = omega arith in e) in
    let none : IsSinkAt (vectors []) [] [] 0 = record { vector = []; before = refl; is = refl } in
    subst (IsSinkAt (vectors ts) vs ds) one
    (reached.found 0
    (subst (λ (us : List Turns). IsSinkAt (vectors us) (drop i vs) (drop i ds) 0) (sym loops)
    (subst (λ (us : Vector). IsSinkAt (vectors []) us (drop i ds) 0) (sym values)
    (subst (λ (us : Distance). IsSinkAt (vectors []) [] us 0) (sym distance) none))))

-- the number is small
pub small_number : (ts : List Turns) (i number : ℕ) (vs : Vector) (ds : Distance) → EachTurns ts → product ts ≤ 2 ^ 24 → IsReached ts vs ds i number → number < 2 ^ 24
small_number ts i number vs ds h most reached =
    let some = product_above (drop i ts) (turns_from ts i h) in
    let few = reached.few in
    let more = mul-le-mul_left (number + 1) some in
    let one : (number + 1) * 1 ≡ number + 1 = omega arith in
    omega (arith, most, few, more, one)
