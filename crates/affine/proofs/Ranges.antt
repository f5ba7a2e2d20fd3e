-- The values of forms over boxes.
use Rattle.std.proofs.Common.{◌≡◌, ℕ, ℤ, pos, negsuc, zero, suc, ◌+◌, ◌*◌, ◌<◌, ◌≤◌, ◌+ℤ◌, ◌*ℤ◌, ◌≤ℤ◌, ◌<ℤ◌, ◌==◌, Bool, true, false, cond, List, [], ◌∷◌, All, length, get_or, take, mul-le-mul_left, int_lt, refl, sym, ap, ◌∙◌, subst, arith, fold}
use Rattle.std.proofs.lemmas.Int.{ints, by_lt_z}
use Rattle.std.proofs.lemmas.Bool.Decides.{Decides-eqb, nat_tests}
use Rattle.std.proofs.lemmas.List.Elements.{All-weaker}
use Rattle.std.proofs.lemmas.List.Sums.{fold_more}
use borrow.Author.Differences.{up, down}
use Rattle.semantics.specs.Tree.{Variable}
use Rattle.affine.specs.declared.term.Term.{Term}
use Rattle.affine.specs.declared.interval.Interval.{Interval}
use Rattle.affine.specs.declared.interval.Side.{Side}
use Rattle.affine.specs.Affine.{Affine, term_sum, IsCanonical}
use Rattle.affine.specs.Box.{interval_at, Holds, IsInside, HasNone, IsEmpty, least_end, greatest_end, side, IsRange}
use Rattle.affine.proofs.Values.{term_sum-agree}

-- ---- one product

times-rising : (c a b : ℤ) → pos 0 ≤ℤ c → a ≤ℤ b → (c *ℤ a) ≤ℤ (c *ℤ b)
times-rising (pos n) a b p h =
    let order : up a + down b ≤ up b + down a = omega (arith, ints) in
    let scaled : n * (up a + down b) ≤ n * (up b + down a) = mul-le-mul_left n order in
    omega (arith, ints)
times-rising (negsuc n) a b p h = absurd (omega (arith, ints))

times-falling : (c a b : ℤ) → c <ℤ pos 0 → a ≤ℤ b → (c *ℤ b) ≤ℤ (c *ℤ a)
times-falling (pos n) a b p h = absurd (omega (arith, ints))
times-falling (negsuc n) a b p h =
    let order : up a + down b ≤ up b + down a = omega (arith, ints) in
    let scaled : suc n * (up a + down b) ≤ suc n * (up b + down a) = mul-le-mul_left (suc n) order in
    omega (arith, ints)

-- no product with a number of an interval is below the one with the least end
product-least : (c n : ℤ) (i : Interval) → Holds i n → (c *ℤ least_end c i) ≤ℤ (c *ℤ n)
product-least c n i h = by (int_lt c (pos 0)) refl
  where
    by : (b : Bool) → int_lt c (pos 0) ≡ b → (c *ℤ cond (int_lt c (pos 0)) i.greatest i.least) ≤ℤ (c *ℤ n)
    by true e =
        subst (λ (b : Bool). (c *ℤ cond b i.greatest i.least) ≤ℤ (c *ℤ n)) (sym e) (times-falling c n i.greatest (omega (arith, ints)) h.below)
    by false e =
        subst (λ (b : Bool). (c *ℤ cond b i.greatest i.least) ≤ℤ (c *ℤ n)) (sym e) (times-rising c i.least n (omega (arith, ints)) h.above)

-- nor above the one with the greatest
product-greatest : (c n : ℤ) (i : Interval) → Holds i n → (c *ℤ n) ≤ℤ (c *ℤ greatest_end c i)
product-greatest c n i h = by (int_lt c (pos 0)) refl
  where
    by : (b : Bool) → int_lt c (pos 0) ≡ b → (c *ℤ n) ≤ℤ (c *ℤ cond (int_lt c (pos 0)) i.least i.greatest)
    by true e =
        subst (λ (b : Bool). (c *ℤ n) ≤ℤ (c *ℤ cond b i.least i.greatest)) (sym e) (times-falling c i.least n (omega (arith, ints)) h.above)
    by false e =
        subst (λ (b : Bool). (c *ℤ n) ≤ℤ (c *ℤ cond b i.least i.greatest)) (sym e) (times-rising c n i.greatest (omega (arith, ints)) h.below)

-- an end of an interval that has a number is one of its numbers
ends_held : (i : Interval) → i.least ≤ℤ i.greatest → Holds i i.least × Holds i i.greatest
ends_held i h = (record { above = omega (arith, ints); below = h }, record { above = h; below = omega (arith, ints) })

least_end_held : (c : ℤ) (i : Interval) → i.least ≤ℤ i.greatest → Holds i (least_end c i)
least_end_held c i h = elim (int_lt c (pos 0)) as (λ (b : Bool). Holds i (cond b i.greatest i.least)) [ true ↦ (ends_held i h).1 | false ↦ (ends_held i h).0 ]

greatest_end_held : (c : ℤ) (i : Interval) → i.least ≤ℤ i.greatest → Holds i (greatest_end c i)
greatest_end_held c i h = elim (int_lt c (pos 0)) as (λ (b : Bool). Holds i (cond b i.least i.greatest)) [ true ↦ (ends_held i h).0 | false ↦ (ends_held i h).1 ]

-- ---- all terms, each at an end of its variable's interval

-- how an end is chosen for a coefficient
abbrev pub Choice : Type 0
Choice = ℤ → Interval → ℤ

-- a term at the end
abbrev pub product_at : Choice → List Side → Term → ℤ
product_at choose box t = t.coefficient *ℤ choose t.coefficient (interval_at box t.variable.0)

-- the sum of the terms at their ends
pub end_sum : Choice → List Side → List Term → ℤ
end_sum choose box [] = pos 0
end_sum choose box (t ∷ ts) = product_at choose box t +ℤ end_sum choose box ts

-- the sum so far, in a loop over the terms
abbrev pub sum_so_far : Choice → List Side → ℤ → List Term → ℤ
sum_so_far choose box n ts = fold (λ m t. m +ℤ product_at choose box t) n ts

pub sum_so_far-is : (choose : Choice) (box : List Side) (n : ℤ) (ts : List Term) → sum_so_far choose box n ts ≡ n +ℤ end_sum choose box ts
unfolding end_sum
sum_so_far-is choose box n [] = omega (arith, ints)
sum_so_far-is choose box n (t ∷ ts) =
    sum_so_far-is choose box (n +ℤ product_at choose box t) ts ∙ grouped n (product_at choose box t) (end_sum choose box ts)
  where
    grouped : (a b c : ℤ) → (a +ℤ b) +ℤ c ≡ a +ℤ (b +ℤ c)
    grouped a b c = omega (arith, ints)

-- the loop's step
pub sum_so_far-more : (choose : Choice) (box : List Side) (n : ℤ) (ts : List Term) (i : ℕ) (d : Term) (c : ℤ) (interval : Interval) (a b : ℤ) → i < length ts
    → c ≡ (get_or ts i d).coefficient → interval ≡ interval_at box (get_or ts i d).variable.0 → a ≡ sum_so_far choose box n (take i ts)
    → b ≡ c *ℤ choose c interval → a +ℤ b ≡ sum_so_far choose box n (take (i + 1) ts)
sum_so_far-more choose box n ts i d c interval a b l is at so_far product =
    let t = get_or ts i d in
    let next : b ≡ product_at choose box t =
    product ∙ ap (λ (m : ℤ). m *ℤ choose m interval) is ∙ ap (λ (j : Interval). t.coefficient *ℤ choose t.coefficient j) at in
    ap (λ (m : ℤ). m +ℤ b) so_far ∙ ap (λ (m : ℤ). sum_so_far choose box n (take i ts) +ℤ m) next
    ∙ sym (fold_more (λ m u. m +ℤ product_at choose box u) n ts i d l)

-- the values at which each term is at its end
corner : Choice → List Side → List Term → Variable → ℤ
corner choose box [] x = (interval_at box x).least
corner choose box (t ∷ ts) x = cond (x == t.variable.0) (choose t.coefficient (interval_at box x)) (corner choose box ts x)

term_sum-corner : (choose : Choice) (box : List Side) (ts : List Term) → IsCanonical ts → term_sum ts (corner choose box ts) ≡ end_sum choose box ts
unfolding corner end_sum
term_sum-corner choose box [] h = refl
term_sum-corner choose box (t ∷ ts) h =
    let own : t.variable.0 == t.variable.0 ≡ true = (Decides-eqb t.variable.0 t.variable.0).1 refl in
    let apart : All (λ u. corner choose box (t ∷ ts) u.variable.0 ≡ corner choose box ts u.variable.0) ts =
    All-weaker (λ (u : Term). t.variable.0 < u.variable.0) (λ (u : Term). corner choose box (t ∷ ts) u.variable.0 ≡ corner choose box ts u.variable.0)
    (λ u less. let other : u.variable.0 == t.variable.0 ≡ false = grind (arith, nat_tests) in
    ap (λ (b : Bool). cond b (choose t.coefficient (interval_at box u.variable.0)) (corner choose box ts u.variable.0)) other) ts h.1 in
    ap (λ (b : Bool). t.coefficient *ℤ cond b (choose t.coefficient (interval_at box t.variable.0)) (corner choose box ts t.variable.0) +ℤ term_sum ts (corner choose box (t ∷ ts))) own
    ∙ ap (λ (n : ℤ). product_at choose box t +ℤ n) (term_sum-agree ts (corner choose box (t ∷ ts)) (corner choose box ts) apart ∙ term_sum-corner choose box ts h.2)

corner_inside : (choose : Choice) (box : List Side) (ts : List Term) → ((x : Variable) → (interval_at box x).least ≤ℤ (interval_at box x).greatest)
    → ((c : ℤ) (i : Interval) → i.least ≤ℤ i.greatest → Holds i (choose c i)) → IsInside box (corner choose box ts)
unfolding corner
corner_inside choose box [] some held x = (ends_held (interval_at box x) (some x)).0
corner_inside choose box (t ∷ ts) some held x =
    elim (x == t.variable.0) as (λ (b : Bool). Holds (interval_at box x) (cond b (choose t.coefficient (interval_at box x)) (corner choose box ts x)))
    [ true ↦ held t.coefficient (interval_at box x) (some x) | false ↦ corner_inside choose box ts some held x ]

end_sum-least : (box : List Side) (ts : List Term) (v : Variable → ℤ) → IsInside box v → end_sum least_end box ts ≤ℤ term_sum ts v
unfolding end_sum
end_sum-least box [] v h = omega (arith, ints)
end_sum-least box (t ∷ ts) v h =
    both _ _ _ _ (product-least t.coefficient (v t.variable.0) (interval_at box t.variable.0) (h t.variable.0)) (end_sum-least box ts v h)
  where
    both : (a b c d : ℤ) → a ≤ℤ b → c ≤ℤ d → (a +ℤ c) ≤ℤ (b +ℤ d)
    both a b c d p q = omega (arith, ints)

end_sum-greatest : (box : List Side) (ts : List Term) (v : Variable → ℤ) → IsInside box v → term_sum ts v ≤ℤ end_sum greatest_end box ts
unfolding end_sum
end_sum-greatest box [] v h = omega (arith, ints)
end_sum-greatest box (t ∷ ts) v h =
    both _ _ _ _ (product-greatest t.coefficient (v t.variable.0) (interval_at box t.variable.0) (h t.variable.0)) (end_sum-greatest box ts v h)
  where
    both : (a b c d : ℤ) → a ≤ℤ b → c ≤ℤ d → (a +ℤ c) ≤ℤ (b +ℤ d)
    both a b c d p q = omega (arith, ints)

-- ---- boxes

-- a box that is not empty has a number for each variable
some_number : (box : List Side) → ¬ (IsEmpty box) → (x : Variable) → (interval_at box x).least ≤ℤ (interval_at box x).greatest
some_number box h x =
    by_lt_z (interval_at box x).greatest (interval_at box x).least (λ (e : (interval_at box x).greatest <ℤ (interval_at box x).least). absurd (h (x, e))) (λ e. e)

-- the sums of the ends are the range
pub range_of_ends : (form : Affine) (box : List Side) (least greatest : ℤ) → IsCanonical form.terms → ¬ (IsEmpty box)
    → least ≡ sum_so_far least_end box form.constant form.terms → greatest ≡ sum_so_far greatest_end box form.constant form.terms → IsRange form box least greatest
range_of_ends form box least greatest h some p q =
    let low = p ∙ sum_so_far-is least_end box form.constant form.terms in
    let high = q ∙ sum_so_far-is greatest_end box form.constant form.terms in
    let shift = λ (n : ℤ). form.constant +ℤ n in
    record {
      within = λ v inside. (above form.constant _ _ least low (end_sum-least box form.terms v inside), below form.constant _ _ greatest high (end_sum-greatest box form.terms v inside));
      least_reached =
          record {
            values = corner least_end box form.terms;
            inside = corner_inside least_end box form.terms (some_number box some) least_end_held;
            gives = ap shift (term_sum-corner least_end box form.terms h) ∙ sym low;
          };
      greatest_reached =
          record {
            values = corner greatest_end box form.terms;
            inside = corner_inside greatest_end box form.terms (some_number box some) greatest_end_held;
            gives = ap shift (term_sum-corner greatest_end box form.terms h) ∙ sym high;
          };
    }
  where
    above : (c s t n : ℤ) → n ≡ c +ℤ s → s ≤ℤ t → n ≤ℤ (c +ℤ t)
    above c s t n e k = omega (arith, ints)

    below : (c s t n : ℤ) → n ≡ c +ℤ s → t ≤ℤ s → (c +ℤ t) ≤ℤ n
    below c s t n e k = omega (arith, ints)

-- a box with values inside is not empty
pub not_empty_inside : (box : List Side) (v : Variable → ℤ) → IsInside box v → ¬ (IsEmpty box)
not_empty_inside box v h e = let held = h e.0 in let none = e.1 in omega (arith, ints, held.above, held.below, none)

-- a variable with no number is one of a side
named : (ss : List Side) (x : Variable) (d : Side) → HasNone (interval_at ss x) → (k : ℕ) × (k < length ss) × ((get_or ss k d).variable.0 ≡ x)
named [] x d h = absurd h.lt
named (s ∷ ss) x d h = by (λ k. named ss x d k) (s.variable.0 == x) refl
  where
    by : (HasNone (interval_at ss x) → (k : ℕ) × (k < length ss) × ((get_or ss k d).variable.0 ≡ x)) → (b : Bool) → s.variable.0 == x ≡ b
        → (k : ℕ) × (k < length (s ∷ ss)) × ((get_or (s ∷ ss) k d).variable.0 ≡ x)
    by rest true e = (zero, omega arith, (Decides-eqb s.variable.0 x).0 e)
    by rest false e =
        let r = rest (subst (λ (b : Bool). HasNone (cond b s.interval (interval_at ss x))) e h) in
        (suc r.0, omega arith, r.2)

-- where no side's variable lacks a number, the box is not empty
pub not_empty : (box : List Side) → ((k : ℕ) (d : Side) → k < length box → ¬ (HasNone (interval_at box (get_or box k d).variable.0))) → ¬ (IsEmpty box)
not_empty box h e =
    let d = side 0 (pos 0) (pos 0) in
    let at = named box e.0 d e.1 in
    h at.0 d at.1 (subst (λ (x : ℕ). HasNone (interval_at box x)) (sym at.2) e.1)
