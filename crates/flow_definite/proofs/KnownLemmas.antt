-- How changes of what is known are seen.
use Rattle.std.proofs.Common.{◌≡◌, ◌≢◌, ℕ, zero, suc, ◌+◌, ◌<◌, ◌≤◌, Bool, true, false, cond, List, [], ◌∷◌, ◌++◌, length, get_or, refl, sym, ap, ◌∙◌, arith}
use Rattle.std.specs.Prelude.{◌==◌, ◌&&◌, nat_lt, slice_set, replicate}
use Rattle.std.proofs.Math.Path.{fun_ext}
use Rattle.std.proofs.lemmas.Bool.{eqb-true, eqb-false, ltb-true, ltb-false, lt-ltb, le-ltb}
use Rattle.semantics.specs.Meaning.Definite.{DefinitelyAssigned, known_with}
use Rattle.flow_definite.specs.Judged.{known_of}

pushed_at : (others : Bool) (bs : List Bool) (x : ℕ) → known_of (bs ++ others ∷ [], others) x ≡ known_of (bs, others) x
pushed_at others [] zero = refl
pushed_at others [] (suc x) = refl
pushed_at others (b ∷ bs) zero = refl
pushed_at others (b ∷ bs) (suc x) = pushed_at others bs x

-- one more that is known as those behind the last changes nothing
pub pushed : (others : Bool) (bs : List Bool) → known_of (bs ++ others ∷ [], others) ≡ known_of (bs, others)
pushed others bs = fun_ext (pushed_at others bs)

-- behind the last all are known alike
pub past : (others : Bool) (bs : List Bool) (x : ℕ) → length bs ≤ x → known_of (bs, others) x ≡ others
past others [] x le = refl
past others (b ∷ bs) zero le = absurd (omega arith)
past others (b ∷ bs) (suc x) le = past others bs x (omega arith)

set_same : (others : Bool) (bs : List Bool) (i : ℕ) (b : Bool) → i < length bs → known_of (slice_set bs i b, others) i ≡ b
set_same others [] i b lt = absurd (omega arith)
set_same others (c ∷ bs) zero b lt = refl
set_same others (c ∷ bs) (suc i) b lt = set_same others bs i b (omega arith)

set_other : (others : Bool) (bs : List Bool) (i j : ℕ) (b : Bool) → j ≢ i → known_of (slice_set bs i b, others) j ≡ known_of (bs, others) j
set_other others [] i j b ne = refl
set_other others (c ∷ bs) zero zero b ne = absurd (ne refl)
set_other others (c ∷ bs) zero (suc j) b ne = refl
set_other others (c ∷ bs) (suc i) zero b ne = refl
set_other others (c ∷ bs) (suc i) (suc j) b ne = set_other others bs i j b (λ e. ne (ap suc e))

set_at : (others : Bool) (bs : List Bool) (i : ℕ) (b : Bool) → i < length bs → (j : ℕ) → known_of (slice_set bs i b, others) j ≡ known_with (known_of (bs, others)) i b j
set_at others bs i b lt j = go (j == i) refl
  where
    go : (t : Bool) → (j == i) ≡ t → known_of (slice_set bs i b, others) j ≡ cond t b (known_of (bs, others) j)
    go true e = ap (λ k. known_of (slice_set bs i b, others) k) (eqb-true j i e) ∙ set_same others bs i b lt
    go false e = set_other others bs i j b (eqb-false j i e)

-- one that is set is the one that changes
pub set : (others : Bool) (bs : List Bool) (i : ℕ) (b : Bool) → i < length bs → known_of (slice_set bs i b, others) ≡ known_with (known_of (bs, others)) i b
set others bs i b lt = fun_ext (set_at others bs i b lt)

-- the first of these are known only where those are
abbrev pub met_below : DefinitelyAssigned → DefinitelyAssigned → ℕ → DefinitelyAssigned
met_below a b n y = cond (nat_lt y n) (a y && b y) (a y)

pub met_none : (a b : DefinitelyAssigned) → a ≡ met_below a b 0
met_none a b = fun_ext (λ y. ap (λ t. cond t (a y && b y) (a y)) (sym (le-ltb y 0 (omega arith))))

met_at : (a b : DefinitelyAssigned) (i : ℕ) (y : ℕ) (t u : Bool) → nat_lt y i ≡ t → (y == i) ≡ u → met_below a b (i + 1) y ≡ cond u (a i && b i) (cond t (a y && b y) (a y))
met_at a b i y true true e f =
    let lt : y < i = ltb-true y i e in
    let is : y ≡ i = eqb-true y i f in
    absurd (omega arith)
met_at a b i y true false e f =
    let lt : y < i = ltb-true y i e in
    ap (λ v. cond v (a y && b y) (a y)) (lt-ltb y (i + 1) (omega arith))
met_at a b i y false true e f =
    let is : y ≡ i = eqb-true y i f in
    ap (λ v. cond v (a y && b y) (a y)) (lt-ltb y (i + 1) (omega arith)) ∙ ap (λ z. a z && b z) is
met_at a b i y false false e f =
    let le : i ≤ y = ltb-false y i e in
    let ne : y ≢ i = eqb-false y i f in
    ap (λ v. cond v (a y && b y) (a y)) (le-ltb y (i + 1) (omega arith))

-- one more
met_on : (a b : DefinitelyAssigned) (i : ℕ) → known_with (met_below a b i) i (met_below a b i i && b i) ≡ met_below a b (i + 1)
met_on a b i = fun_ext (λ y. go y (nat_lt y i) (y == i) refl refl)
  where
    here : met_below a b i i ≡ a i
    here = ap (λ v. cond v (a i && b i) (a i)) (le-ltb i i (omega arith))

    go : (y : ℕ) (t u : Bool) → nat_lt y i ≡ t → (y == i) ≡ u → known_with (met_below a b i) i (met_below a b i i && b i) y ≡ met_below a b (i + 1) y
    go y t true e f = ap (λ v. cond v (met_below a b i i && b i) (met_below a b i y)) f ∙ ap (λ v. v && b i) here ∙ sym (met_at a b i y t true e f)
    go y t false e f = ap (λ v. cond v (met_below a b i i && b i) (met_below a b i y)) f ∙ ap (λ v. cond v (a y && b y) (a y)) e ∙ sym (met_at a b i y t false e f)

held : (others : Bool) (bs : List Bool) (i : ℕ) (v : Bool) → i < length bs → v ≡ get_or bs i v → known_of (bs, others) i ≡ v
held others [] i v lt is = absurd (omega arith)
held others (b ∷ bs) zero v lt is = sym is
held others (b ∷ bs) (suc i) v lt is = held others bs i v (omega arith) is

-- a slot that is set to what is known here and there
pub met_set : (others : Bool) (bs : List Bool) (a b : DefinitelyAssigned) (i : ℕ) (v w : Bool) → i < length bs → v ≡ get_or bs i v → w ≡ b i → known_of (bs, others) ≡ met_below a b i
    → known_of (slice_set bs i (v && w), others) ≡ met_below a b (i + 1)
met_set others bs a b i v w lt is known so_far =
    let at : v ≡ met_below a b i i = sym (held others bs i v lt is) ∙ ap (λ k. k i) so_far in
    set others bs i (v && w) lt ∙ ap (λ k. known_with k i (v && w)) so_far ∙ ap (λ x. known_with (met_below a b i) i (x && w)) at ∙ ap (λ x. known_with (met_below a b i) i (met_below a b i i && x)) known ∙ met_on a b i

-- all of them, where both know those behind so many alike
pub met_all : (others theirs : Bool) (bs cs : List Bool) (a : DefinitelyAssigned) (n : ℕ) → length bs ≡ n → length cs ≤ n → known_of (bs, others) ≡ met_below a (known_of (cs, theirs)) n
    → known_of (bs, others && theirs) ≡ (λ y. a y && known_of (cs, theirs) y)
met_all others theirs bs cs a n all less met = fun_ext (λ y. go y (nat_lt y n) refl)
  where
    front : (ds : List Bool) (o p : Bool) (y : ℕ) → y < length ds → known_of (ds, o) y ≡ known_of (ds, p) y
    front [] o p y lt = absurd (omega arith)
    front (d ∷ ds) o p zero lt = refl
    front (d ∷ ds) o p (suc y) lt = front ds o p y (omega arith)

    go : (y : ℕ) (t : Bool) → nat_lt y n ≡ t → known_of (bs, others && theirs) y ≡ (a y && known_of (cs, theirs) y)
    go y true e =
        let lt : y < n = ltb-true y n e in
        front bs (others && theirs) others y (omega arith) ∙ ap (λ k. k y) met ∙ ap (λ v. cond v (a y && known_of (cs, theirs) y) (a y)) e
    go y false e =
        let le : n ≤ y = ltb-false y n e in
        let mine : a y ≡ others = sym (ap (λ k. k y) met ∙ ap (λ v. cond v (a y && known_of (cs, theirs) y) (a y)) e) ∙ past others bs y (omega arith) in
        past (others && theirs) bs y (omega arith) ∙ ap (λ v. v && theirs) (sym mine) ∙ ap (λ v. a y && v) (sym (past theirs cs y (omega arith)))

first_at : (n x : ℕ) → known_of (replicate n true, false) x ≡ nat_lt x n
first_at zero x = sym (le-ltb x 0 (omega arith))
first_at (suc n) zero = sym (lt-ltb 0 (suc n) (omega arith))
first_at (suc n) (suc x) = first_at n x ∙ shifted (nat_lt x n) refl
  where
    shifted : (t : Bool) → nat_lt x n ≡ t → t ≡ nat_lt (suc x) (suc n)
    shifted true e =
        let lt : x < n = ltb-true x n e in
        sym (lt-ltb (suc x) (suc n) (omega arith))
    shifted false e =
        let le : n ≤ x = ltb-false x n e in
        sym (le-ltb (suc x) (suc n) (omega arith))

-- the first variables
pub first : (n : ℕ) → known_of (replicate n true, false) ≡ (λ y. nat_lt y n)
first n = fun_ext (first_at n)
