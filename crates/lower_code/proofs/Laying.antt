-- A layout made one variable after another.
use Rattle.std.proofs.Common.{◌≡◌, ℕ, zero, suc, ◌+◌, ◌*◌, ◌%◌, ◌^◌, ◌<◌, ◌≤◌, List, [], ◌∷◌, ◌++◌, length, map, get_or, drop, add-one, drop-cons, Some, refl, sym, ap, ◌∙◌, arith, ⊎_elim}
use Rattle.std.specs.Prelude.{slice_get}
use Rattle.std.proofs.lemmas.Bool.{cases_lt}
use Rattle.std.proofs.lemmas.Nat.{mul-mod_first}
use Rattle.std.proofs.lemmas.List.{drop_all}
use Rattle.semantics.specs.Tree
use Rattle.semantics.specs.Meaning.Places.{size}
use Rattle.ktree.specs.declared.statement.Declaration.{Declaration}
use Rattle.ktree.specs.View.{declaration_of}
use Rattle.lower_code.specs.declared.laid.Laid.{Laid}
use Rattle.lower_code.specs.Layout.{first_of, shapes_of, shapes_in, IsLaid}
use Rattle.lower_code.proofs.Spots.{same_some}

-- one more length in a product
pub product_on : (count next : ℕ) (lengths : List ℕ) (i n : ℕ) → i < length lengths → n ≡ get_or lengths i 0 → (count * size (drop i lengths)) % 2 ^ 64 ≡ size lengths % 2 ^ 64 → next ≡ (count * n) % 2 ^ 64 → (next * size (drop (i + 1) lengths)) % 2 ^ 64 ≡ size lengths % 2 ^ 64
product_on count next lengths i n lt is so_far e =
    let here : drop i lengths ≡ n ∷ drop (i + 1) lengths = rw add-one (drop-cons lengths i 0 lt ∙ ap (λ x. x ∷ drop (suc i) lengths) (sym is)) in
    let rest = size (drop (i + 1) lengths) in
    let group : count * n * rest ≡ count * (n * rest) = omega arith in
    ap (λ k. (k * rest) % 2 ^ 64) e ∙ mul-mod_first (count * n) rest (2 ^ 64) ∙ ap (λ k. k % 2 ^ 64) group ∙ ap (λ ns. (count * size ns) % 2 ^ 64) (sym here) ∙ so_far

-- where the first cell behind all variables is, and behind one more
first_pushed : (shapes : List (List ℕ)) (ns : List ℕ) (x : ℕ) → x ≤ length shapes → first_of (shapes ++ ns ∷ []) x ≡ first_of shapes x
first_pushed [] ns zero le = refl
first_pushed [] ns (suc x) le = absurd (omega arith)
first_pushed (ms ∷ shapes) ns zero le = refl
first_pushed (ms ∷ shapes) ns (suc x) le = ap (λ n. size ms + n) (first_pushed shapes ns x (omega arith))

first_behind : (shapes : List (List ℕ)) (ns : List ℕ) → first_of (shapes ++ ns ∷ []) (length shapes + 1) ≡ first_of shapes (length shapes) + size ns
first_behind [] ns = omega arith
first_behind (ms ∷ shapes) ns =
    let count : suc (length shapes) + 1 ≡ suc (length shapes + 1) = omega arith in
    let r = first_behind shapes ns in
    let sum : size ms + first_of (shapes ++ ns ∷ []) (length shapes + 1) ≡ size ms + first_of shapes (length shapes) + size ns = omega arith in
    ap (first_of (ms ∷ (shapes ++ ns ∷ []))) count ∙ sum

shapes_pushed : (layout : List Laid) (l : Laid) → shapes_of (layout ++ l ∷ []) ≡ shapes_of layout ++ l.lengths.items ∷ []
shapes_pushed [] l = refl
shapes_pushed (k ∷ layout) l = ap (λ s. k.lengths.items ∷ s) (shapes_pushed layout l)

shapes_length : (layout : List Laid) → length (shapes_of layout) ≡ length layout
shapes_length [] = refl
shapes_length (k ∷ layout) = ap suc (shapes_length layout)

pushed_front : (layout : List Laid) (l : Laid) (x : ℕ) → x < length layout → slice_get (layout ++ l ∷ []) x ≡ slice_get layout x
pushed_front [] l x lt = absurd (omega arith)
pushed_front (k ∷ layout) l zero lt = refl
pushed_front (k ∷ layout) l (suc x) lt = pushed_front layout l x (omega arith)

pushed_last : (layout : List Laid) (l k : Laid) (x : ℕ) → length layout ≤ x → slice_get (layout ++ l ∷ []) x ≡ Some k → (x ≡ length layout) × (k ≡ l)
pushed_last [] l k zero le e = (refl, sym (same_some e))
pushed_last [] l k (suc x) le e = cc
pushed_last (j ∷ layout) l k zero le e = absurd (omega arith)
pushed_last (j ∷ layout) l k (suc x) le e = let r = pushed_last layout l k x (omega arith) e in (ap suc r.0, r.1)

pub record Laying (ds : List Declaration) (i : ℕ) (layout : List Laid) (first : ℕ) : Type 0 where
  pub laid : IsLaid layout
  pub shapes : shapes_of layout ++ shapes_in (map declaration_of (drop i ds)) ≡ shapes_in (map declaration_of ds)
  pub next : first ≡ first_of (shapes_of layout) (length layout) % 2 ^ 64

pub laying_from : (ds : List Declaration) → Laying ds 0 [] 0
laying_from ds = record { laid = λ x l e. cc; shapes = refl; next = refl }

append_one : (xs ys : List (List ℕ)) (x : List ℕ) → (xs ++ x ∷ []) ++ ys ≡ xs ++ (x ∷ ys)
append_one [] ys x = refl
append_one (y ∷ xs) ys x = ap (λ l. y ∷ l) (append_one xs ys x)

pub laying_on : (ds : List Declaration) (i : ℕ) (layout : List Laid) (first count next : ℕ) (d : Declaration) (l : Laid) → i < length ds → d ≡ get_or ds i d → Laying ds i layout first → l.first ≡ first → l.lengths.items ≡ d.lengths.items → count ≡ size d.lengths.items % 2 ^ 64 → next ≡ (first + count) % 2 ^ 64 → Laying ds (i + 1) (layout ++ l ∷ []) next
laying_on ds i layout first count next d l lt is so_far firsts lengths counts nexts = record {
  laid = λ x k e. each x k e;
  shapes = ap (λ s. s ++ shapes_in (map declaration_of (drop (i + 1) ds))) (shapes_pushed layout l) ∙ append_one (shapes_of layout) (shapes_in (map declaration_of (drop (i + 1) ds))) l.lengths.items ∙ ap (λ ns. shapes_of layout ++ (ns ∷ shapes_in (map declaration_of (drop (i + 1) ds)))) lengths ∙ ap (λ xs. shapes_of layout ++ shapes_in (map declaration_of xs)) (sym here) ∙ so_far.shapes;
  next = sums;
}
  where
    here : drop i ds ≡ d ∷ drop (i + 1) ds
    here = rw add-one (drop-cons ds i d lt ∙ ap (λ x. x ∷ drop (suc i) ds) (sym is))

    shape : shapes_of (layout ++ l ∷ []) ≡ shapes_of layout ++ l.lengths.items ∷ []
    shape = shapes_pushed layout l

    old_first : (x : ℕ) → x ≤ length layout → first_of (shapes_of (layout ++ l ∷ [])) x ≡ first_of (shapes_of layout) x
    old_first x le = ap (λ s. first_of s x) shape ∙ first_pushed (shapes_of layout) l.lengths.items x (let e = shapes_length layout in omega arith)

    each : (x : ℕ) (k : Laid) → slice_get (layout ++ l ∷ []) x ≡ Some k → k.first ≡ first_of (shapes_of (layout ++ l ∷ [])) x % 2 ^ 64
    each x k e = ⊎_elim
        (λ (below : x < length layout). so_far.laid x k (sym (pushed_front layout l x below) ∙ e) ∙ ap (λ n. n % 2 ^ 64) (sym (old_first x (omega arith))))
        (λ (le : length layout ≤ x).
        let r = pushed_last layout l k x le e in
        ap (λ (j : Laid). j.first) r.1 ∙ firsts ∙ so_far.next ∙ ap (λ n. n % 2 ^ 64) (sym (old_first (length layout) (omega arith))) ∙ ap (λ n. first_of (shapes_of (layout ++ l ∷ [])) n % 2 ^ 64) (sym r.0))
        (cases_lt x (length layout))

    pushed_length : (xs : List Laid) → length (xs ++ l ∷ []) ≡ length xs + 1
    pushed_length [] = refl
    pushed_length (x ∷ xs) = ap suc (pushed_length xs) ∙ (let e : suc (length xs + 1) ≡ suc (length xs) + 1 = omega arith in e)

    sums : next ≡ first_of (shapes_of (layout ++ l ∷ [])) (length (layout ++ l ∷ [])) % 2 ^ 64
    sums =
        let a = first_of (shapes_of layout) (length layout) in
        let b = size d.lengths.items in
        let f : first ≡ a % 2 ^ 64 = so_far.next in
        let total : (a % 2 ^ 64 + b % 2 ^ 64) % 2 ^ 64 ≡ (a + b) % 2 ^ 64 = omega arith in
        let behind : first_of (shapes_of (layout ++ l ∷ [])) (length (layout ++ l ∷ [])) ≡ a + b =
        ap (λ s. first_of s (length (layout ++ l ∷ []))) shape ∙ ap (first_of (shapes_of layout ++ l.lengths.items ∷ [])) (pushed_length layout ∙ ap (λ n. n + 1) (sym (shapes_length layout)))
        ∙ first_behind (shapes_of layout) l.lengths.items ∙ ap (λ n. first_of (shapes_of layout) n + size l.lengths.items) (shapes_length layout) ∙ ap (λ ns. a + size ns) lengths in
        nexts ∙ ap (λ n. (n + count) % 2 ^ 64) f ∙ ap (λ n. (a % 2 ^ 64 + n) % 2 ^ 64) counts ∙ total ∙ ap (λ n. n % 2 ^ 64) (sym behind)

pub laying_over : (ds : List Declaration) (i : ℕ) (layout : List Laid) (first : ℕ) → length ds ≤ i → Laying ds i layout first → shapes_of layout ≡ shapes_in (map declaration_of ds)
laying_over ds i layout first le so_far =
    sym (nothing_behind (shapes_of layout)) ∙ ap (λ xs. shapes_of layout ++ shapes_in (map declaration_of xs)) (sym (drop_all i ds le)) ∙ so_far.shapes
  where
    nothing_behind : (xs : List (List ℕ)) → xs ++ [] ≡ xs
    nothing_behind [] = refl
    nothing_behind (x ∷ xs) = ap (λ l. x ∷ l) (nothing_behind xs)

pub as_many : (layout : List Laid) (ds : List Tree.Declaration) → shapes_of layout ≡ shapes_in ds → length layout ≡ length ds
as_many layout ds e = sym (shapes_length layout) ∙ ap (λ (l : List (List ℕ)). length l) e ∙ lengths ds
  where
    lengths : (ds : List Tree.Declaration) → length (shapes_in ds) ≡ length ds
    lengths [] = refl
    lengths (d ∷ ds) = ap suc (lengths ds)
