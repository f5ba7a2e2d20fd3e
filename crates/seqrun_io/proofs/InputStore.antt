-- What a store holds for the values that were given.
use Rattle.std.specs.Prelude.{ℕ, zero, suc, Bool, true, false, ◌≡◌, ◌≢◌, ◌==◌, ◌+◌, ◌*◌, ◌<◌, ◌≤◌, nat_lt, if◌then◌else◌, List, [], ◌∷◌, ◌++◌, length, take, drop, replicate, Option, Some, None, slice_get}
use Rattle.std.proofs.Common.{refl, sym, ap, ◌∙◌, subst, arith, append-nil}
use Rattle.std.proofs.Math.Path.{fun_ext}
use Rattle.std.proofs.lemmas.Bool.{eq-eqb, eqb-true, ltb-true}
use Rattle.std.proofs.lemmas.Grind.{flat_map-append}
use Rattle.std.proofs.lemmas.List.{drop_all, length-replicate, get_or-replicate}
use Rattle.std.proofs.lemmas.Option.{slice_get-get_or}
use Rattle.semantics.specs.Tree.{Declaration}
use Rattle.semantics.specs.Meaning.State.{State, Outside}
use Rattle.semantics.specs.Meaning.Places.{within, place, place_from, size}
use Rattle.semantics.specs.Meaning.Output.{Given, IsGiven, AreGiven, NotAmong, input_line, input_text, values_at, first_value, first_cell, start}
use Rattle.semantics.specs.Source.Grammar.{elements}
use Rattle.semantics.proofs.EraseTokenLaw.{first_of, second_of}
use Rattle.store.specs.Kept.{Kept, cell_of, state_of, rewritten_at, overlaid, HasRoom}
use Rattle.seqrun_io.specs.Lines.{HasLengths}
use Rattle.seqrun_io.specs.Reading.{AreVariables, ArePositive, row_of, kept_from}

-- an element's place is below the size
pub place_below : (ns is : List ℕ) (at : ℕ) → within ns is ≡ true → place_from at ns is < (at + 1) * size ns
place_below [] [] at e = omega arith
place_below [] (i ∷ is) at e = absurd (cc e)
place_below (n ∷ ns) [] at e = absurd (cc e)
place_below (n ∷ ns) (i ∷ is) at e =
    let lt = ltb-true i n (first_of (nat_lt i n) (within ns is) e) in
    let r = place_below ns is (at * n + i) (second_of (nat_lt i n) (within ns is) e) in
    below_product (place_from (at * n + i) ns is) at n i (size ns) lt r
  where
    below_product : (p at n i s : ℕ) → i < n → p < (at * n + i + 1) * s → p < (at + 1) * (n * s)
    below_product p at n i s lt r =
        let le : (at * n + i + 1) * s ≤ ((at + 1) * n) * s = Rattle.std.proofs.Math.Nat.mul-le-mul_right s (omega arith) in
        omega (arith, le)

zeros_at : (n i : ℕ) → i < n → slice_get {X = ℕ} (replicate n 0) i ≡ Some 0
zeros_at n i lt =
    let z : ℕ = 0 in
    let same : length (replicate n z) ≡ n = length-replicate n z in
    slice_get-get_or (replicate n z) i z (omega arith) ∙ ap Some (get_or-replicate n i z z lt)

-- the store's state is the one that a program starts with
pub kept_starts : (ds : List Declaration) (given : Given) → state_of (kept_from 0 ds given) ≡ start ds given
kept_starts ds given = ap (λ cells. let s : State = record { cells = cells; locals = λ x. Outside } in s) (fun_ext (λ x. fun_ext (λ is. cell x is)))
  where
    at_variable : (y x : ℕ) (ds : List Declaration) (is : List ℕ) → cell_of (slice_get (kept_from y ds given) x) is ≡ first_cell (slice_get ds x) (values_at given (y + x)) is
    at_variable y x [] is = refl
    at_variable y zero (d ∷ ds) is = row (values_at given y) (within d.lengths is) refl ∙ ap (λ z. first_cell (Some d) (values_at given z) is) (let e : y ≡ y + 0 = omega arith in e)
      where
        row : (o : Option (List ℕ)) (t : Bool) → within d.lengths is ≡ t → (if within d.lengths is then slice_get (row_of o (size d.lengths)) (place d.lengths is) else None) ≡ (if within d.lengths is then first_value o (place d.lengths is) else None)
        row (Some vs) t e = refl
        row None true e =
            let lt = place_below d.lengths is 0 e in
            ap (λ v. if within d.lengths is then v else None) (zeros_at (size d.lengths) (place d.lengths is) (omega arith))
        row None false e = ap (λ t. if t then slice_get (replicate (size d.lengths) 0) (place d.lengths is) else None) e ∙ sym (ap (λ t. if t then Some 0 else None) e)
    at_variable y (suc x) (d ∷ ds) is = at_variable (suc y) x ds is ∙ ap (λ z. first_cell (slice_get ds x) (values_at given z) is) (let e : suc y + x ≡ y + suc x = omega arith in e)

    cell : (x : ℕ) (is : List ℕ) → cell_of (slice_get (kept_from 0 ds given) x) is ≡ first_cell (slice_get ds x) (values_at given x) is
    cell x is = at_variable 0 x ds is ∙ ap (λ z. first_cell (slice_get ds x) (values_at given z) is) (let e : 0 + x ≡ x = omega arith in e)

pub kept_lengths : (x : ℕ) (ds : List Declaration) (given : Given) → HasLengths ds (kept_from x ds given)
kept_lengths x [] given = refl
kept_lengths x (d ∷ ds) given = ap (λ l. d.lengths ∷ l) (kept_lengths (suc x) ds given)

-- one line more
values_new : (given : Given) (x : ℕ) (vs : List ℕ) → NotAmong x given → values_at (given ++ (x, vs) ∷ []) x ≡ Some vs
values_new [] x vs n = ap (λ t. if t then Some vs else None) (eq-eqb x x refl)
values_new (g ∷ gs) x vs n = ap (λ t. if t then Some g.1 else values_at (gs ++ (x, vs) ∷ []) x) (unlike (g.0 == x) refl) ∙ values_new gs x vs n.1
  where
    unlike : (t : Bool) → (g.0 == x) ≡ t → t ≡ false
    unlike true e = absurd (n.0 (sym (eqb-true g.0 x e)))
    unlike false e = refl

values_none : (given : Given) (x : ℕ) → NotAmong x given → values_at given x ≡ None
values_none [] x n = refl
values_none (g ∷ gs) x n = ap (λ t. if t then Some g.1 else values_at gs x) (unlike (g.0 == x) refl) ∙ values_none gs x n.1
  where
    unlike : (t : Bool) → (g.0 == x) ≡ t → t ≡ false
    unlike true e = absurd (n.0 (sym (eqb-true g.0 x e)))
    unlike false e = refl

values_other : (given : Given) (x y : ℕ) (vs : List ℕ) → x ≢ y → values_at (given ++ (x, vs) ∷ []) y ≡ values_at given y
values_other [] x y vs n = ap (λ t. if t then Some vs else None) (unlike (x == y) refl)
  where
    unlike : (t : Bool) → (x == y) ≡ t → t ≡ false
    unlike true e = absurd (n (eqb-true x y e))
    unlike false e = refl
values_other (g ∷ gs) x y vs n = ap (λ o. if g.0 == y then Some g.1 else o) (values_other gs x y vs n)

rows_other : (y : ℕ) (ds : List Declaration) (given : Given) (x : ℕ) (vs : List ℕ) → x < y → kept_from y ds (given ++ (x, vs) ∷ []) ≡ kept_from y ds given
rows_other y [] given x vs lt = refl
rows_other y (d ∷ ds) given x vs lt =
    ap (λ o. let k : Kept = record { lengths = d.lengths; values = row_of o (size d.lengths) } in k ∷ kept_from (suc y) ds (given ++ (x, vs) ∷ [])) (values_other given x y vs (λ e. absurd (omega arith)))
    ∙ ap (λ l. let k : Kept = record { lengths = d.lengths; values = row_of (values_at given y) (size d.lengths) } in k ∷ l) (rows_other (suc y) ds given x vs (omega arith))

overlaid_all : (old new : List ℕ) → length old ≡ length new → overlaid old 0 new ≡ new
overlaid_all old new e =
    ap (λ l. take 0 old ++ (new ++ l)) (drop_all (0 + length new) old (omega arith)) ∙ append-nil new

pub kept_more : (y i : ℕ) (ds : List Declaration) (d : Declaration) (given : Given) (vs : List ℕ) → NotAmong (y + i) given → slice_get ds i ≡ Some d → length vs ≡ size d.lengths
    → rewritten_at (kept_from y ds given) i 0 vs ≡ kept_from y ds (given ++ (y + i, vs) ∷ [])
kept_more y i [] d given vs n e c = absurd (cc e)
kept_more y zero (b ∷ ds) d given vs n e c =
    let z : y + 0 ≡ y = omega arith in
    let n' : NotAmong y given = subst (λ x. NotAmong x given) z n in
    let same : b ≡ d = cc in
    ap (λ l. let k : Kept = record { lengths = b.lengths; values = l } in k ∷ kept_from (suc y) ds given)
    (ap (λ o. overlaid (row_of o (size b.lengths)) 0 vs) (values_none given y n') ∙ overlaid_all (replicate (size b.lengths) 0) vs (length-replicate (size b.lengths) 0 ∙ ap (λ b. size b.lengths) same ∙ sym c) ∙ ap (λ o. row_of o (size b.lengths)) (sym (values_new given y vs n')))
    ∙ ap (λ l. let k : Kept = record { lengths = b.lengths; values = row_of (values_at (given ++ (y, vs) ∷ []) y) (size b.lengths) } in k ∷ l) (sym (rows_other (suc y) ds given y vs (omega arith)))
    ∙ ap (λ x. kept_from y (b ∷ ds) (given ++ (x, vs) ∷ [])) (sym z)
kept_more y (suc i) (b ∷ ds) d given vs n e c =
    let z : suc y + i ≡ y + suc i = omega arith in
    ap (λ l. let k : Kept = record { lengths = b.lengths; values = row_of (values_at given y) (size b.lengths) } in k ∷ l)
    (kept_more (suc y) i ds d given vs (subst (λ x. NotAmong x given) (sym z) n) e c ∙ ap (λ x. kept_from (suc y) ds (given ++ (x, vs) ∷ [])) z)
    ∙ ap (λ o. let k : Kept = record { lengths = b.lengths; values = row_of o (size b.lengths) } in k ∷ kept_from (suc y) ds (given ++ (y + suc i, vs) ∷ [])) (sym (values_other given (y + suc i) y vs (λ e. absurd (omega arith))))

-- a line goes behind the others
pub text_more : (ds : List Declaration) (given : Given) (g : ℕ × List ℕ) → input_text ds (given ++ g ∷ []) ≡ input_text ds given ++ input_line ds g
text_more ds given g = flat_map-append (input_line ds) given (g ∷ []) ∙ ap (λ l. input_text ds given ++ l) (append-nil (input_line ds g))

pub among_more : (x : ℕ) (given : Given) (g : ℕ × List ℕ) → NotAmong x given → x ≢ g.0 → NotAmong x (given ++ g ∷ [])
among_more x [] g n a = (a, tt)
among_more x (h ∷ hs) g n a = (n.0, among_more x hs g n.1 a)

pub given_more : (ds : List Declaration) (given : Given) (g : ℕ × List ℕ) → AreGiven ds given → IsGiven ds g → NotAmong g.0 given → AreGiven ds (given ++ g ∷ [])
given_more ds [] g a i n = (i, tt, tt)
given_more ds (h ∷ hs) g a i n = (a.0, among_more h.0 hs g a.1 (λ e. n.0 (sym e)), given_more ds hs g a.2 i n.1)

-- what is zero at first
pub zeros_more : (y : ℕ) (ds : List Declaration) (d : Declaration) → kept_from y (ds ++ d ∷ []) [] ≡ kept_from y ds [] ++ record { lengths = d.lengths; values = replicate (size d.lengths) 0 } ∷ []
zeros_more y [] d = refl
zeros_more y (b ∷ ds) d = ap (λ l. let k : Kept = record { lengths = b.lengths; values = replicate (size b.lengths) 0 } in k ∷ l) (zeros_more (suc y) ds d)

-- sizes
size_positive : (ns : List ℕ) → ArePositive ns → 1 ≤ size ns
size_positive [] p = omega arith
size_positive (n ∷ ns) p = let r = size_positive ns p.1 in Rattle.std.proofs.Math.Nat.mul-le-mul p.0 r

pub few_variables : (ds : List Declaration) → AreVariables ds → length ds ≤ elements ds
few_variables [] a = omega arith
few_variables (d ∷ ds) a = let r = few_variables ds a.3 in let s = size_positive d.lengths a.2 in omega arith

-- a product so far times what is left
pub product_step : (p n s : ℕ) (ns : List ℕ) → ArePositive ns → p * (n * size ns) ≡ s → p * n ≤ s
product_step p n s ns a e =
    let le : (p * n) * 1 ≤ (p * n) * size ns = Rattle.std.proofs.Math.Nat.mul-le-mul_left (p * n) (size_positive ns a) in
    omega (arith, le)

pub positive_drop : (ns : List ℕ) (i : ℕ) → ArePositive ns → ArePositive (drop i ns)
positive_drop ns zero a = a
positive_drop [] (suc i) a = tt
positive_drop (n ∷ ns) (suc i) a = positive_drop ns i a.1

-- a variable that has no line yet has room for its values
pub room : (y i : ℕ) (ds : List Declaration) (d : Declaration) (given : Given) (n : ℕ) → NotAmong (y + i) given → slice_get ds i ≡ Some d → n ≡ size d.lengths → HasRoom (slice_get (kept_from y ds given) i) (0 + n)
room y i [] d given n a e c = absurd (cc e)
room y zero (b ∷ ds) d given n a e c =
    let same : b ≡ d = cc in
    let none = values_none given y (subst (λ x. NotAmong x given) (let z : y + 0 ≡ y = omega arith in z) a) in
    let long : length (row_of (values_at given y) (size b.lengths)) ≡ size b.lengths = ap (λ o. length (row_of o (size b.lengths))) none ∙ length-replicate (size b.lengths) 0 in
    omega (arith, long, ap (λ b. size b.lengths) same, c)
room y (suc i) (b ∷ ds) d given n a e c = room (suc y) i ds d given n (subst (λ x. NotAmong x given) (let z : y + suc i ≡ suc y + i = omega arith in z) a) e c

-- each variable is small
pub sizes_at : (ds : List Declaration) (i : ℕ) (d : Declaration) → AreVariables ds → slice_get ds i ≡ Some d → ArePositive d.lengths × (size d.lengths ≤ elements ds)
sizes_at [] i d a e = absurd (cc e)
sizes_at (b ∷ ds) zero d a e = let same : b ≡ d = cc in (subst (λ b. ArePositive b.lengths) same a.2, (let s = ap (λ b. size b.lengths) same in omega arith))
sizes_at (b ∷ ds) (suc i) d a e = let r = sizes_at ds i d a.3 e in (r.0, (let s = r.1 in omega arith))
