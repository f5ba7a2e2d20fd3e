-- Accesses that touch one element solve the equations of a case.
use Rattle.std.proofs.Common.{◌≡◌, ◌≢◌, ℕ, ℤ, pos, zero, suc, ◌+◌, ◌-◌, ◌*◌, ◌<◌, ◌+ℤ◌, ◌-ℤ◌, ◌*ℤ◌, ◌⊎◌, inl, inr, ⊎_elim, Bool, true, false, nat_lt, List, [], ◌∷◌, ◌++◌, length, get_or, take, drop, All, Contains, min, length-append, append_assoc, length-take, refl, sym, ap, ◌∙◌, subst, arith}
use Rattle.std.proofs.lemmas.Int.{ints}
use Rattle.std.proofs.lemmas.List.{get_or-drop}
use Rattle.std.proofs.lemmas.List.Elements.{All-nil, All-cons, All-head, All-tail, Contains-append_cases}
use Rattle.std.proofs.lemmas.Bool.Decides.{Decides-ltb, nat_tests}
use Rattle.std.specs.List.{zip}
use borrow.Author.Differences.{up, down, sum_is_lem}
use Rattle.pairtest.specs.declared.access.Subscript.{Subscript}
use Rattle.pairtest.specs.declared.access.Access.{Access}
use Rattle.pairtest.specs.declared.access.Nest.{Nest}
use Rattle.pairtest.specs.Equations.{Unknown, sum_at, AreValues, HasSolution}
use Rattle.pairtest.specs.DirectionVectors.{coefficient, counters, place_of, turns_of, differing, direction_equation, dimensions, IsDirectionRefuted}
use Rattle.pairtest.specs.Meetings.{Turn, counter_sum, value_at, AreBelow, IsTurn, RefutedPairsDoNotMeet}
use Rattle.pairtest.proofs.Sums.{refuted_has_none}
use Rattle.pairtest.proofs.CounterLists.{drop-first}

-- ---- products

-- a sum times a number
pub sum-times : (a b c : ℤ) → (a +ℤ b) *ℤ c ≡ a *ℤ c +ℤ b *ℤ c
sum-times a b c = omega (arith, ints, ap (λ (x : ℕ). x * up c) (sum_is_lem a b), ap (λ (x : ℕ). x * down c) (sum_is_lem a b))

-- a number times a sum
pub times-sum : (a b c : ℤ) → c *ℤ (a +ℤ b) ≡ c *ℤ a +ℤ c *ℤ b
times-sum a b c = omega (arith, ints, ap (λ (x : ℕ). x * up c) (sum_is_lem a b), ap (λ (x : ℕ). x * down c) (sum_is_lem a b))

pub times-one : (c : ℤ) → c *ℤ pos 1 ≡ c
times-one c = omega (arith, ints)

pub zero-times : (c : ℤ) → pos 0 *ℤ c ≡ pos 0
zero-times c = omega (arith, ints)

pub difference-times : (a b c : ℤ) → (a -ℤ b) *ℤ c +ℤ b *ℤ c ≡ a *ℤ c
difference-times a b c = sym (sum-times (a -ℤ b) b c) ∙ ap (λ (z : ℤ). z *ℤ c) (omega (arith, ints))

-- ---- lists joined

pub AreBelow-append : (ks ls ns ms : List ℕ) → AreBelow ks ns → AreBelow ls ms → AreBelow (ks ++ ls) (ns ++ ms)
AreBelow-append [] ls [] ms h g = g
AreBelow-append [] ls (n ∷ ns) ms h g = absurd h
AreBelow-append (k ∷ ks) ls [] ms h g = absurd h
AreBelow-append (k ∷ ks) ls (n ∷ ns) ms h g = (h.0, AreBelow-append ks ls ns ms h.1 g)

AreBelow-take : (m : ℕ) (ks ns : List ℕ) → AreBelow ks ns → AreBelow (take m ks) (take m ns)
AreBelow-take zero ks ns h = tt
AreBelow-take (suc m) [] [] h = tt
AreBelow-take (suc m) [] (n ∷ ns) h = absurd h
AreBelow-take (suc m) (k ∷ ks) [] h = absurd h
AreBelow-take (suc m) (k ∷ ks) (n ∷ ns) h = (h.0, AreBelow-take m ks ns h.1)

AreBelow-drop : (m : ℕ) (ks ns : List ℕ) → AreBelow ks ns → AreBelow (drop m ks) (drop m ns)
AreBelow-drop zero ks ns h = h
AreBelow-drop (suc m) [] [] h = tt
AreBelow-drop (suc m) [] (n ∷ ns) h = absurd h
AreBelow-drop (suc m) (k ∷ ks) [] h = absurd h
AreBelow-drop (suc m) (k ∷ ks) (n ∷ ns) h = AreBelow-drop m ks ns h.1

AreBelow-get_or : (m : ℕ) (ks ns : List ℕ) → AreBelow ks ns → m < length ns → get_or ks m 0 < get_or ns m 0
AreBelow-get_or m [] [] h l = absurd (omega (arith, l))
AreBelow-get_or m [] (n ∷ ns) h l = absurd h
AreBelow-get_or m (k ∷ ks) [] h l = absurd h
AreBelow-get_or zero (k ∷ ks) (n ∷ ns) h l = h.0
AreBelow-get_or (suc m) (k ∷ ks) (n ∷ ns) h l = AreBelow-get_or m ks ns h.1 (omega (arith, l))

AreBelow-length : (ks ns : List ℕ) → AreBelow ks ns → length ks ≡ length ns
AreBelow-length [] [] h = refl
AreBelow-length [] (n ∷ ns) h = absurd h
AreBelow-length (k ∷ ks) [] h = absurd h
AreBelow-length (k ∷ ks) (n ∷ ns) h = ap suc (AreBelow-length ks ns h.1)

-- a loop with a counter takes a turn
AreBelow-none : (ks ns : List ℕ) → AreBelow ks ns → ¬ (Contains ns 0)
AreBelow-none [] [] h (k, l, e) = omega (arith, l)
AreBelow-none [] (n ∷ ns) h c = absurd h
AreBelow-none (j ∷ ks) [] h c = absurd h
AreBelow-none (j ∷ ks) (n ∷ ns) h (zero, l, e) = let low : j < n = h.0 in let is : n ≡ 0 = e in omega arith
AreBelow-none (j ∷ ks) (n ∷ ns) h (suc k, l, e) = AreBelow-none ks ns h.1 (k, omega (arith, l), e)

AreValues-append : (us vs : List Unknown) (ks ls : List ℕ) → AreValues us ks → AreValues vs ls → AreValues (us ++ vs) (ks ++ ls)
AreValues-append [] vs [] ls h g = g
AreValues-append [] vs (k ∷ ks) ls h g = absurd h
AreValues-append (u ∷ us) vs [] ls h g = absurd h
AreValues-append (u ∷ us) vs (k ∷ ks) ls h g = (h.0, AreValues-append us vs ks ls h.1 g)

sum_at-append : (us vs : List Unknown) (ks ls : List ℕ) → AreValues us ks → sum_at (us ++ vs) (ks ++ ls) ≡ sum_at us ks +ℤ sum_at vs ls
sum_at-append [] vs [] ls h = omega (arith, ints)
sum_at-append [] vs (k ∷ ks) ls h = absurd h
sum_at-append (u ∷ us) vs [] ls h = absurd h
sum_at-append (u ∷ us) vs (k ∷ ks) ls h =
    ap (λ (z : ℤ). u.coefficient *ℤ pos k +ℤ z) (sum_at-append us vs ks ls h.1) ∙ grouped (u.coefficient *ℤ pos k) (sum_at us ks) (sum_at vs ls)
  where
    grouped : (a b c : ℤ) → a +ℤ (b +ℤ c) ≡ (a +ℤ b) +ℤ c
    grouped a b c = omega (arith, ints)

counter_sum-append : (cs : List ℤ) (ks ls : List ℕ) → counter_sum cs (ks ++ ls) ≡ counter_sum cs ks +ℤ counter_sum (drop (length ks) cs) ls
counter_sum-append cs [] ls = omega (arith, ints)
counter_sum-append cs (k ∷ ks) ls =
    ap (λ (z : ℤ). coefficient cs 0 *ℤ pos k +ℤ z) (counter_sum-append (drop 1 cs) ks ls)
    ∙ ap (λ (ds : List ℤ). coefficient cs 0 *ℤ pos k +ℤ (counter_sum (drop 1 cs) ks +ℤ counter_sum ds ls)) (drop-first (length ks) cs)
    ∙ grouped (coefficient cs 0 *ℤ pos k) (counter_sum (drop 1 cs) ks) (counter_sum (drop (suc (length ks)) cs) ls)
  where
    grouped : (a b c : ℤ) → a +ℤ (b +ℤ c) ≡ (a +ℤ b) +ℤ c
    grouped a b c = omega (arith, ints)

counter_sum-nil : (ks : List ℕ) → counter_sum [] ks ≡ pos 0
counter_sum-nil [] = refl
counter_sum-nil (k ∷ ks) = both (pos 0 *ℤ pos k) (counter_sum [] ks) (zero-times (pos k)) (counter_sum-nil ks)
  where
    both : (a b : ℤ) → a ≡ pos 0 → b ≡ pos 0 → a +ℤ b ≡ pos 0
    both a b p q = omega (arith, ints)

-- ---- the sum of an equation

-- the counters' unknowns at the counters
counters_valued : (es ls : List ℤ) (ks ns : List ℕ) → AreBelow ks ns → AreValues (counters es ls ns) ks × (sum_at (counters es ls ns) ks +ℤ counter_sum ls ks ≡ counter_sum es ks)
counters_valued es ls [] [] h = (tt, omega (arith, ints))
counters_valued es ls [] (n ∷ ns) h = absurd h
counters_valued es ls (k ∷ ks) [] h = absurd h
counters_valued es ls (k ∷ ks) (n ∷ ns) h =
    let rest = counters_valued (drop 1 es) (drop 1 ls) ks ns h.1 in (
      (h.0, rest.0),
      joined ((coefficient es 0 -ℤ coefficient ls 0) *ℤ pos k) (coefficient ls 0 *ℤ pos k) (coefficient es 0 *ℤ pos k)
          (sum_at (counters (drop 1 es) (drop 1 ls) ns) ks) (counter_sum (drop 1 ls) ks) (counter_sum (drop 1 es) ks) (difference-times (coefficient es 0) (coefficient ls 0) (pos k)) rest.1,
    )
  where
    joined : (d l e s t u : ℤ) → d +ℤ l ≡ e → s +ℤ t ≡ u → (d +ℤ s) +ℤ (l +ℤ t) ≡ e +ℤ u
    joined d l e s t u p q = omega (arith, ints)

drop-next : {A : Type 0} (n : ℕ) (xs : List A) → drop 1 (drop n xs) ≡ drop (n + 1) xs
drop-next zero xs = refl
drop-next (suc n) [] = let e : suc n + 1 ≡ suc (n + 1) = omega arith in sym (ap (λ (k : ℕ). drop k []) e)
drop-next (suc n) (x ∷ xs) = let e : suc n + 1 ≡ suc (n + 1) = omega arith in drop-next n xs ∙ sym (ap (λ (k : ℕ). drop k (x ∷ xs)) e)

-- a list round its m-th element
split_at : (m : ℕ) (ks : List ℕ) → m < length ks → ks ≡ take m ks ++ get_or ks m 0 ∷ drop (m + 1) ks
split_at m [] l = absurd (omega (arith, l))
split_at zero (k ∷ ks) l = refl
split_at (suc m) (k ∷ ks) l =
    let e : suc m + 1 ≡ suc (m + 1) = omega arith in
    ap (λ (js : List ℕ). k ∷ js) (split_at m ks (omega (arith, l))) ∙ sym (ap (λ (j : ℕ). k ∷ (take m ks ++ get_or ks m 0 ∷ drop j (k ∷ ks))) e)

-- the sum of a subscript, split at the nest's m-th loop
sum_split : (cs : List ℤ) (ss ks is : List ℕ) (m p : ℕ) → m < length ks → p ≡ length ss + m
    → counter_sum cs (ss ++ (ks ++ is))
    ≡ counter_sum cs (ss ++ take m ks) +ℤ (coefficient cs p *ℤ pos (get_or ks m 0) +ℤ counter_sum (drop (p + 1) cs) (drop (m + 1) ks ++ is))
sum_split cs ss ks is m p l e =
    let k = get_or ks m 0 in
    let rest = drop (m + 1) ks in
    let whole : ss ++ (ks ++ is) ≡ (ss ++ take m ks) ++ k ∷ (rest ++ is) =
    ap (λ (js : List ℕ). ss ++ (js ++ is)) (split_at m ks l) ∙ ap (λ (js : List ℕ). ss ++ js) (append_assoc (take m ks) (k ∷ rest) is) ∙ sym (append_assoc ss (take m ks) (k ∷ (rest ++ is))) in
    let long : length (ss ++ take m ks) ≡ p = long_is in
    let here : coefficient (drop p cs) 0 ≡ coefficient cs p = get_or-drop p cs 0 (pos 0) ∙ ap (λ (j : ℕ). coefficient cs j) (omega arith) in
    ap (λ (js : List ℕ). counter_sum cs js) whole
    ∙ counter_sum-append cs (ss ++ take m ks) (k ∷ (rest ++ is))
    ∙ ap (λ (j : ℕ). counter_sum cs (ss ++ take m ks) +ℤ counter_sum (drop j cs) (k ∷ (rest ++ is))) long
    ∙ ap (λ (z : ℤ). counter_sum cs (ss ++ take m ks) +ℤ (z *ℤ pos k +ℤ counter_sum (drop 1 (drop p cs)) (rest ++ is))) here
    ∙ ap (λ (ds : List ℤ). counter_sum cs (ss ++ take m ks) +ℤ (coefficient cs p *ℤ pos k +ℤ counter_sum ds (rest ++ is))) (drop-next p cs)
  where
    long_is : length (ss ++ take m ks) ≡ p
    long_is =
        let a : length (ss ++ take m ks) ≡ length ss + length (take m ks) = length-append ss (take m ks) in
        let b : length (take m ks) ≡ min m (length ks) = length-take m ks in
        omega arith

-- the unknowns of the loop that differs, at the earlier counter k and the distance d
differing_sum : (e l : ℤ) (k d j : ℕ) → j ≡ suc k + d → ((e -ℤ l) *ℤ pos k +ℤ ((pos 0 -ℤ l) *ℤ pos d +ℤ pos 0)) +ℤ l *ℤ pos j ≡ e *ℤ pos k +ℤ l
differing_sum e l k d j is =
    let far : pos j ≡ pos k +ℤ (pos 1 +ℤ pos d) = omega (arith, ints) in
    joined ((e -ℤ l) *ℤ pos k) (l *ℤ pos k) (e *ℤ pos k) ((pos 0 -ℤ l) *ℤ pos d) (l *ℤ pos d) (l *ℤ pos j) l
    (difference-times e l (pos k))
    (difference-times (pos 0) l (pos d) ∙ zero-times (pos d))
    (ap (λ (z : ℤ). l *ℤ z) far ∙ times-sum (pos k) (pos 1 +ℤ pos d) l
    ∙ ap (λ (z : ℤ). l *ℤ pos k +ℤ z) (times-sum (pos 1) (pos d) l ∙ ap (λ (z : ℤ). z +ℤ l *ℤ pos d) (times-one l)))
  where
    joined : (u v w x y z l : ℤ) → u +ℤ v ≡ w → x +ℤ y ≡ pos 0 → z ≡ v +ℤ (l +ℤ y) → (u +ℤ (x +ℤ pos 0)) +ℤ z ≡ w +ℤ l
    joined u v w x y z l p q r = omega (arith, ints)

-- the parts of both values and of the sum
parts_joined : (sa la ea sb lj ek l sc ec sd ld o p ca cb vs vt : ℤ) → sa +ℤ la ≡ ea → sb +ℤ lj ≡ ek +ℤ l → sc +ℤ o ≡ ec → sd +ℤ ld ≡ p → o ≡ pos 0 → p ≡ pos 0
    → vs ≡ ea +ℤ (ek +ℤ ec) → vt ≡ la +ℤ (lj +ℤ ld) → ca +ℤ vs ≡ cb +ℤ vt → sa +ℤ (sb +ℤ (sc +ℤ sd)) ≡ (cb -ℤ ca) +ℤ l
parts_joined sa la ea sb lj ek l sc ec sd ld o p ca cb vs vt ha hb hc hd ho hp hs ht same = omega (arith, ints)

-- accesses that meet solve the equation of each dimension in the case of the first loop that differs
pub solved : (nest : Nest) (x y : Access) (s t : Turn) (a b : Subscript) (m : ℕ) → IsTurn nest x s → IsTurn nest y t → s.serial ≡ t.serial → m < length nest.loops.items
    → take m s.nest ≡ take m t.nest → get_or s.nest m 0 < get_or t.nest m 0 → value_at a s ≡ value_at b t → HasSolution (direction_equation nest m x y a b)
solved nest x y s t a b m first second together l same less equal =
    let es = a.coefficients.items in
    let ls = b.coefficients.items in
    let p = place_of nest m in
    let n = turns_of nest m in
    let k = get_or s.nest m 0 in
    let j = get_or t.nest m 0 in
    let d = j - suc k in
    let before : List ℕ = s.serial ++ take m s.nest in
    let rest : List ℕ = drop (m + 1) s.nest ++ s.inner in
    let others : List ℕ = drop (m + 1) t.nest ++ t.inner in
    let behind : List ℕ = drop (m + 1) nest.loops.items in
    let shared = counters_valued es ls before (nest.serial.items ++ take m nest.loops.items)
    (AreBelow-append s.serial (take m s.nest) nest.serial.items (take m nest.loops.items) first.serial (AreBelow-take m s.nest nest.loops.items first.nest_loops)) in
    let own = counters_valued (drop (p + 1) es) [] rest (behind ++ x.inner.items)
    (AreBelow-append (drop (m + 1) s.nest) s.inner behind x.inner.items (AreBelow-drop (m + 1) s.nest nest.loops.items first.nest_loops) first.inner) in
    let other = counters_valued [] (drop (p + 1) ls) others (behind ++ y.inner.items)
    (AreBelow-append (drop (m + 1) t.nest) t.inner behind y.inner.items (AreBelow-drop (m + 1) t.nest nest.loops.items second.nest_loops) second.inner) in
    let below : j < n = AreBelow-get_or m t.nest nest.loops.items second.nest_loops l in
    let apart : AreValues (differing nest m es ls) (k ∷ d ∷ []) = (omega (arith, less, below), (omega (arith, less, below), tt)) in
    let far : j ≡ suc k + d = omega (arith, less) in
    let us : List Unknown = counters es ls (nest.serial.items ++ take m nest.loops.items) in
    let vs : List Unknown = differing nest m es ls in
    let ws : List Unknown = counters (drop (p + 1) es) [] (behind ++ x.inner.items) in
    let xs : List Unknown = counters [] (drop (p + 1) ls) (behind ++ y.inner.items) in
    let ends : AreValues (ws ++ xs) (rest ++ others) = AreValues-append ws xs rest others own.0 other.0 in
    let long_s : length s.nest ≡ length nest.loops.items = AreBelow-length s.nest nest.loops.items first.nest_loops in
    let long_t : length t.nest ≡ length nest.loops.items = AreBelow-length t.nest nest.loops.items second.nest_loops in
    let serial_s : length s.serial ≡ length nest.serial.items = AreBelow-length s.serial nest.serial.items first.serial in
    let serial_t : length t.serial ≡ length nest.serial.items = AreBelow-length t.serial nest.serial.items second.serial in
    let split_s = sum_split es s.serial s.nest s.inner m p (omega (arith, l, long_s)) (omega (arith, serial_s)) in
    let split_t = sum_split ls t.serial t.nest t.inner m p (omega (arith, l, long_t)) (omega (arith, serial_t)) in
    let before_t : t.serial ++ take m t.nest ≡ before = ap (λ (ks : List ℕ). ks ++ take m t.nest) (sym together) ∙ ap (λ (ks : List ℕ). s.serial ++ ks) (sym same) in
    let split_there = split_t ∙ ap (λ (ks : List ℕ). counter_sum ls ks +ℤ (coefficient ls p *ℤ pos j +ℤ counter_sum (drop (p + 1) ls) others)) before_t in
    record {
      values = before ++ ((k ∷ d ∷ []) ++ (rest ++ others));
      allowed = AreValues-append us (vs ++ (ws ++ xs)) before ((k ∷ d ∷ []) ++ (rest ++ others)) shared.0 (AreValues-append vs (ws ++ xs) (k ∷ d ∷ []) (rest ++ others) apart ends);
      equal =
          sum_at-append us (vs ++ (ws ++ xs)) before ((k ∷ d ∷ []) ++ (rest ++ others)) shared.0
          ∙ ap (λ (z : ℤ). sum_at us before +ℤ z)
          (sum_at-append vs (ws ++ xs) (k ∷ d ∷ []) (rest ++ others) apart
          ∙ ap (λ (z : ℤ). sum_at vs (k ∷ d ∷ []) +ℤ z) (sum_at-append ws xs rest others own.0))
          ∙ parts_joined (sum_at us before) (counter_sum ls before) (counter_sum es before) (sum_at vs (k ∷ d ∷ [])) (coefficient ls p *ℤ pos j) (coefficient es p *ℤ pos k) (coefficient ls p)
          (sum_at ws rest) (counter_sum (drop (p + 1) es) rest) (sum_at xs others) (counter_sum (drop (p + 1) ls) others) (counter_sum [] rest) (counter_sum [] others)
          a.constant b.constant (counter_sum es (s.serial ++ (s.nest ++ s.inner))) (counter_sum ls (t.serial ++ (t.nest ++ t.inner)))
          shared.1 (differing_sum (coefficient es p) (coefficient ls p) k d j far) own.1 other.1 (counter_sum-nil rest) (counter_sum-nil others) split_s split_there equal;
    }

-- the first loop whose counters differ
pub first_apart : (ks ls ns : List ℕ) → AreBelow ks ns → AreBelow ls ns → ks ≢ ls
    → (m : ℕ) × (m < length ns) × (take m ks ≡ take m ls) × ((get_or ks m 0 < get_or ls m 0) ⊎ (get_or ls m 0 < get_or ks m 0))
first_apart [] [] ns h g ne = absurd (ne refl)
first_apart [] (l ∷ ls) [] h g ne = absurd g
first_apart [] (l ∷ ls) (n ∷ ns) h g ne = absurd h
first_apart (k ∷ ks) ls [] h g ne = absurd h
first_apart (k ∷ ks) [] (n ∷ ns) h g ne = absurd g
first_apart (k ∷ ks) (l ∷ ls) (n ∷ ns) h g ne =
    by (λ e. first_apart ks ls ns h.1 g.1 e) (nat_lt k l) (nat_lt l k) refl refl
  where
    behind : k ≡ l → ((m : ℕ) × (m < length ns) × (take m ks ≡ take m ls) × ((get_or ks m 0 < get_or ls m 0) ⊎ (get_or ls m 0 < get_or ks m 0)))
        → (m : ℕ) × (m < length (n ∷ ns)) × (take m (k ∷ ks) ≡ take m (l ∷ ls)) × ((get_or (k ∷ ks) m 0 < get_or (l ∷ ls) m 0) ⊎ (get_or (l ∷ ls) m 0 < get_or (k ∷ ks) m 0))
    behind e r = (suc r.0, omega (arith, r.1), ap (λ (i : ℕ). i ∷ take r.0 ks) e ∙ ap (λ (is : List ℕ). l ∷ is) r.2, r.3)

    by : (ks ≢ ls → (m : ℕ) × (m < length ns) × (take m ks ≡ take m ls) × ((get_or ks m 0 < get_or ls m 0) ⊎ (get_or ls m 0 < get_or ks m 0)))
        → (a b : Bool) → nat_lt k l ≡ a → nat_lt l k ≡ b
        → (m : ℕ) × (m < length (n ∷ ns)) × (take m (k ∷ ks) ≡ take m (l ∷ ls)) × ((get_or (k ∷ ks) m 0 < get_or (l ∷ ls) m 0) ⊎ (get_or (l ∷ ls) m 0 < get_or (k ∷ ks) m 0))
    by rest true b p q = (zero, omega arith, refl, inl ((Decides-ltb k l).0 p))
    by rest false true p q = (zero, omega arith, refl, inr ((Decides-ltb l k).0 q))
    by rest false false p q =
        let e : k ≡ l = grind (arith, nat_tests) in
        behind e (rest (λ (same : ks ≡ ls). ne (ap (λ (i : ℕ). i ∷ ks) e ∙ ap (λ (is : List ℕ). l ∷ is) same)))

-- a case that is refuted has no meeting
case_apart : (nest : Nest) (x y : Access) (s t : Turn) (m : ℕ) → IsTurn nest x s → IsTurn nest y t → s.serial ≡ t.serial → m < length nest.loops.items
    → take m s.nest ≡ take m t.nest → get_or s.nest m 0 < get_or t.nest m 0 → All (λ d. value_at d.0 s ≡ value_at d.1 t) (dimensions x y) → ¬ (IsDirectionRefuted nest m x y)
case_apart nest x y s t m first second together l same less equal (inl (inl few)) =
    let below : get_or t.nest m 0 < turns_of nest m = AreBelow-get_or m t.nest nest.loops.items second.nest_loops l in
    omega (arith, below, less, few)
case_apart nest x y s t m first second together l same less equal (inl (inr none)) =
    ⊎_elim (AreBelow-none s.serial nest.serial.items first.serial)
    (λ (c : Contains (nest.loops.items ++ (x.inner.items ++ y.inner.items)) 0). ⊎_elim (AreBelow-none s.nest nest.loops.items first.nest_loops)
    (λ (d : Contains (x.inner.items ++ y.inner.items) 0). ⊎_elim (AreBelow-none s.inner x.inner.items first.inner) (AreBelow-none t.inner y.inner.items second.inner)
    (Contains-append_cases x.inner.items y.inner.items 0 d))
    (Contains-append_cases nest.loops.items (x.inner.items ++ y.inner.items) 0 c))
    (Contains-append_cases nest.serial.items (nest.loops.items ++ (x.inner.items ++ y.inner.items)) 0 none)
case_apart nest x y s t m first second together l same less equal (inr (k, d, there, is, refuted)) =
    refuted_has_none (direction_equation nest m x y d.0 d.1) refuted
    (solved nest x y s t d.0 d.1 m first second together l same less (subst (λ (e : Subscript × Subscript). value_at e.0 s ≡ value_at e.1 t) is (equal k d there)))

-- the same of the pairs the other way round
all_swapped : {A B : Type 0} (R : A → B → Type 0) (S : B → A → Type 0) → ((a : A) (b : B) → R a b → S b a) → (us : List A) (vs : List B) → All (λ d. R d.0 d.1) (zip us vs) → All (λ d. S d.0 d.1) (zip vs us)
all_swapped {A} {B} R S turn [] [] h = All-nil (λ (d : B × A). S d.0 d.1)
all_swapped {A} {B} R S turn [] (b ∷ vs) h = All-nil (λ (d : B × A). S d.0 d.1)
all_swapped {A} {B} R S turn (a ∷ us) [] h = All-nil (λ (d : B × A). S d.0 d.1)
all_swapped {A} {B} R S turn (a ∷ us) (b ∷ vs) h =
    let P : A × B → Type 0 = λ d. R d.0 d.1 in
    let Q : B × A → Type 0 = λ d. S d.0 d.1 in
    All-cons Q (b, a) (zip vs us) (turn a b (All-head P (a, b) (zip us vs) h)) (all_swapped R S turn us vs (All-tail P (a, b) (zip us vs) h))

pub refuted_pairs_do_not_meet_lem : RefutedPairsDoNotMeet
refuted_pairs_do_not_meet_lem nest x y s t refuted meet =
    let found = first_apart s.nest t.nest nest.loops.items meet.first.nest_loops meet.second.nest_loops meet.apart in
    let cases = refuted found.0 found.1 in
    ⊎_elim
    (λ (less : get_or s.nest found.0 0 < get_or t.nest found.0 0). case_apart nest x y s t found.0 meet.first meet.second meet.together found.1 found.2 less meet.same_element cases.0)
    (λ (less : get_or t.nest found.0 0 < get_or s.nest found.0 0). case_apart nest y x t s found.0 meet.second meet.first (sym meet.together) found.1 (sym found.2) less
    (all_swapped (λ (a b : Subscript). value_at a s ≡ value_at b t) (λ (b a : Subscript). value_at b t ≡ value_at a s) (λ a b e. sym e) x.subscripts.items y.subscripts.items meet.same_element) cases.1)
    found.3
