-- The items of a list in another order.
use Rattle.std.specs.Prelude.{ℕ, suc, Bool, true, false, ◌≡◌, ◌==◌, ◌+◌, ◌<◌, ◌≤◌, ◌⊎◌, List, [], ◌∷◌, ◌++◌, length, Some, slice_get, slice_index_or}
use Rattle.std.specs.List.{AllPairs, AllByRecursion as Each}
use Rattle.std.proofs.Common.{refl, sym, ap, ◌∙◌, subst, inl, inr, arith}
use Rattle.std.proofs.lemmas.Bool.{true≢false, eqb-true, eq-eqb}
use Rattle.std.proofs.lemmas.Bool.Decides.{nat_tests}
use Rattle.std.proofs.lemmas.List.{append_assoc, length-append}
use Rattle.semantics.specs.Loops.Arrangement.{once, once_below, times, EachOnceBelow, with_found, picked}
use Rattle.semantics.proofs.TicketLaw.{times-append, once_below-more}
use Rattle.law_commute.proofs.Orders.{picked-append, once_itself, once_other, once_of_below}
use Rattle.law_commute.proofs.Lists.{Among, each_left, each_right, each_join, each_same, among_right}

-- ---- where a number stands

record Split (k : ℕ) (cs : List ℕ) : Type 0 where
  front : List ℕ
  back : List ℕ
  is : cs ≡ front ++ (k ∷ back)

split_at : (k : ℕ) (cs : List ℕ) → 1 ≤ times k cs → Split k cs
split_at k [] h = absurd (omega (arith, h))
split_at k (c ∷ cs) h = at (c == k) refl (λ le. split_at k cs le)
  where
    at : (b : Bool) → (c == k) ≡ b → (1 ≤ times k cs → Split k cs) → Split k (c ∷ cs)
    at true e rest = record { front = []; back = cs; is = ap (λ d. d ∷ cs) (eqb-true c k e) }
    at false e rest =
        let none : once k c ≡ 0 = once_other k c (λ q. true≢false (sym (eq-eqb c k q) ∙ e)) in
        let r = rest (omega (arith, h, none)) in
        record { front = c ∷ r.front; back = r.back; is = ap (λ l. c ∷ l) r.is }

module _ {A : Type 0} where
  -- ---- pairs of a list

  -- each two, the first of them standing before the second
  abbrev pub Pairs : (A → A → Type 0) → List A → Type 0
  Pairs R [] = Unit {0}
  Pairs R (u ∷ us) = Each (R u) us × Pairs R us

  each_index : (P : A → Type 0) (xs : List A) → ((i : ℕ) (d : A) → i < length xs → P (slice_index_or xs i d)) → Each P xs
  each_index P [] h = tt
  each_index P (x ∷ xs) h = (h 0 x (omega arith), each_index P xs (λ i d lt. h (suc i) d (omega (arith, lt))))

  pub pairs_of : (R : A → A → Type 0) (us : List A) → AllPairs R us → Pairs R us
  pairs_of R [] h = tt
  pairs_of R (u ∷ us) h = (
    each_index (R u) us (λ i d lt. h 0 (suc i) d (omega arith) (omega (arith, lt))),
    pairs_of R us (λ i j d lt below. h (suc i) (suc j) d (omega (arith, lt)) (omega (arith, below))),
  )

  -- with what holds of each
  pub each_with : (P Q : A → Type 0) (us : List A) → Each P us → Each Q us → Each (λ u. P u × Q u) us
  each_with P Q [] h k = tt
  each_with P Q (u ∷ us) h k = ((h.0, k.0), each_with P Q us h.1 k.1)

  pub each_weaker : (P Q : A → Type 0) → ((u : A) → P u → Q u) → (us : List A) → Each P us → Each Q us
  each_weaker P Q f [] h = tt
  each_weaker P Q f (u ∷ us) h = (f u h.0, each_weaker P Q f us h.1)

  pub pairs_with : (P : A → Type 0) (R Q : A → A → Type 0) → ((u v : A) → P u → P v → R u v → Q u v) → (us : List A) → Each P us → Pairs R us → Pairs Q us
  pairs_with P R Q f [] h k = tt
  pairs_with P R Q f (u ∷ us) h k = (
    each_weaker (λ v. P v × R u v) (Q u) (λ v g. f u v h.0 g.0 g.1) us (each_with P (R u) us h.1 k.0),
    pairs_with P R Q f us h.1 k.1,
  )

  pub pairs_all : (R : A → A → Type 0) → ((u v : A) → R u v) → (us : List A) → Pairs R us
  pairs_all R f [] = tt
  pairs_all R f (u ∷ us) = (each_index (R u) us (λ i d lt. f u (slice_index_or us i d)), pairs_all R f us)

  -- ---- one item more

  each_put : (P : A → Type 0) (u : A) (lows highs : List A) → P u → Each P (lows ++ highs) → Each P (lows ++ (u ∷ highs))
  each_put P u lows highs one h = each_join P lows (u ∷ highs) (each_left P lows highs h) (one, each_right P lows highs h)

  each_cut : (P : A → Type 0) (u : A) (lows highs : List A) → Each P (lows ++ (u ∷ highs)) → Each P (lows ++ highs)
  each_cut P u lows highs h = each_join P lows highs (each_left P lows (u ∷ highs) h) (each_right P lows (u ∷ highs) h).1

  pairs_put : (R : A → A → Type 0) → ((u v : A) → R u v → R v u) → (u : A) (lows highs : List A) → Each (R u) (lows ++ highs) → Pairs R (lows ++ highs) → Pairs R (lows ++ (u ∷ highs))
  pairs_put R flip u [] highs h k = (h, k)
  pairs_put R flip u (l ∷ lows) highs h k = (each_put (R l) u lows highs (flip u l h.0) k.0, pairs_put R flip u lows highs h.1 k.1)

  pub pairs_cut : (R : A → A → Type 0) (u : A) (lows highs : List A) → Pairs R (lows ++ (u ∷ highs)) → Pairs R (lows ++ highs)
  pairs_cut R u [] highs k = k.1
  pairs_cut R u (l ∷ lows) highs k = (each_cut (R l) u lows highs k.0, pairs_cut R u lows highs k.1)

  pub pairs_before : (R : A → A → Type 0) (u : A) (lows highs : List A) → Pairs R (lows ++ (u ∷ highs)) → Each (λ l. R l u) lows
  pairs_before R u [] highs k = tt
  pairs_before R u (l ∷ lows) highs k = ((each_right (R l) lows (u ∷ highs) k.0).0, pairs_before R u lows highs k.1)

  -- ---- another order

  -- the second has the items of the first, each once
  abbrev pub Mixed : List A → List A → Type 0
  Mixed [] ws = ws ≡ []
  Mixed (u ∷ us) ws = (lows : List A) × (highs : List A) × (ws ≡ lows ++ (u ∷ highs)) × Mixed us (lows ++ highs)

  pub mixed_each : (P : A → Type 0) (us ws : List A) → Mixed us ws → Each P us → Each P ws
  mixed_each P [] ws m h = subst (Each P) (sym m) tt
  mixed_each P (u ∷ us) ws m h = subst (Each P) (sym m.2) (each_put P u m.0 m.1 h.0 (mixed_each P us (m.0 ++ m.1) m.3 h.1))

  pub mixed_pairs : (R : A → A → Type 0) → ((u v : A) → R u v → R v u) → (us ws : List A) → Mixed us ws → Pairs R us → Pairs R ws
  mixed_pairs R flip [] ws m h = subst (Pairs R) (sym m) tt
  mixed_pairs R flip (u ∷ us) ws m h =
      subst (Pairs R) (sym m.2) (pairs_put R flip u m.0 m.1 (mixed_each (R u) us (m.0 ++ m.1) m.3 h.0) (mixed_pairs R flip us (m.0 ++ m.1) m.3 h.1))

  at_front : (front : List A) (u : A) (us : List A) → slice_get (front ++ (u ∷ us)) (length front) ≡ Some u
  at_front [] u us = refl
  at_front (x ∷ front) u us = at_front front u us

  mixed_from : (front us : List A) (cs : List ℕ) → ((x : ℕ) → times x cs + once_below x (length front) ≡ once_below x (length front + length us)) → Mixed us (picked (front ++ us) cs)
  mixed_from front [] [] h = refl
  mixed_from front [] (c ∷ cs) h =
      let same = ap (once_below c) (let e : length front + 0 ≡ length front = omega arith in e) in
      absurd (omega (arith, h c, once_itself c, same))
  mixed_from front (u ∷ us) cs h =
      let k = length front in
      let none : once_below k k ≡ 0 = grind (arith, nat_tests) in
      let there = once_of_below k (k + suc (length us)) (omega arith) in
      let one : 1 ≤ times k cs = omega (arith, h k, none, there) in
      let s = split_at k cs one in
      let all = front ++ (u ∷ us) in
      let rest = mixed_from (front ++ (u ∷ [])) us (s.front ++ s.back) (λ x.
      let long : length (front ++ (u ∷ [])) ≡ k + 1 = length-append front (u ∷ []) in
      let more = ap (once_below x) long ∙ once_below-more x k in
      let far = ap (once_below x) (let e : length (front ++ (u ∷ [])) + length us ≡ k + suc (length us) = omega (arith, long) in e) in
      let cut = ap (times x) s.is ∙ times-append x s.front (k ∷ s.back) in
      omega (arith, h x, more, far, cut, times-append x s.front s.back)) in (
        picked all s.front,
        picked all s.back,
        ap (picked all) s.is ∙ picked-append all s.front (k ∷ s.back) ∙ ap (λ o. picked all s.front ++ with_found o (picked all s.back)) (at_front front u us),
        subst (Mixed us) (ap (λ (zs : List A). picked zs (s.front ++ s.back)) (append_assoc front (u ∷ []) us) ∙ picked-append all s.front s.back) rest,
      )

  -- a list in an order of all its places
  pub mixed : (us : List A) (order : List ℕ) → EachOnceBelow (length us) order → Mixed us (picked us order)
  mixed us order once_each = mixed_from [] us order (λ x.
      let none : once_below x 0 ≡ 0 = grind (arith, nat_tests) in
      let same = ap (once_below x) (let e : 0 + length us ≡ length us = omega arith in e) in
      omega (arith, once_each x, none, same))

  -- ---- what stands behind what

  -- the second stands somewhere behind the first
  abbrev pub Stands : List A → A → A → Type 0
  Stands [] x y = ⊥
  Stands (w ∷ ws) x y = ((w ≡ x) × Among ws y) ⊎ Stands ws x y

  pub stands_in : (front middle back : List A) (x y : A) → Stands (front ++ (x ∷ (middle ++ (y ∷ back)))) x y
  stands_in [] middle back x y = inl (refl, among_right middle (y ∷ back) y (inl refl))
  stands_in (w ∷ front) middle back x y = inr (stands_in front middle back x y)

  stands_second : (ws : List A) (x y : A) → Stands ws x y → Among ws y
  stands_second [] x y h = h
  stands_second (w ∷ ws) x y (inl h) = inr h.1
  stands_second (w ∷ ws) x y (inr h) = inr (stands_second ws x y h)

  each_at : (P : A → Type 0) (xs : List A) → Each P xs → (x : A) → Among xs x → P x
  each_at P [] h x k = absurd k
  each_at P (y ∷ xs) h x (inl e) = subst P e h.0
  each_at P (y ∷ xs) h x (inr k) = each_at P xs h.1 x k

  abbrev Differ : A → A → Type 0
  Differ u v = u ≡ v → ⊥

  none_standing : (B : A → A → Type 0) (ws : List A) → Pairs Differ ws → ((x y : A) → Among ws x → Among ws y → B x y → Stands ws x y) → Pairs (λ u v. B v u → ⊥) ws
  none_standing B [] d h = tt
  none_standing B (w ∷ ws) d h = (
    each_same (λ v. B v w → ⊥) ws (λ v k b. first v k (h v w (inr k) (inl refl) b)),
    none_standing B ws d.1 (λ x y p q b. later x y p (h x y (inr p) (inr q) b)),
  )
    where
      first : (v : A) → Among ws v → Stands (w ∷ ws) v w → ⊥
      first v k (inl s) = each_at (Differ w) ws d.0 v k s.0
      first v k (inr s) = each_at (Differ w) ws d.0 w (stands_second ws v w s) refl

      later : (x y : A) → Among ws x → Stands (w ∷ ws) x y → Stands ws x y
      later x y p (inl s) = absurd (each_at (Differ w) ws d.0 x p s.0)
      later x y p (inr s) = s

  -- where one comes before another, each before those that stand behind it, none comes before one that stands before it
  pub none_before : (B : A → A → Type 0) (ws : List A) → Pairs Differ ws
      → ((u v : A) → B u v → (front : List A) × (middle : List A) × (back : List A) × (ws ≡ front ++ (u ∷ (middle ++ (v ∷ back))))) → Pairs (λ u v. B v u → ⊥) ws
  none_before B ws d earlier =
      none_standing B ws d (λ x y p q b. let r = earlier x y b in subst (λ (zs : List A). Stands zs x y) (sym r.3) (stands_in r.0 r.1 r.2 x y))

  -- one passes those that it may stand behind and before
  pub passed : (N R : A → A → Type 0) (u : A) (us lows highs : List A) → Mixed us (lows ++ highs) → Each (N u) us → Each (λ l. N l u) lows → Each (λ v. N u v → N v u → R u v) us → Each (R u) lows
  passed N R u us lows highs m one two may =
      let both = each_with (N u) (λ v. N v u) lows (each_left (N u) lows highs (mixed_each (N u) us (lows ++ highs) m one)) two in
      let allowed = each_left (λ v. N u v → N v u → R u v) lows highs (mixed_each (λ v. N u v → N v u → R u v) us (lows ++ highs) m may) in
      each_weaker (λ v. (N u v × N v u) × (N u v → N v u → R u v)) (R u) (λ v k. k.1 k.0.0 k.0.1) lows (each_with (λ v. N u v × N v u) (λ v. N u v → N v u → R u v) lows both allowed)
