-- The lines of a text that are well formed, in order.
use Rattle.std.specs.Prelude.{ℕ, zero, suc, Bool, true, false, nat_lt, ◌≡◌, ◌⊎◌, ◌<◌, ◌≤◌, ◌+◌, List, [], ◌∷◌, ◌++◌, length, slice_get, get_or, drop, Some, Result, Err}
use Rattle.std.proofs.Common.{refl, sym, ap, ◌∙◌, subst, inl, inr, arith}
use Rattle.std.specs.List.{HoldsAt}
use Rattle.std.specs.List.Sorted.{IsBinarySearchResult, IsNonDecreasingBy, IsPartitionPoint}
use Rattle.std.specs.Ordering.{nat_cmp, ordering_index}
use Rattle.std.specs.declared.cmp.Ordering.TheVariants.{Less, Equal, Greater}
use Rattle.std.proofs.lemmas.Cmp.{ranked}
use Rattle.std.proofs.lemmas.Option.{same_Some, slice_get_within, slice_get-get_or, slice_get_past}
use Rattle.std.proofs.lemmas.Bool.Decides.{Decides-ltb, nat_tests}
use Rattle.semantics.specs.Source.Text.{first_line, line_from}
use Rattle.pragma.specs.Lines.{line_starts}
use Rattle.semantics.specs.Directives.DirectiveGrammar.{ReadsLine}
use Rattle.pragma_clause.specs.Outcome.{HasForm}
use Rattle.pragma.specs.declared.reading.Reading.{Reading}
use Rattle.pragma.specs.declared.reading.Reading.TheVariants.{Malformed}
use Rattle.pragma.specs.declared.lines.LineReading.{LineReading}
use Rattle.pragma.specs.Reading.{IsReading, AreReadings, IsAbsent, AreReadBelow, AreRead, AddsLine}
use Rattle.pragma.proofs.StartsLaw.{line_of, line_found}

there_before : (ls : List LineReading) (l : LineReading) (i : ℕ) (k : LineReading) → slice_get ls i ≡ Some k → slice_get (ls ++ l ∷ []) i ≡ Some k
there_before [] l i k e = absurd (cc e)
there_before (m ∷ ls) l zero k e = e
there_before (m ∷ ls) l (suc i) k e = there_before ls l i k e

there_last : (ls : List LineReading) (l : LineReading) → slice_get (ls ++ l ∷ []) (length ls) ≡ Some l
there_last [] l = refl
there_last (m ∷ ls) l = there_last ls l

old_or_last : (ls : List LineReading) (l : LineReading) (i : ℕ) (k : LineReading) → slice_get (ls ++ l ∷ []) i ≡ Some k → (slice_get ls i ≡ Some k) ⊎ ((i ≡ length ls) × (k ≡ l))
old_or_last [] l zero k e = inr (refl, sym (same_Some l k e))
old_or_last [] l (suc i) k e = absurd (cc e)
old_or_last (m ∷ ls) l zero k e = inl e
old_or_last (m ∷ ls) l (suc i) k e = go (old_or_last ls l i k e)
  where
    go : (slice_get ls i ≡ Some k) ⊎ ((i ≡ length ls) × (k ≡ l)) → (slice_get ls i ≡ Some k) ⊎ ((suc i ≡ suc (length ls)) × (k ≡ l))
    go (inl o) = inl o
    go (inr p) = inr (ap suc p.0, p.1)

-- of no lines none is there
pub none_below : (text : List ℕ) → AreReadBelow text [] 0
none_below text =
    record {
      found = record { each = λ i l e. absurd (cc e); rising = λ i j k l lt e f. absurd (cc e) };
      below = λ i l e. absurd (cc e);
      others = λ n lt a. absurd (omega (arith, lt));
    }

module _ (text line : List ℕ) (ls : List LineReading) (k : ℕ) (is : line ≡ line_from k text) (h : AreReadBelow text ls k) where
  passed : IsReading line Malformed → AreReadBelow text ls (k + 1)
  passed m =
      record {
        found = h.found;
        below = λ i l e. let b = h.below i l e in omega (arith, b);
        others = λ n lt a. go n lt a (nat_lt n k) refl;
      }
    where
      go : (n : ℕ) → n < k + 1 → IsAbsent ls n → (b : Bool) → nat_lt n k ≡ b → IsReading (line_from n text) Malformed
      go n lt a true t = h.others n ((Decides-ltb n k).0 t) a
      go n lt a false t =
          let same : k ≡ n = grind (arith, nat_tests) in
          subst (λ m. IsReading (line_from m text) Malformed) same (subst (λ bs. IsReading bs Malformed) is m)

  kept : (r : Reading) → IsReading line r → AreReadBelow text (ls ++ record { index = k; reading = r } ∷ []) (k + 1)
  kept r m =
      record {
        found = record { each = λ i l e. each i l (old_or_last ls new i l e); rising = λ i j a b lt e f. up i j a b lt (old_or_last ls new i a e) (old_or_last ls new j b f) };
        below = λ i l e. under i l (old_or_last ls new i l e);
        others = λ n lt a. go n lt a (nat_lt n k) refl;
      }
    where
      new : LineReading
      new = record { index = k; reading = r }

      each : (i : ℕ) (l : LineReading) → (slice_get ls i ≡ Some l) ⊎ ((i ≡ length ls) × (l ≡ new)) → IsReading (line_from l.index text) l.reading
      each i l (inl o) = h.found.each i l o
      each i l (inr p) = subst (λ (x : LineReading). IsReading (line_from x.index text) x.reading) (sym p.1) (subst (λ bs. IsReading bs r) is m)

      under : (i : ℕ) (l : LineReading) → (slice_get ls i ≡ Some l) ⊎ ((i ≡ length ls) × (l ≡ new)) → l.index < k + 1
      under i l (inl o) = let b = h.below i l o in omega (arith, b)
      under i l (inr p) = let e = ap (λ (x : LineReading). x.index) p.1 in omega (arith, e)

      up : (i j : ℕ) (a b : LineReading) → i < j → (slice_get ls i ≡ Some a) ⊎ ((i ≡ length ls) × (a ≡ new)) → (slice_get ls j ≡ Some b) ⊎ ((j ≡ length ls) × (b ≡ new)) → a.index < b.index
      up i j a b lt (inl o) (inl p) = h.found.rising i j a b lt o p
      up i j a b lt (inl o) (inr q) = let l = h.below i a o in let e = ap (λ (x : LineReading). x.index) q.1 in omega (arith, l, e)
      up i j a b lt (inr q) (inl p) = let l = slice_get_within ls j b p in let e = q.0 in absurd (omega (arith, lt, l, e))
      up i j a b lt (inr q) (inr s) = let e = q.0 in let f = s.0 in absurd (omega (arith, lt, e, f))

      go : (n : ℕ) → n < k + 1 → IsAbsent (ls ++ new ∷ []) n → (b : Bool) → nat_lt n k ≡ b → IsReading (line_from n text) Malformed
      go n lt a true t = h.others n ((Decides-ltb n k).0 t) (λ i l e. a i l (there_before ls new i l e))
      go n lt a false t =
          let same : k ≡ n = grind (arith, nat_tests) in
          absurd (a (length ls) new (there_last ls new) same)

  -- one line more
  pub line_added : (after : List LineReading) → AddsLine k line ls after → AreReadBelow text after (k + 1)
  line_added after (inl p) = subst (λ ms. AreReadBelow text ms (k + 1)) (sym p.1) (passed p.0)
  line_added after (inr p) = subst (λ ms. AreReadBelow text ms (k + 1)) (sym p.2) (kept p.0 p.1)

-- ---- lines by where they begin

-- the line of an index
pub is_line_from : (text starts line : List ℕ) (k start : ℕ) → starts ≡ line_starts text → slice_get starts k ≡ Some start → line ≡ first_line (drop start text) → line ≡ line_from k text
is_line_from text starts line k start s e l = l ∙ ap (line_of text) (sym e) ∙ ap (λ ns. line_of text (slice_get ns k)) s ∙ sym (line_found text text 0 k refl)

-- the empty line behind the last
nothing_read : IsReading [] Malformed
nothing_read = (λ (t : HasForm []). absurd (cc t.is_line), λ d (r : ReadsLine [] d). absurd (cc r.is_line))

-- behind the last line there is none
pub all_read : (text starts : List ℕ) (ls : List LineReading) (k : ℕ) → starts ≡ line_starts text → length starts ≤ k → AreReadBelow text ls k → AreRead text ls
all_read text starts ls k s le h = record { found = h.found; others = λ n a. go n a (nat_lt n k) refl }
  where
    go : (n : ℕ) → IsAbsent ls n → (b : Bool) → nat_lt n k ≡ b → IsReading (line_from n text) Malformed
    go n a true t = h.others n ((Decides-ltb n k).0 t) a
    go n a false t =
        let past : length starts ≤ n = grind (arith, nat_tests) in
        let none' : line_from n text ≡ [] = line_found text text 0 n refl ∙ ap (λ ns. line_of text (slice_get ns n)) (sym s) ∙ ap (line_of text) (slice_get_past starts n past) in
        subst (λ bs. IsReading bs Malformed) (sym none') nothing_read

-- ---- the search

module _ (text : List ℕ) (ls : List LineReading) (n : ℕ) (h : AreReadings text ls) where
  pub found_reading : (i : ℕ) (l : LineReading) → i < length ls → l ≡ get_or ls i l → HoldsAt (λ y. nat_cmp y.index n ≡ Equal) ls i → IsReading (line_from n text) l.reading
  found_reading i l lt e at =
      let here : slice_get ls i ≡ Some l = slice_get-get_or ls i l lt ∙ ap Some (sym e) in
      let same : l.index ≡ n = ap (λ (x : LineReading). x.index) e ∙ ranked _ n _ (sym (at l)) in
      subst (λ m. IsReading (line_from m text) l.reading) same (h.each i l here)

  comparisons_rise : IsNonDecreasingBy (λ y. ordering_index (nat_cmp y.index n)) ls
  comparisons_rise i j d le lt = go (nat_lt i j) refl
    where
      go : (b : Bool) → nat_lt i j ≡ b → ordering_index (nat_cmp (get_or ls i d).index n) ≤ ordering_index (nat_cmp (get_or ls j d).index n)
      go true t =
          let less : i < j = (Decides-ltb i j).0 t in
          let up = h.rising i j (get_or ls i d) (get_or ls j d) less (slice_get-get_or ls i d (omega (arith, less, lt))) (slice_get-get_or ls j d lt) in
          grind (arith, nat_tests)
      go false t =
          let same : i ≡ j = grind (arith, nat_tests) in
          let values = ap (λ m. ordering_index (nat_cmp (get_or ls m d).index n)) same in
          omega (arith, values)

  pub none_found : (r : Result ℕ ℕ) (i : ℕ) → r ≡ Err i → IsBinarySearchResult (λ y. nat_cmp y.index n) ls r → IsAbsent ls n
  none_found r i is found k l e same = go (nat_lt k i) refl
    where
      parted : IsPartitionPoint (λ (y : LineReading). nat_cmp y.index n ≡ Less) (λ (y : LineReading). nat_cmp y.index n ≡ Greater) ls i
      parted = subst (IsBinarySearchResult (λ y. nat_cmp y.index n) ls) is found comparisons_rise

      within : k < length ls
      within = slice_get_within ls k l e

      index_at : (get_or ls k l).index ≡ n
      index_at = ap (λ (x : LineReading). x.index) (sym (same_Some l (get_or ls k l) (sym e ∙ slice_get-get_or ls k l within))) ∙ same

      go : (b : Bool) → nat_lt k i ≡ b → ⊥
      go true t =
          let less = ranked _ n _ (sym (parted.0 k l (omega arith) ((Decides-ltb k i).0 t))) in
          omega (arith, less, index_at)
      go false t =
          let le : i ≤ k = grind (arith, nat_tests) in
          let more = ranked _ n _ (sym (parted.1 k l le within)) in
          omega (arith, more, index_at)
