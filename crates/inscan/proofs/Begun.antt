-- Starts, one chunk after another.
use Rattle.std.specs.Prelude.{ℕ, Bool, true, false, ◌≡◌, ◌+◌, ◌<◌, ◌≤◌, nat_lt, List, [], ◌∷◌, ◌++◌, length, map, take, get_or, Option, Some, slice_index}
use Rattle.std.proofs.Common.{refl, sym, ap, ◌∙◌, arith}
use Rattle.std.proofs.lemmas.Bool.Decides.{nat_tests}
use Rattle.std.proofs.lemmas.List.{map-append, take_more, take-map, length-map, length_push, get_or_push, get_or_append_left}
use Rattle.semantics.specs.Loops.Operator.{ReduceOp, combined, combined_all}
use Rattle.reduce.specs.declared.partial.Partial.{Partial}
use Rattle.reduce.specs.Partial.{partial_of}
use Rattle.inscan.specs.InFront.{AreStarts}

combined_more : (op : ReduceOp) (a : ℕ) (ps : List (Option ℕ)) (p : Option ℕ) → combined_all op a (ps ++ p ∷ []) ≡ combined op (combined_all op a ps) p
combined_more op a [] p = refl
combined_more op a (q ∷ ps) p = combined_more op (combined op a q) ps p

module _ (op : ReduceOp) (held : ℕ) (partials : List Partial) where
  abbrev pub told : List (Option ℕ)
  told = map partial_of partials

  abbrev pub before : ℕ → ℕ
  before c = combined_all op held (take c told)

  -- so many starts, and the value in front of the next chunk
  pub record AreSoFar (i value : ℕ) (starts : List ℕ) : Type 0 where
    pub count : length starts ≡ i + 1
    pub now : value ≡ before i
    pub each : (c : ℕ) → c ≤ i → slice_index starts c ≡ before c

  next : (i : ℕ) (d : Partial) → i < length partials → before (i + 1) ≡ combined op (before i) (partial_of (get_or partials i d))
  next i d lt =
      ap (combined_all op held) (take-map partial_of (i + 1) partials ∙ ap (map partial_of) (take_more partials i d lt) ∙ map-append partial_of (take i partials) (get_or partials i d ∷ []))
      ∙ combined_more op held (map partial_of (take i partials)) (partial_of (get_or partials i d))
      ∙ ap (λ ps. combined op (combined_all op held ps) (partial_of (get_or partials i d))) (sym (take-map partial_of i partials))

  pub one_more : (i value value' : ℕ) (d : Partial) (starts starts' : List ℕ) → i < length partials → AreSoFar i value starts → value' ≡ combined op value (partial_of (get_or partials i d)) → starts' ≡ starts ++ value' ∷ [] → AreSoFar (i + 1) value' starts'
  one_more i value value' d starts starts' lt was is more = record {
    count = ap (λ (l : List ℕ). length l) more ∙ length_push starts value' ∙ ap (λ n. n + 1) was.count;
    now = here;
    each = λ c le. go c (nat_lt c (i + 1)) refl le;
  }
    where
      here : value' ≡ before (i + 1)
      here = is ∙ ap (λ n. combined op n (partial_of (get_or partials i d))) was.now ∙ sym (next i d lt)

      go : (c : ℕ) (b : Bool) → nat_lt c (i + 1) ≡ b → c ≤ i + 1 → slice_index starts' c ≡ before c
      go c true e le =
          let count = was.count in
          let less : c < i + 1 = grind (arith, nat_tests) in
          ap (λ (l : List ℕ). slice_index l c) more ∙ get_or_append_left starts (value' ∷ []) 0 c (omega arith) ∙ was.each c (omega arith)
      go c false e le =
          let count = was.count in
          let least : i + 1 ≤ c = grind (arith, nat_tests) in
          let same : c ≡ i + 1 = omega arith in
          ap (λ (l : List ℕ). slice_index l c) more ∙ get_or_push starts value' 0 c (count ∙ sym same) ∙ here ∙ ap before (sym same)

  pub none_yet : (starts : List ℕ) → starts ≡ held ∷ [] → AreSoFar 0 held starts
  none_yet starts is = record {
    count = ap (λ (l : List ℕ). length l) is;
    now = refl;
    each = λ c le. let zero_is : c ≡ 0 = omega arith in ap (λ (l : List ℕ). slice_index l c) is ∙ ap (slice_index (held ∷ [])) zero_is ∙ ap before (sym zero_is);
  }

  pub all_starts : (i value : ℕ) (starts : List ℕ) → length partials ≤ i → AreSoFar i value starts → i ≤ length partials → AreStarts op held told starts
  all_starts i value starts least was most =
      let many : length told ≡ length partials = length-map partials partial_of in
      let count = was.count in
      record {
        count = omega arith;
        each = λ c le. ap Some (sym (was.each c (omega arith)));
      }
