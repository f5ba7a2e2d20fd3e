-- What chunks tell, each by its number.
use Rattle.std.specs.Prelude.{ℕ, Bool, true, false, ◌≡◌, ◌<◌, ◌==◌, ◌⊎◌, List, [], ◌∷◌, ◌++◌, length, map, slice_get, slice_set, All, Some}
use Rattle.std.proofs.Common.{refl, sym, ◌∙◌, subst, inl, inr, arith, get_or}
use Rattle.std.proofs.lemmas.Bool.Decides.{nat_tests}
use Rattle.std.proofs.lemmas.Bool.{eqb-true}
use Rattle.std.proofs.lemmas.List.{length-set, ext_get_or, get_or-set_same, get_or-set_other}
use Rattle.std.proofs.lemmas.List.Elements.{All-head, All-tail}
use Rattle.std.proofs.lemmas.Option.{slice_get_within, get_or_from_slice_get}
use Rattle.semantics.specs.Loops.Arrangement.{times, once}
use Rattle.team_log.specs.Logged.{Leaving}
use Rattle.team_log.specs.Printed.{entered_by}

module _ {A : Type 0} (told : Leaving → A) where
  pub entered_both : (cs ds : List Leaving) (table : List A) → entered_by told (cs ++ ds) table ≡ entered_by told ds (entered_by told cs table)
  entered_both [] ds table = refl
  entered_both (c ∷ cs) ds table = entered_both cs ds (slice_set table c.number (told c))

  module _ (d : A) (wanted : List A) where
    abbrev pub Right : Leaving → Type 0
    Right c = slice_get wanted c.number ≡ Some (told c)

    -- where each one tells what is wanted at its number, and each number that has something else so far is among them, all are as they are wanted
    pub entered_all : (cs : List Leaving) (table : List A) → length table ≡ length wanted → All Right cs
        → ((k : ℕ) → k < length wanted → (get_or table k d ≡ get_or wanted k d) ⊎ (0 < times k (map (λ (c : Leaving). c.number) cs))) → entered_by told cs table ≡ wanted
    entered_all [] table count right there = ext_get_or d table wanted count (λ k lt. go k (there k (omega arith)))
      where
        go : (k : ℕ) → (get_or table k d ≡ get_or wanted k d) ⊎ (0 < 0) → get_or table k d ≡ get_or wanted k d
        go k (inl e) = e
        go k (inr none) = absurd (omega arith)
    entered_all (c ∷ cs) table count right there =
        entered_all cs (slice_set table c.number (told c)) (length-set table c.number (told c) ∙ count) (All-tail Right c cs right) (λ k lt. at k lt (c.number == k) refl (there k lt))
      where
        own : slice_get wanted c.number ≡ Some (told c)
        own = All-head Right c cs right

        at : (k : ℕ) → k < length wanted → (b : Bool) → (c.number == k) ≡ b → (get_or table k d ≡ get_or wanted k d) ⊎ (0 < times k (map (λ (c : Leaving). c.number) (c ∷ cs)))
            → (get_or (slice_set table c.number (told c)) k d ≡ get_or wanted k d) ⊎ (0 < times k (map (λ (c : Leaving). c.number) cs))
        at k lt true e is =
            let same : c.number ≡ k = eqb-true c.number k e in
            let here : get_or (slice_set table c.number (told c)) c.number d ≡ get_or wanted c.number d =
            get_or-set_same table c.number (told c) d (let w = slice_get_within wanted c.number (told c) own in omega arith) ∙ sym (get_or_from_slice_get wanted c.number (told c) d own) in
            inl (subst (λ n. get_or (slice_set table c.number (told c)) n d ≡ get_or wanted n d) same here)
        at k lt false e (inl h) = inl (get_or-set_other table c.number k (told c) d (λ same. let z : (c.number == k) ≡ true = grind (arith, nat_tests) in absurd cc) ∙ h)
        at k lt false e (inr some) = let none : once k c.number ≡ 0 = grind (arith, nat_tests) in inr (omega arith)
