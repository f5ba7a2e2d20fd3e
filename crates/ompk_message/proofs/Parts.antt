-- Words that are put one behind another.
use Rattle.std.specs.Prelude.{ℕ, zero, suc, ◌≡◌, ◌+◌, ◌<◌, List, [], ◌∷◌, ◌++◌, length, take, drop, map, Result, Ok, Err}
use Rattle.std.proofs.Common.{refl, sym, ap, ◌∙◌, subst, arith, append_assoc, get_or}
use Rattle.std.proofs.lemmas.Grind.{flat_map-append}
use Rattle.std.proofs.lemmas.Result.{on_ok_weaker, on_err_weaker}
use Rattle.ktree.specs.declared.refusal.Refusal.{Refusal}
use Rattle.seqrun_io.specs.Told.{AddsBeginning}
use Rattle.seqrun_io.proofs.Beginnings.{of_front, of_rest}
use Rattle.ompk_message.specs.Message.{joined}
use Rattle.ompk_message.specs.Outcome.{PutsOrFails}

joined-append : (xs ys : List (List ℕ)) → joined (xs ++ ys) ≡ joined xs ++ joined ys
joined-append xs ys = flat_map-append (λ x. x) xs ys

-- up to one of them, and behind it, where each thing has a text
around : {A : Type 0} (f : A → List ℕ) (xs : List A) (i : ℕ) (d : A) → i < length xs → joined (map f xs) ≡ joined (map f (take i xs)) ++ (f (get_or xs i d) ++ joined (map f (drop (suc i) xs)))
around f [] i d lt = absurd (omega arith)
around f (x ∷ xs) zero d lt = refl
around f (x ∷ xs) (suc i) d lt =
    ap (λ l. f x ++ l) (around f xs i d (omega arith))
    ∙ sym (append_assoc (f x) (joined (map f (take i xs))) (f (get_or xs i d) ++ joined (map f (drop (suc i) xs))))

module _ {S : Type 0} {told : S → List ℕ} {failed : S → ℕ} where
  -- one text, and then another
  both : {T U : Type 0} {old middle new : S} {x : T} (front rest : List ℕ) (result : Result U Refusal) → PutsOrFails told failed old middle front (Ok x) → PutsOrFails told failed middle new rest result
      → PutsOrFails told failed old new (front ++ rest) result
  both {old = old} {middle = middle} {new = new} front rest result p q = record {
    all = on_ok_weaker result (λ e. e ∙ ap (λ l. l ++ rest) p.all ∙ append_assoc (told old) front rest) q.all;
    beginning = of_rest (told old) (told middle) (told new) front rest p.all q.beginning;
    sound = on_ok_weaker result (λ e. e ∙ p.sound) q.sound;
    counted = on_err_weaker result (λ e. e ∙ ap (λ n. n + 1) p.sound) q.counted;
    refusal = q.refusal;
  }

  -- a beginning of one text alone
  front_alone : {T U : Type 0} {old new : S} {e : Refusal} (front rest : List ℕ) → PutsOrFails {T = T} told failed old new front (Err e) → PutsOrFails {T = U} told failed old new (front ++ rest) (Err e)
  front_alone {old = old} {new = new} front rest p = record {
    all = tt;
    beginning = of_front (told old) (told new) front rest p.beginning;
    sound = tt;
    counted = p.counted;
    refusal = p.refusal;
  }

  pub both_put : {T U : Type 0} {old middle new : S} {x : T} (xs ys : List (List ℕ)) (result : Result U Refusal) → PutsOrFails told failed old middle (joined xs) (Ok x) → PutsOrFails told failed middle new (joined ys) result
      → PutsOrFails told failed old new (joined (xs ++ ys)) result
  both_put xs ys result p q = rw (joined-append xs ys) (both (joined xs) (joined ys) result p q)

  pub front_put : {T U : Type 0} {old new : S} {e : Refusal} (xs ys : List (List ℕ)) → PutsOrFails {T = T} told failed old new (joined xs) (Err e) → PutsOrFails {T = U} told failed old new (joined (xs ++ ys)) (Err e)
  front_put xs ys p = rw (joined-append xs ys) (front_alone (joined xs) (joined ys) p)

  -- those up to one of them, and a beginning of this one
  pub part_put : {A T U : Type 0} {old middle new : S} {e : Refusal} (f : A → List ℕ) (xs : List A) (i : ℕ) (d : A) → i < length xs → told middle ≡ told old ++ joined (map f (take i xs)) → failed middle ≡ failed old
      → PutsOrFails {T = T} told failed middle new (f (get_or xs i d)) (Err e) → PutsOrFails {T = U} told failed old new (joined (map f xs)) (Err e)
  part_put {old = old} {middle = middle} {new = new} f xs i d lt t s p = record {
    all = tt;
    beginning =
        subst (AddsBeginning (told old) (told new)) (sym (around f xs i d lt))
        (of_rest (told old) (told middle) (told new) (joined (map f (take i xs))) (f (get_or xs i d) ++ joined (map f (drop (suc i) xs))) t (of_front (told middle) (told new) (f (get_or xs i d)) (joined (map f (drop (suc i) xs))) p.beginning));
    sound = tt;
    counted = p.counted ∙ ap (λ n. n + 1) s;
    refusal = p.refusal;
  }
