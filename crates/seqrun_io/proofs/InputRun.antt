-- An input's lines, one after another.
use Rattle.std.specs.Prelude.{ℕ, zero, suc, Bool, true, false, ◌≡◌, ◌==◌, ◌+◌, ◌<◌, ◌≤◌, ◌||◌, ◌^◌, nat_eq, List, [], ◌∷◌, ◌++◌, length, map, take, drop, replicate, Some, slice_get, slice_set}
use Rattle.std.specs.List.{list_any}
use Rattle.std.proofs.Common.{refl, sym, ap, ◌∙◌, subst, arith, inl, inr, append_assoc, append-nil, get_or, get_or-set_same, get_or-set_other}
use Rattle.std.proofs.lemmas.Bool.{eq-eqb, eqb-true}
use Rattle.std.proofs.lemmas.List.{take-append-drop, take_all, length-replicate}
use Rattle.std.proofs.Common.{drop-cons}
use Rattle.std.proofs.lemmas.List.{map-append}
use Rattle.std.proofs.Math.Seq.{take-suc}
use Rattle.semantics.specs.Meaning.Places.{size}
use Rattle.ktree.specs.View.{declaration_of}
use Rattle.ktree.specs.declared.statement.Declaration as code
use Rattle.semantics.specs.Tree.{Declaration}
use Rattle.semantics.specs.Meaning.Output.{Given, AreGiven, NotAmong, input_line, input_text}
use Rattle.semantics.specs.Meaning.InputFault as fault
use Rattle.semantics.specs.Meaning.InputFault.{judged, by_judged, fault_from, first_fault}
use Rattle.ktree.specs.declared.refusal.Cause.{Cause}
use Rattle.ktree.specs.declared.refusal.Cause.TheVariants as cause
use Rattle.store.specs.Kept.{Kept, rewritten_at, HasRoom}
use Rattle.seqrun_io.specs.Lines.{HasLengths}
use Rattle.store.specs.Flat.{zeros_of}
use Rattle.store.specs.declared.shape.Shape.{Shape}
use Rattle.seqrun_io.specs.Reading.{AreVariables, has_none, IsBefore, Marks, IsRight, cause_of, kept_from, IsStart, IsFirstFault, IsFault, RefusesInput, refused}
use Rattle.seqrun_io.specs.declared.reading.Fault.{Fault}
use Rattle.seqrun_io.specs.declared.reading.Fault.TheVariants.{Line, Memory}
use Rattle.seqrun_io.proofs.InputLaw.{at_line, at_end, no_fault}
use Rattle.seqrun_io.proofs.InputStore.{kept_starts, kept_lengths, kept_more, text_more, given_more, zeros_more, room, few_variables}
use Rattle.seqrun_io.proofs.LineSteps.{found_there}
use Rattle.semantics.specs.Source.Grammar.{elements}

-- what is known with these bytes left
pub record Running (ds : List Declaration) (bytes : List ℕ) (ks : List Kept) (seen : List Bool) (rest : List ℕ) (line : ℕ) : Type 0 where
  pub given : Given
  pub marked : List ℕ
  pub text : bytes ≡ input_text ds given ++ rest
  pub each : AreGiven ds given
  pub marks : Marks seen marked
  pub fresh : (x : ℕ) → list_any (nat_eq x) marked ≡ false → NotAmong x given
  pub faults : first_fault ds bytes ≡ fault_from ds line marked [] rest
  pub kept : ks ≡ kept_from 0 ds given
  pub counted : line + length rest ≤ 1 + length bytes
  pub places : length seen ≡ length ds

pub begins : (ds : List Declaration) (bytes : List ℕ) (ks : List Kept) (seen : List Bool) → (n : ℕ) → ks ≡ kept_from 0 ds [] → seen ≡ replicate n false → length ds ≡ n → Running ds bytes ks seen bytes 1
begins ds bytes ks seen n e f c = record {
  given = [];
  marked = [];
  text = refl;
  each = tt;
  marks = record { each = λ x. sym (ap (λ s. get_or s x false) f ∙ all_false n x) };
  fresh = λ x e. tt;
  faults = refl;
  kept = e;
  counted = omega arith;
  places = ap length f ∙ length-replicate n false ∙ sym c;
}
  where
    all_false : (n x : ℕ) → get_or (replicate n false) x false ≡ false
    all_false zero x = refl
    all_false (suc n) zero = refl
    all_false (suc n) (suc x) = all_false n x

pub ends : (ds : List Declaration) (bytes : List ℕ) (ks : List Kept) (seen : List Bool) (rest : List ℕ) (line : ℕ) → Running ds bytes ks seen rest line → length rest ≡ 0 → IsStart ds bytes ks
ends ds bytes ks seen [] line r e = record {
  given = r.given;
  read = record { text = r.text ∙ append-nil (input_text ds r.given); each = r.each };
  kept = r.kept;
  state = ap Rattle.store.specs.Kept.state_of r.kept ∙ kept_starts ds r.given;
  lengths = subst (HasLengths ds) (sym r.kept) (kept_lengths 0 ds r.given);
}
ends ds bytes ks seen (b ∷ rest) line r e = absurd (omega arith)

-- a first fault leaves no values
refuses : (ds : List Declaration) (bytes : List ℕ) (line : ℕ) (c : Cause) → AreVariables ds → first_fault ds bytes ≡ Some (line, cause_of c) → IsFirstFault ds bytes (record { line = line; cause = c })
refuses ds bytes line c a e = record { first = e; none = λ given i. absurd (let n = no_fault ds bytes given a i in cc) }

module _ (ds : List Declaration) (bytes : List ℕ) (ks : List Kept) (seen : List Bool) (rest : List ℕ) (line : ℕ) (a : AreVariables ds) (r : Running ds bytes ks seen rest line) (n : ℕ) (b : IsBefore 10 rest n) where
  -- bytes without a line end
  pub cut_off : 0 < length rest → length (drop n rest) ≡ 0 → IsFirstFault ds bytes (record { line = line; cause = cause.Form })
  cut_off some e =
      let le : length rest ≤ n = omega (arith, Rattle.std.proofs.Common.length-drop n rest) in
      let same : take n rest ≡ rest = take_all n rest le in
      refuses ds bytes line cause.Form a (r.faults ∙ at_end ds line r.marked rest (subst (λ w. has_none 10 w ≡ true) same b.none) some)

  module _ (front further : List ℕ) (first : ℕ) (front_is : front ≡ take n rest) (cut : drop n rest ≡ first ∷ further) where
    ended : first ≡ 10
    ended =
        let lt : n < length rest = omega (arith, Rattle.std.proofs.Common.length-drop n rest, ap length cut) in
        heads_number _ _ _ _ (sym cut ∙ drop-cons rest n 0 lt) ∙ b.there lt
      where
        heads_number : (x y : ℕ) (xs ys : List ℕ) → x ∷ xs ≡ y ∷ ys → x ≡ y
        heads_number x y xs ys e = cc

    whole : rest ≡ front ++ 10 ∷ further
    whole = sym (take-append-drop n rest) ∙ ap (λ w. w ++ drop n rest) (sym front_is) ∙ ap (λ l. front ++ l) (cut ∙ ap (λ c. c ∷ further) ended)

    fault_here : first_fault ds bytes ≡ by_judged line (judged ds r.marked front) (λ x. fault_from ds (suc line) (x ∷ r.marked) [] further)
    fault_here = r.faults ∙ ap (fault_from ds line r.marked []) whole ∙ at_line ds line r.marked front further (subst (λ w. has_none 10 w ≡ true) (sym front_is) b.none)

    pub faulty : (c : Cause) → ((marked : List ℕ) → Marks seen marked → judged ds marked front ≡ fault.Faulty (cause_of c)) → IsFirstFault ds bytes (record { line = line; cause = c })
    faulty c j = refuses ds bytes line c a (fault_here ∙ ap (λ j. by_judged line j (λ x. fault_from ds (suc line) (x ∷ r.marked) [] further)) (j r.marked r.marks))

    pub refused_right : (f : Fault) (seen' : List Bool) → seen' ≡ seen → IsFault ds seen' front f → RefusesInput ds bytes (refused f line)
    refused_right (Line c) seen' s h = inr (_, refl, faulty c (subst (λ s. IsFault ds s front (Line c)) s h))
    refused_right Memory seen' s h = inl refl

    pub one_line : (x : ℕ) (values : List ℕ) (ks' : List Kept) (seen' : List Bool) → IsRight ds seen front x values → ks' ≡ rewritten_at ks x 0 values → seen' ≡ slice_set seen x true → x < length seen → Running ds bytes ks' seen' further (line + 1)
    one_line x values ks' seen' i k s lt =
        let new : list_any (nat_eq x) r.marked ≡ false = r.marks.each x ∙ i.new in
        let among = r.fresh x new in
        record {
          given = r.given ++ (x, values) ∷ [];
          marked = x ∷ r.marked;
          text =
              r.text
              ∙ ap (λ l. input_text ds r.given ++ l) (whole ∙ sym (append_assoc front (10 ∷ []) further) ∙ ap (λ l. l ++ further) i.text)
              ∙ sym (append_assoc (input_text ds r.given) (input_line ds (x, values)) further)
              ∙ ap (λ l. l ++ further) (sym (text_more ds r.given (x, values)));
          each = given_more ds r.given (x, values) r.each i.given among;
          marks = record { each = λ y. marked_at y (y == x) refl };
          fresh = λ y e. fresh_at y e;
          faults =
              fault_here
              ∙ ap (λ j. by_judged line j (λ x. fault_from ds (suc line) (x ∷ r.marked) [] further)) (i.judges r.marked r.marks)
              ∙ ap (λ m. fault_from ds m (x ∷ r.marked) [] further) (let e : suc line ≡ line + 1 = omega arith in e);
          kept =
              k
              ∙ ap (λ l. rewritten_at l x 0 values) r.kept
              ∙ kept_more 0 x ds i.given.0 r.given values (subst (λ z. NotAmong z r.given) (let e : x ≡ 0 + x = omega arith in e) among) i.given.1 i.given.2
              ∙ ap (λ z. kept_from 0 ds (r.given ++ (z, values) ∷ [])) (let e : 0 + x ≡ x = omega arith in e);
          counted = omega (arith, r.counted, ap length whole, Rattle.std.proofs.Common.length-append front (10 ∷ further));
          places = ap length s ∙ Rattle.std.proofs.Math.ListN.length-set seen x true ∙ r.places;
        }
      where
        marked_at : (y : ℕ) (t : Bool) → (y == x) ≡ t → ((y == x) || list_any (nat_eq y) r.marked) ≡ get_or seen' y false
        marked_at y true e =
            ap (λ t. t || list_any (nat_eq y) r.marked) e
            ∙ sym (ap (λ l. get_or l y false) s ∙ ap (λ y. get_or (slice_set seen x true) y false) (eqb-true y x e) ∙ get_or-set_same seen x true false lt)
        marked_at y false e =
            ap (λ t. t || list_any (nat_eq y) r.marked) e
            ∙ r.marks.each y
            ∙ sym (ap (λ l. get_or l y false) s ∙ get_or-set_other seen x y true false (Rattle.std.proofs.lemmas.Bool.eqb-false y x e))

        fresh_at : (y : ℕ) → ((y == x) || list_any (nat_eq y) r.marked) ≡ false → NotAmong y (r.given ++ (x, values) ∷ [])
        fresh_at y e = by_test (y == x) refl (ap (λ t. t) e)
          where
            by_test : (t : Bool) → (y == x) ≡ t → ((y == x) || list_any (nat_eq y) r.marked) ≡ false → NotAmong y (r.given ++ (x, values) ∷ [])
            by_test true f g = absurd (let h = ap (λ t. t || list_any (nat_eq y) r.marked) f in cc)
            by_test false f g =
                Rattle.seqrun_io.proofs.InputStore.among_more y r.given (x, values) (r.fresh y (sym (ap (λ t. t || list_any (nat_eq y) r.marked) f) ∙ g)) (Rattle.std.proofs.lemmas.Bool.eqb-false y x f)

-- zeros for one declaration more
pub one_zero : (ds : List code.Declaration) (i : ℕ) (d : code.Declaration) (shapes : List Shape) (s : Shape) → i < length ds → d ≡ get_or ds i d → map (λ (s : Shape). zeros_of s.lengths.items) shapes ≡ kept_from 0 (map declaration_of (take i ds)) [] → s.lengths.items ≡ d.lengths.items → map (λ (s : Shape). zeros_of s.lengths.items) (shapes ++ s ∷ []) ≡ kept_from 0 (map declaration_of (take (i + 1) ds)) []
one_zero ds i d shapes s lt e f g =
    map-append (λ (s : Shape). zeros_of s.lengths.items) shapes (s ∷ [])
    ∙ ap (λ l. l ++ zeros_of s.lengths.items ∷ []) f
    ∙ ap (λ ls. kept_from 0 (map declaration_of (take i ds)) [] ++ zeros_of ls ∷ []) g
    ∙ sym (zeros_more 0 (map declaration_of (take i ds)) (declaration_of d))
    ∙ ap (λ l. kept_from 0 l []) (sym (map-append declaration_of (take i ds) (d ∷ [])))
    ∙ ap (λ l. kept_from 0 (map declaration_of l) []) (ap (λ d. take i ds ++ d ∷ []) e ∙ sym (take-suc ds i d lt) ∙ ap (λ n. take n ds) (let e : suc i ≡ i + 1 = omega arith in e))

module _ (ds : List Declaration) (bytes : List ℕ) (ks : List Kept) (seen : List Bool) (rest : List ℕ) (line : ℕ) (r : Running ds bytes ks seen rest line) (front : List ℕ) (x : ℕ) (values : List ℕ) (i : IsRight ds seen front x values) where
  -- the values have room
  pub one_room : HasRoom (slice_get ks x) (0 + length values)
  one_room =
      subst (λ l. HasRoom (slice_get l x) (0 + length values)) (sym r.kept)
      (room 0 x ds i.given.0 r.given (length values) (subst (λ z. NotAmong z r.given) (let e : x ≡ 0 + x = omega arith in e) (r.fresh x (r.marks.each x ∙ i.new))) i.given.1 i.given.2)

  pub one_place : x < length seen
  one_place = let lt = found_there ds x i.given.0 i.given.1 in let n = r.places in omega arith

  pub one_variable : AreVariables ds → elements ds ≤ 2 ^ 24 → x < 2 ^ 32
  one_variable a few = let lt = found_there ds x i.given.0 i.given.1 in let m = few_variables ds a in omega arith
