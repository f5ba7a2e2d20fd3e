-- An input says one thing.
use Rattle.std.specs.Prelude.{ℕ, zero, suc, Bool, true, ◌≡◌, ◌≢◌, ◌<◌, ◌≤◌, ◌^◌, List, [], ◌∷◌, ◌++◌, flat_map, Some, slice_get}
use Rattle.std.specs.List.{list_all}
use Rattle.std.specs.Fmt.{decimal}
use Rattle.std.proofs.Common.{refl, sym, ap, ◌∙◌, subst, arith, append_assoc}
use Rattle.std.proofs.lemmas.Bool.Decides.{nat_tests}
use Rattle.std.proofs.lemmas.Fmt.{digits_decimal, digits_value-decimal}
use Rattle.semantics.specs.Tree.{Declaration, Name}
use Rattle.semantics.specs.Source.Cuts.{is_digit, is_letter, is_word_byte, is_name, decimal_from}
use Rattle.semantics.specs.Meaning.Output.{Given, IsInput, AreGiven, input_text, name_of}
use Rattle.semantics.proofs.EraseTokenLaw.{first_of, second_of}
use Rattle.seqrun_io.specs.Lines.{value_text}
use Rattle.seqrun_io.specs.Reading.{IsOther, AreVariables}
use Rattle.seqrun_io.proofs.InputWords.{numerals}
use Rattle.seqrun_io.proofs.InputLaw.{Smalls, smalls}

-- no byte of a word is a space or a line end
abbrev IsSolid : List ℕ → Type 0
IsSolid [] = Unit {0}
IsSolid (b ∷ bs) = (32 < b) × IsSolid bs

solid : (p : ℕ → Bool) → ((b : ℕ) → p b ≡ true → 32 < b) → (w : List ℕ) → list_all p w ≡ true → IsSolid w
solid p f [] e = tt
solid p f (b ∷ w) e = (f b (first_of (p b) (list_all p w) e), solid p f w (second_of (p b) (list_all p w) e))

letter_solid : (b : ℕ) → is_letter b ≡ true → 32 < b
letter_solid b e = grind (arith, nat_tests)

word_solid : (b : ℕ) → is_word_byte b ≡ true → 32 < b
word_solid b e = grind (arith, nat_tests)

digit_solid : (b : ℕ) → is_digit b ≡ true → 32 < b
digit_solid b e = grind (arith, nat_tests)

name_solid : (w : Name) → is_name w ≡ true → IsSolid w
name_solid [] e = absurd (cc e)
name_solid (b ∷ bs) e = (letter_solid b (first_of (is_letter b) (list_all is_word_byte bs) e), solid is_word_byte word_solid bs (second_of (is_letter b) (list_all is_word_byte bs) e))

decimal_solid : (v : ℕ) → v < 2 ^ 64 → IsSolid (decimal v)
decimal_solid v lt = solid is_digit digit_solid (decimal v) (digits_decimal numerals v lt)

same_head : (x y : ℕ) (xs ys : List ℕ) → x ∷ xs ≡ y ∷ ys → x ≡ y
same_head x y xs ys e = cc

same_tail : (x y : ℕ) (xs ys : List ℕ) → x ∷ xs ≡ y ∷ ys → xs ≡ ys
same_tail x y xs ys e = cc

-- what a text is up to its first space or line end, and behind it
record SameCut (a b c d : List ℕ) : Type 0 where
  word : a ≡ b
  rest : c ≡ d

same_cut : (a b : List ℕ) (s t : ℕ) (c d : List ℕ) → s ≤ 32 → t ≤ 32 → IsSolid a → IsSolid b → a ++ s ∷ c ≡ b ++ t ∷ d → SameCut a b (s ∷ c) (t ∷ d)
same_cut [] [] s t c d le ge h k e = record { word = refl; rest = e }
same_cut [] (y ∷ b) s t c d le ge h k e = let same = same_head s y c (b ++ t ∷ d) e in let more = k.0 in absurd (omega arith)
same_cut (x ∷ a) [] s t c d le ge h k e = let same = same_head x t (a ++ s ∷ c) d e in let more = h.0 in absurd (omega arith)
same_cut (x ∷ a) (y ∷ b) s t c d le ge h k e =
    let same = same_head x y (a ++ s ∷ c) (b ++ t ∷ d) e in
    let r = same_cut a b s t c d le ge h.1 k.1 (same_tail x y (a ++ s ∷ c) (b ++ t ∷ d) e) in
    record { word = λ i. same i ∷ r.word i; rest = r.rest }

-- values behind a name, and the line's end
abbrev ended : List ℕ → List ℕ → List ℕ
ended vs rest = flat_map value_text vs ++ 10 ∷ rest

record Starts (text : List ℕ) : Type 0 where
  byte : ℕ
  more : List ℕ
  low : byte ≤ 32
  is : text ≡ byte ∷ more

starts : (vs rest : List ℕ) → Starts (ended vs rest)
starts [] rest = record { byte = 10; more = rest; low = omega arith; is = refl }
starts (v ∷ vs) rest = record { byte = 32; more = (decimal v ++ flat_map value_text vs) ++ 10 ∷ rest; low = omega arith; is = refl }

cut_ended : (a b vs ws r q : List ℕ) → IsSolid a → IsSolid b → a ++ ended vs r ≡ b ++ ended ws q → SameCut a b (ended vs r) (ended ws q)
cut_ended a b vs ws r q h k e =
    let s = starts vs r in
    let t = starts ws q in
    let cut = same_cut a b s.byte t.byte s.more t.more s.low t.low h k (ap (λ l. a ++ l) (sym s.is) ∙ e ∙ ap (λ l. b ++ l) t.is) in
    record { word = cut.word; rest = s.is ∙ cut.rest ∙ sym t.is }

same_values : (vs ws r q : List ℕ) → Smalls vs → Smalls ws → ended vs r ≡ ended ws q → (vs ≡ ws) × (r ≡ q)
same_values [] [] r q h k e = (refl, same_tail 10 10 r q e)
same_values [] (w ∷ ws) r q h k e = let same = same_head 10 32 r ((decimal w ++ flat_map value_text ws) ++ 10 ∷ q) e in absurd (omega arith)
same_values (v ∷ vs) [] r q h k e = let same = same_head 32 10 ((decimal v ++ flat_map value_text vs) ++ 10 ∷ r) q e in absurd (omega arith)
same_values (v ∷ vs) (w ∷ ws) r q h k e =
    let tails = same_tail 32 32 ((decimal v ++ flat_map value_text vs) ++ 10 ∷ r) ((decimal w ++ flat_map value_text ws) ++ 10 ∷ q) e in
    let both = sym (append_assoc (decimal v) (flat_map value_text vs) (10 ∷ r)) ∙ tails ∙ append_assoc (decimal w) (flat_map value_text ws) (10 ∷ q) in
    let cut = cut_ended (decimal v) (decimal w) vs ws r q (decimal_solid v h.0) (decimal_solid w k.0) both in
    let same = sym (digits_value-decimal numerals v h.0) ∙ ap (decimal_from 0) cut.word ∙ digits_value-decimal numerals w k.0 in
    let rest = same_values vs ws r q h.1 k.1 cut.rest in
    ((λ i. same i ∷ rest.0 i), rest.1)

-- a variable has its own name
named_at : (ds : List Declaration) (x : ℕ) (d : Declaration) → AreVariables ds → slice_get ds x ≡ Some d → is_name d.name ≡ true
named_at [] x d a e = absurd (cc e)
named_at (c ∷ ds) zero d a e = let same : c ≡ d = cc in subst (λ (c : Declaration). is_name c.name ≡ true) same a.0
named_at (c ∷ ds) (suc x) d a e = named_at ds x d a.3 e

apart : (name : Name) (ds : List Declaration) (x : ℕ) (d : Declaration) → IsOther name ds → slice_get ds x ≡ Some d → name ≢ d.name
apart name [] x d o e = absurd (cc e)
apart name (c ∷ ds) zero d o e = let same : c ≡ d = cc in subst (λ (c : Declaration). name ≢ c.name) same o.0
apart name (c ∷ ds) (suc x) d o e = apart name ds x d o.1 e

same_place : (ds : List Declaration) (x y : ℕ) (d e : Declaration) → AreVariables ds → slice_get ds x ≡ Some d → slice_get ds y ≡ Some e → d.name ≡ e.name → x ≡ y
same_place [] x y d e a f g n = absurd (cc f)
same_place (c ∷ ds) zero zero d e a f g n = refl
same_place (c ∷ ds) zero (suc y) d e a f g n = let same : c ≡ d = cc in absurd (apart c.name ds y e a.1 g (ap (λ (c : Declaration). c.name) same ∙ n))
same_place (c ∷ ds) (suc x) zero d e a f g n = let same : c ≡ e = cc in absurd (apart c.name ds x d a.1 f (ap (λ (c : Declaration). c.name) same ∙ sym n))
same_place (c ∷ ds) (suc x) (suc y) d e a f g n = ap suc (same_place ds x y d e a.3 f g n)

-- the first line, and the others
opened : (ds : List Declaration) (g : ℕ × List ℕ) (gs : Given) (d : Declaration) → slice_get ds g.0 ≡ Some d → input_text ds (g ∷ gs) ≡ d.name ++ ended g.1 (input_text ds gs)
opened ds g gs d e =
    ap (λ o. (name_of o ++ flat_map value_text g.1 ++ 10 ∷ []) ++ input_text ds gs) e
    ∙ append_assoc (d.name ++ flat_map value_text g.1) (10 ∷ []) (input_text ds gs)
    ∙ append_assoc d.name (flat_map value_text g.1) (10 ∷ input_text ds gs)

some_bytes : (name vs rest : List ℕ) → [] ≡ name ++ ended vs rest → ⊥
some_bytes [] [] rest e = cc e
some_bytes [] (v ∷ vs) rest e = cc e
some_bytes (b ∷ name) vs rest e = cc e

same_given : (ds : List Declaration) (gs hs : Given) → AreVariables ds → AreGiven ds gs → AreGiven ds hs → input_text ds gs ≡ input_text ds hs → gs ≡ hs
same_given ds [] [] a p q e = refl
same_given ds [] (h ∷ hs) a p q e = absurd (some_bytes q.0.0.name h.1 (input_text ds hs) (e ∙ opened ds h hs q.0.0 q.0.1))
same_given ds (g ∷ gs) [] a p q e = absurd (some_bytes p.0.0.name g.1 (input_text ds gs) (sym e ∙ opened ds g gs p.0.0 p.0.1))
same_given ds (g ∷ gs) (h ∷ hs) a p q e =
    let d = p.0.0 in
    let f = q.0.0 in
    let both = sym (opened ds g gs d p.0.1) ∙ e ∙ opened ds h hs f q.0.1 in
    let cut = cut_ended d.name f.name g.1 h.1 (input_text ds gs) (input_text ds hs) (name_solid d.name (named_at ds g.0 d a p.0.1)) (name_solid f.name (named_at ds h.0 f a q.0.1)) both in
    let place = same_place ds g.0 h.0 d f a p.0.1 q.0.1 cut.word in
    let values = same_values g.1 h.1 (input_text ds gs) (input_text ds hs) (smalls g.1 p.0.3) (smalls h.1 q.0.3) cut.rest in
    let rest = same_given ds gs hs a p.2 q.2 values.1 in
    λ i. (place i, values.0 i) ∷ rest i

-- bytes are an input in one way
pub one_given : (ds : List Declaration) (bytes : List ℕ) (given given' : Given) → AreVariables ds → IsInput ds bytes given → IsInput ds bytes given' → given ≡ given'
one_given ds bytes given given' a i j = same_given ds given given' a i.each j.each (sym i.text ∙ j.text)
