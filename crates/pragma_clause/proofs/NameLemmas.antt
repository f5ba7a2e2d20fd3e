-- A name is ASCII.
use Rattle.std.specs.Prelude.{ℕ, zero, suc, true, ◌≡◌, ◌<◌, List, [], ◌∷◌, IsAscii}
use Rattle.std.specs.List.{list_all}
use Rattle.std.proofs.Common.{arith}
use Rattle.std.proofs.lemmas.Bool.{and_parts}
use Rattle.std.proofs.lemmas.Bool.Decides.{nat_tests}
use Rattle.semantics.specs.Source.Cuts.{is_letter, is_word_byte, is_name}

letter_below : (b : ℕ) → is_letter b ≡ true → b < 128
letter_below b h = grind (arith, nat_tests)

word_byte_below : (b : ℕ) → is_word_byte b ≡ true → b < 128
word_byte_below b h = grind (arith, nat_tests)

all_below : (bs : List ℕ) → list_all is_word_byte bs ≡ true → IsAscii bs
all_below [] h i = omega arith
all_below (b ∷ bs) h zero = word_byte_below b (and_parts _ _ h).0
all_below (b ∷ bs) h (suc i) = all_below bs (and_parts _ _ h).1 i

pub name_is_ascii : (word : List ℕ) → is_name word ≡ true → IsAscii word
name_is_ascii [] h i = omega arith
name_is_ascii (b ∷ bs) h zero = letter_below b (and_parts _ _ h).0
name_is_ascii (b ∷ bs) h (suc i) = all_below bs (and_parts _ _ h).1 i
