-- The classes of bytes.
use Rattle.std.specs.Prelude.{ℕ, Bool}
use Rattle.semantics.specs.Source.Text.{is_blank}
use Rattle.semantics.specs.Source.Cuts.{is_digit, is_word_byte}
use Rattle.ctoken.specs.Front.{is_comment_byte}
use Rattle.ctoken.specs.declared.bytes.Class.{Class}
use Rattle.ctoken.specs.declared.bytes.Class.TheVariants.{Blank, Digit, Word, Comment}

-- the bytes of a class
abbrev pub class_test : Class → ℕ → Bool
class_test Blank b = is_blank b
class_test Digit b = is_digit b
class_test Word b = is_word_byte b
class_test Comment b = is_comment_byte b
