-- Lines of a text, and what is left of it where its directive lines are dropped (C11 6.10.6, OpenMP 5.2, 3.1).
use Rattle.std.specs.Prelude.{ℕ, Bool, true, false, ◌&&◌, ◌||◌, ◌==◌, if◌then◌else◌, List, [], ◌∷◌, zero, suc, ◌-◌, drop}

-- a blank is a space or a tab
abbrev pub is_blank : ℕ → Bool
is_blank b = (b == 32) || (b == 9)

-- behind leading blanks
abbrev pub skip_blanks : List ℕ → List ℕ
skip_blanks [] = []
skip_blanks (b ∷ bs) = if is_blank b then skip_blanks bs else b ∷ bs

-- a line, and the text behind it; the line end is in neither
abbrev pub first_line : List ℕ → List ℕ
first_line [] = []
first_line (b ∷ bs) = if b == 10 then [] else b ∷ first_line bs

-- a text begins with a word
abbrev pub starts_with : List ℕ → List ℕ → Bool
starts_with [] bs = true
starts_with (w ∷ ws) [] = false
starts_with (w ∷ ws) (b ∷ bs) = (w == b) && starts_with ws bs

-- behind that word
abbrev pub behind : List ℕ → List ℕ → List ℕ
behind [] bs = bs
behind (w ∷ ws) [] = []
behind (w ∷ ws) (b ∷ bs) = behind ws bs

-- a blank comes next
abbrev pub starts_blank : List ℕ → Bool
starts_blank [] = false
starts_blank (b ∷ bs) = is_blank b

-- a blank or the end comes next
abbrev pub ends_word : List ℕ → Bool
ends_word [] = true
ends_word (b ∷ bs) = is_blank b

-- the word `pragma`, and the word `omp`
abbrev pub pragma_word : List ℕ
pragma_word = 112 ∷ 114 ∷ 97 ∷ 103 ∷ 109 ∷ 97 ∷ []

abbrev pub omp_word : List ℕ
omp_word = 111 ∷ 109 ∷ 112 ∷ []

-- behind the word, and one blank at least
abbrev pub is_omp_rest : List ℕ → Bool
is_omp_rest bs = starts_blank bs && (starts_with omp_word (skip_blanks bs) && ends_word (behind omp_word (skip_blanks bs)))

-- behind the `#` and blanks
abbrev pub is_pragma_rest : List ℕ → Bool
is_pragma_rest bs = starts_with pragma_word bs && is_omp_rest (behind pragma_word bs)

-- behind leading blanks
abbrev pub is_hash_rest : List ℕ → Bool
is_hash_rest [] = false
is_hash_rest (b ∷ bs) = (b == 35) && is_pragma_rest (skip_blanks bs)

-- the bytes of a directive line behind its `omp`
abbrev pub behind_omp : List ℕ → List ℕ
behind_omp line = behind omp_word (skip_blanks (behind pragma_word (skip_blanks (drop 1 (skip_blanks line)))))

-- blanks, `#`, blanks, `pragma`, blanks, `omp`, and then a blank or the line's end
abbrev pub is_directive_line : List ℕ → Bool
is_directive_line line = is_hash_rest (skip_blanks line)

-- the text behind its first line and that line's end
abbrev pub behind_line : List ℕ → List ℕ
behind_line [] = []
behind_line (b ∷ bs) = if b == 10 then bs else behind_line bs

-- a line by its number, from 0
abbrev pub line_from : ℕ → List ℕ → List ℕ
line_from zero text = first_line text
line_from (suc n) text = line_from n (behind_line text)

-- a line by its number, from 1
abbrev pub line_at : List ℕ → ℕ → List ℕ
line_at text n = line_from (n - 1) text

-- a text is cut at its line ends: the rest of a line, with the line's own kind
abbrev pub erase_from : Bool → List ℕ → List ℕ
erase_from dropping [] = []
erase_from dropping (b ∷ bs) =
    if b == 10
    then 10 ∷ erase_from (is_directive_line (first_line bs)) bs
    else (if dropping then erase_from true bs else b ∷ erase_from false bs)

-- the text with the bytes of each directive line dropped and its line end kept
abbrev pub erase : List ℕ → List ℕ
erase text = erase_from (is_directive_line (first_line text)) text
