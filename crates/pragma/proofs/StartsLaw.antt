-- Lines by where they begin.
use Rattle.std.specs.Prelude.{ℕ, zero, suc, Bool, true, false, ◌≡◌, ◌==◌, ◌<◌, if◌then◌else◌, List, [], ◌∷◌, length, get_or, Option, Some, None, slice_get, drop, ◌-◌}
use Rattle.std.proofs.Common.{refl, sym, ap, ◌∙◌}
use Rattle.std.proofs.lemmas.Option.{slice_get-get_or}
use Rattle.semantics.specs.Source.Text.{first_line, behind_line, line_from, line_at}
use Rattle.pragma.specs.Lines.{starts_from, line_starts}

-- the line that begins at a position
abbrev pub line_of : List ℕ → Option ℕ → List ℕ
line_of text None = []
line_of text (Some at) = first_line (drop at text)

nothing_left : (n : ℕ) → line_from n [] ≡ []
nothing_left zero = refl
nothing_left (suc n) = nothing_left n

one_less : (at : ℕ) (text : List ℕ) (b : ℕ) (bs : List ℕ) → drop at text ≡ b ∷ bs → drop (suc at) text ≡ bs
one_less zero [] b bs e = cc e
one_less zero (x ∷ xs) b bs e = cc e
one_less (suc at) [] b bs e = cc e
one_less (suc at) (x ∷ xs) b bs e = one_less at xs b bs e

turn : (whole bs : List ℕ) (at n : ℕ) (c : Bool) → line_from n bs ≡ line_of whole (slice_get (suc at ∷ starts_from (suc at) bs) n) → line_from n (behind_line bs) ≡ line_of whole (slice_get (starts_from (suc at) bs) n)
    → line_from n (if c then bs else behind_line bs) ≡ line_of whole (slice_get (if c then suc at ∷ starts_from (suc at) bs else starts_from (suc at) bs) n)
turn whole bs at n true here later = here
turn whole bs at n false here later = later

-- of a text from a position on, each line begins where it is said
pub line_found : (whole text : List ℕ) (at n : ℕ) → drop at whole ≡ text → line_from n text ≡ line_of whole (slice_get (at ∷ starts_from at text) n)
line_found whole text at zero e = ap first_line (sym e)
line_found whole [] at (suc n) e = nothing_left n
line_found whole (b ∷ bs) at (suc n) e =
    turn whole bs at n (b == 10) (line_found whole bs (suc at) n (one_less at whole b bs e)) (line_found whole bs (suc at) (suc n) (one_less at whole b bs e))

-- a line by its number
pub line_is : (text all starts : List ℕ) (n number : ℕ) → text ≡ all → starts ≡ line_starts text → n ≡ number - 1 → line_of text (slice_get starts n) ≡ line_at all number
line_is text all starts n number v s e =
    ap (λ ns. line_of text (slice_get ns n)) s ∙ sym (line_found text text 0 n refl) ∙ ap (line_from n) v ∙ ap (λ m. line_from m all) e

-- an item that is there
pub is_there : {A : Type 0} (xs : List A) (i : ℕ) (x : A) → i < length xs → x ≡ get_or xs i x → slice_get xs i ≡ Some x
is_there xs i x lt e = slice_get-get_or xs i x lt ∙ ap Some (sym e)
