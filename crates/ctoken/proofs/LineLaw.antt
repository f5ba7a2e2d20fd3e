-- The token of a line that begins with `#`.
use Rattle.std.specs.Prelude.{ℕ, Bool, true, false, not, ◌==◌, ◌||◌, ◌≡◌, List, Some, None, length, drop}
use Rattle.std.proofs.Common.{sym, ap, ◌∙◌}
use Rattle.std.proofs.lemmas.Bool.{cond-true, cond-false}
use Rattle.semantics.specs.Source.Text.{is_blank, skip_blanks, is_directive_line}
use Rattle.semantics.specs.Source.Token.{Line, Header}
use Rattle.semantics.specs.Source.Cuts.{header_of}
use Rattle.std.specs.List.{list_all}
use Rattle.ctoken.specs.Front.{run, Took, hash_line, header_piece}

abbrev is_plain : List ℕ → Bool
is_plain bs = list_all (λ b. not ((b == 35) || (b == 92))) (drop 1 bs)

pub hash_line-directive : (n : ℕ) (line body : List ℕ) (blanks : ℕ) → body ≡ skip_blanks line → blanks ≡ run is_blank line
    → is_directive_line line ≡ true → list_all (λ b. not ((b == 35) || (b == 92))) (drop 1 body) ≡ true
    → hash_line n line ≡ Some (Took blanks (length body) (Line n))
hash_line-directive n line body blanks e d h k =
    cond-true _ _ _ h ∙ cond-true _ _ _ (ap is_plain (sym e) ∙ k) ∙ ap (λ m. Some (Took m (length (skip_blanks line)) (Line n))) (sym d)
    ∙ ap (λ v. Some (Took blanks (length v) (Line n))) (sym e)

pub hash_line-stray : (n : ℕ) (line body : List ℕ) → body ≡ skip_blanks line
    → is_directive_line line ≡ true → list_all (λ b. not ((b == 35) || (b == 92))) (drop 1 body) ≡ false → hash_line n line ≡ None
hash_line-stray n line body e h k = cond-true _ _ _ h ∙ cond-false _ _ _ (ap is_plain (sym e) ∙ k)

pub hash_line-header : (n : ℕ) (line body : List ℕ) (blanks h : ℕ) → body ≡ skip_blanks line → blanks ≡ run is_blank line
    → is_directive_line line ≡ false → header_of line ≡ Some h → hash_line n line ≡ Some (Took blanks (length body) (Header h))
hash_line-header n line body blanks h e d k j =
    cond-false _ _ _ k ∙ ap (header_piece line) j ∙ ap (λ m. Some (Took m (length (skip_blanks line)) (Header h))) (sym d)
    ∙ ap (λ v. Some (Took blanks (length v) (Header h))) (sym e)
