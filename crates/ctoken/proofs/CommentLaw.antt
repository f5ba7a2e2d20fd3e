-- A comment that is read byte by byte.
use Rattle.std.specs.Prelude.{ℕ, suc, true, false, ◌≡◌, ◌+◌, ◌-◌, ◌<◌, List, [], ◌∷◌, Option, Some, None, option_map, codes, length, take, drop}
use Rattle.std.proofs.Common.{refl, sym, ap, ◌∙◌, get_or, arith}
use Rattle.std.proofs.lemmas.Bool.{cond-true, cond-false, ne_eqb}
use Rattle.std.proofs.lemmas.List.{at_drop_more, drop_more, take_rest}
use Rattle.semantics.specs.Source.Text.{starts_with}
use Rattle.semantics.specs.Source.Token.{Punctuator, Slash}
use Rattle.ctoken.specs.Front.{Took, is_comment_byte, comment_end, slash}

-- so many bytes further
abbrev pub ahead : ℕ → Option ℕ → Option ℕ
ahead i None = None
ahead i (Some k) = Some (i + k)

pub ahead-suc : (i : ℕ) (o : Option ℕ) → ahead i (option_map suc o) ≡ ahead (i + 1) o
ahead-suc i None = refl
ahead-suc i (Some k) = ap Some (let e : i + suc k ≡ i + 1 + k = omega arith in e)

pub comment-step : (bs : List ℕ) (i : ℕ) (whole : Option ℕ) → i < length bs → whole ≡ ahead i (comment_end (drop i bs))
    → starts_with (codes "*/") (take (length bs - i) (drop i bs)) ≡ false → is_comment_byte (get_or bs i 0) ≡ true → whole ≡ ahead (i + 1) (comment_end (drop (i + 1) bs))
comment-step bs i whole h e s p =
    e ∙ ap (ahead i) (at_drop_more comment_end bs i 0 h
    ∙ cond-false _ _ _ (sym (ap (starts_with (codes "*/")) (take_rest bs i ∙ drop_more bs i 0 h)) ∙ s) ∙ cond-true _ _ _ p)
    ∙ ahead-suc i (comment_end (drop (i + 1) bs))

-- a `/` that begins no comment
pub slash-end : (rest : List ℕ) → rest ≡ [] → slash rest ≡ Some (Took 0 1 (Punctuator Slash))
slash-end rest e = ap slash e

pub slash-other : (rest : List ℕ) (b : ℕ) (bs : List ℕ) → rest ≡ b ∷ bs → (b ≡ 47 → ⊥) → (b ≡ 42 → ⊥) → slash rest ≡ Some (Took 0 1 (Punctuator Slash))
slash-other rest b bs e h k = ap slash e ∙ cond-false _ _ _ (ne_eqb b 47 h) ∙ cond-false _ _ _ (ne_eqb b 42 k)
