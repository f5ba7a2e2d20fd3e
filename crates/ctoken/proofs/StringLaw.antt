-- A string that is read byte by byte.
use Rattle.std.specs.Prelude.{ℕ, Bool, true, false, ◌≡◌, ◌+◌, ◌-◌, ◌<◌, ◌≤◌, List, [], ◌∷◌, ◌++◌, length, take, drop, Option, Some, None}
use Rattle.std.proofs.Common.{refl, sym, ap, ◌∙◌, arith}
use Rattle.std.proofs.lemmas.List.{append-nil, at_drop_all, length-append, take_at}
use Rattle.semantics.specs.Source.Token.{StringLiteral}
use Rattle.semantics.specs.Source.Cuts.{Spells, Stands, text}
use Rattle.ctoken.specs.Front as front
use Rattle.ctoken.specs.Front.{one_more, spelled}
use Rattle.ctoken.proofs.FrontLaw.{spelled_whole}
use Rattle.ctoken.specs.declared.string.Mode.{Mode}
use Rattle.ctoken.specs.declared.string.Mode.TheVariants.{Plain, Escape, Percent}

abbrev pub mode_of : Mode → front.Mode
mode_of Plain = front.Plain
mode_of Escape = front.Escape
mode_of Percent = front.Percented

-- a byte was passed before each escape
abbrev pub IsBehind : Mode → ℕ → Type 0
IsBehind Plain i = Unit {0}
IsBehind Escape i = 0 < i
IsBehind Percent i = 0 < i

-- so many bytes further
abbrev pub further : ℕ → Option (ℕ × Bool) → Option (ℕ × Bool)
further i None = None
further i (Some r) = Some (i + r.0, r.1)

-- a string literal's bytes
pub stands_string : {w rest cs : List ℕ} {o : Bool} → Stands w rest (StringLiteral cs o) → (bs : List ℕ) × (w ≡ 34 ∷ (bs ++ 34 ∷ [])) × Spells bs cs o
stands_string (text {bs = bs} s) = (bs, refl, s)

spelled-nil : (escaped : Bool) → spelled escaped [] ≡ []
spelled-nil true = refl
spelled-nil false = refl

-- what is decoded between the quotes
pub spelled-literal : (w : List ℕ) (q : ℕ) (bytes done part : List ℕ) (i : ℕ) (escaped : Bool) → w ≡ q ∷ bytes → part ≡ take (length bytes - 1) bytes → length part ≤ i
    → done ++ spelled escaped (drop i part) ≡ spelled false part
    → (rest cs : List ℕ) (o : Bool) → Stands w rest (StringLiteral cs o) → done ≡ cs
spelled-literal w q bytes done part i escaped e p l h rest cs o s =
    let string = stands_string s in
    let bs : List ℕ = string.0 in
    let same : q ∷ bytes ≡ 34 ∷ (bs ++ 34 ∷ []) = sym e ∙ string.1 in
    let tails : bytes ≡ bs ++ 34 ∷ [] = cc in
    let long : length bytes - 1 ≡ length bs = omega (arith, ap length tails, length-append bs (34 ∷ [])) in
    let is : part ≡ bs = p ∙ ap (λ n. take n bytes) long ∙ ap (take (length bs)) tails ∙ take_at bs (34 ∷ []) (length bs) refl in
    sym (append-nil done) ∙ ap (λ xs. done ++ xs) (sym (at_drop_all (spelled escaped) part i l ∙ spelled-nil escaped)) ∙ h ∙ ap (spelled false) is ∙ spelled_whole string.2
