-- The private locals of directive lines, and all variables but some.
use Rattle.std.specs.Prelude.{ℕ, Bool, true, false, not, ◌==◌, ◌&&◌, ◌||◌, if◌then◌else◌, ◌≡◌, ◌<◌, ◌≤◌, List, [], ◌∷◌, filter}
use Rattle.std.proofs.Common.{refl, sym, ap, ◌∙◌, arith}
use Rattle.std.proofs.Math.Path.{fun_ext}
use Rattle.std.proofs.lemmas.Bool.{eqb-true, eqb-false, lt-ltb, le-ltb}
use Rattle.semantics.specs.Tree.{Variable}
use Rattle.semantics.specs.Meaning.Agrees.{is_among}
use Rattle.semantics.specs.Meaning.Definite.{DefinitelyAssigned, known_with, without}
use Rattle.flow_definite.specs.Judged.{is_local, known_of}
use Rattle.flow_definite.proofs.KnownLemmas.{past}
use Rattle.flow.specs.Private.{all_but}

-- one of those that a test leaves passes it
pub among_left : (f : Variable → Bool) (xs : List Variable) (x : Variable) → is_among (filter f xs) x ≡ (f x && is_among xs x)
among_left f [] x = go (f x)
  where
    go : (b : Bool) → false ≡ (b && false)
    go true = refl
    go false = refl
among_left f (y ∷ xs) x = go (f y) refl (y == x) refl (among_left f xs x)
  where
    rest : List Variable
    rest = filter f xs

    go : (b : Bool) → f y ≡ b → (e : Bool) → (y == x) ≡ e → is_among rest x ≡ (f x && is_among xs x) → is_among (if f y then y ∷ rest else rest) x ≡ (f x && ((y == x) || is_among xs x))
    go true is true same later =
        ap (λ (b : Bool). is_among (if b then y ∷ rest else rest) x) is ∙ ap (λ b. b || is_among rest x) same
        ∙ sym (ap (λ b. f x && (b || is_among xs x)) same ∙ ap (λ b. b && true) (sym (ap f (eqb-true y x same)) ∙ is))
    go false is true same later =
        ap (λ (b : Bool). is_among (if b then y ∷ rest else rest) x) is ∙ later ∙ ap (λ b. b && is_among xs x) none
        ∙ sym (ap (λ b. f x && (b || is_among xs x)) same ∙ ap (λ b. b && true) none)
      where
        none : f x ≡ false
        none = sym (ap f (eqb-true y x same)) ∙ is
    go true is false same later =
        ap (λ (b : Bool). is_among (if b then y ∷ rest else rest) x) is ∙ ap (λ b. b || is_among rest x) same ∙ later ∙ sym (ap (λ b. f x && (b || is_among xs x)) same)
    go false is false same later = ap (λ (b : Bool). is_among (if b then y ∷ rest else rest) x) is ∙ later ∙ sym (ap (λ b. f x && (b || is_among xs x)) same)

-- a local is listed by a line where it is private, and a file-scope variable is not
pub local_listed : (files : ℕ) (xs : List Variable) (x : Variable) → files ≤ x → is_among xs x ≡ is_among (filter (is_local files) xs) x
local_listed files xs x le = sym (among_left (is_local files) xs x ∙ ap (λ b. not b && is_among xs x) (le-ltb x files le))

pub file_not_listed : (files : ℕ) (xs : List Variable) (x : Variable) → x < files → false ≡ is_among (filter (is_local files) xs) x
file_not_listed files xs x lt = sym (among_left (is_local files) xs x ∙ ap (λ b. not b && is_among xs x) (lt-ltb x files lt))

-- ---- all but these

without_at : (k : DefinitelyAssigned) (xs : List Variable) (y : Variable) → without k xs y ≡ (k y && not (is_among xs y))
without_at k [] y = go (k y)
  where
    go : (b : Bool) → b ≡ (b && true)
    go true = refl
    go false = refl
without_at k (x ∷ xs) y = without_at (known_with k x false) xs y ∙ go (y == x) refl (x == y) refl
  where
    go : (b : Bool) → (y == x) ≡ b → (e : Bool) → (x == y) ≡ e → (known_with k x false y && not (is_among xs y)) ≡ (k y && not ((x == y) || is_among xs y))
    go true same true other =
        ap (λ (b : Bool). (if b then false else k y) && not (is_among xs y)) same ∙ nothing (k y) ∙ sym (ap (λ b. k y && not (b || is_among xs y)) other)
      where
        nothing : (b : Bool) → false ≡ (b && false)
        nothing true = refl
        nothing false = refl
    go true same false other = absurd (eqb-false x y other (sym (eqb-true y x same)))
    go false same true other = absurd (eqb-false y x same (sym (eqb-true x y other)))
    go false same false other = ap (λ (b : Bool). (if b then false else k y) && not (is_among xs y)) same ∙ sym (ap (λ b. k y && not (b || is_among xs y)) other)

-- of all variables these are forgotten
pub all_but_these : (ps : List Variable) → without (known_of ([], true)) ps ≡ all_but ps
all_but_these ps = fun_ext (λ y. without_at (known_of ([], true)) ps y ∙ ap (λ b. b && not (is_among ps y)) (past true [] y (omega arith)))
