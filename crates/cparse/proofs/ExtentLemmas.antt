-- Sizes and sums as far as they can be counted.
use Rattle.std.specs.Prelude.{ℕ, zero, suc, Bool, true, false, ◌&&◌, ◌≡◌, ◌+◌, ◌*◌, ◌≤◌, ◌<◌, ◌^◌, min, nat_le, List, [], ◌∷◌, ◌++◌, length, take, map}
use Rattle.std.proofs.Common.{get_or, rules, refl, ap, ◌∙◌, arith}
use Rattle.std.proofs.Math.Nat.{suc-mul}
use Rattle.std.proofs.lemmas.Bool.{leb-true, leb-false}
use Rattle.std.proofs.Math.Seq.{take-suc}
use Rattle.std.proofs.lemmas.List.{map-append}
use Rattle.semantics.specs.Tree.{Declaration}
use Rattle.ktree.specs.declared.statement.Declaration as code
use Rattle.ktree.specs.View.{declaration_of}
use Rattle.semantics.specs.Meaning.Places.{size}
use Rattle.semantics.specs.Source.Grammar.{elements}

-- a product of what could be counted
pub min_times : (n s m : ℕ) → min (n * min s m) m ≡ min (n * s) m
min_times n s m = go (nat_le s m) refl
  where
    many : (n : ℕ) → m < s → min (n * m) m ≡ min (n * s) m
    many zero h = omega arith
    many (suc k) h =
        let a : m ≤ suc k * m = times k m in
        let b : s ≤ suc k * s = times k s in
        omega arith
      where
        times : (k a : ℕ) → a ≤ suc k * a
        times k a = let e : suc k * a ≡ k * a + a = suc-mul k a in omega arith

    go : (b : Bool) → nat_le s m ≡ b → min (n * min s m) m ≡ min (n * s) m
    go true e = let h = leb-true s m e in let same : min s m ≡ s = omega arith in ap (λ x. min (n * x) m) same
    go false e = let h = leb-false s m e in let same : min s m ≡ m = omega arith in ap (λ x. min (n * x) m) same ∙ many n h

-- one variable more
pub elements_more : (ds : List Declaration) (d : Declaration) → elements (ds ++ d ∷ []) ≡ elements ds + size d.lengths
elements_more [] d = omega arith
elements_more (e ∷ ds) d = let r = elements_more ds d in omega arith

-- of the first variables
abbrev pub sum_to : List code.Declaration → ℕ → ℕ
sum_to vs i = elements (map declaration_of (take i vs))

pub sum_next : (vs : List code.Declaration) (i : ℕ) (d : code.Declaration) → i < length vs → sum_to vs (i + 1) ≡ sum_to vs i + size (declaration_of (get_or vs i d)).lengths
sum_next vs i d h =
    let one : i + 1 ≡ suc i = omega arith in
    ap (sum_to vs) one ∙ ap (λ xs. elements (map declaration_of xs)) (take-suc vs i d h) ∙ ap elements (map-append declaration_of (take i vs) (get_or vs i d ∷ []))
    ∙ elements_more (map declaration_of (take i vs)) (declaration_of (get_or vs i d))

-- the sum grows, so a bound that it passed stays passed
pub still_within : (e f m : ℕ) → e ≤ f → 2 ^ 24 < m → (nat_le e (2 ^ 24) && nat_le (min f m) (2 ^ 24)) ≡ nat_le f (2 ^ 24)
still_within e f m h k = go (nat_le f (2 ^ 24)) refl
  where
    go : (b : Bool) → nat_le f (2 ^ 24) ≡ b → (nat_le e (2 ^ 24) && nat_le (min f m) (2 ^ 24)) ≡ b
    go true d = let l = leb-true f (2 ^ 24) d in search rules
    go false d = let l = leb-false f (2 ^ 24) d in search rules
