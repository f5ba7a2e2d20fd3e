-- Nests and their bodies.
use Rattle.std.specs.Prelude.{ℕ, zero, suc, Bool, true, false, ◌≡◌, ◌<◌, ◌+◌, ◌==◌, ◌||◌, List, [], ◌∷◌, ◌++◌, ◌≤◌, length, map, Option, Some, None, Contains, option_and_then}
use Rattle.std.specs.List.{list_any}
use Rattle.std.proofs.Common.{refl, sym, ap, ◌∙◌, subst, cond, arith, ⊎_elim}
use Rattle.std.specs.Option.{IfSome}
use Rattle.std.proofs.lemmas.Bool.{eqb-true, eqb-false, true≢false}
use Rattle.std.proofs.lemmas.Option.{same_Some, none-some}
use Rattle.std.proofs.lemmas.List.Elements.{Contains-append_left, Contains-append_right, Contains-append_cases}
use Rattle.semantics.specs.Tree.{Variable, Stmt}
use Rattle.semantics.specs.Meaning.Value.{map_option}
use Rattle.semantics.specs.Loops.Nest.{Loop, as_loop, nest_of}
use Rattle.ktree.specs.declared.place.VarId.{VarId}
use Rattle.affine.specs.declared.interval.Side.{Side}
use Rattle.affine_expr.specs.Forms.{is_counter}
use Rattle.nest_loop.specs.declared.head.Canonical.{Canonical}
use Rattle.nest.specs.Perfect.{NestHas, AreRectangular}
use Rattle.outline.specs.Handed.{ListsLocals, IsBodyOf}

pub body_here : (n : ℕ) (s : Stmt) → n ≡ 0 → IsBodyOf n s s
body_here n s e = ([], ap (λ j. nest_of j s) e)

pub body_inside : (n m : ℕ) (s b c : Stmt) (h : Loop) → n ≡ suc m → as_loop s ≡ Some (h, b) → IsBodyOf m b c → IsBodyOf n s c
body_inside n m s b c h k e (hs, is) =
    (h ∷ hs, ap (λ j. nest_of j s) k ∙ ap (option_and_then (λ found. map_option (λ inner. (found.0 ∷ inner.0, inner.1)) (nest_of m found.1))) e ∙ ap (map_option (λ inner. (h ∷ inner.0, inner.1))) is)

-- a nest has as many loops as it says, and as many forms
abbrev with_loop : Loop → List Loop × Stmt → List Loop × Stmt
with_loop l inner = (l ∷ inner.0, inner.1)

nest_length : (n : ℕ) (s : Stmt) (hs : List Loop) (body : Stmt) → nest_of n s ≡ Some (hs, body) → length hs ≡ n
nest_length zero s hs body h = sym (ap (λ (p : List Loop × Stmt). length p.0) (same_Some ([], s) (hs, body) h))
nest_length (suc n) s hs body h = at (as_loop s) h (λ b gs c k. nest_length n b gs c k)
  where
    inner : (l : Loop) (b : Stmt) (o : Option (List Loop × Stmt)) → nest_of n b ≡ o → map_option (with_loop l) o ≡ Some (hs, body)
        → ((b : Stmt) (gs : List Loop) (c : Stmt) → nest_of n b ≡ Some (gs, c) → length gs ≡ n) → length hs ≡ suc n
    inner l b None is k rest = absurd (none-some (hs, body) k)
    inner l b (Some (gs, c)) is k rest = sym (ap (λ (p : List Loop × Stmt). length p.0) (same_Some (l ∷ gs, c) (hs, body) k)) ∙ ap suc (rest b gs c is)

    at : (o : Option (Loop × Stmt)) → option_and_then (λ (found : Loop × Stmt). map_option (with_loop found.0) (nest_of n found.1)) o ≡ Some (hs, body)
        → ((b : Stmt) (gs : List Loop) (c : Stmt) → nest_of n b ≡ Some (gs, c) → length gs ≡ n) → length hs ≡ suc n
    at None k rest = absurd (none-some (hs, body) k)
    at (Some (l, b)) k rest = inner l b (nest_of n b) refl k rest

as_many : (box : List Side) (hs : List Loop) (ls : List Canonical) → AreRectangular box hs ls → length ls ≡ length hs
as_many box [] [] r = refl
as_many box [] (l ∷ ls) r = absurd r
as_many box (h ∷ hs) [] r = absurd r
as_many box (h ∷ hs) (l ∷ ls) r = ap suc (as_many box hs ls r.2)

pub forms_of_nest : (n : ℕ) (s : Stmt) (box : List Side) (ls : List Canonical) → NestHas (λ hs. AreRectangular box hs ls) n s → n ≤ 4 → length ls ≤ 4
forms_of_nest n s box ls (hs, body, is, forms) few =
    let same : length ls ≡ n = as_many box hs ls forms ∙ nest_length n s hs body is in
    omega arith

-- ---- the variables of a box

any_side : (box : List Side) (x : Variable) → is_counter box x ≡ true → list_any (λ s. s.variable.0 == x) box ≡ true
any_side [] x e = absurd cc
any_side (s ∷ box) x e = at (s.variable.0 == x) e (λ k. any_side box x k)
  where
    at : (b : Bool) → cond b true (is_counter box x) ≡ true → (is_counter box x ≡ true → list_any (λ s. s.variable.0 == x) box ≡ true) → (b || list_any (λ s. s.variable.0 == x) box) ≡ true
    at true k rest = refl
    at false k rest = rest k

side_counts : (box : List Side) (x : Variable) → list_any (λ s. s.variable.0 == x) box ≡ true → is_counter box x ≡ true
side_counts [] x e = absurd cc
side_counts (s ∷ box) x e = at (s.variable.0 == x) e (λ k. side_counts box x k)
  where
    at : (b : Bool) → (b || list_any (λ s. s.variable.0 == x) box) ≡ true → (list_any (λ s. s.variable.0 == x) box ≡ true → is_counter box x ≡ true) → cond b true (is_counter box x) ≡ true
    at true k rest = refl
    at false k rest = rest k

numbers_more : (vs : List VarId) (n : ℕ) → map (λ (v : VarId). v.0) (vs ++ record { 0 = n } ∷ []) ≡ map (λ (v : VarId). v.0) vs ++ n ∷ []
numbers_more [] n = refl
numbers_more (v ∷ vs) n = ap (λ l. v.0 ∷ l) (numbers_more vs n)

-- the variables below the next number are listed
pub none_listed : (box : List Side) (variables : List VarId) → variables ≡ [] → ListsLocals 0 box variables
none_listed box variables e = record { each = λ x lt k. absurd (omega (arith, lt)); only = λ x among. absurd (none x (subst (λ (vs : List VarId). Contains (map (λ (v : VarId). v.0) vs) x) e among)) }
  where
    none : (x : Variable) → Contains (map (λ (v : VarId). v.0) []) x → ⊥
    none x h = let lt = h.1 in omega arith

pub listed_more : (n : ℕ) (box : List Side) (variables : List VarId) → list_any (λ s. s.variable.0 == n) box ≡ true → ListsLocals n box variables → ListsLocals (n + 1) box (variables ++ record { 0 = n } ∷ [])
listed_more n box variables one so_far = record {
  each = λ x lt k. subst (λ l. Contains l x) (sym (numbers_more variables n)) (at x lt k (x == n) refl);
  only = λ x among.
      ⊎_elim (λ (earlier : Contains (map (λ (v : VarId). v.0) variables) x). so_far.only x earlier) (λ (last : Contains (n ∷ []) x). subst (λ y. is_counter box y ≡ true) (only_one x last) (side_counts box n one))
      (Contains-append_cases (map (λ (v : VarId). v.0) variables) (n ∷ []) x (subst (λ l. Contains l x) (numbers_more variables n) among));
}
  where
    at : (x : Variable) → x < n + 1 → is_counter box x ≡ true → (b : Bool) → (x == n) ≡ b → Contains (map (λ (v : VarId). v.0) variables ++ n ∷ []) x
    at x lt k true e = Contains-append_right (map (λ (v : VarId). v.0) variables) (n ∷ []) x (0, omega arith, sym (eqb-true x n e))
    at x lt k false e = Contains-append_left (map (λ (v : VarId). v.0) variables) (n ∷ []) x (so_far.each x (let d = eqb-false x n e in omega (arith, lt, d)) k)

    only_one : (x : Variable) → Contains (n ∷ []) x → n ≡ x
    only_one x (zero, lt, e) = e
    only_one x (suc k, lt, e) = absurd (omega arith)

pub listed_same : (n : ℕ) (box : List Side) (variables : List VarId) → list_any (λ s. s.variable.0 == n) box ≡ false → ListsLocals n box variables → ListsLocals (n + 1) box variables
listed_same n box variables none so_far = record { each = λ x lt k. at x lt k (x == n) refl; only = so_far.only }
  where
    at : (x : Variable) → x < n + 1 → is_counter box x ≡ true → (b : Bool) → (x == n) ≡ b → Contains (map (λ (v : VarId). v.0) variables) x
    at x lt k true e = absurd (true≢false (sym (any_side box x k) ∙ ap (λ y. list_any (λ s. s.variable.0 == y) box) (eqb-true x n e) ∙ none))
    at x lt k false e = so_far.each x (let d = eqb-false x n e in omega (arith, lt, d)) k

pub some_weaker : {T : Type 0} (o : Option T) (P Q : T → Type 0) → ((x : T) → P x → Q x) → IfSome o P → IfSome o Q
some_weaker None P Q f h = h
some_weaker (Some x) P Q f h = f x h
