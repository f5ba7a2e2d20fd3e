-- A body that declares its private scalars itself, and a nest with such a body in place of its own.
use Rattle.std.specs.Prelude.{ℕ, zero, suc, Bool, true, false, not, ◌≡◌, ◌==◌, ◌&&◌, ◌||◌, ◌⊎◌, List, [], ◌∷◌, Option, Some, None, IsSome, option_and_then}
use Rattle.std.proofs.Common.{refl, sym, ap, ◌∙◌, subst, cond, inl, inr}
use Rattle.std.proofs.Math.Path.{fun_ext}
use Rattle.std.proofs.lemmas.Bool.{true≢false, eqb-true, eq-eqb, and_from, or_cases, or_left, or_right}
use Rattle.std.proofs.lemmas.List.{append-nil}
use Rattle.std.proofs.lemmas.Option.{same_Some, none-some}
use Rattle.semantics.specs.Tree.{Variable, Name, Source, Cond, Increment, Stmt, For, Block, Items, no_items, local, stmt}
use Rattle.semantics.specs.Meaning.Value.{map_option}
use Rattle.semantics.specs.Meaning.Definite.{DefinitelyAssigned, known_with, without, may_take, may_test, may_step, privates_in, if_stepped, definite, no_privates}
use Rattle.semantics.specs.Meaning.Agrees.{also, is_among, declared_in, declared_among, visible_behind, names_only, names_items, names_source, names_cond, names_step}
use Rattle.semantics.specs.Loops.Nest.{Loop, as_loop, nest_of}
use Rattle.semantics.specs.Loops.Access.{accesses, items_accesses}
use Rattle.law_commute.specs.Steady.{IsSteady, AreSteady}
use Rattle.law_commute.specs.Targets.{KeepsApart}
use Rattle.law_commute.specs.Commuting.{KeepsToItself}
use Rattle.law_commute.proofs.Framed.{also_itself}
use Rattle.law_commute.proofs.Same.{also_more, also_other}
use Rattle.law_commute.proofs.Values.{first_of, second_of}
use Rattle.law_nests.proofs.Joined.{first_loop}
use Rattle.law_private.specs.Known.{IsWithin}
use Rattle.law_private.proofs.Alike.{without_within}
use Rattle.law_private.proofs.Names.{names_more, fixed_named, fixed_cond, fixed_stepped}

abbrev pub declaring : List Variable → Items → Items
declaring [] rest = rest
declaring (x ∷ xs) rest = local x [] None (declaring xs rest)

-- each of these a local of its own, without a value
abbrev pub own_body : List Variable → Stmt → Stmt
own_body xs body = Block (declaring xs (stmt body no_items))

-- what is fixed in a statement that assigns these
abbrev pub fixed_but : List Variable → Stmt → Variable → Bool
fixed_but xs s x = visible_behind s x && not (is_among xs x)

abbrev pub others : List Variable → Variable → Bool
others xs x = not (is_among xs x)

-- the statement declares none of these
abbrev pub DeclaresNone : List Variable → Stmt → Type 0
DeclaresNone xs s = (x : Variable) → is_among xs x ≡ true → visible_behind s x ≡ true

-- a nest with another body in place of its own
pub data Replaced (body own : Stmt) : ℕ → Stmt → Stmt → List Loop → Type 0 where
  innermost : Replaced body own zero body own []
  inside : {n : ℕ} {x : Variable} {name : Name} {start : Source} {test : Cond} {step : Increment} {b b' : Stmt} {ls : List Loop} →
      Replaced body own n b b' ls → Replaced body own (suc n) (For x name start test step b) (For x name start test step b') (record { variable = x; start = start; test = test; step = step } ∷ ls)
  braces : {n : ℕ} {a a' : Stmt} {ls : List Loop} →
      Replaced body own (suc n) a a' ls → Replaced body own (suc n) (Block (stmt a no_items)) (Block (stmt a' no_items)) ls

-- there is one
pub record HasReplaced (body own : Stmt) (n : ℕ) (s : Stmt) (ls : List Loop) : Type 0 where
  pub nest : Stmt
  pub is : Replaced body own n s nest ls

module _ (body own : Stmt) where
  replace_inside : (n : ℕ) (s : Stmt) (l : Loop) (b b' : Stmt) (ls : List Loop) → as_loop s ≡ Some (l, b) → Replaced body own n b b' ls → HasReplaced body own (suc n) s (l ∷ ls)
  replace_inside n (For x name start test step inner) l b b' ls h r =
      let same : (record { variable = x; start = start; test = test; step = step }, inner) ≡ (l, b) = same_Some (record { variable = x; start = start; test = test; step = step }, inner) (l, b) h in
      let mine : Replaced body own n inner b' ls = subst (λ c. Replaced body own n c b' ls) (sym (ap (λ (p : Loop × Stmt). p.1) same)) r in
      subst (λ k. HasReplaced body own (suc n) (For x name start test step inner) (k ∷ ls)) (ap (λ (p : Loop × Stmt). p.0) same)
      (record { nest = For x name start test step b'; is = inside mine })
  replace_inside n (Block (stmt a no_items)) l b b' ls h r =
      let found = replace_inside n a l b b' ls h r in
      record { nest = Block (stmt found.nest no_items); is = braces found.is }
  replace_inside n _ l b b' ls h r = absurd (none-some (l, b) h)

  pub replaced : (n : ℕ) (s : Stmt) (ls : List Loop) → nest_of n s ≡ Some (ls, body) → HasReplaced body own n s ls
  replaced zero s ls h =
      let same : ([], s) ≡ (ls, body) = same_Some ([], s) (ls, body) h in
      subst (λ c. HasReplaced body own zero c ls) (sym (ap (λ (p : List Loop × Stmt). p.1) same))
      (subst (HasReplaced body own zero body) (ap (λ (p : List Loop × Stmt). p.0) same) (record { nest = own; is = innermost }))
  replaced (suc n) s ls h =
      let first = first_loop n s ls body h in
      let found = replaced n first.inside first.loops first.rest in
      subst (HasReplaced body own (suc n) s) first.all_are (replace_inside n s first.loop first.inside found.nest first.loops first.is found.is)

  -- it is a nest of the same loops
  pub replaced_nest : (n : ℕ) (s s' : Stmt) (ls : List Loop) → Replaced body own n s s' ls → nest_of n s' ≡ Some (ls, own)
  replaced_nest zero s s' ls innermost = refl
  replaced_nest (suc n) s s' ls (inside {x = x} {start = start} {test = test} {step = step} {b = b} {b' = b'} {ls = rest} r) =
      ap (map_option {B = List Loop × Stmt} (λ (inner : List Loop × Stmt). (record { variable = x; start = start; test = test; step = step } ∷ inner.0, inner.1))) (replaced_nest n b b' rest r)
  replaced_nest (suc n) s s' ls (braces {a = a} {a' = a'} r) = replaced_nest (suc n) a a' ls r

-- ---- what is declared

or_join : (a b c : Bool) → (a || (b || c)) ≡ ((a || b) || c)
or_join true b c = refl
or_join false b c = refl

or_swap : (a b c : Bool) → (a || (b || c)) ≡ (b || (a || c))
or_swap true true c = refl
or_swap true false c = refl
or_swap false b c = refl

not_or : (a b : Bool) → not (a || b) ≡ (not b && not a)
not_or true true = refl
not_or true false = refl
not_or false true = refl
not_or false false = refl

module _ (xs : List Variable) (body : Stmt) where
  own_declares : (y : Variable) → is_among (declared_in (own_body xs body)) y ≡ (is_among xs y || is_among (declared_in body) y)
  own_declares y = all xs
    where
      all : (zs : List Variable) → is_among (declared_among (declaring zs (stmt body no_items))) y ≡ (is_among zs y || is_among (declared_in body) y)
      all [] = ap (λ (ds : List Variable). is_among ds y) (append-nil (declared_in body))
      all (z ∷ zs) = ap (λ b. (z == y) || b) (all zs) ∙ or_join (z == y) (is_among zs y) (is_among (declared_in body) y)

  replaced_declares : (n : ℕ) (s s' : Stmt) (ls : List Loop) → Replaced body (own_body xs body) n s s' ls → (y : Variable)
      → is_among (declared_in s') y ≡ (is_among xs y || is_among (declared_in s) y)
  replaced_declares zero s s' ls innermost y = own_declares y
  replaced_declares (suc n) s s' ls (inside {x = x} {b = b} {b' = b'} {ls = rest} r) y =
      ap (λ c. (x == y) || c) (replaced_declares n b b' rest r y) ∙ or_swap (x == y) (is_among xs y) (is_among (declared_in b) y)
  replaced_declares (suc n) s s' ls (braces {a = a} {a' = a'} r) y =
      ap (λ (ds : List Variable). is_among ds y) (append-nil (declared_in a')) ∙ replaced_declares (suc n) a a' ls r y
      ∙ ap (λ (ds : List Variable). is_among xs y || is_among ds y) (sym (append-nil (declared_in a)))

  pub fixed_is : (n : ℕ) (s s' : Stmt) (ls : List Loop) → Replaced body (own_body xs body) n s s' ls → fixed_but xs s ≡ visible_behind s'
  fixed_is n s s' ls r = fun_ext (λ y. sym (ap not (replaced_declares n s s' ls r y) ∙ not_or (is_among xs y) (is_among (declared_in s) y)))

  -- ---- accesses

  pub own_accesses : accesses [] (own_body xs body) ≡ accesses [] body
  own_accesses = all xs
    where
      all : (zs : List Variable) → items_accesses [] (declaring zs (stmt body no_items)) ≡ accesses [] body
      all [] = append-nil (accesses [] body)
      all (z ∷ zs) = all zs

  -- ---- loops round the body

  -- of a loop that declares none of these
  pub record NotOfLoop (x : Variable) (b : Stmt) : Type 0 where
    pub variable : is_among xs x ≡ false
    pub rest : DeclaresNone xs b

  pub none_inside : (x : Variable) (name : Name) (start : Source) (test : Cond) (step : Increment) (b : Stmt) → DeclaresNone xs (For x name start test step b) → NotOfLoop x b
  none_inside x name start test step b none = record { variable = at (is_among xs x) refl; rest = λ y h. inner (x == y) (is_among (declared_in b) y) (none y h) }
    where
      inner : (c d : Bool) → not (c || d) ≡ true → not d ≡ true
      inner true d h = absurd (true≢false (sym h))
      inner false d h = h

      at : (c : Bool) → is_among xs x ≡ c → is_among xs x ≡ false
      at true e = absurd (true≢false (sym (none x e) ∙ ap (λ b'. not (b' || is_among (declared_in b) x)) (eq-eqb x x refl)))
      at false e = e

  pub none_braced : (a : Stmt) → DeclaresNone xs (Block (stmt a no_items)) → DeclaresNone xs a
  none_braced a none y h = sym (ap (λ (ds : List Variable). not (is_among ds y)) (append-nil (declared_in a))) ∙ none y h

  pub others_also : (F : Variable → Bool) (x : Variable) → is_among xs x ≡ false → IsWithin F (others xs) → IsWithin (also F x) (others xs)
  others_also F x free less y h = at (y == x) refl
    where
      at : (c : Bool) → (y == x) ≡ c → not (is_among xs y) ≡ true
      at true e = ap (λ z. not (is_among xs z)) (eqb-true y x e) ∙ ap not free
      at false e = less y (also_other F x y h e)

  -- ---- the nest keeps to itself

  free_also : (F : Variable → Bool) (x : Variable) → is_among xs x ≡ false → ((y : Variable) → is_among xs y ≡ true → F y ≡ false) → (y : Variable) → is_among xs y ≡ true → also F x y ≡ false
  free_also F x free none y h = at (y == x) refl
    where
      at : (c : Bool) → (y == x) ≡ c → (c || F y) ≡ false
      at true e = absurd (true≢false (sym h ∙ ap (is_among xs) (eqb-true y x e) ∙ free))
      at false e = none y h

  steady_own : (zs : List Variable) (F : Variable → Bool) → ((y : Variable) → is_among zs y ≡ true → F y ≡ false) → IsSteady F body → AreSteady F (declaring zs (stmt body no_items))
  steady_own [] F free steady = (steady, tt)
  steady_own (z ∷ zs) F free steady =
      (free z (or_left (z == z) (is_among zs z) (eq-eqb z z refl)), tt, steady_own zs F (λ y h. free y (or_right (z == y) (is_among zs y) h)) steady)

  steady_replaced : (n : ℕ) (s s' : Stmt) (ls : List Loop) → Replaced body (own_body xs body) n s s' ls → (F : Variable → Bool) → DeclaresNone xs s → ((y : Variable) → is_among xs y ≡ true → F y ≡ false) → IsSteady F s → IsSteady F s'
  steady_replaced zero s s' ls innermost F none free steady = steady_own xs F free steady
  steady_replaced (suc n) s s' ls (inside {x = x} {name = name} {start = start} {test = test} {step = step} {b = b} {b' = b'} {ls = rest} r) F none free steady =
      let away = none_inside x name start test step b none in
      (steady.0, steady.1, steady.2, steady.3, steady_replaced n b b' rest r (also F x) away.rest (free_also F x away.variable free) steady.4)
  steady_replaced (suc n) s s' ls (braces {a = a} {a' = a'} r) F none free steady = (steady_replaced (suc n) a a' ls r F (none_braced a none) free steady.0, tt)

  names_own : (zs : List Variable) (V W : Variable → Bool) → ((y : Variable) → W y ≡ true → (V y ≡ true) ⊎ (is_among zs y ≡ true)) → names_only W body ≡ true
      → names_items V (declaring zs (stmt body no_items)) ≡ true
  names_own [] V W more named = and_from (names_only V body) true (names_more body W V (λ y h. here y (more y h)) named) refl
    where
      here : (y : Variable) → (V y ≡ true) ⊎ (false ≡ true) → V y ≡ true
      here y (inl h) = h
      here y (inr h) = absurd (true≢false (sym h))
  names_own (z ∷ zs) V W more named = names_own zs (also V z) W (λ y h. at y (more y h)) named
    where
      at : (y : Variable) → (V y ≡ true) ⊎ (((z == y) || is_among zs y) ≡ true) → (also V z y ≡ true) ⊎ (is_among zs y ≡ true)
      at y (inl h) = inl (also_more V z y h)
      at y (inr h) = next (or_cases (z == y) (is_among zs y) h)
        where
          next : ((z == y) ≡ true) ⊎ (is_among zs y ≡ true) → (also V z y ≡ true) ⊎ (is_among zs y ≡ true)
          next (inl e) = inl (ap (λ c. c || V y) (eq-eqb y z (sym (eqb-true z y e))))
          next (inr e) = inr e

  names_replaced : (n : ℕ) (s s' : Stmt) (ls : List Loop) → Replaced body (own_body xs body) n s s' ls → (F V : Variable → Bool)
      → ((y : Variable) → V y ≡ true → (F y ≡ true) ⊎ (is_among xs y ≡ true)) → IsSteady F s → names_only V s ≡ true → names_only F s' ≡ true
  names_replaced zero s s' ls innermost F V more steady named = names_own xs F V more named
  names_replaced (suc n) s s' ls (inside {x = x} {start = start} {test = test} {step = step} {b = b} {b' = b'} {ls = rest} r) F V more steady named =
      and_from (names_source F start && names_cond (also F x) test && names_step (also F x) step) (names_only (also F x) b')
      (and_from (names_source F start && names_cond (also F x) test) (names_step (also F x) step)
      (and_from (names_source F start) (names_cond (also F x) test) (fixed_named F start steady.1) (fixed_cond (also F x) test steady.2))
      (fixed_stepped (also F x) x step (also_itself F x) steady.3))
      (names_replaced n b b' rest r (also F x) (also V x) (λ y h. at y h (y == x) refl) steady.4
      (second_of (names_source V start && names_cond (also V x) test && names_step (also V x) step) (names_only (also V x) b) named))
    where
      at : (y : Variable) → also V x y ≡ true → (c : Bool) → (y == x) ≡ c → (also F x y ≡ true) ⊎ (is_among xs y ≡ true)
      at y h true e = inl (ap (λ c. c || F y) e)
      at y h false e = next (more y (also_other V x y h e))
        where
          next : (F y ≡ true) ⊎ (is_among xs y ≡ true) → (also F x y ≡ true) ⊎ (is_among xs y ≡ true)
          next (inl k) = inl (also_more F x y k)
          next (inr k) = inr k
  names_replaced (suc n) s s' ls (braces {a = a} {a' = a'} r) F V more steady named =
      and_from (names_only F a') true (names_replaced (suc n) a a' ls r F V more steady.0 (first_of (names_only V a) true named)) refl

  pub replaced_keeps : (n : ℕ) (s s' : Stmt) (ls : List Loop) → Replaced body (own_body xs body) n s s' ls → DeclaresNone xs s → KeepsApart xs s → KeepsToItself s'
  replaced_keeps n s s' ls r none keeps =
      let F = fixed_but xs s in
      record {
        names = subst (λ V. names_only V s' ≡ true) (fixed_is n s s' ls r) (names_replaced n s s' ls r F (visible_behind s) (λ y h. seen y h (is_among xs y) refl) keeps.steady keeps.names);
        steady = subst (λ V. IsSteady V s') (fixed_is n s s' ls r) (steady_replaced n s s' ls r F none (λ y h. free y h) keeps.steady);
      }
    where
      seen : (y : Variable) → visible_behind s y ≡ true → (c : Bool) → is_among xs y ≡ c → (fixed_but xs s y ≡ true) ⊎ (is_among xs y ≡ true)
      seen y h true e = inr e
      seen y h false e = inl (and_from (visible_behind s y) (not (is_among xs y)) h (ap not e))

      free : (y : Variable) → is_among xs y ≡ true → fixed_but xs s y ≡ false
      free y h = ap (λ c. visible_behind s y && not c) h ∙ none_with (visible_behind s y)
        where
          none_with : (c : Bool) → (c && false) ≡ false
          none_with true = refl
          none_with false = refl

  -- ---- what is known where the body begins

  -- the body reads none of these before it assigns it
  pub record KnownInside : Type 0 where
    pub known : DefinitelyAssigned
    pub behind : DefinitelyAssigned
    pub is : definite no_privates body known ≡ Some behind
    pub less : IsWithin known (others xs)

  known_in : (k : DefinitelyAssigned) → IsWithin k (others xs) → (o : Option DefinitelyAssigned) → definite no_privates body k ≡ o → IsSome o → KnownInside
  known_in k less None e h = absurd (true≢false (sym h))
  known_in k less (Some j) e h = record { known = k; behind = j; is = e; less = less }

  pub known_inside : (n : ℕ) (s s' : Stmt) (ls : List Loop) → Replaced body (own_body xs body) n s s' ls → DeclaresNone xs s → (k : DefinitelyAssigned) → IsWithin k (others xs)
      → IsSome (definite no_privates s k) → KnownInside
  known_inside zero s s' ls innermost none k less there = known_in k less (definite no_privates body k) refl there
  known_inside (suc n) s s' ls (inside {x = x} {name = name} {start = start} {test = test} {step = step} {b = b} {b' = b'} {ls = rest} r) none k less there =
      let away = none_inside x name start test step b none in
      let within = without (known_with k x true) (privates_in no_privates b) in
      known_inside n b b' rest r away.rest within
      (λ y h. at away.variable y (y == x) refl (without_within (privates_in no_privates b) (known_with k x true) y h))
      (body_known (may_take k start && may_test within test) (definite no_privates b within) (without k (privates_in no_privates b)) there)
    where
      at : is_among xs x ≡ false → (y : Variable) (c : Bool) → (y == x) ≡ c → known_with k x true y ≡ true → not (is_among xs y) ≡ true
      at free y true e h = ap (λ z. not (is_among xs z)) (eqb-true y x e) ∙ ap not free
      at free y false e h = less y (sym (ap (λ c. cond c true (k y)) e) ∙ h)

      body_known : (ok : Bool) (o : Option DefinitelyAssigned) (after : DefinitelyAssigned) → IsSome (cond ok (if_stepped (λ j. may_step j step) o (Some after)) None) → IsSome o
      body_known true None after h = h
      body_known false None after h = h
      body_known true (Some j) after h = refl
      body_known false (Some j) after h = refl
  known_inside (suc n) s s' ls (braces {a = a} {a' = a'} r) none k less there =
      known_inside (suc n) a a' ls r (none_braced a none) k less (front (definite no_privates a k) there)
    where
      front : (o : Option DefinitelyAssigned) → IsSome (option_and_then (λ after. Some (without after [])) o) → IsSome o
      front None h = h
      front (Some j) h = refl
