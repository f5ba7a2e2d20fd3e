-- A body that begins with a number in the scan variable.
use Rattle.std.specs.Prelude.{ℕ, zero, Bool, true, false, not, ◌≡◌, ◌==◌, ◌&&◌, ◌||◌, List, [], ◌∷◌, ◌++◌, Option, Some, None, IsSome, option_and_then}
use Rattle.std.proofs.Common.{refl, sym, ap, ◌∙◌, subst, cond}
use Rattle.std.proofs.Math.Path.{fun_ext}
use Rattle.std.proofs.lemmas.Bool.{true≢false, eqb-true, eq-eqb, and_from}
use Rattle.std.proofs.lemmas.List.{append-nil}
use Rattle.semantics.specs.Tree.{Variable, Literal, Bare, Number, Stmt, Block, no_items, local, stmt}
use Rattle.semantics.specs.Meaning.State.{State, Slot, Holds, Declared, with_local}
use Rattle.semantics.specs.Meaning.Value.{map_option}
use Rattle.semantics.specs.Meaning.Runs.{Effect, joined, one_write, then_from, run, run_items}
use Rattle.semantics.specs.Meaning.Definite.{DefinitelyAssigned, known_with, definite, no_privates}
use Rattle.semantics.specs.Meaning.Agrees.{also, is_among, declared_in, names_only, visible_behind}
use Rattle.semantics.specs.Loops.Access.{accesses}
use Rattle.law_commute.specs.Steady.{IsSteady}
use Rattle.law_commute.specs.Targets.{KeepsApart, AssignsFirst}
use Rattle.law_commute.specs.Commuting.{KeepsToItself}
use Rattle.law_commute.proofs.Values.{first_of}
use Rattle.law_private.specs.Known.{IsWithin, KnowsMore}
use Rattle.law_private.proofs.More.{more_known}
use Rattle.law_private.proofs.Names.{names_more}
use Rattle.law_private.proofs.Own.{own_body, others, DeclaresNone, innermost, fixed_is, replaced_keeps, own_accesses, KnownInside}
use Rattle.law_roles.proofs.Seen.{apart_back}

-- with a number in it from the start
abbrev pub started : Variable → Stmt → ℕ → Stmt
started x body v = Block (local x [] (Some (Number (Literal v Bare))) (stmt body no_items))

module _ (x : Variable) (ps : List Variable) (body : Stmt) (keeps : KeepsApart (x ∷ ps) body) (none : DeclaresNone (x ∷ ps) body) (first : AssignsFirst ps body) (apart : is_among ps x ≡ false) where
  -- ---- what is visible

  pub started_visible : (v : ℕ) (y : Variable) → visible_behind (started x body v) y ≡ (not (x == y) && visible_behind body y)
  started_visible v y = at (x == y)
    where
      at : (b : Bool) → not (b || is_among (declared_in body ++ []) y) ≡ (not b && visible_behind body y)
      at true = refl
      at false = ap (λ (ds : List Variable). not (is_among ds y)) (append-nil (declared_in body))

  pub named : (v : ℕ) → names_only (visible_behind (started x body v)) (started x body v) ≡ true
  named v = and_from (names_only (also W x) body) true (names_more body (visible_behind body) (also W x) more keeps.names) refl
    where
      W : Variable → Bool
      W = visible_behind (started x body v)

      more : (y : Variable) → visible_behind body y ≡ true → also W x y ≡ true
      more y h = at (y == x) refl
        where
          at : (b : Bool) → (y == x) ≡ b → (b || W y) ≡ true
          at true e = refl
          at false e = started_visible v y ∙ ap (λ c. not c && visible_behind body y) (apart_back y x e) ∙ h

  -- ---- what is known

  pub known : (v : ℕ) → KnownInside ps (started x body v)
  known v = at (definite no_privates body (others ps)) refl first
    where
      at : (o : Option DefinitelyAssigned) → definite no_privates body (others ps) ≡ o → IsSome o → KnownInside ps (started x body v)
      at None e h = absurd (true≢false (sym h))
      at (Some k) e h =
          let more : KnowsMore k (definite no_privates body (known_with (others ps) x true)) = more_known.statements no_privates no_privates body (others ps) k (known_with (others ps) x true) (λ line y j. j) (still (others ps)) e in
          record { known = others ps; behind = more.known; is = behind (definite no_privates body (known_with (others ps) x true)) more.is; less = λ y j. j }
        where
          still : (j : DefinitelyAssigned) → IsWithin j (known_with j x true)
          still j y h = with (y == x)
            where
              with : (b : Bool) → cond b true (j y) ≡ true
              with true = refl
              with false = h

          behind : {k : DefinitelyAssigned} (o : Option DefinitelyAssigned) → o ≡ Some k → option_and_then (λ after. Some after) o ≡ Some k
          behind None e = e
          behind (Some j) e = e

  -- ---- it keeps to itself

  started_none : (v : ℕ) → DeclaresNone ps (started x body v)
  started_none v y h = at (x == y) refl
    where
      at : (b : Bool) → (x == y) ≡ b → visible_behind (started x body v) y ≡ true
      at true e = absurd (true≢false (sym h ∙ ap (is_among ps) (sym (eqb-true x y e)) ∙ apart))
      at false e = started_visible v y ∙ ap (λ b. not b && visible_behind body y) e ∙ none y (ap (λ b. b || is_among ps y) e ∙ h)

  fixed_same : (v : ℕ) → ◌≡◌ {A = Variable → Bool} (λ y. visible_behind body y && not (is_among (x ∷ ps) y)) (λ y. visible_behind (started x body v) y && not (is_among ps y))
  fixed_same v = fun_ext (λ y. at (x == y) (visible_behind body y) (is_among ps y) ∙ sym (ap (λ b. b && not (is_among ps y)) (started_visible v y)))
    where
      at : (a b c : Bool) → (b && not (a || c)) ≡ (not a && b && not c)
      at true true c = refl
      at true false c = refl
      at false b c = refl

  keeps_started : (v : ℕ) → KeepsApart ps (started x body v)
  keeps_started v = record {
    names = named v;
    steady = (hidden, tt, (subst (λ (F : Variable → Bool). IsSteady F body) (fixed_same v) keeps.steady, tt));
  }
    where
      hidden : (visible_behind (started x body v) x && not (is_among ps x)) ≡ false
      hidden = ap (λ b. b && not (is_among ps x)) (started_visible v x ∙ ap (λ b. not b && visible_behind body x) (eq-eqb x x refl))

  pub keeps_own : (v : ℕ) → KeepsToItself (own_body ps (started x body v))
  keeps_own v = replaced_keeps ps (started x body v) zero (started x body v) (own_body ps (started x body v)) [] innermost (started_none v) (keeps_started v)

  -- ---- its accesses are the body's

  pub same_accesses : (v : ℕ) → accesses [] (own_body ps (started x body v)) ≡ accesses [] body
  same_accesses v = own_accesses ps (started x body v) ∙ append-nil (accesses [] body)

-- ---- its run

module _ (x : Variable) (body : Stmt) (v : ℕ) where
  abbrev pub begun : Effect → Effect
  begun e = record { writes = Declared x (Some v) ∷ (e.writes ++ []); text = e.text ++ [] }

  pub same_state : (q : State) → q.locals x ≡ Holds v → with_local q x (Holds v) ≡ q
  same_state q h = λ i. record { cells = q.cells; locals = locals i }
    where
      at : (y : Variable) (b : Bool) → (y == x) ≡ b → cond b (Holds v) (q.locals y) ≡ q.locals y
      at y true e = sym (ap q.locals (eqb-true y x e) ∙ h)
      at y false e = refl

      locals : ◌≡◌ {A = Variable → Slot} (λ y. cond (y == x) (Holds v) (q.locals y)) q.locals
      locals = fun_ext (λ y. at y (y == x) refl)

  pub started_runs : (q : State) → q.locals x ≡ Holds v → run (started x body v) q ≡ map_option begun (run body q)
  started_runs q h =
      ap (λ t. map_option (joined (one_write (Declared x (Some v)))) (then_from t (run body t) (run_items no_items))) (same_state q h) ∙ at (run body q)
    where
      at : (o : Option Effect) → map_option (joined (one_write (Declared x (Some v)))) (then_from q o (run_items no_items)) ≡ map_option begun o
      at None = refl
      at (Some e) = refl

-- what is visible round it with private ones of its own is visible round it
pub own_up : (ps : List Variable) (body : Stmt) (y : Variable) → visible_behind (own_body ps body) y ≡ true → visible_behind body y ≡ true
own_up ps body y h = first_of (visible_behind body y) (not (is_among ps y)) (ap (λ (V : Variable → Bool). V y) (fixed_is ps body zero body (own_body ps body) [] innermost) ∙ h)

pub own_down : (ps : List Variable) (body : Stmt) (y : Variable) → visible_behind body y ≡ true → is_among ps y ≡ false → visible_behind (own_body ps body) y ≡ true
own_down ps body y h k =
    ap (λ (V : Variable → Bool). V y) (sym (fixed_is ps body zero body (own_body ps body) [] innermost)) ∙ and_from (visible_behind body y) (not (is_among ps y)) h (ap not k)
