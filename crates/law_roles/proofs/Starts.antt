-- The state in which a chunk begins, beside the one before its loop.
use Rattle.std.specs.Prelude.{ℕ, Bool, true, false, not, ◌≡◌, ◌==◌, ◌||◌, ◌⊎◌, List, [], ◌∷◌, ◌++◌, map, Some, None, is_none, IsSome}
use Rattle.std.proofs.Common.{refl, sym, ap, ◌∙◌, subst, cond, inl, inr}
use Rattle.std.proofs.lemmas.Bool.{true≢false, eqb-true, or_parts, or_cases}
use Rattle.std.proofs.lemmas.List.Folds.{list_any-append}
use Rattle.std.proofs.lemmas.Option.{none-some, same_Some}
use Rattle.semantics.specs.Tree.{Variable}
use Rattle.semantics.specs.Meaning.State.{State, Empty, Holds, with_local, look, look_in}
use Rattle.semantics.specs.Meaning.Agrees.{is_among}
use Rattle.semantics.specs.Loops.Operator.{ReduceOp, identity}
use Rattle.semantics.specs.Loops.Piece.{Roles, is_outside, with_empty, with_identities, chunk_start}
use Rattle.semantics.proofs.NestLaw.{local_same}
use Rattle.law_commute.proofs.Values.{first_of, second_of}
use Rattle.law_private.proofs.Chunks.{not_true}
use Rattle.law_private.proofs.Near.{Near}
use Rattle.law_roles.specs.Updates.{operator_of, is_plain}
use Rattle.law_roles.specs.Sharing.{role_variables, are_different}
use Rattle.law_roles.proofs.Seen.{apart_back}
use Rattle.law_roles.proofs.Shifting.{copies_cells, copies_plain, copies_inside, copies_local}
use Rattle.law_roles.proofs.Moved.{Moved, moved_declared}

-- these roles and no others
abbrev pub roles_with : List Variable → List Variable → List (Variable × ReduceOp) → Roles
roles_with privates lasts reductions = record { privates = privates; firsts = []; lasts = lasts; conditionals = []; reductions = reductions }

-- ---- variables of the reductions

abbrev reduced : List (Variable × ReduceOp) → List Variable
reduced rs = map (λ r. r.0) rs

pub plain_of : (rs : List (Variable × ReduceOp)) (x : Variable) → is_among (reduced rs) x ≡ false → is_plain rs x ≡ true
plain_of [] x h = refl
plain_of (r ∷ rs) x h =
    let parts = or_parts (r.0 == x) (is_among (reduced rs) x) h in
    ap (λ b. is_none (cond b (Some r.1) (operator_of rs x))) parts.0 ∙ plain_of rs x parts.1

pub reduced_of : (rs : List (Variable × ReduceOp)) (x : Variable) → is_among (reduced rs) x ≡ true → (op : ReduceOp) × (operator_of rs x ≡ Some op)
reduced_of [] x h = absurd (true≢false (sym h))
reduced_of (r ∷ rs) x h = at (r.0 == x) h (λ k. reduced_of rs x k)
  where
    at : (b : Bool) → (b || is_among (reduced rs) x) ≡ true → (is_among (reduced rs) x ≡ true → (op : ReduceOp) × (operator_of rs x ≡ Some op)) → (op : ReduceOp) × (cond b (Some r.1) (operator_of rs x) ≡ Some op)
    at true k rest = (r.1, refl)
    at false k rest = rest k

pub among_of : (rs : List (Variable × ReduceOp)) (x : Variable) (op : ReduceOp) → operator_of rs x ≡ Some op → is_among (reduced rs) x ≡ true
among_of [] x op h = absurd (none-some op h)
among_of (r ∷ rs) x op h = at (r.0 == x) h (λ k. among_of rs x op k)
  where
    at : (b : Bool) → cond b (Some r.1) (operator_of rs x) ≡ Some op → (operator_of rs x ≡ Some op → is_among (reduced rs) x ≡ true) → (b || is_among (reduced rs) x) ≡ true
    at true k rest = refl
    at false k rest = rest k

-- each begins with its identity
identity_held : (rs : List (Variable × ReduceOp)) (s : State) (x : Variable) (op : ReduceOp) → are_different (reduced rs) ≡ true → operator_of rs x ≡ Some op → (with_identities rs s).locals x ≡ Holds (identity op)
identity_held [] s x op d h = absurd (none-some op h)
identity_held (r ∷ rs) s x op d h =
    at (r.0 == x) refl h (λ k. identity_held rs (with_local s r.0 (Holds (identity r.1))) x op (second_of (not (is_among (reduced rs) r.0)) (are_different (reduced rs)) d) k)
  where
    at : (b : Bool) → (r.0 == x) ≡ b → cond b (Some r.1) (operator_of rs x) ≡ Some op → (operator_of rs x ≡ Some op → (with_identities (r ∷ rs) s).locals x ≡ Holds (identity op))
        → (with_identities (r ∷ rs) s).locals x ≡ Holds (identity op)
    at true e k rest =
        let same : r.0 ≡ x = eqb-true r.0 x e in
        let gone : is_among (reduced rs) x ≡ false = ap (is_among (reduced rs)) (sym same) ∙ not_true (is_among (reduced rs) r.0) (first_of (not (is_among (reduced rs) r.0)) (are_different (reduced rs)) d) in
        copies_plain rs (with_local s r.0 (Holds (identity r.1))) x (plain_of rs x gone)
        ∙ ap (λ y. (with_local s r.0 (Holds (identity r.1))).locals y) (sym same) ∙ local_same s r.0 (Holds (identity r.1)) ∙ ap (λ o. Holds (identity o)) (same_Some r.1 op k)
    at false e k rest = rest k

-- ---- copies that hold nothing

empty_cells : (xs : List Variable) (s : State) (x : Variable) (is : List ℕ) → (with_empty xs s).cells x is ≡ s.cells x is
empty_cells [] s x is = refl
empty_cells (y ∷ xs) s x is = empty_cells xs (with_local s y Empty) x is

empty_other : (xs : List Variable) (s : State) (x : Variable) → is_among xs x ≡ false → (with_empty xs s).locals x ≡ s.locals x
empty_other [] s x h = refl
empty_other (y ∷ xs) s x h =
    let parts = or_parts (y == x) (is_among xs x) h in
    empty_other xs (with_local s y Empty) x parts.1 ∙ ap (λ b. cond b Empty (s.locals x)) (apart_back y x parts.0)

empty_inside : (xs : List Variable) (s : State) (x : Variable) → is_outside (s.locals x) ≡ false → is_outside ((with_empty xs s).locals x) ≡ false
empty_inside [] s x h = h
empty_inside (y ∷ xs) s x h = empty_inside xs (with_local s y Empty) x (at (x == y))
  where
    at : (b : Bool) → is_outside (cond b Empty (s.locals x)) ≡ false
    at true = refl
    at false = h

empty_local : (xs : List Variable) (s : State) (x : Variable) → is_among xs x ≡ true → is_outside ((with_empty xs s).locals x) ≡ false
empty_local [] s x h = absurd (true≢false (sym h))
empty_local (y ∷ xs) s x h = at (or_cases (y == x) (is_among xs x) h) (λ k. empty_local xs (with_local s y Empty) x k)
  where
    at : ((y == x) ≡ true) ⊎ (is_among xs x ≡ true) → (is_among xs x ≡ true → is_outside ((with_empty xs (with_local s y Empty)).locals x) ≡ false) → is_outside ((with_empty xs (with_local s y Empty)).locals x) ≡ false
    at (inl e) rest =
        empty_inside xs (with_local s y Empty) x (ap (λ z. is_outside ((with_local s y Empty).locals z)) (sym (eqb-true y x e)) ∙ ap is_outside (local_same s y Empty))
    at (inr k) rest = rest k

-- ---- the start

-- a chunk begins in a state in which all is as before the loop but the locals with a role, and each reduction variable holds a number
pub record StartsIn (ps ls : List Variable) (rs : List (Variable × ReduceOp)) (s start : State) : Type 0 where
  pub cells : (x : Variable) (is : List ℕ) → start.cells x is ≡ s.cells x is
  pub other : (x : Variable) → is_among (role_variables (roles_with ps ls rs)) x ≡ false → start.locals x ≡ s.locals x
  pub inside : (x : Variable) → is_among (role_variables (roles_with ps ls rs)) x ≡ true → is_outside (start.locals x) ≡ false
  pub held : (x : Variable) (op : ReduceOp) → operator_of rs x ≡ Some op → IsSome (look start x [])

pub starts_near : (ps ls : List Variable) (rs : List (Variable × ReduceOp)) (s start : State) → StartsIn ps ls rs s start
    → ((x : Variable) → is_among (role_variables (roles_with ps ls rs)) x ≡ true → is_outside (s.locals x) ≡ false) → Near (role_variables (roles_with ps ls rs)) start s
starts_near ps ls rs s start from stands = record {
  agrees = record {
    cells = from.cells;
    kinds = λ x h. kind x (is_among vars x) refl;
    values = λ x h. from.other x (not_true (is_among vars x) h);
  };
  inside = from.inside;
}
  where
    vars : List Variable
    vars = role_variables (roles_with ps ls rs)

    kind : (x : Variable) (b : Bool) → is_among vars x ≡ b → is_outside (start.locals x) ≡ is_outside (s.locals x)
    kind x true e = from.inside x e ∙ sym (stands x e)
    kind x false e = ap is_outside (from.other x e)

module _ (ps ls : List Variable) (rs : List (Variable × ReduceOp)) (s : State) where
  abbrev vars : List Variable
  vars = role_variables (roles_with ps ls rs)

  abbrev start : State
  start = chunk_start (roles_with ps ls rs) s

  abbrev emptied : State
  emptied = with_empty ls (with_empty ps s)

  among_parts : (x : Variable) → is_among vars x ≡ ((is_among ps x || is_among ls x) || is_among (reduced rs) x)
  among_parts x =
      list_any-append (λ y. y == x) (ps ++ ls) (reduced rs) ∙ ap (λ b. b || is_among (reduced rs) x) (list_any-append (λ y. y == x) ps ls)

  start_cells : (x : Variable) (is : List ℕ) → start.cells x is ≡ s.cells x is
  start_cells x is = copies_cells rs emptied x is ∙ empty_cells ls (with_empty ps s) x is ∙ empty_cells ps s x is

  start_other : (x : Variable) → is_among vars x ≡ false → start.locals x ≡ s.locals x
  start_other x h =
      let outer = or_parts (is_among ps x || is_among ls x) (is_among (reduced rs) x) (sym (among_parts x) ∙ h) in
      let inner = or_parts (is_among ps x) (is_among ls x) outer.0 in
      copies_plain rs emptied x (plain_of rs x outer.1) ∙ empty_other ls (with_empty ps s) x inner.1 ∙ empty_other ps s x inner.0

  start_local : (x : Variable) → is_among vars x ≡ true → is_outside (start.locals x) ≡ false
  start_local x h = at (or_cases (is_among ps x || is_among ls x) (is_among (reduced rs) x) (sym (among_parts x) ∙ h))
    where
      first : (is_among ps x ≡ true) ⊎ (is_among ls x ≡ true) → is_outside (emptied.locals x) ≡ false
      first (inl k) = empty_inside ls (with_empty ps s) x (empty_local ps s x k)
      first (inr k) = empty_local ls (with_empty ps s) x k

      at : ((is_among ps x || is_among ls x) ≡ true) ⊎ (is_among (reduced rs) x ≡ true) → is_outside (start.locals x) ≡ false
      at (inl k) = copies_inside rs emptied x (first (or_cases (is_among ps x) (is_among ls x) k))
      at (inr k) = let r = reduced_of rs x k in copies_local rs emptied x r.0 r.1

  pub identity_seen : are_different (reduced rs) ≡ true → (x : Variable) (op : ReduceOp) → operator_of rs x ≡ Some op → look start x [] ≡ Some (identity op)
  identity_seen different x op is = ap (λ l. look_in l start x []) (identity_held rs emptied x op different is)

  pub start_in : are_different (reduced rs) ≡ true → StartsIn ps ls rs s start
  start_in different = record {
    cells = start_cells;
    other = start_other;
    inside = start_local;
    held = λ x op is. subst (λ q. IsSome q) (sym (identity_seen different x op is)) refl;
  }

-- ---- and where scalars at file scope are locals

empty_moved : (vars : List Variable) (xs : List Variable) (s t : State) → Moved vars s t → Moved vars (with_empty xs s) (with_empty xs t)
empty_moved vars [] s t m = m
empty_moved vars (x ∷ xs) s t m = empty_moved vars xs (with_local s x Empty) (with_local t x Empty) (moved_declared vars s t m x None)

copies_moved : (vars : List Variable) (rs : List (Variable × ReduceOp)) (s t : State) → Moved vars s t → Moved vars (with_identities rs s) (with_identities rs t)
copies_moved vars [] s t m = m
copies_moved vars (r ∷ rs) s t m = copies_moved vars rs (with_local s r.0 (Holds (identity r.1))) (with_local t r.0 (Holds (identity r.1))) (moved_declared vars s t m r.0 (Some (identity r.1)))

pub start_moved : (vars ps ls : List Variable) (rs : List (Variable × ReduceOp)) (s t : State) → Moved vars s t → Moved vars (chunk_start (roles_with ps ls rs) s) (chunk_start (roles_with ps ls rs) t)
start_moved vars ps ls rs s t m =
    copies_moved vars rs (with_empty ls (with_empty ps s)) (with_empty ls (with_empty ps t)) (empty_moved vars ls (with_empty ps s) (with_empty ps t) (empty_moved vars ps s t m))
