-- A run leaves a number in a variable that held one, and that it does not declare.
use Rattle.std.specs.Prelude.{ℕ, ◌||◌, Bool, true, false, ◌≡◌, ◌==◌, ◌&&◌, List, [], ◌∷◌, Option, Some, None, IsSome}
use Rattle.std.proofs.Common.{refl, sym, ap, ◌∙◌, subst, cond}
use Rattle.std.proofs.lemmas.Bool.{or_parts}
use Rattle.std.proofs.lemmas.List.Folds.{list_any-append}
use Rattle.semantics.specs.Tree.{Variable, Stmt}
use Rattle.semantics.specs.Meaning.State.{State, Slot, Outside, Empty, Holds, Write, Declared, Assigned, renewed, same_indexes, with_local, with_cell, assign_at, look, look_in, written, overwritten}
use Rattle.semantics.specs.Meaning.Runs.{Effect, then_from, run}
use Rattle.semantics.specs.Meaning.Agrees.{is_among, declared_in}
use Rattle.semantics.specs.Loops.Nest.{Loop, Vector}
use Rattle.semantics.specs.Loops.Operator.{ReduceOp}
use Rattle.semantics.specs.Loops.Joined.{given}
use Rattle.law_commute.proofs.Matched.{overwritten-append}
use Rattle.law_commute.proofs.Effects.{Composes, IfAny, nothing_holds, some_holds, steps_hold, run_holds}
use Rattle.law_private.proofs.Chunks.{not_true}
use Rattle.law_nests.specs.Walks.{entered, enters, walk}
use Rattle.law_nests.proofs.Joined.{visible_more, nest_declares}
use Rattle.law_roles.specs.Following.{variables_of}
use Rattle.law_roles.specs.Sharing.{assigned_first, role_variables}
use Rattle.law_roles.proofs.Seen.{apart_back, only_declared, only_look}
use Rattle.law_roles.proofs.Chunked.{nest_variables}
use Rattle.law_roles.proofs.Starts.{among_of}
use Rattle.law_starts.specs.Begun.{begun_with, begun, ChunksKeepNumbers, WalksKeepNumbers}
use Rattle.law_starts.proofs.Beginning.{reduced, first_value}

module _ (x : Variable) where
  -- where the variable held a number, it holds one behind these writes
  abbrev Lasts : State → List Write → Type 0
  Lasts s ws = IsSome (look s x []) → IsSome (look (overwritten s ws) x [])

  abbrev Keeps : State → Effect → Type 0
  Keeps s e = Lasts s e.writes

  keeping : Composes Keeps
  keeping = record { none = λ s h. h; two = λ s d e one two h. subst (λ t. IsSome (look t x [])) (sym (overwritten-append s d.writes e.writes)) (two (one h)) }

  declared_lasts : (s : State) (y : Variable) (o : Option ℕ) → (y == x) ≡ false → Lasts s (Declared y o ∷ [])
  declared_lasts s y o free h = subst (λ p. IsSome p) (sym (only_look y s (written s (Declared y o)) (only_declared y o s) x (apart_back y x free) [])) h

  local_lasts : (s : State) (y n : ℕ) → IsSome (look s x []) → IsSome (look (with_local s y (Holds n)) x [])
  local_lasts s y n h = at (x == y)
    where
      out : (slot : Slot) → IsSome (look_in slot s x []) → IsSome (look_in slot (with_local s y (Holds n)) x [])
      out Outside k = k
      out Empty k = k
      out (Holds m) k = k

      at : (b : Bool) → IsSome (look_in (cond b (Holds n) (s.locals x)) (with_local s y (Holds n)) x [])
      at true = refl
      at false = out (s.locals x) h

  cell_lasts : (s : State) (y : Variable) (is : List ℕ) (n : ℕ) → IsSome (look s x []) → IsSome (look (with_cell s y is n) x [])
  cell_lasts s y is n h = out (s.locals x) h
    where
      there : (b : Bool) (o : Option ℕ) → IsSome o → IsSome (cond b (renewed o n) o)
      there true None k = k
      there true (Some m) k = refl
      there false o k = k

      out : (slot : Slot) → IsSome (look_in slot s x []) → IsSome (look_in slot (with_cell s y is n) x [])
      out Outside k = there ((x == y) && same_indexes [] is) (s.cells x []) k
      out Empty k = k
      out (Holds m) k = k

  assigned_lasts : (s : State) (y : Variable) (is : List ℕ) (n : ℕ) → Lasts s (Assigned y is n ∷ [])
  assigned_lasts s y is n h = at (s.locals y)
    where
      at : (slot : Slot) → IsSome (look (assign_at slot s y is n) x [])
      at Outside = cell_lasts s y is n h
      at Empty = local_lasts s y n h
      at (Holds m) = local_lasts s y n h

  pub given_lasts : (s : State) (y : Variable) (o : Option ℕ) → IsSome (look s x []) → IsSome (look (given s y o) x [])
  given_lasts s y None h = h
  given_lasts s y (Some n) h = assigned_lasts s y [] n h

  run_keeps : (a : Stmt) → is_among (declared_in a) x ≡ false → (s : State) → IfAny (Keeps s) (run a s)
  run_keeps = run_holds Keeps keeping assigned_lasts (λ s t h. h) x declared_lasts

  enters_keep : (ls : List Loop) (u : Vector) (s : State) → is_among (variables_of ls) x ≡ false → Lasts s (entered ls u)
  enters_keep [] u s h k = k
  enters_keep (l ∷ ls) [] s h k = k
  enters_keep (l ∷ ls) (v ∷ vs) s h k =
      let parts = or_parts (l.variable == x) (is_among (variables_of ls) x) h in
      enters_keep ls vs (with_local s l.variable (Holds v)) parts.1 (declared_lasts s l.variable (Some v) parts.0 k)

  walk_keeps : (loops : List Loop) (body : Stmt) → is_among (variables_of loops) x ≡ false → is_among (declared_in body) x ≡ false → (us : List Vector) (s : State) → IfAny (Keeps s) (walk loops body us s)
  walk_keeps loops body own inside [] s = nothing_holds Keeps keeping s
  walk_keeps loops body own inside (u ∷ us) s =
      steps_hold Keeps keeping s (Some (enters loops u)) (λ t. then_from t (run body t) (walk loops body us)) (some_holds Keeps keeping s (enters loops u) (enters_keep loops u s own))
      (λ t. steps_hold Keeps keeping t (run body t) (walk loops body us) (run_keeps body inside t) (walk_keeps loops body own inside us))

pub walks_keep : WalksKeepNumbers
walks_keep n s loops body us start e x nest seen ran held =
    walk_keeps x loops body (nest_variables n s loops body nest x seen)
    (not_true (is_among (declared_in body) x) (visible_more s body (nest_declares n s loops body nest) x seen))
    us start e ran held

begun_held : (x : Variable) (rs : List (Variable × ReduceOp)) (s : State) → IsSome (look s x []) → IsSome (look (begun_with rs s) x [])
begun_held x [] s h = h
begun_held x (r ∷ rs) s h = begun_held x rs (given s r.0 (first_value r s)) (given_lasts x s r.0 (first_value r s) h)

pub chunks_keep : ChunksKeepNumbers
chunks_keep roles n s loops body us outer e nest none held ran x op is =
    walks_keep n s loops body us (begun roles outer) e x nest (none x (role x (among_of roles.reductions x op is))) ran
    (begun_held x roles.reductions outer (held x op is))
  where
    role : (x : Variable) → is_among (reduced roles.reductions) x ≡ true → is_among (role_variables roles) x ≡ true
    role x h = list_any-append (λ y. y == x) (assigned_first roles) (reduced roles.reductions) ∙ ap (λ b. is_among (assigned_first roles) x || b) h ∙ or_true (is_among (assigned_first roles) x)
      where
        or_true : (b : Bool) → (b || true) ≡ true
        or_true true = refl
        or_true false = refl
