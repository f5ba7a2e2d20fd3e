-- What every run keeps, and runs one after another.
use Rattle.std.specs.Prelude.{ℕ, Bool, true, false, ◌≡◌, ◌<◌, ◌≤◌, ◌⊎◌, ◌==◌, ◌&&◌, List, [], ◌∷◌, ◌++◌, length, Option, Some, None}
use Rattle.std.proofs.Common.{refl, sym, inl, inr, ap, ◌∙◌, subst, cond, arith}
use Rattle.std.proofs.lemmas.Bool.{eqb-true}
use Rattle.semantics.specs.Tree.{Variable, Declaration}
use Rattle.semantics.specs.Meaning.State.{State, Slot, Outside, Empty, Holds, Write, Assigned, renewed, same_indexes, cells_after, with_local, with_cell, assign_at, written, overwritten, is_there}
use Rattle.semantics.specs.Meaning.Value.{by_test, map_option}
use Rattle.semantics.specs.Meaning.Runs.{Effect, nothing, one_write, joined, then_from}
use Rattle.semantics.specs.Meaning.Definite.{DefinitelyAssigned, known_with}

-- a local stands, or holds a number
abbrev pub stands : Slot → Bool
stands Outside = false
stands Empty = true
stands (Holds v) = true

abbrev pub is_held : Slot → Bool
is_held Outside = false
is_held Empty = false
is_held (Holds v) = true

-- a state behind another: the same objects are there, no local takes a file-scope variable's number, and locals that stand go on standing
pub record Later (ds : List Declaration) (s t : State) : Type 0 where
  pub cells : (x : Variable) (is : List ℕ) → is_there (t.cells x is) ≡ is_there (s.cells x is)
  pub outside : (x : Variable) → x < length ds → s.locals x ≡ Outside → t.locals x ≡ Outside
  pub standing : (x : Variable) → stands (s.locals x) ≡ true → stands (t.locals x) ≡ true

pub later_self : (ds : List Declaration) (s : State) → Later ds s s
later_self ds s = record { cells = λ x is. refl; outside = λ x lt e. e; standing = λ x e. e }

pub later_again : (ds : List Declaration) (s t u : State) → Later ds s t → Later ds t u → Later ds s u
later_again ds s t u a b =
    record {
      cells = λ x is. b.cells x is ∙ a.cells x is;
      outside = λ x lt e. b.outside x lt (a.outside x lt e);
      standing = λ x e. b.standing x (a.standing x e);
    }

-- a run that is there, and what holds behind it
pub record Ran (ds : List Declaration) (Q : State → Type 0) (s : State) (o : Option Effect) : Type 0 where
  pub effect : Effect
  pub is : o ≡ Some effect
  pub later : Later ds s (overwritten s effect.writes)
  pub left : Q (overwritten s effect.writes)

overwritten-append : (s : State) (ws vs : List Write) → overwritten s (ws ++ vs) ≡ overwritten (overwritten s ws) vs
overwritten-append s [] vs = refl
overwritten-append s (w ∷ ws) vs = overwritten-append (written s w) ws vs

-- nothing is done
pub ran_nothing : (ds : List Declaration) (Q : State → Type 0) (s : State) → Q s → Ran ds Q s (Some nothing)
ran_nothing ds Q s q = record { effect = nothing; is = refl; later = later_self ds s; left = q }

-- what follows holds too
pub ran_weaker : {ds : List Declaration} {Q R : State → Type 0} {s : State} {o : Option Effect} → ((t : State) → Later ds s t → Q t → R t) → Ran ds Q s o → Ran ds R s o
ran_weaker {s = s} h r = record { effect = r.effect; is = r.is; later = r.later; left = h (overwritten s r.effect.writes) r.later r.left }

-- the same run
pub ran_same : {ds : List Declaration} {Q : State → Type 0} {s : State} {o p : Option Effect} → p ≡ o → Ran ds Q s o → Ran ds Q s p
ran_same e r = record { effect = r.effect; is = e ∙ r.is; later = r.later; left = r.left }

-- one run and then another
pub ran_then : {ds : List Declaration} {Q R : State → Type 0} {s : State} {o : Option Effect} (next : State → Option Effect)
    → Ran ds Q s o → ((t : State) → Later ds s t → Q t → Ran ds R t (next t)) → Ran ds R s (then_from s o next)
ran_then {ds} {Q} {R} {s} {o} next a h =
    let t = overwritten s a.effect.writes in
    let b = h t a.later a.left in
    let both : overwritten s (a.effect.writes ++ b.effect.writes) ≡ overwritten t b.effect.writes = overwritten-append s a.effect.writes b.effect.writes in
    record {
      effect = joined a.effect b.effect;
      is = ap (λ p. then_from s p next) a.is ∙ ap (map_option (joined a.effect)) b.is;
      later = subst (Later ds s) (sym both) (later_again ds s t (overwritten t b.effect.writes) a.later b.later);
      left = subst R (sym both) b.left;
    }

-- one of two, as a test says
pub ran_either : {ds : List Declaration} {Q : State → Type 0} {s : State} {o p : Option Effect} (test : Option Bool) (yes : Bool)
    → test ≡ Some yes → Ran ds Q s o → Ran ds Q s p → Ran ds Q s (by_test test o p)
ran_either {o = o} {p = p} test true e a b = ran_same (ap (λ t. by_test t o p) e) a
ran_either {o = o} {p = p} test false e a b = ran_same (ap (λ t. by_test t o p) e) b

-- what is known holds a number
abbrev pub HoldsKnown : List Declaration → DefinitelyAssigned → State → Type 0
HoldsKnown ds k s = (x : Variable) → length ds ≤ x → k x ≡ true → is_held (s.locals x) ≡ true

-- where less is known
pub known_less : (ds : List Declaration) (k less : DefinitelyAssigned) (s : State) → ((x : Variable) → less x ≡ true → k x ≡ true) → HoldsKnown ds k s → HoldsKnown ds less s
known_less ds k less s h known x le e = known x le (h x e)

pub known_with_less : (k : DefinitelyAssigned) (x y : Variable) → k y ≡ true → known_with k x true y ≡ true
known_with_less k x y e = go (y == x)
  where
    go : (b : Bool) → cond b true (k y) ≡ true
    go true = refl
    go false = e

-- a variable of the file, or a local that stands
abbrev pub IsUsable : List Declaration → State → Variable → Type 0
IsUsable ds s x = (x < length ds) ⊎ (stands (s.locals x) ≡ true)

pub usable_later : (ds : List Declaration) (s t : State) (x : Variable) → Later ds s t → IsUsable ds s x → IsUsable ds t x
usable_later ds s t x l (inl lt) = inl lt
usable_later ds s t x l (inr e) = inr (l.standing x e)

-- one write, and what holds behind it
pub ran_write : (ds : List Declaration) (Q : State → Type 0) (s : State) (w : Write) → Later ds s (written s w) → Q (written s w) → Ran ds Q s (Some (one_write w))
ran_write ds Q s w l q = record { effect = one_write w; is = refl; later = l; left = q }

-- a local stands anew
module _ (ds : List Declaration) (s : State) (x : Variable) (slot : Slot) (up : stands slot ≡ true) where
  pub local_later : (x < length ds → s.locals x ≡ Outside → ⊥) → Later ds s (with_local s x slot)
  local_later no_file = record {
    cells = λ y is. refl;
    outside = λ y lt e. kept y lt e (y == x) refl;
    standing = λ y e. standing y e (y == x);
  }
    where
      kept : (y : Variable) → y < length ds → s.locals y ≡ Outside → (b : Bool) → (y == x) ≡ b → cond b slot (s.locals y) ≡ Outside
      kept y lt e true q = let same = eqb-true y x q in absurd (no_file (omega arith) (ap s.locals (sym same) ∙ e))
      kept y lt e false q = e

      standing : (y : Variable) → stands (s.locals y) ≡ true → (b : Bool) → stands (cond b slot (s.locals y)) ≡ true
      standing y e true = up
      standing y e false = e

  -- what is known then
  pub local_known : (k : DefinitelyAssigned) → HoldsKnown ds k s → HoldsKnown ds (known_with k x (is_held slot)) (with_local s x slot)
  local_known k known y le e = go (y == x) e
    where
      go : (b : Bool) → cond b (is_held slot) (k y) ≡ true → is_held (cond b slot (s.locals y)) ≡ true
      go true q = q
      go false q = known y le q

-- a file-scope object is assigned
cell_there : (s : State) (x : Variable) (is : List ℕ) (v : ℕ) (y : Variable) (js : List ℕ) → is_there (cells_after s.cells x is v y js) ≡ is_there (s.cells y js)
cell_there s x is v y js = go ((y == x) && same_indexes js is) (s.cells y js)
  where
    go : (b : Bool) (o : Option ℕ) → is_there (cond b (renewed o v) o) ≡ is_there o
    go true None = refl
    go true (Some old) = refl
    go false o = refl

pub cell_later : (ds : List Declaration) (s : State) (x : Variable) (is : List ℕ) (v : ℕ) → Later ds s (with_cell s x is v)
cell_later ds s x is v = record { cells = cell_there s x is v; outside = λ y lt e. e; standing = λ y e. e }

-- an assignment
pub assigned_later : (ds : List Declaration) (s : State) (x : Variable) (is : List ℕ) (v : ℕ) → Later ds s (written s (Assigned x is v))
assigned_later ds s x is v = go (s.locals x) refl
  where
    go : (slot : Slot) → s.locals x ≡ slot → Later ds s (assign_at slot s x is v)
    go Outside e = cell_later ds s x is v
    go Empty e = local_later ds s x (Holds v) refl (λ lt q. absurd cc)
    go (Holds old) e = local_later ds s x (Holds v) refl (λ lt q. absurd cc)

pub assigned_known : (ds : List Declaration) (s : State) (x : Variable) (is : List ℕ) (v : ℕ) (k : DefinitelyAssigned) → IsUsable ds s x → HoldsKnown ds k s → HoldsKnown ds (known_with k x true) (written s (Assigned x is v))
assigned_known ds s x is v k usable known = go (s.locals x) refl usable
  where
    file : s.locals x ≡ Outside → IsUsable ds s x → HoldsKnown ds (known_with k x true) s
    file e u y le q = among (y == x) refl q
      where
        no_file : y ≡ x → IsUsable ds s x → ⊥
        no_file same (inl lt) = omega arith
        no_file same (inr up) = let h : stands (s.locals x) ≡ false = ap stands e in absurd cc

        among : (b : Bool) → (y == x) ≡ b → cond b true (k y) ≡ true → is_held (s.locals y) ≡ true
        among true h q = absurd (no_file (eqb-true y x h) u)
        among false h q = known y le q

    go : (slot : Slot) → s.locals x ≡ slot → IsUsable ds s x → HoldsKnown ds (known_with k x true) (assign_at slot s x is v)
    go Outside e u = file e u
    go Empty e u = local_known ds s x (Holds v) refl k known
    go (Holds old) e u = local_known ds s x (Holds v) refl k known
