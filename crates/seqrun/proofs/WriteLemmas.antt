-- What is read and written where an object is.
use Rattle.std.proofs.Common.{◌≡◌, ℕ, ◌<◌, ◌+◌, ◌≤◌, Bool, true, false, cond, List, [], ◌∷◌, length, get_or, Option, Some, None, IsSome, refl, sym, ap, ◌∙◌, subst, arith}
use Rattle.std.specs.Prelude.{slice_get, option_and_then}
use Rattle.std.proofs.lemmas.Option.{get_or_from_slice_get}
use Rattle.semantics.specs.Tree.{Source}
use Rattle.semantics.specs.Meaning.State.{State, Slot, Outside, Empty, Holds, Declared, Assigned, assign_at, with_local, is_object_in, is_there, is_object, look, look_in, no_indexes}
use Rattle.semantics.specs.Meaning.Value.{source_value, both_then}
use Rattle.semantics.specs.Meaning.Runs.{Effect, one_write, assigned, declares, declared}
use Rattle.store.specs.Kept.{Kept, cell_of, rewritten_at, HasRoom}
use Rattle.seqrun_value.specs.declared.frame.Slot as kept
use Rattle.seqrun_value.specs.Standing.{cell_in, locals_of, offset_from, place_in, standing}
use Rattle.seqrun_value.proofs.FrameLemmas.{state_with}
use Rattle.seqrun_value.proofs.ValueLemmas.{cell_is, found_within, found_value}
use Rattle.seqrun.specs.Ran.{Ended}
use Rattle.seqrun.proofs.StateLemmas.{cells_set}

none_there : (o : Option ℕ) → o ≡ None → is_there o ≡ true → ⊥
none_there None e h = cc
none_there (Some v) e h = cc

there_some : (o : Option ℕ) → is_there o ≡ true → IsSome o
there_some None h = cc
there_some (Some v) h = refl

no_some : {A : Type 0} (o : Option A) → o ≡ None → IsSome o → ⊥
no_some None e h = cc
no_some (Some x) e h = cc

no_choice : (b : Bool) (o : Option Effect) → b ≡ false → IsSome (cond b o None) → ⊥
no_choice true o e h = cc
no_choice false o e h = cc

-- an assignment that can be made
pub record Assigns (s : State) (x : ℕ) (ks : Option (List ℕ)) (n : ℕ) : Type 0 where
  pub indexes : List ℕ
  pub is : ks ≡ Some indexes
  pub place : is_object s x indexes ≡ true
  pub effect : assigned s x ks (Some n) ≡ Some (one_write (Assigned x indexes n))

assigns : (s : State) (x : ℕ) (ks : Option (List ℕ)) (n : ℕ) → IsSome (assigned s x ks (Some n)) → Assigns s x ks n
assigns s x None n h = cc
assigns s x (Some is) n h = go (is_object s x is) refl
  where
    go : (b : Bool) → is_object s x is ≡ b → Assigns s x (Some is) n
    go true e = record { indexes = is; is = refl; place = e; effect = ap (λ b. cond b (Some (one_write (Assigned x is n))) None) e }
    go false e = absurd (no_choice (is_object s x is) (Some (one_write (Assigned x is n))) e h)

-- a local that is assigned stands anew
pub local_written : (s s' : State) (x : ℕ) (ks : Option (List ℕ)) (n : ℕ) (old : Slot) → ((is : List ℕ) → assign_at old s x is n ≡ with_local s x (Holds n)) → s.locals x ≡ old → IsSome (assigned s x ks (Some n)) → s' ≡ with_local s x (Holds n) → Ended (assigned s x ks (Some n)) s s'
local_written s s' x ks n old renews is h e =
    let w = assigns s x ks n h in
    record { writes = Assigned x w.indexes n ∷ []; is = w.effect; left = e ∙ sym (ap (λ slot. assign_at slot s x w.indexes n) is ∙ renews w.indexes) }

-- a local that is declared stands anew
pub empty_declared : (s s' : State) (x : ℕ) → s' ≡ with_local s x Empty → Ended (declared s x None) s s'
empty_declared s s' x e = record { writes = Declared x None ∷ []; is = refl; left = e }

pub value_declared : (s s' : State) (x : ℕ) (e : Source) (v : ℕ) → source_value s e ≡ Some v → s' ≡ with_local s x (Holds v) → Ended (declared s x (Some e)) s s'
value_declared s s' x e v is left = record { writes = Declared x (Some v) ∷ []; is = ap (declares x) is; left = left }

module _ (frame : List kept.Slot) (store : List Kept) (x : ℕ) (ks : Option (List ℕ)) (a : Kept) (out : (standing frame store).locals x ≡ Outside) (is : a ≡ get_or store x a) where
  abbrev s : State
  s = standing frame store

  -- an object that is no local lies in its array
  pub looked_in : IsSome (option_and_then (λ is. look s x is) ks) → option_and_then (λ is. look s x is) ks ≡ cell_in a ks
  looked_in h = along ks ∙ lies ks (slice_get store x) refl (subst IsSome (along ks) h)
    where
      along : (ks : Option (List ℕ)) → option_and_then (λ is. look s x is) ks ≡ option_and_then (λ is. s.cells x is) ks
      along None = refl
      along (Some is) = ap (λ slot. look_in slot s x is) out

      lies : (ks : Option (List ℕ)) (o : Option Kept) → slice_get store x ≡ o → IsSome (option_and_then (λ is. cell_of (slice_get store x) is) ks) → option_and_then (λ is. cell_of (slice_get store x) is) ks ≡ cell_in a ks
      lies None o e h = refl
      lies (Some is) None e h = absurd (no_some (cell_of (slice_get store x) is) (ap (λ (o : Option Kept). cell_of o is) e) h)
      lies (Some js) (Some b) e h = ap (λ (o : Option Kept). cell_of o js) (e ∙ ap Some (sym (get_or_from_slice_get store x b a e) ∙ sym is)) ∙ cell_is a js

  module _ (n : ℕ) (h : IsSome (assigned s x ks (Some n))) where
    -- the element that an assignment writes lies in its array
    pub array_there : slice_get store x ≡ Some a
    array_there = go (slice_get store x) refl (ap (λ slot. is_object_in slot s x w.indexes) (sym out) ∙ w.place)
      where
        w : Assigns s x ks n
        w = assigns s x ks n h

        go : (o : Option Kept) → slice_get store x ≡ o → is_there (cell_of (slice_get store x) w.indexes) ≡ true → slice_get store x ≡ Some a
        go None e p = absurd (none_there (cell_of (slice_get store x) w.indexes) (ap (λ (o : Option Kept). cell_of o w.indexes) e) p)
        go (Some b) e p = e ∙ ap Some (sym (get_or_from_slice_get store x b a e) ∙ sym is)

    pub cell_there : IsSome (cell_in a ks)
    cell_there =
        let w = assigns s x ks n h in
        let p : is_there (cell_of (slice_get store x) w.indexes) ≡ true = ap (λ slot. is_object_in slot s x w.indexes) (sym out) ∙ w.place in
        subst (λ k. IsSome (cell_in a k)) (sym w.is) (subst IsSome (cell_is a w.indexes) (there_some _ (subst (λ (o : Option Kept). is_there (cell_of o w.indexes) ≡ true) array_there p)))

    pub room_there : (at : ℕ) → place_in a ks ≡ Some at → HasRoom (slice_get store x) (at + 1)
    room_there at p =
        let lt : at < length a.values = found_within a ks at cell_there p in
        let le : at + 1 ≤ length a.values = omega arith in
        subst (λ (o : Option Kept). HasRoom o (at + 1)) (sym array_there) le

    -- and the state after it is the one with that element written
    pub cell_written : (at : ℕ) → place_in a ks ≡ Some at → Ended (assigned s x ks (Some n)) s (standing frame (rewritten_at store x at (n ∷ [])))
    cell_written at p =
        let w = assigns s x ks n h in
        let q : offset_from 0 a.lengths w.indexes ≡ Some at = subst (λ k. place_in a k ≡ Some at) w.is p in
        record {
          writes = Assigned x w.indexes n ∷ [];
          is = w.effect;
          left =
              ap (λ cells. state_with cells (locals_of frame)) (cells_set a w.indexes at n q (found_within a ks at cell_there p) store x array_there)
              ∙ ap (λ slot. assign_at slot s x w.indexes n) (sym out);
        }

-- what `op=` takes and gives is there
updated_first : (s : State) (x : ℕ) (ks : Option (List ℕ)) (f : ℕ → ℕ → Option ℕ) (o : Option ℕ) (n : ℕ) → IsSome (assigned s x ks (both_then f o (Some n))) → IsSome o
updated_first s x None f o n h = cc
updated_first s x (Some is) f None n h = cc
updated_first s x (Some is) f (Some old) n h = refl

no_assignment : (s : State) (x : ℕ) (ks : Option (List ℕ)) (v : Option ℕ) → v ≡ None → IsSome (assigned s x ks v) → ⊥
no_assignment s x None v e h = cc
no_assignment s x (Some is) None e h = cc
no_assignment s x (Some is) (Some v) e h = cc

updated_value : (s : State) (x : ℕ) (ks : Option (List ℕ)) (f : ℕ → ℕ → Option ℕ) (o : Option ℕ) (old n : ℕ) → o ≡ Some old → IsSome (assigned s x ks (both_then f o (Some n))) → IsSome (f old n)
updated_value s x ks f o old n e h = go (f old n) refl
  where
    go : (v : Option ℕ) → f old n ≡ v → IsSome v
    go None g = absurd (no_assignment s x ks (both_then f o (Some n)) (ap (λ p. both_then f p (Some n)) e ∙ g) h)
    go (Some v) g = refl

-- a local that `op=` changes
module _ (s : State) (x : ℕ) (ks : Option (List ℕ)) (f : ℕ → ℕ → Option ℕ) (old n : ℕ) (is : s.locals x ≡ Holds old) (h : IsSome (assigned s x ks (both_then f (option_and_then (λ is. look s x is) ks) (Some n)))) where
  abbrev found : Option ℕ
  found = option_and_then (λ is. look s x is) ks

  held : found ≡ Some old
  held = go ks (updated_first s x ks f found n h)
    where
      chosen : (b : Bool) → IsSome (cond b (Some old) None) → cond b (Some old) None ≡ Some old
      chosen true h = refl
      chosen false h = cc

      go : (ks : Option (List ℕ)) → IsSome (option_and_then (λ is. look s x is) ks) → option_and_then (λ is. look s x is) ks ≡ Some old
      go None h = cc
      go (Some js) h = ap (λ slot. look_in slot s x js) is ∙ chosen (no_indexes js) (subst (λ slot. IsSome (look_in slot s x js)) is h)

  pub local_operates : IsSome (f old n)
  local_operates = updated_value s x ks f found old n held h

  pub local_updated : (s' : State) (new : ℕ) → f old n ≡ Some new → s' ≡ with_local s x (Holds new) → Ended (assigned s x ks (both_then f found (Some n))) s s'
  local_updated s' new e left =
      let v : both_then f found (Some n) ≡ Some new = ap (λ o. both_then f o (Some n)) held ∙ e in
      subst (λ v. Ended (assigned s x ks v) s s') (sym v)
      (local_written s s' x ks new (Holds old) (λ js. refl) is (subst (λ v. IsSome (assigned s x ks v)) v h) left)

-- an element that `op=` changes
module _ (frame : List kept.Slot) (store : List Kept) (x : ℕ) (ks : Option (List ℕ)) (a : Kept) (out : (standing frame store).locals x ≡ Outside) (is : a ≡ get_or store x a) (f : ℕ → ℕ → Option ℕ) (n : ℕ) (h : IsSome (assigned (standing frame store) x ks (both_then f (option_and_then (λ is. look (standing frame store) x is) ks) (Some n)))) where
  abbrev named : Option ℕ
  named = option_and_then (λ is. look (standing frame store) x is) ks

  lies : named ≡ cell_in a ks
  lies = looked_in frame store x ks a out is (updated_first (standing frame store) x ks f named n h)

  pub update_there : IsSome (cell_in a ks)
  update_there = subst IsSome lies (updated_first (standing frame store) x ks f named n h)

  holds_there : (at : ℕ) → place_in a ks ≡ Some at → named ≡ Some (get_or a.values at 0)
  holds_there at p = lies ∙ found_value a ks at update_there p

  pub update_within : (at : ℕ) → place_in a ks ≡ Some at → at < length a.values
  update_within at p = found_within a ks at update_there p

  pub element_operates : (at : ℕ) → place_in a ks ≡ Some at → IsSome (f (get_or a.values at 0) n)
  element_operates at p = updated_value (standing frame store) x ks f named (get_or a.values at 0) n (holds_there at p) h

  module _ (at new : ℕ) (p : place_in a ks ≡ Some at) (e : f (get_or a.values at 0) n ≡ Some new) where
    gives : both_then f named (Some n) ≡ Some new
    gives = ap (λ o. both_then f o (Some n)) (holds_there at p) ∙ e

    pub update_room : HasRoom (slice_get store x) (at + 1)
    update_room = room_there frame store x ks a out is new (subst (λ v. IsSome (assigned (standing frame store) x ks v)) gives h) at p

    pub element_updated : Ended (assigned (standing frame store) x ks (both_then f named (Some n))) (standing frame store) (standing frame (rewritten_at store x at (new ∷ [])))
    element_updated =
        subst (λ v. Ended (assigned (standing frame store) x ks v) (standing frame store) (standing frame (rewritten_at store x at (new ∷ [])))) (sym gives)
        (cell_written frame store x ks a out is new (subst (λ v. IsSome (assigned (standing frame store) x ks v)) gives h) at p)
