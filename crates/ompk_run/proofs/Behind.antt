-- What registers and cells hold behind a loop that a team ran.
use Rattle.std.specs.Prelude.{ℕ, Bool, true, false, not, ◌≡◌, ◌<◌, ◌≤◌, List, [], ◌∷◌, length, nat_lt, Option, Some, None, slice_index, ◌++◌, ◌^◌}
use Rattle.std.proofs.Common.{refl, sym, ap, ◌∙◌, subst, inl, inr}
use Rattle.std.proofs.lemmas.Bool.{true≢false, ltb-true, ltb-false}
use Rattle.semantics.specs.Tree.{Variable, Stmt}
use Rattle.semantics.specs.Meaning.Agrees.{is_among, declared_in, visible_behind}
use Rattle.semantics.specs.Meaning.State.{State, Slot, Outside, Empty, Holds, look, look_in, is_there, overwritten}
use Rattle.semantics.specs.Meaning.Runs.{Effect, run}
use Rattle.semantics.specs.Loops.Piece.{Roles, is_outside}
use Rattle.law_roles.specs.Sharing.{role_variables, IsScalar}
use Rattle.law_starts.specs.Begun.{told_apart}
use Rattle.law_independence.specs.OrderLaws.{AreAtHand}
use Rattle.law_scopes.proofs.Shared.{there_same}
use Rattle.law_apart.specs.Apart.{left_slot, left_effect, LeavesApart}
use Rattle.law_apart.proofs.Shared.{left_apart}
use Rattle.law_apart.proofs.Undeclared.{runs_outside}
use Rattle.store.specs.Kept.{Kept}
use Rattle.store.specs.Flat.{values_of}
use Rattle.lower_code.specs.declared.laid.Laid.{Laid}
use Rattle.lower_code.specs.Layout.{shapes_of, cell_at}
use Rattle.seqrun.specs.Ran.{lengths_of}
use Rattle.lower_machine.specs.Machine.{Fits, machine}
use Rattle.lower_run.specs.Walk.{StandFor, Arrives}
use Rattle.ompk_run.proofs.AtHand.{alone}
use Rattle.ompk_run.proofs.Leaving.{role_told, IsTold, holds, stays, empty}
use Rattle.ompk_run.proofs.Numbered.{no_cell}

-- a name that is visible behind a statement is not declared in it
pub undeclared : (b : Bool) → not b ≡ true → b ≡ false
undeclared true h = absurd (true≢false (sym h))
undeclared false h = refl

-- where no object was there is none
none_behind : (o p : Option ℕ) → is_there p ≡ is_there o → o ≡ None → p ≡ None
none_behind o None same h = refl
none_behind o (Some v) same h = absurd (true≢false (same ∙ ap is_there h))

-- a local that holds a number holds the one that a variable told apart has in its register
register_told : (layout : List Laid) (s after : State) (rs rs' : List ℕ) (ks ks' : List Kept) (x v : ℕ) → (s.locals x ≡ Outside → ⊥) → (x < length layout → s.locals x ≡ Outside) → ((n : ℕ) → s.locals x ≡ Holds n → slice_index rs x ≡ n)
    → IsTold layout s after rs rs' ks ks' x → left_slot (s.locals x) (look after x []) ≡ Holds v → slice_index rs' x ≡ v
register_told layout s after rs rs' ks ks' x v inside files before (holds w q at) h = go (nat_lt x (length layout)) refl
  where
    same : (k : Slot) → s.locals x ≡ k → left_slot k (Some w) ≡ Holds v → w ≡ v
    same Outside e k = absurd (inside e)
    same Empty e k = cc
    same (Holds n) e k = cc

    go : (b : Bool) → nat_lt x (length layout) ≡ b → slice_index rs' x ≡ v
    go true lt = absurd (inside (files (ltb-true x (length layout) lt)))
    go false ge = at.register (ltb-false x (length layout) ge) ∙ same (s.locals x) refl (sym (ap (left_slot (s.locals x)) q) ∙ h)
register_told layout s after rs rs' ks ks' x v inside files before (stays q cell register) h = register ∙ go (s.locals x) refl (sym (ap (left_slot (s.locals x)) q) ∙ h)
  where
    go : (k : Slot) → s.locals x ≡ k → left_slot k (look_in k s x []) ≡ Holds v → slice_index rs x ≡ v
    go Outside e k = absurd (inside e)
    go Empty e k = absurd (cc k)
    go (Holds n) e k = let same : n ≡ v = cc in before n e ∙ same
register_told layout s after rs rs' ks ks' x v inside files before (empty e q) h =
    let none : Empty ≡ Holds v = sym (λ i. left_slot (e i) (q i)) ∙ h in absurd (cc none)

-- and so its cell
cell_told : (layout : List Laid) (s after : State) (rs rs' : List ℕ) (ks ks' : List Kept) (x : ℕ) → x < length layout → s.locals x ≡ Outside → after.locals x ≡ Outside → s.cells x [] ≡ cell_at (shapes_of layout) (values_of ks) x []
    → IsTold layout s after rs rs' ks ks' x → after.cells x [] ≡ cell_at (shapes_of layout) (values_of ks') x []
cell_told layout s after rs rs' ks ks' x lt out out' before (holds v q at) = sym (ap (λ l. look_in l after x []) out') ∙ q ∙ sym (at.cell lt)
cell_told layout s after rs rs' ks ks' x lt out out' before (stays q cell register) = sym (ap (λ l. look_in l after x []) out') ∙ q ∙ ap (λ l. look_in l s x []) out ∙ before ∙ sym cell
cell_told layout s after rs rs' ks ks' x lt out out' before (empty e q) = absurd (true≢false (ap is_outside (sym out ∙ e)))

-- what is known of registers and cells behind it: each variable that is told apart is told, no other register has changed, and no object without a role is other than the loop leaves it
pub record AreBehind (layout : List Laid) (s : State) (rs rs' : List ℕ) (ks ks' : List Kept) (roles : Roles) (e : Effect) : Type 0 where
  pub told : (x : Variable) → is_among (told_apart roles) x ≡ true → IsTold layout s (overwritten s e.writes) rs rs' ks ks' x
  pub others : (r : ℕ) → is_among (told_apart roles) r ≡ false → slice_index rs' r ≡ slice_index rs r
  pub objects : (x : Variable) (is : List ℕ) → is_among (role_variables roles) x ≡ false → cell_at (shapes_of layout) (values_of ks') x is ≡ (overwritten s e.writes).cells x is

module _ (layout : List Laid) (mark : ℕ) (s : State) (rs : List ℕ) (ks : List Kept) (stand : StandFor layout mark s rs ks) (rs' : List ℕ) (ks' : List Kept) (roles : Roles) (a : Stmt)
    (seen : (x : Variable) → is_among (role_variables roles) x ≡ true → visible_behind a x ≡ true) (hand : AreAtHand roles a s) (privates : (x : Variable) → is_among roles.privates x ≡ true → length layout ≤ x)
    (e : Effect) (ran : run a s ≡ Some e) (put : AreBehind layout s rs rs' ks ks' roles e) where
  abbrev after : State
  after = overwritten s e.writes

  abbrev pub left : State
  left = overwritten s (left_effect (told_apart roles) s e).writes

  law : LeavesApart (told_apart roles) s e
  law = left_apart (told_apart roles) s e

  -- a local that did not stand before the loop does not behind it
  pub still_outside : (x : Variable) → s.locals x ≡ Outside → left.locals x ≡ Outside
  still_outside x out = go (is_among (told_apart roles) x) refl
    where
      go : (b : Bool) → is_among (told_apart roles) x ≡ b → left.locals x ≡ Outside
      go true h = law.locals x h ∙ ap (λ l. left_slot l (look after x [])) out
      go false h = law.others x h ∙ out

  pub local_left : (x v : ℕ) → left.locals x ≡ Holds v → slice_index rs' x ≡ v
  local_left x v h = go (is_among (told_apart roles) x) refl
    where
      inside : s.locals x ≡ Outside → ⊥
      inside out = true≢false (ap is_outside (sym (still_outside x out) ∙ h))

      go : (b : Bool) → is_among (told_apart roles) x ≡ b → slice_index rs' x ≡ v
      go true k = register_told layout s after rs rs' ks ks' x v inside (stand.machine.file_scope x) (stand.machine.local x) (put.told x k) (sym (law.locals x k) ∙ h)
      go false k = put.others x k ∙ stand.machine.local x v (sym (law.others x k) ∙ h)

  cell_after : (x : ℕ) (is : List ℕ) → after.cells x is ≡ cell_at (shapes_of layout) (values_of ks') x is
  cell_after x is = go (nat_lt x (length layout)) refl (is_among (role_variables roles) x) refl
    where
      past : length layout ≤ x → after.cells x is ≡ cell_at (shapes_of layout) (values_of ks') x is
      past le =
          none_behind (s.cells x is) (after.cells x is) (there_same e.writes s x is) (stand.machine.cell x is ∙ no_cell layout (values_of ks) x is le) ∙ sym (no_cell layout (values_of ks') x is le)

      file : (js : List ℕ) → x < length layout → is_among (told_apart roles) x ≡ true → is_among (role_variables roles) x ≡ true → IsScalar s x → after.cells x js ≡ cell_at (shapes_of layout) (values_of ks') x js
      file js lt k role (inl up) = absurd (true≢false (sym (ap is_outside (stand.machine.file_scope x lt)) ∙ up))
      file [] lt k role (inr scalar) =
          cell_told layout s after rs rs' ks ks' x lt scalar.outside (runs_outside x a (undeclared (is_among (declared_in a) x) (seen x role)) s e ran scalar.outside) (stand.machine.cell x []) (put.told x k)
      file (i ∷ js) lt k role (inr scalar) =
          none_behind (s.cells x (i ∷ js)) (after.cells x (i ∷ js)) (there_same e.writes s x (i ∷ js)) (scalar.alone i js) ∙ sym (alone layout mark s rs ks stand x scalar.there (values_of ks') i js)

      go : (b : Bool) → nat_lt x (length layout) ≡ b → (c : Bool) → is_among (role_variables roles) x ≡ c → after.cells x is ≡ cell_at (shapes_of layout) (values_of ks') x is
      go false ge c role = past (ltb-false x (length layout) ge)
      go true lt false none = sym (put.objects x is none)
      go true lt true role = pick (is_among (told_apart roles) x) refl
        where
          pick : (d : Bool) → is_among (told_apart roles) x ≡ d → after.cells x is ≡ cell_at (shapes_of layout) (values_of ks') x is
          pick true k = file is (ltb-true x (length layout) lt) k role (hand.scalars x role)
          pick false k = past (privates x (role_told roles x role k))

  pub cell_left : (x : ℕ) (is : List ℕ) → left.cells x is ≡ cell_at (shapes_of layout) (values_of ks') x is
  cell_left x is = law.cells x is ∙ cell_after x is

  -- registers and cells stand for what is left
  pub arrives : {text text' : List ℕ} → length rs' ≡ length rs → lengths_of ks' ≡ lengths_of ks → Fits (machine rs' (values_of ks')) → length (values_of ks') < 2 ^ 64 → text' ≡ text ++ e.text
      → Arrives layout mark (Some (left_effect (told_apart roles) s e)) s rs' ks' text text'
  arrives long shape words room printed =
      record {
        state = left;
        stand = record {
          machine = record {
            laid = stand.machine.laid;
            fits = words;
            width = subst (λ n. mark ≤ n) (sym long) stand.machine.width;
            room = room;
            local = local_left;
            file_scope = λ x lt. still_outside x (stand.machine.file_scope x lt);
            unmarked = λ x le. still_outside x (stand.machine.unmarked x le);
            cell = cell_left;
          };
          shape = shape ∙ stand.shape;
        };
        ran = record { effect = left_effect (told_apart roles) s e; is = refl; left = refl; printed = printed };
      }
