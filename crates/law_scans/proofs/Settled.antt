-- What a variable that each iteration assigns holds behind chunks of a scan.
use Rattle.std.specs.Prelude.{Bool, true, false, not, ◌≡◌, ◌==◌, List, [], ◌∷◌, ◌++◌, length, map, flat_map, Option, Some, None}
use Rattle.std.specs.List.{AllByRecursion as Each}
use Rattle.std.proofs.Common.{refl, sym, ap, ◌∙◌, cond, arith}
use Rattle.std.proofs.lemmas.Bool.{true≢false, eqb-true, eq-eqb}
use Rattle.std.proofs.lemmas.Option.{same_Some, none-some}
use Rattle.semantics.specs.Tree.{Variable, Stmt}
use Rattle.semantics.specs.Meaning.State.{State, Slot, Write, with_local, overwritten}
use Rattle.semantics.specs.Meaning.Runs.{Effect, nothing, run}
use Rattle.semantics.specs.Meaning.Definite.{no_privates}
use Rattle.semantics.specs.Meaning.Agrees.{Agrees, is_among, names_only, visible_behind}
use Rattle.semantics.specs.Loops.Nest.{Loop, Vector, at_vector}
use Rattle.semantics.specs.Loops.Piece.{is_outside}
use Rattle.law_commute.proofs.Matched.{overwritten-append}
use Rattle.law_nests.specs.Walks.{walk, entered}
use Rattle.law_private.proofs.Alike.{known_alike}
use Rattle.law_private.proofs.Near.{all_inside}
use Rattle.law_roles.specs.Sharing.{AssignsAll, last_filled, or_filled}
use Rattle.law_roles.proofs.Recorded.{entered_is}
use Rattle.law_scans.specs.Passes.{walks_from}
use Rattle.law_scans.proofs.Steps.{same_slot}
use Rattle.law_scans.proofs.Walking.{split_of, left_cons}

module _ (first lasts : List Variable) (body : Stmt) (named : names_only (visible_behind body) body ≡ true) (sure : AssignsAll first lasts body) (loops : List Loop) (y : Variable) (early : is_among first y ≡ true) (late : is_among lasts y ≡ true) where
  -- it stands as a local
  abbrev Stands : State → Type 0
  Stands s = is_outside (s.locals y) ≡ false

  -- whatever it held
  settled : (q : State) (e : Effect) (l : Slot) → Stands q → is_outside l ≡ false → run body q ≡ Some e → (overwritten q e.writes).locals y ≡ (overwritten (with_local q y l) e.writes).locals y
  settled q e l up inside ran =
      ((known_alike no_privates body (visible_behind body) (λ z. not (is_among first z)) sure.known q (with_local q y l) sure.is named agrees).left e ran).values y (sure.each y late)
    where
      agrees : Agrees (visible_behind body) (λ z. not (is_among first z)) q (with_local q y l)
      agrees = record {
        cells = λ z is. refl;
        kinds = λ z h. kind z (z == y) refl;
        values = λ z h. value z h (z == y) refl;
      }
        where
          kind : (z : Variable) (b : Bool) → (z == y) ≡ b → is_outside (q.locals z) ≡ is_outside (cond (z == y) l (q.locals z))
          kind z true e = ap (λ w. is_outside (q.locals w)) (eqb-true z y e) ∙ up ∙ sym inside ∙ ap (λ b. is_outside (cond b l (q.locals z))) (sym e)
          kind z false e = ap (λ b. is_outside (cond b l (q.locals z))) (sym e)

          value : (z : Variable) → not (is_among first z) ≡ true → (b : Bool) → (z == y) ≡ b → q.locals z ≡ cond (z == y) l (q.locals z)
          value z h true e = absurd (true≢false (sym h ∙ ap (λ w. not (is_among first w)) (eqb-true z y e) ∙ ap not early))
          value z h false e = ap (λ b. cond b l (q.locals z)) (sym e)

  stands_at : (u : Vector) (s : State) → Stands s → Stands (at_vector loops u s)
  stands_at u s h = ap (λ (q : State). is_outside (q.locals y)) (sym (entered_is loops u s)) ∙ all_inside (entered loops u) s y h

  -- behind some iterations it holds the same, wherever these writes are made
  walk_settles : (u : Vector) (us : List Vector) (t r : State) (f : Effect) → Stands t → Stands r → walk loops body (u ∷ us) t ≡ Some f → (overwritten t f.writes).locals y ≡ (overwritten r f.writes).locals y
  walk_settles u us t r f up inside ran =
      let p = split_of loops body u us t f ran in
      let q : State = at_vector loops u t in
      let c : State = at_vector loops u r in
      let one : (overwritten q p.one.writes).locals y ≡ (overwritten c p.one.writes).locals y =
      settled q p.one (c.locals y) (stands_at u t up) (stands_at u r inside) p.one_is
      ∙ same_slot y p.one.writes (with_local q y (c.locals y)) c (ap (λ b. cond b (c.locals y) (q.locals y)) (eq-eqb y y refl)) in
      let two : (overwritten (overwritten q p.one.writes) p.two.writes).locals y ≡ (overwritten (overwritten c p.one.writes) p.two.writes).locals y =
      same_slot y p.two.writes (overwritten q p.one.writes) (overwritten c p.one.writes) one in
      ap (λ (g : Effect). (overwritten t g.writes).locals y) (sym p.whole) ∙ ap (λ (z : State). z.locals y) (left_cons loops u t p.one p.two) ∙ two
      ∙ ap (λ (z : State). z.locals y) (sym (left_cons loops u r p.one p.two)) ∙ ap (λ (g : Effect). (overwritten r g.writes).locals y) p.whole

  -- ---- chunks

  abbrev all_written : List Effect → List Write
  all_written fs = flat_map (λ (f : Effect). f.writes) fs

  head_is : (o : Option Effect) (os : List (Option Effect)) (f : Effect) (fs : List Effect) → o ∷ os ≡ map Some (f ∷ fs) → o ≡ Some f
  head_is o os f fs h = cc

  tail_is : (o : Option Effect) (os : List (Option Effect)) (f : Effect) (fs : List Effect) → o ∷ os ≡ map Some (f ∷ fs) → os ≡ map Some fs
  tail_is o os f fs h = cc

  -- chunks without an iteration write nothing
  none_written : (chunks : List (List Vector)) (starts : List State) (fs : List Effect) → length starts ≡ length chunks → walks_from loops body starts chunks ≡ map Some fs → last_filled chunks fs ≡ None → all_written fs ≡ []
  none_written [] starts [] long each none = refl
  none_written [] [] (f ∷ fs) long each none = absurd cc
  none_written [] (t ∷ starts) (f ∷ fs) long each none = absurd cc
  none_written (us ∷ chunks) [] fs long each none = absurd (omega (arith, long))
  none_written (us ∷ chunks) (t ∷ starts) [] long each none = refl
  none_written (us ∷ chunks) (t ∷ starts) (f ∷ fs) long each none =
      at us (last_filled chunks fs) refl none (head_is (walk loops body us t) (walks_from loops body starts chunks) f fs each)
      (λ k. none_written chunks starts fs (omega (arith, long)) (tail_is (walk loops body us t) (walks_from loops body starts chunks) f fs each) k)
    where
      at : (us : List Vector) (p : Option Effect) → last_filled chunks fs ≡ p → or_filled us f p ≡ None → walk loops body us t ≡ Some f → (last_filled chunks fs ≡ None → all_written fs ≡ []) → f.writes ++ all_written fs ≡ []
      at us (Some k) e h ran rest = absurd (none-some k (sym h))
      at (u ∷ us) None e h ran rest = absurd (none-some f (sym h))
      at [] None e h ran rest = ap (λ (g : Effect). g.writes ++ all_written fs) (sym (same_Some nothing f ran)) ∙ rest e

  -- the last chunk that has an iteration tells what it holds
  pub last_settles : (chunks : List (List Vector)) (starts : List State) (fs : List Effect) (a b : State) (f : Effect) → Each Stands starts → length starts ≡ length chunks → walks_from loops body starts chunks ≡ map Some fs
      → last_filled chunks fs ≡ Some f → Stands a → Stands b → (overwritten a (all_written fs)).locals y ≡ (overwritten b f.writes).locals y
  last_settles [] starts fs a b f up long each filled here there = absurd (none-some f filled)
  last_settles (us ∷ chunks) [] fs a b f up long each filled here there = absurd (omega (arith, long))
  last_settles (us ∷ chunks) (t ∷ starts) [] a b f up long each filled here there = absurd (none-some f filled)
  last_settles (us ∷ chunks) (t ∷ starts) (g ∷ fs) a b f up long each filled here there =
      let others = tail_is (walk loops body us t) (walks_from loops body starts chunks) g fs each in
      let fewer : length starts ≡ length chunks = omega (arith, long) in
      ap (λ (z : State). z.locals y) (overwritten-append a g.writes (all_written fs))
      ∙ at us (last_filled chunks fs) refl filled (head_is (walk loops body us t) (walks_from loops body starts chunks) g fs each)
      (λ k. last_settles chunks starts fs (overwritten a g.writes) b f up.1 fewer others k (all_inside g.writes a y here) there) (λ k. none_written chunks starts fs fewer others k)
    where
      at : (us : List Vector) (p : Option Effect) → last_filled chunks fs ≡ p → or_filled us g p ≡ Some f → walk loops body us t ≡ Some g
          → (last_filled chunks fs ≡ Some f → (overwritten (overwritten a g.writes) (all_written fs)).locals y ≡ (overwritten b f.writes).locals y)
          → (last_filled chunks fs ≡ None → all_written fs ≡ []) → (overwritten (overwritten a g.writes) (all_written fs)).locals y ≡ (overwritten b f.writes).locals y
      at us (Some k) e h ran rest none = rest (e ∙ h)
      at [] None e h ran rest none = absurd (none-some f h)
      at (u ∷ us) None e h ran rest none =
          ap (λ ws. (overwritten (overwritten a g.writes) ws).locals y) (none e)
          ∙ sym (walk_settles u us t a g up.0 here ran) ∙ walk_settles u us t b g up.0 there ran ∙ ap (λ (k : Effect). (overwritten b k.writes).locals y) (same_Some g f h)
