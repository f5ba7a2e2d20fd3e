-- What a variable that each iteration assigns holds behind the last of them.
use Rattle.std.specs.Prelude.{ℕ, suc, length, Bool, true, false, not, ◌≡◌, ◌==◌, List, [], ◌∷◌, ◌++◌, flat_map, Option, Some, None}
use Rattle.std.specs.List.{AllByRecursion as Each}
use Rattle.std.proofs.Common.{refl, sym, ap, ◌∙◌, subst, cond, arith}
use Rattle.std.proofs.lemmas.Bool.{true≢false, eqb-true}
use Rattle.std.proofs.lemmas.List.{append-nil}
use Rattle.std.proofs.lemmas.Option.{same_Some, none-some}
use Rattle.semantics.specs.Tree.{Variable, Stmt}
use Rattle.semantics.specs.Meaning.State.{State, Slot, Outside, Empty, Holds, Write, Declared, Assigned, slot_of, with_local, assign_at, written, overwritten}
use Rattle.semantics.specs.Meaning.Value.{map_option}
use Rattle.semantics.specs.Meaning.Runs.{Effect, nothing, joined, then_from, run}
use Rattle.semantics.specs.Meaning.Definite.{DefinitelyAssigned, definite, no_privates}
use Rattle.semantics.specs.Meaning.Agrees.{Agrees, is_among, names_only, visible_behind}
use Rattle.semantics.specs.Loops.Nest.{Loop, Vector, at_vector}
use Rattle.semantics.specs.Loops.Piece.{is_outside}
use Rattle.semantics.proofs.NestLaw.{local_same}
use Rattle.law_commute.specs.Commuting.{KeepsToItself}
use Rattle.law_commute.proofs.Lists.{each_left, each_right}
use Rattle.law_commute.proofs.Matched.{overwritten-append}
use Rattle.law_nests.specs.Walks.{entered, enters, walk}
use Rattle.law_nests.proofs.Nested.{parts_of}
use Rattle.law_private.specs.Known.{IsWithin}
use Rattle.law_private.proofs.Alike.{known_alike}
use Rattle.law_private.proofs.Own.{own_body, others, KnownInside}
use Rattle.law_roles.specs.Sharing.{last_filled, or_filled}
use Rattle.law_roles.proofs.Seen.{only_assigned}
use Rattle.law_roles.proofs.Recorded.{entered_is, declareds, behind, Clear, AllClear, Good, Untouched, Ready, Stepped, steps}

-- ---- a local behind the same writes

-- a local holds the same behind the same writes
slot_written : (x : Variable) (w : Write) (s t : State) → s.locals x ≡ t.locals x → is_outside (s.locals x) ≡ false → ((written s w).locals x ≡ (written t w).locals x) × (is_outside ((written s w).locals x) ≡ false)
slot_written x (Declared y v) s t same up = (at (x == y), inside (x == y))
  where
    at : (b : Bool) → cond b (slot_of v) (s.locals x) ≡ cond b (slot_of v) (t.locals x)
    at true = refl
    at false = same

    slot : (o : Option ℕ) → is_outside (slot_of o) ≡ false
    slot None = refl
    slot (Some n) = refl

    inside : (b : Bool) → is_outside (cond b (slot_of v) (s.locals x)) ≡ false
    inside true = slot v
    inside false = up
slot_written x (Assigned y is n) s t same up = go (x == y) refl
  where
    own_slot : (l : Slot) → is_outside l ≡ false → (q : State) → (assign_at l q x is n).locals x ≡ Holds n
    own_slot Outside h q = absurd (true≢false h)
    own_slot Empty h q = local_same q x (Holds n)
    own_slot (Holds m) h q = local_same q x (Holds n)

    go : (b : Bool) → (x == y) ≡ b → ((written s (Assigned y is n)).locals x ≡ (written t (Assigned y is n)).locals x) × (is_outside ((written s (Assigned y is n)).locals x) ≡ false)
    go true e =
        let one : (written s (Assigned y is n)).locals x ≡ Holds n = subst (λ z. (assign_at (s.locals z) s z is n).locals x ≡ Holds n) (eqb-true x y e) (own_slot (s.locals x) up s) in
        let two : (written t (Assigned y is n)).locals x ≡ Holds n = subst (λ z. (assign_at (t.locals z) t z is n).locals x ≡ Holds n) (eqb-true x y e) (own_slot (t.locals x) (ap is_outside (sym same) ∙ up) t) in
        (one ∙ sym two, ap is_outside one)
    go false e =
        let one = (only_assigned y is n s).locals x e in
        let two = (only_assigned y is n t).locals x e in
        (one ∙ same ∙ sym two, ap is_outside one ∙ up)

slot_behind : (x : Variable) (ws : List Write) (s t : State) → s.locals x ≡ t.locals x → is_outside (s.locals x) ≡ false → (overwritten s ws).locals x ≡ (overwritten t ws).locals x
slot_behind x [] s t same up = same
slot_behind x (w ∷ ws) s t same up = let r = slot_written x w s t same up in slot_behind x ws (written s w) (written t w) r.0 r.1

-- ---- walks taken apart

module _ (loops : List Loop) (body : Stmt) where
  -- the first iteration, and the others
  pub record Apart (u : Vector) (us : List Vector) (a : State) (f : Effect) : Type 0 where
    pub one : Effect
    pub two : Effect
    pub one_is : run body (at_vector loops u a) ≡ Some one
    pub two_is : walk loops body us (overwritten (at_vector loops u a) one.writes) ≡ Some two
    pub leaves : overwritten a f.writes ≡ overwritten (overwritten (at_vector loops u a) one.writes) two.writes

  pub walk_apart : (u : Vector) (us : List Vector) (a : State) (f : Effect) → walk loops body (u ∷ us) a ≡ Some f → Apart u us a f
  walk_apart u us a f ran =
      let q : State = overwritten a (entered loops u) in
      let p = parts_of a (Some (enters loops u)) (λ q. then_from q (run body q) (walk loops body us)) f ran in
      let first : enters loops u ≡ p.one = same_Some (enters loops u) p.one p.one_is in
      let two_is : then_from q (run body q) (walk loops body us) ≡ Some p.two = ap (λ (g : Effect). then_from (overwritten a g.writes) (run body (overwritten a g.writes)) (walk loops body us)) first ∙ p.two_is in
      let r = parts_of q (run body q) (walk loops body us) p.two two_is in
      let whole : joined (enters loops u) (joined r.one r.two) ≡ f = ap (joined (enters loops u)) r.is ∙ ap (λ (g : Effect). joined g p.two) first ∙ p.is in
      record {
        one = r.one;
        two = r.two;
        one_is = ap (run body) (sym (entered_is loops u a)) ∙ r.one_is;
        two_is = ap (λ z. walk loops body us (overwritten z r.one.writes)) (sym (entered_is loops u a)) ∙ r.two_is;
        leaves =
            sym (ap (λ (g : Effect). overwritten a g.writes) whole) ∙ overwritten-append a (entered loops u) (r.one.writes ++ r.two.writes) ∙ overwritten-append q r.one.writes r.two.writes
            ∙ ap (λ z. overwritten (overwritten z r.one.writes) r.two.writes) (entered_is loops u a);
      }

  -- some, and those behind them
  pub record Split (us vs : List Vector) (a : State) (f : Effect) : Type 0 where
    pub first : Effect
    pub second : Effect
    pub first_is : walk loops body us a ≡ Some first
    pub second_is : walk loops body vs (overwritten a first.writes) ≡ Some second
    pub leaves : overwritten a f.writes ≡ overwritten (overwritten a first.writes) second.writes

  pub walk_split : (us vs : List Vector) (a : State) (f : Effect) → walk loops body (us ++ vs) a ≡ Some f → Split us vs a f
  walk_split [] vs a f ran = record { first = nothing; second = f; first_is = refl; second_is = ran; leaves = refl }
  walk_split (u ∷ us) vs a f ran =
      let p = walk_apart u (us ++ vs) a f ran in
      let q : State = overwritten (at_vector loops u a) p.one.writes in
      let rest = walk_split us vs q p.two p.two_is in
      let entered_at : overwritten a (entered loops u) ≡ at_vector loops u a = entered_is loops u a in
      let all : overwritten a (entered loops u ++ (p.one.writes ++ rest.first.writes)) ≡ overwritten q rest.first.writes =
      overwritten-append a (entered loops u) (p.one.writes ++ rest.first.writes) ∙ ap (λ z. overwritten z (p.one.writes ++ rest.first.writes)) entered_at ∙ overwritten-append (at_vector loops u a) p.one.writes rest.first.writes in
      record {
        first = joined (enters loops u) (joined p.one rest.first);
        second = rest.second;
        first_is = (λ i. then_from a (Some (enters loops u)) (λ z. then_from z (run body z) (walk loops body us))) ∙ goes p.one rest.first entered_at p.one_is rest.first_is;
        second_is = ap (walk loops body vs) all ∙ rest.second_is;
        leaves = p.leaves ∙ rest.leaves ∙ ap (λ z. overwritten z rest.second.writes) (sym all);
      }
    where
      goes : (one two : Effect) → overwritten a (entered loops u) ≡ at_vector loops u a → run body (at_vector loops u a) ≡ Some one → walk loops body us (overwritten (at_vector loops u a) one.writes) ≡ Some two
          → walk loops body (u ∷ us) a ≡ Some (joined (enters loops u) (joined one two))
      goes one two e is more =
          ap (map_option (joined (enters loops u)))
          (ap (λ z. then_from z (run body z) (walk loops body us)) e ∙ ap (λ o. then_from (at_vector loops u a) o (walk loops body us)) is ∙ ap (map_option (joined one)) more)

-- ---- the last chunk that has an iteration

-- there is one, or there is no iteration
pub none_filled : (chunks : List (List Vector)) (fs : List Effect) → length fs ≡ length chunks → last_filled chunks fs ≡ None → flat_map (λ us. us) chunks ≡ []
none_filled [] fs h e = refl
none_filled (us ∷ chunks) [] h e = absurd (omega (arith, h))
none_filled (us ∷ chunks) (f ∷ fs) h e = at us (last_filled chunks fs) refl e (λ k. none_filled chunks fs (omega (arith, h)) k)
  where
    at : (us : List Vector) (p : Option Effect) → last_filled chunks fs ≡ p → or_filled us f p ≡ None → (last_filled chunks fs ≡ None → flat_map (λ us. us) chunks ≡ []) → us ++ flat_map (λ us. us) chunks ≡ []
    at us (Some g) is k rest = absurd (none-some g (sym k))
    at [] None is k rest = rest is
    at (u ∷ us) None is k rest = absurd (none-some f (sym k))

-- ---- iterations that assign it

-- what is known behind the body, where none of these is before it
pub record KnownBehind (vars : List Variable) (body : Stmt) (x : Variable) : Type 0 where
  pub before : DefinitelyAssigned
  pub after : DefinitelyAssigned
  pub is : definite no_privates body before ≡ Some after
  pub less : IsWithin before (others vars)
  pub there : after x ≡ true

tail : List Write → List Write
tail [] = []
tail (w ∷ ws) = ws

module _ (vars : List Variable) (body : Stmt) (named : names_only (visible_behind body) body ≡ true) (known : KnownInside vars body) (loops : List Loop) (o : State) (keeps : KeepsToItself (own_body vars body)) where
  cancel : (zs : List Variable) (a b : List Write) → declareds vars body named known zs ++ a ≡ declareds vars body named known zs ++ b → a ≡ b
  unfolding tail
  cancel [] a b h = h
  cancel (z ∷ zs) a b h = cancel zs a b (ap tail h)

  -- an iteration writes the same from two states that look alike to it
  same_writes : (u : Vector) (us : List Vector) (a c : State) (e f : Effect) → Stepped vars body named known loops o keeps u us a e → Stepped vars body named known loops o keeps u us c f → e.writes ≡ f.writes
  same_writes u us a c e f one two =
      let same : behind vars body named known vars e ≡ behind vars body named known vars f = same_Some (behind vars body named known vars e) (behind vars body named known vars f) (sym one.own_is ∙ two.own_is) in
      sym (append-nil e.writes) ∙ cancel vars (e.writes ++ []) (f.writes ++ []) (ap (λ (g : Effect). g.writes) same) ∙ append-nil f.writes

  module _ (x : Variable) (mine : is_among vars x ≡ true) (sure : KnownBehind vars body x) where
    -- whatever it held
    settled : (q : State) (e : Effect) (l : Slot) → is_outside (q.locals x) ≡ false → is_outside l ≡ false → run body q ≡ Some e → (overwritten q e.writes).locals x ≡ (overwritten (with_local q x l) e.writes).locals x
    settled q e l up inside ran =
        ((known_alike no_privates body (visible_behind body) sure.before sure.after q (with_local q x l) sure.is named agrees).left e ran).values x sure.there
      where
        agrees : Agrees (visible_behind body) sure.before q (with_local q x l)
        agrees = record {
          cells = λ y is. refl;
          kinds = λ y h. kind y (y == x) refl;
          values = λ y h. value y h (y == x) refl;
        }
          where
            kind : (y : Variable) (b : Bool) → (y == x) ≡ b → is_outside (q.locals y) ≡ is_outside (cond (y == x) l (q.locals y))
            kind y true e = ap (λ z. is_outside (q.locals z)) (eqb-true y x e) ∙ up ∙ sym inside ∙ ap (λ b. is_outside (cond b l (q.locals y))) (sym e)
            kind y false e = ap (λ b. is_outside (cond b l (q.locals y))) (sym e)

            value : (y : Variable) → sure.before y ≡ true → (b : Bool) → (y == x) ≡ b → q.locals y ≡ cond (y == x) l (q.locals y)
            value y h true e = absurd (true≢false (sym (sure.less y h) ∙ ap (λ z. not (is_among vars z)) (eqb-true y x e) ∙ ap not mine))
            value y h false e = ap (λ b. cond b l (q.locals y)) (sym e)

    same_last : (q r : State) (e f : Effect) → is_outside (q.locals x) ≡ false → is_outside (r.locals x) ≡ false → run body q ≡ Some e → e.writes ≡ f.writes → (overwritten q e.writes).locals x ≡ (overwritten r f.writes).locals x
    same_last q r e f up inside ran same =
        settled q e (r.locals x) up inside ran
        ∙ slot_behind x e.writes (with_local q x (r.locals x)) r (local_same q x (r.locals x)) (ap is_outside (local_same q x (r.locals x)) ∙ inside)
        ∙ ap (λ ws. (overwritten r ws).locals x) same

    at_inside : (ls : List Loop) (u : Vector) (s : State) → is_outside (s.locals x) ≡ false → is_outside ((at_vector ls u s).locals x) ≡ false
    at_inside ls u s h = ap (λ (q : State). is_outside (q.locals x)) (sym (entered_is ls u s)) ∙ inside (entered ls u) s h
      where
        inside : (ws : List Write) (s : State) → is_outside (s.locals x) ≡ false → is_outside ((overwritten s ws).locals x) ≡ false
        inside [] s h = h
        inside (w ∷ ws) s h = inside ws (written s w) (slot_written x w s s refl h).1

    -- behind the same iterations it holds the same, if it did so before
    agree_from : (us : List Vector) (a c : State) (f g : Effect) → Each (Good vars body named known loops o keeps) us → AllClear vars body named known loops o keeps us
        → Ready vars body named known loops o keeps us a → Ready vars body named known loops o keeps us c → walk loops body us a ≡ Some f → walk loops body us c ≡ Some g
        → a.locals x ≡ c.locals x → (overwritten a f.writes).locals x ≡ (overwritten c g.writes).locals x
    agree_from [] a c f g good clear ready ready' ran ran' same =
        sym (ap (λ (e : Effect). (overwritten a e.writes).locals x) (same_Some nothing f ran)) ∙ same ∙ ap (λ (e : Effect). (overwritten c e.writes).locals x) (same_Some nothing g ran')
    agree_from (u ∷ us) a c f g good clear ready ready' ran ran' same =
        let p = walk_apart loops body u us a f ran in
        let q = walk_apart loops body u us c g ran' in
        let one = steps vars body named known loops o keeps u us a p.one good.0 ready clear.0 p.one_is in
        let two = steps vars body named known loops o keeps u us c q.one good.0 ready' clear.0 q.one_is in
        ap (λ (z : State). z.locals x) p.leaves
        ∙ agree_from us (overwritten (at_vector loops u a) p.one.writes) (overwritten (at_vector loops u c) q.one.writes) p.two q.two good.1 clear.1 one.ready two.ready p.two_is q.two_is
        (same_last (at_vector loops u a) (at_vector loops u c) p.one q.one (at_inside loops u a (ready.inside x mine)) (at_inside loops u c (ready'.inside x mine)) p.one_is (same_writes u us a c p.one q.one one two))
        ∙ sym (ap (λ (z : State). z.locals x) q.leaves)

    -- and if there is one at all
    lasts_agree : (u : Vector) (us : List Vector) (a c : State) (f g : Effect) → Each (Good vars body named known loops o keeps) (u ∷ us) → AllClear vars body named known loops o keeps (u ∷ us)
        → Ready vars body named known loops o keeps (u ∷ us) a → Ready vars body named known loops o keeps (u ∷ us) c → walk loops body (u ∷ us) a ≡ Some f → walk loops body (u ∷ us) c ≡ Some g
        → (overwritten a f.writes).locals x ≡ (overwritten c g.writes).locals x
    lasts_agree u us a c f g good clear ready ready' ran ran' =
        let p = walk_apart loops body u us a f ran in
        let q = walk_apart loops body u us c g ran' in
        let one = steps vars body named known loops o keeps u us a p.one good.0 ready clear.0 p.one_is in
        let two = steps vars body named known loops o keeps u us c q.one good.0 ready' clear.0 q.one_is in
        ap (λ (z : State). z.locals x) p.leaves
        ∙ agree_from us (overwritten (at_vector loops u a) p.one.writes) (overwritten (at_vector loops u c) q.one.writes) p.two q.two good.1 clear.1 one.ready two.ready p.two_is q.two_is
        (same_last (at_vector loops u a) (at_vector loops u c) p.one q.one (at_inside loops u a (ready.inside x mine)) (at_inside loops u c (ready'.inside x mine)) p.one_is (same_writes u us a c p.one q.one one two))
        ∙ sym (ap (λ (z : State). z.locals x) q.leaves)

  -- ---- states on the way

  pub ready_after : (us vs : List Vector) (a : State) (f : Effect) → Each (Good vars body named known loops o keeps) (us ++ vs) → AllClear vars body named known loops o keeps (us ++ vs)
      → Ready vars body named known loops o keeps (us ++ vs) a → walk loops body us a ≡ Some f → Ready vars body named known loops o keeps vs (overwritten a f.writes)
  ready_after [] vs a f good clear ready ran = subst (λ (e : Effect). Ready vars body named known loops o keeps vs (overwritten a e.writes)) (same_Some nothing f ran) ready
  ready_after (u ∷ us) vs a f good clear ready ran =
      let p = walk_apart loops body u us a f ran in
      let one = steps vars body named known loops o keeps u (us ++ vs) a p.one good.0 ready clear.0 p.one_is in
      subst (λ z. Ready vars body named known loops o keeps vs z) (sym p.leaves) (ready_after us vs (overwritten (at_vector loops u a) p.one.writes) p.two good.1 clear.1 one.ready p.two_is)

  pub ready_first : (us vs : List Vector) (a : State) → Ready vars body named known loops o keeps (us ++ vs) a → Ready vars body named known loops o keeps us a
  ready_first us vs a r = record {
    locals = r.locals;
    scalars = r.scalars;
    elements = each_left (Untouched vars body named known loops o keeps a) us vs r.elements;
    inside = r.inside;
  }

  pub clear_first : (us vs : List Vector) → AllClear vars body named known loops o keeps (us ++ vs) → AllClear vars body named known loops o keeps us
  clear_first [] vs h = tt
  clear_first (u ∷ us) vs h = (each_left (Clear vars body named known loops o keeps u) us vs h.0, clear_first us vs h.1)

  pub clear_second : (us vs : List Vector) → AllClear vars body named known loops o keeps (us ++ vs) → AllClear vars body named known loops o keeps vs
  clear_second [] vs h = h
  clear_second (u ∷ us) vs h = clear_second us vs h.1

  -- ---- chunks

  module _ (x : Variable) (mine : is_among vars x ≡ true) (sure : KnownBehind vars body x) (start : State) (ready_start : (us : List Vector) → Ready vars body named known loops o keeps us start) where
    -- a chunk's effect has the variable where the operands' walk has it
    abbrev pub Ends : List Vector → Effect → Type 0
    Ends us f = (g : Effect) × (walk loops body us start ≡ Some g) × ((overwritten start f.writes).locals x ≡ (overwritten start g.writes).locals x)

    abbrev pub AllEnd : List (List Vector) → List Effect → Type 0
    AllEnd [] [] = Unit {0}
    AllEnd [] (f ∷ fs) = ⊥
    AllEnd (us ∷ chunks) [] = ⊥
    AllEnd (us ∷ chunks) (f ∷ fs) = Ends us f × AllEnd chunks fs

    abbrev all_of : List (List Vector) → List Vector
    all_of chunks = flat_map (λ us. us) chunks

    same_many : (chunks : List (List Vector)) (fs : List Effect) → AllEnd chunks fs → length fs ≡ length chunks
    same_many [] [] h = refl
    same_many [] (f ∷ fs) h = absurd h
    same_many (us ∷ chunks) [] h = absurd h
    same_many (us ∷ chunks) (f ∷ fs) h = ap suc (same_many chunks fs h.1)

    -- behind all of them it holds what it holds behind the last that is not empty
    pub last_counts : (chunks : List (List Vector)) (fs : List Effect) (a : State) (g f : Effect) → AllEnd chunks fs → Each (Good vars body named known loops o keeps) (all_of chunks)
        → AllClear vars body named known loops o keeps (all_of chunks) → Ready vars body named known loops o keeps (all_of chunks) a → walk loops body (all_of chunks) a ≡ Some g → last_filled chunks fs ≡ Some f
        → (overwritten a g.writes).locals x ≡ (overwritten start f.writes).locals x
    last_counts [] fs a g f h good clear ready ran is = absurd (none-some f is)
    last_counts (us ∷ chunks) [] a g f h good clear ready ran is = absurd h
    last_counts (us ∷ chunks) (f1 ∷ fs) a g f h good clear ready ran is =
        let others = all_of chunks in
        let s = walk_split loops body us others a g ran in
        let later = ready_after us others a s.first good clear ready s.first_is in
        ap (λ (z : State). z.locals x) s.leaves
        ∙ at (last_filled chunks fs) refl is s.first s.second s.first_is s.second_is
        (λ e. last_counts chunks fs (overwritten a s.first.writes) s.second f h.1 (each_right (Good vars body named known loops o keeps) us others good) (clear_second us others clear) later s.second_is e)
      where
        filled : (us : List Vector) → or_filled us f1 None ≡ Some f → Ends us f1 → Each (Good vars body named known loops o keeps) us → AllClear vars body named known loops o keeps us
            → Ready vars body named known loops o keeps us a → (first : Effect) → walk loops body us a ≡ Some first → (overwritten a first.writes).locals x ≡ (overwritten start f.writes).locals x
        filled [] e ends good clear ready first first_is = absurd (none-some f e)
        filled (u ∷ us) e ends good clear ready first first_is =
            lasts_agree x mine sure u us a start first ends.0 good clear ready (ready_start (u ∷ us)) first_is ends.1 ∙ sym ends.2
            ∙ ap (λ (k : Effect). (overwritten start k.writes).locals x) (same_Some f1 f e)

        at : (p : Option Effect) → last_filled chunks fs ≡ p → or_filled us f1 p ≡ Some f → (first second : Effect) → walk loops body us a ≡ Some first → walk loops body (all_of chunks) (overwritten a first.writes) ≡ Some second
            → (last_filled chunks fs ≡ Some f → (overwritten (overwritten a first.writes) second.writes).locals x ≡ (overwritten start f.writes).locals x)
            → (overwritten (overwritten a first.writes) second.writes).locals x ≡ (overwritten start f.writes).locals x
        at (Some k) e j first second first_is second_is rest = rest (e ∙ j)
        at None e j first second first_is second_is rest =
            let gone : all_of chunks ≡ [] = none_filled chunks fs (same_many chunks fs h.1) e in
            let still : nothing ≡ second = same_Some nothing second (sym (ap (λ vs. walk loops body vs (overwritten a first.writes)) gone) ∙ second_is) in
            sym (ap (λ (k : Effect). (overwritten (overwritten a first.writes) k.writes).locals x) still)
            ∙ filled us j h.0 (each_left (Good vars body named known loops o keeps) us (all_of chunks) good) (clear_first us (all_of chunks) clear) (ready_first us (all_of chunks) a ready) first first_is
