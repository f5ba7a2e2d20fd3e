-- Both passes, chunk by chunk.
use Rattle.std.specs.Prelude.{ℕ, zero, suc, Bool, true, false, ◌≡◌, ◌==◌, ◌<◌, ◌^◌, List, [], ◌∷◌, ◌++◌, length, map, flat_map, Option, Some, None, slice_get}
use Rattle.std.specs.List.{AllByRecursion as Each}
use Rattle.std.proofs.Common.{refl, sym, ap, ◌∙◌, subst, cond, inl, inr, arith}
use Rattle.std.proofs.lemmas.Bool.{or_parts, eq-eqb}
use Rattle.std.proofs.lemmas.Option.{same_Some}
use Rattle.semantics.specs.Tree.{Variable, Stmt}
use Rattle.semantics.specs.Meaning.State.{State, Slot, Holds, with_local, overwritten, look, look_in}
use Rattle.semantics.specs.Meaning.Runs.{Effect, nothing}
use Rattle.semantics.specs.Meaning.Agrees.{is_among, visible_behind}
use Rattle.semantics.specs.Loops.Nest.{Loop, Vector}
use Rattle.semantics.specs.Loops.Operator.{ReduceOp, apply, combined}
use Rattle.semantics.specs.Loops.OperatorLaw.{operators_are_lawful}
use Rattle.semantics.specs.Loops.Scan.{start_of}
use Rattle.semantics.specs.Loops.Access.{Writes}
use Rattle.semantics.specs.Loops.Piece.{is_outside}
use Rattle.law_commute.specs.Targets.{KeepsApart, AssignsFirst}
use Rattle.law_commute.specs.Commuting.{InnerLoopsTurn}
use Rattle.law_commute.proofs.Changes.{acted}
use Rattle.law_commute.proofs.Matched.{overwritten-append}
use Rattle.law_commute.proofs.Lists.{each_left, each_right}
use Rattle.law_nests.specs.Walks.{walk}
use Rattle.law_nests.specs.Merging.{Cells, left_by}
use Rattle.law_private.proofs.Own.{DeclaresNone}
use Rattle.law_roles.specs.Following.{variables_of}
use Rattle.law_roles.proofs.Seen.{apart_back}
use Rattle.law_roles.specs.Sharing.{begins_with, MergesAt, unless_same, changed_from}
use Rattle.law_roles.proofs.Partials.{Grown, in_place_counts}
use Rattle.law_scans.specs.Iterations.{StandsAt}
use Rattle.law_scans.specs.Passes.{walks_from}
use Rattle.law_scans.proofs.Steps.{IsSet, TouchedBy}
use Rattle.law_scans.proofs.Changing.{Kin, kin_cells}
use Rattle.law_scans.proofs.Merging.{changing}
use Rattle.law_scans.proofs.Once.{AllOnce, Misses, all_writes, slice_each, none_changes, one_changes}
use Rattle.law_scans.proofs.Walking.{AllApart, apart_left, apart_right, halves, walked, walked_all, set_start}
use Rattle.law_scans.proofs.Inputs.{IsInput}
use Rattle.law_scans.proofs.Firsts.{Told, sequence, pass, joined_all, ready1}

grown_more : (op : ReduceOp) (v : ℕ) (fits : v < 2 ^ 64) (w : ℕ) (p : Option ℕ) → Grown op v fits w → Grown op v fits (combined op w p)
grown_more op v fits w None g = g
grown_more op v fits w (Some n) (inl e) = inr (n, ap (λ z. apply op z n) e)
grown_more op v fits w (Some n) (inr g) = inr (apply op g.0 n, ap (λ z. apply op z n) g.1 ∙ (operators_are_lawful op).associative v g.0 n)

-- a scan's body and its first pass
pub record Scans (x : Variable) (op : ReduceOp) (ps : List Variable) (loops : List Loop) (body input : Stmt) : Type 0 where
  pub keeps : KeepsApart (x ∷ ps) body
  pub declares_none : DeclaresNone (x ∷ ps) body
  pub apart : is_among ps x ≡ false
  pub first : AssignsFirst ps body
  pub not_of_loops : is_among (variables_of loops) x ≡ false
  pub part : IsInput x op ps body input

-- so it does with another number in the scan variable
pub numbered : (x : Variable) (ps : List Variable) (outer : State) (v : ℕ) → StandsAt x ps outer v outer → (w : ℕ) → StandsAt x ps outer w (with_local outer x (Holds w))
numbered x ps outer v stands w = record {
  locals = λ y h. ap (λ b. cond b (Holds w) (outer.locals y)) (apart_back x y (or_parts (x == y) (is_among ps y) h).0);
  scalars = λ y h. refl;
  elements = λ y i is. refl;
  inside = λ y h. at (outer.locals y) (y == x) (stands.inside y h);
  value = ap (λ b. look_in (cond b (Holds w) (outer.locals x)) (with_local outer x (Holds w)) x []) (eq-eqb x x refl);
}
  where
    at : (k : Slot) (b : Bool) → is_outside k ≡ false → is_outside (cond b (Holds w) k) ≡ false
    at k true h = refl
    at k false h = h

module _ (x : Variable) (op : ReduceOp) (ps : List Variable) (loops : List Loop) (body input : Stmt) (outer zero_state : State) (v : ℕ) (k : Scans x op ps loops body input)
    (stands : StandsAt x ps outer v outer) (fits : v < 2 ^ 64) (zero_is : StandsAt x ps outer (begins_with op v) zero_state) where
  abbrev pub flat : List (List Vector) → List Vector
  flat chunks = flat_map (λ us. us) chunks

  abbrev pub Set : List Vector → State → ℕ → Type 0
  Set us a w = IsSet x ps loops body outer us a w

  abbrev pub Sound : Vector → Type 0
  Sound u = (length u ≡ length loops) × InnerLoopsTurn loops body outer u

  abbrev pub Telling : Vector → Type 0
  Telling u = Told x op ps body input k.keeps k.declares_none k.first k.apart k.part loops outer k.not_of_loops u

  -- it leaves scalars as they were
  abbrev pub Still : Effect → Type 0
  Still f = (y : Variable) → visible_behind body y ≡ true → is_among (x ∷ ps) y ≡ false → left_by outer f y [] ≡ outer.cells y []

  abbrev pub changed : Effect → Option ℕ
  changed f = changed_from zero_state f x

  seen : (t : State) (n : ℕ) → t.locals x ≡ Holds n → look t x [] ≡ Some n
  seen t n h = ap (λ k. look_in k t x []) h

  -- each chunk with its start
  abbrev pub Begun : ℕ → List (Option ℕ) → List State → Type 0
  Begun w partials starts = (c : ℕ) (t : State) → slice_get starts c ≡ Some t → (n : ℕ) × (start_of op (Some w) partials c ≡ Some n) × StandsAt x ps outer n t

  -- what an effect leaves of elements
  abbrev pub Acts : Effect → Type 0
  Acts f = (y : Variable) (j : ℕ) (js : List ℕ) → left_by outer f y (j ∷ js) ≡ acted y (j ∷ js) f.writes (outer.cells y (j ∷ js))

  -- the state before the loop with another number in the scan variable
  abbrev pub with_number : ℕ → State
  with_number w = with_local outer x (Holds w)

  pub number_stands : (w : ℕ) → StandsAt x ps outer w (with_number w)
  number_stands w = numbered x ps outer v stands w

  pub kin_stands : (w : ℕ) (t : State) → StandsAt x ps outer w t → Kin t outer
  kin_stands w t s y = at (is_among (x ∷ ps) y) refl
    where
      at : (b : Bool) → is_among (x ∷ ps) y ≡ b → is_outside (t.locals y) ≡ is_outside (outer.locals y)
      at true h = s.inside y h ∙ sym (stands.inside y h)
      at false h = ap is_outside (s.locals y h)

  pub same_left : (w : ℕ) (t : State) (f : Effect) → StandsAt x ps outer w t → (y : Variable) (i : ℕ) (is : List ℕ) → left_by t f y (i ∷ is) ≡ left_by outer f y (i ∷ is)
  same_left w t f s y i is = kin_cells f.writes t outer y (i ∷ is) (kin_stands w t s) (s.elements y i is)

  pub record Passed (chunks : List (List Vector)) (a : State) (w : ℕ) (f : Effect) : Type 0 where
    pub firsts : List Effect
    pub first_pass : map (λ us. walk loops input us zero_state) chunks ≡ map Some firsts
    pub seconds : List Effect
    pub second_pass : (starts : List State) → length starts ≡ length chunks → Begun w (map changed firsts) starts → walks_from loops body starts chunks ≡ map Some seconds
    pub writes : f.writes ≡ flat_map (λ (g : Effect). g.writes) seconds
    pub text : f.text ≡ flat_map (λ (g : Effect). g.text) seconds
    pub acts : Each Acts seconds
    pub still : Each Still seconds
    pub once : (y : Variable) (j : ℕ) (js : List ℕ) → AllOnce y (j ∷ js) seconds
    pub missed : (y : Variable) (j : ℕ) (js : List ℕ) → Each (λ u. TouchedBy loops body outer u Writes y j js → ⊥) (flat chunks) → Each (Misses y (j ∷ js)) seconds
    pub value : look (overwritten a f.writes) x [] ≡ start_of op (Some w) (map changed firsts) (length chunks)

  pub passed : (chunks : List (List Vector)) (a : State) (w : ℕ) (f : Effect) → Each Sound (flat chunks) → AllApart loops body outer (flat chunks) → Each Telling (flat chunks) → Grown op v fits w → Set (flat chunks) a w
      → walk loops body (flat chunks) a ≡ Some f → Passed chunks a w f
  passed [] a w f sound clear all grown set ran =
      subst (Passed [] a w) (same_Some nothing f ran)
      (record { firsts = []; first_pass = refl; seconds = []; second_pass = λ starts long begun. no_starts starts; writes = refl; text = refl; acts = tt; still = tt; once = λ y j js. tt; missed = λ y j js h. tt; value = seen a w set.holds })
    where
      no_starts : (starts : List State) → walks_from loops body starts [] ≡ []
      no_starts [] = refl
      no_starts (t ∷ starts) = refl
  passed (us ∷ chunks) a w f sound clear all grown set ran =
      let rest = flat chunks in
      let h = halves loops body us rest a f ran in
      let s : State = overwritten a h.one.writes in
      let first_sound = each_left Sound us rest sound in
      let w1 = walked x ps body k.keeps k.declares_none k.first k.apart loops outer k.not_of_loops us rest a w h.one first_sound clear set h.one_is in
      let sq = sequence x op ps body input k.keeps k.declares_none k.first k.apart k.part loops outer k.not_of_loops us rest a w None h.one first_sound clear set (each_left Telling us rest all) h.one_is in
      let near = apart_left loops body outer us rest clear in
      let zero_set = set_start x ps body k.keeps k.declares_none k.first k.apart loops outer k.not_of_loops us zero_state (begins_with op v) zero_is in
      let one = pass x op ps body input k.keeps k.declares_none k.first k.apart k.part loops outer k.not_of_loops us sq.operands zero_state (begins_with op v) None first_sound near sq.tells
      (ready1 x op ps body input k.keeps k.declares_none k.first k.apart k.part loops outer k.not_of_loops us zero_state (begins_with op v) zero_set) zero_set.holds in
      let p : Option ℕ = joined_all x op ps body input k.keeps k.declares_none k.first k.apart k.part loops outer k.not_of_loops None sq.operands in
      let q_is : changed one.effect ≡ unless_same (Some (begins_with op v)) (Some (combined op (begins_with op v) p)) =
      λ i. unless_same (seen zero_state (begins_with op v) zero_set.holds i) (seen (overwritten zero_state one.effect.writes) (combined op (begins_with op v) p) one.value i) in
      let counted : combined op w (changed one.effect) ≡ combined op w p = ap (combined op w) q_is ∙ in_place_counts op v fits p w grown in
      let next : s.locals x ≡ Holds (combined op w (changed one.effect)) = sq.value ∙ ap Holds (sym counted) in
      let c1 = changing x ps body k.keeps k.declares_none k.first k.apart loops outer k.not_of_loops us rest a w h.one first_sound clear set h.one_is in
      let others = passed chunks s (combined op w (changed one.effect)) h.two (each_right Sound us rest sound) (apart_right loops body outer us rest clear) (each_right Telling us rest all) (grown_more op v fits w (changed one.effect) grown)
      (set_to rest s w1.next (combined op w (changed one.effect)) w1.after next) h.two_is in
      record {
        firsts = one.effect ∷ others.firsts;
        first_pass = λ i. one.is i ∷ others.first_pass i;
        seconds = h.one ∷ others.seconds;
        second_pass = λ starts long begun. from h.one (changed one.effect) (map changed others.firsts) others.seconds starts long begun
            (λ t stands. (w1.others t (set_start x ps body k.keeps k.declares_none k.first k.apart loops outer k.not_of_loops us t w stands)).0) others.second_pass;
        writes = ap (λ (g : Effect). g.writes) h.whole ∙ ap (λ ws. h.one.writes ++ ws) others.writes;
        text = ap (λ (g : Effect). g.text) h.whole ∙ ap (λ ws. h.one.text ++ ws) others.text;
        acts = (
          λ y j js. sym (same_left w (with_number w) h.one (number_stands w) y j js)
              ∙ c1.elements (with_number w) (set_start x ps body k.keeps k.declares_none k.first k.apart loops outer k.not_of_loops us (with_number w) w (number_stands w)) y j js,
          others.acts,
        );
        still = (
          λ y seen other.
              let numbered = set_start x ps body k.keeps k.declares_none k.first k.apart loops outer k.not_of_loops us (with_number w) w (number_stands w) in
              let alone = walked_all x ps body k.keeps k.declares_none k.first k.apart loops outer k.not_of_loops us (with_number w) w h.one first_sound near numbered (w1.others (with_number w) numbered).0 in
              sym (kin_cells h.one.writes (with_number w) outer y [] (kin_stands w (with_number w) (number_stands w)) refl) ∙ alone.after.scalars y seen other,
          others.still,
        );
        once = λ y j js. (λ g. others.missed y j js (c1.hits y j js g), others.once y j js);
        missed = λ y j js g. (c1.misses y j js (each_left (λ u. TouchedBy loops body outer u Writes y j js → ⊥) us rest g), others.missed y j js (each_right (λ u. TouchedBy loops body outer u Writes y j js → ⊥) us rest g));
        value =
            ap (λ (g : Effect). look (overwritten a g.writes) x []) h.whole ∙ ap (λ t. look t x []) (overwritten-append a h.one.writes h.two.writes) ∙ others.value;
      }
    where
      set_to : (us : List Vector) (b : State) (m n : ℕ) → Set us b m → b.locals x ≡ Holds n → Set us b n
      set_to us b m n k h = record { locals = k.locals; scalars = k.scalars; elements = k.elements; inside = k.inside; holds = h }

      from : (one : Effect) (q : Option ℕ) (qs : List (Option ℕ)) (seconds : List Effect) (starts : List State) → length starts ≡ suc (length chunks) → Begun w (q ∷ qs) starts
          → ((t : State) → StandsAt x ps outer w t → walk loops body us t ≡ Some one)
          → ((ts : List State) → length ts ≡ length chunks → Begun (combined op w q) qs ts → walks_from loops body ts chunks ≡ map Some seconds)
          → walks_from loops body starts (us ∷ chunks) ≡ map Some (one ∷ seconds)
      from one q qs seconds [] long begun first rest = absurd (omega (arith, long))
      from one q qs seconds (t ∷ ts) long begun first rest =
          let b = begun zero t refl in
          let stands : StandsAt x ps outer w t = subst (λ n. StandsAt x ps outer n t) (sym (same_Some w b.0 b.1)) b.2 in
          λ i. first t stands i ∷ rest ts (omega (arith, long)) (λ c r at. begun (suc c) r at) i

-- an object that none of these effects changes, or one
pub put_together : (y : Variable) (is : List ℕ) (fs : List Effect) (after : Cells) (c total : Option ℕ) (outer : State) → total ≡ acted y is (all_writes y is fs) c → outer.cells y is ≡ c → AllOnce y is fs
    → ((k : ℕ) (f : Effect) → slice_get fs k ≡ Some f → left_by outer f y is ≡ acted y is f.writes (outer.cells y is)) → MergesAt outer fs after y is → after y is ≡ total
put_together y is fs after c total outer whole held once acts (inl none) =
    none.1 ∙ held
    ∙ sym (none_changes y is fs c (slice_each (λ (f : Effect). acted y is f.writes c ≡ c) fs (λ k f at. ap (acted y is f.writes) (sym held) ∙ sym (acts k f at) ∙ none.0 k f at ∙ held)))
    ∙ sym whole
put_together y is fs after c total outer whole held once acts (inr o) =
    let acted_is : left_by outer o.effect y is ≡ acted y is o.effect.writes c = acts o.number o.effect o.among ∙ ap (acted y is o.effect.writes) held in
    o.leaves ∙ acted_is ∙ sym (one_changes y is fs c o.number o.effect once o.among (λ k. o.changes (acted_is ∙ k ∙ sym held))) ∙ sym whole
