-- What is told of the first pair of a body that is not shown: a conflict is one.
use Rattle.std.specs.Prelude.{ℕ, suc, ◌≡◌, ◌<◌, ◌≤◌, ◌^◌, ◌⊎◌, IsTrue, List, [], ◌∷◌, length, map, Option, Some, slice_get, string_bytes}
use Rattle.std.proofs.Common.{refl, sym, inl, inr, ap, ◌∙◌, subst, ⊎_elim, arith}
use Rattle.std.proofs.lemmas.Option.{same_Some}
use Rattle.semantics.specs.Tree.{Stmt, Declaration}
use Rattle.semantics.specs.Loops.Nest.{Loop, Vector, nest_of, iterations}
use Rattle.semantics.specs.Meaning.State.{State}
use Rattle.semantics.specs.Loops.Access.{Conflict, accesses}
use Rattle.semantics.specs.Loops.Access as meant
use Rattle.semantics.specs.Loops.Order.{Distance}
use Rattle.ktree.specs.declared.refusal.Conflict as told
use Rattle.ktree.specs.declared.refusal.NotShown as not_shown
use Rattle.ktree.specs.declared.refusal.Refusal.TheVariants as refusals
use Rattle.nest_loop.specs.declared.head.Canonical.{Canonical}
use Rattle.pairtest_counter.specs.Levels.{Nesting}
use Rattle.affine.specs.declared.interval.Side.{Side}
use Rattle.nest.specs.Perfect.{AreRectangular, HasProduct}
use Rattle.pairtest.specs.declared.access.Access.{Access}
use Rattle.pairtest.specs.declared.access.Mode.TheVariants as found
use Rattle.nest_space.specs.Space.{vectors, IsSpace}
use Rattle.nest_space.specs.Nests.{given, AreRunsOf}
use Rattle.nest_space.specs.Heads.{AreHeadsOf}
use Rattle.nest_space.proofs.Reached.{reached_law, length-reached}
use Rattle.deptest_witness.specs.Touching.{FirstTurns, NestAt, IsEntered, TouchesAt}
use Rattle.deptest_witness.specs.Pairs.{Share, Meet}
use Rattle.pairtest_access.specs.Sites.{Site, Sites}
use Rattle.pairtest_access.specs.Found.{AreMet, IsFound, IsTouched, IsTold, inner_loops}
use Rattle.pairtest_access.specs.declared.told.Touched.{Touched}
use Rattle.deptest_verdict.specs.Shown.{no_loops}
use Rattle.deptest_verdict.specs.Pairs.{IsPair}
use Rattle.deptest_verdict.specs.Refused.{IsNameOf, touch_of, serial_loops, nest_loops, IsFirstOf, IsVerdict}
use Rattle.law_turns.specs.Turns.{AreEntered}
use Rattle.law_turns.proofs.Standing.{nothing_inside}
use Rattle.law_independence.specs.Inside.{HaveShort}
use Rattle.law_independence.specs.ConflictLaws.{first_turns, TouchesFirst, IsBetween, IsToldPair, IsConflictFrom, IsConflict, IsNotFound}
use Rattle.law_independence.proofs.Entered.{entered_loops, serial_are, nest_are, first_are}
use Rattle.law_independence.proofs.Values.{outside_at}
use Rattle.law_independence.proofs.Rectangular.{heads_of}
use Rattle.law_independence.proofs.Few.{run_within_most}
use Rattle.law_independence.proofs.Backward.{first_back, runs_reached}
use Rattle.law_independence.proofs.IndependentNests.{IsBodyThere}
use Rattle.law_independence.proofs.Links.{Link, linked_at, linked}
use Rattle.law_independence.proofs.Outer.{contains_at, Begins}
use Rattle.law_independence.proofs.Pairs.{first_is_pair, site_of}
use Rattle.law_independence.proofs.ConflictBodies.{begun, iterations_known, numbers_differ, touches_back, touches_first, touches_there}

-- as many loops of the text as canonical ones
length-heads : (box : List Side) (hs : List Loop) (ls : List Canonical) → AreHeadsOf box hs ls → length hs ≡ length ls
length-heads box [] [] heads = refl
length-heads box [] (l ∷ ls) heads = absurd heads
length-heads box (h ∷ hs) [] heads = absurd heads
length-heads box (h ∷ hs) (l ∷ ls) heads = ap suc (length-heads box hs ls heads.1)

-- an access of a body that was found, and the definitions' access of its number
record IsMade (ds : List Declaration) (now : Nesting) (body : Stmt) (k : ℕ) (f : Access) (touched : Touched) : Type 0 where
  site : Site
  finds : IsFound (length now.levels) site f
  is : IsTouched (length now.levels) site.round site.subscripts touched
  access : meant.Access
  at : slice_get (accesses [] body) k ≡ Some access
  link : Link ds now site access

made : (ds : List Declaration) (now : Nesting) (body : Stmt) (sites : List Site) (fs : List Access) (k : ℕ) (f : Access) (touched : Touched) → IsBodyThere ds now body → Sites now body sites → AreMet (length now.levels) sites fs
    → slice_get fs k ≡ Some f → IsTrue f.is_counted → IsTold (length now.levels) (slice_get sites k) (Some touched) → IsMade ds now body k f touched
made ds now body sites fs k f touched there are finds at counted is =
    let s = site_of (length now.levels) sites fs k f finds at counted in
    let l = linked_at ds now sites (accesses [] body) k s.0 (linked ds now now [] body sites refl are there.read there.stays) s.1 in
    record {
      site = s.0;
      finds = s.2;
      is = subst (λ (o : Option Site). IsTold (length now.levels) o (Some touched)) s.1 is;
      access = l.0;
      at = l.1;
      link = l.2;
    }

module _ (ds : List Declaration) (serial loops : List Loop) (round now : Nesting) (body : Stmt) (outside : AreEntered no_loops serial round) (entered : AreEntered round loops now)
    (there : IsBodyThere ds now body) where
  module _ (sinks : List Distance) (told : not_shown.NotShown) (p : IsFirstOf ds now (length round.levels) (map (λ v. v.most) (inner_loops 0 round.levels)) sinks body told) where
    abbrev is_pair : IsPair p.one p.other
    is_pair = first_is_pair p.nest sinks p.found p.first p.second p.one p.other p.is p.one_is p.other_is

    abbrev one_made : IsMade ds now body p.first p.one p.one_touched
    one_made = made ds now body p.sites p.found p.first p.one p.one_touched there p.tested.are p.tested.finds p.one_is is_pair.2 p.one_touches

    abbrev other_made : IsMade ds now body p.second p.other p.other_touched
    other_made = made ds now body p.sites p.found p.second p.other p.other_touched there p.tested.are p.tested.finds p.other_is is_pair.3 p.other_touches

    -- the pair that is told
    abbrev told_pair : IsToldPair ds sinks serial loops body told one_made.access other_made.access
    told_pair =
        let here : p.one.array.0 ≡ one_made.access.array = one_made.finds.array ∙ one_made.link.array in
        record {
          round = round;
          now = now;
          outside = outside;
          entered = entered;
          first = p;
          one_is = one_made.at;
          other_is = other_made.at;
          same = sym here ∙ ap (λ a. a.0) is_pair.0 ∙ other_made.finds.array ∙ other_made.link.array;
          name = subst (λ a. IsNameOf ds a (string_bytes told.array)) here p.array;
        }

module _ (ds : List Declaration) (c : told.Conflict) (serial loops : List Loop) (round now : Nesting) (body : Stmt) (outside : AreEntered no_loops serial round) (entered : AreEntered round loops now)
    (ls : List Canonical) (rectangular : AreRectangular round.box loops ls) (there : IsBodyThere ds now body) (n : ℕ) (s : Stmt) (nest : nest_of n s ≡ Some (loops, body)) where
  module _ (region : NestAt) (known : IsEntered (serial_loops (length round.levels) now) (nest_loops (length round.levels) now) region) (k m : ℕ) (f g : Access) (t u : Touched)
      (x : IsMade ds now body k f t) (y : IsMade ds now body m g u) (same : f.array ≡ g.array) (writes : (f.mode ≡ found.Writes) ⊎ (g.mode ≡ found.Writes)) (order : c.earlier < c.later) (from : State) where
    abbrev begins : Begins serial round region.outer from
    begins = begun serial loops round now body outside entered ls rectangular region known from

    -- an access that touches the element in the earlier iteration, and one that does in the later one
    abbrev conflict_of : (p : TouchesAt region (touch_of t) c.earlier c.indexes.items) (q : TouchesAt region (touch_of u) c.later c.indexes.items) → Conflict loops body begins.outer p.vector q.vector
    conflict_of p q =
        let at_first : f.array.0 ≡ x.access.array = x.finds.array ∙ x.link.array in
        let at_second : f.array.0 ≡ y.access.array = ap (λ a. a.0) same ∙ y.finds.array ∙ y.link.array in
        record {
          differ = numbers_differ serial loops round now body outside entered ls rectangular region known from c.earlier c.later p.vector q.vector order p.is q.is;
          element = record { array = f.array.0; indexes = c.indexes.items };
          first = x.access.mode;
          second = y.access.mode;
          one_writes =
              ⊎_elim (λ (e : f.mode ≡ found.Writes). inl (x.link.writes (sym x.finds.mode ∙ e))) (λ (e : g.mode ≡ found.Writes). inr (y.link.writes (sym y.finds.mode ∙ e))) writes;
          by_first =
              touches_there serial loops round now body outside entered ls rectangular region known from ds x.site x.access x.link t x.is c.earlier c.indexes.items p
              (contains_at (accesses [] body) k x.access x.at) f.array.0 at_first;
          by_second =
              touches_there serial loops round now body outside entered ls rectangular region known from ds y.site y.access y.link u y.is c.later c.indexes.items q
              (contains_at (accesses [] body) m y.access y.at) f.array.0 at_second;
        }

    first_touches : (number : ℕ) → TouchesAt region (touch_of t) number c.indexes.items → TouchesFirst loops begins.outer (vectors region.turns) x.access number c.indexes.items
    first_touches number p = touches_first serial loops round now body outside entered ls rectangular region known from ds x.site x.access x.link t x.is number c.indexes.items p

    second_touches : (number : ℕ) → TouchesAt region (touch_of u) number c.indexes.items → TouchesFirst loops begins.outer (vectors region.turns) y.access number c.indexes.items
    second_touches number q = touches_first serial loops round now body outside entered ls rectangular region known from ds y.site y.access y.link u y.is number c.indexes.items q

    -- whichever of the two accesses that are told touches it earlier
    told_so : (one other : meant.Access) → c.later < 64 → (p : TouchesAt region (touch_of t) c.earlier c.indexes.items) (q : TouchesAt region (touch_of u) c.later c.indexes.items)
        → Meet (TouchesFirst loops begins.outer (vectors region.turns) one) (TouchesFirst loops begins.outer (vectors region.turns) other) c.earlier c.later c.indexes.items
        → f.array.0 ≡ one.array → IsBetween one other (conflict_of p q) → IsConflictFrom c serial loops body one other from
    told_so one other searched p q meet array between =
        record {
          outer = begins.outer;
          begins = begins.begins;
          us = vectors region.turns;
          are = iterations_known serial loops round now body outside entered ls rectangular region known from;
          order = order;
          searched = searched;
          meet = meet;
          u = p.vector;
          v = q.vector;
          earlier = p.is;
          later = q.is;
          conflict = conflict_of p q;
          array = array;
          indexes = refl;
          between = between;
        }

    -- the first of them does, or the second
    in_order : c.later < 64 → TouchesAt region (touch_of t) c.earlier c.indexes.items → TouchesAt region (touch_of u) c.later c.indexes.items
        → IsConflictFrom c serial loops body x.access y.access from
    in_order searched p q =
        told_so x.access y.access searched p q (inl (first_touches c.earlier p, second_touches c.later q)) (x.finds.array ∙ x.link.array) (inl (refl, refl))

    turned_round : c.later < 64 → TouchesAt region (touch_of t) c.earlier c.indexes.items → TouchesAt region (touch_of u) c.later c.indexes.items
        → IsConflictFrom c serial loops body y.access x.access from
    turned_round searched p q =
        told_so y.access x.access searched p q (inr (first_touches c.earlier p, second_touches c.later q)) (ap (λ a. a.0) same ∙ y.finds.array ∙ y.link.array) (inr (refl, refl))

  turned : {P Q : Type 0} → P ⊎ Q → Q ⊎ P
  turned (inl p) = inr p
  turned (inr q) = inl q

  -- the verdict on the body, where it is a conflict
  pub verdict_is_conflict : IsVerdict ds now (length round.levels) (map (λ v. v.most) (inner_loops 0 round.levels)) [] body (refusals.Conflict c) → IsConflict ds c serial n s
  verdict_is_conflict (no_sink, p, region, known, first) =
      let pair = is_pair ds serial loops round now body outside entered there [] c.accesses p in
      let x = one_made ds serial loops round now body outside entered there [] c.accesses p in
      let y = other_made ds serial loops round now body outside entered there [] c.accesses p in
      record {
        loops = loops;
        body = body;
        nest = nest;
        one = x.access;
        other = y.access;
        pair = told_pair ds serial loops round now body outside entered there [] c.accesses p;
        each = λ from. ⊎_elim
            (λ (h : Share (TouchesAt region (touch_of p.one_touched)) (TouchesAt region (touch_of p.other_touched)) c.earlier c.later c.indexes.items).
            in_order region known p.first p.second p.one p.other p.one_touched p.other_touched x y pair.0 pair.1 first.order from first.searched h.0 h.1)
            (λ (h : Share (TouchesAt region (touch_of p.other_touched)) (TouchesAt region (touch_of p.one_touched)) c.earlier c.later c.indexes.items
            × ((others : List ℕ) → Share (TouchesAt region (touch_of p.one_touched)) (TouchesAt region (touch_of p.other_touched)) c.earlier c.later others → ⊥)).
            turned_round region known p.second p.first p.other p.one p.other_touched p.one_touched y x (sym pair.0) (turned pair.1) first.order from first.searched h.0.0 h.0.1)
            first.taken;
      }

-- and where none is found
module _ (ds : List Declaration) (sinks : List Distance) (told : not_shown.NotShown) (serial loops : List Loop) (round now : Nesting) (body : Stmt) (outside : AreEntered no_loops serial round)
    (entered : AreEntered round loops now) (ls : List Canonical) (rectangular : AreRectangular round.box loops ls) (there : IsBodyThere ds now body) (n : ℕ) (s : Stmt)
    (nest : nest_of n s ≡ Some (loops, body)) (short : HaveShort ds) (most : ℕ) (product : HasProduct round.box loops most) (few : most ≤ 2 ^ 24) (four : length loops ≤ 4) where
  -- the nest at the first turns of the serial loops
  record IsReached : Type 0 where
    region : NestAt
    known : IsEntered (serial_loops (length round.levels) now) (nest_loops (length round.levels) now) region
    space : IsSpace region.turns

  -- where it has an iteration there
  reached : (from outer : State) (us : List Vector) (number : ℕ) (vector : Vector) → first_turns serial from ≡ Some outer → iterations loops outer ≡ Some us → slice_get us number ≡ Some vector
      → IsReached
  reached from outer us number vector begins are found =
      let cs = entered_loops loops round now entered in
      let heads = heads_of loops round now entered ls rectangular in
      let back = first_back serial no_loops round outside [] from outer (outside_at from) (λ x. nothing_inside x) begins in
      let ran = run_within_most round.box (given back.there) loops cs round.box (given back.there) most heads product back.inside (λ x c. c) (λ x c. refl) in
      let same : us ≡ vectors ran.turns =
      same_Some us (vectors ran.turns) (sym are ∙ reached_law cs (given back.there) ran.turns ran.runs round.box loops outer back.at.counters heads) in
      let runs = runs_reached cs (given back.there) ran.turns number vector ran.runs (subst (λ (ws : List Vector). slice_get ws number ≡ Some vector) same found) in
      let long : length ran.turns ≡ length loops = length-reached cs (given back.there) ran.turns ran.runs ∙ sym (length-heads round.box loops cs heads) in
      let less = ran.few in
      record {
        region = record { outer = back.there; loops = nest_loops (length round.levels) now; turns = ran.turns };
        known = record {
          loops = refl;
          first = subst (λ (gs : List Canonical). FirstTurns gs [] back.there) (sym (serial_are loops round now entered ∙ first_are serial no_loops round outside refl)) back.first;
          runs = subst (λ (gs : List Canonical). AreRunsOf gs (given back.there) ran.turns) (sym (nest_are loops round now entered)) runs;
        };
        space = record { loops = subst (λ k. k ≤ 4) (sym long) four; few = omega arith };
      }

  -- of an access that was found, what it touches in the words of the definitions, by its forms
  by_forms : (region : NestAt) (known : IsEntered (serial_loops (length round.levels) now) (nest_loops (length round.levels) now) region) (from outer : State) (us : List Vector)
      → first_turns serial from ≡ Some outer → iterations loops outer ≡ Some us → (k : ℕ) (f : Access) (t : Touched) (x : IsMade ds now body k f t) (number : ℕ) (indexes : List ℕ)
      → TouchesFirst loops outer us x.access number indexes → TouchesAt region (touch_of t) number indexes
  by_forms region known from outer us begins are k f t x number indexes touches =
      let here = begun serial loops round now body outside entered ls rectangular region known from in
      let same : outer ≡ here.outer = same_Some outer here.outer (sym begins ∙ here.begins) in
      let all = iterations_known serial loops round now body outside entered ls rectangular region known from in
      let vs : us ≡ vectors region.turns = same_Some us (vectors region.turns) (sym are ∙ ap (iterations loops) same ∙ all) in
      touches_back serial loops round now body outside entered ls rectangular region known from ds x.site x.access x.link t x.is short number indexes
      (subst (λ (o : State). TouchesFirst loops o (vectors region.turns) x.access number indexes) same (subst (λ (ws : List Vector). TouchesFirst loops outer ws x.access number indexes) vs touches))

  pub verdict_is_not_found : IsVerdict ds now (length round.levels) (map (λ v. v.most) (inner_loops 0 round.levels)) sinks body (refusals.NotShown told) → IsNotFound ds sinks told serial n s
  verdict_is_not_found (p, never) =
      let x = one_made ds serial loops round now body outside entered there sinks told p in
      let y = other_made ds serial loops round now body outside entered there sinks told p in
      record {
        loops = loops;
        body = body;
        nest = nest;
        one = x.access;
        other = y.access;
        pair = told_pair ds serial loops round now body outside entered there sinks told p;
        never = λ none from outer us begins are u v indexes order searched meet. ⊎_elim
            (λ (h : Share (TouchesFirst loops outer us x.access) (TouchesFirst loops outer us y.access) u v indexes).
            let r = reached from outer us u h.0.vector begins are h.0.is in
            never none r.region r.known r.space u v indexes order searched
            (inl (by_forms r.region r.known from outer us begins are p.first p.one p.one_touched x u indexes h.0, by_forms r.region r.known from outer us begins are p.second p.other p.other_touched y v indexes h.1)))
            (λ (h : Share (TouchesFirst loops outer us y.access) (TouchesFirst loops outer us x.access) u v indexes).
            let r = reached from outer us u h.0.vector begins are h.0.is in
            never none r.region r.known r.space u v indexes order searched
            (inr (by_forms r.region r.known from outer us begins are p.second p.other p.other_touched y u indexes h.0, by_forms r.region r.known from outer us begins are p.first p.one p.one_touched x v indexes h.1)))
            meet;
      }
