-- Where the operands of a scan's body have values at each iteration, those of its input phase alone have them: the scan phase writes nothing that it reads.
use Rattle.std.specs.Prelude.{Bool, true, false, not, ◌≡◌, ◌==◌, ◌&&◌, ◌||◌, List, [], ◌∷◌, Some, IsSome, is_some}
use Rattle.std.proofs.Common.{refl, sym, ap, ◌∙◌, subst}
use Rattle.std.proofs.lemmas.Bool.{or_left, or_parts}
use Rattle.std.proofs.lemmas.List.Folds.{list_any-append}
use Rattle.semantics.specs.Tree.{Variable, Stmt, Block, Items}
use Rattle.semantics.specs.Meaning.State.{State, Holds, overwritten}
use Rattle.semantics.specs.Meaning.Value.{map_option}
use Rattle.semantics.specs.Meaning.Runs.{Effect, nothing, joined, then_from, run, run_items}
use Rattle.semantics.specs.Meaning.Agrees.{is_among, declared_among, visible_behind, names_only}
use Rattle.semantics.specs.Loops.Nest.{Loop, Vector, at_value, at_vector}
use Rattle.semantics.specs.Loops.Operator.{ReduceOp}
use Rattle.law_commute.specs.Steady.{IsSteady, AreSteady}
use Rattle.law_commute.specs.Targets.{KeepsApart}
use Rattle.law_commute.proofs.Matched.{overwritten-append}
use Rattle.law_nests.specs.Walks.{walk, enters}
use Rattle.law_nests.proofs.Nested.{parts_of}
use Rattle.law_private.proofs.Alike.{Both}
use Rattle.law_private.proofs.Chunks.{not_true}
use Rattle.law_roles.specs.Updates.{operands, all_operands}
use Rattle.law_roles.proofs.Operands.{declared_operands, names_operands, steady_operands}
use Rattle.law_scans.specs.Phases.{joined_items, bare, read_among, written_among, keeps_phases}
use Rattle.law_scans.specs.Scanning.{whole_of, first_of}
use Rattle.law_scans.proofs.Exclusive.{tops, names_back, empties, bare_runs, met_bare}
use Rattle.law_scans.proofs.Phased.{runs_joined, declared_joined, names_front, steady_front, steady_back}
use Rattle.law_scans.proofs.Reading.{Meets, meets_less, meets_local, items_same}
use Rattle.law_scans.proofs.Spared.{items_spare, spared_cells, spared_local, kept_kinds, there_stays}
use Rattle.law_scans.proofs.Walking.{split_of, walk_cons}
use Rattle.law_independence.proofs.ScanOperands.{Phases, phase_parts, operands_joined, operands_bare, all_free_operands, all_read_operands}

-- a statement's operands keep apart what it does
pub operands_keep : (rs : List (Variable × ReduceOp)) (xs : List Variable) (a : Stmt) → KeepsApart xs a → KeepsApart xs (operands rs a)
operands_keep rs xs a k = record {
  names = subst (λ (V : Variable → Bool). names_only V (operands rs a) ≡ true) behind (names_operands rs a (visible_behind a) k.names);
  steady = subst (λ (V : Variable → Bool). IsSteady (λ x. V x && not (is_among xs x)) (operands rs a)) behind (steady_operands rs a (λ x. visible_behind a x && not (is_among xs x)) k.steady);
}
  where
    behind : visible_behind a ≡ visible_behind (operands rs a)
    behind = let up : visible_behind (operands rs a) ≡ visible_behind a = λ i x. not (is_among (declared_operands rs a i) x) in sym up

-- ---- walks

module _ (R V : Variable → Bool) where
  -- the loops' variables take the same values in both states
  meets_entered : (loops : List Loop) (u : Vector) (s t : State) → Meets R V s t → Meets R V (at_vector loops u s) (at_vector loops u t)
  meets_entered [] vs s t m = m
  meets_entered (l ∷ ls) [] s t m = m
  meets_entered (l ∷ ls) (v ∷ vs) s t m =
      meets_entered ls vs (at_value s l.variable v) (at_value t l.variable v) (meets_less R V l.variable (at_value s l.variable v) (at_value t l.variable v) (meets_local R V l.variable (Holds v) s t m))

  -- the one has a run wherever the other has one from a state that agrees in what is read, and so they leave them
  abbrev Follows : Stmt → Stmt → Type 0
  Follows whole part = (s t : State) (e : Effect) → Meets R V s t → run whole s ≡ Some e → (f : Effect) × (run part t ≡ Some f) × Meets R V (overwritten s e.writes) (overwritten t f.writes)

  walk_follows : (whole part : Stmt) → Follows whole part → (loops : List Loop) (us : List Vector) (s t : State) (e : Effect) → Meets R V s t → walk loops whole us s ≡ Some e → (f : Effect) × (walk loops part us t ≡ Some f)
  walk_follows whole part follows loops [] s t e m ran = (nothing, refl)
  walk_follows whole part follows loops (u ∷ us) s t e m ran =
      let p = split_of loops whole u us s e ran in
      let one = follows (at_vector loops u s) (at_vector loops u t) p.one (meets_entered loops u s t m) p.one_is in
      let rest = walk_follows whole part follows loops us (overwritten (at_vector loops u s) p.one.writes) (overwritten (at_vector loops u t) one.0.writes) p.two one.2 p.two_is in
      (joined (enters loops u) (joined one.0 rest.0), walk_cons loops part u us t one.0 rest.0 one.1 rest.1)

  meets_self : (s : State) → Meets R V s s
  meets_self s = record { kinds = λ y v. refl; there = λ y is. refl; slots = λ y v r. refl; cells = λ y is r. refl }

  -- behind a phase that writes nothing that is read
  met_behind : (other : Items) (F : Variable → Bool) → AreSteady F other → ((y : Variable) → R y ≡ true → is_among (written_among other) y ≡ false) → ((y : Variable) → V y ≡ true → is_among (declared_among other) y ≡ false)
      → (s t : State) (e : Effect) → Meets R V s t → run_items other s ≡ Some e → Meets R V (overwritten s e.writes) t
  met_behind other F steady free none s t e m ran = record {
    kinds = λ y v. kept_kinds y e.writes s (items_spare true false refl y other F steady refl (none y v) s e ran) ∙ m.kinds y v;
    there = λ y is. there_stays e.writes s y is ∙ m.there y is;
    slots = λ y v r. spared_local y e.writes s (items_spare true true refl y other F steady (free y r) (none y v) s e ran) ∙ m.slots y v r;
    cells = λ y is r. spared_cells y false e.writes s is (items_spare false true refl y other F steady (free y r) refl s e ran) ∙ m.cells y is r;
  }

-- ---- an iteration

module _ (xs : List Variable) (front back : Items) (keeps : KeepsApart xs (Block (joined_items front back))) where
  abbrev V : Variable → Bool
  V = visible_behind (Block (joined_items front back))

  abbrev F : Variable → Bool
  F y = visible_behind (Block (joined_items front back)) y && not (is_among xs y)

  declared_parts : (y : Variable) → V y ≡ true → (is_among (declared_among front) y ≡ false) × (is_among (declared_among back) y ≡ false)
  declared_parts y h =
      or_parts (is_among (declared_among front) y) (is_among (declared_among back) y)
      (sym (list_any-append (λ z. z == y) (declared_among front) (declared_among back)) ∙ ap (λ ds. is_among ds y) (sym (declared_joined front back)) ∙ not_true (is_among (declared_among (joined_items front back)) y) h)

  -- the phase in front, without the one behind it
  front_follows : ((y : Variable) → is_among (read_among front) y ≡ true → is_among (written_among back) y ≡ false) → Follows (is_among (read_among front)) V (Block (joined_items front back)) (Block front)
  front_follows free s t e m ran =
      let R : Variable → Bool = is_among (read_among front) in
      let p = parts_of s (run_items front s) (run_items back) e (sym (runs_joined front back s) ∙ ran) in
      let s1 : State = overwritten s p.one.writes in
      let t1 : State = overwritten t p.one.writes in
      let both : Both (Meets R V) s t (run_items front s) (run_items front t) = items_same R front V (names_front front back V keeps.names) (λ y k. k) s t m in
      let after : Meets R V (overwritten s1 p.two.writes) t1 = met_behind R V back F (steady_back front back F keeps.steady) free (λ y v. (declared_parts y v).1) s1 t1 p.two (both.left p.one p.one_is) p.two_is in
      let end : overwritten s1 p.two.writes ≡ overwritten s e.writes = sym (overwritten-append s p.one.writes p.two.writes) ∙ ap (λ (g : Effect). overwritten s g.writes) p.is in
      (p.one, sym both.same ∙ p.one_is, subst (λ u. Meets R V u t1) end after)

  -- the phase behind, with the declarations alone of the one in front
  back_follows : ((y : Variable) → is_among (read_among back) y ≡ true → is_among (written_among front) y ≡ false) → Follows (is_among (read_among back)) V (Block (joined_items front back)) (Block (joined_items (bare front) back))
  back_follows free s t e m ran =
      let R : Variable → Bool = is_among (read_among back) in
      let W : Variable → Bool = λ y. V y || is_among (tops front) y in
      let b : Effect = record { writes = empties (tops front); text = [] } in
      let p = parts_of s (run_items front s) (run_items back) e (sym (runs_joined front back s) ∙ ran) in
      let s1 : State = overwritten s p.one.writes in
      let t1 : State = overwritten t (empties (tops front)) in
      let met : Meets R W s1 t1 = met_bare R V F front (steady_front front back F keeps.steady) free (λ y v. (declared_parts y v).0) s t p.one m p.one_is in
      let both : Both (Meets R W) s1 t1 (run_items back s1) (run_items back t1) = items_same R back W (names_back front back V keeps.names) (λ y k. k) s1 t1 met in
      let two : run_items back t1 ≡ Some p.two = sym both.same ∙ p.two_is in
      let after : Meets R V (overwritten s1 p.two.writes) (overwritten t1 p.two.writes) = less R (overwritten s1 p.two.writes) (overwritten t1 p.two.writes) (both.left p.two p.two_is) in
      let end : overwritten s1 p.two.writes ≡ overwritten s e.writes = sym (overwritten-append s p.one.writes p.two.writes) ∙ ap (λ (g : Effect). overwritten s g.writes) p.is in
      let other : overwritten t1 p.two.writes ≡ overwritten t (joined b p.two).writes = sym (overwritten-append t (empties (tops front)) p.two.writes) in (
        joined b p.two,
        runs_joined (bare front) back t ∙ ap (λ o. then_from t o (run_items back)) (bare_runs front t) ∙ ap (map_option (joined b)) two,
        subst (λ u. Meets R V (overwritten s e.writes) u) other (subst (λ u. Meets R V u (overwritten t1 p.two.writes)) end after),
      )
    where
      less : (R : Variable → Bool) (u v : State) → Meets R (λ y. V y || is_among (tops front) y) u v → Meets R V u v
      less R u v k = record {
        kinds = λ y h. k.kinds y (or_left (V y) (is_among (tops front) y) h);
        there = k.there;
        slots = λ y h r. k.slots y (or_left (V y) (is_among (tops front) y) h) r;
        cells = k.cells;
      }

-- ---- the input phase

-- where the operands of both phases have a walk, those of the input phase have one
pub input_walks : (x : Variable) (op : ReduceOp) (inclusive : Bool) (front back : Items) (xs : List Variable) → KeepsApart xs (whole_of front back) → keeps_phases x op inclusive front back ≡ true
    → (loops : List Loop) (us : List Vector) (s : State) (e : Effect) → walk loops (operands ((x, op) ∷ []) (whole_of front back)) us s ≡ Some e → IsSome (walk loops (operands ((x, op) ∷ []) (first_of inclusive front back)) us s)
input_walks x op inclusive front back xs keeps phases loops us s e ran = by inclusive (phase_parts x op inclusive front back phases)
  where
    front' : Items
    front' = all_operands ((x, op) ∷ []) front

    back' : Items
    back' = all_operands ((x, op) ∷ []) back

    by : (inclusive : Bool) → Phases x op inclusive front back → IsSome (walk loops (operands ((x, op) ∷ []) (first_of inclusive front back)) us s)
    by true parts =
        let same : operands ((x, op) ∷ []) (whole_of front back) ≡ Block (joined_items front' back) = ap Block (operands_joined ((x, op) ∷ []) front back ∙ ap (joined_items front') (all_free_operands x op back parts.untouched)) in
        let keeps' : KeepsApart xs (Block (joined_items front' back)) = subst (KeepsApart xs) same (operands_keep ((x, op) ∷ []) xs (whole_of front back) keeps) in
        let follows = front_follows xs front' back keeps' (λ y r. parts.free y (all_read_operands ((x, op) ∷ []) y front r)) in
        ap is_some (walk_follows (is_among (read_among front')) (visible_behind (Block (joined_items front' back))) (Block (joined_items front' back)) (Block front') follows loops us s s e
        (meets_self (is_among (read_among front')) (visible_behind (Block (joined_items front' back))) s) (ap (λ b. walk loops b us s) (sym same) ∙ ran)).1
    by false parts =
        let same : operands ((x, op) ∷ []) (whole_of front back) ≡ Block (joined_items front back') =
        ap Block (operands_joined ((x, op) ∷ []) front back ∙ ap (λ (items : Items). joined_items items back') (all_free_operands x op front parts.untouched)) in
        let part : operands ((x, op) ∷ []) (first_of false front back) ≡ Block (joined_items (bare front) back') =
        ap Block (operands_joined ((x, op) ∷ []) (bare front) back ∙ ap (λ (items : Items). joined_items items back') (operands_bare ((x, op) ∷ []) front)) in
        let keeps' : KeepsApart xs (Block (joined_items front back')) = subst (KeepsApart xs) same (operands_keep ((x, op) ∷ []) xs (whole_of front back) keeps) in
        let follows = back_follows xs front back' keeps' (λ y r. parts.free y (all_read_operands ((x, op) ∷ []) y back r)) in
        let V : Variable → Bool = visible_behind (Block (joined_items front back')) in
        let went = walk_follows (is_among (read_among back')) V (Block (joined_items front back')) (Block (joined_items (bare front) back')) follows loops us s s e
        (meets_self (is_among (read_among back')) V s) (ap (λ b. walk loops b us s) (sym same) ∙ ran) in
        ap is_some (ap (λ b. walk loops b us s) part ∙ went.1)
