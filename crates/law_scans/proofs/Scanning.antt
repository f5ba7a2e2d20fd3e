-- Chunks of a scan, from the state before the loop.
use Rattle.std.specs.Prelude.{ℕ, Bool, true, false, not, ◌≡◌, ◌==◌, ◌&&◌, List, [], ◌∷◌, ◌++◌, Option, Some, None, IsSome}
use Rattle.std.proofs.Common.{refl, sym, ap, ◌∙◌, subst, cond, inl, inr}
use Rattle.std.proofs.Math.Path.{fun_ext}
use Rattle.std.proofs.lemmas.Bool.{true≢false, eqb-true, eq-eqb, or_left, or_right, or_parts}
use Rattle.std.proofs.lemmas.List.Folds.{list_any-append}
use Rattle.semantics.specs.Tree.{Variable, Stmt, Block, Items}
use Rattle.semantics.specs.Meaning.State.{State, Holds, overwritten}
use Rattle.semantics.specs.Meaning.Runs.{Effect, run_items}
use Rattle.semantics.specs.Meaning.Definite.{definite, no_privates}
use Rattle.semantics.specs.Meaning.Agrees.{is_among, declared_among, visible_behind}
use Rattle.semantics.specs.Loops.Nest.{Loop, Vector, nest_of, at_vector}
use Rattle.semantics.specs.Loops.Operator.{ReduceOp}
use Rattle.semantics.specs.Loops.Piece.{Roles}
use Rattle.law_commute.specs.Steady.{IsSteady}
use Rattle.law_commute.specs.Targets.{KeepsApart, AssignsFirst}
use Rattle.law_commute.proofs.Values.{first_of, second_of}
use Rattle.law_nests.proofs.Joined.{nest_declares, visible_more}
use Rattle.law_private.specs.Known.{KnowsMore}
use Rattle.law_private.proofs.More.{more_known}
use Rattle.law_private.proofs.Own.{own_body, others, DeclaresNone, HasReplaced, replaced, KnownInside, known_inside}
use Rattle.law_private.proofs.Chunks.{not_true}
use Rattle.law_roles.specs.Updates.{reduces, operands}
use Rattle.law_roles.specs.Sharing.{role_variables}
use Rattle.law_roles.proofs.Moved.{Moved, moved_look, moved_stmt, moved_walk, moved_at, moved_iterations, moved_conflict}
use Rattle.law_roles.proofs.Joining.{localized, localized_inside, localized_moved}
use Rattle.law_roles.proofs.Chunked.{nest_variables}
use Rattle.law_roles.proofs.Starts.{roles_with}
use Rattle.law_scans.specs.Phases.{joined_items, written_among, input_of, scan_of, spares}
use Rattle.law_scans.specs.Scanning as law
use Rattle.law_scans.specs.Scanning.{whole_of, IsScanned, ScansFrom, TakesInputs}
use Rattle.law_scans.proofs.Phased.{declared_joined, steady_back}
use Rattle.law_scans.proofs.Spared.{items_spare, spared_local}
use Rattle.law_scans.proofs.Inputs.{IsInput, front_input}
use Rattle.law_scans.proofs.Exclusive.{back_input}
use Rattle.law_scans.proofs.Passed.{Scans}
use Rattle.law_scans.proofs.Grounded.{Ground, same_variables, scans_from}
use Rattle.law_scans.proofs.Carried.{scalar_object, carried}

-- ---- the same variables in another list

same_keeps : (xs ys : List Variable) (a : Stmt) → ((y : Variable) → is_among xs y ≡ is_among ys y) → KeepsApart xs a → KeepsApart ys a
same_keeps xs ys a same k = record {
  names = k.names;
  steady = subst (λ (F : Variable → Bool). IsSteady (λ y. visible_behind a y && not (F y)) a) (fun_ext same) k.steady;
}

-- ---- what is known before a nest is known before its body

there_of : {A : Type 0} (o : Option A) (a : A) → o ≡ Some a → IsSome o
there_of o a h = subst (λ q. IsSome q) (sym h) refl

body_first : (ps : List Variable) (n : ℕ) (s : Stmt) (loops : List Loop) (body : Stmt) → nest_of n s ≡ Some (loops, body) → DeclaresNone ps s → AssignsFirst ps s → AssignsFirst ps body
body_first ps n s loops body nest none first =
    let has : HasReplaced body (own_body ps body) n s loops = replaced body (own_body ps body) n s loops nest in
    let k : KnownInside ps body = known_inside ps body n s has.nest loops has.is none (others ps) (λ x h. h) first in
    let more : KnowsMore k.behind (definite no_privates body (others ps)) = more_known.statements no_privates no_privates body k.known k.behind (others ps) (λ line y j. j) k.less k.is in
    there_of (definite no_privates body (others ps)) more.known more.is

-- ---- a scan

module _ (privates lasts : List Variable) (x : Variable) (op : ReduceOp) (inclusive : Bool) (n : ℕ) (s : Stmt) (loops : List Loop) (front back : Items) (outer : State) (chunks : List (List Vector)) (e : Effect)
    (is : IsScanned (roles_with privates lasts ((x, op) ∷ [])) x op inclusive n s loops front back outer chunks e) where
  abbrev roles : Roles
  roles = roles_with privates lasts ((x, op) ∷ [])

  abbrev vars : List Variable
  vars = role_variables roles

  abbrev ps : List Variable
  ps = privates ++ lasts

  abbrev body : Stmt
  body = whole_of front back

  abbrev input : Stmt
  input = law.first_of inclusive front back

  same : (y : Variable) → is_among vars y ≡ is_among (x ∷ ps) y
  same y = same_variables privates lasts x op y

  keeps : KeepsApart (x ∷ ps) body
  keeps = same_keeps vars (x ∷ ps) body same is.keeps.inside

  declares : DeclaresNone (x ∷ ps) s
  declares y h = is.keeps.declares_none y (same y ∙ h)

  none : DeclaresNone (x ∷ ps) body
  none y h = visible_more s body (nest_declares n s loops body is.nest) y (declares y h)

  first : AssignsFirst ps body
  first = body_first ps n s loops body is.nest (λ y h. declares y (or_right (x == y) (is_among ps y) h)) is.keeps.first

  mine : is_among (x ∷ ps) x ≡ true
  mine = or_left (x == x) (is_among ps x) (eq-eqb x x refl)

  -- ---- the phases

  abbrev updated : Bool
  updated = reduces ((x, op) ∷ []) (Block (input_of inclusive front back))

  abbrev untouched : Bool
  untouched = not (is_among (written_among (scan_of inclusive front back)) x)

  updates : updated ≡ true
  updates = first_of updated untouched (first_of (updated && untouched) (spares x front back) (first_of (updated && untouched && spares x front back) (spares x back front) is.keeps.phases))

  only_read : is_among (written_among (scan_of inclusive front back)) x ≡ false
  only_read =
      not_true (is_among (written_among (scan_of inclusive front back)) x)
      (second_of updated untouched (first_of (updated && untouched) (spares x front back) (first_of (updated && untouched && spares x front back) (spares x back front) is.keeps.phases)))

  spared : spares x front back ≡ true
  spared = second_of (updated && untouched) (spares x front back) (first_of (updated && untouched && spares x front back) (spares x back front) is.keeps.phases)

  declared_apart : (is_among (declared_among front) x ≡ false) × (is_among (declared_among back) x ≡ false)
  declared_apart =
      or_parts (is_among (declared_among front) x) (is_among (declared_among back) x)
      (sym (list_any-append (λ z. z == x) (declared_among front) (declared_among back)) ∙ ap (λ ds. is_among ds x) (sym (declared_joined front back)) ∙ not_true (is_among (declared_among (joined_items front back)) x) (none x mine))

  -- ---- from locals

  abbrev inside : State
  inside = localized vars outer

  moved_in : Moved vars outer inside
  moved_in = localized_moved vars outer is.keeps.scalars

  module _ (part : IsInput x op ps body input) where
    scans : Scans x op ps loops body input
    scans = record {
      keeps = keeps;
      declares_none = none;
      apart = is.keeps.apart;
      first = first;
      not_of_loops = nest_variables n s loops body is.nest x (declares x mine);
      part = part;
    }

    ground : Ground privates lasts x op n s loops body input inside is.vectors chunks e
    ground = record {
      nest = is.nest;
      apart = same_keeps vars (x ∷ ps) s same is.keeps.whole;
      scans = scans;
      declares = declares;
      last = is.keeps.last;
      stands = λ y h. localized_inside vars outer y (same y ∙ h);
      locals_alone = λ y h. alone y (is_among vars y) (is.declares y h);
      number = (is.keeps.number.0, sym (moved_look vars outer inside moved_in x []) ∙ is.keeps.number.1, is.keeps.number.2);
      are = sym (moved_iterations vars loops outer inside moved_in) ∙ is.are;
      taken = taken is.taken;
      different = is.different;
      turning = λ u h access there. subst (λ q. IsSome q) (moved_iterations vars access.inner (at_vector loops u outer) (at_vector loops u inside) (moved_at vars loops u outer inside moved_in)) (is.turning u h access there);
      independent = λ u v h k c. is.independent u v h k (moved_conflict vars loops body outer inside moved_in u v c);
      whole = is.whole;
      ran = sym (moved_stmt vars s outer inside moved_in).same ∙ is.ran;
    }
      where
        taken : TakesInputs x op loops input is.vectors outer → TakesInputs x op loops input is.vectors inside
        taken (inl h) = inl h
        taken (inr h) = inr (subst (λ q. IsSome q) (moved_walk vars loops (operands ((x, op) ∷ []) input) is.vectors outer inside moved_in).same h)

        alone : (y : Variable) (b : Bool) → outer.cells y [] ≡ None → cond b None (outer.cells y []) ≡ None
        alone y true h = refl
        alone y false h = h

    pub by_part : ScansFrom roles x op s loops input body chunks outer e
    by_part =
        carried privates lasts x op s loops input body chunks outer inside e moved_in (scalar_object outer x (is.keeps.scalars x (same x ∙ mine))) away is.ran
        (scans_from privates lasts x op n s loops body input inside is.vectors chunks e ground)
      where
        away : (y : Variable) → is_among lasts y ≡ true → (y == x) ≡ false
        away y h = at (y == x) refl
          where
            at : (b : Bool) → (y == x) ≡ b → (y == x) ≡ false
            at true k =
                absurd (true≢false (sym (list_any-append (λ z. z == x) privates lasts ∙ or_right (is_among privates x) (is_among lasts x) (ap (is_among lasts) (sym (eqb-true y x k)) ∙ h)) ∙ is.keeps.apart))
            at false k = k

-- ---- the input phase in front

module _ (privates lasts : List Variable) (x : Variable) (op : ReduceOp) (n : ℕ) (s : Stmt) (loops : List Loop) (front back : Items) (outer : State) (chunks : List (List Vector)) (e : Effect)
    (is : IsScanned (roles_with privates lasts ((x, op) ∷ [])) x op true n s loops front back outer chunks e) where
  stays : (m : ℕ) (t : State) (f : Effect) → run_items back t ≡ Some f → t.locals x ≡ Holds m → (overwritten t f.writes).locals x ≡ Holds m
  stays m t f ran h =
      let k = keeps privates lasts x op true n s loops front back outer chunks e is in
      spared_local x f.writes t
      (items_spare true true refl x back (λ y. visible_behind (whole_of front back) y && not (is_among (x ∷ (privates ++ lasts)) y)) (steady_back front back (λ y. visible_behind (whole_of front back) y && not (is_among (x ∷ (privates ++ lasts)) y)) k.steady)
      (only_read privates lasts x op true n s loops front back outer chunks e is) (declared_apart privates lasts x op true n s loops front back outer chunks e is).1 t f ran)
      ∙ h

  pub inclusive_part : IsInput x op (privates ++ lasts) (whole_of front back) (Block front)
  inclusive_part =
      front_input x op (privates ++ lasts) front back (keeps privates lasts x op true n s loops front back outer chunks e is) (none privates lasts x op true n s loops front back outer chunks e is)
      (first privates lasts x op true n s loops front back outer chunks e is) is.keeps.apart (updates privates lasts x op true n s loops front back outer chunks e is) stays

-- ---- the input phase behind

module _ (privates lasts : List Variable) (x : Variable) (op : ReduceOp) (n : ℕ) (s : Stmt) (loops : List Loop) (front back : Items) (outer : State) (chunks : List (List Vector)) (e : Effect)
    (is : IsScanned (roles_with privates lasts ((x, op) ∷ [])) x op false n s loops front back outer chunks e) where
  pub exclusive_part : IsInput x op (privates ++ lasts) (whole_of front back) (law.first_of false front back)
  exclusive_part =
      back_input x op (privates ++ lasts) front back (keeps privates lasts x op false n s loops front back outer chunks e is) (none privates lasts x op false n s loops front back outer chunks e is)
      (first privates lasts x op false n s loops front back outer chunks e is) (only_read privates lasts x op false n s loops front back outer chunks e is)
      (spared privates lasts x op false n s loops front back outer chunks e is) (updates privates lasts x op false n s loops front back outer chunks e is)

-- no variable of these roles is firstprivate or conditional, and one is reduced
same_roles : (roles : Roles) (x : Variable) (op : ReduceOp) → roles.firsts ≡ [] → roles.conditionals ≡ [] → roles.reductions ≡ (x, op) ∷ [] → roles_with roles.privates roles.lasts ((x, op) ∷ []) ≡ roles
same_roles roles x op firsts conditionals only =
    λ i. record { privates = roles.privates; firsts = sym firsts i; lasts = roles.lasts; conditionals = sym conditionals i; reductions = sym only i }

pub join : law.ScanChunksJoin
join roles x op inclusive n s loops front back outer chunks e is =
    subst (λ r. IsScanned r x op inclusive n s loops front back outer chunks e → ScansFrom r x op s loops (law.first_of inclusive front back) (whole_of front back) chunks outer e)
    (same_roles roles x op is.keeps.no_firsts is.keeps.no_conditionals is.keeps.only) (by_phases inclusive) is
  where
    by_phases : (inclusive : Bool) → IsScanned (roles_with roles.privates roles.lasts ((x, op) ∷ [])) x op inclusive n s loops front back outer chunks e
        → ScansFrom (roles_with roles.privates roles.lasts ((x, op) ∷ [])) x op s loops (law.first_of inclusive front back) (whole_of front back) chunks outer e
    by_phases true scanned = by_part roles.privates roles.lasts x op true n s loops front back outer chunks e scanned (inclusive_part roles.privates roles.lasts x op n s loops front back outer chunks e scanned)
    by_phases false scanned = by_part roles.privates roles.lasts x op false n s loops front back outer chunks e scanned (exclusive_part roles.privates roles.lasts x op n s loops front back outer chunks e scanned)
