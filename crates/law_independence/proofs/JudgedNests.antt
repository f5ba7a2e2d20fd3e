-- Nests without sinks, by what their lines say of their data and of their phases.
use Rattle.std.specs.Prelude.{ℕ, Bool, None, is_none, true, false, not, ◌≡◌, ◌⊎◌, ◌==◌, ◌||◌, List, [], ◌∷◌, ◌++◌, length, map, if◌then◌else◌, Some, Option, IsSome}
use Rattle.std.specs.List.{list_all}
use Rattle.std.proofs.Common.{refl, sym, ap, ◌∙◌, subst, inl, inr}
use Rattle.std.proofs.lemmas.Bool.{true≢false, and_from, eqb-true, eq-eqb}
use Rattle.std.proofs.lemmas.List.{append-nil}
use Rattle.std.proofs.lemmas.Option.{same_Some}
use Rattle.semantics.specs.Tree.{Variable, Stmt, Declaration}
use Rattle.semantics.specs.Meaning.Agrees.{is_among}
use Rattle.semantics.specs.Meaning.Definite.{no_privates, definite}
use Rattle.semantics.specs.Loops.Nest.{Loop}
use Rattle.semantics.specs.Loops.Operator.{ReduceOp}
use Rattle.semantics.specs.Loops.Piece.{Roles}
use Rattle.pairtest_counter.specs.Levels.{Nesting}
use Rattle.nest.specs.Nests.{Has, StaysInside}
use Rattle.pairtest_access.specs.Found.{inner_loops}
use Rattle.flow.specs.Private.{is_private_body}
use Rattle.flow.specs.Phases.{PhasesSaid, HasPhases}
use Rattle.flow.specs.Roles.{LoopData, left_roles, KeepsItsRoles}
use Rattle.deptest_verdict.specs.Shown.{IsShownLoop, no_loops}
use Rattle.law_turns.specs.Turns.{AreEntered}
use Rattle.law_commute.specs.Targets.{targets_outside}
use Rattle.law_roles.specs.Updates.{is_plain, reduces}
use Rattle.law_roles.specs.Reducing.{takes_all}
use Rattle.law_roles.specs.Sharing.{assigned_first, role_variables, are_different, AssignsAll}
use Rattle.law_scans.proofs.Scanning.{join}
use Rattle.law_independence.specs.Inside.{LoopsAreRead, HaveShort}
use Rattle.law_independence.specs.Said.{SaidInside}
use Rattle.law_independence.specs.IndependenceLaws.{IsIndependentNest}
use Rattle.law_independence.specs.OrderLaws.{used_roles, TakesAtTurns, SharesInChunks, ScansInChunks, SharesAsNest}
use Rattle.law_independence.proofs.IndependentNests.{shown_loops_are_independent}
use Rattle.law_independence.proofs.ReorderedBodies.{IsStmtRead, IsNestRead, nest_read}
use Rattle.law_independence.proofs.ReorderedNests.{assigned, leaves_others, have_turns, steps_are_read, iterates, takes_updated, in_chunks}
use Rattle.law_independence.proofs.RoleNests.{used_updates, used_apart}
use Rattle.law_independence.proofs.ScanNests.{IsScannedAtTurns, is_scanned}
use Rattle.law_independence.proofs.ScanTaken.{takes_scanned}

-- ---- what is left

-- of a loop that carries nothing
nothing_carried : (d : LoopData) → d.carried ≡ [] → left_roles d ≡ d.roles
nothing_carried d none = ap (λ rs. record d.roles { reductions = rs }) (ap (λ (cs : List (Variable × ReduceOp)). d.roles.reductions ++ cs) none ∙ append-nil d.roles.reductions)

-- the roles of a scan
abbrev scan_roles : LoopData → Variable → ReduceOp → Roles
scan_roles d x op = record d.roles { reductions = (x, op) ∷ [] }

one_carried : (d : LoopData) (x : Variable) (op : ReduceOp) → d.carried ≡ (x, op) ∷ [] → d.roles.reductions ≡ [] → left_roles d ≡ scan_roles d x op
one_carried d x op sole alone = ap (λ rs. record d.roles { reductions = rs }) (ap (λ (rs : List (Variable × ReduceOp)). rs ++ d.carried) alone ∙ sole)

-- a variable that is none of these is apart from them
plain_each : (x : Variable) (op : ReduceOp) (xs : List Variable) → is_among xs x ≡ false → list_all (is_plain ((x, op) ∷ [])) xs ≡ true
plain_each x op [] h = refl
plain_each x op (y ∷ xs) h = and_from (is_plain ((x, op) ∷ []) y) (list_all (is_plain ((x, op) ∷ [])) xs) (go (y == x) refl (x == y) refl h) (plain_each x op xs (rest (y == x) h))
  where
    rest : (b : Bool) → (b || is_among xs x) ≡ false → is_among xs x ≡ false
    rest true q = absurd (true≢false q)
    rest false q = q

    go : (b : Bool) → (y == x) ≡ b → (c : Bool) → (x == y) ≡ c → (b || is_among xs x) ≡ false → is_none (if c then Some op else None) ≡ true
    go true e c f q = absurd (true≢false q)
    go false e true f q = absurd (true≢false (sym (eq-eqb y x (sym (eqb-true x y f))) ∙ e))
    go false e false f q = refl

-- ---- a nest

module _ (ds : List Declaration) (around : List Loop) (round : Nesting) (n : ℕ) (s : Stmt) (short : HaveShort ds) (entered : AreEntered no_loops around round) (there : LoopsAreRead round.box s) (stays : Has (StaysInside ds) round.box s)
    (stmt : IsStmtRead ds round.box s) (d : LoopData) (kept : KeepsItsRoles d n s) (shown : IsShownLoop round [] n s) where
  abbrev outer : ℕ
  outer = length round.levels

  abbrev serial : List ℕ
  serial = map (λ v. v.most) (inner_loops 0 round.levels)

  found : IsNestRead ds round outer serial n s
  found = nest_read n ds round outer serial s shown (record { read = there; stays = stays }) stmt

  body_is : kept.body ≡ found.nest.body
  body_is = ap (λ (p : List Loop × Stmt). p.1) (same_Some (kept.loops, kept.body) (found.nest.loops, found.nest.body) (sym kept.nest ∙ found.nest.is))

  private : is_private_body (role_variables (left_roles d)) found.nest.body ≡ true
  private = subst (λ b. is_private_body (role_variables (left_roles d)) b ≡ true) body_is kept.keeps

  last : (d.roles.lasts ≡ [] → ⊥) → AssignsAll (assigned_first d.roles) d.roles.lasts found.nest.body
  last some = subst (λ b. AssignsAll (assigned_first d.roles) d.roles.lasts b) body_is (kept.last some)

  independent : IsIndependentNest around n s
  independent = shown_loops_are_independent ds around round n s short entered there stays shown

  abbrev used : Roles
  used = used_roles s (left_roles d)

  -- a loop that carries nothing
  updates : d.carried ≡ [] → reduces used.reductions s ≡ true
  updates none = used_updates s (left_roles d) (subst (λ (roles : Roles). reduces roles.reductions s ≡ true) (sym (nothing_carried d none)) kept.updates)

  plain_shares : d.carried ≡ [] → SharesInChunks used around n s
  plain_shares none =
      let same = sym (nothing_carried d none) in
      in_chunks ds short round outer serial n s found stmt stays (left_roles d) private
      (subst (λ (roles : Roles). are_different (map (λ r. r.0) roles.reductions) ≡ true) same kept.different)
      (subst (λ (roles : Roles). list_all (is_plain roles.reductions) (assigned_first roles) ≡ true) same kept.apart)
      (subst (λ (roles : Roles). IsSome (definite no_privates s (λ x. not (is_among (assigned_first roles) x)))) same kept.first)
      (subst (λ (roles : Roles). (roles.lasts ≡ [] → ⊥) → AssignsAll (assigned_first roles) roles.lasts found.nest.body) same last)
      (updates none) around entered independent

  -- a scan: its variable alone is reduced where it is assigned, and else none is
  scan_reduces : (said : Option PhasesSaid) (its : HasPhases d said n s) (b : Bool) → is_among (targets_outside s) its.variable ≡ b → used.reductions ≡ (if b then (its.variable, its.operator) ∷ [] else [])
  scan_reduces said its b target =
      ap (λ (roles : Roles). (used_roles s roles).reductions) (one_carried d its.variable its.operator its.sole its.alone) ∙ ap (λ b. if b then (its.variable, its.operator) ∷ [] else []) target

  -- no private or lastprivate variable is reduced
  left_apart : (said : Option PhasesSaid) → HasPhases d said n s → list_all (is_plain (left_roles d).reductions) (assigned_first (left_roles d)) ≡ true
  left_apart said its =
      subst (λ (roles : Roles). list_all (is_plain roles.reductions) (assigned_first roles) ≡ true) (sym (one_carried d its.variable its.operator its.sole its.alone)) (plain_each its.variable its.operator (assigned_first d.roles) its.plain)

  pub nest_is_scanned : (said : Option PhasesSaid) (its : HasPhases d said n s) → is_among (targets_outside s) its.variable ≡ true
      → IsScannedAtTurns used its.variable its.operator its.inclusive n s its.loops its.front its.back around
  nest_is_scanned said its target =
      let back = sym (one_carried d its.variable its.operator its.sole its.alone) in
      is_scanned ds short round outer serial n s found stmt stays (left_roles d) private
      (subst (λ (roles : Roles). are_different (map (λ r. r.0) roles.reductions) ≡ true) back refl) (left_apart said its)
      (subst (λ (roles : Roles). IsSome (definite no_privates s (λ y. not (is_among (assigned_first roles) y)))) back kept.first)
      (subst (λ (roles : Roles). (roles.lasts ≡ [] → ⊥) → AssignsAll (assigned_first roles) roles.lasts found.nest.body) back last)
      around entered independent its.variable its.operator its.inclusive its.front its.back its.loops (scan_reduces said its true target) its.nest its.keeps

  scanned : (said : Option PhasesSaid) (its : HasPhases d said n s) → is_among (targets_outside s) its.variable ≡ true → ScansInChunks said its.variable its.operator used around n s
  scanned said its target =
      record {
        only = scan_reduces said its true target;
        apart = used_apart s (left_roles d) (left_apart said its);
        inclusive = its.inclusive;
        front = its.front;
        back = its.back;
        told = its.told;
        loops = its.loops;
        nest = its.nest;
        passes = λ outside us chunks e turn alone at are all ran.
            join used its.variable its.operator its.inclusive n s its.loops its.front its.back outside chunks e (nest_is_scanned said its target outside us chunks e turn alone at are all ran);
      }

  sole_same : (a b : Variable × ReduceOp) → (d.carried ≡ a ∷ []) → (d.carried ≡ b ∷ []) → a ≡ b
  sole_same a b e f = cc (e, f)

  pub loop_shares : (said : SaidInside) → said.sinks ≡ None → (d.carried ≡ []) ⊎ HasPhases d said.phases n s → SharesAsNest ds d said around n s
  loop_shares said no_sinks phases =
      record {
        nest = independent.0;
        round = have_turns ds short round outer serial n s found stmt stays (left_roles d) private around entered;
        steps = steps_are_read ds short round outer serial n s found stmt stays (left_roles d) private around entered;
        assigned = assigned ds short round outer serial n s found stmt stays (left_roles d) private;
        there = iterates ds short round outer serial n s found stmt stays (left_roles d) private around entered;
        leaves = leaves_others ds short round outer serial n s found stmt stays (left_roles d) private;
        takes = takes phases;
        phases = phases;
        shares = λ none no_sinks. plain_shares none;
        scans = λ x op sole target. scans phases x op sole target;
        waves = λ sinks doacross. absurd (cc (no_sinks, doacross));
      }
    where
      takes : (d.carried ≡ []) ⊎ HasPhases d said.phases n s → TakesAtTurns ds used around s
      takes (inl none) = takes_updated ds short round outer serial n s found stmt stays (left_roles d) private around entered (updates none)
      takes (inr its) = at (is_among (targets_outside s) its.variable) refl
        where
          at : (b : Bool) → is_among (targets_outside s) its.variable ≡ b → TakesAtTurns ds used around s
          at true target =
              takes_scanned ds short round outer serial n s found stmt stays (left_roles d) private around entered its.variable its.operator its.inclusive its.front its.back its.loops its.nest its.keeps (scan_reduces said.phases its true target)
          at false other = λ scope order next next' tokens known outside reads turn met determined. inl (ap takes_all (scan_reduces said.phases its false other))

      scans : (d.carried ≡ []) ⊎ HasPhases d said.phases n s → (x : Variable) (op : ReduceOp) → d.carried ≡ (x, op) ∷ [] → is_among (targets_outside s) x ≡ true → ScansInChunks said.phases x op used around n s
      scans (inl none) x op sole target = absurd (cc (none, sole))
      scans (inr its) x op sole target =
          let same = sole_same (x, op) (its.variable, its.operator) sole its.sole in
          subst (λ (r : Variable × ReduceOp). ScansInChunks said.phases r.0 r.1 used around n s) (sym same)
          (scanned said.phases its (subst (λ (r : Variable × ReduceOp). is_among (targets_outside s) r.0 ≡ true) same target))
