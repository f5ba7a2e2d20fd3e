-- What is known of a doacross nest before its waves, and of a scan before its passes, gives their other orders.
use Rattle.std.specs.Prelude.{ℕ, true, ◌≡◌, ◌⊎◌, List, [], ◌∷◌, Option, Some, None}
use Rattle.std.proofs.Common.{refl, sym, ap, ◌∙◌, subst, inl, inr}
use Rattle.std.proofs.lemmas.List.{append-nil}
use Rattle.std.proofs.lemmas.Option.{same_Some}
use Rattle.semantics.specs.Tree.{Variable, Stmt, Declaration}
use Rattle.semantics.specs.Meaning.Agrees.{is_among}
use Rattle.semantics.specs.Loops.Nest.{Loop, Vector, iterations}
use Rattle.semantics.specs.Loops.Operator.{ReduceOp}
use Rattle.semantics.specs.Loops.Order.{Distance}
use Rattle.semantics.specs.Loops.Piece.{Roles}
use Rattle.semantics.specs.Theorems.{CommutesInScan}
use Rattle.law_commute.specs.Targets.{targets_outside}
use Rattle.law_scans.specs.Scanning.{whole_of, IsScanned}
use Rattle.flow.specs.Phases.{HasPhases}
use Rattle.flow.specs.Roles.{LineData, left_roles}
use Rattle.deptest_verdict.specs.Shown.{IsShownLoop}
use Rattle.law_orders.proofs.Ordered.{doacross_commute}
use Rattle.law_orders.proofs.Scanned.{scan_nests_commute}
use Rattle.law_independence.specs.Said.{LinesInside, listed}
use Rattle.law_independence.specs.OrderLaws.{used_roles}
use Rattle.law_independence.proofs.JudgedNests.{nest_is_scanned}
use Rattle.law_doacross.proofs.Waved.{nest_is_doacross}
use Rattle.law_doacross.proofs.WavedKernels.{IsAccepted, each_has}
use Rattle.law_reordered.specs.Reordered.{WhereReached, NestCommutesBy, ScanCommutesBy, AcceptedNestsCommute, AcceptedScansCommute}

same_sole : (cs : List (Variable × ReduceOp)) (a b : Variable × ReduceOp) → cs ≡ a ∷ [] → cs ≡ b ∷ [] → a ≡ b
same_sole cs a b e f = cc (e, f)

module _ (ds : List Declaration) (R : LineData) (P : LinesInside) (line : ℕ) (serial : List Loop) (n : ℕ) (s : Stmt) (its : IsAccepted ds R P line serial n s) where
  abbrev used : Roles
  used = used_roles s (left_roles (R line))

  nest_commutes : NestCommutesBy R P line serial n s
  nest_commutes sinks said loops body outer us e is turn alone at are ran =
      doacross_commute used sinks n s loops body outer us e
      (nest_is_doacross ds serial its.round n s its.short its.entered its.read its.stays its.stmt (R line) its.kept sinks (subst (λ o. IsShownLoop its.round (listed o) n s) said its.shown) (its.suits sinks said)
      loops body outer us e is turn alone at are ran)

  abbrev Commutes : Variable → Type 0
  Commutes x = WhereReached used (λ loop outer us. CommutesInScan loop x outer us) serial n s

  -- a scan in one chunk
  by_phases : (P line).sinks ≡ None → (phases : HasPhases (R line) (P line).phases n s) → is_among (targets_outside s) phases.variable ≡ true → Commutes phases.variable
  by_phases no_sinks phases target loops body outer us e is turn alone at are ran =
      subst (λ (p : List Loop × Stmt). CommutesInScan (record { loops = p.0; body = p.1; roles = used }) phases.variable outer us) same
      (subst (λ (vs : List Vector). CommutesInScan (record { loops = phases.loops; body = whole_of phases.front phases.back; roles = used }) phases.variable outer vs) vectors
      (scan_nests_commute used phases.variable phases.operator phases.inclusive n s phases.loops phases.front phases.back outer (us ∷ []) e scanned))
    where
      same : ◌≡◌ {A = List Loop × Stmt} (phases.loops, whole_of phases.front phases.back) (loops, body)
      same = same_Some (phases.loops, whole_of phases.front phases.back) (loops, body) (sym phases.nest ∙ is)

      here : iterations phases.loops outer ≡ Some us
      here = subst (λ (p : List Loop × Stmt). iterations p.0 outer ≡ Some us) (sym same) are

      scanned : IsScanned used phases.variable phases.operator phases.inclusive n s phases.loops phases.front phases.back outer (us ∷ []) e
      scanned =
          nest_is_scanned ds serial its.round n s its.short its.entered its.read its.stays its.stmt (R line) its.kept (subst (λ o. IsShownLoop its.round (listed o) n s) no_sinks its.shown)
          (P line).phases phases target outer us (us ∷ []) e turn alone at here (append-nil us) ran

      vectors : scanned.vectors ≡ us
      vectors = same_Some scanned.vectors us (sym scanned.are ∙ here)

  scan_commutes : ScanCommutesBy R P line serial n s
  scan_commutes x op sole target = by (P line).sinks refl
    where
      one : (no_sinks : (P line).sinks ≡ None) → ((R line).carried ≡ []) ⊎ HasPhases (R line) (P line).phases n s → Commutes x
      one no_sinks (inl none) = absurd (cc (none, sole))
      one no_sinks (inr phases) =
          let same : phases.variable ≡ x = ap (λ (r : Variable × ReduceOp). r.0) (same_sole (R line).carried (phases.variable, phases.operator) (x, op) phases.sole sole) in
          subst Commutes same (by_phases no_sinks phases (subst (λ y. is_among (targets_outside s) y ≡ true) (sym same) target))

      by : (o : Option (List Distance)) → (P line).sinks ≡ o → Commutes x
      by None said = one said its.phased
      by (Some sinks) said = absurd (cc ((its.suits sinks said).none_carried, sole))

pub accepted_nests : AcceptedNestsCommute
accepted_nests text k R P = each_has (NestCommutesBy R P) text k R P (nest_commutes k.variables R P)

pub accepted_scans : AcceptedScansCommute
accepted_scans text k R P = each_has (ScanCommutesBy R P) text k R P (scan_commutes k.variables R P)
