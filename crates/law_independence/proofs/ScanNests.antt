-- A scan that is shown to be independent is one that may be run in two passes.
use Rattle.std.specs.Prelude.{ℕ, Bool, true, false, not, ◌≡◌, ◌==◌, ◌||◌, List, [], ◌∷◌, map, flat_map, Option, Some, None, IsSome, is_none}
use Rattle.std.specs.List.{list_all}
use Rattle.std.proofs.Common.{refl, sym, ap, ◌∙◌, subst, cond, inl, inr}
use Rattle.std.proofs.lemmas.Bool.{true≢false, eqb-true, eq-eqb}
use Rattle.semantics.specs.Tree.{Variable, Stmt, Items, Declaration}
use Rattle.semantics.specs.Meaning.State.{State}
use Rattle.semantics.specs.Meaning.Runs.{Effect, run}
use Rattle.semantics.specs.Meaning.Agrees.{is_among}
use Rattle.semantics.specs.Meaning.Definite.{no_privates, definite}
use Rattle.semantics.specs.Loops.Nest.{Loop, Vector, nest_of, iterations}
use Rattle.semantics.specs.Loops.Operator.{ReduceOp}
use Rattle.semantics.specs.Loops.Piece.{Roles}
use Rattle.semantics.specs.Theorems.{IsTurn}
use Rattle.pairtest_counter.specs.Levels.{Nesting}
use Rattle.nest.specs.Nests.{Has, StaysInside}
use Rattle.flow.specs.Private.{is_private_body}
use Rattle.deptest_verdict.specs.Shown.{no_loops}
use Rattle.law_turns.specs.Turns.{AreEntered}
use Rattle.law_commute.specs.Targets.{KeepsApart}
use Rattle.law_commute.specs.Joining.{DeclaresLocals, plain_loop}
use Rattle.law_commute.proofs.Values.{first_of, second_of}
use Rattle.law_roles.specs.Updates.{operator_of, is_plain, operands}
use Rattle.law_roles.specs.Sharing.{assigned_first, role_variables, are_different, AssignsAll, TakesOperands}
use Rattle.law_roles.proofs.Followed.{walked}
use Rattle.law_roles.proofs.Operands.{nest_operands}
use Rattle.law_scans.specs.Phases.{keeps_phases}
use Rattle.law_scans.specs.Scanning as scan
use Rattle.law_scans.specs.Scanning.{whole_of, TakesInputs, IsScanned}
use Rattle.law_independence.specs.Inside.{HaveShort}
use Rattle.law_independence.specs.IndependenceLaws.{IsIndependentNest}
use Rattle.law_independence.specs.OrderLaws.{used_roles, AreAtHand}
use Rattle.law_independence.proofs.PrivateNests.{nest_first}
use Rattle.law_independence.proofs.ReorderedBodies.{IsStmtRead, IsNestRead}
use Rattle.law_independence.proofs.ReorderedNests.{used_assigned, nest_keeps_apart, inside_keeps_apart, first_used, last_assigned, same_nest, ready}
use Rattle.law_independence.proofs.RoleNests.{used_apart}
use Rattle.law_independence.proofs.ScanWalks.{operands_keep, input_walks}
use Rattle.law_independence.proofs.Targeted.{outside_visible}

-- a variable that is reduced is none of these
apart_of : (rs : List (Variable × ReduceOp)) (x : Variable) (op : ReduceOp) (xs : List Variable) → operator_of rs x ≡ Some op → list_all (is_plain rs) xs ≡ true → is_among xs x ≡ false
apart_of rs x op [] is h = refl
apart_of rs x op (y ∷ xs) is h = at (y == x) refl (apart_of rs x op xs is (second_of (is_plain rs y) (list_all (is_plain rs) xs) h))
  where
    at : (b : Bool) → (y == x) ≡ b → is_among xs x ≡ false → ((y == x) || is_among xs x) ≡ false
    at true e rest = absurd (true≢false (sym (sym (ap (is_plain rs) (eqb-true y x e)) ∙ first_of (is_plain rs y) (list_all (is_plain rs) xs) h) ∙ ap is_none is))
    at false e rest = ap (λ b. b || is_among xs x) e ∙ rest

some_run : (o : Option Effect) → IsSome o → (e : Effect) × (o ≡ Some e)
some_run None h = absurd (true≢false (sym h))
some_run (Some e) h = (e, refl)

-- wherever a nest of two phases has a run at a turn, and its variables are at hand, it is a scan, whatever the chunks of its iterations
abbrev pub IsScannedAtTurns : Roles → Variable → ReduceOp → Bool → ℕ → Stmt → List Loop → Items → Items → List Loop → Type 0
IsScannedAtTurns roles x op inclusive n s loops front back serial =
    (outer : State) (us : List Vector) (chunks : List (List Vector)) (e : Effect)
    → IsTurn serial outer → DeclaresLocals s outer → AreAtHand roles s outer → iterations loops outer ≡ Some us → flat_map (λ vs. vs) chunks ≡ us → run s outer ≡ Some e
    → IsScanned roles x op inclusive n s loops front back outer chunks e

module _ (ds : List Declaration) (short : HaveShort ds) (round : Nesting) (outer : ℕ) (serial : List ℕ) (n : ℕ) (s : Stmt) (found : IsNestRead ds round outer serial n s) (stmt : IsStmtRead ds round.box s) (stays : Has (StaysInside ds) round.box s)
    (roles : Roles) (private : is_private_body (role_variables roles) found.nest.body ≡ true)
    (different : are_different (map (λ r. r.0) roles.reductions) ≡ true) (apart : list_all (is_plain roles.reductions) (assigned_first roles) ≡ true) (first : IsSome (definite no_privates s (λ x. not (is_among (assigned_first roles) x))))
    (last : (roles.lasts ≡ [] → ⊥) → AssignsAll (assigned_first roles) roles.lasts found.nest.body) where
  abbrev used : Roles
  used = used_roles s roles

  abbrev xs : List Variable
  xs = role_variables used

  pub is_scanned : (around : List Loop) → AreEntered no_loops around round → IsIndependentNest around n s → (x : Variable) (op : ReduceOp) (inclusive : Bool) (front back : Items) (loops : List Loop) → used.reductions ≡ (x, op) ∷ []
      → nest_of n s ≡ Some (loops, whole_of front back) → keeps_phases x op inclusive front back ≡ true → IsScannedAtTurns used x op inclusive n s loops front back around
  is_scanned around entered independent x op inclusive front back loops only is phases outside us chunks e turn alone at are all ran =
      let reduced : operator_of used.reductions x ≡ Some op = ap (λ rs. operator_of rs x) only ∙ ap (λ b. cond b (Some op) None) (eq-eqb x x refl) in
      let r = ready ds short round outer serial n s found stmt stays roles private around entered loops (whole_of front back) outside us is turn are in
      record {
        nest = is;
        keeps = record {
          no_firsts = refl;
          no_conditionals = refl;
          only = only;
          whole = nest_keeps_apart ds short round outer serial n s found stmt stays roles private;
          inside = inside;
          declares_none = λ y h. outside_visible s y (used_assigned ds short round outer serial n s found stmt stays roles private y h);
          scalars = at.scalars;
          apart = apart_of used.reductions x op (assigned_first used) reduced (used_apart s roles apart);
          first = nest_first (assigned_first roles) (assigned_first used) s (first_used ds short round outer serial n s found stmt stays roles private different apart first last) first;
          last = same_nest ds short round outer serial n s found stmt stays roles private (λ ls b. AssignsAll (assigned_first used) used.lasts b) loops (whole_of front back) is (last_assigned ds short round outer serial n s found stmt stays roles private different apart first last);
          phases = phases;
          number = at.numbers x op reduced;
        };
        declares = alone;
        vectors = us;
        are = are;
        taken = taken outside us are (subst (λ (rs : List (Variable × ReduceOp)). TakesOperands rs s outside) only at.taken);
        different = r.differ;
        turning = r.turn;
        independent = λ u v in_u in_v. independent.1 (plain_loop loops (whole_of front back)) is outside us u v turn are in_u in_v;
        whole = all;
        ran = ran;
      }
    where
      inside : KeepsApart xs (whole_of front back)
      inside = same_nest ds short round outer serial n s found stmt stays roles private (λ ls b. KeepsApart xs b) loops (whole_of front back) is (inside_keeps_apart ds short round outer serial n s found stmt stays roles private)

      -- where the operands of the nest have values, those of its input phases have them
      taken : (t : State) (vs : List Vector) → iterations loops t ≡ Some vs → TakesOperands ((x, op) ∷ []) s t → TakesInputs x op loops (scan.first_of inclusive front back) vs t
      taken t vs are' (inl all) = inl all
      taken t vs are' (inr some) =
          let rs : List (Variable × ReduceOp) = (x, op) ∷ [] in
          let ran = some_run (run (operands rs s) t) some in
          let went = walked n (operands rs s) loops (operands rs (whole_of front back)) xs t vs ran.0 (nest_operands rs n s loops (whole_of front back) is) (operands_keep rs xs s (nest_keeps_apart ds short round outer serial n s found stmt stays roles private)) are' ran.1 in
          inr (input_walks x op inclusive front back xs inside phases loops vs t went.effect went.ran)
