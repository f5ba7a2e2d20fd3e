-- A scan whose accesses stay inside and which reads what is known has a run with the operands of its input phase in place of their updates. (C11 6.5.13 and 6.5.14; OpenMP 5.2, 5.6)
use Rattle.std.specs.Prelude.{ℕ, zero, suc, Bool, true, false, ◌≡◌, ◌==◌, ◌&&◌, ℤ, List, [], ◌∷◌, Option, Some, None}
use Rattle.std.proofs.Common.{sym, ap, ◌∙◌, subst}
use Rattle.std.proofs.lemmas.Bool.{or_parts}
use Rattle.std.proofs.lemmas.Option.{same_Some, none-some}
use Rattle.semantics.specs.Tree.{Variable, Stmt, For, Items, no_items, mark, local, stmt, Declaration}
use Rattle.semantics.specs.Source.Token.{Token}
use Rattle.semantics.specs.Source.Scope.{Scope, AVariable}
use Rattle.semantics.specs.Source.Statements.{ReadsStmt, for_loop, block, ReadsItems, no_more, line, empty_local, first_local, statement}
use Rattle.semantics.specs.Meaning.State.{State}
use Rattle.semantics.specs.Meaning.Runs.{Effect, run, run_items}
use Rattle.semantics.specs.Meaning.Definite.{DefinitelyAssigned, known_with, may_take, declared_known, no_privates, definite, definite_items}
use Rattle.semantics.specs.Meaning.Agrees.{names_source}
use Rattle.semantics.specs.Loops.Nest.{Loop, nest_of}
use Rattle.semantics.specs.Loops.Operator.{ReduceOp}
use Rattle.semantics.proofs.EraseTokenLaw.{first_of, second_of}
use Rattle.affine.specs.declared.interval.Side.{Side}
use Rattle.nest_loop.specs.Canonical.{stepped, assigns, assigns_among}
use Rattle.nest_loop.specs.Loops.{inside}
use Rattle.nest_loop.proofs.Heads.{head_of}
use Rattle.nest.specs.Nests.{Has, Have, StaysInside}
use Rattle.law_nests.proofs.Joined.{first_loop}
use Rattle.law_roles.specs.Updates.{is_plain, reduces, all_reduce, operands, all_operands}
use Rattle.law_runs.proofs.Going.{Ran, ran_nothing, ran_then}
use Rattle.law_runs.proofs.Growing.{loop_known_is, grows, known_below, visible_behind}
use Rattle.law_runs.proofs.Loops.{loop_ran}
use Rattle.law_runs.proofs.Operands.{operand_loop, all_plain_reduce, all_plain_operands}
use Rattle.law_runs.proofs.Points.{rises, IsBehind, IsPoint, point_later, point_behind, allowed, and_then}
use Rattle.law_runs.proofs.StatementsRun.{Keeps, AllKeep, keeps_inside, empty_goes, value_goes, declared_below, stmt_goes, items_go}
use Rattle.law_runs.proofs.Values.{HaveShort, source_there}
use Rattle.law_scans.specs.Phases.{joined_items}
use Rattle.law_scans.specs.Scanning.{whole_of}
use Rattle.law_independence.proofs.ScanOperands.{Phases, operands_joined, all_free_operands}

module _ (ds : List Declaration) (short : HaveShort ds) where
  -- a run behind which this is known, at the same turn
  abbrev Goes : List Side → (Variable → ℤ) → DefinitelyAssigned → State → Option Effect → Type 0
  Goes box w k s o = Ran ds (IsBehind ds box w k) s o

  -- ---- the phases, each with operators of its own

  module _ (fs bs : List (Variable × ReduceOp)) where
    joined_go : (front back : Items) → all_reduce fs front ≡ true → all_reduce bs back ≡ true → (box : List Side) (w : Variable → ℤ) {scope : Scope} {o next next' : ℕ} {ts : List Token} → ReadsItems scope o next ts (joined_items front back) next' → (k k' : DefinitelyAssigned) (s : State)
        → Have (StaysInside ds) box (joined_items front back) → AllKeep box (joined_items front back) → IsPoint ds box w scope next k s → definite_items no_privates [] (joined_items front back) k ≡ Some k'
        → Goes box w k' s (run_items (joined_items (all_operands fs front) (all_operands bs back)) s)
    joined_go no_items back red rest_red box w r k k' s h kept at d = items_go ds short bs box w r k k' s h kept rest_red at d
    joined_go (mark n rest) back red rest_red box w (line r) k k' s h kept at d = joined_go rest back red rest_red box w r k k' s h kept at d
    joined_go (local x name None rest) back red rest_red box w {scope} {next = next} (empty_local free r) k k' s h kept at d =
        ran_then (run_items (joined_items (all_operands fs rest) (all_operands bs back))) (empty_goes ds box w k s at)
        (λ t l q. joined_go rest back (second_of (is_plain fs next && true) (all_reduce fs rest) red) rest_red box w r (known_with k next false) k' t h.1 kept
        (point_behind ds box w scope name next k (known_with k next false) s t at l (declared_below ds false k s at) q.behind q.up) d)
    joined_go (local x name (Some e) rest) back red rest_red box w {scope} {next = next} (first_local free re r) k k' s h kept at d =
        let first = and_then (definite_items no_privates [] (joined_items rest back)) (declared_known k next (Some e)) k' d in
        let ok = allowed (may_take k e) (known_with k next true) first.0 first.1 in
        let d' = ap (definite_items no_privates [] (joined_items rest back)) ok.1 ∙ first.2 in
        let v = source_there ds short ((name, AVariable next 0) ∷ scope) (tt, at.small) s at.good box w at.here.turn k at.here.known re ok.0 h.0 in
        ran_then (run_items (joined_items (all_operands fs rest) (all_operands bs back))) (value_goes ds box w e k s at v)
        (λ t l q. joined_go rest back (second_of (is_plain fs next && names_source (is_plain fs) e) (all_reduce fs rest) red) rest_red box w r (known_with k next true) k' t h.1 kept
        (point_behind ds box w scope name next k (known_with k next true) s t at l (declared_below ds true k s at) q.behind q.up) d')
    joined_go (stmt a rest) back red rest_red box w {scope} {next = next} (statement {next' = middle} ra r) k k' s h kept at d =
        let first = and_then (definite_items no_privates [] (joined_items rest back)) (definite no_privates a k) k' d in
        let up = rises ra in
        let below = known_below next middle k first.0 up at.below.known (grows ra k first.0 at.below.visible first.1) in
        ran_then (run_items (joined_items (all_operands fs rest) (all_operands bs back)))
        (stmt_goes ds short fs box w ra k first.0 s h.0 (λ y q. (or_parts (assigns y a) (assigns_among y (joined_items rest back)) (kept y q)).0) (first_of (reduces fs a) (all_reduce fs rest) red) at first.1)
        (λ t l q. joined_go rest back (second_of (reduces fs a) (all_reduce fs rest) red) rest_red box w r first.0 k' t h.1 (λ y q. (or_parts (assigns y a) (assigns_among y (joined_items rest back)) (kept y q)).1)
        (point_later ds box w scope next middle k first.0 s t at up l below q) first.2)

  -- ---- the body

  body_goes : (x : Variable) (op : ReduceOp) (inclusive : Bool) (front back : Items) → Phases x op inclusive front back → (box : List Side) (w : Variable → ℤ) {scope : Scope} {o next next' : ℕ} {ts : List Token} → ReadsStmt scope o next ts (whole_of front back) next' → (k k' : DefinitelyAssigned) (s : State)
      → Has (StaysInside ds) box (whole_of front back) → Keeps box (whole_of front back) → IsPoint ds box w scope next k s → definite no_privates (whole_of front back) k ≡ Some k' → Goes box w k' s (run (operands ((x, op) ∷ []) (whole_of front back)) s)
  body_goes x op true front back parts box w (block less r) k k' s h kept at d =
      let same = operands_joined ((x, op) ∷ []) front back ∙ ap (joined_items (all_operands ((x, op) ∷ []) front)) (all_free_operands x op back parts.untouched ∙ sym (all_plain_operands back)) in
      subst (λ (items : Items). Goes box w k' s (run_items items s)) (sym same) (joined_go ((x, op) ∷ []) [] front back parts.updates (all_plain_reduce back) box w r k k' s h kept at d)
  body_goes x op false front back parts box w (block less r) k k' s h kept at d =
      let same = operands_joined ((x, op) ∷ []) front back ∙ ap (λ (items : Items). joined_items items (all_operands ((x, op) ∷ []) back)) (all_free_operands x op front parts.untouched ∙ sym (all_plain_operands front)) in
      subst (λ (items : Items). Goes box w k' s (run_items items s)) (sym same) (joined_go [] ((x, op) ∷ []) front back (all_plain_reduce front) parts.updates box w r k k' s h kept at d)

  -- ---- the nest

  module _ (x : Variable) (op : ReduceOp) (inclusive : Bool) (front back : Items) (parts : Phases x op inclusive front back) where
    abbrev rs : List (Variable × ReduceOp)
    rs = (x, op) ∷ []

    abbrev body : Stmt
    body = whole_of front back

    pub nest_goes : (n : ℕ) (loops : List Loop) (box : List Side) (w : Variable → ℤ) {scope : Scope} {o next next' : ℕ} {ts : List Token} {s : Stmt} → ReadsStmt scope o next ts s next' → nest_of n s ≡ Some (loops, body) → (k k' : DefinitelyAssigned) (t : State)
        → Has (StaysInside ds) box s → Keeps box s → IsPoint ds box w scope next k t → definite no_privates s k ≡ Some k' → Goes box w k' t (run (operands rs s) t)
    nest_goes zero loops box w {scope} {o} {next} {next'} {ts} {s} r is k k' t h kept at d =
        let same : body ≡ s = ap (λ (p : List Loop × Stmt). p.1) (sym (same_Some ([], s) (loops, body) is)) in
        subst (λ (a : Stmt). ReadsStmt scope o next ts a next' → Has (StaysInside ds) box a → Keeps box a → definite no_privates a k ≡ Some k' → Goes box w k' t (run (operands rs a) t)) same
        (λ r' h' kept' d'. body_goes x op inclusive front back parts box w r' k k' t h' kept' at d') r h kept d
    nest_goes (suc n) loops box w {scope} (for_loop {next = next} {name = name} {start = start} {test = test} {step = step} {body = b} less free rs' rt ru r) is k k' t h kept at d =
        let first = first_loop n (For next name start test step b) loops body is in
        let same : b ≡ first.inside = ap (λ (p : Loop × Stmt). p.1) (same_Some (record { variable = next; start = start; test = test; step = step }, b) (first.loop, first.inside) first.is) in
        let known = loop_known_is next name start test step b k k' d in
        let l = h.0 in
        let i = h.1 in
        let loop = operand_loop rs box next start test step b l i h.2 in
        let growing = grows r (known_with k next true) known.after (visible_behind scope name next at.below.visible) known.inside in
        subst (λ q. Goes box w q t (run (For next name start test step (operands rs b)) t)) known.same
        (loop_ran ds box w scope name next start test step (operands rs b) l i loop (head_of box next start test step l loop.form) k known.after t at ru growing.more
        (λ v u at'. nest_goes n first.loops (inside box next i) v r (ap (nest_of n) same ∙ first.rest) (known_with k next true) known.after u h.3
        (keeps_inside box next i b (λ y q. (or_parts (stepped step == y) (assigns y b) (kept y q)).1) h.2.kept) at' known.inside))
    nest_goes (suc n) loops box w (block less (statement {s = a} ra no_more)) is k k' t h kept at d =
        let known = and_then (λ after. Some after) (definite no_privates a k) k' d in
        ran_then (run_items no_items) (nest_goes (suc n) loops box w ra is k k' t h.0 (λ y q. (or_parts (assigns y a) false (kept y q)).0) at (known.1 ∙ known.2))
        (λ u l q. ran_nothing ds (IsBehind ds box w k') u q)
    nest_goes (suc n) loops box w _ is k k' t h kept at d = absurd (none-some (loops, body) is)
