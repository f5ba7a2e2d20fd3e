-- Outlines made of parts that are made right.
use Rattle.std.specs.Prelude.{filter, ℕ, zero, suc, Bool, true, false, ◌≡◌, ◌+◌, ◌<◌, ◌≤◌, ◌==◌, List, [], ◌∷◌, ◌++◌, length, map, take, Option, Some, None, All, Contains, option_and_then}
use Rattle.std.proofs.Common.{Vec, Box, Bor, Global, refl, sym, ap, ◌∙◌, subst, cond, arith, get_or, append-nil}
use Rattle.std.proofs.lemmas.Bool.{eqb-true}
use Rattle.std.proofs.lemmas.List.{take_more, take_all}
use Rattle.std.proofs.lemmas.List.Elements.{Contains-append_left, Contains-append_right}
use Rattle.std.proofs.lemmas.Option.{same_Some, none-some}
use Rattle.semantics.specs.Tree
use Rattle.semantics.specs.Tree.{Variable, Stmt}
use Rattle.semantics.specs.Loops.Operator.{ReduceOp}
use Rattle.semantics.specs.Loops.Piece.{Roles}
use Rattle.semantics.specs.Source.Text.{line_at}
use Rattle.semantics.specs.Meaning.State.{State}
use Rattle.semantics.specs.Meaning.Value.{holds, by_test, map_option}
use Rattle.semantics.specs.Meaning.Agrees.{is_among, declared_in, declared_among}
use Rattle.semantics.specs.Meaning.Runs.{Effect, nothing, joined, then_from, declared, incremented, turns, greatest_trip_count, run, run_items}
use Rattle.semantics.specs.Loops.Nest.{Loop, as_loop, nest_of}
use Rattle.semantics.proofs.EraseTokenLaw.{second_of}
use Rattle.ktree.specs.View.{source_of, start_of, cond_of, increment_of, stmt_of, items_of, with_item}
use Rattle.ktree.specs.declared.place.Place.{Place}
use Rattle.ktree.specs.declared.expression.Cond as trees
use Rattle.ktree.specs.declared.statement.Head.{Head}
use Rattle.ktree.specs.declared.statement.Item.{Item, Directive, Local, Statement'}
use Rattle.ktree.specs.declared.statement.Stmt as statements
use Rattle.affine.specs.declared.interval.Side.{Side}
use Rattle.affine_expr.specs.Forms.{is_counter}
use Rattle.nest_loop.specs.declared.head.Canonical.{Canonical}
use Rattle.nest_space.specs.Heads.{AreHeadsOf}
use Rattle.nest.specs.Heads.{head_of}
use Rattle.nest.specs.Perfect.{AreRectangular}
use Rattle.pragma.specs.Clauses.{ReadsLoop}
use Rattle.pragma.specs.Parallel.{associated, LineHas}
use Rattle.pragma.specs.Views.{scheduled}
use Rattle.pragma.proofs.LoopLaw.{read_once}
use Rattle.flow.specs.Phases.{PhasesSaid, item_count}
use Rattle.flow.specs.Roles.{LoopData, LineData, left_roles, ItemsHaveBy}
use Rattle.flow_reduction.specs.Reduced.{reduced}
use Rattle.flow.specs.Parallel.{AreRolesOf}
use Rattle.flow.specs.declared.environment.LoopRoles.{LoopRoles}
use Rattle.outline.specs.declared.handing.Loops.{Loops}
use Rattle.law_commute.specs.Targets.{targets_outside}
use Rattle.law_scans.specs.Phases.{input_of}
use Rattle.law_scans.specs.Scanning.{whole_of, first_of}
use Rattle.law_independence.specs.Said.{SaidInside, LinesInside}
use Rattle.law_independence.specs.OrderLaws.{AreStepsRead, HasStepsRead, SharesAsNest, used_roles}
use Rattle.law_ranges.specs.Spaces.{RunsFewAtTurns}
use Rattle.law_apart.specs.Apart.{apart_items, apart_behind, handed}
use Rattle.lower_code.specs.declared.laid.Laid.{Laid}
use Rattle.lower_machine.specs.declared.term.Test.{Test}
use Rattle.lower_code.specs.Meaning.{AreLocals, MeansTest}
use Rattle.lower_code.proofs.Whole.{locals_left, locals_right}
use Rattle.lower_block.specs.declared.tree.Compiled.{Compiled}
use Rattle.lower_run.specs.Walk.{Performs}
use Rattle.lower.specs.Roles.{StandEach, AreReduced, AreRolesAt}
use Rattle.lower.specs.declared.roles.LoweredRoles.{LoweredRoles}
use Rattle.lower.specs.declared.lowered.LoweredLoop.{LoweredLoop}
use Rattle.lower.specs.Lowered.{IsLoweredFrom}
use Rattle.outline.specs.declared.shape.LoweredHead.{LoweredHead}
use Rattle.outline.specs.declared.shape.TeamLoop.{TeamLoop}
use Rattle.outline.specs.declared.shape.Way.{Way}
use Rattle.outline.specs.declared.shape.Way.TheVariants.{Chunks, Scan, Waves, Alone}
use Rattle.outline.specs.declared.shape.Outline.{Outline, Serial, Team, If, For, Block}
use Rattle.outline.specs.declared.shape.OutlineItem.{OutlineItem, Plain, Statement}
use Rattle.outline.specs.Fit.{AllFit, HeadFits, ScanFits, WayFits, TeamFits}
use Rattle.outline.specs.Given.{IsRound, ArePrivateLocals, IsGiven}
use Rattle.outline.specs.Handed.{IsOfText, AreOfText, inside_told, IsBodyCode, IsLowered, IsFirstHanded, IsWay, IsHanded, roles_of}
use Rattle.pragma.specs.Plain.{has_line}
use Rattle.outline.specs.Made.{line_of, loop_with, IsInside, run_behind, items_behind, KnownBy, KnownBehind, ItemKnown, IsMade, IsMadeItem, AreMade}
use Rattle.outline.specs.View.{roles_in, performed, item_performed, items_performed}
use Rattle.outline.proofs.Assigned.{among_left}
use Rattle.outline.proofs.Blocks.{block_performed, block_fits}
use Rattle.outline.proofs.Phased.{first_performs}
use Rattle.outline.proofs.Whole.{whole}

-- ---- nests

loop_locals : (s : Stmt) (l : Loop) (b : Stmt) → as_loop s ≡ Some (l, b) → declared_in s ≡ l.variable ∷ declared_in b
loop_locals (Tree.Assign x is e) l b h = absurd (none-some (l, b) h)
loop_locals (Tree.Update x is op e) l b h = absurd (none-some (l, b) h)
loop_locals (Tree.If c a) l b h = absurd (none-some (l, b) h)
loop_locals (Tree.IfElse c a d) l b h = absurd (none-some (l, b) h)
loop_locals (Tree.Print parts) l b h = absurd (none-some (l, b) h)
loop_locals (Tree.For x name start test step inner) l b h =
    let e = same_Some (record { variable = x; start = start; test = test; step = step }, inner) (l, b) h in
    ap (λ (p : Loop × Stmt). p.0.variable ∷ declared_in p.1) e
loop_locals (Tree.Block Tree.no_items) l b h = absurd (none-some (l, b) h)
loop_locals (Tree.Block (Tree.mark line rest)) l b h = absurd (none-some (l, b) h)
loop_locals (Tree.Block (Tree.local x name start rest)) l b h = absurd (none-some (l, b) h)
loop_locals (Tree.Block (Tree.stmt a (Tree.mark line rest))) l b h = absurd (none-some (l, b) h)
loop_locals (Tree.Block (Tree.stmt a (Tree.local x name start rest))) l b h = absurd (none-some (l, b) h)
loop_locals (Tree.Block (Tree.stmt a (Tree.stmt c rest))) l b h = absurd (none-some (l, b) h)
loop_locals (Tree.Block (Tree.stmt a Tree.no_items)) l b h = append-nil (declared_in a) ∙ loop_locals a l b h

abbrev with_loop : Loop → List Loop × Stmt → List Loop × Stmt
with_loop l q = (l ∷ q.0, q.1)

abbrev inside_loop : ℕ → Loop × Stmt → Option (List Loop × Stmt)
inside_loop n found = map_option (with_loop found.0) (nest_of n found.1)

-- what a nest declares: its loops' variables, and what its body does
nest_locals : (n : ℕ) (s : Stmt) (loops : List Loop) (body : Stmt) → nest_of n s ≡ Some (loops, body) → declared_in s ≡ map (λ l. l.variable) loops ++ declared_in body
nest_locals zero s loops body h = let e = same_Some ([], s) (loops, body) h in ap (λ (p : List Loop × Stmt). map (λ l. l.variable) p.0 ++ declared_in p.1) e
nest_locals (suc n) s loops body h = at (as_loop s) refl h (λ b hs c k. nest_locals n b hs c k)
  where
    inner : (l : Loop) (b : Stmt) (o : Option (List Loop × Stmt)) → map_option (with_loop l) o ≡ Some (loops, body) → declared_in s ≡ l.variable ∷ declared_in b
        → ((hs : List Loop) (c : Stmt) → o ≡ Some (hs, c) → declared_in b ≡ map (λ l. l.variable) hs ++ declared_in c) → declared_in s ≡ map (λ l. l.variable) loops ++ declared_in body
    inner l b None k e rest = absurd (none-some (loops, body) k)
    inner l b (Some (hs, c)) k e rest =
        e ∙ ap (λ xs. l.variable ∷ xs) (rest hs c refl) ∙ ap (λ (p : List Loop × Stmt). map (λ l. l.variable) p.0 ++ declared_in p.1) (same_Some (l ∷ hs, c) (loops, body) k)

    at : (o : Option (Loop × Stmt)) → as_loop s ≡ o → option_and_then (inside_loop n) o ≡ Some (loops, body)
        → ((b : Stmt) (hs : List Loop) (c : Stmt) → nest_of n b ≡ Some (hs, c) → declared_in b ≡ map (λ l. l.variable) hs ++ declared_in c) → declared_in s ≡ map (λ l. l.variable) loops ++ declared_in body
    at None e k rest = absurd (none-some (loops, body) k)
    at (Some (l, b)) e k rest = inner l b (nest_of n b) k (loop_locals s l b e) (λ hs c m. rest b hs c m)

-- canonical loops whose steps are the grammar's
heads_of : (box : List Side) (hs : List Loop) (ls : List Canonical) → AreRectangular box hs ls → AreStepsRead hs → AreHeadsOf box hs ls
heads_of box [] [] r s = tt
heads_of box [] (l ∷ ls) r s = absurd r
heads_of box (h ∷ hs) [] r s = absurd r
heads_of box (h ∷ hs) (l ∷ ls) r s =
    (record { scope = s.0.scope; order = s.0.order; tokens = s.0.tokens; small = s.0.small; reads = s.0.reads; is = r.0; other = r.1 }, heads_of box hs ls r.2 s.1)

-- a nest has one body
same_nest : (n : ℕ) (s : Stmt) (p q : List Loop × Stmt) → nest_of n s ≡ Some p → nest_of n s ≡ Some q → p ≡ q
same_nest n s p q one two = same_Some p q (sym one ∙ two)

-- a line's phases are said once
same_phases : (o : Option PhasesSaid) (p q : PhasesSaid) → o ≡ Some p → o ≡ Some q → p ≡ q
same_phases o p q one two = same_Some p q (sym one ∙ two)

-- one of a list
pub of_all : {A : Type 0} (P : A → Type 0) (xs : List A) (x : A) → All P xs → Contains xs x → P x
of_all P xs x all c = subst P c.2 (all c.0 x c.1)

module _ (layout : List Laid) (mark : ℕ) (loops : Loops) where
  -- ---- code alone

  pub serial_made : (box : List Side) (code : Compiled) (s : Bor statements.Stmt) → has_line (stmt_of s.now) ≡ false → (AreLocals layout mark (declared_in (stmt_of s.now)) → Performs layout mark (run (stmt_of s.now)) code)
      → IsMade layout mark loops box None (stmt_of s.now) (Serial code s)
  serial_made box code s none code_fits = record { performs = λ R serial. sym (whole (stmt_of s.now) R serial none); fits = λ text ds R P serial given shares all. code_fits all }

  -- ---- a loop for a team

  -- the variables with a role are those that the line gives
  roles_by_line : (roles : LoopRoles) (R : LineData) (line : ℕ) (s : Stmt) (ls : LoweredRoles) → AreRolesOf (R line) roles → AreRolesAt layout mark (used_roles s (roles_of roles)) ls → AreRolesAt layout mark (used_roles s (left_roles (R line))) ls
  roles_by_line roles R line s ls e at = record {
    reductions = subst (λ rs. AreReduced layout mark (filter (λ r. is_among (targets_outside s) r.0) rs) ls.reductions.items) reduces at.reductions;
    lasts = subst (λ xs. StandEach layout mark (filter (is_among (targets_outside s)) xs) ls.lasts.items) e.lasts at.lasts;
  }
    where
      reduces : (roles_of roles).reductions ≡ (left_roles (R line)).reductions
      reduces = ap (λ rs. rs ++ reduced roles.carried.items) e.reductions ∙ ap (λ (cs : List (Variable × ReduceOp)). (R line).roles.reductions ++ cs) e.carried

  body_performs : (n : ℕ) (s : Stmt) (loops : List Loop) (body : Stmt) (code : Compiled) → nest_of n s ≡ Some (loops, body) → IsBodyCode layout mark n s code → AreLocals layout mark (declared_in body) → Performs layout mark (run body) code
  body_performs n s loops body code nest h =
      subst (λ (p : List Loop × Stmt). AreLocals layout mark (declared_in p.1) → Performs layout mark (run p.1) code) (same_nest n s (h.is.0, h.body) (loops, body) h.is.1 nest) h.performs

  body_locals : (n : ℕ) (s : Stmt) (loops : List Loop) (body : Stmt) → nest_of n s ≡ Some (loops, body) → AreLocals layout mark (declared_in s) → AreLocals layout mark (map (λ q. q.variable) loops ++ declared_in body)
  body_locals n s loops body nest all = subst (AreLocals layout mark) (nest_locals n s loops body nest) all

  -- a nest inside serial loops, lowered with code that does what this statement does
  lowered_from : (box : List Side) (serial : List Loop) (roles : Roles) (n : ℕ) (s : Stmt) (kept : LoopRoles) (l : LoweredLoop) → IsLowered layout mark box n s kept l → IsRound mark serial box → HasStepsRead n s → AreLocals layout mark (declared_in s)
      → AreRolesAt layout mark roles l.roles → (loops : List Loop) (body statement : Stmt) → nest_of n s ≡ Some (loops, body) → Performs layout mark (run statement) l.body → IsLoweredFrom layout mark box roles loops statement l
  lowered_from box serial roles n s kept l h round steps all at loops body statement nest performs = record {
    around = λ x. (λ is. h.around.each x (round x is).0 is, λ among. h.around.only x among);
    few = h.few;
    heads = heads_of box loops l.loops.items (subst (λ (p : List Loop × Stmt). AreRectangular box p.0 l.loops.items) (same_nest n s (h.loops, h.body) (loops, body) h.nest nest) h.heads) (steps loops body nest);
    own = locals_left layout mark (map (λ q. q.variable) loops) (declared_in body) (body_locals n s loops body nest all);
    body = performs;
    roles_at = at;
  }

  -- what the first pass of a scan runs, and the whole
  module _ (box : List Side) (serial : List Loop) (roles : Roles) (ds : List Tree.Declaration) (d : LoopData) (said : SaidInside) (n : ℕ) (s : Stmt) (kept : LoopRoles) where
    scan_fits : (nested : SharesAsNest ds d said serial n s) (inside : LinesInside) (line : ℕ) (first second : LoweredLoop) → said ≡ inside line → reduced kept.carried.items ≡ d.carried → IsRound mark serial box → AreLocals layout mark (declared_in s)
        → ((ls : LoweredRoles) → AreRolesAt layout mark (used_roles s (roles_of kept)) ls → AreRolesAt layout mark roles ls) → IsLowered layout mark box n s kept second → IsBodyCode layout mark n s second.body
        → IsFirstHanded layout mark box inside line n s kept first → ScanFits layout mark box roles ds d said serial n s nested first second
    scan_fits nested inside line first second same carried round all at lowered body w =
        let c = w.carries in
        let sole = sym carried ∙ c.sole in
        let its = nested.scans c.variable c.operator sole c.assigned in
        let whole = whole_of its.front its.back in
        let told = same_phases said.phases (w.inclusive, w.count) (its.inclusive, item_count its.front) (ap (λ (q : SaidInside). q.phases) same ∙ w.told) its.told in
        let body_is = ap (λ (p : List Loop × Stmt). p.1) (same_nest n s (w.input.1.0, w.input.0) (its.loops, whole) w.input.1.1 its.nest) in
        let part = w.input.2 its.front its.back body_is (sym (ap (λ (p : PhasesSaid). p.1) told)) in
        let there = part ∙ ap (λ (p : PhasesSaid). input_of p.0 its.front its.back) told in
        let locals = locals_right layout mark (map (λ q. q.variable) its.loops) (declared_in whole) (body_locals n s its.loops whole its.nest all) in
        record {
          variable = c.variable;
          operator = c.operator;
          sole = sole;
          assigned = c.assigned;
          first = lowered_from box serial roles n s kept first w.lowered round nested.steps all (at first.roles w.lowered.roles) its.loops whole (first_of its.inclusive its.front its.back) its.nest
              (first_performs layout mark its.inclusive its.front its.back w.part first.body there w.code locals);
          second = lowered_from box serial roles n s kept second lowered round nested.steps all (at second.roles lowered.roles) its.loops whole whole its.nest (body_performs n s its.loops whole second.body its.nest body locals);
        }

    way_fits : (nested : SharesAsNest ds d said serial n s) (inside : LinesInside) (line : ℕ) (way : Way) (second : LoweredLoop) → said ≡ inside line → reduced kept.carried.items ≡ d.carried → IsRound mark serial box → AreLocals layout mark (declared_in s)
        → ((ls : LoweredRoles) → AreRolesAt layout mark (used_roles s (roles_of kept)) ls → AreRolesAt layout mark roles ls) → IsLowered layout mark box n s kept second → IsBodyCode layout mark n s second.body
        → IsWay layout mark box inside line n s kept way → WayFits layout mark box roles ds d said serial n s nested second way
    way_fits nested inside line Chunks second same carried round all at lowered body w = (sym carried ∙ w.0, ap (λ (q : SaidInside). q.sinks) same ∙ w.1)
    way_fits nested inside line (Scan first) second same carried round all at lowered body w = scan_fits nested inside line first second same carried round all at lowered body w
    way_fits nested inside line (Waves sinks) second same carried round all at lowered body w = ap (λ (q : SaidInside). q.sinks) same ∙ w
    way_fits nested inside line Alone second same carried round all at lowered body w = tt

  pub team_made : (box : List Side) (line : Place) (s : Stmt) (l : TeamLoop) → IsHanded layout mark box loops line s l → IsMade layout mark loops box (Some line) s (Team l)
  team_made box line s l h = record {
    performs = λ R serial. ap (λ a. handed (used_roles a (left_roles (R l.line))) serial a) h.statement ∙ ap (λ m. handed (used_roles s (left_roles (R m))) serial s) h.at;
    fits = λ text ds R P serial given shares all. team_fits text ds R P serial given shares all;
  }
    where
      team_fits : (text : List ℕ) (ds : List Tree.Declaration) (R : LineData) (P : LinesInside) (serial : List Loop) → IsGiven (length layout) mark text R P loops serial box → KnownBehind text ds R P serial (Some line) s → AreLocals layout mark (declared_in s)
          → TeamFits layout mark R serial l
      team_fits text ds R P serial given (k, c, reads, known) all =
          let own = of_all (IsOfText text R) loops.parallel.now h.parallel given.table h.stands.0 in
          let here = subst (λ (m : ℕ). ReadsLoop (line_at text m) (scheduled h.parallel.directive) h.parallel.directive.collapse) h.stands.1 own.reads in
          let kept = subst (λ (m : ℕ). AreRolesOf (R m) h.parallel.roles) h.stands.1 own.roles in
          let same = (read_once (line_at text line.line) (scheduled h.parallel.directive) h.parallel.directive.collapse k c here reads).1 in
          let depth : associated c ≡ l.depth = ap associated (sym same) ∙ sym h.depth in
          let roles : used_roles s (left_roles (R line.line)) ≡ roles_in R l = sym (ap (λ a. used_roles a (left_roles (R l.line))) h.statement ∙ ap (λ m. used_roles s (left_roles (R m))) h.at) in
          let deep : SharesAsNest ds (R line.line) (P line.line) serial l.depth s = subst (λ d. SharesAsNest ds (R line.line) (P line.line) serial d s) depth known.shares in
          let nested : SharesAsNest ds (R l.line) (P line.line) serial l.depth s = subst (λ m. SharesAsNest ds (R m) (P line.line) serial l.depth s) (sym h.at) deep in
          let n = h.lowered in
          let now : SharesAsNest ds (R l.line) (P line.line) serial l.depth (stmt_of l.statement.now) = subst (λ a. SharesAsNest ds (R l.line) (P line.line) serial l.depth a) (sym h.statement) nested in
          let at : (ls : LoweredRoles) → AreRolesAt layout mark (used_roles s (roles_of h.parallel.roles)) ls → AreRolesAt layout mark (roles_in R l) ls =
          λ ls stand. subst (λ rs. AreRolesAt layout mark rs ls) roles (roles_by_line h.parallel.roles R line.line s ls kept stand) in
          record {
            loops = n.loops;
            body = n.body;
            nest = subst (λ a. nest_of l.depth a ≡ Some (n.loops, n.body)) (sym h.statement) n.nest;
            box = box;
            known = λ x is. (given.round x is).1;
            lowered = lowered_from box serial (roles_in R l) l.depth s h.parallel.roles l.lowered n given.round nested.steps all (at l.lowered.roles n.roles) n.loops n.body n.body n.nest
                (body_performs l.depth s n.loops n.body l.lowered.body n.nest h.body (locals_right layout mark (map (λ q. q.variable) n.loops) (declared_in n.body) (body_locals l.depth s n.loops n.body n.nest all)));
            locals = subst (λ a. AreLocals layout mark (declared_in a)) (sym h.statement) all;
            code = subst (λ a. Performs layout mark (run a) l.code) (sym h.statement) (h.code all);
            privates = λ x e.
                let f = is_among (targets_outside (stmt_of l.statement.now)) in
                given.privates l.line x (second_of (f x) (is_among (R l.line).roles.privates x) (sym (among_left f (R l.line).roles.privates x) ∙ e));
            declarations = ds;
            said = P line.line;
            nested = now;
            runs = subst (λ a. RunsFewAtTurns serial l.depth a) (sym h.statement) (subst (λ d. RunsFewAtTurns serial d s) depth known.runs);
            way = way_fits box serial (roles_in R l) ds (R l.line) (P line.line) l.depth (stmt_of l.statement.now) h.parallel.roles now (inside_told loops) line.line l.way l.lowered (λ i. given.inside i line.line)
                (kept.carried ∙ ap (λ m. (R m).carried) (sym h.at)) given.round (subst (λ a. AreLocals layout mark (declared_in a)) (sym h.statement) all)
                (subst (λ a. (ls : LoweredRoles) → AreRolesAt layout mark (used_roles a (roles_of h.parallel.roles)) ls → AreRolesAt layout mark (roles_in R l) ls) (sym h.statement) at)
                (subst (λ a. IsLowered layout mark box l.depth a h.parallel.roles l.lowered) (sym h.statement) n) (subst (λ a. IsBodyCode layout mark l.depth a l.lowered.body) (sym h.statement) h.body)
                (subst (λ a. IsWay layout mark box (inside_told loops) line.line l.depth a h.parallel.roles l.way) (sym h.statement) h.way);
          }

  -- ---- a serial loop

  inside_round : (box within : List Side) (head : Head) (serial : List Loop) → IsInside head box within → head.variable.0 < mark → IsRound mark serial box → IsRound mark (serial ++ head_of head ∷ []) within
  inside_round box within head serial (i, is) low round x k = at (head.variable.0 == x) refl (subst (λ b. is_counter b x ≡ true) is k)
    where
      variables : (ls : List Loop) → map (λ (l : Loop). l.variable) (ls ++ head_of head ∷ []) ≡ map (λ (l : Loop). l.variable) ls ++ head.variable.0 ∷ []
      variables [] = refl
      variables (l ∷ ls) = ap (λ xs. l.variable ∷ xs) (variables ls)

      at : (b : Bool) → (head.variable.0 == x) ≡ b → cond b true (is_counter box x) ≡ true → (x < mark) × Contains (map (λ (l : Loop). l.variable) (serial ++ head_of head ∷ [])) x
      at true e q =
          let same = eqb-true head.variable.0 x e in
          (subst (λ y. y < mark) same low, subst (λ xs. Contains xs x) (sym (variables serial)) (Contains-append_right (map (λ (l : Loop). l.variable) serial) (head.variable.0 ∷ []) x (0, omega arith, same)))
      at false e q = ((round x q).0, subst (λ xs. Contains xs x) (sym (variables serial)) (Contains-append_left (map (λ (l : Loop). l.variable) serial) (head.variable.0 ∷ []) x (round x q).1))

  pub loop_made : (box within : List Side) (head : Bor Head) (lowered : LoweredHead) (inner : Box Outline Global) (a : Stmt) → IsInside head.now box within → (AreLocals layout mark (head.now.variable.0 ∷ []) → HeadFits layout mark head.now lowered)
      → IsMade layout mark loops within None a inner.value → IsMade layout mark loops box None (loop_with head.now a) (For lowered head inner)
  loop_made box within head lowered inner a is head_fits made = record {
    performs = λ R serial i s. then_from s (declared s head.now.variable.0 (Some (source_of head.now.start)))
        (turns greatest_trip_count (λ t. holds t (cond_of head.now.test)) (made.performs R (serial ++ head_of head.now ∷ []) i) (λ t. incremented t (increment_of head.now.step)));
    fits = λ text ds R P serial given shares all. (
      head_fits (all.0, tt),
      made.fits text ds R P (serial ++ head_of head.now ∷ []) (record { round = inside_round box within head.now serial is all.0.1 given.round; table = given.table; inside = given.inside; privates = given.privates }) shares all.1,
    );
  }

  -- ---- conditionals

  pub two_made : (box : List Side) (test : Test) (cond : Bor trees.Cond) (then other : Box Outline Global) (a b : Stmt) → MeansTest layout (cond_of cond.now) test → IsMade layout mark loops box None a then.value → IsMade layout mark loops box None b other.value
      → IsMade layout mark loops box None (Tree.IfElse (cond_of cond.now) a b) (If test cond then (Some other))
  two_made box test cond then other a b means one two = record {
    performs = λ R serial i s. by_test (holds s (cond_of cond.now)) (one.performs R serial i s) (two.performs R serial i s);
    fits = λ text ds R P serial given shares all. (
      means,
      one.fits text ds R P serial given shares.0 (locals_left layout mark (declared_in a) (declared_in b) all),
      two.fits text ds R P serial given shares.1 (locals_right layout mark (declared_in a) (declared_in b) all),
    );
  }

  -- ---- items

  abbrev pub line_after : Option Place → List Item → Option Place
  line_after d [] = d
  line_after d (i ∷ is) = line_after (line_of i) is

  nothing_first : (s : State) (f : State → Option Effect) → then_from s (Some nothing) f ≡ f s
  nothing_first s f = at (f s)
    where
      at : (o : Option Effect) → map_option (joined nothing) o ≡ o
      at None = refl
      at (Some e) = refl

  alone : (s : State) (o : Option Effect) → then_from s o (run_items Tree.no_items) ≡ o
  alone s None = refl
  alone s (Some e) = λ i. Some (record { writes = append-nil e.writes i; text = append-nil e.text i })

  abbrev IsNoStatement : Item → Type 0
  IsNoStatement (Directive place) = Unit {0}
  IsNoStatement (Local l) = Unit {0}
  IsNoStatement (Statement' p s) = ⊥

  plain_performs : (d : Option Place) (item : Item) → IsNoStatement item → (R : LineData) (serial : List Loop) (rest : Tree.Items)
      → items_behind R d serial (with_item item rest) ≡ (λ s. then_from s (run_items (with_item item Tree.no_items) s) (items_behind R (line_of item) serial rest))
  plain_performs None (Directive place) h R serial rest = λ i s. sym (nothing_first s (apart_behind R place.line serial rest)) i
  plain_performs (Some line) (Directive place) h R serial rest = λ i s. sym (nothing_first s (apart_behind R place.line serial rest)) i
  plain_performs None (Local l) h R serial rest = λ i s. then_from s (sym (alone s (declared s l.variable.0 (start_of l.start))) i) (apart_items R serial rest)
  plain_performs (Some line) (Local l) h R serial rest = λ i s. then_from s (sym (alone s (declared s l.variable.0 (start_of l.start))) i) (apart_items R serial rest)
  plain_performs d (Statement' p s) h R serial rest = absurd h

  pub plain_made : (box : List Side) (d : Option Place) (item : Bor Item) (code : Compiled) → IsNoStatement item.now
      → (AreLocals layout mark (declared_among (with_item item.now Tree.no_items)) → Performs layout mark (run_items (with_item item.now Tree.no_items)) code) → IsMadeItem layout mark loops box d item.now (Plain code item)
  plain_made box d item code none code_fits = record { performs = λ R serial rest. plain_performs d item.now none R serial rest; fits = λ text ds R P serial given shares all. code_fits all }

  pub statement_made : (box : List Side) (d : Option Place) (p : _) (s : statements.Stmt) (inner : Box Outline Global) → IsMade layout mark loops box d (stmt_of s) inner.value → IsMadeItem layout mark loops box d (Statement' p s) (Statement inner)
  statement_made box d p s inner made = record {
    performs = λ R serial rest. at R serial d (made.performs R serial) rest;
    fits = λ text ds R P serial given shares all. made.fits text ds R P serial given shares (subst (AreLocals layout mark) (append-nil (declared_in (stmt_of s))) all);
  }
    where
      at : (R : LineData) (serial : List Loop) (e : Option Place) → performed R serial inner.value ≡ run_behind R e serial (stmt_of s) → (rest : Tree.Items)
          → items_behind R e serial (Tree.stmt (stmt_of s) rest) ≡ (λ t. then_from t (performed R serial inner.value t) (apart_items R serial rest))
      at R serial None is rest = λ i t. then_from t (sym is i t) (apart_items R serial rest)
      at R serial (Some line) is rest = λ i t. then_from t (sym is i t) (apart_items R serial rest)

  line_more : (d : Option Place) (is : List Item) (i : Item) → line_after d (is ++ i ∷ []) ≡ line_of i
  line_more d [] i = refl
  line_more d (j ∷ is) i = line_more (line_of j) is i

  made_more : (box : List Side) (d : Option Place) (is : List Item) (os : List OutlineItem) (i : Item) (o : OutlineItem) → AreMade layout mark loops box d is os → IsMadeItem layout mark loops box (line_after d is) i o → AreMade layout mark loops box d (is ++ i ∷ []) (os ++ o ∷ [])
  made_more box d [] [] i o h k = (k, tt)
  made_more box d [] (p ∷ os) i o h k = absurd h
  made_more box d (j ∷ is) [] i o h k = absurd h
  made_more box d (j ∷ is) (p ∷ os) i o h k = (h.0, made_more box (line_of j) is os i o h.1 k)

  -- so many items are outlined, and this is the line behind which the next stands
  pub record SoFar (box : List Side) (items : List Item) (n : ℕ) (os : List OutlineItem) (d : Option Place) : Type 0 where
    pub made : AreMade layout mark loops box None (take n items) os
    pub line : d ≡ line_after None (take n items)

  pub none_so_far : (box : List Side) (items : List Item) (os : List OutlineItem) → os ≡ [] → SoFar box items 0 os None
  none_so_far box items os e = record { made = subst (AreMade layout mark loops box None []) (sym e) tt; line = refl }

  pub next_so_far : (box : List Side) (items : List Item) (n : ℕ) (os : List OutlineItem) (d next : Option Place) (i : Item) (o : OutlineItem) → n < length items → i ≡ get_or items n i → SoFar box items n os d
      → IsMadeItem layout mark loops box d i o → next ≡ line_of i → SoFar box items (n + 1) (os ++ o ∷ []) next
  next_so_far box items n os d next i o lt is so_far item line =
      let more : take (n + 1) items ≡ take n items ++ i ∷ [] = take_more items n i lt ∙ ap (λ j. take n items ++ j ∷ []) (sym is) in
      record {
        made = subst (λ l. AreMade layout mark loops box None l (os ++ o ∷ [])) (sym more) (made_more box None (take n items) os i o so_far.made (subst (λ e. IsMadeItem layout mark loops box e i o) so_far.line item));
        line = line ∙ sym (line_more None (take n items) i) ∙ ap (line_after None) (sym more);
      }

  pub all_so_far : (box : List Side) (items : List Item) (n : ℕ) (os : List OutlineItem) (d : Option Place) → length items ≤ n → SoFar box items n os d → AreMade layout mark loops box None items os
  all_so_far box items n os d le so_far = subst (λ l. AreMade layout mark loops box None l os) (take_all n items le) so_far.made

  pub items_perform : (box : List Side) (d : Option Place) (is : List Item) (os : List OutlineItem) → AreMade layout mark loops box d is os → (R : LineData) (serial : List Loop) → items_performed R serial os ≡ items_behind R d serial (items_of is)
  items_perform box None [] [] h R serial = refl
  items_perform box (Some line) [] [] h R serial = refl
  items_perform box d [] (o ∷ os) h R serial = absurd h
  items_perform box d (i ∷ is) [] h R serial = absurd h
  items_perform box d (i ∷ is) (o ∷ os) h R serial =
      (λ j s. then_from s (item_performed R serial o s) (items_perform box (line_of i) is os h.1 R serial j)) ∙ sym (h.0.performs R serial (items_of is))

  -- what may be shared of some items, also of the first where it stands behind a line
  abbrev ShareFrom : List ℕ → List Tree.Declaration → LineData → LinesInside → List Loop → Option Place → Tree.Items → Type 0
  ShareFrom text ds R P serial None items = ItemsHaveBy text (KnownBy ds R P) serial items
  ShareFrom text ds R P serial (Some line) items = LineHas text (KnownBy ds R P line.line) serial line.line items × ItemsHaveBy text (KnownBy ds R P) serial items

  split : (text : List ℕ) (ds : List Tree.Declaration) (R : LineData) (P : LinesInside) (serial : List Loop) (d : Option Place) (i : Item) (rest : Tree.Items)
      → ShareFrom text ds R P serial d (with_item i rest) → ItemKnown text ds R P serial d i × ShareFrom text ds R P serial (line_of i) rest
  split text ds R P serial None (Directive place) rest h = (tt, h)
  split text ds R P serial None (Local l) rest h = (tt, h)
  split text ds R P serial None (Statement' p s) rest h = (h.0, h.1)
  split text ds R P serial (Some line) (Directive place) rest h = absurd h.0.3
  split text ds R P serial (Some line) (Local l) rest h = absurd h.0.3
  split text ds R P serial (Some line) (Statement' p s) rest h = ((h.0.0, h.0.1, h.0.2, h.0.3), h.1.1)

  cut : (item : Item) (rest : Tree.Items) → AreLocals layout mark (declared_among (with_item item rest)) → AreLocals layout mark (declared_among (with_item item Tree.no_items)) × AreLocals layout mark (declared_among rest)
  cut (Directive place) rest all = (tt, all)
  cut (Local l) rest (here, all) = ((here, tt), all)
  cut (Statement' p s) rest all =
      let xs = declared_in (stmt_of s) in
      (subst (AreLocals layout mark) (sym (append-nil xs)) (locals_left layout mark xs (declared_among rest) all), locals_right layout mark xs (declared_among rest) all)

  items_fitted : (box : List Side) (d : Option Place) (is : List Item) (os : List OutlineItem) → AreMade layout mark loops box d is os → (text : List ℕ) (ds : List Tree.Declaration) (R : LineData) (P : LinesInside) (serial : List Loop)
      → IsGiven (length layout) mark text R P loops serial box → ShareFrom text ds R P serial d (items_of is)
      → AreLocals layout mark (declared_among (items_of is)) → AllFit layout mark R serial os
  items_fitted box d [] [] h text ds R P serial given share all = tt
  items_fitted box d [] (o ∷ os) h text ds R P serial given share all = absurd h
  items_fitted box d (i ∷ is) [] h text ds R P serial given share all = absurd h
  items_fitted box d (i ∷ is) (o ∷ os) h text ds R P serial given share all =
      let c = split text ds R P serial d i (items_of is) share in
      let l = cut i (items_of is) all in
      (h.0.fits text ds R P serial given c.0 l.0, items_fitted box (line_of i) is os h.1 text ds R P serial given c.1 l.1)

  pub block_made : (box : List Side) (items : List Item) (outlines : Vec OutlineItem Global) → AreMade layout mark loops box None items outlines.items → IsMade layout mark loops box None (Tree.Block (items_of items)) (Block outlines)
  block_made box items outlines h = record {
    performs = λ R serial. block_performed R serial outlines ∙ items_perform box None items outlines.items h R serial;
    fits = λ text ds R P serial given shares all. block_fits layout mark R serial outlines (items_fitted box None items outlines.items h text ds R P serial given shares all);
  }

  -- ---- a body

  pub body_fits : (items : List Item) (os : List OutlineItem) → AreMade layout mark loops [] None items os → (text : List ℕ) (ds : List Tree.Declaration) (R : LineData) (P : LinesInside) → ArePrivateLocals (length layout) R → AreOfText text R loops.parallel.now → P ≡ inside_told loops
      → ItemsHaveBy text (KnownBy ds R P) [] (items_of items) → AreLocals layout mark (declared_among (items_of items)) → AllFit layout mark R [] os
  body_fits items os h text ds R P privates table inside share all = items_fitted [] None items os h text ds R P [] (record { round = λ x is. absurd cc; table = table; inside = inside; privates = privates }) share all
