-- Scans where they stand, in the tree from which their lines are left out.
use Rattle.std.specs.Prelude.{ℕ, true, not, ◌&&◌, if◌then◌else◌, ◌≡◌, List, [], ◌∷◌, ◌++◌, Option, Some, None, Contains}
use Rattle.std.specs.List.{list_all}
use Rattle.std.proofs.Common.{refl, sym, ap, ◌∙◌, subst, inl}
use Rattle.std.proofs.lemmas.Bool.{eqb-true}
use Rattle.std.proofs.lemmas.Option.{none-some}
use Rattle.std.proofs.lemmas.List.Elements.{Contains-append_left, Contains-append_right}
use Rattle.semantics.specs.Tree.{Name, Variable, Cond, Source, Increment, Stmt, Assign, Update, If, IfElse, For, Block, Print, Items, no_items, mark, local, stmt, Kernel}
use Rattle.semantics.specs.Source.Text.{line_at}
use Rattle.semantics.specs.Loops.Nest.{Loop}
use Rattle.semantics.specs.Loops.Operator.{ReduceOp}
use Rattle.semantics.specs.Directives.Directive.{Schedule, Directive, ParallelFor, Parallel, Worksharing, ScanInclusive, ScanExclusive, OrderedRegion, DoacrossSource, DoacrossSink}
use Rattle.law_commute.proofs.Lists.{contains_among}
use Rattle.law_commute.proofs.Values.{first_of, second_of}
use Rattle.law_lines.specs.Without.{without_in, without_among}
use Rattle.law_scans.specs.Phases.{keeps_phases}
use Rattle.pragma.specs.Clauses.{Said, loop_of, ReadsLoop}
use Rattle.pragma.specs.Parallel.{associated, LoopsHave}
use Rattle.pragma.specs.Plain.{IsPlainLoop}
use Rattle.pragma_attach.proofs.LookLaw.{is_on}
use Rattle.pragma_named.specs.Known.{Lines}
use Rattle.pragma_region.specs.Regions.{is_scan_line, is_left_out, alone}
use Rattle.flow.specs.Roles.{AskedByLine, LoopsHaveBy}
use Rattle.flow.proofs.AskedLaw.{AskedBehind, Stand, all_stand, end_stands, line_stands, local_stands, statement_stands, loop_stands}
use Rattle.flow_scan.specs.Lines.{is_loop, is_loop_line, is_one, associates_one, associates_one_on, suits_scan, sole_of, scanned, is_called}
use Rattle.nest_lines.specs.Lines.{line_before}
use Rattle.nest_lines.specs.Inner.{have_line}
use Rattle.nest_lines.specs.declared.inner.InnerLine.TheVariants.{Scan}
use Rattle.flow_scan.specs.Parts.{Parts, block_parts, body_parts, cut, has_statement, count}
use Rattle.flow_scan.specs.Scans.{ScanPart, has_phases, scans_loop, is_scan_loop, scans_behind, scans_in, scans_among, parts_at, parts_behind, parts_in, parts_among, scans_of}
use Rattle.flow_scan.specs.Laws.{HasPhases, ScanThere, ScansStandAlone}
use Rattle.flow_scan.proofs.WithoutLaw.{both_true, phases_kept, cut_joined, count_all}

-- a directive that says what a loop's does is one's
loop_said : (d : Directive Name) (said : Said) → loop_of d ≡ Some said → is_loop (Some d) ≡ true
loop_said (ParallelFor cs) said e = refl
loop_said (Worksharing cs) said e = refl
loop_said (Parallel cs) said e = absurd (none-some said e)
loop_said (ScanInclusive x) said e = absurd (none-some said e)
loop_said (ScanExclusive x) said e = absurd (none-some said e)
loop_said OrderedRegion said e = absurd (none-some said e)
loop_said DoacrossSource said e = absurd (none-some said e)
loop_said (DoacrossSink es) said e = absurd (none-some said e)

module _ (text : List ℕ) where
  loop_read : (n : ℕ) (k : Option Schedule) (c : Option ℕ) → ReadsLoop (line_at text n) k c → is_loop_line text n ≡ true
  loop_read n k c r = ap is_loop (is_on text n r.directive r.reads) ∙ loop_said r.directive (k, c) r.says

  one_loop : (n : ℕ) (k : Option Schedule) (c : Option ℕ) → ReadsLoop (line_at text n) k c → associates_one_on text n ≡ true → associated c ≡ 1
  one_loop n k c r one = eqb-true (associated c) 1 (sym (ap associates_one (is_on text n r.directive r.reads) ∙ ap is_one r.says) ∙ one)

-- the loop's body, where it is cut
record IsCut (text : List ℕ) (s : Stmt) (p : Parts) : Type 0 where
  counter : Variable
  name : Name
  start : Source
  test : Cond
  step : Increment
  items : Items
  is : s ≡ For counter name start test step (Block items)
  cut_is : cut text items ≡ Some p

block_cut : (text : List ℕ) (x : Variable) (name : Name) (start : Source) (test : Cond) (step : Increment) (body : Stmt) (p : Parts) → block_parts text body ≡ Some p → IsCut text (For x name start test step body) p
block_cut text x name start test step (Block items) p e = record { counter = x; name = name; start = start; test = test; step = step; items = items; is = refl; cut_is = e }
block_cut text x name start test step (Assign y is a) p e = absurd (none-some p e)
block_cut text x name start test step (Update y is op a) p e = absurd (none-some p e)
block_cut text x name start test step (If c a) p e = absurd (none-some p e)
block_cut text x name start test step (IfElse c a b) p e = absurd (none-some p e)
block_cut text x name start test step (For y own from till by body) p e = absurd (none-some p e)
block_cut text x name start test step (Print parts) p e = absurd (none-some p e)

body_cut : (text : List ℕ) (s : Stmt) (p : Parts) → body_parts text s ≡ Some p → IsCut text s p
body_cut text (For x name start test step body) p e = block_cut text x name start test step body p e
body_cut text (Assign y is a) p e = absurd (none-some p e)
body_cut text (Update y is op a) p e = absurd (none-some p e)
body_cut text (If c a) p e = absurd (none-some p e)
body_cut text (IfElse c a b) p e = absurd (none-some p e)
body_cut text (Block items) p e = absurd (none-some p e)
body_cut text (Print parts) p e = absurd (none-some p e)

-- what a body in two phases is made of
record Phased (text : List ℕ) (k : Kernel) (o : Option (Variable × ReduceOp)) (s : Stmt) : Type 0 where
  reduced : Variable × ReduceOp
  reduced_is : o ≡ Some reduced
  parts : Parts
  parts_are : body_parts text s ≡ Some parts
  keeps : keeps_phases reduced.0 reduced.1 parts.said.inclusive parts.front parts.back ≡ true

phased : (text : List ℕ) (k : Kernel) (o : Option (Variable × ReduceOp)) (s : Stmt) → has_phases text k o (body_parts text s) ≡ true → Phased text k o s
phased text k None s h = absurd (cc h)
phased text k (Some r) s h = go (body_parts text s) refl h
  where
    go : (b : Option Parts) → body_parts text s ≡ b → has_phases text k (Some r) b ≡ true → Phased text k (Some r) s
    go None e g = absurd (cc g)
    go (Some p) e g = record {
      reduced = r;
      reduced_is = refl;
      parts = p;
      parts_are = e;
      keeps = second_of (has_statement p.front && has_statement p.back && is_called k r.0 p.said.name && not (have_line text Scan p.front) && not (have_line text Scan p.back)) (keeps_phases r.0 r.1 p.said.inclusive p.front p.back) g;
    }

module _ (text : List ℕ) (lines : Lines) (k : Kernel) where
  abbrev left : Items → Items
  left items = without_among (is_left_out text) items

  abbrev there : AskedByLine
  there = ScanThere text lines k

  -- all that these tell is told of the kernel
  abbrev Told : List ScanPart → Type 0
  Told ts = (t : ScanPart) → Contains ts t → Contains (scans_of text lines k) t

  told_left : (xs ys : List ScanPart) → Told (xs ++ ys) → Told xs
  told_left xs ys told t h = told t (Contains-append_left xs ys t h)

  told_right : (xs ys : List ScanPart) → Told (xs ++ ys) → Told ys
  told_right xs ys told t h = told t (Contains-append_right xs ys t h)

  -- the loop of a scan
  loop_phases : (n : ℕ) (s : Stmt) → scans_loop text k n (lines n) s ≡ true → Told (parts_at n (body_parts text s)) → HasPhases text lines k n (without_in (is_left_out text) s)
  loop_phases n s h told =
      let one = associates_one_on text n in
      let suit = list_all suits_scan (lines n) in
      let found = phased text k (sole_of (scanned (lines n))) s (second_of (one && suit) (has_phases text k (sole_of (scanned (lines n))) (body_parts text s)) h) in
      let p = found.parts in
      let body = body_cut text s p found.parts_are in
      let part : ScanPart = record { line = n; inclusive = p.said.inclusive; front = count p.front } in
      record {
        variable = found.reduced.0;
        operator = found.reduced.1;
        reduced = found.reduced_is;
        suits = second_of one suit (first_of (one && suit) (has_phases text k (sole_of (scanned (lines n))) (body_parts text s)) h);
        counter = body.counter;
        name = body.name;
        start = body.start;
        test = body.test;
        step = body.step;
        front = left p.front;
        back = left p.back;
        is = ap (without_in (is_left_out text)) body.is ∙ ap (λ items. For body.counter body.name body.start body.test body.step (Block items)) (cut_joined text body.items p body.cut_is);
        inclusive = p.said.inclusive;
        told = subst (λ m. Contains (scans_of text lines k) (record { line = n; inclusive = p.said.inclusive; front = m })) (sym (count_all (is_left_out text) p.front))
            (told part (subst (λ o. Contains (parts_at n o) part) (sym found.parts_are) (contains_among (part ∷ []) part (inl refl))));
        keeps = phases_kept (is_left_out text) found.reduced.0 found.reduced.1 p.said.inclusive p.front p.back found.keeps;
      }

  -- a loop behind a line
  asked_loop : (n : ℕ) (serial : List Loop) (s : Stmt) → scans_behind text k lines (Some n) s (scans_in text k lines s) ≡ true → Told (parts_behind text lines (Some n) s (parts_in text lines s))
      → AskedBehind text there n serial (without_in (is_left_out text) s)
  asked_loop n serial s h told j c r scan =
      let is : is_scan_loop text lines n ≡ true = both_true (loop_read text n j c r) scan in
      let right : scans_loop text k n (lines n) s ≡ true = sym (ap (λ b. if b then scans_loop text k n (lines n) s else scans_in text k lines s) is) ∙ h in
      let parts : parts_behind text lines (Some n) s (parts_in text lines s) ≡ parts_at n (body_parts text s) = ap (λ b. if b then parts_at n (body_parts text s) else parts_in text lines s) is in
      let one = associates_one_on text n in
      let suit = list_all suits_scan (lines n) in (
        one_loop text n j c r (first_of one suit (first_of (one && suit) (has_phases text k (sole_of (scanned (lines n))) (body_parts text s)) right)),
        loop_phases n s right (subst Told parts told),
      )

  mutual
    stand_in : (serial : List Loop) (s : Stmt) → scans_in text k lines s ≡ true → Told (parts_in text lines s) → LoopsHave text IsPlainLoop serial (without_in (is_left_out text) s)
        → LoopsHaveBy text there serial (without_in (is_left_out text) s)
    stand_in serial (Assign x is e) h told p = tt
    stand_in serial (Update x is op e) h told p = tt
    stand_in serial (If c a) h told p = stand_in serial a h told p
    stand_in serial (IfElse c a b) h told p = (
      stand_in serial a (first_of (scans_in text k lines a) (scans_in text k lines b) h) (told_left (parts_in text lines a) (parts_in text lines b) told) p.0,
      stand_in serial b (second_of (scans_in text k lines a) (scans_in text k lines b) h) (told_right (parts_in text lines a) (parts_in text lines b) told) p.1,
    )
    stand_in serial (For x name start test step body) h told p = stand_in (serial ++ record { variable = x; start = start; test = test; step = step } ∷ []) body h told p
    stand_in serial (Block items) h told p = all_stand text there serial (left items) (stand_among serial None items h told) p
    stand_in serial (Print parts) h told p = tt

    stand_among : (serial : List Loop) (before : Option ℕ) (items : Items) → scans_among text k lines before items ≡ true → Told (parts_among text lines before items) → Stand text there serial before (left items)
    stand_among serial before no_items h told = end_stands text there serial before
    stand_among serial before (mark n rest) h told =
        let next = line_before text before n in
        let out = is_left_out text n in
        line_stands text there serial before n (left rest) out (stand_among serial next rest (second_of (not (is_scan_line text n)) (scans_among text k lines next rest) h) told)
    stand_among serial before (local x name start rest) h told = local_stands text there serial before x name start (left rest) (stand_among serial None rest h told)
    stand_among serial None (stmt s rest) h told =
        let mine = scans_in text k lines s in
        let others = scans_among text k lines None rest in
        let here = parts_in text lines s in
        let further = parts_among text lines None rest in
        statement_stands text there serial (without_in (is_left_out text) s) (left rest)
        (stand_in serial s (first_of mine others h) (told_left here further told))
        (stand_among serial None rest (second_of mine others h) (told_right here further told))
    stand_among serial (Some n) (stmt s rest) h told =
        let mine = scans_behind text k lines (Some n) s (scans_in text k lines s) in
        let others = scans_among text k lines None rest in
        let here = parts_behind text lines (Some n) s (parts_in text lines s) in
        let further = parts_among text lines None rest in
        loop_stands text there n serial (without_in (is_left_out text) s) (left rest)
        (asked_loop n serial s (first_of mine others h) (told_left here further told))
        (stand_among serial None rest (second_of mine others h) (told_right here further told))

pub stand_alone : ScansStandAlone
stand_alone text lines k h p = all_stand text (ScanThere text lines k) [] (alone text k).body (stand_among text lines k [] None k.body h (λ t c. c)) p
