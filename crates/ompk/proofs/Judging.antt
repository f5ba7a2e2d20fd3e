-- What the passes before the dependence test find out together, and which of them refuses.
use Rattle.std.specs.Prelude.{ℕ, ◌≡◌, ◌⊎◌, List, [], length, map, Some, None}
use Rattle.std.proofs.Common.{sym, ap, ◌∙◌, subst, inl, inr}
use Rattle.std.proofs.Math.Path.{fun_ext}
use Rattle.semantics.specs.Tree.{Kernel, strip}
use Rattle.semantics.specs.Source.Grammar.{ReadsText}
use Rattle.semantics.specs.Meaning.Definite.{IsDefinite}
use Rattle.semantics.specs.Directives.Annotated.{Directives, clauses_at}
use Rattle.semantics.specs.Directives.Naming.{IsAttached}
use Rattle.semantics.specs.Theorems.{StandsFor}
use Rattle.semantics.proofs.EraseTextLaw.{text_erased}
use Rattle.law_lines.proofs.Stripped.{stripped_trees_are_one}
use Rattle.ktree.specs.declared.refusal.Refusal.{Refusal}
use Rattle.pragma_named.specs.Known.{Known, Lines, known_clauses, lines_known}
use Rattle.pragma_region.specs.Regions.{is_left_out, alone}
use Rattle.pragma_region.specs.Counted.{counted_in}
use Rattle.pragma_region.specs.NotKnown.{unknown_among}
use Rattle.flow.specs.Roles.{LineData, line_data, data_known, privates_by, ItemsKeepRoles}
use Rattle.flow.specs.Parallel.{AreParallelLoops}
use Rattle.flow.specs.declared.environment.ParallelLoop.{ParallelLoop}
use Rattle.flow_clauses.specs.Fitting.{fit_clauses}
use Rattle.flow_doacross.specs.Listed.{doacross_of}
use Rattle.flow_doacross.specs.Views.{nest_part}
use Rattle.deptest.specs.Accepted.{Program, tree_of, clauses_said, clauses_counted, data_counted, HasPassed, HasLoops}
use Rattle.flow_scan.specs.Scans.{scans_of}
use Rattle.flow_scan.specs.Views.{scan_part}
use Rattle.flow_scan.proofs.Different.{scan_lines_differ}
use Rattle.ompk.specs.declared.accepting.ToldLoops.{ToldLoops}
use Rattle.ompk.specs.Judged.{Whole, whole_found, IsLineKernel, IsToldKernel, IsOfKernel}
use Rattle.ompk.specs.Refused.{IsJudged, RefusesScalars, RefusesClauses, RefusesWhole, RefusesData, RefusesAlone, RefusesUnknown, RefusesKernel}

-- what is said of each line is what the table knows
pub clauses_are : (k : Kernel) (ds : Directives) (known : Known) → ((n : ℕ) → clauses_at k ds n ≡ Some (lines_known known n)) → clauses_said k ds ≡ lines_known known
clauses_are k ds known each = fun_ext (λ n. ap (λ o. known_clauses (Some o)) (each n))

-- and what counts for each line, once it is counted
pub counted_are : (text : List ℕ) (k : Kernel) (ds : Directives) (before after : Known) → ((n : ℕ) → clauses_at k ds n ≡ Some (lines_known before n))
    → lines_known after ≡ counted_in text k (lines_known before) → clauses_counted text k ds ≡ lines_known after
counted_are text k ds before after each is = ap (counted_in text k) (clauses_are k ds before each) ∙ sym is

pub roles_are : (text : List ℕ) (k : Kernel) (ds : Directives) (known : Known) → clauses_counted text k ds ≡ lines_known known → data_counted text k ds ≡ data_known known (length k.variables)
roles_are text k ds known is =
    let roles : Lines → LineData = λ lines n. line_data (length k.variables) (lines n) in
    ap roles is

-- a kernel that is judged has passed
pub has_passed : (text : List ℕ) (k : Kernel) (known : Known) (whole : Whole) → IsLineKernel text k known whole → IsJudged text k (data_known known (length k.variables)) (lines_known known) whole → HasPassed text k
has_passed text k known whole stands judged =
    record {
      reads = stands.reads;
      directives = stands.directives;
      attached = stands.attached;
      known = stands.all_known;
      in_range = judged.in_range;
      directed = judged.right.0;
      nested = judged.right.2;
      definite = subst (λ (R : LineData). IsDefinite (privates_by R) k) (sym stands.roles) judged.environment.0;
      roles = subst (λ (R : LineData). ItemsKeepRoles text R [] k.body) (sym stands.roles) judged.environment.1;
      fit = ap (λ (lines : Lines). fit_clauses lines k) stands.clauses ∙ judged.environment.2;
      ordered = ap (λ (w : Whole). w.ordered) stands.found ∙ judged.environment.3.0;
      dissolved = stands.dissolved;
      scans = ap (λ (w : Whole). w.phased) stands.found ∙ judged.environment.3.1;
      nests = ap (λ (w : Whole). w.nested) stands.found ∙ judged.environment.3.2;
      numbered = scan_lines_differ text (clauses_counted text stands.reads.whole stands.directives) stands.reads.whole stands.reads.reads;
    }

-- and has these loops
pub has_loops : (text : List ℕ) (k : Kernel) (known : Known) (whole : Whole) (loops : List ParallelLoop) (told : ToldLoops) → IsToldKernel text k known whole told
    → IsJudged text k (data_known known (length k.variables)) (lines_known known) whole → AreParallelLoops text (data_known known (length k.variables)) k loops → HasLoops text k loops told.scans.items told.doacross.items
unfolding has_passed
has_loops text k known whole loops told its judged listed =
    let stands = its.stands in
    record {
      passed = has_passed text k known whole stands judged;
      listed = subst (λ (R : LineData). AreParallelLoops text R k loops) (sym stands.roles) listed;
      scans_are = its.scans_are;
      nests_are = its.nests_are;
    }

-- a kernel whose directives are attached, with its regions dissolved
pub line_kernel : (text : List ℕ) (tree k : Kernel) (ds : Directives) (known : Known) (whole : Whole) → ReadsText text tree → IsAttached text tree ds → unknown_among text tree.body ≡ None → clauses_counted text tree ds ≡ lines_known known
    → data_counted text tree ds ≡ data_known known (length tree.variables) → k ≡ alone text tree → whole ≡ whole_found text (lines_known known) tree → IsLineKernel text k known whole
line_kernel text tree k ds known whole reads attached told clauses roles is found =
    record {
      reads = record { whole = tree; reads = reads; left_out = is_left_out text; is = is };
      directives = ds;
      attached = attached;
      all_known = told;
      clauses = clauses;
      roles = roles ∙ ap (λ (j : Kernel). data_known known (length j.variables)) (sym is);
      dissolved = is;
      found = ap (λ (lines : Lines). whole_found text lines tree) clauses ∙ sym found;
    }

-- and the loops of its scans, and its doacross nests
pub told_kernel : (text : List ℕ) (tree k : Kernel) (ds : Directives) (known : Known) (whole : Whole) (told : ToldLoops) → ReadsText text tree → IsAttached text tree ds → unknown_among text tree.body ≡ None → clauses_counted text tree ds ≡ lines_known known
    → data_counted text tree ds ≡ data_known known (length tree.variables) → k ≡ alone text tree → whole ≡ whole_found text (lines_known known) tree → map scan_part told.scans.items ≡ scans_of text (lines_known known) tree
    → map nest_part told.doacross.items ≡ doacross_of text (lines_known known) tree → IsToldKernel text k known whole told
unfolding line_kernel
told_kernel text tree k ds known whole told reads attached all_known clauses roles is found scans nests =
    record {
      stands = line_kernel text tree k ds known whole reads attached all_known clauses roles is found;
      scans_are = scans ∙ ap (λ (lines : Lines). scans_of text lines tree) (sym clauses);
      nests_are = nests ∙ ap (λ (lines : Lines). doacross_of text lines tree) (sym clauses);
    }

-- it is refused
pub alone_refused : (text : List ℕ) (tree k : Kernel) (ds : Directives) (known : Known) (whole : Whole) (r : Refusal) → IsAttached text tree ds → unknown_among text tree.body ≡ None → clauses_counted text tree ds ≡ lines_known known
    → data_counted text tree ds ≡ data_known known (length tree.variables) → k ≡ alone text tree → whole ≡ whole_found text (lines_known known) tree
    → RefusesAlone text k (data_known known (length k.variables)) (lines_known known) whole r → RefusesKernel text tree r
alone_refused text tree k ds known whole r attached told clauses roles is found refused =
    let there = subst (λ (j : Kernel). RefusesAlone text j (data_known known (length j.variables)) (lines_known known) whole r) is refused in
    let by_lines = subst (λ (lines : Lines). RefusesAlone text (alone text tree) (data_known known (length tree.variables)) lines whole r) (sym clauses) there in
    let by_roles = subst (λ (R : LineData). RefusesAlone text (alone text tree) R (clauses_counted text tree ds) whole r) (sym roles) by_lines in
    let by_whole = subst (λ (w : Whole). RefusesAlone text (alone text tree) (data_counted text tree ds) (clauses_counted text tree ds) w r) (found ∙ ap (λ (lines : Lines). whole_found text lines tree) (sym clauses)) by_roles in
    inr (ds, attached, inr (told, by_whole))

-- one of its directives is not known
pub unknown_refused : (text : List ℕ) (tree : Kernel) (ds : Directives) (r : Refusal) → IsAttached text tree ds → RefusesUnknown text tree r → RefusesKernel text tree r
unknown_refused text tree ds r attached refused = inr (ds, attached, inl refused)

-- data that are wrong, or the whole, whichever is told
pub either_refused : (text : List ℕ) (tree : Kernel) (R : LineData) (lines : Lines) (whole : Whole) (one other r : Refusal) → RefusesWhole whole one
    → RefusesScalars text tree R other ⊎ RefusesClauses lines tree other → (r ≡ one) ⊎ (r ≡ other) → RefusesData text tree R lines whole r
either_refused text tree R lines whole one other r told refused (inl e) = subst (λ (q : Refusal). RefusesData text tree R lines whole q) (sym e) (inr (inr told))
either_refused text tree R lines whole one other r told (inl scalars) (inr e) = subst (λ (q : Refusal). RefusesData text tree R lines whole q) (sym e) (inl scalars)
either_refused text tree R lines whole one other r told (inr clauses) (inr e) = subst (λ (q : Refusal). RefusesData text tree R lines whole q) (sym e) (inr (inl clauses))

-- what is kept stands for the text
pub stands_for : (text : List ℕ) (tree : Kernel) (p : Program) → ReadsText text tree → IsOfKernel text tree p → StandsFor text (tree_of p)
stands_for text tree p reads is =
    subst (StandsFor text) (sym (ap strip is.kernel_is ∙ stripped_trees_are_one (is_left_out text) tree)) (text_erased reads)
