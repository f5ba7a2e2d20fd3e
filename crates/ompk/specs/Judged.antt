-- The kernel that the passes behind the directives judge. (OpenMP 5.2, 10.1)
use Rattle.std.specs.Prelude.{ℕ, Bool, true, ◌≡◌, is_none, List, None, map, length}
use Rattle.semantics.specs.Tree.{Kernel}
use Rattle.semantics.specs.Directives.Annotated.{Directives}
use Rattle.semantics.specs.Directives.Naming.{IsAttached}
use Rattle.law_lines.specs.Without.{IsTreeOf}
use Rattle.ktree.specs.View.{kernel_of}
use Rattle.pragma_named.specs.Known.{Known, Lines, lines_known}
use Rattle.pragma_region.specs.Regions.{alone}
use Rattle.pragma_region.specs.NotKnown.{unknown_among}
use Rattle.nest_lines.specs.Perfect.{has_perfect_nests}
use Rattle.flow.specs.Roles.{data_known}
use Rattle.flow_doacross.specs.Nests.{doacross_rightly}
use Rattle.flow_doacross.specs.Views.{nest_part}
use Rattle.flow_ordered.specs.Ordered.{prints_in_order}
use Rattle.flow_scan.specs.Scans.{scans_rightly}
use Rattle.flow_scan.specs.Views.{scan_part}
use Rattle.ompk.specs.declared.accepting.ToldLoops.{ToldLoops}
use Rattle.ompk.specs.declared.accepting.WholeFaults.{WholeFaults}
use Rattle.deptest.specs.Accepted.{Program, clauses_counted, data_counted, scans_counted, nests_counted}

-- what only a tree with all of its directive lines shows: whether nests are perfect, whether parallel loops print in order, whether scans have their phases, and doacross nests their sinks and their source
pub record Whole : Type 0 where
  pub perfect : Bool
  pub ordered : Bool
  pub phased : Bool
  pub nested : Bool

-- what is found of it
abbrev pub whole_of : WholeFaults → Whole
whole_of f = record { perfect = is_none f.imperfect; ordered = is_none f.disorder; phased = is_none f.misuse; nested = is_none f.doacross }

-- what there is to be found, by the clauses that count for each line
abbrev pub whole_found : List ℕ → Lines → Kernel → Whole
whole_found text lines k = record { perfect = has_perfect_nests text k; ordered = prints_in_order text k; phased = scans_rightly text lines k; nested = doacross_rightly text lines k }

-- nothing is wrong with what the pass over data tells
abbrev pub IsRight : Whole → Type 0
IsRight w = (w.ordered ≡ true) × (w.phased ≡ true) × (w.nested ≡ true)

-- a tree of a text, whose directives are attached to the whole of it, have no clause that is not run, and are dissolved in it; this is known of the clauses that count for each line, and of the whole
pub record IsLineKernel (text : List ℕ) (tree : Kernel) (known : Known) (whole : Whole) : Type 0 where
  pub reads : IsTreeOf text tree
  pub directives : Directives
  pub attached : IsAttached text reads.whole directives
  pub all_known : unknown_among text reads.whole.body ≡ None
  pub clauses : clauses_counted text reads.whole directives ≡ lines_known known
  pub roles : data_counted text reads.whole directives ≡ data_known known (length tree.variables)
  pub dissolved : tree ≡ alone text reads.whole
  pub found : whole_found text (clauses_counted text reads.whole directives) reads.whole ≡ whole

-- and these are the loops of its scans, and its doacross nests
pub record IsToldKernel (text : List ℕ) (tree : Kernel) (known : Known) (whole : Whole) (told : ToldLoops) : Type 0 where
  pub stands : IsLineKernel text tree known whole
  pub scans_are : map scan_part told.scans.items ≡ scans_counted text stands.reads.whole stands.directives
  pub nests_are : map nest_part told.doacross.items ≡ nests_counted text stands.reads.whole stands.directives

-- what is kept of a text that reads as a tree: the text, and the tree with its regions dissolved
pub record IsOfKernel (text : List ℕ) (tree : Kernel) (p : Program) : Type 0 where
  pub text_is : p.text ≡ text
  pub kernel_is : kernel_of p.kernel ≡ alone text tree
