-- What directive lines add to the list of regions.
use Rattle.std.specs.Prelude.{ℕ, ◌≡◌, ◌+◌, ◌<◌, ◌⊎◌, List, [], ◌∷◌, ◌++◌, map, length, get_or, drop, Option, Some, Result, OnOk}
use Rattle.std.specs.Global.{Vec}
use Rattle.std.proofs.Common.{sym, ap, ◌∙◌, subst, inl, inr, append-nil}
use Rattle.semantics.specs.Tree.{Name, Stmt}
use Rattle.semantics.specs.Source.Text.{line_at}
use Rattle.semantics.specs.Directives.Directive.{Directive}
use Rattle.semantics.specs.Directives.DirectiveGrammar.{ReadsLine}
use Rattle.ktree.specs.View.{with_item, items_of}
use Rattle.ktree.specs.DirectiveView.{name_of, directive_of}
use Rattle.ktree.specs.declared.directive.Written.{Written}
use Rattle.ktree.specs.declared.directive.Clause.{Clause}
use Rattle.ktree.specs.declared.directive.Directive as code
use Rattle.ktree.specs.declared.directive.Directive.TheVariants as kind
use Rattle.ktree.specs.declared.place.Place.{Place}
use Rattle.ktree.specs.declared.statement.Item.{Item}
use Rattle.ktree.proofs.Trees.{next_item}
use Rattle.pragma_clause.specs.Views.{written_clause}
use Rattle.pragma.specs.Clauses.{Said, said_by, loop_of}
use Rattle.pragma.specs.Reading.{ReadsNone}
use Rattle.pragma_attach.specs.Standing.{directive_on}
use Rattle.pragma_region.specs.declared.listing.RegionPart.{RegionPart}
use Rattle.pragma_region.specs.Listed.{LoopSaid, loop_with, one_loop, line_loop, directive_loop, shared_line, shared_among, shared_in, region_line, regions_among, parts_of, part_said, line_of, AddsParts, AddsShared, AddsRegions}
use Rattle.pragma_region.proofs.Lines.{line_on, none_on}

-- a line that is read, and one that is none
pub shared_read : (text here : List ℕ) (n : ℕ) (d : Directive Name) (s : Stmt) (loops : List LoopSaid) → ReadsLine (line_at text n) d → loops ≡ shared_line here (Some d) s → loops ≡ shared_line here (directive_on text n) s
shared_read text here n d s loops read is = is ∙ ap (λ o. shared_line here o s) (sym (line_on text n d read))

pub shared_none : (text here : List ℕ) (n : ℕ) (s : Stmt) → ReadsNone (line_at text n) → [] ≡ shared_line here (directive_on text n) s
shared_none text here n s none = ap (λ o. shared_line here o s) (sym (none_on text n none))

pub region_read : (text : List ℕ) (n : ℕ) (d : Directive Name) (s : Stmt) (inside regions : List (List LoopSaid)) → ReadsLine (line_at text n) d
    → regions ≡ region_line text (Some d) s (shared_in text s) inside → regions ≡ region_line text (directive_on text n) s (shared_in text s) inside
region_read text n d s inside regions read is = is ∙ ap (λ o. region_line text o s (shared_in text s) inside) (sym (line_on text n d read))

pub region_none : (text : List ℕ) (n : ℕ) (s : Stmt) (inside : List (List LoopSaid)) → ReadsNone (line_at text n) → inside ≡ region_line text (directive_on text n) s (shared_in text s) inside
region_none text n s inside none = ap (λ o. region_line text o s (shared_in text s) inside) (sym (none_on text n none))

-- one item more
pub shared_more : (text : List ℕ) (items : List Item) (i : ℕ) (item : Item) (line next : Option Place) (first before after : List RegionPart) (all : List (Option LoopSaid)) → i < length items → item ≡ get_or items i item
    → AddsShared text line (with_item item) next before after
    → map part_said before ++ map Some (shared_among text (line_of line) (items_of (drop i items))) ≡ map part_said first ++ all
    → map part_said after ++ map Some (shared_among text (line_of next) (items_of (drop (i + 1) items))) ≡ map part_said first ++ all
shared_more text items i item line next first before after all lt is adds was =
    adds (items_of (drop (i + 1) items)) ∙ ap (λ r. map part_said before ++ map Some (shared_among text (line_of line) r)) (sym (next_item items i item lt is)) ∙ was

pub regions_more : (text : List ℕ) (items : List Item) (i : ℕ) (item : Item) (line next : Option Place) (first before after : List RegionPart) (all : List (Option LoopSaid)) → i < length items → item ≡ get_or items i item
    → AddsRegions text line (with_item item) next before after
    → map part_said before ++ parts_of (regions_among text (line_of line) (items_of (drop i items))) ≡ map part_said first ++ all
    → map part_said after ++ parts_of (regions_among text (line_of next) (items_of (drop (i + 1) items))) ≡ map part_said first ++ all
regions_more text items i item line next first before after all lt is adds was =
    adds (items_of (drop (i + 1) items)) ∙ ap (λ r. map part_said before ++ parts_of (regions_among text (line_of line) r)) (sym (next_item items i item lt is)) ∙ was

-- a loop whose clauses are known
pub loop_added : {T E : Type 0} (q : Result T E) (text : List ℕ) (d : code.Directive Written) (cs : Vec (Clause Written)) (now : List (Clause Written)) (s : Stmt) (o : Option Said) (said : Said) (before after : List RegionPart)
    → (d ≡ kind.ParallelFor cs) ⊎ (d ≡ kind.For cs) → now ≡ cs.items → o ≡ Some said → o ≡ loop_of (directive_of name_of d)
    → OnOk q (AddsParts (Some (loop_with text said (map written_clause now) s) ∷ []) before after) → OnOk q (AddsParts (map Some (directive_loop text (directive_of name_of d) s)) before after)
loop_added q text d cs now s o said before after is same f e put =
    subst (λ loops. OnOk q (AddsParts (map Some loops) before after)) (by is) put
  where
    clauses : map written_clause now ≡ map written_clause cs.items
    clauses = ap (map written_clause) same

    one : Some said ≡ said_by (map written_clause cs.items) → loop_with text said (map written_clause now) s ∷ [] ≡ line_loop text (map written_clause cs.items) s
    one g = ap (λ xs. loop_with text said xs s ∷ []) clauses ∙ ap (λ p. one_loop text p (map written_clause cs.items) s) g

    by : (d ≡ kind.ParallelFor cs) ⊎ (d ≡ kind.For cs) → loop_with text said (map written_clause now) s ∷ [] ≡ directive_loop text (directive_of name_of d) s
    by (inl g) = one (sym f ∙ e ∙ ap (λ x. loop_of (directive_of name_of x)) g) ∙ sym (ap (λ x. directive_loop text (directive_of name_of x) s) g)
    by (inr g) = one (sym f ∙ e ∙ ap (λ x. loop_of (directive_of name_of x)) g) ∙ sym (ap (λ x. directive_loop text (directive_of name_of x) s) g)

-- no loop
pub none_added : (before : List RegionPart) (loops : List LoopSaid) → [] ≡ loops → AddsParts (map Some loops) before before
none_added before loops e = sym (append-nil (map part_said before)) ∙ ap (λ ls. map part_said before ++ map Some ls) e
