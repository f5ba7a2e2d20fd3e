-- Which lines are those of parallel regions, and what stays of a block's items.
use Rattle.std.specs.Prelude.{ℕ, Bool, false, ◌≡◌, if◌then◌else◌, List, [], ◌∷◌, ◌++◌, Option, Some, None}
use Rattle.std.proofs.Common.{refl, sym, ap, ◌∙◌, arith, length}
use Rattle.semantics.specs.Tree
use Rattle.semantics.specs.Tree.{Name, Items}
use Rattle.semantics.specs.Source.Text.{line_at}
use Rattle.semantics.specs.Directives.Directive.{Directive}
use Rattle.semantics.specs.Directives.DirectiveGrammar.{ReadsLine}
use Rattle.semantics.specs.Directives.Placed.{is_team}
use Rattle.ktree.specs.View.{with_item, items_of}
use Rattle.ktree.specs.declared.statement.Item.{Item}
use Rattle.pragma_attach.specs.Standing.{directive_on}
use Rattle.pragma_clause.proofs.DirectiveComplete.{line_read}
use Rattle.pragma_clause.proofs.DirectiveSound.{line_sound}
use Rattle.pragma.specs.Reading.{ReadsNone}
use Rattle.law_lines.specs.Without.{without_among}
use Rattle.pragma_region.specs.Regions.{is_region_line, is_ordered, is_ordered_line, is_scan, is_scan_line, is_doacross, is_doacross_line}

-- a line that is read as a directive
pub line_on : (text : List ℕ) (n : ℕ) (d : Directive Name) → ReadsLine (line_at text n) d → directive_on text n ≡ Some d
line_on text n d read = line_read (line_at text n) d read

-- and one that is none
pub none_on : (text : List ℕ) (n : ℕ) → ReadsNone (line_at text n) → directive_on text n ≡ None
none_on text n none = go (directive_on text n) refl
  where
    go : (o : Option (Directive Name)) → directive_on text n ≡ o → o ≡ None
    go None e = refl
    go (Some d) e = absurd (none d (line_sound (line_at text n) d e))

pub region_read : (text : List ℕ) (n : ℕ) (d : Directive Name) (b : Bool) → ReadsLine (line_at text n) d → b ≡ is_team (Some d) → b ≡ is_region_line text n
region_read text n d b read is = is ∙ ap is_team (sym (line_on text n d read))

pub region_none : (text : List ℕ) (n : ℕ) → ReadsNone (line_at text n) → false ≡ is_region_line text n
region_none text n none = ap is_team (sym (none_on text n none))

pub ordered_read : (text : List ℕ) (n : ℕ) (d : Directive Name) (b : Bool) → ReadsLine (line_at text n) d → b ≡ is_ordered (Some d) → b ≡ is_ordered_line text n
ordered_read text n d b read is = is ∙ ap is_ordered (sym (line_on text n d read))

pub ordered_none : (text : List ℕ) (n : ℕ) → ReadsNone (line_at text n) → false ≡ is_ordered_line text n
ordered_none text n none = ap is_ordered (sym (none_on text n none))

pub scan_read : (text : List ℕ) (n : ℕ) (d : Directive Name) (b : Bool) → ReadsLine (line_at text n) d → b ≡ is_scan (Some d) → b ≡ is_scan_line text n
scan_read text n d b read is = is ∙ ap is_scan (sym (line_on text n d read))

pub scan_none : (text : List ℕ) (n : ℕ) → ReadsNone (line_at text n) → false ≡ is_scan_line text n
scan_none text n none = ap is_scan (sym (none_on text n none))

pub doacross_read : (text : List ℕ) (n : ℕ) (d : Directive Name) (b : Bool) → ReadsLine (line_at text n) d → b ≡ is_doacross (Some d) → b ≡ is_doacross_line text n
doacross_read text n d b read is = is ∙ ap is_doacross (sym (line_on text n d read))

pub doacross_none : (text : List ℕ) (n : ℕ) → ReadsNone (line_at text n) → false ≡ is_doacross_line text n
doacross_none text n none = ap is_doacross (sym (none_on text n none))

-- these items in front of others
abbrev pub with_items : List Item → Items → Items
with_items [] rest = rest
with_items (i ∷ is) rest = with_item i (with_items is rest)

pub all_items : (is : List Item) → with_items is Tree.no_items ≡ items_of is
all_items [] = refl
all_items (i ∷ is) = ap (with_item i) (all_items is)

pub one_more : (is : List Item) (i : Item) (rest : Items) → with_items (is ++ i ∷ []) rest ≡ with_items is (with_item i rest)
one_more [] i rest = refl
one_more (j ∷ is) i rest = ap (with_item j) (one_more is i rest)

-- one of the items that are left is kept, as it is without such lines
pub kept_more : (out : ℕ → Bool) (kept kept' rest rest' : List Item) (i j : Item) (all : Items) → rest ≡ i ∷ rest' → kept' ≡ kept ++ j ∷ []
    → without_among out (with_item i (items_of rest')) ≡ with_item j (without_among out (items_of rest'))
    → with_items kept (without_among out (items_of rest)) ≡ all → with_items kept' (without_among out (items_of rest')) ≡ all
kept_more out kept kept' rest rest' i j all left more stays was =
    let behind = without_among out (items_of rest') in
    ap (λ ks. with_items ks behind) more ∙ one_more kept j behind ∙ ap (with_items kept) (sym stays) ∙ ap (λ r. with_items kept (without_among out (items_of r))) (sym left) ∙ was

-- a line that is no such line
pub line_kept : (out : ℕ → Bool) (line : ℕ) (rest : Items) → out line ≡ false → without_among out (Tree.mark line rest) ≡ Tree.mark line (without_among out rest)
line_kept out line rest e = ap (λ b. if b then without_among out rest else Tree.mark line (without_among out rest)) e

-- none is left
pub none_left : (out : ℕ → Bool) (kept rest : List Item) (all : Items) → length rest ≡ 0
    → with_items kept (without_among out (items_of rest)) ≡ all → with_items kept Tree.no_items ≡ all
none_left out kept [] all e was = was
none_left out kept (i ∷ rest) all e was = absurd (omega arith)
