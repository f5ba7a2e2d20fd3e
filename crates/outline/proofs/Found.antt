-- Directive lines among items, one after another.
use Rattle.std.specs.Prelude.{ℕ, Bool, true, false, ◌≡◌, ◌+◌, ◌<◌, ◌≤◌, ◌||◌, List, length, drop}
use Rattle.std.proofs.Common.{refl, sym, ap, ◌∙◌, get_or}
use Rattle.std.proofs.lemmas.List.{drop_all}
use Rattle.semantics.specs.Tree
use Rattle.ktree.specs.View.{stmt_of, items_of, with_item}
use Rattle.ktree.specs.declared.statement.Item.{Item, Directive, Local, Statement'}
use Rattle.ktree.proofs.Trees.{next_item}
use Rattle.pragma.specs.Plain.{has_line, has_line_among}

or_false : (b : Bool) → (b || false) ≡ b
or_false true = refl
or_false false = refl

grouped : (a b c : Bool) → ((a || b) || c) ≡ (a || (b || c))
grouped true b c = refl
grouped false b c = refl

-- one more item
item_line : (i : Item) (rest : Tree.Items) → has_line_among (with_item i rest) ≡ (has_line_among (with_item i Tree.no_items) || has_line_among rest)
item_line (Directive place) rest = refl
item_line (Local l) rest = refl
item_line (Statement' p s) rest = ap (λ b. b || has_line_among rest) (sym (or_false (has_line (stmt_of s))))

-- a line was found so far, or stands in the items that are left
abbrev pub HasLineIn : List Item → ℕ → Bool → Type 0
HasLineIn items n so_far = (so_far || has_line_among (items_of (drop n items))) ≡ has_line_among (items_of items)

pub line_on : (items : List Item) (n : ℕ) (i : Item) (so_far here next : Bool) → n < length items → i ≡ get_or items n i → HasLineIn items n so_far → here ≡ has_line_among (with_item i Tree.no_items) → next ≡ (so_far || here) → HasLineIn items (n + 1) next
line_on items n i so_far here next lt is before one two =
    let rest = has_line_among (items_of (drop (n + 1) items)) in
    ap (λ b. b || rest) (two ∙ ap (λ b. so_far || b) one)
    ∙ grouped so_far (has_line_among (with_item i Tree.no_items)) rest
    ∙ ap (λ b. so_far || b) (sym (ap has_line_among (next_item items n i lt is) ∙ item_line i (items_of (drop (n + 1) items))))
    ∙ before

pub line_over : (items : List Item) (n : ℕ) (so_far : Bool) → length items ≤ n → HasLineIn items n so_far → so_far ≡ has_line_among (items_of items)
line_over items n so_far le before = sym (or_false so_far) ∙ ap (λ xs. so_far || has_line_among (items_of xs)) (sym (drop_all n items le)) ∙ before
