-- The input phases of scans, as they stand in the bodies of loops.
use Rattle.std.specs.Prelude.{ℕ, Bool, true, false, ◌≡◌, ◌||◌, if◌then◌else◌, List, [], ◌∷◌, ◌++◌, take, drop, None}
use Rattle.std.proofs.Common.{refl, sym, ap, ◌∙◌, subst, append_assoc}
use Rattle.std.proofs.lemmas.Bool.{true≢false}
use Rattle.semantics.specs.Tree
use Rattle.semantics.specs.Tree.{Stmt}
use Rattle.semantics.specs.Meaning.Agrees.{declared_in, declared_among}
use Rattle.semantics.specs.Meaning.Runs.{declared, run, run_items}
use Rattle.ktree.specs.View.{stmt_of, items_of}
use Rattle.ktree.specs.declared.statement.Item.{Item, Directive, Local, Statement'}
use Rattle.pragma.specs.Plain.{has_line, has_line_among}
use Rattle.flow.specs.Phases.{item_count}
use Rattle.law_scans.specs.Phases.{joined_items, bare, input_of}
use Rattle.law_scans.specs.Scanning.{first_of}
use Rattle.lower_code.specs.declared.laid.Laid.{Laid}
use Rattle.lower_machine.specs.declared.term.Code.{Code, Nothing}
use Rattle.lower_code.specs.Meaning.{AreLocals, Does}
use Rattle.lower_code.proofs.Doing.{then_does, nothing_declares}
use Rattle.lower_code.proofs.Whole.{locals_left, locals_right}
use Rattle.lower_block.specs.declared.tree.Compiled.{Compiled}
use Rattle.lower_run.specs.Walk.{Performs}
use Rattle.outline.specs.Handed.{IsInputOf, AreItemsCode}

-- ---- items that are cut

abbrev tail_of : Tree.Items → Tree.Items
tail_of Tree.no_items = Tree.no_items
tail_of (Tree.mark line rest) = rest
tail_of (Tree.local x name start rest) = rest
tail_of (Tree.stmt a rest) = rest

-- the first of them, with these behind it
abbrev headed : Tree.Items → Tree.Items → Tree.Items
headed Tree.no_items behind = behind
headed (Tree.mark line rest) behind = Tree.mark line behind
headed (Tree.local x name start rest) behind = Tree.local x name start behind
headed (Tree.stmt a rest) behind = Tree.stmt a behind

abbrev marked : Tree.Items → Bool
marked (Tree.mark line rest) = true
marked _ = false

abbrev some_items : Tree.Items → Bool
some_items Tree.no_items = false
some_items _ = true

right : (a b : Bool) → (a || b) ≡ false → b ≡ false
right true b e = absurd cc
right false b e = e

-- so many items as there are in front are those, and the others stand behind

pub front_taken : (items : List Item) (front back : Tree.Items) → items_of items ≡ joined_items front back → has_line_among (items_of items) ≡ false → items_of (take (item_count front) items) ≡ front
front_taken items Tree.no_items back e plain = refl
front_taken [] (Tree.mark line rest) back e plain = absurd (true≢false (sym (ap some_items e)))
front_taken [] (Tree.local x name start rest) back e plain = absurd (true≢false (sym (ap some_items e)))
front_taken [] (Tree.stmt a rest) back e plain = absurd (true≢false (sym (ap some_items e)))
front_taken (Directive place ∷ is) (Tree.mark line rest) back e plain = absurd (true≢false plain)
front_taken (Directive place ∷ is) (Tree.local x name start rest) back e plain = absurd (true≢false plain)
front_taken (Directive place ∷ is) (Tree.stmt a rest) back e plain = absurd (true≢false plain)
front_taken (Local l ∷ is) (Tree.mark line rest) back e plain = absurd (true≢false (sym (ap marked e)))
front_taken (Local l ∷ is) (Tree.local x name start rest) back e plain =
    ap (headed (items_of (Local l ∷ is))) (front_taken is rest back (ap tail_of e) plain) ∙ ap (λ t. headed t rest) e
front_taken (Local l ∷ is) (Tree.stmt a rest) back e plain =
    ap (headed (items_of (Local l ∷ is))) (front_taken is rest back (ap tail_of e) plain) ∙ ap (λ t. headed t rest) e
front_taken (Statement' p s ∷ is) (Tree.mark line rest) back e plain = absurd (true≢false (sym (ap marked e)))
front_taken (Statement' p s ∷ is) (Tree.local x name start rest) back e plain =
    ap (headed (items_of (Statement' p s ∷ is))) (front_taken is rest back (ap tail_of e) (right (has_line (stmt_of s)) (has_line_among (items_of is)) plain)) ∙ ap (λ t. headed t rest) e
front_taken (Statement' p s ∷ is) (Tree.stmt a rest) back e plain =
    ap (headed (items_of (Statement' p s ∷ is))) (front_taken is rest back (ap tail_of e) (right (has_line (stmt_of s)) (has_line_among (items_of is)) plain)) ∙ ap (λ t. headed t rest) e

pub back_left : (items : List Item) (front back : Tree.Items) → items_of items ≡ joined_items front back → has_line_among (items_of items) ≡ false → items_of (drop (item_count front) items) ≡ back
back_left items Tree.no_items back e plain = e
back_left [] (Tree.mark line rest) back e plain = absurd (true≢false (sym (ap some_items e)))
back_left [] (Tree.local x name start rest) back e plain = absurd (true≢false (sym (ap some_items e)))
back_left [] (Tree.stmt a rest) back e plain = absurd (true≢false (sym (ap some_items e)))
back_left (Directive place ∷ is) (Tree.mark line rest) back e plain = absurd (true≢false plain)
back_left (Directive place ∷ is) (Tree.local x name start rest) back e plain = absurd (true≢false plain)
back_left (Directive place ∷ is) (Tree.stmt a rest) back e plain = absurd (true≢false plain)
back_left (Local l ∷ is) (Tree.mark line rest) back e plain = absurd (true≢false (sym (ap marked e)))
back_left (Local l ∷ is) (Tree.local x name start rest) back e plain = back_left is rest back (ap tail_of e) plain
back_left (Local l ∷ is) (Tree.stmt a rest) back e plain = back_left is rest back (ap tail_of e) plain
back_left (Statement' p s ∷ is) (Tree.mark line rest) back e plain = absurd (true≢false (sym (ap marked e)))
back_left (Statement' p s ∷ is) (Tree.local x name start rest) back e plain = back_left is rest back (ap tail_of e) (right (has_line (stmt_of s)) (has_line_among (items_of is)) plain)
back_left (Statement' p s ∷ is) (Tree.stmt a rest) back e plain = back_left is rest back (ap tail_of e) (right (has_line (stmt_of s)) (has_line_among (items_of is)) plain)

abbrev block_items : Stmt → Tree.Items
block_items (Tree.Block items) = items
block_items _ = Tree.no_items

-- a block's items are cut where its input phase ends
pub is_input : (inclusive : Bool) (n : ℕ) (items : List Item) (body : Stmt) (part : Tree.Items) → body ≡ Tree.Block (items_of items) → has_line body ≡ false
    → part ≡ items_of (if inclusive then take n items else drop n items) → IsInputOf inclusive n body part
is_input inclusive n items body part block plain is front back whole count =
    is ∙ cut inclusive (sym count) (ap block_items (sym block ∙ whole)) (ap has_line (sym block) ∙ plain)
  where
    cut : (b : Bool) → n ≡ item_count front → items_of items ≡ joined_items front back → has_line_among (items_of items) ≡ false → items_of (if b then take n items else drop n items) ≡ input_of b front back
    cut true m e none = ap (λ k. items_of (take k items)) m ∙ front_taken items front back e none
    cut false m e none = ap (λ k. items_of (drop k items)) m ∙ back_left items front back e none

-- ---- code of an input phase

pub declared_joined : (front back : Tree.Items) → declared_among (joined_items front back) ≡ declared_among front ++ declared_among back
declared_joined Tree.no_items back = refl
declared_joined (Tree.mark line rest) back = declared_joined rest back
declared_joined (Tree.local x name start rest) back = ap (λ xs. x ∷ xs) (declared_joined rest back)
declared_joined (Tree.stmt a rest) back = ap (λ xs. declared_in a ++ xs) (declared_joined rest back) ∙ sym (append_assoc (declared_in a) (declared_among rest) (declared_among back))

module _ (layout : List Laid) (mark : ℕ) where
  -- declarations without values in front need no code
  bare_does : (front back : Tree.Items) (code : Code) → AreLocals layout mark (declared_among front) → Does layout mark (run_items back) code → Does layout mark (run_items (joined_items (bare front) back)) code
  bare_does Tree.no_items back code all does = does
  bare_does (Tree.mark line rest) back code all does = bare_does rest back code all does
  bare_does (Tree.local x name start rest) back code all does =
      then_does layout mark (λ s. declared s x None) (run_items (joined_items (bare rest) back)) Nothing code code (nothing_declares layout mark x Nothing all.0.0 all.0.1 (λ r. refl)) (bare_does rest back code all.1 does) (λ r. refl)
  bare_does (Tree.stmt a rest) back code all does = bare_does rest back code (locals_right layout mark (declared_in a) (declared_among rest) all) does

  -- code of the input phase does what the first pass runs
  pub first_performs : (inclusive : Bool) (front back part : Tree.Items) (code : Compiled) → part ≡ input_of inclusive front back → AreItemsCode layout mark part code → AreLocals layout mark (declared_among (joined_items front back))
      → Performs layout mark (run (first_of inclusive front back)) code
  first_performs inclusive front back part code is does all = at inclusive is
    where
      both : AreLocals layout mark (declared_among front ++ declared_among back)
      both = subst (AreLocals layout mark) (declared_joined front back) all

      first : AreLocals layout mark (declared_among front)
      first = locals_left layout mark (declared_among front) (declared_among back) both

      second : AreLocals layout mark (declared_among back)
      second = locals_right layout mark (declared_among front) (declared_among back) both

      behind : Performs layout mark (run_items back) code → Performs layout mark (run_items (joined_items (bare front) back)) code
      behind p = record { code = p.code; compiles = p.compiles; wide = p.wide; does = bare_does front back p.code first p.does }

      at : (b : Bool) → part ≡ input_of b front back → Performs layout mark (run (first_of b front back)) code
      at true e = subst (λ is. AreItemsCode layout mark is code) e does first
      at false e = behind (subst (λ is. AreItemsCode layout mark is code) e does second)
