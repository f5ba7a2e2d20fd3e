-- A loop's body, cut at its `scan` line. (OpenMP 5.2, 5.6)
use Rattle.std.specs.Prelude.{ℕ, suc, Bool, true, false, List, Option, Some, None, option_map}
use Rattle.semantics.specs.Tree.{Stmt, For, Block, Items, no_items, mark, local, stmt}
use Rattle.flow_scan.specs.Lines.{ScanSaid, scan_on}

-- what the line says, and the items in front of it and behind it
pub record Parts : Type 0 where
  pub said : ScanSaid
  pub front : Items
  pub back : Items

-- one item more in front
abbrev pub behind_item : (Items → Items) → Parts → Parts
behind_item item p = record { said = p.said; front = item p.front; back = p.back }

-- at this line, or else further on
abbrev pub cut_here : Option ScanSaid → Items → Option Parts → Option Parts
cut_here None rest further = further
cut_here (Some said) rest further = Some (record { said = said; front = no_items; back = rest })

-- items, cut at the first `scan` line among them
abbrev pub cut : List ℕ → Items → Option Parts
cut text no_items = None
cut text (mark n rest) = cut_here (scan_on text n) rest (option_map (behind_item (mark n)) (cut text rest))
cut text (local x name start rest) = option_map (behind_item (local x name start)) (cut text rest)
cut text (stmt s rest) = option_map (behind_item (stmt s)) (cut text rest)

-- of a block alone
abbrev pub block_parts : List ℕ → Stmt → Option Parts
block_parts text (Block items) = cut text items
block_parts text _ = None

-- of a loop's body
abbrev pub body_parts : List ℕ → Stmt → Option Parts
body_parts text (For x name start test step body) = block_parts text body
body_parts text _ = None

-- a statement is among items: a declaration is none (C11 6.8.2)
abbrev pub has_statement : Items → Bool
has_statement no_items = false
has_statement (mark n rest) = has_statement rest
has_statement (local x name start rest) = has_statement rest
has_statement (stmt s rest) = true

-- how many declarations and statements they are
abbrev pub count : Items → ℕ
count no_items = 0
count (mark n rest) = count rest
count (local x name start rest) = suc (count rest)
count (stmt s rest) = suc (count rest)
