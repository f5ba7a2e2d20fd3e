-- The directive lines of a text's tree rise, so that no two loops of scans stand behind lines of one number. (C11 5.1.1.2)
use Rattle.std.specs.Prelude.{ℕ, suc, Bool, true, false, not, ◌≡◌, ◌≤◌, ◌⊎◌, ◌==◌, ◌||◌, ◌++◌, if◌then◌else◌, List, [], ◌∷◌, Option, Some, None, codes}
use Rattle.std.proofs.Common.{refl, sym, ap, subst, inl, inr, arith}
use Rattle.std.proofs.lemmas.Bool.{and_from, eqb-true}
use Rattle.std.proofs.lemmas.List.{map-append, append-nil}
use Rattle.semantics.specs.Tree.{Stmt, Assign, Update, If, IfElse, For, Block, Print, Items, no_items, mark, local, stmt, Kernel}
use Rattle.semantics.specs.Source.Token.{Token, Word, IntegerConstant, StringLiteral, Punctuator, Header, Line, CloseParen, CloseBrace, Semicolon}
use Rattle.semantics.specs.Source.Scope.{Scope}
use Rattle.semantics.specs.Source.Cuts as cuts
use Rattle.semantics.specs.Source.Cuts.{Stands, Cuts}
use Rattle.semantics.specs.Source.Statements as grammar
use Rattle.semantics.specs.Source.Statements.{ReadsStmt, ReadsItems}
use Rattle.semantics.specs.Source.Grammar.{ReadsText, headers}
use Rattle.semantics.specs.Meaning.Agrees.{is_among}
use Rattle.law_roles.specs.Sharing.{are_different}
use Rattle.pragma_named.specs.Known.{Lines}
use Rattle.pragma_region.specs.Regions.{is_left_out}
use Rattle.flow_scan.specs.Parts.{Parts, body_parts}
use Rattle.nest_lines.specs.Lines.{line_before}
use Rattle.flow_scan.specs.Scans.{ScanPart, is_scan_loop, parts_at, parts_behind, parts_in, parts_among, scans_of}
use Rattle.flow_scan.proofs.TellLaw.{lines_of}

-- ---- numbers that rise

-- from this one on
abbrev Rise : ℕ → List ℕ → Type 0
Rise n [] = Unit {0}
Rise n (x ∷ xs) = (n ≤ x) × Rise (suc x) xs

rise_less : (n m : ℕ) (xs : List ℕ) → n ≤ m → Rise m xs → Rise n xs
rise_less n m [] le h = tt
rise_less n m (x ∷ xs) le h = (let lt = h.0 in omega arith, h.1)

-- some of them, in their order
abbrev Some_of : List ℕ → List ℕ → Type 0
Some_of [] ys = Unit {0}
Some_of (x ∷ xs) [] = ⊥
Some_of (x ∷ xs) (y ∷ ys) = ((x ≡ y) × Some_of xs ys) ⊎ Some_of (x ∷ xs) ys

all_of : (xs : List ℕ) → Some_of xs xs
all_of [] = tt
all_of (x ∷ xs) = inl (refl, all_of xs)

later_of : (xs : List ℕ) (y : ℕ) (ys : List ℕ) → Some_of xs ys → Some_of xs (y ∷ ys)
later_of [] y ys h = tt
later_of (x ∷ xs) y ys h = inr h

behind_of : (xs zs ys : List ℕ) → Some_of xs ys → Some_of xs (zs ++ ys)
behind_of xs [] ys h = h
behind_of xs (z ∷ zs) ys h = later_of xs z (zs ++ ys) (behind_of xs zs ys h)

both_of : (us vs xs ys : List ℕ) → Some_of us xs → Some_of vs ys → Some_of (us ++ vs) (xs ++ ys)
both_of [] vs xs ys h g = behind_of vs xs ys g
both_of (u ∷ us) vs [] ys h g = absurd h
both_of (u ∷ us) vs (x ∷ xs) ys (inl (e, h)) g = inl (e, both_of us vs xs ys h g)
both_of (u ∷ us) vs (x ∷ xs) ys (inr h) g = inr (both_of (u ∷ us) vs xs ys h g)

rise_some : (n : ℕ) (xs ys : List ℕ) → Some_of xs ys → Rise n ys → Rise n xs
rise_some n [] ys h r = tt
rise_some n (x ∷ xs) [] h r = absurd h
rise_some n (x ∷ xs) (y ∷ ys) (inl (e, h)) r = (let le = r.0 in omega (arith, e), subst (λ z. Rise (suc z) xs) (sym e) (rise_some (suc y) xs ys h r.1))
rise_some n (x ∷ xs) (y ∷ ys) (inr h) r = rise_some n (x ∷ xs) ys h (rise_less n (suc y) ys (let le = r.0 in omega arith) r.1)

none_below : (n x : ℕ) (xs : List ℕ) → Rise n xs → suc x ≤ n → is_among xs x ≡ false
none_below n x [] r lt = refl
none_below n x (y ∷ ys) r lt = at (y == x) refl (none_below (suc y) x ys r.1 (let le = r.0 in omega arith))
  where
    at : (b : Bool) → (y == x) ≡ b → is_among ys x ≡ false → (b || is_among ys x) ≡ false
    at true e rest = let same = eqb-true y x e in let le = r.0 in absurd (omega arith)
    at false e rest = rest

rising_different : (n : ℕ) (xs : List ℕ) → Rise n xs → are_different xs ≡ true
rising_different n [] r = refl
rising_different n (x ∷ xs) r = and_from (not (is_among xs x)) (are_different xs) (ap not (none_below (suc x) x xs r.1 (omega arith))) (rising_different (suc x) xs r.1)

-- ---- tokens

abbrev line_numbers : List Token → List ℕ
line_numbers [] = []
line_numbers (Line n ∷ ts) = n ∷ line_numbers ts
line_numbers (t ∷ ts) = line_numbers ts

numbers_append : (ts us : List Token) → line_numbers (ts ++ us) ≡ line_numbers ts ++ line_numbers us
numbers_append [] us = refl
numbers_append (Line n ∷ ts) us = ap (λ ns. n ∷ ns) (numbers_append ts us)
numbers_append (Word w ∷ ts) us = numbers_append ts us
numbers_append (IntegerConstant n suffix ∷ ts) us = numbers_append ts us
numbers_append (StringLiteral cs open' ∷ ts) us = numbers_append ts us
numbers_append (Punctuator s ∷ ts) us = numbers_append ts us
numbers_append (Header h ∷ ts) us = numbers_append ts us

-- those that are cut from a text rise
tokens_rise : {fresh : Bool} {n : ℕ} {bs : List ℕ} {ts : List Token} → Cuts fresh n bs ts → Rise n (line_numbers ts)
tokens_rise cuts.end = tt
tokens_rise (cuts.blank b r) = tokens_rise r
tokens_rise {n = n} (cuts.line_end {ts = ts} r) = rise_less n (suc n) (line_numbers ts) (omega arith) (tokens_rise r)
tokens_rise {n = n} (cuts.comment_line cs {ts = ts} c r) = rise_less n (suc n) (line_numbers ts) (omega arith) (tokens_rise r)
tokens_rise (cuts.comment cs c d r) = tokens_rise r
tokens_rise {n = n} (cuts.directive line a b c r) = (omega arith, tokens_rise r)
tokens_rise {n = n} (cuts.header line {ts = ts} a b r) = rise_less n (suc n) (line_numbers ts) (omega arith) (tokens_rise r)
tokens_rise (cuts.token (cuts.word a b) r) = tokens_rise r
tokens_rise (cuts.token (cuts.number ds suffix a b) r) = tokens_rise r
tokens_rise (cuts.token (cuts.text a) r) = tokens_rise r
tokens_rise (cuts.token (cuts.symbol a) r) = tokens_rise r

-- ---- trees

abbrev mutual
  marks_in : Stmt → List ℕ
  marks_in (Assign x is e) = []
  marks_in (Update x is op e) = []
  marks_in (If c a) = marks_in a
  marks_in (IfElse c a b) = marks_in a ++ marks_in b
  marks_in (For x name start test step body) = marks_in body
  marks_in (Block items) = marks_among items
  marks_in (Print parts) = []

  marks_among : Items → List ℕ
  marks_among no_items = []
  marks_among (mark n rest) = n ∷ marks_among rest
  marks_among (local x name start rest) = marks_among rest
  marks_among (stmt s rest) = marks_in s ++ marks_among rest

-- what stands behind other tokens, and before others
behind_tokens : (xs : List ℕ) (ts us : List Token) → Some_of xs (line_numbers us) → Some_of xs (line_numbers (ts ++ us))
behind_tokens xs ts us h = subst (Some_of xs) (sym (numbers_append ts us)) (behind_of xs (line_numbers ts) (line_numbers us) h)

both_tokens : (xs ys : List ℕ) (ts us : List Token) → Some_of xs (line_numbers ts) → Some_of ys (line_numbers us) → Some_of (xs ++ ys) (line_numbers (ts ++ us))
both_tokens xs ys ts us h g = subst (Some_of (xs ++ ys)) (sym (numbers_append ts us)) (both_of xs ys (line_numbers ts) (line_numbers us) h g)

before_tokens : (xs : List ℕ) (ts us : List Token) → Some_of xs (line_numbers ts) → Some_of xs (line_numbers (ts ++ us))
before_tokens xs ts us h = subst (λ ys. Some_of ys (line_numbers (ts ++ us))) (append-nil xs) (both_tokens xs [] ts us h tt)

mutual
  stmt_marks : {scope : Scope} {o next next' : ℕ} {ts : List Token} {s : Stmt} → ReadsStmt scope o next ts s next' → Some_of (marks_in s) (line_numbers ts)
  stmt_marks (grammar.assign t e) = tt
  stmt_marks (grammar.update t u e) = tt
  stmt_marks (grammar.if_only {a = a} {ts = ts} {us = us} less c r) = behind_tokens (marks_in a) ts (Punctuator CloseParen ∷ us) (stmt_marks r)
  stmt_marks (grammar.if_else {a = a} {b = b} {ts = ts} {us = us} {vs = vs} less c closed ra rb) =
      behind_tokens (marks_in a ++ marks_in b) ts (Punctuator CloseParen ∷ (us ++ Word (codes "else") ∷ vs)) (both_tokens (marks_in a) (marks_in b) us (Word (codes "else") ∷ vs) (stmt_marks ra) (stmt_marks rb))
  stmt_marks (grammar.for_loop {body = body} {ts = ts} {us = us} {vs = vs} {ws = ws} less free a b c r) =
      behind_tokens (marks_in body) ts (Punctuator Semicolon ∷ (us ++ Punctuator Semicolon ∷ (vs ++ Punctuator CloseParen ∷ ws)))
      (behind_tokens (marks_in body) us (Punctuator Semicolon ∷ (vs ++ Punctuator CloseParen ∷ ws)) (behind_tokens (marks_in body) vs (Punctuator CloseParen ∷ ws) (stmt_marks r)))
  stmt_marks (grammar.block {items = items} {ts = ts} less r) = before_tokens (marks_among items) ts (Punctuator CloseBrace ∷ []) (items_marks r)
  stmt_marks (grammar.print less f r fill) = tt

  items_marks : {scope : Scope} {o next next' : ℕ} {ts : List Token} {items : Items} → ReadsItems scope o next ts items next' → Some_of (marks_among items) (line_numbers ts)
  items_marks grammar.no_more = tt
  items_marks (grammar.line r) = inl (refl, items_marks r)
  items_marks (grammar.empty_local free r) = items_marks r
  items_marks (grammar.first_local {items = items} {ts = ts} {us = us} free e r) = behind_tokens (marks_among items) ts (Punctuator Semicolon ∷ us) (items_marks r)
  items_marks (grammar.statement {s = s} {items = items} {ts = ts} {us = us} ra r) = both_tokens (marks_in s) (marks_among items) ts us (stmt_marks ra) (items_marks r)

-- ---- the loops of scans

-- the line before, if one stands there
abbrev with_line : Option ℕ → List ℕ → List ℕ
with_line None ns = ns
with_line (Some n) ns = n ∷ ns

later_line : (before : Option ℕ) (xs ns : List ℕ) → Some_of xs ns → Some_of xs (with_line before ns)
later_line None xs ns h = h
later_line (Some n) xs ns h = later_of xs n ns h

module _ (text : List ℕ) (lines : Lines) where
  part_lines : (n : ℕ) (o : Option Parts) (ns : List ℕ) → Some_of (lines_of (parts_at n o)) (n ∷ ns)
  part_lines n None ns = tt
  part_lines n (Some p) ns = inl (refl, tt)

  behind_lines : (before : Option ℕ) (s : Stmt) (inside : List ScanPart) (ns : List ℕ) → Some_of (lines_of inside) ns → Some_of (lines_of (parts_behind text lines before s inside)) (with_line before ns)
  behind_lines None s inside ns h = h
  behind_lines (Some n) s inside ns h = at (is_scan_loop text lines n)
    where
      at : (b : Bool) → Some_of (lines_of (if b then parts_at n (body_parts text s) else inside)) (n ∷ ns)
      at true = part_lines n (body_parts text s) ns
      at false = later_of (lines_of inside) n ns h

  mutual
    in_marks : (s : Stmt) → Some_of (lines_of (parts_in text lines s)) (marks_in s)
    in_marks (Assign x is e) = tt
    in_marks (Update x is op e) = tt
    in_marks (If c a) = in_marks a
    in_marks (IfElse c a b) =
        subst (λ ns. Some_of ns (marks_in a ++ marks_in b)) (sym (map-append (λ (p : ScanPart). p.line) (parts_in text lines a) (parts_in text lines b)))
        (both_of (lines_of (parts_in text lines a)) (lines_of (parts_in text lines b)) (marks_in a) (marks_in b) (in_marks a) (in_marks b))
    in_marks (For x name start test step body) = in_marks body
    in_marks (Block items) = among_marks None items
    in_marks (Print parts) = tt

    among_marks : (before : Option ℕ) (items : Items) → Some_of (lines_of (parts_among text lines before items)) (with_line before (marks_among items))
    among_marks before no_items = tt
    among_marks before (mark n rest) = at (is_left_out text n) (among_marks (line_before text before n) rest)
      where
        at : (b : Bool) → Some_of (lines_of (parts_among text lines (if b then before else Some n) rest)) (with_line (if b then before else Some n) (marks_among rest))
            → Some_of (lines_of (parts_among text lines (if b then before else Some n) rest)) (with_line before (n ∷ marks_among rest))
        at true h = dropped before (lines_of (parts_among text lines before rest)) h
          where
            dropped : (o : Option ℕ) (xs : List ℕ) → Some_of xs (with_line o (marks_among rest)) → Some_of xs (with_line o (n ∷ marks_among rest))
            dropped None xs g = later_of xs n (marks_among rest) g
            dropped (Some m) [] g = tt
            dropped (Some m) (x ∷ xs) (inl (e, g)) = inl (e, later_of xs n (marks_among rest) g)
            dropped (Some m) (x ∷ xs) (inr g) = inr (later_of (x ∷ xs) n (marks_among rest) g)
        at false h = later_line before (lines_of (parts_among text lines (Some n) rest)) (n ∷ marks_among rest) h
    among_marks before (local x name start rest) = later_line before (lines_of (parts_among text lines None rest)) (marks_among rest) (among_marks None rest)
    among_marks before (stmt s rest) =
        subst (λ ns. Some_of ns (with_line before (marks_in s ++ marks_among rest))) (sym (map-append (λ (p : ScanPart). p.line) (parts_behind text lines before s (parts_in text lines s)) (parts_among text lines None rest)))
        (joined before (both_of (lines_of (parts_behind text lines before s (parts_in text lines s))) (lines_of (parts_among text lines None rest)) (with_line before (marks_in s)) (marks_among rest)
        (behind_lines before s (parts_in text lines s) (marks_in s) (in_marks s)) (among_marks None rest)))
      where
        joined : (o : Option ℕ) → Some_of (lines_of (parts_behind text lines before s (parts_in text lines s)) ++ lines_of (parts_among text lines None rest)) (with_line o (marks_in s) ++ marks_among rest)
            → Some_of (lines_of (parts_behind text lines before s (parts_in text lines s)) ++ lines_of (parts_among text lines None rest)) (with_line o (marks_in s ++ marks_among rest))
        joined None h = h
        joined (Some n) h = h

  -- no two of a text's tree stand behind lines of one number
  pub scan_lines_differ : (k : Kernel) → ReadsText text k → are_different (lines_of (scans_of text lines k)) ≡ true
  scan_lines_differ k reads =
      let tokens = reads.tokens in
      let all : Rise 1 (line_numbers tokens) = tokens_rise reads.cut.cut in
      let marks : Some_of (marks_among k.body) (line_numbers reads.reads.body) = items_marks reads.reads.items in
      let parts : Some_of (lines_of (scans_of text lines k)) (marks_among k.body) = among_marks None k.body in
      rising_different 1 (lines_of (scans_of text lines k)) (rise_some 1 (lines_of (scans_of text lines k)) (marks_among k.body) parts (rise_some 1 (marks_among k.body) (line_numbers tokens) (within marks) all))
    where
      within : Some_of (marks_among k.body) (line_numbers reads.reads.body) → Some_of (marks_among k.body) (line_numbers reads.tokens)
      within h =
          subst (λ ts. Some_of (marks_among k.body) (line_numbers ts)) (sym reads.reads.all)
          (behind_tokens (marks_among k.body) (headers reads.reads.includes) _ (behind_tokens (marks_among k.body) reads.reads.decls _ (before_tokens (marks_among k.body) reads.reads.body (Punctuator CloseBrace ∷ []) h)))
