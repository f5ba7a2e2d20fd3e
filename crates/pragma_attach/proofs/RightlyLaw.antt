-- Names that stand rightly by what is known of each line stand so by the directives.
use Rattle.std.specs.Prelude.{ℕ, Bool, true, false, not, ◌&&◌, ◌||◌, ◌≡◌, List, [], ◌∷◌, ◌++◌, filter, flat_map, cond, Option, Some, None}
use Rattle.std.specs.List.{list_any, list_all, AllByRecursion}
use Rattle.std.proofs.Common.{Box, Global, refl, sym, ap, ◌∙◌}
use Rattle.std.proofs.lemmas.List.Folds.{list_all-append}
use Rattle.std.proofs.lemmas.List.Elements.{recursion_from_All, All-from_recursion}
use Rattle.semantics.proofs.EraseTokenLaw.{first_of, second_of}
use Rattle.semantics.specs.Tree.{Variable, Stmt, Assign, Update, If, IfElse, For, Block, Print, Items, no_items, mark, local, stmt, Kernel}
use Rattle.semantics.specs.Source.Scope.{Scope, AVariable}
use Rattle.semantics.specs.Meaning.Agrees.{is_among, declared_in}
use Rattle.semantics.specs.Directives.Directive.{Clause}
use Rattle.semantics.specs.Directives.Annotated.{Directives, lines_in, lines_among, lines_of, clauses_at}
use Rattle.semantics.specs.Directives.Naming.{named_in, outside_of, variables_in, is_none, are_distinct, covers, kept_private, behind_line, constructs_in, constructs_among, variables_there, named_inside, NamesRightly, NameRightly}
use Rattle.ktree.specs.View.{stmt_of, with_item}
use Rattle.ktree.specs.declared.statement.Stmt.{Stmt as Code}
use Rattle.ktree.specs.declared.statement.Item.{Item, Statement}
use Rattle.pragma_named.specs.Known.{Lines}
use Rattle.pragma_named.specs.Lines.{line_in, Question, asked, each_construct, each_among}
use Rattle.pragma_attach.specs.Rightly.{is_wanted, are_wanted, line_wanted, names_inside, are_shared, is_covered, names_rightly, name_rightly}
use Rattle.pragma_attach.proofs.LinesLaw.{AllLines}

pub and_same : {a b c d : Bool} → a ≡ b → c ≡ d → (a && c) ≡ (b && d)
and_same {a} {b} {c} {d} p q = ap (λ x. x && c) p ∙ ap (λ x. b && x) q

and_swap : (a b : Bool) → (a && b) ≡ (b && a)
and_swap true true = refl
and_swap true false = refl
and_swap false true = refl
and_swap false false = refl

-- ---- a question to each construct is one to each of a list

module _ (ask : Question) where
  abbrev pub of_construct : ℕ × Stmt → Bool
  of_construct c = ask c.0 c.1

  line_asked : (before : Option ℕ) (s : Stmt) → asked ask before s ≡ list_all of_construct (behind_line before s)
  line_asked None s = refl
  line_asked (Some n) s = alone (ask n s)
    where
      alone : (b : Bool) → b ≡ (b && true)
      alone true = refl
      alone false = refl

  mutual
    pub each_in : (s : Stmt) → each_construct ask s ≡ list_all of_construct (constructs_in s)
    each_in (Assign x is e) = refl
    each_in (Update x is op e) = refl
    each_in (If c a) = each_in a
    each_in (IfElse c a b) = and_same (each_in a) (each_in b) ∙ sym (list_all-append of_construct (constructs_in a) (constructs_in b))
    each_in (For x name start test step body) = each_in body
    each_in (Block items) = each_of None items
    each_in (Print parts) = refl

    pub each_of : (before : Option ℕ) (items : Items) → each_among ask before items ≡ list_all of_construct (constructs_among before items)
    each_of before no_items = refl
    each_of before (mark n rest) = each_of (Some n) rest
    each_of before (local x name start rest) = each_of None rest
    each_of before (stmt s rest) =
        and_same (and_same (line_asked before s) (each_in s) ∙ sym (list_all-append of_construct (behind_line before s) (constructs_in s))) (each_of None rest)
        ∙ sym (list_all-append of_construct (behind_line before s ++ constructs_in s) (constructs_among None rest))

-- a statement, with the line before it
pub statement_asked : (ask : Question) (before : Option ℕ) (item : Item) (held : Box Code Global) (s : Code) → item ≡ Statement held → s ≡ held.value → (own inside both : Bool) → both ≡ (own && inside)
    → own ≡ asked ask before (stmt_of s) → inside ≡ each_construct ask (stmt_of s) → (rest : Items) → each_among ask before (with_item item rest) ≡ (both && each_among ask (line_in item) rest)
statement_asked ask before item held s e f own inside both b o i rest =
    ap (λ j. each_among ask before (with_item j rest)) e ∙ ap (λ t. asked ask before (stmt_of t) && each_construct ask (stmt_of t) && each_among ask None rest) (sym f)
    ∙ sym (and_same (b ∙ and_same o i) (ap (λ j. each_among ask (line_in j) rest) e))

-- ---- names in the clauses inside

wanted_flat : (P : Variable → Bool) (names : ℕ → List Variable) (cs : List (ℕ × Stmt)) → list_all (λ (c : ℕ × Stmt). list_all P (names c.0)) cs ≡ list_all P (flat_map (λ (c : ℕ × Stmt). names c.0) cs)
wanted_flat P names [] = refl
wanted_flat P names (c ∷ cs) =
    ap (λ b. list_all P (names c.0) && b) (wanted_flat P names cs) ∙ sym (list_all-append P (names c.0) (flat_map (λ (d : ℕ × Stmt). names d.0) cs))

pub inside_wanted : (wanted : Bool) (among : Variable → Bool) (lines : Lines) (s : Stmt) → each_construct (line_wanted wanted among lines) s ≡ are_wanted wanted among (names_inside lines s)
inside_wanted wanted among lines s =
    each_in (line_wanted wanted among lines) s ∙ wanted_flat (λ x. is_wanted wanted (among x)) (λ n. flat_map variables_in (lines n)) (constructs_in s)

apart : (a b : Bool) → (not a && not b) ≡ not (a || b)
apart true b = refl
apart false b = refl

-- none of them is in a set
pub none_among : (set : ℕ → Bool) (ys xs : List Variable) → ((q : ℕ) → set q ≡ is_among ys q) → are_wanted false set xs ≡ not (list_any (is_among ys) xs)
none_among set ys [] e = refl
none_among set ys (x ∷ xs) e =
    and_same (ap not (e x)) (none_among set ys xs e) ∙ apart (is_among ys x) (list_any (is_among ys) xs)

same_all : (f g : Variable → Bool) (xs : List Variable) → ((q : ℕ) → f q ≡ g q) → list_all f xs ≡ list_all g xs
same_all f g [] e = refl
same_all f g (x ∷ xs) e = and_same (e x) (same_all f g xs e)

true_or : (b : Bool) → (b || true) ≡ true
true_or true = refl
true_or false = refl

false_or : (b : Bool) → (b || false) ≡ b
false_or true = refl
false_or false = refl

filtered_one : (listed : Variable → Bool) (x : Variable) (all : Bool) (left : List Variable) → all ≡ list_all listed left → (own : Bool)
    → ((listed x || own) && all) ≡ list_all listed (cond (not own) (x ∷ left) left)
filtered_one listed x all left e true = ap (λ b. b && all) (true_or (listed x)) ∙ e
filtered_one listed x all left e false = and_same (false_or (listed x)) e

-- to be listed or own is to be listed, of those that are not own
all_filtered : (own listed : Variable → Bool) (xs : List Variable) → list_all (λ x. listed x || own x) xs ≡ list_all listed (filter (λ x. not (own x)) xs)
all_filtered own listed [] = refl
all_filtered own listed (x ∷ xs) = filtered_one listed x (list_all (λ y. listed y || own y) xs) (filter (λ y. not (own y)) xs) (all_filtered own listed xs) (own x)

-- default(none) is met
pub covered : (cs : List (Clause Variable)) (listed with_own : ℕ → Bool) (s : Stmt) (inside : List Variable) → list_any is_none cs ≡ true → ((q : ℕ) → listed q ≡ is_among (flat_map variables_in cs) q)
    → ((q : ℕ) → with_own q ≡ (listed q || is_among (declared_in s) q)) → (are_wanted true listed inside && list_all with_own (named_in s)) ≡ covers cs (outside_of s ++ inside)
covered cs listed with_own s inside none e f =
    let L : Variable → Bool = is_among (flat_map variables_in cs) in
    let D : Variable → Bool = is_among (declared_in s) in
    let outside : list_all with_own (named_in s) ≡ list_all L (outside_of s) =
    same_all with_own (λ x. L x || D x) (named_in s) (λ q. f q ∙ ap (λ b. b || D q) (e q)) ∙ all_filtered D L (named_in s) in
    and_same (same_all listed L inside e) outside ∙ and_swap (list_all L inside) (list_all L (outside_of s)) ∙ sym (list_all-append L (outside_of s) inside)
    ∙ sym (ap (λ b. not b || list_all L (outside_of s ++ inside)) none)

-- ---- constructs with what is known of their lines

both : (P : ℕ × Stmt → Type 0) (cs es : List (ℕ × Stmt)) → AllByRecursion P cs → AllByRecursion P es → AllByRecursion P (cs ++ es)
both P [] es h k = k
both P (c ∷ cs) es h k = (h.0, both P cs es h.1 k)

front : (P : ℕ → Type 0) (ls ms : List (ℕ × Scope)) → AllLines P (ls ++ ms) → AllLines P ls
front P [] ms h = tt
front P (l ∷ ls) ms h = (h.0, front P ls ms h.1)

back : (P : ℕ → Type 0) (ls ms : List (ℕ × Scope)) → AllLines P (ls ++ ms) → AllLines P ms
back P [] ms h = h
back P (l ∷ ls) ms h = back P ls ms h.1

module _ (P : ℕ → Type 0) where
  -- so it is of a line, if there is one
  abbrev Before : Option ℕ → Type 0
  Before None = Unit {0}
  Before (Some n) = P n

  abbrev OfLine : ℕ × Stmt → Type 0
  OfLine c = P c.0

  -- of a construct's line, and of those inside
  abbrev pub Good : ℕ × Stmt → Type 0
  Good c = P c.0 × AllByRecursion OfLine (constructs_in c.1)

  one_line : (before : Option ℕ) (s : Stmt) → Before before → AllByRecursion OfLine (behind_line before s)
  one_line None s h = tt
  one_line (Some n) s h = (h, tt)

  mutual
    lines_inside : (scope : Scope) (s : Stmt) → AllLines P (lines_in scope s) → AllByRecursion OfLine (constructs_in s)
    lines_inside scope (Assign x is e) h = tt
    lines_inside scope (Update x is op e) h = tt
    lines_inside scope (If c a) h = lines_inside scope a h
    lines_inside scope (IfElse c a b) h =
        both OfLine (constructs_in a) (constructs_in b) (lines_inside scope a (front P (lines_in scope a) (lines_in scope b) h)) (lines_inside scope b (back P (lines_in scope a) (lines_in scope b) h))
    lines_inside scope (For x name start test step body) h = lines_inside ((name, AVariable x 0) ∷ scope) body h
    lines_inside scope (Block items) h = lines_of_items scope None items tt h
    lines_inside scope (Print parts) h = tt

    lines_of_items : (scope : Scope) (before : Option ℕ) (items : Items) → Before before → AllLines P (lines_among scope items) → AllByRecursion OfLine (constructs_among before items)
    lines_of_items scope before no_items b h = tt
    lines_of_items scope before (mark n rest) b h = lines_of_items scope (Some n) rest h.0 h.1
    lines_of_items scope before (local x name start rest) b h = lines_of_items ((name, AVariable x 0) ∷ scope) None rest tt h
    lines_of_items scope before (stmt s rest) b h =
        both OfLine (behind_line before s ++ constructs_in s) (constructs_among None rest)
        (both OfLine (behind_line before s) (constructs_in s) (one_line before s b) (lines_inside scope s (front P (lines_in scope s) (lines_among scope rest) h)))
        (lines_of_items scope None rest tt (back P (lines_in scope s) (lines_among scope rest) h))

  one_good : (scope : Scope) (before : Option ℕ) (s : Stmt) → Before before → AllLines P (lines_in scope s) → AllByRecursion Good (behind_line before s)
  one_good scope None s b h = tt
  one_good scope (Some n) s b h = ((b, lines_inside scope s h), tt)

  mutual
    good_inside : (scope : Scope) (s : Stmt) → AllLines P (lines_in scope s) → AllByRecursion Good (constructs_in s)
    good_inside scope (Assign x is e) h = tt
    good_inside scope (Update x is op e) h = tt
    good_inside scope (If c a) h = good_inside scope a h
    good_inside scope (IfElse c a b) h =
        both Good (constructs_in a) (constructs_in b) (good_inside scope a (front P (lines_in scope a) (lines_in scope b) h)) (good_inside scope b (back P (lines_in scope a) (lines_in scope b) h))
    good_inside scope (For x name start test step body) h = good_inside ((name, AVariable x 0) ∷ scope) body h
    good_inside scope (Block items) h = good_among scope None items tt h
    good_inside scope (Print parts) h = tt

    pub good_among : (scope : Scope) (before : Option ℕ) (items : Items) → Before before → AllLines P (lines_among scope items) → AllByRecursion Good (constructs_among before items)
    good_among scope before no_items b h = tt
    good_among scope before (mark n rest) b h = good_among scope (Some n) rest h.0 h.1
    good_among scope before (local x name start rest) b h = good_among ((name, AVariable x 0) ∷ scope) None rest tt h
    good_among scope before (stmt s rest) b h =
        let here = front P (lines_in scope s) (lines_among scope rest) h in
        both Good (behind_line before s ++ constructs_in s) (constructs_among None rest) (both Good (behind_line before s) (constructs_in s) (one_good scope before s b here) (good_inside scope s here))
        (good_among scope None rest tt (back P (lines_in scope s) (lines_among scope rest) h))

-- ---- names that stand rightly

not_true : (b : Bool) → not b ≡ true → b ≡ false
not_true true e = absurd (cc e)
not_true false e = refl

same_Some : {a b : List (Clause Variable)} → Some a ≡ Some b → a ≡ b
same_Some e = cc e

module _ (tree : Kernel) (ds : Directives) (lines : Lines) where
  -- what is known of a line is what its directive has, and no variable stands twice there
  abbrev pub Knows : ℕ → Type 0
  Knows n = (clauses_at tree ds n ≡ Some (lines n)) × (are_distinct (flat_map variables_in (lines n)) ≡ true)

  same_inside : (cs : List (ℕ × Stmt)) → AllByRecursion (λ (c : ℕ × Stmt). Knows c.0) cs
      → flat_map (λ (c : ℕ × Stmt). variables_there (clauses_at tree ds c.0)) cs ≡ flat_map (λ (c : ℕ × Stmt). flat_map variables_in (lines c.0)) cs
  same_inside [] h = refl
  same_inside (c ∷ cs) h =
      ap (λ o. variables_there o ++ flat_map (λ (d : ℕ × Stmt). variables_there (clauses_at tree ds d.0)) cs) h.0.0
      ∙ ap (λ xs. flat_map variables_in (lines c.0) ++ xs) (same_inside cs h.1)

  one_right : (c : ℕ × Stmt) → Good Knows c → names_rightly lines c.0 c.1 ≡ true → NamesRightly tree ds c
  one_right c g h =
      let cs = lines c.0 in
      let same : named_inside tree ds c.1 ≡ names_inside lines c.1 = same_inside (constructs_in c.1) g.1 in
      record {
        clauses = cs;
        are = g.0.0;
        once = g.0.1;
        shared =
            ap (list_any (is_among (flat_map kept_private cs))) same
            ∙ not_true (list_any (is_among (flat_map kept_private cs)) (names_inside lines c.1)) (first_of (are_shared lines cs c.1) (is_covered lines cs c.1) h);
        covered = ap (λ xs. covers cs (outside_of c.1 ++ xs)) same ∙ second_of (are_shared lines cs c.1) (is_covered lines cs c.1) h;
      }

  one_back : (c : ℕ × Stmt) → Good Knows c → NamesRightly tree ds c → names_rightly lines c.0 c.1 ≡ true
  one_back c g h =
      let same : names_inside lines c.1 ≡ named_inside tree ds c.1 = sym (same_inside (constructs_in c.1) g.1) in
      let here : lines c.0 ≡ h.clauses = same_Some (sym g.0.0 ∙ h.are) in
      let shared : are_shared lines (lines c.0) c.1 ≡ true =
      ap (λ cs. are_shared lines cs c.1) here ∙ ap (λ xs. not (list_any (is_among (flat_map kept_private h.clauses)) xs)) same ∙ ap not h.shared in
      let covered : is_covered lines (lines c.0) c.1 ≡ true = ap (λ cs. is_covered lines cs c.1) here ∙ ap (λ xs. covers h.clauses (outside_of c.1 ++ xs)) same ∙ h.covered in
      and_same shared covered

  all_right : (cs : List (ℕ × Stmt)) → AllByRecursion (Good Knows) cs → list_all (of_construct (names_rightly lines)) cs ≡ true → AllByRecursion (NamesRightly tree ds) cs
  all_right [] g h = tt
  all_right (c ∷ cs) g h = (
    one_right c g.0 (first_of (names_rightly lines c.0 c.1) (list_all (of_construct (names_rightly lines)) cs) h),
    all_right cs g.1 (second_of (names_rightly lines c.0 c.1) (list_all (of_construct (names_rightly lines)) cs) h),
  )

  all_back : (cs : List (ℕ × Stmt)) → AllByRecursion (Good Knows) cs → AllByRecursion (NamesRightly tree ds) cs → list_all (of_construct (names_rightly lines)) cs ≡ true
  all_back [] g h = refl
  all_back (c ∷ cs) g h = and_same (one_back c g.0 h.0) (all_back cs g.1 h.1)

  all_good : AllLines Knows (lines_of tree) → AllByRecursion (Good Knows) (constructs_among None tree.body)
  all_good h = good_among Knows _ None tree.body tt h

  pub rightly_named : AllLines Knows (lines_of tree) → name_rightly lines tree ≡ true → NameRightly tree ds
  rightly_named k h =
      All-from_recursion (NamesRightly tree ds) (constructs_among None tree.body)
      (all_right (constructs_among None tree.body) (all_good k) (sym (each_of (names_rightly lines) None tree.body) ∙ h))

  pub named_back : AllLines Knows (lines_of tree) → NameRightly tree ds → name_rightly lines tree ≡ true
  named_back k h =
      each_of (names_rightly lines) None tree.body
      ∙ all_back (constructs_among None tree.body) (all_good k) (recursion_from_All (NamesRightly tree ds) (constructs_among None tree.body) h)
