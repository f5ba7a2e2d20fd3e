-- Lines whose names are resolved, one after another.
use Rattle.std.specs.Prelude.{ℕ, Bool, true, false, nat_eq, if◌then◌else◌, ◌≡◌, List, [], ◌∷◌, ◌++◌, Option, Some, None, option_map, is_some, string_bytes, flat_map, length, take, Result, Ok, Err, IfErr, IsTrue}
use Rattle.std.specs.HashMap.{HashMap, get}
use Rattle.std.specs.Map.{lookup}
use Rattle.std.proofs.Common.{Box, Global, refl, sym, ap, ◌∙◌, subst, arith}
use Rattle.std.proofs.lemmas.Bool.Decides.{nat_tests}
use Rattle.semantics.specs.Tree
use Rattle.semantics.specs.Tree.{Variable}
use Rattle.semantics.specs.Source.Scope.{Scope, AVariable}
use Rattle.semantics.specs.Directives.Directive.{Clause}
use Rattle.semantics.specs.Directives.Annotated.{lines_in, lines_among}
use Rattle.semantics.specs.Directives.Naming.{variables_in, are_distinct}
use Rattle.ktree.specs.View.{stmt_of, with_item}
use Rattle.ktree.specs.declared.place.Place.{Place}
use Rattle.ktree.specs.declared.expression.Cond.{Cond}
use Rattle.ktree.specs.declared.statement.Head.{Head}
use Rattle.ktree.specs.declared.statement.Stmt.{Stmt, If, For}
use Rattle.ktree.specs.declared.statement.Item.{Item, Directive, Statement}
use Rattle.pragma_named.specs.declared.table.Clauses.{Clauses}
use Rattle.pragma_attach.specs.declared.stop.Stop.{Stop}
use Rattle.pragma_attach.specs.declared.stop.Stop.TheVariants.{Memory, UnknownName, NamedTwice}
use Rattle.pragma_named.specs.Views.{resolved_clauses}
use Rattle.pragma_attach.specs.Resolved.{Fails}
use Rattle.pragma_named.specs.Known.{Known, kept}
use Rattle.pragma_attach.specs.Told.{or, told, tells_of, unless_twice, clauses_by, Carries, Misses, Blames}

-- a line of which nothing is kept
pub not_kept : {S : Type 0} (table : HashMap ℕ Clauses S) (n : ℕ) → is_some (get nat_eq table n) ≡ false → kept table n ≡ None
not_kept table n e = go (get nat_eq table n) e
  where
    go : (o : Option Clauses) → is_some o ≡ false → option_map (λ (c : Clauses). Some (resolved_clauses c.clauses)) o ≡ None
    go None e = refl
    go (Some c) e = absurd (cc e)

-- a line that is told first
told_first : (text : List ℕ) (n : ℕ) (scope : Scope) (rest : List (ℕ × Scope)) → told text ((n, scope) ∷ rest) n ≡ Some (clauses_by text scope n)
told_first text n scope rest = go (nat_eq n n) refl
  where
    go : (b : Bool) → nat_eq n n ≡ b → (if b then Some (clauses_by text scope n) else told text rest n) ≡ Some (clauses_by text scope n)
    go true e = refl
    go false e = absurd (grind (arith, nat_tests))

-- a line whose names are not resolved
pub missed : (text : List ℕ) (n : ℕ) (scope : Scope) (old : Known) (stop : Stop) → old n ≡ None → Fails stop (clauses_by text scope n)
    → Blames stop ((rest : List (ℕ × Scope)) → Misses text old ((n, scope) ∷ rest))
missed text n scope old Memory none f = tt
missed text n scope old (UnknownName place) none f = λ rest. (n, ap (λ o. or o (told text ((n, scope) ∷ rest) n)) none ∙ told_first text n scope rest ∙ ap Some f)
missed text n scope old (NamedTwice place) none f = λ rest. (n, ap (λ o. or o (told text ((n, scope) ∷ rest) n)) none ∙ told_first text n scope rest ∙ ap Some f)

-- ---- reasons to stop

pub blames_weaker : (stop : Stop) {P Q : Type 0} → (P → Q) → Blames stop P → Blames stop Q
blames_weaker Memory f h = tt
blames_weaker (UnknownName place) f h = f h
blames_weaker (NamedTwice place) f h = f h

pub err_weaker : {A : Type 0} (r : Result A Stop) {P Q : Type 0} → (P → Q) → IfErr r (λ stop. Blames stop P) → IfErr r (λ stop. Blames stop Q)
err_weaker (Ok x) f h = tt
err_weaker (Err stop) f h = blames_weaker stop f h

-- what a reason blames that tells of a name
blamed : (stop : Stop) (P : Type 0) → IsTrue (tells_of stop) → Blames stop P → P
blamed Memory P e h = absurd (cc e)
blamed (UnknownName place) P e h = h
blamed (NamedTwice place) P e h = h

-- who tells of a name only where another reason does blames the same
pub blamed_too : (first stop : Stop) (P : Type 0) → (IsTrue (tells_of first) → IsTrue (tells_of stop)) → Blames stop P → Blames first P
blamed_too Memory stop P f h = tt
blamed_too (UnknownName place) stop P f h = blamed stop P (f refl) h
blamed_too (NamedTwice place) stop P f h = blamed stop P (f refl) h

pub err_too : {A : Type 0} (r : Result A Stop) (stop : Stop) (P : Type 0) → Blames stop P → IfErr r (λ first. IsTrue (tells_of first) → IsTrue (tells_of stop)) → IfErr r (λ first. Blames first P)
err_too (Ok x) stop P h f = tt
err_too (Err first) stop P h f = blamed_too first stop P f h

-- ---- lines, and those behind them

pub behind : (ls ms rest : List (ℕ × Scope)) → ls ++ (ms ++ rest) ≡ (ls ++ ms) ++ rest
behind [] ms rest = refl
behind (l ∷ ls) ms rest = ap (λ ns. l ∷ ns) (behind ls ms rest)

-- what is missed behind lines that are carried is missed among all
pub carried_miss : (text : List ℕ) (old new : Known) (lines left : List (ℕ × Scope)) → Carries text old new lines left → Misses text new left → Misses text old lines
carried_miss text old new lines left c m = (m.0, sym (c m.0) ∙ m.1)

-- the lines of an item
pub directive_item : (item : Item) (place : Place) → item ≡ Directive place → (scope : Scope) (items : Tree.Items) → lines_among scope (with_item item items) ≡ (place.line, scope) ∷ lines_among scope items
directive_item item place e scope items = ap (λ i. lines_among scope (with_item i items)) e

pub statement_item : (item : Item) (held : Box Stmt Global) (s : Stmt) → item ≡ Statement held → s ≡ held.value → (scope : Scope) (items : Tree.Items) (rest : List (ℕ × Scope))
    → lines_in scope (stmt_of s) ++ (lines_among scope items ++ rest) ≡ lines_among scope (with_item item items) ++ rest
statement_item item held s e f scope items rest =
    behind (lines_in scope (stmt_of s)) (lines_among scope items) rest
    ∙ ap (λ t. lines_in scope (stmt_of t) ++ lines_among scope items ++ rest) f ∙ sym (ap (λ i. lines_among scope (with_item i items) ++ rest) e)

-- the lines of a loop are those of its body
pub loop_lines : (s : Stmt) (head : Head) (body : Box Stmt Global) (inner : Stmt) → s ≡ For head body → inner ≡ body.value → (scope : Scope)
    → lines_in ((string_bytes head.name, AVariable head.variable.0 0) ∷ scope) (stmt_of inner) ≡ lines_in scope (stmt_of s)
loop_lines s head body inner e f scope = ap (λ t. lines_in ((string_bytes head.name, AVariable head.variable.0 0) ∷ scope) (stmt_of t)) f ∙ sym (ap (λ t. lines_in scope (stmt_of t)) e)

-- the lines of the first branch come first
pub branch_lines : (s : Stmt) (c : Cond) (held_first : Box Stmt Global) (other : Option (Box Stmt Global)) (a : Stmt) → s ≡ If c held_first other → a ≡ held_first.value → (scope : Scope)
    → (more : List (ℕ × Scope)) × (lines_in scope (stmt_of a) ++ more ≡ lines_in scope (stmt_of s))
branch_lines s c held_first None a e f scope = ([], last (lines_in scope (stmt_of a)) ∙ ap (λ t. lines_in scope (stmt_of t)) f ∙ sym (ap (λ t. lines_in scope (stmt_of t)) e))
  where
    last : (ls : List (ℕ × Scope)) → ls ++ [] ≡ ls
    last [] = refl
    last (l ∷ ls) = ap (λ ms. l ∷ ms) (last ls)
branch_lines s c held_first (Some b) a e f scope =
    (lines_in scope (stmt_of b.value), ap (λ t. lines_in scope (stmt_of t) ++ lines_in scope (stmt_of b.value)) f ∙ sym (ap (λ t. lines_in scope (stmt_of t)) e))

pub first_missed : (text : List ℕ) (old : Known) (s : Stmt) (c : Cond) (held_first : Box Stmt Global) (other : Option (Box Stmt Global)) (a : Stmt) → s ≡ If c held_first other → a ≡ held_first.value → (scope : Scope)
    → ((rest : List (ℕ × Scope)) → Misses text old (lines_in scope (stmt_of a) ++ rest)) → (rest : List (ℕ × Scope)) → Misses text old (lines_in scope (stmt_of s) ++ rest)
first_missed text old s c held_first other a e f scope h rest =
    let more = branch_lines s c held_first other a e f scope in
    subst (Misses text old) (behind (lines_in scope (stmt_of a)) more.0 rest ∙ ap (λ ls. ls ++ rest) more.1) (h (more.0 ++ rest))

-- and those of the second behind them
pub second_lines : (s : Stmt) (c : Cond) (held_first : Box Stmt Global) (other : Option (Box Stmt Global)) (held : Box Stmt Global) (a b : Stmt) → s ≡ If c held_first other → other ≡ Some held → a ≡ held_first.value → b ≡ held.value
    → (scope : Scope) (rest : List (ℕ × Scope)) → lines_in scope (stmt_of a) ++ (lines_in scope (stmt_of b) ++ rest) ≡ lines_in scope (stmt_of s) ++ rest
second_lines s c held_first other held a b e o f g scope rest =
    behind (lines_in scope (stmt_of a)) (lines_in scope (stmt_of b)) rest
    ∙ ap (λ t. lines_in scope (stmt_of t) ++ lines_in scope (stmt_of b) ++ rest) f ∙ ap (λ t. lines_in scope (stmt_of held_first.value) ++ lines_in scope (stmt_of t) ++ rest) g
    ∙ sym (ap (λ t. lines_in scope (stmt_of t) ++ rest) (e ∙ ap (If c held_first) o))

-- what stands in front stays in front
pub front_then : {A : Type 0} (xs ys zs : List A) → take (length xs) ys ≡ xs → take (length ys) zs ≡ ys → take (length xs) zs ≡ xs
front_then [] ys zs e f = refl
front_then (x ∷ xs) [] zs e f = absurd (cc e)
front_then (x ∷ xs) (y ∷ ys) [] e f = absurd (cc f)
front_then {A} (x ∷ xs) (y ∷ ys) (z ∷ zs) e f =
    let head : z ≡ x = cc (e, f) in
    let one : take (length xs) ys ≡ xs = cc e in
    let two : take (length ys) zs ≡ ys = cc f in
    ap (λ (w : A). w ∷ take (length xs) zs) head ∙ ap (λ ws. x ∷ ws) (front_then xs ys zs one two)

-- ---- all lines

or_none : {A : Type 0} (o : Option A) → or o None ≡ o
or_none None = refl
or_none (Some x) = refl

no_more : (ls : List (ℕ × Scope)) → ls ++ [] ≡ ls
no_more [] = refl
no_more (l ∷ ls) = ap (λ ms. l ∷ ms) (no_more ls)

-- where nothing was known, all that is known is told by the lines
pub all_told : (text : List ℕ) (old new : Known) (ls lines : List (ℕ × Scope)) → ((n : ℕ) → old n ≡ None) → ls ≡ lines → Carries text old new (ls ++ []) [] → (n : ℕ) → new n ≡ told text lines n
all_told text old new ls lines none e c n =
    sym (or_none (new n)) ∙ c n ∙ ap (λ o. or o (told text (ls ++ []) n)) (none n) ∙ ap (λ ms. told text ms n) (no_more ls ∙ e)

pub one_missed : (text : List ℕ) (old : Known) (ls lines : List (ℕ × Scope)) → ((n : ℕ) → old n ≡ None) → ls ≡ lines → ((rest : List (ℕ × Scope)) → Misses text old (ls ++ rest)) → (n : ℕ) × (told text lines n ≡ Some None)
one_missed text old ls lines none e h =
    let m = h [] in
    (m.0, sym (ap (λ ms. told text ms m.0) (no_more ls ∙ e)) ∙ sym (ap (λ o. or o (told text (ls ++ []) m.0)) (none m.0)) ∙ m.1)

-- an empty table knows nothing
pub nothing_known : {S : Type 0} (table : HashMap ℕ Clauses S) → table.entries ≡ [] → (n : ℕ) → kept table n ≡ None
nothing_known table e n = ap (λ es. option_map (λ (c : Clauses). Some (resolved_clauses c.clauses)) (lookup (nat_eq n) es)) e

-- ---- clauses that name no variable twice

pub fails_twice : (stop : Stop) (o : Option (List (Clause Variable))) → Fails stop o → Fails stop (unless_twice o)
fails_twice Memory o f = tt
fails_twice (UnknownName place) o f = ap unless_twice f
fails_twice (NamedTwice place) o f = ap unless_twice f

pub named_once : (o : Option (List (Clause Variable))) (cs : List (Clause Variable)) (b : Bool) → o ≡ Some cs → b ≡ are_distinct (flat_map variables_in cs) → unless_twice o ≡ (if b then Some cs else None)
named_once o cs b e d = ap unless_twice e ∙ sym (ap (λ (c : Bool). if c then Some cs else None) d)
