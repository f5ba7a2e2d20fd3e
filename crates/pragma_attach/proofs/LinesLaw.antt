-- The lines of a tree, and the directives on them.
use Rattle.std.specs.Prelude.{ℕ, Bool, true, false, ◌==◌, if◌then◌else◌, ◌≡◌, List, [], ◌∷◌, ◌++◌, map, All, Some}
use Rattle.std.proofs.Common.{refl, sym, ap, ◌∙◌, subst, arith}
use Rattle.std.proofs.lemmas.Bool.{eqb-true}
use Rattle.std.proofs.lemmas.Bool.Decides.{nat_tests}
use Rattle.std.proofs.lemmas.List.Elements.{All-nil, All-cons, All-head, All-tail}
use Rattle.semantics.specs.Tree.{Name, Kernel}
use Rattle.semantics.specs.Source.Text.{line_at}
use Rattle.semantics.specs.Source.Scope.{Scope}
use Rattle.semantics.specs.Directives.Directive.{Directive}
use Rattle.semantics.specs.Directives.DirectiveGrammar.{ReadsLine}
use Rattle.semantics.specs.Directives.Annotated.{Directives, directive_at, lines_of, ReadsDirectives}
use Rattle.pragma_clause.proofs.DirectiveSound.{line_sound}
use Rattle.pragma_clause.proofs.DirectiveComplete.{line_read}
use Rattle.pragma_attach.specs.Standing.{directive_on}
use Rattle.pragma_attach.specs.Attached.{with_directive, directives_on, directives_of}

-- a line is read
abbrev pub Read : List ℕ → ℕ → Type 0
Read text n = (d : Directive Name) × (directive_on text n ≡ Some d)

-- it is so of each of these lines
abbrev pub AllLines : (ℕ → Type 0) → List (ℕ × Scope) → Type 0
AllLines P [] = Unit {0}
AllLines P (l ∷ ls) = P l.0 × AllLines P ls

-- each is read
abbrev pub AllRead : List ℕ → List (ℕ × Scope) → Type 0
AllRead text ls = AllLines (Read text) ls

pub all_both : (P : ℕ → Type 0) (ls ms : List (ℕ × Scope)) → AllLines P ls → AllLines P ms → AllLines P (ls ++ ms)
all_both P [] ms h k = k
all_both P (l ∷ ls) ms h k = (h.0, all_both P ls ms h.1 k)

pub both_read : (text : List ℕ) (ls ms : List (ℕ × Scope)) → AllRead text ls → AllRead text ms → AllRead text (ls ++ ms)
both_read text [] ms h k = k
both_read text (l ∷ ls) ms h k = (h.0, both_read text ls ms h.1 k)

-- the directives have what is on a line
abbrev pub Found : List ℕ → Directives → ℕ → Type 0
Found text ds n = (d : Directive Name) × (directive_on text n ≡ Some d) × (directive_at ds n ≡ Some d)

-- and on each of these
abbrev pub AllFound : List ℕ → Directives → List (ℕ × Scope) → Type 0
AllFound text ds ls = AllLines (Found text ds) ls

pub found_first : (text : List ℕ) (ds : Directives) (ls ms : List (ℕ × Scope)) → AllFound text ds (ls ++ ms) → AllFound text ds ls
found_first text ds [] ms h = tt
found_first text ds (l ∷ ls) ms h = (h.0, found_first text ds ls ms h.1)

pub found_second : (text : List ℕ) (ds : Directives) (ls ms : List (ℕ × Scope)) → AllFound text ds (ls ++ ms) → AllFound text ds ms
found_second text ds [] ms h = h
found_second text ds (l ∷ ls) ms h = found_second text ds ls ms h.1

same_Some : {d e : Directive Name} → Some d ≡ Some e → d ≡ e
same_Some p = cc p

-- one more line before keeps them
keeps : (text : List ℕ) (m : ℕ) (d : Directive Name) (ds : Directives) → directive_on text m ≡ Some d → (n : ℕ) → Found text ds n → Found text ((m, d) ∷ ds) n
keeps text m d ds e n f = (f.0, f.1, go (m == n) refl)
  where
    go : (b : Bool) → (m == n) ≡ b → (if b then Some d else directive_at ds n) ≡ Some f.0
    go true t = sym e ∙ ap (directive_on text) (eqb-true m n t) ∙ f.1
    go false t = f.2

all_keep : (text : List ℕ) (m : ℕ) (d : Directive Name) (ds : Directives) → directive_on text m ≡ Some d → (ls : List (ℕ × Scope)) → AllFound text ds ls → AllFound text ((m, d) ∷ ds) ls
all_keep text m d ds e [] h = tt
all_keep text m d ds e (l ∷ ls) h = (keeps text m d ds e l.0 h.0, all_keep text m d ds e ls h.1)

-- the line before is found
first_found : (text : List ℕ) (m : ℕ) (d : Directive Name) (ds : Directives) → directive_on text m ≡ Some d → Found text ((m, d) ∷ ds) m
first_found text m d ds e = (d, e, go (m == m) refl)
  where
    go : (b : Bool) → (m == m) ≡ b → (if b then Some d else directive_at ds m) ≡ Some d
    go true t = refl
    go false t = absurd (grind (arith, nat_tests))

-- lines that are read are found
pub all_found : (text : List ℕ) (ls : List (ℕ × Scope)) → AllRead text ls → AllFound text (directives_on text ls) ls
all_found text [] h = tt
all_found text (l ∷ ls) h =
    let d = h.0.0 in
    let rest = directives_on text ls in
    subst (λ o. AllFound text (with_directive l.0 o rest) (l ∷ ls)) (sym h.0.1) (first_found text l.0 d rest h.0.1, all_keep text l.0 d rest h.0.1 ls (all_found text ls h.1))

-- and they are all the directives
pub all_lines : (text : List ℕ) (ls : List (ℕ × Scope)) → AllRead text ls → map (λ d. d.0) (directives_on text ls) ≡ map (λ l. l.0) ls
all_lines text [] h = refl
all_lines text (l ∷ ls) h =
    ap (λ o. map (λ d. d.0) (with_directive l.0 o (directives_on text ls))) h.0.1 ∙ ap (λ ns. l.0 ∷ ns) (all_lines text ls h.1)

abbrev IsRead : List ℕ → ℕ × Directive Name → Type 0
IsRead text d = ReadsLine (line_at text d.0) d.1

pub each_read : (text : List ℕ) (ls : List (ℕ × Scope)) → AllRead text ls → All (IsRead text) (directives_on text ls)
each_read text [] h = All-nil (IsRead text)
each_read text (l ∷ ls) h =
    subst (λ o. All (IsRead text) (with_directive l.0 o (directives_on text ls))) (sym h.0.1)
    (All-cons (IsRead text) (l.0, h.0.0) (directives_on text ls) (line_sound (line_at text l.0) h.0.0 h.0.1) (each_read text ls h.1))

-- directives of the same lines are these, and the lines are read
pub the_same : (text : List ℕ) (ls : List (ℕ × Scope)) (ds : Directives) → map (λ d. d.0) ds ≡ map (λ l. l.0) ls
    → All (IsRead text) ds → (ds ≡ directives_on text ls) × AllRead text ls
the_same text [] [] e h = (refl, tt)
the_same text [] (d ∷ ds) e h = absurd (cc e)
the_same text (l ∷ ls) [] e h = absurd (cc e)
the_same text (l ∷ ls) ((n, d) ∷ ds) e h =
    let number : n ≡ l.0 = cc e in
    let on : directive_on text l.0 ≡ Some d = ap (directive_on text) (sym number) ∙ line_read (line_at text n) d (All-head (IsRead text) (n, d) ds h) in
    let rest = the_same text ls ds (cc e) (All-tail (IsRead text) (n, d) ds h) in
    (ap (λ m. (m, d) ∷ ds) number ∙ ap (λ es. (l.0, d) ∷ es) rest.0 ∙ sym (ap (λ o. with_directive l.0 o (directives_on text ls)) on), ((d, on), rest.1))

-- of a tree
pub are_read : (text : List ℕ) (tree : Kernel) → AllRead text (lines_of tree) → ReadsDirectives text tree (directives_of text tree)
are_read text tree h = record { lines = all_lines text (lines_of tree) h; each = each_read text (lines_of tree) h }
