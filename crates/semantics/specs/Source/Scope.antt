-- Visible names (C11 6.2.1).
use Rattle.std.specs.Prelude.{ℕ, suc, Bool, false, ◌≡◌, if◌then◌else◌, List, [], ◌∷◌, nat_eq, Option, Some, None, codes}
use Rattle.std.specs.List.{list_any}
use lib.Pointwise.{pointwise}
use Rattle.semantics.specs.Tree.{Name, Variable, Exprs, no_exprs, more_exprs}

-- what a name stands for: a variable with so many dimensions, or an enum constant
pub data Entity : Type 0 where
  AVariable : Variable → ℕ → Entity
  AConstant : ℕ → Entity

-- visible names, the innermost first
abbrev pub Scope : Type 0
Scope = List (Name × Entity)

-- enum constants are visible behind their declaration (C11 6.7.2.2)
abbrev pub with_constants : List (Name × ℕ) → Scope → Scope
with_constants [] scope = scope
with_constants (c ∷ cs) scope = with_constants cs ((c.0, AConstant c.1) ∷ scope)

-- the same bytes
abbrev pub same_name : Name → Name → Bool
same_name a b = pointwise nat_eq a b

-- what a visible name stands for
abbrev pub find : Scope → Name → Option Entity
find [] name = None
find (e ∷ es) name = if same_name e.0 name then Some e.1 else find es name

-- how many subscripts
abbrev pub count : Exprs → ℕ
count no_exprs = 0
count (more_exprs e es) = suc (count es)

-- words that are no names (C11 6.4.1, and four of the profile)
abbrev pub reserved_words : List Name
reserved_words =
    codes "auto" ∷ codes "break" ∷ codes "case" ∷ codes "char" ∷ codes "const" ∷ codes "continue" ∷ codes "default" ∷ codes "do"
    ∷ codes "double" ∷ codes "else" ∷ codes "enum" ∷ codes "extern" ∷ codes "float" ∷ codes "for" ∷ codes "goto" ∷ codes "if"
    ∷ codes "inline" ∷ codes "int" ∷ codes "long" ∷ codes "register" ∷ codes "restrict" ∷ codes "return" ∷ codes "short"
    ∷ codes "signed" ∷ codes "sizeof" ∷ codes "static" ∷ codes "struct" ∷ codes "switch" ∷ codes "typedef" ∷ codes "union"
    ∷ codes "unsigned" ∷ codes "void" ∷ codes "volatile" ∷ codes "while" ∷ codes "uint64_t" ∷ codes "printf" ∷ codes "PRIu64"
    ∷ codes "kernel" ∷ []

-- a word that is no name
abbrev pub is_reserved : Name → Bool
is_reserved name = list_any (same_name name) reserved_words

-- a name that may be declared here: no reserved word, and nothing visible has it
pub record IsFree (scope : Scope) (name : Name) : Type 0 where
  pub word : is_reserved name ≡ false
  pub unused : find scope name ≡ None
