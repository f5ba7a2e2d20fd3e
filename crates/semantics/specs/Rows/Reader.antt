-- Worked rows of the reader: texts, constants, definite assignment, inputs.
use Rattle.std.specs.Prelude.{ℕ, Bool, true, false, ◌≡◌, ◌==◌, if◌then◌else◌, None, List, [], ◌∷◌, ◌++◌, Some, is_some, codes}
use Rattle.semantics.specs.Tree.{Bare, Ull, Expr, Literal, Object, Binary, Plus, Minus, Divide, ShiftLeft, no_exprs, Compare, Less, Greater, Number, Up, For, Assign, Stmt, If, IfElse, Block, Items, no_items, mark, local, stmt, Declaration}
use Rattle.semantics.specs.Source.Text.{is_directive_line, erase, behind_omp, line_at}
use Rattle.semantics.specs.Source.Typing.{constant, typed, fit, in_range}
use Rattle.semantics.specs.Meaning.Definite.{definite_items, known_at_start, no_privates, Privates}
use Rattle.semantics.specs.Directives.DirectiveGrammar.{words}
use Rattle.semantics.specs.Source.Token.{Word, Punctuator, OpenParen, CloseParen, Comma}
use Rattle.semantics.specs.Meaning.InputFault.{first_fault, WrongForm, UnknownName, NamedTwice, WrongCount, WrongNumber}

abbrev pub num : ℕ → Expr
num n = Literal n Bare

abbrev pub ull : ℕ → Expr
ull n = Literal n Ull

abbrev pub var : ℕ → Expr
var x = Object x no_exprs

-- s is variable 0, at file scope; x is the local 1
abbrev pub s_alone : List Declaration
s_alone = record { name = codes "s"; lengths = [] } ∷ []

abbrev pub definite_in : Privates → Items → Bool
definite_in P items = is_some (definite_items P [] items (known_at_start s_alone))

-- x is private on line 3
abbrev pub x_private : Privates
x_private n = if n == 3 then 1 ∷ [] else []

abbrev pub loop_over : ℕ → Stmt → Stmt
loop_over v body = For v (codes "i") (Number (num 0)) (Compare Less (var v) (num 4)) (Up v) body

abbrev pub set_x : Expr → Stmt
set_x e = Assign 1 no_exprs (Number e)

abbrev pub read_x : Stmt
read_x = Assign 0 no_exprs (Number (var 1))

-- uint64_t A[2];
abbrev pub a_alone : List Declaration
a_alone = record { name = codes "A"; lengths = 2 ∷ [] } ∷ []

-- the rows
pub record ReaderRows : Type 0 where
  pub directive : is_directive_line (codes "  # pragma omp parallel for") ≡ true
  pub run_together : is_directive_line (codes "#pragma ompparallel for") ≡ false
  pub bare : is_directive_line (codes "#pragma omp") ≡ true
  pub erase : erase (codes "a;" ++ 10 ∷ (codes "#pragma omp for" ++ 10 ∷ (codes "b;" ++ 10 ∷ []))) ≡ codes "a;" ++ 10 ∷ (10 ∷ (codes "b;" ++ 10 ∷ []))
  pub line : line_at (codes "a" ++ 10 ∷ (codes "bc" ++ 10 ∷ [])) 2 ≡ codes "bc"
  pub words : words (behind_omp (codes "#pragma omp for schedule(static , 3)")) ≡
      Word (codes "for") ∷ Word (codes "schedule") ∷ Punctuator OpenParen ∷ Word (codes "static") ∷ Punctuator Comma ∷ Word (codes "3") ∷ Punctuator CloseParen ∷ []
  pub sum : constant (Binary Plus (num 1) (num 2)) ≡ Some 3
  pub too_big : constant (Binary Plus (num 2147483647) (num 1)) ≡ None
  pub below : constant (Binary Minus (num 2) (num 3)) ≡ None
  pub bare_shift : fit ShiftLeft (num 1) (num 3) ≡ false
  pub shift : fit ShiftLeft (ull 1) (num 3) ≡ true
  pub zero : fit Divide (var 0) (ull 0) ≡ false
  pub untyped : typed (num 0) ≡ false
  -- 2147483648 is out of range without `ull`
  pub range : in_range Bare 2147483648 ≡ false
  -- uint64_t x; if (s > 3) x = 1; s = x;
  pub one_branch : definite_in no_privates (local 1 (codes "x") None (stmt (If (Compare Greater (var 0) (num 3)) (Assign 1 no_exprs (Number (num 1)))) (stmt (Assign 0 no_exprs (Number (var 1))) no_items))) ≡ false
  -- uint64_t x; if (s > 3) x = 1; else x = 2; s = x;
  pub both_branches : definite_in no_privates (local 1 (codes "x") None (stmt (IfElse (Compare Greater (var 0) (num 3)) (Assign 1 no_exprs (Number (num 1))) (Assign 1 no_exprs (Number (num 2)))) (stmt (Assign 0 no_exprs (Number (var 1))) no_items))) ≡ true
  -- private(x): assigned in the loop and read after it
  pub private_after : definite_in x_private (local 1 (codes "x") (Some (Number (num 1))) (mark 3 (stmt (loop_over 2 (set_x (var 2))) (stmt read_x no_items)))) ≡ false
  -- the construct itself is entered with what was known
  pub private_inside : definite_in x_private (local 1 (codes "x") (Some (Number (num 1))) (mark 3 (stmt (loop_over 2 read_x) no_items))) ≡ true
  -- at the start of the body of a serial loop round it, and after that loop
  pub private_round : definite_in x_private (local 1 (codes "x") (Some (Number (num 1))) (stmt (loop_over 2 (Block (stmt read_x (mark 3 (stmt (loop_over 3 (set_x (var 3))) no_items))))) no_items)) ≡ false
  pub private_behind : definite_in x_private (local 1 (codes "x") (Some (Number (num 1))) (stmt (loop_over 2 (Block (mark 3 (stmt (loop_over 3 (set_x (var 3))) (stmt (set_x (num 1)) no_items))))) (stmt read_x no_items))) ≡ false
  pub right : first_fault a_alone (codes "A 1 2" ++ 10 ∷ []) ≡ None
  pub two_spaces : first_fault a_alone (codes "A 1  2" ++ 10 ∷ []) ≡ Some (1, WrongForm)
  pub no_end : first_fault a_alone (codes "A 1 2") ≡ Some (1, WrongForm)
  pub name : first_fault a_alone (codes "B 1 2" ++ 10 ∷ []) ≡ Some (1, UnknownName)
  pub count : first_fault a_alone (codes "A" ++ 10 ∷ []) ≡ Some (1, WrongCount)
  pub number : first_fault a_alone (codes "A 1 02" ++ 10 ∷ []) ≡ Some (1, WrongNumber)
  pub count_first : first_fault a_alone (codes "A 1 02 3" ++ 10 ∷ []) ≡ Some (1, WrongCount)
  pub too_great : first_fault a_alone (codes "A 1 18446744073709551616" ++ 10 ∷ []) ≡ Some (1, WrongNumber)
  pub twice : first_fault a_alone (codes "A 1 2" ++ 10 ∷ (codes "A 3 4" ++ 10 ∷ [])) ≡ Some (2, NamedTwice)
