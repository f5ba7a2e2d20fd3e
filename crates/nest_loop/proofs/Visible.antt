-- What visible names stand for, and what constant expressions are worth.
use Rattle.std.specs.Prelude.{ℕ, Bool, true, false, ◌≡◌, ◌<◌, ◌+◌, ◌-◌, ◌*◌, ◌%◌, ◌^◌, nat_lt, nat_le, List, [], ◌∷◌, Option, Some, None}
use Rattle.std.proofs.Common.{refl, ap, ◌∙◌, subst, cond, arith}
use Rattle.std.proofs.Math.Nat.{mod-eq_of_lt}
use Rattle.std.proofs.lemmas.Bool.{ltb-true, leb-true}
use Rattle.std.proofs.lemmas.Option.{same_Some, none-some}
use Rattle.semantics.specs.Tree.{Name, BinaryOp, Plus, Minus, Times, Divide, Remainder, BitAnd, BitOr, BitXor, ShiftLeft, ShiftRight, Bare, Ull, Expr}
use Rattle.semantics.specs.Source.Token.{Token}
use Rattle.semantics.specs.Source.Scope.{Scope, Entity, AConstant, find, same_name}
use Rattle.semantics.specs.Source.Expressions.{ReadsExpr, literal, enumerator, object, parens, unary, binary, choose, tighter}
use Rattle.semantics.specs.Source.Typing.{in_int, int_operate, flat, constant}
use Rattle.semantics.specs.Meaning.State.{State}
use Rattle.semantics.specs.Meaning.Value.{value, both, both_then, operate}
use Rattle.nest_loop.specs.Constants.{Each, IsSmall}

pub each_found : (P : Entity → Type 0) (scope : Scope) (name : Name) (e : Entity) → Each P scope → find scope name ≡ Some e → P e
each_found P [] name e h f = absurd (none-some e f)
each_found P (d ∷ es) name e h f = go (same_name d.0 name) (λ q. each_found P es name e h.1 q) f
  where
    go : (b : Bool) → (find es name ≡ Some e → P e) → cond b (Some d.1) (find es name) ≡ Some e → P e
    go true rest q = subst P (same_Some d.1 e q) h.0
    go false rest q = rest q

pub each_weaker : (P Q : Entity → Type 0) → ((e : Entity) → P e → Q e) → (scope : Scope) → Each P scope → Each Q scope
each_weaker P Q f [] h = tt
each_weaker P Q f (e ∷ es) h = (f e.1 h.0, each_weaker P Q f es h.1)

int_small : (m n : ℕ) → in_int m ≡ Some n → (m ≡ n) × (m < 2 ^ 31)
int_small m n e = go (nat_lt m (2 ^ 31)) refl e
  where
    go : (b : Bool) → nat_lt m (2 ^ 31) ≡ b → cond b (Some m) None ≡ Some n → (m ≡ n) × (m < 2 ^ 31)
    go true q f = (same_Some m n f, ltb-true m (2 ^ 31) q)
    go false q f = absurd (none-some n f)

-- both operands of a constant operation are there
record Operands (f : ℕ → ℕ → Option ℕ) (o p : Option ℕ) (n : ℕ) : Type 0 where
  left : ℕ
  right : ℕ
  first : o ≡ Some left
  second : p ≡ Some right
  result : f left right ≡ Some n

operands : (f : ℕ → ℕ → Option ℕ) (o p : Option ℕ) (n : ℕ) → flat (both f o p) ≡ Some n → Operands f o p n
operands f None p n e = absurd (none-some n e)
operands f (Some a) None n e = absurd (none-some n e)
operands f (Some a) (Some b) n e = record { left = a; right = b; first = refl; second = refl; result = e }

-- + - * of small numbers, in 0..2^31 - 1, are what C's unsigned ones give
operation : (op : BinaryOp) (a b n : ℕ) → a < 2 ^ 31 → b < 2 ^ 31 → int_operate op a b ≡ Some n → (operate op a b ≡ Some n) × (n < 2 ^ 31)
operation Plus a b n p q e = let r = int_small (a + b) n e in (ap Some (mod-eq_of_lt (omega arith) ∙ r.0), omega arith)
operation Times a b n p q e =
    let r = int_small (a * b) n e in
    let same = r.0 in
    let less : a * b < 2 ^ 64 = omega arith in
    (ap Some (mod-eq_of_lt less ∙ same), subst (λ m. m < 2 ^ 31) same r.1)
operation Minus a b n p q e = go (nat_le b a) refl e
  where
    go : (t : Bool) → nat_le b a ≡ t → cond t (Some (a - b)) None ≡ Some n → (Some ((a + 2 ^ 64 - b) % 2 ^ 64) ≡ Some n) × (n < 2 ^ 31)
    go true h f =
        let le = leb-true b a h in
        let same = same_Some (a - b) n f in
        let wraps : (a + 2 ^ 64 - b) % 2 ^ 64 ≡ n = omega arith in
        (ap Some wraps, omega arith)
    go false h f = absurd (none-some n f)
operation Divide a b n p q e = absurd (none-some n e)
operation Remainder a b n p q e = absurd (none-some n e)
operation BitAnd a b n p q e = absurd (none-some n e)
operation BitOr a b n p q e = absurd (none-some n e)
operation BitXor a b n p q e = absurd (none-some n e)
operation ShiftLeft a b n p q e = absurd (none-some n e)
operation ShiftRight a b n p q e = absurd (none-some n e)

-- a constant expression is small, and worth the same in every state
pub constant_there : {scope : Scope} {o l : ℕ} {ts : List Token} {e : Expr} (s : State) (n : ℕ) → Each IsSmall scope → ReadsExpr scope o l ts e → constant e ≡ Some n → (value s e ≡ Some n) × (n < 2 ^ 31)
constant_there s n h (literal {n = m} {suffix = Bare} r) e = let q = int_small m n e in (ap Some q.0, subst (λ m. m < 2 ^ 31) q.0 q.1)
constant_there s n h (literal {suffix = Ull} r) e = absurd (none-some n e)
constant_there {scope = scope} s n h (enumerator {name = name} {n = m} f) e = (e, subst (λ m. m < 2 ^ 31) (same_Some m n e) (each_found IsSmall scope name (AConstant m) h f))
constant_there s n h (object f r) e = absurd (none-some n e)
constant_there s n h (parens b r) e = constant_there s n h r e
constant_there s n h (unary b u t r) e = absurd (none-some n e)
constant_there s n h (binary {a = a} {b = b} {op = op} sign f r q) e =
    let parts = operands (int_operate op) (constant a) (constant b) n e in
    let left = constant_there s parts.left h r parts.first in
    let right = constant_there s parts.right h q parts.second in
    let done = operation op parts.left parts.right n left.1 right.1 parts.result in (
      ap (λ p. both_then (operate op) p (value s b)) left.0 ∙ ap (λ p. both_then (operate op) (Some parts.left) p) right.0 ∙ done.0,
      done.1,
    )
constant_there s n h (choose b c r q) e = absurd (none-some n e)
constant_there s n h (tighter r) e = constant_there s n h r e
