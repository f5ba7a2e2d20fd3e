-- Nests, loop by loop.
use Rattle.std.specs.Prelude.{ℕ, suc, ◌-◌, ◌*◌, ◌≤◌, ◌≡◌, ◌⊎◌, ◌==◌, Bool, true, false, ℤ, List, [], ◌∷◌, length, Option, Some, None, option_and_then}
use Rattle.std.specs.List.{list_any, insert}
use Rattle.std.proofs.Common.{refl, sym, ap, ◌∙◌, subst, inl, inr, arith}
use Rattle.std.proofs.lemmas.Int.{ints}
use Rattle.semantics.specs.Tree.{Stmt, Variable}
use Rattle.semantics.specs.Meaning.Value.{map_option}
use Rattle.semantics.specs.Loops.Nest.{Loop, as_loop, only_loop, nest_of}
use Rattle.ktree.specs.View.{items_of}
use Rattle.ktree.specs.declared.statement.Item.{Item, Directive, Local, Statement'}
use Rattle.affine.specs.declared.interval.Interval.{Interval}
use Rattle.affine.specs.declared.interval.Side.{Side}
use Rattle.affine.specs.Box.{IsInside, IsEmpty}
use Rattle.affine_expr.specs.Forms.{is_counter}
use Rattle.affine_expr.specs.declared.faults.Fault.{Fault}
use Rattle.affine_expr.specs.declared.faults.Fault.TheVariants.{OutOfMemory}
use Rattle.affine_expr.proofs.Trees.{is_counter-any}
use Rattle.nest_loop.specs.declared.head.Canonical.{Canonical}
use Rattle.nest_loop.specs.Canonical.{canonical}
use Rattle.nest_loop.specs.Sides.{IsSide}
use Rattle.nest_loop.specs.Loops.{inside}
use Rattle.nest_loop.specs.Most.{IsMost, somewhere, nowhere}
use Rattle.nest_loop.proofs.Unique.{side_is_unique}
use Rattle.nest.specs.Perfect.{NestHas, AreRectangular, TurnsMost, HasProduct, IsNestWithin}

pub pred_is : (n : ℕ) → (n ≡ 0 → ⊥) → n ≡ suc (n - 1)
pred_is n f = omega (arith, f)

some_same : {A : Type 0} {x y : A} → Some x ≡ Some y → x ≡ y
some_same e = cc

-- two items are no loop
pub two_items : (is : List Item) → 2 ≤ length is → only_loop (items_of is) ≡ None
two_items [] h = absurd (omega arith)
two_items (i ∷ []) h = absurd (omega arith)
two_items (Directive place ∷ j ∷ is) h = refl
two_items (Local l ∷ j ∷ is) h = refl
two_items (Statement' p s ∷ Directive place ∷ is) h = refl
two_items (Statement' p s ∷ Local l ∷ is) h = refl
two_items (Statement' p s ∷ Statement' q t ∷ is) h = refl

-- a loop round the others
abbrev with_loop : Loop → List Loop × Stmt → List Loop × Stmt
with_loop h inner = (h ∷ inner.0, inner.1)

abbrev levels : ℕ → Option (Loop × Stmt) → Option (List Loop × Stmt)
levels m o = option_and_then (λ found. map_option (with_loop found.0) (nest_of m found.1)) o

level_is : (m : ℕ) (s b : Stmt) (h : Loop) → as_loop s ≡ Some (h, b) → nest_of (suc m) s ≡ map_option (with_loop h) (nest_of m b)
level_is m s b h e = ap (levels m) e

pub nest_down : (P : List Loop → Type 0) (n m : ℕ) (s b : Stmt) (h : Loop) → n ≡ suc m → as_loop s ≡ Some (h, b) → NestHas P n s → NestHas (λ hs. P (h ∷ hs)) m b
nest_down P n m s b h k e (loops, body, is, p) = go (nest_of m b) refl (sym (level_is m s b h e) ∙ ap (λ (j : ℕ). nest_of j s) (sym k) ∙ is)
  where
    go : (o : Option (List Loop × Stmt)) → nest_of m b ≡ o → map_option (with_loop h) o ≡ Some (loops, body) → NestHas (λ hs. P (h ∷ hs)) m b
    go None f g = absurd (cc g)
    go (Some (hs, t)) f g =
        let pair : (h ∷ hs, t) ≡ (loops, body) = some_same g in
        (hs, t, f, subst P (sym (ap (λ (q : List Loop × Stmt). q.0) pair)) p)

pub nest_up : (P : List Loop → Type 0) (n m : ℕ) (s b : Stmt) (h : Loop) → n ≡ suc m → as_loop s ≡ Some (h, b) → NestHas (λ hs. P (h ∷ hs)) m b → NestHas P n s
nest_up P n m s b h k e (hs, t, is, p) =
    (h ∷ hs, t, ap (λ (j : ℕ). nest_of j s) k ∙ level_is m s b h e ∙ ap (map_option (with_loop h)) is, p)

pub no_level : (P : List Loop → Type 0) (n m : ℕ) (s : Stmt) → n ≡ suc m → as_loop s ≡ None → NestHas P n s → ⊥
no_level P n m s k e (loops, body, is, p) =
    let none : None ≡ Some (loops, body) =
    sym (ap (levels m) e) ∙ ap (λ (j : ℕ). nest_of j s) (sym k) ∙ is in
    absurd (cc none)

pub no_loops : (P : List Loop → Type 0) (n : ℕ) (s : Stmt) → n ≡ 0 → P [] → NestHas P n s
no_loops P n s e p = ([], s, ap (λ (j : ℕ). nest_of j s) e, p)

-- of one nest
pub together : (P Q : List Loop → Type 0) (n : ℕ) (s : Stmt) → NestHas P n s → NestHas Q n s → NestHas (λ hs. P hs × Q hs) n s
together P Q n s (loops, body, is, p) (others, b, e, q) =
    let pair : (others, b) ≡ (loops, body) = some_same (sym e ∙ is) in
    (loops, body, is, (p, subst Q (ap (λ (r : List Loop × Stmt). r.0) pair) q))

-- a fault that is passed on
pub passed_on : {A B : Type 0} {f : Fault} → (A → B) → (f ≡ OutOfMemory) ⊎ (B → ⊥) → (f ≡ OutOfMemory) ⊎ (A → ⊥)
passed_on g (inl e) = inl e
passed_on g (inr h) = inr (λ a. h (g a))

pub told_so : {A B : Type 0} {f r : Fault} → (f ≡ OutOfMemory → r ≡ OutOfMemory) → (A → B) → (f ≡ OutOfMemory) ⊎ (B → ⊥) → (r ≡ OutOfMemory) ⊎ (A → ⊥)
told_so t g (inl e) = inl (t e)
told_so t g (inr h) = inr (λ a. h (g a))

-- a variable that has a side
pub clash : (b : Bool) → true ≡ b → b ≡ false → ⊥
clash b e f = absurd cc

pub has_side : (box : List Side) (x : Variable) → true ≡ list_any (λ s. s.variable.0 == x) box → is_counter box x ≡ false → ⊥
has_side box x e f = clash (is_counter box x) (e ∙ is_counter-any box x) f

pub has_no_side : (box : List Side) (x : Variable) → false ≡ list_any (λ s. s.variable.0 == x) box → is_counter box x ≡ false
has_no_side box x e = sym (is_counter-any box x) ∙ sym e

-- what a head of a rectangular nest is
abbrev pub HeadIs : List Side → Loop → Type 0
HeadIs box h = (l : Canonical) × (canonical box h.variable h.start h.test h.step ≡ Some l) × (is_counter box h.variable ≡ false)

pub rectangular_head : (box : List Side) (h : Loop) (m : ℕ) (b : Stmt) → NestHas (λ hs. (ls : List Canonical) × AreRectangular box (h ∷ hs) ls) m b → HeadIs box h
rectangular_head box h m b (hs, t, is, ([], r)) = absurd r
rectangular_head box h m b (hs, t, is, ((l ∷ ls), r)) = (l, r.0, r.1)

pub rectangular_rest : (box : List Side) (h : Loop) (m : ℕ) (b : Stmt) → NestHas (λ hs. (ls : List Canonical) × AreRectangular box (h ∷ hs) ls) m b → NestHas (λ hs. (ls : List Canonical) × AreRectangular box hs ls) m b
rectangular_rest box h m b (hs, t, is, ([], r)) = absurd r
rectangular_rest box h m b (hs, t, is, ((l ∷ ls), r)) = (hs, t, is, (ls, r.2))

pub no_head : {f : Fault} (box : List Side) (h : Loop) → (f ≡ OutOfMemory) ⊎ ((l : Canonical) → canonical box h.variable h.start h.test h.step ≡ Some l → is_counter box h.variable ≡ false → ⊥)
    → (f ≡ OutOfMemory) ⊎ (HeadIs box h → ⊥)
no_head box h (inl e) = inl e
no_head box h (inr g) = inr (λ x. g x.0 x.1 x.2)

-- how often a loop turns at most is one number
never_empty : (box : List Side) (values : Variable → ℤ) → IsInside box values → IsEmpty box → ⊥
never_empty box values h (x, none) = let k = h x in let low = k.above in let high = k.below in absurd (omega (arith, ints, low, high, none))

one_most : (box : List Side) (l : Canonical) (m n : ℕ) → IsMost box l m → IsMost box l n → m ≡ n
one_most box l m n (somewhere v p t f) (somewhere w q u g) =
    let below = f w n q u in
    let above = g v m p t in
    omega (arith, below, above)
one_most box l m n (somewhere v p t f) (nowhere e) = absurd (never_empty box v p e)
one_most box l m n (nowhere e) (somewhere v p t f) = absurd (never_empty box v p e)
one_most box l m n (nowhere e) (nowhere g) = refl

pub turns_once : (box : List Side) (h : Loop) (i j : Interval) (m n : ℕ) → TurnsMost box h i m → TurnsMost box h j n → (i ≡ j) × (m ≡ n)
turns_once box h i j m n p q =
    let same : p.loop ≡ q.loop = some_same (sym p.form ∙ q.form) in (
      side_is_unique box q.loop i j (subst (λ (l : Canonical). IsSide box l i) same p.numbers) q.numbers,
      one_most box q.loop m n (subst (λ (l : Canonical). IsMost box l m) same p.most) q.most,
    )

pub product_once : (box : List Side) (hs : List Loop) (m n : ℕ) → HasProduct box hs m → HasProduct box hs n → m ≡ n
product_once box [] m n p q = p ∙ sym q
product_once box (h ∷ hs) m n (i, a, k, t, p, e) (j, b, l, u, q, f) =
    let same = turns_once box h i j a b t u in
    let rest : k ≡ l = product_once (inside box h.variable i) hs k l p (subst (λ (x : Interval). HasProduct (inside box h.variable x) hs l) (sym same.0) q) in
    e ∙ ap (λ (x : ℕ). x * k) same.1 ∙ ap (λ (x : ℕ). b * x) rest ∙ sym f

-- a right nest is both
pub right_is : (most : ℕ) (box : List Side) (n : ℕ) (s : Stmt) → NestHas (λ hs. (ls : List Canonical) × AreRectangular box hs ls) n s → NestHas (λ hs. (k : ℕ) × HasProduct box hs k × (k ≤ most)) n s → IsNestWithin most box n s
right_is most box n s p q = together (λ hs. (ls : List Canonical) × AreRectangular box hs ls) (λ hs. (k : ℕ) × HasProduct box hs k × (k ≤ most)) n s p q

pub right_rectangular : (most : ℕ) (box : List Side) (n : ℕ) (s : Stmt) → IsNestWithin most box n s → NestHas (λ hs. (ls : List Canonical) × AreRectangular box hs ls) n s
right_rectangular most box n s (hs, t, is, (p, q)) = (hs, t, is, p)

pub right_small : (most : ℕ) (box : List Side) (n : ℕ) (s : Stmt) → IsNestWithin most box n s → NestHas (λ hs. (k : ℕ) × HasProduct box hs k × (k ≤ most)) n s
right_small most box n s (hs, t, is, (p, q)) = (hs, t, is, q)

pub rectangular_more : (box : List Side) (h : Loop) (l : Canonical) (m : ℕ) (b : Stmt) (ls all : List Canonical) → (canonical box h.variable h.start h.test h.step ≡ Some l) × (is_counter box h.variable ≡ false)
    → all ≡ l ∷ ls → NestHas (λ hs. AreRectangular box hs ls) m b → NestHas (λ hs. AreRectangular box (h ∷ hs) all) m b
rectangular_more box h l m b ls all head e (hs, t, is, r) = (hs, t, is, subst (AreRectangular box (h ∷ hs)) (sym e) (head.0, head.1, r))

-- put in front
pub insert_first : {A : Type 0} (xs : List A) (x : A) → insert xs 0 x ≡ x ∷ xs
insert_first [] x = refl
insert_first (y ∷ ys) x = refl
