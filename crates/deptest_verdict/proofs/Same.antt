-- The accesses of a body are one list.
use Rattle.std.specs.Prelude.{ℕ, ◌≡◌, List, ◌∷◌, ◌++◌, length, Option, Some, None}
use Rattle.std.proofs.Common.{refl, sym, ap, ◌∙◌, subst, arith}
use Rattle.std.proofs.lemmas.Int.{ints}
use Rattle.semantics.specs.Tree.{Variable, Stmt, Assign, Update, If, IfElse, For, Block, Print, Items, no_items, mark, local, stmt, Source, Cond, Increment}
use Rattle.affine.specs.declared.interval.Interval.{Interval}
use Rattle.affine.specs.declared.interval.Side.{Side}
use Rattle.affine.specs.Affine.{Affine}
use Rattle.affine.specs.Arithmetic.{constant_form}
use Rattle.affine.specs.Box.{IsInside, IsEmpty}
use Rattle.nest_loop.specs.declared.head.Canonical.{Canonical}
use Rattle.nest_loop.specs.Loops.{inside}
use Rattle.nest_loop.specs.Most.{IsMost, somewhere, nowhere}
use Rattle.nest_loop.proofs.Laws.{loop_is_unique}
use Rattle.pairtest_counter.specs.declared.level.EnclosingLoop.{EnclosingLoop}
use Rattle.pairtest_counter.specs.declared.level.Forms.{Forms}
use Rattle.pairtest_counter.specs.Counters.{AreForms, Given, stepped, reached}
use Rattle.pairtest_counter.specs.Levels.{Nesting, IsLevel, AreLevels}
use Rattle.pairtest_counter.proofs.Converted.{same_sum}
use Rattle.pairtest_access.specs.Sites.{Site, Sites, ItemsSites, cond_sites, start_sites}
use Rattle.pairtest_access.specs.Sites as sites

-- ---- one loop more

-- how often a loop turns at most is one number
never_empty : (box : List Side) (values : Variable → _) → IsInside box values → IsEmpty box → ⊥
never_empty box values h (x, none) = let k = h x in let low = k.above in let high = k.below in absurd (omega (arith, ints, low, high, none))

one_most : (box : List Side) (l : Canonical) (m n : ℕ) → IsMost box l m → IsMost box l n → m ≡ n
one_most box l m n (somewhere v p t f) (somewhere w q u g) =
    let below = f w n q u in
    let above = g v m p t in
    omega (arith, below, above)
one_most box l m n (somewhere v p t f) (nowhere e) = absurd (never_empty box v p e)
one_most box l m n (nowhere e) (somewhere v p t f) = absurd (never_empty box v p e)
one_most box l m n (nowhere e) (nowhere f) = refl

-- its forms in the counters are one
one_forms : (outer : List EnclosingLoop) (l : Canonical) (f g : Forms) → AreForms outer l f → AreForms outer l g → f ≡ g
one_forms outer l f g a b =
    let starts = same_sum outer l.start.terms (constant_form l.start.constant) a.start b.start a.starts b.starts in
    let limits = same_sum outer l.limit.terms (constant_form l.limit.constant) a.limit b.limit a.limits b.limits in
    let place : f.place ≡ g.place = a.place ∙ ap (stepped (length outer) l) starts ∙ sym b.place in
    let reach : f.reach ≡ g.reach = a.reach ∙ ap (λ (s : Affine). reached l s a.limit) starts ∙ ap (reached l b.start) limits ∙ sym b.reach in
    ap (λ (p : Affine). record { place = p; reach = f.reach }) place ∙ ap (λ (p : Affine). record { place = g.place; reach = p }) reach

one_given : (outer : List EnclosingLoop) (l : Canonical) (o p : Option Forms) → Given (AreForms outer l) o → Given (AreForms outer l) p → o ≡ p
one_given outer l None None h k = refl
one_given outer l None (Some g) h k = absurd (h g k)
one_given outer l (Some f) None h k = absurd (k f h)
one_given outer l (Some f) (Some g) h k = ap Some (one_forms outer l f g h k)

one_level : (box : List Side) (outer : List EnclosingLoop) (s t : Side) (v w : EnclosingLoop) → v.canonical ≡ w.canonical → IsLevel box outer s v → IsLevel box outer t w → v ≡ w
one_level box outer s t v w same h k =
    let most : v.most ≡ w.most = one_most box w.canonical v.most w.most (subst (λ (l : Canonical). IsMost box l v.most) same h.most) k.most in
    let forms : v.forms ≡ w.forms = one_given outer w.canonical v.forms w.forms (subst (λ (l : Canonical). Given (AreForms outer l) v.forms) same h.forms) k.forms in
    ap (λ (l : Canonical). record { canonical = l; most = v.most; forms = v.forms }) same
    ∙ ap (λ (n : ℕ). record { canonical = w.canonical; most = n; forms = v.forms }) most
    ∙ ap (λ (o : Option Forms). record { canonical = w.canonical; most = w.most; forms = o }) forms

-- the loops inside a loop more are one nesting
pub inside_is_unique : (n m o : Nesting) (x : Variable) (start : Source) (test : Cond) (step : Increment) (body : Stmt) → sites.IsInside n x start test step body m → sites.IsInside n x start test step body o → m ≡ o
inside_is_unique n m o x start test step body h k =
    let same = loop_is_unique n.box x start test step body h.level.canonical k.level.canonical h.numbers k.numbers h.is k.is in
    let one : AreLevels (inside n.box x h.numbers) (h.level ∷ n.levels) = subst (λ (p : Nesting). AreLevels p.box p.levels) h.now h.sound in
    let other : AreLevels (inside n.box x k.numbers) (k.level ∷ n.levels) = subst (λ (p : Nesting). AreLevels p.box p.levels) k.now k.sound in
    let level : h.level ≡ k.level = one_level n.box n.levels _ _ h.level k.level same.0 one.0 other.0 in
    h.now ∙ ap (λ (i : Interval). record { box = inside n.box x i; levels = h.level ∷ n.levels }) same.1
    ∙ ap (λ (v : EnclosingLoop). record { box = inside n.box x k.numbers; levels = v ∷ n.levels }) level ∙ sym k.now

-- ---- the accesses

mutual
  -- of a statement
  pub sites_are_unique : (n : Nesting) (s : Stmt) (ss ts : List Site) → Sites n s ss → Sites n s ts → ss ≡ ts
  sites_are_unique n (Assign x es e) ss ts h k = h ∙ sym k
  sites_are_unique n (Update x es op e) ss ts h k = h ∙ sym k
  sites_are_unique n (If c a) ss ts (us, h, is) (vs, k, are) = is ∙ ap (λ (ws : List Site). cond_sites n c ++ ws) (sites_are_unique n a us vs h k) ∙ sym are
  sites_are_unique n (IfElse c a b) ss ts (us, vs, h, i, is) (ws, xs, k, j, are) =
      is ∙ ap (λ (ys : List Site). cond_sites n c ++ (ys ++ vs)) (sites_are_unique n a us ws h k) ∙ ap (λ (ys : List Site). cond_sites n c ++ (ws ++ ys)) (sites_are_unique n b vs xs i j) ∙ sym are
  sites_are_unique n (For x name start test step body) ss ts (inner, i, h) (other, j, k) =
      sites_are_unique inner body ss ts h (subst (λ (m : Nesting). Sites m body ts) (inside_is_unique n other inner x start test step body j i) k)
  sites_are_unique n (Block items) ss ts h k = items_sites_are_unique n items ss ts h k
  sites_are_unique n (Print parts) ss ts h k = h ∙ sym k

  -- of a block's items
  pub items_sites_are_unique : (n : Nesting) (is : Items) (ss ts : List Site) → ItemsSites n is ss → ItemsSites n is ts → ss ≡ ts
  items_sites_are_unique n no_items ss ts h k = h ∙ sym k
  items_sites_are_unique n (mark line rest) ss ts h k = items_sites_are_unique n rest ss ts h k
  items_sites_are_unique n (local x name start rest) ss ts (us, h, is) (vs, k, are) =
      is ∙ ap (λ (ws : List Site). start_sites n start ++ ws) (items_sites_are_unique n rest us vs h k) ∙ sym are
  items_sites_are_unique n (stmt s rest) ss ts (us, vs, h, i, is) (ws, xs, k, j, are) =
      is ∙ ap (λ (ys : List Site). ys ++ vs) (sites_are_unique n s us ws h k) ∙ ap (λ (ys : List Site). ws ++ ys) (items_sites_are_unique n rest vs xs i j) ∙ sym are
