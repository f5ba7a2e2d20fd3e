-- Lists that grow at their end.
use Rattle.std.specs.Prelude.{ℕ, zero, suc, ◌+◌, ◌≡◌, ◌<◌, ◌⊎◌, Some, None, List, [], ◌∷◌, ◌++◌, length, get_or, take}
use Rattle.std.proofs.Common.{inl, inr, sym, ap, ◌∙◌, subst, arith}
use Rattle.std.proofs.lemmas.List.{take_more}
use Rattle.std.proofs.lemmas.Option.{none-some}
use Rattle.semantics.specs.Tree
use Rattle.ktree.specs.View.{expr_of, exprs_of}
use Rattle.ktree.specs.declared.expression.Expr.{Expr}
use Rattle.ktree.specs.declared.place.Place.{Place}
use Rattle.affine.specs.Affine.{Affine}
use Rattle.affine.specs.declared.interval.Side.{Side}
use Rattle.affine_expr.specs.Forms.{form_of}
use Rattle.affine_expr.specs.declared.faults.Fault.{Fault}
use Rattle.affine_expr.specs.declared.faults.Fault.TheVariants.{OutOfMemory, Limit}
use Rattle.pairtest_counter.specs.Levels.{Nesting}
use Rattle.pairtest.specs.declared.access.Subscript.{Subscript}
use Rattle.pairtest_access.specs.Refused.{Because, SubscriptFails, SubscriptsFail}
use Rattle.pairtest_access.specs.Found.{AreEach, IsSubscript}

-- one subscript more
each_more : {A : Type 0} (P : Tree.Expr → A → Type 0) (es : List Expr) (e : Expr) (xs : List A) (x : A) → AreEach P (exprs_of es) xs → P (expr_of e) x → AreEach P (exprs_of (es ++ (e ∷ []))) (xs ++ (x ∷ []))
each_more P [] e [] x h p = (p, tt)
each_more P [] e (y ∷ ys) x h p = absurd h
each_more P (d ∷ ds) e [] x h p = absurd h
each_more P (d ∷ ds) e (y ∷ ys) x h p = (h.0, each_more P ds e ys x h.1 p)

-- the next one
pub next_each : {A : Type 0} (P : Tree.Expr → A → Type 0) (es : List Expr) (i : ℕ) (e : Expr) (xs ys : List A) (x : A) → i < length es → e ≡ get_or es i e → AreEach P (exprs_of (take i es)) xs
    → ys ≡ xs ++ (x ∷ []) → P (expr_of e) x → AreEach P (exprs_of (take (i + 1) es)) ys
next_each P es i e xs ys x lt is h more p =
    let taken : take (i + 1) es ≡ take i es ++ (e ∷ []) = take_more es i e lt ∙ ap (λ d. take i es ++ (d ∷ [])) (sym is) in
    subst (λ ds. AreEach P (exprs_of ds) ys) (sym taken) (subst (AreEach P (exprs_of (take i es ++ (e ∷ [])))) (sym more) (each_more P (take i es) e xs x h p))

-- of one there is none
none_each : {A : Type 0} (P : Tree.Expr → A → Type 0) (es : List Expr) (i : ℕ) (e : Expr) (xs : List A) → i < length es → e ≡ get_or es i e → ((x : A) → P (expr_of e) x → ⊥)
    → AreEach P (exprs_of es) xs → ⊥
none_each P [] i e xs lt is none h = omega (arith, lt)
none_each P (d ∷ ds) i e [] lt is none h = h
none_each P (d ∷ ds) zero e (x ∷ xs) lt is none h = none x (subst (λ f. P (expr_of f) x) (sym is) h.0)
none_each P (d ∷ ds) (suc i) e (x ∷ xs) lt is none h = none_each P ds i e xs (omega (arith, lt)) is none h.1

pub each_refused : {A : Type 0} (P : Tree.Expr → A → Type 0) (es : List Expr) (i : ℕ) (e : Expr) (fault : Fault) → i < length es → e ≡ get_or es i e → Because ((x : A) → P (expr_of e) x → ⊥) fault
    → Because ((xs : List A) → AreEach P (exprs_of es) xs → ⊥) fault
each_refused P es i e fault lt is (inl m) = inl m
each_refused P es i e fault lt is (inr none) = inr (λ xs. none_each P es i e xs lt is none)

-- without a form a subscript is not affine
pub no_form : (box : List Side) (e : Tree.Expr) (fault : Fault) → (fault ≡ OutOfMemory) ⊎ (form_of box e ≡ None) → Because ((f : Affine) → form_of box e ≡ Some f → ⊥) fault
no_form box e fault (inl m) = inl m
no_form box e fault (inr none) = inr (λ f h. none-some f (sym none ∙ h))

-- with one subscript fail all
pub all_fail : (n : Nesting) (es : List Expr) (i : ℕ) (e : Expr) (fault : Fault) → i < length es → e ≡ get_or es i e → Because (SubscriptFails n (expr_of e) fault) fault
    → Because (SubscriptsFail n (exprs_of es) fault) fault
all_fail n es i e fault lt is (inl m) = inl m
all_fail n es i e fault lt is (inr (inl none)) = inr (inl (λ fs. none_each (λ d f. form_of n.box d ≡ Some f) es i e fs lt is (λ f h. none-some f (sym none ∙ h))))
all_fail n es i e fault lt is (inr (inr (limit, none))) = inr (inr (limit, λ ts. none_each (IsSubscript n) es i e ts lt is none))

-- subscripts in the counters have forms in the variables
have_forms : (n : Nesting) (es : Tree.Exprs) (ts : List Subscript) → AreEach (IsSubscript n) es ts → (fs : List Affine) × AreEach (λ e f. form_of n.box e ≡ Some f) es fs
have_forms n Tree.no_exprs [] h = ([], tt)
have_forms n Tree.no_exprs (t ∷ ts) h = absurd h
have_forms n (Tree.more_exprs e es) [] h = absurd h
have_forms n (Tree.more_exprs e es) (t ∷ ts) h = let rest = have_forms n es ts h.1 in (h.0.form ∷ rest.0, (h.0.of, rest.1))

-- where subscripts fail by a limit, there are none
pub limit_lacks : (n : Nesting) (es : Tree.Exprs) (fault : Fault) (place : Place) → fault ≡ Limit place → Because (SubscriptsFail n es fault) fault → (ts : List Subscript) → AreEach (IsSubscript n) es ts → ⊥
limit_lacks n es fault place is (inl m) ts h = let e = sym is ∙ m in cc e
limit_lacks n es fault place is (inr (inl none)) ts h = let fs = have_forms n es ts h in none fs.0 fs.1
limit_lacks n es fault place is (inr (inr (limit, none))) ts h = none ts h
