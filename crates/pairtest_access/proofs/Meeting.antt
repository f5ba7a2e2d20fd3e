-- One object that is met, and what is kept in the end.
use Rattle.std.specs.Prelude.{ℕ, zero, suc, ◌-◌, ◌≡◌, ◌<◌, ◌==◌, false, List, [], ◌∷◌, ◌++◌, length, Some, None, slice_get}
use Rattle.std.proofs.Common.{inl, inr, Vec, Global, refl, sym, ap, ◌∙◌, subst, arith}
use Rattle.std.proofs.lemmas.List.{append_assoc, append-nil}
use Rattle.semantics.specs.Tree.{Variable}
use Rattle.ktree.specs.View.{exprs_of}
use Rattle.ktree.specs.declared.expression.Expr.{Expr}
use Rattle.pairtest_counter.specs.Levels.{Nesting}
use Rattle.pairtest.specs.declared.access.Access.{Access}
use Rattle.pairtest.specs.declared.access.Mode.{Mode}
use Rattle.pairtest_access.specs.Sites.{Site, named}
use Rattle.pairtest_access.specs.Found.{IsMet, IsTouched, AreMet, IsTold}
use Rattle.affine_expr.specs.declared.faults.Fault.{Fault}
use Rattle.pairtest_access.specs.Refused.{Because, AreNotAffine, Lacks}
use Rattle.pairtest_access.specs.Walk.{Meets, MeetsWanted, MeetsAll}
use Rattle.pairtest_access.specs.declared.told.Touched.{Touched}
use Rattle.pairtest_access.specs.declared.finder.Finder.{Finder}
use Rattle.pairtest_access.specs.declared.finder.Wanted.TheVariants.{Every, Only, Nothing}

-- an object with subscripts is an access
one_met : (n : Nesting) (mode : Mode) (x : Variable) (es : List Expr) (b a : Finder) → (length es == 0) ≡ false → Meets b (record { round = n; mode = mode; array = x; subscripts = exprs_of es }) a
    → MeetsAll b (named n mode x (exprs_of es)) a
one_met n mode x [] b a some h = absurd (cc some)
one_met n mode x (e ∷ es) b a some h = (a, h, refl)

pub every_met : (n : Nesting) (mode : Mode) (x : Variable) (es : List Expr) (b : Finder) (f : Access) (v : Vec Access Global) → (length es == 0) ≡ false → b.wanted ≡ Every
    → IsMet b.outer (record { round = n; mode = mode; array = x; subscripts = exprs_of es }) f → v.items ≡ b.accesses.items ++ (f ∷ [])
    → MeetsAll b (named n mode x (exprs_of es)) (record { outer = b.outer; wanted = b.wanted; accesses = v; touched = b.touched })
every_met n mode x es b f v some is found items =
    let a : Finder = record { outer = b.outer; wanted = b.wanted; accesses = v; touched = b.touched } in
    let s : Site = record { round = n; mode = mode; array = x; subscripts = exprs_of es } in
    one_met n mode x es b a some (refl, subst (λ w. MeetsWanted w b s a) (sym is) (f, found, items, is))

pub this_met : (n : Nesting) (mode : Mode) (x : Variable) (es : List Expr) (b : Finder) (t : Touched) (k : ℕ) → (length es == 0) ≡ false → b.wanted ≡ Only k → k ≡ 0
    → IsTouched b.outer n (exprs_of es) t → MeetsAll b (named n mode x (exprs_of es)) (record { outer = b.outer; wanted = Nothing; accesses = b.accesses; touched = Some t })
this_met n mode x es b t k some is first told =
    let a : Finder = record { outer = b.outer; wanted = Nothing; accesses = b.accesses; touched = Some t } in
    let s : Site = record { round = n; mode = mode; array = x; subscripts = exprs_of es } in
    one_met n mode x es b a some (refl, subst (λ w. MeetsWanted w b s a) (sym (is ∙ ap Only first)) (t, told, refl, refl))

pub later_met : (n : Nesting) (mode : Mode) (x : Variable) (es : List Expr) (b : Finder) (k : ℕ) → (length es == 0) ≡ false → b.wanted ≡ Only k → 0 < k
    → MeetsAll b (named n mode x (exprs_of es)) (record { outer = b.outer; wanted = Only (k - 1); accesses = b.accesses; touched = b.touched })
later_met n mode x es b zero some is more = absurd (omega (arith, more))
later_met n mode x es b (suc k) some is more =
    let a : Finder = record { outer = b.outer; wanted = Only (suc k - 1); accesses = b.accesses; touched = b.touched } in
    let s : Site = record { round = n; mode = mode; array = x; subscripts = exprs_of es } in
    let one_less : suc k - 1 ≡ k = omega arith in
    one_met n mode x es b a some (refl, subst (λ w. MeetsWanted w b s a) (sym is) (refl, ap Only one_less))

pub none_wanted : (n : Nesting) (mode : Mode) (x : Variable) (es : List Expr) (b : Finder) → (length es == 0) ≡ false → b.wanted ≡ Nothing → MeetsAll b (named n mode x (exprs_of es)) b
none_wanted n mode x es b some is =
    let s : Site = record { round = n; mode = mode; array = x; subscripts = exprs_of es } in
    one_met n mode x es b b some (refl, subst (λ w. MeetsWanted w b s b) (sym is) refl)

-- an access that is not affine
pub site_lacks : (n : Nesting) (mode : Mode) (x : Variable) (es : List Expr) (fault : Fault) → (length es == 0) ≡ false
    → Because (AreNotAffine n.box (exprs_of es)) fault → Because (Lacks (named n mode x (exprs_of es))) fault
site_lacks n mode x [] fault some h = absurd (cc some)
site_lacks n mode x (e ∷ es) fault some (inl m) = inl m
site_lacks n mode x (e ∷ es) fault some (inr h) = inr (inl h)

-- ---- in the end

-- further accesses stand behind those before them
record More (b a : Finder) (ss : List Site) : Type 0 where
  found : List Access
  behind : a.accesses.items ≡ b.accesses.items ++ found
  are : AreMet b.outer ss found

all_found : (ss : List Site) (b a : Finder) → b.wanted ≡ Every → MeetsAll b ss a → More b a ss
all_found [] b a is h = record { found = []; behind = ap (λ (f : Finder). f.accesses.items) h ∙ sym (append-nil b.accesses.items); are = tt }
all_found (s ∷ ss) b a is (m, met, rest) =
    let here : MeetsWanted Every b s m = subst (λ w. MeetsWanted w b s m) is met.1 in
    let more = all_found ss m a here.3 rest in
    record {
      found = here.0 ∷ more.found;
      behind = more.behind ∙ ap (λ fs. fs ++ more.found) here.2 ∙ append_assoc b.accesses.items (here.0 ∷ []) more.found;
      are = (here.1, subst (λ n. AreMet n ss more.found) met.0 more.are);
    }

pub are_found : (ss : List Site) (b a : Finder) (outer : ℕ) → b.outer ≡ outer → b.wanted ≡ Every → b.accesses.items ≡ [] → MeetsAll b ss a → AreMet outer ss a.accesses.items
are_found ss b a outer out is none h =
    let more = all_found ss b a is h in
    subst (λ n. AreMet n ss a.accesses.items) out (subst (AreMet b.outer ss) (sym (more.behind ∙ ap (λ fs. fs ++ more.found) none)) more.are)

-- nothing more is kept
nothing_more : (ss : List Site) (b a : Finder) → b.wanted ≡ Nothing → MeetsAll b ss a → a ≡ b
nothing_more [] b a is h = h
nothing_more (s ∷ ss) b a is (m, met, rest) =
    let same : m ≡ b = subst (λ w. MeetsWanted w b s m) is met.1 in
    nothing_more ss m a (ap (λ (f : Finder). f.wanted) same ∙ is) rest ∙ same

is_told : (ss : List Site) (k : ℕ) (b a : Finder) → b.wanted ≡ Only k → b.touched ≡ None → MeetsAll b ss a → IsTold b.outer (slice_get ss k) a.touched
is_told [] k b a is none h = subst (IsTold b.outer None) (sym (ap (λ (f : Finder). f.touched) h ∙ none)) tt
is_told (s ∷ ss) zero b a is none (m, met, rest) =
    let here : MeetsWanted (Only zero) b s m = subst (λ w. MeetsWanted w b s m) is met.1 in
    let same = nothing_more ss m a here.3 rest in
    subst (IsTold b.outer (Some s)) (sym (ap (λ (f : Finder). f.touched) same ∙ here.2)) here.1
is_told (s ∷ ss) (suc k) b a is none (m, met, rest) =
    let here : MeetsWanted (Only (suc k)) b s m = subst (λ w. MeetsWanted w b s m) is met.1 in
    subst (λ n. IsTold n (slice_get ss k) a.touched) met.0 (is_told ss k m a here.1 (here.0 ∙ none) rest)

pub one_is_told : (ss : List Site) (k : ℕ) (b a : Finder) (outer : ℕ) → b.outer ≡ outer → b.wanted ≡ Only k → b.touched ≡ None → MeetsAll b ss a → IsTold outer (slice_get ss k) a.touched
one_is_told ss k b a outer out is none h = subst (λ n. IsTold n (slice_get ss k) a.touched) out (is_told ss k b a is none h)
