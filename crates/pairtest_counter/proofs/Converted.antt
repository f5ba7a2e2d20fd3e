-- Forms in the counters, step by step.
use Rattle.std.specs.Prelude.{ℕ, ◌≡◌, pos, List, [], ◌∷◌, length, Bool, false, ◌==◌, option_map, IfOk, IfErr}
use Rattle.std.proofs.Common.{refl, sym, ap, ◌∙◌, subst, inl, inr, cond, arith}
use Rattle.std.proofs.lemmas.Option.{same_Some}
use Rattle.ktree.specs.declared.place.Place.{Place}
use Rattle.ktree.specs.declared.refusal.Refusal.{Refusal}
use Rattle.ktree.specs.declared.refusal.Refusal.TheVariants.{OutOfMemory, Limit}
use Rattle.affine.specs.declared.term.Term.{Term}
use Rattle.affine_expr.specs.declared.faults.Fault.{Fault}
use Rattle.affine_expr.specs.declared.faults.Fault.TheVariants as faults
use Rattle.affine.specs.Affine.{Affine}
use Rattle.affine.specs.Arithmetic.{constant_form, variable_form, sum_form, multiple_form}
use Rattle.affine.specs.Limits.{Fits, Refuses}
use Rattle.nest_loop.specs.declared.stride.Stride.{Stride}
use Rattle.nest_loop.specs.declared.head.Canonical.{Canonical}
use Rattle.pairtest_counter.specs.declared.level.EnclosingLoop.{EnclosingLoop}
use Rattle.pairtest_counter.specs.declared.level.Forms.{Forms}
use Rattle.pairtest_counter.specs.Counters.{place_in, Adds, none_left, one_more, InCounters, AreForms, IsProduct, IsWay, IsStepped, IsReached, AreFormsBetween, Stops, Makes, step_by, stepped, form_way, reached}
use Rattle.nest_loop.specs.Most.{way}
use Rattle.nest_loop.specs.Sides.{end_shift}
use Rattle.std.specs.declared.result.Result.{Result}
use Rattle.std.specs.declared.result.Result.TheVariants.{Ok, Err}

-- there is none of the one where there is none of the other
pub stops_too : {A B : Type 0} (place : Place) (P : A → Type 0) (Q : B → Type 0) (r : Refusal) → ((b : B) → Q b → (a : A) × P a) → Stops place P r → Stops place Q r
stops_too place P Q r f (inl m) = inl m
stops_too place P Q r f (inr l) = inr (l.0, λ b q. let p = f b q in l.1 p.0 p.1)

-- a sum that begins with a term
pub record Begins (levels : List EnclosingLoop) (sum : Affine) (t : Term) (ts : List Term) (g : Affine) : Type 0 where
  pub product : Affine
  pub is : IsProduct levels t product
  pub fits : Fits (sum_form sum product)
  pub rest : Adds levels (sum_form sum product) ts g

pub begun : (levels : List EnclosingLoop) (sum : Affine) (t : Term) (ts : List Term) (g : Affine) → Adds levels sum (t ∷ ts) g → Begins levels sum t ts g
begun levels sum t ts g (one_more {p = p} e f s r) = record { product = multiple_form p t.coefficient; is = record { place = p; at = e; is = refl; fits = f }; fits = s; rest = r }

pub begin : (levels : List EnclosingLoop) (sum product : Affine) (t : Term) (ts : List Term) (g : Affine) → IsProduct levels t product → Fits (sum_form sum product) → Adds levels (sum_form sum product) ts g → Adds levels sum (t ∷ ts) g
begin levels sum product t ts g h s r =
    one_more h.at (subst Fits h.is h.fits) (subst (λ (f : Affine). Fits (sum_form sum f)) h.is s) (subst (λ (f : Affine). Adds levels (sum_form sum f) ts g) h.is r)

same_product : (levels : List EnclosingLoop) (t : Term) (f g : Affine) → IsProduct levels t f → IsProduct levels t g → f ≡ g
same_product levels t f g h k = h.is ∙ ap (λ (p : Affine). multiple_form p t.coefficient) (same_Some h.place k.place (sym h.at ∙ k.at)) ∙ sym k.is

-- ---- where a sum stops

pub product_stops : (levels : List EnclosingLoop) (place : Place) (sum : Affine) (t : Term) (ts : List Term) (r : Refusal) → Stops place (IsProduct levels t) r → Stops place (Adds levels sum (t ∷ ts)) r
product_stops levels place sum t ts r h = stops_too place (IsProduct levels t) (Adds levels sum (t ∷ ts)) r (λ g a. let b = begun levels sum t ts g a in (b.product, b.is)) h

pub sum_stops : (levels : List EnclosingLoop) (place : Place) (sum product : Affine) (t : Term) (ts : List Term) (r : Refusal) → IsProduct levels t product → Refuses place (sum_form sum product) r → Stops place (Adds levels sum (t ∷ ts)) r
sum_stops levels place sum product t ts r h (inl m) = inl m
sum_stops levels place sum product t ts r h (inr l) =
    inr (l.0, λ g a. let b = begun levels sum t ts g a in l.1 (subst (λ (f : Affine). Fits (sum_form sum f)) (same_product levels t b.product product b.is h) b.fits))

pub rest_stops : (levels : List EnclosingLoop) (place : Place) (sum product : Affine) (t : Term) (ts : List Term) (r : Refusal) → IsProduct levels t product → Stops place (Adds levels (sum_form sum product) ts) r → Stops place (Adds levels sum (t ∷ ts)) r
rest_stops levels place sum product t ts r h s =
    stops_too place (Adds levels (sum_form sum product) ts) (Adds levels sum (t ∷ ts)) r
    (λ g a. let b = begun levels sum t ts g a in (g, subst (λ (f : Affine). Adds levels (sum_form sum f) ts g) (same_product levels t b.product product b.is h) b.rest)) s

pub makes_too : {A : Type 0} (place : Place) (P Q : A → Type 0) (r : Result A Refusal) → ((a : A) → P a → Q a) → ((a : A) → Q a → P a) → Makes r place P → Makes r place Q
makes_too place P Q (Ok a) f g h = f a h
makes_too place P Q (Err e) f g h = stops_too place P Q e (λ a q. (a, g a q)) h

-- a variable of another loop
pub other_loop : (levels outer : List EnclosingLoop) (level : EnclosingLoop) (t : Term) (place : Place) (r : Result Affine Refusal) → levels ≡ level ∷ outer → (level.canonical.variable.0 == t.variable.0) ≡ false
    → Makes r place (IsProduct outer t) → Makes r place (IsProduct levels t)
other_loop levels outer level t place r e ne h =
    let x = t.variable.0 in
    let same : place_in levels x ≡ place_in outer x = ap (λ (vs : List EnclosingLoop). place_in vs x) e ∙ ap (λ (b : Bool). cond b (option_map (λ (f : Forms). f.place) level.forms) (place_in outer x)) ne in
    makes_too place (IsProduct outer t) (IsProduct levels t) r
    (λ f p. record { place = p.place; at = same ∙ p.at; is = p.is; fits = p.fits })
    (λ f p. record { place = p.place; at = sym same ∙ p.at; is = p.is; fits = p.fits }) h

-- no term is left
pub nothing_added : (levels : List EnclosingLoop) (sum : Affine) (ts : List Term) → length ts ≡ 0 → Adds levels sum ts sum
nothing_added levels sum [] e = none_left
nothing_added levels sum (t ∷ ts) e = absurd (omega arith)

-- the terms are these
pub of_terms : {ts us : List Term} (levels : List EnclosingLoop) (sum : Affine) (place : Place) (r : Refusal) → ts ≡ us → Stops place (Adds levels sum us) r → Stops place (Adds levels sum ts) r
of_terms levels sum place r e h = subst (λ (vs : List Term). Stops place (Adds levels sum vs) r) (sym e) h

pub sum_made : (levels : List EnclosingLoop) (sum product next : Affine) (t : Term) (ts us : List Term) (place : Place) (r : Result Affine Refusal) → us ≡ t ∷ ts → IsProduct levels t product → next ≡ sum_form sum product → Fits next
    → Makes r place (Adds levels next ts) → Makes r place (Adds levels sum us)
sum_made levels sum product next t ts us place r e p is fits h =
    let fits' : Fits (sum_form sum product) = subst Fits is fits in
    let h' : Makes r place (Adds levels (sum_form sum product) ts) = subst (λ (f : Affine). Makes r place (Adds levels f ts)) is h in
    subst (λ (vs : List Term). Makes r place (Adds levels sum vs)) (sym e)
    (makes_too place (Adds levels (sum_form sum product) ts) (Adds levels sum (t ∷ ts)) r
    (λ g a. begin levels sum product t ts g p fits' a)
    (λ g a. let b = begun levels sum t ts g a in subst (λ (f : Affine). Adds levels (sum_form sum f) ts g) (same_product levels t b.product product b.is p) b.rest) h')

-- a form is one form in the counters
pub same_sum : (levels : List EnclosingLoop) (ts : List Term) (sum f g : Affine) → Adds levels sum ts f → Adds levels sum ts g → f ≡ g
same_sum levels [] sum f g none_left none_left = refl
same_sum levels (t ∷ ts) sum f g a b =
    let x = begun levels sum t ts f a in
    let y = begun levels sum t ts g b in
    same_sum levels ts (sum_form sum y.product) f g (subst (λ (p : Affine). Adds levels (sum_form sum p) ts f) (same_product levels t x.product y.product x.is y.is) x.rest) y.rest

-- ---- the forms of a loop

-- a sum is so, or it stops
pub made_by_sum : (place : Place) (P : Affine → Type 0) (a b : Affine) (r : Result Affine Refusal) → ((f : Affine) → f ≡ sum_form a b → Fits f → P f) → ((f : Affine) → P f → Fits (sum_form a b))
    → IfOk r (λ f. f ≡ sum_form a b) → IfOk r Fits → IfErr r (Refuses place (sum_form a b)) → Makes r place P
made_by_sum place P a b (Ok f) made fits is h s = made f is h
made_by_sum place P a b (Err e) made fits is h (inl m) = inl m
made_by_sum place P a b (Err e) made fits is h (inr k) = inr (k.0, λ f p. k.1 (fits f p))

pub stepped_made : (n : ℕ) (s : Stride) (start steps : Affine) (place : Place) (r : Result Affine Refusal) → steps ≡ multiple_form (variable_form n) (step_by s.direction s.by)
    → IfOk r (λ f. f ≡ sum_form start steps) → IfOk r Fits → IfErr r (Refuses place (sum_form start steps)) → Makes r place (IsStepped n s start)
stepped_made n s start steps place r e =
    let whole = ap (λ (g : Affine). sum_form start g) e in
    made_by_sum place (IsStepped n s start) start steps r
    (λ f is h. record { is = is ∙ whole; fits = h })
    (λ f p. subst Fits (p.is ∙ sym whole) p.fits)

pub way_stops : (l : Canonical) (start limit : Affine) (place : Place) (r : Refusal) → Stops place (IsWay l.stride.direction start limit) r → Stops place (IsReached l start limit) r
way_stops l start limit place r =
    stops_too place (IsWay l.stride.direction start limit) (IsReached l start limit) r (λ f a. (form_way l.stride.direction start limit, record { is = refl; fits = a.way_fits }))

pub reached_made : (l : Canonical) (start limit apart short : Affine) (place : Place) (r : Result Affine Refusal) → IsWay l.stride.direction start limit apart
    → short ≡ constant_form (way l.stride.direction (pos 0) (end_shift l.stride.direction l.bound)) → IfOk r (λ f. f ≡ sum_form apart short) → IfOk r Fits → IfErr r (Refuses place (sum_form apart short))
    → Makes r place (IsReached l start limit)
reached_made l start limit apart short place r w h =
    let whole : sum_form apart short ≡ reached l start limit =
    ap (λ (g : Affine). sum_form g short) w.is ∙ ap (λ (g : Affine). sum_form (form_way l.stride.direction start limit) g) h in
    made_by_sum place (IsReached l start limit) apart short r
    (λ f is fits. record { way_fits = subst Fits w.is w.fits; is = is ∙ whole; fits = fits })
    (λ f p. subst Fits (p.is ∙ sym whole) p.fits)

pub place_stops : (n : ℕ) (l : Canonical) (start limit : Affine) (place : Place) (r : Refusal) → Stops place (IsStepped n l.stride start) r → Stops place (AreFormsBetween n l start limit) r
place_stops n l start limit place r = stops_too place (IsStepped n l.stride start) (AreFormsBetween n l start limit) r (λ f a. (f.place, a.place))

pub reach_stops : (n : ℕ) (l : Canonical) (start limit : Affine) (place : Place) (r : Refusal) → Stops place (IsReached l start limit) r → Stops place (AreFormsBetween n l start limit) r
reach_stops n l start limit place r = stops_too place (IsReached l start limit) (AreFormsBetween n l start limit) r (λ f a. (f.reach, a.reach))

of_ends : (outer : List EnclosingLoop) (l : Canonical) (start limit : Affine) (n : ℕ) (f : Forms) → n ≡ length outer → InCounters outer l.start start → InCounters outer l.limit limit → AreFormsBetween n l start limit f
    → AreForms outer l f
of_ends outer l start limit n f e s t b =
    record {
      start = start;
      limit = limit;
      starts = s;
      limits = t;
      place = b.place.is ∙ ap (λ (m : ℕ). stepped m l start) e;
      place_fits = b.place.fits;
      way_fits = b.reach.way_fits;
      reach = b.reach.is;
      reach_fits = b.reach.fits;
    }

to_ends : (outer : List EnclosingLoop) (l : Canonical) (start limit : Affine) (n : ℕ) (f : Forms) → n ≡ length outer → InCounters outer l.start start → InCounters outer l.limit limit → AreForms outer l f
    → AreFormsBetween n l start limit f
to_ends outer l start limit n f e s t a =
    let p = same_sum outer l.start.terms (constant_form l.start.constant) a.start start a.starts s in
    let q = same_sum outer l.limit.terms (constant_form l.limit.constant) a.limit limit a.limits t in
    record {
      place = record { is = a.place ∙ ap (λ (g : Affine). stepped (length outer) l g) p ∙ ap (λ (m : ℕ). stepped m l start) (sym e); fits = a.place_fits };
      reach = record {
        way_fits = subst (λ (g : Affine). Fits (form_way l.stride.direction start g)) q (subst (λ (g : Affine). Fits (form_way l.stride.direction g a.limit)) p a.way_fits);
        is = a.reach ∙ ap (λ (g : Affine). reached l g a.limit) p ∙ ap (λ (g : Affine). reached l start g) q;
        fits = a.reach_fits;
      };
    }

pub forms_made : (outer : List EnclosingLoop) (l : Canonical) (start limit : Affine) (n : ℕ) (place : Place) (r : Result Forms Refusal) → n ≡ length outer → InCounters outer l.start start → InCounters outer l.limit limit
    → Makes r place (AreFormsBetween n l start limit) → Makes r place (AreForms outer l)
forms_made outer l start limit n place r e s t =
    makes_too place (AreFormsBetween n l start limit) (AreForms outer l) r (λ f. of_ends outer l start limit n f e s t) (λ f. to_ends outer l start limit n f e s t)

-- there are none where the limit is told
pub none_within : {A : Type 0} (place : Place) (P : A → Type 0) (r : Refusal) (f : Fault) (told : Place) → (r ≡ OutOfMemory → f ≡ faults.OutOfMemory) → f ≡ faults.Limit told → Stops place P r → (a : A) → P a → ⊥
none_within place P r f told m e (inl k) = let g = m k in absurd cc
none_within place P r f told m e (inr k) = k.1

-- what is told is memory's, where it is no limit
pub only_memory : {A : Type 0} (place : Place) (P : A → Type 0) (r : Refusal) (f : Fault) → (r ≡ OutOfMemory → f ≡ faults.OutOfMemory) → (r ≡ Limit place → f ≡ faults.Limit place)
    → ((told : Place) → f ≡ faults.Limit told → ⊥) → Stops place P r → f ≡ faults.OutOfMemory
only_memory place P r f m l other (inl k) = m k
only_memory place P r f m l other (inr k) = absurd (other place (l k.0))
