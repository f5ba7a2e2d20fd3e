-- What the code finds of all sinks is that a sink covers the pair.
use Rattle.std.proofs.Common.{◌≡◌, ◌≢◌, ◌↔◌, ◌⊎◌, inl, inr, ℕ, ℤ, pos, negsuc, neg_ℤ, zero, suc, ◌<◌, ◌≤◌, ◌*ℤ◌, List, [], ◌∷◌, ◌&&◌, length, slice_index_or, All, Any, Contains, Bool, true, false, Some, refl, sym, ap, ◌∙◌, subst, arith}
use Rattle.std.proofs.lemmas.List.{length-map}
use Rattle.std.proofs.lemmas.Int.{ints}
use Rattle.std.proofs.lemmas.Option.{same_Some}
use Rattle.semantics.specs.Loops.Order.{Distance}
use Rattle.pairtest.specs.declared.access.Access.{Access}
use Rattle.pairtest.specs.declared.access.Nest.{Nest}
use Rattle.pairtest.specs.DirectionVectors.{dimensions}
use Rattle.pairtest_cover.specs.Covered.{IsUniform, IsApart, steps, IsCoveredBy}
use Rattle.pairtest_cover.specs.Along.{AreApart, LeadsThere}
use Rattle.pairtest_cover.proofs.Products.{times-zero}
use Rattle.pairtest_cover.proofs.Zipped.{both_hold}

-- each number of so many times a distance
pub step_at : (m : ℤ) (ds : Distance) (k : ℕ) → slice_index_or (steps m ds) k (pos 0) ≡ m *ℤ slice_index_or ds k (pos 0)
step_at m [] k = omega (arith, ints)
step_at m (d ∷ ds) zero = refl
step_at m (d ∷ ds) (suc k) = step_at m ds k

-- so many steps, forwards or backwards
record IsMultiple (far sink : Distance) : Type 0 where
  times : ℤ
  some : times ≢ pos 0
  is : far ≡ steps times sink

multiple_of : (far sink : Distance) (times : ℕ) → 1 ≤ times → (far ≡ steps (pos times) sink) ⊎ (far ≡ steps (neg_ℤ (pos times)) sink) → IsMultiple far sink
multiple_of far sink zero h m = absurd (omega (arith, h))
multiple_of far sink (suc n) h (inl e) = record { times = pos (suc n); some = λ (q : pos (suc n) ≡ pos 0). absurd cc; is = e }
multiple_of far sink (suc n) h (inr e) = record { times = negsuc n; some = λ (q : negsuc n ≡ pos 0). absurd cc; is = e }

module _ (nest : Nest) (ds : List Distance) (x y : Access) where
  covers : All (λ d. IsUniform nest d.0 d.1) (dimensions x y) → (sink : Distance) → Contains ds sink → LeadsThere nest x y sink → IsCoveredBy nest ds x y
  covers uniform sink named leads = go leads.times leads.some leads.apart
    where
      long : (m : ℤ) → length (steps m sink) ≡ length nest.loops.items
      long m = length-map sink (λ (d : ℤ). m *ℤ d) ∙ leads.loops

      apart_by : (m : ℤ) → AreApart nest x y sink m → (k : ℕ) → k < length nest.loops.items → IsApart nest x y k (slice_index_or (steps m sink) k (pos 0))
      apart_by m h k l = subst (IsApart nest x y k) (sym (step_at m sink k)) (h k l)

      go : (m : ℤ) → m ≢ pos 0 → AreApart nest x y sink m → IsCoveredBy nest ds x y
      go (pos zero) n h = absurd (n refl)
      go (pos (suc m)) n h = record {
        uniform = uniform;
        far = steps (pos (suc m)) sink;
        loops = long (pos (suc m));
        apart = apart_by (pos (suc m)) h;
        sink = sink;
        named = named;
        times = suc m;
        once = omega arith;
        multiple = inl refl;
      }
      go (negsuc m) n h = record {
        uniform = uniform;
        far = steps (negsuc m) sink;
        loops = long (negsuc m);
        apart = apart_by (negsuc m) h;
        sink = sink;
        named = named;
        times = suc m;
        once = omega arith;
        multiple = inr refl;
      }

  leads : (h : IsCoveredBy nest ds x y) → LeadsThere nest x y h.sink
  leads h =
      let m = multiple_of h.far h.sink h.times h.once h.multiple in
      record {
        loops = sym (length-map h.sink (λ (d : ℤ). m.times *ℤ d)) ∙ sym (ap length m.is) ∙ h.loops;
        times = m.times;
        some = m.some;
        apart = λ k l. subst (IsApart nest x y k) (ap (λ (far : Distance). slice_index_or far k (pos 0)) m.is ∙ step_at m.times h.sink k) (h.apart k l);
      }

  any_covers : All (λ d. IsUniform nest d.0 d.1) (dimensions x y) → Any (LeadsThere nest x y) ds → IsCoveredBy nest ds x y
  any_covers uniform (k, sink, l, e, h) = covers uniform sink (k, l, e) h

  any_leads : IsCoveredBy nest ds x y → Any (LeadsThere nest x y) ds
  any_leads h = let c = h.named in (c.0, h.sink, c.1, c.2, leads h)

  pub covered_decided : (b f : Bool) → ((b ≡ true) ↔ All (λ d. IsUniform nest d.0 d.1) (dimensions x y)) → ((f ≡ true) ↔ Any (LeadsThere nest x y) ds) → ((b && f) ≡ true) ↔ IsCoveredBy nest ds x y
  covered_decided b f h k = (λ t. let p = (both_hold b f h k).0 t in any_covers p.0 p.1, λ c. (both_hold b f h k).1 (c.uniform, any_leads c))

-- ---- one sink

-- the number of steps that is found is the one that there is
pub leads_decided : (nest : Nest) (x y : Access) (sink : Distance) (m : ℤ) (t : Bool) → length sink ≡ length nest.loops.items → m ≢ pos 0
    → ((n : ℤ) → AreApart nest x y sink n → (Some m ≡ Some n) ⊎ ((Some m ≡ Some (pos 1)) × AreApart nest x y sink (pos 1)))
    → ((t ≡ true) ↔ AreApart nest x y sink m) → (t ≡ true) ↔ LeadsThere nest x y sink
leads_decided nest x y sink m t long some found h = (
  λ e. record { loops = long; times = m; some = some; apart = h.0 e },
  λ l. h.1 (same l.times l.apart (found l.times l.apart)),
)
  where
    same : (n : ℤ) → AreApart nest x y sink n → (Some m ≡ Some n) ⊎ ((Some m ≡ Some (pos 1)) × AreApart nest x y sink (pos 1)) → AreApart nest x y sink m
    same n apart (inl e) = subst (AreApart nest x y sink) (sym (same_Some m n e)) apart
    same n apart (inr (e, one)) = subst (AreApart nest x y sink) (sym (same_Some m (pos 1) e)) one

-- no steps lead nowhere
pub leads_nowhere : (nest : Nest) (x y : Access) (sink : Distance)
    → ((n : ℤ) → AreApart nest x y sink n → (Some (pos 0) ≡ Some n) ⊎ ((Some (pos 0) ≡ Some (pos 1)) × AreApart nest x y sink (pos 1)))
    → (false ≡ true) ↔ LeadsThere nest x y sink
leads_nowhere nest x y sink found = (λ (e : false ≡ true). absurd cc, λ l. absurd (never l.times l.some (found l.times l.apart)))
  where
    never : (n : ℤ) → n ≢ pos 0 → ¬ ((Some (pos 0) ≡ Some n) ⊎ ((Some (pos 0) ≡ Some (pos 1)) × AreApart nest x y sink (pos 1)))
    never n some (inl e) = some (sym (same_Some (pos 0) n e))
    never n some (inr (e, one)) = let no : pos 0 ≡ pos 1 = same_Some (pos 0) (pos 1) e in absurd cc

-- a sink that goes nowhere goes there by one step as by any
pub nowhere_apart : (nest : Nest) (x y : Access) (sink : Distance) (m : ℤ) → ((k : ℕ) → k < length nest.loops.items → slice_index_or sink k (pos 0) ≡ pos 0)
    → AreApart nest x y sink m → AreApart nest x y sink (pos 1)
nowhere_apart nest x y sink m none h k l =
    subst (IsApart nest x y k) (ap (λ (z : ℤ). m *ℤ z) (none k l) ∙ times-zero m ∙ sym (times-zero (pos 1)) ∙ ap (λ (z : ℤ). pos 1 *ℤ z) (sym (none k l))) (h k l)
