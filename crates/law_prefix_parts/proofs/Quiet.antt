-- Instructions that write no cell, in lanes.
use Rattle.std.proofs.Common.{◌≡◌, ℕ, false, List, [], ◌∷◌, map, refl, sym, ap, ◌∙◌}
use Rattle.std.specs.List.{list_any}
use Rattle.std.proofs.lemmas.Bool.{or_parts}
use Rattle.lower_machine.specs.Machine.{machine}
use Rattle.lower_op.specs.declared.op.Op.{Op}
use Rattle.lower_op.specs.Steps.{step}
use Rattle.law_lanes.specs.Reading.{saves}
use Rattle.law_lanes.specs.Lanes.{lanes_of, in_front, in_each, in_step}
use Rattle.law_lanes.proofs.Swap.{reg, cells_are, resting}

pub map_alike : {A B : Type 0} (f g : A → B) (xs : List A) → ((x : A) → f x ≡ g x) → map f xs ≡ map g xs
map_alike f g [] h = refl
map_alike f g (x ∷ xs) h = ap (λ y. y ∷ map f xs) (h x) ∙ ap (λ l. g x ∷ l) (map_alike f g xs h)

quiet_step : (op : Op) (r c : List ℕ) → saves op ≡ false → (step op (machine r c)).cells ≡ c
quiet_step op r c e = cells_are op r c ∙ resting op r c e

one_each : (op : Op) (g : ℕ → List ℕ) (xs : List ℕ) (c : List ℕ) → saves op ≡ false → in_each (op ∷ []) (map g xs) c ≡ lanes_of (map (λ k. reg (op ∷ []) (g k) c) xs) c
one_each op g [] c e = refl
one_each op g (k ∷ xs) c e =
    ap (λ d. in_front (reg (op ∷ []) (g k) c) (in_each (op ∷ []) (map g xs) d)) (quiet_step op (g k) c e)
    ∙ ap (in_front (reg (op ∷ []) (g k) c)) (one_each op g xs c e)

-- in all lanes they do what they do in each by itself, over the same cells
pub quiet_in_step : (ops : List Op) (g : ℕ → List ℕ) (xs : List ℕ) (c : List ℕ) → list_any saves ops ≡ false → in_step ops (lanes_of (map g xs) c) ≡ lanes_of (map (λ k. reg ops (g k) c) xs) c
quiet_in_step [] g xs c e = refl
quiet_in_step (op ∷ ops) g xs c e =
    let p = or_parts (saves op) (list_any saves ops) e in
    ap (in_step ops) (one_each op g xs c p.0)
    ∙ quiet_in_step ops (λ k. reg (op ∷ []) (g k) c) xs c p.1
    ∙ ap (λ fs. lanes_of fs c)
    (map_alike (λ k. reg ops (reg (op ∷ []) (g k) c) c) (λ k. reg (op ∷ ops) (g k) c) xs (λ k. ap (reg ops (step op (machine (g k) c)).registers) (sym (quiet_step op (g k) c p.0))))
