-- Cells of which a part is lent, where a thread writes its own.
use Rattle.std.proofs.Common.{◌≡◌, ◌⊎◌, inl, inr, ℕ, ◌+◌, ◌-◌, ◌≤◌, List, [], ◌∷◌, length, true, refl, sym, ap, ◌∙◌, arith, rules}
use Rattle.std.specs.Prelude.{slice_set, ◌==◌, ◌&&◌, if◌then◌else◌, Bool}
use Rattle.std.proofs.lemmas.List.{length-set}
use Rattle.lower_op.specs.Stretches.{written}
use Rattle.team_parts.specs.declared.surroundings.Surroundings.{Surroundings}
use Rattle.team_parts.specs.Parted.{Kept, parted, cells_held}
use Rattle.team_parts.specs.Lent.{lent_cells, stands}
use Rattle.team_parts.proofs.Places.{parted_length, written_own, held_none}

length-written : (first : ℕ) (ns xs : List ℕ) → length (written first ns xs) ≡ length xs
length-written first [] xs = refl
length-written first (n ∷ ns) xs = length-written (first + 1) ns (slice_set xs first n) ∙ length-set xs first n

-- how many cells they are
pub all_of : (a : Surroundings) (own : List ℕ) → length own ≡ a.count → length (parted a.before.now a.left own a.right a.behind.now) ≡ a.all
all_of a own e =
    let sum = a.sum in
    let long = parted_length a.before.now a.left own a.right a.behind.now in
    omega arith

-- where they stand so
pub lent_as : (a : Surroundings) (own : List ℕ) (w : Kept) → stands a own w ≡ true → lent_cells a own w ≡ cells_held w.items (parted a.before.now a.left own a.right a.behind.now)
lent_as a own w e = ap (λ (b : Bool). if b then cells_held w.items (parted a.before.now a.left own a.right a.behind.now) else []) e

pub stands_of : (a : Surroundings) (own : List ℕ) (w : Kept) → length own ≡ a.count → w.room ≡ a.all → stands a own w ≡ true
stands_of a own w long room = search rules

-- before a turn wrote any
pub lent_fresh : (a : Surroundings) (own : List ℕ) (w : Kept) → stands a own w ≡ true → w.items ≡ [] → lent_cells a own w ≡ parted a.before.now a.left own a.right a.behind.now
lent_fresh a own w stand none = lent_as a own w stand ∙ held_none w.items (parted a.before.now a.left own a.right a.behind.now) none

-- where it writes its own
pub lent_written : (a : Surroundings) (own : List ℕ) (w : Kept) (first : ℕ) (ns new : List ℕ) → stands a own w ≡ true → length own ≡ a.count → w.items ≡ []
    → length a.before.now + a.left ≤ first → first + length ns ≤ length a.before.now + a.left + a.count → new ≡ written (first - (length a.before.now + a.left)) ns own
    → lent_cells a new w ≡ written first ns (lent_cells a own w)
lent_written a own w first ns new stand long none low high is =
    let front = length a.before.now + a.left in
    let kept : length new ≡ length own = ap length is ∙ length-written (first - front) ns own in
    let stands' : stands a new w ≡ true = ap (λ n. (n == a.count) && (w.room == a.all)) kept ∙ stand in
    let there : front + (first - front) ≡ first = omega (arith, low) in
    lent_fresh a new w stands' none
    ∙ ap (λ o. parted a.before.now a.left o a.right a.behind.now) is
    ∙ sym (written_own a.before.now a.left own a.right a.behind.now ns (first - front) (omega (arith, low, high, long)))
    ∙ ap (λ i. written i ns (parted a.before.now a.left own a.right a.behind.now)) there
    ∙ ap (λ l. written first ns l) (sym (lent_fresh a own w stand none))

-- its own places are among those of memory that holds all
pub inside_of : (a : Surroundings) (w : Kept) (xs : List ℕ) → w.room ≡ a.all → (w.items ≡ [] → ⊥) → xs ≡ w.items → (xs ≡ []) ⊎ (length xs ≡ w.room)
    → length a.before.now + a.left + a.count ≤ length xs
inside_of a w xs room some is (inl none) = absurd (some (sym is ∙ none))
inside_of a w xs room some is (inr long) =
    let sum = a.sum in
    omega arith
