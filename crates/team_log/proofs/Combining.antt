-- What chunks tell of a reduction variable, taken in one after another.
use Rattle.std.specs.Prelude.{ℕ, zero, suc, ◌≡◌, List, [], ◌∷◌, ◌++◌, map, take, drop, replicate, slice_set, Option, None}
use Rattle.std.proofs.Common.{refl, sym, ap, ◌∙◌}
use Rattle.std.proofs.lemmas.List.{map-append}
use Rattle.semantics.specs.Loops.Operator.{ReduceOp, combined, combined_all}
use Rattle.semantics.specs.Loops.Joined.{value_at}
use Rattle.overlay_pages.specs.declared.changes.Change.{Change}
use Rattle.reduce.specs.declared.partial.Partial.{Partial}
use Rattle.reduce.specs.declared.partial.Partial.TheVariants.{Untouched}
use Rattle.reduce.specs.Partial.{partial_of}
use Rattle.team_log.specs.declared.log.EndedChunk.{EndedChunk}
use Rattle.team_log.specs.Logged.{Leaving, Account, logged, joined}
use Rattle.team_log.specs.Printed.{entered_by}
use Rattle.team_log.specs.Scanned.{told_of_scan, partials_from}
use Rattle.team_log.specs.Spots.{told_of}

-- what is left to take in
abbrev pub left_of : ℕ → List EndedChunk → List Partial → List (Option ℕ)
left_of index [] ps = []
left_of index (e ∷ es) ps = value_at index (map partial_of (take e.partials ps)) ∷ left_of index es (drop e.partials ps)

map_take : (n : ℕ) (ps : List Partial) → map partial_of (take n ps) ≡ take n (map partial_of ps)
map_take zero ps = refl
map_take (suc n) [] = refl
map_take (suc n) (p ∷ ps) = ap (λ l. partial_of p ∷ l) (map_take n ps)

map_drop : (n : ℕ) (ps : List Partial) → map partial_of (drop n ps) ≡ drop n (map partial_of ps)
map_drop zero ps = refl
map_drop (suc n) [] = refl
map_drop (suc n) (p ∷ ps) = map_drop n ps

pub left_all : (index : ℕ) (es : List EndedChunk) (ws : List Change) (ps : List Partial) (bs : List ℕ) → told_of index (logged es ws (map partial_of ps) bs) ≡ left_of index es ps
left_all index [] ws ps bs = refl
left_all index (e ∷ es) ws ps bs =
    let rest = ap (λ qs. told_of index (logged es (drop e.changes ws) qs (drop e.bytes bs))) (sym (map_drop e.partials ps)) ∙ left_all index es (drop e.changes ws) (drop e.partials ps) (drop e.bytes bs) in
    λ i. value_at index (sym (map_take e.partials ps) i) ∷ rest i

-- partials that come one behind another, by number
pub logged_partials : (es : List EndedChunk) (ws : List Change) (ps : List Partial) (bs : List ℕ) (table : List (Option ℕ)) → entered_by told_of_scan (logged es ws (map partial_of ps) bs) table ≡ partials_from es ps table
logged_partials [] ws ps bs table = refl
logged_partials (e ∷ es) ws ps bs table =
    (λ i. entered_by told_of_scan (logged es (drop e.changes ws) (sym (map_drop e.partials ps) i) (drop e.bytes bs)) (slice_set table e.number.0 (value_at 0 (sym (map_take e.partials ps) i))))
    ∙ logged_partials es (drop e.changes ws) (drop e.partials ps) (drop e.bytes bs) (slice_set table e.number.0 (value_at 0 (map partial_of (take e.partials ps))))

combined_both : (op : ReduceOp) (v : ℕ) (ps qs : List (Option ℕ)) → combined_all op v (ps ++ qs) ≡ combined_all op (combined_all op v ps) qs
combined_both op v [] qs = refl
combined_both op v (p ∷ ps) qs = combined_both op (combined op v p) ps qs

-- one log and then others
pub combined_more : (op : ReduceOp) (v index : ℕ) (log : Account) (logs : List Account)
    → combined_all op (combined_all op v (told_of index log.chunks)) (told_of index (joined logs).chunks) ≡ combined_all op v (told_of index (joined (log ∷ logs)).chunks)
combined_more op v index log logs =
    sym (ap (combined_all op v) (map-append (λ (c : Leaving). value_at index c.partials) log.chunks (joined logs).chunks) ∙ combined_both op v (told_of index log.chunks) (told_of index (joined logs).chunks))

-- partials of nothing
pub all_untouched : (table : List Partial) (n : ℕ) → table ≡ replicate n Untouched → map partial_of table ≡ replicate n None
all_untouched table n is = ap (map partial_of) is ∙ go n
  where
    go : (m : ℕ) → map partial_of (replicate m Untouched) ≡ replicate m None
    go zero = refl
    go (suc m) = ap (λ l. None ∷ l) (go m)
