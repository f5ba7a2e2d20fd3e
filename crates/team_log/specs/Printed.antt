-- What chunks print, in the order of their iterations. (OpenMP 5.2, 15.10)
use Rattle.std.specs.Prelude.{ℕ, ◌≡◌, List, [], ◌∷◌, take, drop, flat_map, replicate, slice_set, All}
use Rattle.team_log.specs.declared.log.EndedChunk.{EndedChunk}
use Rattle.team_log.specs.Logged.{Leaving}

-- what each of these chunks tells stands at its number, in place of something else
abbrev pub entered_by : {A : Type 0} → (Leaving → A) → List Leaving → List A → List A
entered_by told [] table = table
entered_by told (c ∷ cs) table = entered_by told cs (slice_set table c.number (told c))

-- what it prints does
abbrev pub entered : List Leaving → List (List ℕ) → List (List ℕ)
entered cs texts = entered_by (λ c. c.text) cs texts

-- the same of texts that come one behind another
abbrev pub entered_from : List EndedChunk → List ℕ → List (List ℕ) → List (List ℕ)
entered_from [] bs texts = texts
entered_from (e ∷ es) bs texts = entered_from es (drop e.bytes bs) (slice_set texts e.number.0 (take e.bytes bs))

-- what so many chunks print, the first one's first
abbrev pub text_in_order : ℕ → List Leaving → List ℕ
text_in_order count cs = flat_map (λ t. t) (entered cs (replicate count []))

-- none of these prints anything
abbrev pub AreSilent : List Leaving → Type 0
AreSilent cs = All (λ c. c.text ≡ []) cs
