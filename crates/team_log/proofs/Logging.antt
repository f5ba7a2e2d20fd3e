-- The changes, partials and texts of a worker's chunks, one behind another.
use Rattle.std.specs.Prelude.{ℕ, ◌≡◌, ◌+◌, List, [], ◌∷◌, ◌++◌, length, map, drop, Option}
use Rattle.std.proofs.Common.{sym, ap, ◌∙◌, length-append, arith}
use Rattle.std.proofs.lemmas.List.{map-append, length-map, take_all, length-drop, take-append-le, drop-append-le}
use Rattle.overlay_pages.specs.declared.changes.Change.{Change}
use Rattle.reduce.specs.declared.partial.Partial.{Partial}
use Rattle.reduce.specs.Partial.{partial_of}
use Rattle.team_log.specs.declared.log.EndedChunk.{EndedChunk}
use Rattle.team_log.specs.Logged.{Leaving, changes_in, partials_in, bytes_in, logged}

-- one chunk more
pub changes_more : (es : List EndedChunk) (e : EndedChunk) → changes_in (es ++ e ∷ []) ≡ changes_in es + e.changes
changes_more [] e = omega arith
changes_more (d ∷ es) e = let r = changes_more es e in omega arith

pub partials_more : (es : List EndedChunk) (e : EndedChunk) → partials_in (es ++ e ∷ []) ≡ partials_in es + e.partials
partials_more [] e = omega arith
partials_more (d ∷ es) e = let r = partials_more es e in omega arith

pub bytes_more : (es : List EndedChunk) (e : EndedChunk) → bytes_in (es ++ e ∷ []) ≡ bytes_in es + e.bytes
bytes_more [] e = omega arith
bytes_more (d ∷ es) e = let r = bytes_more es e in omega arith

abbrev pub leaving : EndedChunk → List Change → List (Option ℕ) → List ℕ → Leaving
leaving e ws ps bs = record { number = e.number.0; changes = ws; partials = ps; text = bs }

-- lists behind each other, of counted chunks
module _ (e : EndedChunk) (vs : List Change) (qs : List (Option ℕ)) (cs : List ℕ) (count : e.changes ≡ length vs) (partials : e.partials ≡ length qs) (bytes : e.bytes ≡ length cs) where
  pub logged_more : (es : List EndedChunk) (ws : List Change) (ps : List (Option ℕ)) (bs : List ℕ) → changes_in es ≡ length ws → partials_in es ≡ length ps → bytes_in es ≡ length bs
      → logged (es ++ e ∷ []) (ws ++ vs) (ps ++ qs) (bs ++ cs) ≡ logged es ws ps bs ++ leaving e vs qs cs ∷ []
  logged_more [] [] [] [] told kept held = λ i. leaving e (take_all e.changes vs (omega arith) i) (take_all e.partials qs (omega arith) i) (take_all e.bytes cs (omega arith) i) ∷ []
  logged_more [] (w ∷ ws) ps bs told kept held = absurd (omega arith)
  logged_more [] [] (p ∷ ps) bs told kept held = absurd (omega arith)
  logged_more [] [] [] (b ∷ bs) told kept held = absurd (omega arith)
  logged_more (d ∷ es) ws ps bs told kept held =
      let first = take-append-le d.changes ws vs (omega arith) in
      let rest = drop-append-le d.changes ws vs (omega arith) in
      let first_partials = take-append-le d.partials ps qs (omega arith) in
      let rest_partials = drop-append-le d.partials ps qs (omega arith) in
      let first_bytes = take-append-le d.bytes bs cs (omega arith) in
      let rest_bytes = drop-append-le d.bytes bs cs (omega arith) in
      let left = length-drop d.changes ws in
      let left_partials = length-drop d.partials ps in
      let left_bytes = length-drop d.bytes bs in
      let r = logged_more es (drop d.changes ws) (drop d.partials ps) (drop d.bytes bs) (omega arith) (omega arith) (omega arith) in
      λ i. leaving d (first i) (first_partials i) (first_bytes i) ∷ ((λ j. logged (es ++ e ∷ []) (rest j) (rest_partials j) (rest_bytes j)) ∙ r) i

-- the counts of one chunk more
pub counted : (es es' : List EndedChunk) (e : EndedChunk) (ws vs ws' : List Change) → es' ≡ es ++ e ∷ [] → ws' ≡ ws ++ vs → changes_in es ≡ length ws → e.changes ≡ length vs → changes_in es' ≡ length ws'
counted es es' e ws vs ws' ended added told count =
    let long : length ws' ≡ length ws + length vs = ap (λ (l : List Change). length l) added ∙ length-append ws vs in
    ap changes_in ended ∙ changes_more es e ∙ (let all : changes_in es + e.changes ≡ length ws' = omega arith in all)

pub partials_counted : (es es' : List EndedChunk) (e : EndedChunk) (ps qs ps' : List Partial) → es' ≡ es ++ e ∷ [] → ps' ≡ ps ++ qs → partials_in es ≡ length ps → e.partials ≡ length qs → partials_in es' ≡ length ps'
partials_counted es es' e ps qs ps' ended added told count =
    let long : length ps' ≡ length ps + length qs = ap (λ (l : List Partial). length l) added ∙ length-append ps qs in
    ap partials_in ended ∙ partials_more es e ∙ (let all : partials_in es + e.partials ≡ length ps' = omega arith in all)

pub bytes_counted : (es es' : List EndedChunk) (e : EndedChunk) (bs cs bs' : List ℕ) → es' ≡ es ++ e ∷ [] → bs' ≡ bs ++ cs → bytes_in es ≡ length bs → e.bytes ≡ length cs → bytes_in es' ≡ length bs'
bytes_counted es es' e bs cs bs' ended added told count =
    let long : length bs' ≡ length bs + length cs = ap (λ (l : List ℕ). length l) added ∙ length-append bs cs in
    ap bytes_in ended ∙ bytes_more es e ∙ (let all : bytes_in es + e.bytes ≡ length bs' = omega arith in all)

-- the log of one chunk more
pub pushed : (es es' : List EndedChunk) (e : EndedChunk) (ws vs ws' : List Change) (ps qs ps' : List Partial) (bs cs bs' : List ℕ) → es' ≡ es ++ e ∷ [] → ws' ≡ ws ++ vs → ps' ≡ ps ++ qs → bs' ≡ bs ++ cs
    → changes_in es ≡ length ws → e.changes ≡ length vs → partials_in es ≡ length ps → e.partials ≡ length qs → bytes_in es ≡ length bs → e.bytes ≡ length cs
    → logged es' ws' (map partial_of ps') bs' ≡ logged es ws (map partial_of ps) bs ++ leaving e vs (map partial_of qs) cs ∷ []
pushed es es' e ws vs ws' ps qs ps' bs cs bs' ended added more printed told count kept partials held bytes =
    (λ i. logged (ended i) (added i) ((ap (λ (l : List Partial). map partial_of l) more ∙ map-append partial_of ps qs) i) (printed i))
    ∙ logged_more e vs (map partial_of qs) cs count (partials ∙ sym (length-map qs partial_of)) bytes es ws (map partial_of ps) bs told (kept ∙ sym (length-map ps partial_of)) held
