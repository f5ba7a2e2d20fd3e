-- What chunks print, one behind another and by their numbers.
use Rattle.std.specs.Prelude.{ℕ, zero, suc, ◌≡◌, ◌<◌, List, [], ◌∷◌, ◌++◌, length, map, take, drop, flat_map, replicate, slice_set, Option}
use Rattle.std.proofs.Common.{refl, sym, ap, ◌∙◌, subst, arith, Bor, get_or}
use Rattle.std.proofs.Math.Seq.{drop-cons}
use Rattle.std.proofs.lemmas.Grind.{flat_map-append}
use Rattle.std.proofs.lemmas.List.{map-append, length-take, length-drop, take-append-drop, map-set}
use Rattle.std.proofs.lemmas.List.Elements.{All-nil, All-cons, All-head, All-tail}
use Rattle.seqrun_io.specs.Told.{AddsBeginning}
use Rattle.seqrun_io.proofs.Beginnings.{none, of_front, of_rest}
use Rattle.overlay_pages.specs.declared.changes.Change.{Change}
use Rattle.team_log.specs.declared.log.EndedChunk.{EndedChunk}
use Rattle.team_log.specs.Logged.{Leaving, logged}
use Rattle.team_log.specs.Printed.{entered, entered_from, text_in_order, AreSilent}

-- so many empty texts
abbrev none_each : ℕ → List (List ℕ)
none_each n = replicate n []

-- nothing more
empty : (bs : List ℕ) → length bs ≡ 0 → bs ≡ []
empty [] none = refl
empty (b ∷ bs) none = absurd (omega arith)

-- chunks that print nothing
pub silent_logged : (es : List EndedChunk) (ws : List Change) (ps : List (Option ℕ)) (bs : List ℕ) → length bs ≡ 0 → AreSilent (logged es ws ps bs)
silent_logged [] ws ps bs none = All-nil (λ (c : Leaving). c.text ≡ [])
silent_logged (e ∷ es) ws ps bs none =
    All-cons (λ (c : Leaving). c.text ≡ []) _ _ (empty (take e.bytes bs) (omega (arith, length-take e.bytes bs)))
    (silent_logged es (drop e.changes ws) (drop e.partials ps) (drop e.bytes bs) (omega (arith, length-drop e.bytes bs)))

silent_set : (n k : ℕ) → slice_set (none_each n) k [] ≡ none_each n
silent_set zero k = refl
silent_set (suc n) zero = refl
silent_set (suc n) (suc k) = ap (λ (l : List (List ℕ)). [] ∷ l) (silent_set n k)

entered_silent : (n : ℕ) (cs : List Leaving) → AreSilent cs → entered cs (none_each n) ≡ none_each n
entered_silent n [] silent = refl
entered_silent n (c ∷ cs) silent =
    (λ i. entered cs (slice_set (none_each n) c.number (All-head (λ (c : Leaving). c.text ≡ []) c cs silent i))) ∙ ap (entered cs) (silent_set n c.number) ∙ entered_silent n cs (All-tail (λ (c : Leaving). c.text ≡ []) c cs silent)

none_of : (n : ℕ) → flat_map (λ (t : List ℕ). t) (none_each n) ≡ []
none_of zero = refl
none_of (suc n) = none_of n

pub silent_text : (n : ℕ) (cs : List Leaving) → AreSilent cs → text_in_order n cs ≡ []
silent_text n cs silent = ap (flat_map (λ (t : List ℕ). t)) (entered_silent n cs silent) ∙ none_of n

-- texts that come one behind another
pub logged_enter : (es : List EndedChunk) (ws : List Change) (ps : List (Option ℕ)) (bs : List ℕ) (texts : List (List ℕ)) → entered (logged es ws ps bs) texts ≡ entered_from es bs texts
logged_enter [] ws ps bs texts = refl
logged_enter (e ∷ es) ws ps bs texts = logged_enter es (drop e.changes ws) (drop e.partials ps) (drop e.bytes bs) (slice_set texts e.number.0 (take e.bytes bs))

-- a table of texts
pub put_at : (texts : List (Bor (List ℕ))) (number : ℕ) (text : Bor (List ℕ)) → map (λ (t : Bor (List ℕ)). t.now) (slice_set texts number text) ≡ slice_set (map (λ (t : Bor (List ℕ)). t.now) texts) number text.now
put_at texts number text = map-set (λ (t : Bor (List ℕ)). t.now) texts number text

-- the texts so far, and a beginning of one more
pub begun_text : (texts : List (Bor (List ℕ))) (i : ℕ) (d : Bor (List ℕ)) (before told after : List ℕ) → i < length texts → told ≡ before ++ flat_map (λ (t : List ℕ). t) (map (λ (t : Bor (List ℕ)). t.now) (take i texts))
    → AddsBeginning told after (get_or texts i d).now → AddsBeginning before after (flat_map (λ (t : List ℕ). t) (map (λ (t : Bor (List ℕ)). t.now) texts))
begun_text texts i d before told after lt t a =
    subst (AddsBeginning before after) (sym around) (of_rest before told after (all (take i texts)) ((get_or texts i d).now ++ all (drop (suc i) texts)) t (of_front told after (get_or texts i d).now (all (drop (suc i) texts)) a))
  where
    all : List (Bor (List ℕ)) → List ℕ
    all ts = flat_map (λ (t : List ℕ). t) (map (λ (t : Bor (List ℕ)). t.now) ts)

    both : (xs ys : List (Bor (List ℕ))) → all (xs ++ ys) ≡ all xs ++ all ys
    both xs ys = ap (flat_map (λ (t : List ℕ). t)) (map-append (λ (t : Bor (List ℕ)). t.now) xs ys) ∙ flat_map-append (λ (t : List ℕ). t) (map (λ (t : Bor (List ℕ)). t.now) xs) (map (λ (t : Bor (List ℕ)). t.now) ys)

    around : all texts ≡ all (take i texts) ++ ((get_or texts i d).now ++ all (drop (suc i) texts))
    around = ap all (sym (take-append-drop i texts) ∙ ap (λ l. take i texts ++ l) (drop-cons texts i d lt)) ∙ both (take i texts) (get_or texts i d ∷ drop (suc i) texts)

-- one text, so many times
pub all_same : (text : Bor (List ℕ)) (texts : List (Bor (List ℕ))) (n : ℕ) → texts ≡ replicate n text → map (λ (t : Bor (List ℕ)). t.now) texts ≡ replicate n text.now
all_same text texts n is = ap (map (λ (t : Bor (List ℕ)). t.now)) is ∙ go n
  where
    go : (m : ℕ) → map (λ (t : Bor (List ℕ)). t.now) (replicate m text) ≡ replicate m text.now
    go zero = refl
    go (suc m) = ap (λ l. text.now ∷ l) (go m)
