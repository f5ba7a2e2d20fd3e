-- The loops behind directive lines, as they are looked up by the lines' numbers.
use Rattle.std.specs.Prelude.{ℕ, suc, Bool, true, false, ◌≡◌, ◌+◌, ◌<◌, ◌≤◌, ◌==◌, if◌then◌else◌, List, [], ◌∷◌, ◌++◌, length, map, take, drop, Option, Some, All, Contains, None}
use Rattle.std.proofs.Common.{sym, ap, ◌∙◌, subst, get_or, drop-cons, add-one}
use Rattle.std.proofs.lemmas.List.{take_more, take_all, drop_all}
use Rattle.std.proofs.lemmas.List.Elements.{All-same, All-push}
use Rattle.semantics.specs.Loops.Order.{Distance}
use Rattle.flow.specs.declared.environment.ParallelLoop.{ParallelLoop}
use Rattle.flow.specs.Phases.{PhasesSaid}
use Rattle.flow_doacross.specs.Listed.{nest_at}
use Rattle.flow_doacross.specs.Views.{distance_kept, nest_part}
use Rattle.flow_doacross.specs.declared.listing.DoacrossLoop.{DoacrossLoop}
use Rattle.flow_scan.specs.Views.{scan_part, phases_at}
use Rattle.flow_scan.specs.declared.listing.ScanLoop.{ScanLoop}
use Rattle.outline.specs.Accepted.{StandsAt}

-- the loop of this number stands behind the line
pub stands : (loops : List ParallelLoop) (line i : ℕ) (l : ParallelLoop) → i < length loops → l ≡ get_or loops i l → l.line.line ≡ line → StandsAt loops line l
stands loops line i l lt at here = ((i, lt, sym at), here)

-- it does not, as none before it
pub stands_not : (loops : List ParallelLoop) (line i : ℕ) (l : ParallelLoop) → i < length loops → l ≡ get_or loops i l → (l.line.line ≡ line → ⊥) → All (λ p. p.line.line ≡ line → ⊥) (take i loops)
    → All (λ p. p.line.line ≡ line → ⊥) (take (i + 1) loops)
stands_not loops line i l lt at other earlier =
    let Other : ParallelLoop → Type 0 = λ p. p.line.line ≡ line → ⊥ in
    All-same Other (take (i + 1) loops) (take i loops ++ l ∷ []) (take_more loops i l lt ∙ ap (λ p. take i loops ++ p ∷ []) (sym at)) (All-push Other (take i loops) l earlier other)

-- where one does, it is found
pub one_stands : (loops : List ParallelLoop) (line i : ℕ) → length loops ≤ i → All (λ p. p.line.line ≡ line → ⊥) (take i loops) → (l : ParallelLoop) × StandsAt loops line l → ⊥
one_stands loops line i le none (l, (at, here)) =
    let all = All-same (λ (p : ParallelLoop). p.line.line ≡ line → ⊥) loops (take i loops) (sym (take_all i loops le)) none in
    absurd (of_all (λ (p : ParallelLoop). p.line.line ≡ line → ⊥) loops l all at here)
  where
    of_all : {A : Type 0} (P : A → Type 0) (xs : List A) (x : A) → All P xs → Contains xs x → P x
    of_all P xs x all c = subst P c.2 (all c.0 x c.1)

-- ---- the loops of scans

-- none before this one stands behind the line
abbrev pub ScanIsLeft : List ScanLoop → ℕ → ℕ → Type 0
ScanIsLeft scans line i = phases_at (map scan_part (drop i scans)) line ≡ phases_at (map scan_part scans) line

abbrev said_here : ScanLoop → Option PhasesSaid → Bool → Option PhasesSaid
said_here s further here = if here then Some (s.inclusive, s.front) else further

one_left : (scans : List ScanLoop) (line i : ℕ) (s : ScanLoop) → i < length scans → s ≡ get_or scans i s → ScanIsLeft scans line i
    → said_here s (phases_at (map scan_part (drop (i + 1) scans)) line) (s.line.line == line) ≡ phases_at (map scan_part scans) line
one_left scans line i s lt at left =
    let here : drop i scans ≡ s ∷ drop (i + 1) scans = rw add-one (drop-cons scans i s lt ∙ ap (λ x. x ∷ drop (suc i) scans) (sym at)) in
    sym (ap (λ ss. phases_at (map scan_part ss) line) here) ∙ left

pub scan_here : (scans : List ScanLoop) (line i : ℕ) (s : ScanLoop) → i < length scans → s ≡ get_or scans i s → (s.line.line == line) ≡ true → ScanIsLeft scans line i
    → phases_at (map scan_part scans) line ≡ Some (s.inclusive, s.front)
scan_here scans line i s lt at here left =
    sym (one_left scans line i s lt at left) ∙ ap (said_here s (phases_at (map scan_part (drop (i + 1) scans)) line)) here

pub scan_further : (scans : List ScanLoop) (line i : ℕ) (s : ScanLoop) → i < length scans → s ≡ get_or scans i s → (s.line.line == line) ≡ false → ScanIsLeft scans line i → ScanIsLeft scans line (i + 1)
scan_further scans line i s lt at here left =
    sym (ap (said_here s (phases_at (map scan_part (drop (i + 1) scans)) line)) here) ∙ one_left scans line i s lt at left

-- ---- doacross nests

-- none before this one stands behind the line
abbrev pub NestIsLeft : List DoacrossLoop → ℕ → ℕ → Type 0
NestIsLeft nests line i = nest_at (map nest_part (drop i nests)) line ≡ nest_at (map nest_part nests) line

abbrev sinks_here : DoacrossLoop → Option (List Distance) → Bool → Option (List Distance)
sinks_here n further here = if here then Some (map distance_kept n.distances.items) else further

one_nest_left : (nests : List DoacrossLoop) (line i : ℕ) (n : DoacrossLoop) → i < length nests → n ≡ get_or nests i n → NestIsLeft nests line i
    → sinks_here n (nest_at (map nest_part (drop (i + 1) nests)) line) (n.line.line == line) ≡ nest_at (map nest_part nests) line
one_nest_left nests line i n lt at left =
    let here : drop i nests ≡ n ∷ drop (i + 1) nests = rw add-one (drop-cons nests i n lt ∙ ap (λ x. x ∷ drop (suc i) nests) (sym at)) in
    sym (ap (λ ns. nest_at (map nest_part ns) line) here) ∙ left

pub nest_here : (nests : List DoacrossLoop) (line i : ℕ) (n : DoacrossLoop) → i < length nests → n ≡ get_or nests i n → (n.line.line == line) ≡ true → NestIsLeft nests line i
    → nest_at (map nest_part nests) line ≡ Some (map distance_kept n.distances.items)
nest_here nests line i n lt at here left =
    sym (one_nest_left nests line i n lt at left) ∙ ap (sinks_here n (nest_at (map nest_part (drop (i + 1) nests)) line)) here

pub nest_further : (nests : List DoacrossLoop) (line i : ℕ) (n : DoacrossLoop) → i < length nests → n ≡ get_or nests i n → (n.line.line == line) ≡ false → NestIsLeft nests line i → NestIsLeft nests line (i + 1)
nest_further nests line i n lt at here left =
    sym (ap (sinks_here n (nest_at (map nest_part (drop (i + 1) nests)) line)) here) ∙ one_nest_left nests line i n lt at left

pub no_nest : (nests : List DoacrossLoop) (line i : ℕ) → length nests ≤ i → NestIsLeft nests line i → nest_at (map nest_part nests) line ≡ None
no_nest nests line i le left = sym left ∙ ap (λ ns. nest_at (map nest_part ns) line) (drop_all i nests le)
