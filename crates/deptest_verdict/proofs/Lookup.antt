-- The sinks of a line, nest by nest.
use Rattle.std.specs.Prelude.{ℕ, Bool, true, false, ◌==◌, if◌then◌else◌, ◌≡◌, ◌+◌, ◌≤◌, ◌<◌, List, [], ◌∷◌, length, get_or, drop}
use Rattle.std.proofs.Common.{refl, sym, ap, ◌∙◌}
use Rattle.std.proofs.lemmas.Bool.{eq-eqb, eqb-true}
use Rattle.std.proofs.lemmas.List.{at_drop_more, drop_all}
use Rattle.semantics.specs.Loops.Order.{Distance}
use Rattle.flow_doacross.specs.Views.{nest_part}
use Rattle.flow_doacross.specs.declared.listing.DoacrossLoop.{DoacrossLoop}
use Rattle.deptest_verdict.specs.Sinks.{line_sinks}

-- those of the nests from one on
abbrev sinks_from : ℕ → List DoacrossLoop → List Distance
sinks_from line nests = line_sinks nests line

-- a nest that is tried
tried : (line i : ℕ) (nests : List DoacrossLoop) (l : DoacrossLoop) → i < length nests → l ≡ get_or nests i l
    → sinks_from line (drop i nests) ≡ (if l.line.line == line then (nest_part l).distances else sinks_from line (drop (i + 1) nests))
tried line i nests l lt is = at_drop_more (sinks_from line) nests i l lt ∙ ap (λ (m : DoacrossLoop). sinks_from line (m ∷ drop (i + 1) nests)) (sym is)

-- one of another line
pub tried_next : (line i : ℕ) (nests : List DoacrossLoop) (l : DoacrossLoop) → i < length nests → l ≡ get_or nests i l → (l.line.line ≡ line → ⊥)
    → sinks_from line (drop i nests) ≡ sinks_from line (drop (i + 1) nests)
tried_next line i nests l lt is other = tried line i nests l lt is ∙ go (l.line.line == line) refl
  where
    go : (b : Bool) → (l.line.line == line) ≡ b → (if l.line.line == line then (nest_part l).distances else sinks_from line (drop (i + 1) nests)) ≡ sinks_from line (drop (i + 1) nests)
    go true e = absurd (other (eqb-true l.line.line line e))
    go false e = ap (λ (b : Bool). if b then (nest_part l).distances else sinks_from line (drop (i + 1) nests)) e

-- that of the line
pub found_there : (line i : ℕ) (nests : List DoacrossLoop) (l : DoacrossLoop) → i < length nests → l ≡ get_or nests i l → l.line.line ≡ line
    → sinks_from line (drop i nests) ≡ (nest_part l).distances
found_there line i nests l lt is same =
    tried line i nests l lt is ∙ ap (λ (b : Bool). if b then (nest_part l).distances else sinks_from line (drop (i + 1) nests)) (eq-eqb l.line.line line same)

-- none is left
pub none_there : (line i : ℕ) (nests : List DoacrossLoop) → length nests ≤ i → sinks_from line (drop i nests) ≡ []
none_there line i nests le = ap (sinks_from line) (drop_all i nests le)
