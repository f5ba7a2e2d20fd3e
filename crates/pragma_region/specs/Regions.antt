-- The directive lines of parallel regions, of ordered ones, of scans and of doacross nests. (OpenMP 5.2, 5.6, 10.1, 15.9 and 15.10)
use Rattle.std.specs.Prelude.{ℕ, Bool, true, false, ◌||◌, List, Option, Some}
use Rattle.semantics.specs.Tree.{Name, Kernel}
use Rattle.semantics.specs.Directives.Directive.{Directive, ScanInclusive, ScanExclusive, OrderedRegion, DoacrossSource, DoacrossSink}
use Rattle.semantics.specs.Directives.Placed.{is_team}
use Rattle.law_lines.specs.Without.{without_lines}
use Rattle.pragma_attach.specs.Standing.{directive_on}

-- the line of this number is a `parallel` directive
abbrev pub is_region_line : List ℕ → ℕ → Bool
is_region_line text n = is_team (directive_on text n)

-- the `ordered` directive of a region (OpenMP 5.2, 15.10.1)
abbrev pub is_ordered : Option (Directive Name) → Bool
is_ordered (Some OrderedRegion) = true
is_ordered _ = false

-- it stands on the line of this number
abbrev pub is_ordered_line : List ℕ → ℕ → Bool
is_ordered_line text n = is_ordered (directive_on text n)

-- a `scan` directive (OpenMP 5.2, 5.6)
abbrev pub is_scan : Option (Directive Name) → Bool
is_scan (Some (ScanInclusive x)) = true
is_scan (Some (ScanExclusive x)) = true
is_scan _ = false

-- it stands on the line of this number
abbrev pub is_scan_line : List ℕ → ℕ → Bool
is_scan_line text n = is_scan (directive_on text n)

-- a sink or a source of a doacross nest (OpenMP 5.2, 15.9.6)
abbrev pub is_doacross : Option (Directive Name) → Bool
is_doacross (Some DoacrossSource) = true
is_doacross (Some (DoacrossSink es)) = true
is_doacross _ = false

-- it stands on the line of this number
abbrev pub is_doacross_line : List ℕ → ℕ → Bool
is_doacross_line text n = is_doacross (directive_on text n)

-- a line that no pass behind the directives asks for
abbrev pub is_left_out : List ℕ → ℕ → Bool
is_left_out text n = is_region_line text n || is_ordered_line text n || is_scan_line text n || is_doacross_line text n

-- a kernel with its regions dissolved: each loop stands behind its own line alone
abbrev pub alone : List ℕ → Kernel → Kernel
alone text tree = without_lines (is_left_out text) tree
