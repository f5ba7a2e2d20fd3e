-- The lines of regions, part by part.
use Rattle.std.specs.Prelude.{ℕ, suc, ◌≡◌, ◌<◌, ◌+◌, List, [], ◌∷◌, ◌++◌, map, length, get_or, drop, Some, None, codes}
use Rattle.std.proofs.Common.{refl, sym, ap, ◌∙◌, append_assoc, add-one, drop-cons, arith}
use Rattle.pragma_region.specs.Listed.{LoopSaid, parts_of, part_said}
use Rattle.pragma_region.specs.declared.listing.RegionPart.{RegionPart}
use Rattle.semantics.specs.Directives.Listing.{loop_lines, numbered, loops_text, regions_text}
use Rattle.listing.specs.Regions.{listed_loop, printed, AddsPart}
use Rattle.listing.specs.declared.regions.Listed.{Listed}

-- the parts of a region's loops, with regions behind them
printed_loops : (r l : ℕ) (loops : List LoopSaid) (rest : List (List LoopSaid)) → ((m : ℕ) → printed r m (parts_of rest) ≡ regions_text (suc r) (map (map listed_loop) rest))
    → printed r l (map Some loops ++ parts_of rest) ≡ loops_text r (suc l) (map listed_loop loops) ++ regions_text (suc r) (map (map listed_loop) rest)
printed_loops r l [] rest behind = behind l
printed_loops r l (s ∷ loops) rest behind =
    ap (λ t. numbered r (suc l) (loop_lines (listed_loop s)) ++ t) (printed_loops r (suc l) loops rest behind)
    ∙ sym (append_assoc (numbered r (suc l) (loop_lines (listed_loop s))) (loops_text r (suc (suc l)) (map listed_loop loops)) (regions_text (suc r) (map (map listed_loop) rest)))

-- those of regions
pub printed_regions : (r l : ℕ) (regions : List (List LoopSaid)) → printed r l (parts_of regions) ≡ regions_text (suc r) (map (map listed_loop) regions)
printed_regions r l [] = refl
printed_regions r l (loops ∷ rest) =
    ap (λ t. numbered (suc r) 0 (codes "__kmpc_fork_call" ∷ []) ++ t) (printed_loops (suc r) 0 loops rest (λ m. printed_regions (suc r) m rest))
    ∙ sym (append_assoc (numbered (suc r) 0 (codes "__kmpc_fork_call" ∷ [])) (loops_text (suc r) 1 (map listed_loop loops)) (regions_text (suc (suc r)) (map (map listed_loop) rest)))

-- a region more
pub fork_added : (before : Listed) (n : ℕ) (text text' : List ℕ) → n ≡ before.regions + 1 → text' ≡ text ++ numbered n 0 (codes "__kmpc_fork_call" ∷ []) → AddsPart None before text text' (record { regions = n; loops = 0 })
fork_added before n text text' is added =
    record {
      lines = λ rest. ap (λ t. t ++ printed n 0 rest) added ∙ append_assoc text (numbered n 0 (codes "__kmpc_fork_call" ∷ [])) (printed n 0 rest)
          ∙ ap (λ m. text ++ (numbered m 0 (codes "__kmpc_fork_call" ∷ []) ++ printed m 0 rest)) (is ∙ add-one before.regions);
      regions = omega arith;
      loops = omega arith;
    }

-- a loop more
pub loop_added : (before : Listed) (n : ℕ) (s : LoopSaid) (text text' : List ℕ) → n ≡ before.loops + 1 → text' ≡ text ++ numbered before.regions n (loop_lines (listed_loop s)) → AddsPart (Some s) before text text' (record { regions = before.regions; loops = n })
loop_added before n s text text' is added =
    record {
      lines = λ rest. ap (λ t. t ++ printed before.regions n rest) added ∙ append_assoc text (numbered before.regions n (loop_lines (listed_loop s))) (printed before.regions n rest)
          ∙ ap (λ m. text ++ (numbered before.regions m (loop_lines (listed_loop s)) ++ printed before.regions m rest)) (is ∙ add-one before.loops);
      regions = omega arith;
      loops = omega arith;
    }

-- one part more of those that are left
pub part_added : (parts : List RegionPart) (i : ℕ) (part : RegionPart) (before after : Listed) (text text' first all : List ℕ) → i < length parts → part ≡ get_or parts i part → AddsPart (part_said part) before text text' after
    → text ++ printed before.regions before.loops (map part_said (drop i parts)) ≡ first ++ all → text' ++ printed after.regions after.loops (map part_said (drop (i + 1) parts)) ≡ first ++ all
part_added parts i part before after text text' first all lt is adds was =
    let here : drop i parts ≡ part ∷ drop (i + 1) parts = rw add-one (drop-cons parts i part lt ∙ ap (λ x. x ∷ drop (suc i) parts) (sym is)) in
    adds.lines (map part_said (drop (i + 1) parts)) ∙ ap (λ r. text ++ printed before.regions before.loops r) (sym (ap (map part_said) here)) ∙ was
