-- The phases and the sinks of a kernel that has passed.
use Rattle.std.proofs.Common.{◌≡◌, ℕ, List, [], refl, subst, sym, ap, ◌∙◌}
use Rattle.std.proofs.Math.Path.{fun_ext}
use Rattle.std.specs.Prelude.{length}
use Rattle.semantics.specs.Tree.{Kernel}
use Rattle.pragma.specs.Plain.{IsDirected}
use Rattle.flow.specs.Phases.{PhasesBy}
use Rattle.flow.specs.Roles.{ItemsHaveBy}
use Rattle.flow_doacross.specs.Laws.{NestThere}
use Rattle.flow_doacross.specs.Listed.{NestPart}
use Rattle.flow_doacross.specs.declared.listing.DoacrossLoop.{DoacrossLoop}
use Rattle.flow_doacross.proofs.StandLaw.{stand_alone as nests_stand_alone}
use Rattle.flow_scan.specs.Laws.{ScanThere}
use Rattle.flow_scan.proofs.StandLaw.{stand_alone}
use Rattle.deptest_verdict.specs.Sinks.{sinks_at, line_sinks}
use Rattle.law_independence.specs.Said.{phases_in, sinks_in}
use Rattle.law_doacross.specs.Covering.{CountUpBy}
use Rattle.law_doacross.specs.Waving.{SuitBy}
use Rattle.deptest.specs.Accepted.{HasPassed, AreNestsPassed, clauses_counted, data_passed, inside_passed}
use Rattle.deptest.proofs.Phased.{all_phased}
use Rattle.deptest.proofs.Nested.{sinks_said, all_suit, all_count_up}

pub passed_phased : (text : List ℕ) (k : Kernel) (p : HasPassed text k) → ItemsHaveBy text (PhasesBy (data_passed p) (phases_in (inside_passed p))) [] k.body
passed_phased text k p =
    let lines = clauses_counted text p.reads.whole p.directives in
    all_phased text lines (length p.reads.whole.variables) p.reads.whole p.numbered k.body
    (subst (λ (j : Kernel). ItemsHaveBy text (ScanThere text lines p.reads.whole) [] j.body) (sym p.dissolved)
    (stand_alone text lines p.reads.whole p.scans (subst (IsDirected text) p.dissolved p.directed)))
    p.roles

-- ---- doacross nests

there : (text : List ℕ) (k : Kernel) (p : HasPassed text k) → ItemsHaveBy text (NestThere text (clauses_counted text p.reads.whole p.directives) p.reads.whole) [] k.body
there text k p =
    let lines = clauses_counted text p.reads.whole p.directives in
    subst (λ (j : Kernel). ItemsHaveBy text (NestThere text lines p.reads.whole) [] j.body) (sym p.dissolved)
    (nests_stand_alone text lines p.reads.whole p.nests (subst (IsDirected text) p.dissolved p.directed))

pub passed_suit : (text : List ℕ) (k : Kernel) (p : HasPassed text k) → ItemsHaveBy text (SuitBy (data_passed p) (inside_passed p)) [] k.body
passed_suit text k p = all_suit text (clauses_counted text p.reads.whole p.directives) (length p.reads.whole.variables) p.reads.whole (inside_passed p) (λ line. refl) k.body (there text k p)

pub passed_count_up : (text : List ℕ) (k : Kernel) (p : HasPassed text k) → ItemsHaveBy text (CountUpBy (inside_passed p)) [] k.body
passed_count_up text k p = all_count_up text (clauses_counted text p.reads.whole p.directives) p.reads.whole (inside_passed p) (λ line. refl) k.body (there text k p)

-- the sinks that the nests tell are those that are said
pub told_sinks : (text : List ℕ) (k : Kernel) (p : HasPassed text k) (nests : List DoacrossLoop) → AreNestsPassed p nests → line_sinks nests ≡ sinks_in (inside_passed p)
told_sinks text k p nests are = ap (λ (ps : List NestPart). sinks_at ps) are ∙ fun_ext (λ line. sinks_said _ line)
