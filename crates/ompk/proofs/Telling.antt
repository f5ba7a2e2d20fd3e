-- Which numbers the pass over data tells: where nests are right, none tells that a directive line has no nest.
use Rattle.std.specs.Prelude.{ℕ, Bool, true, ◌==◌, ◌≡◌, ◌⊎◌, ◌^◌, List, [], ◌∷◌, ◌++◌}
use Rattle.std.specs.List.{list_any}
use Rattle.std.proofs.Common.{refl, ap, ◌∙◌, inl, inr}
use Rattle.semantics.specs.Tree.{Variable, Stmt, Assign, Update, If, IfElse, For, Block, Print, Items, no_items, mark, local, stmt, Kernel}
use Rattle.semantics.specs.Meaning.Agrees.{is_among, declared_in}
use Rattle.law_roles.specs.Sharing.{role_variables}
use Rattle.ktree.specs.Numbers.{number_of}
use Rattle.ktree.specs.declared.place.Place.{Place}
use Rattle.ktree.specs.declared.refusal.Refusal.{Refusal}
use Rattle.ktree.specs.declared.refusal.Refusal.TheVariants.{OutOfMemory}
use Rattle.affine.specs.declared.interval.Side.{Side}
use Rattle.pragma.specs.Parallel.{associated, FirstHas, LineHas}
use Rattle.pragma_named.specs.Known.{Lines}
use Rattle.nest_loop.specs.Loops.{inside}
use Rattle.nest.specs.Perfect.{FirstNestWithin, LineNests, Nests, ItemsNest, AreRightNests}
use Rattle.flow.specs.Roles.{LoopData, LineData, left_roles}
use Rattle.flow.specs.Told.{TellsOf, TellsOfAny, TellsOfRoles, TellsOfNest, IsNest, TellsOfLine, TellsOfLoops, TellsOfItems, data_refusal_of}
use Rattle.flow.specs.declared.fault.DataFault.{DataFault}
use Rattle.flow.specs.declared.fault.DataFault.TheVariants.{Written, Copied, Unassigned, LastUnassigned, Reduced, Directive}
use Rattle.flow.specs.declared.fault.DataFault.TheVariants as faults
use Rattle.flow_clauses.specs.declared.judging.Misuse.{Misuse}
use Rattle.flow_clauses.specs.declared.judging.Misuse.TheVariants as misuses
use Rattle.flow_clauses.specs.Fitting.{number_told}
use Rattle.ompk.specs.Judged.{Whole}
use Rattle.ompk.specs.Refused.{TellsOneOf, RefusesScalars, RefusesWhole, RefusesData, RefusesPasses, IsNestedRightly}

module _ (place : Place) (own : Variable → Bool) where
  mutual
    -- a fault that tells that a directive line has no nest tells of no assignment
    none_written : (s : Stmt) → TellsOf (Directive place) own s → ⊥
    none_written (Assign x is e) h = h
    none_written (Update x is op e) h = h
    none_written (If c a) h = none_written a h
    none_written (IfElse c a b) (inl h) = none_written a h
    none_written (IfElse c a b) (inr h) = none_written b h
    none_written (For x name start test step body) h = none_written body h
    none_written (Block items) h = none_written_among items h
    none_written (Print parts) h = h

    none_written_among : (items : Items) → TellsOfAny (Directive place) own items → ⊥
    none_written_among no_items h = h
    none_written_among (mark line rest) h = none_written_among rest h
    none_written_among (local x name start rest) h = none_written_among rest h
    none_written_among (stmt s rest) (inl h) = none_written s h
    none_written_among (stmt s rest) (inr h) = none_written_among rest h

-- nor of a nest
none_of_nest : (place : Place) (d : LoopData) (s body : Stmt) → TellsOfRoles (Directive place) d s body → ⊥
none_of_nest place d s body (inl h) = none_written place (is_among (declared_in body ++ role_variables (left_roles d))) body h
none_of_nest place d s body (inr (inl h)) = h
none_of_nest place d s body (inr (inr (inl h))) = h
none_of_nest place d s body (inr (inr (inr (inl h)))) = h
none_of_nest place d s body (inr (inr (inr (inr (inl h))))) = h
none_of_nest place d s body (inr (inr (inr (inr (inr h))))) = h

none_of_first : (place : Place) (d : LoopData) (n : ℕ) (rest : Items) → FirstHas (TellsOfNest (Directive place) d) [] n rest → ⊥
none_of_first place d n no_items h = h
none_of_first place d n (mark line rest) h = h
none_of_first place d n (local x name start rest) h = h
none_of_first place d n (stmt s rest) h = none_of_nest place d s h.1 h.3

-- a right nest is one
nest_first : (box : List Side) (most n : ℕ) (rest : Items) → FirstNestWithin most box n rest → FirstHas IsNest [] n rest
nest_first box most n no_items h = h
nest_first box most n (mark line rest) h = h
nest_first box most n (local x name start rest) h = h
nest_first box most n (stmt s rest) h = (h.0, h.1, h.2)

line_has_nest : (text : List ℕ) (box : List Side) (line : ℕ) (rest : Items) → LineNests text box line rest → LineHas text IsNest [] line rest
line_has_nest text box line rest h = (h.0, h.1, h.2, nest_first box (2 ^ 24) (associated h.1) rest h.3)

module _ (text : List ℕ) (R : LineData) (place : Place) where
  none_of_line : (box : List Side) (line : ℕ) (rest : Items) → LineNests text box line rest → TellsOfLine (Directive place) text R line rest → ⊥
  none_of_line box line rest nests (inl h) = none_of_first place (R line) (associated h.1) rest h.3
  none_of_line box line rest nests (inr h) = h (line_has_nest text box line rest nests)

  mutual
    none_told : (box : List Side) (s : Stmt) → Nests text box s → TellsOfLoops (Directive place) text R s → ⊥
    none_told box (Assign x is e) nests h = h
    none_told box (Update x is op e) nests h = h
    none_told box (If c a) nests h = none_told box a nests h
    none_told box (IfElse c a b) nests (inl h) = none_told box a nests.0 h
    none_told box (IfElse c a b) nests (inr h) = none_told box b nests.1 h
    none_told box (For x name start test step body) nests h = none_told (inside box x nests.1) body nests.3 h
    none_told box (Block items) nests h = none_told_among box items nests h
    none_told box (Print parts) nests h = h

    none_told_among : (box : List Side) (items : Items) → ItemsNest text box items → TellsOfItems (Directive place) text R items → ⊥
    none_told_among box no_items nests h = h
    none_told_among box (mark line rest) nests (inl h) = none_of_line box line rest nests.0 h
    none_told_among box (mark line rest) nests (inr h) = none_told_among box rest nests.1 h
    none_told_among box (local x name start rest) nests h = none_told_among box rest nests h
    none_told_among box (stmt s rest) nests (inl h) = none_told box s nests.0 h
    none_told_among box (stmt s rest) nests (inr h) = none_told_among box rest nests.1 h

-- the numbers of the pass over data
abbrev numbers : List ℕ
numbers = 10 ∷ 14 ∷ 15 ∷ 16 ∷ 17 ∷ 18 ∷ []

-- memory was refused, or one of them is told
abbrev Told : Refusal → Type 0
Told r = (r ≡ OutOfMemory) ⊎ TellsOneOf numbers r

tells : (r : Refusal) (n : ℕ) → number_of r ≡ n → list_any (λ m. n == m) numbers ≡ true → Told r
tells r n is among = inr (ap (λ k. list_any (λ m. k == m) numbers) is ∙ among)

fault_told : (text : List ℕ) (tree : Kernel) (R : LineData) (r : Refusal) (f : DataFault) → AreRightNests text tree → r ≡ data_refusal_of f → TellsOfItems f text R tree.body → Told r
fault_told text tree R r (Written place) nests is h = tells r 14 (ap number_of is) refl
fault_told text tree R r (Copied place) nests is h = tells r 15 (ap number_of is) refl
fault_told text tree R r (Unassigned place) nests is h = tells r 15 (ap number_of is) refl
fault_told text tree R r (LastUnassigned place) nests is h = tells r 15 (ap number_of is) refl
fault_told text tree R r (Reduced place) nests is h = tells r 16 (ap number_of is) refl
fault_told text tree R r (Directive place) nests is h = absurd (none_told_among text R place [] tree.body nests h)
fault_told text tree R r faults.OutOfMemory nests is h = inl is

scalars_told : (text : List ℕ) (tree : Kernel) (R : LineData) (r : Refusal) → AreRightNests text tree → RefusesScalars text tree R r → Told r
scalars_told text tree R r nests (inl h) = inl h
scalars_told text tree R r nests (inr (inl h)) = tells r 10 h.0 refl
scalars_told text tree R r nests (inr (inr h)) = fault_told text tree R r h.0 nests h.1 h.2

misuse_told : (r : Refusal) (m : Misuse) → number_of r ≡ number_told m → Told r
misuse_told r (misuses.Privatised place) is = tells r 15 is refl
misuse_told r (misuses.LoopVariable place x) is = tells r 15 is refl
misuse_told r (misuses.Reduced place) is = tells r 16 is refl

whole_told : (whole : Whole) (r : Refusal) → RefusesWhole whole r → Told r
whole_told whole r (inl (inl h)) = tells r 18 h.1 refl
whole_told whole r (inl (inr (its, inl h))) = tells r 17 h refl
whole_told whole r (inl (inr (its, inr h))) = tells r 16 h refl
whole_told whole r (inr h) = tells r 18 h.1 refl

data_told : (text : List ℕ) (tree : Kernel) (R : LineData) (lines : Lines) (whole : Whole) (r : Refusal) → AreRightNests text tree → RefusesData text tree R lines whole r → Told r
data_told text tree R lines whole r nests (inl h) = scalars_told text tree R r nests h
data_told text tree R lines whole r nests (inr (inl (inl h))) = inl h
data_told text tree R lines whole r nests (inr (inl (inr h))) = misuse_told r h.0 h.1
data_told text tree R lines whole r nests (inr (inr h)) = whole_told whole r h

-- what the pass over data refuses behind the passes before it
pub data_refused : (text : List ℕ) (tree : Kernel) (R : LineData) (lines : Lines) (whole : Whole) (r : Refusal) → IsNestedRightly text tree whole → RefusesData text tree R lines whole r → RefusesPasses text tree R lines whole r
data_refused text tree R lines whole r right h = go (data_told text tree R lines whole r right.2 h)
  where
    go : Told r → RefusesPasses text tree R lines whole r
    go (inl none) = inl none
    go (inr told) = inr (inr (inr (right, inl (told, h))))
