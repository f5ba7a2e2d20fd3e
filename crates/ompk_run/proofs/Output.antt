-- An accepted text runs from each good input, and what it writes is determined.
use Rattle.std.specs.Prelude.{ℕ, suc, ◌≡◌, List, [], ◌∷◌, ◌++◌, flat_map, Option, Some, None, IsSome}
use Rattle.std.proofs.Common.{refl, sym, ap, ◌∙◌}
use Rattle.std.proofs.lemmas.Option.{same_Some}
use Rattle.semantics.specs.Tree.{Declaration}
use Rattle.semantics.specs.Meaning.State.{State, overwritten}
use Rattle.semantics.specs.Meaning.Value.{map_option}
use Rattle.semantics.specs.Meaning.Runs.{Effect, run_items}
use Rattle.semantics.specs.Meaning.Places.{all_indexes}
use Rattle.semantics.specs.Meaning.Output.{Given, IsInput, AreGiven, start, cell_text, dump_from, dump, output, Outputs}
use Rattle.ktree.specs.View.{kernel_of}
use Rattle.seqrun_io.specs.Reading.{AreVariables}
use Rattle.flow.specs.Roles.{privates_by}
use Rattle.law_runs.proofs.Nested.{nested_kernels_run}
use Rattle.law_runs.proofs.StripRun.{strip_keeps_runs}
use Rattle.deptest.specs.Accepted.{Program, tree_of, data_passed, IsAccepted}
use Rattle.deptest.proofs.Locals.{plainly_definite}
use Rattle.ompk_run.specs.Outcome.{RunsOfAccepted}
use Rattle.ompk_run.proofs.Declared.{variables_of}
use Rattle.ompk_run.proofs.Starting.{start_is_state}
use Rattle.ompk_run.proofs.Unique.{one_given}

-- the body with its directive lines
abbrev pub body_run : Program → State → Option Effect
body_run a s = run_items (kernel_of a.kernel).body s

abbrev pub first_state : Program → Given → State
first_state a given = start (tree_of a).variables given

-- its variables can be named in an input
pub named : (a : Program) → IsAccepted a → AreVariables (tree_of a).variables
named a is = variables_of a.text (kernel_of a.kernel) is.passed.reads

-- it has a run
pub body_runs : (a : Program) (given : Given) → IsAccepted a → AreGiven (tree_of a).variables given → IsSome (body_run a (first_state a given))
body_runs a given is g =
    nested_kernels_run a.text (kernel_of a.kernel) (first_state a given) is.passed.reads is.passed.in_range
    (plainly_definite (privates_by (data_passed is.passed)) (kernel_of a.kernel) is.passed.definite) (start_is_state (tree_of a).variables given g) (λ x. refl)

abbrev shown_of : Program → Given → Effect → List ℕ
shown_of a given e = e.text ++ dump (tree_of a).variables (overwritten (first_state a given) e.writes)

-- what is written is the text of that run, and the variables as it leaves them
pub output_is : (a : Program) (given : Given) (o : Option Effect) → body_run a (first_state a given) ≡ o → output (tree_of a) given ≡ map_option (shown_of a given) o
output_is a given o is = ap (map_option (shown_of a given)) (strip_keeps_runs (kernel_of a.kernel) (first_state a given) ∙ is)

-- an accepted text writes something
pub output_there : (a : Program) (given : Given) → IsAccepted a → AreGiven (tree_of a).variables given → (out : List ℕ) × (output (tree_of a) given ≡ Some out)
output_there a given is g = go (body_run a (first_state a given)) refl (body_runs a given is g)
  where
    go : (o : Option Effect) → body_run a (first_state a given) ≡ o → IsSome o → (out : List ℕ) × (output (tree_of a) given ≡ Some out)
    go None e h = absurd (cc h)
    go (Some f) e h = (shown_of a given f, output_is a given (Some f) e)

-- and nothing else
pub one_output : (a : Program) (input : List ℕ) (given : Given) (out other : List ℕ) → IsAccepted a → IsInput (tree_of a).variables input given → output (tree_of a) given ≡ Some out → Outputs (tree_of a) input other → other ≡ out
one_output a input given out other is read gives outputs =
    let same = one_given (tree_of a).variables input outputs.given given (named a is) outputs.read read in
    same_Some other out (sym outputs.is ∙ ap (output (tree_of a)) same ∙ gives)

-- the variables are shown by their cells alone
pub same_dump : (s t : State) → ((x : ℕ) (is : List ℕ) → s.cells x is ≡ t.cells x is) → (x : ℕ) (ds : List Declaration) → dump_from s x ds ≡ dump_from t x ds
same_dump s t h x [] = refl
same_dump s t h x (d ∷ ds) =
    (λ i. (d.name ++ 32 ∷ 61 ∷ flat_map (λ is. cell_text (h x is i)) (all_indexes d.lengths) ++ 10 ∷ []) ++ same_dump s t h (suc x) ds i)

-- both together
pub runs_are_there : RunsOfAccepted
runs_are_there a input given is read =
    let it = output_there a given is read.each in (
      it.0,
      record { given = given; read = read; is = it.1 },
      λ other outputs. one_output a input given it.0 other is read it.1 outputs,
    )
