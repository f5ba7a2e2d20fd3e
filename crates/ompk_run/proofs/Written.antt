-- What a run leaves and writes.
use Rattle.std.specs.Prelude.{ℕ, ◌≡◌, List, [], ◌++◌, Option, Some, None, IsSome}
use Rattle.std.proofs.Common.{refl, sym, ap, ◌∙◌, subst, append-nil, append_assoc}
use Rattle.std.proofs.lemmas.Option.{same_Some}
use Rattle.semantics.specs.Meaning.State.{State, overwritten}
use Rattle.semantics.specs.Meaning.Runs.{Effect, run_items}
use Rattle.semantics.specs.Meaning.Output.{dump, output}
use Rattle.semantics.specs.Theorems.{WritesABeginning, WritesAll}
use Rattle.ktree.specs.View.{kernel_of, items_of}
use Rattle.law_apart.specs.Apart.{apart_items}
use Rattle.law_apart.specs.Laws.{StartsWith, LeavesTheSame}
use Rattle.law_apart.proofs.Accepted.{accepted_apart}
use Rattle.store.specs.Kept.{Kept, state_of}
use Rattle.seqrun_value.specs.Standing.{standing}
use Rattle.seqrun.specs.Ran.{Ran, text_of}
use Rattle.seqrun_io.specs.Told.{AddsBeginning}
use Rattle.seqrun_io.specs.Reading.{IsStart}
use Rattle.seqrun_io.proofs.Beginnings.{of_front, of_rest}
use Rattle.deptest.specs.Accepted.{Program, tree_of, data_passed, IsAccepted, inside_passed}
use Rattle.ompk_run.proofs.Output.{body_run, first_state, named, body_runs, output_is, output_there, same_dump}
use Rattle.ompk_run.proofs.Starting.{start_is_state}
use Rattle.ompk_run.proofs.Unique.{one_given}

-- a run that ends before it begins
pub nothing_written : (a : Program) (input before : List ℕ) → IsAccepted a → WritesABeginning (tree_of a) input before before
nothing_written a input before is = record {
  written = [];
  added = sym (append-nil before);
  good = λ given read. let o = output_there a given is read.each in (o.0, o.1, (o.0, refl));
  faulty = λ none. refl;
}

-- a run from the variables that an input gives, with no locals yet
module _ (a : Program) (input : List ℕ) (ks : List Kept) (is : IsAccepted a) (first : IsStart (tree_of a).variables input ks) where
  abbrev outset : State
  outset = standing [] ks

  at_start : outset ≡ first_state a first.given
  at_start = first.state

  pub runs : IsSome (run_items (items_of a.kernel.body.items) outset)
  runs = subst (λ s. IsSome (run_items (items_of a.kernel.body.items) s)) (sym at_start) (body_runs a first.given is first.read.each)

  module _ (e : Effect) (run_is : run_items (items_of a.kernel.body.items) outset ≡ Some e) where
    -- all that is written
    abbrev whole_text : List ℕ
    whole_text = e.text ++ dump (tree_of a).variables (overwritten outset e.writes)

    shown : output (tree_of a) first.given ≡ Some whole_text
    shown =
        output_is a first.given (Some e) (ap (body_run a) (sym at_start) ∙ run_is)
        ∙ ap (λ s. Some (e.text ++ dump (tree_of a).variables (overwritten s e.writes))) (sym at_start)

    begun : (before after : List ℕ) → AddsBeginning before after whole_text → WritesABeginning (tree_of a) input before after
    begun before after w = record {
      written = w.0;
      added = w.1;
      good = λ given read. (whole_text, ap (output (tree_of a)) (one_given (tree_of a).variables input given first.given (named a is) read first.read) ∙ shown, w.2);
      faulty = λ none. absurd (none first.given first.read);
    }

  -- a run that ends in the kernel's body
  pub body_written : (before after : List ℕ) → AddsBeginning before after (text_of (run_items (items_of a.kernel.body.items) outset)) → WritesABeginning (tree_of a) input before after
  body_written before after w = go (run_items (items_of a.kernel.body.items) outset) refl runs w
    where
      go : (o : Option Effect) → run_items (items_of a.kernel.body.items) outset ≡ o → IsSome o → AddsBeginning before after (text_of o) → WritesABeginning (tree_of a) input before after
      go None q h w = absurd (cc h)
      go (Some e) q h w = begun e q before after (of_front before after e.text (dump (tree_of a).variables (overwritten outset e.writes)) w)

  -- a run of it in which a team runs each parallel loop
  abbrev pub apart : Option Effect
  apart = apart_items (data_passed is.passed) [] (items_of a.kernel.body.items) outset

  starts : StartsWith (kernel_of a.kernel).variables outset
  starts = subst (StartsWith (tree_of a).variables) (sym at_start) (record { there = (start_is_state (tree_of a).variables first.given first.read.each).there; outside = λ x. refl })

  -- it leaves what the run leaves
  same_apart : (e : Effect) → run_items (items_of a.kernel.body.items) outset ≡ Some e → LeavesTheSame outset e apart
  same_apart e q =
      accepted_apart a.text (kernel_of a.kernel) (data_passed is.passed) (inside_passed is.passed) outset e is.passed.reads is.passed.in_range is.passed.definite is.passed.roles is.ordered.share starts q

  pub runs_apart : IsSome apart
  runs_apart = go (run_items (items_of a.kernel.body.items) outset) refl runs
    where
      go : (o : Option Effect) → run_items (items_of a.kernel.body.items) outset ≡ o → IsSome o → IsSome apart
      go None q h = absurd (cc h)
      go (Some e) q h = let r = same_apart e q in subst IsSome (sym r.is) refl

  -- one that ends in the body
  pub apart_written : (before after : List ℕ) → AddsBeginning before after (text_of apart) → WritesABeginning (tree_of a) input before after
  apart_written before after w = body_written before after (subst (AddsBeginning before after) (go (run_items (items_of a.kernel.body.items) outset) refl runs) w)
    where
      go : (o : Option Effect) → run_items (items_of a.kernel.body.items) outset ≡ o → IsSome o → text_of apart ≡ text_of (run_items (items_of a.kernel.body.items) outset)
      go None q h = absurd (cc h)
      go (Some e) q h = let r = same_apart e q in ap text_of r.is ∙ r.text ∙ sym (ap text_of q)

  -- and one that is over
  pub record IsAsRun (s : State) (before middle : List ℕ) : Type 0 where
    pub state : State
    pub same : (x : ℕ) (is : List ℕ) → s.cells x is ≡ state.cells x is
    pub ran : Ran (run_items (items_of a.kernel.body.items) outset) outset state before middle

  pub as_run : (s : State) (before middle : List ℕ) → Ran apart outset s before middle → IsAsRun s before middle
  as_run s before middle ran = go (run_items (items_of a.kernel.body.items) outset) refl runs
    where
      go : (o : Option Effect) → run_items (items_of a.kernel.body.items) outset ≡ o → IsSome o → IsAsRun s before middle
      go None q h = absurd (cc h)
      go (Some e) q h =
          let r = same_apart e q in
          let same : ran.effect ≡ r.effect = same_Some ran.effect r.effect (sym ran.is ∙ r.is) in
          record {
            state = overwritten outset e.writes;
            same = λ x is. ap (λ (u : State). u.cells x is) (ran.left ∙ ap (λ (f : Effect). overwritten outset f.writes) same) ∙ r.cells x is;
            ran = record { effect = e; is = q; left = refl; printed = ran.printed ∙ ap (λ (f : Effect). before ++ f.text) same ∙ ap (λ t. before ++ t) r.text };
          }

  -- behind the body
  module _ (s : State) (ks' : List Kept) (same : (x : ℕ) (is : List ℕ) → (state_of ks').cells x is ≡ s.cells x is) (before middle : List ℕ) (ran : Ran (run_items (items_of a.kernel.body.items) outset) outset s before middle) where
    left : dump (tree_of a).variables (state_of ks') ≡ dump (tree_of a).variables (overwritten outset ran.effect.writes)
    left = same_dump (state_of ks') (overwritten outset ran.effect.writes) (λ x is. same x is ∙ ap (λ (s : State). s.cells x is) ran.left) 0 (tree_of a).variables

    -- a run that ends in the dump
    pub dump_written : (after : List ℕ) → AddsBeginning middle after (dump (tree_of a).variables (state_of ks')) → WritesABeginning (tree_of a) input before after
    dump_written after w =
        begun ran.effect ran.is before after
        (of_rest before middle after ran.effect.text (dump (tree_of a).variables (overwritten outset ran.effect.writes)) ran.printed (subst (AddsBeginning middle after) left w))

    -- or behind it
    pub all_written : (after : List ℕ) → after ≡ middle ++ dump (tree_of a).variables (state_of ks') → WritesAll (tree_of a) input before after
    all_written after w = (
      whole_text ran.effect ran.is,
      record { given = first.given; read = first.read; is = shown ran.effect ran.is },
      w ∙ ap (λ m. m ++ dump (tree_of a).variables (state_of ks')) ran.printed
          ∙ append_assoc before ran.effect.text (dump (tree_of a).variables (state_of ks'))
          ∙ ap (λ d. before ++ (ran.effect.text ++ d)) left,
    )
