-- A body that was made ready, behind its run by a team.
use Rattle.std.specs.Prelude.{ℕ, ◌≡◌, List, [], Option, IsSome}
use Rattle.std.proofs.Common.{sym, ap, ◌∙◌, subst}
use Rattle.semantics.specs.Meaning.State.{State}
use Rattle.semantics.specs.Meaning.Runs.{Effect}
use Rattle.semantics.specs.Theorems.{WritesABeginning}
use Rattle.ktree.specs.View.{items_of}
use Rattle.flow.specs.Roles.{LineData}
use Rattle.law_apart.specs.Apart.{apart_items}
use Rattle.store.specs.Kept.{Kept, state_of}
use Rattle.store.specs.Flat.{AreFilled}
use Rattle.seqrun.specs.Ran.{Ran, text_of}
use Rattle.seqrun_io.specs.Told.{AddsBeginning}
use Rattle.seqrun_io.specs.Reading.{IsStart}
use Rattle.lower_run.specs.Walk.{stage}
use Rattle.outline.specs.declared.shape.OutlineItem.{OutlineItem}
use Rattle.outline.specs.Fit.{AllFit}
use Rattle.outline.specs.View.{items_performed}
use Rattle.deptest.specs.Accepted.{Program, tree_of, data_passed}
use Rattle.ompk_run.specs.Led.{AreWalked, AreBegun}
use Rattle.ompk_run.specs.Ready.{IsPrepared}
use Rattle.ompk_run.proofs.Readied.{cells_of_end}
use Rattle.ompk_run.proofs.Written.{runs_apart, apart_written, IsAsRun, as_run}

module _ (a : Program) (input : List ℕ) (made items : List OutlineItem) (rs : List ℕ) (ks : List Kept) (ready : IsPrepared a made rs ks) (same : items ≡ made) (first : IsStart (tree_of a).variables input ks) where
  abbrev roles : LineData
  roles = data_passed ready.accepted.passed

  body : items_performed roles [] items ≡ apart_items roles [] (items_of a.kernel.body.items)
  body = ap (items_performed roles []) same ∙ ready.is

  fit : AllFit ready.ready.layout ready.ready.mark roles [] items
  fit = subst (AllFit ready.ready.layout ready.ready.mark roles []) (sym same) ready.ready.fit

  some : IsSome (items_performed roles [] items (state_of ks))
  some = subst (λ (f : State → Option Effect). IsSome (f (state_of ks))) (sym body) (runs_apart a input ks ready.accepted first)

  -- what a run writes that ends inside
  pub team_begun : (before after : List ℕ) → AreBegun items (stage rs ks before) after → WritesABeginning (tree_of a) input before after
  team_begun before after began =
      apart_written a input ks ready.accepted first before after
      (subst (λ (f : State → Option Effect). AddsBeginning before after (text_of (f (state_of ks)))) body (began.begun ready.ready.layout ready.ready.mark roles [] fit (state_of ks) ready.ready.stand some))

  -- and what one leaves that is over
  pub team_walked : (rs' : List ℕ) (ks' : List Kept) (before middle : List ℕ) → AreFilled ks' → AreWalked items (stage rs ks before) (stage rs' ks' middle) → IsAsRun a input ks ready.accepted first (state_of ks') before middle
  team_walked rs' ks' before middle filled walk =
      let walked = walk.walked ready.ready.layout ready.ready.mark roles [] fit (state_of ks) ready.ready.stand some in
      let ran = subst (λ (f : State → Option Effect). Ran (f (state_of ks)) (state_of ks) walked.state before middle) body walked.ran in
      let run = as_run a input ks ready.accepted first walked.state before middle ran in
      let cells = cells_of_end ready.ready.layout ready.ready.mark (items_performed roles [] items (state_of ks)) (state_of ks) rs' ks' before middle filled walked in
      record { state = run.state; same = λ x is. cells x is ∙ run.same x is; ran = run.ran }
