-- What a body is made ready from.
use Rattle.std.proofs.Common.{◌≡◌, ℕ, ◌^◌, ◌<◌, ◌≤◌, List, [], length, refl, sym, ap, ◌∙◌, subst}
use Rattle.semantics.specs.Tree.{Declaration}
use Rattle.semantics.specs.Meaning.Agrees.{declared_among}
use Rattle.semantics.specs.Meaning.Runs.{Effect}
use Rattle.semantics.specs.Meaning.State.{State}
use Rattle.std.specs.Prelude.{Option}
use Rattle.ktree.specs.View.{kernel_of, items_of}
use Rattle.store.specs.Kept.{Kept, state_of}
use Rattle.store.specs.Flat.{AreFilled, values_of}
use Rattle.seqrun_io.specs.Lines.{HasLengths}
use Rattle.seqrun.specs.Ran.{lengths_of}
use Rattle.lower_code.specs.declared.laid.Laid.{Laid}
use Rattle.lower_machine.specs.Machine.{Fits, machine}
use Rattle.lower_code.specs.Layout.{IsLaid, shapes_of, shapes_in, cell_at}
use Rattle.lower_code.specs.Meaning.{AreLocals, AreBelow}
use Rattle.lower_code.proofs.Keeping.{cells_lie}
use Rattle.lower_code.proofs.Laying.{as_many}
use Rattle.lower_code.proofs.Marks.{locals_between}
use Rattle.lower_run.specs.Walk.{StandFor, Arrives}
use Rattle.lower_run.proofs.Numbered.{text_behind}
use Rattle.outline.specs.declared.shape.OutlineItem.{OutlineItem}
use Rattle.outline.specs.Fit.{AllFit, WithLocals}
use Rattle.outline.specs.Handed.{AreOfText}
use Rattle.outline.specs.Given.{ArePrivateLocals}
use Rattle.outline.specs.Made.{KnownBy}
use Rattle.outline.specs.View.{items_performed}
use Rattle.flow.specs.Roles.{LineData, ItemsHaveBy}
use Rattle.flow_doacross.specs.Listed.{NestPart, nest_at}
use Rattle.flow_scan.specs.Scans.{ScanPart}
use Rattle.flow_scan.specs.Views.{phases_at}
use Rattle.law_apart.specs.Apart.{apart_items}
use Rattle.flow.specs.declared.environment.ParallelLoop.{ParallelLoop}
use Rattle.law_independence.specs.Said.{LinesInside}
use Rattle.law_independence.specs.OrderLaws.{SharesBy}
use Rattle.law_ranges.specs.Spaces.{RunsFewAtTurns}
use Rattle.law_ranges.proofs.Running.{right_nests_run_few}
use Rattle.ktree.specs.declared.statement.Item.{Item}
use Rattle.deptest.specs.Accepted.{Program, tree_of, data_passed, inside_passed, IsAccepted}
use Rattle.deptest.proofs.Locals.{private_locals}
use Rattle.deptest.proofs.Phased.{items_both}
use Rattle.ompk_run.specs.Ready.{IsPrepared}

-- what is told inside loops, by the phases of scans and the sinks of doacross nests
abbrev pub said_by : List ScanPart → List NestPart → LinesInside
said_by scans nests line = record { phases = phases_at scans line; sinks = nest_at nests line }

pub said_same : {scans others : List ScanPart} {nests further : List NestPart} → scans ≡ others → nests ≡ further → said_by scans nests ≡ said_by others further
said_same same also = λ i. said_by (same i) (also i)

-- registers and a store stand for the state where no local stands
stand_first : (layout : List Laid) (mark : ℕ) (registers : List ℕ) (ks : List Kept) → IsLaid layout → shapes_of layout ≡ lengths_of ks → mark ≤ length registers → Fits (machine registers (values_of ks)) → length (values_of ks) < 2 ^ 64 → AreFilled ks
    → StandFor layout mark (state_of ks) registers ks
stand_first layout mark registers ks laid shapes wide fits room all = record {
  machine = record {
    laid = laid;
    fits = fits;
    width = wide;
    room = room;
    local = λ x v e. cc;
    file_scope = λ x lt. refl;
    unmarked = λ x le. refl;
    cell = λ x is. cells_lie ks all x is ∙ ap (λ s. cell_at s (values_of ks) x is) (sym shapes);
  };
  shape = sym shapes;
}

-- the locals of an accepted text have registers of their own
locals_there : (a : Program) (layout : List Laid) (mark : ℕ) → IsAccepted a → shapes_of layout ≡ shapes_in (tree_of a).variables → AreBelow mark (declared_among (items_of a.kernel.body.items)) → AreLocals layout mark (declared_among (items_of a.kernel.body.items))
locals_there a layout mark is shapes below =
    locals_between layout _ mark (declared_among (items_of a.kernel.body.items)) (as_many layout (tree_of a).variables shapes) (text_behind a.text (kernel_of a.kernel) is.passed.reads) below

-- private variables are among them
privates_there : (a : Program) (layout : List Laid) (is : IsAccepted a) → shapes_of layout ≡ shapes_in (tree_of a).variables → ArePrivateLocals (length layout) (data_passed is.passed)
privates_there a layout is shapes line x h = subst (λ n. n ≤ x) (sym (as_many layout (tree_of a).variables shapes)) (private_locals a.text (kernel_of a.kernel) is.passed line x h)

-- its parallel loops may be shared out, and run few iterations wherever they are reached
loops_known : (a : Program) (is : IsAccepted a) → ItemsHaveBy a.text (KnownBy (kernel_of a.kernel).variables (data_passed is.passed) (inside_passed is.passed)) [] (items_of a.kernel.body.items)
loops_known a is =
    let ds = (kernel_of a.kernel).variables in
    let R = data_passed is.passed in
    let P = inside_passed is.passed in
    items_both a.text (SharesBy ds R P) (λ line. RunsFewAtTurns) (KnownBy ds R P) (λ line serial n s shares runs. record { shares = shares; runs = runs }) [] (items_of a.kernel.body.items) is.ordered.share
    (right_nests_run_few a.text (kernel_of a.kernel) is.passed.reads is.passed.nested)

-- their code fits
pub fitted : (a : Program) (items : List OutlineItem) (layout : List Laid) (mark : ℕ) (is : IsAccepted a) (body : List Item) (loops : List ParallelLoop) (said : LinesInside) → body ≡ a.kernel.body.items → shapes_of layout ≡ shapes_in (tree_of a).variables
    → AreOfText a.text (data_passed is.passed) loops → inside_passed is.passed ≡ said
    → ((text : List ℕ) (ds : List Declaration) (R : LineData) (P : LinesInside) → ArePrivateLocals (length layout) R → AreOfText text R loops → P ≡ said → ItemsHaveBy text (KnownBy ds R P) [] (items_of body)
    → WithLocals layout mark (declared_among (items_of body)) (AllFit layout mark R [] items))
    → AreLocals layout mark (declared_among (items_of a.kernel.body.items)) → AllFit layout mark (data_passed is.passed) [] items
fitted a items layout mark is body loops said same shapes listed told fits =
    let ds = (kernel_of a.kernel).variables in
    let R = data_passed is.passed in
    let P = inside_passed is.passed in
    subst (λ is. AreLocals layout mark (declared_among (items_of is)) → AllFit layout mark R [] items) same
    (fits a.text ds R P (privates_there a layout is shapes) listed told (subst (λ is. ItemsHaveBy a.text (KnownBy ds R P) [] (items_of is)) (sym same) (loops_known a is)))

pub prepared : (a : Program) (items : List OutlineItem) (registers : List ℕ) (ks : List Kept) (layout : List Laid) (mark : ℕ) (is : IsAccepted a)
    → items_performed (data_passed is.passed) [] items ≡ apart_items (data_passed is.passed) [] (items_of a.kernel.body.items) → IsLaid layout → shapes_of layout ≡ shapes_in (tree_of a).variables → HasLengths (tree_of a).variables ks
    → AreBelow mark (declared_among (items_of a.kernel.body.items)) → (AreLocals layout mark (declared_among (items_of a.kernel.body.items)) → AllFit layout mark (data_passed is.passed) [] items)
    → mark ≤ length registers → Fits (machine registers (values_of ks)) → length (values_of ks) < 2 ^ 64 → AreFilled ks → IsPrepared a items registers ks
prepared a items registers ks layout mark is performs laid shapes lengths below fit wide fits room all = record {
  accepted = is;
  is = performs;
  ready = record {
    layout = layout;
    mark = mark;
    fit = fit (locals_there a layout mark is shapes below);
    stand = stand_first layout mark registers ks laid (shapes ∙ sym lengths) wide fits room all;
  };
}

-- the state at which a run arrives has the store's elements
pub cells_of_end : (layout : List Laid) (mark : ℕ) (o : Option Effect) (s : State) (registers : List ℕ) (ks : List Kept) (text text' : List ℕ) → AreFilled ks → (a : Arrives layout mark o s registers ks text text')
    → (x : ℕ) (is : List ℕ) → (state_of ks).cells x is ≡ a.state.cells x is
cells_of_end layout mark o s registers ks text text' all a x is =
    cells_lie ks all x is ∙ ap (λ shapes. cell_at shapes (values_of ks) x is) a.stand.shape ∙ sym (a.stand.machine.cell x is)
