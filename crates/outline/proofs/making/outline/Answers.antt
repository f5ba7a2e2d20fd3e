use Rattle.std.proofs.Common.{subst}
use Rattle.std.proofs.lemmas.Result.{IfOk-weaker}
use Rattle.std.specs.Prelude.{◌≡◌, ℕ, List, [], None, IfOk, length}
use Rattle.semantics.specs.Meaning.Agrees.{declared_among}
use Rattle.ktree.specs.View.{items_of}
use Rattle.semantics.specs.Tree.{Declaration}
use Rattle.flow.specs.Roles.{LineData, ItemsHaveBy}
use Rattle.law_independence.specs.Said.{LinesInside}
use Rattle.law_apart.specs.Apart.{apart_items}
use Rattle.outline.specs.Given.{ArePrivateLocals}
use Rattle.outline.specs.Handed.{AreOfText, inside_told}
use Rattle.outline.specs.Fit.{AllFit, WithLocals}
use Rattle.outline.specs.Made.{KnownBy, AreMade}
use Rattle.outline.specs.View.{items_performed}
use Rattle.outline.proofs.Shaped.{items_perform, body_fits}
use Rattle.outline.proofs.making.outline.Goals as goal

pub returns-clause-is : goal.returns-clause-is
returns-clause-is c =
    let layout = c.args.target.layout.now in
    let mark = c.args.target.registers in
    let loops = c.args.loops in
    let items = c.args.items.now in
    let made = subst (λ b. IfOk c.outline_items.result (λ os. AreMade layout mark loops b None items os.items)) c.new-bounds.ensures c.outline_items.ensures.made in
    IfOk-weaker c.outline_items.result (λ os. AreMade layout mark loops [] None items os.items) (λ os. (R : LineData) → items_performed R [] os.items ≡ apart_items R [] (items_of items)) (λ os h R. items_perform layout mark loops [] None items os.items h R []) made

pub returns-clause-fits : goal.returns-clause-fits
returns-clause-fits c =
    let layout = c.args.target.layout.now in
    let mark = c.args.target.registers in
    let loops = c.args.loops in
    let items = c.args.items.now in
    let made = subst (λ b. IfOk c.outline_items.result (λ os. AreMade layout mark loops b None items os.items)) c.new-bounds.ensures c.outline_items.ensures.made in
    IfOk-weaker c.outline_items.result (λ os. AreMade layout mark loops [] None items os.items)
    (λ os. (text : List ℕ) (ds : List Declaration) (R : LineData) (P : LinesInside) → ArePrivateLocals (length layout) R → AreOfText text R loops.parallel.now → P ≡ inside_told loops → ItemsHaveBy text (KnownBy ds R P) [] (items_of items)
    → WithLocals layout mark (declared_among (items_of items)) (AllFit layout mark R [] os.items))
    (λ os h. body_fits layout mark loops items os.items h) made
