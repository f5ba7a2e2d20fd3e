use Rattle.std.specs.Prelude.{ℕ, ◌≡◌, List, None, IfErr}
use Rattle.std.proofs.Common.{ap, ◌∙◌, subst, length, rules}
use Rattle.std.proofs.lemmas.Result.{IfErr-weaker}
use Rattle.semantics.specs.Directives.Naming.{IsAttached}
use Rattle.ktree.specs.View.{kernel_of}
use Rattle.pragma_attach.specs.Attached.{directives_of}
use Rattle.pragma_named.specs.Known.{kept, lines_known}
use Rattle.pragma_region.specs.Regions.{alone}
use Rattle.pragma_region.specs.NotKnown.{unknown_among}
use Rattle.flow.specs.Roles.{data_known}
use Rattle.flow_doacross.specs.Listed.{doacross_of}
use Rattle.flow_scan.specs.Scans.{scans_of}
use Rattle.ompk.specs.Judged.{whole_of, whole_found}
use Rattle.deptest.specs.Accepted.{clauses_counted, data_counted}
use Rattle.ompk.specs.Refused.{RefusesUnknown, RefusesAlone, RefusesKernel}
use Rattle.ompk.proofs.Judging.{told_kernel, alone_refused, unknown_refused}
use Rattle.ompk.proofs.accepting.accept_directed.Goals as goal

pub accept_alone-requires-clause-stands : goal.accept_alone-requires-clause-stands
accept_alone-requires-clause-stands c =
    let text = c.args.text.now in
    let tree = kernel_of c.args.kernel in
    let ds = directives_of c.args.directives.now tree in
    let said = c.in_ok-lines.ensures in
    let known = kept c.in_ok-lines.lines in
    told_kernel text tree (kernel_of c.in_ok-kernel.kernel) ds known (whole_of c.in_ok-whole.whole.faults) c.in_ok-whole.whole.told c.requires.reads (subst (λ (t : List ℕ). IsAttached t tree ds) c.requires.lines said.attached)
    (subst (λ (t : List ℕ). unknown_among t tree.body ≡ None) c.requires.lines c.in_ok-judge_known.ensures.ok)
    (subst (λ (t : List ℕ). clauses_counted t tree ds ≡ lines_known known) c.requires.lines said.clauses)
    (subst (λ (t : List ℕ). data_counted t tree ds ≡ data_known known (length tree.variables)) c.requires.lines said.roles)
    (c.in_ok-kernel.ensures ∙ ap (λ (t : List ℕ). alone t tree) c.requires.lines)
    (c.in_ok-whole.ensures.found ∙ ap (λ (t : List ℕ). whole_found t (lines_known known) tree) c.requires.lines)
    (c.in_ok-whole.ensures.scans ∙ ap (λ (t : List ℕ). scans_of t (lines_known known) tree) c.requires.lines)
    (c.in_ok-whole.ensures.nests ∙ ap (λ (t : List ℕ). doacross_of t (lines_known known) tree) c.requires.lines)

pub returns-clause-refusal : goal.returns-clause-refusal
returns-clause-refusal c =
    let text = c.args.text.now in
    let tree = kernel_of c.args.kernel in
    let k = kernel_of c.in_ok-kernel.kernel in
    let ds = directives_of c.args.directives.now tree in
    let known = kept c.in_ok-lines.lines in
    let said = c.in_ok-lines.ensures in
    let whole = whole_of c.in_ok-whole.whole.faults in
    IfErr-weaker c.accept_alone.result (RefusesAlone text k (data_known known (length k.variables)) (lines_known known) whole) (RefusesKernel text tree)
    (λ r h. alone_refused text tree k ds known whole r (subst (λ (t : List ℕ). IsAttached t tree ds) c.requires.lines said.attached)
    (subst (λ (t : List ℕ). unknown_among t tree.body ≡ None) c.requires.lines c.in_ok-judge_known.ensures.ok) (subst (λ (t : List ℕ). clauses_counted t tree ds ≡ lines_known known) c.requires.lines said.clauses)
    (subst (λ (t : List ℕ). data_counted t tree ds ≡ data_known known (length tree.variables)) c.requires.lines said.roles)
    (c.in_ok-kernel.ensures ∙ ap (λ (t : List ℕ). alone t tree) c.requires.lines)
    (c.in_ok-whole.ensures.found ∙ ap (λ (t : List ℕ). whole_found t (lines_known known) tree) c.requires.lines) h) c.accept_alone.ensures.refusal

pub returns-in_err-judge_known-clause-refusal : goal.returns-in_err-judge_known-clause-refusal
returns-in_err-judge_known-clause-refusal c =
    let text = c.args.text.now in
    let tree = kernel_of c.args.kernel in
    let ds = directives_of c.args.directives.now tree in
    let refused : IfErr c.from_residual-in_err-judge_known.result (RefusesUnknown c.args.directives.now tree) = search rules in
    IfErr-weaker c.from_residual-in_err-judge_known.result (RefusesUnknown c.args.directives.now tree) (RefusesKernel text tree)
    (λ r h. unknown_refused text tree ds r (subst (λ (t : List ℕ). IsAttached t tree ds) c.requires.lines c.in_ok-lines.ensures.attached) (subst (λ (t : List ℕ). RefusesUnknown t tree r) c.requires.lines h)) refused
