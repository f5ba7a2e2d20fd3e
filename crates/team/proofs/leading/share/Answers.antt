use Rattle.std.proofs.Common.{OnOk, sym, subst}
use Rattle.std.proofs.lemmas.Result.{on_ok_weaker}
use Rattle.team.specs.Tasks.{IsLeft, IsBegun}
use Rattle.team.proofs.leading.share.Goals as goal

pub returns-in-Loop-clause-leaves : goal.returns-in-Loop-clause-leaves
returns-in-Loop-clause-leaves g c =
    let new = c.share_loop.new in
    subst (λ task. OnOk c.share_loop.result (IsLeft task c.args.registers.now new.registers c.args.store.now new.store (g.S.Sink.told c.args.sink.now) (g.S.Sink.told new.sink) c.args.workers)) (sym c.in-Loop.is)
    (on_ok_weaker c.share_loop.result (λ leaves. record { together = leaves }) c.share_loop.ensures.leaves)

pub returns-in-Loop-clause-beginning : goal.returns-in-Loop-clause-beginning
returns-in-Loop-clause-beginning g c =
    subst (λ task. IsBegun task c.args.registers.now c.args.store.now (g.S.Sink.told c.args.sink.now) (g.S.Sink.told c.share_loop.new.sink) c.args.workers) (sym c.in-Loop.is) (record { together = c.share_loop.ensures.beginning })

pub returns-in-Scan-clause-leaves : goal.returns-in-Scan-clause-leaves
returns-in-Scan-clause-leaves g c =
    let new = c.share_scan.new in
    subst (λ task. OnOk c.share_scan.result (IsLeft task c.args.registers.now new.registers c.args.store.now new.store (g.S.Sink.told c.args.sink.now) (g.S.Sink.told new.sink) c.args.workers)) (sym c.in-Scan.is)
    (on_ok_weaker c.share_scan.result (λ leaves. record { together = leaves }) c.share_scan.ensures.leaves)

pub returns-in-Scan-clause-beginning : goal.returns-in-Scan-clause-beginning
returns-in-Scan-clause-beginning g c =
    subst (λ task. IsBegun task c.args.registers.now c.args.store.now (g.S.Sink.told c.args.sink.now) (g.S.Sink.told c.share_scan.new.sink) c.args.workers) (sym c.in-Scan.is) (record { together = c.share_scan.ensures.beginning })
