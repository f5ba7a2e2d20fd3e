use Rattle.std.proofs.Common.{◌≡◌, ◌+◌, ◌-◌, take, drop, refl, sym, ◌∙◌, subst, arith}
use Rattle.nest_space.specs.Space.{vectors}
use Rattle.lower_block.specs.declared.tree.Compiled.{Compiled}
use Rattle.lower_machine.specs.Machine.{machine, running}
use Rattle.overlay_pages.specs.Seen.{cells_of}
use Rattle.overlay.specs.Walking.{Enters, RunsOver, WalksOver}
use Rattle.overlay.proofs.Slices.{rest_is, rest_none}
use Rattle.overlay.proofs.Going.{walks_on, walks_none}
use Rattle.overlay.proofs.walking.run_each.Goals as goal

pub row-init : goal.row-init
row-init c =
    let vs = vectors c.args.space.now in
    let first = c.args.work.first in
    let all : c.end_of-end.result - first ≡ c.args.work.count = (let e = c.end_of-end.ensures in omega arith) in
    record {
      all = λ text r w. subst (λ n. WalksOver c.args.lowered.now (take n (drop first vs)) (running (machine c.args.registers.now (cells_of c.args.cells.now)) text) r) all w;
      store = refl;
      values = c.begin.auto.values ∙ c.requires.values;
      at = λ lt. c.begin.ensures (let e = c.end_of-end.ensures in omega arith);
    }

pub row-preserved : goal.row-preserved
row-preserved c =
    let l = c.args.lowered.now in
    let vs = vectors c.args.space.now in
    let u = c.row.values in
    let there = c.row.invariant.at c.row-test.true in
    let entered = subst (λ hs. Enters hs u c.row.registers c.enter.new.registers) c.as_slice-loops.ensures.value c.enter.ensures in
    let rest = take (c.end_of-end.result - (c.row.number + 1)) (drop (c.row.number + 1) vs) in
    record {
      all = λ text r walks.
          let behind = running (machine c.run_straight.new.registers (cells_of c.run_straight.new.cells)) text in
          let ran = subst (λ (b : Compiled). RunsOver b (running (machine c.enter.new.registers (cells_of c.row.cells)) text) behind) c.requires.body (c.run_straight.ensures.ran text) in
          c.row.invariant.all text r
          (subst (λ us. WalksOver l us (running (machine c.row.registers (cells_of c.row.cells)) text) r)
          (sym (rest_is c.row.number c.end_of-end.result vs u c.row-test.true there))
          (walks_on l u rest c.row.registers c.enter.new.registers (cells_of c.row.cells) text behind r entered ran walks));
      store = c.run_straight.ensures.store ∙ c.row.invariant.store;
      values = c.go_on.auto.values ∙ c.row.invariant.values;
      at = λ lt. c.go_on.ensures lt there;
    }

pub returns-clause-walked : goal.returns-clause-walked
returns-clause-walked c text =
    let l = c.args.lowered.now in
    let r = running (machine c.row.registers (cells_of c.row.cells)) text in
    c.row.invariant.all text r
    (subst (λ us. WalksOver l us r r) (sym (rest_none c.row.number c.end_of-end.result (vectors c.args.space.now) c.row-test.false)) (walks_none l r))

pub returns-clause-store : goal.returns-clause-store
returns-clause-store c = c.row.invariant.store
