use Rattle.std.proofs.Common.{refl, sym, ap, ◌∙◌, Some}
use Rattle.std.proofs.lemmas.Result.{on_ok_weaker}
use Rattle.std.proofs.lemmas.Option.{get_or_from_slice_get}
use Rattle.semantics.specs.Meaning.State.{Empty, Holds}
use Rattle.store.proofs.Writing.{same_lengths}
use Rattle.seqrun_value.specs.Standing.{standing, slot_of}
use Rattle.seqrun.specs.Ran.{lengths_of}
use Rattle.seqrun.proofs.WriteLemmas.{local_written, cell_there, room_there, cell_written}
use Rattle.seqrun.proofs.writing.assign.Goals as goal

pub place-at-requires : goal.place-at-requires
place-at-requires c =
    cell_there c.args.frame.now c.args.store.now c.args.variable.0 _ c.array-array.result c.in-Outside.ensures (sym (get_or_from_slice_get c.args.store.now c.args.variable.0 c.array-array.result c.array-array.result c.array-array.ensures)) c.args.n c.requires

pub set-requires : goal.set-requires
set-requires c =
    room_there c.args.frame.now c.args.store.now c.args.variable.0 _ c.array-array.result c.in-Outside.ensures (sym (get_or_from_slice_get c.args.store.now c.args.variable.0 c.array-array.result c.array-array.result c.array-array.ensures)) c.args.n c.requires c.place-at.result c.place-at.ensures

pub returns-in-Outside-clause-done : goal.returns-in-Outside-clause-done
returns-in-Outside-clause-done c =
    rw c.set.ensures
    (cell_written c.args.frame.now c.args.store.now c.args.variable.0 _ c.array-array.result c.in-Outside.ensures (sym (get_or_from_slice_get c.args.store.now c.args.variable.0 c.array-array.result c.array-array.result c.array-array.ensures)) c.args.n c.requires c.place-at.result c.place-at.ensures)

pub returns-in-Outside-clause-shape : goal.returns-in-Outside-clause-shape
returns-in-Outside-clause-shape c = ap lengths_of c.set.ensures ∙ same_lengths _ _ _ _

pub returns-in-Empty-clause-done : goal.returns-in-Empty-clause-done
returns-in-Empty-clause-done c =
    on_ok_weaker c.set-in-Empty.result
    (λ e. local_written (standing c.args.frame.now c.args.store.now) (standing c.set-in-Empty.new.self c.args.store.now) c.args.variable.0 _ c.args.n Empty (λ is. refl) (c.slot.ensures ∙ ap (λ s. slot_of (Some s)) c.in-Empty.is) c.requires (e c.args.store.now))
    c.set-in-Empty.ensures.ok

pub returns-in-Holds-clause-done : goal.returns-in-Holds-clause-done
returns-in-Holds-clause-done c =
    on_ok_weaker c.set-in-Holds.result
    (λ e. local_written (standing c.args.frame.now c.args.store.now) (standing c.set-in-Holds.new.self c.args.store.now) c.args.variable.0 _ c.args.n (Holds c.in-Holds._old) (λ is. refl) (c.slot.ensures ∙ ap (λ s. slot_of (Some s)) c.in-Holds.is) c.requires (e c.args.store.now))
    c.set-in-Holds.ensures.ok
