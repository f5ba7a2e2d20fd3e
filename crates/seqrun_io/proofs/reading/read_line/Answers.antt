use Rattle.std.specs.Prelude.{◌≡◌, ◌<◌, length, map}
use Rattle.std.proofs.Common.{rules, arith, ap, sym, subst, ◌∙◌}
use Rattle.ktree.specs.View.{declaration_of}
use Rattle.semantics.specs.Meaning.Places.{size}
use Rattle.seqrun_io.specs.Reading.{ArePositive}
use Rattle.seqrun_io.proofs.InputStore.{sizes_at}
use Rattle.seqrun_io.proofs.Places.{found, not_found, lengths_at}
use Rattle.seqrun_io.proofs.LineSteps.{unknown, named_twice, wrong_count, wrong_number, right_line, found_there, there_in}
use Rattle.seqrun_io.proofs.reading.read_line.Goals as goal

pub returns-in_default-clause-fault : goal.returns-in_default-clause-fault
returns-in_default-clause-fault c =
    unknown (map declaration_of c.args.declarations.now) c.args.seen.now c.args.line.now c.split_at.result.0.now c.split_at.result.1.now c.length_before.result (sym c.if-not-is_formed.ensures) c.length_before.ensures c.split_at.ensures.front c.split_at.ensures.back (not_found (map declaration_of c.args.declarations.now) c.args.places.now c.split_at.result.0.now c.requires.places (c.in_default.ensures ∙ c.get.ensures.value))

pub bounds-seen-variable : goal.bounds-seen-variable
bounds-seen-variable c =
    let f = found (map declaration_of c.args.declarations.now) c.args.places.now c.split_at.result.0.now c.requires.places c.in-Some.variable (c.in-Some.ensures ∙ c.get.ensures.value) in
    let lt = found_there (map declaration_of c.args.declarations.now) c.in-Some.variable f.declaration f.at in
    let same = there_in declaration_of c.args.declarations.now in
    omega arith

pub returns-then-seen-variable-clause-fault : goal.returns-then-seen-variable-clause-fault
returns-then-seen-variable-clause-fault c =
    let f = found (map declaration_of c.args.declarations.now) c.args.places.now c.split_at.result.0.now c.requires.places c.in-Some.variable (c.in-Some.ensures ∙ c.get.ensures.value) in
    named_twice (map declaration_of c.args.declarations.now) c.args.seen.now c.args.line.now c.split_at.result.0.now c.split_at.result.1.now c.length_before.result (sym c.if-not-is_formed.ensures) c.length_before.ensures c.split_at.ensures.front c.split_at.ensures.back c.in-Some.variable f c.if-seen-variable.true

pub offset_bounds-declarations-variable : goal.offset_bounds-declarations-variable
offset_bounds-declarations-variable c =
    let f = found (map declaration_of c.args.declarations.now) c.args.places.now c.split_at.result.0.now c.requires.places c.in-Some.variable (c.in-Some.ensures ∙ c.get.ensures.value) in
    let lt = found_there (map declaration_of c.args.declarations.now) c.in-Some.variable f.declaration f.at in
    let same = there_in declaration_of c.args.declarations.now in
    let near : c.in-Some.variable < length c.args.declarations.now = omega arith in
    search rules

pub bounds-declarations-variable : goal.bounds-declarations-variable
bounds-declarations-variable c =
    let f = found (map declaration_of c.args.declarations.now) c.args.places.now c.split_at.result.0.now c.requires.places c.in-Some.variable (c.in-Some.ensures ∙ c.get.ensures.value) in
    let lt = found_there (map declaration_of c.args.declarations.now) c.in-Some.variable f.declaration f.at in
    let same = there_in declaration_of c.args.declarations.now in
    omega arith

pub size_of-requires-clause-positive : goal.size_of-requires-clause-positive
size_of-requires-clause-positive c =
    let f = found (map declaration_of c.args.declarations.now) c.args.places.now c.split_at.result.0.now c.requires.places c.in-Some.variable (c.in-Some.ensures ∙ c.get.ensures.value) in
    let sized = c.as_slice.ensures.value ∙ lengths_at c.args.declarations.now c.in-Some.variable f.declaration c.index-declarations-variable.result f.at in
    subst ArePositive (sym sized) (sizes_at (map declaration_of c.args.declarations.now) c.in-Some.variable f.declaration c.requires.named f.at).0

pub size_of-requires-clause-few : goal.size_of-requires-clause-few
size_of-requires-clause-few c =
    let f = found (map declaration_of c.args.declarations.now) c.args.places.now c.split_at.result.0.now c.requires.places c.in-Some.variable (c.in-Some.ensures ∙ c.get.ensures.value) in
    let sized = c.as_slice.ensures.value ∙ lengths_at c.args.declarations.now c.in-Some.variable f.declaration c.index-declarations-variable.result f.at in
    let small = (sizes_at (map declaration_of c.args.declarations.now) c.in-Some.variable f.declaration c.requires.named f.at).1 in
    let same = ap size sized in
    omega arith

pub returns-then-spaces-size_of-clause-fault : goal.returns-then-spaces-size_of-clause-fault
returns-then-spaces-size_of-clause-fault c =
    let f = found (map declaration_of c.args.declarations.now) c.args.places.now c.split_at.result.0.now c.requires.places c.in-Some.variable (c.in-Some.ensures ∙ c.get.ensures.value) in
    let sized = c.as_slice.ensures.value ∙ lengths_at c.args.declarations.now c.in-Some.variable f.declaration c.index-declarations-variable.result f.at in
    let n : c.size_of.result ≡ size f.declaration.lengths = c.size_of.ensures ∙ ap size sized in
    wrong_count (map declaration_of c.args.declarations.now) c.args.seen.now c.args.line.now c.split_at.result.0.now c.split_at.result.1.now c.length_before.result (sym c.if-not-is_formed.ensures) c.length_before.ensures c.split_at.ensures.front c.split_at.ensures.back c.in-Some.variable f c.if-seen-variable.false (λ e. c.if-spaces-size_of.true (c.spaces.ensures ∙ e ∙ sym n))

pub returns-in-Some-2-clause-right : goal.returns-in-Some-2-clause-right
returns-in-Some-2-clause-right c =
    let f = found (map declaration_of c.args.declarations.now) c.args.places.now c.split_at.result.0.now c.requires.places c.in-Some.variable (c.in-Some.ensures ∙ c.get.ensures.value) in
    let sized = c.as_slice.ensures.value ∙ lengths_at c.args.declarations.now c.in-Some.variable f.declaration c.index-declarations-variable.result f.at in
    let n : c.size_of.result ≡ size f.declaration.lengths = c.size_of.ensures ∙ ap size sized in
    right_line (map declaration_of c.args.declarations.now) c.args.seen.now c.args.line.now c.split_at.result.0.now c.split_at.result.1.now c.length_before.result (sym c.if-not-is_formed.ensures) c.length_before.ensures c.split_at.ensures.front c.split_at.ensures.back c.in-Some.variable f c.if-seen-variable.false (sym c.spaces.ensures ∙ c.if-spaces-size_of.false ∙ n) c.in-Some-2.values.items (rw c.in-Some-2.is at c.in_ok-values.ensures)

pub returns-in-None-clause-fault : goal.returns-in-None-clause-fault
returns-in-None-clause-fault c =
    let f = found (map declaration_of c.args.declarations.now) c.args.places.now c.split_at.result.0.now c.requires.places c.in-Some.variable (c.in-Some.ensures ∙ c.get.ensures.value) in
    let sized = c.as_slice.ensures.value ∙ lengths_at c.args.declarations.now c.in-Some.variable f.declaration c.index-declarations-variable.result f.at in
    let n : c.size_of.result ≡ size f.declaration.lengths = c.size_of.ensures ∙ ap size sized in
    wrong_number (map declaration_of c.args.declarations.now) c.args.seen.now c.args.line.now c.split_at.result.0.now c.split_at.result.1.now c.length_before.result (sym c.if-not-is_formed.ensures) c.length_before.ensures c.split_at.ensures.front c.split_at.ensures.back c.in-Some.variable f c.if-seen-variable.false (sym c.spaces.ensures ∙ c.if-spaces-size_of.false ∙ n) (rw c.in-None.is at c.in_ok-values.ensures)
