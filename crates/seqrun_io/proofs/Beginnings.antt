-- Beginnings of what is to be written.
use Rattle.std.specs.Prelude.{ℕ, ◌≡◌, ◌+◌, List, [], ◌++◌, take, drop}
use Rattle.std.proofs.Common.{refl, sym, ap, ◌∙◌, subst, append_assoc, append-nil}
use Rattle.std.proofs.lemmas.List.{take-append-drop}
use Rattle.std.proofs.Math.Seq.{take-add}
use Rattle.seqrun_io.specs.Told.{AddsBeginning, Holds}

-- a put of what is left behind the first bytes
pub put_on : (before told after bytes : List ℕ) (start count : ℕ) → told ≡ before ++ take start bytes → after ≡ told ++ take count (drop start bytes) → after ≡ before ++ take (start + count) bytes
put_on before told after bytes start count t a =
    a
    ∙ ap (λ l. l ++ take count (drop start bytes)) t
    ∙ append_assoc before (take start bytes) (take count (drop start bytes))
    ∙ ap (λ l. before ++ l) (sym (take-add start count bytes))

-- the first bytes, and no more
pub begun : (before told after bytes : List ℕ) (start : ℕ) → told ≡ before ++ take start bytes → after ≡ told → AddsBeginning before after bytes
begun before told after bytes start t a = (take start bytes, a ∙ t, (drop start bytes, sym (take-append-drop start bytes)))

-- all of them
pub whole : (before after bytes : List ℕ) → after ≡ before ++ bytes → AddsBeginning before after bytes
whole before after bytes e = (bytes, e, ([], sym (append-nil bytes)))

-- none of them
pub none : (before bytes : List ℕ) → AddsBeginning before before bytes
none before bytes = ([], sym (append-nil before), (bytes, refl))

-- a beginning of the front part is one of the whole
pub of_front : (before after front rest : List ℕ) → AddsBeginning before after front → AddsBeginning before after (front ++ rest)
of_front before after front rest (written, added, (more, is)) = (written, added, (more ++ rest, ap (λ l. l ++ rest) is ∙ append_assoc written more rest))

-- all of the front part, and then a beginning of the rest
pub of_rest : (before told after front rest : List ℕ) → told ≡ before ++ front → AddsBeginning told after rest → AddsBeginning before after (front ++ rest)
of_rest before told after front rest t (written, added, (more, is)) =
    (front ++ written, added ∙ ap (λ l. l ++ written) t ∙ append_assoc before front written, (more, ap (λ l. front ++ l) is ∙ sym (append_assoc front written more)))

-- bytes that are held are the rest of a beginning
pub of_held : (before after held whole : List ℕ) → Holds before after held whole → AddsBeginning before after whole
of_held before after held whole h = (h.written, h.added, (held, h.rest))

-- more behind what is held, of which a beginning is put
pub on_held : (before middle after held whole more : List ℕ) → Holds before middle held whole → AddsBeginning middle after (held ++ more) → AddsBeginning before after (whole ++ more)
on_held before middle after held whole more h a =
    subst (AddsBeginning before after) (sym (append_assoc h.written held more) ∙ ap (λ l. l ++ more) (sym h.rest)) (of_rest before middle after h.written (held ++ more) h.added a)

-- more behind what is held, but for what is still held
pub more_held : (before middle after held held' whole more : List ℕ) → Holds before middle held whole → Holds middle after held' (held ++ more) → Holds before after held' (whole ++ more)
more_held before middle after held held' whole more h k = record {
  written = h.written ++ k.written;
  added = k.added ∙ ap (λ l. l ++ k.written) h.added ∙ append_assoc before h.written k.written;
  rest =
      ap (λ l. l ++ more) h.rest
      ∙ append_assoc h.written held more
      ∙ ap (λ l. h.written ++ l) k.rest
      ∙ sym (append_assoc h.written k.written held');
}

-- nothing is put yet
pub held_only : (before held : List ℕ) → Holds before before held held
held_only before held = record { written = []; added = sym (append-nil before); rest = refl }
