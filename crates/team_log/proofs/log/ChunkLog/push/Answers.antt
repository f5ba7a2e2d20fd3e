use Rattle.std.proofs.Common.{◌≡◌, List, ℕ, [], ◌∷◌, ◌++◌, length, sym, ap, ◌∙◌}
use Rattle.reduce.specs.declared.partial.Partial.{Partial}
use Rattle.team_log.specs.declared.log.EndedChunk.{EndedChunk}
use Rattle.team_log.specs.Logged.{Account, both, account_of}
use Rattle.team_log.proofs.Logging.{pushed, counted, partials_counted, bytes_counted}
use Rattle.team_log.proofs.log.ChunkLog.push.Goals as goal

pub invariant_of-self-2 : goal.invariant_of-self-2
invariant_of-self-2 c =
    let own = c.self.inside in
    let piece = c.args.chunk.piece in
    let e : EndedChunk = record { number = c.args.chunk.number; changes = c.len.result; partials = c.len-2.result; bytes = length c.bytes.result.now } in
    let ended : c.push_reserved.new.self.items ≡ own.ended.items ++ e ∷ [] = c.push_reserved.ensures.items ∙ ap (λ (l : List EndedChunk). l ++ e ∷ []) c.reserve.ensures.items in
    let more : c.add_all.new.partials.items ≡ own.partials.items ++ piece.partials.items = c.in_ok-add_all.ensures.partials ∙ ap (λ (l : List Partial). own.partials.items ++ l) c.as_slice.ensures.value in
    let printed : c.add_all.new.text.items ≡ own.text.items ++ piece.text.bytes = c.in_ok-add_all.ensures.text ∙ ap (λ (l : List ℕ). own.text.items ++ l) c.bytes-2.ensures in
    let count : c.len-2.result ≡ length piece.partials.items = c.len-2.ensures ∙ sym (ap (λ (l : List Partial). length l) (sym c.as_slice.ensures.value) ∙ c.as_slice.ensures.len) in
    let long : length c.bytes.result.now ≡ length piece.text.bytes = ap (λ (l : List ℕ). length l) c.bytes.ensures in (
      counted own.ended.items c.push_reserved.new.self.items e own.changes piece.changes c.add_all.new.changes ended c.in_ok-add_all.ensures.changes c.self.invariant.0 c.len.ensures,
      partials_counted own.ended.items c.push_reserved.new.self.items e own.partials.items piece.partials.items c.add_all.new.partials.items ended more c.self.invariant.1 count,
      bytes_counted own.ended.items c.push_reserved.new.self.items e own.text.items piece.text.bytes c.add_all.new.text.items ended printed c.self.invariant.2 long,
    )

pub returns : goal.returns
returns c =
    let own = c.self.inside in
    let piece = c.args.chunk.piece in
    let e : EndedChunk = record { number = c.args.chunk.number; changes = c.len.result; partials = c.len-2.result; bytes = length c.bytes.result.now } in
    let ended : c.push_reserved.new.self.items ≡ own.ended.items ++ e ∷ [] = c.push_reserved.ensures.items ∙ ap (λ (l : List EndedChunk). l ++ e ∷ []) c.reserve.ensures.items in
    let more : c.add_all.new.partials.items ≡ own.partials.items ++ piece.partials.items = c.in_ok-add_all.ensures.partials ∙ ap (λ (l : List Partial). own.partials.items ++ l) c.as_slice.ensures.value in
    let printed : c.add_all.new.text.items ≡ own.text.items ++ piece.text.bytes = c.in_ok-add_all.ensures.text ∙ ap (λ (l : List ℕ). own.text.items ++ l) c.bytes-2.ensures in
    let count : c.len-2.result ≡ length piece.partials.items = c.len-2.ensures ∙ sym (ap (λ (l : List Partial). length l) (sym c.as_slice.ensures.value) ∙ c.as_slice.ensures.len) in
    let long : length c.bytes.result.now ≡ length piece.text.bytes = ap (λ (l : List ℕ). length l) c.bytes.ensures in
    let log =
    pushed own.ended.items c.push_reserved.new.self.items e own.changes piece.changes c.add_all.new.changes own.partials.items piece.partials.items c.add_all.new.partials.items own.text.items piece.text.bytes c.add_all.new.text.items
    ended c.in_ok-add_all.ensures.changes more printed c.self.invariant.0 c.len.ensures c.self.invariant.1 count c.self.invariant.2 long in
    (λ i. record { chunks = log i; lasts = c.keep_later.ensures i }) ∙ ap (λ (a : Account). both a (account_of c.args.chunk)) c.self.view_is
