-- Accounts of several chunks, put together.
use Rattle.std.specs.Prelude.{ℕ, suc, zero, Bool, true, false, ◌≡◌, ◌+◌, ◌<◌, ◌==◌, List, [], ◌∷◌, ◌++◌, length, take, drop, slice_get, Some, option_map}
use Rattle.std.proofs.Common.{refl, sym, ap, ◌∙◌, subst, append_assoc, append-nil, arith}
use Rattle.std.proofs.lemmas.Bool.Decides.{nat_tests}
use Rattle.std.proofs.lemmas.Bool.{eqb-true}
use Rattle.std.proofs.lemmas.List.{map-append, length-map}
use Rattle.std.proofs.lemmas.List.Elements.{All-nil, All-cons, All-append}
use Rattle.std.proofs.lemmas.Option.{none-some, same_Some, slice_get-map}
use Rattle.semantics.specs.Tree.{Variable}
use Rattle.semantics.specs.Meaning.State.{State, look, overwritten}
use Rattle.semantics.specs.Meaning.Runs.{Effect}
use Rattle.semantics.specs.Loops.Arrangement.{times, once}
use Rattle.semantics.specs.Loops.Chunk.{Chunk}
use Rattle.semantics.specs.Loops.Joined.{chunked}
use Rattle.semantics.specs.Loops.Nest.{Vector}
use Rattle.semantics.specs.Loops.Piece.{Roles}
use Rattle.semantics.proofs.TicketLaw.{times-append}
use Rattle.nest_space.specs.Space.{Turns, vectors}
use Rattle.store.specs.Kept.{Kept}
use Rattle.lower.specs.declared.lowered.LoweredLoop.{LoweredLoop}
use Rattle.law_nests.specs.Walks.{walk}
use Rattle.overlay.specs.declared.positions.Order.{Order}
use Rattle.overlay.specs.declared.worker.Work.{Work}
use Rattle.overlay.specs.Chunks.{IsChunkFrom, IsLastFrom, ChangeOnly}
use Rattle.team_worker.specs.declared.pass.Pass.{Pass}
use Rattle.team_log.specs.declared.piece.ChunkPiece.{ChunkPiece}
use Rattle.team_worker.specs.Ends.{IsSplit, IsLeaving, IsAccount, AreLastValues}
use Rattle.team_log.specs.Logged.{Leaving, Account, no_account, later, both, joined, account_of}
use Rattle.team_worker.proofs.Cutting.{ends_last, last_ends}
use Rattle.team_worker.proofs.Taking.{taken_is, tells_lasts}
use Rattle.team_worker.specs.Starts.{taken_in, IsOrderOf, start_at, started_in}

later_none : (ns : List ℕ) → later [] ns ≡ ns
later_none [] = refl
later_none (n ∷ ns) = refl

later_three : (ks ms ns : List ℕ) → later ks (later ms ns) ≡ later (later ks ms) ns
later_three ks ms [] = refl
later_three ks ms (n ∷ ns) = refl

both_three : (a b c : Account) → both a (both b c) ≡ both (both a b) c
both_three a b c = λ i. record { chunks = sym (append_assoc a.chunks b.chunks c.chunks) i; lasts = later_three a.lasts b.lasts c.lasts i }

pub both_none : (a : Account) → both a no_account ≡ a
both_none a = λ i. record { chunks = append-nil a.chunks i; lasts = a.lasts }

none_both : (a : Account) → both no_account a ≡ a
none_both a = λ i. record { chunks = a.chunks; lasts = later_none a.lasts i }

joined_last : (logs : List Account) (a : Account) → joined (logs ++ a ∷ []) ≡ both (joined logs) a
joined_last [] a = both_none a ∙ sym (none_both a)
joined_last (b ∷ logs) a = ap (both b) (joined_last logs a) ∙ both_three b (joined logs) a

-- one worker more
pub joined_more : (logs logs' : List Account) (log : Account) → logs' ≡ logs ++ log ∷ [] → joined logs' ≡ both (joined logs) log
joined_more logs logs' log more = ap joined more ∙ joined_last logs log

module _ (roles : Roles) (start : ℕ → State) (effects : List Effect) where
  abbrev Tells : ℕ → Effect → List ℕ → Type 0
  Tells n e lasts = (k : ℕ) (x : Variable) (v : ℕ) → slice_get roles.lasts k ≡ Some x → look (overwritten (start n) e.writes) x [] ≡ Some v → slice_get lasts k ≡ Some v

  tells_later : (m : ℕ) (e : Effect) (older newer : List ℕ) → Tells m e newer → Tells m e (later older newer)
  tells_later m e older [] tells k x v f g = absurd (none-some v (tells k x v f g))
  tells_later m e older (n ∷ newer) tells k x v f g = tells k x v f g

  pub both_tell : (ns ms older newer : List ℕ) → AreLastValues roles start effects ns older → AreLastValues roles start effects ms newer → AreLastValues roles start effects (ns ++ ms) (later older newer)
  both_tell ns ms older newer first second =
      record {
        told = λ number e last there some. pick number e last there some (times number ms) refl;
        other = λ none.
            let no_first : older ≡ [] = first.other (λ number last. let t = none number last in omega (arith, times-append number ns ms)) in
            let no_second : newer ≡ [] = second.other (λ number last. let t = none number last in omega (arith, times-append number ns ms)) in
            (λ i. later (no_first i) (no_second i));
      }
    where
      pick : (number : ℕ) (e : Effect) → number + 1 ≡ length effects → slice_get effects number ≡ Some e → 0 < times number (ns ++ ms) → (n : ℕ) → times number ms ≡ n → Tells number e (later older newer)
      pick number e last there some zero none =
          let no_second : newer ≡ [] = second.other (λ m is. let same : number ≡ m = omega arith in subst (λ k. times k ms ≡ 0) same none) in
          let now : 0 < times number ns = omega (arith, times-append number ns ms) in
          subst (λ ls. Tells number e ls) (sym (ap (later older) no_second)) (first.told number e last there now)
      pick number e last there some (suc n) is = tells_later number e older newer (second.told number e last there (omega arith))

  pub none_tell : AreLastValues roles start effects [] []
  none_tell = record { told = λ number e last there some. absurd (omega arith); other = λ none. refl }

only_one : (n m : ℕ) → 0 < times n (m ∷ []) → n ≡ m
only_one n m some = go (m == n) refl
  where
    go : (b : Bool) → (m == n) ≡ b → n ≡ m
    go true e = sym (eqb-true m n e)
    go false e = let none : once n m ≡ 0 = grind (arith, nat_tests) in absurd (omega arith)

module _ (l : LoweredLoop) (registers : List ℕ) (ks : List Kept) (pass : Pass) (chunks : List Chunk) where
  abbrev P : Leaving → Type 0
  P c = IsLeaving l registers ks pass chunks c

  pub account_none : IsAccount l registers ks pass chunks [] no_account
  account_none =
      record {
        numbers_are = refl;
        each = All-nil P;
        lasts = λ layout mark roles loops body outer us effects reached of ran. none_tell roles (started_in pass roles outer) effects;
      }

  pub account_both : (ns ms : List ℕ) (a b : Account) → IsAccount l registers ks pass chunks ns a → IsAccount l registers ks pass chunks ms b → IsAccount l registers ks pass chunks (ns ++ ms) (both a b)
  account_both ns ms a b first second =
      record {
        numbers_are = map-append (λ (c : Leaving). c.number) a.chunks b.chunks ∙ (λ i. first.numbers_are i ++ second.numbers_are i);
        each = All-append P a.chunks b.chunks first.each second.each;
        lasts = λ layout mark roles loops body outer us effects reached of ran.
            both_tell roles (started_in pass roles outer) effects ns ms a.lasts b.lasts (first.lasts layout mark roles loops body outer us effects reached of ran) (second.lasts layout mark roles loops body outer us effects reached of ran);
      }

  -- the account of a chunk that was run
  pub account_one : (space : List Turns) (p : ChunkPiece) (chunk : Chunk) (order : Order) → IsOrderOf pass order → IsSplit l registers pass space chunks → slice_get chunks p.number.0 ≡ Some chunk
      → (let work : Work = record { chunk = p.number; first = chunk.first; count = chunk.count } in IsChunkFrom (start_at pass p.number.0) order l registers ks work p.piece × IsLastFrom (start_at pass p.number.0) order l registers ks work p.piece)
      → ChangeOnly ks p.piece.changes → IsAccount l registers ks pass chunks (p.number.0 ∷ []) (account_of p)
  account_one space p chunk order order_is split there (leaves, last) only =
      record {
        numbers_are = refl;
        each = All-cons P _ [] (record { chunk = chunk; there = there; piece = p.piece; order = order; order_is = order_is; leaves = leaves; changes_are = refl; partials_are = refl; text_is = refl; only = only }) (All-nil P);
        lasts = λ layout mark roles loops body outer us effects reached of ran.
            let same : us ≡ vectors space = split.iterations layout mark roles loops body outer us ks reached in
            let taken : List Vector = taken_in pass us in
            let all : ℕ = length (taken_in pass (vectors space)) in
            let count : length taken ≡ all = ap (λ vs. length (taken_in pass vs)) same in
            let work : Work = record { chunk = p.number; first = chunk.first; count = chunk.count } in
            let iterations_of : Chunk → List Vector = λ c. take c.count (drop c.first taken) in
            let here : slice_get (chunked taken chunks) p.number.0 ≡ Some (take chunk.count (drop chunk.first taken)) = slice_get-map iterations_of chunks p.number.0 ∙ ap (option_map iterations_of) there in
            let own = ran.each p.number.0 (take chunk.count (drop chunk.first taken)) here in
            let walked = subst (λ (vs : List Vector). walk loops body (take chunk.count (drop chunk.first vs)) (started_in pass roles outer p.number.0) ≡ Some own.0) (sym (taken_is pass order us order_is)) own.2 in
            let many : length effects ≡ length chunks = ran.count ∙ length-map chunks iterations_of in
            let tells = tells_lasts pass order roles (overwritten (started_in pass roles outer p.number.0) own.0.writes) us work p.piece.lasts.items order_is of (last layout mark roles loops body outer us own.0 reached walked) in
            record {
              told = λ number e is at some k x v f g.
                  let here_is : number ≡ p.number.0 = only_one number p.number.0 some in
                  let own_is : own.0 ≡ e = same_Some own.0 e (sym own.1 ∙ sym (ap (slice_get effects) here_is) ∙ at) in
                  let last_is : p.number.0 + 1 ≡ length chunks = ap (λ n. n + 1) (sym here_is) ∙ is ∙ many in
                  let end : chunk.first + chunk.count ≡ length taken = last_ends all p.number.0 chunks chunk split.cut there last_is ∙ sym count in
                  (tells.last end).each k x v f ((λ i. look (overwritten (started_in pass roles outer (sym here_is i)) (own_is i).writes) x []) ∙ g);
              other = λ none. tells.other (λ end.
                  let is : p.number.0 + 1 ≡ length chunks = ends_last all p.number.0 chunks chunk split.cut there (end ∙ count) in
                  let no = none p.number.0 (is ∙ sym many) in
                  let one : once p.number.0 p.number.0 ≡ 1 = grind (arith, nat_tests) in
                  omega arith);
            };
      }
