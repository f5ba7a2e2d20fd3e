-- Cells that one worker's chunks overwrite after another's.
use Rattle.std.specs.Prelude.{ℕ, suc, ◌≡◌, ◌<◌, List, [], ◌∷◌, ◌++◌, length, flat_map, min, slice_get, Option, None}
use Rattle.std.proofs.Common.{refl, ap, ◌∙◌, inl}
use Rattle.std.proofs.lemmas.Option.{slice_get_within}
use Rattle.std.proofs.lemmas.List.Elements.{All-nil}
use Rattle.semantics.specs.Meaning.Places.{below}
use Rattle.semantics.specs.Loops.Chunk.{cut}
use Rattle.schedule.specs.Part.{static_kind}
use Rattle.schedule.proofs.Sized.{get-append_left}
use Rattle.overlay_pages.specs.Over.{writes_of}
use Rattle.team_log.specs.Applied.{AreApplied}
use Rattle.team_worker.specs.Dealt.{own_numbers}
use Rattle.team_worker.specs.Ends.{IsAccount}
use Rattle.team_log.specs.Logged.{Leaving, Account, no_account, both}
use Rattle.team_worker.specs.Overwritten.{AreOverwrittenBy, AreOverwrittenByAll}
use Rattle.team_worker.specs.Places.{Aim, AreFor}
use Rattle.team_worker.proofs.Accounts.{account_none}
use Rattle.team_log.proofs.Applying.{applied_both}
use Rattle.team_worker.proofs.Dealing.{dealt_more, dealt_all}

-- the first places
pub for_first : (aim : Aim) (first all : List Aim) (p : Aim) → all ≡ first ++ p ∷ [] → AreFor aim all → AreFor aim first
for_first aim first all p whole are k q there =
    are k q (ap (λ (l : List Aim). slice_get l k) whole ∙ (get-append_left first (p ∷ []) k (slice_get_within first k q there) ∙ there))

-- no chunk overwrites any
pub overwritten_none : (a : Aim) (cells : List ℕ) → AreOverwrittenBy a [] cells cells
overwritten_none a cells =
    record {
      account = no_account;
      of = account_none a.lowered a.registers a.store a.pass a.chunks;
      applied = record { long = refl; each = λ place lt. inl (All-nil (λ (c : Leaving). writes_of c.changes place ≡ None), refl) };
    }

-- one worker more
pub overwritten_more : (a : Aim) (own : ℕ → List ℕ) (n m : ℕ) (before now after : List ℕ) (log : Account) → m ≡ suc n → AreOverwrittenBy a (flat_map own (below n)) before now
    → IsAccount a.lowered a.registers a.store a.pass a.chunks (own n) log → AreApplied now after log.chunks → AreOverwrittenBy a (flat_map own (below m)) before after
overwritten_more a own n m before now after log next first last applied =
    record {
      account = both first.account log;
      of = dealt_more a.lowered a.registers a.store a.pass a.chunks own n m first.account log (both first.account log) next refl first.of last;
      applied = applied_both before now after first.account.chunks log.chunks first.applied applied;
    }

-- all workers
pub overwritten_all : (a : Aim) (size : Option ℕ) (count n : ℕ) (before after : List ℕ) → a.chunks ≡ cut (static_kind size) count a.workers → 0 < a.workers → n ≡ min (length a.chunks) a.workers
    → AreOverwrittenBy a (flat_map (own_numbers size (length a.chunks) a.workers) (below n)) before after → AreOverwrittenByAll a before after
overwritten_all a size count n before after is some number dealt =
    record {
      account = dealt.account;
      all = dealt_all a.lowered a.registers a.store a.pass a.chunks size a.workers n count dealt.account is some number dealt.of;
      applied = dealt.applied;
    }
