-- What chunks leave, in one account.
use Rattle.std.specs.Prelude.{ℕ, ◌+◌, List, [], ◌∷◌, ◌++◌, take, drop, map, Option}
use Rattle.overlay_pages.specs.declared.changes.Change.{Change}
use Rattle.reduce.specs.Partial.{partial_of}
use Rattle.team_log.specs.declared.log.EndedChunk.{EndedChunk}
use Rattle.team_log.specs.declared.piece.ChunkPiece.{ChunkPiece}

-- what the chunk of a number leaves: its changes, a partial of each reduction variable, and what it prints
pub record Leaving : Type 0 where
  pub number : ℕ
  pub changes : List Change
  pub partials : List (Option ℕ)
  pub text : List ℕ

-- what several leave, and the values of lastprivate variables, where one of them has the last iteration
pub record Account : Type 0 where
  pub chunks : List Leaving
  pub lasts : List ℕ

abbrev pub no_account : Account
no_account = record { chunks = []; lasts = [] }

-- the later of two lists of values, where it has some
abbrev pub later : List ℕ → List ℕ → List ℕ
later ns [] = ns
later ns (m ∷ ms) = m ∷ ms

-- two accounts in one
abbrev pub both : Account → Account → Account
both a b = record { chunks = a.chunks ++ b.chunks; lasts = later a.lasts b.lasts }

-- those of several workers
abbrev pub joined : List Account → Account
joined [] = no_account
joined (a ∷ others) = both a (joined others)

-- the account of one chunk
abbrev pub account_of : ChunkPiece → Account
account_of c = record { chunks = record { number = c.number.0; changes = c.piece.changes; partials = map partial_of c.piece.partials.items; text = c.piece.text.bytes } ∷ []; lasts = c.piece.lasts.items }

-- how many changes these chunks have, how many partials, and how many bytes of text
abbrev pub changes_in : List EndedChunk → ℕ
changes_in [] = 0
changes_in (e ∷ es) = e.changes + changes_in es

abbrev pub partials_in : List EndedChunk → ℕ
partials_in [] = 0
partials_in (e ∷ es) = e.partials + partials_in es

abbrev pub bytes_in : List EndedChunk → ℕ
bytes_in [] = 0
bytes_in (e ∷ es) = e.bytes + bytes_in es

-- each chunk with its own, which come one behind another
abbrev pub logged : List EndedChunk → List Change → List (Option ℕ) → List ℕ → List Leaving
logged [] ws ps bs = []
logged (e ∷ es) ws ps bs =
    record { number = e.number.0; changes = take e.changes ws; partials = take e.partials ps; text = take e.bytes bs } ∷ logged es (drop e.changes ws) (drop e.partials ps) (drop e.bytes bs)
