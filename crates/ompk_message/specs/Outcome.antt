-- What comes of putting a text into a sink.
use Rattle.std.specs.Prelude.{ℕ, ◌≡◌, ◌+◌, List, ◌++◌, Result, IfErr, OnErr, OnOk}
use Rattle.ktree.specs.declared.refusal.Refusal.{Refusal}
use Rattle.ktree.specs.declared.refusal.Refusal.TheVariants.{OutputFailed}
use Rattle.seqrun_io.specs.Told.{AddsBeginning}

-- a sink took all of a text, or it took a beginning of it and then failed once, where `told` says what it took and `failed` how often it failed
pub record PutsOrFails {S T : Type 0} (told : S → List ℕ) (failed : S → ℕ) (old new : S) (text : List ℕ) (result : Result T Refusal) : Type 0 where
  pub all : OnOk result (told new ≡ told old ++ text)
  pub beginning : AddsBeginning (told old) (told new) text
  pub sound : OnOk result (failed new ≡ failed old)
  pub counted : OnErr result (failed new ≡ failed old + 1)
  pub refusal : IfErr result (λ refusal. refusal ≡ OutputFailed)
