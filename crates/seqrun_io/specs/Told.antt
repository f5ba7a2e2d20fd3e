-- What a sink took, and how often it failed.
use Rattle.std.specs.Prelude.{ℕ, ◌≡◌, ◌+◌, ◌⊎◌, List, ◌++◌, Option}
use Rattle.semantics.specs.Theorems.{Begins}
use Rattle.ktree.specs.declared.refusal.Refusal.{Refusal}
use Rattle.ktree.specs.declared.refusal.Refusal.TheVariants.{OutOfMemory, OutputFailed}

-- what a sink took, and how often it failed
pub record Told : Type 0 where
  pub bytes : List ℕ
  pub failures : ℕ

-- what a sink over a writer took, how often it failed, and what the writer holds, where that is known
pub record Written : Type 0 where
  pub bytes : List ℕ
  pub failures : ℕ
  pub contents : Option (List ℕ)

-- behind the bytes from before stands a beginning of these, and nothing else
abbrev pub AddsBeginning : List ℕ → List ℕ → List ℕ → Type 0
AddsBeginning before after whole = (written : List ℕ) × (after ≡ before ++ written) × Begins written whole

-- behind the bytes from before stand these, but for those at their end that are still held
pub record Holds (before after held whole : List ℕ) : Type 0 where
  pub written : List ℕ
  pub added : after ≡ before ++ written
  pub rest : whole ≡ written ++ held

-- the output failed, once, or memory was refused and the sink did not fail
abbrev pub Refuses : ℕ → ℕ → Refusal → Type 0
Refuses failed failed' refusal = ((refusal ≡ OutputFailed) × (failed' ≡ failed + 1)) ⊎ ((refusal ≡ OutOfMemory) × (failed' ≡ failed))
