use Rattle.std.proofs.Common.{◌≡◌, ℕ, drop}
use Rattle.std.specs.Prelude.{◌||◌, map}
use Rattle.semantics.specs.Meaning.Agrees.{is_among}
use Rattle.pragma_mention.specs.Sets.{holds}
use Rattle.pragma_named.specs.Views.{variable_named}
use Rattle.pragma_attach.proofs.listed.add_names.Given as goal

-- those so far, with those that are left
abbrev pub invariant-loop-named : goal.invariant-loop-named
invariant-loop-named l =
    (q : ℕ) → (holds l.set q || is_among (map variable_named (drop l.named-index l.names)) q) ≡ (holds l.fn.set q || is_among (map variable_named l.names) q)
