-- Texts that grow.
use Rattle.std.specs.Prelude.{ℕ, ◌≡◌, List, ◌++◌, Result, Ok, Err, is_ok, if◌then◌else◌}
use Rattle.std.proofs.Common.{ap, ◌∙◌, append_assoc}
use Rattle.semantics.specs.Theorems.{Begins}

-- more of a text, with a slice put behind it or not
pub begins_extended : {T E : Type 0} (a b c more : List ℕ) (r : Result T E) → Begins a b → c ≡ (if is_ok r then b ++ more else b) → Begins a c
begins_extended a b c more (Ok x) (first, is) e = (first ++ more, e ∙ ap (λ l. l ++ more) is ∙ append_assoc a first more)
begins_extended a b c more (Err x) (first, is) e = (first, e ∙ is)

-- a text that begins with more of it
pub begins_further : (a b c more : List ℕ) → b ≡ a ++ more → Begins b c → Begins a c
begins_further a b c more e (last, is) = (more ++ last, is ∙ ap (λ l. l ++ last) e ∙ append_assoc a more last)
