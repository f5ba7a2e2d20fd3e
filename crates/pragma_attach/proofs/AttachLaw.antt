-- What is attached, and why nothing is.
use Rattle.std.specs.Prelude.{ℕ, Bool, true, false, ◌&&◌, ◌≡◌, ◌⊎◌, List, Some, None}
use Rattle.std.specs.HashMap.{HashMap}
use Rattle.std.proofs.Common.{refl, ap, ◌∙◌, inl, inr}
use Rattle.semantics.specs.Tree.{Kernel}
use Rattle.semantics.specs.Directives.Annotated.{Directives, lines_of}
use Rattle.semantics.specs.Directives.Naming.{IsAttached}
use Rattle.ktree.specs.declared.refusal.Refusal.{Refusal}
use Rattle.ktree.specs.declared.refusal.Refusal.TheVariants.{OutOfMemory}
use Rattle.pragma_attach.specs.declared.stop.Stop.{Stop}
use Rattle.pragma_attach.specs.declared.stop.Stop.TheVariants.{Memory, UnknownName, NamedTwice}
use Rattle.pragma_attach.specs.Faults.{IsOfDirectives}
use Rattle.pragma_attach.specs.Standing.{is_standing}
use Rattle.pragma_named.specs.declared.table.Clauses.{Clauses}
use Rattle.pragma_named.specs.Known.{kept}
use Rattle.pragma_attach.specs.Told.{told, Blames}
use Rattle.pragma_named.specs.Known.{lines_known}
use Rattle.pragma_attach.specs.Rightly.{name_rightly}
use Rattle.pragma_attach.proofs.ResolvedLaw.{attached_stands, attached_named, not_missed}

-- nothing is attached
abbrev pub None_is : List ℕ → Kernel → Type 0
None_is text tree = (ds : Directives) → IsAttached text tree ds → ⊥

pub stopped_rightly : (text : List ℕ) (tree : Kernel) (stop : Stop) (r : Refusal) → (stop ≡ Memory → r ≡ OutOfMemory) → (r ≡ OutOfMemory) ⊎ IsOfDirectives r
    → Blames stop ((n : ℕ) × (told text (lines_of tree) n ≡ Some None)) → (r ≡ OutOfMemory) ⊎ (IsOfDirectives r × None_is text tree)
stopped_rightly text tree Memory r m o b = inl (m refl)
stopped_rightly text tree (UnknownName place) r m (inl e) b = inl e
stopped_rightly text tree (UnknownName place) r m (inr o) b = inr (o, λ ds a. not_missed text tree ds a b.0 b.1)
stopped_rightly text tree (NamedTwice place) r m (inl e) b = inl e
stopped_rightly text tree (NamedTwice place) r m (inr o) b = inr (o, λ ds a. not_missed text tree ds a b.0 b.1)

and_true : (a b : Bool) → a ≡ true → b ≡ true → (a && b) ≡ true
and_true a b p q = ap (λ c. c && b) p ∙ q

-- what does not stand where it may, or does not name rightly, is not attached
pub not_right : (text : List ℕ) (tree : Kernel) {S : Type 0} (table : HashMap ℕ Clauses S) → ((n : ℕ) → kept table n ≡ told text (lines_of tree) n) → (stands named : Bool) → false ≡ (stands && named)
    → stands ≡ is_standing text tree → named ≡ name_rightly (lines_known (kept table)) tree → None_is text tree
not_right text tree table k stands named e p q ds a =
    let clash : false ≡ true = e ∙ and_true stands named (p ∙ attached_stands text tree ds a) (q ∙ attached_named text tree ds a table k) in
    absurd (cc clash)
