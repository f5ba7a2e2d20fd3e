use Rattle.std.proofs.Common.{List, Option, Some, None, ℕ, ◌+◌, sym, ap, ◌∙◌}
use Rattle.std.specs.Prelude.{IfSome, MatchOption}
use Rattle.overlay_pages.specs.Over.{writes_in}
use Rattle.overlay_pages.specs.Table.{table_of, slots}
use Rattle.overlay_pages.proofs.Tables.{slots_say}
use Rattle.overlay_pages.proofs.Near.{read_apart}
use Rattle.overlay_pages.proofs.own.Own.row.Goals as goal

-- what is known where there is a value gives something else
if_there : {T : Type 0} (o : Option T) (N : Type 0) (P Q : T → Type 0) → ((x : T) → P x → Q x) → MatchOption o N P → IfSome o Q
if_there None N P Q f h = tt
if_there (Some x) N P Q f h = f x h

pub returns : goal.returns
returns c =
    let t = table_of c.self.inside.pages in
    if_there c.row_at.result _ _ _ (λ row r. record {
      long = r.long;
      each = λ k lt.
          ap (λ (l : List (Option ℕ)). writes_in l (c.args.first + k)) (sym c.self.view_is)
          ∙ read_apart (slots t) c.self.inside.near c.self.inside.value (c.args.first + k) (c.lies_apart.ensures.0 c.if-not-lies_apart.false k lt)
          ∙ slots_say t c.self.invariant.sound (c.args.first + k)
          ∙ r.each k lt;
    }) c.row_at.ensures
