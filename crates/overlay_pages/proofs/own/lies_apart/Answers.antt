use Rattle.std.proofs.Common.{◌≡◌, ◌+◌, ◌-◌, ◌<◌, ◌≤◌, ◌⊎◌, inl, inr, true, arith}
use Rattle.std.specs.Prelude.{nat_le}
use Rattle.std.proofs.lemmas.Bool.{cases_lt, leb-true, le-leb}
use Rattle.overlay_pages.proofs.own.lies_apart.Goals as goal

pub returns-else-place-first : goal.returns-else-place-first
returns-else-place-first c = (
  λ e k lt same. let past = leb-true (c.args.first + c.args.count) c.args.place e in absurd (omega arith),
  λ apart. go apart (cases_lt c.args.place (c.args.first + c.args.count)),
)
  where
    go : ((k : _) → k < c.args.count → c.args.first + k ≡ c.args.place → ⊥) → (c.args.place < c.args.first + c.args.count) ⊎ (c.args.first + c.args.count ≤ c.args.place) → nat_le (c.args.first + c.args.count) c.args.place ≡ true
    go apart (inl lt) = absurd (apart (c.args.place - c.args.first) (omega arith) (let e : c.args.first + (c.args.place - c.args.first) ≡ c.args.place = omega arith in e))
    go apart (inr le) = le-leb (c.args.first + c.args.count) c.args.place le
