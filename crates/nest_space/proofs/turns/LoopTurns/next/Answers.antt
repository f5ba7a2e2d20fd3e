use Rattle.std.specs.Prelude.{ℕ, ◌≡◌, ◌+◌, ◌*◌, ◌-◌, slice_get, MatchOption}
use Rattle.std.proofs.Common.{sym, ap, ◌∙◌, subst, Some}
use Rattle.nest_space.specs.Space.{Turns, moved, values_of}
use Rattle.nest_space.proofs.Counted.{last_turn, next_rising, next_falling}
use Rattle.nest_space.proofs.turns.LoopTurns.next.Goals as goal

pub returns-then-value-move_by : goal.returns-then-value-move_by
returns-then-value-move_by c =
    let t : Turns = record { first = c.self.inside.first; stride = c.self.inside.stride; count = c.self.inside.count } in
    let far : c.from-by.result * c.saturating_sub.result ≡ t.stride.by * (t.count - 1) = ap (λ n. n * c.saturating_sub.result) c.from-by.ensures ∙ ap (λ n. t.stride.by * n) c.saturating_sub.ensures in
    subst (λ (t : Turns). (k : ℕ) → slice_get (values_of t) k ≡ Some c.args.value → k + 1 ≡ t.count) c.self.view_is
    (λ k e. last_turn t k c.args.value c.self.invariant e (c.if-value-move_by.true ∙ c.move_by.ensures ∙ ap (moved t.stride.direction t.first) far))

pub returns-in-Rising : goal.returns-in-Rising
returns-in-Rising c =
    let t : Turns = record { first = c.self.inside.first; stride = c.self.inside.stride; count = c.self.inside.count } in
    let far : c.from-by.result * c.saturating_sub.result ≡ t.stride.by * (t.count - 1) = ap (λ n. n * c.saturating_sub.result) c.from-by.ensures ∙ ap (λ n. t.stride.by * n) c.saturating_sub.ensures in
    let other : c.args.value ≡ moved t.stride.direction t.first (t.stride.by * (t.count - 1)) → ⊥ = λ e. c.if-value-move_by.false (e ∙ sym (c.move_by.ensures ∙ ap (moved t.stride.direction t.first) far)) in
    subst (λ (t : Turns). (k : ℕ) → slice_get (values_of t) k ≡ Some c.args.value → MatchOption c.checked_add.result (k + 1 ≡ t.count) (λ x. slice_get (values_of t) (k + 1) ≡ Some x)) c.self.view_is
    (λ k e. next_rising t k c.args.value c.from-by.result c.checked_add.result c.self.invariant c.in-Rising.is c.from-by.ensures e other c.checked_add.ensures)

pub returns-in-Falling : goal.returns-in-Falling
returns-in-Falling c =
    let t : Turns = record { first = c.self.inside.first; stride = c.self.inside.stride; count = c.self.inside.count } in
    let far : c.from-by.result * c.saturating_sub.result ≡ t.stride.by * (t.count - 1) = ap (λ n. n * c.saturating_sub.result) c.from-by.ensures ∙ ap (λ n. t.stride.by * n) c.saturating_sub.ensures in
    let other : c.args.value ≡ moved t.stride.direction t.first (t.stride.by * (t.count - 1)) → ⊥ = λ e. c.if-value-move_by.false (e ∙ sym (c.move_by.ensures ∙ ap (moved t.stride.direction t.first) far)) in
    subst (λ (t : Turns). (k : ℕ) → slice_get (values_of t) k ≡ Some c.args.value → MatchOption c.checked_sub.result (k + 1 ≡ t.count) (λ x. slice_get (values_of t) (k + 1) ≡ Some x)) c.self.view_is
    (λ k e. next_falling t k c.args.value c.from-by.result c.checked_sub.result c.self.invariant c.in-Falling.is c.from-by.ensures e other c.checked_sub.ensures)
