-- How often tickets stand in lists, and what a draw finds.
use Rattle.std.proofs.Common.{◌≡◌, ℕ, ◌+◌, ◌<◌, ◌≤◌, List, [], ◌∷◌, ◌++◌, All, Some, None, arith}
use Rattle.std.proofs.lemmas.Bool.Decides.{nat_tests}
use Rattle.std.proofs.lemmas.List.Elements.{All-nil, All-cons}
use Rattle.semantics.specs.Loops.Arrangement.{times, once, once_below}
use Rattle.semantics.specs.Teams.Machine.{ticket_of, next_after}
use Rattle.semantics.proofs.TicketLaw.{times-append}

pub times-snoc : (x : ℕ) (xs : List ℕ) (y : ℕ) → times x (xs ++ y ∷ []) ≡ times x xs + once x y
times-snoc x xs y = omega (arith, times-append x xs (y ∷ []))

pub none_below_zero : (x : ℕ) → 0 ≡ once_below x 0
none_below_zero x = grind (arith, nat_tests)

once-same : (y : ℕ) → once y y ≡ 1
once-same y = grind (arith, nat_tests)

below_one : (y n : ℕ) → 1 ≤ once_below y n → y < n
below_one y n h = grind (arith, nat_tests)

-- a list that has no number but those below n
pub all_below : (n : ℕ) (ts : List ℕ) → ((x : ℕ) → times x ts ≤ once_below x n) → All (λ t. t < n) ts
all_below n [] h = All-nil (λ t. t < n)
all_below n (y ∷ ys) h =
    All-cons (λ t. t < n) y ys (below_one y n (omega (arith, h y, once-same y))) (all_below n ys (λ x. omega (arith, h x)))

-- a ticket is left
pub ticket_left : (n count : ℕ) → n < count → ticket_of n count ≡ Some n
ticket_left n count less = grind (arith, nat_tests)

pub next_left : (n count : ℕ) → n < count → next_after n count ≡ n + 1
next_left n count less = grind (arith, nat_tests)

-- none is left
pub ticket_none : (n count : ℕ) → count ≤ n → ticket_of n count ≡ None
ticket_none n count over = grind (arith, nat_tests)

pub next_none : (n count : ℕ) → count ≤ n → next_after n count ≡ n
next_none n count over = grind (arith, nat_tests)
