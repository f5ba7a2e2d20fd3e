-- The heads of the code's tree, as the loops of a nest.
use Rattle.std.specs.Prelude.{ℕ, zero, suc, Bool, false, ◌||◌, Option, Some, None}
use Rattle.semantics.specs.Tree.{Variable, Cond, Compare, Stmt}
use Rattle.semantics.specs.Loops.Nest.{Loop, as_loop}
use Rattle.ktree.specs.View.{source_of, cond_of, increment_of}
use Rattle.ktree.specs.declared.statement.Head.{Head}
use Rattle.nest_loop.specs.Mentions.{mentions, mentions_source}

-- a loop without its body
abbrev pub head_of : Head → Loop
head_of head = record { variable = head.variable.0; start = source_of head.start; test = cond_of head.test; step = increment_of head.step }

-- a variable stands in the bound of a comparison
abbrev pub limit_mentions : Variable → Cond → Bool
limit_mentions x (Compare op a b) = mentions x b
limit_mentions x _ = false

-- in a loop's start or bound
abbrev pub depends : Variable → Loop → Bool
depends x h = limit_mentions x h.test || mentions_source x h.start

-- a statement is a loop of which this holds
abbrev pub is_loop_so : (Loop × Stmt → Bool) → Option (Loop × Stmt) → Bool
is_loop_so p None = false
is_loop_so p (Some found) = p found

-- a loop's start or bound mentions the variable of one of n loops, one directly in the other
abbrev pub depends_on_nest : Loop → ℕ → Stmt → Bool
depends_on_nest h zero s = false
depends_on_nest h (suc n) s = is_loop_so (λ found. depends found.0.variable h || depends_on_nest h n found.1) (as_loop s)
