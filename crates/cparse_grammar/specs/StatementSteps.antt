-- The steps of reading statements, as the code takes them.
use Rattle.std.specs.Prelude.{Bool, true, false, ◌&&◌, Option}
use Rattle.semantics.specs.Tree.{Name, Exprs, Source, BinaryOp, Increment, Up, Down, Change, Stmt, Update}
use Rattle.semantics.specs.Source.Scope.{Scope, Entity, find}
use Rattle.cparse_grammar.specs.Reading.{Reader, ◌>>=◌, got}
use Rattle.cparse_grammar.specs.Operators.{number_in, is_number}
use Rattle.cparse_grammar.specs.StatementReader.{target_of, may_set, may_step, if_named, step_behind}
use Rattle.cparse_grammar.specs.NextTokens.{sign, next_word}

-- a step by one, up or down
abbrev pub by_one : Option Entity → Bool → Reader Increment
by_one entity true ts = got (Up (target_of entity)) (may_step entity) ts
by_one entity false ts = got (Down (target_of entity)) (may_step entity) ts

-- a step behind its operator
abbrev pub changed_by : Reader Source → Option Entity → BinaryOp → Reader Increment
changed_by whole entity op ts = whole ts >>= λ e. got (Change (target_of entity) op (number_in e.tree)) (may_step entity && (e.sound && is_number e.tree)) e.rest

-- a step in front of its variable
abbrev pub step_before : Scope → Bool → Reader Increment
step_before scope up ts = next_word ts >>= λ w. if_named scope w.0 (by_one (find scope w.0) up w.1)

-- a step behind its variable
abbrev pub step_of : Reader Source → Scope → Name → Reader Increment
step_of whole scope name ts = sign ts >>= λ s. if_named scope name (step_behind whole (find scope name) s.0 s.1)

-- what is assigned behind `op=`
abbrev pub updated : Reader Source → Option Entity → Exprs → Bool → BinaryOp → Reader Stmt
updated whole entity is sound op ts =
    whole ts >>= λ e. got (Update (target_of entity) is op (number_in e.tree)) (sound && (may_set entity is && (e.sound && is_number e.tree))) e.rest
