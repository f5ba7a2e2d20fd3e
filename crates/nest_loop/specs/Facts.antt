-- What is found of loops inside others, and of all loops in the order of the text. (OpenMP 5.2, 4.4.1 and 4.4.2)
use Rattle.std.specs.Prelude.{◌≡◌, List, ◌∷◌}
use Rattle.semantics.specs.Tree.{Variable, Cond, Source, Increment, Stmt, Assign, Update, If, IfElse, For, Block, Print, Items, no_items, mark, local, stmt}
use Rattle.ktree.specs.View.{source_of, cond_of, increment_of}
use Rattle.ktree.specs.declared.statement.Head.{Head}
use Rattle.affine.specs.declared.interval.Side.{Side}
use Rattle.affine.specs.Box.{EndsFit}
use Rattle.nest_loop.specs.declared.entered.LoopFacts.{LoopFacts}
use Rattle.nest_loop.specs.Loops.{IsLoop, inside}
use Rattle.nest_loop.specs.Most.{IsMost}

-- a loop inside those of a box has these facts: it is canonical in this form, its variable may have these numbers, and it turns so often at most
pub record AreFacts (box : List Side) (x : Variable) (start : Source) (test : Cond) (step : Increment) (body : Stmt) (facts : LoopFacts) : Type 0 where
  pub loop : IsLoop box x start test step body facts.canonical facts.numbers
  pub most : IsMost box facts.canonical facts.trip_count
  pub fits : EndsFit facts.numbers.least facts.numbers.greatest

-- so has the loop of a head
abbrev pub AreFactsOf : List Side → Head → Stmt → LoopFacts → Type 0
AreFactsOf box head body facts = AreFacts box head.variable.0 (source_of head.start) (cond_of head.test) (increment_of head.step) body facts

abbrev mutual
  -- the facts of a statement's loops stand in front of the rest
  pub FactsOf : List Side → Stmt → List LoopFacts → List LoopFacts → Type 0
  FactsOf box (Assign x is e) facts rest = facts ≡ rest
  FactsOf box (Update x is op e) facts rest = facts ≡ rest
  FactsOf box (If c a) facts rest = FactsOf box a facts rest
  FactsOf box (IfElse c a b) facts rest = (middle : List LoopFacts) × FactsOf box a facts middle × FactsOf box b middle rest
  FactsOf box (For x name start test step body) facts rest =
      (f : LoopFacts) × (more : List LoopFacts) × (facts ≡ f ∷ more) × AreFacts box x start test step body f × FactsOf (inside box x f.numbers) body more rest
  FactsOf box (Block items) facts rest = FactsAmong box items facts rest
  FactsOf box (Print parts) facts rest = facts ≡ rest

  -- those of the loops of a block's items
  pub FactsAmong : List Side → Items → List LoopFacts → List LoopFacts → Type 0
  FactsAmong box no_items facts rest = facts ≡ rest
  FactsAmong box (mark line items) facts rest = FactsAmong box items facts rest
  FactsAmong box (local x name start items) facts rest = FactsAmong box items facts rest
  FactsAmong box (stmt s items) facts rest = (middle : List LoopFacts) × FactsOf box s facts middle × FactsAmong box items middle rest

-- those of a loop and of the loops in its body
abbrev pub LoopFactsOf : List Side → Head → Stmt → List LoopFacts → List LoopFacts → Type 0
LoopFactsOf box head body facts rest =
    (f : LoopFacts) × (more : List LoopFacts) × (facts ≡ f ∷ more) × AreFactsOf box head body f × FactsOf (inside box head.variable.0 f.numbers) body more rest

-- the facts of a statement's loops stand first, whatever stands behind them
abbrev pub StandFirst : List Side → Stmt → List LoopFacts → Type 0
StandFirst box s facts = (rest : List LoopFacts) × FactsOf box s facts rest

-- those of the loops of a block's items
abbrev pub StandFirstAmong : List Side → Items → List LoopFacts → Type 0
StandFirstAmong box items facts = (rest : List LoopFacts) × FactsAmong box items facts rest

-- those of a loop with this head, whatever it runs
abbrev pub LoopStandsFirst : List Side → Head → List LoopFacts → Type 0
LoopStandsFirst box head facts = (body : Stmt) × (rest : List LoopFacts) × LoopFactsOf box head body facts rest

-- this is left behind some of them, whatever they stand in front of
abbrev pub IsLeft : (List LoopFacts → Type 0) → List LoopFacts → Type 0
IsLeft Facts left = (rest : List LoopFacts) → Facts rest → left ≡ rest
