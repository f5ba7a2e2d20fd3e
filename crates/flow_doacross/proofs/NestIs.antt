-- What is known of a doacross nest that is right.
use Rattle.std.specs.Prelude.{ℕ, Bool, true, false, ◌&&◌, ◌≡◌, List, Option, Some, None, option_map}
use Rattle.std.specs.List.{list_all}
use Rattle.std.proofs.Common.{refl, sym, ap, ◌∙◌}
use Rattle.std.proofs.lemmas.Bool.{eqb-true}
use Rattle.semantics.specs.Tree.{Variable, Stmt, Assign, Update, If, IfElse, For, Block, Print, Items}
use Rattle.semantics.specs.Source.Text.{line_at}
use Rattle.semantics.specs.Loops.Nest.{Loop, nest_of}
use Rattle.semantics.specs.Directives.Directive.{Schedule, Clause}
use Rattle.law_commute.proofs.Values.{first_of, second_of}
use Rattle.law_waves.specs.Silent.{is_silent}
use Rattle.pragma.specs.Clauses.{ReadsLoop}
use Rattle.pragma.specs.Parallel.{associated}
use Rattle.flow_doacross.specs.Lines.{is_number, associates, suits_doacross}
use Rattle.flow_doacross.specs.Bodies.{loop_names, cut_front, are_ordered, is_ordered_body}
use Rattle.flow_doacross.specs.Nests.{counts_up, all_count_up, prints_nothing, is_doacross_nest}
use Rattle.flow_doacross.proofs.LinesLaw.{number_there}

-- the line associates as many loops as it says
pub as_many : (text : List ℕ) (n d : ℕ) (k : Option Schedule) (c : Option ℕ) → ReadsLoop (line_at text n) k c → associates text n d ≡ true → associated c ≡ d
as_many text n d k c r h = eqb-true (associated c) d (sym (ap (λ o. is_number o d) (number_there text n k c r)) ∙ h)

-- of a nest
pub record IsNest (text : List ℕ) (n d : ℕ) (cs : List (Clause Variable)) (s : Stmt) : Type 0 where
  pub many : associates text n d ≡ true
  pub suits : list_all suits_doacross cs ≡ true
  pub loops : List Loop
  pub items : Items
  pub nest : nest_of d s ≡ Some (loops, Block items)
  pub count_up : list_all counts_up loops ≡ true
  pub silent : is_silent (Block items) ≡ true
  pub ordered : are_ordered text d (loop_names s) (cut_front text items) ≡ true

module _ (text : List ℕ) (n d : ℕ) (cs : List (Clause Variable)) (s : Stmt) where
  abbrev bodies : Option (List Loop × Stmt) → Option Stmt
  bodies o = option_map (λ nest. nest.1) o

  abbrev judged : Option (List Loop × Stmt) → Bool
  judged o = associates text n d && list_all suits_doacross cs && all_count_up o && prints_nothing (bodies o) && is_ordered_body text d (loop_names s) (bodies o)

  block_nest : (loops : List Loop) (body : Stmt) → nest_of d s ≡ Some (loops, body) → judged (Some (loops, body)) ≡ true → is_ordered_body text d (loop_names s) (Some body) ≡ true → IsNest text n d cs s
  block_nest loops (Block items) e h i =
      let many = associates text n d in
      let suit = list_all suits_doacross cs in
      let up = list_all counts_up loops in
      let silent = is_silent (Block items) in
      let front = first_of (many && suit && up && silent) (is_ordered_body text d (loop_names s) (Some (Block items))) h in
      let clauses = first_of (many && suit && up) silent front in
      let said = first_of (many && suit) up clauses in
      record {
        many = first_of many suit said;
        suits = second_of many suit said;
        loops = loops;
        items = items;
        nest = e;
        count_up = second_of (many && suit) up clauses;
        silent = second_of (many && suit && up) silent front;
        ordered = i;
      }
  block_nest loops (Assign x is a) e h i = absurd (cc i)
  block_nest loops (Update x is op a) e h i = absurd (cc i)
  block_nest loops (If c a) e h i = absurd (cc i)
  block_nest loops (IfElse c a b) e h i = absurd (cc i)
  block_nest loops (For x name start test step body) e h i = absurd (cc i)
  block_nest loops (Print parts) e h i = absurd (cc i)

  pub nest_is : is_doacross_nest text n d cs s ≡ true → IsNest text n d cs s
  nest_is h = go (nest_of d s) refl h
    where
      front : Option (List Loop × Stmt) → Bool
      front o = associates text n d && list_all suits_doacross cs && all_count_up o && prints_nothing (bodies o)

      go : (o : Option (List Loop × Stmt)) → nest_of d s ≡ o → judged o ≡ true → IsNest text n d cs s
      go None e g = absurd (cc (second_of (front None) false g))
      go (Some (loops, body)) e g = block_nest loops body e g (second_of (front (Some (loops, body))) (is_ordered_body text d (loop_names s) (Some body)) g)
