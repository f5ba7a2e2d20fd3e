-- What is told of nests that are right.
use Rattle.std.specs.Prelude.{ℕ, Bool, true, false, not, cond, ◌==◌, ◌&&◌, if◌then◌else◌, nat_le, ◌≡◌, List, [], ◌∷◌, ◌++◌, map, length, Option, Some, None, is_some, option_map}
use Rattle.std.specs.List.{list_all}
use Rattle.std.proofs.Common.{refl, sym, ap, ◌∙◌}
use Rattle.std.proofs.lemmas.Bool.{eqb-true}
use Rattle.std.proofs.lemmas.Option.{same_Some, none-some}
use Rattle.std.proofs.lemmas.List.Folds.{list_all-append}
use Rattle.semantics.specs.Tree.{Stmt, Assign, Update, If, IfElse, For, Block, Print, Items, no_items, mark, local, stmt, Kernel}
use Rattle.semantics.specs.Loops.Order.{Distance, is_ahead}
use Rattle.semantics.specs.Directives.Clauses.{doacross_of as ordered_loops}
use Rattle.law_commute.proofs.Values.{first_of, second_of}
use Rattle.pragma_named.specs.Known.{Lines}
use Rattle.pragma_region.specs.Regions.{is_doacross_line}
use Rattle.flow.specs.Private.{nest_body_of}
use Rattle.nest_lines.specs.Lines.{line_before}
use Rattle.flow_doacross.specs.Lines.{Elements}
use Rattle.flow_doacross.specs.Bodies.{loop_names, in_order, distance_of, is_sink_of, cut_front, ends_in_source}
use Rattle.flow_doacross.specs.Nests.{is_doacross_nest, nest_by, nest_behind, nests_in, nests_among, doacross_rightly}
use Rattle.flow_doacross.specs.Listed.{is_near, near, distances_in, NestPart, parts_by, parts_behind, parts_in, parts_among, nest_at, doacross_of}
use Rattle.flow_doacross.proofs.NestIs.{nest_is}

both_true : {a b : Bool} → a ≡ true → b ≡ true → (a && b) ≡ true
both_true {a} {b} p q = ap (λ x. x && b) p ∙ q

-- ---- the sinks of a body

module _ (d : ℕ) (names : List (List ℕ)) where
  near_ahead : (sinks : List Elements) → list_all (is_sink_of d names) sinks ≡ true → list_all is_ahead (near (map distance_of sinks)) ≡ true
  near_ahead [] h = refl
  near_ahead (es ∷ sinks) h =
      by (list_all is_near (distance_of es)) (second_of ((length es == d) && in_order names es) (is_ahead (distance_of es)) (first_of (is_sink_of d names es) (list_all (is_sink_of d names) sinks) h))
      (near_ahead sinks (second_of (is_sink_of d names es) (list_all (is_sink_of d names) sinks) h))
    where
      by : (b : Bool) → is_ahead (distance_of es) ≡ true → list_all is_ahead (near (map distance_of sinks)) ≡ true → list_all is_ahead (cond b (distance_of es ∷ near (map distance_of sinks)) (near (map distance_of sinks))) ≡ true
      by true here rest = both_true here rest
      by false here rest = rest

-- ---- those of a kernel

module _ (text : List ℕ) (lines : Lines) where
  -- the clauses of a line have `ordered(d)`, and each of these sinks lies ahead
  abbrev right : ℕ → List Distance → Bool
  right n ds = is_some (ordered_loops (lines n)) && list_all is_ahead ds

  abbrev part_right : NestPart → Bool
  part_right p = right p.line p.distances

  abbrev all_right : List NestPart → Bool
  all_right ps = list_all part_right ps

  joined_right : (xs ys : List NestPart) → all_right xs ≡ true → all_right ys ≡ true → all_right (xs ++ ys) ≡ true
  joined_right xs ys p q = list_all-append part_right xs ys ∙ both_true p q

  nest_right : (n d : ℕ) (s : Stmt) (inside : List NestPart) → ordered_loops (lines n) ≡ Some d → is_doacross_nest text n d (lines n) s ≡ true → all_right (parts_by text n (Some d) s inside) ≡ true
  nest_right n d s inside e h =
      let found = nest_is text n d (lines n) s h in
      let cut = cut_front text found.items in
      let some = nat_le 1 (length cut.sinks) in
      let each = list_all (is_sink_of d (loop_names s)) cut.sinks in
      let sinks = second_of some each (first_of (some && each) (ends_in_source text cut.rest) found.ordered) in
      let told : distances_in text (nest_body_of d s) ≡ near (map distance_of cut.sinks) = ap (λ o. distances_in text (option_map (λ nest. nest.1) o)) found.nest in
      both_true (both_true (ap is_some e) (ap (list_all is_ahead) told ∙ near_ahead d (loop_names s) cut.sinks sinks)) refl

  behind_right : (before : Option ℕ) (s : Stmt) → nest_behind text lines before s (nests_in text lines s) ≡ true → (nests_in text lines s ≡ true → all_right (parts_in text lines s) ≡ true)
      → all_right (parts_behind text lines before s (parts_in text lines s)) ≡ true
  behind_right None s h inside = inside h
  behind_right (Some n) s h inside = by (ordered_loops (lines n)) refl h
    where
      by : (o : Option ℕ) → ordered_loops (lines n) ≡ o → nest_by text n o (lines n) s (nests_in text lines s) ≡ true → all_right (parts_by text n o s (parts_in text lines s)) ≡ true
      by None e g = inside g
      by (Some d) e g = nest_right n d s (parts_in text lines s) e g

  mutual
    right_in : (s : Stmt) → nests_in text lines s ≡ true → all_right (parts_in text lines s) ≡ true
    right_in (Assign x is e) h = refl
    right_in (Update x is op e) h = refl
    right_in (If c a) h = right_in a h
    right_in (IfElse c a b) h =
        joined_right (parts_in text lines a) (parts_in text lines b) (right_in a (first_of (nests_in text lines a) (nests_in text lines b) h)) (right_in b (second_of (nests_in text lines a) (nests_in text lines b) h))
    right_in (For x name start test step body) h = right_in body h
    right_in (Block items) h = right_among None items h
    right_in (Print parts) h = refl

    right_among : (before : Option ℕ) (items : Items) → nests_among text lines before items ≡ true → all_right (parts_among text lines before items) ≡ true
    right_among before no_items h = refl
    right_among before (mark n rest) h =
        right_among (line_before text before n) rest (second_of (not (is_doacross_line text n)) (nests_among text lines (line_before text before n) rest) h)
    right_among before (local x name start rest) h = right_among None rest h
    right_among before (stmt s rest) h =
        let mine = nest_behind text lines before s (nests_in text lines s) in
        let others = nests_among text lines None rest in
        joined_right (parts_behind text lines before s (parts_in text lines s)) (parts_among text lines None rest) (behind_right before s (first_of mine others h) (right_in s)) (right_among None rest (second_of mine others h))

  -- what is told of a line is right, where all is
  first_right : (ps : List NestPart) (n : ℕ) (sinks : List Distance) → all_right ps ≡ true → nest_at ps n ≡ Some sinks → right n sinks ≡ true
  first_right [] n sinks h e = absurd (none-some sinks e)
  first_right (p ∷ ps) n sinks h e = by (p.line == n) refl e (first_right ps n sinks (second_of (part_right p) (all_right ps) h))
    where
      by : (b : Bool) → (p.line == n) ≡ b → (if b then Some p.distances else nest_at ps n) ≡ Some sinks → (nest_at ps n ≡ Some sinks → right n sinks ≡ true) → right n sinks ≡ true
      by true f g later =
          ap (λ m. right m sinks) (sym (eqb-true p.line n f)) ∙ ap (right p.line) (sym (same_Some p.distances sinks g)) ∙ first_of (part_right p) (all_right ps) h
      by false f g later = later g

-- ---- what is told of a line

pub record IsTold (lines : Lines) (n : ℕ) (sinks : List Distance) : Type 0 where
  pub loops : ℕ
  pub ordered : ordered_loops (lines n) ≡ Some loops
  pub ahead : list_all is_ahead sinks ≡ true

one_told : (lines : Lines) (n : ℕ) (sinks : List Distance) → (is_some (ordered_loops (lines n)) && list_all is_ahead sinks) ≡ true → IsTold lines n sinks
one_told lines n sinks h = by (ordered_loops (lines n)) refl (first_of (is_some (ordered_loops (lines n))) (list_all is_ahead sinks) h)
  where
    by : (o : Option ℕ) → ordered_loops (lines n) ≡ o → is_some o ≡ true → IsTold lines n sinks
    by None e g = absurd (cc g)
    by (Some d) e g = record { loops = d; ordered = e; ahead = second_of (is_some (ordered_loops (lines n))) (list_all is_ahead sinks) h }

pub are_told : (text : List ℕ) (lines : Lines) (k : Kernel) → doacross_rightly text lines k ≡ true → (n : ℕ) (sinks : List Distance) → nest_at (doacross_of text lines k) n ≡ Some sinks → IsTold lines n sinks
are_told text lines k h n sinks e = one_told lines n sinks (first_right text lines (doacross_of text lines k) n sinks (right_among text lines None k.body h) e)
