-- Chunks of a nest's iterations, each run from the state before the nest, joined in any order.
use Rattle.std.specs.Prelude.{ℕ, zero, suc, Bool, true, false, ◌≡◌, ◌==◌, ◌&&◌, ◌||◌, not, List, [], ◌∷◌, Option, Some, None, option_and_then}
use Rattle.std.proofs.Common.{refl, sym, ap, ◌∙◌}
use Rattle.std.proofs.lemmas.List.{append-nil}
use Rattle.std.proofs.lemmas.Option.{same_Some, none-some}
use Rattle.semantics.specs.Tree.{Variable, Stmt, For, Block, no_items, stmt}
use Rattle.semantics.specs.Meaning.State.{State, overwritten}
use Rattle.semantics.specs.Meaning.Value.{map_option}
use Rattle.semantics.specs.Meaning.Agrees.{AgreesBehind, declared_in, is_among, visible_behind}
use Rattle.semantics.specs.Loops.Nest.{Loop, as_loop, nest_of}
use Rattle.semantics.specs.Loops.Piece.{no_roles}
use Rattle.law_commute.specs.Joining.{DeclaresLocals}
use Rattle.law_commute.proofs.Framed.{true_not_false}
use Rattle.law_commute.proofs.Values.{first_of}
use Rattle.law_commute.proofs.Joining.{independent_join}
use Rattle.law_nests.specs.Nests.{IndependentNestsJoin}
use Rattle.law_nests.proofs.Nested.{nests_run}

-- what the statement inside a loop declares, the loop declares
abbrev DeclaresMore : Stmt → Stmt → Type 0
DeclaresMore s b = (y : Variable) → is_among (declared_in b) y ≡ true → is_among (declared_in s) y ≡ true

pub visible_more : (s b : Stmt) → DeclaresMore s b → (y : Variable) → visible_behind s y ≡ true → visible_behind b y ≡ true
visible_more s b more y h = at (is_among (declared_in b) y) refl
  where
    at : (c : Bool) → is_among (declared_in b) y ≡ c → not (is_among (declared_in b) y) ≡ true
    at true e = absurd (true_not_false (visible_behind s y) h (ap not (more y e)))
    at false e = ap not e

loop_declares : (s : Stmt) (l : Loop) (b : Stmt) → as_loop s ≡ Some (l, b) → DeclaresMore s b
loop_declares (For x name start test step inner) l b h y k =
    or_right (x == y) (is_among (declared_in inner) y) (ap (λ (c : Stmt). is_among (declared_in c) y) (ap (λ (p : Loop × Stmt). p.1) (same_Some (record { variable = x; start = start; test = test; step = step }, inner) (l, b) h)) ∙ k)
  where
    or_right : (a c : Bool) → c ≡ true → (a || c) ≡ true
    or_right true c e = refl
    or_right false c e = e
loop_declares (Block (stmt a no_items)) l b h y k =
    ap (λ (ds : List Variable). is_among ds y) (append-nil (declared_in a)) ∙ loop_declares a l b h y k
loop_declares _ l b h y k = absurd (none-some (l, b) h)

-- what is known of a nest's first loop
pub record IsFirst (n : ℕ) (s : Stmt) (all : List Loop) (body : Stmt) : Type 0 where
  pub loop : Loop
  pub inside : Stmt
  pub loops : List Loop
  pub is : as_loop s ≡ Some (loop, inside)
  pub rest : nest_of n inside ≡ Some (loops, body)
  pub all_are : loop ∷ loops ≡ all

pub first_loop : (n : ℕ) (s : Stmt) (loops : List Loop) (body : Stmt) → nest_of (suc n) s ≡ Some (loops, body) → IsFirst n s loops body
first_loop n s loops body h = at (as_loop s) refl h
  where
    inner : (l : Loop) (b : Stmt) → as_loop s ≡ Some (l, b) → (o : Option (List Loop × Stmt)) → nest_of n b ≡ o → map_option {B = List Loop × Stmt} (λ (found : List Loop × Stmt). (l ∷ found.0, found.1)) o ≡ Some (loops, body) → IsFirst n s loops body
    inner l b e None k j = absurd (none-some (loops, body) j)
    inner l b e (Some p) k j =
        let same : (l ∷ p.0, p.1) ≡ (loops, body) = same_Some (l ∷ p.0, p.1) (loops, body) j in
        record { loop = l; inside = b; loops = p.0; is = e; rest = k ∙ ap (λ z. Some (p.0, z)) (ap (λ (q : List Loop × Stmt). q.1) same); all_are = ap (λ (q : List Loop × Stmt). q.0) same }

    at : (o : Option (Loop × Stmt)) → as_loop s ≡ o
        → option_and_then (λ found. map_option {B = List Loop × Stmt} (λ inner. (found.0 ∷ inner.0, inner.1)) (nest_of n found.1)) o ≡ Some (loops, body) → IsFirst n s loops body
    at None e k = absurd (none-some (loops, body) k)
    at (Some p) e k = inner p.0 p.1 e (nest_of n p.1) refl k

pub nest_declares : (n : ℕ) (s : Stmt) (loops : List Loop) (body : Stmt) → nest_of n s ≡ Some (loops, body) → DeclaresMore s body
nest_declares zero s loops body h y k = ap (λ (c : Stmt). is_among (declared_in c) y) (ap (λ (p : List Loop × Stmt). p.1) (same_Some ([], s) (loops, body) h)) ∙ k
nest_declares (suc n) s loops body h y k =
    let first = first_loop n s loops body h in
    loop_declares s first.loop first.inside first.is y (nest_declares n first.inside first.loops body first.rest y k)

agrees_join : (s body : Stmt) (a b c : State) → DeclaresMore s body → AgreesBehind s no_roles a b → AgreesBehind body no_roles b c → AgreesBehind s no_roles a c
agrees_join s body a b c more one two = record {
  cells = λ y is. one.cells y is ∙ two.cells y is;
  kinds = λ y h. one.kinds y h ∙ two.kinds y (visible_more s body more y h);
  values = λ y h.
      one.values y h
      ∙ two.values y (and_true (visible_behind body y) (visible_more s body more y (first_of (visible_behind s y) true h)));
}
  where
    and_true : (b : Bool) → b ≡ true → (b && true) ≡ true
    and_true true e = refl
    and_true false e = e

-- what a nest's body declares, the nest declares
pub hidden : (n : ℕ) (s : Stmt) (loops : List Loop) (body : Stmt) → nest_of n s ≡ Some (loops, body) → (x : Variable) → visible_behind body x ≡ false → visible_behind s x ≡ false
hidden n s loops body is x h = at (visible_behind s x) refl
  where
    at : (c : Bool) → visible_behind s x ≡ c → visible_behind s x ≡ false
    at true k = absurd (true_not_false (visible_behind body x) (visible_more s body (nest_declares n s loops body is) x k) h)
    at false k = k

pub nests_join : IndependentNestsJoin
nests_join n s loops body outer us chunks e is keeps body_keeps locals_alone are different turning independent whole ran =
    let more = nest_declares n s loops body is in
    let went = nests_run n s loops body outer us e is keeps locals_alone are turning ran in
    let body_locals : DeclaresLocals body outer = λ x h. locals_alone x (hidden n s loops body is x h) in
    let joined = independent_join loops body outer us chunks went.effect body_keeps different turning independent body_locals whole went.run in
    record {
      pieces = joined.pieces;
      each = joined.each;
      leave = λ order once. agrees_join s body (overwritten outer e.writes) (overwritten outer went.effect.writes) _ more went.leave (joined.leave order once);
      text = joined.text ∙ sym went.text;
    }
