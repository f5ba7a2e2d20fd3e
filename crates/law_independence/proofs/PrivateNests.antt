-- A nest whose body keeps to its own scalars and its private ones does so itself, and assigns first what the nest assigns first.
use Rattle.std.specs.Prelude.{ℕ, zero, suc, Bool, true, false, ◌≡◌, ◌==◌, ◌&&◌, ◌||◌, not, List, [], ◌++◌, Some, IsSome, is_some}
use Rattle.std.proofs.Common.{refl, sym, ap, ◌∙◌, subst, cond}
use Rattle.std.proofs.lemmas.Bool.{or_left, or_right, not_from_true, true≢false}
use Rattle.std.proofs.lemmas.Option.{same_Some, none-some}
use Rattle.semantics.specs.Tree.{Variable, Exprs, no_exprs, more_exprs, Stmt, Assign, Update, If, IfElse, For, Block, Print, Items, no_items, mark, local, stmt}
use Rattle.semantics.specs.Meaning.Agrees.{is_among, declared_in, visible_behind}
use Rattle.semantics.specs.Meaning.Definite.{DefinitelyAssigned, known_with, without, no_privates, definite, definite_items}
use Rattle.semantics.specs.Loops.Nest.{Loop, as_loop, nest_of}
use Rattle.flow.specs.Private.{is_own, keeps, keeps_all, is_private_body}
use Rattle.flow.proofs.PrivateLemmas.{among_both}
use Rattle.law_runs.proofs.Assigning.{swapped}
use Rattle.law_runs.proofs.Points.{and_then}
use Rattle.law_runs.proofs.Nested.{some_there}
use Rattle.law_runs.proofs.Growing.{loop_known_is}
use Rattle.law_commute.specs.Targets.{targets_outside, AssignsFirst}
use Rattle.law_commute.proofs.Values.{first_of, second_of}
use Rattle.law_nests.proofs.Joined.{first_loop, nest_declares}
use Rattle.law_private.specs.Known.{IsWithin}
use Rattle.law_private.proofs.More.{more_known}
use Rattle.law_independence.proofs.Targeted.{in_either, own_target, outside_visible, outside_target, loop_visible}

both_true : (a b : Bool) → a ≡ true → b ≡ true → (a && b) ≡ true
both_true true b e f = f
both_true false b e f = e

module _ (own more : Variable → Bool) (wider : (x : Variable) → own x ≡ true → more x ≡ true) where
  own_more : (x : Variable) (is : Exprs) → is_own own x is ≡ true → is_own more x is ≡ true
  own_more x no_exprs h = wider x h
  own_more x (more_exprs i is) h = refl

  mutual
    keeps_more : (s : Stmt) → keeps own s ≡ true → keeps more s ≡ true
    keeps_more (Assign x is e) h = own_more x is h
    keeps_more (Update x is op e) h = own_more x is h
    keeps_more (If c a) h = keeps_more a h
    keeps_more (IfElse c a b) h =
        both_true (keeps more a) (keeps more b) (keeps_more a (first_of (keeps own a) (keeps own b) h)) (keeps_more b (second_of (keeps own a) (keeps own b) h))
    keeps_more (For x name start test step body) h = keeps_more body h
    keeps_more (Block items) h = all_keep_more items h
    keeps_more (Print parts) h = h

    all_keep_more : (items : Items) → keeps_all own items ≡ true → keeps_all more items ≡ true
    all_keep_more no_items h = refl
    all_keep_more (mark line rest) h = all_keep_more rest h
    all_keep_more (local x name start rest) h = all_keep_more rest h
    all_keep_more (stmt s rest) h =
        both_true (keeps more s) (keeps_all more rest) (keeps_more s (first_of (keeps own s) (keeps_all own rest) h)) (all_keep_more rest (second_of (keeps own s) (keeps_all own rest) h))

loop_keeps : (own : Variable → Bool) (s : Stmt) (l : Loop) (b : Stmt) → as_loop s ≡ Some (l, b) → keeps own b ≡ true → keeps own s ≡ true
loop_keeps own (For x name start test step inner) l b h k =
    ap (keeps own) (ap (λ (p : Loop × Stmt). p.1) (same_Some (record { variable = x; start = start; test = test; step = step }, inner) (l, b) h)) ∙ k
loop_keeps own (Block (stmt a no_items)) l b h k = both_true (keeps own a) true (loop_keeps own a l b h k) refl
loop_keeps own _ l b h k = absurd (none-some (l, b) h)

nest_keeps : (own : Variable → Bool) (n : ℕ) (s : Stmt) (loops : List Loop) (body : Stmt) → nest_of n s ≡ Some (loops, body) → keeps own body ≡ true → keeps own s ≡ true
nest_keeps own zero s loops body h k = ap (keeps own) (ap (λ (p : List Loop × Stmt). p.1) (same_Some ([], s) (loops, body) h)) ∙ k
nest_keeps own (suc n) s loops body h k =
    let first = first_loop n s loops body h in
    loop_keeps own s first.loop first.inside first.is (nest_keeps own n first.inside first.loops body first.rest k)

pub private_nest : (ps : List Variable) (n : ℕ) (s : Stmt) (loops : List Loop) (body : Stmt) → nest_of n s ≡ Some (loops, body) → is_private_body ps body ≡ true → is_private_body ps s ≡ true
private_nest ps n s loops body h k = nest_keeps (is_among (declared_in s ++ ps)) n s loops body h (keeps_more (is_among (declared_in body ++ ps)) (is_among (declared_in s ++ ps)) wider body k)
  where
    wider : (x : Variable) → is_among (declared_in body ++ ps) x ≡ true → is_among (declared_in s ++ ps) x ≡ true
    wider x q =
        among_both (declared_in s) ps x
        ∙ in_either x (declared_in body) ps q (λ d. or_left (is_among (declared_in s) x) (is_among ps x) (nest_declares n s loops body h x d)) (λ p. or_right (is_among (declared_in s) x) (is_among ps x) p)

-- what it assigns of the scalars from outside are private ones
pub private_target : (ps : List Variable) (a : Stmt) → is_private_body ps a ≡ true → (x : Variable) → is_among (targets_outside a) x ≡ true → is_among ps x ≡ true
private_target ps a h x t =
    in_either x (declared_in a) ps (own_target (is_among (declared_in a ++ ps)) x a h (outside_target a x t))
    (λ d. absurd (true≢false (sym (outside_visible a x t) ∙ not_from_true (is_among (declared_in a) x) d))) (λ p. p)

-- ---- what is assigned first

-- a statement is entered with something known, from which it reads nothing that is not; of what is visible round it that was known before
record IsEntered (s a : Stmt) (k : DefinitelyAssigned) : Type 0 where
  known : DefinitelyAssigned
  there : IsSome (definite no_privates a known)
  from : (x : Variable) → visible_behind s x ≡ true → known x ≡ true → k x ≡ true

loop_entered : (s : Stmt) (l : Loop) (b : Stmt) (k : DefinitelyAssigned) → as_loop s ≡ Some (l, b) → IsSome (definite no_privates s k) → IsSome (definite no_privates b (known_with k l.variable true))
loop_entered (For x name start test step inner) l b k h d =
    let there = some_there (definite no_privates (For x name start test step inner) k) d in
    subst (λ (p : Loop × Stmt). IsSome (definite no_privates p.1 (known_with k p.0.variable true))) (same_Some (record { variable = x; start = start; test = test; step = step }, inner) (l, b) h)
    (ap is_some (loop_known_is x name start test step inner k there.0 there.1).inside)
loop_entered (Block (stmt a no_items)) l b k h d =
    let there = some_there (definite no_privates (Block (stmt a no_items)) k) d in
    loop_entered a l b k h (ap is_some (and_then (λ after. definite_items no_privates [] no_items (without after [])) (definite no_privates a k) there.0 there.1).1)
loop_entered _ l b k h d = absurd (none-some (l, b) h)

nest_entered : (n : ℕ) (s : Stmt) (loops : List Loop) (body : Stmt) (k : DefinitelyAssigned) → nest_of n s ≡ Some (loops, body) → IsSome (definite no_privates s k) → IsEntered s body k
nest_entered zero s loops body k h d =
    subst (λ b. IsEntered s b k) (ap (λ (p : List Loop × Stmt). p.1) (same_Some ([], s) (loops, body) h)) (record { known = k; there = d; from = λ x v q. q })
nest_entered (suc n) s loops body k h d =
    let first = first_loop n s loops body h in
    let rest = nest_entered n first.inside first.loops body (known_with k first.loop.variable true) first.rest (loop_entered s first.loop first.inside k first.is d) in
    record { known = rest.known; there = rest.there; from = λ x v q. at first.loop first.inside x (first.loop.variable == x) refl (sym (loop_visible s first.loop first.inside first.is x) ∙ v) (λ w. rest.from x w q) }
  where
    at : (l : Loop) (b : Stmt) (x : Variable) (c : Bool) → (l.variable == x) ≡ c → not (c || is_among (declared_in b) x) ≡ true → (visible_behind b x ≡ true → known_with k l.variable true x ≡ true) → k x ≡ true
    at l b x true e v goes = absurd (cc v)
    at l b x false e v goes = sym (ap (λ c. cond c true (k x)) (swapped l.variable x e)) ∙ goes v

-- so of these scalars, where none of them is among the others
more_first : (a : Stmt) (xs : List Variable) (k : DefinitelyAssigned) → IsSome (definite no_privates a k) → ((x : Variable) → is_among xs x ≡ true → k x ≡ false) → AssignsFirst xs a
more_first a xs k d none =
    let there = some_there (definite no_privates a k) d in
    ap is_some (more_known.statements no_privates no_privates a k there.0 (λ x. not (is_among xs x)) (λ line x h. h) within there.1).is
  where
    within : IsWithin k (λ x. not (is_among xs x))
    within x h = at (is_among xs x) refl
      where
        at : (b : Bool) → is_among xs x ≡ b → not b ≡ true
        at true e = absurd (true≢false (sym h ∙ none x e))
        at false e = refl

-- so a nest and its body assign first of these what the nest does, of what the nest assigns
pub nest_first : (ps xs : List Variable) (s : Stmt) → ((x : Variable) → is_among xs x ≡ true → is_among ps x ≡ true) → IsSome (definite no_privates s (λ x. not (is_among ps x))) → AssignsFirst xs s
nest_first ps xs s among d = more_first s xs (λ x. not (is_among ps x)) d (λ x t. not_from_true (is_among ps x) (among x t))

pub body_first : (ps xs : List Variable) (n : ℕ) (s : Stmt) (loops : List Loop) (body : Stmt) → nest_of n s ≡ Some (loops, body) → ((x : Variable) → is_among xs x ≡ true → (is_among ps x ≡ true) × (visible_behind s x ≡ true))
    → IsSome (definite no_privates s (λ x. not (is_among ps x))) → AssignsFirst xs body
body_first ps xs n s loops body is among d =
    let inside = nest_entered n s loops body (λ x. not (is_among ps x)) is d in
    more_first body xs inside.known inside.there (λ x t. at inside x t (inside.known x) refl)
  where
    at : (inside : IsEntered s body (λ x. not (is_among ps x))) (x : Variable) → is_among xs x ≡ true → (b : Bool) → inside.known x ≡ b → inside.known x ≡ false
    at inside x t true e = let told = among x t in absurd (true≢false (sym (inside.from x told.1 e) ∙ not_from_true (is_among ps x) told.0))
    at inside x t false e = e
