-- What a body in two phases has of its first.
use Rattle.std.specs.Prelude.{Bool, true, false, ◌≡◌, ◌==◌, ◌&&◌, List, [], ◌∷◌, ◌++◌, Option, Some, None, IsSome, option_and_then}
use Rattle.std.proofs.Common.{refl, sym, ap, ◌∙◌}
use Rattle.std.proofs.lemmas.Bool.{true≢false, and_from, eq-eqb, or_left, or_right}
use Rattle.std.proofs.lemmas.List.{append_assoc, append-nil}
use Rattle.semantics.specs.Tree.{Variable, Literal, Bare, NotZero, Stmt, If, Block, Items, no_items, mark, local, stmt}
use Rattle.semantics.specs.Meaning.State.{State, overwritten}
use Rattle.semantics.specs.Meaning.Value.{map_option}
use Rattle.semantics.specs.Meaning.Runs.{Effect, nothing, joined, then_from, declared, run, run_items}
use Rattle.semantics.specs.Meaning.Definite.{Privates, DefinitelyAssigned, known_with, without, declared_known, after_both, definite, definite_items}
use Rattle.semantics.specs.Meaning.Agrees.{also, is_among, declared_in, declared_among, names_only, names_items, names_start}
use Rattle.semantics.specs.Loops.Access.{accesses, items_accesses, start_accesses}
use Rattle.law_commute.specs.Steady.{IsSteady, AreSteady}
use Rattle.law_commute.proofs.Matched.{overwritten-append}
use Rattle.law_commute.proofs.Values.{first_of, second_of}
use Rattle.law_private.proofs.Own.{declaring}
use Rattle.law_scans.specs.Phases.{joined_items}

-- ---- runs

then_same : (s : State) (o : Option Effect) (f g : State → Option Effect) → ((t : State) → f t ≡ g t) → then_from s o f ≡ then_from s o g
then_same s None f g h = refl
then_same s (Some e) f g h = ap (map_option (joined e)) (h (overwritten s e.writes))

then_grouped : (s : State) (o : Option Effect) (f g : State → Option Effect) → then_from s o (λ t. then_from t (f t) g) ≡ then_from s (then_from s o f) g
then_grouped s None f g = refl
then_grouped s (Some e) f g = at (f (overwritten s e.writes))
  where
    at : (o : Option Effect) → map_option (joined e) (then_from (overwritten s e.writes) o g) ≡ then_from s (map_option (joined e) o) g
    at None = refl
    at (Some d) = end (g (overwritten (overwritten s e.writes) d.writes)) ∙ ap (λ t. map_option (joined (joined e d)) (g t)) (sym (overwritten-append s e.writes d.writes))
      where
        end : (o : Option Effect) → map_option (joined e) (map_option (joined d) o) ≡ map_option (joined (joined e d)) o
        end None = refl
        end (Some c) = λ i. Some (record { writes = sym (append_assoc e.writes d.writes c.writes) i; text = sym (append_assoc e.text d.text c.text) i })

pub runs_joined : (front back : Items) (s : State) → run_items (joined_items front back) s ≡ then_from s (run_items front s) (run_items back)
runs_joined no_items back s = at (run_items back s)
  where
    at : (o : Option Effect) → o ≡ map_option (joined nothing) o
    at None = refl
    at (Some e) = refl
runs_joined (mark line rest) back s = runs_joined rest back s
runs_joined (local x name start rest) back s =
    then_same s (declared s x start) (run_items (joined_items rest back)) (λ t. then_from t (run_items rest t) (run_items back)) (λ t. runs_joined rest back t)
    ∙ then_grouped s (declared s x start) (run_items rest) (run_items back)
runs_joined (stmt a rest) back s =
    then_same s (run a s) (run_items (joined_items rest back)) (λ t. then_from t (run_items rest t) (run_items back)) (λ t. runs_joined rest back t)
    ∙ then_grouped s (run a s) (run_items rest) (run_items back)

-- ---- what stands in it

pub declared_joined : (front back : Items) → declared_among (joined_items front back) ≡ declared_among front ++ declared_among back
declared_joined no_items back = refl
declared_joined (mark line rest) back = declared_joined rest back
declared_joined (local x name start rest) back = ap (λ ds. x ∷ ds) (declared_joined rest back)
declared_joined (stmt a rest) back = ap (λ ds. declared_in a ++ ds) (declared_joined rest back) ∙ sym (append_assoc (declared_in a) (declared_among rest) (declared_among back))

pub accesses_joined : (front back : Items) → items_accesses [] (joined_items front back) ≡ items_accesses [] front ++ items_accesses [] back
accesses_joined no_items back = refl
accesses_joined (mark line rest) back = accesses_joined rest back
accesses_joined (local x name start rest) back =
    ap (λ ds. start_accesses [] start ++ ds) (accesses_joined rest back) ∙ sym (append_assoc (start_accesses [] start) (items_accesses [] rest) (items_accesses [] back))
accesses_joined (stmt a rest) back = ap (λ ds. accesses [] a ++ ds) (accesses_joined rest back) ∙ sym (append_assoc (accesses [] a) (items_accesses [] rest) (items_accesses [] back))

pub names_front : (front back : Items) (V : Variable → Bool) → names_items V (joined_items front back) ≡ true → names_items V front ≡ true
names_front no_items back V h = refl
names_front (mark line rest) back V h = names_front rest back V h
names_front (local x name start rest) back V h =
    and_from (names_start V start) (names_items (also V x) rest) (first_of (names_start V start) (names_items (also V x) (joined_items rest back)) h)
    (names_front rest back (also V x) (second_of (names_start V start) (names_items (also V x) (joined_items rest back)) h))
names_front (stmt a rest) back V h =
    and_from (names_only V a) (names_items V rest) (first_of (names_only V a) (names_items V (joined_items rest back)) h) (names_front rest back V (second_of (names_only V a) (names_items V (joined_items rest back)) h))

pub steady_front : (front back : Items) (F : Variable → Bool) → AreSteady F (joined_items front back) → AreSteady F front
steady_front no_items back F h = tt
steady_front (mark line rest) back F h = steady_front rest back F h
steady_front (local x name start rest) back F h = (h.0, h.1, steady_front rest back F h.2)
steady_front (stmt a rest) back F h = (h.0, steady_front rest back F h.1)

pub steady_back : (front back : Items) (F : Variable → Bool) → AreSteady F (joined_items front back) → AreSteady F back
steady_back no_items back F h = h
steady_back (mark line rest) back F h = steady_back rest back F h
steady_back (local x name start rest) back F h = steady_back rest back F h.2
steady_back (stmt a rest) back F h = steady_back rest back F h.1

pub definite_front : (P : Privates) (pending : List Variable) (front back : Items) (k : DefinitelyAssigned) → IsSome (definite_items P pending (joined_items front back) k) → IsSome (definite_items P pending front k)
definite_front P pending no_items back k h = refl
definite_front P pending (mark line rest) back k h = definite_front P (P line) rest back k h
definite_front P pending (local x name start rest) back k h = at (declared_known k x start) (λ j i. definite_front P [] rest back j i) h
  where
    at : (o : Option DefinitelyAssigned) → ((j : DefinitelyAssigned) → IsSome (definite_items P [] (joined_items rest back) j) → IsSome (definite_items P [] rest j))
        → IsSome (option_and_then (definite_items P [] (joined_items rest back)) o) → IsSome (option_and_then (definite_items P [] rest) o)
    at None m h = h
    at (Some j) m h = m j h
definite_front P pending (stmt a rest) back k h = at (definite P a k) (λ j i. definite_front P [] rest back j i) h
  where
    at : (o : Option DefinitelyAssigned) → ((j : DefinitelyAssigned) → IsSome (definite_items P [] (joined_items rest back) j) → IsSome (definite_items P [] rest j))
        → IsSome (option_and_then (λ after. definite_items P [] (joined_items rest back) (without after pending)) o) → IsSome (option_and_then (λ after. definite_items P [] rest (without after pending)) o)
    at None m h = h
    at (Some j) m h = m (without j pending) h

-- ---- a statement behind which these stand, declared where nothing runs

abbrev pub spare : List Variable → Stmt
spare zs = If (NotZero (Literal 0 Bare)) (Block (declaring zs no_items))

abbrev pub beside : Stmt → List Variable → Stmt
beside a zs = Block (stmt a (stmt (spare zs) no_items))

pub beside_runs : (a : Stmt) (zs : List Variable) (s : State) → run (beside a zs) s ≡ run a s
beside_runs a zs s = at (run a s)
  where
    at : (o : Option Effect) → then_from s o (run_items (stmt (spare zs) no_items)) ≡ o
    at None = refl
    at (Some e) = λ i. Some (record { writes = append-nil e.writes i; text = append-nil e.text i })

declaring_declares : (zs : List Variable) → declared_among (declaring zs no_items) ≡ zs
declaring_declares [] = refl
declaring_declares (z ∷ zs) = ap (λ ds. z ∷ ds) (declaring_declares zs)

pub beside_declares : (a : Stmt) (zs : List Variable) → declared_in (beside a zs) ≡ declared_in a ++ zs
beside_declares a zs = ap (λ ds. declared_in a ++ ds) (append-nil (declared_among (declaring zs no_items)) ∙ declaring_declares zs)

declaring_names : (zs : List Variable) (V : Variable → Bool) → names_items V (declaring zs no_items) ≡ true
declaring_names [] V = refl
declaring_names (z ∷ zs) V = declaring_names zs (also V z)

pub beside_names : (a : Stmt) (zs : List Variable) (V : Variable → Bool) → names_only V a ≡ true → names_only V (beside a zs) ≡ true
beside_names a zs V h = and_from (names_only V a) (names_items V (declaring zs no_items) && true) h (and_from (names_items V (declaring zs no_items)) true (declaring_names zs V) refl)

declaring_accesses : (zs : List Variable) → items_accesses [] (declaring zs no_items) ≡ []
declaring_accesses [] = refl
declaring_accesses (z ∷ zs) = declaring_accesses zs

pub beside_accesses : (a : Stmt) (zs : List Variable) → accesses [] (beside a zs) ≡ accesses [] a
beside_accesses a zs = ap (λ ds. accesses [] a ++ (ds ++ [])) (declaring_accesses zs) ∙ append-nil (accesses [] a)

declaring_known : (P : Privates) (zs : List Variable) (k : DefinitelyAssigned) → IsSome (definite_items P [] (declaring zs no_items) k)
declaring_known P [] k = refl
declaring_known P (z ∷ zs) k = declaring_known P zs (known_with k z false)

pub beside_known : (P : Privates) (a : Stmt) (zs : List Variable) (k : DefinitelyAssigned) → IsSome (definite P a k) → IsSome (definite P (beside a zs) k)
beside_known P a zs k h = at (definite P a k) h
  where
    end : (o : Option DefinitelyAssigned) (j : DefinitelyAssigned) → IsSome o → IsSome (option_and_then (λ after. Some after) (after_both o (Some j)))
    end None j h = absurd (true≢false (sym h))
    end (Some i) j h = refl

    at : (o : Option DefinitelyAssigned) → IsSome o → IsSome (option_and_then (λ after. definite_items P [] (stmt (spare zs) no_items) after) o)
    at None h = h
    at (Some j) h = end (definite_items P [] (declaring zs no_items) j) j (declaring_known P zs j)

declaring_steady : (zs : List Variable) (F : Variable → Bool) → ((z : Variable) → is_among zs z ≡ true → F z ≡ false) → AreSteady F (declaring zs no_items)
declaring_steady [] F h = tt
declaring_steady (z ∷ zs) F h = (h z (or_left (z == z) (is_among zs z) (eq-eqb z z refl)), tt, declaring_steady zs F (λ y k. h y (or_right (z == y) (is_among zs y) k)))

pub beside_steady : (a : Stmt) (zs : List Variable) (F : Variable → Bool) → ((z : Variable) → is_among zs z ≡ true → F z ≡ false) → IsSteady F a → IsSteady F (beside a zs)
beside_steady a zs F h s = (s, ((tt, declaring_steady zs F h), tt))
