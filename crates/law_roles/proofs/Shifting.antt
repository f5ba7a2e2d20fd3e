-- What the operands tell, by the partial that they make.
use Rattle.std.specs.Prelude.{ℕ, Bool, true, false, not, ◌≡◌, ◌==◌, ◌&&◌, List, [], ◌∷◌, Option, Some, None, IsSome, is_none}
use Rattle.std.proofs.Common.{refl, sym, ap, ◌∙◌, subst, cond}
use Rattle.std.proofs.lemmas.Bool.{true≢false, eqb-true, eq-eqb}
use Rattle.std.proofs.lemmas.Option.{none-some, same_Some}
use Rattle.semantics.specs.Tree.{Variable}
use Rattle.semantics.specs.Meaning.State.{State, Holds, Write, Declared, Assigned, with_local, overwritten}
use Rattle.semantics.specs.Meaning.Runs.{Effect, run}
use Rattle.semantics.specs.Loops.Operator.{ReduceOp, apply, identity, combined}
use Rattle.semantics.specs.Loops.OperatorLaw.{operators_are_lawful}
use Rattle.semantics.specs.Loops.Piece.{is_outside, with_identities}
use Rattle.law_commute.proofs.Values.{first_of, second_of}
use Rattle.law_roles.specs.Updates.{operator_of, is_plain, is_and_also, is_or_else, operands}
use Rattle.law_roles.specs.Reducing.{AgreesBut, AreLocal, joined_with, partial_of, AreShifted, IsTold, takes_all, IsShift, OperandsTell, OperandsRun, ReductionsShift}
use Rattle.law_roles.proofs.Seen.{apart_back}
use Rattle.law_roles.proofs.Shadow.{folded, TakesAll, Shadows, stmt_shadow}

-- ---- numbers assigned one after another, by their partial

joined_combined : (op : ReduceOp) (v : ℕ) (p : Option ℕ) (n : ℕ) → apply op (combined op v p) n ≡ combined op v (joined_with op p n)
joined_combined op v None n = refl
joined_combined op v (Some p) n = (operators_are_lawful op).associative v p n

folded_is : (op : ReduceOp) (x : Variable) (ws : List Write) (v : ℕ) (p : Option ℕ) → folded op x ws (combined op v p) ≡ combined op v (partial_of op x p ws)
folded_is op x [] v p = refl
folded_is op x (Declared y w ∷ ws) v p = folded_is op x ws v p
folded_is op x (Assigned y is n ∷ ws) v p = ap (folded op x ws) (at (y == x)) ∙ folded_is op x ws v (cond (y == x) (joined_with op p n) p)
  where
    at : (b : Bool) → cond b (apply op (combined op v p) n) (combined op v p) ≡ combined op v (cond b (joined_with op p n) p)
    at true = joined_combined op v p n
    at false = refl

pub folded_partial : (op : ReduceOp) (x : Variable) (ws : List Write) (v : ℕ) → folded op x ws v ≡ combined op v (partial_of op x None ws)
folded_partial op x ws v = folded_is op x ws v None

-- ---- operators that take all

not_either : (a b : Bool) → (not a && not b) ≡ true → (a ≡ false) × (b ≡ false)
not_either true b h = absurd (true≢false (sym h))
not_either false true h = absurd (true≢false (sym h))
not_either false false h = (refl, refl)

pub all_taken : (rs : List (Variable × ReduceOp)) → takes_all rs ≡ true → (x : Variable) (op : ReduceOp) → operator_of rs x ≡ Some op → TakesAll op
all_taken [] h x op is = absurd (none-some op is)
all_taken (r ∷ rs) h x op is =
    let mine = not_either (is_and_also r.1) (is_or_else r.1) (first_of (not (is_and_also r.1) && not (is_or_else r.1)) (takes_all rs) h) in
    at (r.0 == x) is (record { and_also = mine.0; or_else = mine.1 }) (λ k. all_taken rs (second_of (not (is_and_also r.1) && not (is_or_else r.1)) (takes_all rs) h) x op k)
  where
    at : (b : Bool) → cond b (Some r.1) (operator_of rs x) ≡ Some op → TakesAll r.1 → (operator_of rs x ≡ Some op → TakesAll op) → TakesAll op
    at true k mine rest = subst TakesAll (same_Some r.1 op k) mine
    at false k mine rest = rest k

-- ---- copies of the reduction variables

pub copies_cells : (rs : List (Variable × ReduceOp)) (s : State) (x : Variable) (is : List ℕ) → (with_identities rs s).cells x is ≡ s.cells x is
copies_cells [] s x is = refl
copies_cells (r ∷ rs) s x is = copies_cells rs (with_local s r.0 (Holds (identity r.1))) x is

pub copies_plain : (rs : List (Variable × ReduceOp)) (s : State) (x : Variable) → is_plain rs x ≡ true → (with_identities rs s).locals x ≡ s.locals x
copies_plain [] s x h = refl
copies_plain (r ∷ rs) s x h = at (r.0 == x) refl h (λ k. copies_plain rs (with_local s r.0 (Holds (identity r.1))) x k)
  where
    at : (b : Bool) → (r.0 == x) ≡ b → is_none (cond b (Some r.1) (operator_of rs x)) ≡ true
        → (is_plain rs x ≡ true → (with_identities (r ∷ rs) s).locals x ≡ cond (x == r.0) (Holds (identity r.1)) (s.locals x)) → (with_identities (r ∷ rs) s).locals x ≡ s.locals x
    at true e k rest = absurd (true≢false (sym k))
    at false e k rest = rest k ∙ ap (λ c. cond c (Holds (identity r.1)) (s.locals x)) (apart_back r.0 x e)

pub copies_inside : (rs : List (Variable × ReduceOp)) (s : State) (x : Variable) → is_outside (s.locals x) ≡ false → is_outside ((with_identities rs s).locals x) ≡ false
copies_inside [] s x h = h
copies_inside (r ∷ rs) s x h = copies_inside rs (with_local s r.0 (Holds (identity r.1))) x (at (x == r.0))
  where
    at : (b : Bool) → is_outside (cond b (Holds (identity r.1)) (s.locals x)) ≡ false
    at true = refl
    at false = h

pub copies_local : (rs : List (Variable × ReduceOp)) (s : State) → AreLocal rs (with_identities rs s)
copies_local [] s x op is = absurd (none-some op is)
copies_local (r ∷ rs) s x op is = at (r.0 == x) refl is (λ k. copies_local rs (with_local s r.0 (Holds (identity r.1))) x op k)
  where
    at : (b : Bool) → (r.0 == x) ≡ b → cond b (Some r.1) (operator_of rs x) ≡ Some op → (operator_of rs x ≡ Some op → is_outside ((with_identities (r ∷ rs) s).locals x) ≡ false)
        → is_outside ((with_identities (r ∷ rs) s).locals x) ≡ false
    at true e k rest =
        copies_inside rs (with_local s r.0 (Holds (identity r.1))) x
        (ap (λ c. is_outside (cond c (Holds (identity r.1)) (s.locals x))) (eq-eqb x r.0 (sym (eqb-true r.0 x e))))
    at false e k rest = rest k

pub copies_agree : (rs : List (Variable × ReduceOp)) (s : State) → AgreesBut rs s (with_identities rs s)
copies_agree rs s = record { locals = λ x h. sym (copies_plain rs s x h); cells = λ x is h. sym (copies_cells rs s x is) }

-- ---- the laws

but_back : (rs : List (Variable × ReduceOp)) (s t : State) → AgreesBut rs s t → AgreesBut rs t s
but_back rs s t a = record { locals = λ x h. sym (a.locals x h); cells = λ x is h. sym (a.cells x is h) }

pub but_through : (rs : List (Variable × ReduceOp)) (s t u : State) → AgreesBut rs s t → AgreesBut rs t u → AgreesBut rs s u
but_through rs s t u a b = record { locals = λ x h. a.locals x h ∙ b.locals x h; cells = λ x is h. a.cells x is h ∙ b.cells x is h }

never : (x : Variable) (op : ReduceOp) → false ≡ true → TakesAll op
never x op h = absurd (true≢false (sym h))

pub tell : OperandsTell
tell rs a s t f h agrees held own is =
    at (run a s) refl
    (subst (λ p. Shadows rs false s t p (run a s)) is (stmt_shadow rs false (λ k x op j. never x op k) a h s t (record { agrees = agrees; held = held; own = own })))
  where
    at : (o : Option Effect) → run a s ≡ o → Shadows rs false s t (Some f) o → IsTold rs s t o f
    at None e k = absurd k
    at (Some g) e k = record {
      effect = g;
      is = refl;
      text = k.text;
      agrees = k.at.after.agrees;
      shifted = λ x op v j l. k.at.values x op v j l ∙ ap Some (folded_partial op x f.writes v);
    }

pub go : OperandsRun
go rs a s t e h full agrees held own is =
    at (run (operands rs a) t)
    (subst (λ o. Shadows rs true s t (run (operands rs a) t) o) is (stmt_shadow rs true (λ k. all_taken rs full) a h s t (record { agrees = agrees; held = held; own = own })))
  where
    at : (p : Option Effect) → Shadows rs true s t p (Some e) → IsSome p
    at None k = absurd (k refl)
    at (Some f) k = refl

pub shift : ReductionsShift
shift rs a s e h full held is = at (run (operands rs a) with_copies) refl (go rs a s with_copies e h full (copies_agree rs s) held (copies_local rs s) is)
  where
    with_copies : State
    with_copies = with_identities rs s

    at : (p : Option Effect) → run (operands rs a) with_copies ≡ p → IsSome p → IsShift rs a s e
    at None k there = absurd (true≢false (sym there))
    at (Some f) k there =
        let mine : IsTold rs s with_copies (run a s) f = tell rs a s with_copies f h (copies_agree rs s) held (copies_local rs s) k in
        let same : mine.effect ≡ e = same_Some mine.effect e (sym mine.is ∙ is) in
        record {
          partial = λ op x. partial_of op x None f.writes;
          shifted = subst (λ (g : Effect). AreShifted rs (λ op x. partial_of op x None f.writes) s (overwritten s g.writes)) same mine.shifted;
          others = λ t agrees other.
              let theirs : IsTold rs t with_copies (run a t) f = tell rs a t with_copies f h (but_through rs t s with_copies (but_back rs s t agrees) (copies_agree rs s)) other (copies_local rs s) k in (
                theirs.effect,
                theirs.is,
                theirs.text ∙ sym mine.text ∙ ap (λ (g : Effect). g.text) same,
                but_through rs (overwritten s e.writes) (overwritten with_copies f.writes) (overwritten t theirs.effect.writes)
                    (subst (λ (g : Effect). AgreesBut rs (overwritten s g.writes) (overwritten with_copies f.writes)) same mine.agrees)
                    (but_back rs (overwritten t theirs.effect.writes) (overwritten with_copies f.writes) theirs.agrees),
                theirs.shifted,
              );
        }
