-- A statement does the same from states that agree in what it reads before it assigns it.
use Rattle.std.specs.Prelude.{ℕ, zero, suc, Bool, true, false, ◌≡◌, ◌==◌, ◌&&◌, ◌||◌, ◌⊎◌, List, [], ◌∷◌, ◌++◌, Option, Some, None, IfSome, option_and_then}
use Rattle.std.proofs.Common.{refl, sym, ap, ◌∙◌, subst, cond, inl, inr}
use Rattle.std.proofs.lemmas.Bool.{true≢false, eqb-true}
use Rattle.std.proofs.lemmas.Option.{same_Some, none-some}
use Rattle.semantics.specs.Tree.{Variable, Name, Expr, Literal, Bare, Constant, Object, Unary, Binary, Conditional, Exprs, no_exprs, more_exprs, Cond, NotZero, Compare, Not, LogicalAnd, LogicalOr, Source, Number, Truth, BinaryOp, Plus, Minus, Increment, Up, Down, Set, Change, PrintPart, Characters, Decimal, Stmt, Assign, Update, If, IfElse, For, Block, Print, Items, no_items, mark, local, stmt}
use Rattle.semantics.specs.Meaning.State.{State, Slot, Outside, Empty, Holds, Declared, Assigned, renewed, same_indexes, with_local, with_cell, assign_at, is_there, look, look_in, is_object, is_object_in, written, overwritten}
use Rattle.semantics.specs.Meaning.Value.{operate, map_option, both, both_then, by_test, value, values, holds, source_value}
use Rattle.semantics.specs.Meaning.Runs.{Effect, nothing, one_write, joined, then_from, declares, declared, assigned, updated, incremented, print_text, turns, greatest_trip_count, run, run_items}
use Rattle.semantics.specs.Meaning.Definite.{Privates, DefinitelyAssigned, known_with, without, may_read, may_read_all, may_test, may_take, may_step, may_print, where_ok, after_both, privates_in, if_stepped, definite, definite_items}
use Rattle.semantics.specs.Meaning.Agrees.{Agrees, also, names_expr, names_exprs, names_cond, names_source, names_step, names_parts, names_only, names_items}
use Rattle.semantics.specs.Loops.Piece.{is_outside}
use Rattle.law_commute.proofs.Same.{also_more}
use Rattle.law_commute.proofs.Matched.{overwritten-append}
use Rattle.law_commute.proofs.Values.{first_of, second_of}
use Rattle.law_private.specs.Known.{IsWithin, KnownStatesRunAlike}
use Rattle.law_private.proofs.Seen.{value_seen, values_seen, holds_seen, source_seen, text_seen}

-- ---- what may be read is what is named

mutual
  pub may_names : (k : DefinitelyAssigned) (e : Expr) → may_read k e ≡ names_expr k e
  may_names k (Literal n suffix) = refl
  may_names k (Constant name n) = refl
  may_names k (Object x is) = ap (λ b. k x && b) (may_names_all k is)
  may_names k (Unary op a) = may_names k a
  may_names k (Binary op a b) = λ i. may_names k a i && may_names k b i
  may_names k (Conditional c a b) = λ i. may_names_test k c i && may_names k a i && may_names k b i

  pub may_names_all : (k : DefinitelyAssigned) (es : Exprs) → may_read_all k es ≡ names_exprs k es
  may_names_all k no_exprs = refl
  may_names_all k (more_exprs e es) = λ i. may_names k e i && may_names_all k es i

  pub may_names_test : (k : DefinitelyAssigned) (c : Cond) → may_test k c ≡ names_cond k c
  may_names_test k (NotZero e) = may_names k e
  may_names_test k (Compare op a b) = λ i. may_names k a i && may_names k b i
  may_names_test k (Not c) = may_names_test k c
  may_names_test k (LogicalAnd c d) = λ i. may_names_test k c i && may_names_test k d i
  may_names_test k (LogicalOr c d) = λ i. may_names_test k c i && may_names_test k d i

pub may_names_source : (k : DefinitelyAssigned) (e : Source) → may_take k e ≡ names_source k e
may_names_source k (Number e) = may_names k e
may_names_source k (Truth c) = may_names_test k c

pub may_names_parts : (k : DefinitelyAssigned) (parts : List PrintPart) → may_print k parts ≡ names_parts k parts
may_names_parts k [] = refl
may_names_parts k (Characters bs ∷ ps) = may_names_parts k ps
may_names_parts k (Decimal e ∷ ps) = λ i. may_names k e i && may_names_parts k ps i

-- ---- two runs that do the same

-- the same effect from both, or none, and what holds of the states behind it
pub record Both (R : State → State → Type 0) (s t : State) (o p : Option Effect) : Type 0 where
  pub same : o ≡ p
  pub left : (e : Effect) → o ≡ Some e → R (overwritten s e.writes) (overwritten t e.writes)

module _ (R : State → State → Type 0) (s t : State) where
  pub both_none : Both R s t None None
  both_none = record { same = refl; left = λ e h. absurd (none-some e h) }

  pub both_some : (e : Effect) → R (overwritten s e.writes) (overwritten t e.writes) → Both R s t (Some e) (Some e)
  both_some e r = record { same = refl; left = λ f h. subst (λ (g : Effect). R (overwritten s g.writes) (overwritten t g.writes)) (same_Some e f h) r }

  pub both_like : {o p o' p' : Option Effect} → o ≡ o' → p ≡ p' → Both R s t o' p' → Both R s t o p
  both_like e f h = record { same = e ∙ h.same ∙ sym f; left = λ g k. h.left g (sym e ∙ k) }

  pub both_test : (b c : Option Bool) (o p o' p' : Option Effect) → b ≡ c → Both R s t o o' → Both R s t p p' → Both R s t (by_test b o p) (by_test c o' p')
  both_test b c o p o' p' e one two = both_like refl (ap (λ d. by_test d o' p') (sym e)) (at b)
    where
      at : (d : Option Bool) → Both R s t (by_test d o p) (by_test d o' p')
      at None = both_none
      at (Some true) = one
      at (Some false) = two

pub both_weaker : (R Q : State → State → Type 0) (s t : State) (o p : Option Effect) → ((u v : State) → R u v → Q u v) → Both R s t o p → Both Q s t o p
both_weaker R Q s t o p h b = record { same = b.same; left = λ e k. h (overwritten s e.writes) (overwritten t e.writes) (b.left e k) }

pub both_steps : (R Q : State → State → Type 0) (s t : State) (o p : Option Effect) (f g : State → Option Effect) → Both R s t o p
    → ((u v : State) → R u v → Both Q u v (f u) (g v)) → Both Q s t (then_from s o f) (then_from t p g)
both_steps R Q s t o p f g one two = both_like Q s t refl (ap (λ q. then_from t q g) (sym one.same)) (at o one.left)
  where
    at : (q : Option Effect) → ((e : Effect) → q ≡ Some e → R (overwritten s e.writes) (overwritten t e.writes)) → Both Q s t (then_from s q f) (then_from t q g)
    at None left = both_none Q s t
    at (Some e) left =
        let more = two (overwritten s e.writes) (overwritten t e.writes) (left e refl) in
        record {
          same = ap (map_option (joined e)) more.same;
          left = λ h k. behind (f (overwritten s e.writes)) h more.left k;
        }
      where
        behind : (r : Option Effect) (h : Effect) → ((d : Effect) → r ≡ Some d → Q (overwritten (overwritten s e.writes) d.writes) (overwritten (overwritten t e.writes) d.writes)) → map_option (joined e) r ≡ Some h
            → Q (overwritten s h.writes) (overwritten t h.writes)
        behind None h rest k = absurd (none-some h k)
        behind (Some d) h rest k =
            subst (λ (g : Effect). Q (overwritten s g.writes) (overwritten t g.writes)) (same_Some (joined e d) h k)
            (subst (λ u. Q u (overwritten t (e.writes ++ d.writes))) (sym (overwritten-append s e.writes d.writes))
            (subst (λ u. Q (overwritten (overwritten s e.writes) d.writes) u) (sym (overwritten-append t e.writes d.writes)) (rest d refl)))

-- ---- states that agree

-- and these locals are the same in both
pub record Meet (V k : Variable → Bool) (K : Variable → Type 0) (s t : State) : Type 0 where
  pub agrees : Agrees V k s t
  pub kept : (x : Variable) → K x → s.locals x ≡ t.locals x

pub meet_less : (V W k j : Variable → Bool) (K L : Variable → Type 0) (s t : State) → IsWithin W V → ((x : Variable) → j x ≡ true → (k x ≡ true) ⊎ K x) → ((x : Variable) → L x → (k x ≡ true) ⊎ K x)
    → Meet V k K s t → Meet W j L s t
meet_less V W k j K L s t fewer known kept m = record {
  agrees = record { cells = m.agrees.cells; kinds = λ x w. m.agrees.kinds x (fewer x w); values = λ x h. at x (known x h) };
  kept = λ x h. at x (kept x h);
}
  where
    at : (x : Variable) → (k x ≡ true) ⊎ K x → s.locals x ≡ t.locals x
    at x (inl h) = m.agrees.values x h
    at x (inr h) = m.kept x h

pub known_less : (V k j : Variable → Bool) (K : Variable → Type 0) (s t : State) → IsWithin j k → Meet V k K s t → Meet V j K s t
known_less V k j K s t less m = meet_less V V k j K K s t (λ x h. h) (λ x h. inl (less x h)) (λ x h. inr h) m

module _ (V k : Variable → Bool) (K : Variable → Type 0) (s t : State) (m : Meet V k K s t) where
  look_alike : (x : Variable) (is : List ℕ) → k x ≡ true → look s x is ≡ look t x is
  look_alike x is v = ap (λ l. look_in l s x is) (m.agrees.values x v) ∙ at (t.locals x)
    where
      at : (l : Slot) → look_in l s x is ≡ look_in l t x is
      at Outside = m.agrees.cells x is
      at Empty = refl
      at (Holds n) = refl

  -- what is made of variables that are known is the same
  pub value_alike : (e : Expr) → names_expr k e ≡ true → value s e ≡ value t e
  value_alike = value_seen k s t look_alike

  pub values_alike : (es : Exprs) → names_exprs k es ≡ true → values s es ≡ values t es
  values_alike = values_seen k s t look_alike

  pub holds_alike : (c : Cond) → names_cond k c ≡ true → holds s c ≡ holds t c
  holds_alike = holds_seen k s t look_alike

  pub source_alike : (e : Source) → names_source k e ≡ true → source_value s e ≡ source_value t e
  source_alike = source_seen k s t look_alike

  text_alike : (parts : List PrintPart) → names_parts k parts ≡ true → print_text s parts ≡ print_text t parts
  text_alike = text_seen k s t look_alike

  -- ---- writes

  -- a local stands anew in both
  pub with_locals : (x : Variable) (b : Bool) (l : Slot) → Meet (also V x) (known_with k x b) K (with_local s x l) (with_local t x l)
  with_locals x b l = record {
    agrees = record {
      cells = m.agrees.cells;
      kinds = λ y w. kind y (y == x) w;
      values = λ y w. known y (y == x) w;
    };
    kept = λ y w. ap (cond (y == x) l) (m.kept y w);
  }
    where
      kind : (y : Variable) (c : Bool) → (c || V y) ≡ true → is_outside (cond c l (s.locals y)) ≡ is_outside (cond c l (t.locals y))
      kind y true w = refl
      kind y false w = m.agrees.kinds y w

      known : (y : Variable) (c : Bool) → cond c b (k y) ≡ true → cond c l (s.locals y) ≡ cond c l (t.locals y)
      known y true w = refl
      known y false w = m.agrees.values y w

  -- an object at file scope is assigned that neither hides
  with_cells : (x : Variable) (is : List ℕ) (n : ℕ) → s.locals x ≡ t.locals x → Meet V (known_with k x true) K (with_cell s x is n) (with_cell t x is n)
  with_cells x is n same = record {
    agrees = record {
      cells = λ y js. ap (λ c. cond ((y == x) && same_indexes js is) (renewed c n) c) (m.agrees.cells y js);
      kinds = m.agrees.kinds;
      values = λ y w. known y (y == x) refl w;
    };
    kept = m.kept;
  }
    where
      known : (y : Variable) (c : Bool) → (y == x) ≡ c → cond c true (k y) ≡ true → s.locals y ≡ t.locals y
      known y true e w = ap s.locals (eqb-true y x e) ∙ same ∙ sym (ap t.locals (eqb-true y x e))
      known y false e w = m.agrees.values y w

  pub fewer : (x : Variable) (j : Variable → Bool) (u v : State) → Meet (also V x) j K u v → Meet V j K u v
  fewer x j u v = meet_less (also V x) V j j K K u v (λ y h. also_more V x y h) (λ y h. inl h) (λ y h. inr h)

  object_alike : (x : Variable) (is : List ℕ) → V x ≡ true → is_object s x is ≡ is_object t x is
  object_alike x is v = at (s.locals x) (t.locals x) (m.agrees.kinds x v)
    where
      at : (l l' : Slot) → is_outside l ≡ is_outside l' → is_object_in l s x is ≡ is_object_in l' t x is
      at Outside Outside h = ap is_there (m.agrees.cells x is)
      at Outside Empty h = absurd (true≢false h)
      at Outside (Holds n) h = absurd (true≢false h)
      at Empty Outside h = absurd (true≢false (sym h))
      at Empty Empty h = refl
      at Empty (Holds n) h = refl
      at (Holds a) Outside h = absurd (true≢false (sym h))
      at (Holds a) Empty h = refl
      at (Holds a) (Holds n) h = refl

  pub assigned_meet : (x : Variable) (is : List ℕ) (n : ℕ) → V x ≡ true → Meet V (known_with k x true) K (written s (Assigned x is n)) (written t (Assigned x is n))
  assigned_meet x is n v = at (s.locals x) (t.locals x) refl refl (m.agrees.kinds x v)
    where
      set : Meet V (known_with k x true) K (with_local s x (Holds n)) (with_local t x (Holds n))
      set = fewer x (known_with k x true) (with_local s x (Holds n)) (with_local t x (Holds n)) (with_locals x true (Holds n))

      at : (l l' : Slot) → s.locals x ≡ l → t.locals x ≡ l' → is_outside l ≡ is_outside l' → Meet V (known_with k x true) K (assign_at l s x is n) (assign_at l' t x is n)
      at Outside Outside e f h = with_cells x is n (e ∙ sym f)
      at Outside Empty e f h = absurd (true≢false h)
      at Outside (Holds b) e f h = absurd (true≢false h)
      at Empty Outside e f h = absurd (true≢false (sym h))
      at Empty Empty e f h = set
      at Empty (Holds b) e f h = set
      at (Holds a) Outside e f h = absurd (true≢false (sym h))
      at (Holds a) Empty e f h = set
      at (Holds a) (Holds b) e f h = set

  assigned_both : (x : Variable) (is : Option (List ℕ)) (o : Option ℕ) → V x ≡ true → Both (Meet V (known_with k x true) K) s t (assigned s x is o) (assigned t x is o)
  assigned_both x None o v = both_none (Meet V (known_with k x true) K) s t
  assigned_both x (Some ks) None v = both_none (Meet V (known_with k x true) K) s t
  assigned_both x (Some ks) (Some n) v =
      both_like (Meet V (known_with k x true) K) s t refl (ap (λ b. cond b (Some (one_write (Assigned x ks n))) None) (sym (object_alike x ks v))) (at (is_object s x ks))
    where
      at : (b : Bool) → Both (Meet V (known_with k x true) K) s t (cond b (Some (one_write (Assigned x ks n))) None) (cond b (Some (one_write (Assigned x ks n))) None)
      at true = both_some (Meet V (known_with k x true) K) s t (one_write (Assigned x ks n)) (assigned_meet x ks n v)
      at false = both_none (Meet V (known_with k x true) K) s t

  pub put_both : (x : Variable) (is is' : Option (List ℕ)) (o p : Option ℕ) → V x ≡ true → is ≡ is' → o ≡ p → Both (Meet V (known_with k x true) K) s t (assigned s x is o) (assigned t x is' p)
  put_both x is is' o p v e f = both_like (Meet V (known_with k x true) K) s t refl (λ i. assigned t x (sym e i) (sym f i)) (assigned_both x is o v)

  -- what is known of a variable that is known
  pub still_known : (x : Variable) → IsWithin k (known_with k x true)
  still_known x y h = at (y == x)
    where
      at : (b : Bool) → cond b true (k y) ≡ true
      at true = refl
      at false = h

  known_still : (x : Variable) (o p : Option Effect) → Both (Meet V (known_with k x true) K) s t o p → Both (Meet V k K) s t o p
  known_still x o p = both_weaker (Meet V (known_with k x true) K) (Meet V k K) s t o p (λ u v. known_less V (known_with k x true) k K u v (still_known x))

  pub updated_both : (x : Variable) (is : Exprs) (op : BinaryOp) (e : Expr) → V x ≡ true → k x ≡ true → names_exprs k is ≡ true → names_expr k e ≡ true → Both (Meet V k K) s t (updated s x is op e) (updated t x is op e)
  updated_both x is op e v w h h' =
      let places = values_alike is h in
      let one = value_alike (Object x is) (λ i. w i && h i) in
      let two = value_alike e h' in
      known_still x (updated s x is op e) (updated t x is op e) (put_both x (values s is) (values t is) _ _ v places (λ i. both_then (operate op) (one i) (two i)))

  pub incremented_both : (step : Increment) → names_step V step ≡ true → may_step k step ≡ true → Both (Meet V k K) s t (incremented s step) (incremented t step)
  incremented_both (Up x) v h = updated_both x no_exprs Plus (Literal 1 Bare) v h refl refl
  incremented_both (Down x) v h = updated_both x no_exprs Minus (Literal 1 Bare) v h refl refl
  incremented_both (Set x e) v h =
      known_still x (incremented s (Set x e)) (incremented t (Set x e))
      (put_both x (Some []) (Some []) (source_value s e) (source_value t e) (first_of (V x) (names_source V e) v) refl (source_alike e (sym (may_names_source k e) ∙ h)))
  incremented_both (Change x op e) v h =
      updated_both x no_exprs op e (first_of (V x) (names_expr V e) v) (first_of (k x) (may_read k e) h) refl (sym (may_names k e) ∙ second_of (k x) (may_read k e) h)

  declares_both : (x : Variable) (o : Option ℕ) → Both (Meet (also V x) (known_with k x true) K) s t (declares x o) (declares x o)
  declares_both x None = both_none (Meet (also V x) (known_with k x true) K) s t
  declares_both x (Some n) = both_some (Meet (also V x) (known_with k x true) K) s t (one_write (Declared x (Some n))) (with_locals x true (Holds n))

  pub valued_both : (x : Variable) (e : Source) → names_source k e ≡ true → Both (Meet (also V x) (known_with k x true) K) s t (declared s x (Some e)) (declared t x (Some e))
  valued_both x e h =
      both_like (Meet (also V x) (known_with k x true) K) s t refl (ap (declares x) (sym (source_alike e h))) (declares_both x (source_value s e))

  pub empty_both : (x : Variable) → Both (Meet (also V x) (known_with k x false) K) s t (declared s x None) (declared t x None)
  empty_both x = both_some (Meet (also V x) (known_with k x false) K) s t (one_write (Declared x None)) (with_locals x false Empty)

  pub printed_both : (parts : List PrintPart) → names_parts k parts ≡ true → Both (Meet V k K) s t (run (Print parts) s) (run (Print parts) t)
  printed_both parts h = both_like (Meet V k K) s t refl (ap (map_option (λ b. record { writes = []; text = b })) (sym (text_alike parts h))) (at (print_text s parts))
    where
      at : (o : Option (List ℕ)) → Both (Meet V k K) s t (map_option (λ b. record { writes = []; text = b }) o) (map_option (λ b. record { writes = []; text = b }) o)
      at None = both_none (Meet V k K) s t
      at (Some b) = both_some (Meet V k K) s t (record { writes = []; text = b }) m

-- ---- what is known

pub without_within : (xs : List Variable) (k : DefinitelyAssigned) → IsWithin (without k xs) k
without_within [] k y h = h
without_within (x ∷ xs) k y h = at (y == x) (without_within xs (known_with k x false) y h)
  where
    at : (b : Bool) → cond b false (k y) ≡ true → k y ≡ true
    at true e = absurd (true≢false (sym e))
    at false e = e

pub without_more : (xs : List Variable) (k j : DefinitelyAssigned) → IsWithin k j → IsWithin (without k xs) (without j xs)
without_more [] k j more = more
without_more (x ∷ xs) k j more = without_more xs (known_with k x false) (known_with j x false) (λ y h. at y (y == x) h)
  where
    at : (y : Variable) (b : Bool) → cond b false (k y) ≡ true → cond b false (j y) ≡ true
    at y true e = e
    at y false e = more y e

-- ---- statements

where_known : (Q : DefinitelyAssigned → Type 0) (b : Bool) (k : DefinitelyAssigned) → (b ≡ true → Q k) → IfSome (where_ok b k) Q
where_known Q true k h = h refl
where_known Q false k h = tt

if_known : (Q : DefinitelyAssigned → Type 0) (b : Bool) (o : Option DefinitelyAssigned) → (b ≡ true → IfSome o Q) → IfSome (cond b o None) Q
if_known Q true o h = h refl
if_known Q false o h = tt

both_known : (Q Q' R : DefinitelyAssigned → Type 0) (o p : Option DefinitelyAssigned) → IfSome o Q → IfSome p Q' → ((a b : DefinitelyAssigned) → Q a → Q' b → R (λ y. a y && b y)) → IfSome (after_both o p) R
both_known Q Q' R None p h h' join = tt
both_known Q Q' R (Some a) None h h' join = tt
both_known Q Q' R (Some a) (Some b) h h' join = join a b h h'

then_known : (Q R : DefinitelyAssigned → Type 0) (o : Option DefinitelyAssigned) (f : DefinitelyAssigned → Option DefinitelyAssigned) → IfSome o Q → ((k : DefinitelyAssigned) → Q k → IfSome (f k) R) → IfSome (option_and_then f o) R
then_known Q R None f h more = tt
then_known Q R (Some k) f h more = more k h

-- the turns of a loop, from states that agree in what is known at the start of its body
turns_alike : (W inside after : Variable → Bool) (K : Variable → Type 0) (test : Cond) (body : Stmt) (step : Increment) → names_cond inside test ≡ true → names_step W step ≡ true → may_step after step ≡ true
    → ((y : Variable) → inside y ≡ true → K y)
    → ((s t : State) → Meet W inside K s t → Both (Meet W after K) s t (run body s) (run body t)) → (n : ℕ) (s t : State) → Meet W inside K s t
    → Both (Meet W inside K) s t (turns n (λ u. holds u test) (run body) (λ u. incremented u step) s) (turns n (λ u. holds u test) (run body) (λ u. incremented u step) t)
turns_alike W inside after K test body step tested named stepped kept goes zero s t m =
    both_test (Meet W inside K) s t (holds s test) (holds t test) None (Some nothing) None (Some nothing) (holds_alike W inside K s t m test tested)
    (both_none (Meet W inside K) s t) (both_some (Meet W inside K) s t nothing m)
turns_alike W inside after K test body step tested named stepped kept goes (suc n) s t m =
    let more = turns n (λ u. holds u test) (run body) (λ u. incremented u step) in
    both_test (Meet W inside K) s t (holds s test) (holds t test)
    (then_from s (run body s) (λ u. then_from u (incremented u step) more)) (Some nothing)
    (then_from t (run body t) (λ u. then_from u (incremented u step) more)) (Some nothing) (holds_alike W inside K s t m test tested)
    (both_steps (Meet W after K) (Meet W inside K) s t (run body s) (run body t) (λ u. then_from u (incremented u step) more) (λ u. then_from u (incremented u step) more) (goes s t m)
    (λ u v g. both_steps (Meet W after K) (Meet W inside K) u v (incremented u step) (incremented v step) more more (incremented_both W after K u v g step named stepped)
    (λ u' v' g'. turns_alike W inside after K test body step tested named stepped kept goes n u' v'
    (meet_less W W after inside K K u' v' (λ y h. h) (λ y h. inr (kept y h)) (λ y h. inr h) g'))))
    (both_some (Meet W inside K) s t nothing m)

-- a loop, where its body goes
loop_alike : (P : Privates) (x : Variable) (name : Name) (start : Source) (test : Cond) (step : Increment) (body : Stmt) (V k : Variable → Bool) (K : Variable → Type 0) (s t : State)
    → names_step (also V x) step ≡ true → Meet V k K s t
    → ((j : Variable → Bool) (L : Variable → Type 0) (u v : State) → Meet (also V x) j L u v → IfSome (definite P body j) (λ after. Both (Meet (also V x) after L) u v (run body u) (run body v)))
    → IfSome (definite P (For x name start test step body) k) (λ k'. Both (Meet V k' K) s t (run (For x name start test step body) s) (run (For x name start test step body) t))
loop_alike P x name start test step body V k K s t named m goes =
    if_known Q (may_take k start && may_test inside test) (if_stepped (λ after. may_step after step) (definite P body inside) (Some (without k privates)))
    (λ ok. at (definite P body inside) refl ok)
  where
    privates : List Variable
    privates = privates_in P body

    inside : DefinitelyAssigned
    inside = without (known_with k x true) privates

    Q : DefinitelyAssigned → Type 0
    Q k' = Both (Meet V k' K) s t (run (For x name start test step body) s) (run (For x name start test step body) t)

    L : Variable → Type 0
    L y = (inside y ≡ true) ⊎ K y

    all : State → Option Effect
    all = turns greatest_trip_count (λ u. holds u test) (run body) (λ u. incremented u step)

    still : IsWithin k (known_with k x true)
    still y h = here (y == x)
      where
        here : (b : Bool) → cond b true (k y) ≡ true
        here true = refl
        here false = h

    at : (o : Option DefinitelyAssigned) → definite P body inside ≡ o → (may_take k start && may_test inside test) ≡ true → IfSome (if_stepped (λ after. may_step after step) o (Some (without k privates))) Q
    at None e ok = tt
    at (Some after) e ok = if_known Q (may_step after step) (Some (without k privates))
        (λ stepped.
        both_weaker (Meet (also V x) inside L) (Meet V (without k privates) K) s t _ _
        (λ u v. meet_less (also V x) V inside (without k privates) L K u v (λ y h. also_more V x y h) (λ y h. inl (without_more privates k (known_with k x true) still y h)) (λ y h. inr (inr h)))
        (both_steps (Meet (also V x) (known_with k x true) K) (Meet (also V x) inside L) s t (declared s x (Some start)) (declared t x (Some start)) all all
        (valued_both V k K s t m x start (sym (may_names_source k start) ∙ first_of (may_take k start) (may_test inside test) ok))
        (λ u v g. turns_alike (also V x) inside after L test body step (sym (may_names_test inside test) ∙ second_of (may_take k start) (may_test inside test) ok) named
        stepped (λ y h. inl h)
        (λ u' v' g'. subst (λ q. IfSome q (λ j. Both (Meet (also V x) j L) u' v' (run body u') (run body v'))) e (goes inside L u' v' g'))
        greatest_trip_count u v
        (meet_less (also V x) (also V x) (known_with k x true) inside K L u v (λ y h. h) (λ y h. inl (without_within privates (known_with k x true) y h)) (λ y. entered y) g))))
      where
        entered : (y : Variable) → L y → (known_with k x true y ≡ true) ⊎ K y
        entered y (inl h) = inl (without_within privates (known_with k x true) y h)
        entered y (inr h) = inr h

both_first : (V a b : Variable → Bool) (K : Variable → Type 0) (s t : State) (o p : Option Effect) → Both (Meet V a K) s t o p → Both (Meet V (λ y. a y && b y) K) s t o p
both_first V a b K s t o p = both_weaker (Meet V a K) (Meet V (λ y. a y && b y) K) s t o p (λ u v. known_less V a (λ y. a y && b y) K u v (λ y h. first_of (a y) (b y) h))

both_second : (V a b : Variable → Bool) (K : Variable → Type 0) (s t : State) (o p : Option Effect) → Both (Meet V b K) s t o p → Both (Meet V (λ y. a y && b y) K) s t o p
both_second V a b K s t o p = both_weaker (Meet V b K) (Meet V (λ y. a y && b y) K) s t o p (λ u v. known_less V b (λ y. a y && b y) K u v (λ y h. second_of (a y) (b y) h))

-- a step, and then the other items
rest_alike : (V W k : Variable → Bool) (K : Variable → Type 0) (s t : State) (o p : Option Effect) (rest : Items) (known : Option DefinitelyAssigned) → Both (Meet W k K) s t o p
    → ((u v : State) (j : Variable → Bool) → Meet W j K u v → Meet V j K u v)
    → ((u v : State) → Meet W k K u v → IfSome known (λ j. Both (Meet W j K) u v (run_items rest u) (run_items rest v)))
    → IfSome known (λ j. Both (Meet V j K) s t (then_from s o (run_items rest)) (then_from t p (run_items rest)))
rest_alike V W k K s t o p rest None one less goes = tt
rest_alike V W k K s t o p rest (Some j) one less goes =
    both_steps (Meet W k K) (Meet V j K) s t o p (run_items rest) (run_items rest) one
    (λ u v g. both_weaker (Meet W j K) (Meet V j K) u v (run_items rest u) (run_items rest v) (λ u' v'. less u' v' j) (goes u v g))

mutual
  pub stmt_alike : (P : Privates) (a : Stmt) (V k : Variable → Bool) (K : Variable → Type 0) (s t : State) → names_only V a ≡ true → Meet V k K s t
      → IfSome (definite P a k) (λ k'. Both (Meet V k' K) s t (run a s) (run a t))
  stmt_alike P (Assign x is e) V k K s t h m =
      where_known _ (may_read_all k is && may_take k e) (known_with k x true)
      (λ ok.
      put_both V k K s t m x (values s is) (values t is) (source_value s e) (source_value t e)
      (first_of (V x) (names_exprs V is) (first_of (V x && names_exprs V is) (names_source V e) h))
      (values_alike V k K s t m is (sym (may_names_all k is) ∙ first_of (may_read_all k is) (may_take k e) ok))
      (source_alike V k K s t m e (sym (may_names_source k e) ∙ second_of (may_read_all k is) (may_take k e) ok)))
  stmt_alike P (Update x is op e) V k K s t h m =
      where_known _ (k x && may_read_all k is && may_read k e) k
      (λ ok.
      let front = first_of (k x && may_read_all k is) (may_read k e) ok in
      updated_both V k K s t m x is op e (first_of (V x) (names_exprs V is) (first_of (V x && names_exprs V is) (names_expr V e) h))
      (first_of (k x) (may_read_all k is) front) (sym (may_names_all k is) ∙ second_of (k x) (may_read_all k is) front)
      (sym (may_names k e) ∙ second_of (k x && may_read_all k is) (may_read k e) ok))
  stmt_alike P (If c a) V k K s t h m =
      if_known _ (may_test k c) (after_both (definite P a k) (Some k))
      (λ ok.
      both_known (λ j. Both (Meet V j K) s t (run a s) (run a t)) (λ j. j ≡ k) _ (definite P a k) (Some k)
      (stmt_alike P a V k K s t (second_of (names_cond V c) (names_only V a) h) m) refl
      (λ j l q e.
      both_test (Meet V (λ y. j y && l y) K) s t (holds s c) (holds t c) (run a s) (Some nothing) (run a t) (Some nothing)
      (holds_alike V k K s t m c (sym (may_names_test k c) ∙ ok))
      (both_first V j l K s t (run a s) (run a t) q)
      (both_second V j l K s t (Some nothing) (Some nothing) (both_some (Meet V l K) s t nothing (subst (λ z. Meet V z K s t) (sym e) m)))))
  stmt_alike P (IfElse c a b) V k K s t h m =
      let front = first_of (names_cond V c && names_only V a) (names_only V b) h in
      if_known _ (may_test k c) (after_both (definite P a k) (definite P b k))
      (λ ok.
      both_known (λ j. Both (Meet V j K) s t (run a s) (run a t)) (λ j. Both (Meet V j K) s t (run b s) (run b t)) _ (definite P a k) (definite P b k)
      (stmt_alike P a V k K s t (second_of (names_cond V c) (names_only V a) front) m) (stmt_alike P b V k K s t (second_of (names_cond V c && names_only V a) (names_only V b) h) m)
      (λ j l q r.
      both_test (Meet V (λ y. j y && l y) K) s t (holds s c) (holds t c) (run a s) (run b s) (run a t) (run b t)
      (holds_alike V k K s t m c (sym (may_names_test k c) ∙ ok))
      (both_first V j l K s t (run a s) (run a t) q) (both_second V j l K s t (run b s) (run b t) r)))
  stmt_alike P (For x name start test step body) V k K s t h m =
      let heads = first_of (names_source V start && names_cond (also V x) test && names_step (also V x) step) (names_only (also V x) body) h in
      loop_alike P x name start test step body V k K s t (second_of (names_source V start && names_cond (also V x) test) (names_step (also V x) step) heads) m
      (λ j L u v g. stmt_alike P body (also V x) j L u v (second_of (names_source V start && names_cond (also V x) test && names_step (also V x) step) (names_only (also V x) body) h) g)
  stmt_alike P (Block items) V k K s t h m = items_alike P [] items V k K s t h m
  stmt_alike P (Print parts) V k K s t h m = where_known _ (may_print k parts) k (λ ok. printed_both V k K s t m parts (sym (may_names_parts k parts) ∙ ok))

  pub items_alike : (P : Privates) (pending : List Variable) (items : Items) (V k : Variable → Bool) (K : Variable → Type 0) (s t : State) → names_items V items ≡ true → Meet V k K s t
      → IfSome (definite_items P pending items k) (λ k'. Both (Meet V k' K) s t (run_items items s) (run_items items t))
  items_alike P pending no_items V k K s t h m = both_some (Meet V k K) s t nothing m
  items_alike P pending (mark line rest) V k K s t h m = items_alike P (P line) rest V k K s t h m
  items_alike P pending (local x name None rest) V k K s t h m =
      rest_alike V (also V x) (known_with k x false) K s t (declared s x None) (declared t x None) rest (definite_items P [] rest (known_with k x false)) (empty_both V k K s t m x)
      (λ u v j. meet_less (also V x) V j j K K u v (λ y h. also_more V x y h) (λ y h. inl h) (λ y h. inr h))
      (λ u v g. items_alike P [] rest (also V x) (known_with k x false) K u v h g)
  items_alike P pending (local x name (Some e) rest) V k K s t h m =
      then_known (λ j. (j ≡ known_with k x true) × (may_take k e ≡ true)) _ (where_ok (may_take k e) (known_with k x true)) (definite_items P [] rest)
      (where_known _ (may_take k e) (known_with k x true) (λ ok. (refl, ok)))
      (λ j q.
      subst (λ z. IfSome (definite_items P [] rest z) (λ k'. Both (Meet V k' K) s t (run_items (local x name (Some e) rest) s) (run_items (local x name (Some e) rest) t))) (sym q.0)
      (rest_alike V (also V x) (known_with k x true) K s t (declared s x (Some e)) (declared t x (Some e)) rest (definite_items P [] rest (known_with k x true))
      (valued_both V k K s t m x e (sym (may_names_source k e) ∙ q.1))
      (λ u v j. meet_less (also V x) V j j K K u v (λ y h. also_more V x y h) (λ y h. inl h) (λ y h. inr h))
      (λ u v g. items_alike P [] rest (also V x) (known_with k x true) K u v (second_of (names_source V e) (names_items (also V x) rest) h) g)))
  items_alike P pending (stmt a rest) V k K s t h m =
      then_known (λ j. Both (Meet V j K) s t (run a s) (run a t)) _ (definite P a k) (λ after. definite_items P [] rest (without after pending))
      (stmt_alike P a V k K s t (first_of (names_only V a) (names_items V rest) h) m)
      (λ j q.
      rest_alike V V (without j pending) K s t (run a s) (run a t) rest (definite_items P [] rest (without j pending))
      (both_weaker (Meet V j K) (Meet V (without j pending) K) s t (run a s) (run a t) (λ u v. known_less V j (without j pending) K u v (without_within pending j)) q)
      (λ u v l g. g)
      (λ u v g. items_alike P [] rest V (without j pending) K u v (second_of (names_only V a) (names_items V rest) h) g))

pub known_alike : KnownStatesRunAlike
known_alike P a V k k' s t is named agrees =
    let m : Meet V k (λ x. ⊥) s t = record { agrees = agrees; kept = λ x h. absurd h } in
    let b : Both (Meet V k' (λ x. ⊥)) s t (run a s) (run a t) = subst (λ o. IfSome o (λ j. Both (Meet V j (λ x. ⊥)) s t (run a s) (run a t))) is (stmt_alike P a V k (λ x. ⊥) s t named m) in
    record { same = b.same; left = λ e h. (b.left e h).agrees }
