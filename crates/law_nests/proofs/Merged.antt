-- Chunks put together by what each of them changed.
use Rattle.std.specs.Prelude.{ℕ, zero, suc, Bool, true, false, ◌≡◌, ◌≢◌, ◌+◌, ◌-◌, ◌<◌, ◌==◌, ◌&&◌, ◌||◌, ◌⊎◌, List, [], ◌∷◌, ◌++◌, length, map, flat_map, Option, Some, None, slice_get, slice_index_or, option_and_then, Contains, All}
use Rattle.std.specs.List.{AllPairs, AllByRecursion as Each}
use Rattle.std.proofs.Common.{refl, sym, ap, ◌∙◌, subst, cond, arith, inl, inr}
use Rattle.std.proofs.lemmas.Bool.Decides.{nat_tests}
use Rattle.std.proofs.lemmas.List.{append_assoc, append-nil, length-append, get_or_append_left, get_or-append-add}
use Rattle.std.proofs.lemmas.List.Elements.{All-from_recursion, Contains-append_left, Contains-append_right}
use Rattle.std.proofs.lemmas.Option.{same_Some, none-some}
use Rattle.semantics.specs.Tree.{Variable, Stmt}
use Rattle.semantics.specs.Meaning.State.{State, Write, Declared, Assigned, renewed, same_indexes, is_there, overwritten}
use Rattle.semantics.specs.Meaning.Value.{map_option}
use Rattle.semantics.specs.Meaning.Runs.{Effect}
use Rattle.semantics.specs.Loops.Arrangement.{once, once_below, EachOnceBelow, with_found, picked}
use Rattle.semantics.specs.Meaning.Agrees.{visible_behind}
use Rattle.semantics.specs.Loops.Nest.{Loop, Vector, nest_of, at_value, loop_values, concat_options, iterations}
use Rattle.semantics.specs.Loops.Access.{Conflict}
use Rattle.semantics.specs.Loops.Piece.{Piece, no_roles, piece, piece_of, run_iterations}
use Rattle.semantics.specs.Loops.Joined.{joined_text}
use Rattle.semantics.proofs.TicketLaw.{times-append, once_below-more}
use Rattle.law_commute.specs.Commuting.{KeepsToItself, InnerLoopsTurn}
use Rattle.law_commute.specs.Joining.{plain_loop, DeclaresLocals}
use Rattle.law_commute.proofs.Framed.{true_not_false}
use Rattle.law_commute.proofs.Lists.{each_join, first_there, others_there}
use Rattle.law_commute.proofs.Orders.{picked-append}
use Rattle.law_commute.proofs.Changes.{acted, hit, not_hit}
use Rattle.law_commute.proofs.Arranged.{counted, times_counted, counted_once}
use Rattle.law_commute.proofs.Paths.{both_there}
use Rattle.law_commute.proofs.Joining.{acted-append, acted_stays, IsShared, all_shared, shared_change, independent_join}
use Rattle.law_nests.specs.Walks.{walk}
use Rattle.law_nests.specs.Nests.{JoinAsTheNest}
use Rattle.law_nests.specs.Merging.{Cells, left_by, NoneChanges, OneChanges, Merges, IndependentChunksMerge}
use Rattle.law_nests.proofs.Joined.{hidden, nests_join}
use Rattle.law_nests.proofs.Walked.{walks_leave}

-- what hits an object leaves the same in it, whatever it held
hit_alike : (y : Variable) (js : List ℕ) (ws : List Write) (c d : Option ℕ) → is_there c ≡ is_there d → hit y js ws ≡ true → acted y js ws c ≡ acted y js ws d
hit_alike y js [] c d there h = absurd (true_not_false true refl (sym h))
hit_alike y js (Declared x v ∷ ws) c d there h = hit_alike y js ws c d there h
hit_alike y js (Assigned x is v ∷ ws) c d there h = at ((y == x) && same_indexes js is) h (λ k. hit_alike y js ws c d there k)
  where
    renewed_alike : (a b : Option ℕ) → is_there a ≡ is_there b → renewed a v ≡ renewed b v
    renewed_alike None None e = refl
    renewed_alike None (Some n) e = absurd (true_not_false true refl (sym e))
    renewed_alike (Some m) None e = absurd (true_not_false true refl e)
    renewed_alike (Some m) (Some n) e = refl

    at : (b : Bool) → (b || hit y js ws) ≡ true → (hit y js ws ≡ true → acted y js ws c ≡ acted y js ws d) → acted y js ws (cond b (renewed c v) c) ≡ acted y js ws (cond b (renewed d v) d)
    at true k rest = ap (acted y js ws) (renewed_alike c d there)
    at false k rest = rest k

abbrev writes_of : List Piece → List Write
writes_of ps = flat_map (λ p. p.writes) ps

module _ (outer : State) (y : Variable) (js : List ℕ) where
  abbrev was : Option ℕ
  was = outer.cells y js

  -- what an object holds behind a piece
  abbrev left_by_piece : Piece → Option ℕ
  left_by_piece p = acted y js p.writes was

  abbrev AllKeep : List Piece → Type 0
  AllKeep ps = (k : ℕ) (p : Piece) → slice_get ps k ≡ Some p → left_by_piece p ≡ was

  -- where none does, it is as before
  all_keep : (ps : List Piece) (order : List ℕ) → AllKeep ps → acted y js (writes_of (picked ps order)) was ≡ was
  all_keep ps [] keep = refl
  all_keep ps (c ∷ cs) keep = at (slice_get ps c) refl (all_keep ps cs keep)
    where
      at : (o : Option Piece) → slice_get ps c ≡ o → acted y js (writes_of (picked ps cs)) was ≡ was → acted y js (writes_of (with_found (slice_get ps c) (picked ps cs))) was ≡ was
      at None e rest = ap (λ o. acted y js (writes_of (with_found o (picked ps cs))) was) e ∙ rest
      at (Some p) e rest =
          ap (λ o. acted y js (writes_of (with_found o (picked ps cs))) was) e
          ∙ acted-append y js p.writes (writes_of (picked ps cs)) was ∙ ap (acted y js (writes_of (picked ps cs))) (keep c p e) ∙ rest

  -- where one does and comes last, it is as that one leaves it
  last_counts : (ps : List Piece) (front : List ℕ) (k : ℕ) (p : Piece) → slice_get ps k ≡ Some p → (left_by_piece p ≡ was → ⊥) → acted y js (writes_of (picked ps (front ++ k ∷ []))) was ≡ left_by_piece p
  last_counts ps front k p e changes =
      let others = writes_of (picked ps front) in
      ap (λ l. acted y js (writes_of l) was) (picked-append ps front (k ∷ []) ∙ ap (λ o. picked ps front ++ with_found o []) e)
      ∙ ap (λ ws. acted y js ws was) (joined (picked ps front) (p ∷ []))
      ∙ acted-append y js others (p.writes ++ []) was
      ∙ acted-append y js p.writes [] (acted y js others was)
      ∙ hits (hit y js p.writes) refl (acted y js others was) (acted_stays y js others was)
    where
      joined : (qs bs : List Piece) → writes_of (qs ++ bs) ≡ writes_of qs ++ writes_of bs
      joined [] bs = refl
      joined (q ∷ qs) bs = ap (λ ws. q.writes ++ ws) (joined qs bs) ∙ sym (append_assoc q.writes (writes_of qs) (writes_of bs))

      hits : (b : Bool) → hit y js p.writes ≡ b → (c : Option ℕ) → is_there c ≡ is_there was → acted y js p.writes c ≡ left_by_piece p
      hits true h c there = hit_alike y js p.writes c was there h
      hits false h c there = absurd (changes (not_hit y js p.writes was h))

-- all numbers below n, one of them last
abbrev with_last : ℕ → ℕ → List ℕ
with_last k n = (counted 0 k ++ counted (suc k) (n - suc k)) ++ k ∷ []

last_once : (k n : ℕ) → k < n → EachOnceBelow n (with_last k n)
last_once k n lt x =
    let front = times_counted x 0 k in
    let back = times_counted x (suc k) (n - suc k) in
    let more : once_below x (suc k) ≡ once_below x k + once x k = ap (once_below x) (let e : suc k ≡ k + 1 = omega arith in e) ∙ once_below-more x k in
    let end = ap (once_below x) (let e : suc k + (n - suc k) ≡ n = omega (arith, lt) in e) in
    let start = ap (once_below x) (let e : 0 + k ≡ k = omega arith in e) in
    let none : once_below x 0 ≡ 0 = grind (arith, nat_tests) in
    omega (arith, front, back, more, end, start, none, times-append x (counted 0 k ++ counted (suc k) (n - suc k)) (k ∷ []), times-append x (counted 0 k) (counted (suc k) (n - suc k)))

below_length : {A : Type 0} (xs : List A) (k : ℕ) (x : A) → slice_get xs k ≡ Some x → k < length xs
below_length [] k x e = absurd (none-some x e)
below_length (y ∷ ys) zero x e = omega arith
below_length (y ∷ ys) (suc k) x e = let r = below_length ys k x e in omega arith

same_length : {A B : Type 0} (f : A → Option B) (xs : List A) (ys : List B) → map f xs ≡ map Some ys → length ys ≡ length xs
same_length f xs ys e = sym (mapped Some ys) ∙ ap (λ l. length l) (sym e) ∙ mapped f xs
  where
    mapped : {C D : Type 0} (g : C → D) (zs : List C) → length (map g zs) ≡ length zs
    mapped g [] = refl
    mapped g (z ∷ zs) = let r = mapped g zs in omega arith

module _ (loops : List Loop) (body : Stmt) (outer : State) where
  -- pieces write what is shared
  shared_writes : (chunks : List (List Vector)) (ps : List Piece) → map (piece (plain_loop loops body) outer) chunks ≡ map Some ps → Each (λ (p : Piece). Each (IsShared outer) p.writes) ps
  shared_writes [] [] e = tt
  shared_writes [] (p ∷ ps) e = absurd cc
  shared_writes (c ∷ cs) [] e = absurd cc
  shared_writes (c ∷ cs) (p ∷ ps) e = (one (run_iterations loops body c outer) (first_there (piece (plain_loop loops body) outer) c cs p ps e), shared_writes cs ps (others_there (piece (plain_loop loops body) outer) c cs p ps e))
    where
      one : (o : Option Effect) → map_option (piece_of no_roles outer) o ≡ Some p → Each (IsShared outer) p.writes
      one None k = absurd (none-some p k)
      one (Some f) k = subst (λ (q : Piece). Each (IsShared outer) q.writes) (same_Some (piece_of no_roles outer f) p k) (all_shared outer f.writes)

  found_shared : (qs : List Piece) (k : ℕ) (p : Piece) → slice_get qs k ≡ Some p → Each (λ (q : Piece). Each (IsShared outer) q.writes) qs → Each (IsShared outer) p.writes
  found_shared [] k p e g = absurd (none-some p e)
  found_shared (q ∷ qs) zero p e g = subst (λ (z : Piece). Each (IsShared outer) z.writes) (same_Some q p e) g.0
  found_shared (q ∷ qs) (suc k) p e g = found_shared qs k p e g.1

  shared_picked : (ps : List Piece) (order : List ℕ) → Each (λ (p : Piece). Each (IsShared outer) p.writes) ps → Each (IsShared outer) (writes_of (picked ps order))
  shared_picked ps [] h = tt
  shared_picked ps (c ∷ cs) h = at (slice_get ps c) refl (shared_picked ps cs h)
    where
      at : (o : Option Piece) → slice_get ps c ≡ o → Each (IsShared outer) (writes_of (picked ps cs)) → Each (IsShared outer) (writes_of (with_found (slice_get ps c) (picked ps cs)))
      at None e rest = subst (λ o. Each (IsShared outer) (writes_of (with_found o (picked ps cs)))) (sym e) rest
      at (Some p) e rest =
          subst (λ o. Each (IsShared outer) (writes_of (with_found o (picked ps cs)))) (sym e)
          (each_join (IsShared outer) p.writes (writes_of (picked ps cs)) (found_shared ps c p e h) rest)

  cells_behind : (ws : List Write) → Each (IsShared outer) ws → (y : Variable) (js : List ℕ) → (overwritten outer ws).cells y js ≡ acted y js ws (outer.cells y js)
  cells_behind ws h y js = (shared_change outer ws outer h (λ x. refl)).cells y js

-- an iteration has a value for each loop
abbrev HasValues : List Loop → Vector → Type 0
HasValues ls u = length u ≡ length ls

longer : (l : Loop) (ls : List Loop) (v : ℕ) (ws : List Vector) → Each (HasValues ls) ws → Each (HasValues (l ∷ ls)) (map (λ us. v ∷ us) ws)
longer l ls v [] h = tt
longer l ls v (w ∷ ws) h = (let e = h.0 in omega (arith, e), longer l ls v ws h.1)

abbrev inner_iterations : List Loop → State → Variable → ℕ → Option (List Vector)
inner_iterations ls s x v = map_option (map (λ us. v ∷ us)) (iterations ls (at_value s x v))

longer_all : (l : Loop) (ls : List Loop) (s : State) → ((t : State) (zs : List Vector) → iterations ls t ≡ Some zs → Each (HasValues ls) zs)
    → (vs : List ℕ) (ws : List Vector) → concat_options (map (inner_iterations ls s l.variable) vs) ≡ Some ws → Each (HasValues (l ∷ ls)) ws
longer_all l ls s h [] ws k = subst (Each (HasValues (l ∷ ls))) (same_Some [] ws k) tt
longer_all l ls s h (v ∷ vs) ws k =
    let parts = both_there (λ a b. a ++ b) (inner_iterations ls s l.variable v) (concat_options (map (inner_iterations ls s l.variable) vs)) ws k in
    subst (Each (HasValues (l ∷ ls))) parts.is
    (each_join (HasValues (l ∷ ls)) parts.left parts.right (one (iterations ls (at_value s l.variable v)) parts.left (λ zs m. h (at_value s l.variable v) zs m) parts.first) (longer_all l ls s h vs parts.right parts.second))
  where
    one : (o : Option (List Vector)) (zs : List Vector) → ((xs : List Vector) → o ≡ Some xs → Each (HasValues ls) xs) → map_option (map (λ us. v ∷ us)) o ≡ Some zs → Each (HasValues (l ∷ ls)) zs
    one None zs m e = absurd (none-some zs e)
    one (Some xs) zs m e = subst (Each (HasValues (l ∷ ls))) (same_Some (map (λ us. v ∷ us) xs) zs e) (longer l ls v xs (m xs refl))

lengths : (ls : List Loop) (s : State) (us : List Vector) → iterations ls s ≡ Some us → Each (HasValues ls) us
lengths [] s us e = subst (Each (HasValues [])) (same_Some ([] ∷ []) us e) (refl, tt)
lengths (l ∷ ls) s us e = at (loop_values l s) e (λ t zs k. lengths ls t zs k)
  where
    at : (o : Option (List ℕ)) → option_and_then (λ vs. concat_options (map (inner_iterations ls s l.variable) vs)) o ≡ Some us
        → ((t : State) (zs : List Vector) → iterations ls t ≡ Some zs → Each (HasValues ls) zs) → Each (HasValues (l ∷ ls)) us
    at None k h = absurd (none-some us k)
    at (Some vs) k h = longer_all l ls s h vs us k

-- of lists one behind another, the first and the others
first_pairs : {A : Type 0} (R : A → A → Type 0) (xs ys : List A) → AllPairs R (xs ++ ys) → AllPairs R xs
first_pairs R xs ys h i j d lt below =
    let long = length-append xs ys in
    let e = get_or_append_left xs ys d i (omega (arith, lt, below)) in
    let f = get_or_append_left xs ys d j below in
    subst (λ z. R z (slice_index_or xs j d)) e (subst (λ z. R (slice_index_or (xs ++ ys) i d) z) f (h i j d lt (omega (arith, long, below))))

other_pairs : {A : Type 0} (R : A → A → Type 0) (xs ys : List A) → AllPairs R (xs ++ ys) → AllPairs R ys
other_pairs R xs ys h i j d lt below =
    let long = length-append xs ys in
    let e = get_or-append-add xs ys i d in
    let f = get_or-append-add xs ys j d in
    subst (λ z. R z (slice_index_or ys j d)) e (subst (λ z. R (slice_index_or (xs ++ ys) (length xs + i) d) z) f (h (length xs + i) (length xs + j) d (omega (arith, lt)) (omega (arith, long, below))))

-- what is known of a nest
record Known (n : ℕ) (s : Stmt) (loops : List Loop) (body : Stmt) (outer : State) (us : List Vector) : Type 0 where
  nest : nest_of n s ≡ Some (loops, body)
  keeps : KeepsToItself s
  own : KeepsToItself body
  locals_alone : DeclaresLocals s outer
  body_locals : DeclaresLocals body outer
  long : (u : Vector) → Contains us u → length u ≡ length loops
  turning : (u : Vector) → Contains us u → InnerLoopsTurn loops body outer u
  independent : (u v : Vector) → Contains us u → Contains us v → Conflict loops body outer u v → ⊥

module _ (n : ℕ) (s : Stmt) (loops : List Loop) (body : Stmt) (outer : State) (us : List Vector) (known : Known n s loops body outer us) where
  -- an effect leaves what a piece leaves
  abbrev Alike : Effect → Piece → Type 0
  Alike e p = (y : Variable) (js : List ℕ) → left_by outer e y js ≡ (overwritten outer p.writes).cells y js

  abbrev AreAlike : List Effect → List Piece → Type 0
  AreAlike [] [] = Unit {0}
  AreAlike [] (p ∷ ps) = ⊥
  AreAlike (e ∷ es) [] = ⊥
  AreAlike (e ∷ es) (p ∷ ps) = Alike e p × AreAlike es ps

  -- a chunk's walk, with its piece
  record Walked (vs : List Vector) (p : Piece) : Type 0 where
    effect : Effect
    ran : walk loops body vs outer ≡ Some effect
    alike : Alike effect p
    text : effect.text ≡ p.text

  single : (vs : List Vector) (p : Piece) (ps : List Piece) → map (piece (plain_loop loops body) outer) (vs ∷ []) ≡ map Some ps → piece (plain_loop loops body) outer vs ≡ Some p → ps ≡ p ∷ []
  single vs p [] e is = absurd cc
  single vs p (q ∷ r ∷ qs) e is = absurd cc
  single vs p (q ∷ []) e is = cc

  walked : (vs : List Vector) (p : Piece) → AllPairs (λ u v. u ≢ v) vs → ((u : Vector) → Contains vs u → Contains us u) → piece (plain_loop loops body) outer vs ≡ Some p → Walked vs p
  walked vs p apart within is = at (run_iterations loops body vs outer) refl is
    where
      at : (o : Option Effect) → run_iterations loops body vs outer ≡ o → map_option (piece_of no_roles outer) o ≡ Some p → Walked vs p
      at None ran e = absurd (none-some p e)
      at (Some f) ran e =
          let walks = walks_leave n s loops body outer vs f known.nest known.keeps known.own known.locals_alone (λ u h. (known.long u (within u h), known.turning u (within u h))) ran in
          let joins = independent_join loops body outer vs (vs ∷ []) f known.own apart (λ u h. known.turning u (within u h)) (λ u v h k. known.independent u v (within u h) (within v k)) known.body_locals (append-nil vs) ran in
          let alone = single vs p joins.pieces joins.each is in
          record {
            effect = walks.effect;
            ran = walks.ran;
            alike = λ y js. walks.cells y js ∙ (joins.leave (0 ∷ []) (counted_once 1)).cells y js ∙ ap (λ (ps : List Piece). (overwritten outer (writes_of (picked ps (0 ∷ [])))).cells y js) alone ∙ ap (λ ws. (overwritten outer ws).cells y js) (append-nil p.writes);
            text = walks.text ∙ ap (λ (q : Piece). q.text) (same_Some (piece_of no_roles outer f) p e);
          }

  record Apart (chunks : List (List Vector)) (ps : List Piece) : Type 0 where
    effects : List Effect
    each : map (λ vs. walk loops body vs outer) chunks ≡ map Some effects
    alike : AreAlike effects ps
    text : flat_map (λ (f : Effect). f.text) effects ≡ joined_text ps

  apart : (chunks : List (List Vector)) (ps : List Piece) → AllPairs (λ u v. u ≢ v) (flat_map (λ vs. vs) chunks) → ((u : Vector) → Contains (flat_map (λ vs. vs) chunks) u → Contains us u)
      → map (piece (plain_loop loops body) outer) chunks ≡ map Some ps → Apart chunks ps
  apart [] [] different within e = record { effects = []; each = refl; alike = tt; text = refl }
  apart [] (p ∷ ps) different within e = absurd cc
  apart (vs ∷ chunks) [] different within e = absurd cc
  apart (vs ∷ chunks) (p ∷ ps) different within e =
      let others = flat_map (λ (vs : List Vector). vs) chunks in
      let one = walked vs p (first_pairs (λ u v. u ≢ v) vs others different) (λ u h. within u (Contains-append_left vs others u h)) (first_there (piece (plain_loop loops body) outer) vs chunks p ps e) in
      let rest = apart chunks ps (other_pairs (λ u v. u ≢ v) vs others different) (λ u h. within u (Contains-append_right vs others u h)) (others_there (piece (plain_loop loops body) outer) vs chunks p ps e) in
      record { effects = one.effect ∷ rest.effects; each = λ i. one.ran i ∷ rest.each i; alike = (one.alike, rest.alike); text = λ i. one.text i ++ rest.text i }

  -- the piece of an effect, and the effect of a piece
  record Beside (es : List Effect) (ps : List Piece) (k : ℕ) (e : Effect) : Type 0 where
    own : Piece
    is : slice_get ps k ≡ Some own
    alike : Alike e own

  beside : (es : List Effect) (ps : List Piece) → AreAlike es ps → (k : ℕ) (e : Effect) → slice_get es k ≡ Some e → Beside es ps k e
  beside [] [] h k e is = absurd (none-some e is)
  beside [] (p ∷ ps) h k e is = absurd h
  beside (f ∷ es) [] h k e is = absurd h
  beside (f ∷ es) (p ∷ ps) h zero e is = record { own = p; is = refl; alike = subst (λ g. Alike g p) (same_Some f e is) h.0 }
  beside (f ∷ es) (p ∷ ps) h (suc k) e is = let r = beside es ps h.1 k e is in record { own = r.own; is = r.is; alike = r.alike }

  record Before (es : List Effect) (ps : List Piece) (k : ℕ) (p : Piece) : Type 0 where
    own : Effect
    is : slice_get es k ≡ Some own
    alike : Alike own p

  before : (es : List Effect) (ps : List Piece) → AreAlike es ps → (k : ℕ) (p : Piece) → slice_get ps k ≡ Some p → Before es ps k p
  before [] [] h k p is = absurd (none-some p is)
  before [] (q ∷ ps) h k p is = absurd h
  before (f ∷ es) [] h k p is = absurd h
  before (f ∷ es) (q ∷ ps) h zero p is = record { own = f; is = refl; alike = subst (λ z. Alike f z) (same_Some q p is) h.0 }
  before (f ∷ es) (q ∷ ps) h (suc k) p is = let r = before es ps h.1 k p is in record { own = r.own; is = r.is; alike = r.alike }

  merged : (chunks : List (List Vector)) (e : Effect) (join : JoinAsTheNest s loops body chunks outer e) (es : List Effect) → AreAlike es join.pieces
      → (after : Cells) → Merges outer es after → (y : Variable) (js : List ℕ) → after y js ≡ left_by outer e y js
  merged chunks e join es alike after merges y js = at (merges y js)
    where
      ps : List Piece
      ps = join.pieces

      shared : Each (λ (p : Piece). Each (IsShared outer) p.writes) ps
      shared = shared_writes loops body outer chunks ps join.each

      count : length ps ≡ length chunks
      count = same_length (piece (plain_loop loops body) outer) chunks ps join.each

      joined_cells : (order : List ℕ) → EachOnceBelow (length chunks) order → left_by outer e y js ≡ acted y js (writes_of (picked ps order)) (outer.cells y js)
      joined_cells order once = (join.leave order once).cells y js ∙ cells_behind loops body outer (writes_of (picked ps order)) (shared_picked loops body outer ps order shared) y js

      own_cells : (k : ℕ) (p : Piece) → slice_get ps k ≡ Some p → (overwritten outer p.writes).cells y js ≡ acted y js p.writes (outer.cells y js)
      own_cells k p is = cells_behind loops body outer p.writes (found_shared loops body outer ps k p is shared) y js

      at : ((NoneChanges outer es y js) × (after y js ≡ outer.cells y js)) ⊎ OneChanges outer es after y js → after y js ≡ left_by outer e y js
      at (inr c) =
          let mine = beside es ps alike c.number c.effect c.among in
          let own = own_cells c.number mine.own mine.is in
          let lt : c.number < length chunks = omega (arith, below_length ps c.number mine.own mine.is, count) in
          let changes : left_by_piece outer y js mine.own ≡ outer.cells y js → ⊥ = λ k. c.changes (mine.alike y js ∙ own ∙ k) in
          c.leaves ∙ mine.alike y js ∙ own
          ∙ sym (last_counts outer y js ps (counted 0 c.number ++ counted (suc c.number) (length chunks - suc c.number)) c.number mine.own mine.is changes)
          ∙ sym (joined_cells (with_last c.number (length chunks)) (last_once c.number (length chunks) lt))
      at (inl none) =
          let keep : AllKeep outer y js ps = λ k p is. let mine = before es ps alike k p is in sym (own_cells k p is) ∙ sym (mine.alike y js) ∙ none.0 k mine.own mine.is in
          none.1 ∙ sym (all_keep outer y js ps (counted 0 (length chunks)) keep) ∙ sym (joined_cells (counted 0 (length chunks)) (counted_once (length chunks)))

-- what is visible round a nest is as it was
locals_kept : (s : Stmt) (loops : List Loop) (body : Stmt) (outer : State) (chunks : List (List Vector)) (e : Effect) → JoinAsTheNest s loops body chunks outer e
    → (x : Variable) → visible_behind s x ≡ true → (overwritten outer e.writes).locals x ≡ outer.locals x
locals_kept s loops body outer chunks e join x seen =
    let order = counted 0 (length chunks) in
    let shared = shared_picked loops body outer join.pieces order (shared_writes loops body outer chunks join.pieces join.each) in
    (join.leave order (counted_once (length chunks))).values x (and_true (visible_behind s x) seen)
    ∙ (shared_change outer (writes_of (picked join.pieces order)) outer shared (λ y. refl)).locals x
  where
    and_true : (b : Bool) → b ≡ true → (b && true) ≡ true
    and_true true h = refl
    and_true false h = h

pub chunks_merge : IndependentChunksMerge
chunks_merge n s loops body outer us chunks e nest keeps own locals_alone are different turning independent whole ran =
    let join = nests_join n s loops body outer us chunks e nest keeps own locals_alone are different turning independent whole ran in
    let known : Known n s loops body outer us = record {
      nest = nest;
      keeps = keeps;
      own = own;
      locals_alone = locals_alone;
      body_locals = λ x h. locals_alone x (hidden n s loops body nest x h);
      long = λ u h. contained (All-from_recursion (HasValues loops) us (lengths loops outer us are)) u h;
      turning = turning;
      independent = independent;
    } in
    let found = apart n s loops body outer us known chunks join.pieces (subst (AllPairs (λ u v. u ≢ v)) (sym whole) different) (λ u h. subst (λ l. Contains l u) whole h) join.each in
    record { effects = found.effects; each = found.each; merge = merged n s loops body outer us known chunks e join found.effects found.alike; locals = λ x h other. locals_kept s loops body outer chunks e join x h; text = sym (found.text ∙ join.text) }
  where
    contained : All (λ (u : Vector). length u ≡ length loops) us → (u : Vector) → Contains us u → length u ≡ length loops
    contained h u k = ap (λ l. length l) (sym k.2) ∙ h k.0 u k.1
