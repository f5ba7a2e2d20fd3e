-- Every whole list of events ends in the join of all chunks, in the order of their arrival.
use Rattle.std.specs.Prelude.{ℕ, zero, suc, Bool, true, false, ◌≡◌, ◌==◌, ◌<◌, ◌≤◌, List, [], ◌∷◌, ◌++◌, length, map, take, drop, flat_map, filter_map, Option, Some, None, slice_get}
use Rattle.std.specs.List.{cons_option}
use Rattle.std.proofs.Common.{refl, sym, ap, ◌∙◌, subst, cond, arith, append-nil}
use Rattle.std.proofs.lemmas.Bool.Decides.{nat_tests}
use Rattle.std.proofs.lemmas.Bool.{eqb-true}
use Rattle.std.proofs.lemmas.List.{append_assoc}
use Rattle.std.proofs.lemmas.Option.{same_Some}
use Rattle.semantics.specs.Tree.{Variable}
use Rattle.semantics.specs.Meaning.State.{State, overwritten, look}
use Rattle.semantics.specs.Meaning.Value.{map_option}
use Rattle.semantics.specs.Meaning.Places.{below}
use Rattle.semantics.specs.Loops.Nest.{Vector}
use Rattle.semantics.specs.Loops.Arrangement.{times, once, once_below, EachOnceBelow, picked, with_found}
use Rattle.semantics.specs.Loops.Operator.{ReduceOp, combined, combined_all}
use Rattle.semantics.specs.Loops.OperatorLaw.{operators_are_lawful}
use Rattle.semantics.specs.Loops.Piece.{Roles, SharedLoop, Piece, piece, piece_of, chunk_start, run_iterations}
use Rattle.semantics.specs.Loops.Scan.{scan_partials, second_pieces}
use Rattle.semantics.specs.Loops.Joined.{value_at, given, with_reductions, with_writes, with_last_values, joined_text}
use Rattle.semantics.specs.Teams.Machine.{Merge, Event, Job, no_merge, merge_one, merge_all, merged_partial, merged_partials, numbered, by_number, with_merged, IsWhole}
use Rattle.semantics.specs.Teams.WholeRuns.{after, AreOwn, MergesArrived, IsJob, WholeListsJoin, WholeListsScan, EveryOrder}
use Rattle.semantics.proofs.MachineLaw.{merges_what_arrived}
use Rattle.semantics.proofs.TakeLaw.{whole_lists_arrive, takes_each_once}
use Rattle.semantics.proofs.TicketLaw.{draws_each_once}
use Rattle.semantics.proofs.FlagLaw.{flag_is_true}

-- what was merged: the writes in order, and each piece beside its number
merged_writes : (ops : List ReduceOp) (m : Merge) (ps : List (ℕ × Piece)) → (merge_all ops m ps).writes ≡ m.writes ++ flat_map (λ p. p.1.writes) ps
merged_writes ops m [] = sym (append-nil m.writes)
merged_writes ops m (p ∷ ps) = merged_writes ops (merge_one ops m p.0 p.1) ps ∙ append_assoc m.writes p.1.writes (flat_map (λ q. q.1.writes) ps)

merged_pieces : (ops : List ReduceOp) (m : Merge) (ps : List (ℕ × Piece)) → (merge_all ops m ps).pieces ≡ m.pieces ++ ps
merged_pieces ops m [] = sym (append-nil m.pieces)
merged_pieces ops m (p ∷ ps) = merged_pieces ops (merge_one ops m p.0 p.1) ps ∙ append_assoc m.pieces ((p.0, p.1) ∷ []) ps

-- the pieces that arrived are those of their numbers
picked_own : (job : Job) (ps : List (ℕ × Piece)) → AreOwn job ps → picked job.pieces (map (λ p. p.0) ps) ≡ map (λ p. p.1) ps
picked_own job [] h = refl
picked_own job (p ∷ ps) h = ap (λ o. with_found o (picked job.pieces (map (λ q. q.0) ps))) h.0 ∙ ap (λ l. p.1 ∷ l) (picked_own job ps h.1)

numbered_own : (job : Job) (ps : List (ℕ × Piece)) (c : ℕ) → AreOwn job ps → 0 < times c (map (λ p. p.0) ps) → numbered ps c ≡ slice_get job.pieces c
numbered_own job [] c h some_times = absurd (omega arith)
numbered_own job (p ∷ ps) c h some_times = go (p.0 == c) refl (λ more. numbered_own job ps c h.1 more)
  where
    go : (b : Bool) → (p.0 == c) ≡ b → (0 < times c (map (λ q. q.0) ps) → numbered ps c ≡ slice_get job.pieces c) → cond b (Some p.1) (numbered ps c) ≡ slice_get job.pieces c
    go true e rest = sym h.0 ∙ ap (λ n. slice_get job.pieces n) (eqb-true p.0 c e)
    go false e rest = let none : once c p.0 ≡ 0 = grind (arith, nat_tests) in rest (omega arith)

filter_map_append : {A B : Type 0} (f : A → Option B) (xs ys : List A) → filter_map f (xs ++ ys) ≡ filter_map f xs ++ filter_map f ys
filter_map_append f [] ys = refl
filter_map_append f (x ∷ xs) ys = one (f x) (filter_map_append f xs ys)
  where
    one : (o : Option _) → filter_map f (xs ++ ys) ≡ filter_map f xs ++ filter_map f ys → cons_option o (filter_map f (xs ++ ys)) ≡ cons_option o (filter_map f xs) ++ filter_map f ys
    one None h = h
    one (Some b) h = ap (λ l. b ∷ l) h

inside : (xs : List Piece) (i : ℕ) → i < length xs → (x : Piece) × (slice_get xs i ≡ Some x)
inside [] i lt = absurd (omega arith)
inside (x ∷ xs) zero lt = (x, refl)
inside (x ∷ xs) (suc i) lt = inside xs i (omega arith)

take_more : (xs : List Piece) (i : ℕ) (x : Piece) → slice_get xs i ≡ Some x → take (suc i) xs ≡ take i xs ++ x ∷ []
take_more [] i x e = absurd cc
take_more (y ∷ ys) zero x e = let same = same_Some _ _ e in ap (λ z. z ∷ []) same
take_more (y ∷ ys) (suc i) x e = ap (λ l. y ∷ l) (take_more ys i x e)

-- all of them, by number
in_order : (f : ℕ → Option Piece) (xs : List Piece) (n : ℕ) → n ≤ length xs → ((c : ℕ) → c < n → f c ≡ slice_get xs c) → filter_map f (below n) ≡ take n xs
in_order f xs zero le h = refl
in_order f xs (suc n) le h =
    let x = inside xs n (omega arith) in
    filter_map_append f (below n) (n ∷ [])
    ∙ (λ i. in_order f xs n (omega arith) (λ c lt. h c (omega arith)) i ++ cons_option ((h n (omega arith) ∙ x.1) i) [])
    ∙ sym (take_more xs n x.0 x.1)

take_full : (xs : List Piece) → take (length xs) xs ≡ xs
take_full [] = refl
take_full (x ∷ xs) = ap (λ l. x ∷ l) (take_full xs)

-- a list's first, and what is behind it
abbrev first_of : List (Option ℕ) → Option ℕ
first_of [] = None
first_of (x ∷ xs) = x

abbrev rest_of : List (Option ℕ) → List (Option ℕ)
rest_of [] = []
rest_of (x ∷ xs) = xs

first_dropped : (i : ℕ) (xs : List (Option ℕ)) → first_of (drop i xs) ≡ value_at i xs
first_dropped zero [] = refl
first_dropped zero (x ∷ xs) = refl
first_dropped (suc i) [] = refl
first_dropped (suc i) (x ∷ xs) = first_dropped i xs

rest_dropped : (i : ℕ) (xs : List (Option ℕ)) → rest_of (drop i xs) ≡ drop (suc i) xs
rest_dropped zero [] = refl
rest_dropped zero (x ∷ xs) = refl
rest_dropped (suc i) [] = refl
rest_dropped (suc i) (x ∷ xs) = rest_dropped i xs

map_both : {A B C : Type 0} (f : B → C) (g : A → B) (h : A → C) → ((a : A) → f (g a) ≡ h a) → (xs : List A) → map f (map g xs) ≡ map h xs
map_both f g h same [] = refl
map_both f g h same (x ∷ xs) = λ i. same x i ∷ map_both f g h same xs i

map_option_same : (f g : ℕ → ℕ) → ((v : ℕ) → f v ≡ g v) → (o : Option ℕ) → map_option f o ≡ map_option g o
map_option_same f g same None = refl
map_option_same f g same (Some v) = ap Some (same v)

-- reductions with what was merged so far, and with what is still to come
abbrev with_columns : List (Variable × ReduceOp) → List (Option ℕ) → List (List (Option ℕ)) → State → State → State
with_columns [] acc qs before s = s
with_columns (r ∷ rs) [] qs before s = s
with_columns (r ∷ rs) (a ∷ acc) qs before s =
    with_columns rs acc (map rest_of qs) before
    (given s r.0 (map_option (λ v. combined_all r.1 (combined r.1 v a) (map first_of qs)) (look before r.0 [])))

none_to_come : (rs : List (Variable × ReduceOp)) (acc : List (Option ℕ)) (before s : State) → with_merged rs acc before s ≡ with_columns rs acc [] before s
none_to_come [] acc before s = refl
none_to_come (r ∷ rs) [] before s = refl
none_to_come (r ∷ rs) (a ∷ acc) before s = none_to_come rs acc before (given s r.0 (map_option (λ v. combined r.1 v a) (look before r.0 [])))

-- a partial that is merged first is combined first
merged_first : (op : ReduceOp) (v : ℕ) (a b : Option ℕ) → combined op v (merged_partial op a b) ≡ combined op (combined op v a) b
merged_first op v None b = refl
merged_first op v (Some x) None = refl
merged_first op v (Some x) (Some y) = sym ((operators_are_lawful op).associative v x y)

abbrev ops_of : List (Variable × ReduceOp) → List ReduceOp
ops_of rs = map (λ r. r.1) rs

one_merged : (rs : List (Variable × ReduceOp)) (acc q : List (Option ℕ)) (qs : List (List (Option ℕ))) (before s : State) → length acc ≡ length rs → length q ≡ length rs
    → with_columns rs (merged_partials (ops_of rs) acc q) qs before s ≡ with_columns rs acc (q ∷ qs) before s
one_merged [] acc q qs before s e f = refl
one_merged (r ∷ rs) [] q qs before s e f = absurd (omega arith)
one_merged (r ∷ rs) (a ∷ acc) [] qs before s e f = absurd (omega arith)
one_merged (r ∷ rs) (a ∷ acc) (b ∷ q) qs before s e f =
    one_merged rs acc q (map rest_of qs) before (given s r.0 (map_option (λ v. combined_all r.1 (combined r.1 v (merged_partial r.1 a b)) (map first_of qs)) (look before r.0 []))) (omega arith) (omega arith)
    ∙ ap (λ o. with_columns rs acc (q ∷ map rest_of qs) before (given s r.0 o))
    (map_option_same (λ v. combined_all r.1 (combined r.1 v (merged_partial r.1 a b)) (map first_of qs)) (λ v. combined_all r.1 (combined r.1 (combined r.1 v a) b) (map first_of qs))
    (λ v. ap (λ n. combined_all r.1 n (map first_of qs)) (merged_first r.1 v a b)) (look before r.0 []))

abbrev folded : List ReduceOp → List (Option ℕ) → List Piece → List (Option ℕ)
folded ops acc [] = acc
folded ops acc (p ∷ ps) = folded ops (merged_partials ops acc p.partials) ps

merged_folded : (ops : List ReduceOp) (m : Merge) (ps : List (ℕ × Piece)) → (merge_all ops m ps).partials ≡ folded ops m.partials (map (λ p. p.1) ps)
merged_folded ops m [] = refl
merged_folded ops m (p ∷ ps) = merged_folded ops (merge_one ops m p.0 p.1) ps

merged_length : (rs : List (Variable × ReduceOp)) (acc q : List (Option ℕ)) → length acc ≡ length rs → length q ≡ length rs → length (merged_partials (ops_of rs) acc q) ≡ length rs
merged_length [] acc q e f = refl
merged_length (r ∷ rs) [] q e f = absurd (omega arith)
merged_length (r ∷ rs) (a ∷ acc) [] e f = absurd (omega arith)
merged_length (r ∷ rs) (a ∷ acc) (b ∷ q) e f = let h = merged_length rs acc q (omega arith) (omega arith) in omega arith

-- as many partials as reductions, in each piece
abbrev AreLong : ℕ → List Piece → Type 0
AreLong n [] = Unit {0}
AreLong n (p ∷ ps) = (length p.partials ≡ n) × AreLong n ps

all_merged : (rs : List (Variable × ReduceOp)) (acc : List (Option ℕ)) (ps : List Piece) (before s : State) → length acc ≡ length rs → AreLong (length rs) ps
    → with_merged rs (folded (ops_of rs) acc ps) before s ≡ with_columns rs acc (map (λ p. p.partials) ps) before s
all_merged rs acc [] before s e h = none_to_come rs acc before s
all_merged rs acc (p ∷ ps) before s e h =
    all_merged rs (merged_partials (ops_of rs) acc p.partials) ps before s (merged_length rs acc p.partials e h.0) h.1
    ∙ one_merged rs acc p.partials (map (λ q. q.partials) ps) before s e h.0

by_index : (rs : List (Variable × ReduceOp)) (i : ℕ) (ps : List Piece) (before s : State) → with_columns rs (map (λ r. None) rs) (map (λ p. drop i p.partials) ps) before s ≡ with_reductions i rs ps before s
by_index [] i ps before s = refl
by_index (r ∷ rs) i ps before s =
    ap (λ qs. with_columns rs (map (λ q. None) rs) qs before (given s r.0 (map_option (λ v. combined_all r.1 v (map first_of (map (λ p. drop i p.partials) ps))) (look before r.0 []))))
    (map_both rest_of (λ (p : Piece). drop i p.partials) (λ p. drop (suc i) p.partials) (λ p. rest_dropped i p.partials) ps)
    ∙ ap (λ vs. with_columns rs (map (λ q. None) rs) (map (λ p. drop (suc i) p.partials) ps) before (given s r.0 (map_option (λ v. combined_all r.1 v vs) (look before r.0 []))))
    (map_both first_of (λ (p : Piece). drop i p.partials) (λ p. value_at i p.partials) (λ p. first_dropped i p.partials) ps)
    ∙ by_index rs (suc i) ps before (given s r.0 (map_option (λ v. combined_all r.1 v (map (λ p. value_at i p.partials) ps)) (look before r.0 [])))

length_mapped : {A B : Type 0} (f : A → B) (xs : List A) → length (map f xs) ≡ length xs
length_mapped f [] = refl
length_mapped f (x ∷ xs) = ap suc (length_mapped f xs)

writes_of : (ps : List (ℕ × Piece)) → flat_map (λ p. p.1.writes) ps ≡ flat_map (λ p. p.writes) (map (λ p. p.1) ps)
writes_of [] = refl
writes_of (p ∷ ps) = ap (λ l. p.1.writes ++ l) (writes_of ps)

none_dropped : (xs : List (Option ℕ)) → xs ≡ drop 0 xs
none_dropped [] = refl
none_dropped (x ∷ xs) = refl

map_same : {A B : Type 0} (f g : A → B) → ((a : A) → f a ≡ g a) → (xs : List A) → map f xs ≡ map g xs
map_same f g same [] = refl
map_same f g same (x ∷ xs) = λ i. same x i ∷ map_same f g same xs i

-- each piece of a loop has a partial for each reduction
long_piece : (roles : Roles) (start : State) (o : Option _) (p : Piece) → map_option (piece_of roles start) o ≡ Some p → length p.partials ≡ length roles.reductions
long_piece roles start None p e = absurd cc
long_piece roles start (Some f) p e = ap (λ (q : Piece). length q.partials) (sym (same_Some _ _ e)) ∙ length_mapped _ roles.reductions

long_at : (loop : SharedLoop) (state : State) (chunks : List (List Vector)) (ps : List Piece) → map (piece loop state) chunks ≡ map Some ps → (c : ℕ) (p : Piece) → slice_get ps c ≡ Some p → length p.partials ≡ length loop.roles.reductions
long_at loop state chunks [] e c p q = absurd cc
long_at loop state [] (p ∷ ps) e c q k = absurd cc
long_at loop state (us ∷ chunks) (p ∷ ps) e zero q k =
    long_piece loop.roles (chunk_start loop.roles state) (run_iterations loop.loops loop.body us (chunk_start loop.roles state)) q (let h : piece loop state us ≡ Some p = cc in h ∙ k)
long_at loop state (us ∷ chunks) (p ∷ ps) e (suc c) q k = long_at loop state chunks ps (let h : map (piece loop state) chunks ≡ map Some ps = cc in h) c q k

all_long : (loop : SharedLoop) (state : State) (chunks : List (List Vector)) (job : Job) → map (piece loop state) chunks ≡ map Some job.pieces → (ps : List (ℕ × Piece)) → AreOwn job ps → AreLong (length loop.roles.reductions) (map (λ p. p.1) ps)
all_long loop state chunks job e [] h = tt
all_long loop state chunks job e (p ∷ ps) h = (long_at loop state chunks job.pieces e p.0 p.1 h.0, all_long loop state chunks job e ps h.1)

-- at the end of a whole list
module _ (job : Job) (events : List Event) (is : IsJob job) (whole : IsWhole job (after job events)) where
  abbrev m : Merge
  m = (after job events).merge

  all_arrived : EachOnceBelow (length job.pieces) m.arrived
  all_arrived = whole_lists_arrive job events is whole

  from : MergesArrived job m
  from = merges_what_arrived job events

  abbrev second : List Piece
  second = map (λ p. p.1) from.pieces

  picked_second : picked job.pieces m.arrived ≡ second
  picked_second = ap (picked job.pieces) from.numbers ∙ picked_own job from.pieces from.own

  numbered_all : by_number (length job.pieces) m ≡ job.pieces
  numbered_all =
      in_order (numbered m.pieces) job.pieces (length job.pieces) (omega arith)
      (λ c lt. ap (λ (ps : List (ℕ × Piece)). numbered ps c) (ap (λ (k : Merge). k.pieces) from.merge ∙ merged_pieces job.ops (no_merge job.ops) from.pieces)
      ∙ numbered_own job from.pieces c from.own
      (let once' = all_arrived c in let here = ap (times c) from.numbers in let one : once_below c (length job.pieces) ≡ 1 = grind (arith, nat_tests) in omega arith))
      ∙ take_full job.pieces

  all_writes : m.writes ≡ flat_map (λ p. p.writes) (picked job.pieces m.arrived)
  all_writes =
      ap (λ (k : Merge). k.writes) from.merge ∙ merged_writes job.ops (no_merge job.ops) from.pieces ∙ writes_of from.pieces
      ∙ ap (λ (ps : List Piece). flat_map (λ p. p.writes) ps) (sym picked_second)

  -- reductions that were merged are those that are combined in the order of arrival
  all_partials : (rs : List (Variable × ReduceOp)) → job.ops ≡ ops_of rs → AreLong (length rs) second → (before s : State) → with_merged rs m.partials before s ≡ with_reductions 0 rs (picked job.pieces m.arrived) before s
  all_partials rs ops long before s =
      ap (λ ps. with_merged rs ps before s)
      (ap (λ (k : Merge). k.partials) from.merge
      ∙ merged_folded job.ops (no_merge job.ops) from.pieces
      ∙ ap (λ os. folded os (map (λ op. None) os) second) ops
      ∙ ap (λ acc. folded (ops_of rs) acc second) (map_both (λ op. None) (λ (r : Variable × ReduceOp). r.1) (λ r. None) (λ r. refl) rs))
      ∙ all_merged rs (map (λ r. None) rs) second before s (length_mapped (λ (r : Variable × ReduceOp). None) rs) long
      ∙ ap (λ qs. with_columns rs (map (λ r. None) rs) qs before s) (map_same (λ (p : Piece). p.partials) (λ p. drop 0 p.partials) (λ p. none_dropped p.partials) second)
      ∙ by_index rs 0 second before s
      ∙ ap (λ (ps : List Piece). with_reductions 0 rs ps before s) (sym picked_second)

pub whole_lists_join : WholeListsJoin
whole_lists_join job events loop state chunks is ops each whole =
    record {
      pieces = job.pieces;
      each = each;
      all = subst (λ (n : ℕ). EachOnceBelow n (after job events).merge.arrived) (sym (length_mapped Some job.pieces) ∙ sym (ap (λ (l : List (Option Piece)). length l) each) ∙ length_mapped (piece loop state) chunks) (all_arrived job events is whole);
      state_is =
          ap (λ (ps : List Piece). with_last_values loop.roles ps (with_merged loop.roles.reductions (after job events).merge.partials state (overwritten state (after job events).merge.writes))) (numbered_all job events is whole)
          ∙ ap (λ s. with_last_values loop.roles job.pieces s)
          (ap (λ ws. with_merged loop.roles.reductions (after job events).merge.partials state (overwritten state ws)) (all_writes job events is whole)
          ∙ all_partials job events is whole loop.roles.reductions ops (all_long loop state chunks job each (from job events is whole).pieces (from job events is whole).own) state (with_writes (picked job.pieces (after job events).merge.arrived) state));
      text_is = ap joined_text (numbered_all job events is whole);
    }

length_second : (loop : SharedLoop) (x : Variable) (op : ReduceOp) (state : State) (partials : List (Option ℕ)) (c : ℕ) (chunks : List (List Vector)) → length (second_pieces loop x op state partials c chunks) ≡ length chunks
length_second loop x op state partials c [] = refl
length_second loop x op state partials c (us ∷ chunks) = ap suc (length_second loop x op state partials (suc c) chunks)

pub whole_lists_scan : WholeListsScan
whole_lists_scan job events loop x op state chunks firsts is ops only first_pass second_pass whole =
    record {
      only = only;
      firsts = firsts;
      first_pass = first_pass;
      pieces = job.pieces;
      second_pass = second_pass;
      all = subst (λ (n : ℕ). EachOnceBelow n (after job events).merge.arrived)
          (sym (length_mapped Some job.pieces) ∙ sym (ap (λ (l : List (Option Piece)). length l) second_pass) ∙ length_second loop x op state (scan_partials firsts) 0 chunks)
          (all_arrived job events is whole);
      state_is =
          ap (λ s. given s x (map_option (λ v. combined_all op v (scan_partials firsts)) (look state x [])))
          (ap (λ (ps : List Piece). with_last_values loop.roles ps (overwritten state (after job events).merge.writes)) (numbered_all job events is whole)
          ∙ ap (λ ws. with_last_values loop.roles job.pieces (overwritten state ws)) (all_writes job events is whole));
      text_is = ap joined_text (numbered_all job events is whole);
    }

-- all of it, for every job and every list of events
pub every_order : EveryOrder
every_order = (draws_each_once, takes_each_once, merges_what_arrived, whole_lists_arrive, whole_lists_join, whole_lists_scan, flag_is_true)
