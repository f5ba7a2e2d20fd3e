-- A dump's lines as they are put, part by part.
use Rattle.std.specs.Prelude.{ℕ, zero, suc, ◌≡◌, ◌+◌, ◌<◌, List, [], ◌∷◌, ◌++◌, length, map, flat_map, take, drop, Some, string_bytes}
use Rattle.std.proofs.Common.{refl, sym, ap, ◌∙◌, subst, arith, append_assoc, append-nil, get_or, add-one}
use Rattle.std.specs.Fmt.{decimal}
use Rattle.std.proofs.lemmas.Grind.{flat_map-append}
use Rattle.std.proofs.lemmas.List.{take-append-drop}
use Rattle.std.proofs.Math.Seq.{take-suc}
use Rattle.std.proofs.lemmas.Option.{slice_get_read}
use Rattle.semantics.specs.Tree as Tree
use Rattle.semantics.specs.Meaning.State.{State}
use Rattle.semantics.specs.Meaning.Places.{size, all_indexes}
use Rattle.semantics.specs.Meaning.Output.{cell_text, dump_line, dump_from}
use Rattle.ktree.specs.declared.statement.Declaration.{Declaration}
use Rattle.ktree.specs.View.{declaration_of}
use Rattle.store.specs.Kept.{Kept, cell_of, state_of}
use Rattle.seqrun_io.specs.Told.{AddsBeginning, Holds}
use Rattle.seqrun_io.specs.Lines.{HasLengths, value_text, line_of}
use Rattle.seqrun_io.proofs.Beginnings.{of_front, on_held, more_held}
use Rattle.seqrun_io.proofs.Rows.{kept_text}

-- the values so far, and one more
pub values_more : (held vs : List ℕ) (i : ℕ) → i < length vs → held ++ flat_map value_text (take (i + 1) vs) ≡ ((held ++ flat_map value_text (take i vs)) ++ 32 ∷ []) ++ decimal (get_or vs i 0)
values_more held vs i lt =
    ap (λ n. held ++ flat_map value_text (take n vs)) (add-one i)
    ∙ ap (λ l. held ++ flat_map value_text l) (take-suc vs i 0 lt)
    ∙ ap (λ l. held ++ l) (flat_map-append value_text (take i vs) (get_or vs i 0 ∷ []))
    ∙ sym (append_assoc held (flat_map value_text (take i vs)) (value_text (get_or vs i 0) ++ []))
    ∙ ap (λ l. (held ++ flat_map value_text (take i vs)) ++ l) (append-nil (value_text (get_or vs i 0)))
    ∙ sym (append_assoc (held ++ flat_map value_text (take i vs)) (32 ∷ []) (decimal (get_or vs i 0)))

-- the values so far begin all of them
pub values_front : (before after held vs : List ℕ) (i : ℕ) → AddsBeginning before after (held ++ flat_map value_text (take i vs)) → AddsBeginning before after (held ++ flat_map value_text vs)
values_front before after held vs i a =
    subst (AddsBeginning before after)
    (append_assoc held (flat_map value_text (take i vs)) (flat_map value_text (drop i vs))
    ∙ ap (λ l. held ++ l) (sym (flat_map-append value_text (take i vs) (drop i vs)) ∙ ap (flat_map value_text) (take-append-drop i vs)))
    (of_front before after (held ++ flat_map value_text (take i vs)) (flat_map value_text (drop i vs)) a)

-- the same where only the space of the next was to be put
pub values_space : (before after held vs : List ℕ) (i : ℕ) → i < length vs → AddsBeginning before after ((held ++ flat_map value_text (take i vs)) ++ 32 ∷ []) → AddsBeginning before after (held ++ flat_map value_text vs)
values_space before after held vs i lt a =
    values_front before after held vs (i + 1) (subst (AddsBeginning before after) (sym (values_more held vs i lt)) (of_front before after _ (decimal (get_or vs i 0)) a))

-- the text of the next is held too
pub values_held : (before after held' held vs : List ℕ) (i : ℕ) (text : List ℕ) → i < length vs → text ≡ decimal (get_or vs i 0) → Holds before after held' (((held ++ flat_map value_text (take i vs)) ++ 32 ∷ []) ++ text) → Holds before after held' (held ++ flat_map value_text (take (i + 1) vs))
values_held before after held' held vs i text lt e h =
    subst (Holds before after held') (ap (λ l. ((held ++ flat_map value_text (take i vs)) ++ 32 ∷ []) ++ l) e ∙ sym (values_more held vs i lt)) h

-- the same where it was to be put
pub values_text : (before after held vs : List ℕ) (i : ℕ) (text : List ℕ) → i < length vs → text ≡ decimal (get_or vs i 0) → AddsBeginning before after (((held ++ flat_map value_text (take i vs)) ++ 32 ∷ []) ++ text) → AddsBeginning before after (held ++ flat_map value_text vs)
values_text before after held vs i text lt e a =
    values_front before after held vs (i + 1)
    (subst (AddsBeginning before after) (ap (λ l. ((held ++ flat_map value_text (take i vs)) ++ 32 ∷ []) ++ l) e ∙ sym (values_more held vs i lt)) a)

-- a line is its name, the sign, the values and the line end
module _ (before held name values : List ℕ) (d : Tree.Declaration) (k : Kept) (name_is : name ≡ d.name) (values_are : values ≡ k.values) (count : length values ≡ size k.lengths) (same : k.lengths ≡ d.lengths) where
  abbrev named : List ℕ
  named = held ++ name

  abbrev signed : List ℕ
  signed = named ++ 32 ∷ 61 ∷ []

  abbrev filled : List ℕ
  filled = signed ++ flat_map value_text values

  cells : flat_map (λ is. cell_text (cell_of (Some k) is)) (all_indexes d.lengths) ≡ flat_map value_text values
  cells =
      ap (λ ns. flat_map (λ is. cell_text (cell_of (Some k) is)) (all_indexes ns)) (sym same)
      ∙ kept_text k (ap length (sym values_are) ∙ count)
      ∙ ap (flat_map value_text) (sym values_are)

  parts : held ++ line_of d k ≡ filled ++ 10 ∷ []
  parts =
      ap (λ l. held ++ (d.name ++ 32 ∷ 61 ∷ l ++ 10 ∷ [])) cells
      ∙ ap (λ n. held ++ (n ++ 32 ∷ 61 ∷ flat_map value_text values ++ 10 ∷ [])) (sym name_is)
      ∙ sym (append_assoc held (name ++ 32 ∷ 61 ∷ flat_map value_text values) (10 ∷ []))
      ∙ ap (λ l. l ++ 10 ∷ []) (sym (append_assoc held name (32 ∷ 61 ∷ flat_map value_text values)) ∙ sym (append_assoc named (32 ∷ 61 ∷ []) (flat_map value_text values)))

  in_whole : (after : List ℕ) → AddsBeginning before after (filled ++ 10 ∷ []) → AddsBeginning before after (held ++ line_of d k)
  in_whole after a = subst (AddsBeginning before after) (sym parts) a

  pub at_name : (after : List ℕ) → AddsBeginning before after named → AddsBeginning before after (held ++ line_of d k)
  at_name after a = in_whole after (of_front before after filled (10 ∷ []) (of_front before after signed (flat_map value_text values) (of_front before after named (32 ∷ 61 ∷ []) a)))

  pub at_sign : (middle after held' : List ℕ) → Holds before middle held' named → AddsBeginning middle after (held' ++ 32 ∷ 61 ∷ []) → AddsBeginning before after (held ++ line_of d k)
  at_sign middle after held' h a =
      in_whole after (of_front before after filled (10 ∷ []) (of_front before after signed (flat_map value_text values) (on_held before middle after held' named (32 ∷ 61 ∷ []) h a)))

  pub at_values : (middle after held' : List ℕ) → Holds before middle held' signed → AddsBeginning middle after (held' ++ flat_map value_text values) → AddsBeginning before after (held ++ line_of d k)
  at_values middle after held' h a = in_whole after (of_front before after filled (10 ∷ []) (on_held before middle after held' signed (flat_map value_text values) h a))

  pub at_end : (middle after held' : List ℕ) → Holds before middle held' filled → AddsBeginning middle after (held' ++ 10 ∷ []) → AddsBeginning before after (held ++ line_of d k)
  at_end middle after held' h a = in_whole after (on_held before middle after held' filled (10 ∷ []) h a)

  pub at_all : (middle after held' held'' : List ℕ) → Holds before middle held' filled → Holds middle after held'' (held' ++ 10 ∷ []) → Holds before after held'' (held ++ line_of d k)
  at_all middle after held' held'' h a = subst (Holds before after held'') (sym parts) (more_held before middle after held' held'' filled (10 ∷ []) h a)

pub heads : (a b : List ℕ) (xs ys : List (List ℕ)) → a ∷ xs ≡ b ∷ ys → a ≡ b
heads a b xs ys e = cc

pub tails : (a b : List ℕ) (xs ys : List (List ℕ)) → a ∷ xs ≡ b ∷ ys → xs ≡ ys
tails a b xs ys e = cc

-- a variable has its declaration's lengths
pub lengths_at : (ds : List Declaration) (ks : List Kept) (i : ℕ) (d : Declaration) (k : Kept) → HasLengths (map declaration_of ds) ks → i < length ds → d ≡ get_or ds i d → k ≡ get_or ks i k → k.lengths ≡ d.lengths.items
lengths_at [] ks i d k h lt e f = absurd (omega arith)
lengths_at (a ∷ ds) [] i d k h lt e f = absurd (cc h)
lengths_at (a ∷ ds) (b ∷ ks) zero d k h lt e f = ap (λ k. k.lengths) f ∙ heads _ _ _ _ h ∙ ap (λ d. d.lengths.items) (sym e)
lengths_at (a ∷ ds) (b ∷ ks) (suc i) d k h lt e f = lengths_at ds ks i d k (tails _ _ _ _ h) (omega arith) e f

-- so many variables
pub lengths_count : (ds : List Declaration) (ks : List Kept) → HasLengths (map declaration_of ds) ks → length ks ≡ length ds
lengths_count [] [] h = refl
lengths_count [] (b ∷ ks) h = absurd (cc h)
lengths_count (a ∷ ds) [] h = absurd (cc h)
lengths_count (a ∷ ds) (b ∷ ks) h = let r = lengths_count ds ks (tails _ _ _ _ h) in omega arith

-- one line more
lines_more : (s : State) (x : ℕ) (ds : List Declaration) (i : ℕ) (d : Declaration) → i < length ds → d ≡ get_or ds i d → dump_from s x (map declaration_of (take (suc i) ds)) ≡ dump_from s x (map declaration_of (take i ds)) ++ dump_line s (x + i) (declaration_of d)
lines_more s x [] i d lt e = absurd (omega arith)
lines_more s x (a ∷ ds) zero d lt e =
    append-nil (dump_line s x (declaration_of a))
    ∙ ap (λ d. dump_line s x (declaration_of d)) (sym e)
    ∙ ap (λ y. dump_line s y (declaration_of d)) (let e : x ≡ x + 0 = omega arith in e)
lines_more s x (a ∷ ds) (suc i) d lt e =
    ap (λ l. dump_line s x (declaration_of a) ++ l) (lines_more s (suc x) ds i d (omega arith) e)
    ∙ sym (append_assoc (dump_line s x (declaration_of a)) (dump_from s (suc x) (map declaration_of (take i ds))) (dump_line s (suc x + i) (declaration_of d)))
    ∙ ap (λ y. (dump_line s x (declaration_of a) ++ dump_from s (suc x) (map declaration_of (take i ds))) ++ dump_line s y (declaration_of d)) (let e : suc x + i ≡ x + suc i = omega arith in e)

lines_rest : (s : State) (x : ℕ) (ds : List Declaration) (i : ℕ) → dump_from s x (map declaration_of ds) ≡ dump_from s x (map declaration_of (take i ds)) ++ dump_from s (x + i) (map declaration_of (drop i ds))
lines_rest s x ds zero = ap (λ y. dump_from s y (map declaration_of ds)) (let e : x ≡ x + 0 = omega arith in e)
lines_rest s x [] (suc i) = refl
lines_rest s x (a ∷ ds) (suc i) =
    ap (λ l. dump_line s x (declaration_of a) ++ l) (lines_rest s (suc x) ds i)
    ∙ sym (append_assoc (dump_line s x (declaration_of a)) (dump_from s (suc x) (map declaration_of (take i ds))) (dump_from s (suc x + i) (map declaration_of (drop i ds))))
    ∙ ap (λ y. (dump_line s x (declaration_of a) ++ dump_from s (suc x) (map declaration_of (take i ds))) ++ dump_from s y (map declaration_of (drop i ds))) (let e : suc x + i ≡ x + suc i = omega arith in e)

-- the lines of a store's variables
module _ (ds : List Declaration) (ks : List Kept) (i : ℕ) (d : Declaration) (k : Kept) (lt : i < length ds) (e : d ≡ get_or ds i d) (f : k ≡ get_or ks i k) (all : length ks ≡ length ds) where
  abbrev so_far : ℕ → List ℕ
  so_far n = dump_from (state_of ks) 0 (map declaration_of (take n ds))

  this_line : dump_line (state_of ks) (0 + i) (declaration_of d) ≡ line_of (declaration_of d) k
  this_line =
      ap (λ n. dump_line (state_of ks) n (declaration_of d)) (let e : 0 + i ≡ i = omega arith in e)
      ∙ ap (λ o. string_bytes d.name ++ 32 ∷ 61 ∷ flat_map (λ is. cell_text (cell_of o is)) (all_indexes d.lengths.items) ++ 10 ∷ []) (slice_get_read ks (length ks) i k refl (omega arith) f)

  pub one_more : so_far (i + 1) ≡ so_far i ++ line_of (declaration_of d) k
  one_more =
      ap so_far (add-one i)
      ∙ lines_more (state_of ks) 0 ds i d lt e
      ∙ ap (λ l. so_far i ++ l) this_line

  pub front : (before after : List ℕ) → AddsBeginning before after (so_far i ++ line_of (declaration_of d) k) → AddsBeginning before after (dump_from (state_of ks) 0 (map declaration_of ds))
  front before after a =
      subst (AddsBeginning before after) (sym (lines_rest (state_of ks) 0 ds (i + 1)))
      (of_front before after (so_far (i + 1)) (dump_from (state_of ks) (0 + (i + 1)) (map declaration_of (drop (i + 1) ds))) (subst (AddsBeginning before after) (sym one_more) a))
