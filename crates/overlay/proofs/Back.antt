-- Cells that are put back, and no others, hold again what they held.
use Rattle.std.proofs.Common.{ℕ, ◌≡◌, ◌<◌, ◌≤◌, Bool, true, false, List, [], ◌∷◌, ◌++◌, length, map, Option, Some, None, refl, sym, ap, ◌∙◌, subst, arith, ⊎_elim}
use Rattle.std.specs.Prelude.{◌==◌, ◌||◌, slice_get, slice_index, slice_set, option_and_then}
use Rattle.std.proofs.lemmas.Bool.{true≢false, eqb-true, eqb-false, or_parts, cases_lt}
use Rattle.std.proofs.lemmas.List.Folds.{list_any-append}
use Rattle.std.proofs.lemmas.Option.{slice_get-get_or, slice_get_past}
use Rattle.semantics.specs.Tree.{Variable}
use Rattle.semantics.specs.Meaning.Agrees.{is_among}
use Rattle.semantics.specs.Meaning.Places.{within}
use Rattle.semantics.specs.Loops.Operator.{ReduceOp}
use Rattle.seqrun_value.proofs.FrameLemmas.{slice_get_set_same, slice_get_set_other}
use Rattle.lower_code.specs.declared.laid.Laid.{Laid}
use Rattle.lower_code.specs.Layout.{spot, spot_in, shapes_of, cell_at, first_of}
use Rattle.lower_code.proofs.Spots.{lies, apart}
use Rattle.lower.specs.declared.roles.Spot.{Spot}
use Rattle.lower.specs.declared.roles.Spot.TheVariants.{Register, Cell}
use Rattle.lower.specs.declared.roles.LoweredReduction.{LoweredReduction}
use Rattle.lower.specs.Roles.{StandsAt, StandEach, AreReduced}
use Rattle.overlay.specs.Spots.{back_at, back_at_each, reduced_at}

pub set_length : (xs : List ℕ) (i v : ℕ) → length (slice_set xs i v) ≡ length xs
set_length [] i v = refl
set_length (x ∷ xs) ℕ.zero v = refl
set_length (x ∷ xs) (ℕ.suc i) v = ap ℕ.suc (set_length xs i v)

back_length : (before : List ℕ) (at : Spot) (cells : List ℕ) → length (back_at before at cells) ≡ length cells
back_length before (Register r) cells = refl
back_length before (Cell place) cells = set_length cells place (slice_index before place)

each_length : (before : List ℕ) (spots : List Spot) (cells : List ℕ) → length (back_at_each before spots cells) ≡ length cells
each_length before [] cells = refl
each_length before (at ∷ spots) cells = each_length before spots (back_at before at cells) ∙ back_length before at cells

module _ (layout : List Laid) (mark : ℕ) (before : List ℕ) where
  -- another variable's objects stay as they are
  other : (x y : Variable) (is : List ℕ) (at : Spot) (cells : List ℕ) → StandsAt layout mark y at → (y == x) ≡ false → cell_at (shapes_of layout) (back_at before at cells) x is ≡ cell_at (shapes_of layout) cells x is
  other x y is (Register r) cells stands ne = refl
  other x y is (Cell place) cells (lt, here) ne = go (spot (shapes_of layout) x is) refl
    where
      go : (o : Option ℕ) → spot (shapes_of layout) x is ≡ o → option_and_then (λ k. slice_get (slice_set cells place (slice_index before place)) k) o ≡ option_and_then (λ k. slice_get cells k) o
      go None e = refl
      go (Some j) e = slice_get_set_other cells place j (slice_index before place) (λ same. eqb-false y x ne (apart (shapes_of layout) y x [] is place here (e ∙ ap Some same)).0)

  -- its own are as before
  nowhere : (ls : List Laid) (x : ℕ) (first : ℕ) (is : List ℕ) → length ls ≤ x → spot_in (slice_get (shapes_of ls) x) first is ≡ None
  nowhere [] x first is le = refl
  nowhere (l ∷ ls) ℕ.zero first is le = absurd (omega arith)
  nowhere (l ∷ ls) (ℕ.suc x) first is le = nowhere ls x first is (omega arith)

  no_element : (x i : ℕ) (is : List ℕ) (place : ℕ) → spot (shapes_of layout) x [] ≡ Some place → spot (shapes_of layout) x (i ∷ is) ≡ None
  no_element x i is place here =
      let l = lies (shapes_of layout) x [] place here in
      ap (λ o. spot_in o (first_of (shapes_of layout) x) (i ∷ is)) l.there ∙ scalar l.lengths l.inside
    where
      scalar : (ns : List ℕ) → within ns [] ≡ true → spot_in (Some ns) (first_of (shapes_of layout) x) (i ∷ is) ≡ None
      scalar [] e = refl
      scalar (n ∷ ns) e = absurd (true≢false (sym e))

  read_back : (cells : List ℕ) (place : ℕ) → length cells ≡ length before → slice_get (slice_set cells place (slice_index before place)) place ≡ slice_get before place
  read_back cells place long =
      ⊎_elim
      (λ (lt : place < length cells). slice_get_set_same cells place (slice_index before place) lt ∙ sym (slice_get-get_or before place 0 (omega arith)))
      (λ (le : length cells ≤ place). slice_get_past (slice_set cells place (slice_index before place)) place (let same = set_length cells place (slice_index before place) in omega arith) ∙ sym (slice_get_past before place (omega arith)))
      (cases_lt place (length cells))

  own : (x : Variable) (is : List ℕ) (at : Spot) (cells : List ℕ) → length cells ≡ length before → StandsAt layout mark x at → cell_at (shapes_of layout) (back_at before at cells) x is ≡ cell_at (shapes_of layout) before x is
  own x is (Register r) cells long (same, locals) =
      let none = nowhere layout x (first_of (shapes_of layout) x) is locals.0.0 in
      ap (λ o. option_and_then (λ k. slice_get cells k) o) none ∙ sym (ap (λ o. option_and_then (λ k. slice_get before k) o) none)
  own x [] (Cell place) cells long (lt, here) =
      ap (λ o. option_and_then (λ k. slice_get (slice_set cells place (slice_index before place)) k) o) here
      ∙ read_back cells place long ∙ sym (ap (λ o. option_and_then (λ k. slice_get before k) o) here)
  own x (i ∷ is) (Cell place) cells long (lt, here) =
      let none = no_element x i is place here in
      ap (λ o. option_and_then (λ k. slice_get (slice_set cells place (slice_index before place)) k) o) none
      ∙ sym (ap (λ o. option_and_then (λ k. slice_get before k) o) none)

  -- those of several
  pub record Back (xs : List Variable) (cells after : List ℕ) (x : Variable) (is : List ℕ) : Type 0 where
    pub others : is_among xs x ≡ false → cell_at (shapes_of layout) after x is ≡ cell_at (shapes_of layout) cells x is
    pub these : is_among xs x ≡ true → cell_at (shapes_of layout) after x is ≡ cell_at (shapes_of layout) before x is

  back_more : (y : Variable) (ys : List Variable) (at : Spot) (cells after : List ℕ) → StandsAt layout mark y at → length cells ≡ length before → (x : Variable) (is : List ℕ) → Back ys (back_at before at cells) after x is → Back (y ∷ ys) cells after x is
  back_more y ys at cells after first long x is rest =
      record {
        others = λ h. let parts = or_parts (y == x) (is_among ys x) h in rest.others parts.1 ∙ other x y is at cells first parts.0;
        these = λ h. pick (is_among ys x) refl (y == x) refl h;
      }
    where
      pick : (b : Bool) → is_among ys x ≡ b → (a : Bool) → (y == x) ≡ a → (a || b) ≡ true → cell_at (shapes_of layout) after x is ≡ cell_at (shapes_of layout) before x is
      pick true e a f h = rest.these e
      pick false e true f h = rest.others e ∙ own x is at cells long (subst (λ z. StandsAt layout mark z at) (eqb-true y x f) first)
      pick false e false f h = absurd (true≢false (sym h))

  back_is : (xs : List Variable) (spots : List Spot) (cells : List ℕ) → StandEach layout mark xs spots → length cells ≡ length before → (x : Variable) (is : List ℕ) → Back xs cells (back_at_each before spots cells) x is
  back_is [] [] cells stand long x is = record { others = λ h. refl; these = λ h. absurd (true≢false (sym h)) }
  back_is [] (at ∷ spots) cells stand long x is = absurd stand
  back_is (y ∷ ys) [] cells stand long x is = absurd stand
  back_is (y ∷ ys) (at ∷ spots) cells (first, stand) long x is =
      back_more y ys at cells (back_at_each before spots (back_at before at cells)) first long x is
      (back_is ys spots (back_at before at cells) stand (back_length before at cells ∙ long) x is)

  -- reduction variables stand each somewhere
  reduced_stand : (rs : List (Variable × ReduceOp)) (ls : List LoweredReduction) → AreReduced layout mark rs ls → StandEach layout mark (map (λ r. r.0) rs) (reduced_at ls)
  reduced_stand [] [] are = are
  reduced_stand [] (l ∷ ls) are = absurd are
  reduced_stand (r ∷ rs) [] are = absurd are
  reduced_stand (r ∷ rs) (l ∷ ls) (op, at, rest) = (at, reduced_stand rs ls rest)

  -- last ones and reduction variables
  pub all_back : (xs : List Variable) (rs : List (Variable × ReduceOp)) (spots : List Spot) (ls : List LoweredReduction) (cells : List ℕ) → StandEach layout mark xs spots → AreReduced layout mark rs ls → length cells ≡ length before → (x : Variable) (is : List ℕ)
      → Back (xs ++ map (λ r. r.0) rs) cells (back_at_each before (reduced_at ls) (back_at_each before spots cells)) x is
  all_back xs rs spots ls cells stand are long x is =
      record {
        others = λ h. let parts = or_parts (is_among xs x) (is_among ys x) (sym (list_any-append (λ y. y == x) xs ys) ∙ h) in two.others parts.1 ∙ one.others parts.0;
        these = λ h. pick (is_among ys x) refl (is_among xs x) refl (sym (list_any-append (λ y. y == x) xs ys) ∙ h);
      }
    where
      ys : List Variable
      ys = map (λ r. r.0) rs

      middle : List ℕ
      middle = back_at_each before spots cells

      one : Back xs cells middle x is
      one = back_is xs spots cells stand long x is

      two : Back ys middle (back_at_each before (reduced_at ls) middle) x is
      two = back_is ys (reduced_at ls) middle (reduced_stand rs ls are) (each_length before spots cells ∙ long) x is

      pick : (b : Bool) → is_among ys x ≡ b → (a : Bool) → is_among xs x ≡ a → (a || b) ≡ true → cell_at (shapes_of layout) (back_at_each before (reduced_at ls) middle) x is ≡ cell_at (shapes_of layout) before x is
      pick true e a f h = two.these e
      pick false e true f h = two.others e ∙ one.these f
      pick false e false f h = absurd (true≢false (sym h))
