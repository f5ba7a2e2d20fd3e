-- Levels found in the order of the iterations.
use Rattle.std.specs.Prelude.{ℕ, zero, suc, Bool, true, false, ◌≡◌, ◌+◌, ◌==◌, ◌&&◌, ◌||◌, ◌<◌, ◌≤◌, ℤ, nat_eq, max, List, [], ◌∷◌, ◌++◌, map, filter, take, drop, length, slice_get, get_or, Option, Some, None}
use Rattle.std.specs.List.{list_all, cons_option}
use Rattle.std.proofs.Common.{refl, sym, ap, ◌∙◌, subst, cond, arith}
use Rattle.std.proofs.lemmas.Bool.{eq-eqb, eqb-true}
use Rattle.std.proofs.lemmas.Bool.Decides.{nat_tests}
use Rattle.std.proofs.lemmas.List.{take_all, length-map, length_push, get_or_push, get_or_append_left}
use Rattle.std.proofs.lemmas.List.Elements.{filter-append}
use Rattle.std.proofs.lemmas.Option.{none-some, same_Some, slice_get-get_or}
use Rattle.std.proofs.lemmas.Simd.{map-map}
use Rattle.std.specs.Global.{Vec}
use lib.Pointwise.{pointwise}
use Rattle.semantics.specs.Loops.Nest.{Vector}
use Rattle.semantics.specs.Loops.Order.{Distance, is_ahead, before_by, among, inside, sinks_of, one_above, level, wave, wave_count}
use Rattle.semantics.specs.Meaning.Places.{below}
use Rattle.waves.specs.Sorting.{numbers_at}
use Rattle.nest_space.specs.Sinks.{Fits, IsSinkAt, HasNoSink}
use Rattle.waves.specs.Table.{AreLevels}
use Rattle.waves.specs.Wanted.{vector_at, numbers_of, AreWaves}
use Rattle.waves.proofs.Sorted.{Sorted, found, sunk_at}
use Rattle.waves.proofs.Tallies.{map_below, map_push, length-below}

-- where no iteration is found there is none
pub none_inside : (space : List Vector) (k : ℕ) (u : Vector) (d : Distance) → Sorted space → is_ahead d ≡ true → slice_get space k ≡ Some u → ((j : ℕ) (w : Vector) → j < k → slice_get space j ≡ Some w → Fits w)
    → HasNoSink space u d → inside space (before_by u d) ≡ None
none_inside space k u d s ahead at fit none_there = go (before_by u d) refl
  where
    here : (w : Vector) → before_by u d ≡ Some w → (b : Bool) → among space w ≡ b → (let o : Option Vector = cond b (Some w) None in o) ≡ None
    here w e true h =
        let f = found space w h in
        absurd (none_there w e (fit f.number w (sunk_at space k f.number u w d s ahead at e f.is) f.is) f.number f.is)
    here w e false h = refl

    go : (o : Option Vector) → before_by u d ≡ o → inside space o ≡ None
    go None e = refl
    go (Some w) e = here w e (among space w) refl

same_itself : (u : Vector) → pointwise nat_eq u u ≡ true
same_itself [] = refl
same_itself (x ∷ xs) = let e = eq-eqb x x refl in ap (λ b. b && pointwise nat_eq xs xs) e ∙ same_itself xs

among_at : (space : List Vector) (j : ℕ) (w : Vector) → slice_get space j ≡ Some w → among space w ≡ true
among_at [] j w e = absurd (none-some w e)
among_at (v ∷ vs) zero w e =
    ap (λ b. b || among vs w) (subst (λ (x : Vector). pointwise nat_eq w x ≡ true) (sym (same_Some v w e)) (same_itself w))
among_at (v ∷ vs) (suc j) w e = go (pointwise nat_eq w v) (among_at vs j w e)
  where
    go : (b : Bool) → among vs w ≡ true → (b || among vs w) ≡ true
    go true h = refl
    go false h = h

pub some_inside : (space : List Vector) (u : Vector) (d : Distance) (j : ℕ) (at : IsSinkAt space u d j) → inside space (before_by u d) ≡ Some at.vector
some_inside space u d j at =
    ap (inside space) at.before ∙ ap (λ b. let o : Option Vector = cond b (Some at.vector) None in o) (among_at space j at.vector at.is)

mapped_at : (f : Vector → ℕ) (k j : ℕ) (xs : List Vector) (w : Vector) → j < k → slice_get xs j ≡ Some w → get_or (map f (take k xs)) j 0 ≡ f w
mapped_at f zero j xs w lt e = absurd (omega arith)
mapped_at f (suc k) j [] w lt e = absurd (none-some w e)
mapped_at f (suc k) zero (x ∷ xs) w lt e = ap f (same_Some x w e)
mapped_at f (suc k) (suc j) (x ∷ xs) w lt e = mapped_at f k j xs w (omega arith) e

pub level_at : (space : List Vector) (ds : List Distance) (levels : List ℕ) (j : ℕ) (w : Vector) → AreLevels space ds levels → j < length levels → slice_get space j ≡ Some w → get_or levels j 0 ≡ level space ds w
level_at space ds levels j w are lt e =
    ap (λ (xs : List ℕ). get_or xs j 0) are.are ∙ mapped_at (level space ds) (length levels) j space w lt e

-- no sink raises nothing
pub not_raised : (space : List Vector) (ds : List Distance) (u : Vector) (d : Distance) (above : ℕ) → inside space (before_by u d) ≡ None
    → above ≡ max above (one_above (map (level space ds) (sinks_of space (d ∷ []) u)))
not_raised space ds u d above e =
    sym (ap (λ (o : Option Vector). max above (one_above (map (level space ds) (cons_option o [])))) e ∙ most above)
  where
    most : (n : ℕ) → max n 0 ≡ n
    most n = grind arith

pub raised_by : (space : List Vector) (ds : List Distance) (levels : List ℕ) (u : Vector) (d : Distance) (above j : ℕ) → IsSinkAt space u d j → AreLevels space ds levels → j < length levels
    → max above (get_or levels j 0 + 1) ≡ max above (one_above (map (level space ds) (sinks_of space (d ∷ []) u)))
raised_by space ds levels u d above j at are lt =
    ap (λ n. max above (n + 1)) (level_at space ds levels j at.vector are lt at.is)
    ∙ one (level space ds at.vector)
    ∙ sym (ap (λ (o : Option Vector). max above (one_above (map (level space ds) (cons_option o [])))) (some_inside space u d j at))
  where
    one : (l : ℕ) → max above (l + 1) ≡ max above (max (l + 1) 0)
    one l = grind arith

-- one sink after another
pub raised_step : (space : List Vector) (ds rest : List Distance) (u : Vector) (d : Distance) (above above' : ℕ) → above' ≡ max above (one_above (map (level space ds) (sinks_of space (d ∷ []) u)))
    → max above' (one_above (map (level space ds) (sinks_of space rest u))) ≡ max above (one_above (map (level space ds) (sinks_of space (d ∷ rest) u)))
raised_step space ds rest u d above above' e =
    ap (λ n. max n (one_above (map (level space ds) (sinks_of space rest u)))) e ∙ go (inside space (before_by u d))
  where
    go : (o : Option Vector) → max (max above (one_above (map (level space ds) (cons_option o [])))) (one_above (map (level space ds) (sinks_of space rest u)))
        ≡ max above (one_above (map (level space ds) (cons_option o (sinks_of space rest u))))
    go None = nothing above (one_above (map (level space ds) (sinks_of space rest u)))
      where
        nothing : (a x : ℕ) → max (max a 0) x ≡ max a x
        nothing a x = grind arith
    go (Some v) = more above (level space ds v) (one_above (map (level space ds) (sinks_of space rest u)))
      where
        more : (a l x : ℕ) → max (max a (max (l + 1) 0)) x ≡ max a (max (l + 1) x)
        more a l x = grind arith

pub drop_item : {A : Type 0} (f : A → Distance) (xs : List A) (i : ℕ) (x : A) → slice_get xs i ≡ Some x → drop i (map f xs) ≡ f x ∷ drop (suc i) (map f xs)
drop_item f [] i x e = absurd (none-some x e)
drop_item f (y ∷ ys) zero x e = ap (λ z. f z ∷ map f ys) (same_Some y x e)
drop_item f (y ∷ ys) (suc i) x e = drop_item f ys i x e

first_of : (a b : Bool) → (a && b) ≡ true → a ≡ true
first_of true b e = refl
first_of false b e = absurd cc

second_of : (a b : Bool) → (a && b) ≡ true → b ≡ true
second_of true b e = e
second_of false b e = absurd cc

pub ahead_item : {A : Type 0} (f : A → Distance) (xs : List A) (i : ℕ) (x : A) → list_all is_ahead (map f xs) ≡ true → slice_get xs i ≡ Some x → is_ahead (f x) ≡ true
ahead_item f [] i x h e = absurd (none-some x e)
ahead_item f (y ∷ ys) zero x h e = ap (λ z. is_ahead (f z)) (sym (same_Some y x e)) ∙ first_of (is_ahead (f y)) (list_all is_ahead (map f ys)) h
ahead_item f (y ∷ ys) (suc i) x h e = ahead_item f ys i x (second_of (is_ahead (f y)) (list_all is_ahead (map f ys)) h) e

-- one iteration more
take_item : (xs : List Vector) (k : ℕ) (x : Vector) → slice_get xs k ≡ Some x → take (suc k) xs ≡ take k xs ++ x ∷ []
take_item [] k x e = absurd (none-some x e)
take_item (y ∷ ys) zero x e = ap (λ z. z ∷ []) (same_Some y x e)
take_item (y ∷ ys) (suc k) x e = ap (λ (zs : List Vector). y ∷ zs) (take_item ys k x e)

map_end : (f : Vector → ℕ) (xs : List Vector) (x : Vector) → map f (xs ++ x ∷ []) ≡ map f xs ++ f x ∷ []
map_end f [] x = refl
map_end f (y ∷ ys) x = ap (λ (zs : List ℕ). f y ∷ zs) (map_end f ys x)

pub more_levels : (space : List Vector) (ds : List Distance) (levels : List ℕ) (u : Vector) (l : ℕ) → AreLevels space ds levels → slice_get space (length levels) ≡ Some u → l ≡ level space ds u → l ≤ length levels → Fits u
    → AreLevels space ds (levels ++ l ∷ [])
more_levels space ds levels u l are at is small fit = record {
  are = ap (λ (xs : List ℕ). xs ++ l ∷ []) are.are
      ∙ ap (λ n. map (level space ds) (take (length levels) space) ++ n ∷ []) is
      ∙ sym (map_end (level space ds) (take (length levels) space) u)
      ∙ ap (map (level space ds)) (sym (take_item space (length levels) u at))
      ∙ ap (λ n. map (level space ds) (take n space)) one;
  small = λ j lt. last j lt (length levels == j) refl;
  fit = λ j w lt e. fits j w lt e (length levels == j) refl;
}
  where
    one : suc (length levels) ≡ length (levels ++ l ∷ [])
    one = let e = length_push levels l in omega arith

    last : (j : ℕ) → j < length (levels ++ l ∷ []) → (t : Bool) → (length levels == j) ≡ t → get_or (levels ++ l ∷ []) j 0 ≤ j
    last j lt true s =
        let same = eqb-true (length levels) j s in
        let e = get_or_push levels l 0 j same in omega arith
    last j lt false s =
        let e = length_push levels l in
        let less : j < length levels = grind (arith, nat_tests) in
        let f = get_or_append_left levels (l ∷ []) 0 j less in
        let g = are.small j less in omega arith

    fits : (j : ℕ) (w : Vector) → j < length (levels ++ l ∷ []) → slice_get space j ≡ Some w → (t : Bool) → (length levels == j) ≡ t → Fits w
    fits j w lt e true s =
        let same = eqb-true (length levels) j s in
        subst Fits (same_Some u w (sym at ∙ ap (slice_get space) same ∙ e)) fit
    fits j w lt e false s =
        let long = length_push levels l in
        let less : j < length levels = grind (arith, nat_tests) in
        are.fit j w less e

-- the numbers at a level are those of the iterations of that level
get_mapped : (f : Vector → ℕ) (xs : List Vector) (k : ℕ) → k < length xs → get_or (map f xs) k 0 ≡ f (get_or xs k [])
get_mapped f [] k lt = absurd (omega arith)
get_mapped f (x ∷ xs) zero lt = refl
get_mapped f (x ∷ xs) (suc k) lt = get_mapped f xs k (omega arith)

filter_below : (p q : ℕ → Bool) (n : ℕ) → ((k : ℕ) → k < n → p k ≡ q k) → filter p (below n) ≡ filter q (below n)
filter_below p q zero same = refl
filter_below p q (suc n) same =
    filter-append p (below n) (n ∷ [])
    ∙ ap (λ (xs : List ℕ). xs ++ filter p (n ∷ [])) (filter_below p q n (λ k lt. same k (omega arith)))
    ∙ ap (λ b. filter q (below n) ++ cond b (n ∷ []) []) (same n (omega arith))
    ∙ sym (filter-append q (below n) (n ∷ []))

filter_mapped : (p : Vector → Bool) (g : ℕ → Vector) (ks : List ℕ) → map g (filter (λ k. p (g k)) ks) ≡ filter p (map g ks)
filter_mapped p g [] = refl
filter_mapped p g (k ∷ ks) = go (p (g k)) (filter_mapped p g ks)
  where
    go : (b : Bool) → map g (filter (λ k. p (g k)) ks) ≡ filter p (map g ks) → map g (cond b (k ∷ filter (λ k. p (g k)) ks) (filter (λ k. p (g k)) ks)) ≡ cond b (g k ∷ filter p (map g ks)) (filter p (map g ks))
    go true e = ap (λ (us : List Vector). g k ∷ us) e
    go false e = e

first_vectors : (space : List Vector) (n : ℕ) → n ≤ length space → map (vector_at space) (below n) ≡ take n space
first_vectors space zero le = refl
first_vectors space (suc n) le =
    map_push (vector_at space) (below n) n
    ∙ ap (λ (us : List Vector). us ++ vector_at space n ∷ []) (first_vectors space n (omega arith))
    ∙ sym (take_item space n (vector_at space n) (slice_get-get_or space n [] (omega arith)))

all_vectors : (space : List Vector) → map (vector_at space) (below (length space)) ≡ space
all_vectors space = first_vectors space (length space) (omega arith) ∙ take_all (length space) space (omega arith)

-- the waves of these levels
pub are_waves : (space : List Vector) (ds : List Distance) (levels : List ℕ) → AreLevels space ds levels → length levels ≡ length space → AreWaves space ds (map (numbers_at levels) (below (one_above levels)))
are_waves space ds levels are size = subst (λ (ls : List ℕ). AreWaves space ds (map (numbers_at ls) (below (one_above ls)))) (sym all) (record {
  count = length-map (below (wave_count space ds)) (numbers_at (map (level space ds) space)) ∙ length-below (wave_count space ds);
  each = each;
  iterations = ap (map (map (vector_at space))) each ∙ map-map (map (vector_at space)) (numbers_of space ds) (below (wave_count space ds))
      ∙ map_below (λ i. map (vector_at space) (numbers_of space ds i)) (wave space ds) (wave_count space ds) (λ i lt. one i);
})
  where
    all : levels ≡ map (level space ds) space
    all = are.are ∙ ap (λ n. map (level space ds) (take n space)) size ∙ ap (map (level space ds)) (take_all (length space) space (omega arith))

    each : map (numbers_at (map (level space ds) space)) (below (wave_count space ds)) ≡ map (numbers_of space ds) (below (wave_count space ds))
    each = map_below (numbers_at (map (level space ds) space)) (numbers_of space ds) (wave_count space ds)
        (λ i lt. ap (λ n. filter (λ k. get_or (map (level space ds) space) k 0 == i) (below n)) (length-map space (level space ds))
        ∙ filter_below (λ k. get_or (map (level space ds) space) k 0 == i) (λ k. level space ds (vector_at space k) == i) (length space)
        (λ k h. ap (λ n. n == i) (get_mapped (level space ds) space k h)))

    one : (i : ℕ) → map (vector_at space) (numbers_of space ds i) ≡ wave space ds i
    one i = filter_mapped (λ u. level space ds u == i) (vector_at space) (below (length space)) ∙ ap (filter (λ u. level space ds u == i)) (all_vectors space)

pub max_zero : (n : ℕ) → max 0 n ≡ n
max_zero n = grind arith

pub max_most : (a b n : ℕ) → a ≤ n → b ≤ n → max a b ≤ n
max_most a b n h k = grind arith

pub above_step : (space : List Vector) (vs : List (Vec ℤ)) (i : ℕ) (item : Vec ℤ) (d : Distance) (u : Vector) (above above' l : ℕ) → slice_get vs i ≡ Some item → d ≡ item.items
    → above' ≡ max above (one_above (map (level space (map (λ v. v.items) vs)) (sinks_of space (d ∷ []) u)))
    → max above (one_above (map (level space (map (λ v. v.items) vs)) (sinks_of space (drop i (map (λ v. v.items) vs)) u))) ≡ l
    → max above' (one_above (map (level space (map (λ v. v.items) vs)) (sinks_of space (drop (i + 1) (map (λ v. v.items) vs)) u))) ≡ l
above_step space vs i item d u above above' l at same e h =
    let next : i + 1 ≡ suc i = omega arith in
    let more : drop i (map (λ v. v.items) vs) ≡ d ∷ drop (suc i) (map (λ v. v.items) vs) = drop_item (λ v. v.items) vs i item at ∙ ap (λ (x : Distance). x ∷ drop (suc i) (map (λ v. v.items) vs)) (sym same) in
    ap (λ n. max above' (one_above (map (level space (map (λ v. v.items) vs)) (sinks_of space (drop n (map (λ v. v.items) vs)) u)))) next
    ∙ raised_step space (map (λ v. v.items) vs) (drop (suc i) (map (λ v. v.items) vs)) u d above above' e
    ∙ ap (λ (xs : List Distance). max above (one_above (map (level space (map (λ v. v.items) vs)) (sinks_of space xs u)))) (sym more)
    ∙ h

-- the waves of what was found, behind the references
pub waves_found : (space : List Vector) (vs vs' : List (Vec ℤ)) (ds : List Distance) (levels levels' : List ℕ) (ws : List (List ℕ)) → vs ≡ vs' → map (λ v. v.items) vs' ≡ ds → levels' ≡ levels
    → length levels ≡ length space → AreLevels space (map (λ v. v.items) vs) levels → ws ≡ map (numbers_at levels') (below (one_above levels')) → AreWaves space ds ws
waves_found space vs vs' ds levels levels' ws e f g size are h =
    let same : map (λ v. v.items) vs ≡ ds = ap (λ (xs : List (Vec ℤ)). map (λ v. v.items) xs) e ∙ f in
    let known : AreLevels space ds levels = subst (λ (xs : List Distance). AreLevels space xs levels) same are in
    subst (AreWaves space ds) (sym (h ∙ ap (λ (xs : List ℕ). map (numbers_at xs) (below (one_above xs))) g)) (are_waves space ds levels known size)
