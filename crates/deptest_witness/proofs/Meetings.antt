-- The first two iterations that meet.
use Rattle.std.specs.Prelude.{ℕ, ◌≡◌, ◌+◌, ◌<◌, ◌↔◌, List, [], length, Option, Result, Ok, Err, IfOk, IfNone, IfSome, Some, None, MatchOption}
use Rattle.std.specs.Global.{Vec}
use Rattle.std.specs.declared.alloc.AllocError.{AllocError}
use Rattle.std.proofs.Common.{sym, ◌∙◌, subst, arith, inl, inr, ⊎_elim}
use Rattle.std.proofs.lemmas.Bool.{cases_lt}
use Rattle.std.proofs.lemmas.Option.{slice_get_within}
use Rattle.nest_loop.specs.declared.head.Canonical.{Canonical}
use Rattle.nest_space.specs.declared.bounds.Value.{Value}
use Rattle.nest_space.specs.Space.{Turns, vectors, IsSpace}
use Rattle.nest_space.specs.Nests.{given, AreModest, AreRunsOf}
use Rattle.nest_space.proofs.Runs.{same_runs}
use Rattle.deptest_witness.specs.declared.meeting.Meeting.{Meeting}
use Rattle.deptest_witness.specs.Touching.{Access, NestAt, IsEntered, FirstTurns, TouchesAt}
use Rattle.deptest_witness.specs.Pairs.{Share, Meet, IsTaken, IsLeastAt, IsFirst, NeverMeet}
use Rattle.deptest_witness.specs.Elements.{NamesAt, AreElements}
use Rattle.deptest_witness.proofs.Entering.{same_first}

-- what is found of one of the two ways, and of both
abbrev pub FoundShared : (ℕ → List ℕ → Type 0) → (ℕ → List ℕ → Type 0) → ℕ → ℕ → Option (Vec ℕ) → Type 0
FoundShared X Y u v o = MatchOption o ((is : List ℕ) → Share X Y u v is → ⊥) (λ is. Share X Y u v is.items)

abbrev pub FoundTaken : (ℕ → List ℕ → Type 0) → (ℕ → List ℕ → Type 0) → ℕ → ℕ → Option (Vec ℕ) → Type 0
FoundTaken X Y u v o = MatchOption o ((is : List ℕ) → Meet X Y u v is → ⊥) (λ is. IsTaken X Y u v is.items)

pub taken_step : (X Y : ℕ → List ℕ → Type 0) (u v : ℕ) (r : Result (Option (Vec ℕ)) AllocError) → ((is : List ℕ) → Share X Y u v is → ⊥) → IfOk r (FoundShared Y X u v) → IfOk r (FoundTaken X Y u v)
taken_step X Y u v (Ok None) none h = λ is m. ⊎_elim (none is) (h is) m
taken_step X Y u v (Ok (Some found)) none h = inr (h, none)
taken_step X Y u v (Err e) none h = tt

-- nothing at one more number
pub none_more : (P : ℕ → List ℕ → Type 0) (n : ℕ) → ((u : ℕ) (is : List ℕ) → u < n → P u is → ⊥) → ((is : List ℕ) → P n is → ⊥) → (u : ℕ) (is : List ℕ) → u < n + 1 → P u is → ⊥
none_more P n below here u is lt p =
    ⊎_elim (λ l. below u is l p) (λ ge. here is (subst (λ k. P k is) (let same : u ≡ n = omega arith in same) p)) (cases_lt u n)

pub later_more : (X Y : ℕ → List ℕ → Type 0) (n : ℕ) → ((u v : ℕ) (is : List ℕ) → u < v → v < n → Meet X Y u v is → ⊥) → ((u : ℕ) (is : List ℕ) → u < n → Meet X Y u n is → ⊥)
    → (u v : ℕ) (is : List ℕ) → u < v → v < n + 1 → Meet X Y u v is → ⊥
later_more X Y n below here u v is order lt m =
    ⊎_elim (λ l. below u v is order l m) (λ ge. let same : v ≡ n = omega arith in here u is (omega arith) (subst (λ k. Meet X Y u k is) same m)) (cases_lt v n)

-- the first iteration that meets an earlier one
pub first_law : (X Y : ℕ → List ℕ → Type 0) (later u v : ℕ) (is : List ℕ) → IsLeastAt X Y later u v is → later < 64
    → ((i j : ℕ) (others : List ℕ) → i < j → j < later → Meet X Y i j others → ⊥) → IsFirst X Y u v is
first_law X Y later u v is at lt none =
    subst (λ w. IsFirst X Y u w is) (sym at.is) (record { order = at.order; searched = lt; taken = at.taken; none_sooner = none; none_before = at.none_before })

-- below a number the two relations are one
abbrev pub Agree : ℕ → (ℕ → List ℕ → Type 0) → (ℕ → List ℕ → Type 0) → Type 0
Agree n X Z = (k : ℕ) → k < n → (is : List ℕ) → X k is ↔ Z k is

share_back : (n : ℕ) (X Y Z W : ℕ → List ℕ → Type 0) (u v : ℕ) (is : List ℕ) → Agree n X Z → Agree n Y W → u < n → v < n → Share X Y u v is → Share Z W u v is
share_back n X Y Z W u v is p q a b s = ((p u a is).0 s.0, (q v b is).0 s.1)

share_forth : (n : ℕ) (X Y Z W : ℕ → List ℕ → Type 0) (u v : ℕ) (is : List ℕ) → Agree n X Z → Agree n Y W → u < n → v < n → Share Z W u v is → Share X Y u v is
share_forth n X Y Z W u v is p q a b s = ((p u a is).1 s.0, (q v b is).1 s.1)

meet_back : (n : ℕ) (X Y Z W : ℕ → List ℕ → Type 0) (u v : ℕ) (is : List ℕ) → Agree n X Z → Agree n Y W → u < n → v < n → Meet X Y u v is → Meet Z W u v is
meet_back n X Y Z W u v is p q a b (inl s) = inl (share_back n X Y Z W u v is p q a b s)
meet_back n X Y Z W u v is p q a b (inr s) = inr (share_back n Y X W Z u v is q p a b s)

taken_forth : (n : ℕ) (X Y Z W : ℕ → List ℕ → Type 0) (u v : ℕ) (is : List ℕ) → Agree n X Z → Agree n Y W → u < n → v < n → IsTaken Z W u v is → IsTaken X Y u v is
taken_forth n X Y Z W u v is p q a b (inl s) = inl (share_forth n X Y Z W u v is p q a b s)
taken_forth n X Y Z W u v is p q a b (inr s) = inr (share_forth n Y X W Z u v is q p a b s.0, λ others t. s.1 others (share_back n X Y Z W u v others p q a b t))

first_forth : (n : ℕ) (X Y Z W : ℕ → List ℕ → Type 0) (u v : ℕ) (is : List ℕ) → Agree n X Z → Agree n Y W → v < n → IsFirst Z W u v is → IsFirst X Y u v is
first_forth n X Y Z W u v is p q lt f =
    let order = f.order in
    let earlier : u < n = omega arith in
    record {
      order = f.order;
      searched = f.searched;
      taken = taken_forth n X Y Z W u v is p q earlier lt f.taken;
      none_sooner = λ i j others a b m. f.none_sooner i j others a b (meet_back n X Y Z W i j others p q (omega arith) (omega arith) m);
      none_before = λ i others a m. f.none_before i others a (meet_back n X Y Z W i v others p q (omega arith) lt m);
    }

-- an iteration at which something is touched is one of the nest
touched_within : (region : NestAt) (access : Access) (k : ℕ) (is : List ℕ) → TouchesAt region access k is → k < length (vectors region.turns)
touched_within region access k is t = slice_get_within (vectors region.turns) k t.vector t.is

later_within : (region : NestAt) (x y : Access) (u v : ℕ) (is : List ℕ) → Meet (TouchesAt region x) (TouchesAt region y) u v is → v < length (vectors region.turns)
later_within region x y u v is (inl s) = touched_within region y v is s.1
later_within region x y u v is (inr s) = touched_within region x v is s.1

-- what is found of a nest
abbrev pub FoundIn : NestAt → Access → Access → Option Meeting → Type 0
FoundIn region x y o = MatchOption o (NeverMeet (TouchesAt region x) (TouchesAt region y)) (λ m. IsFirst (TouchesAt region x) (TouchesAt region y) m.earlier m.later m.indexes.items)

agreed : (region : NestAt) (access : Access) (es : List (Option (Vec ℕ))) (n : ℕ) → length es ≡ n → AreElements region access es → Agree n (TouchesAt region access) (NamesAt es)
agreed region access es n e h k lt is = h k (omega arith) is

pub in_law : (region : NestAt) (x y : Access) (es fs : List (Option (Vec ℕ))) (n : ℕ) (r : Result (Option Meeting) AllocError) → length es ≡ n → length fs ≡ n → AreElements region x es → AreElements region y fs
    → ((k : ℕ) → k < 64 → k < length (vectors region.turns) → k < n)
    → IfOk r (λ o. IfNone o ((u v : ℕ) (is : List ℕ) → u < v → v < n → Meet (NamesAt es) (NamesAt fs) u v is → ⊥))
    → IfOk r (λ o. IfSome o (λ m. m.later < n))
    → IfOk r (λ o. IfSome o (λ m. IsFirst (NamesAt es) (NamesAt fs) m.earlier m.later m.indexes.items))
    → IfOk r (FoundIn region x y)
in_law region x y es fs n (Ok None) le lf p q all never below first = λ u v is order lt m.
    let inside : v < n = all v lt (later_within region x y u v is m) in
    never u v is order inside
    (meet_back n (TouchesAt region x) (TouchesAt region y) (NamesAt es) (NamesAt fs) u v is (agreed region x es n le p) (agreed region y fs n lf q) (omega arith) inside m)
in_law region x y es fs n (Ok (Some m)) le lf p q all never below first =
    first_forth n (TouchesAt region x) (TouchesAt region y) (NamesAt es) (NamesAt fs) m.earlier m.later m.indexes.items (agreed region x es n le p) (agreed region y fs n lf q) below first
in_law region x y es fs n (Err e) le lf p q all never below first = tt

-- a nest is entered in one way alone
same_region : (serial nest : List Canonical) (r s : NestAt) → IsEntered serial nest r → IsEntered serial nest s → r ≡ s
same_region serial nest r s p q =
    let outer : r.outer ≡ s.outer = same_first serial [] r.outer s.outer p.first q.first in
    let loops : r.loops ≡ s.loops = p.loops ∙ sym q.loops in
    let turns : r.turns ≡ s.turns = same_runs nest (given s.outer) r.turns s.turns (subst (λ vs. AreRunsOf nest (given vs) r.turns) outer p.runs) q.runs in
    λ i. record { outer = outer i; loops = loops i; turns = turns i }

abbrev pub NeverIn : List Canonical → List Canonical → Access → Access → Option Meeting → Type 0
NeverIn serial nest x y o = IfNone o ((r : NestAt) → IsEntered serial nest r → IsSpace r.turns → NeverMeet (TouchesAt r x) (TouchesAt r y))

pub never_law : (serial nest : List Canonical) (region : NestAt) (x y : Access) (r : Result (Option Meeting) AllocError) → IsEntered serial nest region → IfOk r (FoundIn region x y) → IfOk r (NeverIn serial nest x y)
never_law serial nest region x y (Ok None) entered h = λ s p is. subst (λ (t : NestAt). NeverMeet (TouchesAt t x) (TouchesAt t y)) (same_region serial nest region s entered p) h
never_law serial nest region x y (Ok (Some m)) entered h = tt
never_law serial nest region x y (Err e) entered h = tt

-- where there is no space
pub no_space_law : (serial nest : List Canonical) (outer : List Value) → FirstTurns serial [] outer → AreModest outer
    → ((ts : List Turns) → AreModest outer → AreRunsOf nest (given outer) ts → IsSpace ts → ⊥) → (r : NestAt) → IsEntered serial nest r → IsSpace r.turns → ⊥
no_space_law serial nest outer first modest none r p is =
    none r.turns modest (subst (λ vs. AreRunsOf nest (given vs) r.turns) (same_first serial [] r.outer outer p.first first) p.runs) is
