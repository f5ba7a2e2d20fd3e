-- Lists of names and of variables, one after another.
use Rattle.std.specs.Prelude.{Bool, true, false, not, ◌==◌, ◌&&◌, ◌||◌, ◌≡◌, List, [], ◌∷◌, ◌++◌, map, flat_map, if◌then◌else◌, Some, is_none}
use Rattle.std.specs.List.{list_all}
use Rattle.std.proofs.Common.{refl, sym, ap, ◌∙◌}
use Rattle.std.proofs.Math.Path.{fun_ext}
use Rattle.std.proofs.lemmas.Bool.{true≢false, eqb-true, eq-eqb, or_right}
use Rattle.std.proofs.lemmas.List.{map-append}
use Rattle.semantics.specs.Tree.{Variable}
use Rattle.semantics.specs.Directives.Directive as meant
use Rattle.semantics.specs.Directives.Directive.{Clause}
use Rattle.semantics.specs.Directives.Clauses.{reduction_of, inscan_of}
use Rattle.semantics.specs.Loops.Operator.{ReduceOp}
use Rattle.semantics.specs.Meaning.Agrees.{is_among}
use Rattle.semantics.proofs.EraseTokenLaw.{first_of, second_of}
use Rattle.law_roles.specs.Updates.{operator_of, is_plain}
use Rattle.law_roles.specs.Sharing.{assigned_first, role_variables}
use Rattle.flow.specs.Private.{all_but}
use Rattle.flow.specs.Roles.{LoopData, left_roles}
use Rattle.flow.proofs.PrivateLemmas.{among_both}

-- ---- all of a list

pub all_known : (k : Variable → Bool) (xs : List Variable) (x : Variable) → list_all k xs ≡ true → is_among xs x ≡ true → k x ≡ true
all_known k [] x all h = absurd (true≢false (sym h))
all_known k (y ∷ ys) x all h = go (y == x) refl h (all_known k ys x (second_of (k y) (list_all k ys) all))
  where
    go : (b : Bool) → (y == x) ≡ b → (b || is_among ys x) ≡ true → (is_among ys x ≡ true → k x ≡ true) → k x ≡ true
    go true same h rest = ap k (sym (eqb-true y x same)) ∙ first_of (k y) (list_all k ys) all
    go false same h rest = rest h

pub known_all : (k : Variable → Bool) (xs : List Variable) → ((x : Variable) → is_among xs x ≡ true → k x ≡ true) → list_all k xs ≡ true
known_all k [] h = refl
known_all k (y ∷ ys) h =
    ap (λ b. b && list_all k ys) (h y (ap (λ b. b || is_among ys y) (eq-eqb y y refl))) ∙ known_all k ys (λ x among. h x (or_right (y == x) (is_among ys x) among))

-- ---- lists that share no variable

turned : (xs ys : List Variable) → list_all (all_but xs) ys ≡ true → list_all (all_but ys) xs ≡ true
turned xs ys all = known_all (all_but ys) xs (λ x among. go x among (is_among ys x) refl)
  where
    go : (x : Variable) → is_among xs x ≡ true → (b : Bool) → is_among ys x ≡ b → not (is_among ys x) ≡ true
    go x among true is = absurd (true≢false (sym (all_known (all_but xs) ys x all is) ∙ ap not among))
    go x among false is = ap not is

same_truth : (a b : Bool) → (a ≡ true → b ≡ true) → (b ≡ true → a ≡ true) → a ≡ b
same_truth true b there back = sym (there refl)
same_truth false true there back = back refl
same_truth false false there back = refl

plain_among : (rs : List (Variable × ReduceOp)) (x : Variable) → is_plain rs x ≡ all_but (map (λ r. r.0) rs) x
plain_among [] x = refl
plain_among (r ∷ rs) x = go (r.0 == x) (plain_among rs x)
  where
    go : (b : Bool) → is_plain rs x ≡ all_but (map (λ r. r.0) rs) x → is_none (if b then Some r.1 else operator_of rs x) ≡ not (b || is_among (map (λ r. r.0) rs) x)
    go true rest = refl
    go false rest = rest

-- no reduction variable is among these, seen from either side
pub apart_same : (rs : List (Variable × ReduceOp)) (xs : List Variable) → list_all (all_but xs) (map (λ r. r.0) rs) ≡ list_all (is_plain rs) xs
apart_same rs xs =
    let ys = map (λ r. r.0) rs in
    same_truth (list_all (all_but xs) ys) (list_all (all_but ys) xs) (turned xs ys) (turned ys xs) ∙ ap (λ p. list_all p xs) (sym (fun_ext (plain_among rs)))

-- ---- reductions

firsts_of : (op : ReduceOp) (xs : List Variable) → map (λ r. r.0) (map {B = Variable × ReduceOp} (λ x. (x, op)) xs) ≡ xs
firsts_of op [] = refl
firsts_of op (x ∷ xs) = ap (λ ys. x ∷ ys) (firsts_of op xs)

-- the variables of a reduction clause
pub reduced_names : (op : ReduceOp) (xs : List Variable) → xs ≡ map (λ r. r.0) (reduction_of (meant.Reduction op xs))
reduced_names op xs = sym (firsts_of op xs)

-- those of all clauses
pub reduced_among : (cs : List (Clause Variable)) → flat_map (λ c. map (λ r. r.0) (reduction_of c)) cs ≡ map (λ r. r.0) (flat_map reduction_of cs)
reduced_among [] = refl
reduced_among (c ∷ cs) = ap (λ ys. map (λ r. r.0) (reduction_of c) ++ ys) (reduced_among cs) ∙ sym (map-append (λ r. r.0) (reduction_of c) (flat_map reduction_of cs))

-- ---- scans

pub scanned_among : (cs : List (Clause Variable)) → flat_map (λ c. map (λ r. r.0) (inscan_of c)) cs ≡ map (λ r. r.0) (flat_map inscan_of cs)
scanned_among [] = refl
scanned_among (c ∷ cs) = ap (λ ys. map (λ r. r.0) (inscan_of c) ++ ys) (scanned_among cs) ∙ sym (map-append (λ r. r.0) (inscan_of c) (flat_map inscan_of cs))

-- the variables with a role, and those that are carried
pub left_among : (d : LoopData) (x : Variable) → is_among (role_variables (left_roles d)) x ≡ (is_among (role_variables d.roles) x || is_among (map (λ r. r.0) d.carried) x)
left_among d x =
    let firsts = assigned_first d.roles in
    let reduced = map (λ r. r.0) d.roles.reductions in
    let carried = map (λ r. r.0) d.carried in
    among_both firsts (map (λ r. r.0) (d.roles.reductions ++ d.carried)) x
    ∙ ap (λ b. is_among firsts x || b) (ap (λ ys. is_among ys x) (map-append (λ r. r.0) d.roles.reductions d.carried) ∙ among_both reduced carried x)
    ∙ grouped (is_among firsts x) (is_among reduced x) (is_among carried x)
    ∙ sym (ap (λ b. b || is_among carried x) (among_both firsts reduced x))
  where
    grouped : (a b c : Bool) → (a || (b || c)) ≡ ((a || b) || c)
    grouped true b c = refl
    grouped false b c = refl
